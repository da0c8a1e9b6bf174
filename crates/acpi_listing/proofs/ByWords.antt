-- The program by its words.
use Rattle.std.proofs.Common.{◌≡◌, ℕ, List, [], ◌∷◌, Option, Result, Ok, refl, sym, subst, length, map}
use Rattle.std.specs.Prelude.{Vec, String, string_bytes, vec_items}
use Rattle.acpi_text.specs.declared.writing.RunFault.{RunFault}
use Rattle.acpi_listing.specs.Commands.{RunsWords}
use Rattle.acpi_sources.specs.Files.{Answers}
use Rattle.acpi_listing.specs.Program.{RunsByWords, RunsEither}
use Rattle.acpi_sources.specs.declared.fault.Fault.{Fault}
use Rattle.acpi_sources.specs.declared.status.Status.{Status}

by_words : {F X : Type 0} (answers : Answers F) (old new : F) (f : X → List ℕ) (xs : List X) (from held holds : Option (List ℕ)) (r : Result Status RunFault)
    → (length xs ≡ 0 → ⊥) → RunsWords answers (map f xs) old new held holds r → RunsByWords answers old new (map f xs) from from held holds r
by_words answers old new f [] from held holds r some runs = absurd (some refl)
by_words answers old new f (x ∷ xs) from held holds r some runs = (runs, refl)

-- words that there are decide
pub either_by_words : {F B : Type 0} (answers : Answers F) (old new : F) (words : Result (Vec (String B) B) Fault) (v : Vec (String B) B) (lent : List (String B)) (from held holds : Option (List ℕ)) (r : Result Status RunFault)
    → words ≡ Ok v → lent ≡ vec_items v → (length (vec_items v) ≡ 0 → ⊥) → RunsWords answers (map string_bytes lent) old new held holds r
    → RunsEither answers old new words from from held holds r
either_by_words answers old new words v lent from held holds r is same some runs =
    subst (λ w. RunsEither answers old new w from from held holds r) (sym is)
    (by_words answers old new string_bytes (vec_items v) from held holds r some (subst (λ l. RunsWords answers (map string_bytes l) old new held holds r) same runs))
