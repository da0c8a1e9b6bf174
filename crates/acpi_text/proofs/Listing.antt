-- Laws of what a listing leaves in its writer.
use Rattle.std.specs.Prelude.{IsErr}
use Rattle.std.proofs.Common.{◌≡◌, ℕ, List, [], ◌++◌, Option, Result, Ok, Err, sym, ap, ◌∙◌, append_assoc, take, drop, take-append-drop}
use Rattle.std.specs.Io.KnownBytes.{Appends}
use Rattle.std.proofs.KnownBytes.{Appends-nil, Appends-trans}
use Rattle.acpi_text.specs.Lists.{Lists}

-- a part of a text was appended, and this is left of it
pub record Listed (whole left : List ℕ) (old new : Option (List ℕ)) : Type 0 where
  pub done : List ℕ
  pub parted : whole ≡ done ++ left
  pub appended : Appends old new done

-- as yet nothing was
pub none_listed : {whole left : List ℕ} {a : Option (List ℕ)} → whole ≡ left → Listed whole left a a
none_listed {a = a} is = record { done = []; parted = is; appended = Appends-nil a }

-- a text more was
pub more_listed : {whole rest : List ℕ} {a b c : Option (List ℕ)} (text more : List ℕ)
    → rest ≡ text ++ more → Listed whole rest a b → Appends b c text → Listed whole more a c
more_listed {a = a} {b = b} {c = c} text more begins before now = record {
  done = before.done ++ text;
  parted = before.parted ∙ ap (λ left. before.done ++ left) begins ∙ sym (append_assoc before.done text more);
  appended = Appends-trans a b c before.done text before.appended now;
}

-- n bytes more of the rest were
pub took : {whole rest : List ℕ} {a b c : Option (List ℕ)} (n : ℕ) (more : List ℕ)
    → Listed whole rest a b → Appends b c (take n rest) → more ≡ drop n rest → Listed whole more a c
took {rest = rest} n more before now is = more_listed (take n rest) more (sym (take-append-drop n rest) ∙ ap (λ r. take n rest ++ r) (sym is)) before now

-- a text and then another
pub lists_then : {V E : Type 0} (r : Result V E) (a b c : Option (List ℕ)) (first second : List ℕ)
    → Appends a b first → Lists r b c second → Lists r a c (first ++ second)
lists_then (Ok v) a b c first second p q = Appends-trans a b c first second p q
lists_then (Err e) a b c first second p (front, rest, is, q) = (
  first ++ front,
  rest,
  ap (λ t. first ++ t) is ∙ sym (append_assoc first front rest),
  Appends-trans a b c first front p q,
)

-- a listing that failed behind what was listed: the text that failed is followed by no more
pub stopped : (V : Type 0) {E : Type 0} (r : Result V E) (a b c : Option (List ℕ)) (done text more whole : List ℕ)
    → IsErr r → Appends a b done → ((front : List ℕ) × (rest : List ℕ) × (text ≡ front ++ rest) × Appends b c front)
    → whole ≡ done ++ (text ++ more) → Lists r a c whole
stopped V (Ok v) a b c done text more whole h p q is = absurd (cc)
stopped V (Err e) a b c done text more whole h p (front, rest, split, q) is = (
  done ++ front,
  rest ++ more,
  is ∙ ap (λ t. done ++ (t ++ more)) split ∙ ap (λ t. done ++ t) (append_assoc front rest more) ∙ sym (append_assoc done front (rest ++ more)),
  Appends-trans a b c done front p q,
)

-- the same, where the text that failed begins what was left
pub stopped_listed : {V E : Type 0} {whole rest : List ℕ} {a b : Option (List ℕ)} (r : Result V E) (c : Option (List ℕ)) (text more : List ℕ)
    → IsErr r → rest ≡ text ++ more → Listed whole rest a b
    → ((front : List ℕ) × (left : List ℕ) × (text ≡ front ++ left) × Appends b c front) → Lists r a c whole
stopped_listed {V = V} {whole = whole} {a = a} {b = b} r c text more fails begins before now =
    stopped V r a b c before.done text more whole fails before.appended now (before.parted ∙ ap (λ left. before.done ++ left) begins)
