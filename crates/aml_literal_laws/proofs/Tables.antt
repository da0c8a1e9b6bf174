-- Tables that are made of bytes, one after the other.
use Rattle.std.proofs.Common.{◌≡◌, ℕ, zero, suc, ◌≤◌, ◌<◌, List, [], ◌∷◌, length, get_or, refl, arith, Bor}
use Rattle.std.specs.Prelude.{Bool, true, false, nat_lt}
use Rattle.std.proofs.lemmas.Bool.{ltb-true, ltb-false}
use Rattle.aml_namespace.specs.Bodies.{bytes_of}
use Rattle.aml_namespace.specs.Shows.{bytes_in}
use Rattle.aml_judged.specs.Safe.{AreBytes}
use Rattle.aml_literal_laws.specs.Laws.{TablesAreBytes}

pub item_bytes : (tables : List (Bor (List ℕ))) (i : ℕ) (d : Bor (List ℕ)) → i < length tables → AreBytes (get_or tables i d).now → AreBytes (bytes_of (bytes_in tables) i)
item_bytes [] i d lt h = absurd (omega arith)
item_bytes (t ∷ ts) zero d lt h = h
item_bytes (t ∷ ts) (suc i) d lt h = item_bytes ts i d (omega arith) h

-- none stands past the last
past_bytes : (tables : List (Bor (List ℕ))) (i : ℕ) → length tables ≤ i → AreBytes (bytes_of (bytes_in tables) i)
past_bytes [] i le = tt
past_bytes (t ∷ ts) zero le = absurd (omega arith)
past_bytes (t ∷ ts) (suc i) le = past_bytes ts i (omega arith)

pub all_bytes : (tables : List (Bor (List ℕ))) (n : ℕ) → length tables ≤ n → ((k : ℕ) → k < n → AreBytes (bytes_of (bytes_in tables) k)) → TablesAreBytes (bytes_in tables)
all_bytes tables n le h = record { each = λ k. by k (nat_lt k n) refl }
  where
    by : (k : ℕ) (b : Bool) → nat_lt k n ≡ b → AreBytes (bytes_of (bytes_in tables) k)
    by k true e = h k (ltb-true k n e)
    by k false e = past_bytes tables k (omega (arith, le, ltb-false k n e))
