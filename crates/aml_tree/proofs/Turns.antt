-- One more term of a list, and a term without parts.
use Rattle.std.proofs.Common.{◌≡◌, ℕ, zero, suc, ◌+◌, ◌-◌, ◌≤◌, ◌<◌, List, [], ◌∷◌, ◌++◌, length, Result, Ok, refl, arith}
use Rattle.std.specs.Prelude.{◌==◌, nat_lt, true}
use Rattle.std.proofs.lemmas.Bool.{eqb-true, lt-ltb}
use Rattle.aml_operators.specs.declared.op.Op.{Op}
use Rattle.aml_operators.specs.declared.row.Letter.{Letter}
use Rattle.aml_operators.specs.declared.row.Spot.{Spot}
use Rattle.aml_operators.specs.declared.row.Spot.TheVariants as spot
use Rattle.aml_operators.specs.Table.{letters_of}
use Rattle.aml_operators.specs.Tree.{Tree, Node, none, stop_of}
use Rattle.aml_lex.specs.NameStrings.{NameString}
use Rattle.aml_tree.specs.declared.fault.Refusal.{Refusal}
use Rattle.aml_tree.specs.Opening.{Operator}
use Rattle.aml_tree.specs.Reading.{form_at, parts_at, terms_until, terms_counted, item_at, items_until}

module _ (arity : NameString → ℕ → ℕ) (below : ℕ → Spot → List ℕ → ℕ → Result Tree Refusal) where
  pub until_on : (own : ℕ) (s : Spot) (bytes : List ℕ) (n : ℕ) (front : List Tree) (at : ℕ) (t : Tree) (whole : Result (List Tree × ℕ) Refusal) → at < length bytes → length bytes ≤ at + n → at < stop_of t → below own s bytes at ≡ Ok t → whole ≡ terms_until arity below own s bytes n front at → (m : ℕ) × (length bytes ≤ stop_of t + m) × (whole ≡ terms_until arity below own s bytes m (front ++ t ∷ []) (stop_of t))
  until_on own s bytes zero front at t whole lt le ahead is e = absurd (omega arith)
  until_on own s bytes (suc m) front at t whole lt le ahead is e =
      let test : nat_lt at (length bytes) ≡ true = lt-ltb at (length bytes) lt in
      (m, omega arith, rw (test, is) at e)

  pub items_on : (own : ℕ) (bytes : List ℕ) (n : ℕ) (front : List Tree) (at : ℕ) (t : Tree) (whole : Result (List Tree × ℕ) Refusal) → at < length bytes → length bytes ≤ at + n → at < stop_of t → item_at arity below own bytes at ≡ Ok t → whole ≡ items_until arity below own bytes n front at → (m : ℕ) × (length bytes ≤ stop_of t + m) × (whole ≡ items_until arity below own bytes m (front ++ t ∷ []) (stop_of t))
  items_on own bytes zero front at t whole lt le ahead is e = absurd (omega arith)
  items_on own bytes (suc m) front at t whole lt le ahead is e =
      let test : nat_lt at (length bytes) ≡ true = lt-ltb at (length bytes) lt in
      (m, omega arith, rw (test, is) at e)

  pub counted_on : (own : ℕ) (bytes : List ℕ) (n : ℕ) (front : List Tree) (at : ℕ) (t : Tree) → 0 < n → below own spot.Term bytes at ≡ Ok t → terms_counted arity below own bytes n front at ≡ terms_counted arity below own bytes (n - 1) (front ++ t ∷ []) (stop_of t)
  counted_on own bytes zero front at t lt e = absurd (omega arith)
  counted_on own bytes (suc m) front at t lt e = let p : suc m - 1 ≡ m = omega arith in rw (p, e)

  no_letters : (ls : List Letter) (own : ℕ) (bytes : List ℕ) (at : ℕ) → (length ls == 0) ≡ true → parts_at arity below ls own bytes [] at ≡ Ok ([], at)
  unfolding parts_at
  no_letters [] own bytes at e = refl
  no_letters (l ∷ ls) own bytes at e = let none_left = eqb-true (length (l ∷ ls)) 0 e in absurd (omega (arith, none_left))

  -- an operator without letters ends behind its opcode
  pub bare_form : (o : Op) (bytes : List ℕ) (at next : ℕ) → (length (letters_of o) == 0) ≡ true → form_at arity below (Operator o next) bytes at ≡ Ok (Node o at next none)
  unfolding form_at
  bare_form o bytes at next e = rw (no_letters (letters_of o) at bytes next e)
