-- Iterators whose items are printed one after the other.
use Rattle.std.specs.Prelude.{◌≡◌, ℕ, List, [], ◌++◌, Option, Some, None, MatchOption}
use Rattle.std.specs.Iterator.{YieldsFirst}
use Rattle.std.specs.List.{flat_map}
use Rattle.std.specs.Slice.Iter.{iter_rest, iter_steps}
use Rattle.std.proofs.Common.{ap}
use Rattle.std.proofs.lemmas.List.{nil_from_length}

-- what is left begins with the text of the item that comes, and is no text where none comes
abbrev pub BeginsWithNext : {S A : Type 0} → (S → Option A → S → Type 0) → (A → List ℕ) →
    (S → List ℕ) → Type 0
BeginsWithNext {S} {A} steps text left =
    (old : S) (item : Option A) (new : S) → steps old item new
    → MatchOption item (left old ≡ []) (λ item. left old ≡ text item ++ left new)

-- so it is with an iterator that shows the items that it has left
pub shown : {S A : Type 0} (rest : S → List A) (text : A → List ℕ) →
    BeginsWithNext (YieldsFirst rest) text (λ s. flat_map text (rest s))
shown rest text old None new gave = ap (flat_map text) gave.0
shown rest text old (Some x) new gave = ap (flat_map text) gave

-- and with one over a slice, which lends its items
pub lent : {A : Type 0} (text : A → List ℕ) →
    BeginsWithNext iter_steps (λ item. text item.now) (λ s. flat_map text (iter_rest s))
lent text old None new gave = ap (flat_map text) (nil_from_length (iter_rest old) gave.0)
lent text old (Some x) new gave = ap (flat_map text) gave
