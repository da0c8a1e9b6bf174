use Rattle.std.proofs.Common.{◌≡◌, ℕ, List, ◌++◌, drop, map}
use Rattle.aml_signatures.specs.Text.{AreNames}
use Rattle.aml_signatures.proofs.words.kinds_named.Given as goal

-- the words before this one name the kinds so far
abbrev pub invariant-loop-word : goal.invariant-loop-word
invariant-loop-word l =
    (before : List (List ℕ)) × (map (λ w. w.now) l.words ≡ before ++ map (λ w. w.now) (drop l.word-index l.words)) × AreNames before l.kinds.items
