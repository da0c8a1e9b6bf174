use Rattle.std.proofs.Common.{◌≡◌, ℕ, ◌≤◌, ◌+◌, ◌-◌, length, List, []}
use Rattle.aml_lex.specs.declared.names.NameSeg.{NameSeg}
use Rattle.aml_tree.specs.Body.{body_until, trees_of}
use Rattle.aml_tree.specs.Owns.{Keeps}
use Rattle.aml_tree.proofs.body.read_statements.Given as goal

abbrev pub decreases-loop-at : goal.decreases-loop-at
decreases-loop-at g l = length l.bytes - l.at

-- what is read and what is left are the whole
abbrev pub invariant-loop-at : goal.invariant-loop-at
invariant-loop-at g l =
    let counts = g.A.Arity.counts l.arity in
    (n : ℕ) × (names : List NameSeg) × Keeps l.owns names × (length l.bytes ≤ l.at + n)
    × (body_until counts l.bytes (length l.bytes) [] [] l.fn.start ≡ body_until counts l.bytes n names (trees_of l.statements) l.at)
