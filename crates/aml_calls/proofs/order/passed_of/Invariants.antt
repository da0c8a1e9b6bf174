use Rattle.std.proofs.Common.{◌≡◌, ◌-◌, length, take, true}
use Rattle.aml_calls.specs.Pairs.{numbers}
use Rattle.aml_calls.specs.Search.{all_placed}
use Rattle.aml_calls.proofs.order.passed_of.Given as goal

-- all so far stand in the order, where those stand there that are known to
abbrev pub invariant-row : goal.invariant-row
invariant-row l = all_placed l.marks (take l.known (numbers l.row)) ≡ true → all_placed l.marks (take l.at (numbers l.row)) ≡ true

abbrev pub decreases-row : goal.decreases-row
decreases-row l = length l.row - l.at
