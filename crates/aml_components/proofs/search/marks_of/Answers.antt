use Rattle.std.proofs.Common.{arith}
use Rattle.aml_calls.specs.Pairs.{calls_in, numbers}
use Rattle.aml_calls.proofs.Places.{callee_named}
use Rattle.aml_components.proofs.Found.{found}
use Rattle.aml_components.proofs.search.marks_of.Goals as goal

pub numbers-init : goal.numbers-init
numbers-init c =
    let ps = c.args.calls.now.pairs.now in
    let s = c.in_ok-search.search in
    record {
      searches = c.in_ok-search.ensures.searches (calls_in ps)
          (λ k j e. c.requires.room j (callee_named ps k j e));
      ended = c.in_ok-search.ensures.ended;
      sized = omega (arith, c.in_ok-search.ensures.sized, s.marks.ok.0);
      begun = λ k lt. absurd (omega (arith, lt));
    }

pub returns : goal.returns
returns c =
    let s = c.numbers.search in
    let known = c.numbers.invariant in
    found (calls_in c.args.calls.now.pairs.now) c.args.room s.marks.items
    (numbers s.opened.items) s.roots.items s.waiting.items s.closed known.ended known.searches
    (λ k lt. known.begun k (omega (arith, lt, c.numbers-test.false)))
