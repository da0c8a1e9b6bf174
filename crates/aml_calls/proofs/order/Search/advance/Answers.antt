use Rattle.std.proofs.Common.{◌≡◌, ◌∙◌, ℕ, List, true, false, sym, subst, arith}
use Rattle.aml_calls.specs.declared.order.Mark.{Mark}
use Rattle.aml_calls.specs.Chains.{is_among}
use Rattle.aml_calls.specs.Pairs.{calls_in, named, numbers}
use Rattle.aml_calls.specs.Search.{is_placed, mark_at}
use Rattle.aml_calls.proofs.GoingOn.{all_there, called_at, none_behind, numbered_at, on_ok, passed_here, passed_known, placed_there}
use Rattle.aml_calls.proofs.Places.{callee_named}
use Rattle.aml_calls.proofs.Searching.{below_last}
use Rattle.aml_calls.proofs.order.Search.advance.Goals as goal

pub index-requires : goal.index-requires
index-requires c =
    let ps = c.args.calls.now.pairs.now in
    let old = c.args.self.now in
    let s = c.requires.searches in
    let lt = below_last (calls_in ps) (named ps) old.marks.items old.passed.items (numbers old.ordered.items) (numbers old.path.items) c.args.method.0 s in
    omega (arith, lt, s.sized, old.passed.ok.0)

pub enter-requires-clause-method : goal.enter-requires-clause-method
enter-requires-clause-method c =
    let ps = c.args.calls.now.pairs.now in
    let old = c.args.self.now in
    let s = c.requires.searches in
    let lt = below_last (calls_in ps) (named ps) old.marks.items old.passed.items (numbers old.ordered.items) (numbers old.path.items) c.args.method.0 s in
    omega (arith, lt, s.sized, old.passed.ok.0)

pub enter-requires-clause-callee : goal.enter-requires-clause-callee
enter-requires-clause-callee c =
    let ps = c.args.calls.now.pairs.now in
    let old = c.args.self.now in
    let s = c.requires.searches in
    let callee = c.in-Some.callee.0 in
    let called = subst (λ (ks : List ℕ). is_among callee ks ≡ true) c.of-row.ensures (called_at c.of-row.result.now c.passed_of-passed.result c.in-Some.callee (sym c.callee_at.ensures ∙ c.in-Some.is)) in
    let lt = s.room callee (callee_named ps c.args.method.0 callee called) in
    omega (arith, lt, old.marks.ok.0)

pub place-requires : goal.place-requires
place-requires c =
    let ps = c.args.calls.now.pairs.now in
    let old = c.args.self.now in
    let lt = below_last (calls_in ps) (named ps) old.marks.items old.passed.items (numbers old.ordered.items) (numbers old.path.items) c.args.method.0 c.requires.searches in
    omega (arith, lt, old.marks.ok.0)

pub returns-in-Some : goal.returns-in-Some
returns-in-Some c =
    let ps = c.args.calls.now.pairs.now in
    let old = c.args.self.now in
    let s = c.requires.searches in
    let m = c.args.method.0 in
    let callee = c.in-Some.callee.0 in
    let row = c.of-row.result.now in
    let there = sym c.callee_at.ensures ∙ c.in-Some.is in
    let called = subst (λ (ks : List ℕ). is_among callee ks ≡ true) c.of-row.ensures (called_at row c.passed_of-passed.result c.in-Some.callee there) in
    let unplaced = subst (λ (ms : List Mark). is_placed (mark_at ms callee) ≡ false) c.deref.ensures.value (c.passed_of-passed.ensures.next callee (numbered_at row c.passed_of-passed.result c.in-Some.callee there)) in
    let lt = below_last (calls_in ps) (named ps) old.marks.items old.passed.items (numbers old.ordered.items) (numbers old.path.items) m s in
    let known = passed_known old.marks.items c.deref.result.now row (calls_in ps m) old.passed.items m c.index.result.now c.deref.ensures.value c.of-row.ensures c.index.ensures (omega (arith, lt, s.sized)) (s.passes m) in
    let full = placed_there old.marks.items c.deref.result.now row (calls_in ps m) c.passed_of-passed.result c.deref.ensures.value c.of-row.ensures (c.passed_of-passed.ensures.passed known) in
    on_ok c.enter.result _ _ c.enter.ensures (λ h. h (calls_in ps) (named ps) s called (callee_named ps m callee called) unplaced full)

pub returns-in-None : goal.returns-in-None
returns-in-None c =
    let ps = c.args.calls.now.pairs.now in
    let old = c.args.self.now in
    let s = c.requires.searches in
    let m = c.args.method.0 in
    let row = c.of-row.result.now in
    let lt = below_last (calls_in ps) (named ps) old.marks.items old.passed.items (numbers old.ordered.items) (numbers old.path.items) m s in
    let known = passed_known old.marks.items c.deref.result.now row (calls_in ps m) old.passed.items m c.index.result.now c.deref.ensures.value c.of-row.ensures c.index.ensures (omega (arith, lt, s.sized)) (s.passes m) in
    let le = none_behind row c.passed_of-passed.result (sym c.callee_at.ensures ∙ c.in-None.is) in
    let full = all_there old.marks.items c.deref.result.now row (calls_in ps m) c.deref.ensures.value c.of-row.ensures (passed_here c.deref.result.now row c.passed_of-passed.result le (c.passed_of-passed.ensures.passed known)) in
    on_ok c.place.result _ _ c.place.ensures (λ h. h (calls_in ps) (named ps) s full)
