use Rattle.std.proofs.Common.{Vec, ◌≡◌, ℕ, List, true, length, subst, arith}
use Rattle.std.specs.declared.alloc.Global.{Global}
use Rattle.aml_components.specs.declared.search.Call.{Call}
use Rattle.aml_components.specs.Search.{Closes}
use Rattle.aml_calls.specs.Chains.{is_among}
use Rattle.aml_calls.specs.Pairs.{calls_in, named, numbers}
use Rattle.aml_calls.proofs.Among.{among_last}
use Rattle.aml_calls.proofs.GoingOn.{length_numbers, on_ok}
use Rattle.aml_components.proofs.Marking.{open_inside}
use Rattle.aml_components.proofs.Rising.{at_most_last, stands_at}
use Rattle.aml_components.proofs.Stepping.{closes}
use Rattle.aml_components.proofs.search.Search.step.Goals as goal

pub look-requires-clause-last : goal.look-requires-clause-last
look-requires-clause-last c = λ r e.
    let roots = c.args.self.now.roots.items in
    let le = at_most_last roots c.args.root r c.requires.searches.rising
    (subst (λ (ks : List ℕ). is_among r ks ≡ true) c.in_ok-push-in-Some.ensures.items e) in
    omega (arith, le, c.in-Some.ensures.1)

pub close-requires-clause-root : goal.close-requires-clause-root
close-requires-clause-root c =
    let old = c.args.self.now in
    let le = c.requires.searches.within c.args.root (among_last c.args.root old.roots.items) in
    omega (arith, le, length_numbers old.opened.items, old.opened.ok.0)

pub close-requires-clause-marks : goal.close-requires-clause-marks
close-requires-clause-marks c = λ k e.
    let old = c.args.self.now in
    let at = stands_at (numbers old.opened.items) k e in
    let mark = c.requires.searches.marked k at.place at.at in
    let below = open_inside old.marks.items k at.place mark in
    omega (arith, below, old.marks.ok.0)

pub returns-in-None : goal.returns-in-None
returns-in-None c =
    let ps = c.args.calls.now.pairs.now in
    let old = c.args.self.now in
    let same = λ (w : Vec Call Global). Closes c.args.root (record {
      marks = old.marks;
      opened = old.opened;
      roots = old.roots;
      waiting = w;
      closed = old.closed;
    }) c.close.new.self in
    on_ok c.close.result _ _ c.close.ensures
    (λ h. closes (calls_in ps) old c.close.new.self (length (named ps)) c.args.root
    c.requires.searches c.in-None.ensures.1 (subst same c.in-None.ensures.0 h))
