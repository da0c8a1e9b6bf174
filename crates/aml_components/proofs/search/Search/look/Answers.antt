use Rattle.std.proofs.Common.{◌∙◌, List, length, refl, sym, ap, arith}
use Rattle.aml_calls.specs.Pairs.{calls_in, named}
use Rattle.aml_components.specs.declared.search.Mark.{Mark}
use Rattle.aml_components.specs.Search.{mark_at}
use Rattle.aml_components.proofs.Stepping.{called_below, calls_most, look_closed, look_new, look_open}
use Rattle.aml_components.proofs.search.Search.look.Goals as goal

pub begin-requires-clause-method : goal.begin-requires-clause-method
begin-requires-clause-method c =
    let ps = c.args.calls.now.pairs.now in
    let old = c.args.self.now in
    let s = c.requires.searches in
    let below = called_below (calls_in ps) old old (length (named ps)) c.args.call s c.requires.last in
    omega (arith, below, old.marks.ok.0)

pub returns-in_ok-begin-in-New : goal.returns-in_ok-begin-in-New
returns-in_ok-begin-in-New c =
    let ps = c.args.calls.now.pairs.now in
    let seen = ap (λ (ms : List Mark). mark_at ms c.args.call.to.0) c.deref.ensures.value in
    let mark = c.mark_of.ensures ∙ seen in
    look_new (calls_in ps) c.args.self.now c.begin.new.self (length (named ps)) c.args.call
    c.requires.searches c.requires.last (sym mark ∙ c.in-New.is) (calls_most ps c.args.call.to.0)
    c.in_ok-begin-in-New.ensures

pub returns-in-Open : goal.returns-in-Open
returns-in-Open c =
    let ps = c.args.calls.now.pairs.now in
    let seen = ap (λ (ms : List Mark). mark_at ms c.args.call.to.0) c.deref.ensures.value in
    let mark = c.mark_of.ensures ∙ seen in
    look_open (calls_in ps) c.args.self.now _ (length (named ps)) c.args.call c.requires.searches
    c.requires.last c.in-Open.place (sym mark ∙ c.in-Open.is) c.cut.ensures refl refl refl refl

pub returns-in-Closed : goal.returns-in-Closed
returns-in-Closed c =
    let ps = c.args.calls.now.pairs.now in
    let seen = ap (λ (ms : List Mark). mark_at ms c.args.call.to.0) c.deref.ensures.value in
    let mark = c.mark_of.ensures ∙ seen in
    look_closed (calls_in ps) c.args.self.now _ (length (named ps)) c.args.call c.in-Closed.field-0
    c.requires.searches (sym mark ∙ c.in-Closed.is) refl
