use Rattle.std.proofs.Common.{◌∙◌, List, sym, ap, arith}
use Rattle.aml_calls.specs.Pairs.{calls_in}
use Rattle.aml_components.specs.declared.search.Mark.{Mark}
use Rattle.aml_components.specs.Search.{is_new, mark_at}
use Rattle.aml_components.proofs.Visiting.{visit_begun, visited}
use Rattle.aml_components.proofs.search.Search.visit.Goals as goal

pub search-requires-clause-searches : goal.search-requires-clause-searches
search-requires-clause-searches c =
    let old = c.args.self.now in
    let m = c.args.method.0 in
    let seen = ap (λ (ms : List Mark). is_new (mark_at ms m)) c.deref.ensures.value in
    let new = sym seen ∙ sym c.is_new.ensures ∙ c.if-is_new.true in
    (visit_begun (calls_in c.args.calls.now.pairs.now) old c.begin.new.self m
    c.requires.searches c.requires.ended new (omega (arith, c.requires.method, old.marks.ok.0))
    c.in_ok-begin.ensures).searches

pub returns-in_ok-search : goal.returns-in_ok-search
returns-in_ok-search c =
    let old = c.args.self.now in
    let m = c.args.method.0 in
    let seen = ap (λ (ms : List Mark). is_new (mark_at ms m)) c.deref.ensures.value in
    let new = sym seen ∙ sym c.is_new.ensures ∙ c.if-is_new.true in
    visited (calls_in c.args.calls.now.pairs.now) old c.begin.new.self c.search.new.self m
    (visit_begun (calls_in c.args.calls.now.pairs.now) old c.begin.new.self m
    c.requires.searches c.requires.ended new (omega (arith, c.requires.method, old.marks.ok.0))
    c.in_ok-begin.ensures)
    c.in_ok-search.ensures
