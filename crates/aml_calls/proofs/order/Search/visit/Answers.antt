use Rattle.std.proofs.Common.{◌∙◌, sym, ap, subst, arith, List}
use Rattle.aml_paths.specs.declared.scope.ObjectId.{ObjectId}
use Rattle.aml_calls.specs.declared.order.Mark.{Mark}
use Rattle.aml_calls.specs.Pairs.{calls_in, named, numbers}
use Rattle.aml_calls.specs.Search.{IsSearch, is_new, mark_at}
use Rattle.aml_calls.proofs.order.Search.visit.Goals as goal

pub begin-requires : goal.begin-requires
begin-requires c = let lt = c.requires.searches.room c.args.method.0 c.requires.method in omega (arith, lt, c.args.self.now.marks.ok.0)

pub search-requires-clause-searches : goal.search-requires-clause-searches
search-requires-clause-searches c =
    let ps = c.args.calls.now.pairs.now in
    let s = c.args.self.now in
    let none = subst (λ (ids : List ObjectId). IsSearch (calls_in ps) (named ps) s.marks.items s.passed.items (numbers ids) (numbers s.ordered.items)) c.requires.ended c.requires.searches in
    let new = sym (c.is_new.ensures ∙ ap (λ (ms : List Mark). is_new (mark_at ms c.args.method.0)) c.deref.ensures.value) ∙ c.if-not-is_new.false in
    let begins = c.in_ok-begin.ensures (calls_in ps) (named ps) none c.requires.ended c.requires.method new in
    begins.searches
