use Rattle.std.proofs.Common.{◌∙◌, ℕ, List, sym, ap, subst, arith}
use Rattle.aml_paths.specs.declared.scope.ObjectId.{ObjectId}
use Rattle.aml_calls.specs.Pairs.{calls_in, named, numbers}
use Rattle.aml_calls.specs.Search.{IsSearch}
use Rattle.aml_calls.proofs.GoingOn.{empty_of, less_left, numbers_push}
use Rattle.aml_calls.proofs.Searching.{keeps_same, keeps_then}
use Rattle.aml_calls.proofs.order.Search.search.Goals as goal

pub path-init : goal.path-init
path-init c = record { searches = c.requires.searches; keeps = keeps_same c.args.self.now.marks.items }

pub advance-requires-clause-searches : goal.advance-requires-clause-searches
advance-requires-clause-searches c =
    let ps = c.args.calls.now.pairs.now in
    let s = c.path.self in
    subst (λ (ks : List ℕ). IsSearch (calls_in ps) (named ps) s.marks.items s.passed.items ks (numbers s.ordered.items)) (ap numbers c.in-Some.ensures.items ∙ numbers_push c.pop.new.self.items c.in-Some.last) c.path.invariant.searches

pub path-preserved : goal.path-preserved
path-preserved c = record {
  searches = c.in_ok-advance.ensures.searches;
  keeps = keeps_then _ _ _ c.path.invariant.keeps c.in_ok-advance.ensures.keeps;
}

pub path-smaller : goal.path-smaller
path-smaller c = less_left c.path.self.marks.items c.advance.new.self.marks.items c.path.self.path.items c.pop.new.self.items c.advance.new.self.path.items c.in-Some.last c.in-Some.ensures.items c.in_ok-advance.ensures.less

pub returns : goal.returns
returns c =
    let ps = c.args.calls.now.pairs.now in
    let s = c.path.self in
    let ended = empty_of c.pop.new.self.items (omega (arith, c.in_default.ensures.cases.1, c.pop.new.self.ok.0)) in
    let was = empty_of s.path.items (omega (arith, c.in_default.ensures.cases.0, s.path.ok.0)) in
    record {
      searches = subst (λ (ids : List ObjectId). IsSearch (calls_in ps) (named ps) s.marks.items s.passed.items (numbers ids) (numbers s.ordered.items)) (was ∙ sym ended) c.path.invariant.searches;
      keeps = c.path.invariant.keeps;
      ended = ended;
    }
