use Rattle.std.proofs.Common.{◌≡◌, ◌∙◌, ℕ, List, true, ap, subst, arith}
use Rattle.aml_paths.specs.declared.scope.ObjectId.{ObjectId}
use Rattle.aml_calls.specs.Chains.{is_among}
use Rattle.aml_calls.specs.Pairs.{calls_in, named, numbers}
use Rattle.aml_calls.specs.Spread.{IsSpread, Looked}
use Rattle.aml_calls.proofs.GoingOn.{empty_of, numbers_push}
use Rattle.aml_calls.proofs.Places.{callee_named}
use Rattle.aml_calls.proofs.Spreading.{less_work, spread_on}
use Rattle.aml_calls.proofs.reach.Spread.spread.Goals as goal

pub waiting-init : goal.waiting-init
waiting-init c = c.requires.spreads

pub look-requires : goal.look-requires
look-requires c = λ j e.
    let ps = c.args.calls.now.pairs.now in
    let below = c.waiting.invariant.room j (callee_named ps c.in-Some.method.0 j (subst (λ (ks : List ℕ). is_among j ks ≡ true) c.of.ensures e)) in
    omega (arith, below, c.waiting.self.seen.ok.0)

pub waiting-preserved : goal.waiting-preserved
waiting-preserved c =
    let ps = c.args.calls.now.pairs.now in
    let s = c.waiting.self in
    spread_on (calls_in ps) (named ps) c.args.from.0 s.seen.items (numbers c.pop.new.self.items) c.in-Some.method.0 c.look.new.self.seen.items (numbers c.look.new.self.waiting.items)
    (subst (λ (ks : List ℕ). IsSpread (calls_in ps) (named ps) c.args.from.0 s.seen.items ks) (ap numbers c.in-Some.ensures.items ∙ numbers_push c.pop.new.self.items c.in-Some.method) c.waiting.invariant)
    (subst (λ (ks : List ℕ). Looked ks s.seen.items (numbers c.pop.new.self.items) c.look.new.self.seen.items (numbers c.look.new.self.waiting.items)) c.of.ensures c.in_ok-look.ensures)

pub waiting-smaller : goal.waiting-smaller
waiting-smaller c = less_work c.waiting.self.seen.items c.look.new.self.seen.items c.waiting.self.waiting.items c.pop.new.self.items c.look.new.self.waiting.items c.in-Some.method c.in-Some.ensures.items c.in_ok-look.ensures.less

pub returns : goal.returns
returns c =
    let ps = c.args.calls.now.pairs.now in
    let was = empty_of c.waiting.self.waiting.items (omega (arith, c.in_default.ensures.cases.0, c.waiting.self.waiting.ok.0)) in
    subst (λ (ids : List ObjectId). IsSpread (calls_in ps) (named ps) c.args.from.0 c.waiting.self.seen.items (numbers ids)) was c.waiting.invariant
