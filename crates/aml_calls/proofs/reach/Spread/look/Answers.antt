use Rattle.std.proofs.Common.{◌∙◌, ◌+◌, List, take, get_or, sym, ap, subst, arith}
use Rattle.std.specs.Prelude.{Bool}
use Rattle.aml_paths.specs.declared.scope.ObjectId.{ObjectId}
use Rattle.aml_calls.specs.declared.reach.Spread.{Spread}
use Rattle.aml_calls.specs.Pairs.{numbers}
use Rattle.aml_calls.specs.Spread.{is_seen, LooksAt}
use Rattle.aml_calls.proofs.GoingOn.{among_at}
use Rattle.aml_calls.proofs.Spreading.{look_new, look_seen}
use Rattle.aml_calls.proofs.reach.Spread.look.Goals as goal
use Rattle.aml_calls.proofs.reach.Spread.look.Goals.{then-not-is_seen+in_ok-push, else-not-is_seen}

pub index_mut-requires : goal.index_mut-requires
index_mut-requires c =
    let below = c.requires _ (among_at c.args.row.now c.row.callee-index (record { 0 = 0 }) c.row-test.true) in
    omega (arith, below, c.row.invariant.sized, c.row.self.seen.ok.0, c.args.self.now.seen.ok.0)

pub row-preserved : goal.row-preserved
row-preserved c =
    let row = c.args.row.now in
    let i = c.row.callee-index in
    let d : ObjectId = record { 0 = 0 } in
    let now = c.row.self in
    let seen = c.is_seen.ensures ∙ ap (λ (xs : List Bool). is_seen xs (get_or row i d).0) c.deref.ensures.value in
    elim c.if-not-is_seen.branch [
      | then-not-is_seen+in_ok-push w ↦ subst (λ (s : Spread). LooksAt (numbers (take (i + 1) row)) c.args.self.now s) (sym w.self-is)
          (look_new row i d c.args.self.now now w.push.new.self c.row-test.true w.in_ok-push.ensures.items
          (let below = c.requires _ (among_at row i d c.row-test.true) in omega (arith, below, c.row.invariant.sized, now.seen.ok.0, c.args.self.now.seen.ok.0))
          (sym seen ∙ w.if-not-is_seen.true) c.row.invariant)
      | else-not-is_seen w ↦ subst (λ (s : Spread). LooksAt (numbers (take (i + 1) row)) c.args.self.now s) (sym w.self-is)
          (look_seen row i d c.args.self.now now c.row-test.true (sym seen ∙ w.if-not-is_seen.false) c.row.invariant)
    ]
