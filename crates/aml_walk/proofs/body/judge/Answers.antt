use Rattle.std.proofs.Common.{◌≡◌, ◌∙◌, ℕ, ◌≤◌, true, false, ◌⊎◌, inl, inr, sym, ap}
use Rattle.std.proofs.lemmas.Result.{err_from_is_err_and}
use Rattle.std.specs.Prelude.{◌||◌, is_some}
use Rattle.aml_causes.specs.declared.cause.Refusal.{Refusal}
use Rattle.aml_judged.specs.Causes as cause
use Rattle.aml_judged.specs.Verdicts.{most_steps}
use Rattle.aml_walk.proofs.Bodies.{late_verdict, stops_verdict, well_verdict}
use Rattle.aml_walk.proofs.body.judge.Goals.{then-not-short-via-else-not-short+else-is_left+then-progress-ge-MOST_STEPS, then-not-short-via-else-not-short+then-is_left, then-not-short-via-then-not-short}
use Rattle.aml_walk.proofs.body.judge.Goals as goal

pub returns-in_err-method : goal.returns-in_err-method
returns-in_err-method g c apart =
    let begins = rw c.deref.ensures.value at (c.beginning-progress.ensures (g.A.Shapes.numbered c.args.here.now)) in
    let p = err_from_is_err_and c.from_residual.result c.from_residual.ensures.1 in
    rw (p.1, p.2) (stops_verdict _ _ c.args.short _ c.args.args.items c.in_err-method.field-0.0 apart begins c.in_err-method.ensures.judges)

pub returns-then-not-short : goal.returns-then-not-short
returns-then-not-short g c apart =
    let begins = rw c.deref.ensures.value at (c.beginning-progress.ensures (g.A.Shapes.numbered c.args.here.now)) in
    let exits = c.method.new.progress.exits in
    let why : (c.args.short ≡ false) ⊎ ((is_some exits.broke || is_some exits.continued) ≡ true) ⊎ (most_steps ≤ c.method.new.progress.cost) = elim c.then-not-short.branch [
      | then-not-short-via-then-not-short w ↦ inl w.if-not-short.true
      | then-not-short-via-else-not-short+then-is_left w ↦ inr (inl (sym w.is_left.ensures ∙ w.if-is_left.true))
      | then-not-short-via-else-not-short+else-is_left+then-progress-ge-MOST_STEPS w ↦ inr (inr w.if-progress-ge-MOST_STEPS.true)
    ] in
    let late = λ (table : ℕ). let r : Refusal = record { table = table; at = c.args.opcode; why = cause.BoundTooLarge } in r in
    late_verdict _ _ c.args.short _ c.args.args.items apart begins c.in_ok-method.ensures.judges c.refusal.result (c.refusal.ensures ∙ ap late c.in_ok-method.ensures.table) why

pub returns : goal.returns
returns g c apart =
    let begins = rw c.deref.ensures.value at (c.beginning-progress.ensures (g.A.Shapes.numbered c.args.here.now)) in
    well_verdict _ _ c.args.short _ c.args.args.items apart begins c.in_ok-method.ensures.judges c.result_of.result c.if-not-short.false (sym c.is_left.ensures ∙ c.if-is_left.false) c.if-progress-ge-MOST_STEPS.false (c.result_of.ensures (g.A.Shapes.numbered c.args.here.now))
