use Rattle.std.proofs.Common.{◌≡◌, ℕ, ◌-◌, sym, ap, ◌∙◌, arith}
use Rattle.aml_paths.specs.Paths.{number_above}
use Rattle.aml_paths.specs.Steps.{paths_seen}
use Rattle.aml_paths.proofs.Ways.{number_above_root, number_above_more, number_above_itself}
use Rattle.aml_paths.proofs.Seen.{seen_distinct, seen_root}
use Rattle.aml_paths.proofs.paths.Paths.above.Goals as goal

pub returns-then-number-eq0 : goal.returns-then-number-eq0
returns-then-number-eq0 c =
    let held = c.args.self.now in
    let left = c.loop-left.left in
    sym (c.loop-left.invariant.above ∙ ap (λ (n : ℕ). number_above (paths_seen held) n left) c.if-number-eq0.true ∙ number_above_root (paths_seen held) left (seen_root held) c.loop-left-test.true)

pub loop-left-preserved : goal.loop-left-preserved
loop-left-preserved c =
    let held = c.args.self.now in
    let step = c.last_step-number in
    let left = c.loop-left.left in
    record {
      there = omega (arith, step.ensures.earlier, c.loop-left.invariant.there);
      above = c.loop-left.invariant.above ∙ number_above_more (paths_seen held) c.loop-left.number step.result left (left - 1) step.ensures.leads (omega (arith, step.ensures.earlier, c.loop-left.invariant.there)) (omega (arith, c.loop-left-test.true));
    }

pub returns : goal.returns
returns c =
    let held = c.args.self.now in
    let none : c.loop-left.left ≡ 0 = omega (arith, c.loop-left-test.false) in
    sym (c.loop-left.invariant.above ∙ ap (number_above (paths_seen held) c.loop-left.number) none ∙ number_above_itself (paths_seen held) (seen_distinct held) c.loop-left.number c.loop-left.invariant.there)
