use Rattle.std.proofs.Common.{◌≡◌, ◌∙◌, sym, subst}
use Rattle.aml_known.specs.declared.env.Env.{Env}
use Rattle.aml_findings.specs.Finds.{FindsEnd, told_end}
use Rattle.aml_findings.proofs.Ends.{told_alone, told_changed, told_continued}
use Rattle.aml_findings.proofs.finds.turned.Goals as goal
use Rattle.aml_findings.proofs.finds.turned.Goals.{in_default-via-in-Some+else-is_end_within, in_default-via-in_default}

pub returns-in-Some : goal.returns-in-Some
returns-in-Some c = λ shapes lists apart.
    let P : Env → Type 0 = λ e. FindsEnd shapes e c.args.start.now c.end_changed.result in
    let within = sym (c.is_end_within.ensures shapes lists apart) ∙ c.if-is_end_within.true in
    subst P (sym (told_continued shapes lists c.args.end.now c.args.continued.now c.args.start.now c.in-Some.other c.in-Some.is within)) (c.end_changed.ensures shapes apart)

pub returns-in_default : goal.returns-in_default
returns-in_default c = λ shapes lists apart.
    let P : Env → Type 0 = λ e. FindsEnd shapes e c.args.start.now c.end_changed-in_default.result in
    let told : told_end shapes lists c.args.end.now c.args.continued.now c.args.start.now ≡ c.args.end.now = elim c.in_default.branch [
      | in_default-via-in-Some+else-is_end_within w ↦ told_changed shapes lists c.args.end.now c.args.continued.now c.args.start.now w.in-Some.other w.in-Some.is (sym (w.is_end_within.ensures shapes lists apart) ∙ w.if-is_end_within.false)
      | in_default-via-in_default w ↦ told_alone shapes lists c.args.end.now c.args.continued.now c.args.start.now w.in_default.is
    ] in
    subst P (sym told) (c.end_changed-in_default.ensures shapes apart)
