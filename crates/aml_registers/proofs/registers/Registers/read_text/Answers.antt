use Rattle.std.proofs.Common.{◌≡◌, ap, sym, subst, ◌∙◌}
use Rattle.aml_regions.specs.EventViews.{events_of}
use Rattle.aml_regions.specs.Registers.{contents}
use Rattle.aml_registers.specs.Answers.{AreAnswered, left_by}
use Rattle.aml_registers.proofs.Accounts.{none_answered}
use Rattle.aml_registers.proofs.Settings.{sets_once}
use Rattle.aml_registers.proofs.registers.Registers.read_text.Goals as goal

pub invariant_of-result : goal.invariant_of-result
invariant_of-result c =
    let file = c.in_ok-file.file in
    record {
      holds = λ bytes sets space address.
          sets_once c.args.text.items bytes (contents file) sets (rw c.as_slice.ensures.value at c.in_ok-file.ensures.bytes) space address
          ∙ ap (λ events. left_by bytes (events_of events) space address) (sym c.in_ok-file.ensures.log);
      answers = λ bytes sets. subst (λ events. AreAnswered bytes (events_of events)) (sym c.in_ok-file.ensures.log) (none_answered bytes);
    }
