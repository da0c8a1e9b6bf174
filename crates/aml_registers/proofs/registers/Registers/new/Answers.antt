use Rattle.std.proofs.Common.{◌≡◌, ap, sym, subst, ◌∙◌}
use Rattle.aml_regions.specs.EventViews.{events_of}
use Rattle.aml_regions.specs.Registers.{contents}
use Rattle.aml_regions.specs.Text.{TextSets}
use Rattle.aml_registers.specs.Answers.{AreAnswered, left_by}
use Rattle.aml_registers.proofs.Accounts.{none_answered}
use Rattle.aml_registers.proofs.Settings.{empty_text, none_set}
use Rattle.aml_registers.proofs.registers.Registers.new.Goals as goal

pub invariant_of-result : goal.invariant_of-result
invariant_of-result c =
    let file = c.new-2.result in
    record {
      holds = λ bytes sets space address.
          c.new-2.ensures.bytes space address ∙ sym (none_set bytes (rw c.new.ensures.items at sets) space address)
          ∙ ap (λ events. left_by bytes (events_of events) space address) (sym c.new-2.ensures.log);
      answers = λ bytes sets. subst (λ events. AreAnswered bytes (events_of events)) (sym c.new-2.ensures.log) (none_answered bytes);
    }

pub returns-clause-text : goal.returns-clause-text
returns-clause-text c = rw c.new.ensures.items (empty_text (contents c.new-2.result) c.new-2.ensures.bytes)
