use Rattle.std.proofs.Common.{◌≡◌, [], ◌∷◌, ap, drop, subst, sym}
use Rattle.aml_namespace.specs.Shows.{shown}
use Rattle.aml_regions.specs.EventViews.{events_of}
use Rattle.aml_regions.specs.Registers.{contents}
use Rattle.aml_regions.specs.Text.{TextSets}
use Rattle.aml_registers.specs.Answers.{AreAnswered, start_of}
use Rattle.acpi_listing.proofs.Started.{begins_still, same_text}
use Rattle.acpi_listing.proofs.objects.given_over.Goals as goal

-- the names are the namespace's
pub value_of-requires-clause-names : goal.value_of-requires-clause-names
value_of-requires-clause-names c = rw c.namespace.ensures at c.in_ok-names.ensures.belong

-- the log began with the text, so these are the registers that it sets
pub returns : goal.returns
returns c =
    let gave = rw (c.in_ok-names.ensures.contents, c.in_ok-names.ensures.kinds, c.requires.fresh, c.namespace.ensures) at c.in_ok-given.ensures.given in
    let first = c.args.registers in
    let left = c.value_of.new.world in
    record {
      names = _;
      before = record { events = start_of first.text.items ∷ []; refusals = first.file.refusals };
      log = _;
      still = begins_still (shown c.args.checked.now.namespace.now) first.text.items;
      gives = gave;
      answered = λ events is.
          let same : left.text.items ≡ first.text.items = same_text first.text.items left.text.items (events_of left.file.events.items) events is in
          subst (AreAnswered (contents first.file)) (ap (drop 1) is)
          (left.answers (contents first.file) (subst (λ text. TextSets text (contents first.file)) (sym same) c.requires.set));
    }
