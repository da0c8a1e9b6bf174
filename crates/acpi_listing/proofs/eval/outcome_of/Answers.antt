use Rattle.std.proofs.Common.{◌≡◌, [], ◌∷◌, subst, sym}
use Rattle.aml_namespace.specs.Shows.{shown}
use Rattle.aml_bodies.proofs.Around.{around_there}
use Rattle.aml_regions.specs.EventViews.{events_of}
use Rattle.aml_regions.specs.Registers.{contents}
use Rattle.aml_regions.specs.Text.{TextSets}
use Rattle.aml_registers.specs.Answers.{start_of}
use Rattle.acpi_listing.proofs.Started.{same_text}
use Rattle.acpi_listing.proofs.eval.outcome_of.Goals as goal

-- the log began with the text, so these are the registers that it sets
pub returns : goal.returns
returns c = λ m is.
    let held = rw (c.in_ok-names.ensures.contents, c.in_ok-names.ensures.kinds, c.requires.fresh) at (c.in_ok-outcome.ensures m is) in
    let first = c.args.world.now in
    let left = c.evaluate_tree.new.world in
    let grown = (held (around_there (shown c.args.namespace.now))).grows in
    let same : left.text.items ≡ first.text.items = same_text first.text.items left.text.items (events_of left.file.events.items) grown.growth grown.is in
    record {
      names = _;
      before = record { events = start_of first.text.items ∷ []; refusals = first.file.refusals };
      refusals = left.file.refusals;
      evaluates = rw same at held;
      answered = left.answers (contents first.file) (subst (λ text. TextSets text (contents first.file)) (sym same) c.requires.set);
    }
