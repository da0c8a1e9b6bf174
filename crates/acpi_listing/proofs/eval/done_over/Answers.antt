use Rattle.std.proofs.Common.{◌≡◌, [], ◌∷◌, refl, subst, sym}
use Rattle.aml_bodies.proofs.Around.{around_there}
use Rattle.aml_interp.proofs.Accepted.{ready}
use Rattle.aml_interp.proofs.Ready.{body}
use Rattle.aml_namespace.specs.Shows.{shown}
use Rattle.aml_regions.specs.EventViews.{events_of}
use Rattle.aml_regions.specs.Registers.{contents}
use Rattle.aml_regions.specs.Text.{TextSets}
use Rattle.aml_registers.specs.Answers.{start_of}
use Rattle.acpi_listing.proofs.Started.{begins_still, same_text}
use Rattle.acpi_listing.proofs.eval.done_over.Goals as goal

-- the names are the namespace's
pub evaluate-requires-clause-names : goal.evaluate-requires-clause-names
evaluate-requires-clause-names c = rw c.namespace.ensures at c.in_ok-names.ensures.belong

-- the body of an accepted method has a tree; and the log began with the text, so these are the registers that it sets
pub returns : goal.returns
returns c = λ a said m there.
    let ns = shown c.args.checked.now.namespace.now in
    let checked = c.requires.checked in
    let read = body c.args.checked.now (ready checked.told c.args.checked.now checked.checked) c.args.id.0 a said m there in
    let did = c.in_ok-value.ensures.done.are a said m there read.0 read.1 in
    let held = rw (c.in_ok-names.ensures.contents, c.in_ok-names.ensures.kinds, c.requires.fresh, c.namespace.ensures) at did in
    let first = c.args.world.now in
    let left = c.evaluate.new.world in
    let grown = (held (around_there ns)).grows in
    let same : left.text.items ≡ first.text.items = same_text first.text.items left.text.items (events_of left.file.events.items) grown.growth grown.is in
    record {
      value = c.in_ok-value.value;
      done = refl;
      body = read.0;
      read = read.1;
      meant = record {
        names = _;
        before = record { events = start_of first.text.items ∷ []; refusals = first.file.refusals };
        refusals = left.file.refusals;
        kinds = c.in_ok-value.ensures.names;
        still = begins_still ns first.text.items;
        answers = rw same at held;
        answered = left.answers (contents first.file) (subst (λ text. TextSets text (contents first.file)) (sym same) c.requires.set);
      };
    }
