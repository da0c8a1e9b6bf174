use Rattle.std.proofs.Common.{◌≡◌, [], true}
use Rattle.acpi_objects.proofs.given.evaluated.Goals as goal

-- there are no arguments
pub evaluate-requires-clause-accepted : goal.evaluate-requires-clause-accepted
evaluate-requires-clause-accepted g c = rw c.new-none.ensures.items c.requires.accepted

pub returns : goal.returns
returns g c =
    record {
      given = record {
        value = c.in_ok-value.value;
        given = c.given_by.ensures;
        done = rw c.new-none.ensures.items at c.in_ok-value.ensures.done;
      };
      names = c.in_ok-value.ensures.names;
    }
