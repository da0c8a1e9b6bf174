-- With more steps a method goes just so.
use Rattle.std.proofs.Common.{ℕ, ◌+◌, List, subst}
use Rattle.aml_operators.specs.Tree.{Trees}
use Rattle.aml_values.specs.Values.{Value}
use Rattle.aml_regions.specs.Events.{Event}
use Rattle.aml_meaning.specs.State.{State, with_steps}
use Rattle.aml_meaning.specs.Parts.{Stays}
use Rattle.aml_meaning.specs.Calls.{framed}
use Rattle.aml_meaning.specs.Meaning.{Setting}
use Rattle.aml_meaning.specs.Definitions.{mean_method}
use Rattle.aml_meaning.specs.Whole.{evaluated, DoneIsStable, ErrorIsStable}

-- whatever comes of a method with so many steps
evaluated_stays : (here : Setting) (body : Trees) (values : List Value) (script : List Event) (s : State) (k : ℕ) → Stays k (evaluated here body values script s) (evaluated here body values script (with_steps s (s.steps + k)))
evaluated_stays here body values script s k = (framed here.table values (mean_method here body)).stays script s k

pub done_stays : DoneIsStable
done_stays here body values script s more value last e =
    subst (λ o. Stays more o (evaluated here body values script (with_steps s (s.steps + more)))) e (evaluated_stays here body values script s more)

pub error_stays : ErrorIsStable
error_stays here body values script s more error last e =
    subst (λ o. Stays more o (evaluated here body values script (with_steps s (s.steps + more)))) e (evaluated_stays here body values script s more)
