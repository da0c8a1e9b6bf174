use Rattle.std.proofs.Common.{Some}
use Rattle.std.proofs.lemmas.List.{map-set}
use Rattle.aml_values.specs.Views.{view}
use Rattle.aml_machine.specs.Views.{value_of}
use Rattle.aml_machine.proofs.Filling.{slots_put}
use Rattle.aml_machine.proofs.arguments.Arguments.put.Goals as goal

pub returns-then-number-lt7 : goal.returns-then-number-lt7
returns-then-number-lt7 c = λ given number are.
    rw (map-set value_of c.args.self.now.slots c.args.number (Some c.args.value), are, ← number) (slots_put 7 given (view c.args.value))
