-- The parts that an operator of a module has.
use Rattle.aml_operators.specs.declared.op.Op.{Op}
use Rattle.aml_operators.specs.declared.row.Code.TheVariants as code
use Rattle.aml_operators.specs.Shape.{GoBy, part_letters}
use Rattle.aml_operators.specs.Tree.{Trees}

abbrev pub HasParts : Op → Trees → Type 0
HasParts o parts = GoBy code.Module (part_letters o) parts
