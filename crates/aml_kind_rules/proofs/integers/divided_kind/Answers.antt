use Rattle.std.proofs.Common.{refl, sym}
use Rattle.aml_kind_rules.proofs.integers.divided_kind.Goals as goal

pub returns : goal.returns
returns c = λ shapes.
    let first = sym (c.in_ok-a.ensures shapes) in
    let second = sym (c.in_ok-second_kind.ensures shapes) in
    rw (first, second, c.quotient_most.ensures, c.left_by.ensures c.in_ok-second_kind.field-0) refl
