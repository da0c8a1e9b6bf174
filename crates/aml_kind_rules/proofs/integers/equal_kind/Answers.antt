use Rattle.std.proofs.Common.{◌∙◌, Err, ap, sym}
use Rattle.aml_known.specs.Views.{kind_of}
use Rattle.aml_rules.specs.Tells.{place_of}
use Rattle.aml_kind_rules.proofs.Alike.{alike, first_differs, second_differs}
use Rattle.aml_kind_rules.proofs.integers.equal_kind.Goals as goal

pub returns-then-are_alike : goal.returns-then-are_alike
returns-then-are_alike c = λ shapes.
    alike (place_of c.args.first) (kind_of shapes c.args.j) (place_of c.args.second) (kind_of shapes c.args.k) (sym (c.are_alike.ensures shapes) ∙ c.if-are_alike.true)

pub returns-then-may_be_equal : goal.returns-then-may_be_equal
returns-then-may_be_equal c = λ shapes.
    ap Err c.refused.ensures
    ∙ second_differs (place_of c.args.first) (kind_of shapes c.args.j) (place_of c.args.second) (kind_of shapes c.args.k) (sym (c.are_alike.ensures shapes) ∙ c.if-are_alike.false) (sym (c.may_be_equal.ensures shapes) ∙ c.if-may_be_equal.true)

pub returns-else-may_be_equal : goal.returns-else-may_be_equal
returns-else-may_be_equal c = λ shapes.
    ap Err c.refused-else-may_be_equal.ensures
    ∙ first_differs (place_of c.args.first) (kind_of shapes c.args.j) (place_of c.args.second) (kind_of shapes c.args.k) (sym (c.are_alike.ensures shapes) ∙ c.if-are_alike.false) (sym (c.may_be_equal.ensures shapes) ∙ c.if-may_be_equal.false)
