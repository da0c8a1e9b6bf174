use Rattle.std.proofs.Common.{◌∙◌, ap}
use Rattle.aml_integers.specs.Known.{marked}
use Rattle.aml_verify.proofs.Marking.{none_is_marked}
use Rattle.aml_verify.proofs.verifier.no_marks.Goals as goal

pub returns-in-Ok-clause-none : goal.returns-in-Ok-clause-none
returns-in-Ok-clause-none c = λ k. ap (λ ms. marked ms k) (c.in-Ok.ensures.items_if_clones_equal (λ y e. e)) ∙ none_is_marked c.args.count k
