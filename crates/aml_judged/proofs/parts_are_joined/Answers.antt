use Rattle.aml_judged.proofs.InPlace.{exits_assoc, after_after}
use Rattle.aml_judged.proofs.parts_are_joined.Goals as goal

pub returns-clause-exits : goal.returns-clause-exits
returns-clause-exits c = exits_assoc

pub returns-clause-parts : goal.returns-clause-parts
returns-clause-parts c = λ x y n m j. after_after x y n m j
