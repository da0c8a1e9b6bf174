use Rattle.aml_meaning.specs.Fields.{plan_of}
use Rattle.aml_fields.proofs.any.AnyFieldUnits.read_unit.Goals as goal

pub returns-in-Plain-clause-means : goal.returns-in-Plain-clause-means
unfolding plan_of
returns-in-Plain-clause-means g c = λ frame names. rw c.in-Plain.is (c.read_unit.ensures.means frame names)

pub returns-in-Banked-clause-means : goal.returns-in-Banked-clause-means
unfolding plan_of
returns-in-Banked-clause-means g c = λ frame names. rw c.in-Banked.is (c.read_unit-in-Banked.ensures.means frame names)

pub returns-in-Indexed-clause-means : goal.returns-in-Indexed-clause-means
unfolding plan_of
returns-in-Indexed-clause-means g c = λ frame names. rw c.in-Indexed.is (c.read_unit-in-Indexed.ensures.means frame names)
