use Rattle.std.proofs.Common.{arith}
use Rattle.aml_fields.proofs.Places.{first_end, count_most}
use Rattle.aml_fields.proofs.count.units_of.Goals as goal

pub overflow_sub-result : goal.overflow_sub-result
overflow_sub-result c = let some = first_end c.args.layout.now c.requires in omega arith

pub returns-clause-few : goal.returns-clause-few
returns-clause-few c = let most = count_most c.args.layout.now c.requires in omega (arith, most, c.requires.most)
