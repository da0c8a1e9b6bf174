use Rattle.aml_externals.proofs.TableLaws.{opcodes_alone, length_stays, were_ifs, each_is_counted, others_stay}
use Rattle.aml_externals.proofs.laws.opcodes_alone_change.Goals as goal

pub returns-clause-changed : goal.returns-clause-changed
returns-clause-changed c = opcodes_alone

pub returns-clause-length : goal.returns-clause-length
returns-clause-length c = length_stays

pub returns-clause-were_ifs : goal.returns-clause-were_ifs
returns-clause-were_ifs c = were_ifs

pub returns-clause-counted : goal.returns-clause-counted
returns-clause-counted c = each_is_counted

pub returns-clause-others : goal.returns-clause-others
returns-clause-others c = others_stay
