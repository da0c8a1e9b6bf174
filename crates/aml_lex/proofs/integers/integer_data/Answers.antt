use Rattle.aml_lex.proofs.ExactLaws.{integer_data_reads}
use Rattle.aml_lex.proofs.integers.integer_data.Goals as goal

pub returns-clause-spells : goal.returns-clause-spells
returns-clause-spells c = rw c.find_integer_data.ensures.gives (integer_data_reads c.args.bytes.now c.args.at c.requires)
