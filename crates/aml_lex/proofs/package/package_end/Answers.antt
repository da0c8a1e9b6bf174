use Rattle.aml_lex.proofs.ExactLaws.{package_end_reads}
use Rattle.aml_lex.proofs.package.package_end.Goals as goal

pub returns-clause-spells : goal.returns-clause-spells
returns-clause-spells c = rw c.find_package_end.ensures.gives (package_end_reads c.args.bytes.now c.args.at c.requires)
