use Rattle.aml_lex.proofs.ExactLaws.{pkg_length_reads}
use Rattle.aml_lex.proofs.package.pkg_length.Goals as goal

pub returns-clause-spells : goal.returns-clause-spells
returns-clause-spells c = rw c.find_pkg_length.ensures.gives (pkg_length_reads c.args.bytes.now c.args.at c.requires)
