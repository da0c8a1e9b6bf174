use Rattle.aml_lex.specs.Names.{name_of}
use Rattle.aml_lex.specs.Reading.{name_string_at}
use Rattle.aml_lex.proofs.ExactLaws.{seen, name_string_reads}
use Rattle.aml_lex.proofs.name_reader.name_string.Goals as goal

pub returns-clause-spells : goal.returns-clause-spells
returns-clause-spells c =
    let same = seen name_of c.find_name_string.result (name_string_at c.args.bytes.now c.args.at) c.find_name_string.ensures.gives in
    rw same (name_string_reads c.args.bytes.now c.args.at c.requires)
