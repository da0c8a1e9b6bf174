use Rattle.std.proofs.Common.{List, ℕ}
use Rattle.std.specs.Borrow.{Bor}
use Rattle.aml_lex.specs.Reading.{string_data_at}
use Rattle.aml_lex.proofs.ExactLaws.{seen, string_data_reads}
use Rattle.aml_lex.proofs.strings.string_data.Goals as goal

pub returns-clause-spells : goal.returns-clause-spells
returns-clause-spells c =
    let same = seen (λ (text : Bor (List ℕ)). text.now) c.find_string_data.result (string_data_at c.args.bytes.now c.args.at) c.find_string_data.ensures.gives in
    rw same (string_data_reads c.args.bytes.now c.args.at c.requires)
