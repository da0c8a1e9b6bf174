use Rattle.std.proofs.Common.{◌-◌, ◌∙◌, List, ℕ, ap}
use Rattle.aml_lex.specs.Reading.{string_data_at}
use Rattle.aml_lex.specs.Standing.{bytes_between}
use Rattle.aml_namespace.specs.Shows.{shown}
use Rattle.aml_contents.specs.FirstContents.{filled}
use Rattle.aml_literals.proofs.Parts.{is_read, string_ends, string_is, string_value}
use Rattle.aml_literals.proofs.data.string.Goals as goal

pub text_end-stop-requires : goal.text_end-stop-requires
text_end-stop-requires c =
    let s = string_is c.args.bytes.now c.args.at c.requires in
    is_read (string_data_at c.args.bytes.now c.args.at) (s.text, c.requires.there.stop) s.reads

pub returns-clause-value : goal.returns-clause-value
returns-clause-value c = λ d.
    let stop = c.text_end-stop.result in
    let text = c.bytes_between-text.ensures ∙ ap (λ (bytes : List ℕ). bytes_between bytes c.args.at (stop - 1)) c.table_bytes.ensures in
    string_value (shown c.args.namespace.now) c.args.site.table c.args.site.method.0 c.args.bytes.now c.args.at stop c.in_ok-characters.characters c.text_end-stop.ensures.is
    (c.in_ok-characters.ensures ∙ ap (filled (stop - c.args.at - 1)) text) d

pub returns-clause-place : goal.returns-clause-place
returns-clause-place c = λ d.
    string_ends c.args.bytes.now c.args.at c.text_end-stop.result c.text_end-stop.ensures.is d
