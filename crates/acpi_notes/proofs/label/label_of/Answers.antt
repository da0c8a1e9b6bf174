use Rattle.std.proofs.Common.{◌≡◌, ◌++◌, ◌∙◌, Bor, List, ℕ, map, string_bytes}
use Rattle.std.specs.Prelude.{codes, decimal}
use Rattle.acpi_notes.proofs.Labels.{name_past, name_there, named_label, numbered_label}
use Rattle.std.proofs.lemmas.Result.{IfOk-weaker}
use Rattle.acpi_notes.proofs.label.label_of.Goals as goal

pub returns-in-Some : goal.returns-in-Some
returns-in-Some c =
    let names = map (λ (n : Bor (List ℕ)). n.now) c.args.names.now in
    let name = c.in-Some.name.now in
    let found = c.in-Some.ensures.lookup in
    named_label string_bytes c.file_label.result names c.args.number name.now
    (name_there c.args.names.now c.args.number name found.3.0 found.1) c.file_label.ensures.line c.file_label.ensures.named

pub returns-in-None : goal.returns-in-None
returns-in-None c =
    let names = map (λ (n : Bor (List ℕ)). n.now) c.args.names.now in
    let found = c.in-None.ensures.lookup in
    IfOk-weaker c.format.result (λ label. string_bytes label ≡ codes "file " ++ decimal c.args.number) _
    (λ label is. is ∙ numbered_label names c.args.number (name_past c.args.names.now c.args.number found.3)) c.format.ensures.ok
