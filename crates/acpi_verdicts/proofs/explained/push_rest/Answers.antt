use Rattle.std.specs.Prelude.{codes}
use Rattle.aml_namespace.specs.Shows.{shown}
use Rattle.aml_path_text.specs.Paths.{path_of}
use Rattle.aml_paths.specs.Printed.{path_text}
use Rattle.acpi_verdicts.proofs.Lines.{three_behind}
use Rattle.acpi_verdicts.proofs.explained.push_rest.Goals as goal

pub returns-clause-text : goal.returns-clause-text
returns-clause-text c =
    three_behind c.args.text.now.items c.extend_from_slice.new.self.items c.push_path.new.line.items c.extend_from_slice-2.new.self.items
    (codes "the rest of the chain stands under ") (path_text (path_of (shown c.args.namespace.now).entries c.args.id.0)) (codes "\n")
    c.in_ok-extend_from_slice.ensures.items c.in_ok-push_path.ensures c.in_ok-extend_from_slice-2.ensures.items
