-- The verdicts on the methods of a namespace, as they are printed.
use Rattle.std.specs.Prelude.{ℕ, List, [], Bool, true, false, Option, Some, None}
use Rattle.std.specs.List.{flat_map, list_any}
use Rattle.std.specs.Option.{option_map_or}
use Rattle.acpi_text.specs.Verdicts.{verdict_line}
use Rattle.acpi_text.specs.declared.verdict.VerdictLine.{VerdictLine}
use Rattle.acpi_text.specs.declared.verdict.VerdictLine.TheVariants as line
use Rattle.aml_objects.specs.LookUp.{methods_in}
use Rattle.aml_namespace.specs.Shows.{shown}
use Rattle.aml_path_text.specs.Paths.{path_of}
use Rattle.aml_paths.specs.Printed.{path_text}
use Rattle.aml_paths.specs.declared.scope.ObjectId.{ObjectId}
use Rattle.aml_verify.specs.Said.{verdict_at}
use Rattle.aml_verify.specs.declared.checked.Checked.{Checked}
use Rattle.aml_verify.specs.declared.verdict.Verdict.{Verdict}
use Rattle.aml_verify.specs.declared.verdict.Verdict.TheVariants as verdict

-- what is said of the method with a number
abbrev pub said_of : Checked → ℕ → Option Verdict
said_of checked k = verdict_at checked.verdicts.items k

-- the methods on which there are verdicts, in order of definition
abbrev pub methods_of : Checked → List ObjectId
methods_of checked = methods_in (shown checked.namespace.now).entries

-- a method's path, as it is printed
abbrev pub printed_of : Checked → ObjectId → List ℕ
printed_of checked id = path_text (path_of (shown checked.namespace.now).entries id.0)

-- what the line of a verdict says: the most steps, or why a method is refused
abbrev pub line_of : Verdict → VerdictLine
line_of (verdict.Accepted accepted) = line.Accepted accepted.bound
line_of (verdict.Refused refusal finding) = line.Refused refusal
line_of (verdict.Unreadable table refusal) = line.Unreadable table refusal

-- the line of what is said of a method; nothing where nothing is said
abbrev pub said_text : Checked → ObjectId → List ℕ
said_text checked id =
    option_map_or (λ v. verdict_line (printed_of checked id) (line_of v)) (said_of checked id.0) []

-- the lines of the verdicts on all methods, in order of definition
abbrev pub verdicts_text : Checked → List ℕ
verdicts_text checked = flat_map (said_text checked) (methods_of checked)

-- a method is refused, also since its body cannot be read
abbrev pub is_refused : Option Verdict → Bool
is_refused None = false
is_refused (Some (verdict.Accepted accepted)) = false
is_refused (Some (verdict.Refused refusal finding)) = true
is_refused (Some (verdict.Unreadable table refusal)) = true

-- any method is refused
abbrev pub any_refused : Checked → Bool
any_refused checked =
    list_any (λ (id : ObjectId). is_refused (said_of checked id.0)) (methods_of checked)
