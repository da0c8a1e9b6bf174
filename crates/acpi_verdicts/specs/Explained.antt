-- What people are told of why a method is refused.
use Rattle.std.specs.Prelude.{ℕ, zero, suc, List, [], ◌∷◌, ◌++◌, Bool, true, false, Option, Some, None, codes, decimal, if◌then◌else◌}
use Rattle.std.specs.Option.{option_map_or}
use Rattle.acpi_notes.specs.Label.{label_of}
use Rattle.acpi_notes.specs.Tree.{tree_note}
use Rattle.acpi_text.specs.Text.{joined}
use Rattle.acpi_text.specs.Verdicts.{cause_text}
use Rattle.acpi_verdicts.specs.About.{about_text, called_at}
use Rattle.acpi_verdicts.specs.Findings.{told_text}
use Rattle.acpi_verdicts.specs.Outside.{outside_text}
use Rattle.acpi_verdicts.specs.Verdicts.{said_of}
use Rattle.acpi_verdicts.specs.Words.{cause_words}
use Rattle.aml_causes.specs.declared.cause.Cause.{Cause}
use Rattle.aml_causes.specs.declared.cause.Cause.TheVariants as cause
use Rattle.aml_causes.specs.declared.cause.Refusal.{Refusal}
use Rattle.aml_findings.specs.declared.finding.Finding.{Finding}
use Rattle.aml_findings.specs.declared.finding.Finding.TheVariants as finding
use Rattle.aml_namespace.specs.Bodies.{bytes_of}
use Rattle.aml_namespace.specs.Load.{Shown}
use Rattle.aml_namespace.specs.Shows.{shown}
use Rattle.aml_path_text.specs.Paths.{path_of}
use Rattle.aml_place_text.specs.Place.{standing_text}
use Rattle.aml_paths.specs.Printed.{path_text}
use Rattle.aml_paths.specs.declared.scope.ObjectId.{ObjectId}
use Rattle.aml_tree.specs.Causes.{tree_cause_text}
use Rattle.aml_tree.specs.declared.fault.Refusal.{Refusal as Unread}
use Rattle.aml_verify.specs.declared.checked.Checked.{Checked}
use Rattle.aml_verify.specs.declared.verdict.Verdict.{Verdict}
use Rattle.aml_verify.specs.declared.verdict.Verdict.TheVariants as verdict

-- a cause and its place
unfoldable pub refused_place : List ℕ → Refusal → List ℕ
refused_place label refusal =
    joined (codes ": " ∷ cause_text refusal.why ∷ codes ": " ∷ label ∷ codes ", byte "
    ∷ decimal refusal.at ∷ [])

-- whether a form that has no meaning was refused, and nothing was found there
abbrev pub is_form : Cause → Finding → Bool
is_form cause.OutsideProfile finding.Nothing = true
is_form _ _ = false

-- what was found at a place and what was wanted there
abbrev pub found_part : Shown → Refusal → Finding → List ℕ
found_part ns refusal found =
    if is_form refusal.why found then outside_text (bytes_of ns.tables refusal.table) refusal.at
    else told_text ns found

-- what stands behind the path of a method that is refused for a cause: that, what stands at the
-- place, what the cause means, and what was found there and what was wanted
abbrev pub refused_part : Shown → List ℕ → Refusal → Finding → List ℕ
refused_part ns label refusal found =
    refused_place label refusal
    ++ (standing_text (bytes_of ns.tables refusal.table) refusal.at
    ++ (codes ": " ++ (cause_words refusal.why ++ found_part ns refusal found)))

-- the line of a method that is refused for a cause
abbrev pub refused_text : Shown → List ℕ → ObjectId → Refusal → Finding → List ℕ
refused_text ns label id refusal finding =
    path_text (path_of ns.entries id.0) ++ refused_part ns label refusal finding
    ++ about_text ns id refusal finding ++ codes "\n"

-- how the place of a body that cannot be read is called, behind the method's path
unfoldable pub unreadable_label : List ℕ → Unread → List ℕ
unreadable_label label refusal =
    joined (codes ": " ∷ tree_cause_text refusal.cause ∷ codes ": " ∷ label ∷ [])

-- the line of a method whose body cannot be read
abbrev pub unreadable_text : Shown → List ℕ → List ℕ → ObjectId → Unread → List ℕ
unreadable_text ns label bytes id refusal =
    path_text (path_of ns.entries id.0) ++ tree_note label bytes refusal.at refusal.cause ++
    codes "\n"

-- the same by the number of the table, with files by their names
abbrev pub unread_text : List (List ℕ) → Shown → ObjectId → ℕ → Unread → List ℕ
unread_text names ns id table refusal =
    unreadable_text ns (unreadable_label (label_of names table) refusal) (bytes_of ns.tables table)
    id refusal

-- the line of what is said of a method, if it is refused
abbrev pub said_reason : List (List ℕ) → Shown → ObjectId → Option Verdict → List ℕ
said_reason names ns id None = []
said_reason names ns id (Some (verdict.Accepted accepted)) = []
said_reason names ns id (Some (verdict.Refused refusal finding)) =
    refused_text ns (label_of names refusal.table) id refusal finding
said_reason names ns id (Some (verdict.Unreadable table refusal)) =
    unread_text names ns id table refusal

-- the line of a method
abbrev pub reason_text : List (List ℕ) → Checked → ObjectId → List ℕ
reason_text names checked id =
    said_reason names (shown checked.namespace.now) id (said_of checked id.0)

-- whether a cause is that of the method that is called
abbrev pub is_of_callee : Cause → Bool
is_of_callee cause.CalleeRefused = true
is_of_callee _ = false

-- the method whose own cause is told next, by what is said of one: that which it calls, where it is
-- refused for that
abbrev pub next_by : Shown → ObjectId → Option Verdict → Option ObjectId
next_by ns id (Some (verdict.Refused refusal finding)) =
    if is_of_callee refusal.why then called_at ns id refusal else None
next_by ns id _ = None

abbrev pub next_of : Checked → ObjectId → Option ObjectId
next_of checked id = next_by (shown checked.namespace.now) id (said_of checked id.0)

-- the line that says that the rest of a chain stands under a method
abbrev pub rest_text : Shown → ObjectId → List ℕ
rest_text ns id =
    codes "the rest of the chain stands under " ++ path_text (path_of ns.entries id.0) ++ codes "\n"

-- the lines of a method and of those that are refused before it, so many methods at most, and
-- behind the last where the rest stands
abbrev pub chain_text : ℕ → List (List ℕ) → Checked → ObjectId → List ℕ
chain_text zero names checked id = rest_text (shown checked.namespace.now) id
chain_text (suc most) names checked id =
    reason_text names checked id
    ++ option_map_or (λ callee. codes "  " ++ chain_text most names checked callee)
    (next_of checked id) []
