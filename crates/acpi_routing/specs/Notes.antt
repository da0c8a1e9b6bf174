-- What people are told of a _PRT that cannot be followed.
use Rattle.std.specs.Prelude.{◌==◌, ◌++◌, ℕ, List, [], ◌∷◌, Bool, Option, Some, None, codes, decimal, if◌then◌else◌}
use Rattle.std.specs.List.{list_any}
use Rattle.acpi_resources.specs.Causes.{resource_cause_text}
use Rattle.acpi_resources.specs.Interrupts.{Links}
use Rattle.acpi_resources.specs.declared.fault.ResourceRefusal.{ResourceRefusal}
use Rattle.acpi_resources.specs.declared.item.Item.{Item}
use Rattle.acpi_resources.specs.declared.mapping.EntryFault.{EntryFault}
use Rattle.acpi_resources.specs.declared.mapping.EntryFault.TheVariants as wrong
use Rattle.acpi_routing.specs.Crs.{crs_of}
use Rattle.acpi_routing.specs.Devices.{device_in, fault_in}
use Rattle.acpi_routing.specs.declared.fault.LinkRefusal.{LinkRefusal}
use Rattle.acpi_routing.specs.declared.notes.Reason.{Reason}
use Rattle.acpi_routing.specs.declared.notes.Reason.TheVariants as reason
use Rattle.acpi_text.specs.Text.{joined}
use Rattle.acpi_verdicts.specs.Explained.{chain_text}
use Rattle.acpi_verdicts.specs.Verdicts.{is_refused, said_of}
use Rattle.aml_namespace.specs.Load.{Shown}
use Rattle.aml_namespace.specs.Shows.{shown}
use Rattle.aml_path_text.specs.Paths.{path_of}
use Rattle.aml_paths.specs.Printed.{path_text}
use Rattle.aml_paths.specs.declared.scope.ObjectId.{ObjectId}
use Rattle.aml_values.specs.Values.{Value}
use Rattle.aml_verify.specs.declared.checked.Checked.{Checked}

-- what keeps an element from saying where an interrupt comes from
unfoldable pub entry_words : EntryFault → List ℕ
entry_words wrong.Parts = codes "is no package of four: an address, a pin, a source and an index"
entry_words wrong.Address = codes "has an address that is no integer"
entry_words wrong.Pin = codes "has a pin that is no integer from 0 to 3"
entry_words wrong.Source = codes "has a source that is neither a name nor 0"
entry_words wrong.Index = codes "has an index that is no integer"
entry_words wrong.GreatIndex = codes "has an index that is not below 2^32, behind source 0"

-- what is said of the element with a number
unfoldable pub element_note : ℕ → List ℕ → List ℕ
element_note number words =
    joined (codes "element " ∷ decimal number ∷ codes " of the _PRT " ∷ words ∷ [])

-- an element that says nothing
abbrev pub entry_note : Value → ℕ → List ℕ
entry_note prt number = element_note number (entry_words (fault_in prt number))

-- what stands behind the path of a link whose bytes are no list
unfoldable pub link_part : ResourceRefusal → List ℕ
link_part refusal =
    joined (codes "._CRS: " ∷ resource_cause_text refusal.cause ∷ codes ": byte "
    ∷ decimal refusal.at ∷ codes " of the buffer that it gives\n" ∷ [])

-- the line of such a link
abbrev pub link_text : Shown → LinkRefusal → List ℕ
link_text ns refused = path_text (path_of ns.entries refused.device.0) ++ link_part refused.refusal

-- what stands in front of a source
unfoldable pub source_part : ℕ → List ℕ
source_part number =
    joined (codes "element " ∷ decimal number ∷ codes " of the _PRT: its source " ∷ [])

-- whether a device is among those that have items
abbrev pub is_listed : Links → ObjectId → Bool
is_listed links device = list_any (λ (link : ObjectId × List Item). link.0.0 == device.0) links

-- why a link has no items, by the number of its _CRS
abbrev pub reason_by : Checked → Option ℕ → Reason
reason_by c None = reason.NoCrs
reason_by c (Some crs) =
    if is_refused (said_of c crs) then reason.Refused (record { 0 = crs }) else reason.NoBuffer

-- why a link has no interrupt
abbrev pub reason_of : Checked → Links → ObjectId → Reason
reason_of c links device =
    if is_listed links device then reason.NoInterrupt else
    reason_by c (crs_of (shown c.namespace.now) device.0)

-- the same in words
unfoldable pub reason_words : Reason → List ℕ
reason_words reason.NoCrs = codes " has no _CRS that is a data name or a method without arguments\n"
reason_words (reason.Refused crs) = codes " has a _CRS that is refused\n"
reason_words reason.NoBuffer = codes " has a _CRS that gives no buffer\n"
reason_words reason.NoInterrupt =
    codes " has a _CRS without a descriptor of interrupts, or whose first one lists none\n"

-- what is told behind that: of a _CRS that is refused why it is
abbrev pub reason_behind : List (List ℕ) → Checked → Reason → List ℕ
reason_behind names c (reason.Refused crs) = chain_text 8 names c crs
reason_behind names c r = []

abbrev pub reason_text : List (List ℕ) → Checked → Reason → List ℕ
reason_text names c r = reason_words r ++ reason_behind names c r

-- what is told of a source, by the link that it names
abbrev pub named_text : List (List ℕ) → Checked → Links → Option ObjectId → List ℕ
named_text names c links None = codes "names nothing\n"
named_text names c links (Some device) =
    path_text (path_of (shown c.namespace.now).entries device.0) ++
    reason_text names c (reason_of c links device)

-- the lines of an element whose source leads to no interrupt
abbrev pub source_text : List (List ℕ) → Checked → Value → Links → ℕ → List ℕ
source_text names c prt links number =
    source_part number ++ named_text names c links (device_in prt number)
