-- What an evaluation did to the world, as it is printed.
use Rattle.std.specs.Prelude.{ℕ, List, [], ◌∷◌, ◌==◌, codes, decimal, if◌then◌else◌}
use Rattle.std.specs.List.{flat_map}
use Rattle.acpi_text.specs.Names.{object_text}
use Rattle.acpi_text.specs.Text.{joined, hex}
use Rattle.aml_objects.specs.Entries.{Entries}
use Rattle.aml_regions.specs.declared.access.Access.{Access}
use Rattle.aml_regions.specs.Events.{Event, Read, Written, Notified, Slept, Stalled}

-- an address space (ACPI 6.5, 5.5.2.4): the word that a register file's text has for it, or else
-- its number
abbrev pub space_text : ℕ → List ℕ
space_text space =
    if space == 0 then codes "mem"
    else if space == 1 then codes "io"
    else if space == 2 then codes "pci"
    else if space == 3 then codes "ec"
    else if space == 5 then codes "cmos"
    else decimal space

-- the line of an access: what was done, the unit and its value, as `read io 0x60 8 0x15`
unfoldable pub access_line : List ℕ → Access → ℕ → List ℕ
access_line verb access value = joined (
    verb ∷ codes " " ∷ space_text access.space
    ∷ codes " 0x" ∷ hex access.address
    ∷ codes " " ∷ decimal access.width
    ∷ codes " 0x" ∷ hex value ∷ codes "\n" ∷ [])

-- the line of a Notify of the object with this text
unfoldable pub notify_line : List ℕ → ℕ → List ℕ
notify_line thing value =
    joined (codes "notify " ∷ thing ∷ codes " 0x" ∷ hex value ∷ codes "\n" ∷ [])

-- the line of a Sleep or a Stall of some time
unfoldable pub wait_line : List ℕ → ℕ → List ℕ
wait_line verb time = joined (verb ∷ codes " 0x" ∷ hex time ∷ codes "\n" ∷ [])

-- the line of an event; that of a Sleep does not tell what others left
abbrev pub event_line : Entries → Event → List ℕ
event_line entries (Read access value) = access_line (codes "read") access value
event_line entries (Written access value) = access_line (codes "write") access value
event_line entries (Notified object value) = notify_line (object_text entries object) value
event_line entries (Slept milliseconds left) = wait_line (codes "sleep") milliseconds
event_line entries (Stalled microseconds) = wait_line (codes "stall") microseconds

-- the lines of events, in their order
abbrev pub events_text : Entries → List Event → List ℕ
events_text entries events = flat_map (event_line entries) events
