-- The words for what descriptors and routes say.
use Rattle.std.specs.Prelude.{ℕ, List, codes}
use Rattle.acpi_resources.specs.declared.item.AddressWidth.{AddressWidth}
use Rattle.acpi_resources.specs.declared.item.AddressWidth.TheVariants.{Word, Dword, Qword}
use Rattle.acpi_resources.specs.declared.route.Pin.{Pin}
use Rattle.acpi_resources.specs.declared.route.Pin.TheVariants.{A, B, C, D}
use Rattle.acpi_resources.specs.declared.signal.Trigger.{Trigger}
use Rattle.acpi_resources.specs.declared.signal.Trigger.TheVariants.{Edge, Level}
use Rattle.acpi_resources.specs.declared.signal.Polarity.{Polarity}
use Rattle.acpi_resources.specs.declared.signal.Polarity.TheVariants.{High, Low}
use Rattle.acpi_resources.specs.declared.signal.Sharing.{Sharing}
use Rattle.acpi_resources.specs.declared.signal.Sharing.TheVariants.{Exclusive, Shared}

unfoldable pub trigger_text : Trigger → List ℕ
trigger_text Edge = codes "edge"
trigger_text Level = codes "level"

unfoldable pub polarity_text : Polarity → List ℕ
polarity_text High = codes "high"
polarity_text Low = codes "low"

unfoldable pub sharing_text : Sharing → List ℕ
sharing_text Exclusive = codes "exclusive"
sharing_text Shared = codes "shared"

unfoldable pub width_text : AddressWidth → List ℕ
width_text Word = codes "word"
width_text Dword = codes "dword"
width_text Qword = codes "qword"

unfoldable pub pin_text : Pin → List ℕ
pin_text A = codes "A"
pin_text B = codes "B"
pin_text C = codes "C"
pin_text D = codes "D"
