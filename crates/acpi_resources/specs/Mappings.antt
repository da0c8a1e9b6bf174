-- What the elements of a _PRT say (ACPI 6.5, 6.2.13, table 6.15).
use Rattle.std.specs.Prelude.{ℕ, ◌^◌, ◌==◌, Option, Some, None, Result, Ok, Err, nat_lt, if◌then◌else◌}
use Rattle.std.specs.Option.{option_and_then}
use Rattle.aml_paths.specs.declared.scope.ObjectId.{ObjectId}
use Rattle.aml_values.specs.Values.{Element, Elements, Holds, Int, Named, Pkg, more, none}
use Rattle.acpi_resources.specs.declared.mapping.EntryFault.{EntryFault}
use Rattle.acpi_resources.specs.declared.mapping.EntryFault.TheVariants as wrong
use Rattle.acpi_resources.specs.declared.mapping.Mapping.{Mapping}
use Rattle.acpi_resources.specs.declared.mapping.Source.{Source}
use Rattle.acpi_resources.specs.declared.mapping.Source.TheVariants.{Link, Global}
use Rattle.acpi_resources.specs.declared.route.Pin.{Pin}
use Rattle.acpi_resources.specs.declared.route.Pin.TheVariants.{A, B, C, D}

abbrev pub integer_of : Element → Option ℕ
integer_of (Holds (Int n)) = Some n
integer_of _ = None

-- the pins of a PCI device are numbered from 0
abbrev pub pin_of : ℕ → Option Pin
pin_of n = if n == 0 then Some A
    else (if n == 1 then Some B
    else (if n == 2 then Some C
    else (if n == 3 then Some D else None)))

-- the pin that an element is
abbrev pub pin_of_part : Element → Option Pin
pin_of_part part = option_and_then pin_of (integer_of part)

-- a name is a source whatever integer the index is
abbrev pub named : Option ObjectId → Option ℕ → Result Source EntryFault
named object (Some index) = Ok (Link object)
named object None = Err wrong.Index

-- without a link the index is the number of a global interrupt, which has 32 bits
abbrev pub numbered : Option ℕ → Result Source EntryFault
numbered (Some index) =
    if nat_lt index (2 ^ 32) then Ok (Global index) else Err wrong.GreatIndex
numbered None = Err wrong.Index

-- a source is a name, or 0, with which the index tells
abbrev pub source_of : Element → Element → Result Source EntryFault
source_of (Named object) index = named object (integer_of index)
source_of (Holds (Int n)) index =
    if n == 0 then numbered (integer_of index) else Err wrong.Source
source_of _ index = Err wrong.Source

-- what the parts say, each in its turn
abbrev pub with_source : ℕ → Pin → Result Source EntryFault → Result Mapping EntryFault
with_source address pin (Ok source) =
    Ok (record { address = address; pin = pin; source = source })
with_source address pin (Err fault) = Err fault

abbrev pub with_pin : ℕ → Option Pin → Result Source EntryFault → Result Mapping EntryFault
with_pin address (Some pin) source = with_source address pin source
with_pin address None source = Err wrong.Pin

abbrev pub with_address : Option ℕ → Option Pin → Result Source EntryFault →
    Result Mapping EntryFault
with_address (Some address) pin source = with_pin address pin source
with_address None pin source = Err wrong.Address

-- what an address, a pin, a source and an index say; the first that is none of these is told
abbrev pub mapping_of_four : Element → Element → Element → Element → Result Mapping EntryFault
mapping_of_four address pin source index =
    with_address (integer_of address) (pin_of_part pin) (source_of source index)

-- what the parts of an element say, which are just these four
abbrev pub mapping_of_parts : Elements → Result Mapping EntryFault
mapping_of_parts (more address (more pin (more source (more index none)))) =
    mapping_of_four address pin source index
mapping_of_parts _ = Err wrong.Parts

-- what an element says, if it says anything
abbrev pub mapping_of : Element → Result Mapping EntryFault
mapping_of (Holds (Pkg parts)) = mapping_of_parts parts
mapping_of _ = Err wrong.Parts

-- what keeps an element from saying anything
abbrev pub fault_of : Result Mapping EntryFault → Option EntryFault
fault_of (Ok mapping) = None
fault_of (Err fault) = Some fault
