-- What rules found where they refuse and what they wanted, in words.
use Rattle.std.specs.Prelude.{ℕ, ◌-◌, ◌^◌, ◌==◌, List, [], ◌∷◌, ◌++◌, Option, Some, None, codes, decimal, if◌then◌else◌}
use Rattle.acpi_text.specs.Text.{joined}
use Rattle.aml_findings.specs.declared.finding.Change.{Change}
use Rattle.aml_findings.specs.declared.finding.Change.TheVariants as change
use Rattle.aml_findings.specs.declared.finding.FieldFault.{FieldFault}
use Rattle.aml_findings.specs.declared.finding.FieldFault.TheVariants as fault
use Rattle.aml_findings.specs.declared.finding.Finding.{Finding}
use Rattle.aml_findings.specs.declared.finding.Finding.TheVariants as finding
use Rattle.aml_findings.specs.declared.finding.Found.{Found}
use Rattle.aml_findings.specs.declared.finding.Found.TheVariants as found
use Rattle.aml_findings.specs.declared.finding.LoopLack.{LoopLack}
use Rattle.aml_findings.specs.declared.finding.LoopLack.TheVariants as lack
use Rattle.aml_findings.specs.declared.finding.NumberedSlot.{NumberedSlot}
use Rattle.aml_findings.specs.declared.finding.NumberedSlot.TheVariants as slot
use Rattle.aml_findings.specs.declared.finding.Sort.{Sort}
use Rattle.aml_findings.specs.declared.finding.Sort.TheVariants as sort
use Rattle.aml_findings.specs.declared.finding.Wanted.{Wanted}
use Rattle.aml_findings.specs.declared.finding.Wanted.TheVariants as wanted
use Rattle.aml_known.specs.declared.accepted.Yield.{Yield}
use Rattle.aml_known.specs.declared.accepted.Yield.TheVariants as yield
use Rattle.aml_known.specs.declared.known.Known.{Known}
use Rattle.aml_known.specs.declared.known.Known.TheVariants as known
use Rattle.aml_namespace.specs.Bodies.{bytes_of}
use Rattle.aml_namespace.specs.Load.{Shown}
use Rattle.aml_objects.specs.Widths.{bits_of}
use Rattle.aml_path_text.specs.Paths.{path_of}
use Rattle.aml_paths.specs.Printed.{path_text}
use Rattle.aml_place_text.specs.Place.{standing_text}
use Rattle.aml_paths.specs.declared.scope.ObjectId.{ObjectId}

-- the kind of integers up to one, where integers have so many bits
unfoldable pub integer_text : ℕ → ℕ → List ℕ
integer_text bits most = if most == 2 ^ bits - 1 then codes "int" else codes "int:" ++ decimal most

-- a kind
unfoldable pub kind_text : ℕ → Known → List ℕ
kind_text bits (known.Int most) = integer_text bits most
kind_text bits (known.Buf size) = codes "buf:" ++ decimal size
kind_text bits (known.Str size) = codes "str:" ++ decimal size
kind_text bits (known.Pkg shape) = codes "pkg of one shape"
kind_text bits known.AnyPkg = codes "pkg"
kind_text bits known.Mixed = codes "any kind"

-- the sort of an object
abbrev pub sort_words : Sort → List ℕ
sort_words sort.Scope = codes "a scope"
sort_words sort.Device = codes "a device"
sort_words sort.Processor = codes "a processor"
sort_words sort.PowerResource = codes "a power resource"
sort_words sort.ThermalZone = codes "a thermal zone"
sort_words sort.Method = codes "a method"
sort_words sort.Data = codes "a data name"
sort_words sort.Region = codes "an operation region"
sort_words sort.Field = codes "a field of a region"
sort_words sort.BufferField = codes "a field of a buffer"
sort_words sort.Mutex = codes "a mutex"
sort_words sort.Event = codes "an event"
sort_words sort.Nothing = codes "no object"

-- what was found
unfoldable pub found_text : ℕ → Found → List ℕ
found_text bits (found.Kind kind) = kind_text bits kind
found_text bits (found.Object kind) = sort_words kind
found_text bits found.Slot = codes "a local or an argument"
found_text bits found.Unmade = codes "a name that is made further on"

-- what was wanted, where it has no kind of its own
abbrev pub wanted_words : Wanted → List ℕ
wanted_words wanted.Integer = codes "int"
wanted_words wanted.Buffer = codes "buf"
wanted_words wanted.Text = codes "str"
wanted_words wanted.IntegerOrBuffer = codes "int or buf"
wanted_words wanted.BufferOrText = codes "buf or str"
wanted_words wanted.Sized = codes "buf, str or pkg"
wanted_words wanted.Comparable = codes "int, buf or str"
wanted_words wanted.FilledBuffer = codes "a buffer of 1 byte or more"
wanted_words wanted.Divisor = codes "an integer literal other than 0"
wanted_words wanted.Value = codes "a value"
wanted_words wanted.Target = codes "a name or a field that takes a value"
wanted_words wanted.NoStore = codes "no store into a name that holds a package"
wanted_words wanted.Mutex = codes "a mutex"
wanted_words wanted.Notifiable = codes "a device, a processor or a thermal zone"
wanted_words (wanted.Within kind) = codes "a kind"
wanted_words (wanted.IntegerOr kind) = codes "a kind"

-- what was wanted
unfoldable pub wanted_text : ℕ → Wanted → List ℕ
wanted_text bits (wanted.Within kind) = kind_text bits kind
wanted_text bits (wanted.IntegerOr kind) = codes "int or " ++ kind_text bits kind
wanted_text bits other = wanted_words other

-- something else than what was wanted
unfoldable pub other_text : ℕ → Found → Wanted → List ℕ
other_text bits what instead =
    joined (codes ": found " ∷ found_text bits what ∷ codes ", wanted " ∷ wanted_text bits instead
    ∷ [])

-- what a call gives that need not give a value
unfoldable pub given_text : ℕ → Yield → List ℕ
given_text bits (yield.Always kind) = []
given_text bits (yield.Sometimes kind) =
    joined (codes ": found " ∷ kind_text bits kind
    ∷ codes " on some ways alone, wanted a value on each" ∷ [])
given_text bits yield.Never = codes ": found no value on any way"

-- a local or an argument
unfoldable pub slot_text : NumberedSlot → List ℕ
slot_text (slot.Local number) = codes "Local" ++ decimal number
slot_text (slot.Argument number) = codes "Arg" ++ decimal number

-- what a slot holds, if it holds something for certain
unfoldable pub end_text : ℕ → Option Known → List ℕ
end_text bits (Some kind) = kind_text bits kind
end_text bits None = codes "what may be unset"

-- what a local or an argument holds where turns begin, and where one ends
unfoldable pub turn_text : ℕ → NumberedSlot → Known → Option Known → List ℕ
turn_text bits which began ends =
    joined (codes ": found " ∷ end_text bits ends ∷ codes " in " ∷ slot_text which
    ∷ codes " where a turn ends, wanted " ∷ kind_text bits began ∷ codes " as where it began"
    ∷ [])

-- what is wrong with a field, where that is no number
abbrev pub fault_words : FieldFault → List ℕ
fault_words fault.Connected =
    codes ": found a Connection or an extended access before it in its list, wanted neither"
fault_words fault.Access =
    codes ": found access for buffers or a reserved one, wanted AnyAcc, ByteAcc, WordAcc, DWordAcc or QWordAcc"
fault_words fault.Update =
    codes ": found the reserved update rule, wanted Preserve, WriteAsOnes or WriteAsZeros"
fault_words fault.NoRegion =
    codes ": found a field of no OperationRegion that the tables define, wanted a field of one"
fault_words fault.Place =
    codes ": found a region whose first place is computed, wanted an integer literal"
fault_words fault.Length =
    codes ": found a region whose length is computed, wanted an integer literal"
fault_words (fault.Bits bits) = []
fault_words (fault.Space space) = []

-- what is wrong with a field
unfoldable pub fault_text : FieldFault → List ℕ
fault_text (fault.Bits bits) =
    joined (codes ": found " ∷ decimal bits ∷ codes " bits, wanted 1 to 2048" ∷ [])
fault_text (fault.Space space) =
    joined (codes ": found a region of space " ∷ decimal space ∷ codes ", wanted 0 (mem), 1 (io), 2 (pci), 3 (ec) or 5 (cmos)"
    ∷ [])
fault_text other = fault_words other

-- how a loop's local is to change in each turn
abbrev pub change_words : Change → List ℕ
change_words change.OneMore = codes "one more"
change_words change.OneLess = codes "one less"

-- a loop's local that changes otherwise than is wanted
unfoldable pub otherwise_text : ℕ → Change → List ℕ
otherwise_text number wanted =
    joined (codes ": found a Continue before or other changes of Local" ∷ decimal number
    ∷ codes ", wanted it made " ∷ change_words wanted ∷ codes " once, in no If or While"
    ∷ [])

-- what a loop lacks that has no shape
unfoldable pub lack_text : LoopLack → List ℕ
lack_text lack.Test = codes
    ": found a test of another form, wanted a local, LLess (Local0, 5) or LGreater (Local0, 5), of any local and literal in this order"
lack_text (lack.Limit number) =
    joined (codes ": found Local" ∷ decimal number
    ∷ codes " compared with no integer literal, wanted it compared with one" ∷ [])
lack_text (lack.Unchanged number wanted) =
    joined (codes ": found no store into Local" ∷ decimal number
    ∷ codes " in the body, wanted it made " ∷ change_words wanted
    ∷ codes " by one statement of the body itself, in no If or While" ∷ [])
lack_text (lack.Otherwise number wanted) = otherwise_text number wanted

-- what was found and what was wanted, behind a colon, where no object's path is told
unfoldable pub finding_text : ℕ → Finding → List ℕ
finding_text bits finding.Nothing = []
finding_text bits (finding.Released mutex last) = []
finding_text bits (finding.StillHeld last) = []
finding_text bits (finding.Steps table at) = []
finding_text bits (finding.Other what instead) = other_text bits what instead
finding_text bits (finding.Index greatest (Some length)) =
    joined (codes ": found an index up to " ∷ decimal greatest ∷ codes ", wanted one below "
    ∷ decimal length ∷ [])
finding_text bits (finding.Index greatest None) =
    joined (codes ": found an index up to " ∷ decimal greatest
    ∷ codes ", wanted a length that is known" ∷ [])
finding_text bits (finding.Element greatest length) =
    joined (codes ": found an index up to " ∷ decimal greatest ∷ codes " of " ∷ decimal length
    ∷ codes " elements, wanted a value there" ∷ [])
finding_text bits (finding.Field byte bit count length) =
    joined (codes ": found " ∷ decimal count ∷ codes " bits from bit " ∷ decimal bit
    ∷ codes " of byte " ∷ decimal byte ∷ codes " on, wanted them within buf:" ∷ decimal length
    ∷ [])
finding_text bits (finding.Joined bytes) =
    joined (codes ": found " ∷ decimal bytes ∷ codes " bytes, wanted 65536 at most" ∷ [])
finding_text bits (finding.Given given) = given_text bits given
finding_text bits (finding.Turn which began ends) = turn_text bits which began ends
finding_text bits (finding.Level taken held) =
    joined (codes ": found level " ∷ decimal taken ∷ codes ", wanted " ∷ decimal held
    ∷ codes " or more" ∷ [])
finding_text bits (finding.Fault fault) = fault_text fault
finding_text bits (finding.Units at count unit length) =
    joined (codes ": found " ∷ decimal count ∷ codes " bits from bit " ∷ decimal at
    ∷ codes " on in units of " ∷ decimal unit ∷ codes " bits, wanted whole units within the "
    ∷ decimal length ∷ codes " bytes of a region below 2^64" ∷ [])
finding_text bits (finding.Lack lack) = lack_text lack

-- the path of an object
abbrev pub object_path : Shown → ObjectId → List ℕ
object_path ns id = path_text (path_of ns.entries id.0)

-- which mutex was wanted where one is released: the one that was taken last, if any is held
abbrev pub last_text : Shown → Option ObjectId → List ℕ
last_text ns (Some last) =
    codes ", wanted one of " ++ object_path ns last ++ codes ", the last taken of those held"
last_text ns None = codes ", wanted none where no mutex is held"

-- a mutex that is released, and the one that was wanted
abbrev pub released_text : Shown → ObjectId → Option ObjectId → List ℕ
released_text ns mutex last =
    codes ": found a release of " ++ object_path ns mutex ++ last_text ns last

-- the mutex that was taken last of those that are still held
abbrev pub still_held_text : Shown → ObjectId → List ℕ
still_held_text ns last =
    codes ": found " ++ object_path ns last ++ codes " still held (each Acquire takes its mutex here, whatever its timeout), wanted no mutex held"

-- the statement with which the steps of its block reach 2^63, by its place
unfoldable pub reached_place : ℕ → List ℕ
reached_place at = codes ": found 2^63 steps reached at byte " ++ decimal at

-- the same with what stands there
abbrev pub reached_text : Shown → ℕ → ℕ → List ℕ
reached_text ns table at =
    reached_place at ++ (standing_text (bytes_of ns.tables table) at ++ codes ", wanted fewer")

-- what was found and what was wanted, behind a colon
abbrev pub told_text : Shown → Finding → List ℕ
told_text ns (finding.Released mutex last) = released_text ns mutex last
told_text ns (finding.StillHeld last) = still_held_text ns last
told_text ns (finding.Steps table at) = reached_text ns table at
told_text ns other = finding_text (bits_of ns.width) other
