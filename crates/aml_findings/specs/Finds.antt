-- What rules find where they refuse, and what was wanted there, in the words of the rules. Tables
-- say what is told of which operands; the rules themselves are those of aml_judged.
use Rattle.std.specs.Prelude.{◌≡◌, ℕ, ◌+◌, ◌-◌, ◌*◌, ◌^◌, ◌==◌, ◌<◌, ◌⊎◌, nat_le, nat_lt, min, not, List, ◌∷◌, Bool, true, false, if◌then◌else◌, Option, Some, None, Result, Ok, Err, IsErr, slice_get}
use Rattle.std.specs.List.{last_or}
use Rattle.std.specs.Option.{option_map}
use Rattle.aml_causes.specs.declared.cause.Cause.{Cause}
use Rattle.aml_causes.specs.declared.cause.Cause.TheVariants as cause
use Rattle.aml_namespace.specs.declared.link.Link.{Link}
use Rattle.aml_namespace.specs.declared.link.Link.TheVariants as link
use Rattle.aml_objects.specs.declared.object.Object.{Object}
use Rattle.aml_objects.specs.declared.object.Object.TheVariants as object
use Rattle.aml_meaning.specs.declared.action.Action.{Action}
use Rattle.aml_meaning.specs.declared.action.Action.TheVariants as does
use Rattle.aml_meaning.specs.declared.action.Conversion.{Conversion}
use Rattle.aml_meaning.specs.declared.action.Comparison.{Comparison}
use Rattle.aml_meaning.specs.declared.action.Comparison.TheVariants as comparison
use Rattle.aml_meaning.specs.declared.mutex.TakenMutex.{TakenMutex}
use Rattle.aml_meaning.specs.declared.buffer_field.BufferField.{BufferField}
use Rattle.aml_meaning.specs.BufferFields.{first_bit}
use Rattle.aml_meaning.specs.Mutexes.{without_last}
use Rattle.aml_meaning.specs.Owns.{field_at}
use Rattle.aml_meaning.specs.Rules.{Place}
use Rattle.aml_kinds.specs.Kinds.{Kind, BufOf, Shape, places}
use Rattle.aml_judged.specs.Known.{end_within, slot_within, within}
use Rattle.aml_judged.specs.KindRules.{compared_kind, converted_kind, field_kind, integer_kind}
use Rattle.aml_judged.specs.Judged.{Around}
use Rattle.aml_known.specs.declared.env.Env.{Env}
use Rattle.aml_known.specs.declared.known.Known.{Known}
use Rattle.aml_known.specs.declared.known.Known.TheVariants as known
use Rattle.aml_known.specs.Views.{env_of, held_kind, kind_of, slot_of, slots_of}
use Rattle.aml_paths.specs.declared.memory.NoMemory.{NoMemory}
use Rattle.aml_paths.specs.declared.scope.ObjectId.{ObjectId}
use Rattle.aml_findings.specs.declared.finding.Finding.{Finding}
use Rattle.aml_findings.specs.declared.finding.Finding.TheVariants as finding
use Rattle.aml_findings.specs.declared.finding.Found.TheVariants as found
use Rattle.aml_findings.specs.declared.finding.NumberedSlot.TheVariants as slot
use Rattle.aml_findings.specs.declared.finding.Sort.{Sort}
use Rattle.aml_findings.specs.declared.finding.Sort.TheVariants as sort
use Rattle.aml_findings.specs.declared.finding.Wanted.{Wanted}
use Rattle.aml_findings.specs.declared.finding.Wanted.TheVariants as wanted
use Rattle.aml_findings.specs.declared.finds.ChangedSlot.{ChangedSlot}

-- what is told of a method that is refused: what a rule found last, and of V11 the statement of its
-- table with which the steps of its block reach 2^63, if one was told
abbrev pub refused_finding : Cause → Finding → ℕ → Option ℕ → Finding
refused_finding cause.BoundTooLarge last table (Some at) = finding.Steps table at
refused_finding cause.BoundTooLarge last table None = finding.Nothing
refused_finding _ last table reached = last

-- what is of a kind, where something else was wanted
abbrev pub kind_found : Known → Wanted → Finding
kind_found kind instead = finding.Other (found.Kind kind) instead

-- an object of a sort, where something else was wanted
abbrev pub object_found : Sort → Wanted → Finding
object_found which instead = finding.Other (found.Object which) instead

-- an integer is wanted
abbrev pub integer_finding : Known → Finding
integer_finding kind = kind_found kind wanted.Integer

-- two integers are wanted: of the first it is told, where that is none
abbrev pub integers_finding : Known → Known → Finding
integers_finding (known.Int n) k = integer_finding k
integers_finding j k = integer_finding j

-- two integers, the second of which may be a divisor, which is what is wrong with two integers
abbrev pub combined_finding : Known → Known → Finding
combined_finding (known.Int n) (known.Int m) = kind_found (known.Int m) wanted.Divisor
combined_finding j k = integers_finding j k

-- two of one kind: of the first it is told, where it is of none that are compared
abbrev pub equal_finding : Known → Known → Finding
equal_finding (known.Int n) k = kind_found k wanted.Integer
equal_finding (known.Buf n) k = kind_found k wanted.Buffer
equal_finding (known.Str n) k = kind_found k wanted.Text
equal_finding j k = kind_found j wanted.Comparable

-- LEqual compares two of one kind, every other operator two integers
abbrev pub compared_finding : Comparison → Known → Known → Finding
compared_finding comparison.LEqual j k = equal_finding j k
compared_finding f j k = integers_finding j k

-- a conversion takes integers and buffers; with one of these all that may be wrong is that a
-- buffer is empty
abbrev pub converted_finding : Known → Finding
converted_finding (known.Int n) = kind_found (known.Int n) wanted.FilledBuffer
converted_finding (known.Buf n) = kind_found (known.Buf n) wanted.FilledBuffer
converted_finding kind = kind_found kind wanted.IntegerOrBuffer

-- so many bytes together, told as the greatest number where there are more
abbrev pub joined_finding : ℕ → ℕ → Finding
joined_finding a b = finding.Joined (min (a + b) (2 ^ 64 - 1))

-- two buffers or two strings: with two of one kind there are too many bytes
abbrev pub concatenated_finding : Known → Known → Finding
concatenated_finding (known.Buf a) (known.Buf b) = joined_finding a b
concatenated_finding (known.Str a) (known.Str b) = joined_finding a b
concatenated_finding (known.Buf a) k = kind_found k wanted.Buffer
concatenated_finding (known.Str a) k = kind_found k wanted.Text
concatenated_finding j k = kind_found j wanted.BufferOrText

-- an index into something so long, if its length is known
abbrev pub index_finding : Known → Option ℕ → Finding
index_finding (known.Int greatest) length = finding.Index greatest length
index_finding kind length = integer_finding kind

-- an index into a package of so many elements: below that number it is an element that is wrong
abbrev pub element_finding : Known → ℕ → Finding
element_finding (known.Int greatest) length = if nat_lt greatest length
    then finding.Element greatest length else finding.Index greatest (Some length)
element_finding kind length = integer_finding kind

-- an Index that is read, of what is of the first kind at what is of the second
abbrev pub led_finding : (ℕ → Shape) → Known → Known → Finding
led_finding shapes (known.Buf size) k = index_finding k (Some size)
led_finding shapes (known.Str size) k = index_finding k (Some size)
led_finding shapes (known.Pkg shape) k = element_finding k (places (shapes shape.0))
led_finding shapes known.AnyPkg k = index_finding k None
led_finding shapes j k = kind_found j wanted.Sized

-- it is a package of a shape, and memory was wanted where its length was asked: no length is told
abbrev pub WantsLength : Known → Known → Finding → Type 0
WantsLength (known.Pkg shape) k result = result ≡ index_finding k None
WantsLength j k result = ⊥

abbrev pub FindsLed : (ℕ → Shape) → Known → Known → Finding → Type 0
FindsLed shapes j k result = (result ≡ led_finding shapes j k) ⊎ WantsLength j k result

-- what a name holds takes what is of another kind, if it holds anything
abbrev pub stored_finding : Option Known → Known → Finding
stored_finding (Some (known.Pkg shape)) kind = kind_found kind wanted.NoStore
stored_finding (Some known.AnyPkg) kind = kind_found kind wanted.NoStore
stored_finding (Some old) kind = kind_found kind (wanted.Within old)
stored_finding None kind = finding.Other found.Unmade wanted.Target

-- a field of a kind takes integers, and a wide one a buffer of just its bytes
abbrev pub given_to : Kind → Known → Finding
given_to (BufOf size) kind = kind_found kind (wanted.IntegerOr (known.Buf size))
given_to field kind = integer_finding kind

abbrev pub given_finding : ℕ → ℕ → Known → Finding
given_finding width bits kind = given_to (field_kind width bits) kind

-- whether a field lies in a buffer of so many bytes
abbrev pub lies_in : BufferField → ℕ → Bool
lies_in f size = nat_le (first_bit f + f.bits) (8 * size)

-- the sort of an object
abbrev pub sort_of : Option Object → Sort
sort_of (Some object.Scope) = sort.Scope
sort_of (Some object.Device) = sort.Device
sort_of (Some object.Processor) = sort.Processor
sort_of (Some object.PowerResource) = sort.PowerResource
sort_of (Some object.ThermalZone) = sort.ThermalZone
sort_of (Some (object.Method m)) = sort.Method
sort_of (Some object.OsInterfaces) = sort.Method
sort_of (Some (object.Data d)) = sort.Data
sort_of (Some (object.Region r)) = sort.Region
sort_of (Some object.DataTableRegion) = sort.Region
sort_of (Some (object.Field f)) = sort.Field
sort_of (Some (object.BufferField f)) = sort.BufferField
sort_of (Some (object.Mutex level)) = sort.Mutex
sort_of (Some object.GlobalLock) = sort.Mutex
sort_of (Some object.Event) = sort.Event
sort_of None = sort.Nothing

-- the sort of an own name, which may be a field of a buffer
abbrev pub own_sort : Option BufferField → Sort
own_sort (Some f) = sort.BufferField
own_sort None = sort.Data

module _ (here : Around) where
  -- the sort of what a name means
  abbrev pub sort_named : Link → Sort
  sort_named (link.Method id) = sort.Method
  sort_named link.OsInterfaces = sort.Method
  sort_named (link.Data id) = sort.Data
  sort_named (link.Own number) = own_sort (field_at here.kinds.fields number)
  sort_named (link.Field id) = sort.Field
  sort_named (link.BufferField id) = sort.BufferField
  sort_named (link.Object id) = sort_of (here.object id.0)
  sort_named link.Missing = sort.Nothing

  -- a name means an object, where something else was wanted
  abbrev pub named_finding : Link → Wanted → Finding
  named_finding name instead = object_found (sort_named name) instead

  -- an operand that is notified: a local or an argument is not read
  abbrev pub notified_finding : Action → ℕ → Finding
  notified_finding does.Name at = named_finding (here.link at) wanted.Notifiable
  notified_finding action at = finding.Other found.Slot wanted.Notifiable

  -- a byte is stored at an index of the name at a place, which holds what is of a kind: the index
  -- is told where it may be too great, else what is stored
  abbrev pub byte_finding : ℕ → Option Known → Known → Known → Finding
  byte_finding from (Some (known.Buf size)) (known.Int greatest) kind = if nat_lt greatest size
      then integer_finding kind else finding.Index greatest (Some size)
  byte_finding from (Some (known.Buf size)) at kind = integer_finding at
  byte_finding from (Some old) at kind = kind_found old wanted.Buffer
  byte_finding from None at kind = named_finding (here.link from) wanted.Buffer

  -- a field of a buffer, by the kind of its source, if that holds anything
  abbrev pub buffer_field_finding : BufferField → Option Known → Finding
  buffer_field_finding f (Some (known.Buf size)) = finding.Field f.byte f.bit f.bits size
  buffer_field_finding f (Some old) = kind_found old wanted.Buffer
  buffer_field_finding f None = named_finding f.source wanted.Buffer

  -- it is stored into: what is stored is told where the field lies in its buffer
  abbrev pub buffer_field_stored_finding : BufferField → Option Known → Known → Finding
  buffer_field_stored_finding f (Some (known.Buf size)) kind = if lies_in f size
      then given_finding here.width f.bits kind else finding.Field f.byte f.bit f.bits size
  buffer_field_stored_finding f old kind = buffer_field_finding f old

-- the level of a mutex that is taken, if one is, and the greatest of those that are held, if that
-- is known
abbrev pub level_finding : Option ℕ → Option ℕ → Finding
level_finding (Some taken) (Some held) = finding.Level taken held
level_finding taken held = finding.Nothing

-- a mutex is released that was not taken last: that which was, if any is held, where it is known
abbrev pub released_finding : ObjectId → Result (Option TakenMutex) NoMemory → Finding
released_finding mutex (Ok last) =
    finding.Released mutex (option_map (λ (m : TakenMutex). m.object) last)
released_finding mutex (Err e) = finding.Nothing

-- a mutex is held where none may be: that which was taken last, where it is known
abbrev pub still_held_finding : Result (Option TakenMutex) NoMemory → Finding
still_held_finding (Ok (Some last)) = finding.StillHeld last.object
still_held_finding (Ok None) = finding.Nothing
still_held_finding (Err e) = finding.Nothing

-- more is told than the cause tells
abbrev pub IsTold : Finding → Type 0
IsTold finding.Nothing = ⊥
IsTold result = Unit {0}

module _ (shapes : ℕ → Shape) where
  -- the kind of a slot, if it has one
  abbrev pub slot_at : List (Option Known) → ℕ → Option Kind
  slot_at slots number = held_kind (slice_get (slots_of shapes slots) number)

  -- whether what a slot holds is within what it began with
  abbrev pub keeps : List (Option Known) → List (Option Known) → ℕ → Bool
  keeps ends starts number = slot_within (slot_at ends number) (slot_at starts number)

  -- all of the first so many do
  pub record Keep (ends starts : List (Option Known)) (count : ℕ) : Type 0 where
    pub kept : (number : ℕ) → number < count → keeps ends starts number ≡ true

  -- the first slot that does not, with what it began with and what it holds
  pub record IsFirstChanged (ends starts : List (Option Known)) (change : ChangedSlot)
      : Type 0 where
    pub began : slot_at starts change.number ≡ Some (kind_of shapes change.began)
    pub held : slot_at ends change.number ≡ slot_of shapes change.held
    pub changed : keeps ends starts change.number ≡ false
    pub first : Keep ends starts change.number

  -- it is found, if one of the eight does not
  abbrev pub FindsChanged :
      List (Option Known) → List (Option Known) → Option ChangedSlot → Type 0
  FindsChanged ends starts (Some change) = IsFirstChanged ends starts change
  FindsChanged ends starts None = Keep ends starts 8

  -- a turn's end, and where turns begin: the first local that changed is told, else the first
  -- argument that did
  abbrev pub FindsEnd : Env → Env → Finding → Type 0
  FindsEnd end start (finding.Turn (slot.Local number) began ends) =
      IsFirstChanged end.locals start.locals
      (record { number = number; began = began; held = ends })
  FindsEnd end start (finding.Turn (slot.Argument number) began ends) =
      Keep end.locals start.locals 8 × IsFirstChanged end.args start.args
      (record { number = number; began = began; held = ends })
  FindsEnd end start finding.Nothing =
      Keep end.locals start.locals 8 × Keep end.args start.args 8
  FindsEnd end start result = ⊥

  -- which end is told: that of the Continues where the body's own is within what it began with
  abbrev pub told_end : (ℕ → List TakenMutex) → Env → Option Env → Env → Env
  told_end lists end (Some continued) start =
      if end_within (env_of shapes lists end) (env_of shapes lists start) then continued else end
  told_end lists end None start = end

  -- whether what is of a kind is what was wanted; a divisor and what is no value no kind tells
  abbrev pub meets : Wanted → Known → Bool
  meets wanted.Integer (known.Int n) = true
  meets wanted.Buffer (known.Buf n) = true
  meets wanted.Text (known.Str n) = true
  meets wanted.IntegerOrBuffer (known.Int n) = true
  meets wanted.IntegerOrBuffer (known.Buf n) = true
  meets wanted.BufferOrText (known.Buf n) = true
  meets wanted.BufferOrText (known.Str n) = true
  meets wanted.Sized (known.Buf n) = true
  meets wanted.Sized (known.Str n) = true
  meets wanted.Sized (known.Pkg s) = true
  meets wanted.Sized known.AnyPkg = true
  meets wanted.Comparable (known.Int n) = true
  meets wanted.Comparable (known.Buf n) = true
  meets wanted.Comparable (known.Str n) = true
  meets wanted.FilledBuffer (known.Buf n) = not (n == 0)
  meets (wanted.IntegerOr wide) (known.Int n) = true
  meets (wanted.IntegerOr wide) kind = within (kind_of shapes kind) (kind_of shapes wide)
  meets (wanted.Within old) kind = within (kind_of shapes kind) (kind_of shapes old)
  meets instead kind = false

  -- what is found is not what was wanted
  abbrev pub IsUnmet : Finding → Type 0
  IsUnmet (finding.Other (found.Kind kind) instead) = meets instead kind ≡ false
  IsUnmet (finding.Released mutex (Some last)) = (last.0 == mutex.0) ≡ false
  IsUnmet result = Unit {0}

-- laws: where a rule of kinds or of mutexes refuses, what is found is not what was wanted
abbrev pub IntegersAreUnmet : Type 0
IntegersAreUnmet = (shapes : ℕ → Shape) (p : Place) (k : Known) →
    IsErr (integer_kind p (kind_of shapes k)) → IsUnmet shapes (integer_finding k)

abbrev pub ComparedAreUnmet : Type 0
ComparedAreUnmet =
    (shapes : ℕ → Shape) (width : ℕ) (f : Comparison) (p : Place) (j : Known) (q : Place)
    (k : Known) →
    IsErr (compared_kind width f p (kind_of shapes j) q (kind_of shapes k)) →
    IsUnmet shapes (compared_finding f j k)

abbrev pub ConvertedAreUnmet : Type 0
ConvertedAreUnmet =
    (shapes : ℕ → Shape) (width : ℕ) (f : Conversion) (op p : Place) (k : Known) →
    IsErr (converted_kind width f op p (kind_of shapes k)) → IsUnmet shapes (converted_finding k)

-- of those that are held, the last is not the one that is released
abbrev pub ReleasedAreUnmet : Type 0
ReleasedAreUnmet =
    (shapes : ℕ → Shape) (mutex : ObjectId) (held : List TakenMutex) →
    without_last mutex.0 held ≡ None →
    IsUnmet shapes (released_finding mutex (Ok (last_or None held)))

-- where any is held, the last is told
abbrev pub StillHeldAreTold : Type 0
StillHeldAreTold = (first : TakenMutex) (more : List TakenMutex) →
    IsTold (still_held_finding (Ok (last_or None (first ∷ more))))

-- of these two it is so whatever the rule
abbrev pub CombinedAreUnmet : Type 0
CombinedAreUnmet = (shapes : ℕ → Shape) (j k : Known) → IsUnmet shapes (combined_finding j k)

abbrev pub ConcatenatedAreUnmet : Type 0
ConcatenatedAreUnmet =
    (shapes : ℕ → Shape) (j k : Known) → IsUnmet shapes (concatenated_finding j k)
