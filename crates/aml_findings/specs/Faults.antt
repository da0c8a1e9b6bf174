-- What is wrong with a field that cannot be read and written: the first of it, for people.
use Rattle.std.specs.Prelude.{◌≡◌, ℕ, ◌%◌, ◌^◌, ◌&&◌, nat_le, nat_lt, Bool, if◌then◌else◌, Option, Some, None, option_and_then}
use Rattle.std.specs.Option.{is_none, option_map}
use Rattle.aml_namespace.specs.declared.link.Link.{Link}
use Rattle.aml_namespace.specs.declared.link.Link.TheVariants as link
use Rattle.aml_namespace.specs.Load.{Shown}
use Rattle.aml_objects.specs.Entries.{object_at}
use Rattle.aml_objects.specs.Widths.{size_bits}
use Rattle.aml_objects.specs.declared.object.AccessType.{AccessType}
use Rattle.aml_objects.specs.declared.object.Field.{Field}
use Rattle.aml_objects.specs.declared.object.Object.{Object}
use Rattle.aml_objects.specs.declared.object.Object.TheVariants as object
use Rattle.aml_objects.specs.declared.object.Region.{Region}
use Rattle.aml_objects.specs.declared.object.Through.{Through}
use Rattle.aml_objects.specs.declared.object.Through.TheVariants as through
use Rattle.aml_objects.specs.declared.object.UpdateRule.{UpdateRule}
use Rattle.aml_meaning.specs.declared.buffer_field.BufferField.{BufferField}
use Rattle.aml_meaning.specs.Owns.{field_at}
use Rattle.aml_meaning.specs.Reached.{other_bits, unit_width, usable}
use Rattle.aml_regions.specs.Fields.{bits_of, is_known_space}
use Rattle.aml_judged.specs.Judged.{Around}
use Rattle.aml_paths.specs.declared.scope.ObjectId.{ObjectId}
use Rattle.aml_findings.specs.declared.finding.FieldFault.{FieldFault}
use Rattle.aml_findings.specs.declared.finding.FieldFault.TheVariants as fault
use Rattle.aml_findings.specs.declared.finding.Finding.{Finding}
use Rattle.aml_findings.specs.declared.finding.Finding.TheVariants as finding

-- a number of bits that no field may have
abbrev pub sized_finding : ℕ → Finding
sized_finding bits = finding.Fault (fault.Bits bits)

-- whether a field has a bit, and no more than 2,048; that its last one lies below 2 ^ 64, which
-- `is_laid_out` of aml_meaning asks too, is a matter of its units
abbrev pub is_counted : ℕ → Bool
is_counted bits = nat_lt 0 bits && nat_le bits 2048

-- whether an update rule says nothing of the other bits
abbrev pub is_reserved : UpdateRule → Bool
is_reserved rule = is_none (other_bits rule)

-- how many bits a unit has
abbrev pub unit_bits : AccessType → Option ℕ
unit_bits access = option_map bits_of (unit_width access)

-- a field of a buffer that an own name is
abbrev pub own_finding : Option BufferField → Finding
own_finding (Some f) = sized_finding f.bits
own_finding None = finding.Nothing

module _ (here : Around) where
  -- the object with a number, if there is such a number
  abbrev pub named_object : Option ObjectId → Option Object
  named_object id = option_and_then (λ k. here.object k.0) id

  -- a region whose place or length is computed has no field; else a field's units need not lie in
  -- it
  abbrev pub bounded_finding : Field → ℕ → Option ℕ → Option ℕ → Finding
  bounded_finding f unit None length = finding.Fault fault.Place
  bounded_finding f unit (Some place) None = finding.Fault fault.Length
  bounded_finding f unit (Some place) (Some length) =
      finding.Units f.bit f.bits unit (length % 2 ^ here.width)

  abbrev pub placed_finding : Field → ℕ → Region → Finding
  placed_finding f unit r = if is_known_space r.space
      then bounded_finding f unit r.place r.length else finding.Fault (fault.Space r.space)

  abbrev pub in_region_finding : Field → ℕ → Option Object → Finding
  in_region_finding f unit (Some (object.Region r)) = placed_finding f unit r
  in_region_finding f unit o = finding.Fault fault.NoRegion

  -- of what is reached through an index field or a bank field no more is told
  abbrev pub reached_finding : Field → ℕ → Through → Finding
  reached_finding f unit (through.Region region) =
      in_region_finding f unit (named_object region.object)
  reached_finding f unit way = finding.Nothing

  abbrev pub accessed_finding : Field → Option ℕ → Finding
  accessed_finding f (Some unit) = reached_finding f unit f.through
  accessed_finding f None = finding.Fault fault.Access

  -- by its list, in this order; or else by how its units are reached
  abbrev pub listed_finding : Field → Finding
  listed_finding f = if f.is_connected then finding.Fault fault.Connected
      else if is_counted f.bits then
      if is_reserved f.rule.update then finding.Fault fault.Update
      else accessed_finding f (unit_bits f.rule.access)
      else sized_finding f.bits

  abbrev pub object_finding : Option Object → Finding
  object_finding (Some (object.Field f)) = listed_finding f
  object_finding (Some (object.BufferField f)) = sized_finding (size_bits here.width f.size)
  object_finding o = finding.Nothing

  -- by what a field's name means
  abbrev pub unusable_finding : Link → Finding
  unusable_finding (link.Field id) = object_finding (here.object id.0)
  unusable_finding (link.BufferField id) = object_finding (here.object id.0)
  unusable_finding (link.Own number) = own_finding (field_at here.kinds.fields number)
  unusable_finding name = finding.Nothing

-- law: a fault that is told of a field is why it cannot be read and written
abbrev pub FaultsAreReasons : Type 0
FaultsAreReasons =
    (here : Around) (ns : Shown) (f : Field) (told : FieldFault) →
    ((k : ℕ) → here.object k ≡ object_at ns.entries k) →
    listed_finding here f ≡ finding.Fault told → usable ns f ≡ None
