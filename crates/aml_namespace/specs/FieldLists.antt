-- The fields of a field list, one behind the other (ACPI 6.5, 19.6, Field, and 20.2.5.2).
use Rattle.std.specs.Prelude.{◌==◌, ◌+◌, ◌-◌, ◌^◌, ◌/◌, ◌%◌, ℕ, min, Option, Some, None, true, false, if◌then◌else◌}
use Rattle.aml_operators.specs.declared.op.Op.TheVariants as op
use Rattle.aml_operators.specs.Literal.{number_in}
use Rattle.aml_operators.specs.Tree.{Tree, Trees, Node, none, more}
use Rattle.aml_objects.specs.declared.object.Field.{Field}
use Rattle.aml_objects.specs.declared.object.Through.{Through}
use Rattle.aml_objects.specs.declared.object.FieldRule.{FieldRule}
use Rattle.aml_objects.specs.declared.object.AccessType.{AccessType}
use Rattle.aml_objects.specs.declared.object.AccessType.TheVariants as access
use Rattle.aml_objects.specs.declared.object.UpdateRule.{UpdateRule}
use Rattle.aml_objects.specs.declared.object.UpdateRule.TheVariants as update
use Rattle.aml_namespace.specs.declared.fields.Cursor.{Cursor}
use Rattle.aml_namespace.specs.Made.{at_of}

-- bits 3:0 of a field list's flags, or of an access type
abbrev pub access_of : ℕ → AccessType
access_of n =
    if n % 16 == 0 then access.Any
    else (if n % 16 == 1 then access.Byte
    else (if n % 16 == 2 then access.Word
    else (if n % 16 == 3 then access.DWord
    else (if n % 16 == 4 then access.QWord else access.Other))))

-- bits 6:5 of the flags
abbrev pub update_of : ℕ → UpdateRule
update_of n =
    if n / 32 % 4 == 0 then update.Preserve
    else (if n / 32 % 4 == 1 then update.Ones
    else (if n / 32 % 4 == 2 then update.Zeros else update.Reserved))

abbrev pub rule_of : ℕ → FieldRule
rule_of flags =
    record { access = access_of flags; lock = flags / 16 % 2 == 1; update = update_of flags }

-- the beginning of a field list
abbrev pub list_start : ℕ → Cursor
list_start flags = record { bit = 0; rule = rule_of flags; is_connected = false }

-- so many bits on; no list is so long that the number is cut
abbrev pub moved : Cursor → ℕ → Cursor
moved cursor bits = record cursor { bit = min (cursor.bit + bits) (2 ^ 64 - 1) }

abbrev pub with_access : Cursor → ℕ → Cursor
with_access cursor n = record cursor { rule = record cursor.rule { access = access_of n } }

-- behind a connection or an extended access
abbrev pub connected : Cursor → Cursor
connected cursor = record cursor { is_connected = true }

abbrev pub behind_field : Cursor → Trees → Cursor
behind_field cursor (more name (more bits none)) = moved cursor (number_in bits)
behind_field cursor parts = cursor

abbrev pub behind_bits : Cursor → Trees → Cursor
behind_bits cursor (more bits rest) = moved cursor (number_in bits)
behind_bits cursor none = cursor

abbrev pub behind_access : Cursor → Trees → Cursor
behind_access cursor (more access rest) = with_access cursor (number_in access)
behind_access cursor none = cursor

-- behind an item
abbrev pub behind : Cursor → Tree → Cursor
behind cursor (Node op.NamedField at stop parts) = behind_field cursor parts
behind cursor (Node op.ReservedField at stop parts) = behind_bits cursor parts
behind cursor (Node op.AccessField at stop parts) = behind_access cursor parts
behind cursor (Node op.ExtendedAccessField at stop parts) = connected (behind_access cursor parts)
behind cursor (Node op.ConnectField at stop parts) = connected cursor
behind cursor t = cursor

-- the field that a named item makes, with the place of its name
abbrev pub field_in : Through → Cursor → Trees → Option (ℕ × Field)
field_in through cursor (more name (more bits none)) =
    Some (
      at_of name,
      record {
        through = through;
        bit = cursor.bit;
        bits = number_in bits;
        rule = cursor.rule;
        is_connected = cursor.is_connected;
      },
    )
field_in through cursor parts = None

abbrev pub field_of : Through → Cursor → Tree → Option (ℕ × Field)
field_of through cursor (Node op.NamedField at stop parts) = field_in through cursor parts
field_of through cursor t = None
