-- The objects that definitions make, by their operators and their parts (ACPI 6.5, 19.6).
use Rattle.std.specs.Prelude.{◌==◌, ◌-◌, ◌/◌, ◌%◌, ℕ, zero, suc, max, Option, Some, None, unwrap_or}
use Rattle.aml_operators.specs.declared.op.Op.{Op}
use Rattle.aml_operators.specs.declared.op.Op.TheVariants as op
use Rattle.aml_operators.specs.Tree.{Tree, Trees, Node, none, more, size_in, stop_of}
use Rattle.aml_operators.specs.Literal.{literal_of, number_in}
use Rattle.aml_objects.specs.declared.object.Object.{Object}
use Rattle.aml_objects.specs.declared.object.Object.TheVariants as object
use Rattle.aml_paths.specs.declared.scope.NamePlace.{NamePlace}
use Rattle.aml_objects.specs.declared.object.Reference.{Reference}
use Rattle.aml_paths.specs.declared.scope.Scope.{Scope}
use Rattle.aml_paths.specs.declared.scope.Scope.TheVariants.{Root, At}
use Rattle.aml_objects.specs.declared.object.Content.{Content}
use Rattle.aml_objects.specs.declared.object.Content.TheVariants as content
use Rattle.aml_objects.specs.declared.object.Source.TheVariants as source
use Rattle.aml_objects.specs.declared.object.CreatedFieldSize.{CreatedFieldSize}
use Rattle.aml_objects.specs.declared.object.CreatedFieldSize.TheVariants as size
use Rattle.aml_objects.specs.Enter.{Here}

abbrev pub at_of : Tree → ℕ
at_of (Node o at stop parts) = at

-- an integer literal, which a module's sizes, counts and indices are
abbrev pub literal : Tree → ℕ
literal t = unwrap_or (literal_of t) 0

-- the scope whose path has a number
abbrev pub scope_numbered : ℕ → Scope
scope_numbered zero = Root
scope_numbered (suc i) = At (record { 0 = i })

-- a name that stands here
abbrev pub name_place : Here → Tree → NamePlace
name_place here name =
    record { table = here.table; at = at_of name; scope = scope_numbered here.scope }

-- what is named here, and found once all tables are loaded
abbrev pub reference : Here → Tree → Reference
reference here name = record { name = name_place here name; object = None }

-- the first content of a name: a buffer has the greater of its size and its initialiser's length, a
-- string ends with a 00
abbrev pub buffer_content : Trees → Content
buffer_content (more size (more initialiser none)) =
    content.Buffer (max (literal size) (size_in initialiser))
buffer_content parts = content.Buffer 0

abbrev pub string_content : Trees → Content
string_content (more text rest) = content.String (size_in text - 1)
string_content none = content.String 0

abbrev pub package_content : Trees → Content
package_content (more count elements) = content.Package (number_in count)
package_content none = content.Package 0

abbrev pub sized_package_content : Trees → Content
sized_package_content (more count elements) = content.Package (literal count)
sized_package_content none = content.Package 0

abbrev pub content_in : Op → Trees → Content
content_in op.Buffer parts = buffer_content parts
content_in op.String parts = string_content parts
content_in op.Package parts = package_content parts
content_in op.VarPackage parts = sized_package_content parts
content_in o parts = content.Integer

abbrev pub content_of : Tree → Content
content_of (Node o at stop parts) = content_in o parts

abbrev pub data_of : Here → Tree → Object
data_of here t = object.Data (record {
  content = content_of t;
  source =
      source.Term here.table (record { at = at_of t; end = stop_of t }) (scope_numbered here.scope);
})

-- bits 2:0 of a method's flags are the number of arguments, bit 3 tells whether it is serialized,
-- bits 7:4 are the sync level
abbrev pub method_of : Here → ℕ → ℕ → Tree → Object
method_of here at flags body = object.Method (record {
  args = flags % 8;
  serialized = (flags / 8) % 2 == 1;
  sync_level = (flags / 16) % 16;
  table = here.table;
  at = at;
  body = record { at = at_of body; end = stop_of body };
})

abbrev pub buffer_field : Here → CreatedFieldSize → Tree → Tree → Object
buffer_field here size buffer index = object.BufferField
    (record { source = reference here buffer; index = literal index; size = size })

-- an object, with the place of its name
abbrev pub Named : Type 0
Named = Option (ℕ × Object)

-- what is named by the first part
abbrev pub named : Object → Trees → Named
named made (more name rest) = Some (at_of name, made)
named made none = None

abbrev pub named_data : Here → Trees → Named
named_data here (more name (more t none)) = Some (at_of name, data_of here t)
named_data here parts = None

abbrev pub named_method : Here → ℕ → Trees → Named
named_method here at (more name (more flags (more body none))) =
    Some (at_of name, method_of here at (number_in flags) body)
named_method here at parts = None

abbrev pub named_region : Trees → Named
named_region (more name (more space (more place (more length none)))) =
    Some (
      at_of name,
      object.Region (record {
        space = number_in space;
        place = literal_of place;
        length = literal_of length;
      }),
    )
named_region parts = None

-- bits 3:0 of a mutex's flags are its sync level, and bits 7:4 mean nothing
abbrev pub named_mutex : Trees → Named
named_mutex (more name (more flags none)) = Some (at_of name, object.Mutex (number_in flags % 16))
named_mutex parts = None

abbrev pub named_buffer_field : Here → CreatedFieldSize → Trees → Named
named_buffer_field here size (more buffer (more index (more name none))) =
    Some (at_of name, buffer_field here size buffer index)
named_buffer_field here size parts = None

abbrev pub named_bits : Here → Trees → Named
named_bits here (more buffer (more index (more bits (more name none)))) =
    Some (at_of name, buffer_field here (size.Bits (literal bits)) buffer index)
named_bits here parts = None

-- what a definition makes that makes one object
abbrev pub object_of : Here → Op → ℕ → Trees → Named
object_of here op.Name at parts = named_data here parts
object_of here op.Method at parts = named_method here at parts
object_of here op.Mutex at parts = named_mutex parts
object_of here op.Event at parts = named object.Event parts
object_of here op.DataTableRegion at parts = named object.DataTableRegion parts
object_of here op.OperationRegion at parts = named_region parts
object_of here op.CreateBitField at parts = named_buffer_field here size.Bit parts
object_of here op.CreateByteField at parts = named_buffer_field here size.Byte parts
object_of here op.CreateWordField at parts = named_buffer_field here size.Word parts
object_of here op.CreateDWordField at parts = named_buffer_field here size.DWord parts
object_of here op.CreateQWordField at parts = named_buffer_field here size.QWord parts
object_of here op.CreateField at parts = named_bits here parts
object_of here o at parts = None
