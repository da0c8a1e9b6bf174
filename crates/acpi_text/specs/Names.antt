-- The names of a namespace, as they are printed.
use Rattle.std.specs.Prelude.{ℕ, List, [], ◌∷◌, ◌++◌, codes, decimal, is_some, if◌then◌else◌}
use Rattle.std.specs.List.{flat_map}
use Rattle.acpi_text.specs.Text.{joined}
use Rattle.aml_objects.specs.Entries.{Entries, object_at}
use Rattle.aml_namespace.specs.Load.{Shown}
use Rattle.aml_path_text.specs.Paths.{path_of}
use Rattle.aml_paths.specs.Paths.{Path}
use Rattle.aml_paths.specs.Printed.{path_text}
use Rattle.aml_objects.specs.Widths.{bits_of, size_bits}
use Rattle.aml_objects.specs.declared.object.Content.{Content}
use Rattle.aml_objects.specs.declared.object.Content.TheVariants as content
use Rattle.aml_objects.specs.declared.object.Entry.{Entry}
use Rattle.aml_objects.specs.declared.object.Entry.TheVariants.{Own, Alias}
use Rattle.aml_objects.specs.declared.object.Object.{Object}
use Rattle.aml_objects.specs.declared.object.Object.TheVariants as object
use Rattle.aml_paths.specs.declared.scope.ObjectId.{ObjectId}

-- the first path of the object with a number, where there is one
abbrev pub object_text : Entries → ObjectId → List ℕ
object_text entries id = if is_some (object_at entries id.0) then path_text (path_of entries id.0)
    else codes "unresolved"

-- what is under a name of data: its kind, and how many bytes or elements it has
unfoldable pub content_text : Content → List ℕ
content_text content.Integer = codes "integer"
content_text (content.Buffer count) = codes "buffer " ++ decimal count
content_text (content.String count) = codes "string " ++ decimal count
content_text (content.Package count) = codes "package " ++ decimal count

-- the kind of an object, with a method's arguments and a field's bits, where integers have so many
-- bits
unfoldable pub kind_text : ℕ → Object → List ℕ
kind_text width object.Scope = codes "scope"
kind_text width object.Device = codes "device"
kind_text width object.Processor = codes "processor"
kind_text width object.PowerResource = codes "power"
kind_text width object.ThermalZone = codes "thermal"
kind_text width (object.Method method) = codes "method " ++ decimal method.args
kind_text width object.OsInterfaces = codes "method 1"
kind_text width (object.Data name) = content_text name.content
kind_text width (object.Region region) = codes "region"
kind_text width object.DataTableRegion = codes "region"
kind_text width (object.Field field) = codes "field " ++ decimal field.bits
kind_text width (object.BufferField field) =
    codes "bufferfield " ++ decimal (size_bits width field.size)
kind_text width (object.Mutex level) = codes "mutex"
kind_text width object.GlobalLock = codes "mutex"
kind_text width object.Event = codes "event"

-- what stands under a path: the kind of an object, or of an alias the first path of its object
unfoldable pub entry_text : Shown → Entry → List ℕ
entry_text ns (Own thing) = kind_text (bits_of ns.width) thing
entry_text ns (Alias id) = codes "alias " ++ path_text (path_of ns.entries id.0)

-- the line of a path and what stands under it
unfoldable pub entry_line : Shown → Path × Entry → List ℕ
entry_line ns (path, entry) =
    joined (path_text path ∷ codes " " ∷ entry_text ns entry ∷ codes "\n" ∷ [])

-- the lines of a namespace's names, in order of definition
abbrev pub names_text : Shown → List ℕ
names_text ns = flat_map (entry_line ns) ns.entries
