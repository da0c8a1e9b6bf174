-- The object that a cause is about: the region of a field, or the method that is called.
use Rattle.std.specs.Prelude.{ℕ, List, [], ◌++◌, Bool, true, false, Option, Some, None, codes, if◌then◌else◌}
use Rattle.aml_causes.specs.declared.cause.Cause.{Cause}
use Rattle.aml_causes.specs.declared.cause.Cause.TheVariants as cause
use Rattle.aml_causes.specs.declared.cause.Refusal.{Refusal}
use Rattle.aml_findings.specs.declared.finding.FieldFault.{FieldFault}
use Rattle.aml_findings.specs.declared.finding.FieldFault.TheVariants as fault
use Rattle.aml_findings.specs.declared.finding.Finding.{Finding}
use Rattle.aml_findings.specs.declared.finding.Finding.TheVariants as finding
use Rattle.aml_namespace.specs.Bodies.{bytes_of}
use Rattle.aml_namespace.specs.Load.{Shown}
use Rattle.aml_namespace.specs.Names.{link_at}
use Rattle.aml_namespace.specs.declared.link.Link.{Link}
use Rattle.aml_namespace.specs.declared.link.Link.TheVariants as link
use Rattle.aml_objects.specs.Entries.{object_at}
use Rattle.aml_objects.specs.declared.object.Object.{Object}
use Rattle.aml_objects.specs.declared.object.Object.TheVariants as object
use Rattle.aml_objects.specs.declared.object.Through.{Through}
use Rattle.aml_objects.specs.declared.object.Through.TheVariants as through
use Rattle.aml_path_text.specs.Paths.{path_of}
use Rattle.aml_paths.specs.Printed.{path_text}
use Rattle.aml_paths.specs.declared.scope.NamePlace.{NamePlace}
use Rattle.aml_paths.specs.declared.scope.ObjectId.{ObjectId}
use Rattle.aml_place_text.specs.Place.{standing_text}

-- what the name at the place of a refusal means, own names apart
abbrev pub meant_at : Shown → ObjectId → Refusal → Link
meant_at ns id refusal = link_at ns.entries id.0 (bytes_of ns.tables refusal.table) refusal.at

-- the method that a name means, if it means one
abbrev pub method_meant : Link → Option ObjectId
method_meant (link.Method id) = Some id
method_meant _ = None

-- the method that the name at the place of a refusal calls
abbrev pub called_at : Shown → ObjectId → Refusal → Option ObjectId
called_at ns id refusal = method_meant (meant_at ns id refusal)

-- whether a cause tells of the method that is called
abbrev pub asks_callee : Cause → Bool
asks_callee cause.Cycle = true
asks_callee cause.CalleeRefused = true
asks_callee cause.Depth = true
asks_callee _ = false

-- the method that is called where a method is refused, if the cause tells of a call
abbrev pub callee_told : Shown → ObjectId → Refusal → Option ObjectId
callee_told ns id refusal = if asks_callee refusal.why then called_at ns id refusal else None

-- whether what is wrong with a field is told of fields of regions alone
abbrev pub is_of_listed : FieldFault → Bool
is_of_listed (fault.Bits bits) = false
is_of_listed _ = true

-- whether what was found is of a field of a region
abbrev pub is_of_region : Finding → Bool
is_of_region (finding.Units at count unit length) = true
is_of_region (finding.Fault fault) = is_of_listed fault
is_of_region _ = false

-- where a field's units lie: the place of the region's name, if they lie in one
abbrev pub region_through : Through → Option NamePlace
region_through (through.Region region) = Some region.name
region_through _ = None

-- where a field names its region
abbrev pub region_of : Option Object → Option NamePlace
region_of (Some (object.Field field)) = region_through field.through
region_of _ = None

-- the same of a name's field
abbrev pub region_meant : Shown → Link → Option NamePlace
region_meant ns (link.Field id) = region_of (object_at ns.entries id.0)
region_meant ns _ = None

-- where the region of a field is named, where something of that was found
abbrev pub region_named : Shown → ObjectId → Refusal → Finding → Option NamePlace
region_named ns id refusal found =
    if is_of_region found then region_meant ns (meant_at ns id refusal) else None

-- the name of a region, or else the path of a method
abbrev pub one_of : Shown → Option NamePlace → Option ObjectId → List ℕ
one_of ns (Some name) callee =
    codes "; in the region" ++ standing_text (bytes_of ns.tables name.table) name.at
one_of ns None (Some callee) = codes ": " ++ path_text (path_of ns.entries callee.0)
one_of ns None None = []

abbrev pub about_text : Shown → ObjectId → Refusal → Finding → List ℕ
about_text ns id refusal found =
    one_of ns (region_named ns id refusal found) (callee_told ns id refusal)
