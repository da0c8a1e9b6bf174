-- What a namespace's names name (ACPI 6.5, 5.3).
use Rattle.std.specs.Prelude.{ℕ, Bool, List, take, bytes_eq, Option, Some, None, option_and_then, unwrap_or, Result}
use Rattle.std.specs.List.{list_any}
use Rattle.aml_lex.specs.NameStrings.{NameString}
use Rattle.aml_lex.specs.Standing.{name_there}
use Rattle.aml_operators.specs.Tree.{Tree}
use Rattle.aml_tree.specs.Body.{IsBody, ReadsBody}
use Rattle.aml_tree.specs.declared.fault.TreeFault.{TreeFault}
use Rattle.aml_namespace.specs.declared.link.Link.{Link}
use Rattle.aml_namespace.specs.declared.link.Link.TheVariants as link
use Rattle.aml_objects.specs.declared.object.Method.{Method}
use Rattle.aml_objects.specs.declared.object.Object.{Object}
use Rattle.aml_objects.specs.declared.object.Object.TheVariants as object
use Rattle.aml_paths.specs.declared.scope.Scope.TheVariants.{At}
use Rattle.aml_own_names.specs.declared.own_names.OwnName.{OwnName}
use Rattle.aml_namespace.specs.Bodies.{bytes_of}
use Rattle.aml_objects.specs.Entries.{Entries, number_of, object_at, object_number, paths_in}
use Rattle.aml_namespace.specs.Load.{Shown}
use Rattle.aml_objects.specs.LookUp.{looked_up, scope_path}
use Rattle.aml_own_names.specs.OwnNames.{own_at}
use Rattle.aml_paths.specs.Paths.{Path}
use Rattle.aml_paths.specs.Resolve.{resolve}
use Rattle.aml_arities.specs.Told.{first_told}

-- the object under a path
abbrev pub found : Entries → Path → Option ℕ
found entries path = option_and_then (object_number entries) (number_of entries path)

abbrev pub method_in : Object → Option Method
method_in (object.Method m) = Some m
method_in o = None

-- the method with a number
abbrev pub method_at : Shown → ℕ → Option Method
method_at ns i = option_and_then method_in (object_at ns.entries i)

-- whether `_OSI` knows a text
abbrev pub is_interface : Shown → List ℕ → Bool
is_interface ns text = list_any (λ known. bytes_eq known text) ns.interfaces

-- how many arguments what is named takes: a method its own number, `_OSI` one
abbrev pub args_of : Option Object → ℕ
args_of (Some (object.Method m)) = m.args
args_of (Some object.OsInterfaces) = 1
args_of o = 0

-- what a name names within the object with a number, as a method's names do within the method
abbrev pub named_within : Entries → ℕ → NameString → Option ℕ
named_within entries id name = looked_up entries (At (record { 0 = id })) name

-- how many arguments tables declare of the other's method that a name names within the object with
-- a number
abbrev pub told_within : Shown → ℕ → NameString → Option ℕ
told_within ns id name = option_and_then
    (λ scope. resolve (first_told ns.tables (paths_in ns.entries) ns.externals) scope name)
    (scope_path ns.entries (At (record { 0 = id })))

-- how many arguments a name takes that names an object, or none
abbrev pub count_of : Shown → ℕ → NameString → Option ℕ → ℕ
count_of ns id name None = unwrap_or (told_within ns id name) 0
count_of ns id name (Some i) = args_of (object_at ns.entries i)

-- how many arguments a name takes in a method's body: those of what it names, else those that
-- tables declare
abbrev pub counts : Shown → ℕ → NameString → ℕ → ℕ
counts ns id name at = count_of ns id name (named_within ns.entries id name)

-- what the name of an object means in a body
abbrev pub link_to : ℕ → Object → Link
link_to i (object.Method m) = link.Method (record { 0 = i })
link_to i object.OsInterfaces = link.OsInterfaces
link_to i (object.Data d) = link.Data (record { 0 = i })
link_to i (object.Field f) = link.Field (record { 0 = i })
link_to i (object.BufferField f) = link.BufferField (record { 0 = i })
link_to i o = link.Object (record { 0 = i })

abbrev pub link_of : ℕ → Option Object → Link
link_of i None = link.Missing
link_of i (Some o) = link_to i o

abbrev pub linked : Entries → Option ℕ → Link
linked entries None = link.Missing
linked entries (Some i) = link_of i (object_at entries i)

-- what the name of a package element names at a place of these bytes, in the body of a method with
-- a number: never an own name
abbrev pub element_at : Entries → ℕ → List ℕ → ℕ → Option ℕ
element_at entries id bytes at = option_and_then (named_within entries id) (name_there bytes at)

-- what any other name there means, own names apart
abbrev pub link_at : Entries → ℕ → List ℕ → ℕ → Link
link_at entries id bytes at = linked entries (element_at entries id bytes at)

abbrev pub own_or : Option ℕ → Link → Link
own_or None l = l
own_or (Some i) l = link.Own i

-- what it means in a body with these own names: a lone segment is the own name that stands there,
-- and else what it names in the namespace
abbrev pub link_with_owns : Entries → ℕ → List ℕ → List OwnName → ℕ → Link
link_with_owns entries id bytes owns at =
    own_or (own_at bytes owns at) (link_at entries id bytes at)

-- how many terms a name takes by what it means: a method's as many as the method has arguments,
-- `_OSI` one
abbrev pub link_args : Shown → Link → ℕ
link_args ns (link.Method id) = args_of (object_at ns.entries id.0)
link_args ns link.OsInterfaces = 1
link_args ns l = 0

-- the bytes in which a method's body stands, up to its end
abbrev pub body_bytes : Shown → Method → List ℕ
body_bytes ns m = take m.body.end (bytes_of ns.tables m.table)

-- the statements of a method's body, as the grammar ties them to its table's bytes
abbrev pub IsBodyOf : Shown → ℕ → Method → List Tree → Type 0
IsBodyOf ns id m ts = IsBody (counts ns id) (body_bytes ns m) m.body.at ts

-- the answer of reading a method's body
abbrev pub ReadsBodyOf : Shown → ℕ → Method → Result (List Tree) TreeFault → Type 0
ReadsBodyOf ns id m answer = ReadsBody (counts ns id) (body_bytes ns m) m.body.at answer
