-- Where the bodies of methods lie.
use Rattle.std.proofs.Common.{◌≡◌, ℕ, ◌<◌, ◌≤◌, List, length, Option, Some, None, ap, option_and_then}
use Rattle.std.proofs.lemmas.Option.{same_Some}
use Rattle.aml_objects.specs.declared.object.Method.{Method}
use Rattle.aml_objects.specs.declared.object.Object.{Object}
use Rattle.aml_objects.specs.declared.object.Object.TheVariants as object
use Rattle.aml_namespace.specs.Bodies.{BodiesWithin, bytes_of}
use Rattle.aml_objects.specs.Entries.{Entries, object_at}
use Rattle.aml_namespace.specs.Names.{method_in}

method_of : (o : Option Object) (m : Method) → option_and_then method_in o ≡ Some m → o ≡ Some (object.Method m)
method_of None m is = absurd cc
method_of (Some (object.Method n)) m is = ap Some (ap object.Method (same_Some n m is))
method_of (Some o) m is = absurd cc

-- the body of a method lies in its table
pub body_lies : (tables : List (List ℕ)) (entries : Entries) (i : ℕ) (m : Method) → BodiesWithin tables entries → option_and_then method_in (object_at entries i) ≡ Some m → (m.table < length tables) × (m.body.at ≤ m.body.end) × (m.body.end ≤ length (bytes_of tables m.table))
body_lies tables entries i m within is = within i m (method_of (object_at entries i) m is)
