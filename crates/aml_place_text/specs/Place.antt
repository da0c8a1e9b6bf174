-- What stands at a place of a body, in words.
use Rattle.std.specs.Prelude.{ℕ, List, [], ◌++◌, Bool, Option, Some, None, codes, replicate, if◌then◌else◌}
use Rattle.aml_place_text.specs.Operators.{operator_name}
use Rattle.aml_lex.specs.NameStrings.{NameString}
use Rattle.aml_lex.specs.Standing.{name_there}
use Rattle.aml_operators.specs.declared.op.Op.{Op}
use Rattle.aml_paths.specs.Printed.{segments_text}
use Rattle.aml_tree.specs.OperatorAt.{op_there}

-- words in brackets, behind a space
abbrev pub bracketed : List ℕ → List ℕ
bracketed words = codes " (" ++ (words ++ codes ")")

-- `\` where a name begins at the root, and a `^` for each parent
abbrev pub prefix_text : Bool → ℕ → List ℕ
prefix_text rooted parents = (if rooted then codes "\\" else []) ++ replicate parents 94

-- a name as ASL has it
abbrev pub name_text : NameString → List ℕ
name_text name = prefix_text name.rooted name.parents ++ segments_text name.segs

-- an operator by its word, or a name; nothing where neither stands there
abbrev pub found_text : Option (Op × ℕ) → Option NameString → List ℕ
found_text (Some p) name = bracketed (operator_name p.0)
found_text None (Some name) = bracketed (name_text name)
found_text None None = []

abbrev pub standing_text : List ℕ → ℕ → List ℕ
standing_text bytes at = found_text (op_there bytes at) (name_there bytes at)
