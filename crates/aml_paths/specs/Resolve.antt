-- What a name names in a scope (ACPI 6.5, 5.3).
use Rattle.std.specs.Prelude.{ℕ, zero, suc, List, [], ◌∷◌, ◌++◌, length, take, Option, Some, None, option_and_then, if◌then◌else◌}
use Rattle.std.specs.Option.{option_map, option_or}
use Rattle.aml_lex.specs.NameStrings.{NameString}
use Rattle.aml_lex.specs.Names.{lone_segment}
use Rattle.aml_paths.specs.Paths.{Path, path_above, root}

-- the path from which a name's segments lead: the root, or one so many segments above the scope;
-- above the root is none
abbrev pub base_of : Path → NameString → Option Path
base_of scope name = if name.rooted then Some root else path_above name.parents scope

-- the path that a name spells in a scope
abbrev pub spelled : Path → NameString → Option Path
spelled scope name = option_map (λ base. base ++ name.segs) (base_of scope name)

-- what is found for the greatest number, from this one down, for which something is
abbrev pub greatest : {X : Type 0} → (ℕ → Option X) → ℕ → Option X
greatest find zero = find zero
greatest find (suc n) = option_or (find (suc n)) (greatest find n)

-- what stands under the longest prefix of a scope, the scope itself among them, that is followed by
-- a segment
abbrev pub upward_search : {X : Type 0} → (Path → Option X) → Path → List ℕ → Option X
upward_search find scope segment =
    greatest (λ n. find (take n scope ++ segment ∷ [])) (length scope)

-- a lone segment is searched upward, and every other name is exactly one path
abbrev pub resolve_by : {X : Type 0} → (Path → Option X) → Path → NameString →
    Option (List ℕ) → Option X
resolve_by find scope name None = option_and_then find (spelled scope name)
resolve_by find scope name (Some segment) = upward_search find scope segment

-- what a name names in a scope, where `find` tells what stands under a whole path
abbrev pub resolve : {X : Type 0} → (Path → Option X) → Path → NameString → Option X
resolve find scope name = resolve_by find scope name (lone_segment name)
