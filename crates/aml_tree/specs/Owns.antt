-- The own names of a body as the program keeps them.
use Rattle.std.specs.Prelude.{◌≡◌, ℕ, List, Option, Some, None, Bool, false, if◌then◌else◌}
use Rattle.std.specs.List.{list_any}
use Rattle.std.specs.BTreeSet.{BTreeSet, contains}
use Rattle.aml_lex.specs.NameStrings.{NameString}
use Rattle.aml_lex.specs.Names.{lone_segment}
use Rattle.aml_lex.specs.Order.{segment_order}
use Rattle.aml_lex.specs.declared.names.NameSeg.{NameSeg}
use Rattle.aml_tree.specs.Body.{same_segment}

-- whether a set has a name's lone segment
abbrev pub is_kept : BTreeSet NameSeg → Option (List ℕ) → Bool
is_kept kept None = false
is_kept kept (Some bytes) = contains segment_order kept (record { bytes = bytes })

-- a name that a set has takes no arguments
abbrev pub with_kept : (NameString → ℕ → ℕ) → BTreeSet NameSeg → NameString → ℕ → ℕ
with_kept arity kept name at = if is_kept kept (lone_segment name) then 0 else arity name at

-- a set has just these own names
abbrev pub Keeps : BTreeSet NameSeg → List NameSeg → Type 0
Keeps kept owns =
    (segment : NameSeg) → contains segment_order kept segment ≡ list_any (same_segment segment) owns
