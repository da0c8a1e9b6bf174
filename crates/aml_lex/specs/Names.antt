-- Name strings as the program holds them.
use Rattle.std.specs.Prelude.{ℕ, ◌==◌, ◌&&◌, not, List, [], ◌∷◌, Option, Some, None, option_map, if◌then◌else◌}
use Rattle.aml_lex.specs.NameStrings.{NameString, segments_of}
use Rattle.aml_lex.specs.declared.names.NameRef.{NameRef}
use Rattle.aml_lex.specs.declared.names.NameSeg.{NameSeg}

abbrev pub name_of : NameRef → NameString
name_of name =
    record { rooted = name.is_rooted; parents = name.carets; segs = segments_of name.segments.now }

abbrev pub seg_bytes : Option NameSeg → Option (List ℕ)
seg_bytes o = option_map (λ seg. seg.bytes) o

-- the segment of a list of just one
abbrev pub only_segment : List (List ℕ) → Option (List ℕ)
only_segment [] = None
only_segment (seg ∷ []) = Some seg
only_segment (seg ∷ other ∷ more) = None

-- the segment of a name that is one segment without prefix
abbrev pub lone_segment : NameString → Option (List ℕ)
lone_segment name = if not name.rooted && name.parents == 0 then only_segment name.segs else None
