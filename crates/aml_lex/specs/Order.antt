-- The order of name segments, in which maps and sets keep them.
use Rattle.std.specs.Ordering.{nat_cmp}
use Rattle.std.specs.Cmp.Lexicographic.{slice_cmp}
use Rattle.std.specs.declared.cmp.Ordering.{Ordering}
use Rattle.aml_lex.specs.declared.names.NameSeg.{NameSeg}

-- byte by byte, from the first on
abbrev pub segment_order : NameSeg → NameSeg → Ordering
segment_order a b = slice_cmp nat_cmp a.bytes b.bytes
