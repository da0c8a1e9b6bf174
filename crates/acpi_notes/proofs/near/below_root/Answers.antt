use Rattle.std.proofs.Common.{Some, None, sym, ap, arith}
use Rattle.std.proofs.lemmas.Str.Pattern.{strip_prefix_char}
use Rattle.acpi_notes.specs.Near.{below_root}
use Rattle.acpi_notes.proofs.Segments.{no_root}
use Rattle.acpi_notes.proofs.near.below_root.Goals as goal

pub returns-in-Some : goal.returns-in-Some
returns-in-Some c =
    ap below_root (sym (strip_prefix_char 92 c.args.word.now (Some c.in-Some.below) c.in-Some.ensures.cases (omega arith)))

pub returns-in-None : goal.returns-in-None
returns-in-None c = no_root c.args.word.now (strip_prefix_char 92 c.args.word.now None c.in-None.ensures.cases (omega arith))
