use Rattle.std.proofs.Common.{◌-◌, ◌<◌, map, vec_items, vec_len}
use denote.Text.{Utf8}
use denote.Shadow.{shadow}
use Rattle.acpi_words.proofs.LineWords.{Continues}
use Rattle.acpi_words.proofs.first_line.split_words.Given as goal

-- what follows makes the words of the line, where it is the words of the rest
abbrev pub invariant-loop-rest : goal.invariant-loop-rest
invariant-loop-rest l =
    shadow (Utf8 l.rest) × (vec_len l.words < 65536)
    × Continues 65536 (vec_len l.words) l.fn.line l.rest (map (λ word. word.now) (vec_items l.words))

abbrev pub decreases-loop-rest : goal.decreases-loop-rest
decreases-loop-rest l = 65536 - vec_len l.words
