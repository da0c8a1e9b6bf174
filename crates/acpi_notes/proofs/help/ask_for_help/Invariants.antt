use Rattle.std.proofs.Common.{◌≡◌, drop, map}
use Rattle.std.specs.List.{list_any}
use Rattle.acpi_notes.specs.Help.{ask_for_help, asks_for_help}
use Rattle.acpi_notes.proofs.help.ask_for_help.Given as goal

-- none of the words before asks, so that all hangs on those that are left
abbrev pub invariant-loop-word : goal.invariant-loop-word
invariant-loop-word g l =
    ask_for_help (map g.S.AsStr.text l.words) ≡ list_any asks_for_help (map g.S.AsStr.text (drop l.word-index l.words))
