use Rattle.std.proofs.Common.{◌≡◌, ◌++◌, ℕ, List, length, map}
use Rattle.std.specs.Prelude.{string_bytes}
use Rattle.acpi_words.proofs.folder.push_files.Given as goal

-- there are as many words more as files so far
abbrev pub invariant-loop-file : goal.invariant-loop-file
invariant-loop-file g l =
    (added : List (List ℕ)) × (map string_bytes l.words.items ≡ map string_bytes l.initial.words.items ++ added) × (length added ≡ length l.yielded)
