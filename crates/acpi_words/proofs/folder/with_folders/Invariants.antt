use Rattle.std.proofs.Common.{◌≡◌, false, map, vec_items}
use Rattle.std.specs.Prelude.{string_bytes}
use Rattle.acpi_words.specs.Folders.{HasFolders}
use Rattle.acpi_words.proofs.FoldersNamed.{may_follow}
use Rattle.acpi_words.proofs.folder.with_folders.Given as goal

-- what stands for the words so far, and whether the next one may be a file's
abbrev pub invariant-loop-word : goal.invariant-loop-word
invariant-loop-word g l =
    HasFolders false (map string_bytes l.yielded) (map string_bytes (vec_items l.all))
    × (l.may_be_file ≡ may_follow false (map string_bytes l.yielded))
