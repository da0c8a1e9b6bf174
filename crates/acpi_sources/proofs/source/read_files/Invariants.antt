use Rattle.std.proofs.Common.{◌≡◌, ℕ, List, Bor, drop, length, map, vec_items}
use Rattle.acpi_sources.specs.Files.{prepared}
use Rattle.acpi_sources.proofs.FilesRead.{AllLeft}
use Rattle.acpi_sources.proofs.source.read_files.Given as goal

-- what the names that are left give, behind the files before, is what all give
abbrev pub invariant-loop-name : goal.invariant-loop-name
invariant-loop-name g l = record {
  left :
      AllLeft (prepared l.dead_externals g.F.Source.answers) l.initial.files (map (λ (name : Bor (List ℕ)). name.now) l.names) (map vec_items l.read.items) l.files
      (map (λ (name : Bor (List ℕ)). name.now) (drop l.name-index l.names));
  count : length l.read.items ≡ l.name-index;
}
