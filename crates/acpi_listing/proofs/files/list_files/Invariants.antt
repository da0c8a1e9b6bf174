use Rattle.std.proofs.Common.{ℕ, List, Bor}
use Rattle.acpi_listing.proofs.FilesListed.{LeftFrom}
use Rattle.acpi_listing.proofs.files.list_files.Given as goal

abbrev pub invariant-loop-number : goal.invariant-loop-number
invariant-loop-number g l =
    LeftFrom g.F.Source.answers l.initial.files (λ (name : Bor (List ℕ)). name.now) l.names l.number l.files (g.W.Write.contents l.initial.out) (g.W.Write.contents l.out)
