use Rattle.acpi_notes.proofs.definitions.Paths.resolved.Given as goal

abbrev pub decreases-loop-self : goal.decreases-loop-self
decreases-loop-self l = l.self.left
