use Rattle.std.proofs.Common.{inr, sym, ◌∙◌}
use Rattle.acpi_notes.proofs.Segments.{there}
use Rattle.acpi_notes.proofs.near.front_there.Goals as goal

pub returns-then-is_some : goal.returns-then-is_some
returns-then-is_some c =
    inr (there (λ id. id.0) c.find.result _ (sym c.is_some.ensures ∙ c.if-is_some.true) (rw c.as_bytes.ensures.value at c.find.ensures))
