use Rattle.std.proofs.Common.{sym}
use Rattle.aml_kinds.proofs.ShapeLengths.{fits_shape-differ}
use Rattle.aml_kinds.proofs.fitting.+fits.Goals as goal

pub fit-returns-then-elements-places : goal.fit-returns-then-elements-places
fit-returns-then-elements-places t c = sym (fits_shape-differ c.args.elements.now c.args.places.now c.if-elements-places.true)
