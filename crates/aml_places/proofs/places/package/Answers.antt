use Rattle.aml_places.proofs.Within.{package_within}
use Rattle.aml_places.proofs.places.package.Goals as goal

pub package_end-requires : goal.package_end-requires
package_end-requires c = package_within c.args.bytes.now c.args.at c.requires
