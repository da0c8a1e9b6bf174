-- A device's _CRS gives a value.
use Rattle.std.proofs.Common.{◌≡◌, ℕ, Bool, Option, Some, None, refl, subst}
use Rattle.std.proofs.lemmas.Option.{same_Some}
use Rattle.std.specs.Option.{option_and_then}
use Rattle.std.specs.Prelude.{true, false, if◌then◌else◌}
use Rattle.acpi_objects.specs.Gives.{gives_value}
use Rattle.acpi_routing.specs.Crs.{crs_of, giving}
use Rattle.aml_objects.specs.Entries.{object_at}
use Rattle.aml_namespace.specs.Load.{Shown}

chosen : (b : Bool) (id k : ℕ) → (if b then Some id else None) ≡ Some k → (b ≡ true) × (id ≡ k)
chosen true id k is = (refl, same_Some id k is)
chosen false id k is = absurd cc

found_gives : (ns : Shown) (found : Option ℕ) (k : ℕ) → option_and_then (giving ns) found ≡ Some k → gives_value (object_at ns.entries k) ≡ true
found_gives ns None k is = absurd cc
found_gives ns (Some id) k is =
    let gives = chosen (gives_value (object_at ns.entries id)) id k is in
    subst (λ (n : ℕ). gives_value (object_at ns.entries n) ≡ true) gives.1 gives.0

pub crs_gives : (ns : Shown) (device k : ℕ) → crs_of ns device ≡ Some k → gives_value (object_at ns.entries k) ≡ true
crs_gives ns device k is = found_gives ns _ k is
