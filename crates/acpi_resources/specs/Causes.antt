-- What is wrong, as it is printed: a number and a name.
use Rattle.std.specs.Prelude.{ℕ, List, codes}
use Rattle.acpi_resources.specs.declared.fault.ResourceCause.{ResourceCause}
use Rattle.acpi_resources.specs.declared.fault.ResourceCause.TheVariants.{Truncated, BadItem, NoEnd}
use Rattle.acpi_resources.specs.declared.route_fault.RouteCause.{RouteCause}
use Rattle.acpi_resources.specs.declared.route_fault.RouteCause.TheVariants.{BadEntry, NoLink}

abbrev pub resource_cause_text : ResourceCause → List ℕ
resource_cause_text Truncated = codes "E401 Truncated"
resource_cause_text BadItem = codes "E402 BadItem"
resource_cause_text NoEnd = codes "E403 NoEnd"

abbrev pub route_cause_text : RouteCause → List ℕ
route_cause_text BadEntry = codes "E411 BadEntry"
route_cause_text NoLink = codes "E412 NoLink"
