-- Laws of what is told of a command.
use Rattle.std.proofs.Common.{ℕ, List, Option, Result, Ok, Err}
use Rattle.acpi_text.proofs.Listing.{lists_then}
use Rattle.acpi_text.specs.declared.writing.RunFault.{RunFault}
use Rattle.acpi_listing.specs.Commands.{Asks, Obeys, ObeysWords, Reports, RunsWords}
use Rattle.acpi_sources.specs.Faults.{fault_line}
use Rattle.acpi_sources.specs.Files.{Answers}
use Rattle.acpi_listing.specs.Steps.{Writes}
use Rattle.acpi_sources.specs.declared.fault.Fault.{Fault}
use Rattle.acpi_listing.specs.declared.stop.Stop.{Stop}
use Rattle.acpi_listing.specs.declared.stop.Stop.TheVariants.{Fault as Faulty}
use Rattle.acpi_words.specs.declared.words.Request.{Request}
use Rattle.acpi_listing.proofs.Chains.{given}
use Rattle.acpi_sources.specs.declared.status.Status.{Status}

-- a fault's line stands behind what the command wrote
pub told_fault : {F : Type 0} (answers : Answers F) (words : List (List ℕ)) (old new : F) (held between holds : Option (List ℕ)) (f : Fault) (r : Result Status RunFault)
    → Writes (ObeysWords answers words) old new held between (Err (Faulty f)) → Reports f between holds r → RunsWords answers words old new held holds r
told_fault answers words old new held between holds f r (text, does, wrote) (status, lists) =
    (text, Err (Faulty f), does, (status, lists_then r held between holds text (fault_line f) wrote lists))

-- what was asked for was done
pub obeyed : {F : Type 0} (answers : Answers F) (words : List (List ℕ)) (old new : F) (held holds : Option (List ℕ)) (request : Request) (r : Result Status Stop)
    → Asks words (Ok request) → Writes (Obeys answers request) old new held holds r → Writes (ObeysWords answers words) old new held holds r
obeyed answers words old new held holds request r = given (Asks words) (Obeys answers) old new held holds request r
