use Rattle.std.proofs.Common.{map}
use Rattle.acpi_listing.proofs.Telling.{told_fault}
use Rattle.acpi_listing.proofs.program.run_words_noted.Goals as goal

pub returns-in-Err-Fault : goal.returns-in-Err-Fault
returns-in-Err-Fault g c =
    told_fault g.F.Source.answers (map g.S.AsStr.text c.args.words.now) c.args.files.now c.obey.new.files _ _ _ c.in-Err-Fault.fault c.report.result
    (rw c.in-Err-Fault.field-0-is at c.in-Err-Fault.ensures) c.report.ensures
