use Rattle.std.proofs.Common.{List, ℕ, Bor}
use Rattle.acpi_listing.proofs.FilesListed.{files_all, files_more, files_stopped}
use Rattle.acpi_listing.proofs.files.list_files.Goals as goal

pub loop-number-init : goal.loop-number-init
loop-number-init g c = λ new holds r all. all

pub returns-in_err-list_file : goal.returns-in_err-list_file
returns-in_err-list_file g c =
    files_stopped g.F.Source.answers _ _ _ (λ (name : Bor (List ℕ)). name.now) c.args.names.now c.loop-number.number _ _ _ _ _ c.from_residual.result
    c.from_residual.ensures.1 c.loop-number-test.true c.loop-number.invariant c.in_err-list_file.ensures

pub loop-number-preserved : goal.loop-number-preserved
loop-number-preserved g c =
    files_more g.F.Source.answers _ _ _ (λ (name : Bor (List ℕ)). name.now) c.args.names.now c.loop-number.number _ c.in_ok-list_file.field-0 _ _ _
    c.loop-number-test.true c.loop-number.invariant c.in_ok-list_file.ensures

pub returns : goal.returns
returns g c = files_all g.F.Source.answers _ _ (λ (name : Bor (List ℕ)). name.now) c.args.names.now c.loop-number.number _ _ c.loop-number-test.false c.loop-number.invariant
