use Rattle.std.proofs.Common.{Bor, List, ℕ, arith}
use Rattle.acpi_sources.specs.Files.{prepared}
use Rattle.acpi_sources.proofs.FilesRead.{read_all, read_more, read_stops, read_unkept}
use Rattle.acpi_sources.proofs.source.read_files.Goals as goal

pub returns-in_err-read_table_file-clause-read : goal.returns-in_err-read_table_file-clause-read
returns-in_err-read_table_file-clause-read g c =
    read_stops (prepared c.args.dead_externals g.F.Source.answers) _ _ _ (λ (name : Bor (List ℕ)). name.now) c.args.names.now c.loop-name.name-index _ _ _ c.from_residual.result
    c.from_residual.ensures.1 c.loop-name-test.true c.loop-name.invariant.left c.in_err-read_table_file.ensures

pub returns-in_err-push-clause-read : goal.returns-in_err-push-clause-read
returns-in_err-push-clause-read g c =
    read_unkept (prepared c.args.dead_externals g.F.Source.answers) _ _ _ (λ (name : Bor (List ℕ)). name.now) c.args.names.now c.loop-name.name-index _ _ c.in_ok-read_table_file.field-0.items
    c.from_residual-in_err-push.result c.from_residual-in_err-push.ensures.1 c.loop-name-test.true c.loop-name.invariant.left c.in_ok-read_table_file.ensures

pub loop-name-preserved : goal.loop-name-preserved
loop-name-preserved g c =
    let pushed = c.in_ok-push.ensures in record {
      left =
          read_more (prepared c.args.dead_externals g.F.Source.answers) _ _ _ (λ (name : Bor (List ℕ)). name.now) c.args.names.now c.loop-name.name-index _ _ _ c.in_ok-read_table_file.field-0
          c.loop-name-test.true c.loop-name.invariant.left c.in_ok-read_table_file.ensures pushed.items;
      count = let long = pushed.len in omega (arith, long, c.loop-name.invariant.count);
    }

pub returns-clause-read : goal.returns-clause-read
returns-clause-read g c =
    read_all (prepared c.args.dead_externals g.F.Source.answers) _ _ (λ (name : Bor (List ℕ)). name.now) c.args.names.now c.loop-name.name-index _
    c.loop-name-test.false c.loop-name.invariant.left
