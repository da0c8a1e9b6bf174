use Rattle.std.proofs.Common.{◌≡◌, List, ℕ, map, ap, ◌∙◌, arith}
use Rattle.std.specs.Borrow.{Bor}
use Rattle.std.proofs.lemmas.List.{length-map}
use Rattle.aml_objects.specs.Kept.{entries_seen}
use Rattle.aml_namespace.specs.Load.{first_width}
use Rattle.aml_objects.specs.Widths.{width_by}
use Rattle.aml_namespace.proofs.Tables.{LeftToDeclare-all, LeftToDeclare-more, LeftToLoad-all, LeftToLoad-more, fault_of_all, first_told, slice_get-map}
use Rattle.aml_namespace.proofs.load.load_tables.Goals as goal
use Rattle.aml_namespace.proofs.load.load_tables.Goals.{then-number-eq0, else-number-eq0}

pub returns-in-Err : goal.returns-in-Err
returns-in-Err c =
    let tables = map (λ (t : Bor (List ℕ)). t.now) c.args.tables.now in
    let is = slice_get-map (λ (t : Bor (List ℕ)). t.now) c.args.tables.now c.loop-number.number _ c.loop-number-test.true in
    fault_of_all tables (entries_seen c.args.objects.now) (entries_seen c.loop-number.objects) (entries_seen c.load_table.new.objects) (entries_seen c.load_table.new.objects) c.loop-number.number _ c.in-Err.fault is c.loop-number.invariant.left c.in-Err.ensures.loads

pub loop-number-preserved : goal.loop-number-preserved
loop-number-preserved c =
    let tables = map (λ (t : Bor (List ℕ)). t.now) c.args.tables.now in
    let n = c.loop-number.number in
    let is = slice_get-map (λ (t : Bor (List ℕ)). t.now) c.args.tables.now n _ c.loop-number-test.true in
    let told = c.in-Ok.ensures.loads in
    let declares = c.in-Ok.ensures.declares in
    let first : width_by c.if-number-eq0.revision ≡ first_width tables = elim c.if-number-eq0.branch [
      | then-number-eq0 w ↦ first_told tables _ n c.if-number-eq0.revision is w.if-number-eq0.true (w.revision-is ∙ told.1)
      | else-number-eq0 w ↦ ap width_by w.revision-is ∙ c.loop-number.invariant.first (let later = w.if-number-eq0.false in omega (arith, later))
    ] in
    record {
      left = LeftToLoad-more tables (entries_seen c.args.objects.now) (entries_seen c.loop-number.objects) n _ is c.loop-number.invariant.left (entries_seen c.load_table.new.objects) told.0;
      first = λ some. first;
      declares = LeftToDeclare-more tables (entries_seen c.args.objects.now) (entries_seen c.loop-number.objects) n _ is c.loop-number.externals.items c.loop-number.invariant.declares (entries_seen c.load_table.new.objects) declares.0 _ declares.1;
    }

pub returns : goal.returns
returns c =
    let tables = map (λ (t : Bor (List ℕ)). t.now) c.args.tables.now in
    let same = length-map c.args.tables.now (λ (t : Bor (List ℕ)). t.now) in (
      LeftToLoad-all tables (entries_seen c.args.objects.now) c.loop-number.number (entries_seen c.loop-number.objects) (omega (arith, same, c.loop-number-test.false)) c.loop-number.invariant.left,
      c.loop-number.invariant.first (omega (arith, c.requires, c.loop-number-test.false)),
      LeftToDeclare-all tables (entries_seen c.args.objects.now) c.loop-number.number (entries_seen c.loop-number.objects) c.loop-number.externals.items (omega (arith, same, c.loop-number-test.false)) c.loop-number.invariant.declares,
    )
