use Rattle.std.proofs.Common.{◌≡◌, refl}
use Rattle.std.specs.Prelude.{nat_lt, nat_le, true, false}
use Rattle.std.proofs.lemmas.Bool.{lt-ltb}
use Rattle.aml_externals.specs.Table.{dead_at}
use Rattle.aml_externals.proofs.DeadTurns.{not_below, not_within}
use Rattle.aml_externals.proofs.Turns.{part_is}
use Rattle.aml_externals.proofs.table.is_dead_at.Goals as goal

pub returns-then-at-ge-SIZE : goal.returns-then-at-ge-SIZE
unfolding dead_at
returns-then-at-ge-SIZE c =
    let test : nat_lt c.args.at 36 ≡ false = not_below c.args.at 36 c.if-at-ge-SIZE.true _ refl in
    let part = part_is c.args.table.now 36 in
    rw test (rw part at c.is_dead_in.ensures)

pub returns-else-at-ge-SIZE : goal.returns-else-at-ge-SIZE
unfolding dead_at
returns-else-at-ge-SIZE c =
    let test : nat_lt c.args.at 36 ≡ true = lt-ltb c.args.at 36 c.if-at-ge-SIZE.false in
    let no : nat_le 36 c.args.at ≡ false = not_within _ _ c.if-at-ge-SIZE.false _ refl in
    rw test no
