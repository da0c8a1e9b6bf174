use Rattle.std.proofs.Common.{◌≡◌, ◌-◌, length, drop, refl, sym, ◌∙◌, arith}
use Rattle.std.specs.Prelude.{nat_lt, nat_le, true, false}
use Rattle.std.proofs.lemmas.Bool.{lt-ltb}
use Rattle.aml_externals.proofs.Turns.{inside_is}
use Rattle.aml_externals.specs.Opened.{dead_in}
use Rattle.aml_externals.proofs.DeadTurns.{not_below, not_within, dead_flat, dead_deep, past_on, here_on, none_on, end_on}
use Rattle.aml_externals.proofs.open.+is_dead_in.Goals as goal

pub returns-then-depth-eq0 : goal.returns-then-depth-eq0
returns-then-depth-eq0 t c = let zero_is = c.if-depth-eq0.true in rw zero_is (sym (dead_flat c.args.list.now c.args.place))

pub loop-at-init : goal.loop-at-init
loop-at-init t c = (length c.args.list.now, omega arith, omega arith, dead_deep c.args.depth c.args.list.now c.args.place (omega arith))

pub returns-then-left-size : goal.returns-then-left-size
returns-then-left-size t c =
    let here = here_on (dead_in (c.args.depth - 1)) c.args.depth c.loop-at.invariant.0 c.args.list.now c.loop-at.at c.loop-at.left _ _ (sym c.in-Dead.ensures.gives) c.loop-at-test.true c.loop-at.invariant.1 c.loop-at.invariant.3 in
    let test : nat_lt c.loop-at.left c.in-Dead.size ≡ true = lt-ltb _ _ c.if-left-size.true in
    sym (rw test at here.1)

pub returns-then-from-left : goal.returns-then-from-left
returns-then-from-left t c =
    let here = here_on (dead_in (c.args.depth - 1)) c.args.depth c.loop-at.invariant.0 c.args.list.now c.loop-at.at c.loop-at.left _ _ (sym c.in-Enter.ensures.gives) c.loop-at-test.true c.loop-at.invariant.1 c.loop-at.invariant.3 in
    let test : nat_lt c.loop-at.left c.in-Enter.size ≡ true = lt-ltb _ _ c.if-left-size-2.true in
    let low : nat_lt c.loop-at.left c.in-Enter.from ≡ false = not_below _ _ c.if-from-left.true _ refl in
    let mid = inside_is c.args.list.now c.loop-at.at c.in-Enter.from c.in-Enter.size c.in-Enter.ensures.ahead.2 in
    c.is_dead_in.ensures ∙ sym (rw (test, low, mid) at here.1)

pub loop-at-preserved-in-Dead : goal.loop-at-preserved-in-Dead
loop-at-preserved-in-Dead t c =
    let on = past_on (dead_in (c.args.depth - 1)) c.args.depth c.loop-at.invariant.0 c.args.list.now c.loop-at.at c.loop-at.left c.in-Dead.size _ _ (sym c.in-Dead.ensures.gives) refl c.in-Dead.ensures.ahead.0 c.loop-at-test.true c.loop-at.invariant.1 (omega arith) c.loop-at.invariant.3 in
    (on.0, on.1, omega (arith, c.in-Dead.ensures.ahead), on.2)

pub loop-at-preserved-in-Enter : goal.loop-at-preserved-in-Enter
loop-at-preserved-in-Enter t c =
    let on = past_on (dead_in (c.args.depth - 1)) c.args.depth c.loop-at.invariant.0 c.args.list.now c.loop-at.at c.loop-at.left c.in-Enter.size _ _ (sym c.in-Enter.ensures.gives) refl c.in-Enter.ensures.ahead.0 c.loop-at-test.true c.loop-at.invariant.1 (omega arith) c.loop-at.invariant.3 in
    (on.0, on.1, omega (arith, c.in-Enter.ensures.ahead), on.2)

pub loop-at-preserved : goal.loop-at-preserved
loop-at-preserved t c =
    let on = past_on (dead_in (c.args.depth - 1)) c.args.depth c.loop-at.invariant.0 c.args.list.now c.loop-at.at c.loop-at.left c.in-Over.size _ _ (sym c.in-Over.ensures.gives) refl c.in-Over.ensures.ahead.0 c.loop-at-test.true c.loop-at.invariant.1 (omega arith) c.loop-at.invariant.3 in
    (on.0, on.1, omega (arith, c.in-Over.ensures.ahead), on.2)

pub returns-in-Stop : goal.returns-in-Stop
returns-in-Stop t c = none_on (dead_in (c.args.depth - 1)) c.args.depth c.loop-at.invariant.0 (drop c.loop-at.at c.args.list.now) c.loop-at.left _ (sym c.in-Stop.ensures.gives) c.loop-at.invariant.3

pub returns : goal.returns
returns t c = end_on (dead_in (c.args.depth - 1)) c.args.depth c.loop-at.invariant.0 c.args.list.now c.loop-at.at c.loop-at.left _ c.loop-at-test.false c.loop-at.invariant.3

pub returns-else-from-left : goal.returns-else-from-left
returns-else-from-left t c =
    let here = here_on (dead_in (c.args.depth - 1)) c.args.depth c.loop-at.invariant.0 c.args.list.now c.loop-at.at c.loop-at.left _ _ (sym c.in-Enter.ensures.gives) c.loop-at-test.true c.loop-at.invariant.1 c.loop-at.invariant.3 in
    let test : nat_lt c.loop-at.left c.in-Enter.size ≡ true = lt-ltb _ _ c.if-left-size-2.true in
    let low : nat_lt c.loop-at.left c.in-Enter.from ≡ true = lt-ltb _ _ c.if-from-left.false in
    let no : nat_le c.in-Enter.from c.loop-at.left ≡ false = not_within _ _ c.if-from-left.false _ refl in
    no ∙ sym (rw (test, low) at here.1)
