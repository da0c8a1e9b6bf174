use Rattle.std.proofs.Common.{◌≡◌, ◌+◌, ◌-◌, ℕ, length, length-drop, drop, sym, ◌∙◌, arith}
use Rattle.std.specs.Prelude.{slice_set}
use Rattle.std.proofs.Math.ListN.{length-set}
use Rattle.std.proofs.lemmas.List.{length-take-le}
use borrow.Rule.Slice.PartMut.{put_mid, mid_of, same_len_mid}
use Rattle.aml_externals.specs.Opened.{opened}
use Rattle.aml_externals.proofs.Turns.{joined_first, opened_flat, opened_deep, stop_on, end_on, over_on, dead_on, enter_on}
use Rattle.aml_externals.proofs.open.+open_list.Goals as goal

pub returns-then-depth-eq0-clause-gives : goal.returns-then-depth-eq0-clause-gives
returns-then-depth-eq0-clause-gives t c =
    let zero_is = c.if-depth-eq0.true in rw zero_is (sym (opened_flat c.args.list.now))

pub loop-at-init : goal.loop-at-init
loop-at-init t c =
    (length c.args.list.now, omega arith, omega arith, omega arith, omega arith, opened_deep c.args.depth c.args.list.now (omega arith) ∙ sym (joined_first _))

pub loop-at-preserved-in-Dead : goal.loop-at-preserved-in-Dead
loop-at-preserved-in-Dead t c =
    let on = dead_on (opened (c.args.depth - 1)) c.args.depth c.loop-at.invariant.0 c.loop-at.list c.loop-at.at c.loop-at.count c.in-Dead.size _ (sym c.in-Dead.ensures.gives) c.in-Dead.ensures.ahead.0 c.loop-at-test.true c.loop-at.invariant.1 c.loop-at.invariant.5 in
    let same : length (slice_set c.loop-at.list c.loop-at.at 16) ≡ length c.loop-at.list = length-set c.loop-at.list c.loop-at.at 16 in
    (on.0, omega (arith, same, on.1), omega (arith, same, c.in-Dead.ensures.ahead), omega (arith, c.in-Dead.ensures.ahead), omega (arith, same), on.2)

pub loop-at-preserved-in-Enter : goal.loop-at-preserved-in-Enter
loop-at-preserved-in-Enter t c =
    let at = c.loop-at.at + c.in-Enter.from in
    let k = c.loop-at.at + c.in-Enter.size - (c.loop-at.at + c.in-Enter.from) in
    let list = c.loop-at.list in
    let inner = c.open_list-count.new.list in
    let ahead = c.in-Enter.ensures.ahead in
    let many : length (mid_of at k list) ≡ k = length-take-le k (drop at list) (omega (arith, ahead, length-drop {A = ℕ})) in
    let lent : length inner ≡ length (mid_of at k list) = c.open_list-count.auto.list in
    let same : length (put_mid at k list inner) ≡ length list = same_len_mid at k list inner lent in
    let on = enter_on (opened (c.args.depth - 1)) c.args.depth c.loop-at.invariant.0 list inner c.loop-at.at c.loop-at.count c.open_list-count.result c.in-Enter.from c.in-Enter.size _ (sym c.in-Enter.ensures.gives) ahead.0 ahead.2 (omega (arith, ahead)) c.loop-at.invariant.1 (lent ∙ many) c.open_list-count.ensures.gives c.loop-at.invariant.5 in
    (on.0, omega (arith, same, on.1), omega (arith, same, ahead), omega (arith, ahead, many, c.open_list-count.ensures.few), omega (arith, same), on.2)

pub loop-at-preserved : goal.loop-at-preserved
loop-at-preserved t c =
    let on = over_on (opened (c.args.depth - 1)) c.args.depth c.loop-at.invariant.0 c.loop-at.list c.loop-at.at c.loop-at.count c.in-Over.size _ (sym c.in-Over.ensures.gives) c.in-Over.ensures.ahead.0 c.loop-at-test.true c.loop-at.invariant.1 c.loop-at.invariant.5 in
    (on.0, on.1, omega (arith, c.in-Over.ensures.ahead), omega (arith, c.in-Over.ensures.ahead), omega arith, on.2)

pub returns-in-Stop-clause-gives : goal.returns-in-Stop-clause-gives
returns-in-Stop-clause-gives t c =
    stop_on (opened (c.args.depth - 1)) c.args.depth c.loop-at.invariant.0 c.loop-at.list c.loop-at.at c.loop-at.count _ (sym c.in-Stop.ensures.gives) c.loop-at.invariant.5

pub returns-clause-gives : goal.returns-clause-gives
returns-clause-gives t c =
    end_on (opened (c.args.depth - 1)) c.args.depth c.loop-at.invariant.0 c.loop-at.list c.loop-at.at c.loop-at.count _ c.loop-at-test.false c.loop-at.invariant.5
