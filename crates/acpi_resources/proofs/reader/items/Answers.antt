use Rattle.std.proofs.Common.{refl, sym, arith, length, length-drop}
use Rattle.std.proofs.lemmas.List.{take_rest}
use Rattle.acpi_resources.specs.Items.{items_of}
use Rattle.acpi_resources.proofs.Ahead.{items_on, items_last, items_fail, items_end, fails_as}
use Rattle.acpi_resources.proofs.Spelled.{placed}
use Rattle.acpi_resources.proofs.reader.items.Goals as goal

pub loop-at-init : goal.loop-at-init
loop-at-init c = rw c.new-items.ensures.items (omega arith, length c.args.bytes.now, omega arith, refl)

pub returns-in_err-item-clause-gives : goal.returns-in_err-item-clause-gives
returns-in_err-item-clause-gives c =
    let i = c.loop-at.invariant in
    fails_as (λ items. items.items) c.in_err-item.field-0.0 c.from_residual.result (items_of c.args.bytes.now) c.from_residual.ensures.1
    (items_fail c.args.bytes.now i.1 c.loop-at.items.items c.loop-at.at c.in_err-item.field-0.0 (items_of c.args.bytes.now)
    c.loop-at-test.true i.2 (rw (take_rest c.args.bytes.now c.loop-at.at) at c.in_err-item.ensures.gives) i.3)

pub returns-then-is_last-clause-gives : goal.returns-then-is_last-clause-gives
returns-then-is_last-clause-gives c =
    let i = c.loop-at.invariant in
    rw c.in_ok-push.ensures.items
    (items_last c.args.bytes.now i.1 c.loop-at.items.items c.loop-at.at c.in_ok-item.item c.in_ok-item.size (items_of c.args.bytes.now)
    c.loop-at-test.true i.2 (rw (take_rest c.args.bytes.now c.loop-at.at) at c.in_ok-item.ensures.gives) (sym c.if-is_last.ensures) i.3)

pub loop-at-preserved : goal.loop-at-preserved
loop-at-preserved c =
    let i = c.loop-at.invariant in
    let on = items_on c.args.bytes.now i.1 c.loop-at.items.items c.loop-at.at c.in_ok-item.item c.in_ok-item.size (items_of c.args.bytes.now)
    c.loop-at-test.true i.2 c.in_ok-item.ensures.ahead (rw (take_rest c.args.bytes.now c.loop-at.at) at c.in_ok-item.ensures.gives) (sym c.if-is_last.ensures) i.3 in
    rw c.in_ok-push.ensures.items (omega (arith, c.in_ok-item.ensures.within, length-drop c.loop-at.at c.args.bytes.now, c.loop-at-test.true), on.0, on.1, on.2)

pub returns-clause-gives : goal.returns-clause-gives
returns-clause-gives c =
    let i = c.loop-at.invariant in
    rw c.refuse.ensures
    (items_end c.args.bytes.now i.1 c.loop-at.items.items c.loop-at.at (items_of c.args.bytes.now) (omega (arith, c.loop-at-test.false)) i.3)

pub returns-in_err-item-clause-place : goal.returns-in_err-item-clause-place
returns-in_err-item-clause-place c =
    placed (λ items. items.items) c.from_residual.result c.args.bytes.now (returns-in_err-item-clause-gives c)

pub returns-clause-place : goal.returns-clause-place
returns-clause-place c = rw c.refuse.ensures c.loop-at.invariant.0
