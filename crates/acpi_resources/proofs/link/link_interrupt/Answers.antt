use Rattle.std.proofs.Common.{◌≡◌, true, false, ap, sym, ◌∙◌, arith, get_or, slice_index}
use Rattle.acpi_resources.specs.Interrupts.{first_interrupt, is_of_interrupts}
use Rattle.acpi_resources.proofs.Linked.{no_item, not_this_item, this_item}
use Rattle.acpi_resources.proofs.link.link_interrupt.Goals as goal

pub loop-item-preserved : goal.loop-item-preserved
loop-item-preserved c =
    let global = slice_index c.args.isa.now.numbers in
    let items = c.args.items.now in
    let i = c.loop-item.item-index in
    let item = c.item-item.result in
    let e : is_of_interrupts (get_or items i item) ≡ false = ap is_of_interrupts (sym c.item-item.is) ∙ sym c.if-lists.ensures in
    sym (not_this_item global items i item c.loop-item-test.true e) ∙ c.loop-item.invariant

pub returns-then-lists : goal.returns-then-lists
returns-then-lists c =
    let global = slice_index c.args.isa.now.numbers in
    let items = c.args.items.now in
    let i = c.loop-item.item-index in
    let item = c.item-item.result in
    let e : is_of_interrupts (get_or items i item) ≡ true = ap is_of_interrupts (sym c.item-item.is) ∙ sym c.if-lists.ensures in
    c.first_interrupt.ensures ∙ ap (first_interrupt global) c.item-item.is
    ∙ sym (this_item global items i item c.loop-item-test.true e) ∙ c.loop-item.invariant

pub returns : goal.returns
returns c =
    let global = slice_index c.args.isa.now.numbers in
    sym (no_item global c.args.items.now c.loop-item.item-index (omega (arith, c.loop-item-test.false))) ∙ c.loop-item.invariant
