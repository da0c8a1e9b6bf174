use Rattle.std.proofs.Common.{◌≡◌, length, ◌*◌, drop, arith, ◌∙◌, ap}
use Rattle.acpi_tables.specs.Bytes.{number_at}
use Rattle.acpi_resources.proofs.Interrupts.{numbers_on}
use Rattle.acpi_resources.proofs.body.numbers.Goals as goal

pub loop-numbers-preserved : goal.loop-numbers-preserved
loop-numbers-preserved c =
    let front = c.loop-numbers.numbers.items in
    let number : c.number_at-number.result ≡ number_at 0 4 (drop (4 * length front) c.args.bytes.now) =
    c.number_at-number.ensures ∙ ap (λ n. number_at (4 * n) 4 c.args.bytes.now) (c.len-in-loop-numbers.ensures ∙ c.loop-numbers.numbers.ok.0) in
    rw (c.in_ok-push.ensures.items, number) (numbers_on c.args.bytes.now c.args.count front (omega (arith, c.len.ensures, c.loop-numbers.numbers.ok.0, c.loop-numbers-test.true)) c.loop-numbers.invariant.1)
