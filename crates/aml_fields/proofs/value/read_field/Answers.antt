use Rattle.std.proofs.Common.{◌≡◌, ◌≤◌, ◌<◌, length, ap, arith}
use Rattle.std.proofs.Math.ListN.{drop}
use Rattle.std.proofs.Math.Seq.{take-append_seam}
use Rattle.std.proofs.lemmas.Result.{err_from_is_err_and}
use Rattle.aml_objects.specs.Widths.{bits_of}
use Rattle.aml_regions.specs.Fields.{layout_of}
use Rattle.aml_meaning.specs.Runs as runs
use Rattle.aml_fields.proofs.Values.{narrow_value, narrow_stops, wide_memory, wide_value, wide_stops}
use Rattle.aml_fields.proofs.value.read_field.Goals as goal

pub returns-in_err-number-clause-means : goal.returns-in_err-number-clause-means
returns-in_err-number-clause-means g c = λ frame names.
    let bits : c.layout-bits.result.bits ≡ (layout_of c.args.field.now).bits = ap (λ l. l.bits) c.layout-bits.ensures in
    let le : (layout_of c.args.field.now).bits ≤ bits_of c.args.width = omega (arith, bits, c.from.ensures, c.bits.ensures, c.if-bits-from.true) in
    let q = err_from_is_err_and c.from_residual.result c.from_residual.ensures.1 in
    rw q.1 (narrow_stops (bits_of c.args.width) c.args.field.now _ _ runs.NoMemory le (c.in_err-number.ensures.means frame names))

pub returns-in-Some-clause-means : goal.returns-in-Some-clause-means
returns-in-Some-clause-means g c = λ frame names.
    let bits : c.layout-bits.result.bits ≡ (layout_of c.args.field.now).bits = ap (λ l. l.bits) c.layout-bits.ensures in
    let le : (layout_of c.args.field.now).bits ≤ bits_of c.args.width = omega (arith, bits, c.from.ensures, c.bits.ensures, c.if-bits-from.true) in
    narrow_value (bits_of c.args.width) c.args.field.now _ _ c.in-Some.number le (rw c.in-Some.is at c.in_ok-number.ensures.means frame names)

pub returns-in-None-clause-means : goal.returns-in-None-clause-means
returns-in-None-clause-means g c = λ frame names.
    let bits : c.layout-bits.result.bits ≡ (layout_of c.args.field.now).bits = ap (λ l. l.bits) c.layout-bits.ensures in
    let le : (layout_of c.args.field.now).bits ≤ bits_of c.args.width = omega (arith, bits, c.from.ensures, c.bits.ensures, c.if-bits-from.true) in
    narrow_stops (bits_of c.args.width) c.args.field.now _ _ runs.OutOfSteps le (rw c.in-None.is at c.in_ok-number.ensures.means frame names)

pub returns-in_err-read_wide_field-clause-means : goal.returns-in_err-read_wide_field-clause-means
returns-in_err-read_wide_field-clause-means g c = λ frame names.
    let bits : c.layout-bits.result.bits ≡ (layout_of c.args.field.now).bits = ap (λ l. l.bits) c.layout-bits.ensures in
    let lt : bits_of c.args.width < (layout_of c.args.field.now).bits = omega (arith, bits, c.from.ensures, c.bits.ensures, c.if-bits-from.false) in
    let q = err_from_is_err_and c.from_residual-in_err-read_wide_field.result c.from_residual-in_err-read_wide_field.ensures.1 in
    rw q.1 (wide_stops (bits_of c.args.width) c.args.field.now _ _ runs.NoMemory lt (c.in_err-read_wide_field.ensures.means frame names))

pub returns-then-not-branch-clause-means : goal.returns-then-not-branch-clause-means
returns-then-not-branch-clause-means g c = λ frame names.
    let bits : c.layout-bits.result.bits ≡ (layout_of c.args.field.now).bits = ap (λ l. l.bits) c.layout-bits.ensures in
    let lt : bits_of c.args.width < (layout_of c.args.field.now).bits = omega (arith, bits, c.from.ensures, c.bits.ensures, c.if-bits-from.false) in
    wide_stops (bits_of c.args.width) c.args.field.now _ _ runs.OutOfSteps lt (rw c.if-not-branch.true at (c.in_ok-read_wide_field.ensures.means frame names))

pub returns-clause-means : goal.returns-clause-means
returns-clause-means g c = λ frame names.
    let bits : c.layout-bits.result.bits ≡ (layout_of c.args.field.now).bits = ap (λ l. l.bits) c.layout-bits.ensures in
    let lt : bits_of c.args.width < (layout_of c.args.field.now).bits = omega (arith, bits, c.from.ensures, c.bits.ensures, c.if-bits-from.false) in
    let len : c.in-Ok.bytes.len ≡ length c.read_wide_field.new.bytes = omega arith in
    rw (c.new.ensures, len, take-append_seam c.read_wide_field.new.bytes (drop (length c.read_wide_field.new.bytes) c.in-Ok.bytes.items)) (wide_value (bits_of c.args.width) c.args.field.now _ _ _ lt (rw c.if-not-branch.false at (c.in_ok-read_wide_field.ensures.means frame names)))

pub returns-in_default-clause-means : goal.returns-in_default-clause-means
returns-in_default-clause-means g c = λ frame names.
    let bits : c.layout-bits.result.bits ≡ (layout_of c.args.field.now).bits = ap (λ l. l.bits) c.layout-bits.ensures in
    let lt : bits_of c.args.width < (layout_of c.args.field.now).bits = omega (arith, bits, c.from.ensures, c.bits.ensures, c.if-bits-from.false) in
    wide_memory (bits_of c.args.width) c.args.field.now _ _ (omega arith) lt
