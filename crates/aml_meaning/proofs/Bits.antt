-- The bits that are found.
use Rattle.std.proofs.Common.{suc, refl, ap, arith, w64}
use Rattle.std.specs.Prelude.{if◌then◌else◌}
use Rattle.std.specs.Int.Count.{count_trailing_zeros, leading_of_zero, leading_top}
use Rattle.std.proofs.lemmas.Nat.Bits.{bit_at-trailing_zeros}
use Rattle.aml_meaning.proofs.Loops.{nonzero_test}
use Rattle.aml_meaning.specs.Whole.{LeftBitIsHighest, RightBitIsLowest, ZeroHasNoBit}

pub left_is_highest : LeftBitIsHighest
left_is_highest n some below =
    let top = leading_top 64 n some below in
    (top.0, omega (arith, top.1), top.2, top.3)

pub right_is_lowest : RightBitIsLowest
right_is_lowest n some below =
    let low = bit_at-trailing_zeros w64 n some below in
    (count_trailing_zeros 64 n, ap (λ b. if b then 0 else suc (count_trailing_zeros 64 n)) (nonzero_test n (λ e. omega (arith, some, e))), low.1, low.2)

pub zero_has_none : ZeroHasNoBit
zero_has_none = (omega (arith, leading_of_zero 64), refl)
