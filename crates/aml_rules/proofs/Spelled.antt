-- Integers of eight bytes and fewer.
use Rattle.std.proofs.Common.{ℕ, ◌-◌, ◌<◌, ◌≤◌, ◌^◌, List, length, drop, take, arith, lit<, length-drop}
use Rattle.std.proofs.lemmas.List.{length-take}
use Rattle.std.proofs.Math.Nat.{pow-le-pow_right}

-- what is left of eight bytes behind the first is below 2 to the power 56
pub room : (xs : List ℕ) (r : ℕ) → length xs ≤ 8 → 1 ≤ length xs → r < 256 ^ length (take (length xs - 1) (drop 1 xs)) → r < 256 ^ 7
room xs r most some fits =
    let short : length (take (length xs - 1) (drop 1 xs)) ≤ 7 = omega (arith, length-take (length xs - 1) (drop 1 xs), length-drop 1 xs, most) in
    let below : 256 ^ length (take (length xs - 1) (drop 1 xs)) ≤ 256 ^ 7 = pow-le-pow_right (lit< tt) short in
    omega (arith, below, fits)
