-- Judging in place: exits may be joined and costs added as they come.
use Rattle.std.specs.Prelude.{◌≡◌, ℕ, ◌+◌}
use Rattle.aml_judged.specs.Judged.{Yield, Exits, join_exits, Judged, after}

-- it does not matter which exits are joined first
abbrev pub ExitsAreJoined : Type 0
ExitsAreJoined = (x y z : Exits) → join_exits (join_exits x y) z ≡ join_exits x (join_exits y z)

-- what stands behind two parts stands behind one with the exits and the costs of both
abbrev pub PartsAreJoined : Type 0
PartsAreJoined =
    (x y : Exits) (n m : ℕ) (j : Judged Yield) →
    after x n (after y m j) ≡ after (join_exits x y) (n + m) j
