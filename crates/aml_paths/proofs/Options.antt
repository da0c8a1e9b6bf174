-- Whether something is there.
use Rattle.std.proofs.Common.{◌≡◌, Option, Some, None, true, false, refl}
use Rattle.std.specs.Prelude.{is_some}

pub some_in : {X : Type 0} (o : Option X) → is_some o ≡ true → (x : X) × (o ≡ Some x)
some_in None is = absurd cc
some_in (Some x) is = (x, refl)

pub none_in : {X : Type 0} (o : Option X) → is_some o ≡ false → o ≡ None
none_in None is = refl
none_in (Some x) is = absurd cc
