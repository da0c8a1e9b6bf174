-- What holds of answers that are put together.
use Rattle.std.proofs.Common.{◌≡◌, Result, Ok, Err, refl}
use Rattle.std.specs.Prelude.{cond, Bool, true, false}
use Rattle.aml_tree.specs.declared.fault.Refusal.{Refusal}
use Rattle.aml_tree.specs.Fault.{◌>>=◌}
use Rattle.aml_tree.specs.Answers.{Answers}

-- of a first answer it is known only which it is
pub then_answers : {X Y : Type 0} (r : Result X Refusal) (k : X → Result Y Refusal) (Q : Y → Type 0) (G : Refusal → Type 0) → ((x : X) → r ≡ Ok x → Answers (k x) Q G) → ((f : Refusal) → r ≡ Err f → G f) → Answers (r >>= k) Q G
then_answers (Ok x) k Q G ok err = ok x refl
then_answers (Err f) k Q G ok err = err f refl

-- of a first answer something holds
pub and_answers : {X Y : Type 0} (r : Result X Refusal) (P : X → Type 0) (F : Refusal → Type 0) (k : X → Result Y Refusal) (Q : Y → Type 0) (G : Refusal → Type 0) → Answers r P F → ((x : X) → P x → Answers (k x) Q G) → ((f : Refusal) → F f → G f) → Answers (r >>= k) Q G
and_answers (Ok x) P F k Q G a ok err = ok x a
and_answers (Err f) P F k Q G a ok err = err f a

pub weaker : {X : Type 0} (r : Result X Refusal) (P : X → Type 0) (F : Refusal → Type 0) (Q : X → Type 0) (G : Refusal → Type 0) → Answers r P F → ((x : X) → P x → Q x) → ((f : Refusal) → F f → G f) → Answers r Q G
weaker (Ok x) P F Q G a ok err = ok x a
weaker (Err f) P F Q G a ok err = err f a

pub by_test : {X : Type 0} (b : Bool) (x y : Result X Refusal) (Q : X → Type 0) (G : Refusal → Type 0) → (b ≡ true → Answers x Q G) → (b ≡ false → Answers y Q G) → Answers (cond b x y) Q G
by_test true x y Q G then_x else_y = then_x refl
by_test false x y Q G then_x else_y = else_y refl

pub of_ok : {X : Type 0} (r : Result X Refusal) (P : X → Type 0) (F : Refusal → Type 0) (x : X) → Answers r P F → r ≡ Ok x → P x
of_ok (Ok y) P F x a e = let same : y ≡ x = cc in rw (← same) a
of_ok (Err f) P F x a e = absurd cc

pub of_err : {X : Type 0} (r : Result X Refusal) (P : X → Type 0) (F : Refusal → Type 0) (f : Refusal) → Answers r P F → r ≡ Err f → F f
of_err (Ok y) P F f a e = absurd cc
of_err (Err g) P F f a e = let same : g ≡ f = cc in rw (← same) a
