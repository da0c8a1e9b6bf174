-- What a fine evaluation lends to its parts, where the kinds of names stay. Nothing here knows of kinds.
use Rattle.std.proofs.Common.{◌≡◌, ℕ, suc, List, Result, Ok, sym, subst}
use Rattle.std.specs.Prelude.{Bool, true, false, if◌then◌else◌}
use Rattle.aml_regions.specs.Events.{Event, AreWords}
use Rattle.aml_meaning.specs.declared.error.AmlError.{AmlError}
use Rattle.aml_meaning.specs.State.{State, Error, with_steps}
use Rattle.aml_meaning.specs.Parts.{M, Effect, ◌>>=◌, give, stop_with, lift, tick, paid}
use Rattle.aml_meaning.specs.Runs.{Halt, Runs}
use Rattle.aml_fine.specs.Fine.{AreGood, Fine, FineOver, IsSure}
use Rattle.aml_fine.proofs.Over.{over_choice, over_chosen, over_dropped, over_first, over_give, over_lift, over_lift_first, over_next, over_other, over_paid, over_paid_first, over_same, over_steps, over_stop, over_sure, over_tick, over_without}

-- the events so far fit, behind what runs, where the kinds stay
pub words_behind : {V : Type 0} (r : Result V Halt) (m : M V) (s s1 : State) → AreWords s.names.kinds s.log → Runs r m s s1 → s1.names.kinds ≡ s.names.kinds → AreWords s.names.kinds s1.log
words_behind r m s s1 w runs same = subst (λ kinds. AreWords kinds s1.log) same (runs.words w)

-- what is fine by the kinds before is fine by those behind
pub fine_moved : {V : Type 0} (m : M V) (s s1 : State) → s1.names.kinds ≡ s.names.kinds → FineOver (AreWords s.names.kinds) m s1 → Fine m s1
fine_moved m s s1 same h = subst (λ kinds. FineOver (AreWords kinds) m s1) (sym same) h

pub fine_first : {V W : Type 0} (m : M V) (f : V → M W) (s : State) → Fine (m >>= f) s → Fine m s
fine_first m f s h = over_first _ m f s h

pub fine_next : {V W : Type 0} (m : M V) (f : V → M W) (s s1 : State) (v : V) → Fine (m >>= f) s → Runs (Ok v) m s s1 → s1.names.kinds ≡ s.names.kinds → Fine (f v) s1
fine_next m f s s1 v h r same = fine_moved (f v) s s1 same (over_next _ m f s s1 v h r (words_behind (Ok v) m s s1 h.words r same))

pub fine_tick : {V : Type 0} (f : Unit {0} → M V) (s : State) → Fine (tick >>= f) s → (k : ℕ) × (s.steps ≡ suc k) × Fine (f tt) (with_steps s k)
fine_tick f s h = over_tick _ f s h

pub fine_steps : {V W : Type 0} (f : Unit {0} → M V) (g : V → M W) (s : State) → Fine (tick >>= f >>= g) s → (k : ℕ) × (s.steps ≡ suc k) × Fine (f tt >>= g) (with_steps s k)
fine_steps f g s h = over_steps _ f g s h

pub fine_paid : {V : Type 0} (effect : Effect V) (s : State) → Fine (paid effect) s → (k : ℕ) × (s.steps ≡ suc k) × AreGood (AreWords s.names.kinds) s (λ script. effect.run script (with_steps s k))
fine_paid effect s h = over_paid _ effect s h

pub fine_paid_first : {V W : Type 0} (effect : Effect V) (f : V → M W) (s : State) → Fine (paid effect >>= f) s → (k : ℕ) × (s.steps ≡ suc k) × AreGood (AreWords s.names.kinds) s (λ script. effect.run script (with_steps s k))
fine_paid_first effect f s h = over_paid_first _ effect f s h

pub fine_stop : {V : Type 0} (e : AmlError) (s : State) → Fine {V = V} (stop_with (Error e)) s → ⊥
fine_stop e s h = over_stop _ e s h

pub fine_lift : {V : Type 0} (r : Result V AmlError) (s : State) → Fine (lift r) s → (v : V) × (r ≡ Ok v)
fine_lift r s h = over_lift _ r s h

pub fine_lift_first : {V W : Type 0} (r : Result V AmlError) (f : V → M W) (s : State) → Fine (lift r >>= f) s → (v : V) × (r ≡ Ok v) × Fine (f v) s
fine_lift_first r f s h = over_lift_first _ r f s h

pub fine_give : {V W : Type 0} (v : V) (f : V → M W) (s : State) → Fine (give v >>= f) s → Fine (f v) s
fine_give v f s h = over_give _ v f s h

pub fine_sure : {V : Type 0} (r : Result V Halt) (m : M V) (s s1 : State) → Fine m s → Runs r m s s1 → s1.names.kinds ≡ s.names.kinds → IsSure r
fine_sure r m s s1 h runs same = over_sure _ r m s s1 h runs (words_behind r m s s1 h.words runs same)

pub fine_choice : {V : Type 0} (b : Bool) (m n : M V) (s : State) → Fine (if b then m else n) s → b ≡ true → Fine m s
fine_choice b m n s h e = over_choice _ b m n s h e

pub fine_other : {V : Type 0} (b : Bool) (m n : M V) (s : State) → Fine (if b then m else n) s → b ≡ false → Fine n s
fine_other b m n s h e = over_other _ b m n s h e

pub fine_chosen : {V : Type 0} (b : Bool) (m : M V) (e : AmlError) (s : State) → Fine (if b then m else stop_with (Error e)) s → (b ≡ true) × Fine m s
fine_chosen b m e s h = over_chosen _ b m e s h

pub fine_dropped : {V : Type 0} (m : M V) (s : State) → Fine (m >>= (λ v. give {V = Unit {0}} tt)) s → Fine m s
fine_dropped m s h = over_dropped _ m s h

pub fine_without : {V : Type 0} (m : M V) (s : State) → Fine m s → Fine (m >>= (λ v. give {V = Unit {0}} tt)) s
fine_without m s h = over_without _ m s h

-- parts from which the same comes

pub fine_same : {V : Type 0} (m n : M V) (s : State) → ((script : List Event) → m.run script s ≡ n.run script s) → Fine m s → Fine n s
fine_same m n s same h = over_same _ m n s same h
