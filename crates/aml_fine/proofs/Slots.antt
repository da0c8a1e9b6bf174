-- What is read or stored in a frame and in names, where that is fine.
use Rattle.std.proofs.Common.{◌≡◌, ℕ, suc, Option, Some, None, refl}
use Rattle.std.specs.Prelude.{slice_get, Bool, true, false}
use Rattle.aml_values.specs.Values.{Value}
use Rattle.aml_contents.specs.Contents.{content_at}
use Rattle.aml_meaning.specs.Parts.{get_local, get_arg, get_name, set_name, content_or, may_store, stored_or}
use Rattle.aml_meaning.specs.State.{State, with_steps}
use Rattle.aml_meaning.proofs.Runs.{prefix_refl}
use Rattle.aml_judged.specs.Fine.{IsGood}
use Rattle.aml_fine.specs.Fine.{Fine}
use Rattle.aml_fine.proofs.Fine.{fine_paid}

set_there : (table at : ℕ) (slot : Option (Option Value)) (s : State) → IsGood (content_or table at slot s) → (v : Value) × (slot ≡ Some (Some v))
set_there table at (Some (Some v)) s h = (v, refl)
set_there table at (Some None) s h = absurd h
set_there table at None s h = absurd h

-- what is read is set

pub fine_local : (table at k : ℕ) (s : State) → Fine (get_local table at k) s → (v : Value) × (slice_get s.frame.locals k ≡ Some (Some v))
unfolding get_local
fine_local table at k s h = set_there table at (slice_get s.frame.locals k) s (h.runs s.log (prefix_refl s.log) h.words)

pub fine_arg : (table at k : ℕ) (s : State) → Fine (get_arg table at k) s → (v : Value) × (slice_get s.frame.args k ≡ Some (Some v))
unfolding get_arg
fine_arg table at k s h = set_there table at (slice_get s.frame.args k) s (h.runs s.log (prefix_refl s.log) h.words)

inner : {X : Type 0} (o : Option X) (x : X) → ◌≡◌ {A = Option (Option X)} (Some o) (Some (Some x)) → o ≡ Some x
inner o x e = cc

pub fine_name : (table at k : ℕ) (s : State) → Fine (get_name table at k) s → (v : Value) × (content_at s.names.contents k ≡ Some v)
unfolding get_name
fine_name table at k s h =
    let q = set_there table at (Some (content_at s.names.contents k)) s (h.runs s.log (prefix_refl s.log) h.words) in
    (q.0, inner _ q.0 q.1)

-- what is stored into a name may be stored there

may_there : (may : Bool) (table at k : ℕ) (v : Value) (s : State) → IsGood (stored_or may table at k v s) → may ≡ true
may_there true table at k v s h = refl
may_there false table at k v s h = absurd h

pub fine_set_name : (table at k : ℕ) (v : Value) (s : State) → Fine (set_name table at k v) s → (left : ℕ) × (s.steps ≡ suc left) × (may_store s.names.kinds k v ≡ true)
unfolding set_name
fine_set_name table at k v s h =
    let q = fine_paid _ s h in
    (q.0, q.1, may_there _ table at k v (with_steps s q.0) (q.2 s.log (prefix_refl s.log) h.words))
