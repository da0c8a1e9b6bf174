-- The events of reads and writes of fields, counted.
use Rattle.std.proofs.Common.{◌≡◌, ◌<◌, ◌≤◌, ◌+◌, ◌-◌, ◌*◌, ℕ, zero, suc, List, [], ◌∷◌, ◌++◌, length, Option, Some, None, Result, Ok, Err, refl, sym, ap, ◌∙◌, subst, arith}
use Rattle.std.specs.Prelude.{Bool, true, false, cond, slice_get}
use Rattle.std.proofs.lemmas.List.{append-nil, length-append}
use Rattle.aml_regions.specs.declared.access.Access.{Access}
use Rattle.aml_regions.specs.Events.{Event, Read, Written, Notified, Slept, Stalled, same_access}
use Rattle.aml_regions.specs.Fields.{bits_of, covers, count, first}
use Rattle.aml_regions.specs.declared.field.AnyField.{AnyField}
use Rattle.aml_regions.specs.declared.field.AnyField.TheVariants.{Plain, Banked, Indexed}
use Rattle.aml_regions.specs.declared.field.BankedField.{BankedField}
use Rattle.aml_regions.specs.declared.field.FieldLayout.{FieldLayout}
use Rattle.aml_regions.specs.declared.field.IndexedField.{IndexedField}
use Rattle.aml_regions.specs.declared.field.OtherBits.{OtherBits}
use Rattle.aml_regions.specs.declared.field.OtherBits.TheVariants.{Preserve, Ones, Zeros}
use Rattle.aml_regions.specs.declared.field.RegionField.{RegionField}
use Rattle.aml_meaning.specs.State.{State, Frame, Names, Stop, Out, Goes, Halts, NoAnswer, Spent, state_of, with_steps}
use Rattle.aml_meaning.specs.Parts.{M, ◌>>=◌, Stays, give, paid, take_step, then_do, read_unit, answer, make_event, with_event}
use Rattle.aml_meaning.specs.Runs.{Halt, NoMemory, OutOfSteps, By, IsPrefix, Runs, state}
use Rattle.aml_meaning.specs.Fields.{UnitPlan, read_from, integer_read, bytes_read, other_bits, others_of, others_cost, write_from, cost_from, bits_written, plan_reads, plan_writes, region_plan, banked_plan, indexed_plan, bank_chosen, index_chosen, plan_of, read_integer, read_bytes, write_bits, read_count, write_count}
use Rattle.aml_meaning.proofs.Runs.{prefix_refl, prefix_trans}
use Rattle.aml_fields.specs.Limits.{GoesBy, BeginsWith, HasEvents, IsWithin, TellsLimit, ReadsHaveTheirEvents, WritesHaveTheirEvents, AnswersTellTheLimit}

-- so many events from a state on, and those of the same evaluation with more steps
record Paced {V : Type 0} (n : ℕ) (s : State) (o more : Out V) : Type 0 where
  goes : GoesBy n s o
  begins : BeginsWith o more
  grows : IsPrefix s.log (state_of o).log

record Paces {V : Type 0} (n : ℕ) (m : M V) : Type 0 where
  run : (script : List Event) (s : State) (k : ℕ) → Paced n s (m.run script s) (m.run script (with_steps s (s.steps + k)))

paces_as : {V : Type 0} (n l : ℕ) (m : M V) → n ≡ l → Paces n m → Paces l m
paces_as n l m e h = subst (λ i. Paces i m) e h

give_paces : {V : Type 0} (v : V) → Paces 0 (give v)
unfolding give
give_paces v = record { run = λ script s k. record { goes = (omega arith, omega arith); begins = tt; grows = prefix_refl s.log } }

-- one part, and then another
goes_more : {W : Type 0} (n l : ℕ) (s t : State) (o : Out W) → s.steps ≡ t.steps + n → length t.log ≡ length s.log + n → GoesBy l t o → GoesBy (n + l) s o
goes_more n l s t (Goes v last) e f h = (omega (arith, e, h.0), omega (arith, f, h.1))
goes_more n l s t (Halts stop last) e f h = h
goes_more n l s t (NoAnswer last) e f h = tt
goes_more n l s t (Spent last) e f h = (omega (arith, e, h.0), omega (arith, e, f, h.1))

grows_then : {V W : Type 0} (o : Out V) (f : V → State → Out W) → ((v : V) (t : State) → IsPrefix t.log (state_of (f v t)).log) → IsPrefix (state_of o).log (state_of (then_do o f)).log
grows_then (Goes v t) f h = h v t
grows_then (Halts stop t) f h = prefix_refl t.log
grows_then (NoAnswer t) f h = prefix_refl t.log
grows_then (Spent t) f h = prefix_refl t.log

then_paces : {V W : Type 0} (n l : ℕ) (s : State) (k : ℕ) (o more : Out V) (f : V → State → Out W) → Stays k o more → Paced n s o more → ((v : V) (t : State) → Paced l t (f v t) (f v (with_steps t (t.steps + k)))) → Paced (n + l) s (then_do o f) (then_do more f)
then_paces n l s k (Goes v t) more f stays h next =
    let q = next v t in
    record {
      goes = goes_more n l s t (f v t) h.goes.0 h.goes.1 q.goes;
      begins = subst (λ p. BeginsWith (f v t) (then_do p f)) (sym stays) q.begins;
      grows = prefix_trans s.log t.log (state_of (f v t)).log h.grows q.grows;
    }
then_paces n l s k (Halts stop t) more f stays h next = absurd h.goes
then_paces n l s k (NoAnswer t) more f stays h next = record { goes = tt; begins = tt; grows = h.grows }
then_paces n l s k (Spent t) more f stays h next = record {
  goes = (omega (arith, h.goes.0), h.goes.1);
  begins = prefix_trans t.log (state_of more).log (state_of (then_do more f)).log h.begins (grows_then more f (λ v u. (next v u).grows));
  grows = h.grows;
}

both_pace : {V W : Type 0} (n l : ℕ) (m : M V) (f : V → M W) → Paces n m → ((v : V) → Paces l (f v)) → Paces (n + l) (m >>= f)
unfolding ◌>>=◌
both_pace n l m f h g = record {
  run = λ script s k. then_paces n l s k (m.run script s) (m.run script (with_steps s (s.steps + k))) (λ v t. (f v).run script t) (m.stays script s k) (h.run script s k) (λ v t. (g v).run script t k);
}

-- one event, behind its step
abbrev OneEvent : {V : Type 0} → State → Out V → Type 0
OneEvent s (Goes v t) = (t.steps ≡ s.steps) × ((event : Event) × (t.log ≡ s.log ++ event ∷ []))
OneEvent s (Halts stop t) = ⊥
OneEvent s (NoAnswer t) = t.log ≡ s.log
OneEvent s (Spent t) = ⊥

one_grows : {V : Type 0} (s : State) (o : Out V) → OneEvent s o → IsPrefix s.log (state_of o).log
one_grows s (Goes v t) h = record { growth = h.1.0 ∷ []; is = h.1.1 }
one_grows s (Halts stop t) h = absurd h
one_grows s (NoAnswer t) h = record { growth = []; is = h ∙ sym (append-nil s.log) }
one_grows s (Spent t) h = absurd h

one_paces : {V : Type 0} (n : ℕ) (s : State) (o more : Out V) → s.steps ≡ suc n → OneEvent (with_steps s n) o → Paced 1 s o more
one_paces n s (Goes v t) more e h =
    let steps : t.steps ≡ n = h.0 in
    let log : t.log ≡ s.log ++ h.1.0 ∷ [] = h.1.1 in
    record {
      goes = (omega (arith, e, steps), omega (arith, ap length log, length-append s.log (h.1.0 ∷ [])));
      begins = tt;
      grows = one_grows (with_steps s n) (Goes v t) h;
    }
one_paces n s (Halts stop t) more e h = absurd h
one_paces {V} n s (NoAnswer t) more e h = record { goes = tt; begins = tt; grows = one_grows {V = V} (with_steps s n) (NoAnswer t) h }
one_paces n s (Spent t) more e h = absurd h

step_grows : {V : Type 0} (k : ℕ) (s : State) (f : State → Out V) → ((j : ℕ) → OneEvent (with_steps s j) (f (with_steps s j))) → IsPrefix s.log (state_of (take_step k (with_steps s k) f)).log
step_grows zero s f h = prefix_refl s.log
step_grows (suc k) s f h = one_grows (with_steps s k) (f (with_steps s k)) (h k)

step_paces : {V : Type 0} (n k : ℕ) (s : State) (f : State → Out V) → s.steps ≡ n → ((j : ℕ) → OneEvent (with_steps s j) (f (with_steps s j))) → Paced 1 s (take_step n s f) (take_step (n + k) (with_steps s (n + k)) f)
step_paces zero k s f e h = record { goes = (omega (arith, e), omega (arith, e)); begins = step_grows (0 + k) s f h; grows = prefix_refl s.log }
step_paces (suc n) k s f e h = one_paces n s (f (with_steps s n)) _ e (h n)

found_one : (b : Bool) (v : ℕ) (s : State) (event : Event) → OneEvent s (cond b (Goes v (with_event s event)) (NoAnswer s))
found_one true v s event = (refl, (event, refl))
found_one false v s event = refl

answer_one : (access : Access) (event : Option Event) (s : State) → OneEvent s (answer access event s)
answer_one access (Some (Read other v)) s = found_one (same_access access other) v s (Read access v)
answer_one access (Some (Written other v)) s = refl
answer_one access (Some (Notified object v)) s = refl
answer_one access (Some (Slept v left)) s = refl
answer_one access (Some (Stalled v)) s = refl
answer_one access None s = refl

read_paces : (access : Access) → Paces 1 (read_unit access)
unfolding read_unit paid
read_paces access = record { run = λ script s k. step_paces s.steps k s (λ t. answer access (slice_get script (length t.log)) t) refl (λ j. answer_one access (slice_get script (length s.log)) (with_steps s j)) }

event_paces : (event : Event) → Paces 1 (make_event event)
unfolding make_event paid
event_paces event = record { run = λ script s k. step_paces s.steps k s (λ t. Goes tt (with_event t event)) refl (λ j. (refl, (event, refl))) }

-- fields, however their units are reached
reads_pace : {V : Type 0} (n : ℕ) (read : ℕ → M ℕ) (made : List ℕ → V) → ((u : ℕ) → Paces n (read u)) → (k u : ℕ) (answers : List ℕ) → Paces (k * n) (read_from read made k u answers)
reads_pace n read made h zero u answers = paces_as 0 (0 * n) (give (made answers)) (omega arith) (give_paces (made answers))
reads_pace n read made h (suc k) u answers =
    paces_as (n + k * n) (suc k * n) (read_from read made (suc k) u answers) (omega arith) (both_pace n (k * n) (read u) (λ answer. read_from read made k (suc u) (answers ++ answer ∷ [])) (h u) (λ answer. reads_pace n read made h k (suc u) (answers ++ answer ∷ [])))

other_paces : (n : ℕ) (others : OtherBits) (width : ℕ) (read : M ℕ) → Paces n read → Paces (others_cost false others n) (other_bits others width read)
other_paces n Preserve width read h = h
other_paces n Ones width read h = give_paces _
other_paces n Zeros width read h = give_paces _

whole_paces : (n : ℕ) (others : OtherBits) → Paces {V = ℕ} (others_cost true others n) (give 0)
whole_paces n Preserve = give_paces {V = ℕ} 0
whole_paces n Ones = give_paces {V = ℕ} 0
whole_paces n Zeros = give_paces {V = ℕ} 0

others_pace : (n : ℕ) (whole : Bool) (others : OtherBits) (width : ℕ) (read : M ℕ) → Paces n read → Paces (others_cost whole others n) (others_of whole others width read)
others_pace n true others width read h = whole_paces n others
others_pace n false others width read h = other_paces n others width read h

writes_pace : (r w : ℕ) (f : FieldLayout) (read : ℕ → M ℕ) (write : ℕ → ℕ → M (Unit {0})) (bit : ℕ → ℕ) → ((u : ℕ) → Paces r (read u)) → ((u v : ℕ) → Paces w (write u v)) → (k u : ℕ) → Paces (cost_from f r w k u) (write_from f read write bit k u)
writes_pace r w f read write bit h g zero u = give_paces _
writes_pace r w f read write bit h g (suc k) u =
    let cost = others_cost (covers f u) f.others r in
    let rest = cost_from f r w k (suc u) in
    paces_as (cost + (w + rest)) (cost + w + rest) _ (omega arith)
    (both_pace cost (w + rest) (others_of (covers f u) f.others (bits_of f.width) (read u)) _ (others_pace r (covers f u) f.others (bits_of f.width) (read u) (h u))
    (λ other. both_pace w rest _ _ (g u _) (λ v. writes_pace r w f read write bit h g k (suc u))))

-- the units of a plan have its events
record PlanPaces (p : UnitPlan) : Type 0 where
  read : (u : ℕ) → Paces p.read_events (p.read u)
  write : (u v : ℕ) → Paces p.write_events (p.write u v)

integer_paces : (p : UnitPlan) → PlanPaces p → Paces (plan_reads p) (integer_read p)
unfolding integer_read plan_reads
integer_paces p h = reads_pace p.read_events p.read _ h.read (count p.layout) (first p.layout) []

bytes_pace : (p : UnitPlan) → PlanPaces p → Paces (plan_reads p) (bytes_read p)
unfolding bytes_read plan_reads
bytes_pace p h = reads_pace p.read_events p.read _ h.read (count p.layout) (first p.layout) []

bits_pace : (p : UnitPlan) (bit : ℕ → ℕ) → PlanPaces p → Paces (plan_writes p) (bits_written p bit)
unfolding bits_written plan_writes
bits_pace p bit h = writes_pace p.read_events p.write_events p.layout p.read p.write bit h.read h.write (count p.layout) (first p.layout)

region_paces : (r : RegionField) → PlanPaces (region_plan r)
unfolding region_plan
region_paces r = record { read = λ u. read_paces _; write = λ u v. event_paces _ }

banked_paces : (b : BankedField) → PlanPaces (banked_plan b)
unfolding banked_plan
banked_paces b = record {
  read = λ u. both_pace _ 1 (bank_chosen b) _ (bits_pace (region_plan b.bank) _ (region_paces b.bank)) (λ v. read_paces _);
  write = λ u n. both_pace _ 1 (bank_chosen b) _ (bits_pace (region_plan b.bank) _ (region_paces b.bank)) (λ v. event_paces _);
}

indexed_paces : (x : IndexedField) → PlanPaces (indexed_plan x)
unfolding indexed_plan
indexed_paces x = record {
  read = λ u. both_pace _ _ (index_chosen x u) _ (bits_pace (region_plan x.index_field) _ (region_paces x.index_field)) (λ v. integer_paces (region_plan x.data_field) (region_paces x.data_field));
  write = λ u n. both_pace _ _ (index_chosen x u) _ (bits_pace (region_plan x.index_field) _ (region_paces x.index_field)) (λ v. bits_pace (region_plan x.data_field) _ (region_paces x.data_field));
}

plan_paces : (f : AnyField) → PlanPaces (plan_of f)
unfolding plan_of
plan_paces (Plain r) = region_paces r
plan_paces (Banked b) = banked_paces b
plan_paces (Indexed x) = indexed_paces x

has_events : {V : Type 0} (n : ℕ) (m : M V) → Paces n m → HasEvents n m
has_events n m h script s k = let p = h.run script s k in (p.goes, p.begins)

integer_events : (f : AnyField) → HasEvents (read_count f) (read_integer f)
unfolding read_integer read_count
integer_events f = has_events _ _ (integer_paces (plan_of f) (plan_paces f))

bytes_events : (f : AnyField) → HasEvents (read_count f) (read_bytes f)
unfolding read_bytes read_count
bytes_events f = has_events _ _ (bytes_pace (plan_of f) (plan_paces f))

pub reads_have_their_events : ReadsHaveTheirEvents
reads_have_their_events f = (integer_events f, bytes_events f)

pub writes_have_their_events : WritesHaveTheirEvents
unfolding write_bits write_count
writes_have_their_events f bit = has_events _ _ (bits_pace (plan_of f) bit (plan_paces f))

-- the log itself is a script that it begins
tells_limit : {V : Type 0} (n : ℕ) (m : M V) → HasEvents n m → TellsLimit n m
tells_limit n m h (Ok v) frame names limit old new runs =
    let before = with_steps (state frame names limit old) (limit - (limit - n) + 0) in
    let after = with_steps (state frame names (limit - n) new) 0 in
    let went : GoesBy n before (Goes v after) = subst (GoesBy n before) (runs.gives new.events (prefix_refl new.events) 0) (h new.events before 0).0 in
    let steps : limit - (limit - n) + 0 ≡ 0 + n = went.0 in
    omega (arith, steps)
tells_limit {V} n m h (Err OutOfSteps) frame names limit old new runs =
    let before = state frame names limit old in
    let went : GoesBy {V = V} n before (Spent (state frame names (limit - n) new)) = subst (GoesBy n before) (runs.gives new.events (prefix_refl new.events)) (h new.events before 0).0 in
    went.0
tells_limit n m h (Err NoMemory) frame names limit old new runs = tt
tells_limit {V} n m h (Err (By stop)) frame names limit old new runs =
    let before = with_steps (state frame names limit old) (limit - (limit - n) + 0) in
    let after = with_steps (state frame names (limit - n) new) 0 in
    let went : GoesBy {V = V} n before (Halts stop after) = subst (GoesBy n before) (runs.gives new.events (prefix_refl new.events) 0) (h new.events before 0).0 in
    went

pub answers_tell_the_limit : AnswersTellTheLimit
answers_tell_the_limit f bit =
    let reads = reads_have_their_events f in
    (tells_limit _ _ reads.0, tells_limit _ _ reads.1, tells_limit _ _ (writes_have_their_events f bit))
