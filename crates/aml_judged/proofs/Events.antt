-- Reads and writes of fields take as many steps as they have events.
use Rattle.std.proofs.Common.{◌≡◌, ℕ, zero, suc, ◌+◌, ◌*◌, ◌≤◌, List, [], ◌∷◌, ◌++◌, Option, Some, None, refl, ◌∙◌, subst, arith, length}
use Rattle.std.proofs.Math.Nat.{suc-mul}
use Rattle.std.specs.Prelude.{Bool, true, false, slice_get, nat_le, cond}
use Rattle.aml_regions.specs.declared.access.Access.{Access}
use Rattle.aml_regions.specs.Events.{Event, Read, Written, Notified, Slept, Stalled, same_access}
use Rattle.aml_regions.specs.Fields.{bits_of, count, covers, first, layout_of, mixed}
use Rattle.aml_regions.specs.declared.field.AnyField.{AnyField}
use Rattle.aml_regions.specs.declared.field.AnyField.TheVariants.{Plain, Banked, Indexed}
use Rattle.aml_regions.specs.declared.field.BankedField.{BankedField}
use Rattle.aml_regions.specs.declared.field.FieldLayout.{FieldLayout}
use Rattle.aml_regions.specs.declared.field.IndexedField.{IndexedField}
use Rattle.aml_regions.specs.declared.field.OtherBits.{OtherBits}
use Rattle.aml_regions.specs.declared.field.OtherBits.TheVariants.{Preserve, Ones, Zeros}
use Rattle.aml_regions.specs.declared.field.RegionField.{RegionField}
use Rattle.aml_meaning.specs.State as state
use Rattle.aml_meaning.specs.State.{State, Out, Halts, NoAnswer, Spent, with_steps}
use Rattle.aml_meaning.specs.Parts.{M, ◌>>=◌, give, paid, take_step, then_do, with_memory, read_unit, make_event, answer, with_event}
use Rattle.aml_meaning.specs.Fields.{UnitPlan, read_from, integer_read, bytes_read, others_of, others_cost, cost_from, write_from, bits_written, plan_reads, plan_writes, region_plan, banked_plan, indexed_plan, bank_chosen, index_chosen, plan_of, read_integer, read_bytes, read_value, value_read, write_bits, read_count, write_count}
use Rattle.aml_judged.specs.Events.{Costs, FieldsCost}

abbrev AlwaysCosts : {V : Type 0} → ℕ → M V → Type 0
AlwaysCosts n m = (script : List Event) (s : State) → Costs n s (m.run script s)

behind : {W : Type 0} (n k : ℕ) (before s : State) (o : Out W) → before.steps ≤ s.steps + n → s.frame ≡ before.frame → s.names ≡ before.names → Costs k s o → Costs (n + k) before o
behind n k before s (state.Goes w last) p e f g = (let q = g.0 in omega (arith, p, q), g.1 ∙ e, g.2 ∙ f)
behind n k before s (Halts stop last) p e f g = g
behind n k before s (NoAnswer last) p e f g = tt
behind n k before s (Spent last) p e f g = omega (arith, p, g)

then_costs : {V W : Type 0} (n k : ℕ) (before : State) (o : Out V) (f : V → State → Out W) → Costs n before o → ((v : V) (s : State) → Costs k s (f v s)) → Costs (n + k) before (then_do o f)
then_costs n k before (state.Goes v s) f h next = behind n k before s (f v s) h.0 h.1 h.2 (next v s)
then_costs n k before (Halts stop s) f h next = absurd h
then_costs n k before (NoAnswer s) f h next = tt
then_costs n k before (Spent s) f h next = omega (arith, h)

both_cost : {V W : Type 0} (n k : ℕ) (m : M V) (f : V → M W) → AlwaysCosts n m → ((v : V) → AlwaysCosts k (f v)) → AlwaysCosts (n + k) (m >>= f)
unfolding ◌>>=◌
both_cost n k m f h g script s = then_costs n k s (m.run script s) _ (h script s) (λ v next. g v script next)

give_costs : {V : Type 0} (v : V) → AlwaysCosts 0 (give v)
unfolding give
give_costs v script s = (omega arith, refl, refl)

same_cost : {V : Type 0} (n k : ℕ) (m : M V) → n ≡ k → AlwaysCosts n m → AlwaysCosts k m
same_cost n k m e h = subst (λ i. AlwaysCosts i m) e h

step_costs : {V : Type 0} (n : ℕ) (s : State) (f : State → Out V) → s.steps ≡ n → ((m : ℕ) → Costs 0 (with_steps s m) (f (with_steps s m))) → Costs 1 s (take_step n s f)
step_costs zero s f e h = omega (arith, e)
step_costs (suc n) s f e h = behind 1 0 s (with_steps s n) (f (with_steps s n)) (omega (arith, e)) refl refl (h n)

found_costs : (b : Bool) (v : ℕ) (s : State) (event : Event) → Costs 0 s (cond b (state.Goes v (with_event s event)) (NoAnswer s))
found_costs true v s event = (omega arith, refl, refl)
found_costs false v s event = tt

answer_costs : (access : Access) (event : Option Event) (s : State) → Costs 0 s (answer access event s)
answer_costs access (Some (Read other v)) s = found_costs (same_access access other) v s _
answer_costs access (Some (Written other v)) s = tt
answer_costs access (Some (Notified object v)) s = tt
answer_costs access (Some (Slept v left)) s = tt
answer_costs access (Some (Stalled v)) s = tt
answer_costs access None s = tt

unit_costs : (access : Access) → AlwaysCosts 1 (read_unit access)
unfolding read_unit paid
unit_costs access script s = step_costs s.steps s _ refl (λ m. answer_costs access (slice_get script (length s.log)) (with_steps s m))

event_costs : (event : Event) → AlwaysCosts 1 (make_event event)
unfolding make_event paid
event_costs event script s = step_costs s.steps s _ refl (λ m. (omega arith, refl, refl))

reads_cost : {V : Type 0} (read : ℕ → M ℕ) (made : List ℕ → V) (e : ℕ) → ((u : ℕ) → AlwaysCosts e (read u)) → (k u : ℕ) (answers : List ℕ) → AlwaysCosts (k * e) (read_from read made k u answers)
reads_cost read made e h zero u answers = same_cost 0 (0 * e) (give (made answers)) (omega arith) (give_costs (made answers))
reads_cost read made e h (suc k) u answers = same_cost (e + k * e) (suc k * e) (read_from read made (suc k) u answers) (let m : suc k * e ≡ k * e + e = suc-mul k e in omega (arith, m)) (both_cost e (k * e) (read u) _ (h u) (λ answer. reads_cost read made e h k (suc u) (answers ++ answer ∷ [])))

other_costs : (whole : Bool) (others : OtherBits) (width e : ℕ) (read : M ℕ) → AlwaysCosts e read → AlwaysCosts (others_cost whole others e) (others_of whole others width read)
other_costs true Preserve width e read h = give_costs _
other_costs true Ones width e read h = give_costs _
other_costs true Zeros width e read h = give_costs _
other_costs false Preserve width e read h = h
other_costs false Ones width e read h = give_costs _
other_costs false Zeros width e read h = give_costs _

writes_cost : (f : FieldLayout) (read : ℕ → M ℕ) (write : ℕ → ℕ → M (Unit {0})) (bit : ℕ → ℕ) (e d : ℕ) → ((u : ℕ) → AlwaysCosts e (read u)) → ((u n : ℕ) → AlwaysCosts d (write u n)) → (k u : ℕ) → AlwaysCosts (cost_from f e d k u) (write_from f read write bit k u)
writes_cost f read write bit e d h g zero u = give_costs tt
writes_cost f read write bit e d h g (suc k) u =
    same_cost (others_cost (covers f u) f.others e + (d + cost_from f e d k (suc u))) (cost_from f e d (suc k) u) (write_from f read write bit (suc k) u) (omega arith)
    (both_cost (others_cost (covers f u) f.others e) (d + cost_from f e d k (suc u)) (others_of (covers f u) f.others (bits_of f.width) (read u)) _ (other_costs (covers f u) f.others (bits_of f.width) e (read u) (h u)) (λ other.
    both_cost d (cost_from f e d k (suc u)) (write u (mixed f bit u other)) _ (g u (mixed f bit u other)) (λ v. writes_cost f read write bit e d h g k (suc u))))

-- what its units cost, a field costs
record PlanCosts (p : UnitPlan) : Type 0 where
  read : (u : ℕ) → AlwaysCosts p.read_events (p.read u)
  write : (u n : ℕ) → AlwaysCosts p.write_events (p.write u n)

integer_costs : (p : UnitPlan) → PlanCosts p → AlwaysCosts (plan_reads p) (integer_read p)
unfolding integer_read plan_reads
integer_costs p h = reads_cost p.read _ p.read_events h.read (count p.layout) (first p.layout) []

bytes_cost : (p : UnitPlan) → PlanCosts p → AlwaysCosts (plan_reads p) (bytes_read p)
unfolding bytes_read plan_reads
bytes_cost p h = reads_cost p.read _ p.read_events h.read (count p.layout) (first p.layout) []

bits_cost : (p : UnitPlan) (bit : ℕ → ℕ) → PlanCosts p → AlwaysCosts (plan_writes p) (bits_written p bit)
unfolding bits_written plan_writes
bits_cost p bit h = writes_cost p.layout p.read p.write bit p.read_events p.write_events h.read h.write (count p.layout) (first p.layout)

region_costs : (r : RegionField) → PlanCosts (region_plan r)
unfolding region_plan
region_costs r = record { read = λ u. unit_costs _; write = λ u n. event_costs _ }

banked_costs : (b : BankedField) → PlanCosts (banked_plan b)
unfolding banked_plan
banked_costs b = record {
  read = λ u. both_cost (plan_writes (region_plan b.bank)) 1 (bank_chosen b) _ (bits_cost (region_plan b.bank) _ (region_costs b.bank)) (λ v. unit_costs _);
  write = λ u n. both_cost (plan_writes (region_plan b.bank)) 1 (bank_chosen b) _ (bits_cost (region_plan b.bank) _ (region_costs b.bank)) (λ v. event_costs _);
}

indexed_costs : (x : IndexedField) → PlanCosts (indexed_plan x)
unfolding indexed_plan
indexed_costs x = record {
  read = λ u. both_cost (plan_writes (region_plan x.index_field)) (plan_reads (region_plan x.data_field)) (index_chosen x u) _ (bits_cost (region_plan x.index_field) _ (region_costs x.index_field)) (λ v. integer_costs (region_plan x.data_field) (region_costs x.data_field));
  write = λ u n. both_cost (plan_writes (region_plan x.index_field)) (plan_writes (region_plan x.data_field)) (index_chosen x u) _ (bits_cost (region_plan x.index_field) _ (region_costs x.index_field)) (λ v. bits_cost (region_plan x.data_field) _ (region_costs x.data_field));
}

plan_costs : (f : AnyField) → PlanCosts (plan_of f)
unfolding plan_of
plan_costs (Plain r) = region_costs r
plan_costs (Banked b) = banked_costs b
plan_costs (Indexed x) = indexed_costs x

value_costs : (narrow : Bool) (f : AnyField) → AlwaysCosts (plan_reads (plan_of f)) (value_read narrow f)
unfolding read_integer read_bytes
value_costs true f = same_cost (plan_reads (plan_of f) + 0) (plan_reads (plan_of f)) (value_read true f) (omega arith) (both_cost (plan_reads (plan_of f)) 0 (integer_read (plan_of f)) _ (integer_costs (plan_of f) (plan_costs f)) (λ n. give_costs _))
value_costs false f = same_cost (plan_reads (plan_of f) + 0) (plan_reads (plan_of f)) (value_read false f) (omega arith) (both_cost (plan_reads (plan_of f)) 0 (with_memory (bytes_read (plan_of f))) _ (bytes_cost (plan_of f) (plan_costs f)) (λ n. give_costs _))

pub fields_cost : FieldsCost
unfolding read_value write_bits read_count write_count
fields_cost = record {
  read = λ width f. value_costs (nat_le (layout_of f).bits width) f;
  write = λ f bit. bits_cost (plan_of f) bit (plan_costs f);
}
