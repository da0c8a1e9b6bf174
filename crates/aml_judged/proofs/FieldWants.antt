-- Where a field's value is an integer, its read wants no memory, and no write of a field does.
use Rattle.std.proofs.Common.{◌≡◌, ℕ, zero, suc, List, [], ◌∷◌, ◌++◌, refl}
use Rattle.std.specs.Prelude.{Bool, true, false, ◌||◌, nat_le}
use Rattle.aml_regions.specs.Events.{Event}
use Rattle.aml_regions.specs.Fields.{bits_of, count, covers, first, layout_of, mixed}
use Rattle.aml_regions.specs.declared.access.Access.{Access}
use Rattle.aml_regions.specs.declared.field.AnyField.{AnyField}
use Rattle.aml_regions.specs.declared.field.AnyField.TheVariants.{Plain, Banked, Indexed}
use Rattle.aml_regions.specs.declared.field.BankedField.{BankedField}
use Rattle.aml_regions.specs.declared.field.FieldLayout.{FieldLayout}
use Rattle.aml_regions.specs.declared.field.IndexedField.{IndexedField}
use Rattle.aml_regions.specs.declared.field.OtherBits.{OtherBits}
use Rattle.aml_regions.specs.declared.field.OtherBits.TheVariants.{Preserve, Ones, Zeros}
use Rattle.aml_regions.specs.declared.field.RegionField.{RegionField}
use Rattle.aml_meaning.specs.State as state
use Rattle.aml_meaning.specs.State.{State, Out, Halts, NoAnswer, Spent}
use Rattle.aml_meaning.specs.Parts.{M, ◌>>=◌, behind, give, paid, read_unit, make_event}
use Rattle.aml_meaning.specs.Fields.{UnitPlan, read_from, integer_read, others_of, write_from, bits_written, region_plan, banked_plan, indexed_plan, bank_chosen, index_chosen, plan_of, read_integer, read_value, value_read, write_bits}

-- neither of two
pub neither : (b c : Bool) → b ≡ false → c ≡ false → (b || c) ≡ false
neither true c e f = e
neither false c e f = f

abbrev pub WantsNone : {V : Type 0} → M V → Type 0
WantsNone m = (script : List Event) (s : State) → m.wants script s ≡ false

none_behind : {V : Type 0} (o : Out V) (f : V → State → Bool) → ((v : V) (s : State) → f v s ≡ false) → behind o f ≡ false
none_behind (state.Goes v s) f h = h v s
none_behind (Halts stop s) f h = refl
none_behind (NoAnswer s) f h = refl
none_behind (Spent s) f h = refl

both_want : {V W : Type 0} (m : M V) (f : V → M W) → WantsNone m → ((v : V) → WantsNone (f v)) → WantsNone (m >>= f)
unfolding ◌>>=◌
both_want m f h g script s = neither (m.wants script s) _ (h script s) (none_behind (m.run script s) _ (λ v next. g v script next))

give_wants : {V : Type 0} (v : V) → WantsNone (give v)
unfolding give
give_wants v script s = refl

unit_wants : (access : Access) → WantsNone (read_unit access)
unfolding read_unit paid
unit_wants access script s = refl

event_wants : (event : Event) → WantsNone (make_event event)
unfolding make_event paid
event_wants event script s = refl

reads_want : {V : Type 0} (read : ℕ → M ℕ) (made : List ℕ → V) → ((u : ℕ) → WantsNone (read u)) → (k u : ℕ) (answers : List ℕ) → WantsNone (read_from read made k u answers)
reads_want read made h zero u answers = give_wants (made answers)
reads_want read made h (suc k) u answers = both_want (read u) _ (h u) (λ answer. reads_want read made h k (suc u) (answers ++ answer ∷ []))

others_want : (whole : Bool) (others : OtherBits) (width : ℕ) (read : M ℕ) → WantsNone read → WantsNone (others_of whole others width read)
others_want true others width read h = give_wants _
others_want false Preserve width read h = h
others_want false Ones width read h = give_wants _
others_want false Zeros width read h = give_wants _

writes_want : (f : FieldLayout) (read : ℕ → M ℕ) (write : ℕ → ℕ → M (Unit {0})) (bit : ℕ → ℕ) → ((u : ℕ) → WantsNone (read u)) → ((u n : ℕ) → WantsNone (write u n)) → (k u : ℕ) → WantsNone (write_from f read write bit k u)
writes_want f read write bit h g zero u = give_wants tt
writes_want f read write bit h g (suc k) u =
    both_want (others_of (covers f u) f.others (bits_of f.width) (read u)) _ (others_want (covers f u) f.others (bits_of f.width) (read u) (h u)) (λ other.
    both_want (write u (mixed f bit u other)) _ (g u (mixed f bit u other)) (λ v. writes_want f read write bit h g k (suc u)))

-- what its units want, a field wants
record PlanWants (p : UnitPlan) : Type 0 where
  read : (u : ℕ) → WantsNone (p.read u)
  write : (u n : ℕ) → WantsNone (p.write u n)

integer_wants : (p : UnitPlan) → PlanWants p → WantsNone (integer_read p)
unfolding integer_read
integer_wants p h = reads_want p.read _ h.read (count p.layout) (first p.layout) []

bits_want : (p : UnitPlan) (bit : ℕ → ℕ) → PlanWants p → WantsNone (bits_written p bit)
unfolding bits_written
bits_want p bit h = writes_want p.layout p.read p.write bit h.read h.write (count p.layout) (first p.layout)

region_wants : (r : RegionField) → PlanWants (region_plan r)
unfolding region_plan
region_wants r = record { read = λ u. unit_wants _; write = λ u n. event_wants _ }

banked_wants : (b : BankedField) → PlanWants (banked_plan b)
unfolding banked_plan
banked_wants b = record {
  read = λ u. both_want (bank_chosen b) _ (bits_want (region_plan b.bank) _ (region_wants b.bank)) (λ v. unit_wants _);
  write = λ u n. both_want (bank_chosen b) _ (bits_want (region_plan b.bank) _ (region_wants b.bank)) (λ v. event_wants _);
}

indexed_wants : (x : IndexedField) → PlanWants (indexed_plan x)
unfolding indexed_plan
indexed_wants x = record {
  read = λ u. both_want (index_chosen x u) _ (bits_want (region_plan x.index_field) _ (region_wants x.index_field)) (λ v. integer_wants (region_plan x.data_field) (region_wants x.data_field));
  write = λ u n. both_want (index_chosen x u) _ (bits_want (region_plan x.index_field) _ (region_wants x.index_field)) (λ v. bits_want (region_plan x.data_field) _ (region_wants x.data_field));
}

plan_wants : (f : AnyField) → PlanWants (plan_of f)
unfolding plan_of
plan_wants (Plain r) = region_wants r
plan_wants (Banked b) = banked_wants b
plan_wants (Indexed x) = indexed_wants x

value_wants : (narrow : Bool) (f : AnyField) → narrow ≡ true → WantsNone (value_read narrow f)
unfolding read_integer
value_wants true f e = both_want (integer_read (plan_of f)) _ (integer_wants (plan_of f) (plan_wants f)) (λ n. give_wants _)
value_wants false f e = absurd cc

pub narrow_read_wants : (width : ℕ) (f : AnyField) → nat_le (layout_of f).bits width ≡ true → WantsNone (read_value width f)
unfolding read_value
narrow_read_wants width f e = value_wants (nat_le (layout_of f).bits width) f e

pub write_wants : (f : AnyField) (bit : ℕ → ℕ) → WantsNone (write_bits f bit)
unfolding write_bits
write_wants f bit = bits_want (plan_of f) bit (plan_wants f)
