-- Reads and writes of fields have what all parts have, however their units are reached.
use Rattle.std.proofs.Common.{ℕ, zero, suc, List, [], ◌∷◌, ◌++◌}
use Rattle.std.specs.Prelude.{Bool, true, false, nat_le}
use Rattle.std.specs.Int.{bit_at}
use Rattle.aml_values.specs.Values.{Int, Buf}
use Rattle.aml_regions.specs.Events.{Written}
use Rattle.aml_regions.specs.Fields.{access, bits_of, count, covers, first, integer_of, layout_of, mixed, unit_place}
use Rattle.aml_regions.specs.declared.field.AnyField.{AnyField}
use Rattle.aml_regions.specs.declared.field.AnyField.TheVariants.{Plain, Banked, Indexed}
use Rattle.aml_regions.specs.declared.field.BankedField.{BankedField}
use Rattle.aml_regions.specs.declared.field.FieldLayout.{FieldLayout}
use Rattle.aml_regions.specs.declared.field.IndexedField.{IndexedField}
use Rattle.aml_regions.specs.declared.field.OtherBits.{OtherBits}
use Rattle.aml_regions.specs.declared.field.OtherBits.TheVariants.{Preserve, Ones, Zeros}
use Rattle.aml_regions.specs.declared.field.RegionField.{RegionField}
use Rattle.aml_meaning.specs.Parts.{M, with_memory}
use Rattle.aml_meaning.specs.Fields.{UnitPlan, banked_plan, banked_read, banked_write, bank_chosen, bits_written, bytes_in, bytes_read, index_chosen, indexed_plan, indexed_read, indexed_write, integer_read, other_bits, others_of, plan_of, read_all_units, read_bytes, read_from, read_integer, read_value, region_plan, unit_read, unit_write, value_read, write_bits, write_from}
use Rattle.aml_steady.proofs.Closed.{Closed}

module _ (Has : (V : Type 0) → M V → Type 0) (is : Closed Has) where
  -- units that are read, and answers that are gathered
  pub has_read_from : {V : Type 0} (read : ℕ → M ℕ) (made : List ℕ → V) → ((u : ℕ) → Has _ (read u)) → (k u : ℕ) (answers : List ℕ) → Has _ (read_from read made k u answers)
  has_read_from read made h zero u answers = is.gives (made answers)
  has_read_from read made h (suc k) u answers = is.joined (read u) _ (h u) (λ answer. has_read_from read made h k (suc u) (answers ++ answer ∷ []))

  pub has_read_all_units : {V : Type 0} (f : FieldLayout) (read : ℕ → M ℕ) (made : List ℕ → V) → ((u : ℕ) → Has _ (read u)) → Has _ (read_all_units f read made)
  has_read_all_units f read made h = has_read_from read made h (count f) (first f) []

  -- units that are written
  pub has_other_bits : (others : OtherBits) (width : ℕ) (read : M ℕ) → Has _ read → Has _ (other_bits others width read)
  has_other_bits Preserve width read h = h
  has_other_bits Ones width read h = is.gives _
  has_other_bits Zeros width read h = is.gives _

  pub has_others_of : (whole : Bool) (others : OtherBits) (width : ℕ) (read : M ℕ) → Has _ read → Has _ (others_of whole others width read)
  has_others_of true others width read h = is.gives _
  has_others_of false others width read h = has_other_bits others width read h

  pub has_write_from : (f : FieldLayout) (read : ℕ → M ℕ) (write : ℕ → ℕ → M (Unit {0})) (bit : ℕ → ℕ) → ((u : ℕ) → Has _ (read u)) → ((u n : ℕ) → Has _ (write u n)) → (k u : ℕ) → Has _ (write_from f read write bit k u)
  has_write_from f read write bit h g zero u = is.gives tt
  has_write_from f read write bit h g (suc k) u =
      is.joined (others_of (covers f u) f.others (bits_of f.width) (read u)) _ (has_others_of (covers f u) f.others (bits_of f.width) (read u) (h u))
      (λ other. is.joined (write u (mixed f bit u other)) _ (g u (mixed f bit u other)) (λ v. has_write_from f read write bit h g k (suc u)))

  -- what the reads and writes of units keep, the field keeps
  pub record PlanHas (p : UnitPlan) : Type 0 where
    pub read : (u : ℕ) → Has _ (p.read u)
    pub write : (u n : ℕ) → Has _ (p.write u n)

  pub has_integer_read : (p : UnitPlan) → PlanHas p → Has _ (integer_read p)
  unfolding integer_read
  has_integer_read p h = has_read_all_units p.layout p.read (integer_of p.layout) h.read

  pub has_bytes_read : (p : UnitPlan) → PlanHas p → Has _ (bytes_read p)
  unfolding bytes_read
  has_bytes_read p h = has_read_all_units p.layout p.read (bytes_in p.layout) h.read

  pub has_bits_written : (p : UnitPlan) (bit : ℕ → ℕ) → PlanHas p → Has _ (bits_written p bit)
  unfolding bits_written
  has_bits_written p bit h = has_write_from p.layout p.read p.write bit h.read h.write (count p.layout) (first p.layout)

  -- a region
  pub has_unit_read : (r : RegionField) (u : ℕ) → Has _ (unit_read r u)
  has_unit_read r u = is.reads_unit (access r u)

  pub has_unit_write : (r : RegionField) (u n : ℕ) → Has _ (unit_write r u n)
  has_unit_write r u n = is.makes_event (Written (access r u) n)

  pub has_region_plan : (r : RegionField) → PlanHas (region_plan r)
  unfolding region_plan
  has_region_plan r = record { read = has_unit_read r; write = has_unit_write r }

  -- behind a bank field
  pub has_bank_chosen : (b : BankedField) → Has _ (bank_chosen b)
  has_bank_chosen b = has_bits_written (region_plan b.bank) (bit_at b.value) (has_region_plan b.bank)

  pub has_banked_read : (b : BankedField) (u : ℕ) → Has _ (banked_read b u)
  has_banked_read b u = is.joined (bank_chosen b) _ (has_bank_chosen b) (λ v. has_unit_read b.field u)

  pub has_banked_write : (b : BankedField) (u n : ℕ) → Has _ (banked_write b u n)
  has_banked_write b u n = is.joined (bank_chosen b) _ (has_bank_chosen b) (λ v. has_unit_write b.field u n)

  pub has_banked_plan : (b : BankedField) → PlanHas (banked_plan b)
  unfolding banked_plan
  has_banked_plan b = record { read = has_banked_read b; write = has_banked_write b }

  -- behind an index field
  pub has_index_chosen : (x : IndexedField) (u : ℕ) → Has _ (index_chosen x u)
  has_index_chosen x u = has_bits_written (region_plan x.index_field) (bit_at (unit_place x.layout u)) (has_region_plan x.index_field)

  pub has_indexed_read : (x : IndexedField) (u : ℕ) → Has _ (indexed_read x u)
  has_indexed_read x u =
      is.joined (index_chosen x u) _ (has_index_chosen x u) (λ v. has_integer_read (region_plan x.data_field) (has_region_plan x.data_field))

  pub has_indexed_write : (x : IndexedField) (u n : ℕ) → Has _ (indexed_write x u n)
  has_indexed_write x u n =
      is.joined (index_chosen x u) _ (has_index_chosen x u) (λ v. has_bits_written (region_plan x.data_field) (bit_at n) (has_region_plan x.data_field))

  pub has_indexed_plan : (x : IndexedField) → PlanHas (indexed_plan x)
  unfolding indexed_plan
  has_indexed_plan x = record { read = has_indexed_read x; write = has_indexed_write x }

  -- any field
  pub has_plan_of : (f : AnyField) → PlanHas (plan_of f)
  unfolding plan_of
  has_plan_of (Plain r) = has_region_plan r
  has_plan_of (Banked b) = has_banked_plan b
  has_plan_of (Indexed x) = has_indexed_plan x

  pub has_read_integer : (f : AnyField) → Has _ (read_integer f)
  unfolding read_integer
  has_read_integer f = has_integer_read (plan_of f) (has_plan_of f)

  pub has_read_bytes : (f : AnyField) → Has _ (read_bytes f)
  unfolding read_bytes
  has_read_bytes f = has_bytes_read (plan_of f) (has_plan_of f)

  pub has_write_bits : (f : AnyField) (bit : ℕ → ℕ) → Has _ (write_bits f bit)
  unfolding write_bits
  has_write_bits f bit = has_bits_written (plan_of f) bit (has_plan_of f)

  pub has_value_read : (narrow : Bool) (f : AnyField) → Has _ (value_read narrow f)
  has_value_read true f = is.joined (read_integer f) _ (has_read_integer f) (λ number. is.gives (Int number))
  has_value_read false f = is.joined (with_memory (read_bytes f)) _ (is.wanting (read_bytes f) _ (has_read_bytes f)) (λ bytes. is.gives (Buf bytes))

  pub has_read_value : (width : ℕ) (f : AnyField) → Has _ (read_value width f)
  unfolding read_value
  has_read_value width f = has_value_read (nat_le (layout_of f).bits width) f
