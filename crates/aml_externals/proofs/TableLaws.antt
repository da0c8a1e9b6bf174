-- Laws of whole tables.
use Rattle.std.proofs.Common.{◌≡◌, ◌≤◌, ◌<◌, ℕ, ◌+◌, ◌*◌, ◌%◌, List, ◌∷◌, ◌++◌, length, take, drop, refl, sym, ap, ◌∙◌, arith}
use Rattle.std.specs.Prelude.{slice_index, sum, false}
use Rattle.std.proofs.Math.ListN.{length-set, set}
use Rattle.std.proofs.lemmas.List.{get_or-set_other, set-get_or}
use Rattle.std.proofs.lemmas.Grind.{same_number_lists}
use Rattle.std.proofs.lemmas.List.Sums.{sum_by-set}
use Rattle.acpi_tables.specs.Bytes.{number_at}
use Rattle.aml_externals.specs.Opened.{Opened, kept, entered, opened, dead_inside, dead_in}
use Rattle.aml_externals.specs.Table.{table_opened, with_checksum, dead_at}
use Rattle.aml_externals.specs.Laws.{OthersStay, EachIsCounted, OpcodesAloneChange, LengthStays, TheyWereIfs, TablesStay}
use Rattle.aml_externals.proofs.Changes.{changes, changes_in_table}

pub opcodes_alone : OpcodesAloneChange
unfolding table_opened dead_at
opcodes_alone bytes at long ne lt =
    let r : Opened = entered (opened 63) 36 bytes in
    let ch = changes_in_table bytes 36 63 in
    get_or-set_other r.0 9 at ((slice_index r.0 9 + 0x90 * r.1) % 256) 0 ne ∙ ch.bytes_are at lt

pub length_stays : LengthStays
unfolding table_opened
length_stays bytes =
    let r : Opened = entered (opened 63) 36 bytes in
    let ch = changes_in_table bytes 36 63 in
    length-set r.0 9 ((slice_index r.0 9 + 0x90 * r.1) % 256) ∙ ch.same_length

pub were_ifs : TheyWereIfs
unfolding dead_at
were_ifs bytes at is lt =
    let ch = changes_in_table bytes 36 63 in ch.were_ifs at lt is

-- the length that a header tells stands before the checksum
length_field : (bytes more : List ℕ) (v : ℕ) → 10 ≤ length bytes → number_at 4 4 (set (take 36 bytes ++ more) 9 v) ≡ number_at 4 4 bytes
length_field (a ∷ b ∷ c ∷ d ∷ e ∷ f ∷ g ∷ h ∷ i ∷ j ∷ rest) more v long = refl
length_field bytes more v long = absurd (omega arith)

pub tables_stay : TablesStay
unfolding table_opened
tables_stay bytes t =
    let r : Opened = entered (opened 63) 36 bytes in
    let v : ℕ = (slice_index r.0 9 + 0x90 * r.1) % 256 in
    let ch = changes_in_table bytes 36 63 in
    let many : length (set r.0 9 v) ≡ length bytes = length-set r.0 9 v ∙ ch.same_length in
    let total = sum_by-set (λ x. x) r.0 9 v 0 (omega (arith, ch.same_length, t.long_enough)) in
    record {
      long_enough = omega (arith, many, t.long_enough);
      whole = length_field bytes (opened 63 (drop 36 bytes)).0 v (omega (arith, t.long_enough)) ∙ t.whole ∙ sym many;
      summed = omega (arith, total, ch.lower, t.summed);
    }

pub stays_when : (bytes : List ℕ) (r : Opened) → r.0 ≡ bytes → r.1 ≡ 0 → slice_index bytes 9 < 256 → with_checksum r ≡ kept bytes
stays_when bytes (xs, n) same none small =
    let v : (slice_index bytes 9 + 0x90 * 0) % 256 ≡ slice_index bytes 9 = omega (arith, small) in
    rw (same, none, v, set-get_or bytes 9 0) refl

stays_on : (bytes : List ℕ) (at d : ℕ) → slice_index bytes 9 < 256 → ((k : ℕ) → k < length bytes → dead_inside (dead_in d) at bytes k ≡ false) → with_checksum (entered (opened d) at bytes) ≡ kept bytes
stays_on bytes at d small none =
    let r : Opened = entered (opened d) at bytes in
    let ch = changes_in_table bytes at d in
    let same : r.0 ≡ bytes = same_number_lists r.0 bytes ch.same_length (λ k lt. (let l : k < length bytes = omega (arith, ch.same_length) in let z = none k l in rw z at (ch.bytes_are k l))) in
    let zero : r.1 ≡ 0 = omega (arith, ch.lower, ap (λ (xs : List ℕ). sum xs) same) in
    stays_when bytes r same zero small

pub others_stay : OthersStay
unfolding table_opened dead_at
others_stay bytes small none = stays_on bytes 36 63 small none

pub each_is_counted : EachIsCounted
each_is_counted d bytes = let ch = changes d bytes in ch.lower
