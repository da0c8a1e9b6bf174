-- Fields of buffers, read and stored into, as they are judged.
use Rattle.std.proofs.Common.{◌≡◌, ℕ, ◌+◌, ◌-◌, ◌*◌, ◌/◌, ◌^◌, ◌<◌, ◌≤◌, List, length, Option, Some, None, Result, Ok, Err, refl, sym, ap, ◌∙◌, subst, arith}
use Rattle.std.specs.Prelude.{Bool, true, false, if◌then◌else◌, nat_le, slice_index}
use Rattle.std.specs.Int.{bit_at}
use Rattle.std.proofs.lemmas.Bool.{leb-true}
use Rattle.std.proofs.lemmas.Nat.Bits.{bit_at-lt}
use Rattle.std.proofs.Math.Nat.{pow-le-pow_right}
use Rattle.aml_values.specs.Values.{Value, Int, Buf, Str, Pkg}
use Rattle.aml_kinds.specs.Kinds.{Kind, IntUpTo, BufOf}
use Rattle.aml_regions.specs.Events.{Event}
use Rattle.aml_regions.specs.Bits.{number}
use Rattle.aml_regions.specs.Fields.{has, mixed}
use Rattle.aml_regions.specs.BufferFields.{bytes_of, in_bytes, stored}
use Rattle.aml_meaning.specs.declared.error.AmlCause.TheVariants as why
use Rattle.aml_meaning.specs.declared.error.AmlError.{AmlError}
use Rattle.aml_meaning.specs.declared.buffer_field.BufferField.{BufferField}
use Rattle.aml_meaning.specs.State as state
use Rattle.aml_meaning.specs.State.{State, with_steps}
use Rattle.aml_meaning.specs.Parts.{◌>>=◌, give, paid, then_do}
use Rattle.aml_meaning.specs.Changes.{change, changed_or, held_by, peek, peeked_or}
use Rattle.aml_meaning.specs.BufferFields.{buffer_field_bit, buffer_field_value, bytes_around, first_bit, read_buffer_field, written_buffer_field}
use Rattle.aml_meaning.specs.FieldValues.{buffer_bits, given_bits, takes_buffer}
use Rattle.aml_meaning.specs.Rules as rules
use Rattle.aml_meaning.specs.Rules.{Place}
use Rattle.aml_meaning.specs.Meaning.{Setting, buffer_field_changed, buffer_field_read, place_at}
use Rattle.aml_judged.specs.Causes as causes
use Rattle.aml_judged.specs.Causes.{Refusal}
use Rattle.aml_judged.specs.Known.{Env}
use Rattle.aml_judged.specs.Judge as judge
use Rattle.aml_judged.specs.Judge.{held_kind, judged_buffer_field, judged_buffer_field_stored}
use Rattle.aml_judged.specs.Judged.{NameKinds, Always, Seen, goes, no_exits, pays, refuses, ruled, then_judge, then_rule}
use Rattle.aml_judged.specs.KindRules.{field_kind, given_kind, source_kind}
use Rattle.aml_judged.specs.Safe.{AreBytes, IsOf}
use Rattle.aml_judged.proofs.Words.{words_of}
use Rattle.aml_judged.proofs.FieldValues.{bytes_length, bytes_small, le_test, made_bytes, made_length, number_lt, same_size}
use Rattle.aml_judged.proofs.FieldsSafe.{Given, given_follows}
use Rattle.aml_judged.proofs.IndexSafe.{held_buffer, held_fits, held_steps}
use Rattle.aml_judged.proofs.KindRules.{plain, Follows}
use Rattle.aml_judged.proofs.Loops.{IsUnit}
use Rattle.aml_judged.proofs.Parts.{after_safe, stepped, ticked}

buffer_field_small : (f : BufferField) (bytes : List ℕ) (i : ℕ) → buffer_field_bit f bytes i < 2
buffer_field_small f bytes i = bit_at-lt _ _

buffer_field_made : (width : ℕ) (b : Bool) (f : BufferField) (bytes : List ℕ) → nat_le f.bits width ≡ b → IsOf width (if b then Int (number f.bits (buffer_field_bit f bytes)) else Buf (bytes_of ((f.bits + 7) / 8) f.bits (buffer_field_bit f bytes))) (if b then IntUpTo (2 ^ f.bits - 1) else BufOf ((f.bits + 7) / 8))
buffer_field_made width true f bytes e =
    let lt = number_lt f.bits (buffer_field_bit f bytes) (λ i. buffer_field_small f bytes i) in
    let le : f.bits ≤ width = leb-true f.bits width e in
    let more : 2 ^ f.bits ≤ 2 ^ width = pow-le-pow_right {n = 2} (omega arith) le in
    record { fit = le_test (number f.bits (buffer_field_bit f bytes)) (2 ^ f.bits - 1) (omega (arith, lt)); word = omega (arith, lt, more) }
buffer_field_made width false f bytes e =
    record { fit = same_size (length (bytes_of ((f.bits + 7) / 8) f.bits (buffer_field_bit f bytes))) ((f.bits + 7) / 8) (bytes_length ((f.bits + 7) / 8) f.bits (buffer_field_bit f bytes)); word = bytes_small ((f.bits + 7) / 8) f.bits (buffer_field_bit f bytes) (λ i. buffer_field_small f bytes i) }

mixed_small : (b : Bool) (m n : ℕ) → m < 2 → n < 2 → (if b then m else n) < 2
mixed_small true m n h g = h
mixed_small false m n h g = g

stored_length : (at bits : ℕ) (bit : ℕ → ℕ) (bytes : List ℕ) → length (stored at bits bit bytes) ≡ length bytes
unfolding stored
stored_length at bits bit bytes = made_length (length bytes) 0 _

stored_bytes : (at bits : ℕ) (bit : ℕ → ℕ) (bytes : List ℕ) → ((i : ℕ) → bit i < 2) → AreBytes (stored at bits bit bytes)
unfolding stored mixed
stored_bytes at bits bit bytes h = made_bytes (length bytes) 0 _ (λ u.
    let small = number_lt 8 (λ j. if has (in_bytes at bits) (u * 8 + j) then bit (u * 8 + j - at) else bit_at (slice_index bytes u) j) (λ j. mixed_small (has (in_bytes at bits) (u * 8 + j)) (bit (u * 8 + j - at)) (bit_at (slice_index bytes u) j) (h (u * 8 + j - at)) (bit_at-lt _ _)) in omega (arith, small))

module _ (here : Setting) (kinds : NameKinds) (callee : ℕ → Seen) (above : ℕ) (script : List Event) where
  open words_of here kinds callee above use {around, Fine, Safe, Is, Yields}

  -- all bits lie inside
  around_ok : (p : Place) (f : BufferField) (bytes : List ℕ) (n : ℕ) → length bytes ≡ n → nat_le (first_bit f + f.bits) (8 * n) ≡ true → bytes_around p f (Some (Buf bytes)) ≡ Ok bytes
  around_ok p f bytes n long e = ap (λ b. if b then Ok bytes else rules.fails why.Index p) (subst (λ m. nat_le (first_bit f + f.bits) (8 * m) ≡ true) (sym long) e)

  read_there : (at n : ℕ) (f : BufferField) (env : Env) (s : State) → held_kind around f.source ≡ Some (BufOf n) → nat_le (first_bit f + f.bits) (8 * n) ≡ true → Fine env s → Safe (plain Yields) s.steps (goes (Always (field_kind here.width f.bits)) env) (then_do (peeked_or s (read_buffer_field here.width (place_at here at) f (held_by f.source s))) (λ v next. state.Goes (Some v) next))
  read_there at n f env s e inside fits =
      let b = held_buffer here kinds callee above script f.source n env s e fits in
      let reads : read_buffer_field here.width (place_at here at) f (held_by f.source s) ≡ Ok (buffer_field_value here.width f b.bytes) = ap (read_buffer_field here.width (place_at here at) f) b.is ∙ ap (λ r. rules.◌>>=◌ r (λ bytes. Ok (buffer_field_value here.width f bytes))) (around_ok (place_at here at) f b.bytes n b.long inside) in
      subst (λ r. Safe (plain Yields) s.steps (goes (Always (field_kind here.width f.bits)) env) (then_do (peeked_or s r) (λ v next. state.Goes (Some v) next))) (sym reads)
      (buffer_field_made here.width (nat_le f.bits here.width) f b.bytes refl, fits, omega arith)

  read_by : (at : ℕ) (f : BufferField) (old : Option Kind) (env : Env) (s : State) → held_kind around f.source ≡ old → Fine env s → Safe (plain Yields) s.steps (then_judge (ruled (source_kind (judge.place_at around at) f old) env) (λ u e. goes (Always (field_kind here.width f.bits)) e)) (then_do (peeked_or s (read_buffer_field here.width (place_at here at) f (held_by f.source s))) (λ v next. state.Goes (Some v) next))
  read_by at f (Some (BufOf n)) env s e fits = choice (nat_le (first_bit f + f.bits) (8 * n)) refl
    where
      choice : (b : Bool) → nat_le (first_bit f + f.bits) (8 * n) ≡ b → Safe (plain Yields) s.steps (then_judge (ruled {K = Unit {0}} (if b then Ok tt else refuses causes.Index (judge.place_at around at)) env) (λ u e. goes (Always (field_kind here.width f.bits)) e)) (then_do (peeked_or s (read_buffer_field here.width (place_at here at) f (held_by f.source s))) (λ v next. state.Goes (Some v) next))
      choice true inside = after_safe here.width kinds above (plain Yields) no_exits 0 s.steps s.steps (goes (Always (field_kind here.width f.bits)) env) _ (omega arith) (read_there at n f env s e inside fits)
      choice false inside = tt
  read_by at f old env s e fits = tt

  pub buffer_field_safe : (at : ℕ) (o : Option BufferField) (env : Env) (s : State) → Fine env s → Safe (plain Yields) s.steps (judged_buffer_field around o at env) ((buffer_field_read here o at).run script s)
  unfolding ◌>>=◌ give peek
  buffer_field_safe at None env s fits = tt
  buffer_field_safe at (Some f) env s fits = read_by at f (held_kind around f.source) env s refl fits

  -- the bits that are given are bits
  abbrev GivenBits : (ℕ → ℕ) → Unit {0} → Type 0
  GivenBits bit u = (i : ℕ) → bit i < 2

  bits_given : (width bits : ℕ) (p q : Place) (k : Kind) (v : Value) → Follows Given (given_kind width p bits k) (given_bits width q bits v) → Follows GivenBits (given_kind width p bits k) (given_bits width q bits v)
  bits_given width bits p q k (Int n) h = by (given_kind width p bits k)
    where
      by : (rk : Result (Unit {0}) Refusal) → Follows GivenBits rk (Ok (bit_at n))
      by (Err r) = tt
      by (Ok u) = λ i. bit_at-lt _ _
  bits_given width bits p q k (Buf xs) h = by (given_kind width p bits k) (takes_buffer width bits xs) h
    where
      by : (rk : Result (Unit {0}) Refusal) (b : Bool) → Follows Given rk (buffer_bits b q xs) → Follows GivenBits rk (buffer_bits b q xs)
      by (Err r) b g = tt
      by (Ok u) true g = λ i. bit_at-lt _ _
      by (Ok u) false g = absurd g
  bits_given width bits p q k (Str xs) h = by (given_kind width p bits k) h
    where
      by : (rk : Result (Unit {0}) Refusal) → Follows Given rk (rules.fails why.Kind q) → Follows GivenBits rk (rules.fails why.Kind q)
      by (Err r) g = tt
      by (Ok u) g = absurd g
  bits_given width bits p q k (Pkg xs) h = by (given_kind width p bits k) h
    where
      by : (rk : Result (Unit {0}) Refusal) → Follows Given rk (rules.fails why.Kind q) → Follows GivenBits rk (rules.fails why.Kind q)
      by (Err r) g = tt
      by (Ok u) g = absurd g

  write_there : (at n : ℕ) (f : BufferField) (v : Value) (bit : ℕ → ℕ) (env : Env) (s : State) → held_kind around f.source ≡ Some (BufOf n) → nat_le (first_bit f + f.bits) (8 * n) ≡ true → given_bits here.width (place_at here at) f.bits v ≡ Ok bit → ((i : ℕ) → bit i < 2) → Fine env s → Safe IsUnit s.steps (goes tt env) (changed_or f.source s (written_buffer_field here.width (place_at here at) f v (held_by f.source s)))
  write_there at n f v bit env s e inside is small fits =
      let b = held_buffer here kinds callee above script f.source n env s e fits in
      let after = stored (first_bit f) f.bits bit b.bytes in
      let writes : written_buffer_field here.width (place_at here at) f v (held_by f.source s) ≡ Ok (Buf after) = ap (written_buffer_field here.width (place_at here at) f v) b.is ∙ ap (λ r. rules.◌>>=◌ r (λ bytes. rules.◌>>=◌ (given_bits here.width (place_at here at) f.bits v) (λ c. Ok (Buf (stored (first_bit f) f.bits c bytes))))) (around_ok (place_at here at) f b.bytes n b.long inside) ∙ ap (λ r. rules.◌>>=◌ r (λ c. Ok (Buf (stored (first_bit f) f.bits c b.bytes)))) is in
      let same = held_steps f.source s (Buf after) in
      subst (λ r. Safe IsUnit s.steps (goes tt env) (changed_or f.source s r)) (sym writes)
      (tt, held_fits here kinds callee above script f.source n after env s e (stored_length (first_bit f) f.bits bit b.bytes ∙ b.long) (stored_bytes (first_bit f) f.bits bit b.bytes small) fits, omega (arith, same))

  write_by : (at n : ℕ) (f : BufferField) (k : Kind) (v : Value) (env : Env) (s : State) → held_kind around f.source ≡ Some (BufOf n) → nat_le (first_bit f + f.bits) (8 * n) ≡ true → Is v k → Fine env s → Safe IsUnit s.steps (then_judge (ruled (given_kind here.width (judge.place_at around at) f.bits k) env) (λ u e. pays 1 tt e)) ((change f.source (written_buffer_field here.width (place_at here at) f v)).run script s)
  unfolding change paid
  write_by at n f k v env s e inside h fits = by (given_kind here.width (judge.place_at around at) f.bits k) (given_bits here.width (place_at here at) f.bits v) refl (bits_given here.width f.bits _ _ k v (given_follows here.width f.bits _ _ k v h))
    where
      by : (rk : Result (Unit {0}) Refusal) (rv : Result (ℕ → ℕ) AmlError) → given_bits here.width (place_at here at) f.bits v ≡ rv → Follows GivenBits rk rv → Safe IsUnit s.steps (then_judge (ruled rk env) (λ u e. pays 1 tt e)) ((change f.source (written_buffer_field here.width (place_at here at) f v)).run script s)
      by (Err r) rv g small = tt
      by (Ok u) (Ok bit) g small = after_safe here.width kinds above IsUnit no_exits 0 s.steps s.steps (pays 1 tt env) _ (omega arith) (ticked here.width kinds above IsUnit (goes tt env) s.steps s _ (λ m. write_there at n f v bit env (with_steps s m) e inside g small (stepped here.width kinds above env s m fits)))
      by (Ok u) (Err r) g small = absurd small

  stored_by : (at : ℕ) (f : BufferField) (old : Option Kind) (k : Kind) (v : Value) (env : Env) (s : State) → held_kind around f.source ≡ old → Is v k → Fine env s → Safe IsUnit s.steps (then_judge (ruled (then_rule (source_kind (judge.place_at around at) f old) (λ u. given_kind here.width (judge.place_at around at) f.bits k)) env) (λ u e. pays 1 tt e)) ((change f.source (written_buffer_field here.width (place_at here at) f v)).run script s)
  stored_by at f (Some (BufOf n)) k v env s e h fits = choice (nat_le (first_bit f + f.bits) (8 * n)) refl
    where
      choice : (b : Bool) → nat_le (first_bit f + f.bits) (8 * n) ≡ b → Safe IsUnit s.steps (then_judge (ruled (then_rule {J = Unit {0}} (if b then Ok tt else refuses causes.Index (judge.place_at around at)) (λ u. given_kind here.width (judge.place_at around at) f.bits k)) env) (λ u e. pays 1 tt e)) ((change f.source (written_buffer_field here.width (place_at here at) f v)).run script s)
      choice true inside = write_by at n f k v env s e inside h fits
      choice false inside = tt
  stored_by at f old k v env s e h fits = tt

  pub buffer_field_stored_safe : (at : ℕ) (o : Option BufferField) (k : Kind) (v : Value) (env : Env) (s : State) → Is v k → Fine env s → Safe IsUnit s.steps (judged_buffer_field_stored around o at k env) ((buffer_field_changed here at o v).run script s)
  buffer_field_stored_safe at None k v env s h fits = tt
  buffer_field_stored_safe at (Some f) k v env s h fits = stored_by at f (held_kind around f.source) k v env s refl h fits
