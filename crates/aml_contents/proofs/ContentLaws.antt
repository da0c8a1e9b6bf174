-- What a name's kind lets it hold, it may be given.
use Rattle.std.proofs.Common.{◌≡◌, ◌<◌, ◌≤◌, ◌==◌, ◌∙◌, ◌&&◌, ◌++◌, ◌%◌, ◌^◌, ◌-◌, nat_le, ℕ, zero, suc, Bool, true, false, List, [], ◌∷◌, Option, Some, None, length, slice_set, get_or, ap, refl, sym, subst, arith, length-set}
use Rattle.std.proofs.Math.Nat.{mod-lt}
use Rattle.std.proofs.lemmas.Nat.{pow_pos}
use Rattle.std.proofs.lemmas.List.{map-append}
use Rattle.std.proofs.lemmas.Bool.Decides.{nat_tests}
use Rattle.std.specs.Option.{option_map}
use Rattle.aml_values.specs.Values.{Value, Int, Buf, Str, Pkg, Elements, none, more, Element, Holds, Named, Unset}
use Rattle.aml_kinds.specs.Kinds.{Kind, IntUpTo, BufOf, StrOf, PkgOf, AnyPkg, Mixed}
use Rattle.aml_kinds.specs.Fits.{fits, fits_shape, fits_place}
use Rattle.aml_contents.specs.FirstKinds.{kind_by, shape_by, place_by, first_kind, greatest_of, held_first}
use Rattle.aml_objects.specs.declared.width.Width.{Width}
use Rattle.aml_objects.specs.Widths.{bits_of}
use Rattle.aml_values.specs.declared.value.Value as program
use Rattle.aml_values.specs.Views.{view}
use Rattle.aml_values.proofs.Same.{number_same, both_first, both_second}
use Rattle.aml_kinds.specs.declared.kind.Kind as program_kind
use Rattle.aml_contents.specs.Contents.{Contents, ContentKinds, HoldTheirKinds, are_fitting, changed_byte, content_at, fits_kind, is_fitting, may_hold, with_byte, with_content}
use Rattle.aml_contents.specs.ContentViews.{content, contents_of, content_kind, content_kinds_of}

-- a name that may hold something is there
pub may_hold-there : (vs : Contents) (ks : ContentKinds) (i : ℕ) (v : Value) → are_fitting vs ks ≡ true → may_hold ks i v ≡ true → i < length vs
may_hold-there [] [] i v f h = cc
may_hold-there [] (k ∷ ks) i v f h = cc
may_hold-there (x ∷ vs) [] i v f h = cc
may_hold-there (x ∷ vs) (k ∷ ks) zero v f h = omega arith
may_hold-there (x ∷ vs) (k ∷ ks) (suc i) v f h =
    let there : i < length vs = may_hold-there vs ks i v (both_second (is_fitting x k) (are_fitting vs ks) f) h in omega (arith, there)

are_both : (a b : Bool) → a ≡ true → b ≡ true → (a && b) ≡ true
are_both true b p q = q
are_both false b p q = cc

given_fitting : (k : Option Kind) (v : Value) → may_hold (k ∷ []) 0 v ≡ true → is_fitting (Some v) k ≡ true
given_fitting (Some k) v h = h
given_fitting None v h = cc

-- what it is given then fits
pub given_are_fitting : (vs : Contents) (ks : ContentKinds) (i : ℕ) (v : Value) → are_fitting vs ks ≡ true → may_hold ks i v ≡ true → are_fitting (with_content vs i v) ks ≡ true
given_are_fitting [] ks i v f h = f
given_are_fitting (x ∷ vs) [] i v f h = cc
given_are_fitting (x ∷ vs) (k ∷ ks) zero v f h =
    are_both (is_fitting (Some v) k) (are_fitting vs ks) (given_fitting k v h) (both_second (is_fitting x k) (are_fitting vs ks) f)
given_are_fitting (x ∷ vs) (k ∷ ks) (suc i) v f h =
    are_both (is_fitting x k) (are_fitting (with_content vs i v) ks) (both_first (is_fitting x k) (are_fitting vs ks) f) (given_are_fitting vs ks i v (both_second (is_fitting x k) (are_fitting vs ks) f) h)

-- the contents behind a change of the program's
pub contents_given : (vs : List (Option program.Value)) (i : ℕ) (v : program.Value) → contents_of (slice_set vs i (Some v)) ≡ with_content (contents_of vs) i (view v)
contents_given [] i v = refl
contents_given (x ∷ vs) zero v = refl
contents_given (x ∷ vs) (suc i) v = ap (λ (c : Contents). content x ∷ c) (contents_given vs i v)

-- as many as the program has
pub contents_length : (vs : List (Option program.Value)) → length (contents_of vs) ≡ length vs
contents_length [] = refl
contents_length (x ∷ vs) = ap suc (contents_length vs)

-- what stands in a place of the program's
pub content_there : (vs : List (Option program.Value)) (i : ℕ) (d : Option program.Value) → i < length vs → content_at (contents_of vs) i ≡ content (get_or vs i d)
content_there [] i d there = absurd (omega (arith, there))
content_there (v ∷ vs) zero d there = refl
content_there (v ∷ vs) (suc i) d there = content_there vs i d (omega (arith, there))

-- nothing stands behind the last
pub no_content : (vs : List (Option program.Value)) (i : ℕ) → length vs ≤ i → content_at (contents_of vs) i ≡ None
no_content [] i past = refl
no_content (v ∷ vs) zero past = absurd (omega (arith, past))
no_content (v ∷ vs) (suc i) past = no_content vs i (omega (arith, past))

unchanged_past : (vs : Contents) (i : ℕ) (x : Option Value) → length vs ≤ i → slice_set vs i x ≡ vs
unchanged_past [] i x past = refl
unchanged_past (v ∷ vs) zero x past = absurd (omega (arith, past))
unchanged_past (v ∷ vs) (suc i) x past = ap (λ (c : Contents). v ∷ c) (unchanged_past vs i x (omega (arith, past)))

pub no_byte_changed : (vs : List (Option program.Value)) (i at byte : ℕ) → length vs ≤ i → contents_of vs ≡ changed_byte (contents_of vs) i at byte
no_byte_changed vs i at byte past =
    sym (unchanged_past (contents_of vs) i _ (subst (λ n. n ≤ i) (sym (contents_length vs)) past))

replaced : (vs : List (Option program.Value)) (i : ℕ) (x : Option program.Value) → contents_of (slice_set vs i x) ≡ slice_set (contents_of vs) i (content x)
replaced [] i x = refl
replaced (v ∷ vs) zero x = refl
replaced (v ∷ vs) (suc i) x = ap (λ (c : Contents). content v ∷ c) (replaced vs i x)

pub byte_changed : (vs : List (Option program.Value)) (i at byte : ℕ) (d y : Option program.Value) → i < length vs → content y ≡ option_map (λ v. with_byte v at byte) (content (get_or vs i d)) → contents_of (slice_set vs i y) ≡ changed_byte (contents_of vs) i at byte
byte_changed vs i at byte d y there new =
    replaced vs i y ∙ ap (slice_set (contents_of vs) i) (new ∙ ap (option_map (λ v. with_byte v at byte)) (sym (content_there vs i d there)))

-- a value with another byte is of the same kinds
byte_fits : (v : Value) (k : Kind) (at byte : ℕ) → fits (with_byte v at byte) k ≡ fits v k
byte_fits (Buf bytes) (BufOf size) at byte = ap (λ n. n == size) (length-set bytes at byte)
byte_fits (Buf bytes) (IntUpTo n) at byte = refl
byte_fits (Buf bytes) (StrOf n) at byte = refl
byte_fits (Buf bytes) (PkgOf s) at byte = refl
byte_fits (Buf bytes) AnyPkg at byte = refl
byte_fits (Buf bytes) Mixed at byte = refl
byte_fits (Int n) k at byte = refl
byte_fits (Str characters) k at byte = refl
byte_fits (Pkg es) k at byte = refl

byte_fitting : (v : Option Value) (k : Option Kind) (at byte : ℕ) → is_fitting (option_map (λ x. with_byte x at byte) v) k ≡ is_fitting v k
byte_fitting (Some v) (Some k) at byte = byte_fits v k at byte
byte_fitting (Some v) None at byte = refl
byte_fitting None k at byte = refl

pub changed_are_fitting : (vs : Contents) (ks : ContentKinds) (i at byte : ℕ) → are_fitting vs ks ≡ true → are_fitting (changed_byte vs i at byte) ks ≡ true
changed_are_fitting [] ks i at byte f = f
changed_are_fitting (x ∷ vs) [] i at byte f = cc
changed_are_fitting (x ∷ vs) (k ∷ ks) zero at byte f =
    ap (λ b. b && are_fitting vs ks) (byte_fitting x k at byte) ∙ f
changed_are_fitting (x ∷ vs) (k ∷ ks) (suc i) at byte f =
    are_both (is_fitting x k) (are_fitting (changed_byte vs i at byte) ks) (both_first (is_fitting x k) (are_fitting vs ks) f) (changed_are_fitting vs ks i at byte (both_second (is_fitting x k) (are_fitting vs ks) f))

-- what is held is of its kind
held_fits : (x : Option Value) (k : Option Kind) (v : Value) → is_fitting x k ≡ true → x ≡ Some v → fits_kind v k ≡ true
held_fits (Some x) (Some k) v f e = subst (λ o. is_fitting o (Some k) ≡ true) e f
held_fits (Some x) None v f e = absurd cc
held_fits None k v f e = absurd cc

pub holding_their_kinds : (vs : Contents) (ks : ContentKinds) → are_fitting vs ks ≡ true → HoldTheirKinds vs ks
holding_their_kinds [] ks f zero v e = absurd cc
holding_their_kinds [] ks f (suc i) v e = absurd cc
holding_their_kinds (x ∷ vs) [] f i v e = absurd cc
holding_their_kinds (x ∷ vs) (k ∷ ks) f zero v e = held_fits x k v (both_first (is_fitting x k) (are_fitting vs ks) f) e
holding_their_kinds (x ∷ vs) (k ∷ ks) f (suc i) v e = holding_their_kinds vs ks (both_second (is_fitting x k) (are_fitting vs ks) f) i v e

within_itself : (n : ℕ) → nat_le n n ≡ true
within_itself n = grind (arith, nat_tests)

-- a value is of the kind that a name has by it
mutual
  fits_kind_by : (v : Value) → fits v (kind_by v) ≡ true
  fits_kind_by (Int n) = within_itself n
  fits_kind_by (Buf bytes) = number_same (length bytes)
  fits_kind_by (Str characters) = number_same (length characters)
  fits_kind_by (Pkg es) = fits_shape_by es

  fits_shape_by : (es : Elements) → fits_shape es (shape_by es) ≡ true
  fits_shape_by none = refl
  fits_shape_by (more e es) = are_both (fits_place e (place_by e)) (fits_shape es (shape_by es)) (fits_place_by e) (fits_shape_by es)

  fits_place_by : (e : Element) → fits_place e (place_by e) ≡ true
  fits_place_by (Holds v) = fits_kind_by v
  fits_place_by (Named o) = refl
  fits_place_by Unset = refl

below_power : (n w : ℕ) → n % 2 ^ w ≤ 2 ^ w - 1
below_power n w = let below : n % 2 ^ w < 2 ^ w = mod-lt n (pow_pos w) in omega (arith, below)

le_test : (m n : ℕ) → m ≤ n → nat_le m n ≡ true
le_test m n h = grind (arith, nat_tests)

first_fitting : (width : Width) (v : Option Value) → is_fitting (held_first width v) (first_kind (greatest_of width) v) ≡ true
first_fitting width (Some (Int n)) =
    le_test (n % 2 ^ bits_of width) (2 ^ bits_of width - 1) (below_power n (bits_of width))
first_fitting width (Some (Buf bytes)) = fits_kind_by (Buf bytes)
first_fitting width (Some (Str characters)) = fits_kind_by (Str characters)
first_fitting width (Some (Pkg es)) = fits_kind_by (Pkg es)
first_fitting width None = refl

one_more : (vs : Contents) (ks : ContentKinds) (v : Option Value) (k : Option Kind) → are_fitting vs ks ≡ true → is_fitting v k ≡ true → are_fitting (vs ++ v ∷ []) (ks ++ k ∷ []) ≡ true
one_more [] [] v k f h = are_both (is_fitting v k) true h refl
one_more [] (j ∷ ks) v k f h = cc
one_more (x ∷ vs) [] v k f h = cc
one_more (x ∷ vs) (j ∷ ks) v k f h =
    are_both (is_fitting x j) (are_fitting (vs ++ v ∷ []) (ks ++ k ∷ [])) (both_first (is_fitting x j) (are_fitting vs ks) f) (one_more vs ks v k (both_second (is_fitting x j) (are_fitting vs ks) f) h)

-- contents stay fitting where one more is added with its kind
pub pushed_fitting : (width : Width) (vs made : List (Option program.Value)) (ks kinds : List (Option program_kind.Kind)) (v first : Option program.Value) (k : Option program_kind.Kind) → made ≡ vs ++ first ∷ [] → kinds ≡ ks ++ k ∷ [] → content first ≡ held_first width (content v) → content_kind k ≡ first_kind (greatest_of width) (content v) → are_fitting (contents_of vs) (content_kinds_of ks) ≡ true → are_fitting (contents_of made) (content_kinds_of kinds) ≡ true
pushed_fitting width vs made ks kinds v first k p q held e f =
    rw (p, q, map-append content vs (first ∷ []), map-append content_kind ks (k ∷ []), held, e) (one_more (contents_of vs) (content_kinds_of ks) (held_first width (content v)) (first_kind (greatest_of width) (content v)) f (first_fitting width (content v)))

pub kinds_length : (ks : List (Option program_kind.Kind)) → length (content_kinds_of ks) ≡ length ks
kinds_length [] = refl
kinds_length (k ∷ ks) = ap suc (kinds_length ks)
