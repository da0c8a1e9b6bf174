-- What is told of a field that is stored into.
use Rattle.std.proofs.Common.{◌≡◌, ℕ, ◌+◌, ◌-◌, ◌/◌, ◌^◌, ◌⊎◌, true, false, nat_le, if◌then◌else◌, inl, inr, refl, ap}
use Rattle.aml_kinds.specs.Kinds.{IntUpTo, BufOf, Shape}
use Rattle.aml_judged.specs.KindRules.{field_kind}
use Rattle.aml_known.specs.declared.known.Known.{Known}
use Rattle.aml_known.specs.declared.known.Known.TheVariants as known
use Rattle.aml_known.specs.Views.{kind_of}
use Rattle.aml_findings.specs.declared.finding.Wanted.TheVariants as wanted
use Rattle.aml_findings.specs.Finds.{given_finding, given_to, integer_finding, kind_found}

-- a field is an integer's or a buffer's
field_is : (width bits : ℕ) → (field_kind width bits ≡ IntUpTo (2 ^ bits - 1)) ⊎ (field_kind width bits ≡ BufOf ((bits + 7) / 8))
field_is width bits = elim (nat_le bits width) as (λ b. ((if b then IntUpTo (2 ^ bits - 1) else BufOf ((bits + 7) / 8)) ≡ IntUpTo (2 ^ bits - 1)) ⊎ ((if b then IntUpTo (2 ^ bits - 1) else BufOf ((bits + 7) / 8)) ≡ BufOf ((bits + 7) / 8))) [ true ↦ inl refl | false ↦ inr refl ]

pub narrow_told : (most width bits : ℕ) (kind : Known) → IntUpTo most ≡ field_kind width bits → integer_finding kind ≡ given_finding width bits kind
narrow_told most width bits kind e = ap (λ f. given_to f kind) e

pub wide_told : (shapes : ℕ → Shape) (field : Known) (width bits : ℕ) (kind : Known) → ((n : ℕ) → field ≡ known.Int n → ⊥) → kind_of shapes field ≡ field_kind width bits → kind_found kind (wanted.IntegerOr field) ≡ given_finding width bits kind
wide_told shapes (known.Int n) width bits kind none e = absurd (none n refl)
wide_told shapes (known.Buf n) width bits kind none e = ap (λ f. given_to f kind) e
wide_told shapes (known.Str n) width bits kind none e = elim (field_is width bits) [ inl p ↦ cc | inr p ↦ cc ]
wide_told shapes (known.Pkg s) width bits kind none e = elim (field_is width bits) [ inl p ↦ cc | inr p ↦ cc ]
wide_told shapes known.AnyPkg width bits kind none e = elim (field_is width bits) [ inl p ↦ cc | inr p ↦ cc ]
wide_told shapes known.Mixed width bits kind none e = elim (field_is width bits) [ inl p ↦ cc | inr p ↦ cc ]
