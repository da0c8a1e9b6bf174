-- What rules find where they refuse is not what was wanted.
use Rattle.std.proofs.Common.{◌≡◌, ℕ, List, [], ◌∷◌, Bool, true, false, Option, Some, None, refl, arith}
use Rattle.std.specs.Prelude.{◌==◌, IsErr, if◌then◌else◌, not}
use Rattle.std.specs.Option.{option_map}
use Rattle.aml_kinds.specs.Kinds.{Shape}
use Rattle.aml_meaning.specs.Mutexes.{without_last}
use Rattle.aml_meaning.specs.Rules.{Place}
use Rattle.aml_meaning.specs.declared.action.Comparison.TheVariants as comparison
use Rattle.aml_meaning.specs.declared.action.Conversion.TheVariants as conversion
use Rattle.aml_meaning.specs.declared.mutex.TakenMutex.{TakenMutex}
use Rattle.aml_judged.specs.KindRules.{buffer_integer, compared_kind}
use Rattle.aml_known.specs.declared.known.Known.{Known}
use Rattle.aml_known.specs.declared.known.Known.TheVariants as known
use Rattle.aml_known.specs.Views.{kind_of}
use Rattle.aml_findings.specs.Finds.{CombinedAreUnmet, ComparedAreUnmet, ConcatenatedAreUnmet, ConvertedAreUnmet, IntegersAreUnmet, IsUnmet, ReleasedAreUnmet, StillHeldAreTold, equal_finding, integers_finding}

pub integers_are_unmet : IntegersAreUnmet
integers_are_unmet shapes p (known.Int n) h = cc
integers_are_unmet shapes p (known.Buf n) h = refl
integers_are_unmet shapes p (known.Str n) h = refl
integers_are_unmet shapes p (known.Pkg n) h = refl
integers_are_unmet shapes p known.AnyPkg h = refl
integers_are_unmet shapes p known.Mixed h = refl

pub combined_are_unmet : CombinedAreUnmet
combined_are_unmet shapes (known.Int n) (known.Int m) = refl
combined_are_unmet shapes (known.Int n) (known.Buf m) = refl
combined_are_unmet shapes (known.Int n) (known.Str m) = refl
combined_are_unmet shapes (known.Int n) (known.Pkg m) = refl
combined_are_unmet shapes (known.Int n) known.AnyPkg = refl
combined_are_unmet shapes (known.Int n) known.Mixed = refl
combined_are_unmet shapes (known.Buf n) k = refl
combined_are_unmet shapes (known.Str n) k = refl
combined_are_unmet shapes (known.Pkg n) k = refl
combined_are_unmet shapes known.AnyPkg k = refl
combined_are_unmet shapes known.Mixed k = refl

pub concatenated_are_unmet : ConcatenatedAreUnmet
concatenated_are_unmet shapes (known.Int n) k = refl
concatenated_are_unmet shapes (known.Buf n) (known.Int m) = refl
concatenated_are_unmet shapes (known.Buf n) (known.Buf m) = tt
concatenated_are_unmet shapes (known.Buf n) (known.Str m) = refl
concatenated_are_unmet shapes (known.Buf n) (known.Pkg m) = refl
concatenated_are_unmet shapes (known.Buf n) known.AnyPkg = refl
concatenated_are_unmet shapes (known.Buf n) known.Mixed = refl
concatenated_are_unmet shapes (known.Str n) (known.Int m) = refl
concatenated_are_unmet shapes (known.Str n) (known.Buf m) = refl
concatenated_are_unmet shapes (known.Str n) (known.Str m) = tt
concatenated_are_unmet shapes (known.Str n) (known.Pkg m) = refl
concatenated_are_unmet shapes (known.Str n) known.AnyPkg = refl
concatenated_are_unmet shapes (known.Str n) known.Mixed = refl
concatenated_are_unmet shapes (known.Pkg n) k = refl
concatenated_are_unmet shapes known.AnyPkg k = refl
concatenated_are_unmet shapes known.Mixed k = refl

-- two of one kind
equals_are_unmet : (shapes : ℕ → Shape) (width : ℕ) (p q : Place) (j k : Known) → IsErr (compared_kind width comparison.LEqual p (kind_of shapes j) q (kind_of shapes k)) → IsUnmet shapes (equal_finding j k)
equals_are_unmet shapes width p q (known.Int n) (known.Int m) = λ h. cc
equals_are_unmet shapes width p q (known.Int n) (known.Buf m) = λ h. refl
equals_are_unmet shapes width p q (known.Int n) (known.Str m) = λ h. refl
equals_are_unmet shapes width p q (known.Int n) (known.Pkg m) = λ h. refl
equals_are_unmet shapes width p q (known.Int n) known.AnyPkg = λ h. refl
equals_are_unmet shapes width p q (known.Int n) known.Mixed = λ h. refl
equals_are_unmet shapes width p q (known.Buf n) (known.Int m) = λ h. refl
equals_are_unmet shapes width p q (known.Buf n) (known.Buf m) = λ h. cc
equals_are_unmet shapes width p q (known.Buf n) (known.Str m) = λ h. refl
equals_are_unmet shapes width p q (known.Buf n) (known.Pkg m) = λ h. refl
equals_are_unmet shapes width p q (known.Buf n) known.AnyPkg = λ h. refl
equals_are_unmet shapes width p q (known.Buf n) known.Mixed = λ h. refl
equals_are_unmet shapes width p q (known.Str n) (known.Int m) = λ h. refl
equals_are_unmet shapes width p q (known.Str n) (known.Buf m) = λ h. refl
equals_are_unmet shapes width p q (known.Str n) (known.Str m) = λ h. cc
equals_are_unmet shapes width p q (known.Str n) (known.Pkg m) = λ h. refl
equals_are_unmet shapes width p q (known.Str n) known.AnyPkg = λ h. refl
equals_are_unmet shapes width p q (known.Str n) known.Mixed = λ h. refl
equals_are_unmet shapes width p q (known.Pkg n) k = λ h. refl
equals_are_unmet shapes width p q known.AnyPkg k = λ h. refl
equals_are_unmet shapes width p q known.Mixed k = λ h. refl

-- two integers
both_are_unmet : (shapes : ℕ → Shape) (width : ℕ) (p q : Place) (j k : Known) → IsErr (compared_kind width comparison.LLess p (kind_of shapes j) q (kind_of shapes k)) → IsUnmet shapes (integers_finding j k)
both_are_unmet shapes width p q (known.Int n) (known.Int m) = λ h. cc
both_are_unmet shapes width p q (known.Int n) (known.Buf m) = λ h. refl
both_are_unmet shapes width p q (known.Int n) (known.Str m) = λ h. refl
both_are_unmet shapes width p q (known.Int n) (known.Pkg m) = λ h. refl
both_are_unmet shapes width p q (known.Int n) known.AnyPkg = λ h. refl
both_are_unmet shapes width p q (known.Int n) known.Mixed = λ h. refl
both_are_unmet shapes width p q (known.Buf n) k = λ h. refl
both_are_unmet shapes width p q (known.Str n) k = λ h. refl
both_are_unmet shapes width p q (known.Pkg n) k = λ h. refl
both_are_unmet shapes width p q known.AnyPkg k = λ h. refl
both_are_unmet shapes width p q known.Mixed k = λ h. refl

pub compared_are_unmet : ComparedAreUnmet
compared_are_unmet shapes width comparison.LEqual p j q k h = equals_are_unmet shapes width p q j k h
compared_are_unmet shapes width comparison.LAnd p j q k h = both_are_unmet shapes width p q j k h
compared_are_unmet shapes width comparison.LOr p j q k h = both_are_unmet shapes width p q j k h
compared_are_unmet shapes width comparison.LGreater p j q k h = both_are_unmet shapes width p q j k h
compared_are_unmet shapes width comparison.LLess p j q k h = both_are_unmet shapes width p q j k h

-- all that is refused of a buffer is that it is empty
empty_is_unmet : (width n : ℕ) (op : Place) → IsErr (buffer_integer width op n) → not (n == 0) ≡ false
empty_is_unmet width n op h = grind arith

pub converted_are_unmet : ConvertedAreUnmet
converted_are_unmet shapes width conversion.ToBuffer op p (known.Int n) h = cc
converted_are_unmet shapes width conversion.ToBuffer op p (known.Buf n) h = cc
converted_are_unmet shapes width conversion.ToBuffer op p (known.Str n) h = refl
converted_are_unmet shapes width conversion.ToBuffer op p (known.Pkg n) h = refl
converted_are_unmet shapes width conversion.ToBuffer op p known.AnyPkg h = refl
converted_are_unmet shapes width conversion.ToBuffer op p known.Mixed h = refl
converted_are_unmet shapes width conversion.ToInteger op p (known.Int n) h = cc
converted_are_unmet shapes width conversion.ToInteger op p (known.Buf n) h = empty_is_unmet width n op h
converted_are_unmet shapes width conversion.ToInteger op p (known.Str n) h = refl
converted_are_unmet shapes width conversion.ToInteger op p (known.Pkg n) h = refl
converted_are_unmet shapes width conversion.ToInteger op p known.AnyPkg h = refl
converted_are_unmet shapes width conversion.ToInteger op p known.Mixed h = refl

-- one mutex that is not released is another
another : (b : Bool) (left : List TakenMutex) → (if b then Some left else None) ≡ None → b ≡ false
another true left e = cc
another false left e = refl

-- where nothing is left of a list, nothing is left of what stands behind its first
none_behind : (m : TakenMutex) (o : Option (List TakenMutex)) → option_map (λ rest. m ∷ rest) o ≡ None → o ≡ None
none_behind m None e = refl
none_behind m (Some rest) e = cc

pub released_are_unmet : ReleasedAreUnmet
released_are_unmet shapes mutex [] e = tt
released_are_unmet shapes mutex (m ∷ []) e = another (m.object.0 == mutex.0) [] e
released_are_unmet shapes mutex (m ∷ n ∷ ms) e =
    released_are_unmet shapes mutex (n ∷ ms) (none_behind m (without_last mutex.0 (n ∷ ms)) e)

pub still_held_are_told : StillHeldAreTold
still_held_are_told first [] = tt
still_held_are_told first (m ∷ ms) = still_held_are_told m ms
