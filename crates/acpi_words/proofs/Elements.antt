-- Laws of the elements of `--args`.
use Rattle.std.proofs.Common.{◌≡◌, ◌≢◌, ◌⊎◌, ℕ, ◌<◌, List, [], ◌∷◌, ◌++◌, Option, Some, None, Result, Ok, Err, ap, ◌∙◌, sym, refl, get_or, length, zero, suc, drop, map, inl, inr, codes, arith, Bor}
use Rattle.std.specs.Prelude.{IsErrAnd, MatchOption, Vec, vec_items}
use Rattle.std.proofs.lemmas.Bool.{ne_eqb}
use Rattle.aml_values.specs.Values.{Int, Buf, Str, Pkg, none, more}
use Rattle.aml_values.specs.Views.{view}
use Rattle.aml_values.specs.declared.value.Value as program
use Rattle.aml_values.specs.declared.value.Value.TheVariants as value
use Rattle.aml_regions.specs.Text.{begun_with}
use Rattle.acpi_words.specs.Arguments.{AreArguments, IsArgument, IsInteger, IsNoArgument, ListsNoValues, ListsValues, elements}
use Rattle.acpi_sources.specs.Faults.{nowhere, Tries}
use Rattle.acpi_sources.specs.declared.fault.Fault.{Fault}
use Rattle.acpi_sources.specs.declared.fault.FaultCause.TheVariants as cause

-- text without a comma
abbrev pub IsElement : List ℕ → Type 0
IsElement text = (i : ℕ) → i < length text → get_or text i 0 ≢ 44

-- up to a comma there is one element
pub elements_more : (first rest : List ℕ) → IsElement first → elements (first ++ (44 ∷ rest)) ≡ first ∷ elements rest
elements_more [] rest h = refl
elements_more (b ∷ first) rest h =
    rw (ne_eqb b 44 (h 0 (omega arith))) (ap (begun_with b) (elements_more first rest (λ i l. h (suc i) (omega (arith, l)))))

-- without a comma there is one element
pub elements_one : (text : List ℕ) → IsElement text → elements text ≡ text ∷ []
elements_one [] h = refl
elements_one (b ∷ text) h = rw (ne_eqb b 44 (h 0 (omega arith))) (ap (begun_with b) (elements_one text (λ i l. h (suc i) (omega (arith, l)))))

-- one more argument
pub arguments_more : (done : List (List ℕ)) (vs : List program.Value) (element : List ℕ) (v : program.Value) → AreArguments done (map view vs) → IsArgument element (view v)
    → AreArguments (done ++ (element ∷ [])) (map view (vs ++ (v ∷ [])))
arguments_more [] [] element v h is = (is, tt)
arguments_more [] (w ∷ vs) element v h is = absurd h
arguments_more (e ∷ done) [] element v h is = absurd h
arguments_more (e ∷ done) (w ∷ vs) element v (first, h) is = (first, arguments_more done vs element v h is)

-- `0` and then `x`
pub two_prefixes : (text rest : List ℕ) (r : Option (Bor (List ℕ))) → text ≡ 48 ∷ rest
    → MatchOption r ((behind : List ℕ) → rest ≢ 120 ∷ behind) (λ x. rest ≡ 120 ∷ x.now)
    → MatchOption r ((digits : List ℕ) → text ≡ 48 ∷ 120 ∷ digits → ⊥) (λ digits. text ≡ 48 ∷ 120 ∷ digits.now)
two_prefixes text rest None is h = λ digits e. h digits (ap (drop 1) (sym is ∙ e))
two_prefixes text rest (Some x) is h = is ∙ ap (λ l. 48 ∷ l) h

-- a text that begins in none of the other ways is an integer or nothing
pub integer_only : (text : List ℕ) → text ≢ codes "pkg" → ((rest : List ℕ) → text ≢ codes "buf:" ++ rest) → ((rest : List ℕ) → text ≢ codes "str:" ++ rest)
    → ((n : ℕ) → IsInteger text n → ⊥) → IsNoArgument text
integer_only text no_package no_buffer no_string no_integer (Int n) is = no_integer n is
integer_only text no_package no_buffer no_string no_integer (Buf bytes) (digits, is, are) = no_buffer digits is
integer_only text no_package no_buffer no_string no_integer (Str characters) (is, are) = no_string characters is
integer_only text no_package no_buffer no_string no_integer (Pkg none) is = no_package is
integer_only text no_package no_buffer no_string no_integer (Pkg (more e es)) is = is

-- a program's value that is no integer
pub other_than_integer : (v : program.Value) → ((n : ℕ) → v ≢ value.Int n) → (n : ℕ) → view v ≢ Int n
other_than_integer (value.Int m) other n is = other m refl
other_than_integer (value.Buf bytes) other n is = absurd (cc)
other_than_integer (value.Str characters) other n is = absurd (cc)
other_than_integer (value.Pkg elements) other n is = absurd (cc)

-- where a value is no integer, not all are
pub not_all_integers : (vs : List program.Value) (i : ℕ) (d : program.Value) → i < length vs → ((n : ℕ) → view (get_or vs i d) ≢ Int n)
    → (ns : List ℕ) → map view vs ≡ map Int ns → ⊥
not_all_integers [] i d within other ns all = absurd (omega arith)
not_all_integers (v ∷ vs) i d within other [] all = absurd (cc)
not_all_integers (v ∷ vs) zero d within other (n ∷ ns) all = let e : view v ≡ Int n = cc in other n e
not_all_integers (v ∷ vs) (suc i) d within other (n ∷ ns) all =
    let e : map view vs ≡ map Int ns = cc in not_all_integers vs i d (omega arith) other ns e

-- an element that is no argument
pub stops_at : {B : Type 0} (text : List ℕ) (before behind : List (List ℕ)) (element : List ℕ) (f : Fault) (r : Result (Vec program.Value B) Fault)
    → elements text ≡ before ++ (element ∷ behind) → IsErrAnd r (λ e. e ≡ f)
    → (f ≡ nowhere cause.NoMemory) ⊎ ((f ≡ nowhere cause.BadArgs) × IsNoArgument element)
    → Tries (λ vs. ListsValues text (map view (vec_items vs))) (λ e. (e ≡ nowhere cause.BadArgs) × ListsNoValues text) r
stops_at text before behind element f (Ok v) split same why = absurd same
stops_at text before behind element f (Err e) split same (inl memory) = inl (same ∙ memory)
stops_at text before behind element f (Err e) split same (inr (bad, none_there)) = inr (same ∙ bad, (before, behind, element, split, none_there))
