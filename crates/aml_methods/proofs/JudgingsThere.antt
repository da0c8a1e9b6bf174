-- A judging of each namespace: its bodies as they are read, and chains of calls as they are searched for.
use Rattle.std.proofs.Common.{◌≡◌, ◌<◌, ◌≤◌, ℕ, zero, suc, List, [], ◌++◌, length, Option, Some, None, refl, sym, ap, ◌∙◌, subst, inl, inr, arith}
use Rattle.std.proofs.lemmas.Bool.Decides.{eqb_tells, leb_tells}
use Rattle.std.proofs.lemmas.Option.{slice_get_past}
use Rattle.std.specs.Prelude.{true, option_and_then}
use Rattle.aml_bodies.proofs.Around.{around_there}
use Rattle.aml_bodies.specs.Methods.{Around}
use Rattle.aml_calls.proofs.Among.{among_back, among_front}
use Rattle.aml_calls.specs.Chains.{is_among}
use Rattle.aml_contents.specs.FirstContents.{first_kinds}
use Rattle.aml_judged.specs.Verdicts.{calls_by, Judging}
use Rattle.aml_kinds.specs.Kinds.{Kind}
use Rattle.aml_meaning.specs.Methods.{callee_in, methods_of}
use Rattle.aml_methods.specs.Judgings.{arguments_of, IsJudging, Told}
use Rattle.aml_methods.specs.Laws.{JudgingsAreThere}
use Rattle.aml_objects.specs.declared.object.Entry.{Entry}
use Rattle.aml_objects.specs.declared.object.Method.{Method}
use Rattle.aml_objects.specs.Entries.{own_object}
use Rattle.aml_namespace.specs.Load.{Shown}
use Rattle.aml_namespace.specs.Names.{method_at, method_in}
use Rattle.aml_paths.specs.Paths.{Path}
use Rattle.aml_verdict_laws.proofs.Reaching.{reach_is_told}
use Rattle.aml_verdict_laws.specs.Laws.{CallAmong, Reach}

-- all that the methods below a number call
all_called : (ℕ → List ℕ) → ℕ → List ℕ
all_called calls zero = []
all_called calls (suc n) = calls n ++ all_called calls n

called_below : (calls : ℕ → List ℕ) (n k j : ℕ) → k < n → is_among j (calls k) ≡ true → is_among j (all_called calls n) ≡ true
unfolding all_called
called_below calls zero k j lt e = absurd (omega arith)
called_below calls (suc n) k j lt e = elim (eqb_tells k n) [
  | inl p ↦ among_front j (calls n) (all_called calls n) (subst (λ (i : ℕ). is_among j (calls i) ≡ true) p.1 e)
  | inr p ↦ among_back j (calls n) (all_called calls n) (called_below calls n k j (omega (arith, p.1)) e)
]

-- are all that are called, where no others call any
calls_below : (calls : ℕ → List ℕ) (n : ℕ) → ((k : ℕ) → n ≤ k → calls k ≡ []) → CallAmong calls (all_called calls n)
calls_below calls n none k j e = elim (leb_tells n k) [
  | inl p ↦ (let never : is_among j [] ≡ true = sym (ap (is_among j) (none k p.1)) ∙ e in absurd cc)
  | inr p ↦ called_below calls n k j p.1 e
]

-- a number that no entry has is no method's
no_method : (ns : Shown) (k : ℕ) → length ns.entries ≤ k → method_at ns k ≡ None
no_method ns k le =
    ap (λ (o : Option (Path × Entry)). option_and_then method_in (option_and_then (λ (e : Path × Entry). own_object e.1) o))
    (slice_get_past ns.entries k le)

-- the kinds of the arguments of a method, if it is one
abbrev arguments_at : Shown → Told → ℕ → Option Method → List Kind
arguments_at ns told k (Some m) = arguments_of ns told k m
arguments_at ns told k None = []

module _ (ns : Shown) (told : Told) (around : Around ns) where
  abbrev calls : ℕ → List ℕ
  calls k = calls_by (callee_in ns k (method_at ns k) (around.bodies k))

  calls_none : (k : ℕ) → length ns.entries ≤ k → calls k ≡ []
  calls_none k le = ap (λ (o : Option Method). calls_by (callee_in ns k o (around.bodies k))) (no_method ns k le)

  reach : Reach calls
  reach = reach_is_told calls (all_called calls (length ns.entries)) (calls_below calls (length ns.entries) calls_none)

  abbrev judging : Judging
  judging = record {
    methods = methods_of ns around.bodies;
    kinds = first_kinds ns;
    args = λ k. arguments_at ns told k (method_at ns k);
    reaches = reach.reaches;
  }

  is_judging : IsJudging ns told judging
  is_judging = record {
    bodies = around.bodies;
    are = around.are;
    methods = refl;
    kinds = refl;
    args = λ k m is. ap (arguments_at ns told k) is;
    chains = record { each = reach.tells };
  }

pub judgings_are_there : JudgingsAreThere
judgings_are_there ns told = (judging ns told (around_there ns), is_judging ns told (around_there ns))
