-- The law, of a method that takes a mutex and is called where others are held.
use Rattle.std.proofs.Common.{◌≡◌, ◌≤◌, ℕ, [], Option, Some, None, refl, sym, subst, arith}
use Rattle.std.proofs.lemmas.Bool.{eqb-true}
use Rattle.std.specs.Prelude.{List, Bool, true, false, ◌==◌, if◌then◌else◌}
use Rattle.aml_operators.specs.declared.op.Op.TheVariants as op
use Rattle.aml_operators.specs.Tree.{Node}
use Rattle.aml_namespace.specs.declared.link.Link.TheVariants as link
use Rattle.aml_objects.specs.declared.object.Object.TheVariants as object
use Rattle.aml_objects.specs.declared.width.Width.TheVariants as width_of
use Rattle.aml_values.specs.Values.{Int}
use Rattle.aml_kinds.specs.Kinds.{IntUpTo}
use Rattle.aml_regions.specs.Events.{Event}
use Rattle.aml_meaning.specs.declared.error.AmlCause.TheVariants as why
use Rattle.aml_meaning.specs.Calls.{framed}
use Rattle.aml_meaning.specs.Mutexes.{acquire}
use Rattle.aml_meaning.specs.Parts.{◌>>=◌, give, stop_with, tick, paid}
use Rattle.aml_meaning.specs.State.{Names, State, Halts, entered, error, no_names, with_steps}
use Rattle.aml_meaning.specs.Whole.{before}
use Rattle.aml_meaning.specs.Within.{Callee}
use Rattle.aml_calls.specs.Chains.{is_short}
use Rattle.aml_judged.specs.Judged.{Always, Accepted}
use Rattle.aml_judged.specs.Laws.{AreSmall, AreVerdicts, IsCallable, IsDone, evaluation}
use Rattle.aml_judged.specs.Safe.{FitNames, FitScript}
use Rattle.aml_judged.specs.Small.{AllSmall}
use Rattle.aml_judged.specs.Verdicts.{Judging, AreAccepted, accepted_of, verdict_by}
use Rattle.aml_judged.proofs.Called.{verdicts_mean}
use Rattle.aml_judged.proofs.Small.{all_small}
use Rattle.aml_judged.proofs.Examples.{one, two, three, leaf}

-- Acquire (a mutex of level 3), Release (it), Return (One)
abbrev takes_it : Callee
takes_it = record {
  table = 0;
  opcode = 43;
  link = λ at. link.Object (record { 0 = 3 });
  lone = λ at. true;
  literal = λ o ts. Int 0;
  body = three (Node op.Acquire 50 58 (two (leaf op.NameString 52) (leaf (op.Number 65535) 56))) (Node op.Release 58 64 (one (leaf op.NameString 60))) (Node op.Return 64 66 (one (leaf op.One 65)));
}

abbrev callees : ℕ → Option Callee
callees k = if k == 0 then Some takes_it else None

abbrev all : Judging
all = record {
  methods = record { width = 64; object = λ i. Some (object.Mutex 3); field = λ i. None; buffer_field = λ i. None; callee = callees; is_interface = λ text. false };
  kinds = [];
  args = λ k. [];
  reaches = λ j k. false;
}

abbrev accepted : Accepted
accepted = record { args = []; result = Always (IntUpTo 1); bound = 4; least = Some 3 }

abbrev known : ℕ → Option Accepted
known k = if k == 0 then Some accepted else None

abbrev Stands : ℕ → Type 0
Stands k = known k ≡ accepted_of (verdict_by all known k (callees k))

zero_stands : Stands 0
unfolding is_short
zero_stands = refl

stands : (k : ℕ) (b : Bool) → (k == 0) ≡ b → Stands k
stands k true e = subst Stands (sym (eqb-true k 0 e)) zero_stands
stands k false e = rw e refl

are_accepted : AreAccepted all known
are_accepted = record { each = λ k. stands k (k == 0) refl }

some_callee : (m : Callee) (b : Bool) → (if b then Some takes_it else None) ≡ Some m → AllSmall 64 m.literal m.body
some_callee m true e = let same : takes_it ≡ m = cc in subst (λ n. AllSmall 64 n.literal n.body) same (all_small 64 (λ o parts. Int 0) (λ o parts. omega arith) takes_it.body)
some_callee m false e = absurd cc

are_small : AreSmall all
are_small k m e = some_callee m (k == 0) e

are_verdicts : AreVerdicts all known
are_verdicts = record { width = width_of.Bits64; bits = refl; small = are_small; accepted = are_accepted }

-- with four steps, called from a method that holds mutexes up to a level
abbrev under : ℕ → Names → State
under level names = record (before names 4 (record { events = []; refusals = 0 })) { frame = entered true level [] }

callable : (level : ℕ) (script : List Event) (names : Names) → FitNames 64 [] names → FitScript 64 [] script → IsCallable all known 0 accepted takes_it [] script (under level names)
callable level script names shared slept = record { accepted = refl; there = refl; arguments = tt; names = shared; answers = slept; watched = refl }

-- up to level 3 it is done
taken_below : (level : ℕ) → level ≤ 3 → (script : List Event) (names : Names) → FitNames 64 [] names → FitScript 64 [] script → IsDone all accepted (evaluation all takes_it [] script (under level names))
taken_below level le script names shared slept =
    verdicts_mean.done all known are_verdicts 0 accepted takes_it [] script (under level names) (callable level script names shared slept) le (omega arith)

-- and from level 4 on it is an error, at the Acquire
not_above : evaluation all takes_it [] [] (under 4 no_names) ≡ Halts (error why.Level 0 50) (with_steps (under 4 no_names) 3)
unfolding framed ◌>>=◌ give stop_with tick paid acquire
not_above = refl
