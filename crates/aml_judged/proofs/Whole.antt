-- The law, of one method with a loop and of one that calls it.
use Rattle.std.proofs.Common.{◌≡◌, ℕ, List, [], Option, Some, None, refl, sym, subst, arith}
use Rattle.std.proofs.lemmas.Bool.{eqb-true}
use Rattle.std.specs.Prelude.{Bool, true, false, ◌==◌, if◌then◌else◌}
use Rattle.aml_operators.specs.declared.op.Op.TheVariants as op
use Rattle.aml_operators.specs.Tree.{Trees, Node}
use Rattle.aml_namespace.specs.declared.link.Link.{Link}
use Rattle.aml_namespace.specs.declared.link.Link.TheVariants as link
use Rattle.aml_objects.specs.declared.width.Width.TheVariants as width_of
use Rattle.aml_values.specs.Values.{Int}
use Rattle.aml_kinds.specs.Kinds.{IntUpTo}
use Rattle.aml_regions.specs.Events.{Event, Log}
use Rattle.aml_meaning.specs.State.{Names}
use Rattle.aml_meaning.specs.Within.{Callee}
use Rattle.aml_meaning.specs.Whole.{before}
use Rattle.aml_calls.specs.Chains.{is_short}
use Rattle.aml_judged.specs.Judged.{Always, Accepted}
use Rattle.aml_judged.specs.Safe.{FitNames, FitScript}
use Rattle.aml_judged.specs.Small.{AllSmall}
use Rattle.aml_judged.specs.Laws.{AreSmall, AreVerdicts, IsCallable, IsDone, evaluation}
use Rattle.aml_judged.specs.Verdicts.{Judging, AreAccepted, accepted_of, verdict_by}
use Rattle.aml_judged.proofs.Called.{verdicts_mean}
use Rattle.aml_judged.proofs.Small.{all_small}
use Rattle.aml_judged.proofs.Examples.{one, three, leaf, rising, stored_zero, no_link}

abbrev callee : (ℕ → Link) → Trees → Callee
callee links body = record { table = 0; opcode = 36; link = links; lone = λ at. true; literal = λ o ts. Int 0; body = body }

-- method 0 counts to 4 and returns that; method 1 returns what method 0 gives
abbrev counts : Callee
counts = callee no_link (three stored_zero rising (Node op.Return 54 56 (one (leaf op.Local0 55))))

abbrev calls_it : Callee
calls_it = callee (λ at. link.Method (record { 0 = 0 })) (one (Node op.Return 80 86 (one (Node op.Invocation 81 86 (one (leaf op.NameString 81))))))

abbrev callees : ℕ → Option Callee
callees k = if k == 0 then Some counts else (if k == 1 then Some calls_it else None)

abbrev all : Judging
all = record {
  methods = record { width = 64; object = λ i. None; field = λ i. None; buffer_field = λ i. None; callee = callees; is_interface = λ text. false };
  kinds = [];
  args = λ k. [];
  reaches = λ j k. false;
}

abbrev known : ℕ → Option Accepted
known k = if k == 0 then Some (record { args = []; result = Always (IntUpTo 18446744073709551615); bound = 33; least = None }) else (if k == 1 then Some (record { args = []; result = Always (IntUpTo 18446744073709551615); bound = 35; least = None }) else None)

abbrev Stands : ℕ → Type 0
Stands k = known k ≡ accepted_of (verdict_by all known k (callees k))

zero_stands : Stands 0
unfolding is_short
zero_stands = refl

one_stands : Stands 1
unfolding is_short
one_stands = refl

stands : (k : ℕ) (b c : Bool) → (k == 0) ≡ b → (k == 1) ≡ c → Stands k
stands k true c e f = subst Stands (sym (eqb-true k 0 e)) zero_stands
stands k false true e f = subst Stands (sym (eqb-true k 1 f)) one_stands
stands k false false e f = rw (e, f) refl

are_accepted : AreAccepted all known
are_accepted = record { each = λ k. stands k (k == 0) (k == 1) refl refl }

zeros_small : (ts : Trees) → AllSmall 64 (λ o parts. Int 0) ts
zeros_small ts = all_small 64 (λ o parts. Int 0) (λ o parts. omega arith) ts

some_callee : (k : ℕ) (m : Callee) (b c : Bool) → (if b then Some counts else (if c then Some calls_it else None)) ≡ Some m → AllSmall 64 m.literal m.body
some_callee k m true c e = let same : counts ≡ m = cc in subst (λ n. AllSmall 64 n.literal n.body) same (zeros_small counts.body)
some_callee k m false true e = let same : calls_it ≡ m = cc in subst (λ n. AllSmall 64 n.literal n.body) same (zeros_small calls_it.body)
some_callee k m false false e = absurd cc

are_small : AreSmall all
are_small k m e = some_callee k m (k == 0) (k == 1) e

are_verdicts : AreVerdicts all known
are_verdicts = record { width = width_of.Bits64; bits = refl; small = are_small; accepted = are_accepted }

abbrev second : Accepted
second = record { args = []; result = Always (IntUpTo 18446744073709551615); bound = 35; least = None }

-- a world that kept no event yet, and refused no call
abbrev nothing_yet : Log
nothing_yet = record { events = []; refusals = 0 }

callable : (script : List Event) (names : Names) → FitNames 64 [] names → FitScript 64 [] script → IsCallable all known 1 second calls_it [] script (before names 35 nothing_yet)
callable script names shared slept = record { accepted = refl; there = refl; arguments = tt; names = shared; answers = slept; watched = refl }

-- with 35 steps, whatever the script, the second method is done with an integer
calling_is_done : (script : List Event) (names : Names) → FitNames 64 [] names → FitScript 64 [] script → IsDone all second (evaluation all calls_it [] script (before names 35 nothing_yet))
calling_is_done script names shared slept =
    verdicts_mean.done all known are_verdicts 1 second calls_it [] script (before names 35 nothing_yet) (callable script names shared slept) tt (omega arith)
