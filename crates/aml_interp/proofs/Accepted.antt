-- What the verifier accepted is there, is kept, and ends well.
use Rattle.std.proofs.Common.{◌≡◌, ℕ, List, Bool, Option, Some, None, Ok, refl, sym, ap, ◌∙◌, subst, arith, rules, false, true}
use Rattle.std.specs.Prelude.{IsSome}
use Rattle.std.proofs.lemmas.Option.{same_Some}
use Rattle.aml_bodies.specs.Methods.{Around}
use Rattle.aml_contents.specs.Contents.{ContentKinds}
use Rattle.aml_contents.specs.FirstContents.{first_kinds}
use Rattle.aml_quick.proofs.Keeps.{are_sound}
use Rattle.aml_integers.specs.Known.{marked}
use Rattle.aml_interp.proofs.Bodies.{same_methods}
use Rattle.aml_interp.proofs.Ends.{allowed, ends_well}
use Rattle.aml_interp.specs.Answers.{IsReady}
use Rattle.aml_interp.specs.Headline.{AreAnswers, AreOfKinds, EndsWell, IsAccepted, verdict_of}
use Rattle.aml_judged.specs.Laws.{evaluation, IsDone}
use Rattle.aml_judged.specs.Safe.{FitAll, FitNames, FitScript}
use Rattle.aml_judged.specs.Judged as judged
use Rattle.aml_judged.specs.Judged.{Judged, Goes, Stops}
use Rattle.aml_judged.specs.Verdicts.{Judging, around_for, bounded, called_from, too_large, verdict_by}
use Rattle.aml_judged.specs.Bodies.{entry, judged_method}
use Rattle.aml_calls.specs.Chains.{is_short}
use Rattle.aml_judged.specs.Verdicts.{verdict_of as verdict_of_judged}
use Rattle.aml_kinds.specs.Kinds.{Kind}
use Rattle.aml_known.specs.Views.{accepted_of}
use Rattle.aml_known.specs.declared.accepted.Accepted.{Accepted}
use Rattle.aml_meaning.specs.Methods.{callee_in, callee_of, methods_of}
use Rattle.aml_meaning.specs.State.{Names, Out, State}
use Rattle.aml_meaning.specs.Whole.{before, begun, evaluated}
use Rattle.aml_meaning.specs.Within.{Callee, Methods, call_within, most_within, setting_for}
use Rattle.aml_methods.proofs.Judgings.{callee_there}
use Rattle.aml_methods.proofs.JudgingsThere.{judgings_are_there}
use Rattle.aml_methods.specs.Judgings.{IsJudging, Told, arguments_of}
use Rattle.aml_namespace.specs.Names.{IsBodyOf, method_at}
use Rattle.aml_namespace.specs.Shows.{shown}
use Rattle.aml_objects.specs.declared.object.Method.{Method}
use Rattle.aml_operators.specs.Tree.{Tree, Trees, trees}
use Rattle.aml_regions.specs.Events.{Event, Log}
use Rattle.aml_shapes.specs.Numbers.{numbered}
use Rattle.aml_values.specs.Values.{Value}
use Rattle.aml_verdict_laws.proofs.Known.{verdicts_are_there}
use Rattle.aml_verdict_laws.specs.Laws.{Answer}
use Rattle.aml_verified.proofs.Accepted.{accepted_methods_run}
use Rattle.aml_verified.proofs.Spared.{accepted_integers_spare}
use Rattle.aml_verified.specs.Laws.{MayRun, WasAccepted, meant}
use Rattle.aml_verify.specs.Said.{verdict_at}
use Rattle.aml_verify.specs.Verdicts.{IsChecked}
use Rattle.aml_verify.specs.declared.checked.Checked.{Checked}
use Rattle.aml_verify.specs.declared.verdict.Verdict.TheVariants as verdict

-- a verdict has the kinds of the arguments by which the method was judged
bounded_is : (b : Bool) (r : _) (one other : judged.Accepted) → bounded b r one ≡ Ok other → one ≡ other
bounded_is true r one other e = cc
bounded_is false r one other e = absurd cc

args_of : (short : Bool) (late : _) (args : List Kind) (j : Judged (Unit {0})) (a : judged.Accepted) → verdict_of_judged short late args j ≡ Ok a → a.args ≡ args
args_of short late args (Goes u env x n) a e = ap (λ (it : judged.Accepted). it.args) (sym (bounded_is _ late _ a e))
args_of short late args (Stops r) a e = absurd cc

args_judged : (all : Judging) (known : ℕ → Option judged.Accepted) (k : ℕ) (o : Option Callee) (a : judged.Accepted) → verdict_by all known k o ≡ Some (Ok a) → a.args ≡ all.args k
args_judged all known k None a e = absurd cc
args_judged all known k (Some m) a e =
    args_of (is_short (called_from all) 64 k) (too_large all m) (all.args k) (judged_method (around_for all known k m) m.opcode m.body (entry (all.args k))) a (same_Some _ (Ok a) e)

module _ (told : Told) (c : Checked) (k : ℕ) (a : Accepted) (checked : IsChecked told c) (said : verdict_at c.verdicts.items k ≡ Some (verdict.Accepted a)) where
  method_of : (o : Option Method) → method_at (shown c.namespace.now) k ≡ o → (m : Method) × (method_at (shown c.namespace.now) k ≡ Some m)
  method_of None is = (let unsaid : verdict_at c.verdicts.items k ≡ None = checked.only k is in absurd cc)
  method_of (Some m) is = (m, is)

  -- it is a method
  pub method : (m : Method) × (method_at (shown c.namespace.now) k ≡ Some m)
  method = method_of (method_at (shown c.namespace.now) k) refl

  module _ (m : Method) (there : method_at (shown c.namespace.now) k ≡ Some m) where
    abbrev all : Judging
    all = (judgings_are_there (shown c.namespace.now) told).0

    abbrev judging : IsJudging (shown c.namespace.now) told all
    judging = (judgings_are_there (shown c.namespace.now) told).1

    answer : Answer all
    answer = verdicts_are_there all

    says : verdict_by all answer.known k (all.methods.callee k) ≡ Some (Ok (accepted_of (numbered c.shapes) a))
    says = checked.right all judging answer.known answer.are k m there (verdict.Accepted a) said

    -- its arguments are of the kinds that are told
    pub args_told : (verdict_of c a).args ≡ arguments_of (shown c.namespace.now) told k m
    args_told = args_judged all answer.known k (all.methods.callee k) (verdict_of c a) says ∙ judging.args k m there

    body_of : (b : Option Trees) → judging.bodies k ≡ b → (ts : List Tree) × IsBodyOf (shown c.namespace.now) k m ts
    body_of None none =
        let gone : all.methods.callee k ≡ None =
        ap (λ (ms : Methods). ms.callee k) judging.methods
        ∙ ap (λ (o : Option Method). callee_in (shown c.namespace.now) k o (judging.bodies k)) there
        ∙ ap (callee_in (shown c.namespace.now) k (Some m)) none in
        let unsaid : None ≡ Some (Ok (accepted_of (numbered c.shapes) a)) = sym (ap (verdict_by all answer.known k) gone) ∙ says in absurd cc
    body_of (Some b) is = judging.are.only k m there b is

    -- whose body has a tree
    body : (ts : List Tree) × IsBodyOf (shown c.namespace.now) k m ts
    body = body_of (judging.bodies k) refl

some_is : {A : Type 0} (o : Option A) (x : A) → o ≡ Some x → IsSome o
some_is o x is = subst IsSome (sym is) (search rules)

-- so each accepted method is there, and its body is kept
pub ready : (told : Told) (c : Checked) → IsChecked told c → IsReady c
ready told c checked = record {
  sound = are_sound (shown c.namespace.now) c.kept.items checked.kept checked.all_kept;
  there = λ k a said. let m = method told c k a checked said in some_is (method_at (shown c.namespace.now) k) m.0 m.1;
  kept = λ k a said.
      let m = method told c k a checked said in
      let b = body told c k a checked said m.0 m.1 in
      checked.all_kept k m.0 m.1 b.0 b.1;
}

module _ (told : Told) (c : Checked) (k : ℕ) (a : Accepted) (is : IsAccepted told c k a) (m : Method) (there : method_at (shown c.namespace.now) k ≡ Some m)
    (ts : List Tree) (body : IsBodyOf (shown c.namespace.now) k m ts) (around : Around (shown c.namespace.now))
    (values : List Value) (names : Names) (fits : AreOfKinds (shown c.namespace.now) (verdict_of c a) values names)
    (log : Log) (script : List Event) (answers : AreAnswers (shown c.namespace.now) (verdict_of c a) script) where
  abbrev callee : Callee
  callee = callee_of (shown c.namespace.now) k m (trees ts)

  abbrev start : State
  start = before names a.bound log

  -- the evaluation, by what calls find
  abbrev run : Methods → Out (Option Value)
  run ms = evaluated (setting_for ms (call_within ms most_within) callee) (trees ts) values script start

  module _ (all : Judging) (judging : IsJudging (shown c.namespace.now) told all) where
    was : WasAccepted told c all k callee a
    was = record {
      checked = is.checked;
      judging = judging;
      bytes = is.bytes;
      method = m;
      there = there;
      said = is.said;
      called = callee_there (shown c.namespace.now) told all judging k m ts there body;
    }

    width : methods_of (shown c.namespace.now) judging.bodies ≡ all.methods
    width = sym judging.methods

    may : MayRun c all a values script start
    may = record {
      arguments = subst (λ (ms : Methods). FitAll ms.width values (verdict_of c a).args) width fits.arguments;
      names = subst (λ (kinds : ContentKinds). FitNames all.methods.width kinds names) (sym judging.kinds)
          (subst (λ (ms : Methods). FitNames ms.width (first_kinds (shown c.namespace.now)) names) width fits.names);
      answers = subst (λ (kinds : ContentKinds). FitScript all.methods.width kinds script) (sym judging.kinds)
          (subst (λ (ms : Methods). FitScript ms.width (first_kinds (shown c.namespace.now)) script) width answers);
      levels = allowed a.least;
      watched = refl;
    }

    done : IsDone all (verdict_of c a) (evaluation all callee values script start)
    done = accepted_methods_run.done told c all k callee a was values script start may (omega arith)

    ends : EndsWell (shown c.namespace.now) (verdict_of c a) (run (methods_of (shown c.namespace.now) around.bodies))
    ends = subst (λ ms. EndsWell (shown c.namespace.now) (verdict_of c a) (run ms))
        (judging.methods ∙ same_methods (shown c.namespace.now) (record { bodies = judging.bodies; are = judging.are }) around)
        (ends_well (shown c.namespace.now) (verdict_of c a) all (ap (λ (ms : Methods). ms.width) judging.methods) judging.kinds (run all.methods) done)

  -- of these methods, whether memory is wanted somewhere, where mutexes are not watched
  abbrev wanting : Methods → Bool
  wanting ms = (meant ms callee values).wants script (begun false names a.bound log)

  module _ (integers : marked c.integers.items k ≡ true) where
    idle : (all : Judging) → IsJudging (shown c.namespace.now) told all → wanting (methods_of (shown c.namespace.now) around.bodies) ≡ false
    idle all judging =
        let may = may all judging in
        subst (λ ms. wanting ms ≡ false)
        (judging.methods ∙ same_methods (shown c.namespace.now) (record { bodies = judging.bodies; are = judging.are }) around)
        (accepted_integers_spare.wants told c all k callee a (was all judging) integers values script (begun false names a.bound log) may.arguments may.names may.answers refl)

    pub wants_nothing : wanting (methods_of (shown c.namespace.now) around.bodies) ≡ false
    wants_nothing = idle (judgings_are_there (shown c.namespace.now) told).0 (judgings_are_there (shown c.namespace.now) told).1

  pub ends_so : EndsWell (shown c.namespace.now) (verdict_of c a) (run (methods_of (shown c.namespace.now) around.bodies))
  ends_so = ends (judgings_are_there (shown c.namespace.now) told).0 (judgings_are_there (shown c.namespace.now) told).1
