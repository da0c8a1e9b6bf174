-- What an evaluation of an accepted method answers.
use Rattle.std.proofs.Common.{◌≡◌, ◌⊎◌, inl, inr, ◌∙◌, ℕ, List, Option, Some, Result, Ok, Err, false, subst, sym, true}
use Rattle.std.specs.Prelude.{IfOk, OnErr}
use Rattle.aml_bodies.proofs.Around.{around_there}
use Rattle.aml_bodies.specs.Methods.{Around}
use Rattle.aml_direct.specs.Methods.{Evaluates, Spares}
use Rattle.aml_interp.proofs.Accepted.{ends_so, ready, wants_nothing}
use Rattle.aml_interp.proofs.Ends.{body_untold, done_well, kinds_kept, no_error}
use Rattle.aml_interp.proofs.Ready.{body, method}
use Rattle.aml_interp.proofs.Unwatched.{as_defined}
use Rattle.aml_interp.specs.Answers.{Answers, AnswersBody, IsCutShort, IsDone, IsReady, WantsRightly, value_answered}
use Rattle.aml_interp.specs.Headline.{AreAnswers, AreOfKinds, EndsWell, Headline, IsAccepted, IsDoneWell, IsRefused, verdict_of}
use Rattle.aml_known.specs.declared.accepted.Accepted.{Accepted}
use Rattle.aml_meaning.proofs.Runs.{prefix_refl}
use Rattle.aml_meaning.specs.Methods.{callee_of, methods_of, setting_in}
use Rattle.aml_meaning.specs.State.{Names, Out}
use Rattle.aml_meaning.specs.Whole.{before, evaluated}
use Rattle.aml_meaning.specs.Within.{most_within}
use Rattle.aml_meaning.specs.declared.outcome.Outcome.{Outcome}
use Rattle.aml_meaning.specs.declared.outcome.Outcome.TheVariants as outcome
use Rattle.aml_methods.specs.Judgings.{Told}
use Rattle.aml_namespace.specs.Names.{IsBodyOf, method_at}
use Rattle.aml_namespace.specs.Shows.{shown}
use Rattle.aml_objects.specs.declared.object.Method.{Method}
use Rattle.aml_operators.specs.Tree.{Tree, trees}
use Rattle.aml_paths.specs.declared.memory.NoMemory.{NoMemory}
use Rattle.aml_regions.specs.Events.{AreWords, Log}
use Rattle.aml_scene.specs.Outcomes.{Tells}
use Rattle.aml_steady.proofs.KindsStay.{calls_keep}
use Rattle.aml_steady.proofs.Unwatched.{methods_go_unwatched}
use Rattle.aml_values.specs.Values.{Value}
use Rattle.aml_verify.specs.Said.{verdict_at}
use Rattle.aml_verify.specs.declared.checked.Checked.{Checked}
use Rattle.aml_verify.specs.declared.verdict.Verdict.TheVariants as verdict

module _ (c : Checked) (k : ℕ) (values : List Value) (names : Names) (log : Log) (names_left : Names) (log_left : Log) where
  -- an evaluation with so many steps as the one verdict on the method says
  pub answers_by : (answer : Result Outcome NoMemory) (a : Accepted) → verdict_at c.verdicts.items k ≡ Some (verdict.Accepted a) →
      ((m : Method) → method_at (shown c.namespace.now) k ≡ Some m → (ts : List Tree) → IsBodyOf (shown c.namespace.now) k m ts →
      Evaluates (shown c.namespace.now) k m (trees ts) values a.bound names log answer names_left log_left) →
      Answers c k values names log answer names_left log_left
  answers_by answer a said did = record {
    are = λ b other m there ts body around.
        let same : a ≡ b = cc in
        let ms = methods_of (shown c.namespace.now) around.bodies in
        subst (λ (x : Accepted). AnswersBody (setting_in (shown c.namespace.now) around.bodies k m (trees ts)) (trees ts) values x.bound names log answer names_left log_left) same
        (as_defined (setting_in (shown c.namespace.now) around.bodies k m (trees ts)) (trees ts) values
        (methods_go_unwatched ms most_within (callee_of (shown c.namespace.now) k m (trees ts)) values) a.bound names log answer names_left log_left (did m there ts body around));
  }

  -- and where it wants memory
  pub wants_by : (answer : Result Outcome NoMemory) (a : Accepted) → verdict_at c.verdicts.items k ≡ Some (verdict.Accepted a) →
      ((m : Method) → method_at (shown c.namespace.now) k ≡ Some m → (ts : List Tree) → IsBodyOf (shown c.namespace.now) k m ts →
      Spares (shown c.namespace.now) k m (trees ts) values a.bound names log answer log_left) →
      WantsRightly c k values names log answer log_left
  wants_by answer a said did = record {
    are = λ b other m there ts body.
        let same : a ≡ b = cc in
        subst (λ (x : Accepted). Spares (shown c.namespace.now) k m (trees ts) values x.bound names log answer log_left) same
        (did m there ts body);
  }

  -- where one ends, it has gone no further than its steps take it
  pub untold : (o : Outcome) (e : NoMemory) → Answers c k values names log (Ok o) names_left log_left → Answers c k values names log (Err e) names_left log_left
  untold o e did = record {
    are = λ a said m there ts body around.
        body_untold (setting_in (shown c.namespace.now) around.bodies k m (trees ts)) (trees ts) values a.bound names log o e names_left log_left
        (did.are a said m there ts body around);
  }

  -- what is answered of an outcome says the same
  pub value_told : (answer : Result Outcome NoMemory) → Answers c k values names log answer names_left log_left →
      IfOk (value_answered answer) (λ value. IsDone c k values names log value names_left log_left)
  value_told (Ok (outcome.Done value)) did = did
  value_told (Ok (outcome.AmlError e)) did = tt
  value_told (Ok outcome.OutOfSteps) did = tt
  value_told (Err e) did = tt

  pub memory_told : (answer : Result Outcome NoMemory) → Answers c k values names log answer names_left log_left →
      OnErr (value_answered answer) (IsCutShort c k values names log names_left log_left)
  memory_told (Ok (outcome.Done value)) did = tt
  memory_told (Ok (outcome.AmlError e)) did = untold (outcome.AmlError e) (record {}) did
  memory_told (Ok outcome.OutOfSteps) did = untold outcome.OutOfSteps (record {}) did
  memory_told (Err e) did = did

  -- names are of the kinds that they were of
  pub kinds_stay : (a : Accepted) → IsReady c → verdict_at c.verdicts.items k ≡ Some (verdict.Accepted a) → (answer : Result Outcome NoMemory) →
      ((m : Method) → method_at (shown c.namespace.now) k ≡ Some m → (ts : List Tree) → IsBodyOf (shown c.namespace.now) k m ts →
      Evaluates (shown c.namespace.now) k m (trees ts) values a.bound names log answer names_left log_left) → names_left.kinds ≡ names.kinds
  kinds_stay a is said answer did =
      let m = method c is k a said in
      let b = body c is k a said m.0 m.1 in
      let around : Around (shown c.namespace.now) = around_there (shown c.namespace.now) in
      kinds_kept (setting_in (shown c.namespace.now) around.bodies k m.0 (trees b.0)) (trees b.0) values a.bound names log
      (calls_keep (methods_of (shown c.namespace.now) around.bodies) most_within) answer names_left log_left
      (did m.0 m.1 b.0 b.1 around)

  -- what is answered fits where it did before
  pub words_stay : (told : Told) (a : Accepted) → IsAccepted told c k a → (answer : Result Outcome NoMemory) → Answers c k values names log answer names_left log_left → AreWords names.kinds log.events → AreWords names_left.kinds log_left.events
  words_stay told a is answer did =
      let r = ready told c is.checked in
      let m = method c r k a is.said in
      let b = body c r k a is.said m.0 m.1 in
      (did.are a is.said m.0 m.1 b.0 b.1 (around_there (shown c.namespace.now))).words

  -- and what is told is done
  module _ (told : Told) (a : Accepted) (is : IsAccepted told c k a) (fits : AreOfKinds (shown c.namespace.now) (verdict_of c a) values names)
      (answers : AreAnswers (shown c.namespace.now) (verdict_of c a) log_left.events) where
    module _ (m : Method) (there : method_at (shown c.namespace.now) k ≡ Some m) (ts : List Tree) (body : IsBodyOf (shown c.namespace.now) k m ts) (around : Around (shown c.namespace.now)) where
      abbrev meant : ℕ → Out (Option Value)
      meant n = evaluated (setting_in (shown c.namespace.now) around.bodies k m (trees ts)) (trees ts) values log_left.events (before names n log)

      ends : EndsWell (shown c.namespace.now) (verdict_of c a) (meant a.bound)
      ends = ends_so told c k a is m there ts body around values names fits log log_left.events answers

      pub is_exact : (answer : Result Outcome NoMemory) → Answers c k values names log answer names_left log_left → Tells answer meant a.bound names_left log_left.events
      is_exact answer did = (did.are a is.said m there ts body around).tells log_left.events (prefix_refl log_left.events) (no_error (shown c.namespace.now) (verdict_of c a) (meant a.bound) ends)

      ends_as_told : (o : Outcome) → Answers c k values names log (Ok o) names_left log_left → IsDoneWell (shown c.namespace.now) (verdict_of c a) o names_left
      ends_as_told o did =
          let t = is_exact (Ok o) did in
          done_well (shown c.namespace.now) (verdict_of c a) o (meant a.bound) names_left log_left.events ends t.0 t.1

    pub is_done : (o : Outcome) → Answers c k values names log (Ok o) names_left log_left → IsDoneWell (shown c.namespace.now) (verdict_of c a) o names_left
    is_done o did =
        let r = ready told c is.checked in
        let m = method c r k a is.said in
        let b = body c r k a is.said m.0 m.1 in
        ends_as_told m.0 m.1 b.0 b.1 (around_there (shown c.namespace.now)) o did

module _ (c : Checked) (k : ℕ) (values : List Value) (names : Names) (log : Log) (names_left : Names) (log_left : Log) where
  -- where memory is wanted in a method that evaluates integers alone, the world refused
  refused : (e : NoMemory) → WantsRightly c k values names log (Err e) log_left → IsRefused c k values names log log_left
  refused e rightly told a is integers fits answers =
      let r = ready told c is.checked in
      let m = method c r k a is.said in
      let b = body c r k a is.said m.0 m.1 in
      let around : Around (shown c.namespace.now) = around_there (shown c.namespace.now) in
      refused_or (rightly.are a is.said m.0 m.1 b.0 b.1 around)
      (λ wants. (let idle = wants_nothing told c k a is m.0 m.1 b.0 b.1 around values names fits log log_left.events answers integers in
      let wanted = wants log_left.events (prefix_refl log_left.events) in
      let never : false ≡ true = sym idle ∙ wanted in absurd cc))
    where
      refused_or : {A B : Type 0} → A ⊎ B → (B → ⊥) → A
      refused_or (inl a) never = a
      refused_or (inr b) never = absurd (never b)

  pub refused_told : (answer : Result Outcome NoMemory) → Answers c k values names log answer names_left log_left → WantsRightly c k values names log answer log_left →
      OnErr (value_answered answer) (IsRefused c k values names log log_left)
  refused_told (Ok (outcome.Done value)) did rightly = tt
  refused_told (Ok (outcome.AmlError e)) did rightly = λ told a is integers fits answers. absurd (is_done c k values names log names_left log_left told a is fits answers (outcome.AmlError e) did)
  refused_told (Ok outcome.OutOfSteps) did rightly = λ told a is integers fits answers. absurd (is_done c k values names log names_left log_left told a is fits answers outcome.OutOfSteps did)
  refused_told (Err e) did rightly = refused e rightly

pub headline : Headline
headline = record {
  meaning = λ told c k a is m there ts body around values names fits log script answers.
      ends_so told c k a is m there ts body around values names fits log script answers;
  exact = λ told c k a is m there ts body around values names fits log answer names_left log_left answers did.
      is_exact c k values names log names_left log_left told a is fits answers m there ts body around answer did;
  answer = λ told c k a is values names fits log o names_left log_left answers did.
      is_done c k values names log names_left log_left told a is fits answers o did;
}
