-- The headline from tables on. What it asks of names is so of what the names of a loaded namespace
-- may hold, what it asks of arguments of those that a method takes, and what it asks of answers of
-- what worlds promise to leave at Sleeps. What kinds leave open has to be whole: bytes are bytes,
-- as all that a program holds, and integers are of the width where anything may stand.
use Rattle.std.specs.Prelude.{◌≡◌, ℕ, List, Some, Ok, slice_get, true}
use Rattle.aml_bodies.specs.Methods.{Around}
use Rattle.aml_contents.specs.Contents.{Contents, are_fitting}
use Rattle.aml_contents.specs.FirstContents.{first_kinds}
use Rattle.aml_interp.specs.Answers.{Answers}
use Rattle.aml_interp.specs.Headline.{AreAnswers, EndsWell, IsDoneWell, verdict_of}
use Rattle.aml_judged.specs.Judged as judged
use Rattle.aml_judged.specs.Safe.{AreBytes, FitAll, FitNames}
use Rattle.aml_known.specs.declared.accepted.Accepted.{Accepted}
use Rattle.aml_literal_laws.specs.Laws.{TablesAreBytes, first_names}
use Rattle.aml_literal_laws.specs.Whole.{AreWhole, AreWholeValues}
use Rattle.aml_meaning.specs.Methods.{setting_in}
use Rattle.aml_meaning.specs.State.{Names}
use Rattle.aml_meaning.specs.Whole.{before, evaluated}
use Rattle.aml_meaning.specs.declared.outcome.Outcome.{Outcome}
use Rattle.aml_methods.specs.Judgings.{Told}
use Rattle.aml_namespace.specs.Load.{IsLoaded, Shown}
use Rattle.aml_namespace.specs.Names.{IsBodyOf, method_at}
use Rattle.aml_namespace.specs.Shows.{shown}
use Rattle.aml_objects.specs.Widths.{bits_of}
use Rattle.aml_objects.specs.declared.object.Method.{Method}
use Rattle.aml_operators.specs.Tree.{Tree, trees}
use Rattle.aml_regions.specs.Events.{AreWords, Event, Log, Slept}
use Rattle.aml_shapes.specs.Numbers.{numbered}
use Rattle.aml_values.specs.Values.{Value}
use Rattle.aml_verify.specs.Accepts.{accepts_by}
use Rattle.aml_verify.specs.Said.{accepted_by, verdict_at}
use Rattle.aml_verify.specs.Verdicts.{IsChecked}
use Rattle.aml_verify.specs.declared.checked.Checked.{Checked}
use Rattle.aml_verify.specs.declared.verdict.Verdict.TheVariants as verdict

-- what a verified namespace shows
abbrev pub shown_by : Checked → Shown
shown_by c = shown c.namespace.now

-- a namespace whose methods were verified, and that such tables and such a text of `_OS_` were
-- loaded to
pub record IsFrom (tables : List (List ℕ)) (os : List ℕ) (told : Told) (c : Checked) : Type 0 where
  pub checked : IsChecked told c
  pub loaded : IsLoaded tables os (shown_by c)
  pub bytes : TablesAreBytes tables
  pub text : AreBytes os

-- names that belong to the namespace, as `Checked::names_fit` tells, each of which holds what its
-- kind lets it hold, as all names of a program do
pub record Holds (ns : Shown) (names : Names) : Type 0 where
  pub belong : names.kinds ≡ first_kinds ns
  pub fitting : are_fitting names.contents (first_kinds ns) ≡ true
  pub whole : AreWhole (bits_of ns.width) names.contents (first_kinds ns)

-- the verdict accepts the method with a number, and these values are arguments that it takes
pub record Takes (c : Checked) (k : ℕ) (a : Accepted) (values : List Value) : Type 0 where
  pub said : verdict_at c.verdicts.items k ≡ Some (verdict.Accepted a)
  pub taken :
      accepts_by (accepted_by (numbered c.shapes) (verdict_at c.verdicts.items k)) values ≡ true
  pub whole : AreWholeValues (bits_of (shown_by c).width) values (verdict_of c a).args

-- where a Sleep leaves contents, these are whole; over registers none leaves any
pub record LeavesWhole (ns : Shown) (script : List Event) : Type 0 where
  pub left :
      (i milliseconds : ℕ) (contents : Contents) →
      slice_get script i ≡ Some (Slept milliseconds (Some contents)) →
      AreWhole (bits_of ns.width) contents (first_kinds ns)

pub record BeginsWell (c : Checked) : Type 0 where
  -- names hold so before any evaluation
  pub first : Holds (shown_by c) (first_names (shown_by c))
  -- what they hold is as the headline asks, and so are arguments, and what Sleeps leave
  pub names :
      (names : Names) → Holds (shown_by c) names →
      FitNames (bits_of (shown_by c).width) (first_kinds (shown_by c)) names
  pub arguments :
      (k : ℕ) (a : Accepted) (values : List Value) → Takes c k a values →
      FitAll (bits_of (shown_by c).width) values (verdict_of c a).args
  pub answers :
      (a : judged.Accepted) (script : List Event) → AreWords (first_kinds (shown_by c)) script →
      LeavesWhole (shown_by c) script → AreAnswers (shown_by c) a script
  -- so the meaning of an accepted method ends well within its steps, whatever is answered
  pub meaning :
      (names : Names) → Holds (shown_by c) names →
      (k : ℕ) (a : Accepted) (values : List Value) → Takes c k a values →
      (m : Method) → method_at (shown_by c) k ≡ Some m →
      (ts : List Tree) → IsBodyOf (shown_by c) k m ts → (around : Around (shown_by c)) →
      (log : Log) (script : List Event) → AreWords (first_kinds (shown_by c)) script →
      LeavesWhole (shown_by c) script →
      EndsWell (shown_by c) (verdict_of c a)
      (evaluated (setting_in (shown_by c) around.bodies k m (trees ts)) (trees ts) values script
      (before names a.bound log))
  -- and an outcome that `evaluate` answers over a world is done, and names hold so again
  pub answer :
      (names : Names) → Holds (shown_by c) names →
      (k : ℕ) (a : Accepted) (values : List Value) → Takes c k a values →
      (log : Log) → AreWords (first_kinds (shown_by c)) log.events →
      (o : Outcome) (names_left : Names) (log_left : Log) →
      Answers c k values names log (Ok o) names_left log_left →
      names_left.kinds ≡ first_kinds (shown_by c) → LeavesWhole (shown_by c) log_left.events →
      IsDoneWell (shown_by c) (verdict_of c a) o names_left × Holds (shown_by c) names_left

abbrev pub FromTables : Type 0
FromTables =
    (tables : List (List ℕ)) (os : List ℕ) (told : Told) (c : Checked) →
    IsFrom tables os told c → BeginsWell c
