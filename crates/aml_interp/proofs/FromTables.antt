-- What tables say, what a method takes and what registers answer is as the headline asks.
use Rattle.std.proofs.Common.{Ok, ◌≡◌, ℕ, List, [], ◌∷◌, Option, Some, map, subst, sym, true, arith}
use Rattle.std.proofs.lemmas.Nat.{pow_pos}
use Rattle.std.proofs.lemmas.Bool.{and_parts}
use Rattle.aml_interp.proofs.Accepted.{args_told, method}
use Rattle.aml_interp.proofs.Answered.{headline, words_stay}
use Rattle.aml_interp.specs.Answers.{Answers}
use Rattle.aml_interp.specs.FromTables.{FromTables, Holds, IsFrom, LeavesWhole, Takes, shown_by}
use Rattle.aml_interp.specs.Headline.{AreAnswers, AreOfKinds, IsAccepted, IsDoneWell, verdict_of}
use Rattle.aml_judged.specs.Judged as judged
use Rattle.aml_judged.specs.Safe.{FitAll, FitNames}
use Rattle.aml_contents.specs.FirstContents.{first_kinds}
use Rattle.aml_kinds.specs.Fits.{fits}
use Rattle.aml_kinds.specs.Kinds.{Kind}
use Rattle.aml_known.specs.declared.accepted.Accepted.{Accepted}
use Rattle.aml_literal_laws.proofs.First.{first_names_fit, left_names_fit}
use Rattle.aml_literal_laws.proofs.Whole.{IsNarrow, all_whole, whole_word}
use Rattle.aml_literal_laws.specs.Laws.{TablesAreBytes, first_names}
use Rattle.aml_literal_laws.specs.Whole.{AreWholeValues}
use Rattle.aml_meaning.specs.State.{Names}
use Rattle.aml_meaning.specs.declared.outcome.Outcome.{Outcome}
use Rattle.aml_meaning.specs.declared.outcome.Outcome.TheVariants as outcome
use Rattle.aml_methods.specs.Judgings.{Told}
use Rattle.aml_namespace.specs.Load.{Shown}
use Rattle.aml_objects.specs.Widths.{bits_of}
use Rattle.aml_objects.specs.declared.width.Width.{Width}
use Rattle.aml_regions.specs.Events.{AreWords, Event, Log, Slept}
use Rattle.aml_shapes.specs.Numbers.{numbered}
use Rattle.aml_signatures.specs.ArgumentKinds.{cut_to, kind_of_argument}
use Rattle.aml_signatures.specs.declared.argument_kind.ArgumentKind.{ArgumentKind}
use Rattle.aml_signatures.specs.declared.argument_kind.ArgumentKind.TheVariants as argument
use Rattle.aml_values.specs.Values.{Value}
use Rattle.aml_verify.specs.Accepts.{accepts_by, all_fit}
use Rattle.aml_verify.specs.Said.{accepted_by, verdict_at}
use Rattle.aml_verify.specs.Verdicts.{IsChecked}
use Rattle.aml_verify.specs.declared.checked.Checked.{Checked}
use Rattle.aml_verify.specs.declared.verdict.Verdict.{Verdict}
use Rattle.aml_verify.specs.declared.verdict.Verdict.TheVariants as verdict

names_hold : (ns : Shown) (names : Names) → FitNames (bits_of ns.width) (first_kinds ns) names → Holds ns names
names_hold ns names fit = record {
  belong = fit.kinds_stay;
  fitting = fit.fitting;
  whole = all_whole (bits_of ns.width) names.contents (first_kinds ns) fit.words;
}

first_hold : (tables : List (List ℕ)) (os : List ℕ) (told : Told) (c : Checked) → IsFrom tables os told c → Holds (shown_by c) (first_names (shown_by c))
first_hold tables os told c from = names_hold (shown_by c) (first_names (shown_by c)) (first_names_fit tables os (shown_by c) from.loaded from.bytes from.text)

names_fit : (tables : List (List ℕ)) (os : List ℕ) (told : Told) (c : Checked) → IsFrom tables os told c → (names : Names) → Holds (shown_by c) names → FitNames (bits_of (shown_by c).width) (first_kinds (shown_by c)) names
names_fit tables os told c from names held =
    let fit = left_names_fit tables os (shown_by c) from.loaded from.bytes from.text names.contents held.fitting held.whole in
    record { kinds_stay = held.belong; fitting = fit.fitting; words = fit.words }

-- kinds of integers of the width
abbrev AreNarrowList : ℕ → List Kind → Type 0
AreNarrowList width [] = Unit {0}
AreNarrowList width (k ∷ ks) = IsNarrow width k × AreNarrowList width ks

kind_narrow : (width : Width) (k : ArgumentKind) → IsNarrow (bits_of width) (kind_of_argument width (cut_to width k))
kind_narrow width argument.Int = let some = pow_pos (bits_of width) in omega (arith, some)
kind_narrow width (argument.IntUpTo n) = let some = pow_pos (bits_of width) in omega (arith, some)
kind_narrow width (argument.Buf size) = tt
kind_narrow width (argument.Str size) = tt
kind_narrow width argument.Pkg = tt

kinds_narrow : (width : Width) (ks : List ArgumentKind) → AreNarrowList (bits_of width) (map (kind_of_argument width) (map (cut_to width) ks))
kinds_narrow width [] = tt
kinds_narrow width (k ∷ ks) = (kind_narrow width k, kinds_narrow width ks)

all_are : (width : ℕ) (values : List Value) (kinds : List Kind) → all_fit values kinds ≡ true → AreNarrowList width kinds → AreWholeValues width values kinds → FitAll width values kinds
all_are width [] [] e narrow whole = tt
all_are width [] (k ∷ ks) e narrow whole = absurd cc
all_are width (v ∷ vs) [] e narrow whole = absurd cc
all_are width (v ∷ vs) (k ∷ ks) e narrow whole =
    let parts = and_parts (fits v k) (all_fit vs ks) e in
    (record { fit = parts.0; word = whole_word width v k parts.0 narrow.0 whole.0 }, all_are width vs ks parts.1 narrow.1 whole.1)

args_narrow : (told : Told) (c : Checked) → IsChecked told c → (k : ℕ) (a : Accepted) → verdict_at c.verdicts.items k ≡ Some (verdict.Accepted a) → AreNarrowList (bits_of (shown_by c).width) (verdict_of c a).args
args_narrow told c checked k a said =
    let m = method told c k a checked said in
    subst (AreNarrowList (bits_of (shown_by c).width)) (sym (args_told told c k a checked said m.0 m.1)) (kinds_narrow (shown_by c).width _)

arguments_fit : (told : Told) (c : Checked) → IsChecked told c → (k : ℕ) (a : Accepted) (values : List Value) → Takes c k a values → FitAll (bits_of (shown_by c).width) values (verdict_of c a).args
arguments_fit told c checked k a values takes =
    all_are (bits_of (shown_by c).width) values (verdict_of c a).args (subst (λ (v : Option Verdict). accepts_by (accepted_by (numbered c.shapes) v) values ≡ true) takes.said takes.taken) (args_narrow told c checked k a takes.said) takes.whole

answers_fit : (tables : List (List ℕ)) (os : List ℕ) (told : Told) (c : Checked) → IsFrom tables os told c → (a : judged.Accepted) (script : List Event) → AreWords (first_kinds (shown_by c)) script → LeavesWhole (shown_by c) script → AreAnswers (shown_by c) a script
answers_fit tables os told c from a script words whole = record {
  left = λ i milliseconds contents is.
      left_names_fit tables os (shown_by c) from.loaded from.bytes from.text contents (words.each i (Slept milliseconds (Some contents)) is) (whole.left i milliseconds contents is);
}

module _ (tables : List (List ℕ)) (os : List ℕ) (told : Told) (c : Checked) (from : IsFrom tables os told c) (names : Names) (held : Holds (shown_by c) names) (k : ℕ) (a : Accepted) (values : List Value) (takes : Takes c k a values) where
  accepted : IsAccepted told c k a
  accepted = record {
    checked = from.checked;
    said = takes.said;
    bytes = subst TablesAreBytes (sym from.loaded.tables_are) from.bytes;
  }

  of_kinds : AreOfKinds (shown_by c) (verdict_of c a) values names
  of_kinds = record { arguments = arguments_fit told c from.checked k a values takes; names = names_fit tables os told c from names held }

  done_well : (o : Outcome) (names_left : Names) → IsDoneWell (shown_by c) (verdict_of c a) o names_left → IsDoneWell (shown_by c) (verdict_of c a) o names_left × Holds (shown_by c) names_left
  done_well (outcome.Done value) names_left well = (well, names_hold (shown_by c) names_left well.1)
  done_well (outcome.AmlError e) names_left well = absurd well
  done_well outcome.OutOfSteps names_left well = absurd well

  answered : (log : Log) → AreWords (first_kinds (shown_by c)) log.events → (o : Outcome) (names_left : Names) (log_left : Log) → Answers c k values names log (Ok o) names_left log_left → names_left.kinds ≡ first_kinds (shown_by c) → LeavesWhole (shown_by c) log_left.events → IsDoneWell (shown_by c) (verdict_of c a) o names_left × Holds (shown_by c) names_left
  answered log words o names_left log_left did stay whole =
      let before : AreWords names.kinds log.events = subst (λ kinds. AreWords kinds log.events) (sym held.belong) words in
      let behind : AreWords (first_kinds (shown_by c)) log_left.events = subst (λ kinds. AreWords kinds log_left.events) stay (words_stay c k values names log names_left log_left told a accepted (Ok o) did before) in
      done_well o names_left (headline.answer told c k a accepted values names of_kinds log o names_left log_left (answers_fit tables os told c from (verdict_of c a) log_left.events behind whole) did)

pub from_tables : FromTables
from_tables tables os told c from = record {
  first = first_hold tables os told c from;
  names = names_fit tables os told c from;
  arguments = arguments_fit told c from.checked;
  answers = answers_fit tables os told c from;
  meaning = λ names held k a values takes m there ts body around log script words whole.
      headline.meaning told c k a (accepted tables os told c from names held k a values takes) m there ts body around values names (of_kinds tables os told c from names held k a values takes) log script (answers_fit tables os told c from (verdict_of c a) script words whole);
  answer = λ names held k a values takes log words o names_left log_left did stay whole.
      answered tables os told c from names held k a values takes log words o names_left log_left did stay whole;
}
