-- What `eval` answers of an accepted method is the meaning's, since that meets no error.
use Rattle.std.proofs.Common.{◌≡◌, ◌∙◌, ℕ, zero, suc, List, [], ◌∷◌, ◌++◌, Option, ap, rules, subst, sym, true}
use Rattle.acpi_exact.proofs.Listed.{listed_whole}
use Rattle.aml_literal_laws.specs.Laws.{first_names}
use Rattle.acpi_exact.specs.Evals.{ComesFrom, EvalsAreExact, IsAsked}
use Rattle.acpi_listing.specs.Loading.{os_name}
use Rattle.aml_interp.proofs.Accepted.{args_told}
use Rattle.aml_interp.proofs.Ends.{no_error}
use Rattle.aml_interp.proofs.FromTables.{from_tables}
use Rattle.aml_interp.specs.FromTables.{BeginsWell, IsFrom, LeavesWhole, Takes, shown_by}
use Rattle.aml_interp.specs.Headline.{verdict_of}
use Rattle.aml_judged.specs.Safe.{AreBytes}
use Rattle.aml_known.specs.declared.accepted.Accepted.{Accepted}
use Rattle.aml_literal_laws.specs.Whole.{AreWholeValues}
use Rattle.aml_meaning.proofs.Runs.{prefix_refl}
use Rattle.aml_methods.specs.Judgings.{Told, arguments_of}
use Rattle.aml_objects.specs.Widths.{bits_of}
use Rattle.aml_namespace.specs.Load.{Shown}
use Rattle.aml_objects.specs.declared.object.Method.{Method}
use Rattle.aml_regions.specs.Events.{AreWords, Event}
use Rattle.aml_registers.specs.Answers.{LeaveNames}
use Rattle.aml_shapes.specs.Numbers.{numbered}
use Rattle.aml_values.specs.Values.{Value}
use Rattle.aml_verify.specs.Accepts.{accepts_by, all_fit}
use Rattle.aml_verify.specs.Said.{accepted_by}
use Rattle.aml_verify.specs.declared.checked.Checked.{Checked}

-- what `_OS_` tells are bytes
os_bytes : AreBytes os_name
os_bytes = search rules

pub leave_both : (events more : List Event) → LeaveNames events → LeaveNames more → LeaveNames (events ++ more)
leave_both [] more h g i milliseconds left is = g i milliseconds left is
leave_both (event ∷ events) more h g zero milliseconds left is = h zero milliseconds left is
leave_both (event ∷ events) more h g (suc i) milliseconds left is =
    leave_both events more (λ k n l e. h (suc k) n l e) g i milliseconds left is

-- so what was loaded for a command was loaded from tables
pub from_files : (interfaces tables : List (List ℕ)) (told : Told) (checked : Checked) → ComesFrom interfaces tables told checked → IsFrom tables os_name told checked
from_files interfaces tables told checked from = record { checked = from.verdicts; loaded = from.namespace.0; bytes = from.bytes; text = os_bytes }

module _ (interfaces tables : List (List ℕ)) (args : Option (List ℕ)) (told : Told) (checked : Checked) (id : ℕ) (m : Method) (a : Accepted) (arguments : List Value) (asked : IsAsked interfaces tables args told checked id m a arguments) where
  abbrev ns : Shown
  ns = shown_by checked

  begins : BeginsWell checked
  begins = from_tables tables os_name told checked (from_files interfaces tables told checked asked.from)

  kinds_are : (verdict_of checked a).args ≡ arguments_of ns told id m
  kinds_are = args_told told checked id a asked.from.verdicts asked.said m asked.there

  whole : AreWholeValues (bits_of ns.width) arguments (verdict_of checked a).args
  whole =
      subst (AreWholeValues (bits_of ns.width) arguments) (sym kinds_are)
      (listed_whole ns.width args arguments _ asked.listed (subst (λ kinds. all_fit arguments kinds ≡ true) kinds_are asked.taken))

  takes : Takes checked id a arguments
  takes = record {
    said = asked.said;
    taken = ap (λ o. accepts_by (accepted_by (numbered checked.shapes) o) arguments) asked.said ∙ asked.taken;
    whole = whole;
  }

pub evals_are_exact : EvalsAreExact
evals_are_exact interfaces tables args told checked id m a arguments asked bytes outcome events done =
    let meant = done.meant in
    record {
      body = done.body;
      read = done.read;
      names = meant.names;
      log = meant.before;
      still = meant.still;
      tells = λ around. (
          let answers = meant.answers around in
          let words = subst (λ kinds. AreWords kinds (meant.before.events ++ events)) meant.kinds (answers.words meant.still.words) in
          let none_left = leave_both meant.before.events events meant.still.left meant.answered.1 in
          let whole : LeavesWhole (shown_by checked) (meant.before.events ++ events) = record { left = λ i milliseconds left is. absurd (none_left i milliseconds left is) } in
          let begin = begins interfaces tables args told checked id m a arguments asked in
          let ends = begin.meaning (first_names (shown_by checked)) begin.first id a arguments (takes interfaces tables args told checked id m a arguments asked) m asked.there done.body done.read around meant.before (meant.before.events ++ events) words whole in
          answers.tells (meant.before.events ++ events) (prefix_refl (meant.before.events ++ events)) (no_error (shown_by checked) (verdict_of checked a) _ ends));
    }
