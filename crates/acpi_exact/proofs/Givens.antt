-- What `resources` and `routing` have of objects is the meaning's, since an accepted method meets no error.
use Rattle.std.proofs.Common.{◌≡◌, ◌∙◌, ℕ, zero, suc, List, [], ◌∷◌, ◌++◌, Result, Ok, Err, Option, Some, None, ap, inl, inr, refl, subst, sym, true}
use Rattle.acpi_exact.proofs.Evals.{from_files, leave_both}
use Rattle.acpi_exact.specs.Givens.{AreMeantCrs, AreMeantPrt, AreMeantWith, IsMeantBy, IsMeantCrs, IsMeantFrom, ResourcesAreExact, RoutesAreExact}
use Rattle.acpi_listing.specs.Loading.{os_name}
use Rattle.acpi_objects.proofs.NoArguments.{takes_none}
use Rattle.acpi_objects.specs.Gives.{GivesBy, IsEvaluated, gives_value}
use Rattle.acpi_objects.specs.declared.given.Given.{Given}
use Rattle.acpi_resources.specs.Interrupts.{Links, crs_of_links}
use Rattle.acpi_resources.specs.declared.item.Item.{Item}
use Rattle.acpi_routing.proofs.Giving.{crs_gives}
use Rattle.acpi_routing.specs.Crs.{HasItemsBy, crs_of}
use Rattle.acpi_routing.specs.Links.{HaveItems}
use Rattle.acpi_routing.specs.Prt.{GivesPrt, GivesWith, devices_given}
use Rattle.acpi_routing.specs.declared.fault.LinkRefusal.{LinkRefusal}
use Rattle.acpi_routing.specs.declared.prt.Prt.{Prt}
use Rattle.acpi_verdicts.specs.Verdicts.{said_of}
use Rattle.aml_bodies.proofs.Around.{around_there}
use Rattle.aml_contents.specs.Contents.{Contents, ContentKinds}
use Rattle.aml_contents.specs.FirstContents.{first_kinds}
use Rattle.aml_interp.proofs.Accepted.{method, ready}
use Rattle.aml_interp.proofs.Answered.{headline}
use Rattle.aml_interp.proofs.FromTables.{from_tables}
use Rattle.aml_interp.proofs.Ready.{body}
use Rattle.aml_interp.specs.FromTables.{BeginsWell, Holds, IsFrom, LeavesWhole, Takes, shown_by}
use Rattle.aml_interp.specs.Headline.{AreAnswers, AreOfKinds, IsAccepted, verdict_of}
use Rattle.aml_known.specs.Views.{kinds_of}
use Rattle.aml_known.specs.declared.accepted.Accepted.{Accepted}
use Rattle.aml_known.specs.declared.known.Known.{Known}
use Rattle.aml_kinds.specs.Kinds.{Shape}
use Rattle.aml_literal_laws.specs.Laws.{TablesAreBytes, first_names}
use Rattle.aml_meaning.proofs.Runs.{prefix_refl, prefix_trans}
use Rattle.aml_meaning.specs.Runs.{IsPrefix}
use Rattle.aml_meaning.specs.State.{Names}
use Rattle.aml_meaning.specs.declared.outcome.Outcome.TheVariants.{Done}
use Rattle.aml_methods.specs.Judgings.{Told}
use Rattle.aml_namespace.specs.Load.{Shown}
use Rattle.aml_namespace.specs.Names.{IsBodyOf, method_at}
use Rattle.aml_objects.specs.Entries.{object_at}
use Rattle.aml_objects.specs.declared.object.Method.{Method}
use Rattle.aml_operators.specs.Tree.{Tree}
use Rattle.aml_paths.specs.declared.scope.ObjectId.{ObjectId}
use Rattle.aml_regions.specs.Events.{AreWords, Event, IsWord, Log, Notified, Read, Slept, Stalled, Written}
use Rattle.aml_registers.specs.Answers.{AreAnswered, LeaveNames}
use Rattle.aml_shapes.specs.Numbers.{numbered}
use Rattle.aml_verify.specs.Accepts.{accepts_by, all_fit, are_of, takes}
use Rattle.aml_verify.specs.Said.{accepted_by, verdict_at}
use Rattle.aml_verify.specs.declared.checked.Checked.{Checked}
use Rattle.aml_verify.specs.declared.verdict.Verdict.{Verdict}
use Rattle.aml_verify.specs.declared.verdict.Verdict.TheVariants as verdict

-- where no Sleep left contents, whether answers fit does not lie with the names' kinds
word_any : (kinds others : ContentKinds) (event : Event) → ((milliseconds : ℕ) (left : Contents) → event ≡ Slept milliseconds (Some left) → ⊥) → IsWord kinds event → IsWord others event
word_any kinds others (Read access value) none h = h
word_any kinds others (Written access value) none h = tt
word_any kinds others (Notified object value) none h = tt
word_any kinds others (Slept milliseconds (Some left)) none h = absurd (none milliseconds left refl)
word_any kinds others (Slept milliseconds None) none h = tt
word_any kinds others (Stalled microseconds) none h = tt

words_any : (kinds others : ContentKinds) (events : List Event) → LeaveNames events → AreWords kinds events → AreWords others events
words_any kinds others events none words = record {
  each = λ i event is. word_any kinds others event (λ milliseconds left e. none i milliseconds left (is ∙ ap (λ (it : Event). Some it) e)) (words.each i event is);
}

leave_front : (events more : List Event) → LeaveNames (events ++ more) → LeaveNames events
leave_front [] more h zero milliseconds left is = absurd cc
leave_front [] more h (suc i) milliseconds left is = absurd cc
leave_front (event ∷ events) more h zero milliseconds left is = h zero milliseconds left is
leave_front (event ∷ events) more h (suc i) milliseconds left is =
    leave_front events more (λ k n l e. h (suc k) n l e) i milliseconds left is

leave_before : (old new : List Event) → IsPrefix old new → LeaveNames new → LeaveNames old
leave_before old new grown h = leave_front old grown.growth (subst LeaveNames grown.is h)

none_fit : (shapes : ℕ → Shape) (ks : List Known) → are_of ks [] ≡ true → all_fit [] (kinds_of shapes ks) ≡ true
none_fit shapes [] e = refl
none_fit shapes (k ∷ ks) e = absurd cc

same_prefix : (old new : Log) → new ≡ old → IsPrefix old.events new.events
same_prefix old new same = subst (λ (log : Log). IsPrefix old.events log.events) (sym same) (prefix_refl old.events)

module _ (tables : List (List ℕ)) (told : Told) (c : Checked) (from : IsFrom tables os_name told c) where
  abbrev ns : Shown
  ns = shown_by c

  begins : BeginsWell c
  begins = from_tables tables os_name told c from

  -- names hold what their kinds let them hold, and answers so far fit
  record Stands (names : Names) (log : Log) : Type 0 where
    pub holds : Holds ns names
    pub words : AreWords (first_kinds ns) log.events

  -- one evaluation of an accepted method without arguments
  module _ (k : ℕ) (a : Accepted) (said : verdict_at c.verdicts.items k ≡ Some (verdict.Accepted a)) (gives : gives_value (object_at ns.entries k) ≡ true) where
    found : (m : Method) × (method_at ns k ≡ Some m)
    found = method told c k a from.checked said

    tree : (ts : List Tree) × IsBodyOf ns k found.0 ts
    tree = body c (ready told c from.checked) k a said found.0 found.1

    accepted : IsAccepted told c k a
    accepted = record { checked = from.checked; said = said; bytes = subst TablesAreBytes (sym from.loaded.tables_are) from.bytes }

    taken : all_fit [] (kinds_of (numbered c.shapes) a.args.items) ≡ true
    taken = none_fit (numbered c.shapes) a.args.items (subst (λ (o : Option Verdict). takes o [] ≡ true) said (takes_none told c from.checked k a said gives))

    takes_them : Takes c k a []
    takes_them = record {
      said = said;
      taken = ap (λ (o : Option Verdict). accepts_by (accepted_by (numbered c.shapes) o) []) said ∙ taken;
      whole = tt;
    }

    module _ (g : Given) (names : Names) (log : Log) (names_left : Names) (log_left : Log) (did : IsEvaluated c k g names log names_left log_left) where
      grown : IsPrefix log.events log_left.events
      grown = (did.done.are a said found.0 found.1 tree.0 tree.1 (around_there ns)).grows

      module _ (stands : Stands names log) (none : LeaveNames log_left.events) where
        of_kinds : AreOfKinds ns (verdict_of c a) [] names
        of_kinds = record { arguments = begins.arguments k a [] takes_them; names = begins.names names stands.holds }

        words_left : AreWords (first_kinds ns) log_left.events
        words_left =
            words_any names_left.kinds (first_kinds ns) log_left.events none
            ((did.done.are a said found.0 found.1 tree.0 tree.1 (around_there ns)).words
            (subst (λ kinds. AreWords kinds log.events) (sym stands.holds.belong) stands.words))

        whole : LeavesWhole ns log_left.events
        whole = record { left = λ i milliseconds left is. absurd (none i milliseconds left is) }

        fits : AreAnswers ns (verdict_of c a) log_left.events
        fits = begins.answers (verdict_of c a) log_left.events words_left whole

        is_meant : IsMeantFrom c k a g names log names_left log_left
        is_meant = record {
          method = found.0;
          there = found.1;
          body = tree.0;
          read = tree.1;
          value = did.value;
          given = did.given;
          tells = λ around. headline.exact told c k a accepted found.0 found.1 tree.0 tree.1 around [] names of_kinds log (Ok (Done did.value)) names_left log_left fits did.done;
        }

        stands_left : Stands names_left log_left
        stands_left =
            let well = headline.answer told c k a accepted [] names of_kinds log (Done did.value) names_left log_left fits did.done in
            record {
              holds = (begins.answer names stands.holds k a [] takes_them log stands.words (Done did.value) names_left log_left did.done well.1.kinds_stay whole).1;
              words = words_left;
            }

  -- what an object gives, by what is said of it
  module _ (k : ℕ) (gives : gives_value (object_at ns.entries k) ≡ true) (g : Given) (names : Names) (log : Log) (names_left : Names) (log_left : Log) where
    grows : (said : Option Verdict) → said_of c k ≡ said → GivesBy c k said g names log names_left log_left → IsPrefix log.events log_left.events
    grows None is h = same_prefix log log_left h.2
    grows (Some (verdict.Accepted a)) is h = grown k a is gives g names log names_left log_left h
    grows (Some (verdict.Refused cause at)) is h = same_prefix log log_left h.2
    grows (Some (verdict.Unreadable at refusal)) is h = same_prefix log log_left h.2

    unchanged : names_left ≡ names → log_left ≡ log → Stands names log → Stands names_left log_left
    unchanged same_names same_log stands =
        subst (λ (n : Names). Stands n log_left) (sym same_names) (subst (λ (l : Log). Stands names l) (sym same_log) stands)

    meant : (said : Option Verdict) → said_of c k ≡ said → GivesBy c k said g names log names_left log_left → Stands names log → LeaveNames log_left.events →
        IsMeantBy c k said g names log names_left log_left × Stands names_left log_left
    meant None is h stands none = (tt, unchanged h.1 h.2 stands)
    meant (Some (verdict.Accepted a)) is h stands none =
        (is_meant k a is gives g names log names_left log_left h stands none, stands_left k a is gives g names log names_left log_left h stands none)
    meant (Some (verdict.Refused cause at)) is h stands none = (tt, unchanged h.1 h.2 stands)
    meant (Some (verdict.Unreadable at refusal)) is h stands none = (tt, unchanged h.1 h.2 stands)

  -- the _CRS of a device
  module _ (device : ObjectId) (r : Result (Option (List Item)) LinkRefusal) (names : Names) (log : Log) (names_left : Names) (log_left : Log) where
    crs_grows : (crs : Option ℕ) → crs_of ns device.0 ≡ crs → HasItemsBy c device crs r names log names_left log_left → IsPrefix log.events log_left.events
    crs_grows (Some crs) is h = grows crs (crs_gives ns device.0 crs is) h.0 names log names_left log_left (said_of c crs) refl h.1
    crs_grows None is h = same_prefix log log_left h.2

    crs_meant : (crs : Option ℕ) → crs_of ns device.0 ≡ crs → (h : HasItemsBy c device crs r names log names_left log_left) → Stands names log → LeaveNames log_left.events →
        IsMeantCrs c device crs r names log names_left log_left h × Stands names_left log_left
    crs_meant (Some crs) is h stands none = meant crs (crs_gives ns device.0 crs is) h.0 names log names_left log_left (said_of c crs) refl h.1 stands none
    crs_meant None is h stands none =
        (tt, subst (λ (n : Names). Stands n log_left) (sym h.1) (subst (λ (l : Log). Stands names l) (sym h.2) stands))

  all_grow : (devices : List ObjectId) (r : Result Links LinkRefusal) (names : Names) (log : Log) (names_left : Names) (log_left : Log) →
      HaveItems c devices r names log names_left log_left → IsPrefix log.events log_left.events
  all_grow [] r names log names_left log_left h = same_prefix log log_left h.2
  all_grow (device ∷ devices) r names log names_left log_left (inl h) =
      prefix_trans log.events h.2.events log_left.events (crs_grows device (Ok h.0) names log h.1 h.2 (crs_of ns device.0) refl h.4)
      (all_grow devices h.3 h.1 h.2 names_left log_left h.5)
  all_grow (device ∷ devices) r names log names_left log_left (inr h) = crs_grows device (Err h.0) names log names_left log_left (crs_of ns device.0) refl h.1

  all_meant : (devices : List ObjectId) (r : Result Links LinkRefusal) (names : Names) (log : Log) (names_left : Names) (log_left : Log) →
      (h : HaveItems c devices r names log names_left log_left) → Stands names log → LeaveNames log_left.events → AreMeantCrs c devices r names log names_left log_left h
  all_meant [] r names log names_left log_left h stands none = tt
  all_meant (device ∷ devices) r names log names_left log_left (inl h) stands none =
      let rest = all_grow devices h.3 h.1 h.2 names_left log_left h.5 in
      let first = crs_meant device (Ok h.0) names log h.1 h.2 (crs_of ns device.0) refl h.4 stands (leave_before h.2.events log_left.events rest none) in
      (first.0, all_meant devices h.3 h.1 h.2 names_left log_left h.5 first.1 none)
  all_meant (device ∷ devices) r names log names_left log_left (inr h) stands none =
      (crs_meant device (Err h.0) names log names_left log_left (crs_of ns device.0) refl h.1 stands none).0

  -- an object, and the links that it names
  module _ (k : ℕ) (gives : gives_value (object_at ns.entries k) ≡ true) (names : Names) (log : Log) (names_left : Names) (log_left : Log) where
    with_grows : (g : Given) (links : Result Links LinkRefusal) → GivesWith c k g links names log names_left log_left → IsPrefix log.events log_left.events
    with_grows g links h =
        prefix_trans log.events h.1.events log_left.events (grows k gives g names log h.0 h.1 (said_of c k) refl h.2)
        (all_grow (devices_given g) links h.0 h.1 names_left log_left h.3)

    with_meant : (g : Given) (links : Result Links LinkRefusal) → (h : GivesWith c k g links names log names_left log_left) → Stands names log → LeaveNames log_left.events →
        AreMeantWith c k g links names log names_left log_left h
    with_meant g links h stands none =
        let rest = all_grow (devices_given g) links h.0 h.1 names_left log_left h.3 in
        let first = meant k gives g names log h.0 h.1 (said_of c k) refl h.2 stands (leave_before h.1.events log_left.events rest none) in
        (first.0, all_meant (devices_given g) links h.0 h.1 names_left log_left h.3 first.1 none)

    prt_grows : (r : Result Prt LinkRefusal) → GivesPrt c k r names log names_left log_left → IsPrefix log.events log_left.events
    prt_grows (Ok prt) h = with_grows prt.given (Ok (crs_of_links prt.links.items)) h
    prt_grows (Err refusal) h = with_grows h.0 (Err refusal) h.1

    prt_meant : (r : Result Prt LinkRefusal) → (h : GivesPrt c k r names log names_left log_left) → Stands names log → LeaveNames log_left.events → AreMeantPrt c k r names log names_left log_left h
    prt_meant (Ok prt) h stands none = with_meant prt.given (Ok (crs_of_links prt.links.items)) h stands none
    prt_meant (Err refusal) h stands none = with_meant h.0 (Err refusal) h.1 stands none

  -- what was answered since then left no contents either
  none_left : (bytes : ℕ → ℕ → ℕ) (old new : List Event) → LeaveNames old → ((events : List Event) → new ≡ old ++ events → AreAnswered bytes events) → IsPrefix old new → LeaveNames new
  none_left bytes old new left answered grown = subst LeaveNames (sym grown.is) (leave_both old grown.growth left (answered grown.growth grown.is).1)

pub resources_are_exact : ResourcesAreExact
resources_are_exact interfaces tables told c from id gives bytes g over =
    let is = from_files interfaces tables told c from in
    let first = first_names (shown_by c) in
    let grown = grows tables told c is id gives g first over.before over.names over.log (said_of c id) refl over.gives in
    let none = none_left tables told c is bytes over.before.events over.log.events over.still.left over.answered grown in
    (meant tables told c is id gives g first over.before over.names over.log (said_of c id) refl over.gives
    (record { holds = (begins tables told c is).first; words = over.still.words }) none).0

pub routes_are_exact : RoutesAreExact
routes_are_exact interfaces tables told c from id gives bytes r over =
    let is = from_files interfaces tables told c from in
    let first = first_names (shown_by c) in
    let grown = prt_grows tables told c is id gives first over.before over.names over.log r over.gives in
    let none = none_left tables told c is bytes over.before.events over.log.events over.still.left over.answered grown in
    prt_meant tables told c is id gives first over.before over.names over.log r over.gives
    (record { holds = (begins tables told c is).first; words = over.still.words }) none
