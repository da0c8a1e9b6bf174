-- What is said of a body that was judged is its method's verdict.
use Rattle.std.proofs.Common.{◌≡◌, ℕ, List, [], map, slice_get, Option, Some, None, Ok, Err, refl, sym, ap, subst, ◌∙◌, arith}
use Rattle.std.specs.Prelude.{◌&&◌, Bool, false}
use Rattle.aml_contents.specs.Contents.{ContentKinds}
use Rattle.aml_integers.proofs.Order.{refused_is_not}
use Rattle.aml_integers.specs.Known.{IsAround, marked}
use Rattle.aml_integers.specs.Laws.{decided}
use Rattle.aml_judged.specs.Integers.{are_integers, integer_only_by, integers_in}
use Rattle.aml_components.specs.declared.components.Components.{Components}
use Rattle.aml_components.specs.Heights.{is_short_in}
use Rattle.aml_components.specs.declared.heights.Heights.{Heights}
use Rattle.aml_calls.specs.Chains.{is_short}
use Rattle.aml_judged.specs.Bodies.{entry, judged_method}
use Rattle.aml_causes.specs.declared.cause.Refusal.{Refusal}
use Rattle.aml_judged.specs.Causes as cause
use Rattle.aml_judged.specs.Judged as judged
use Rattle.aml_judged.specs.Judged.{Around}
use Rattle.aml_judged.specs.Verdicts as judgement
use Rattle.aml_judged.specs.Verdicts.{AreAccepted, around_for, called_from, Judging, verdict_by, verdict_of}
use Rattle.aml_kinds.specs.Kinds.{Kind, Shape}
use Rattle.aml_known.specs.Views.{accepted_of}
use Rattle.aml_known.specs.declared.known.Known.{Known}
use Rattle.aml_known.specs.declared.accepted.Accepted.{Accepted}
use Rattle.aml_known.specs.declared.stop.Stop.{Stop}
use Rattle.aml_known.specs.declared.stop.Stop.TheVariants as stop
use Rattle.aml_judging.specs.Follows.{IsVerdict}
use Rattle.aml_findings.specs.declared.finding.Finding.{Finding}
use Rattle.aml_meaning.specs.declared.buffer_field.BufferField.{BufferField}
use Rattle.aml_meaning.specs.Methods.{callee_of}
use Rattle.aml_meaning.specs.Within.{Callee, Methods}
use Rattle.aml_methods.proofs.Judgings.{callee_there, no_callee}
use Rattle.aml_methods.specs.Judgings.{arguments_of, IsJudging, Told}
use Rattle.aml_objects.specs.declared.object.Method.{Method}
use Rattle.aml_namespace.specs.Load.{Shown}
use Rattle.aml_namespace.specs.Names.{body_bytes, method_at, ReadsBodyOf}
use Rattle.aml_operators.specs.declared.term.Term.{Term}
use Rattle.aml_operators.specs.Tree.{Tree, view, views}
use Rattle.aml_own_names.specs.OwnNames.{own_names}
use Rattle.aml_own_names.specs.declared.own_names.OwnName.{OwnName}
use Rattle.aml_shapes.specs.Numbers.{numbered}
use Rattle.aml_tree.specs.declared.fault.Refusal as tree
use Rattle.aml_tree.specs.declared.fault.TreeFault.{TreeFault}
use Rattle.aml_tree.specs.declared.fault.TreeFault.TheVariants as unread
use Rattle.aml_verify.proofs.Seeing.{body_seen, judged_seen, known_said}
use Rattle.aml_verify.proofs.Stepping.{callee_same}
use Rattle.aml_verify.specs.Bodies.{around_by, callee_by}
use Rattle.aml_verify.specs.Said.{accepted_by}
use Rattle.aml_verify.specs.Verdicts.{IsAtWork, IsRead, Says}
use Rattle.aml_verify.specs.declared.verdict.Verdict.{Verdict}
use Rattle.aml_verify.specs.declared.verdict.Verdict.TheVariants as verdict

module _ (ns : Shown) (told : Told) (shapes : List Shape) (shared : List (Option Known)) (heights : Heights) (components : Components) (order : List ℕ) (judged_so_far : ℕ) (verdicts : List (Option Verdict)) (is : IsAtWork ns told shapes shared heights components order judged_so_far verdicts) (k : ℕ) (m : Method) (at : slice_get order judged_so_far ≡ Some k) (there : method_at ns k ≡ Some m) (body : List Term) (read : IsRead ns k m (map view body)) (bytes : List ℕ) (bytes_are : bytes ≡ body_bytes ns m) (owns : List OwnName) (owns_are : owns ≡ own_names bytes (map view body)) (held : List (Option Known)) (none_held : held ≡ []) (fields : List (Option BufferField)) (no_fields : fields ≡ []) where
  abbrev callee : Callee
  callee = callee_of ns k m (views body)

  abbrev here : Around
  here = around_by ns shapes shared (callee_by shapes heights components verdicts k) k m.table bytes owns held fields

  module _ (all : Judging) (j : IsJudging ns told all) (known : ℕ → Option judged.Accepted) (a : AreAccepted all known) where
    is_callee : all.methods.callee k ≡ Some callee
    is_callee = callee_there ns told all j k m (map view body) there read.is

    around_same : record (around_for all known k callee) { callee = callee_by shapes heights components verdicts k } ≡ here
    around_same = body_seen ns told all j known a shapes shared (callee_by shapes heights components verdicts k) k m (map view body) m.table bytes owns held fields refl bytes_are owns_are is.shared_are none_held no_fields

    is_verdict : (short : Bool) (kinds : List Kind) → short ≡ is_short_in heights 64 k → kinds ≡ arguments_of ns told k m → verdict_by all known k (all.methods.callee k) ≡ Some (verdict_of short (record { table = m.table; at = m.at; why = cause.BoundTooLarge }) kinds (judged_method here m.at (views body) (entry kinds)))
    is_verdict short kinds s args =
        let method = judged_seen ns told all j known a k callee (callee_by shapes heights components verdicts k) is_callee (λ i called. callee_same ns told shapes shared heights components order judged_so_far verdicts is all j known a k i at called) in
        let kinds_are : all.args k ≡ kinds = j.args k m there ∙ sym args in
        let short_is : is_short (called_from all) 64 k ≡ short = sym ((is.calls all j).short 64 k (omega arith)) ∙ sym s in
        ap (verdict_by all known k) is_callee
        ∙ ap (λ judged. Some (verdict_of (is_short (called_from all) 64 k) (record { table = m.table; at = m.at; why = cause.BoundTooLarge }) (all.args k) judged)) (method (entry (all.args k)) ∙ ap (λ around. judged_method around m.at (views body) (entry (all.args k))) around_same)
        ∙ (λ i. Some (verdict_of (short_is i) (record { table = m.table; at = m.at; why = cause.BoundTooLarge }) (kinds_are i) (judged_method here m.at (views body) (entry (kinds_are i)))))

  abbrev Verdict_by : Bool → List Kind → judgement.Verdict
  Verdict_by short kinds = verdict_of short (record { table = m.table; at = m.at; why = cause.BoundTooLarge }) kinds (judged_method here m.at (views body) (entry kinds))

  abbrev SaysRight : Verdict → Type 0
  SaysRight said = (all : Judging) → IsJudging ns told all → (known : ℕ → Option judged.Accepted) → AreAccepted all known → Says ns (numbered shapes) k m said (verdict_by all known k (all.methods.callee k))

  -- an answer of the judgement says what the verdict is
  pub accepted_said : (short : Bool) (kinds : List Kind) (x : Accepted) → short ≡ is_short_in heights 64 k → kinds ≡ arguments_of ns told k m → IsVerdict (numbered shapes) (Verdict_by short kinds) (Ok x) → SaysRight (verdict.Accepted x)
  accepted_said short kinds x s args is_v all j known a = is_verdict all j known a short kinds s args ∙ ap Some is_v

  pub refused_said : (short : Bool) (kinds : List Kind) (r : Refusal) (finding : Finding) → short ≡ is_short_in heights 64 k → kinds ≡ arguments_of ns told k m → IsVerdict (numbered shapes) (Verdict_by short kinds) (Err (stop.Refused r)) → SaysRight (verdict.Refused r finding)
  refused_said short kinds r finding s args is_v all j known a = is_verdict all j known a short kinds s args ∙ ap Some is_v

  -- a method that is accepted is marked as is decided of it
  pub accepted_marked : (only others : List Bool) (kinds : List Kind) (x : Accepted) (alone : Bool) → SaysRight (verdict.Accepted x) → kinds ≡ arguments_of ns told k m → others ≡ only
      → ((methods : Methods) (c : Callee) → IsAround here methods c → alone ≡ (are_integers kinds && integers_in methods c here.kinds.shared (marked others) (views body)))
      → (all : Judging) → IsJudging ns told all → (known : ℕ → Option judged.Accepted) → AreAccepted all known → alone ≡ decided all known (marked only) k
  accepted_marked only others kinds x alone says args marks_are is_alone all j known a =
      let known_is : known k ≡ Some (accepted_of (numbered shapes) x) = a.each k ∙ ap judgement.accepted_of (says all j known a) in
      let same = around_same all j known a in
      let around : IsAround here all.methods callee = record {
        width = ap (λ (x : Around). x.width) (sym same);
        field = λ i. ap (λ (x : Around). x.field i) (sym same);
        buffer_field = λ i. ap (λ (x : Around). x.buffer_field i) (sym same);
        link = λ at. ap (λ (x : Around). x.link at) (sym same);
      } in
      let kinds_are : kinds ≡ all.args k = args ∙ sym (j.args k m there) in
      let shared_is : here.kinds.shared ≡ all.kinds = ap (λ (x : Around). x.kinds.shared) (sym same) in
      is_alone all.methods callee around
      ∙ ap (λ (ks : List Kind). are_integers ks && integers_in all.methods callee here.kinds.shared (marked others) (views body)) kinds_are
      ∙ ap (λ (ks : ContentKinds). are_integers (all.args k) && integers_in all.methods callee ks (marked others) (views body)) shared_is
      ∙ ap (λ (ms : List Bool). are_integers (all.args k) && integers_in all.methods callee all.kinds (marked ms) (views body)) marks_are
      ∙ sym (ap (λ (o : Option judged.Accepted). integer_only_by all (marked only) k o (all.methods.callee k)) known_is
      ∙ ap (λ (o : Option Callee). integer_only_by all (marked only) k (Some (accepted_of (numbered shapes) x)) o) (is_callee all j known a))

-- a method that is not accepted is not marked
pub refused_marked : (ns : Shown) (told : Told) (shapes : ℕ → Shape) (k : ℕ) (m : Method) (v : Verdict) (only : List Bool) → method_at ns k ≡ Some m → accepted_by shapes (Some v) ≡ None
    → ((all : Judging) → IsJudging ns told all → (known : ℕ → Option judged.Accepted) → AreAccepted all known → Says ns shapes k m v (verdict_by all known k (all.methods.callee k)))
    → (all : Judging) → IsJudging ns told all → (known : ℕ → Option judged.Accepted) → AreAccepted all known → false ≡ decided all known (marked only) k
refused_marked ns told shapes k m v only there refused says all j known a =
    sym (refused_is_not all known (marked only) k (known_said ns told all j known a shapes k m v there (says all j known a) ∙ refused))

-- nor is what is no method
pub nothing_marked : (ns : Shown) (told : Told) (k : ℕ) (only : List Bool) → method_at ns k ≡ None
    → (all : Judging) → IsJudging ns told all → (known : ℕ → Option judged.Accepted) → AreAccepted all known → false ≡ decided all known (marked only) k
nothing_marked ns told k only none all j known a =
    sym (refused_is_not all known (marked only) k (a.each k ∙ ap (λ o. judgement.accepted_of (verdict_by all known k o)) (no_callee ns told all j k none)))

pub is_read : (ns : Shown) (k : ℕ) (m : Method) (ts : List Tree) → ReadsBodyOf ns k m (Ok ts) → IsRead ns k m ts
is_read ns k m ts h = record { is = h }

-- what the code holds is what a verifier has
pub still_at_work : (ns : Shown) (told : Told) (shapes : List Shape) (shared others : List (Option Known)) (heights : Heights) (components : Components) (order : List ℕ) (judged_so_far : ℕ) (verdicts more : List (Option Verdict)) → others ≡ shared → more ≡ verdicts → IsAtWork ns told shapes shared heights components order judged_so_far verdicts → IsAtWork ns told shapes others heights components order judged_so_far more
still_at_work ns told shapes shared others heights components order judged_so_far verdicts more a b is =
    subst (λ s. IsAtWork ns told shapes s heights components order judged_so_far more) (sym a)
    (subst (λ vs. IsAtWork ns told shapes shared heights components order judged_so_far vs) (sym b) is)

-- a body that cannot be read
pub unread_said : (ns : Shown) (told : Told) (shapes : ℕ → Shape) (k : ℕ) (m : Method) (f : TreeFault) (r : tree.Refusal) → f ≡ unread.Refused r → ReadsBodyOf ns k m (Err f) → (all : Judging) → IsJudging ns told all → (known : ℕ → Option judged.Accepted) → AreAccepted all known → Says ns shapes k m (verdict.Unreadable m.table r) (verdict_by all known k (all.methods.callee k))
unread_said ns told shapes k m f r e h all j known a = (refl, subst (λ x. ReadsBodyOf ns k m (Err x)) e h)

pub is_refused : (shapes : ℕ → Shape) (v : judgement.Verdict) (f : Stop) (r : Refusal) → f ≡ stop.Refused r → IsVerdict shapes v (Err f) → IsVerdict shapes v (Err (stop.Refused r))
is_refused shapes v f r e h = subst (λ x. IsVerdict shapes v (Err x)) e h
