-- A body is judged by what the definition sees.
use Rattle.std.proofs.Common.{◌≡◌, ℕ, List, [], Option, Some, refl, sym, ap, subst, ◌∙◌}
use Rattle.std.specs.Prelude.{Bool, true, false, if◌then◌else◌}
use Rattle.aml_calls.specs.Chains.{is_among, TellsReach}
use Rattle.aml_contents.specs.BodyData.{body_data}
use Rattle.aml_contents.specs.FirstContents.{first_kinds}
use Rattle.aml_judged.specs.Bodies.{judged_method}
use Rattle.aml_judged.specs.Judged as judged
use Rattle.aml_judged.specs.Judged.{Around, Seen}
use Rattle.aml_judged.specs.Known.{Env}
use Rattle.aml_judged.specs.Verdicts.{accepted_of, AreAccepted, around_for, called_from, calls_by, Judging, seen_from, verdict_by}
use Rattle.aml_judged.proofs.Seen.{method_same}
use Rattle.aml_known.specs.declared.known.Known.{Known}
use Rattle.aml_kinds.specs.Kinds.{Shape}
use Rattle.aml_meaning.specs.declared.buffer_field.BufferField.{BufferField}
use Rattle.aml_meaning.specs.Methods.{callee_of, is_lone, listed}
use Rattle.aml_meaning.specs.Within.{Callee}
use Rattle.aml_methods.proofs.Judgings.{listed_trees, unread}
use Rattle.aml_methods.specs.Judgings.{IsJudging, Told}
use Rattle.aml_objects.specs.declared.object.Method.{Method}
use Rattle.aml_namespace.specs.Load.{Shown}
use Rattle.aml_namespace.specs.Names.{body_bytes, link_with_owns, method_at}
use Rattle.aml_operators.specs.Tree.{Tree, trees}
use Rattle.aml_own_names.specs.OwnNames.{own_names}
use Rattle.aml_own_names.specs.declared.own_names.OwnName.{OwnName}
use Rattle.aml_verify.specs.Bodies.{around_by, kinds_by}
use Rattle.aml_verify.specs.Said.{accepted_by}
use Rattle.aml_verify.specs.Verdicts.{Says}
use Rattle.aml_verify.specs.declared.verdict.Verdict.{Verdict}
use Rattle.aml_verify.specs.declared.verdict.Verdict.TheVariants as verdict

-- what is told rightly has one answer
pub one_answer : (calls : ℕ → List ℕ) (from to : ℕ) (a b : Bool) → TellsReach calls from to a → TellsReach calls from to b → a ≡ b
one_answer calls from to true true p q = refl
one_answer calls from to true false p q = absurd (q p)
one_answer calls from to false true p q = absurd (p q)
one_answer calls from to false false p q = refl

among_or : {X : Type 0} (b : Bool) (x y : X) → b ≡ true → (if b then x else y) ≡ x
among_or true x y e = refl
among_or false x y e = absurd cc

module _ (ns : Shown) (told : Told) (all : Judging) (j : IsJudging ns told all) (known : ℕ → Option judged.Accepted) (a : AreAccepted all known) where
  -- what is said of a method is what is known of it
  pub known_said : (shapes : ℕ → Shape) (k : ℕ) (m : Method) (v : Verdict) → method_at ns k ≡ Some m → Says ns shapes k m v (verdict_by all known k (all.methods.callee k)) → known k ≡ accepted_by shapes (Some v)
  known_said shapes k m (verdict.Accepted x) is says = a.each k ∙ ap accepted_of says
  known_said shapes k m (verdict.Refused r finding) is says = a.each k ∙ ap accepted_of says
  known_said shapes k m (verdict.Unreadable table r) is says = a.each k ∙ ap (λ o. accepted_of (verdict_by all known k o)) (unread ns told all j k m r is says.1)

  -- a method's body is judged by what it sees of those that it calls
  pub judged_seen : (k : ℕ) (c : Callee) (other : ℕ → Seen) → all.methods.callee k ≡ Some c → ((i : ℕ) → is_among i (called_from all k) ≡ true → seen_from all known k i ≡ other i) → (env : Env) → judged_method (around_for all known k c) c.opcode c.body env ≡ judged_method (record (around_for all known k c) { callee = other }) c.opcode c.body env
  judged_seen k c other there same env =
      method_same (around_for all known k c) other c.opcode c.body env (λ i e. same i (subst (λ o. is_among i (calls_by o) ≡ true) (sym there) e))

  -- what is known around a body that has made no own name is what the definition has around it
  pub body_seen : (shapes : List Shape) (shared : List (Option Known)) (callee : ℕ → Seen) (k : ℕ) (m : Method) (ts : List Tree) (table : ℕ) (bytes : List ℕ) (owns : List OwnName) (held : List (Option Known)) (fields : List (Option BufferField)) → table ≡ m.table → bytes ≡ body_bytes ns m → owns ≡ own_names bytes ts → kinds_by shapes shared ≡ first_kinds ns → held ≡ [] → fields ≡ [] → (record (around_for all known k (callee_of ns k m (trees ts))) { callee = callee }) ≡ around_by ns shapes shared callee k table bytes owns held fields
  body_seen shapes shared callee k m ts table bytes owns held fields table_is bytes_are owns_are shared_are none_held no_fields = λ i. record {
    table = sym table_is i;
    width = (j.methods i).width;
    link = link_with_owns ns.entries k (sym bytes_are i) (names i);
    lone = is_lone (sym bytes_are i);
    object = (j.methods i).object;
    field = (j.methods i).field;
    buffer_field = (j.methods i).buffer_field;
    literal = body_data ns (sym table_is i) k;
    kinds = record {
      shared = kinds i;
      owns = kinds_by shapes (sym none_held i);
      fields = sym no_fields i;
    };
    callee = callee;
  }
    where
      names : own_names (body_bytes ns m) (listed (trees ts)) ≡ owns
      names = ap (own_names (body_bytes ns m)) (listed_trees ts) ∙ ap (λ bs. own_names bs ts) (sym bytes_are) ∙ sym owns_are

      kinds : all.kinds ≡ kinds_by shapes shared
      kinds = j.kinds ∙ sym shared_are
