-- A verifier before its first step, and how many are left behind each.
use Rattle.std.proofs.Common.{Vec, ◌≡◌, ◌≤◌, ◌<◌, ◌+◌, ℕ, List, ◌++◌, length, Option, Some, None, subst, ap, ◌∙◌, arith}
use Rattle.std.specs.declared.alloc.Global.{Global}
use Rattle.aml_calls.specs.Pairs.{IsCallOrder, numbers, Pair}
use Rattle.aml_components.specs.Components.{AreComponents}
use Rattle.aml_components.specs.declared.components.Components.{Components}
use Rattle.aml_components.specs.Heights.{AreHeights}
use Rattle.aml_components.specs.declared.heights.Heights.{Heights}
use Rattle.aml_contents.specs.FirstContents.{first_kinds}
use Rattle.aml_kinds.specs.Kinds.{Shape}
use Rattle.aml_known.specs.declared.known.Known.{Known}
use Rattle.aml_methods.specs.Gathered.{AreCalls}
use Rattle.aml_methods.specs.Judgings.{Told}
use Rattle.aml_namespace.specs.Load.{Shown}
use Rattle.aml_paths.specs.declared.scope.ObjectId.{ObjectId}
use Rattle.aml_verify.proofs.Orders.{are_ordered, tells_calls}
use Rattle.aml_verify.specs.Bodies.{kinds_by}
use Rattle.aml_verify.specs.Said.{verdict_at}
use Rattle.aml_verify.specs.Verdicts.{IsAtWork, JudgesNext, left}
use Rattle.aml_verify.specs.declared.verdict.Verdict.{Verdict}
use Rattle.aml_verify.specs.declared.verifier.Verifier.{Verifier}

said_of_none : (o : Option Verdict) (v : Verdict) → o ≡ Some v → o ≡ None → ⊥
said_of_none None v e f = absurd cc
said_of_none (Some w) v e f = absurd cc

pub begins : (ns : Shown) (told : Told) (shapes : List Shape) (shared : List (Option Known)) (heights : Heights) (components : Components) → kinds_by shapes shared ≡ first_kinds ns → (pairs in_order for_heights for_components : List Pair) → AreCalls ns pairs → in_order ≡ pairs → for_heights ≡ pairs → for_components ≡ pairs → (ordered others behind order : List ObjectId) → IsCallOrder in_order (numbers ordered) (numbers others) → AreHeights for_heights heights → AreComponents for_components components → behind ≡ others → order ≡ ordered ++ behind → (verdicts : List (Option Verdict)) → length verdicts ≡ length ns.entries → ((k : ℕ) → verdict_at verdicts k ≡ None) → IsAtWork ns told shapes shared heights components (numbers order) 0 verdicts
begins ns told shapes shared heights components kinds pairs in_order for_heights for_components calls p q r ordered others behind order is_order are_heights are_components b is verdicts room none = record {
  shared_are = kinds;
  calls = λ all j. tells_calls ns pairs calls ordered others call_order heights (subst (λ ps. AreHeights ps heights) q are_heights) components (subst (λ ps. AreComponents ps components) r are_components) told all j order order_is;
  ordered = are_ordered ns pairs calls ordered others order call_order order_is;
  room = room;
  within = omega arith;
  right = λ all j known a k m there v e. absurd (said_of_none (verdict_at verdicts k) v e (none k));
  said = λ k m there e. absurd cc;
  unsaid = λ k away. none k;
  only = λ k away. none k;
}
  where
    call_order : IsCallOrder pairs (numbers ordered) (numbers others)
    call_order = subst (λ ps. IsCallOrder ps (numbers ordered) (numbers others)) p is_order

    order_is : order ≡ ordered ++ others
    order_is = is ∙ ap (λ os. ordered ++ os) b

-- with each step fewer are left, or none were
pub fewer : (old new : Verifier) (o : Option ObjectId) (count most : ℕ) → JudgesNext old new o → new.order ≡ old.order → left old + count ≤ most → count < most → left new + (count + 1) ≤ most
fewer old new (Some id) count most next same within more =
    let size : length new.order.items ≡ length old.order.items = ap (λ (os : Vec ObjectId Global). length os.items) same in
    omega (arith, size, next.1, within, more)
fewer old new None count most next same within more =
    let size : length new.order.items ≡ length old.order.items = ap (λ (os : Vec ObjectId Global). length os.items) same in
    let judged : new.judged ≡ old.judged = ap (λ (v : Verifier). v.judged) next.1 in
    omega (arith, size, judged, next.0, within, more)
