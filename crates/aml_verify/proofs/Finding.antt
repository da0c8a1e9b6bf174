-- What is found of the next method.
use Rattle.std.proofs.Common.{◌≡◌, ◌≤◌, ℕ, length, Some, None, Err, Bool, false, refl, arith}
use Rattle.std.proofs.lemmas.List.{length-map}
use Rattle.aml_calls.specs.Pairs.{numbers}
use Rattle.aml_objects.specs.declared.object.Method.{Method}
use Rattle.aml_namespace.specs.Names.{method_at, ReadsBodyOf}
use Rattle.aml_namespace.specs.Shows.{shown}
use Rattle.aml_paths.specs.declared.scope.ObjectId.{ObjectId}
use Rattle.aml_shapes.specs.Numbers.{numbered}
use Rattle.aml_signatures.specs.Signed.{kinds_told}
use Rattle.aml_tree.specs.declared.fault.Refusal.{Refusal}
use Rattle.aml_tree.specs.declared.fault.TreeFault.{TreeFault}
use Rattle.aml_tree.specs.declared.fault.TreeFault.TheVariants as unread
use Rattle.aml_verify.proofs.Judged.{nothing_marked, refused_marked, unread_said}
use Rattle.aml_verify.specs.Verdicts.{FoundOf, left, MarksNext, SaysNext}
use Rattle.aml_verify.specs.declared.verdict.Verdict.{Verdict}
use Rattle.aml_verify.specs.declared.verdict.Verdict.TheVariants as verdict
use Rattle.aml_verify.specs.declared.verifier.Verifier.{Verifier}

-- no method has the number
pub none_found : (v : Verifier) (k : ℕ) → method_at (shown v.read.namespace.now) k ≡ None → FoundOf v k (record { verdict = None; integers = false })
none_found v k none = record {
  said = none;
  marks = nothing_marked (shown v.read.namespace.now) (kinds_told v.signatures.now) k v.integers.items none;
}

-- its body cannot be read
pub unread_found : (v : Verifier) (k : ℕ) (m : Method) (f : TreeFault) (r : Refusal) → method_at (shown v.read.namespace.now) k ≡ Some m → f ≡ unread.Refused r → ReadsBodyOf (shown v.read.namespace.now) k m (Err f)
    → FoundOf v k (record { verdict = Some (verdict.Unreadable m.table r); integers = false })
unread_found v k m f r there is reads = record {
  said = (m, there, says);
  marks = refused_marked (shown v.read.namespace.now) (kinds_told v.signatures.now) (numbered v.shapes) k m (verdict.Unreadable m.table r) v.integers.items there refl says;
}
  where
    says : SaysNext v k m (verdict.Unreadable m.table r)
    says = unread_said (shown v.read.namespace.now) (kinds_told v.signatures.now) (numbered v.shapes) k m f r is reads

-- it was read and judged
pub read_found : (v : Verifier) (k : ℕ) (m : Method) (said : Verdict) (mark : Bool) → method_at (shown v.read.namespace.now) k ≡ Some m → SaysNext v k m said → MarksNext v k mark
    → FoundOf v k (record { verdict = Some said; integers = mark })
read_found v k m said mark there says marks = record {
  said = (m, there, says);
  marks = marks;
}

-- where none is left, all are done
pub all_done : (v : Verifier) → left v ≡ 0 → length (numbers v.order.items) ≤ v.judged
all_done v none = let count : length (numbers v.order.items) ≡ length v.order.items = length-map v.order.items (λ (id : ObjectId). id.0) in omega (arith, count, none)
