-- What is kept of bodies, one by one.
use Rattle.std.proofs.Common.{◌≡◌, ◌≤◌, ◌+◌, ℕ, List, length, take, set, slice_get, Option, Some, None, Err, refl, sym, ap, subst, ◌∙◌, arith}
use Rattle.std.proofs.lemmas.List.{length-set, take_all}
use Rattle.std.proofs.lemmas.Option.{same_Some}
use Rattle.std.specs.Prelude.{true, IsSome}
use Rattle.aml_bodies.specs.Kept.{AreKept, IsKept, kept_at}
use Rattle.aml_bodies.specs.declared.keeping.Kept.{Kept}
use Rattle.aml_calls.specs.Calls.{calls_of}
use Rattle.aml_calls.specs.Chains.{is_among}
use Rattle.aml_objects.specs.declared.object.Method.{Method}
use Rattle.aml_namespace.specs.Load.{Shown}
use Rattle.aml_namespace.specs.Names.{body_bytes, IsBodyOf, link_with_owns, method_at, ReadsBodyOf}
use Rattle.aml_operators.specs.Tree.{Tree, trees}
use Rattle.aml_own_names.specs.OwnNames.{own_names}
use Rattle.aml_own_names.specs.OwnNamesSeen.{owns_seen}
use Rattle.aml_tree.specs.declared.fault.Refusal.{Refusal}
use Rattle.aml_tree.specs.declared.fault.TreeFault.{TreeFault}
use Rattle.aml_tree.specs.declared.fault.TreeFault.TheVariants.{Refused}
use Rattle.aml_methods.proofs.ByNumber.{not_both, put_is, put_other, put_same}
use Rattle.aml_methods.proofs.Calls.{read_calls}
use Rattle.aml_methods.proofs.Places.{before, by_same, method_within}
use Rattle.aml_methods.specs.Gathered.{IsCalledFrom, IsFoundOf}

-- of the bodies of the first methods of an order each that has a tree is kept
pub record KeepsSoFar (ns : Shown) (order : List ℕ) (so_far : ℕ) (kept : List (Option Kept)) : Type 0 where
  pub room : length kept ≡ length ns.entries
  pub are : AreKept ns kept
  pub all : (k : ℕ) (m : Method) → method_at ns k ≡ Some m → is_among k (take so_far order) ≡ true →
      (ts : List Tree) → IsBodyOf ns k m ts → IsSome (kept_at kept k)

module _ (ns : Shown) (order : List ℕ) (so_far : ℕ) (kept : List (Option Kept)) (is : KeepsSoFar ns order so_far kept) (k : ℕ) (at : slice_get order so_far ≡ Some k) (one : Option Kept) (found : IsFoundOf ns k one) where
  kept_here : (x : Kept) → kept_at (set kept k one) k ≡ Some x → IsKept ns k x
  kept_here x e = found.is x (put_is kept k one x e)

  read_here : (m : Method) → method_at ns k ≡ Some m → (ts : List Tree) → IsBodyOf ns k m ts → IsSome (kept_at (set kept k one) k)
  read_here m there ts body =
      let lt = method_within ns k m there in
      let room = is.room in
      subst IsSome (sym (put_same None kept k one (omega (arith, lt, room)))) (found.all m there ts body)

  pub one_kept : KeepsSoFar ns order (so_far + 1) (set kept k one)
  one_kept = record {
    room = length-set kept k one ∙ is.room;
    are = λ i x e. by_same _ i k (λ same. subst (λ n. kept_at (set kept k one) n ≡ Some x → IsKept ns n x) (sym same) (kept_here x) e) (λ other. is.are i x (sym (put_other None kept k one i other) ∙ e));
    all = λ i m there among ts body. by_same _ i k
        (λ same. subst (λ n. method_at ns n ≡ Some m → IsBodyOf ns n m ts → IsSome (kept_at (set kept k one) n)) (sym same) (λ here this. read_here m here ts this) there body)
        (λ other. subst IsSome (sym (put_other None kept k one i other)) (is.all i m there (before order so_far k i at among other) ts body));
  }

-- at first nothing is kept
pub none_kept : (ns : Shown) (order : List ℕ) (kept : List (Option Kept)) → length kept ≡ length ns.entries → ((k : ℕ) → kept_at kept k ≡ None) → KeepsSoFar ns order 0 kept
none_kept ns order kept room none = record {
  room = room;
  are = λ k x e. absurd (not_both (kept_at kept k) x e (none k));
  all = λ k m there e. absurd cc;
}

-- in the end all is
pub all_kept : (ns : Shown) (order : List ℕ) (so_far : ℕ) (kept : List (Option Kept)) → KeepsSoFar ns order so_far kept → length order ≤ so_far → ((k : ℕ) (m : Method) → method_at ns k ≡ Some m → is_among k order ≡ true) → (k : ℕ) (m : Method) → method_at ns k ≡ Some m → (ts : List Tree) → IsBodyOf ns k m ts → IsSome (kept_at kept k)
all_kept ns order so_far kept is all ordered k m there = is.all k m there (subst (λ ks. is_among k ks ≡ true) (sym (take_all so_far order all)) (ordered k m there))

nothing : (one : Kept) → None ≡ Some one → ⊥
nothing one e = absurd cc

-- of no method nothing is found
pub none_found : (ns : Shown) (k : ℕ) → method_at ns k ≡ None → IsFoundOf ns k None
none_found ns k none = record {
  is = λ one e. absurd (nothing one e);
  all = λ m there. absurd (let bad : None ≡ Some m = sym none ∙ there in cc);
}

-- nor of a method whose body has no tree
pub refused_found : (ns : Shown) (k : ℕ) (fault : TreeFault) (f : Refusal) → fault ≡ Refused f → ((m : Method) → method_at ns k ≡ Some m → ReadsBodyOf ns k m (Err fault)) → IsFoundOf ns k None
refused_found ns k fault f is_refused read = record {
  is = λ one e. absurd (nothing one e);
  all = λ m there ts body. absurd ((subst (λ (x : TreeFault). ReadsBodyOf ns k m (Err x)) is_refused (read m there)).1 ts body);
}

-- of one whose body was read, what is kept of it is
pub read_found : (ns : Shown) (k : ℕ) (one : Kept) → IsKept ns k one → IsFoundOf ns k (Some one)
read_found ns k one is = record {
  is = λ other e. subst (λ (x : Kept). IsKept ns k x) (same_Some one other e) is;
  all = λ m there ts body. refl;
}

-- its calls follow from what is kept of it
pub kept_calls : (ns : Shown) (k : ℕ) (m : Method) (ts : List Tree) (bytes : List ℕ) (one : Kept) (callees : List ℕ)
    → method_at ns k ≡ Some m → IsBodyOf ns k m ts → bytes ≡ body_bytes ns m → IsKept ns k one
    → callees ≡ calls_of (link_with_owns ns.entries k bytes (owns_seen one.owns)) (trees ts) → IsCalledFrom ns k callees
kept_calls ns k m ts bytes one callees is body stand kept gathered =
    read_calls ns k m ts bytes (owns_seen one.owns) callees is body stand
    (kept.owns m is ts body ∙ ap (λ (b : List ℕ). own_names b ts) (sym stand)) gathered
