-- What methods call, as it is gathered one by one.
use Rattle.std.proofs.Common.{◌≡◌, ◌<◌, ◌≤◌, ◌+◌, ℕ, zero, suc, List, [], ◌∷◌, ◌++◌, length, map, take, Option, Some, None, Err, refl, sym, ap, ◌∙◌, subst, inl, inr, drop, get_or, append_assoc, arith}
use Rattle.std.proofs.lemmas.Bool.{eqb-true}
use Rattle.std.proofs.lemmas.Bool.Decides.{eqb_tells}
use Rattle.std.proofs.lemmas.List.{append-nil, at_drop_all, map-append, map_push, take_more}
use Rattle.std.specs.Cmp.{nat_eq_equiv}
use Rattle.std.specs.Prelude.{Bool, true, false, ◌==◌, if◌then◌else◌, option_and_then, IsSome, Vec}
use Rattle.std.specs.declared.alloc.Global.{Global}
use Rattle.aml_calls.specs.Calls.{called_by, calls_in_term, calls_of}
use Rattle.aml_calls.specs.Chains.{is_among}
use Rattle.aml_calls.specs.Pairs.{calls_in, named, numbers, Pair}
use Rattle.aml_bodies.proofs.Linking.{views_at}
use Rattle.aml_calls.proofs.Among.{among_back, among_cases, among_front, first_among, neither, not_both}
use Rattle.aml_meaning.specs.Actions.{action}
use Rattle.aml_meaning.specs.declared.action.Action.{Action}
use Rattle.aml_meaning.specs.declared.action.Action.TheVariants.{Invoke}
use Rattle.aml_namespace.specs.declared.link.Link.{Link}
use Rattle.aml_objects.specs.declared.object.Method.{Method}
use Rattle.aml_objects.specs.declared.object.Object.{Object}
use Rattle.aml_objects.specs.declared.object.Object.TheVariants as object
use Rattle.aml_objects.specs.Entries.{Entries, object_at}
use Rattle.aml_namespace.specs.Load.{Shown}
use Rattle.aml_objects.specs.LookUp.{is_method, methods_before, methods_in}
use Rattle.aml_namespace.specs.Names.{body_bytes, IsBodyOf, link_with_owns, method_at, method_in, ReadsBodyOf}
use Rattle.aml_operators.specs.declared.term.Term.{Term}
use Rattle.aml_operators.specs.declared.term.Term.TheViews.{out-Term}
use Rattle.aml_operators.specs.Tree.{Tree, trees, view, views}
use Rattle.aml_operators.proofs.Views.{view_out}
use Rattle.aml_own_names.specs.declared.own_names.OwnName.{OwnName}
use Rattle.aml_own_names.specs.OwnNames.{own_names}
use Rattle.aml_paths.specs.declared.scope.ObjectId.{ObjectId}
use Rattle.aml_tree.specs.declared.fault.Refusal.{Refusal}
use Rattle.aml_tree.specs.declared.fault.TreeFault.{TreeFault}
use Rattle.aml_tree.specs.declared.fault.TreeFault.TheVariants.{Refused}
use Rattle.aml_methods.specs.Gathered.{AreCalls, if_any, IsCalledFrom}
use Rattle.aml_methods.proofs.Judgings.{calls_nothing, calls_there, no_callee, no_tree}

-- the methods of pairs
abbrev pub firsts : List Pair → List ObjectId
firsts pairs = map (λ (p : Pair). p.0) pairs

-- each pair has what its method calls
abbrev pub AreCalled : Shown → List Pair → Type 0
AreCalled ns [] = Unit {0}
AreCalled ns (p ∷ ps) = IsCalledFrom ns p.0.0 (numbers p.1.items) × AreCalled ns ps

pub called_push : (ns : Shown) (ps : List Pair) (p : Pair) → AreCalled ns ps → IsCalledFrom ns p.0.0 (numbers p.1.items)
    → AreCalled ns (ps ++ p ∷ [])
called_push ns [] p all one = (one, tt)
called_push ns (q ∷ qs) p all one = (all.0, called_push ns qs p all.1 one)

-- what is no method calls nothing
pub no_method_calls : (ns : Shown) (k : ℕ) → method_at ns k ≡ None → IsCalledFrom ns k []
no_method_calls ns k none told all J = sym (calls_nothing ns told all J k (no_callee ns told all J k none))

there_or_none : (ns : Shown) (k : ℕ) (o : Option Method) → method_at ns k ≡ o
    → ((m : Method) → method_at ns k ≡ Some m → (ts : List Tree) → IsBodyOf ns k m ts → ⊥) → IsCalledFrom ns k []
there_or_none ns k None is none = no_method_calls ns k is
there_or_none ns k (Some m) is none = λ told all J. sym (calls_nothing ns told all J k (no_tree ns told all J k m is (none m is)))

-- nor does a method whose body has no tree
pub refused_calls : (ns : Shown) (k : ℕ) (fault : TreeFault) (f : Refusal) → fault ≡ Refused f
    → ((m : Method) → method_at ns k ≡ Some m → ReadsBodyOf ns k m (Err fault)) → IsCalledFrom ns k []
refused_calls ns k fault f is_refused read = there_or_none ns k (method_at ns k) refl (λ m is. (refused m is).1)
  where
    refused : (m : Method) → method_at ns k ≡ Some m → ReadsBodyOf ns k m (Err (Refused f))
    refused m is = subst (λ (x : TreeFault). ReadsBodyOf ns k m (Err x)) is_refused (read m is)

-- a method that is known is there
pub there : (o : Option Method) → IsSome o → (m : Method) × (o ≡ Some m)
there None known = absurd cc
there (Some m) known = (m, refl)

-- a method whose body was read calls what its statements do
pub read_calls : (ns : Shown) (k : ℕ) (m : Method) (ts : List Tree) (bytes : List ℕ) (owns : List OwnName) (callees : List ℕ)
    → method_at ns k ≡ Some m → IsBodyOf ns k m ts → bytes ≡ body_bytes ns m → owns ≡ own_names bytes ts
    → callees ≡ calls_of (link_with_owns ns.entries k bytes owns) (trees ts) → IsCalledFrom ns k callees
read_calls ns k m ts bytes owns callees is body stand made gathered told all J =
    gathered
    ∙ ap (λ (o : List OwnName). calls_of (link_with_owns ns.entries k bytes o) (trees ts)) made
    ∙ ap (λ (b : List ℕ). calls_of (link_with_owns ns.entries k b (own_names b ts)) (trees ts)) stand
    ∙ sym (calls_there ns told all J k m ts is body)

swapped : (a b : ℕ) → (a == b) ≡ false → (b == a) ≡ false
swapped a b h = nat_eq_equiv.symm b a ∙ h

-- what the pairs say of each number, where each method has one
pub each_called : (ns : Shown) (pairs : List Pair) (k : ℕ) → AreCalled ns pairs
    → (is_among k (numbers (firsts pairs)) ≡ false → method_at ns k ≡ None) → IsCalledFrom ns k (calls_in pairs k)
each_called ns [] k are none = no_method_calls ns k (none refl)
each_called ns (p ∷ ps) k are none = by (p.0.0 == k) refl (λ h. each_called ns ps k are.1 h)
  where
    by : (b : Bool) → (p.0.0 == k) ≡ b
        → ((is_among k (numbers (firsts ps)) ≡ false → method_at ns k ≡ None) → IsCalledFrom ns k (calls_in ps k))
        → IsCalledFrom ns k (if b then numbers p.1.items else calls_in ps k)
    by true same rest = subst (λ (n : ℕ). IsCalledFrom ns n (numbers p.1.items)) (eqb-true p.0.0 k same) are.0
    by false other rest = rest (λ h. none (neither (k == p.0.0) (is_among k (numbers (firsts ps))) (swapped p.0.0 k other) h))

-- the method of a pair is named
pub first_named : (pairs : List Pair) (k : ℕ) → is_among k (numbers (firsts pairs)) ≡ true → is_among k (named pairs) ≡ true
first_named [] k e = absurd cc
first_named (p ∷ ps) k e =
    among_cases (is_among k (named (p ∷ ps)) ≡ true) k p.0.0 (numbers (firsts ps)) e
    (λ same. among_front k (p.0.0 ∷ numbers p.1.items) (named ps) (subst (λ (n : ℕ). is_among n (p.0.0 ∷ numbers p.1.items) ≡ true) (sym same) (first_among p.0.0 (numbers p.1.items))))
    (λ rest. among_back k (p.0.0 ∷ numbers p.1.items) (named ps) (first_named ps k rest))

-- the methods before a number, and that one if it is one
one_listed : (k n : ℕ) (b : Bool) → k ≡ n → b ≡ true → is_among k (numbers (if b then record { 0 = n } ∷ [] else [])) ≡ true
one_listed k n true same is = subst (λ (j : ℕ). is_among j (n ∷ []) ≡ true) (sym same) (first_among n [])
one_listed k n false same is = absurd cc

listed_before : (entries : Entries) (n k : ℕ) → k < n → is_method (object_at entries k) ≡ true
    → is_among k (numbers (methods_before entries n)) ≡ true
listed_before entries zero k lt is = absurd (omega arith)
listed_before entries (suc n) k lt is =
    let one : List ObjectId = if is_method (object_at entries n) then record { 0 = n } ∷ [] else [] in
    ap (is_among k) (map-append (λ (id : ObjectId). id.0) (methods_before entries n) one)
    ∙ elim (eqb_tells k n) [
      | inl p ↦ among_back k (numbers (methods_before entries n)) (numbers one) (one_listed k n (is_method (object_at entries n)) p.1 (ap (λ i. is_method (object_at entries i)) (sym p.1) ∙ is))
      | inr p ↦ among_front k (numbers (methods_before entries n)) (numbers one) (listed_before entries n k (omega (arith, p.1)) is)
    ]

pub listed_within : (entries : Entries) (k : ℕ) → is_method (object_at entries k) ≡ true → k < length entries
listed_within [] k e = absurd cc
listed_within (x ∷ xs) zero e = omega arith
listed_within (x ∷ xs) (suc k) e = let r = listed_within xs k e in omega (arith, r)

pub is_method_there : (o : Option Object) (m : Method) → option_and_then method_in o ≡ Some m → is_method o ≡ true
is_method_there None m e = absurd cc
is_method_there (Some (object.Method x)) m e = refl
is_method_there (Some o) m e = absurd cc

-- all methods are listed
pub methods_listed : (ns : Shown) (k : ℕ) (m : Method) → method_at ns k ≡ Some m → is_among k (numbers (methods_in ns.entries)) ≡ true
methods_listed ns k m is =
    let there = is_method_there (object_at ns.entries k) m is in
    listed_before ns.entries (length ns.entries) k (listed_within ns.entries k there) there

unlisted : (ns : Shown) (k : ℕ) (ids : List ObjectId) (o : Option Method) → ids ≡ methods_in ns.entries → is_among k (numbers ids) ≡ false
    → method_at ns k ≡ o → o ≡ None
unlisted ns k ids None all out is = refl
unlisted ns k ids (Some m) all out is =
    absurd (not_both (is_among k (numbers ids)) (ap (λ (x : List ObjectId). is_among k (numbers x)) all ∙ methods_listed ns k m is) out)

pub all_gathered : (ns : Shown) (pairs : List Pair) → AreCalled ns pairs → firsts pairs ≡ methods_in ns.entries → AreCalls ns pairs
all_gathered ns pairs are all = record {
  each = λ k. each_called ns pairs k are (λ out. unlisted ns k (firsts pairs) (method_at ns k) all out refl);
  all = λ k m is. first_named pairs k (ap (λ (x : List ObjectId). is_among k (numbers x)) all ∙ methods_listed ns k m is);
}

-- the methods that a term calls, by its operator and its parts
pub term_calls : (links : ℕ → Link) (t : Term) → calls_in_term links (view t)
    ≡ called_by links (action (out-Term t).op) (views (out-Term t).parts.items) ++ calls_of links (views (out-Term t).parts.items)
term_calls links t = ap (calls_in_term links) (view_out t)

no_parts_call : (links : ℕ → Link) (a : Action) → called_by links a (views []) ++ calls_of links (views []) ≡ []
no_parts_call links Invoke = refl
no_parts_call links a = refl

-- what has no parts calls nothing
pub bare_calls : (links : ℕ → Link) (t : Term) (parts : List Term) (old : List ℕ) → parts ≡ (out-Term t).parts.items → (length parts == 0) ≡ true → old ≡ old ++ calls_in_term links (view t)
bare_calls links t [] old are e =
    sym (append-nil old)
    ∙ ap (λ (ks : List ℕ). old ++ ks)
    (sym (term_calls links t ∙ ap (λ (ps : List Term). called_by links (action (out-Term t).op) (views ps) ++ calls_of links (views ps)) (sym are) ∙ no_parts_call links (action (out-Term t).op)))
bare_calls links t (p ∷ ps) old are e = let none_there = eqb-true (length (p ∷ ps)) 0 e in absurd (omega (arith, none_there))

-- its own callee, and then what its parts call
pub term_gathered : (links : ℕ → Link) (t : Term) (a : Action) (parts again : List Term) (callee : Option ObjectId) (old mid new : List ℕ)
    → a ≡ action (out-Term t).op → parts ≡ (out-Term t).parts.items → again ≡ (out-Term t).parts.items
    → if_any callee ≡ called_by links a (views parts) → mid ≡ old ++ if_any callee → new ≡ mid ++ calls_of links (views again)
    → new ≡ old ++ calls_in_term links (view t)
term_gathered links t a parts again callee old mid new acts are same called first others =
    let op = action (out-Term t).op in
    let ts = (out-Term t).parts.items in
    let own : if_any callee ≡ called_by links op (views ts) =
    called ∙ ap (λ (x : Action). called_by links x (views parts)) acts ∙ ap (λ (ps : List Term). called_by links op (views ps)) are in
    others
    ∙ ap (λ (ks : List ℕ). ks ++ calls_of links (views again)) first
    ∙ append_assoc old (if_any callee) (calls_of links (views again))
    ∙ ap (λ (ks : List ℕ). old ++ (ks ++ calls_of links (views again))) own
    ∙ ap (λ (ps : List Term). old ++ (called_by links op (views ts) ++ calls_of links (views ps))) same
    ∙ ap (λ (ks : List ℕ). old ++ ks) (sym (term_calls links t))

-- those of one term more, of some that are left
pub calls_on : (links : ℕ → Link) (ts : List Term) (i : ℕ) (t : Term) (new old whole : List ℕ) → i < length ts → t ≡ get_or ts i t
    → new ≡ old ++ calls_in_term links (view t) → old ++ calls_of links (views (drop i ts)) ≡ whole
    → new ++ calls_of links (views (drop (i + 1) ts)) ≡ whole
calls_on links ts i t new old whole lt is added before =
    ap (λ ks. ks ++ calls_of links (views (drop (i + 1) ts))) added
    ∙ append_assoc old (calls_in_term links (view t)) (calls_of links (views (drop (i + 1) ts)))
    ∙ ap (λ us. old ++ calls_of links us) (sym (views_at ts i t lt is))
    ∙ before

pub calls_end : (links : ℕ → Link) (ts : List Term) (i : ℕ) (new whole : List ℕ) → length ts ≤ i
    → new ++ calls_of links (views (drop i ts)) ≡ whole → new ≡ whole
calls_end links ts i new whole le all =
    sym (append-nil new) ∙ ap (λ us. new ++ calls_of links us) (sym (at_drop_all views ts i le)) ∙ all

-- the pair of one method more
pub pair_more : (ns : Shown) (ids : List ObjectId) (i : ℕ) (d : ObjectId) (old new : List Pair) (callees : Vec ObjectId Global)
    → i < length ids → new ≡ old ++ (get_or ids i d, callees) ∷ [] → AreCalled ns old × (firsts old ≡ take i ids)
    → IsCalledFrom ns (get_or ids i d).0 (numbers callees.items) → AreCalled ns new × (firsts new ≡ take (i + 1) ids)
pair_more ns ids i d old new callees lt added before called = (
  subst (AreCalled ns) (sym added) (called_push ns old (get_or ids i d, callees) before.0 called),
  ap firsts added
      ∙ map_push (λ (p : Pair). p.0) old (get_or ids i d, callees)
      ∙ ap (λ (ks : List ObjectId). ks ++ get_or ids i d ∷ []) before.1
      ∙ sym (take_more ids i d lt),
)
