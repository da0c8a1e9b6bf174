-- Bodies of which the same is known evaluate integers alone, or not, together.
use Rattle.std.proofs.Common.{◌≡◌, ℕ, List, [], refl, ap, ◌∙◌}
use Rattle.std.specs.Prelude.{Bool, true, ◌&&◌}
use Rattle.aml_operators.specs.Tree.{Tree, Trees, Node, none, more}
use Rattle.aml_namespace.specs.declared.link.Link.{Link}
use Rattle.aml_namespace.specs.declared.link.Link.TheVariants as link
use Rattle.aml_paths.specs.declared.scope.ObjectId.{ObjectId}
use Rattle.aml_contents.specs.Contents.{ContentKinds}
use Rattle.aml_meaning.specs.declared.action.Action.{Action}
use Rattle.aml_meaning.specs.declared.action.Action.TheVariants.{Acquire, Concatenate, CondRefOf, Convert, Data, Dereference, Index, Invoke, Name, Notify, Release, SizeOf}
use Rattle.aml_meaning.specs.declared.action.Conversion.TheVariants as conversion
use Rattle.aml_meaning.specs.Actions.{action}
use Rattle.aml_meaning.specs.Definitions.{definition}
use Rattle.aml_meaning.specs.Meaning.{at_of}
use Rattle.aml_meaning.specs.Within.{Callee, Methods}
use Rattle.aml_calls.specs.Calls.{called, called_by, calls_in_term, calls_of}
use Rattle.aml_calls.specs.Chains.{is_among}
use Rattle.aml_calls.proofs.Among.{among_back, among_front, first_among}
use Rattle.aml_judged.specs.Integers.{integer_asked, integer_called, integer_name, integers, integers_by, integers_in, is_narrow, is_narrow_buffer_field, makes_nothing}
use Rattle.aml_judged.specs.Judged.{Around}
use Rattle.aml_integers.specs.Known.{body_in, IsAround, methods_in}
use Rattle.aml_integers.specs.Laws.{CallsDecide}

-- of both the same is known that decides
pub record Alike (methods others : Methods) (m n : Callee) : Type 0 where
  pub width : methods.width ≡ others.width
  pub field : (i : ℕ) → methods.field i ≡ others.field i
  pub buffer_field : (i : ℕ) → methods.buffer_field i ≡ others.buffer_field i
  pub link : (at : ℕ) → m.link at ≡ n.link at

both_same : (a b c d : Bool) → a ≡ b → c ≡ d → (a && c) ≡ (b && d)
both_same a b c d e f = ap (λ x. x && c) e ∙ ap (λ x. b && x) f

module _ (methods others : Methods) (m n : Callee) (kinds : ContentKinds) (only other : ℕ → Bool) (a : Alike methods others m n) where
  -- both say the same of some methods
  abbrev SameOf : List ℕ → Type 0
  SameOf ks = (j : ℕ) → is_among j ks ≡ true → only j ≡ other j

  name_same : (l : Link) → integer_name methods m kinds only l ≡ integer_name others n kinds other l
  name_same (link.Data id) = refl
  name_same (link.Field id) = ap (λ w. is_narrow w (methods.field id.0)) a.width ∙ ap (is_narrow others.width) (a.field id.0)
  name_same (link.BufferField id) = ap (λ w. is_narrow_buffer_field w (methods.buffer_field id.0)) a.width ∙ ap (is_narrow_buffer_field others.width) (a.buffer_field id.0)
  name_same l = refl

  called_same : (l : Link) → SameOf (called l) → integer_called methods m kinds only l ≡ integer_called others n kinds other l
  called_same (link.Method id) h = h id.0 (first_among id.0 [])
  called_same (link.Data id) h = name_same (link.Data id)
  called_same (link.Field id) h = name_same (link.Field id)
  called_same (link.BufferField id) h = name_same (link.BufferField id)
  called_same l h = refl

  asked_same : (l : Link) → integer_asked methods m kinds only l ≡ integer_asked others n kinds other l
  asked_same (link.Data id) = name_same (link.Data id)
  asked_same (link.Field id) = name_same (link.Field id)
  asked_same (link.BufferField id) = name_same (link.BufferField id)
  asked_same l = refl

  mutual
    term_same : (t : Tree) → SameOf (calls_in_term m.link t) → integers methods m kinds only t ≡ integers others n kinds other t
    term_same (Node o at stop parts) h =
        ap (λ b. makes_nothing (definition o) && b) (by_same (action o) at parts (λ j e. h j (among_front j (called_by m.link (action o) parts) (calls_of m.link parts) e)) (λ j e. h j (among_back j (called_by m.link (action o) parts) (calls_of m.link parts) e)))

    by_same : (does : Action) (at : ℕ) (parts : Trees) → SameOf (called_by m.link does parts) → SameOf (calls_of m.link parts) → integers_by methods m kinds only does at parts ≡ integers_by others n kinds other does at parts
    by_same (Data o) at parts own below = refl
    by_same Concatenate at parts own below = refl
    by_same SizeOf at parts own below = refl
    by_same Dereference at parts own below = refl
    by_same Index at parts own below = refl
    by_same (Convert conversion.ToBuffer) at parts own below = refl
    by_same Name at parts own below = name_same (m.link at) ∙ ap (integer_name others n kinds other) (a.link at)
    by_same Invoke at none own below = refl
    by_same Invoke at (more name arguments) own below =
        both_same _ _ _ _ (called_same (m.link (at_of name)) own ∙ ap (integer_called others n kinds other) (a.link (at_of name)))
        (all_same arguments (λ j e. below j (among_back j (calls_in_term m.link name) (calls_of m.link arguments) e)))
    by_same CondRefOf at none own below = refl
    by_same CondRefOf at (more (Node o from stop parts) ts) own below = asked_same (m.link from) ∙ ap (integer_asked others n kinds other) (a.link from)
    by_same Notify at none own below = refl
    by_same Notify at (more t ts) own below = all_same ts (λ j e. below j (among_back j (calls_in_term m.link t) (calls_of m.link ts) e))
    by_same Acquire at parts own below = refl
    by_same Release at parts own below = refl
    by_same does at none own below = refl
    by_same does at (more t ts) own below =
        both_same _ _ _ _ (term_same t (λ j e. below j (among_front j (calls_in_term m.link t) (calls_of m.link ts) e)))
        (all_same ts (λ j e. below j (among_back j (calls_in_term m.link t) (calls_of m.link ts) e)))

    pub all_same : (ts : Trees) → SameOf (calls_of m.link ts) → integers_in methods m kinds only ts ≡ integers_in others n kinds other ts
    all_same none h = refl
    all_same (more t ts) h =
        both_same _ _ _ _ (term_same t (λ j e. h j (among_front j (calls_in_term m.link t) (calls_of m.link ts) e)))
        (all_same ts (λ j e. h j (among_back j (calls_in_term m.link t) (calls_of m.link ts) e)))

itself : (methods : Methods) (m : Callee) → Alike methods methods m m
itself methods m = record { width = refl; field = λ i. refl; buffer_field = λ i. refl; link = λ at. refl }

pub calls_decide : CallsDecide
calls_decide methods m kinds only other body same = all_same methods methods m m kinds only other (itself methods m) body same

-- a body is judged by what is known around it
pub known_decides : (here : Around) (methods : Methods) (m : Callee) (kinds : ContentKinds) (only : ℕ → Bool) (ts : Trees) → IsAround here methods m → integers_in (methods_in here) (body_in here) kinds only ts ≡ integers_in methods m kinds only ts
known_decides here methods m kinds only ts known =
    all_same (methods_in here) methods (body_in here) m kinds only only (record { width = known.width; field = known.field; buffer_field = known.buffer_field; link = known.link }) ts (λ j e. refl)

module _ (methods : Methods) (m : Callee) (kinds : ContentKinds) (only : ℕ → Bool) where
  pub called_as_name : (l : Link) → ((id : ObjectId) → l ≡ link.Method id → ⊥) → integer_name methods m kinds only l ≡ integer_called methods m kinds only l
  called_as_name (link.Method id) other = absurd (other id refl)
  called_as_name l other = refl
