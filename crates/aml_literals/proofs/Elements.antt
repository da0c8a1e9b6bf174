-- The elements of packages, one after another.
use Rattle.std.proofs.Common.{◌≡◌, ◌≤◌, ◌<◌, ◌+◌, ◌-◌, ◌%◌, ◌^◌, ◌++◌, ◌⊎◌, inl, inr, ℕ, suc, List, [], ◌∷◌, length, drop, Option, Some, None, refl, sym, ap, ◌∙◌, subst, arith}
use Rattle.std.specs.Prelude.{unwrap_or}
use Rattle.std.specs.Option.{option_or}
use Rattle.aml_lex.specs.NameStrings.{NameString}
use Rattle.aml_operators.specs.declared.op.Op.{Op}
use Rattle.aml_operators.specs.declared.op.Op.TheVariants as op
use Rattle.aml_operators.specs.declared.row.Code.TheVariants as code
use Rattle.aml_operators.specs.declared.row.Spot.TheVariants as spot
use Rattle.aml_operators.specs.Literal.{literal_in, literal_of}
use Rattle.aml_operators.specs.Tree.{Tree, Trees, Node, more, stop_of, trees}
use Rattle.aml_tree.specs.Grammar.{AreTerms, IsTerm}
use Rattle.aml_tree.specs.Heads.{IsPackage}
use Rattle.aml_tree.specs.OperatorAt.{op_there}
use Rattle.aml_tree.proofs.Bounds.{term_in}
use Rattle.aml_objects.specs.declared.object.Content.{Content}
use Rattle.aml_objects.specs.declared.object.Content.TheVariants as content
use Rattle.aml_objects.specs.declared.width.Width.{Width}
use Rattle.aml_namespace.specs.Bodies.{bytes_of}
use Rattle.aml_namespace.specs.Load.{Shown}
use Rattle.aml_namespace.specs.Made.{content_in}
use Rattle.aml_objects.specs.Widths.{bits_of}
use Rattle.aml_paths.specs.declared.scope.Scope.{Scope}
use Rattle.aml_paths.specs.declared.scope.Scope.TheVariants.{At}
use Rattle.aml_meaning.specs.Actions.{action}
use Rattle.aml_meaning.specs.declared.action.Action.TheVariants as does
use Rattle.aml_values.specs.Values.{Element, Elements, Holds, Int, Named, Pkg, Unset, Value, listed}
use Rattle.aml_values.specs.Values as value
use Rattle.aml_contents.specs.BodyData.{body_data, computed_size, first_computed}
use Rattle.aml_contents.specs.FirstContents.{bytes_in, counted, element_in, elements_behind, elements_in, number_of, value_of, value_told}
use Rattle.aml_literals.specs.There.{DataThere, ElementThere, ElementsThere, IsCount, PackageThere, RestThere, computed_in, first_element}
use Rattle.aml_literals.proofs.Parts.{inside_told}
use Rattle.aml_literals.proofs.Terms.{element_op}

-- no size is computed in some terms where none is in any of them
next_computed : (t : Tree) (ts : Trees) → first_computed (more t ts) ≡ option_or (computed_in t) (first_computed ts)
next_computed (Node o at stop parts) ts = refl

none_either : (a b : Option ℕ) → option_or a b ≡ None → (a ≡ None) × (b ≡ None)
none_either None b e = (refl, e)
none_either (Some n) b e = absurd cc

told_each : (t : Tree) (ts : List Tree) → first_computed (trees (t ∷ ts)) ≡ None → (computed_in t ≡ None) × (first_computed (trees ts) ≡ None)
told_each t ts e = none_either (computed_in t) (first_computed (trees ts)) (sym (next_computed t (trees ts)) ∙ e)

-- the first of some elements, and the others
pub record IsFirst (bytes : List ℕ) (at : ℕ) (parts : List Tree) : Type 0 where
  pub there : ElementThere bytes at
  pub rest : ElementsThere bytes (stop_of there.tree)
  pub is : parts ≡ there.tree ∷ rest.parts

module _ (bytes : List ℕ) (at : ℕ) where
  first_by : (arity : NameString → ℕ → ℕ) (depth own : ℕ) (parts : List Tree) → at < length bytes → AreTerms arity (IsTerm code.Body arity depth) own spot.Element bytes at (length bytes) parts → first_computed (trees parts) ≡ None → IsFirst bytes at parts
  first_by arity depth own [] lt lie told = absurd (omega (arith, lt, lie))
  first_by arity depth own (t ∷ ts) lt lie told =
      let each = told_each t ts told in
      record {
        there = record { arity = arity; depth = depth; own = own; tree = t; lies = lie.0; told = each.0 };
        rest = record { arity = arity; depth = depth; own = own; parts = ts; lie = lie.1; told = each.1 };
        is = refl;
      }

  pub first_is : at < length bytes → (e : ElementsThere bytes at) → IsFirst bytes at e.parts
  first_is lt e = first_by e.arity e.depth e.own e.parts lt e.lie e.told

  none_by : (arity : NameString → ℕ → ℕ) (depth own : ℕ) (parts : List Tree) → length bytes ≤ at → AreTerms arity (IsTerm code.Body arity depth) own spot.Element bytes at (length bytes) parts → parts ≡ []
  none_by arity depth own [] le lie = refl
  none_by arity depth own (t ∷ ts) le lie = let w = term_in code.Body arity depth own spot.Element bytes at t lie.0 in absurd (omega (arith, w, le))

  none_left : length bytes ≤ at → (e : ElementsThere bytes at) → e.parts ≡ []
  none_left le e = none_by e.arity e.depth e.own e.parts le e.lie

  module _ (ns : Shown) (table : ℕ) (scope : Scope) where
    -- an element that was read is the first
    pub first_read : at < length bytes → (made : Element) → ((e : ElementThere bytes at) → made ≡ element_in ns table scope e.tree) → (es : ElementsThere bytes at) → made ≡ first_element ns table scope es.parts
    first_read lt made is es =
        let f = first_is lt es in is f.there ∙ ap (first_element ns table scope) (sym f.is)

    pub first_none : length bytes ≤ at → (es : ElementsThere bytes at) → Unset ≡ first_element ns table scope es.parts
    first_none le es = ap (first_element ns table scope) (sym (none_left le es))

  pub rest_read : at < length bytes → (next : ℕ) → ((e : ElementThere bytes at) → stop_of e.tree ≡ next) → (es : ElementsThere bytes at) → RestThere bytes next es.parts
  rest_read lt next place es =
      let f = first_is lt es in
      subst (λ (n : ℕ). RestThere bytes n es.parts) (place f.there) (f.rest, ap (drop 1) (sym f.is))

  pub rest_none : length bytes ≤ at → (es : ElementsThere bytes at) → RestThere bytes at es.parts
  rest_none le es = let none = none_left le es in (es, none ∙ ap (drop 1) (sym none))

-- what an element of an operator is
module _ (ns : Shown) (table : ℕ) (scope : Scope) (at stop : ℕ) (ps : Trees) where
  holds_data : (o : Op) → action o ≡ does.Data o → element_in ns table scope (Node o at stop ps) ≡ Holds (value_of ns table scope (content_in o ps) o ps)
  holds_data op.String e = refl
  holds_data op.Buffer e = refl
  holds_data op.Package e = refl
  holds_data op.VarPackage e = refl
  holds_data o e = absurd cc

  holds_literal : (o : Op) → action o ≡ does.Literal o → element_in ns table scope (Node o at stop ps) ≡ Holds (Int (unwrap_or (literal_in o ps) 0 % 2 ^ bits_of ns.width))
  holds_literal op.Zero e = refl
  holds_literal op.One e = refl
  holds_literal op.Ones e = refl
  holds_literal op.ByteConst e = refl
  holds_literal op.WordConst e = refl
  holds_literal op.DWordConst e = refl
  holds_literal op.QWordConst e = refl
  holds_literal o e = absurd cc

-- an element is the value of its data, or of its literal
pub data_element : (ns : Shown) (table method at stop : ℕ) (o : Op) (ps : Trees) (t : Tree) (v : Value) → action o ≡ does.Data o → t ≡ Node o at stop ps → v ≡ body_data ns table method o ps → Holds v ≡ element_in ns table (At (record { 0 = method })) t
data_element ns table method at stop o ps t v act is e =
    let scope : Scope = At (record { 0 = method }) in
    ap Holds e ∙ sym (holds_data ns table scope at stop ps o act) ∙ sym (ap (element_in ns table scope) is)

pub literal_element : (ns : Shown) (table : ℕ) (scope : Scope) (at stop : ℕ) (o : Op) (ps : Trees) (t : Tree) (n wrapped : ℕ) (width : Width) → action o ≡ does.Literal o → t ≡ Node o at stop ps → literal_in o ps ≡ Some n → wrapped ≡ n % 2 ^ bits_of width → width ≡ ns.width → Holds (Int wrapped) ≡ element_in ns table scope t
literal_element ns table scope at stop o ps t n wrapped width act is number e wide =
    ap (λ (m : ℕ). Holds (Int m)) e
    ∙ ap (λ (w : Width). Holds (Int (n % 2 ^ bits_of w))) wide
    ∙ ap (λ (l : Option ℕ). Holds (Int (unwrap_or l 0 % 2 ^ bits_of ns.width))) (sym number)
    ∙ sym (holds_literal ns table scope at stop ps o act) ∙ sym (ap (element_in ns table scope) is)

-- data that stands as an element
pub record IsData (o : Op) (bytes : List ℕ) (at next : ℕ) (t : Tree) : Type 0 where
  pub data_there : DataThere o bytes next
  pub is : t ≡ Node o at data_there.there.stop (trees data_there.there.parts)

pub element_data : (bytes : List ℕ) (at : ℕ) (o : Op) (next : ℕ) → op_there bytes at ≡ Some (o, next) → (e : ElementThere bytes at) → IsData o bytes at next e.tree
element_data bytes at o next is e =
    let here = element_op bytes at o next is e in
    record {
      data_there = record {
        there = here.parts;
        told = ap (λ (n : ℕ). computed_size o n (trees here.parts.parts)) here.own ∙ sym (ap computed_in here.is) ∙ e.told;
      };
      is = here.is;
    }

-- some elements, and others behind them
abbrev pub behind : List Element → Elements → Elements
behind [] es = es
behind (x ∷ xs) es = value.more x (behind xs es)

pub behind_none : (xs : List Element) → listed xs ≡ behind xs value.none
behind_none [] = refl
behind_none (x ∷ xs) = ap (value.more x) (behind_none xs)

behind_push : (xs : List Element) (x : Element) (es : Elements) → behind xs (value.more x es) ≡ behind (xs ++ x ∷ []) es
behind_push [] x es = refl
behind_push (y ∷ xs) x es = ap (value.more y) (behind_push xs x es)

module _ (ns : Shown) (table : ℕ) (scope : Scope) where
  abbrev pub listed_in : List Tree → Elements
  listed_in parts = elements_in ns table scope (trees parts)

  counted_next : (n : ℕ) (parts : List Tree) → counted (suc n) (listed_in parts) ≡ value.more (first_element ns table scope parts) (counted n (listed_in (drop 1 parts)))
  counted_next n [] = refl
  counted_next n (t ∷ ts) = refl

  -- of so many elements some are made, and the others stand from a place on
  abbrev pub AreMade : ℕ → ℕ → List Element → List ℕ → ℕ → List Tree → Type 0
  AreMade count i made bytes at parts = (rest : ElementsThere bytes at) × (counted count (listed_in parts) ≡ behind made (counted (count - i) (listed_in rest.parts)))

  pub none_made : (count : ℕ) (bytes : List ℕ) (at : ℕ) (e : ElementsThere bytes at) → AreMade count 0 [] bytes at e.parts
  none_made count bytes at e =
      let all : count ≡ count - 0 = omega arith in
      (e, ap (λ (n : ℕ). counted n (listed_in e.parts)) all)

  pub one_made : (count i : ℕ) (made : List Element) (bytes : List ℕ) (at next : ℕ) (x : Element) (parts : List Tree) → i < count
      → ((es : ElementsThere bytes at) → x ≡ first_element ns table scope es.parts) → ((es : ElementsThere bytes at) → RestThere bytes next es.parts)
      → AreMade count i made bytes at parts → AreMade count (i + 1) (made ++ x ∷ []) bytes next parts
  one_made count i made bytes at next x parts lt first rest m =
      let es = m.0 in
      let r = rest es in
      let left : count - i ≡ suc (count - (i + 1)) = omega (arith, lt) in
      let n = count - (i + 1) in
      let step = ap (λ (k : ℕ). counted k (listed_in es.parts)) left ∙ counted_next n es.parts
      ∙ ap (λ (y : Element). value.more y (counted n (listed_in (drop 1 es.parts)))) (sym (first es))
      ∙ ap (λ (ps : List Tree). value.more x (counted n (listed_in ps))) (sym r.1) in
      (r.0, m.1 ∙ ap (behind made) step ∙ behind_push made x (counted n (listed_in r.0.parts)))

  pub all_made : (count i : ℕ) (made : List Element) (bytes : List ℕ) (at : ℕ) (parts : List Tree) → count ≤ i → AreMade count i made bytes at parts → listed made ≡ counted count (listed_in parts)
  all_made count i made bytes at parts le m =
      let no_more : count - i ≡ 0 = omega (arith, le) in
      behind_none made ∙ ap (λ (n : ℕ). behind made (counted n (listed_in m.0.parts))) (sym no_more) ∙ sym m.1

-- the elements of a package stand behind its count
pub record HasElements (o : Op) (bytes : List ℕ) (p : List Tree) (stop start : ℕ) : Type 0 where
  pub first : Tree
  pub rest : ElementsThere bytes start
  pub is : p ≡ first ∷ rest.parts
  pub fills : stop ≡ length bytes

module _ (bytes : List ℕ) (at : ℕ) where
  count_ends : (o : Op) (t : Tree) (ts parts : List Tree) (r : ℕ × ℕ) → parts ≡ t ∷ ts → IsCount o parts r → stop_of t ≡ r.1
  count_ends o t ts parts r is count = (subst (λ (ps : List Tree). IsCount o ps r) is count).1

  package_rest : (p : PackageThere op.Package bytes at) (r : ℕ × ℕ) → IsCount op.Package p.parts r → HasElements op.Package bytes p.parts p.stop r.1
  package_rest p r count =
      let h = p.lie in
      let told = told_each h.0 h.1 (subst (λ (ps : List Tree). computed_size op.Package p.own (trees ps) ≡ None) h.2 p.told) in
      let stop = count_ends op.Package h.0 h.1 p.parts r h.2 count in
      let fills = h.4.1 in
      let lie = subst (λ (from : ℕ). AreTerms p.arity (IsTerm code.Body p.arity p.depth) p.own spot.Element bytes from (length bytes) h.1) stop
      (subst (λ (to : ℕ). AreTerms p.arity (IsTerm code.Body p.arity p.depth) p.own spot.Element bytes (stop_of h.0) to h.1) fills h.4.0) in
      record {
        first = h.0;
        rest = record { arity = p.arity; depth = p.depth; own = p.own; parts = h.1; lie = lie; told = told.1 };
        is = h.2;
        fills = fills;
      }

  sized_rest : (p : PackageThere op.VarPackage bytes at) (r : ℕ × ℕ) → IsCount op.VarPackage p.parts r → HasElements op.VarPackage bytes p.parts p.stop r.1
  sized_rest p r count =
      let h = p.lie in
      let all = subst (λ (ps : List Tree). computed_size op.VarPackage p.own (trees ps) ≡ None) h.2 p.told in
      let told = told_each h.0 h.1 (inside_told (literal_of h.0) p.own (first_computed (trees (h.0 ∷ h.1))) all) in
      let stop = count_ends op.VarPackage h.0 h.1 p.parts r h.2 count in
      let fills = h.5.1 in
      let lie = subst (λ (from : ℕ). AreTerms p.arity (IsTerm code.Body p.arity p.depth) p.own spot.Element bytes from (length bytes) h.1) stop
      (subst (λ (to : ℕ). AreTerms p.arity (IsTerm code.Body p.arity p.depth) p.own spot.Element bytes (stop_of h.0) to h.1) fills h.5.0) in
      record {
        first = h.0;
        rest = record { arity = p.arity; depth = p.depth; own = p.own; parts = h.1; lie = lie; told = told.1 };
        is = h.2;
        fills = fills;
      }

  pub has_elements : (o : Op) (p : PackageThere o bytes at) (r : ℕ × ℕ) → IsCount o p.parts r → HasElements o bytes p.parts p.stop r.1
  has_elements op.Package p r count = package_rest p r count
  has_elements op.VarPackage p r count = sized_rest p r count
  has_elements o p r count = absurd p.is

count_content : (o : Op) (parts : List Tree) (r : ℕ × ℕ) → IsCount o parts r → content_in o (trees parts) ≡ content.Package r.0
count_content o [] r count = absurd count
count_content o (t ∷ ts) r count = count.0

-- the value of a package is that of its elements
pub package_value : (ns : Shown) (table method : ℕ) (o : Op) (parts : List Tree) (r : ℕ × ℕ) (bytes : List ℕ) (stop : ℕ) (es : Elements) → IsCount o parts r → (has : HasElements o bytes parts stop r.1)
    → es ≡ counted r.0 (elements_in ns table (At (record { 0 = method })) (trees has.rest.parts)) → Pkg es ≡ body_data ns table method o (trees parts)
package_value ns table method o parts r bytes stop es count has is =
    let scope : Scope = At (record { 0 = method }) in
    let made_of : Content → Elements → Value = λ told inside. value_told ns.width told (number_of o (trees parts)) (bytes_in (bytes_of ns.tables table) o (trees parts)) inside in
    ap Pkg is
    ∙ ap (λ (ps : List Tree). Pkg (counted r.0 (elements_behind ns table scope (trees ps)))) (sym has.is)
    ∙ ap (λ (told : Content). made_of told (elements_behind ns table scope (trees parts))) (sym (count_content o parts r count))

-- which of the two an element's operator is
pub is_data : (o x : Op) → (action o ≡ does.Literal o) ⊎ (action o ≡ does.Data o) → action o ≡ does.Data x → action o ≡ does.Data o
is_data o x (inl e) is = absurd cc
is_data o x (inr e) is = e

pub is_literal : (o : Op) → (action o ≡ does.Literal o) ⊎ (action o ≡ does.Data o) → ((x : Op) → action o ≡ does.Data x → ⊥) → action o ≡ does.Literal o
is_literal o (inl e) not = e
is_literal o (inr e) not = absurd (not o e)

-- data that is no string and no buffer is a package
pub other_data : (o : Op) → action o ≡ does.Data o → (o ≡ op.String → ⊥) → (o ≡ op.Buffer → ⊥) → IsPackage o
other_data op.String e string buffer = absurd (string refl)
other_data op.Buffer e string buffer = absurd (buffer refl)
other_data op.Package e string buffer = tt
other_data op.VarPackage e string buffer = tt
other_data o e string buffer = absurd cc
