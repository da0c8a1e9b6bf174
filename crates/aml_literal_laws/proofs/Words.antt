-- What a literal holds is small, where its packages are counted and the bytes of its table are bytes.
use Rattle.std.proofs.Common.{◌≡◌, ℕ, zero, suc, ◌≤◌, List, refl, ap, subst, sym, Option}
use Rattle.aml_operators.specs.declared.op.Op.{Op}
use Rattle.aml_operators.specs.declared.op.Op.TheVariants as op
use Rattle.aml_operators.specs.Tree.{Tree, Trees, Node, none, more}
use Rattle.aml_paths.specs.declared.scope.ObjectId.{ObjectId}
use Rattle.aml_paths.specs.declared.scope.Scope.{Scope}
use Rattle.aml_objects.specs.declared.object.Content.{Content}
use Rattle.aml_objects.specs.declared.object.Content.TheVariants as content
use Rattle.aml_namespace.specs.Bodies.{bytes_of}
use Rattle.aml_namespace.specs.Load.{Shown}
use Rattle.aml_namespace.specs.Made.{content_in}
use Rattle.aml_objects.specs.Widths.{bits_of}
use Rattle.aml_values.specs.Values as value
use Rattle.aml_values.specs.Values.{Value, Elements, count}
use Rattle.aml_kinds.specs.Fits.{most_elements}
use Rattle.aml_contents.specs.FirstContents.{bytes_in, counted, element_by, element_in, elements_behind, elements_in, named, number_of, value_of, value_told, value_with}
use Rattle.aml_judged.specs.Safe.{AreBytes, AreWords, IsWord, IsWordElement}
use Rattle.aml_judged.proofs.Fits.{in_range}
use Rattle.aml_literal_laws.proofs.Bytes.{bytes_in_are, filled_bytes}
use Rattle.aml_literal_laws.proofs.Counted.{AreCounted, IsCounted, IsShort}

-- so many elements are so many
count_counted : (n : ℕ) (es : Elements) → count (counted n es) ≡ n
count_counted zero es = refl
count_counted (suc n) value.none = ap suc (count_counted n value.none)
count_counted (suc n) (value.more e es) = ap suc (count_counted n es)

counted_words : (width n : ℕ) (es : Elements) → AreWords width es → AreWords width (counted n es)
counted_words width zero es h = tt
counted_words width (suc n) value.none h = (tt, counted_words width n value.none tt)
counted_words width (suc n) (value.more e es) h = (h.0, counted_words width n es h.1)

element_by_word : (width : ℕ) (o : Op) (id : Option ObjectId) (v : Value) → IsWord width v → IsWordElement width (element_by o id v)
element_by_word width op.NameString id v h = tt
element_by_word width o id v h = h

module _ (ns : Shown) (table : ℕ) (scope : Scope) (bytes : AreBytes (bytes_of ns.tables table)) where
  pub told_word : (told : Content) (number : ℕ) (bs : List ℕ) (es : Elements) → IsShort told → AreBytes bs → AreWords (bits_of ns.width) es → IsWord (bits_of ns.width) (value_told ns.width told number bs es)
  told_word content.Integer number bs es short b h = in_range (bits_of ns.width) number
  told_word (content.Buffer size) number bs es short b h = filled_bytes size bs b
  told_word (content.String size) number bs es short b h = filled_bytes size bs b
  told_word (content.Package size) number bs es short b h = (subst (λ n. n ≤ most_elements) (sym (count_counted size es)) short, counted_words (bits_of ns.width) size es h)

  with_word : (o : Op) (parts : Trees) (es : Elements) → IsShort (content_in o parts) → AreWords (bits_of ns.width) es → IsWord (bits_of ns.width) (value_with ns table scope (content_in o parts) o parts es)
  with_word o parts es short h = told_word (content_in o parts) (number_of o parts) (bytes_in (bytes_of ns.tables table) o parts) es short (bytes_in_are (bytes_of ns.tables table) o parts bytes) h

  mutual
    element_word : (t : Tree) → IsCounted t → IsWordElement (bits_of ns.width) (element_in ns table scope t)
    element_word (Node o at stop parts) h =
        element_by_word (bits_of ns.width) o (named ns table scope at) (value_with ns table scope (content_in o parts) o parts (elements_behind ns table scope parts))
        (with_word o parts (elements_behind ns table scope parts) h.0 (behind_words parts h.1))

    elements_words : (ts : Trees) → AreCounted ts → AreWords (bits_of ns.width) (elements_in ns table scope ts)
    elements_words none h = tt
    elements_words (more t ts) h = (element_word t h.0, elements_words ts h.1)

    pub behind_words : (ts : Trees) → AreCounted ts → AreWords (bits_of ns.width) (elements_behind ns table scope ts)
    behind_words none h = tt
    behind_words (more size ts) h = elements_words ts h.1

  pub value_word : (o : Op) (parts : Trees) → IsShort (content_in o parts) → AreCounted parts → IsWord (bits_of ns.width) (value_of ns table scope (content_in o parts) o parts)
  value_word o parts short h = with_word o parts (elements_behind ns table scope parts) short (behind_words parts h)
