-- How the logic stores a package: as a list of marks, from which it is read back.
use Rattle.std.specs.Prelude.{◌≡◌, ℕ, List, [], ◌∷◌, Option, ◌⊎◌, refl}
use Rattle.std.specs.Coded.{Coded, code_by, coded_ℕ, coded_list, coded_option, coded⊎}
use Rattle.std.proofs.Common.{inl, inr, ap, ◌∙◌}
use base.Stored.{coded_unit}
use Rattle.aml_paths.specs.declared.scope.ObjectId.{ObjectId}
use Rattle.aml_values.specs.Values.{Value, Int, Buf, Str, Pkg, Elements, none, more, Element, Holds, Named, Unset}

-- the end of a package's elements, a package's beginning, an unset element
abbrev pub Sign : Type 0
Sign = Unit {0} ⊎ (Unit {0} ⊎ Unit {0})

-- an integer, a buffer, a string, a name, or a sign
abbrev pub Mark : Type 0
Mark = ℕ ⊎ (List ℕ ⊎ (List ℕ ⊎ (Option ObjectId ⊎ Sign)))

abbrev mutual
  pub written : Elements → List Mark → List Mark
  written none marks = inr (inr (inr (inr (inl tt)))) ∷ marks
  written (more e es) marks = written_element e (written es marks)

  pub written_element : Element → List Mark → List Mark
  written_element (Holds v) marks = written_value v marks
  written_element (Named object) marks = inr (inr (inr (inl object))) ∷ marks
  written_element Unset marks = inr (inr (inr (inr (inr (inr tt))))) ∷ marks

  pub written_value : Value → List Mark → List Mark
  written_value (Int n) marks = inl n ∷ marks
  written_value (Buf bytes) marks = inr (inl bytes) ∷ marks
  written_value (Str characters) marks = inr (inr (inl characters)) ∷ marks
  written_value (Pkg es) marks = inr (inr (inr (inr (inr (inl tt))))) ∷ written es marks

-- an element before the elements that stand first
abbrev pub placed : Element → List Elements → List Elements
placed e [] = []
placed e (es ∷ others) = more e es ∷ others

-- the elements that stand first made an element of the next
abbrev pub packed : List Elements → List Elements
packed [] = []
packed (es ∷ others) = placed (Holds (Pkg es)) others

abbrev pub read : List Mark → List Elements
read [] = []
read (inl n ∷ marks) = placed (Holds (Int n)) (read marks)
read (inr (inl bytes) ∷ marks) = placed (Holds (Buf bytes)) (read marks)
read (inr (inr (inl characters)) ∷ marks) = placed (Holds (Str characters)) (read marks)
read (inr (inr (inr (inl object))) ∷ marks) = placed (Named object) (read marks)
read (inr (inr (inr (inr (inl _)))) ∷ marks) = none ∷ read marks
read (inr (inr (inr (inr (inr (inl _))))) ∷ marks) = packed (read marks)
read (inr (inr (inr (inr (inr (inr _))))) ∷ marks) = placed Unset (read marks)

mutual
  pub read-written : (es : Elements) (marks : List Mark) → read (written es marks) ≡ es ∷ read marks
  read-written none marks = refl
  read-written (more e es) marks =
      read-written_element e (written es marks) ∙ ap (placed e) (read-written es marks)

  pub read-written_element : (e : Element) (marks : List Mark) →
      read (written_element e marks) ≡ placed e (read marks)
  read-written_element (Holds v) marks = read-written_value v marks
  read-written_element (Named object) marks = refl
  read-written_element Unset marks = refl

  pub read-written_value : (v : Value) (marks : List Mark) →
      read (written_value v marks) ≡ placed (Holds v) (read marks)
  read-written_value (Int n) marks = refl
  read-written_value (Buf bytes) marks = refl
  read-written_value (Str characters) marks = refl
  read-written_value (Pkg es) marks = ap packed (read-written es marks)

abbrev pub first_elements : List Elements → Elements
first_elements [] = none
first_elements (es ∷ others) = es

abbrev pub object_code : Coded ObjectId
object_code = code_by ℕ coded_ℕ (λ o. o.0) (λ n. record { 0 = n }) (λ _. refl)

abbrev pub mark_code : Coded Mark
mark_code =
    coded⊎ coded_ℕ (coded⊎ (coded_list coded_ℕ) (coded⊎ (coded_list coded_ℕ)
    (coded⊎ (coded_option object_code) (coded⊎ coded_unit (coded⊎ coded_unit coded_unit)))))

abbrev pub elements_code : Coded Elements
elements_code =
    code_by (List Mark) (coded_list mark_code) (λ es. written es [])
    (λ marks. first_elements (read marks)) (λ es. ap first_elements (read-written es []))
