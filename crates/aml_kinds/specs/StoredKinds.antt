-- How the logic stores a shape: as a list of marks, from which it is read back.
use Rattle.std.specs.Prelude.{◌≡◌, ℕ, List, [], ◌∷◌, ◌⊎◌, refl}
use Rattle.std.specs.Coded.{Coded, code_by, coded_ℕ, coded_list, coded⊎}
use Rattle.std.proofs.Common.{inl, inr, ap, ◌∙◌}
use base.Stored.{coded_unit}
use Rattle.aml_kinds.specs.Kinds.{Kind, IntUpTo, BufOf, StrOf, PkgOf, AnyPkg, Mixed, Shape, bare, with, ElementKind, ValueOf, AnyName, Anything}

-- packages of any shape, every value, any name, anything, the end of a shape, a shape's beginning
abbrev pub Sign : Type 0
Sign = Unit {0} ⊎ (Unit {0} ⊎ (Unit {0} ⊎ (Unit {0} ⊎ (Unit {0} ⊎ Unit {0}))))

-- a sign, an integer's greatest, a buffer's or a string's size
abbrev pub Mark : Type 0
Mark = Sign ⊎ (ℕ ⊎ (ℕ ⊎ ℕ))

abbrev mutual
  pub written : Shape → List Mark → List Mark
  written bare marks = inl (inr (inr (inr (inr (inl tt))))) ∷ marks
  written (with e es) marks = written_element e (written es marks)

  pub written_element : ElementKind → List Mark → List Mark
  written_element (ValueOf k) marks = written_kind k marks
  written_element AnyName marks = inl (inr (inr (inl tt))) ∷ marks
  written_element Anything marks = inl (inr (inr (inr (inl tt)))) ∷ marks

  pub written_kind : Kind → List Mark → List Mark
  written_kind (IntUpTo n) marks = inr (inl n) ∷ marks
  written_kind (BufOf n) marks = inr (inr (inl n)) ∷ marks
  written_kind (StrOf n) marks = inr (inr (inr n)) ∷ marks
  written_kind (PkgOf s) marks = inl (inr (inr (inr (inr (inr tt))))) ∷ written s marks
  written_kind AnyPkg marks = inl (inl tt) ∷ marks
  written_kind Mixed marks = inl (inr (inl tt)) ∷ marks

-- an element's kind before the shape that stands first
abbrev pub placed : ElementKind → List Shape → List Shape
placed e [] = []
placed e (s ∷ others) = with e s ∷ others

-- the shape that stands first made an element's kind of the next
abbrev pub packed : List Shape → List Shape
packed [] = []
packed (s ∷ others) = placed (ValueOf (PkgOf s)) others

abbrev pub read : List Mark → List Shape
read [] = []
read (inl (inl _) ∷ marks) = placed (ValueOf AnyPkg) (read marks)
read (inl (inr (inl _)) ∷ marks) = placed (ValueOf Mixed) (read marks)
read (inl (inr (inr (inl _))) ∷ marks) = placed AnyName (read marks)
read (inl (inr (inr (inr (inl _)))) ∷ marks) = placed Anything (read marks)
read (inl (inr (inr (inr (inr (inl _))))) ∷ marks) = bare ∷ read marks
read (inl (inr (inr (inr (inr (inr _))))) ∷ marks) = packed (read marks)
read (inr (inl n) ∷ marks) = placed (ValueOf (IntUpTo n)) (read marks)
read (inr (inr (inl n)) ∷ marks) = placed (ValueOf (BufOf n)) (read marks)
read (inr (inr (inr n)) ∷ marks) = placed (ValueOf (StrOf n)) (read marks)

mutual
  pub read-written : (s : Shape) (marks : List Mark) → read (written s marks) ≡ s ∷ read marks
  read-written bare marks = refl
  read-written (with e es) marks =
      read-written_element e (written es marks) ∙ ap (placed e) (read-written es marks)

  pub read-written_element : (e : ElementKind) (marks : List Mark) →
      read (written_element e marks) ≡ placed e (read marks)
  read-written_element (ValueOf k) marks = read-written_kind k marks
  read-written_element AnyName marks = refl
  read-written_element Anything marks = refl

  pub read-written_kind : (k : Kind) (marks : List Mark) →
      read (written_kind k marks) ≡ placed (ValueOf k) (read marks)
  read-written_kind (IntUpTo n) marks = refl
  read-written_kind (BufOf n) marks = refl
  read-written_kind (StrOf n) marks = refl
  read-written_kind (PkgOf s) marks = ap packed (read-written s marks)
  read-written_kind AnyPkg marks = refl
  read-written_kind Mixed marks = refl

abbrev pub first_shape : List Shape → Shape
first_shape [] = bare
first_shape (s ∷ others) = s

abbrev pub mark_code : Coded Mark
mark_code =
    coded⊎ (coded⊎ coded_unit
    (coded⊎ coded_unit (coded⊎ coded_unit (coded⊎ coded_unit (coded⊎ coded_unit coded_unit)))))
    (coded⊎ coded_ℕ (coded⊎ coded_ℕ coded_ℕ))

abbrev pub shape_code : Coded Shape
shape_code =
    code_by (List Mark) (coded_list mark_code) (λ s. written s [])
    (λ marks. first_shape (read marks)) (λ s. ap first_shape (read-written s []))
