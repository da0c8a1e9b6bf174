-- Laws of values, as they are printed.
use Rattle.std.proofs.Common.{◌≡◌, ◌+◌, ◌<◌, ◌≤◌, ℕ, List, [], ◌∷◌, ◌++◌, get_or, length, take, refl, sym, ap, ◌∙◌, append_assoc, arith, codes, map}
use Rattle.std.proofs.lemmas.List.{length-take-le, map_push, take_more, length-map}
use Rattle.acpi_text.specs.Values.{element_text, element_texts, listed}
use Rattle.aml_values.specs.Views.{element, elements_of}
use Rattle.aml_values.specs.declared.value.Element as program
use Rattle.aml_objects.specs.Entries.{Entries}

-- the texts of a list's elements
pub texts_of : (entries : Entries) (es : List program.Element) → element_texts entries (elements_of es) ≡ map (λ e. element_text entries (element e)) es
unfolding element_texts
texts_of entries [] = refl
texts_of entries (e ∷ es) = ap (λ texts. element_text entries (element e) ∷ texts) (texts_of entries es)

-- a piece behind others stands behind `, `
listed_next : (pieces : List (List ℕ)) (piece : List ℕ) → 0 < length pieces
    → listed (pieces ++ piece ∷ []) ≡ listed pieces ++ (codes ", " ++ piece)
listed_next [] piece some = absurd (omega arith)
listed_next (x ∷ []) piece some = refl
listed_next (x ∷ y ∷ more) piece some =
    ap (λ rest. x ++ (codes ", " ++ rest)) (listed_next (y ∷ more) piece (omega arith))
    ∙ sym (append_assoc x (codes ", " ++ listed (y ∷ more)) (codes ", " ++ piece))

-- the texts of one element more
one_more : (entries : Entries) (es : List program.Element) (i : ℕ) (d : program.Element) → i < length es
    → element_texts entries (elements_of (take (i + 1) es))
    ≡ element_texts entries (elements_of (take i es)) ++ (element_text entries (element (get_or es i d)) ∷ [])
one_more entries es i d within =
    let text = λ (e : program.Element). element_text entries (element e) in
    texts_of entries (take (i + 1) es) ∙ ap (map text) (take_more es i d within) ∙ map_push text (take i es) (get_or es i d)
    ∙ ap (λ texts. texts ++ (text (get_or es i d) ∷ [])) (sym (texts_of entries (take i es)))

counted : (entries : Entries) (es : List program.Element) (i : ℕ) → i < length es → length (element_texts entries (elements_of (take i es))) ≡ i
counted entries es i within =
    ap length (texts_of entries (take i es)) ∙ length-map (take i es) (λ (e : program.Element). element_text entries (element e)) ∙ length-take-le i es (omega arith)

lone : (pieces : List (List ℕ)) (piece : List ℕ) → length pieces ≤ 0 → listed (pieces ++ (piece ∷ [])) ≡ listed pieces ++ piece
lone [] piece none = refl
lone (x ∷ pieces) piece none = absurd (omega arith)

-- a package's first element stands alone
pub first_element : (entries : Entries) (es : List program.Element) (i : ℕ) (d : program.Element) → i < length es → i ≤ 0
    → listed (element_texts entries (elements_of (take (i + 1) es)))
    ≡ listed (element_texts entries (elements_of (take i es))) ++ element_text entries (element (get_or es i d))
first_element entries es i d within first =
    ap listed (one_more entries es i d within)
    ∙ lone (element_texts entries (elements_of (take i es))) (element_text entries (element (get_or es i d))) (omega (arith, counted entries es i within))

-- each further one stands behind `, `
pub next_element : (entries : Entries) (es : List program.Element) (i : ℕ) (d : program.Element) → i < length es → 0 < i
    → listed (element_texts entries (elements_of (take (i + 1) es)))
    ≡ listed (element_texts entries (elements_of (take i es))) ++ (codes ", " ++ element_text entries (element (get_or es i d)))
next_element entries es i d within later =
    ap listed (one_more entries es i d within)
    ∙ listed_next (element_texts entries (elements_of (take i es))) (element_text entries (element (get_or es i d))) (omega (arith, counted entries es i within))
