-- Laws of names that are told.
use Rattle.std.proofs.Common.{◌≡◌, ◌<◌, ◌≤◌, ◌+◌, ℕ, zero, suc, List, [], ◌∷◌, ◌++◌, Some, length, take, refl, sym, ap, ◌∙◌, append_assoc, arith}
use Rattle.std.specs.Prelude.{replicate, slice_get}
use Rattle.std.proofs.lemmas.List.{length-take-le, take_more}
use Rattle.std.proofs.lemmas.Option.{get_or_from_slice_get, slice_get_within}
use Rattle.aml_paths.specs.Printed.{segments_text}

-- one segment more
one_longer : (segs : List (List ℕ)) (i : ℕ) (seg : List ℕ) → slice_get segs i ≡ Some seg → take (i + 1) segs ≡ take i segs ++ seg ∷ []
one_longer segs i seg is =
    take_more segs i seg (slice_get_within segs i seg is)
    ∙ ap (λ last. take i segs ++ last ∷ []) (get_or_from_slice_get segs i seg seg is)

-- a segment behind others stands behind a `.`
join_next : (pieces : List (List ℕ)) (piece : List ℕ) → 0 < length pieces
    → segments_text (pieces ++ piece ∷ []) ≡ segments_text pieces ++ (46 ∷ piece)
join_next [] piece some = absurd (omega arith)
join_next (x ∷ []) piece some = refl
join_next (x ∷ y ∷ more) piece some =
    ap (λ rest. x ++ (46 ∷ rest)) (join_next (y ∷ more) piece (omega arith))
    ∙ sym (append_assoc x (46 ∷ segments_text (y ∷ more)) (46 ∷ piece))

-- a name's first segment stands alone
pub first_of_name : (segs : List (List ℕ)) (i : ℕ) (seg : List ℕ) → slice_get segs i ≡ Some seg → i ≤ 0
    → segments_text (take (i + 1) segs) ≡ segments_text (take i segs) ++ seg
first_of_name segs zero seg is first = ap segments_text (one_longer segs zero seg is)
first_of_name segs (suc i) seg is first = absurd (omega arith)

-- each further one stands behind a `.`
pub next_of_name : (segs : List (List ℕ)) (i : ℕ) (seg : List ℕ) → slice_get segs i ≡ Some seg → 0 < i
    → segments_text (take (i + 1) segs) ≡ segments_text (take i segs) ++ (46 ∷ seg)
next_of_name segs i seg is later =
    let within = slice_get_within segs i seg is in
    let size = length-take-le i segs (omega (arith, within)) in
    ap segments_text (one_longer segs i seg is) ∙ join_next (take i segs) seg (omega (arith, size, later))

-- one more of the same stands behind so many
one_longer_of : (n x : ℕ) → replicate (suc n) x ≡ replicate n x ++ x ∷ []
one_longer_of zero x = refl
one_longer_of (suc n) x = ap (λ rest. x ∷ rest) (one_longer_of n x)

pub one_more : (n x : ℕ) → replicate (n + 1) x ≡ replicate n x ++ x ∷ []
one_more n x = ap (λ (m : ℕ). replicate m x) (let same : n + 1 ≡ suc n = omega arith in same) ∙ one_longer_of n x

-- a piece added behind what was added before
pub added : (start before text piece new whole : List ℕ) → new ≡ text ++ piece → text ≡ start ++ before → whole ≡ before ++ piece
    → new ≡ start ++ whole
added start before text piece new whole new_is text_is whole_is =
    new_is ∙ ap (λ text. text ++ piece) text_is ∙ append_assoc start before piece ∙ ap (λ text. start ++ text) (sym whole_is)
