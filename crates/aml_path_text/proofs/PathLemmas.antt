-- Laws of paths, as they are printed.
use Rattle.std.proofs.Common.{◌≡◌, ◌<◌, ◌≤◌, ◌+◌, ℕ, zero, suc, List, [], ◌∷◌, ◌++◌, get_or, length, take, refl, sym, ap, ◌∙◌, append_assoc, arith}
use Rattle.std.proofs.lemmas.List.{length-take-le, map_push, take_more, length-map}
use Rattle.aml_lex.specs.declared.names.NameSeg.{NameSeg}
use Rattle.aml_paths.specs.Printed.{segments_text}
use Rattle.aml_paths.specs.Steps.{path_seen}

-- a segment behind others stands behind a `.`
join_next : (pieces : List (List ℕ)) (piece : List ℕ) → 0 < length pieces
    → segments_text (pieces ++ piece ∷ []) ≡ segments_text pieces ++ (46 ∷ piece)
join_next [] piece some = absurd (omega arith)
join_next (x ∷ []) piece some = refl
join_next (x ∷ y ∷ more) piece some =
    ap (λ rest. x ++ (46 ∷ rest)) (join_next (y ∷ more) piece (omega arith))
    ∙ sym (append_assoc x (46 ∷ segments_text (y ∷ more)) (46 ∷ piece))

-- a path's first segment stands alone
pub first_segment : (path : List NameSeg) (i : ℕ) (d : NameSeg) → i < length path → i ≤ 0
    → segments_text (path_seen (take (i + 1) path)) ≡ segments_text (path_seen (take i path)) ++ (get_or path i d).bytes
first_segment [] i d within first = absurd (omega arith)
first_segment (segment ∷ more) zero d within first = refl
first_segment (segment ∷ more) (suc i) d within first = absurd (omega arith)

taken : (path : List NameSeg) (i : ℕ) → i < length path → length (path_seen (take i path)) ≡ i
taken path i within = length-map (take i path) (λ (segment : NameSeg). segment.bytes) ∙ length-take-le i path (omega arith)

-- each further one stands behind a `.`
pub next_segment : (path : List NameSeg) (i : ℕ) (d : NameSeg) → i < length path → 0 < i
    → segments_text (path_seen (take (i + 1) path)) ≡ segments_text (path_seen (take i path)) ++ (46 ∷ (get_or path i d).bytes)
next_segment path i d within later =
    ap (λ segments. segments_text (path_seen segments)) (take_more path i d within)
    ∙ ap segments_text (map_push (λ (segment : NameSeg). segment.bytes) (take i path) (get_or path i d))
    ∙ join_next (path_seen (take i path)) (get_or path i d).bytes (omega (arith, taken path i within))

-- a piece added behind what was added before
pub added : (start before line piece new whole : List ℕ) → new ≡ line ++ piece → line ≡ start ++ before → whole ≡ before ++ piece
    → new ≡ start ++ whole
added start before line piece new whole new_is line_is whole_is =
    new_is ∙ ap (λ text. text ++ piece) line_is ∙ append_assoc start before piece ∙ ap (λ text. start ++ text) (sym whole_is)
