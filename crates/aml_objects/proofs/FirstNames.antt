-- The predefined names, one by one.
use Rattle.std.proofs.Common.{◌≡◌, ℕ, zero, suc, ◌+◌, ◌<◌, [], ◌∷◌, ◌++◌, get_or, take, map, None, sym, ap, ◌∙◌, arith}
use Rattle.std.proofs.lemmas.List.{take_more, map_push}
use Rattle.aml_lex.specs.declared.names.NameSeg.{NameSeg}
use Rattle.aml_objects.specs.declared.object.Object.{Object}
use Rattle.aml_objects.specs.Entries.{Entries, number_of}
use Rattle.aml_objects.specs.Predefined.{entry_of, predefined_objects}

-- the first of them
abbrev pub first_entries : ℕ → ℕ → Entries
first_entries os_length i = map entry_of (take i (predefined_objects os_length))

-- each has a path of its own
pub next_is_new : (os_length i : ℕ) (e : NameSeg × Object) → i < 9 → e ≡ get_or (predefined_objects os_length) i e → number_of (first_entries os_length i) (e.0.bytes ∷ []) ≡ None
next_is_new os_length zero e lt is = ap (λ (x : NameSeg × Object). number_of (first_entries os_length zero) (x.0.bytes ∷ [])) is
next_is_new os_length (suc zero) e lt is = ap (λ (x : NameSeg × Object). number_of (first_entries os_length (suc zero)) (x.0.bytes ∷ [])) is
next_is_new os_length (suc (suc zero)) e lt is = ap (λ (x : NameSeg × Object). number_of (first_entries os_length (suc (suc zero))) (x.0.bytes ∷ [])) is
next_is_new os_length (suc (suc (suc zero))) e lt is = ap (λ (x : NameSeg × Object). number_of (first_entries os_length (suc (suc (suc zero)))) (x.0.bytes ∷ [])) is
next_is_new os_length (suc (suc (suc (suc zero)))) e lt is = ap (λ (x : NameSeg × Object). number_of (first_entries os_length (suc (suc (suc (suc zero))))) (x.0.bytes ∷ [])) is
next_is_new os_length (suc (suc (suc (suc (suc zero))))) e lt is = ap (λ (x : NameSeg × Object). number_of (first_entries os_length (suc (suc (suc (suc (suc zero)))))) (x.0.bytes ∷ [])) is
next_is_new os_length (suc (suc (suc (suc (suc (suc zero)))))) e lt is = ap (λ (x : NameSeg × Object). number_of (first_entries os_length (suc (suc (suc (suc (suc (suc zero))))))) (x.0.bytes ∷ [])) is
next_is_new os_length (suc (suc (suc (suc (suc (suc (suc zero))))))) e lt is = ap (λ (x : NameSeg × Object). number_of (first_entries os_length (suc (suc (suc (suc (suc (suc (suc zero)))))))) (x.0.bytes ∷ [])) is
next_is_new os_length (suc (suc (suc (suc (suc (suc (suc (suc zero)))))))) e lt is = ap (λ (x : NameSeg × Object). number_of (first_entries os_length (suc (suc (suc (suc (suc (suc (suc (suc zero))))))))) (x.0.bytes ∷ [])) is
next_is_new os_length (suc (suc (suc (suc (suc (suc (suc (suc (suc i))))))))) e lt is = absurd (omega arith)

-- one more of them
pub first_entries-more : (os_length i : ℕ) (e : NameSeg × Object) → i < 9 → e ≡ get_or (predefined_objects os_length) i e → first_entries os_length (i + 1) ≡ first_entries os_length i ++ entry_of e ∷ []
first_entries-more os_length i e lt is =
    let all = predefined_objects os_length in
    ap (map entry_of) (take_more all i e lt ∙ ap (λ (d : NameSeg × Object). take i all ++ d ∷ []) (sym is)) ∙ map_push entry_of (take i all) e
