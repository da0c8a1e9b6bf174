use Rattle.std.proofs.Common.{ℕ, List, Bor, [], ◌∷◌, ◌++◌, add-one, ap, append_assoc, drop, get_or, map, subst, suc, sym, ◌∙◌}
use Rattle.std.proofs.Math.ListN.{drop_of_length-le}
use Rattle.std.proofs.Math.Seq.{drop-cons}
use Rattle.std.proofs.lemmas.List.{append-nil}
use Rattle.aml_signatures.specs.Text.{AreNames}
use Rattle.aml_signatures.proofs.Named.{names_more, not_names}
use Rattle.aml_signatures.proofs.words.kinds_named.Goals as goal

-- in place of a word that is not there
abbrev no_word : Bor (List ℕ)
no_word = record { ref_ptr = (0, 0); now = [] }

pub returns-in_default : goal.returns-in_default
returns-in_default c = λ kinds are.
    let words = c.args.words.now in
    let i = c.loop-word.word-index in
    let (before, split, names) = c.loop-word.invariant in
    let next = drop-cons words i no_word c.loop-word-test.true in
    not_names before _ _ c.in_default.ensures kinds (subst (λ l. AreNames l kinds) (split ∙ ap (λ l. before ++ map (λ w. w.now) l) next) are)

pub loop-word-preserved : goal.loop-word-preserved
loop-word-preserved c =
    let words = c.args.words.now in
    let i = c.loop-word.word-index in
    let (before, split, names) = c.loop-word.invariant in
    let next = drop-cons words i no_word c.loop-word-test.true in
    let word = (get_or words i no_word).now in (
      before ++ (word ∷ []),
      rw (add-one) (split ∙ (ap (λ l. before ++ map (λ w. w.now) l) next ∙ sym (append_assoc before (word ∷ []) (map (λ w. w.now) (drop (suc i) words))))),
      subst (AreNames (before ++ (word ∷ []))) (sym c.in_ok-push.ensures.items) (names_more before _ word _ names c.in-Some.ensures),
    )

pub returns : goal.returns
returns c =
    let (before, split, names) = c.loop-word.invariant in
    let none = drop_of_length-le c.args.words.now c.loop-word-test.false in
    let all = split ∙ (ap (λ l. before ++ map (λ w. w.now) l) none ∙ append-nil before) in
    subst (λ l. AreNames l c.loop-word.kinds.items) (sym all) names
