use Rattle.std.proofs.Common.{◌≡◌, ◌∷◌, ap, ◌∙◌, sym, length, arith}
use Rattle.aml_regions.proofs.Parts.{parts_more, parts_one, parts_some}
use Rattle.aml_regions.specs.Text.{parts_at}
use Rattle.aml_regions.proofs.text.three_words.Goals as goal

pub returns-in_default : goal.returns-in_default
returns-in_default c = λ x y z e.
    let one = parts_one 32 c.args.line.now c.in_default.ensures.none in
    let n : 1 ≡ 3 = ap length (sym one ∙ e) in omega (arith, n)

pub returns-in_default-split_once : goal.returns-in_default-split_once
returns-in_default-split_once c = λ x y z e.
    let more = ap (parts_at 32) c.in-Some.ensures.whole ∙ parts_more 32 c.in-Some.first.now c.in-Some.behind.now c.in-Some.ensures.front in
    let one = parts_one 32 c.in-Some.behind.now c.in_default-split_once.ensures.none in
    let n : 2 ≡ 3 = ap length (sym (more ∙ ap (λ l. c.in-Some.first.now ∷ l) one) ∙ e) in omega (arith, n)

pub returns-in-Some-split_once-2 : goal.returns-in-Some-split_once-2
returns-in-Some-split_once-2 c = λ x y z e.
    let p = c.in-Some-split_once in
    let q = c.in-Some-split_once-2 in
    let more = ap (parts_at 32) c.in-Some.ensures.whole ∙ parts_more 32 c.in-Some.first.now c.in-Some.behind.now c.in-Some.ensures.front in
    let then = ap (parts_at 32) p.ensures.whole ∙ parts_more 32 p.second.now p.third.now p.ensures.front in
    let last = ap (parts_at 32) q.ensures.whole ∙ parts_more 32 q.field-0.0.now q.field-0.1.now q.ensures.front in
    let some = parts_some 32 q.field-0.1.now in
    let n = ap length (sym (more ∙ ap (λ l. c.in-Some.first.now ∷ l) (then ∙ ap (λ l. p.second.now ∷ l) last)) ∙ e) in
    omega (arith, n, some)

pub returns-in-None : goal.returns-in-None
returns-in-None c =
    let p = c.in-Some-split_once in
    let more = ap (parts_at 32) c.in-Some.ensures.whole ∙ parts_more 32 c.in-Some.first.now c.in-Some.behind.now c.in-Some.ensures.front in
    let then = ap (parts_at 32) p.ensures.whole ∙ parts_more 32 p.second.now p.third.now p.ensures.front in
    more ∙ ap (λ l. c.in-Some.first.now ∷ l) (then ∙ ap (λ l. p.second.now ∷ l) (parts_one 32 p.third.now c.in-None.ensures.none))
