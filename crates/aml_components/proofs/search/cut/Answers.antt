use Rattle.std.proofs.Common.{◌≡◌, ◌-◌, ◌∙◌, ℕ, List, length, ap, arith}
use Rattle.std.specs.Prelude.{slice_get, unwrap_or}
use Rattle.aml_components.proofs.Cutting.{cut_all, cut_pop}
use Rattle.aml_components.proofs.search.cut.Goals as goal

pub roots-preserved : goal.roots-preserved
roots-preserved c =
    let now = c.roots.roots.items in
    let last : c.unwrap_or.result ≡ unwrap_or (slice_get now (length now - 1)) 0 =
    c.unwrap_or.ensures ∙ ap (λ o. unwrap_or o 0) (c.copied.ensures ∙ c.last.ensures.value)
    ∙ ap (λ (xs : List ℕ). unwrap_or (slice_get xs (length xs - 1)) 0) c.deref.ensures.value in
    cut_pop c.args.roots.now.items c.args.place now c.pop.new.self.items c.pop.result
    c.pop.ensures.items (omega (arith, last, c.roots-test.true)) c.roots.invariant

pub returns : goal.returns
returns c =
    let now = c.roots.roots.items in
    let last : c.unwrap_or.result ≡ unwrap_or (slice_get now (length now - 1)) 0 =
    c.unwrap_or.ensures ∙ ap (λ o. unwrap_or o 0) (c.copied.ensures ∙ c.last.ensures.value)
    ∙ ap (λ (xs : List ℕ). unwrap_or (slice_get xs (length xs - 1)) 0) c.deref.ensures.value in
    cut_all c.args.roots.now.items c.args.place now
    (omega (arith, last, c.roots-test.false)) c.roots.invariant
