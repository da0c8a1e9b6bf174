use Rattle.std.proofs.Common.{◌≡◌, ◌<◌, ◌≤◌, length, List, [], ◌∷◌, true, refl, arith}
use Rattle.aml_operators.specs.declared.term.Term.{Term}
use Rattle.aml_operators.specs.Tree.{views}
use Rattle.aml_meaning.specs.declared.action.Action.TheVariants as does
use Rattle.aml_bounds.specs.Shapes.{is_operand}
use Rattle.aml_judging.proofs.leaves.is_stored.Goals as goal

fewer : (ts : List Term) → length ts < 2 → true ≡ is_operand does.Store (views ts)
fewer [] lt = refl
fewer (x ∷ []) lt = refl
fewer (x ∷ y ∷ ts) lt = absurd (omega (arith, lt))

others : (ts : List Term) → 3 ≤ length ts → true ≡ is_operand does.Store (views ts)
others [] le = refl
others (x ∷ []) le = refl
others (x ∷ y ∷ []) le = absurd (omega (arith, le))
others (x ∷ y ∷ z ∷ ts) le = refl

pub returns-in-empty : goal.returns-in-empty
returns-in-empty c = fewer c.args.parts.now c.in-empty.len_below

pub returns-in-empty-2 : goal.returns-in-empty-2
returns-in-empty-2 c = others c.args.parts.now c.in-empty.len_at_least
