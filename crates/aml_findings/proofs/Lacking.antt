-- What loops lack, by how many terms stand in their tests.
use Rattle.std.proofs.Common.{◌≡◌, ◌≤◌, ℕ, List, [], ◌∷◌, length, Bool, Option, refl, arith}
use Rattle.aml_operators.specs.Tree.{views}
use Rattle.aml_operators.specs.declared.term.Term.{Term}
use Rattle.aml_findings.specs.Lacks.{alone_lack, compared_lack, limited_lack}
use Rattle.aml_findings.specs.declared.finding.Change.{Change}
use Rattle.aml_findings.specs.declared.finding.LoopLack.TheVariants as lack

-- a local with parts is none
pub not_alone : (is_stored : ℕ → Bool) (l : ℕ) (ts : List Term) → 1 ≤ length ts → alone_lack is_stored l (views ts) ≡ lack.Test
not_alone is_stored l [] h = absurd (omega arith)
not_alone is_stored l (t ∷ ts) h = refl

pub not_limited : (is_stored : ℕ → Bool) (wanted : Change) (l : ℕ) (ts : List Term) (limit : Option ℕ) → 1 ≤ length ts → limited_lack is_stored wanted l (views ts) limit ≡ lack.Test
not_limited is_stored wanted l [] limit h = absurd (omega arith)
not_limited is_stored wanted l (t ∷ ts) limit h = refl

-- two terms are compared
pub no_comparison : (width : ℕ) (is_stored : ℕ → Bool) (wanted : Change) (ts : List Term) → (length ts ≡ 2 → ⊥) → compared_lack width is_stored wanted (views ts) ≡ lack.Test
no_comparison width is_stored wanted [] h = refl
no_comparison width is_stored wanted (a ∷ []) h = refl
no_comparison width is_stored wanted (a ∷ b ∷ []) h = absurd (h refl)
no_comparison width is_stored wanted (a ∷ b ∷ c ∷ ts) h = refl
