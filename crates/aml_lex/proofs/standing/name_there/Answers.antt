use Rattle.std.proofs.Common.{◌≡◌, Option, Some, None, refl, arith}
use Rattle.std.specs.Prelude.{IsSome}
use Rattle.aml_lex.proofs.Fronts.{name_there_within}
use Rattle.aml_lex.specs.NameStrings.{NameString}
use Rattle.aml_lex.specs.Standing.{name_there}
use Rattle.aml_lex.proofs.standing.name_there.Goals as goal

none_there : (name : Option NameString) → (IsSome name → ⊥) → None ≡ name
none_there None h = refl
none_there (Some name) h = absurd (h refl)

-- past the bytes no name stands
pub returns-then-at-bytes : goal.returns-then-at-bytes
returns-then-at-bytes c =
    none_there (name_there c.args.bytes.now c.args.at) (λ some. let within = name_there_within c.args.bytes.now c.args.at some in omega (arith, within, c.if-at-bytes.true))
