use Rattle.std.proofs.Common.{◌∙◌, inl, inr, refl}
use Rattle.aml_integers.proofs.names.asked.Goals as goal

pub returns-in-Data : goal.returns-in-Data
returns-in-Data g c = λ only. c.name.ensures only ∙ elim c.in-Data.is [
  | inl p ↦ rw p.1 refl
  | inr q ↦ elim q [
    | inl p ↦ rw p.1 refl
    | inr p ↦ rw p.1 refl
  ]
]
