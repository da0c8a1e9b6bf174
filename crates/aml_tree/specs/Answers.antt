-- What holds of an answer, and of its fault.
use Rattle.std.specs.Prelude.{Result, Ok, Err}
use Rattle.aml_tree.specs.declared.fault.Refusal.{Refusal}

abbrev pub Answers : {X : Type 0} → Result X Refusal → (X → Type 0) → (Refusal → Type 0) → Type 0
Answers (Ok x) P F = P x
Answers (Err f) P F = F f
