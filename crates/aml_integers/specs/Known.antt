-- Which of what is known around a body decides whether it evaluates integers alone.
use Rattle.std.specs.Prelude.{◌≡◌, ℕ, List, None, slice_get, unwrap_or, Bool, false}
use Rattle.aml_operators.specs.Tree.{none}
use Rattle.aml_meaning.specs.Within.{Callee, Methods}
use Rattle.aml_judged.specs.Judged.{Around}

-- whether the method with a number evaluates integers alone, as it is marked
abbrev pub marked : List Bool → ℕ → Bool
marked only k = unwrap_or (slice_get only k) false

-- of these methods this one's body has what is known around it
pub record IsAround (here : Around) (methods : Methods) (m : Callee) : Type 0 where
  pub width : here.width ≡ methods.width
  pub field : (i : ℕ) → here.field i ≡ methods.field i
  pub buffer_field : (i : ℕ) → here.buffer_field i ≡ methods.buffer_field i
  pub link : (at : ℕ) → here.link at ≡ m.link at

-- methods and a body of which no more is said than what is known around a body
abbrev pub methods_in : Around → Methods
methods_in here = record {
  width = here.width;
  object = here.object;
  field = here.field;
  buffer_field = here.buffer_field;
  callee = λ k. None;
  is_interface = λ text. false;
}

abbrev pub body_in : Around → Callee
body_in here = record {
  table = here.table;
  opcode = 0;
  link = here.link;
  lone = here.lone;
  literal = here.literal;
  body = none;
}
