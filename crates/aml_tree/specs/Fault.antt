-- Answers of readers, and the first fault that ends them.
use Rattle.std.specs.Prelude.{◌≡◌, ℕ, Result, Ok, Err}
use Rattle.aml_lex.specs.declared.fault.LexFault.{LexFault}
use Rattle.aml_lex.specs.declared.fault.LexCause.TheVariants.{Truncated}
use Rattle.aml_tree.specs.declared.fault.TreeCause.{TreeCause}
use Rattle.aml_tree.specs.declared.fault.TreeCause.TheVariants.{Lexical}
use Rattle.aml_tree.specs.declared.fault.Refusal.{Refusal}
use Rattle.aml_tree.specs.declared.fault.TreeFault.{TreeFault}
use Rattle.aml_tree.specs.declared.fault.TreeFault.TheVariants.{NoMemory, Refused}

abbrev pub refusal : TreeCause → ℕ → Refusal
refusal cause at = record { cause = cause; at = at }

-- a lexical fault, told as a term's
abbrev pub lexical : LexFault → Refusal
lexical fault = refusal (Lexical fault.cause) fault.at

-- the bytes end too early
abbrev pub truncated : ℕ → Refusal
truncated end = refusal (Lexical Truncated) end

abbrev pub refused : {X : Type 0} → Result X LexFault → Result X Refusal
refused (Ok x) = Ok x
refused (Err fault) = Err (lexical fault)

infixl 10 ◌>>=◌
abbrev pub ◌>>=◌ : {X Y : Type 0} → Result X Refusal → (X → Result Y Refusal) → Result Y Refusal
(Ok x) >>= f = f x
(Err f) >>= next = Err f

-- a fault of the program is the definition's, unless memory ran out
abbrev pub Fails : {Y : Type 0} → TreeFault → Result Y Refusal → Type 0
Fails NoMemory answer = Unit {0}
Fails (Refused f) answer = answer ≡ Err f

-- the program's answer, seen by a view of its value, is that of a definition, unless memory ran out
abbrev pub ReadsAs : {X Y : Type 0} → (X → Y) → Result X TreeFault → Result Y Refusal → Type 0
ReadsAs view (Ok x) answer = answer ≡ Ok (view x)
ReadsAs view (Err fault) answer = Fails fault answer

abbrev pub same : {X : Type 0} → X → X
same x = x

-- an answer that is no want of memory
abbrev pub TakesNone : {X : Type 0} → Result X TreeFault → Type 0
TakesNone (Err NoMemory) = ⊥
TakesNone answer = Unit {0}
