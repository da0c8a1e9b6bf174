-- Laws of the grammar: what stands in bytes is one thing, with its names in the bytes, of the shape
-- that its letters name; and faults stand within the bytes.
use Rattle.std.specs.Prelude.{◌≡◌, ◌≤◌, ℕ, List, [], length}
use Rattle.aml_operators.specs.declared.row.Code.TheVariants as code
use Rattle.aml_operators.specs.declared.row.Spot.TheVariants as spot
use Rattle.aml_operators.specs.Tree.{Tree, trees}
use Rattle.aml_operators.specs.Shape.{MayAllStand, AreShaped}
use Rattle.aml_lex.specs.NameStrings.{NameString}
use Rattle.aml_tree.specs.declared.fault.Refusal.{Refusal}
use Rattle.aml_tree.specs.Body.{IsBody, FaultyBody, IsModule, FaultyModule}
use Rattle.aml_tree.specs.Spelled.{AreSpelled}

-- a table has at most one module
abbrev pub OneModule : Type 0
OneModule = (bytes : List ℕ) (ts us : List Tree) → IsModule bytes ts → IsModule bytes us → ts ≡ us

-- bytes have at most one body from a place on, where each name takes a fixed number of arguments
abbrev pub OneBody : Type 0
OneBody = (arity : NameString → ℕ → ℕ) (bytes : List ℕ) (from : ℕ) (ts us : List Tree) →
    IsBody arity bytes from ts → IsBody arity bytes from us → ts ≡ us

-- a table has at most one fault as a module
abbrev pub OneModuleFault : Type 0
OneModuleFault =
    (bytes : List ℕ) (f g : Refusal) → FaultyModule bytes f → FaultyModule bytes g → f ≡ g

-- bytes have at most one fault as a body from a place on
abbrev pub OneBodyFault : Type 0
OneBodyFault = (arity : NameString → ℕ → ℕ) (bytes : List ℕ) (from : ℕ) (f g : Refusal) →
    FaultyBody arity [] bytes from f → FaultyBody arity [] bytes from g → f ≡ g

-- a module's fault stands within the table or at its end
abbrev pub ModuleFaultsWithin : Type 0
ModuleFaultsWithin = (bytes : List ℕ) (f : Refusal) → FaultyModule bytes f → f.at ≤ length bytes

-- a body's fault stands within the bytes or at their end
abbrev pub BodyFaultsWithin : Type 0
BodyFaultsWithin = (arity : NameString → ℕ → ℕ) (bytes : List ℕ) (from : ℕ) (f : Refusal) →
    FaultyBody arity [] bytes from f → f.at ≤ length bytes

-- each name, each text and each run of bytes of a module stands in the table
abbrev pub ModuleIsSpelled : Type 0
ModuleIsSpelled =
    (bytes : List ℕ) (ts : List Tree) → IsModule bytes ts → AreSpelled bytes (trees ts)

-- and of a body in its bytes
abbrev pub BodyIsSpelled : Type 0
BodyIsSpelled = (arity : NameString → ℕ → ℕ) (bytes : List ℕ) (from : ℕ) (ts : List Tree) →
    IsBody arity bytes from ts → AreSpelled bytes (trees ts)

-- a module is made of what may be a statement there, and each operator has just the parts that its
-- letters name
abbrev pub ModuleIsShaped : Type 0
ModuleIsShaped = (bytes : List ℕ) (ts : List Tree) → IsModule bytes ts →
    MayAllStand code.Module spot.Statement (trees ts) × AreShaped code.Module (trees ts)

-- the same of a body
abbrev pub BodyIsShaped : Type 0
BodyIsShaped = (arity : NameString → ℕ → ℕ) (bytes : List ℕ) (from : ℕ) (ts : List Tree) →
    IsBody arity bytes from ts →
    MayAllStand code.Body spot.Statement (trees ts) × AreShaped code.Body (trees ts)
