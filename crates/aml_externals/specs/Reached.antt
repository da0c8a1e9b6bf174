-- Where the grammar comes to in a module's lists of definitions, before the first fault (ACPI 6.5,
-- 20.2.5).
use Rattle.std.specs.Prelude.{◌≡◌, ◌⊎◌, ℕ, zero, suc, List, [], ◌∷◌, take}
use Rattle.aml_operators.specs.declared.op.Op.{Op}
use Rattle.aml_operators.specs.declared.row.Code.TheVariants as code
use Rattle.aml_operators.specs.declared.row.Spot.TheVariants as spot
use Rattle.aml_operators.specs.declared.row.Letter.{Letter}
use Rattle.aml_operators.specs.declared.row.Letter.TheVariants.{One, Sized, Package, Branch, Terms, Fields, Bytes}
use Rattle.aml_operators.specs.Table.{letters_of}
use Rattle.aml_operators.specs.Tree.{Tree, stop_of}
use Rattle.aml_tree.specs.Opening.{Operator}
use Rattle.aml_tree.specs.Begins.{Begins}
use Rattle.aml_tree.specs.Grammar.{AreTerms, IsTerm, IsPiece, IsPackage}
use Rattle.aml_tree.specs.Body.{no_arguments}

-- definitions of a module that fill the bytes between two places, with at most so many terms one in
-- another
abbrev pub AreDefinitions : ℕ → List ℕ → ℕ → ℕ → List Tree → Type 0
AreDefinitions depth bytes from stop ts = AreTerms no_arguments
    (IsTerm code.Module no_arguments depth) from spot.Statement bytes from stop ts

-- the parts that stand before a list of terms, and where that begins
abbrev pub AreBefore : ℕ → List Letter → List ℕ → ℕ → ℕ → Type 0
AreBefore depth (One p ∷ rest) bytes at from =
    (t : Tree) × IsPiece no_arguments (IsTerm code.Module no_arguments depth) p at bytes at t
    × AreBefore depth rest bytes (stop_of t) from
AreBefore depth (Terms s ∷ rest) bytes at from = at ≡ from
AreBefore depth (Package ∷ rest) bytes at from = ⊥
AreBefore depth (Sized l ∷ rest) bytes at from = ⊥
AreBefore depth (Branch ∷ rest) bytes at from = ⊥
AreBefore depth (Fields ∷ rest) bytes at from = ⊥
AreBefore depth (Bytes ∷ rest) bytes at from = ⊥
AreBefore depth [] bytes at from = ⊥

-- a package with such parts before a list
abbrev pub HoldsList : ℕ → List Letter → List ℕ → ℕ → ℕ → ℕ → Type 0
HoldsList depth (Package ∷ rest) bytes at stop from =
    (next : ℕ) × IsPackage bytes at stop next × AreBefore depth rest (take stop bytes) next from
HoldsList depth (One p ∷ rest) bytes at stop from = ⊥
HoldsList depth (Terms s ∷ rest) bytes at stop from = ⊥
HoldsList depth (Sized l ∷ rest) bytes at stop from = ⊥
HoldsList depth (Branch ∷ rest) bytes at stop from = ⊥
HoldsList depth (Fields ∷ rest) bytes at stop from = ⊥
HoldsList depth (Bytes ∷ rest) bytes at stop from = ⊥
HoldsList depth [] bytes at stop from = ⊥

-- a definition with a list of definitions: Scope, Device, Processor, PowerResource or ThermalZone,
-- to the end of its package; its list begins behind its name and numbers
abbrev pub OpensList : ℕ → List ℕ → ℕ → ℕ → ℕ → Type 0
OpensList depth bytes at stop from =
    (o : Op) × (next : ℕ) × Begins code.Module spot.Statement bytes at (Operator o next)
    × HoldsList depth (letters_of o) bytes next stop from

-- behind the definitions that stand first in a list, the place at which a list goes on: of this
-- list, or of one that a definition there holds, to the end of its package. So many lists may stand
-- one in another.
abbrev pub ComesTo : ℕ → List ℕ → ℕ → List ℕ → ℕ → Type 0
ComesTo zero bytes from list at = ⊥
ComesTo (suc d) bytes from list at =
    (mid : ℕ) × (ts : List Tree) × AreDefinitions (suc (suc d)) bytes from mid ts
    × (((list ≡ bytes) × (at ≡ mid)) ⊎ ((stop : ℕ) × (inside : ℕ)
    × OpensList (suc d) bytes mid stop inside × ComesTo d (take stop bytes) inside list at))
