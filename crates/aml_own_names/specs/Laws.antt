-- The law of own names.
use Rattle.std.specs.Prelude.{◌≡◌, ℕ, List, [], length, map, reverse}
use Rattle.aml_lex.specs.NameStrings.{NameString}
use Rattle.aml_lex.specs.declared.names.NameSeg.{NameSeg}
use Rattle.aml_operators.specs.Tree.{Tree}
use Rattle.aml_tree.specs.Body.{AreStatements, IsBody}
use Rattle.aml_own_names.specs.OwnNames.{StandAtTop, own_names, with_standing}

-- the segments that take no arguments behind a body's statements, the last made first, are those of
-- its own names
abbrev pub OwnNamesAreTheGrammars : Type 0
OwnNamesAreTheGrammars = (arity : NameString → ℕ → ℕ) (bytes : List ℕ) (from stop : ℕ)
    (body : List Tree) (last : List NameSeg) → AreStatements arity [] bytes from body stop last
    → last ≡ reverse (map (λ own. own.segment) (own_names bytes body))

-- a body's statements are terms by one count of what names take: an own name none where it stands,
-- each other name what it took where the body was read
abbrev pub OneCountServes : Type 0
OneCountServes = (arity : NameString → ℕ → ℕ) (bytes : List ℕ) (from : ℕ) (ts : List Tree) →
    IsBody arity bytes from ts
    → StandAtTop (with_standing arity (own_names bytes ts)) bytes from (length bytes) ts
