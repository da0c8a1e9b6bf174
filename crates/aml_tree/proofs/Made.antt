-- The name that a statement makes stands where the statement has it.
use Rattle.std.proofs.Common.{◌≡◌, ℕ, List, [], ◌∷◌, Some, refl}
use Rattle.std.specs.Prelude.{IsSome}
use Rattle.aml_operators.specs.declared.op.Op.TheVariants as op
use Rattle.aml_operators.specs.declared.row.Code.TheVariants as code
use Rattle.aml_operators.specs.declared.row.Spot.TheVariants as spot
use Rattle.aml_operators.specs.declared.row.Letter.{Letter}
use Rattle.aml_operators.specs.declared.row.Letter.TheVariants.{One}
use Rattle.aml_operators.specs.declared.row.Piece.{Piece}
use Rattle.aml_operators.specs.declared.row.Piece.TheVariants as piece
use Rattle.aml_operators.specs.Shape.{GoBy, IsShaped}
use Rattle.aml_operators.specs.Tree.{Tree, Trees, Node, none, more, first_at, rest_of}
use Rattle.aml_lex.specs.Standing.{HasName, name_there}
use Rattle.aml_tree.specs.Body.{made_place}
use Rattle.aml_tree.specs.Spelled.{IsSpelled, IsSpelledAt, AreSpelled}

name_is_there : (bytes : List ℕ) (at stop : ℕ) → HasName bytes at stop → IsSome (name_there bytes at)
name_is_there bytes at stop h = rw h.1 refl

-- the first part, where it is a name
first_there : (bytes : List ℕ) (letters : List Letter) (parts : Trees) (at : ℕ) → GoBy code.Body (One piece.NameString ∷ letters) parts → AreSpelled bytes parts → first_at parts ≡ Some at → IsSome (name_there bytes at)
first_there bytes letters none at shaped spelled e = absurd shaped
first_there bytes letters (more (Node o from stop inner) rest) at shaped spelled e =
    let name : IsSpelledAt bytes op.NameString from stop = rw shaped.0 at (spelled.0.0) in
    let same : from ≡ at = cc in
    rw (← same) (name_is_there bytes from stop name)

-- the parts behind the first
behind_shaped : (p : Piece) (letters : List Letter) (parts : Trees) → GoBy code.Body (One p ∷ letters) parts → GoBy code.Body letters (rest_of parts)
behind_shaped p letters none shaped = absurd shaped
behind_shaped p letters (more t rest) shaped = shaped.1

behind_spelled : (bytes : List ℕ) (parts : Trees) → AreSpelled bytes parts → AreSpelled bytes (rest_of parts)
behind_spelled bytes none spelled = tt
behind_spelled bytes (more t rest) spelled = spelled.1

third_there : (bytes : List ℕ) (p q : Piece) (letters : List Letter) (parts : Trees) (at : ℕ) → GoBy code.Body (One p ∷ One q ∷ One piece.NameString ∷ letters) parts → AreSpelled bytes parts → first_at (rest_of (rest_of parts)) ≡ Some at → IsSome (name_there bytes at)
third_there bytes p q letters parts at shaped spelled e =
    first_there bytes letters (rest_of (rest_of parts)) at
    (behind_shaped q (One piece.NameString ∷ letters) (rest_of parts) (behind_shaped p (One q ∷ One piece.NameString ∷ letters) parts shaped))
    (behind_spelled bytes (rest_of parts) (behind_spelled bytes parts spelled)) e

abbrev source : Piece
source = piece.Term spot.Source

abbrev size : Piece
size = piece.Term spot.Size

pub made_there : (bytes : List ℕ) (t : Tree) (at : ℕ) → IsShaped code.Body t → IsSpelled bytes t → made_place t ≡ Some at → IsSome (name_there bytes at)
made_there bytes (Node op.Name from stop parts) at shaped spelled e = first_there bytes (One (piece.Term spot.Data) ∷ []) parts at shaped.0 spelled.1 e
made_there bytes (Node op.CreateBitField from stop parts) at shaped spelled e = third_there bytes source size [] parts at shaped.0 spelled.1 e
made_there bytes (Node op.CreateByteField from stop parts) at shaped spelled e = third_there bytes source size [] parts at shaped.0 spelled.1 e
made_there bytes (Node op.CreateWordField from stop parts) at shaped spelled e = third_there bytes source size [] parts at shaped.0 spelled.1 e
made_there bytes (Node op.CreateDWordField from stop parts) at shaped spelled e = third_there bytes source size [] parts at shaped.0 spelled.1 e
made_there bytes (Node op.CreateQWordField from stop parts) at shaped spelled e = third_there bytes source size [] parts at shaped.0 spelled.1 e
made_there bytes (Node op.CreateField from stop parts) at shaped spelled e =
    third_there bytes size size [] (rest_of parts) at (behind_shaped source (One size ∷ One size ∷ One piece.NameString ∷ []) parts shaped.0) (behind_spelled bytes parts spelled.1) e
made_there bytes (Node o from stop parts) at shaped spelled e = absurd cc
