-- What the shape of a tree says of its parts.
use Rattle.std.proofs.Common.{◌≡◌, ◌<◌, ℕ, List, [], ◌∷◌, ◌++◌, map, refl, ap, arith, Option, Some, None}
use Rattle.std.specs.Prelude.{Bool, true, false, cond, ◌==◌}
use Rattle.aml_lex.specs.Characters.{is_lead_name_char}
use Rattle.aml_operators.specs.declared.op.Op.{Op}
use Rattle.aml_operators.specs.declared.op.Op.TheVariants as op
use Rattle.aml_operators.specs.declared.row.Code.{Code}
use Rattle.aml_operators.specs.declared.row.Spot.{Spot}
use Rattle.aml_operators.specs.declared.row.Ruling.TheVariants as ruled
use Rattle.aml_operators.specs.declared.row.Letter.TheVariants.{One}
use Rattle.aml_operators.specs.Table.{row, class_of, letters_of}
use Rattle.aml_operators.specs.Places.{ruling}
use Rattle.aml_operators.specs.Fields.{item_of, pieces_of}
use Rattle.aml_operators.specs.Tree.{Tree, Trees, none, more, trees, joined}
use Rattle.aml_operators.specs.Shape.{is_item, part_letters, MayStand, AreShaped}

-- what has a row goes by the letters of its row
pub part_letters_of : (o : Op) → (row o).code < 0x10000 → part_letters o ≡ letters_of o
part_letters_of op.Invocation lt = absurd (omega arith)
part_letters_of op.Else lt = absurd (omega arith)
part_letters_of op.NamedField lt = absurd (omega arith)
part_letters_of op.ReservedField lt = absurd (omega arith)
part_letters_of op.AccessField lt = absurd (omega arith)
part_letters_of op.ConnectField lt = absurd (omega arith)
part_letters_of op.ExtendedAccessField lt = absurd (omega arith)
part_letters_of o lt = refl

-- and may stand where its class may
pub may_stand : (code : Code) (s : Spot) (o : Op) → (row o).code < 0x10000 → ruling code s (class_of o) ≡ ruled.Fine → MayStand code s o
may_stand code s op.NullName lt fine = absurd (omega arith)
may_stand code s op.NameString lt fine = absurd (omega arith)
may_stand code s op.Invocation lt fine = absurd (omega arith)
may_stand code s o lt fine = fine

-- an item goes by its pieces
pub item_letters : (o : Op) → is_item o ≡ true → part_letters o ≡ map One (pieces_of o)
item_letters op.NamedField is = refl
item_letters op.ReservedField is = refl
item_letters op.AccessField is = refl
item_letters op.ConnectField is = refl
item_letters op.ExtendedAccessField is = refl
item_letters o is = absurd cc

first_item : (v : Bool) (x o : Op) (rest : Option Op) → is_item x ≡ true → (rest ≡ Some o → is_item o ≡ true) → cond v (Some x) rest ≡ Some o → is_item o ≡ true
first_item true x o rest is others e = let same : x ≡ o = cc in rw (← same) is
first_item false x o rest is others e = others e

-- what a byte begins in a field list is an item
pub item_of_item : (b : ℕ) (o : Op) → item_of b ≡ Some o → is_item o ≡ true
item_of_item b o e =
    first_item (b == 0) op.ReservedField o _ refl
    (first_item (b == 1) op.AccessField o _ refl
    (first_item (b == 2) op.ConnectField o _ refl
    (first_item (b == 3) op.ExtendedAccessField o _ refl
    (first_item (is_lead_name_char b) op.NamedField o None refl (λ n. absurd cc))))) e

-- the trees of two lists
pub trees_append : (ts us : List Tree) → trees (ts ++ us) ≡ joined (trees ts) (trees us)
trees_append [] us = refl
trees_append (t ∷ ts) us = ap (more t) (trees_append ts us)

pub shaped_joined : (code : Code) (ts us : Trees) → AreShaped code ts → AreShaped code us → AreShaped code (joined ts us)
shaped_joined code none us h k = k
shaped_joined code (more t ts) us h k = (h.0, shaped_joined code ts us h.1 k)
