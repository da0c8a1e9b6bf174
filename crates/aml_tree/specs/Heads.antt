-- How data in a module begins, up to the terms that stand in it (ACPI 6.5, 20.2.5.1): read from the
-- bytes alone.
use Rattle.std.specs.Prelude.{◌≡◌, ◌<◌, ◌≤◌, ℕ, zero, suc, ◌-◌, ◌^◌, max, List, [], ◌∷◌, length, take, Option, Some, None, unwrap_or, Result, Ok, Err, if◌then◌else◌}
use Rattle.aml_operators.specs.declared.op.Op.{Op}
use Rattle.aml_operators.specs.declared.op.Op.TheVariants as op
use Rattle.aml_operators.specs.declared.row.Code.TheVariants as code
use Rattle.aml_operators.specs.declared.row.Limit.TheVariants as limit
use Rattle.aml_operators.specs.declared.row.Spot.{Spot}
use Rattle.aml_operators.specs.declared.row.Spot.TheVariants as spot
use Rattle.aml_operators.specs.Literal.{literal_in, literal_of}
use Rattle.aml_operators.specs.Tree.{Tree, Trees, Node, none, more, trees}
use Rattle.aml_tree.specs.declared.fault.Refusal.{Refusal}
use Rattle.aml_tree.specs.declared.fault.TreeCause.TheVariants.{TooDeep, TooLarge, UnknownOpcode}
use Rattle.aml_tree.specs.declared.head.Head.{Head}
use Rattle.aml_tree.specs.declared.head.Head.TheVariants as head
use Rattle.aml_tree.specs.Body.{no_arguments}
use Rattle.aml_tree.specs.Fault.{refusal, ◌>>=◌}
use Rattle.aml_tree.specs.Leaf.{byte_at, end_at, name_at, text_at, little_endian_at}
use Rattle.aml_tree.specs.Opening.{Opening, PlainName, Operator, opening_at}
use Rattle.aml_tree.specs.Reading.{is_above, term_at, terms_until}

-- the number of an integer literal behind its opcode, and the place behind it
abbrev pub literal_at : Op → List ℕ → ℕ → Result (ℕ × ℕ) Refusal
literal_at op.Zero bytes at = Ok (0, at)
literal_at op.One bytes at = Ok (1, at)
literal_at op.Ones bytes at = Ok (2 ^ 64 - 1, at)
literal_at op.ByteConst bytes at = little_endian_at 1 bytes at
literal_at op.WordConst bytes at = little_endian_at 2 bytes at
literal_at op.DWordConst bytes at = little_endian_at 4 bytes at
literal_at o bytes at = little_endian_at 8 bytes at

-- of a size, which is an integer literal in a module
abbrev pub opened_size : Opening → List ℕ → ℕ → Result (ℕ × ℕ) Refusal
opened_size (Operator o next) bytes at = literal_at o bytes next
opened_size o bytes at = Err (refusal UnknownOpcode at)

-- a size with at most so many terms one in another
unfoldable pub size_at : ℕ → ℕ → List ℕ → ℕ → Result (ℕ × ℕ) Refusal
size_at zero own bytes at = do
  b ← byte_at bytes at
  Err (refusal TooDeep at)
size_at (suc d) own bytes at = do
  o ← opening_at code.Module own spot.Size bytes at
  opened_size o bytes at

-- a string behind its opcode; a 00 stands behind its characters
unfoldable pub string_at : List ℕ → ℕ → Result (Head × ℕ) Refusal
string_at bytes at = do
  r ← text_at bytes at
  Ok (head.String (r.1 - at - 1), r.1)

-- a buffer behind its opcode: its size, and the initialiser's bytes
unfoldable pub buffer_at : ℕ → ℕ → List ℕ → ℕ → Result (Head × ℕ) Refusal
buffer_at d own bytes at = do
  p ← end_at bytes at
  r ← size_at d own (take p.0 bytes) p.1
  if is_above limit.Buffer (Some r.0) (length (take p.0 bytes) - r.1)
      then Err (refusal TooLarge own)
      else Ok (head.Buffer (max r.0 (length (take p.0 bytes) - r.1)), length (take p.0 bytes))

-- a package behind its opcode: the number of its elements, and where they stand
unfoldable pub package_at : List ℕ → ℕ → Result (Head × ℕ) Refusal
package_at bytes at = do
  p ← end_at bytes at
  r ← little_endian_at 1 (take p.0 bytes) p.1
  Ok (head.Package r.0 r.1, p.0)

-- the same, where the number is a term
unfoldable pub sized_package_at : ℕ → ℕ → List ℕ → ℕ → Result (Head × ℕ) Refusal
sized_package_at d own bytes at = do
  p ← end_at bytes at
  r ← size_at d own (take p.0 bytes) p.1
  if is_above limit.Package (Some r.0) (length (take p.0 bytes) - r.1)
      then Err (refusal TooLarge own) else Ok (head.Package r.0 r.1, p.0)

-- data behind its opcode
unfoldable pub operator_head : ℕ → Op → ℕ → List ℕ → ℕ → Result (Head × ℕ) Refusal
operator_head d op.String own bytes at = string_at bytes at
operator_head d op.Buffer own bytes at = buffer_at d own bytes at
operator_head d op.Package own bytes at = package_at bytes at
operator_head d op.VarPackage own bytes at = sized_package_at d own bytes at
operator_head d o own bytes at = do
  r ← literal_at o bytes at
  Ok (head.Integer r.0, r.1)

-- what follows the beginning
unfoldable pub opened_head : ℕ → Opening → List ℕ → ℕ → Result (Head × ℕ) Refusal
opened_head d PlainName bytes at = do
  r ← name_at bytes at
  Ok (head.Name, r.1)
opened_head d (Operator o next) bytes at = operator_head d o at bytes next
opened_head d o bytes at = Err (refusal UnknownOpcode at)

-- data or an element with at most so many terms one in another
unfoldable pub head_at : ℕ → ℕ → Spot → List ℕ → ℕ → Result (Head × ℕ) Refusal
head_at zero asker s bytes at = do
  b ← byte_at bytes at
  Err (refusal TooDeep at)
head_at (suc d) asker s bytes at = do
  o ← opening_at code.Module asker s bytes at
  opened_head d o bytes at

-- the elements of a package stand behind a place and within the package
abbrev pub IsElements : ℕ → ℕ → Head → Type 0
IsElements at stop (head.Package count start) = (at < start) × (start ≤ stop)
IsElements at stop h = Unit {0}

-- how long a buffer is by its parts: the greater of its size and its initialiser
abbrev pub buffer_length : Trees → ℕ
buffer_length (more size (more (Node o at stop parts) none)) =
    max (unwrap_or (literal_of size) 0) (stop - at)
buffer_length parts = 0

-- how many characters a string has by its parts
abbrev pub text_length : Trees → ℕ
text_length (more (Node o at stop parts) rest) = stop - at - 1
text_length none = 0

-- what a term is that is no package, by its operator and its parts
abbrev pub leaf_head : Op → Trees → Option Head
leaf_head op.NameString parts = Some head.Name
leaf_head op.Buffer parts = Some (head.Buffer (buffer_length parts))
leaf_head op.String parts = Some (head.String (text_length parts))
leaf_head op.Package parts = None
leaf_head op.VarPackage parts = None
leaf_head o parts = Some (head.Integer (unwrap_or (literal_in o parts) 0))

-- whether an operator is a package's
abbrev pub IsPackage : Op → Type 0
IsPackage op.Package = Unit {0}
IsPackage op.VarPackage = Unit {0}
IsPackage o = ⊥

-- how many elements a package tells, by its operator and its first part
abbrev pub told_count : Op → Tree → ℕ
told_count op.Package (Node (op.Number n) at stop parts) = n
told_count op.VarPackage t = unwrap_or (literal_of t) 0
told_count o t = 0

-- how a term begins that is read to be this one, by how terms below are read: it has no terms in
-- it, or its elements are read next
abbrev pub IsHead : (ℕ → Spot → List ℕ → ℕ → Result Tree Refusal) → Result Tree Refusal → List ℕ →
    ℕ → Head → ℕ → Type 0
IsHead below term bytes at (head.Package count start) stop =
    (o : Op) × (first : Tree) × IsPackage o × (told_count o first ≡ count)
    × (term ≡ (terms_until no_arguments below at spot.Element (take stop bytes)
    (length (take stop bytes)) (first ∷ []) start >>= (λ r. Ok (Node o at r.1 (trees r.0)))))
IsHead below term bytes at h stop =
    (o : Op) × (parts : Trees) × (leaf_head o parts ≡ Some h) × (term ≡ Ok (Node o at stop parts))

-- the answer of a reader of heads: none just where what is read has a fault there
abbrev pub ReadsHead : ℕ → ℕ → Spot → List ℕ → ℕ → Option (Head × ℕ) → Type 0
ReadsHead d asker s bytes at (Some r) = IsHead (term_at code.Module no_arguments (d - 1))
    (term_at code.Module no_arguments d asker s bytes at) bytes at r.0 r.1
ReadsHead d asker s bytes at None =
    (f : Refusal) × (term_at code.Module no_arguments d asker s bytes at ≡ Err f)
