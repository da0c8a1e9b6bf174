-- How data begins is how its term is read.
use Rattle.std.proofs.Common.{◌≡◌, ℕ, zero, suc, ◌-◌, List, length, take, Some, Result, Ok, Err, refl, sym, subst, arith}
use Rattle.std.specs.Prelude.{Bool, true, false, ◌==◌, ◌&&◌}
use Rattle.aml_operators.specs.declared.op.Op.{Op}
use Rattle.aml_operators.specs.declared.op.Op.TheVariants as op
use Rattle.aml_operators.specs.declared.row.Class.{Class}
use Rattle.aml_operators.specs.declared.row.Class.TheVariants as class
use Rattle.aml_operators.specs.declared.row.Code.TheVariants as code
use Rattle.aml_operators.specs.declared.row.Limit.TheVariants as limit
use Rattle.aml_operators.specs.declared.row.Naming.TheVariants as named
use Rattle.aml_operators.specs.declared.row.Ruling.TheVariants as ruled
use Rattle.aml_operators.specs.declared.row.Spot.{Spot}
use Rattle.aml_operators.specs.declared.row.Spot.TheVariants as spot
use Rattle.aml_operators.specs.Literal.{literal_in, literal_of}
use Rattle.aml_operators.specs.Places.{ruling, naming}
use Rattle.aml_operators.specs.Table.{class_of}
use Rattle.aml_operators.specs.Tree.{Tree, Trees, Node, none, more, stop_of}
use Rattle.aml_tree.specs.declared.fault.Refusal.{Refusal}
use Rattle.aml_tree.specs.declared.fault.TreeFault.{TreeFault}
use Rattle.aml_tree.specs.declared.fault.TreeFault.TheVariants.{NoMemory, Refused}
use Rattle.aml_tree.specs.declared.head.Head.{Head}
use Rattle.aml_tree.specs.declared.head.Head.TheVariants as head
use Rattle.aml_tree.specs.Answers.{Answers}
use Rattle.aml_tree.specs.Begins.{Begins, FaultyBegin}
use Rattle.aml_tree.specs.Body.{no_arguments}
use Rattle.aml_tree.specs.Fault.{Fails, TakesNone, ◌>>=◌}
use Rattle.aml_tree.specs.Heads.{literal_at, opened_size, size_at, string_at, buffer_at, package_at, sized_package_at, operator_head, opened_head, head_at, leaf_head, IsHead}
use Rattle.aml_tree.specs.Leaf.{byte_at, end_at, name_at, text_at, little_endian_at}
use Rattle.aml_tree.specs.Opening.{Opening, NoTarget, PlainName, InvokedName, Operator, may_be_none, opening_at}
use Rattle.aml_tree.specs.Reading.{is_above, piece_at, parts_at, form_at, deepest_at, term_at}
use Rattle.aml_tree.proofs.Beginnings.{opening_right}
use Rattle.aml_tree.proofs.Combining.{then_answers, and_answers, weaker, by_test, of_ok, of_err}

-- a fault of the program, which wants no memory, is one of the definition
pub fault_told : (fault : TreeFault) (answer : Result (Head × ℕ) Refusal) → TakesNone {X = Head × ℕ} (Err fault) → Fails fault answer → (f : Refusal) × (answer ≡ Err f)
fault_told NoMemory answer spare e = absurd spare
fault_told (Refused f) answer spare e = (f, e)

abbrev is_literal : Class → Bool
is_literal class.Literal = true
is_literal c = false

abbrev is_datum : Class → Bool
is_datum class.Literal = true
is_datum class.Data = true
is_datum c = false

size_literal : (c : Class) → ruling code.Module spot.Size c ≡ ruled.Fine → is_literal c ≡ true
size_literal class.Literal e = refl
size_literal c e = absurd cc

data_datum : (c : Class) → ruling code.Module spot.Data c ≡ ruled.Fine → is_datum c ≡ true
data_datum class.Literal e = refl
data_datum class.Data e = refl
data_datum c e = absurd cc

element_datum : (c : Class) → ruling code.Module spot.Element c ≡ ruled.Fine → is_datum c ≡ true
element_datum class.Literal e = refl
element_datum class.Data e = refl
element_datum c e = absurd cc

-- what is read is an integer literal
abbrev IsNumber : Op → ℕ → Result Tree Refusal → ℕ × ℕ → Type 0
IsNumber o at term r =
    (parts : Trees) × (term ≡ Ok (Node o at r.1 parts)) × (literal_in o parts ≡ Some r.0) × (leaf_head o parts ≡ Some (head.Integer r.0))

module _ (below : ℕ → Spot → List ℕ → ℕ → Result Tree Refusal) (bytes : List ℕ) (at next : ℕ) where
  abbrev form : Op → Result Tree Refusal
  form o = form_at no_arguments below (Operator o next) bytes at

  abbrev Literal : Op → Type 0
  Literal o = Answers (literal_at o bytes next) (IsNumber o at (form o)) (λ f. form o ≡ Err f)

  -- of an answer it is known only which it is
  either_answer : {X : Type 0} (r : Result X Refusal) (Q : X → Type 0) (G : Refusal → Type 0) → ((x : X) → r ≡ Ok x → Q x) → ((f : Refusal) → r ≡ Err f → G f) → Answers r Q G
  either_answer (Ok x) Q G ok err = ok x refl
  either_answer (Err f) Q G ok err = err f refl

  -- an integer literal behind its opcode
  literal_reads : (o : Op) → is_literal (class_of o) ≡ true → Literal o
  unfolding form_at parts_at piece_at
  literal_reads op.Zero e = (none, refl, refl, refl)
  literal_reads op.One e = (none, refl, refl, refl)
  literal_reads op.Ones e = (none, refl, refl, refl)
  literal_reads op.ByteConst e =
      either_answer (little_endian_at 1 bytes next) (IsNumber op.ByteConst at (form op.ByteConst)) (λ f. form op.ByteConst ≡ Err f) (λ r is. (more (Node (op.Number r.0) next r.1 none) none, rw is refl, refl, refl)) (λ f is. rw is refl)
  literal_reads op.WordConst e =
      either_answer (little_endian_at 2 bytes next) (IsNumber op.WordConst at (form op.WordConst)) (λ f. form op.WordConst ≡ Err f) (λ r is. (more (Node (op.Number r.0) next r.1 none) none, rw is refl, refl, refl)) (λ f is. rw is refl)
  literal_reads op.DWordConst e =
      either_answer (little_endian_at 4 bytes next) (IsNumber op.DWordConst at (form op.DWordConst)) (λ f. form op.DWordConst ≡ Err f) (λ r is. (more (Node (op.Number r.0) next r.1 none) none, rw is refl, refl, refl)) (λ f is. rw is refl)
  literal_reads op.QWordConst e =
      either_answer (little_endian_at 8 bytes next) (IsNumber op.QWordConst at (form op.QWordConst)) (λ f. form op.QWordConst ≡ Err f) (λ r is. (more (Node (op.Number r.0) next r.1 none) none, rw is refl, refl, refl)) (λ f is. rw is refl)
  literal_reads o e = absurd cc

-- a size with so many levels
module _ (bytes : List ℕ) (own at : ℕ) where
  abbrev size_term : ℕ → Result Tree Refusal
  size_term d = term_at code.Module no_arguments d own spot.Size bytes at

  abbrev IsSize : ℕ → ℕ × ℕ → Type 0
  IsSize d r = (t : Tree) × (size_term d ≡ Ok t) × (literal_of t ≡ Some r.0) × (stop_of t ≡ r.1)

  opened_reads : (d : ℕ) (o : Opening) → opening_at code.Module own spot.Size bytes at ≡ Ok o → Begins code.Module spot.Size bytes at o → Answers (opened_size o bytes at) (IsSize (suc d)) (λ f. size_term (suc d) ≡ Err f)
  unfolding term_at
  opened_reads d NoTarget e begins = let wrong : spot.Size ≡ spot.Target = begins.0 in absurd cc
  opened_reads d PlainName e begins = absurd (let wrong = begins.0 in cc)
  opened_reads d InvokedName e begins = absurd (let wrong = begins.0 in cc)
  opened_reads d (Operator o next) e begins =
      let is = size_literal (class_of o) begins.2 in
      weaker (literal_at o bytes next) (IsNumber o at (form_at no_arguments (term_at code.Module no_arguments d) (Operator o next) bytes at)) (λ f. form_at no_arguments (term_at code.Module no_arguments d) (Operator o next) bytes at ≡ Err f) (IsSize (suc d)) (λ f. size_term (suc d) ≡ Err f)
      (literal_reads (term_at code.Module no_arguments d) bytes at next o is)
      (λ r n. (Node o at r.1 n.0, rw (e, n.1) refl, n.2, refl))
      (λ f n. rw (e, n) refl)

  pub size_reads : (d : ℕ) → Answers (size_at d own bytes at) (IsSize d) (λ f. size_term d ≡ Err f)
  unfolding size_at term_at deepest_at
  size_reads zero = then_answers (byte_at bytes at) _ (IsSize zero) (λ f. size_term zero ≡ Err f) (λ b e. rw e refl) (λ f e. rw e refl)
  size_reads (suc d) =
      then_answers (opening_at code.Module own spot.Size bytes at) _ (IsSize (suc d)) (λ f. size_term (suc d) ≡ Err f)
      (λ o e. opened_reads d o e (of_ok (opening_at code.Module own spot.Size bytes at) (Begins code.Module spot.Size bytes at) (FaultyBegin code.Module own spot.Size bytes at) o (opening_right code.Module own spot.Size bytes at) e))
      (λ f e. rw e refl)

-- data behind its opcode, with so many levels below it
module _ (d : ℕ) (bytes : List ℕ) (at next : ℕ) where
  abbrev below : ℕ → Spot → List ℕ → ℕ → Result Tree Refusal
  below = term_at code.Module no_arguments d

  abbrev made : Op → Result Tree Refusal
  made o = form_at no_arguments below (Operator o next) bytes at

  abbrev Heads : Op → Head × ℕ → Type 0
  Heads o r = IsHead below (made o) bytes at r.0 r.1

  abbrev Reads : Op → Result (Head × ℕ) Refusal → Type 0
  Reads o answer = Answers answer (Heads o) (λ f. made o ≡ Err f)

  string_reads : Reads op.String (string_at bytes next)
  unfolding string_at form_at parts_at piece_at
  string_reads =
      then_answers (text_at bytes next) _ (Heads op.String) (λ f. made op.String ≡ Err f)
      (λ r e. (op.String, more (Node op.AsciiCharList next r.1 none) none, refl, rw e refl))
      (λ f e. rw e refl)

  buffer_reads : Reads op.Buffer (buffer_at d at bytes next)
  unfolding buffer_at form_at parts_at
  buffer_reads =
      then_answers (end_at bytes next) _ (Heads op.Buffer) (λ f. made op.Buffer ≡ Err f)
      (λ p e. and_answers (size_at d at (take p.0 bytes) p.1) (IsSize (take p.0 bytes) at p.1 d) (λ f. size_term (take p.0 bytes) at p.1 d ≡ Err f) _ (Heads op.Buffer) (λ f. made op.Buffer ≡ Err f)
      (size_reads (take p.0 bytes) at p.1 d)
      (λ r s. by_test (is_above limit.Buffer (Some r.0) (length (take p.0 bytes) - r.1)) _ _ (Heads op.Buffer) (λ f. made op.Buffer ≡ Err f)
      (λ b. rw (e, s.1, s.2, s.3, b) refl)
      (λ b. (op.Buffer, more s.0 (more (Node op.ByteList r.1 (length (take p.0 bytes)) none) none), rw s.2 refl, rw (e, s.1, s.2, s.3, b) refl)))
      (λ f s. rw (e, s) refl))
      (λ f e. rw e refl)

  package_reads : Reads op.Package (package_at bytes next)
  unfolding package_at form_at parts_at piece_at
  package_reads =
      then_answers (end_at bytes next) _ (Heads op.Package) (λ f. made op.Package ≡ Err f)
      (λ p e. then_answers (little_endian_at 1 (take p.0 bytes) p.1) _ (Heads op.Package) (λ f. made op.Package ≡ Err f)
      (λ r n. (op.Package, Node (op.Number r.0) p.1 r.1 none, tt, refl, rw (e, n) refl))
      (λ f n. rw (e, n) refl))
      (λ f e. rw e refl)

  sized_package_reads : Reads op.VarPackage (sized_package_at d at bytes next)
  unfolding sized_package_at form_at parts_at
  sized_package_reads =
      then_answers (end_at bytes next) _ (Heads op.VarPackage) (λ f. made op.VarPackage ≡ Err f)
      (λ p e. and_answers (size_at d at (take p.0 bytes) p.1) (IsSize (take p.0 bytes) at p.1 d) (λ f. size_term (take p.0 bytes) at p.1 d ≡ Err f) _ (Heads op.VarPackage) (λ f. made op.VarPackage ≡ Err f)
      (size_reads (take p.0 bytes) at p.1 d)
      (λ r s. by_test (is_above limit.Package (Some r.0) (length (take p.0 bytes) - r.1)) _ _ (Heads op.VarPackage) (λ f. made op.VarPackage ≡ Err f)
      (λ b. rw (e, s.1, s.2, s.3, b) refl)
      (λ b. (op.VarPackage, s.0, tt, rw s.2 refl, rw (e, s.1, s.2, s.3, b) refl)))
      (λ f s. rw (e, s) refl))
      (λ f e. rw e refl)

  integer_reads : (o : Op) → is_literal (class_of o) ≡ true → Answers (literal_at o bytes next) (λ r. Heads o (head.Integer r.0, r.1)) (λ f. made o ≡ Err f)
  integer_reads o e =
      weaker (literal_at o bytes next) (IsNumber o at (made o)) (λ f. made o ≡ Err f) (λ r. Heads o (head.Integer r.0, r.1)) (λ f. made o ≡ Err f)
      (literal_reads below bytes at next o e) (λ r n. (o, n.0, n.3, n.1)) (λ f n. n)

  abbrev Integers : Op → Type 0
  Integers o = Reads o (literal_at o bytes next >>= (λ r. Ok (head.Integer r.0, r.1)))

  integers : (o : Op) → is_literal (class_of o) ≡ true → Integers o
  integers o e =
      and_answers (literal_at o bytes next) (λ r. Heads o (head.Integer r.0, r.1)) (λ f. made o ≡ Err f) _ (Heads o) (λ f. made o ≡ Err f) (integer_reads o e) (λ r h. h) (λ f h. h)

  operator_reads : (o : Op) → is_datum (class_of o) ≡ true → Reads o (operator_head d o at bytes next)
  unfolding operator_head
  operator_reads op.Zero e = integers op.Zero refl
  operator_reads op.One e = integers op.One refl
  operator_reads op.Ones e = integers op.Ones refl
  operator_reads op.ByteConst e = integers op.ByteConst refl
  operator_reads op.WordConst e = integers op.WordConst refl
  operator_reads op.DWordConst e = integers op.DWordConst refl
  operator_reads op.QWordConst e = integers op.QWordConst refl
  operator_reads op.String e = string_reads
  operator_reads op.Buffer e = buffer_reads
  operator_reads op.Package e = package_reads
  operator_reads op.VarPackage e = sized_package_reads
  operator_reads o e = absurd cc

-- where data and elements stand
abbrev IsDataSpot : Spot → Type 0
IsDataSpot spot.Data = Unit {0}
IsDataSpot spot.Element = Unit {0}
IsDataSpot s = ⊥

datum_there : (s : Spot) (c : Class) → IsDataSpot s → ruling code.Module s c ≡ ruled.Fine → is_datum c ≡ true
datum_there spot.Data c there e = data_datum c e
datum_there spot.Element c there e = element_datum c e
datum_there s c there e = absurd there

none_there : (s : Spot) → IsDataSpot s → s ≡ spot.Target → ⊥
none_there spot.Data there e = cc
none_there spot.Element there e = cc
none_there s there e = there

not_invoked : (s : Spot) → IsDataSpot s → naming code.Module s ≡ named.Invoked → ⊥
not_invoked spot.Data there e = cc
not_invoked spot.Element there e = cc
not_invoked s there e = there

no_target : (s : Spot) (x : Bool) → IsDataSpot s → (may_be_none s && x) ≡ false
no_target spot.Data x there = refl
no_target spot.Element x there = refl
no_target s x there = absurd there

module _ (asker : ℕ) (s : Spot) (there : IsDataSpot s) (bytes : List ℕ) (at : ℕ) where
  abbrev read : ℕ → Result Tree Refusal
  read d = term_at code.Module no_arguments d asker s bytes at

  abbrev Head_is : ℕ → Head × ℕ → Type 0
  Head_is d r = IsHead (term_at code.Module no_arguments (d - 1)) (read d) bytes at r.0 r.1

  opened_heads : (d : ℕ) (o : Opening) → Begins code.Module s bytes at o → Answers (opened_head d o bytes at) (λ r. IsHead (term_at code.Module no_arguments d) (form_at no_arguments (term_at code.Module no_arguments d) o bytes at) bytes at r.0 r.1) (λ f. form_at no_arguments (term_at code.Module no_arguments d) o bytes at ≡ Err f)
  unfolding opened_head form_at
  opened_heads d NoTarget begins = absurd (none_there s there begins.0)
  opened_heads d PlainName begins =
      then_answers (name_at bytes at) _ _ _ (λ r e. (op.NameString, none, refl, rw e refl)) (λ f e. rw e refl)
  opened_heads d InvokedName begins = absurd (not_invoked s there begins.0)
  opened_heads d (Operator o next) begins = operator_reads d bytes at next o (datum_there s (class_of o) there begins.2)

  opened_is : (d : ℕ) (o : Opening) → opening_at code.Module asker s bytes at ≡ Ok o → read (suc d) ≡ form_at no_arguments (term_at code.Module no_arguments d) o bytes at
  unfolding term_at
  opened_is d o e = rw e refl

  -- how data begins is how its term is read
  pub head_reads : (d : ℕ) → Answers (head_at d asker s bytes at) (Head_is d) (λ f. read d ≡ Err f)
  unfolding head_at term_at deepest_at
  head_reads zero =
      then_answers (byte_at bytes at) _ (Head_is zero) (λ f. read zero ≡ Err f) (λ b e. rw (e, no_target s (b == 0) there) refl) (λ f e. rw e refl)
  head_reads (suc d) =
      let less : suc d - 1 ≡ d = omega arith in
      let P : (ℕ → Spot → List ℕ → ℕ → Result Tree Refusal) → Result Tree Refusal → Opening → Type 0 = λ b w o. Answers (opened_head d o bytes at) (λ r. IsHead b w bytes at r.0 r.1) (λ f. w ≡ Err f) in
      then_answers (opening_at code.Module asker s bytes at) _ (Head_is (suc d)) (λ f. read (suc d) ≡ Err f)
      (λ o e. subst (λ n. P (term_at code.Module no_arguments n) (read (suc d)) o) (sym less) (subst (λ w. P (term_at code.Module no_arguments d) w o) (sym (opened_is d o e))
      (opened_heads d o (of_ok (opening_at code.Module asker s bytes at) (Begins code.Module s bytes at) (FaultyBegin code.Module asker s bytes at) o (opening_right code.Module asker s bytes at) e))))
      (λ f e. rw e refl)

  -- where a head is read, it is the term's; where none is, there is none
  pub head_there : (d : ℕ) (r : Head × ℕ) → head_at d asker s bytes at ≡ Ok r → Head_is d r
  head_there d r e = of_ok (head_at d asker s bytes at) (Head_is d) (λ f. read d ≡ Err f) r (head_reads d) e

  pub no_head : (d : ℕ) (fault : TreeFault) → TakesNone {X = Head × ℕ} (Err fault) → Fails fault (head_at d asker s bytes at) → (f : Refusal) × (read d ≡ Err f)
  no_head d fault spare e =
      let told = fault_told fault (head_at d asker s bytes at) spare e in
      (told.0, of_err (head_at d asker s bytes at) (Head_is d) (λ f. read d ≡ Err f) told.0 (head_reads d) told.1)
