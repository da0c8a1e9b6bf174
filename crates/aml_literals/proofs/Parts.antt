-- Strings, buffers and packages by their parts.
use Rattle.std.proofs.Common.{◌≡◌, ◌≤◌, ◌+◌, ◌-◌, ℕ, List, [], ◌∷◌, length, take, drop, max, Option, Some, None, Result, Ok, Err, IfOk, IsOk, refl, sym, ap, ◌∙◌, subst}
use Rattle.std.specs.Prelude.{unwrap_or, if◌then◌else◌}
use Rattle.std.specs.Option.{is_none}
use Rattle.std.proofs.lemmas.List.{length-take-le}
use Rattle.byteorder.specs.Endian.{little_number}
use Rattle.aml_lex.specs.NameStrings.{NameString}
use Rattle.aml_lex.specs.Reading.{package_end_at, string_data_at}
use Rattle.aml_lex.specs.Standing.{bytes_between}
use Rattle.aml_operators.specs.declared.op.Op.{Op}
use Rattle.aml_operators.specs.declared.op.Op.TheVariants as op
use Rattle.aml_operators.specs.declared.row.Code.TheVariants as code
use Rattle.aml_operators.specs.declared.row.Letter.{Letter}
use Rattle.aml_operators.specs.declared.row.Letter.TheVariants.{Bytes, Package, Sized}
use Rattle.aml_operators.specs.declared.row.Limit.TheVariants as limit
use Rattle.aml_operators.specs.declared.row.Spot.{Spot}
use Rattle.aml_operators.specs.Literal.{literal_of}
use Rattle.aml_operators.specs.Tree.{Tree, Node, none, stop_of, trees}
use Rattle.aml_tree.specs.Grammar.{IsTerm, Meets}
use Rattle.aml_tree.specs.Heads.{IsPackage}
use Rattle.aml_objects.specs.declared.object.Content.TheVariants as content
use Rattle.aml_namespace.specs.Bodies.{bytes_of}
use Rattle.aml_namespace.specs.Load.{Shown}
use Rattle.aml_values.specs.Values.{Value, Buf, Str}
use Rattle.aml_contents.specs.BodyData.{body_data, computed_size, first_computed}
use Rattle.aml_contents.specs.FirstContents.{filled}
use Rattle.aml_literals.specs.There.{DataThere, IsCount, PackageThere, PartsThere, SizeThere, package_letters}
use Rattle.aml_literals.proofs.Literals.{little_is}
use Rattle.aml_places.proofs.Inversion.{end_read}
use Rattle.aml_places.proofs.Past.{text_read}

-- what is said of an answer holds of what was read
pub of_read : {X F : Type 0} (r : Result X F) (x : X) (P : X → Type 0) → r ≡ Ok x → IfOk r P → P x
of_read {X = X} {F = F} r x P e h = subst (λ (y : Result X F). IfOk y P) e h

pub is_read : {X F : Type 0} (r : Result X F) (x : X) → r ≡ Ok x → IsOk r
is_read {X = X} {F = F} r x e = subst (λ (y : Result X F). IsOk y) (sym e) refl

abbrev read_or : {X F : Type 0} → X → Result X F → X
read_or x (Ok y) = y
read_or x (Err f) = x

-- a string's one part is its text, with the 00 behind it
pub record IsString (bytes : List ℕ) (at : ℕ) (d : DataThere op.String bytes at) : Type 0 where
  pub text : List ℕ
  pub reads : string_data_at bytes at ≡ Ok (text, d.there.stop)
  pub is : d.there.parts ≡ Node op.AsciiCharList at d.there.stop none ∷ []

pub string_is : (bytes : List ℕ) (at : ℕ) (d : DataThere op.String bytes at) → IsString bytes at d
string_is bytes at d =
    let h = d.there.lie in
    let same : d.there.stop ≡ h.3.1 = h.4.1 ∙ ap stop_of h.3.3 in
    record {
      text = h.3.0;
      reads = text_read bytes at (h.3.0, h.3.1) h.3.2 ∙ ap (λ (n : ℕ). Ok (h.3.0, n)) (sym same);
      is = h.2 ∙ ap (λ (ts : List Tree). h.0 ∷ ts) h.4.0 ∙ ap (λ (t : Tree). t ∷ []) (h.3.3 ∙ ap (λ (n : ℕ). Node op.AsciiCharList at n none) (sym same));
    }

pub string_ends : (bytes : List ℕ) (at stop : ℕ) → IfOk (string_data_at bytes at) (λ r. r.1 ≡ stop) → (d : DataThere op.String bytes at) → d.there.stop ≡ stop
string_ends bytes at stop is d =
    let s = string_is bytes at d in of_read (string_data_at bytes at) (s.text, d.there.stop) (λ r. r.1 ≡ stop) s.reads is

pub string_value : (ns : Shown) (table method : ℕ) (bytes : List ℕ) (at stop : ℕ) (made : List ℕ) → IfOk (string_data_at bytes at) (λ r. r.1 ≡ stop) → made ≡ filled (stop - at - 1) (bytes_between (bytes_of ns.tables table) at (stop - 1)) → (d : DataThere op.String bytes at) → Str made ≡ body_data ns table method op.String (trees d.there.parts)
string_value ns table method bytes at stop made ends is d =
    let s = string_is bytes at d in
    let same = string_ends bytes at stop ends d in
    ap Str is ∙ ap (λ (n : ℕ). Str (filled (n - at - 1) (bytes_between (bytes_of ns.tables table) at (n - 1)))) (sym same)
    ∙ ap (λ (ps : List Tree). body_data ns table method op.String (trees ps)) (sym s.is)

-- a package is opened at its end
module _ (arity : NameString → ℕ → ℕ) (Below : ℕ → Spot → List ℕ → ℕ → Tree → Type 0) where
  opened : (rest : List Letter) (own : ℕ) (bytes : List ℕ) (at stop : ℕ) (parts : List Tree) (r : ℕ × ℕ) → package_end_at bytes at ≡ Ok r → Meets arity Below (Package ∷ rest) own bytes at stop parts → Meets arity Below rest own (take r.0 bytes) r.1 stop parts
  opened rest own bytes at stop parts r is h =
      let read : Ok (h.0, h.1) ≡ Ok r = sym (end_read bytes at (h.0, h.1) h.2) ∙ is in
      subst (λ (p : ℕ × ℕ). Meets arity Below rest own (take p.0 bytes) p.1 stop parts) (ap (read_or (h.0, h.1)) read) h.3

  encloses : (rest : List Letter) (own : ℕ) (bytes : List ℕ) (at stop : ℕ) (parts : List Tree) → Meets arity Below (Package ∷ rest) own bytes at stop parts → IsOk (package_end_at bytes at)
  encloses rest own bytes at stop parts h = is_read (package_end_at bytes at) (h.0, h.1) (end_read bytes at (h.0, h.1) h.2)

-- a size that is not computed is a literal
literal_told : (l : Option ℕ) (own : ℕ) (inside : Option ℕ) → (if is_none l then Some own else inside) ≡ None → (n : ℕ) × (l ≡ Some n)
literal_told (Some n) own inside e = (n, refl)
literal_told None own inside e = absurd cc

pub inside_told : (l : Option ℕ) (own : ℕ) (inside : Option ℕ) → (if is_none l then Some own else inside) ≡ None → inside ≡ None
inside_told (Some n) own inside e = e
inside_told None own inside e = absurd cc

-- how a buffer goes on behind its length
abbrev buffer_letters : List Letter
buffer_letters = Sized limit.Buffer ∷ Bytes ∷ []

-- a buffer's parts are its size and the bytes behind it
pub record IsBuffer (bytes : List ℕ) (at : ℕ) (d : DataThere op.Buffer bytes at) (r : ℕ × ℕ) : Type 0 where
  pub size : SizeThere (take r.0 bytes) r.1
  pub stop : d.there.stop ≡ r.0
  pub is : d.there.parts ≡ size.tree ∷ Node op.ByteList (stop_of size.tree) r.0 none ∷ []

pub buffer_opens : (bytes : List ℕ) (at : ℕ) → DataThere op.Buffer bytes at → IsOk (package_end_at bytes at)
buffer_opens bytes at d = encloses d.there.arity (IsTerm code.Body d.there.arity d.there.depth) buffer_letters d.there.own bytes at d.there.stop d.there.parts d.there.lie

pub buffer_is : (bytes : List ℕ) (at : ℕ) (r : ℕ × ℕ) → package_end_at bytes at ≡ Ok r → r.0 ≤ length bytes → (d : DataThere op.Buffer bytes at) → IsBuffer bytes at d r
buffer_is bytes at r is le d =
    let h = opened d.there.arity (IsTerm code.Body d.there.arity d.there.depth) buffer_letters d.there.own bytes at d.there.stop d.there.parts r is d.there.lie in
    let long : length (take r.0 bytes) ≡ r.0 = length-take-le r.0 bytes le in
    let told = subst (λ (ps : List Tree). computed_size op.Buffer d.there.own (trees ps) ≡ None) h.2 d.told in
    let number = literal_told (literal_of h.0) d.there.own (first_computed (trees (h.0 ∷ h.1))) told in
    record {
      size = record { arity = d.there.arity; depth = d.there.depth; own = d.there.own; tree = h.0; number = number.0; lies = h.3; told = number.1 };
      stop = h.5.1 ∙ long;
      is = h.2 ∙ ap (λ (ts : List Tree). h.0 ∷ ts) (h.5.0 ∙ ap (λ (n : ℕ). Node op.ByteList (stop_of h.0) n none ∷ []) long);
    }

pub buffer_value : (ns : Shown) (table method : ℕ) (bytes : List ℕ) (at : ℕ) (r : ℕ × ℕ) (is : package_end_at bytes at ≡ Ok r) (le : r.0 ≤ length bytes) (n start : ℕ) (made : List ℕ)
    → ((s : SizeThere (take r.0 bytes) r.1) → literal_of s.tree ≡ Some n) → ((s : SizeThere (take r.0 bytes) r.1) → stop_of s.tree ≡ start)
    → made ≡ filled (max n (r.0 - start)) (bytes_between (bytes_of ns.tables table) start r.0) → (d : DataThere op.Buffer bytes at) → Buf made ≡ body_data ns table method op.Buffer (trees d.there.parts)
buffer_value ns table method bytes at r is le n start made number place filling d =
    let b = buffer_is bytes at r is le d in
    let t = b.size.tree in
    let made_of : Option ℕ → ℕ → Value = λ l s. Buf (filled (max (unwrap_or l 0) (r.0 - s)) (bytes_between (bytes_of ns.tables table) s r.0)) in
    ap Buf filling ∙ ap (λ (s : ℕ). made_of (Some n) s) (sym (place b.size)) ∙ ap (λ (l : Option ℕ). made_of l (stop_of t)) (sym (number b.size))
    ∙ ap (λ (ps : List Tree). body_data ns table method op.Buffer (trees ps)) (sym b.is)

-- a package goes on behind its length
pub package_lies : (o : Op) (bytes : List ℕ) (at : ℕ) (r : ℕ × ℕ) → IsPackage o → package_end_at bytes at ≡ Ok r → (p : PartsThere o bytes at) → Meets p.arity (IsTerm code.Body p.arity p.depth) (package_letters o) p.own (take r.0 bytes) r.1 p.stop p.parts
package_lies op.Package bytes at r ok is p = opened p.arity (IsTerm code.Body p.arity p.depth) (package_letters op.Package) p.own bytes at p.stop p.parts r is p.lie
package_lies op.VarPackage bytes at r ok is p = opened p.arity (IsTerm code.Body p.arity p.depth) (package_letters op.VarPackage) p.own bytes at p.stop p.parts r is p.lie
package_lies o bytes at r ok is p = absurd ok

pub package_opens : (o : Op) (bytes : List ℕ) (at : ℕ) → IsPackage o → DataThere o bytes at → IsOk (package_end_at bytes at)
package_opens op.Package bytes at ok d = encloses d.there.arity (IsTerm code.Body d.there.arity d.there.depth) (package_letters op.Package) d.there.own bytes at d.there.stop d.there.parts d.there.lie
package_opens op.VarPackage bytes at ok d = encloses d.there.arity (IsTerm code.Body d.there.arity d.there.depth) (package_letters op.VarPackage) d.there.own bytes at d.there.stop d.there.parts d.there.lie
package_opens o bytes at ok d = absurd ok

abbrev pub package_there : (o : Op) (bytes : List ℕ) (at : ℕ) (r : ℕ × ℕ) → IsPackage o → package_end_at bytes at ≡ Ok r → DataThere o bytes at → PackageThere o (take r.0 bytes) r.1
package_there o bytes at r ok is d = record {
  is = ok;
  arity = d.there.arity;
  depth = d.there.depth;
  own = d.there.own;
  stop = d.there.stop;
  parts = d.there.parts;
  lie = package_lies o bytes at r ok is d.there;
  told = d.told;
}

-- a package is one of two
other_package : (o : Op) → IsPackage o → (o ≡ op.VarPackage → ⊥) → o ≡ op.Package
other_package op.Package ok not = refl
other_package op.VarPackage ok not = absurd (not refl)
other_package o ok not = absurd ok

-- the count of a package beside its opcode
module _ (bytes : List ℕ) (at : ℕ) where
  pub plain_count : (p : PackageThere op.Package bytes at) (r : ℕ × ℕ) → r.0 ≡ little_number 1 (drop at bytes) → r.1 ≡ at + 1 → (at + 1 ≤ length bytes) × IsCount op.Package p.parts r
  plain_count p r number place =
      let h = p.lie in
      let l = little_is bytes at 1 h.3.0 h.3.1 h.3.2 in
      let t = Node (op.Number h.3.0) at h.3.1 none in
      let parts = h.2 ∙ ap (λ (x : Tree). x ∷ h.1) h.3.3 in
      (l.0, subst (λ (ps : List Tree). IsCount op.Package ps r) (sym parts) (ap content.Package (l.1 ∙ sym number), l.2 ∙ sym place))

  pub count_within : (o : Op) → (o ≡ op.VarPackage → ⊥) → PackageThere o bytes at → at + 1 ≤ length bytes
  count_within o not p =
      let same = other_package o p.is not in
      let q = subst (λ (x : Op). PackageThere x bytes at) same p in
      (plain_count q (little_number 1 (drop at bytes), at + 1) refl refl).0

  pub count_is : (o : Op) → (o ≡ op.VarPackage → ⊥) → (r : ℕ × ℕ) → r.0 ≡ little_number 1 (drop at bytes) → r.1 ≡ at + 1 → (p : PackageThere o bytes at) → IsCount o p.parts r
  count_is o not r number place p =
      let same = other_package o p.is not in
      subst (λ (x : Op). (q : PackageThere x bytes at) → IsCount x q.parts r) (sym same) (λ q. (plain_count q r number place).1) p

  -- a count that is a term
  size_of_count : (p : PackageThere op.VarPackage bytes at) → (s : SizeThere bytes at) × (ts : List Tree) × (p.parts ≡ s.tree ∷ ts)
  size_of_count p =
      let h = p.lie in
      let told = subst (λ (ps : List Tree). computed_size op.VarPackage p.own (trees ps) ≡ None) h.2 p.told in
      let number = literal_told (literal_of h.0) p.own (first_computed (trees (h.0 ∷ h.1))) told in
      (record { arity = p.arity; depth = p.depth; own = p.own; tree = h.0; number = number.0; lies = h.3; told = number.1 }, h.1, h.2)

  pub count_size : (o : Op) → o ≡ op.VarPackage → PackageThere o bytes at → SizeThere bytes at
  count_size o is p = (size_of_count (subst (λ (x : Op). PackageThere x bytes at) is p)).0

  sized_count : (r : ℕ × ℕ) → ((s : SizeThere bytes at) → literal_of s.tree ≡ Some r.0) → ((s : SizeThere bytes at) → stop_of s.tree ≡ r.1) → (p : PackageThere op.VarPackage bytes at) → IsCount op.VarPackage p.parts r
  sized_count r number place p =
      let s = size_of_count p in
      subst (λ (ps : List Tree). IsCount op.VarPackage ps r) (sym s.2) (ap (λ (l : Option ℕ). content.Package (unwrap_or l 0)) (number s.0), place s.0)

  pub counted_size : (o : Op) → o ≡ op.VarPackage → (r : ℕ × ℕ) → ((s : SizeThere bytes at) → literal_of s.tree ≡ Some r.0) → ((s : SizeThere bytes at) → stop_of s.tree ≡ r.1) → (p : PackageThere o bytes at) → IsCount o p.parts r
  counted_size o is r number place = subst (λ (x : Op). (p : PackageThere x bytes at) → IsCount x p.parts r) (sym is) (sized_count r number place)
