-- The literals in the bodies of a namespace's methods are small.
use Rattle.std.proofs.Common.{◌≡◌, ℕ, Option, Some, None, refl, sym, subst}
use Rattle.aml_operators.specs.declared.op.Op.{Op}
use Rattle.aml_operators.specs.declared.op.Op.TheVariants as op
use Rattle.aml_operators.specs.Tree.{Tree, Trees, Node, none, more, trees}
use Rattle.aml_paths.specs.declared.scope.Scope.TheVariants.{At}
use Rattle.aml_objects.specs.declared.object.Method.{Method}
use Rattle.aml_namespace.specs.Bodies.{bytes_of}
use Rattle.aml_namespace.specs.Load.{Shown}
use Rattle.aml_namespace.specs.Made.{content_in}
use Rattle.aml_namespace.specs.Names.{body_bytes, counts, method_at}
use Rattle.aml_objects.specs.Widths.{bits_of}
use Rattle.aml_contents.specs.BodyData.{body_data}
use Rattle.aml_meaning.specs.Actions.{action}
use Rattle.aml_meaning.specs.Methods.{AreBodies, callee_in, callee_of}
use Rattle.aml_meaning.specs.Within.{Callee, Methods}
use Rattle.aml_judged.specs.Safe.{AreBytes}
use Rattle.aml_judged.specs.Small.{AllSmall, IsSmall, IsSmallBy}
use Rattle.aml_literal_laws.specs.Laws.{LiteralsAreSmall, TablesAreBytes}
use Rattle.aml_literal_laws.proofs.Bytes.{taken}
use Rattle.aml_literal_laws.proofs.Counted.{AreCounted, body_counted, IsCounted, IsShort}
use Rattle.aml_literal_laws.proofs.Words.{value_word}

module _ (ns : Shown) (table k : ℕ) (bytes : AreBytes (bytes_of ns.tables table)) where
  -- just what is data has a literal
  operator_small : (o : Op) (parts : Trees) → IsShort (content_in o parts) → AreCounted parts → IsSmallBy (bits_of ns.width) (body_data ns table k) (action o) parts
  operator_small op.String parts short h = value_word ns table (At (record { 0 = k })) bytes op.String parts short h
  operator_small op.Buffer parts short h = value_word ns table (At (record { 0 = k })) bytes op.Buffer parts short h
  operator_small op.Package parts short h = value_word ns table (At (record { 0 = k })) bytes op.Package parts short h
  operator_small op.VarPackage parts short h = value_word ns table (At (record { 0 = k })) bytes op.VarPackage parts short h
  operator_small o parts short h = tt

  mutual
    is_small : (t : Tree) → IsCounted t → IsSmall (bits_of ns.width) (body_data ns table k) t
    is_small (Node o at stop parts) h = (operator_small o parts h.0 h.1, all_small parts h.1)

    all_small : (ts : Trees) → AreCounted ts → AllSmall (bits_of ns.width) (body_data ns table k) ts
    all_small none h = tt
    all_small (more t ts) h = (is_small t h.0, all_small ts h.1)

module _ (ns : Shown) (bodies : ℕ → Option Trees) (bytes : TablesAreBytes ns.tables) (are : AreBodies ns bodies) where
  body_small : (k : ℕ) (m : Method) (body : Trees) → method_at ns k ≡ Some m → bodies k ≡ Some body → AllSmall (bits_of ns.width) (body_data ns m.table k) body
  body_small k m body e f =
      let read = are.only k m e body f in
      let same : trees read.0 ≡ body = let g = are.all k m e read.0 read.1 in cc in
      subst (AllSmall (bits_of ns.width) (body_data ns m.table k)) same
      (all_small ns m.table k (bytes.each m.table) (trees read.0)
      (body_counted (counts ns k) (body_bytes ns m) m.body.at read.0 (taken m.body.end (bytes_of ns.tables m.table) (bytes.each m.table)) read.1))

  callee_small : (k : ℕ) (c : Callee) (m : Option Method) (body : Option Trees) → method_at ns k ≡ m → bodies k ≡ body → callee_in ns k m body ≡ Some c → AllSmall (bits_of ns.width) c.literal c.body
  callee_small k c (Some m) (Some body) e f g =
      let same : callee_of ns k m body ≡ c = cc in subst (λ d. AllSmall (bits_of ns.width) d.literal d.body) same (body_small k m body e f)
  callee_small k c (Some m) None e f g = absurd cc
  callee_small k c None body e f g = absurd cc

abbrev AllSmallIn : Methods → Type 0
AllSmallIn methods = (k : ℕ) (c : Callee) → methods.callee k ≡ Some c → AllSmall methods.width c.literal c.body

pub literals_are_small : LiteralsAreSmall
literals_are_small ns bodies all bytes are is =
    subst AllSmallIn (sym is) (λ k c e. callee_small ns bodies bytes are k c (method_at ns k) (bodies k) refl refl e)
