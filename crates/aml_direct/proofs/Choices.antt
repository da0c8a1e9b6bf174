-- What an If and a While mean, by the statements that lie in them.
use Rattle.std.proofs.Common.{◌≡◌, ℕ, zero, suc, ◌<◌, List, [], ◌∷◌, ◌++◌, Option, None, Result, Ok, Err, refl, sym, ap, ◌∙◌, subst, arith}
use Rattle.std.specs.Prelude.{false, ◌==◌, if◌then◌else◌}
use Rattle.aml_lex.specs.NameStrings.{NameString}
use Rattle.aml_values.specs.Values.{Value}
use Rattle.aml_operators.specs.declared.op.Op.{Op}
use Rattle.aml_operators.specs.declared.op.Op.TheVariants.{Else}
use Rattle.aml_operators.specs.declared.row.Code.TheVariants as code
use Rattle.aml_operators.specs.declared.row.Spot.TheVariants as spot
use Rattle.aml_operators.specs.Shape.{operator_of}
use Rattle.aml_operators.specs.Table.{row}
use Rattle.aml_operators.specs.Tree.{Tree, Node, stop_of, trees}
use Rattle.aml_tree.specs.Begins.{Begins}
use Rattle.aml_tree.specs.Grammar.{AreTerms, Follows, IsTerm}
use Rattle.aml_tree.specs.Opening.{Opening, NoTarget, PlainName, InvokedName, Operator}
use Rattle.aml_meaning.specs.declared.action.Action.TheVariants as does
use Rattle.aml_meaning.specs.Loops.{loop}
use Rattle.aml_meaning.specs.Meaning.{Setting, act, at_of, block, is_else, mean, mean_all, otherwise, place, tested, value}
use Rattle.aml_meaning.specs.Parts.{M, ◌>>=◌, give}
use Rattle.aml_meaning.specs.Runs.{Halt, Runs}
use Rattle.aml_meaning.specs.State.{State}
use Rattle.aml_meaning.proofs.Loops.{nonzero_test}
use Rattle.aml_meaning.proofs.Runs.{runs_give, runs_stop, runs_then}
use Rattle.aml_places.specs.Lies.{IsBelow, LieAll, LieElse, LiesTerm}
use Rattle.aml_places.proofs.Blocks.{Other}
use Rattle.aml_places.proofs.Inversion.{term_starts}
use Rattle.aml_places.specs.Forms as places

-- a term stands where it lies
same_place : (t : Tree) → at_of t ≡ places.at_of t
same_place (Node o at stop parts) = refl

pub placed : (count : NameString → ℕ → ℕ) (bytes : List ℕ) (at : ℕ) (t : Tree) → LiesTerm count bytes at t → at_of t ≡ at
placed count bytes at t h = same_place t ∙ term_starts count bytes at t h

-- how what has no value ends, by how its statements end
abbrev pub valueless : Result (Unit {0}) Halt → Result (Option Value) Halt
valueless (Ok u) = Ok None
valueless (Err halt) = Err halt

pub runs_valueless : (m : M (Unit {0})) (r : Result (Unit {0}) Halt) (s0 s1 : State) → Runs r m s0 s1 → Runs (valueless r) (m >>= (λ u. give None)) s0 s1
runs_valueless m (Ok tt) s0 s1 h = runs_then _ h (runs_give None s1)
runs_valueless m (Err halt) s0 s1 h = runs_stop _ h

-- an Else is no statement
coded_else : (o : Op) → (row o).code < 0x10000 → is_else o ≡ false
coded_else Else lt = absurd (omega arith)
coded_else o lt = refl

module _ (count : NameString → ℕ → ℕ) where
  plain_opening : (d : ℕ) (o : Opening) (bytes : List ℕ) (at : ℕ) (t : Tree) → Begins code.Body spot.Statement bytes at o → Follows count (IsTerm code.Body count d) o bytes at t → is_else (operator_of t) ≡ false
  plain_opening d NoTarget bytes at t b h = rw h refl
  plain_opening d PlainName bytes at t b h = rw h.3 refl
  plain_opening d InvokedName bytes at t b h = rw h.7 refl
  plain_opening d (Operator o next) bytes at t b h = rw h.3 (coded_else o b.0)

  plain : (d own : ℕ) (bytes : List ℕ) (at : ℕ) (t : Tree) → IsBelow count d own spot.Statement bytes at t → is_else (operator_of t) ≡ false
  plain zero own bytes at t h = rw h.1 refl
  plain (suc d) own bytes at t h = plain_opening d h.0 bytes at t h.1 h.2

  module _ (here : Setting) where
    -- the own statements of an If, up to its Else
    else_blocks : (bytes : List ℕ) (at stop : ℕ) (tail : List Tree) → LieElse count bytes at stop tail → block here (trees tail) ≡ give tt
    else_blocks bytes at stop [] h = refl
    else_blocks bytes at stop (t ∷ ts) h = rw h.2.1.4 refl

    own_block : (bytes : List ℕ) (at stop : ℕ) (tail : List Tree) → LieElse count bytes at stop tail → (d own from to : ℕ) (within : List ℕ) (ts : List Tree) → AreTerms count (IsBelow count d) own spot.Statement within from to ts → block here (trees (ts ++ tail)) ≡ mean_all here (trees ts)
    own_block bytes at stop tail e d own from to within [] h = else_blocks bytes at stop tail e
    own_block bytes at stop tail e d own from to within (t ∷ ts) h =
        rw (plain d own within from t h.0) (ap (λ (m : M (Unit {0})). mean here t >>= (λ u. m)) (own_block bytes at stop tail e d own (stop_of t) to within ts h.1))

    other_more : (t : Tree) (ts : List Tree) → is_else (operator_of t) ≡ false → otherwise here (trees (t ∷ ts)) ≡ otherwise here (trees ts)
    other_more (Node o at stop parts) ts e = rw e refl

    other_block : (tail : List Tree) (d own from to : ℕ) (within : List ℕ) (ts : List Tree) → AreTerms count (IsBelow count d) own spot.Statement within from to ts → otherwise here (trees (ts ++ tail)) ≡ otherwise here (trees tail)
    other_block tail d own from to within [] h = refl
    other_block tail d own from to within (t ∷ ts) h = other_more t (ts ++ tail) (plain d own within from t h.0) ∙ other_block tail d own (stop_of t) to within ts h.1

    module _ (bytes : List ℕ) (at stop : ℕ) (tail : List Tree) (other : LieElse count bytes at stop tail) (within : List ℕ) (from : ℕ) (body : List Tree) (lie : LieAll count within from body) where
      pub own_is : block here (trees (body ++ tail)) ≡ mean_all here (trees body)
      own_is = own_block bytes at stop tail other lie.0 lie.1 from _ within body lie.2

      pub other_is : otherwise here (trees (body ++ tail)) ≡ otherwise here (trees tail)
      other_is = other_block tail lie.0 lie.1 from _ within body lie.2

abbrev pub test_of : Setting → Tree → M ℕ
test_of here t = tested here (place here t) (value here t)

module _ (here : Setting) (own x : ℕ) (test : Tree) (body parts : List Tree) (is : parts ≡ test ∷ body) (s0 s1 : State) where
  -- an If whose test gives no zero runs its own statements
  pub if_own : (r : Result (Unit {0}) Halt) (s2 : State) → (x ≡ 0 → ⊥) → Runs (Ok x) (test_of here test) s0 s1 → Runs r (block here (trees body)) s1 s2 → Runs (valueless r) (act here does.If own (trees parts)) s0 s2
  if_own r s2 z first rest =
      let m = if x == 0 then otherwise here (trees body) else block here (trees body) in
      let chosen : Runs r m s1 s2 = rw (nonzero_test x z) rest in
      let q : Runs (valueless r) (act here does.If own (trees (test ∷ body))) s0 s2 = runs_then _ first (runs_valueless m r s1 s2 chosen) in
      subst (λ l. Runs (valueless r) (act here does.If own (trees l)) s0 s2) (sym is) q

  -- and one whose test gives zero those of its Else
  pub if_other : (r : Result (Unit {0}) Halt) (s2 : State) → x ≡ 0 → Runs (Ok x) (test_of here test) s0 s1 → Runs r (otherwise here (trees body)) s1 s2 → Runs (valueless r) (act here does.If own (trees parts)) s0 s2
  if_other r s2 z first rest =
      let m = if x == 0 then otherwise here (trees body) else block here (trees body) in
      let chosen : Runs r m s1 s2 = rw z rest in
      let q : Runs (valueless r) (act here does.If own (trees (test ∷ body))) s0 s2 = runs_then _ first (runs_valueless m r s1 s2 chosen) in
      subst (λ l. Runs (valueless r) (act here does.If own (trees l)) s0 s2) (sym is) q

  pub if_stops : (halt : Halt) → Runs {V = ℕ} (Err halt) (test_of here test) s0 s1 → Runs {V = Option Value} (Err halt) (act here does.If own (trees parts)) s0 s1
  if_stops halt first =
      let q : Runs {V = Option Value} (Err halt) (act here does.If own (trees (test ∷ body))) s0 s1 = runs_stop _ first in
      subst (λ l. Runs {V = Option Value} (Err halt) (act here does.If own (trees l)) s0 s1) (sym is) q

  -- a While is the loop of its test and its body
  pub while_loops : (r : Result (Unit {0}) Halt) → Runs r (loop (test_of here test) (mean_all here (trees body))) s0 s1 → Runs (valueless r) (act here does.While own (trees parts)) s0 s1
  while_loops r h =
      let q : Runs (valueless r) (act here does.While own (trees (test ∷ body))) s0 s1 = runs_valueless _ r s0 s1 h in
      subst (λ l. Runs (valueless r) (act here does.While own (trees l)) s0 s1) (sym is) q

-- the statements of an Else
pub else_runs : (count : NameString → ℕ → ℕ) (bytes : List ℕ) (at stop : ℕ) (tail : List Tree) (here : Setting) (k : Other count bytes at stop tail) → otherwise here (trees tail) ≡ mean_all here (trees k.inside)
else_runs count bytes at stop tail here k = ap (λ l. otherwise here (trees l)) k.is
