-- Bodies and modules are read as they stand.
use Rattle.std.proofs.Common.{◌≡◌, ℕ, zero, suc, ◌+◌, ◌≤◌, ◌<◌, inl, inr, List, [], ◌∷◌, ◌++◌, length, Result, Ok, Err, refl, sym, ap, ◌∙◌, subst, arith, append_assoc}
use Rattle.std.specs.Prelude.{nat_lt, true, false, Vec}
use Rattle.std.proofs.lemmas.Bool.{lt-ltb, ltb-true, ltb-false}
use Rattle.std.proofs.lemmas.List.{append-nil}
use Rattle.aml_operators.specs.declared.row.Code.TheVariants as code
use Rattle.aml_operators.specs.declared.row.Spot.TheVariants as spot
use Rattle.aml_operators.specs.declared.term.Term.{Term}
use Rattle.aml_operators.specs.Tree.{Tree, stop_of}
use Rattle.aml_lex.specs.NameStrings.{NameString}
use Rattle.aml_lex.specs.declared.names.NameSeg.{NameSeg}
use Rattle.aml_tree.specs.declared.fault.Refusal.{Refusal}
use Rattle.aml_tree.specs.declared.fault.TreeFault.{TreeFault}
use Rattle.aml_tree.specs.declared.fault.TreeFault.TheVariants.{NoMemory, Refused}
use Rattle.aml_tree.specs.Answers.{Answers}
use Rattle.aml_tree.specs.Fault.{Fails, ReadsAs}
use Rattle.aml_tree.specs.Grammar.{AreTerms, FaultyTerms, IsTerm, Faulty}
use Rattle.aml_tree.specs.Reading.{term_at}
use Rattle.aml_tree.specs.Body.{greatest_depth, with_owns, owns_behind, IsStatement, AreStatements, IsBody, FaultyBody, ReadsBody, module_start, no_arguments, IsModule, FaultyModule, ReadsModule, body_until, module_at, trees_of, trees_read}
use Rattle.aml_tree.proofs.Combining.{and_answers, weaker, by_test, of_ok, of_err}
use Rattle.aml_tree.proofs.Bounds.{term_in}
use Rattle.aml_tree.proofs.Right.{until_right}
use Rattle.aml_tree.proofs.RightTerms.{term_right}
use Rattle.aml_tree.proofs.Full.{not_below, term_full, until_full}

module _ (arity : NameString → ℕ → ℕ) (bytes : List ℕ) where
  statement_right : (owns : List NameSeg) (at : ℕ) → Answers (term_at code.Body (with_owns arity owns) greatest_depth at spot.Statement bytes at) (IsStatement arity owns bytes at) (Faulty code.Body (with_owns arity owns) greatest_depth at spot.Statement bytes at)
  statement_right owns at = term_right code.Body (with_owns arity owns) greatest_depth at spot.Statement bytes at

  statement_in : (owns : List NameSeg) (at : ℕ) (t : Tree) → IsStatement arity owns bytes at t → (at < stop_of t) × (stop_of t ≤ length bytes)
  statement_in owns at t h = term_in code.Body (with_owns arity owns) greatest_depth at spot.Statement bytes at t h

  -- the statements that came behind those in front
  abbrev Came : List NameSeg → List Tree → ℕ → List Tree → Type 0
  Came owns front at r = (ts : List Tree) × (last : List NameSeg) × (r ≡ front ++ ts) × AreStatements arity owns bytes at ts (length bytes) last

  body_right : (n : ℕ) (owns : List NameSeg) (front : List Tree) (at : ℕ) → length bytes ≤ at + n → at ≤ length bytes → Answers (body_until arity bytes n owns front at) (Came owns front at) (FaultyBody arity owns bytes at)
  body_right zero owns front at le ge = let e : at ≡ length bytes = omega arith in ([], owns, sym (append-nil front), (e, refl))
  body_right (suc n) owns front at le ge = by_test (nat_lt at (length bytes)) _ _ (Came owns front at) (FaultyBody arity owns bytes at)
      (λ q. let lt : at < length bytes = ltb-true _ _ q in
      and_answers (term_at code.Body (with_owns arity owns) greatest_depth at spot.Statement bytes at) (IsStatement arity owns bytes at) (Faulty code.Body (with_owns arity owns) greatest_depth at spot.Statement bytes at) _ (Came owns front at) (FaultyBody arity owns bytes at) (statement_right owns at)
      (λ t b. let w = statement_in owns at t b in
      weaker _ (Came (owns_behind owns bytes t) (front ++ t ∷ []) (stop_of t)) (FaultyBody arity (owns_behind owns bytes t) bytes (stop_of t)) (Came owns front at) (FaultyBody arity owns bytes at) (body_right n (owns_behind owns bytes t) (front ++ t ∷ []) (stop_of t) (omega (arith, w)) w.1)
      (λ r h. (t ∷ h.0, h.1, h.2 ∙ append_assoc front (t ∷ []) h.0, (b, h.3)))
      (λ f h. (h.0, t ∷ h.1, h.2, (b, h.3), h.4, h.5)))
      (λ f b. (at, [], owns, (refl, refl), lt, b)))
      (λ q. let over : length bytes ≤ at = ltb-false _ _ q in let e : at ≡ length bytes = omega arith in ([], owns, sym (append-nil front), (e, refl)))

  body_full : (n : ℕ) (owns : List NameSeg) (front : List Tree) (at : ℕ) (ts : List Tree) (last : List NameSeg) → AreStatements arity owns bytes at ts (length bytes) last → length bytes ≤ at + n → body_until arity bytes n owns front at ≡ Ok (front ++ ts)
  body_full zero owns front at [] last h le = ap Ok (sym (append-nil front))
  body_full zero owns front at (t ∷ ts) last h le = let w = statement_in owns at t h.0 in absurd (omega (arith, w))
  body_full (suc n) owns front at [] last h le =
      let test : nat_lt at (length bytes) ≡ false = not_below at (length bytes) (omega (arith, h.0)) (nat_lt at (length bytes)) refl in
      rw (test, append-nil front)
  body_full (suc n) owns front at (t ∷ ts) last h le =
      let w = statement_in owns at t h.0 in
      let test : nat_lt at (length bytes) ≡ true = lt-ltb at (length bytes) (omega (arith, w)) in
      rw (test, term_full code.Body (with_owns arity owns) greatest_depth at spot.Statement bytes at t h.0, body_full n (owns_behind owns bytes t) (front ++ t ∷ []) (stop_of t) ts last h.1 (omega (arith, w)), append_assoc front (t ∷ []) ts)

  -- one more statement
  pub body_on : (n : ℕ) (owns : List NameSeg) (front : List Tree) (at : ℕ) (t : Tree) (whole : Result (List Tree) Refusal) → at < length bytes → length bytes ≤ at + n → at < stop_of t → term_at code.Body (with_owns arity owns) greatest_depth at spot.Statement bytes at ≡ Ok t → whole ≡ body_until arity bytes n owns front at → (m : ℕ) × (length bytes ≤ stop_of t + m) × (whole ≡ body_until arity bytes m (owns_behind owns bytes t) (front ++ t ∷ []) (stop_of t))
  body_on zero owns front at t whole lt le ahead is e = absurd (omega arith)
  body_on (suc m) owns front at t whole lt le ahead is e =
      let test : nat_lt at (length bytes) ≡ true = lt-ltb at (length bytes) lt in
      (m, omega arith, rw (test, is) at e)

  -- behind the last statement
  pub body_end : (n : ℕ) (owns : List NameSeg) (front : List Tree) (at : ℕ) → length bytes ≤ at → body_until arity bytes n owns front at ≡ Ok front
  body_end zero owns front at le = refl
  body_end (suc n) owns front at le = let test : nat_lt at (length bytes) ≡ false = not_below at (length bytes) le (nat_lt at (length bytes)) refl in rw test

  -- a statement that is refused
  body_fails : (n : ℕ) (owns : List NameSeg) (front : List Tree) (at : ℕ) (f : Refusal) → at < length bytes → length bytes ≤ at + n → term_at code.Body (with_owns arity owns) greatest_depth at spot.Statement bytes at ≡ Err f → body_until arity bytes n owns front at ≡ Err f
  body_fails zero owns front at f lt le e = absurd (omega arith)
  body_fails (suc n) owns front at f lt le e = let test : nat_lt at (length bytes) ≡ true = lt-ltb at (length bytes) lt in rw (test, e)

  pub body_failing : (n : ℕ) (owns : List NameSeg) (front : List Tree) (at : ℕ) (fault : TreeFault) → at < length bytes → length bytes ≤ at + n → Fails fault (term_at code.Body (with_owns arity owns) greatest_depth at spot.Statement bytes at) → Fails fault (body_until arity bytes n owns front at)
  body_failing n owns front at NoMemory lt le e = tt
  body_failing n owns front at (Refused f) lt le e = body_fails n owns front at f lt le e

  -- what reading answers is what the grammar says
  pub body_reads : {Z : Type 0} (at : ℕ) → at ≤ length bytes → (result : Result (Vec Term Z) TreeFault) → ReadsAs trees_of result (body_until arity bytes (length bytes) [] [] at) → ReadsBody arity bytes at (trees_read result)
  body_reads at le (Ok terms) e =
      let h = of_ok _ _ _ _ (body_right (length bytes) [] [] at (omega arith) le) e in
      (h.1, subst (λ (x : List Tree). AreStatements arity [] bytes at x (length bytes) h.1) (sym h.2) h.3)
  body_reads at le (Err NoMemory) e = tt
  body_reads at le (Err (Refused f)) e = (
    of_err _ _ _ _ (body_right (length bytes) [] [] at (omega arith) le) e,
    λ ts h. let x = body_full (length bytes) [] [] at ts h.0 h.1 (omega arith) in cc (x, e),
  )

  -- reading finds the statements of a body
  pub body_found : (at : ℕ) (ts : List Tree) → IsBody arity bytes at ts → body_until arity bytes (length bytes) [] [] at ≡ Ok ts
  body_found at ts h = body_full (length bytes) [] [] at ts h.0 h.1 (omega arith)

  -- what reading finds is a body
  pub found_body : (at : ℕ) → at ≤ length bytes → (ts : List Tree) → body_until arity bytes (length bytes) [] [] at ≡ Ok ts → IsBody arity bytes at ts
  found_body at le ts e =
      let h = of_ok _ _ _ _ (body_right (length bytes) [] [] at (omega arith) le) e in
      (h.1, subst (λ (x : List Tree). AreStatements arity [] bytes at x (length bytes) h.1) (sym h.2) h.3)

  -- a body begins within the bytes
  pub body_within : (at : ℕ) (ts : List Tree) → IsBody arity bytes at ts → at ≤ length bytes
  body_within at [] h = omega (arith, h.1.0)
  body_within at (t ∷ ts) h = let w = statement_in [] at t h.1.0 in omega (arith, w)

-- the definitions that came
abbrev Defined : List ℕ → List Tree × ℕ → Type 0
Defined bytes r = (ts : List Tree) × (r.0 ≡ [] ++ ts) × AreTerms no_arguments (IsTerm code.Module no_arguments greatest_depth) module_start spot.Statement bytes module_start r.1 ts × (r.1 ≡ length bytes)

abbrev NotDefined : List ℕ → Refusal → Type 0
NotDefined bytes f = FaultyTerms no_arguments (IsTerm code.Module no_arguments greatest_depth) (Faulty code.Module no_arguments greatest_depth) module_start spot.Statement bytes module_start f

module_right : (bytes : List ℕ) → Answers (module_at bytes) (IsModule bytes) (FaultyModule bytes)
module_right bytes = by_test (nat_lt (length bytes) module_start) _ _ (IsModule bytes) (FaultyModule bytes)
    (λ q. let short : length bytes < module_start = ltb-true _ _ q in inl (short, refl))
    (λ q. let long : module_start ≤ length bytes = ltb-false _ _ q in
    and_answers _ (Defined bytes) (NotDefined bytes) _ (IsModule bytes) (FaultyModule bytes)
    (until_right no_arguments (term_at code.Module no_arguments greatest_depth) (IsTerm code.Module no_arguments greatest_depth) (Faulty code.Module no_arguments greatest_depth) (term_right code.Module no_arguments greatest_depth) (term_in code.Module no_arguments greatest_depth) module_start spot.Statement bytes (length bytes) [] module_start (omega arith) long)
    (λ r h.
    let filled : AreTerms no_arguments (IsTerm code.Module no_arguments greatest_depth) module_start spot.Statement bytes module_start (length bytes) h.0 = subst (λ (x : ℕ). AreTerms no_arguments (IsTerm code.Module no_arguments greatest_depth) module_start spot.Statement bytes module_start x h.0) h.3 h.2 in
    (long, subst (λ (x : List Tree). AreTerms no_arguments (IsTerm code.Module no_arguments greatest_depth) module_start spot.Statement bytes module_start (length bytes) x) (sym h.1) filled))
    (λ f h. inr (long, h)))

module_full : (bytes : List ℕ) (ts : List Tree) → IsModule bytes ts → module_at bytes ≡ Ok ts
module_full bytes ts h =
    let test : nat_lt (length bytes) module_start ≡ false = not_below (length bytes) module_start h.0 (nat_lt (length bytes) module_start) refl in
    rw (test, until_full no_arguments (term_at code.Module no_arguments greatest_depth) (IsTerm code.Module no_arguments greatest_depth) (term_full code.Module no_arguments greatest_depth) (term_in code.Module no_arguments greatest_depth) module_start spot.Statement bytes (length bytes) [] module_start (length bytes) ts h.1 refl (omega arith))

pub module_reads : {Z : Type 0} (bytes : List ℕ) (result : Result (Vec Term Z) TreeFault) → ReadsAs trees_of result (module_at bytes) → ReadsModule bytes (trees_read result)
module_reads bytes (Ok terms) e = of_ok _ _ _ _ (module_right bytes) e
module_reads bytes (Err NoMemory) e = tt
module_reads bytes (Err (Refused f)) e = (of_err _ _ _ _ (module_right bytes) e, λ ts h. let x = module_full bytes ts h in cc (x, e))

-- bytes have one module, and one body from a place on
pub one_module : (bytes : List ℕ) (ts us : List Tree) → IsModule bytes ts → IsModule bytes us → ts ≡ us
one_module bytes ts us a b = let x = module_full bytes ts a in let y = module_full bytes us b in cc (x, y)

pub one_body : (arity : NameString → ℕ → ℕ) (bytes : List ℕ) (at : ℕ) (ts us : List Tree) → IsBody arity bytes at ts → IsBody arity bytes at us → ts ≡ us
one_body arity bytes at ts us a b =
    let x = body_full arity bytes (length bytes) [] [] at ts a.0 a.1 (omega arith) in
    let y = body_full arity bytes (length bytes) [] [] at us b.0 b.1 (omega arith) in cc (x, y)
