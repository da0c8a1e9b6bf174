-- The worked row of two methods that call each other and a third that calls one of them, judged as a whole.
use Rattle.std.proofs.Common.{◌≡◌, ◌+◌, ℕ, zero, suc, [], ◌∷◌, Option, Some, None, refl, sym, subst, arith}
use Rattle.std.proofs.lemmas.Bool.{and_parts, eqb-true, ltb-true}
use Rattle.std.specs.Prelude.{Bool, true, false, ◌==◌, ◌&&◌, ◌||◌, nat_lt, if◌then◌else◌}
use Rattle.aml_operators.specs.declared.op.Op.TheVariants as op
use Rattle.aml_operators.specs.Tree.{Tree, Node, more}
use Rattle.aml_namespace.specs.declared.link.Link.{Link}
use Rattle.aml_namespace.specs.declared.link.Link.TheVariants as link
use Rattle.aml_values.specs.Values.{Int}
use Rattle.aml_meaning.specs.Within.{Callee}
use Rattle.aml_calls.specs.Calls.{calls_of}
use Rattle.aml_calls.specs.Chains.{is_among, Reaches, TellsReach}
use Rattle.aml_calls.proofs.Among.{not_both, or_left, or_right, same_number}
use Rattle.aml_calls.proofs.ChainLaws.{reached_inside, reaches_itself}
use Rattle.aml_judged.specs.Causes as cause
use Rattle.aml_judged.specs.Judged.{Accepted}
use Rattle.aml_judged.specs.Verdicts.{accepted_of, AreAccepted, called_from, calls_by, Judging, TellsChains, verdict_by, Verdict}
use Rattle.aml_judged.proofs.Examples.{leaf, one, refused, three, two}

-- Return (the method with a number), at its bytes' places behind a Method's opcode
abbrev calling : ℕ → ℕ → Callee
calling opcode k = record {
  table = 0;
  opcode = opcode;
  link = λ at. link.Method (record { 0 = k });
  lone = λ at. true;
  literal = λ o ts. Int 0;
  body = one (Node op.Return (opcode + 7) (opcode + 12) (one (Node op.Invocation (opcode + 8) (opcode + 12) (one (leaf op.NameString (opcode + 8))))));
}

-- AAAA, BBBB and CCCC
abbrev callees : ℕ → Option Callee
callees k = if k == 0 then Some (calling 36 1) else (if k == 1 then Some (calling 48 0) else (if k == 2 then Some (calling 60 0) else None))

-- each of the three reaches the first two, and every method itself
abbrev reaching : ℕ → ℕ → Bool
reaching from to = (from == to) || (nat_lt from 3 && nat_lt to 2)

abbrev all : Judging
all = record {
  methods = record { width = 64; object = λ i. None; field = λ i. None; buffer_field = λ i. None; callee = callees; is_interface = λ text. false };
  kinds = [];
  args = λ k. [];
  reaches = reaching;
}

abbrev none_known : ℕ → Option Accepted
none_known k = None

abbrev verdict : ℕ → Option Verdict
verdict k = verdict_by all none_known k (callees k)

row_16_first : verdict 0 ≡ Some (refused 44 cause.Cycle)
row_16_first = refl

row_16_second : verdict 1 ≡ Some (refused 56 cause.Cycle)
row_16_second = refl

row_16_third : verdict 2 ≡ Some (refused 68 cause.CalleeRefused)
row_16_third = refl

-- these are the verdicts: no method is accepted
abbrev Stands : ℕ → Type 0
Stands k = None ≡ accepted_of (verdict k)

stands : (k : ℕ) (a b c : Bool) → (k == 0) ≡ a → (k == 1) ≡ b → (k == 2) ≡ c → Stands k
stands k true b c e f g = subst Stands (sym (eqb-true k 0 e)) refl
stands k false true c e f g = subst Stands (sym (eqb-true k 1 f)) refl
stands k false false true e f g = subst Stands (sym (eqb-true k 2 g)) refl
stands k false false false e f g = rw (e, f, g) refl

row_16_accepted : AreAccepted all none_known
row_16_accepted = record { each = λ k. stands k (k == 0) (k == 1) (k == 2) refl refl refl }

-- and what is told of chains is so
record Called (k j : ℕ) : Type 0 where
  calls : nat_lt k 3 ≡ true
  called : nat_lt j 2 ≡ true

only_one : (j k : ℕ) → is_among j (k ∷ []) ≡ true → j ≡ k
only_one j k e = by (j == k) refl e
  where
    by : (b : Bool) → (j == k) ≡ b → (b || false) ≡ true → j ≡ k
    by true same f = eqb-true j k same
    by false same f = absurd cc

called_is : (k j : ℕ) (a b c : Bool) → (k == 0) ≡ a → (k == 1) ≡ b → (k == 2) ≡ c → is_among j (calls_by (if a then Some (calling 36 1) else (if b then Some (calling 48 0) else (if c then Some (calling 60 0) else None)))) ≡ true → Called k j
called_is k j true b c e f g h = subst (λ n. Called n j) (sym (eqb-true k 0 e)) (subst (Called 0) (sym (only_one j 1 h)) (record { calls = refl; called = refl }))
called_is k j false true c e f g h = subst (λ n. Called n j) (sym (eqb-true k 1 f)) (subst (Called 1) (sym (only_one j 0 h)) (record { calls = refl; called = refl }))
called_is k j false false true e f g h = subst (λ n. Called n j) (sym (eqb-true k 2 g)) (subst (Called 2) (sym (only_one j 0 h)) (record { calls = refl; called = refl }))
called_is k j false false false e f g h = absurd cc

-- where a chain leads
reaches_on : (from k j : ℕ) → reaching from k ≡ true → is_among j (called_from all k) ≡ true → reaching from j ≡ true
reaches_on from k j e h = by (from == k) refl e
  where
    called : Called k j
    called = called_is k j (k == 0) (k == 1) (k == 2) refl refl refl h

    low : nat_lt from 3 ≡ true → reaching from j ≡ true
    low f = or_right (from == j) (nat_lt from 3 && nat_lt j 2) (let g = called.called in rw (f, g) refl)

    by : (b : Bool) → (from == k) ≡ b → (b || (nat_lt from 3 && nat_lt k 2)) ≡ true → reaching from j ≡ true
    by true same f = low (subst (λ n. nat_lt n 3 ≡ true) (sym (eqb-true from k same)) called.calls)
    by false other f = low (and_parts (nat_lt from 3) (nat_lt k 2) f).0

chain_of : (from to : ℕ) → nat_lt from 3 ≡ true → nat_lt to 2 ≡ true → Reaches (called_from all) from to
chain_of zero zero e f = reaches_itself (called_from all) 0
chain_of zero (suc zero) e f = record { behind = 1 ∷ []; chain = (refl, (tt, tt)); ends = refl }
chain_of (suc zero) zero e f = record { behind = 0 ∷ []; chain = (refl, (tt, tt)); ends = refl }
chain_of (suc zero) (suc zero) e f = reaches_itself (called_from all) 1
chain_of (suc (suc zero)) zero e f = record { behind = 0 ∷ []; chain = (refl, (tt, tt)); ends = refl }
chain_of (suc (suc zero)) (suc zero) e f = record { behind = 0 ∷ 1 ∷ []; chain = (refl, (refl, (tt, tt))); ends = refl }
chain_of (suc (suc (suc n))) to e f = absurd (let lt = ltb-true (suc (suc (suc n))) 3 e in omega (arith, lt))
chain_of from (suc (suc n)) e f = absurd (let lt = ltb-true (suc (suc n)) 2 f in omega (arith, lt))

tells : (from to : ℕ) (b : Bool) → reaching from to ≡ b → TellsReach (called_from all) from to b
tells from to true e = by (from == to) refl e
  where
    by : (b : Bool) → (from == to) ≡ b → (b || (nat_lt from 3 && nat_lt to 2)) ≡ true → Reaches (called_from all) from to
    by true same f = subst (Reaches (called_from all) from) (eqb-true from to same) (reaches_itself (called_from all) from)
    by false other f = let two = and_parts (nat_lt from 3) (nat_lt to 2) f in chain_of from to two.0 two.1
tells from to false e = λ r. not_both (reaching from to) (reached_inside (called_from all) (reaching from) (λ k j. reaches_on from k j) from to (or_left (from == from) _ (same_number from)) r) e

row_16_tells : TellsChains all
row_16_tells = record { each = λ from to. tells from to (reaching from to) refl }

-- what a body calls: behind a Return, within arguments, and where an Index is of it that is written; not `_OSI`,
-- and not what stands as no term
abbrev links : ℕ → Link
links at = if at == 50 then link.Method (record { 0 = 4 }) else (if at == 56 then link.Method (record { 0 = 5 }) else (if at == 70 then link.OsInterfaces else (if at == 80 then link.Method (record { 0 = 6 }) else link.Missing)))

abbrev calls_in_an_index : Tree
calls_in_an_index = Node op.Store 46 64 (two (leaf op.One 47) (Node op.Index 48 64 (three (Node op.Invocation 50 60 (two (leaf op.NameString 50) (Node op.Invocation 56 60 (one (leaf op.NameString 56))))) (leaf op.Zero 61) (leaf op.NullName 62))))

body_calls : calls_of links (more (Node op.Return 43 45 (one (leaf op.One 44))) (three calls_in_an_index (Node op.Invocation 70 75 (two (leaf op.NameString 70) (leaf op.String 74))) (Node op.Store 78 84 (two (leaf op.One 79) (leaf op.NameString 80))))) ≡ 4 ∷ 5 ∷ []
body_calls = refl
