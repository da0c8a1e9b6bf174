-- A byte that is written into a buffer's name, as it is judged.
use Rattle.std.proofs.Common.{◌≡◌, ℕ, zero, suc, ◌%◌, ◌≤◌, ◌<◌, List, [], ◌∷◌, length, Option, Some, None, Ok, Err, refl, sym, ap, ◌∙◌, subst, arith}
use Rattle.std.specs.Prelude.{Bool, true, false, ◌==◌, if◌then◌else◌, nat_lt, slice_set}
use Rattle.std.proofs.lemmas.Bool.{eqb-true, leb-true, ltb-true}
use Rattle.std.proofs.lemmas.Bool.Decides.{nat_tests}
use Rattle.std.proofs.Math.Nat.{mod-lt}
use Rattle.aml_operators.specs.Tree.{Tree, Trees, Node, more}
use Rattle.aml_namespace.specs.declared.link.Link.{Link}
use Rattle.aml_namespace.specs.declared.link.Link.TheVariants as link
use Rattle.aml_values.specs.Values.{Value, Int, Buf, Str, Pkg}
use Rattle.aml_kinds.specs.Kinds.{Kind, IntUpTo, BufOf, StrOf, PkgOf, AnyPkg, Mixed}
use Rattle.aml_contents.specs.Contents.{ContentKinds, fits_kind, kind_at, with_byte}
use Rattle.aml_regions.specs.Events.{Event}
use Rattle.aml_meaning.specs.declared.action.Action.{Action}
use Rattle.aml_meaning.specs.declared.action.Action.TheVariants.{Name, NoTarget, Invoke}
use Rattle.aml_meaning.specs.declared.error.AmlCause.TheVariants as why
use Rattle.aml_meaning.specs.Actions.{action}
use Rattle.aml_meaning.specs.State.{State, Names, Out, with_steps}
use Rattle.aml_meaning.specs.Parts.{give, paid, may_store, named_content}
use Rattle.aml_meaning.specs.Changes.{change, changed_or, held_by, holding}
use Rattle.aml_meaning.specs.Elements.{ByteStore, byte_written}
use Rattle.aml_meaning.specs.Rules as rules
use Rattle.aml_meaning.specs.Rules.{Place}
use Rattle.aml_meaning.specs.Meaning.{Setting, at_of, bound, indexed, name_indexed, place, place_at}
use Rattle.aml_judged.specs.Causes as causes
use Rattle.aml_judged.specs.Causes.{Refusal}
use Rattle.aml_judged.specs.Known.{Env}
use Rattle.aml_judged.specs.Judge as judge
use Rattle.aml_judged.specs.Judge.{held_kind, judged_bound, judged_indexed, judged_name_indexed}
use Rattle.aml_judged.specs.Judged.{NameKinds, Seen, goes, no_exits, pays, refuses, ruled, then_judge}
use Rattle.aml_judged.specs.KindRules.{byte_written_kind}
use Rattle.aml_judged.specs.Safe.{AreBytes, FitNames}
use Rattle.aml_judged.proofs.Words.{words_of}
use Rattle.aml_judged.proofs.Fits.{HasFit, name_fits, stored_names}
use Rattle.aml_judged.proofs.KindRules.{plain}
use Rattle.aml_judged.proofs.Loops.{IsUnit}
use Rattle.aml_judged.proofs.Parts.{after_safe, stepped, ticked}

abbrev pub SamePlace : ℕ → ℕ → Type 0
SamePlace v k = v ≡ k

set_length : (bytes : List ℕ) (i b : ℕ) → length (slice_set bytes i b) ≡ length bytes
set_length [] zero b = refl
set_length [] (suc i) b = refl
set_length (x ∷ bytes) zero b = refl
set_length (x ∷ bytes) (suc i) b = ap suc (set_length bytes i b)

set_bytes : (bytes : List ℕ) (i b : ℕ) → b < 256 → AreBytes bytes → AreBytes (slice_set bytes i b)
set_bytes [] zero b lt h = tt
set_bytes [] (suc i) b lt h = tt
set_bytes (x ∷ bytes) zero b lt h = (lt, h.1)
set_bytes (x ∷ bytes) (suc i) b lt h = (h.0, set_bytes bytes i b lt h.1)

same_size : (m n : ℕ) → m ≡ n → (m == n) ≡ true
same_size m n e = grind (arith, nat_tests)

-- a buffer of a length, among names of which one is of that kind
pub record IsBuffer (width n : ℕ) (o : Option Value) : Type 0 where
  pub bytes : List ℕ
  pub is : o ≡ Some (Buf bytes)
  pub long : length bytes ≡ n
  pub small : AreBytes bytes

there_buffer : (width n : ℕ) (o : Option Value) → HasFit width (Some o) (BufOf n) → IsBuffer width n o
there_buffer width n (Some (Buf xs)) h = record { bytes = xs; is = refl; long = eqb-true (length xs) n h.fit; small = h.word }
there_buffer width n (Some (Int x)) h = absurd (let bad : false ≡ true = h.fit in cc)
there_buffer width n (Some (Str xs)) h = absurd (let bad : false ≡ true = h.fit in cc)
there_buffer width n (Some (Pkg xs)) h = absurd (let bad : false ≡ true = h.fit in cc)
there_buffer width n None h = absurd h

may_be_set : (ks : ContentKinds) (i n : ℕ) (bytes : List ℕ) → kind_at ks i ≡ Some (BufOf n) → length bytes ≡ n → may_store ks i (Buf bytes) ≡ true
may_be_set ks i n bytes e long = subst (λ o. fits_kind (Buf bytes) o ≡ true) (sym e) (same_size (length bytes) n long)

set_names : (width : ℕ) (ks : ContentKinds) (names : Names) (i n : ℕ) (bytes : List ℕ) → kind_at ks i ≡ Some (BufOf n) → length bytes ≡ n → AreBytes bytes → FitNames width ks names → FitNames width ks (named_content names i (Buf bytes))
set_names width ks names i n bytes e long small f = stored_names width ks names i (Buf bytes) f (may_be_set ks i n bytes e long) small

pub held_steps : (l : Link) (s : State) (v : Value) → (holding l s v).steps ≡ s.steps
held_steps (link.Method id) s v = refl
held_steps link.OsInterfaces s v = refl
held_steps (link.Data id) s v = refl
held_steps (link.Field id) s v = refl
held_steps (link.BufferField id) s v = refl
held_steps (link.Object id) s v = refl
held_steps (link.Own k) s v = refl
held_steps link.Missing s v = refl

module _ (here : Setting) (kinds : NameKinds) (callee : ℕ → Seen) (above : ℕ) (script : List Event) where
  open words_of here kinds callee above use {around, Fine, Safe, Is}

  bound_safe : (l : Link) (at : ℕ) (env : Env) (s : State) → Fine env s → Safe (plain SamePlace) s.steps (judged_bound around l at env) ((bound here l at).run script s)
  unfolding give
  bound_safe link.Missing at env s fits = tt
  bound_safe l at env s fits = (refl, fits, omega arith)

  name_indexed_safe : (at : ℕ) (a : Action) (from : ℕ) (parts : Trees) (env : Env) (s : State) → Fine env s → Safe (plain SamePlace) s.steps (judged_name_indexed around at a from parts env) ((name_indexed here at a from parts).run script s)
  name_indexed_safe at Name from parts env s fits = bound_safe (here.link from) from env s fits
  name_indexed_safe at Invoke from (more name arguments) env s fits = bound_safe (here.link (at_of name)) (at_of name) env s fits
  name_indexed_safe at a from parts env s fits = tt

  pub indexed_safe : (at : ℕ) (into : Action) (x : Tree) (env : Env) (s : State) → Fine env s → Safe (plain SamePlace) s.steps (judged_indexed around at into x env) ((indexed here at into x).run script s)
  indexed_safe at NoTarget (Node o from stop parts) env s fits = name_indexed_safe at (action o) from parts env s fits
  indexed_safe at a x env s fits = tt

  pub held_buffer : (l : Link) (n : ℕ) (env : Env) (s : State) → held_kind around l ≡ Some (BufOf n) → Fine env s → IsBuffer here.width n (held_by l s)
  held_buffer (link.Data id) n env s e fits = there_buffer here.width n _ (name_fits here.width kinds.shared s.names id.0 (BufOf n) fits.shared e)
  held_buffer (link.Own k) n env s e fits = there_buffer here.width n _ (name_fits here.width kinds.owns s.frame.owns k (BufOf n) fits.owned e)
  held_buffer l n env s e fits = absurd cc

  pub held_fits : (l : Link) (n : ℕ) (bytes : List ℕ) (env : Env) (s : State) → held_kind around l ≡ Some (BufOf n) → length bytes ≡ n → AreBytes bytes → Fine env s → Fine env (holding l s (Buf bytes))
  held_fits (link.Data id) n bytes env s e long small fits = record { reached = fits.reached; own = fits.own; given = fits.given; shared = set_names here.width kinds.shared s.names id.0 n bytes e long small fits.shared; owned = fits.owned; fields = fits.fields; holds = fits.holds; callers = fits.callers }
  held_fits (link.Own k) n bytes env s e long small fits = record { reached = fits.reached; own = fits.own; given = fits.given; shared = fits.shared; owned = set_names here.width kinds.owns s.frame.owns k n bytes e long small fits.owned; fields = fits.fields; holds = fits.holds; callers = fits.callers }
  held_fits l n bytes env s e long small fits = absurd cc

  byte_ok : (op p q : Place) (bytes : List ℕ) (x m n : ℕ) → x < n → length bytes ≡ n → byte_written op p q (Int x) (Int m) (Some (Buf bytes)) ≡ Ok (Buf (slice_set bytes x (m % 256)))
  byte_ok op p q bytes x m n lt long = choice (nat_lt x (length bytes)) refl
    where
      choice : (b : Bool) → nat_lt x (length bytes) ≡ b → rules.◌>>=◌ {X = ByteStore} (rules.◌>>=◌ {X = ℕ} {Y = ByteStore} (if b then Ok x else rules.fails why.Index op) (λ at. Ok (record { place = at; byte = m % 256 }))) (λ w. Ok (with_byte (Buf bytes) w.place w.byte)) ≡ Ok (Buf (slice_set bytes x (m % 256)))
      choice true e = refl
      choice false e = absurd (let yes : nat_lt x (length bytes) ≡ true = (let less : x < length bytes = omega (arith, lt, long) in grind (arith, nat_tests)) in let bad : true ≡ false = sym yes ∙ e in cc)

  set_safe : (l : Link) (op p q : Place) (n x m : ℕ) (env : Env) (s : State) → held_kind around l ≡ Some (BufOf n) → x < n → Fine env s → Safe IsUnit s.steps (goes tt env) (changed_or l s (byte_written op p q (Int x) (Int m) (held_by l s)))
  set_safe l op p q n x m env s e lt fits =
      let b = held_buffer l n env s e fits in
      subst (λ r. Safe IsUnit s.steps (goes tt env) (changed_or l s r)) (sym (ap (byte_written op p q (Int x) (Int m)) b.is ∙ byte_ok op p q b.bytes x m n lt b.long))
      (tt, held_fits l n (slice_set b.bytes x (m % 256)) env s e (set_length b.bytes x (m % 256) ∙ b.long) (set_bytes b.bytes x (m % 256) (mod-lt m (omega arith)) b.small) fits, (let same = held_steps l s (Buf (slice_set b.bytes x (m % 256))) in omega (arith, same)))

  changed_safe : (l : Link) (op p q : Place) (n x m : ℕ) (env : Env) (s : State) → held_kind around l ≡ Some (BufOf n) → x < n → Fine env s → Safe IsUnit s.steps (pays 1 tt env) ((change l (byte_written op p q (Int x) (Int m))).run script s)
  unfolding change paid
  changed_safe l op p q n x m env s e lt fits = ticked here.width kinds above IsUnit (goes tt env) s.steps s _ (λ k. set_safe l op p q n x m env (with_steps s k) e lt (stepped here.width kinds above env s k fits))

  refused_either : (c : Bool) (r q : Refusal) (env : Env) (before : ℕ) (o : Out (Unit {0})) → Safe IsUnit before (then_judge (ruled {K = Unit {0}} (if c then Err r else Err q) env) (λ u e. pays 1 tt e)) o
  refused_either true r q env before o = tt
  refused_either false r q env before o = tt

  pub byte_safe : (at from : ℕ) (i : Tree) (old : Option Kind) (j k : Kind) (y v : Value) (env : Env) (s : State) → held_kind around (here.link from) ≡ old → Is y j → Is v k → Fine env s → Safe IsUnit s.steps (then_judge (ruled (byte_written_kind (judge.place_at around at) (judge.place_at around from) old (judge.place around i) j k) env) (λ u e. pays 1 tt e)) ((change (here.link from) (byte_written (place_at here at) (place_at here from) (place here i) y v)).run script s)
  byte_safe at from i (Some (BufOf n)) (IntUpTo a) (IntUpTo b) (Int x) (Int m) env s e h g fits = choice (nat_lt a n) refl
    where
      choice : (c : Bool) → nat_lt a n ≡ c → Safe IsUnit s.steps (then_judge (ruled {K = Unit {0}} (if c then Ok tt else refuses causes.Index (judge.place_at around at)) env) (λ u e. pays 1 tt e)) ((change (here.link from) (byte_written (place_at here at) (place_at here from) (place here i) (Int x) (Int m))).run script s)
      choice true f =
          let le : x ≤ a = leb-true x a h.fit in
          let lt : a < n = ltb-true a n f in
          after_safe here.width kinds above IsUnit no_exits 0 s.steps s.steps (pays 1 tt env) _ (omega arith) (changed_safe (here.link from) (place_at here at) (place_at here from) (place here i) n x m env s e (omega (arith, le, lt)) fits)
      choice false f = tt
  byte_safe at from i (Some (BufOf n)) (IntUpTo a) (IntUpTo b) (Int x) (Buf ms) env s e h g fits = absurd (let bad : false ≡ true = g.fit in cc)
  byte_safe at from i (Some (BufOf n)) (IntUpTo a) (IntUpTo b) (Int x) (Str ms) env s e h g fits = absurd (let bad : false ≡ true = g.fit in cc)
  byte_safe at from i (Some (BufOf n)) (IntUpTo a) (IntUpTo b) (Int x) (Pkg ms) env s e h g fits = absurd (let bad : false ≡ true = g.fit in cc)
  byte_safe at from i (Some (BufOf n)) (IntUpTo a) k (Buf xs) v env s e h g fits = absurd (let bad : false ≡ true = h.fit in cc)
  byte_safe at from i (Some (BufOf n)) (IntUpTo a) k (Str xs) v env s e h g fits = absurd (let bad : false ≡ true = h.fit in cc)
  byte_safe at from i (Some (BufOf n)) (IntUpTo a) k (Pkg xs) v env s e h g fits = absurd (let bad : false ≡ true = h.fit in cc)
  byte_safe at from i (Some (BufOf n)) (IntUpTo a) (BufOf b) (Int x) v env s e h g fits = refused_either (nat_lt a n) _ _ env s.steps _
  byte_safe at from i (Some (BufOf n)) (IntUpTo a) (StrOf b) (Int x) v env s e h g fits = refused_either (nat_lt a n) _ _ env s.steps _
  byte_safe at from i (Some (BufOf n)) (IntUpTo a) (PkgOf b) (Int x) v env s e h g fits = refused_either (nat_lt a n) _ _ env s.steps _
  byte_safe at from i (Some (BufOf n)) (IntUpTo a) AnyPkg (Int x) v env s e h g fits = refused_either (nat_lt a n) _ _ env s.steps _
  byte_safe at from i (Some (BufOf n)) (IntUpTo a) Mixed (Int x) v env s e h g fits = refused_either (nat_lt a n) _ _ env s.steps _
  byte_safe at from i old j k y v env s e h g fits = tt
