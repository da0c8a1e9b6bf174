-- Takings of mutexes, and what is held up to each.
use Rattle.std.proofs.Common.{◌≡◌, ◌==◌, ◌&&◌, ◌++◌, ◌<◌, ◌≤◌, ℕ, zero, suc, List, [], ◌∷◌, length, Bool, true, false, Option, Some, None, IfSome, get_or, slice_get, refl, sym, ap, subst, ◌∙◌, inl, inr, arith}
use Rattle.std.specs.Prelude.{max, if◌then◌else◌}
use Rattle.std.specs.List.{last_or}
use Rattle.std.proofs.lemmas.Bool.Decides.{eqb_tells}
use Rattle.std.proofs.lemmas.List.{append_assoc, append-nil}
use Rattle.std.proofs.lemmas.Option.{slice_get-get_or, slice_get_within}
use Rattle.aml_meaning.specs.declared.mutex.TakenMutex.{TakenMutex}
use Rattle.aml_meaning.specs.Mutexes.{without_last}
use Rattle.aml_meaning.specs.State.{greatest_level}
use Rattle.aml_judged.specs.Known.{same_mutexes}
use Rattle.aml_known.specs.declared.locks.Held.{Held}
use Rattle.aml_known.specs.declared.locks.Held.TheVariants as held
use Rattle.aml_known.specs.declared.locks.Taking.{Taking}
use Rattle.aml_known.specs.Views.{CanBeRead, Grown, IsBehind, IsTaking, IsThere, Says, held_before, last_of, mutexes_of}
use Rattle.aml_known.proofs.Ends.{greatest_end, is_same, last_end, no_more, same_ends, some_more, without_end}

pub says_nothing : CanBeRead []
says_nothing = record { lists = λ i. []; say = λ i. tt; behind = λ i. tt }

-- what stands in a list stands in the same place of a longer one
earlier : (P : Taking → Type 0) (old more : List Taking) (i : ℕ) → IfSome (slice_get (old ++ more) i) P → IfSome (slice_get old i) P
earlier P [] more i h = tt
earlier P (t ∷ ts) more zero h = h
earlier P (t ∷ ts) more (suc i) h = earlier P ts more i h

-- what later takings say, earlier ones say
pub says_earlier : (lists : ℕ → List TakenMutex) (old new : List Taking) → Grown old new → Says lists new → Says lists old
says_earlier lists old new grown say i =
    earlier (IsTaking lists i) old grown.more i (subst (λ ts. IfSome (slice_get ts i) (IsTaking lists i)) grown.are (say i))

pub same_grown : (old : List Taking) → Grown old old
same_grown old = record { more = []; are = sym (append-nil old) }

pub one_grown : (old new : List Taking) (t : Taking) → new ≡ old ++ t ∷ [] → Grown old new
one_grown old new t e = record { more = t ∷ []; are = e }

-- takings that are made later still
pub grown_twice : (old mid new : List Taking) → Grown old mid → Grown mid new → Grown old new
grown_twice old mid new first second = record {
  more = first.more ++ second.more;
  are = second.are ∙ ap (λ ts. ts ++ second.more) first.are ∙ append_assoc old first.more second.more;
}

-- what a taking with a number says
pub said : (lists : ℕ → List TakenMutex) (takings : List Taking) (i : ℕ) (t : Taking) → Says lists takings → slice_get takings i ≡ Some t → IsTaking lists i t
said lists takings i t say is = subst (λ o. IfSome o (IsTaking lists i)) is (say i)

-- a fact of each place holds with one more at the end
appended : (P : ℕ → Taking → Type 0) (old : List Taking) (t : Taking) → ((i : ℕ) → i < length old → IfSome (slice_get old i) (P i)) → P (length old) t → (i : ℕ) → IfSome (slice_get (old ++ t ∷ []) i) (P i)
appended P [] t all here zero = here
appended P [] t all here (suc i) = tt
appended P (x ∷ xs) t all here zero = all 0 (omega arith)
appended P (x ∷ xs) t all here (suc i) = appended (λ j. P (suc j)) xs t (λ j lt. all (suc j) (omega arith)) here i

both : (P Q R : Taking → Type 0) (o : Option Taking) → ((t : Taking) → P t → Q t → R t) → IfSome o P → IfSome o Q → IfSome o R
both P Q R None f p q = tt
both P Q R (Some t) f p q = f t p q

module _ (lists : ℕ → List TakenMutex) (number : ℕ) (last : List TakenMutex) where
  -- the same, and at a number another list
  abbrev with_list : ℕ → List TakenMutex
  with_list i = if i == number then last else lists i

  picked : (b : Bool) (i : ℕ) → b ≡ true → (if b then last else lists i) ≡ last
  picked true i e = refl
  picked false i e = absurd cc

  passed : (b : Bool) (i : ℕ) → b ≡ false → (if b then last else lists i) ≡ lists i
  passed true i e = absurd cc
  passed false i e = refl

  at_number : with_list number ≡ last
  at_number = elim (eqb_tells number number) [ inl p ↦ picked (number == number) number p.0 | inr p ↦ absurd (p.1 refl) ]

  below_number : (i : ℕ) → i < number → with_list i ≡ lists i
  below_number i lt = elim (eqb_tells i number) [
    | inl p ↦ absurd (omega (arith, p.1))
    | inr p ↦ passed (i == number) i p.0
  ]

  before_number : (n : ℕ) (before : Option ℕ) → IfSome before (λ k. k < n) → n ≤ number → held_before with_list before ≡ held_before lists before
  before_number n None lt le = refl
  before_number n (Some k) lt le = below_number k (omega (arith, lt, le))

  still_said : (i : ℕ) (t : Taking) → i < number → IsTaking lists i t → IsBehind i t → IsTaking with_list i t
  still_said i t lt is behind = record {
    held = below_number i lt ∙ is.held ∙ ap (λ ms. ms ++ t.mutex ∷ []) (sym (before_number i t.before behind (omega arith)));
    greatest = is.greatest ∙ ap (greatest_level 0) (sym (below_number i lt));
  }

-- one more can be read
pub one_more_read : (old : List Taking) (t : Taking) → CanBeRead old → IsBehind (length old) t → ((lists : ℕ → List TakenMutex) → Says lists old → t.greatest ≡ max (greatest_level 0 (held_before lists t.before)) t.mutex.level) → CanBeRead (old ++ t ∷ [])
one_more_read old t read behind greatest =
    let last : List TakenMutex = held_before read.lists t.before ++ t.mutex ∷ [] in
    let lists : ℕ → List TakenMutex = with_list read.lists (length old) last in
    let is : lists (length old) ≡ last = at_number read.lists (length old) last in
    record {
      lists = lists;
      say = appended (IsTaking lists) old t (λ i lt. both (IsTaking read.lists i) (IsBehind i) (IsTaking lists i) (slice_get old i) (λ u said late. still_said read.lists (length old) last i u lt said late) (read.say i) (read.behind i)) (record {
        held = is ∙ ap (λ ms. ms ++ t.mutex ∷ []) (sym (before_number read.lists (length old) last (length old) t.before behind (omega arith)));
        greatest = greatest read.lists read.say ∙ sym (greatest_end 0 (held_before read.lists t.before) t.mutex) ∙ ap (greatest_level 0) (sym is);
      });
      behind = appended IsBehind old t (λ i lt. read.behind i) behind;
    }

-- two lists are the same by the ends of what was taken last
pub ends_compared : (lists : ℕ → List TakenMutex) (takings : List Taking) (i j : ℕ) (a b : Taking) → Says lists takings → slice_get takings i ≡ Some a → slice_get takings j ≡ Some b → same_mutexes (lists i) (lists j) ≡ (same_mutexes (held_before lists a.before) (held_before lists b.before) && is_same a.mutex b.mutex)
ends_compared lists takings i j a b say at_i at_j =
    ap (λ ms. same_mutexes ms (lists j)) (said lists takings i a say at_i).held
    ∙ ap (same_mutexes (held_before lists a.before ++ a.mutex ∷ [])) (said lists takings j b say at_j).held
    ∙ same_ends (held_before lists a.before) (held_before lists b.before) a.mutex b.mutex

-- up to a taking something is held
pub some_held : (lists : ℕ → List TakenMutex) (takings : List Taking) (i : ℕ) (t : Taking) → Says lists takings → slice_get takings i ≡ Some t → same_mutexes (lists i) [] ≡ false
some_held lists takings i t say is =
    ap (λ ms. same_mutexes ms []) (said lists takings i t say is).held ∙ some_more (held_before lists t.before) t.mutex

pub none_held : (lists : ℕ → List TakenMutex) (takings : List Taking) (i : ℕ) (t : Taking) → Says lists takings → slice_get takings i ≡ Some t → same_mutexes [] (lists i) ≡ false
none_held lists takings i t say is =
    ap (same_mutexes []) (said lists takings i t say is).held ∙ no_more (held_before lists t.before) t.mutex

-- the taking before another
pub before_there : (takings : List Taking) (i k : ℕ) (t : Taking) → slice_get takings i ≡ Some t → IsBehind i t → t.before ≡ Some k → (u : Taking) × (slice_get takings k ≡ Some u)
before_there takings i k t is behind e =
    let below : k < i = subst (λ o. IfSome o (λ before. before < i)) e behind in
    let within : i < length takings = slice_get_within takings i t is in
    (get_or takings k t, slice_get-get_or takings k t (omega arith))

-- the last of what is held up to a taking is its mutex
pub last_taken : (lists : ℕ → List TakenMutex) (takings : List Taking) (i : ℕ) (t : Taking) → Says lists takings → slice_get takings i ≡ Some t → last_or None (lists i) ≡ Some t.mutex
last_taken lists takings i t say is =
    ap (last_or None) (said lists takings i t say is).held ∙ last_end None (held_before lists t.before) t.mutex

-- what is left where the mutex that was taken last is released
pub end_released : (lists : ℕ → List TakenMutex) (takings : List Taking) (k i : ℕ) (t : Taking) → Says lists takings → slice_get takings i ≡ Some t → without_last k (lists i) ≡ (if t.mutex.object.0 == k then Some (held_before lists t.before) else None)
end_released lists takings k i t say is =
    ap (without_last k) (said lists takings i t say is).held ∙ without_end k (held_before lists t.before) t.mutex

-- what is held is that up to the last taking, which is there
pub last_held : (lists : ℕ → List TakenMutex) (h : Held) → held_before lists (last_of h) ≡ mutexes_of lists h
last_held lists held.Nothing = refl
last_held lists (held.UpTo i) = refl
last_held lists held.Different = refl

pub last_there : (n : ℕ) (h : Held) → IsThere n h → IfSome (last_of h) (λ before. before < n)
last_there n held.Nothing there = tt
last_there n (held.UpTo i) there = there
last_there n held.Different there = tt
