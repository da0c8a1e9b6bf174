-- What a search for components knows. Methods are new, open or closed. The open ones stand in a
-- list as they were begun, and roots are places in it.
use Rattle.std.specs.Prelude.{◌≡◌, ◌<◌, ◌≤◌, ◌+◌, ◌*◌, ◌==◌, ◌&&◌, ℕ, List, [], ◌∷◌, ◌++◌, length, take, drop, map, slice_get, slice_set, unwrap_or, count_by, nat_le, Some, Bool, true, false, if◌then◌else◌}
use Rattle.std.specs.List.{list_any}
use Rattle.aml_paths.specs.declared.scope.ObjectId.{ObjectId}
use Rattle.aml_calls.specs.Chains.{is_among, Reaches}
use Rattle.aml_calls.specs.Pairs.{numbers}
use Rattle.aml_components.specs.declared.search.Call.{Call}
use Rattle.aml_components.specs.declared.search.Mark.{Mark}
use Rattle.aml_components.specs.declared.search.Mark.TheVariants.{Closed, New, Open}
use Rattle.aml_components.specs.declared.search.Search.{Search}

abbrev pub mark_at : List Mark → ℕ → Mark
mark_at marks k = unwrap_or (slice_get marks k) New

abbrev pub is_new : Mark → Bool
is_new New = true
is_new m = false

-- a closed method whose component's number is at most so great
abbrev pub is_at_most : ℕ → Mark → Bool
is_at_most n (Closed m) = nat_le m n
is_at_most n m = false

-- no number is less than one before it
abbrev pub IsRising : List ℕ → Type 0
IsRising [] = Unit {0}
IsRising (x ∷ xs) = ((y : ℕ) → is_among y xs ≡ true → x ≤ y) × IsRising xs

-- calls that wait: from which places, whether all of them are before a root, and whether one from a
-- place to a method is among them
abbrev pub callers : List Call → List ℕ
callers waiting = map (λ c. c.from) waiting

abbrev pub AreBefore : ℕ → List Call → Type 0
AreBefore root waiting = (p : ℕ) → is_among p (callers waiting) ≡ true → p < root

abbrev pub waits : List Call → ℕ → ℕ → Bool
waits waiting p j = list_any (λ c. (c.from == p) && (c.to.0 == j)) waiting

abbrev pub calls_from : ℕ → List ObjectId → List Call
calls_from p row = map (λ id. record { from = p; to = id }) row

-- no root stands behind the second place, up to the first
abbrev pub Leads : List ℕ → ℕ → ℕ → Type 0
Leads roots p q = (r : ℕ) → is_among r roots ≡ true → r ≤ p → r ≤ q

-- the same of a method with a mark: to a closed one all lead, to a new one none
abbrev pub LeadsTo : List ℕ → ℕ → Mark → Type 0
LeadsTo roots p New = ⊥
LeadsTo roots p (Open q) = Leads roots p q
LeadsTo roots p (Closed n) = Unit {0}

-- the open method at a place calls another
pub record Caller (calls : ℕ → List ℕ) (marks : List Mark) (p j : ℕ) : Type 0 where
  pub caller : ℕ
  pub stands : mark_at marks caller ≡ Open p
  pub called : is_among j (calls caller) ≡ true

-- what marks, open methods, roots, calls that wait and the number of closed components say
pub record IsSearch (calls : ℕ → List ℕ) (marks : List Mark) (opened roots : List ℕ)
    (waiting : List Call) (closed : ℕ) : Type 0 where
  -- each method that is called has a mark, and an open one stands at its place
  pub room : (k j : ℕ) → is_among j (calls k) ≡ true → j < length marks
  pub stands : (k p : ℕ) → mark_at marks k ≡ Open p → slice_get opened p ≡ Some k
  pub marked : (k p : ℕ) → slice_get opened p ≡ Some k → mark_at marks k ≡ Open p
  -- the first place is a root, if there is one; roots and callers come in the order of places
  pub rooted : 0 < length opened → is_among 0 roots ≡ true
  pub within : (r : ℕ) → is_among r roots ≡ true → r ≤ length opened
  pub rising : IsRising roots
  pub in_turn : IsRising (callers waiting)
  -- what waits is a call
  pub caller : (p j : ℕ) → waits waiting p j ≡ true → Caller calls marks p j
  -- an open method reaches another where its place leads there; where it calls one, and that does
  -- not wait, its place leads there
  pub reach : (i j p q : ℕ) → mark_at marks i ≡ Open p → mark_at marks j ≡ Open q →
      Leads roots p q → Reaches calls i j
  pub passed : (i j p : ℕ) → mark_at marks i ≡ Open p → is_among j (calls i) ≡ true →
      waits waiting p j ≡ false → LeadsTo roots p (mark_at marks j)
  -- closed methods of one number reach each other, and numbers never rise along a call
  pub below : (k n : ℕ) → mark_at marks k ≡ Closed n → n < closed
  pub together : (i j n : ℕ) → mark_at marks i ≡ Closed n → mark_at marks j ≡ Closed n →
      Reaches calls i j
  pub falls : (i j n : ℕ) → mark_at marks i ≡ Closed n → is_among j (calls i) ≡ true →
      is_at_most n (mark_at marks j) ≡ true

-- what a search knows, with roots and calls that wait
abbrev pub SearchesWith : (ℕ → List ℕ) → List ℕ → List Call → Search → Type 0
SearchesWith calls roots waiting s =
    IsSearch calls s.marks.items (numbers s.opened.items) roots waiting s.closed

abbrev pub Searches : (ℕ → List ℕ) → Search → Type 0
Searches calls s = SearchesWith calls s.roots.items s.waiting.items s

-- how much is left to do, where no method calls more than so many
abbrev pub left : ℕ → Search → ℕ
left most s =
    count_by is_new s.marks.items * (most + 2) + (length s.waiting.items + length s.roots.items)

-- what was begun stays so
pub record Keeps (old new : List Mark) : Type 0 where
  pub sized : length new ≡ length old
  pub begun : (k : ℕ) → is_new (mark_at old k) ≡ false → is_new (mark_at new k) ≡ false

-- a search goes on by one step
pub record GoesOn (calls : ℕ → List ℕ) (most : ℕ) (old new : Search) : Type 0 where
  pub searches : Searches calls new
  pub keeps : Keeps old.marks.items new.marks.items
  pub less : left most new ≤ left most old

-- or until none is open
pub record Ends (calls : ℕ → List ℕ) (old new : Search) : Type 0 where
  pub searches : Searches calls new
  pub keeps : Keeps old.marks.items new.marks.items
  pub ended : new.roots.items ≡ []

-- the same, where a method is begun
pub record Visits (calls : ℕ → List ℕ) (k : ℕ) (old new : Search) : Type 0 where
  pub ends : Ends calls old new
  pub begun : is_new (mark_at new.marks.items k) ≡ false

-- a method is begun, at the place behind all open ones
pub record Begins (calls : ℕ → List ℕ) (k : ℕ) (old new : Search) : Type 0 where
  pub place : ℕ
  pub behind : place ≡ length old.opened.items
  pub row : List ObjectId
  pub callees : numbers row ≡ calls k
  pub marks : new.marks.items ≡ slice_set old.marks.items k (Open place)
  pub opened : numbers new.opened.items ≡ numbers old.opened.items ++ k ∷ []
  pub roots : new.roots.items ≡ old.roots.items ++ place ∷ []
  pub waiting : new.waiting.items ≡ old.waiting.items ++ calls_from place row
  pub closed : new.closed ≡ old.closed

-- the roots up to a place
pub record IsCut (old : List ℕ) (place : ℕ) (new : List ℕ) : Type 0 where
  pub rising : IsRising new
  pub are : (r : ℕ) → is_among r new ≡ (is_among r old && nat_le r place)
  pub shorter : length new ≤ length old

-- some methods are in a component
pub record AreClosed (ks : List ℕ) (number : ℕ) (old new : List Mark) : Type 0 where
  pub sized : length new ≡ length old
  pub are : (k : ℕ) → mark_at new k ≡ (if is_among k ks then Closed number else mark_at old k)
  pub fewer : count_by is_new new ≤ count_by is_new old

-- the methods from a place on are closed
pub record Closes (root : ℕ) (old new : Search) : Type 0 where
  pub marks : AreClosed (numbers (drop root old.opened.items)) old.closed old.marks.items
      new.marks.items
  pub opened : new.opened.items ≡ take root old.opened.items
  pub roots : new.roots.items ≡ old.roots.items
  pub waiting : new.waiting.items ≡ old.waiting.items
  pub closed : new.closed ≡ old.closed + 1

-- all methods below a number are closed, and none is open
pub record AreFound (calls : ℕ → List ℕ) (room : ℕ) (marks : List Mark) : Type 0 where
  pub closed : (k : ℕ) → k < room → is_new (mark_at marks k) ≡ false
  pub none_open : (k p : ℕ) → mark_at marks k ≡ Open p → ⊥
  pub together : (i j n : ℕ) → mark_at marks i ≡ Closed n → mark_at marks j ≡ Closed n →
      Reaches calls i j
  pub falls : (i j n : ℕ) → mark_at marks i ≡ Closed n → is_among j (calls i) ≡ true →
      is_at_most n (mark_at marks j) ≡ true
