-- What a search along calls knows.
use Rattle.std.specs.Prelude.{◌≡◌, ◌<◌, ◌≤◌, ◌+◌, ◌*◌, ℕ, List, [], length, take, slice_get, slice_index_or, unwrap_or, count_by, Bool, true, false}
use Rattle.std.specs.List.{list_all}
use Rattle.aml_calls.specs.declared.order.Mark.{Mark}
use Rattle.aml_calls.specs.declared.order.Mark.TheVariants.{New, Begun, Placed}
use Rattle.aml_calls.specs.declared.order.Search.{Search}
use Rattle.aml_calls.specs.Pairs.{numbers}
use Rattle.aml_calls.specs.Chains.{is_among, has_cycle, IsBehindCallees, IsChain}

abbrev pub mark_at : List Mark → ℕ → Mark
mark_at marks k = unwrap_or (slice_get marks k) New

abbrev pub is_new : Mark → Bool
is_new New = true
is_new m = false

abbrev pub is_placed : Mark → Bool
is_placed Placed = true
is_placed m = false

abbrev pub all_placed : List Mark → List ℕ → Bool
all_placed marks ks = list_all (λ j. is_placed (mark_at marks j)) ks

-- a method that was left calls another that was left
pub record WasLeft (calls : ℕ → List ℕ) (marks : List Mark) (path : List ℕ) (k : ℕ) : Type 0 where
  pub next : ℕ
  pub called : is_among next (calls k) ≡ true
  pub begun : mark_at marks next ≡ Begun
  pub away : is_among next path ≡ false

-- marks of all methods, how many callees of each are passed, the path from the search's beginning,
-- and the order so far
pub record IsSearch (calls : ℕ → List ℕ) (all : List ℕ) (marks : List Mark)
    (passed path ordered : List ℕ) : Type 0 where
  pub sized : length passed ≡ length marks
  pub room : (k : ℕ) → is_among k all ≡ true → k < length marks
  pub only : (k : ℕ) → is_new (mark_at marks k) ≡ false → is_among k all ≡ true
  pub on_path : (k : ℕ) → is_among k path ≡ true → mark_at marks k ≡ Begun
  pub once : has_cycle path ≡ false
  pub chain : IsChain calls path
  pub was_left : (k : ℕ) → mark_at marks k ≡ Begun → is_among k path ≡ false →
      WasLeft calls marks path k
  pub behind : IsBehindCallees calls [] ordered
  pub placed : (k : ℕ) → is_placed (mark_at marks k) ≡ is_among k ordered
  pub passes : (k : ℕ) → all_placed marks (take (slice_index_or passed k 0) (calls k)) ≡ true

-- how much is left to do: each new method may be begun, and each on the path ends
abbrev pub left : List Mark → List ℕ → ℕ
left marks path = 2 * count_by is_new marks + length path

-- what was begun stays so
pub record Keeps (old new : List Mark) : Type 0 where
  pub sized : length new ≡ length old
  pub begun : (k : ℕ) → is_new (mark_at old k) ≡ false → is_new (mark_at new k) ≡ false

abbrev pub is_begun : Mark → Bool
is_begun Begun = true
is_begun m = false

-- what a search knows, with a path
abbrev pub SearchesOn : (ℕ → List ℕ) → List ℕ → List ℕ → Search → Type 0
SearchesOn calls all path s =
    IsSearch calls all s.marks.items s.passed.items path (numbers s.ordered.items)

abbrev pub Searches : (ℕ → List ℕ) → List ℕ → Search → Type 0
Searches calls all s = SearchesOn calls all (numbers s.path.items) s

abbrev pub left_of : Search → ℕ
left_of s = left s.marks.items (numbers s.path.items)

-- a search goes on by one step, or by several
pub record GoesOn (calls : ℕ → List ℕ) (all : List ℕ) (old new : Search) : Type 0 where
  pub searches : Searches calls all new
  pub keeps : Keeps old.marks.items new.marks.items
  pub less : left_of new ≤ left_of old

-- a search that begins a path with a method
pub record Begins (calls : ℕ → List ℕ) (all : List ℕ) (k : ℕ) (old new : Search) : Type 0 where
  pub searches : Searches calls all new
  pub keeps : Keeps old.marks.items new.marks.items
  pub begun : is_new (mark_at new.marks.items k) ≡ false

-- one that goes on until its path ends
pub record Ends (calls : ℕ → List ℕ) (all : List ℕ) (old new : Search) : Type 0 where
  pub searches : Searches calls all new
  pub keeps : Keeps old.marks.items new.marks.items
  pub ended : new.path.items ≡ []

-- a search that is at its path's end again, where a method is begun
pub record Visits (calls : ℕ → List ℕ) (all : List ℕ) (k : ℕ) (old new : Search) : Type 0 where
  pub searches : Searches calls all new
  pub keeps : Keeps old.marks.items new.marks.items
  pub ended : new.path.items ≡ []
  pub begun : is_new (mark_at new.marks.items k) ≡ false

-- the same of several methods
pub record VisitsAll (calls : ℕ → List ℕ) (all some : List ℕ) (old new : Search) : Type 0 where
  pub searches : Searches calls all new
  pub keeps : Keeps old.marks.items new.marks.items
  pub ended : new.path.items ≡ []
  pub begun : (k : ℕ) → is_among k some ≡ true → is_new (mark_at new.marks.items k) ≡ false

-- a search of all
pub record IsDone (calls : ℕ → List ℕ) (all : List ℕ) (s : Search) : Type 0 where
  pub searches : Searches calls all s
  pub ended : s.path.items ≡ []
  pub begun : (k : ℕ) → is_among k all ≡ true → is_new (mark_at s.marks.items k) ≡ false

-- the methods that were begun and never placed, each once
pub record AreLeft (marks : List Mark) (ks : List ℕ) : Type 0 where
  pub begun : (k : ℕ) → is_among k ks ≡ is_begun (mark_at marks k)
  pub once : has_cycle ks ≡ false
