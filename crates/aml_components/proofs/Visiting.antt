-- A search that visits methods, one after the other.
use Rattle.std.proofs.Common.{◌≡◌, ◌<◌, ℕ, List, [], length, sym, ap, subst}
use Rattle.std.specs.Prelude.{true, false}
use Rattle.aml_components.specs.declared.search.Search.{Search}
use Rattle.aml_calls.specs.Chains.{Reaches}
use Rattle.aml_calls.specs.Pairs.{numbers}
use Rattle.aml_components.specs.declared.search.Call.{Call}
use Rattle.aml_components.specs.declared.search.Mark.TheVariants.{Open}
use Rattle.aml_components.specs.Search.{Begins, Ends, is_new, Keeps, mark_at, Searches, SearchesWith, Visits}
use Rattle.aml_components.proofs.Found.{none_opened}
use Rattle.aml_components.proofs.Marking.{new_is}
use Rattle.aml_components.proofs.Stepping.{begun_any, begun_keeps, begun_mark, keeps_then}

-- it has gone on
pub record IsOn (calls : ℕ → List ℕ) (old now : Search) : Type 0 where
  pub searches : Searches calls now
  pub keeps : Keeps old.marks.items now.marks.items

-- it has visited the methods below a number, and none is open
pub record HasVisited (calls : ℕ → List ℕ) (room number : ℕ) (s : Search) : Type 0 where
  pub searches : Searches calls s
  pub ended : s.roots.items ≡ []
  pub sized : length s.marks.items ≡ room
  pub begun : (k : ℕ) → k < number → is_new (mark_at s.marks.items k) ≡ false

-- a new method is begun, where none is open
pub record HasBegun (calls : ℕ → List ℕ) (k : ℕ) (old new : Search) : Type 0 where
  pub searches : Searches calls new
  pub keeps : Keeps old.marks.items new.marks.items
  pub begun : is_new (mark_at new.marks.items k) ≡ false

pub visit_begun : (calls : ℕ → List ℕ) (old new : Search) (k : ℕ) → Searches calls old →
    old.roots.items ≡ [] → is_new (mark_at old.marks.items k) ≡ true → k < length old.marks.items →
    Begins calls k old new → HasBegun calls k old new
visit_begun calls old new k s ended fresh lt b =
    let is = new_is (mark_at old.marks.items k) fresh in
    let none : (i p : ℕ) → mark_at old.marks.items i ≡ Open p → Reaches calls i k =
    λ i p e. absurd
    (none_opened calls old.marks.items
    (numbers old.opened.items) old.roots.items old.waiting.items old.closed ended s i p e) in
    record {
      searches =
          subst (λ (cs : List Call). SearchesWith calls new.roots.items cs new) (sym b.waiting)
          (begun_any calls old new old.waiting.items k s is lt none b);
      keeps = begun_keeps calls old new old.waiting.items k s is lt none b;
      begun = ap is_new (begun_mark calls old new old.waiting.items k s is lt none b);
    }

pub visited : (calls : ℕ → List ℕ) (old between new : Search) (k : ℕ) →
    HasBegun calls k old between → Ends calls between new → Visits calls k old new
visited calls old between new k h e = record {
  ends = record {
    searches = e.searches;
    keeps = keeps_then old.marks.items between.marks.items new.marks.items h.keeps e.keeps;
    ended = e.ended;
  };
  begun = e.keeps.begun k h.begun;
}
