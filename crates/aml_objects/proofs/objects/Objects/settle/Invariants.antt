use Rattle.std.proofs.Common.{◌≡◌, List, ℕ, map, take}
use Rattle.std.specs.Borrow.{Bor}
use Rattle.aml_objects.specs.Kept.{entries_seen}
use Rattle.aml_objects.specs.Settled.{found_entry, named_at}
use Rattle.aml_objects.proofs.objects.Objects.settle.Given as goal

-- the entries so far, with what their objects name
abbrev pub invariant-loop-entry : goal.invariant-loop-entry
invariant-loop-entry l =
    let find = named_at (map (λ (t : Bor (List ℕ)). t.now) l.tables) (entries_seen l.fn.self) in
    record {
      items : l.entry-items ≡ l.fn.self.entries.items;
      found : l.entries.items ≡ map (found_entry find) (take l.entry-index l.entry-items);
    }
