-- Marks of methods, as one of them is changed.
use Rattle.std.proofs.Common.{◌≡◌, ◌≢◌, ◌<◌, ◌+◌, ℕ, List, length, get_or, sym, ap, ◌∙◌, arith}
use Rattle.std.proofs.Math.ListN.{set}
use Rattle.std.proofs.lemmas.List.{get_or-set_same, get_or-set_other}
use Rattle.std.proofs.lemmas.List.Sums.{sum_by-set}
use Rattle.std.proofs.lemmas.Option.{unwrap_or-slice_get}
use Rattle.std.specs.List.{count_by}
use Rattle.std.specs.Prelude.{true, false, if◌then◌else◌}
use Rattle.aml_calls.specs.declared.order.Mark.{Mark}
use Rattle.aml_calls.specs.declared.order.Mark.TheVariants.{New, Begun, Placed}
use Rattle.aml_calls.specs.Search.{all_placed, is_new, is_placed, mark_at}
use Rattle.aml_calls.proofs.Among.{all_among, among_all}

pub mark_get : (marks : List Mark) (k : ℕ) → mark_at marks k ≡ get_or marks k New
mark_get marks k = unwrap_or-slice_get marks k New

pub mark_same : (marks : List Mark) (k : ℕ) (m : Mark) → k < length marks → mark_at (set marks k m) k ≡ m
mark_same marks k m lt = mark_get (set marks k m) k ∙ get_or-set_same marks k m New lt

pub mark_other : (marks : List Mark) (k j : ℕ) (m : Mark) → j ≢ k → mark_at (set marks k m) j ≡ mark_at marks j
mark_other marks k j m other = mark_get (set marks k m) j ∙ get_or-set_other marks k j m New other ∙ sym (mark_get marks j)

-- new ones are as many as before where one that was not new is changed to one that is not, and one fewer where it was new
count_same : (m n : Mark) (x y : ℕ) → is_new m ≡ false → is_new n ≡ false → x + (if is_new m then 1 else 0) ≡ y + (if is_new n then 1 else 0) → x ≡ y
count_same New n x y e f h = absurd cc
count_same Begun New x y e f h = absurd cc
count_same Placed New x y e f h = absurd cc
count_same Begun Begun x y e f h = omega (arith, h)
count_same Begun Placed x y e f h = omega (arith, h)
count_same Placed Begun x y e f h = omega (arith, h)
count_same Placed Placed x y e f h = omega (arith, h)

pub new_same : (marks : List Mark) (k : ℕ) (m : Mark) → k < length marks → is_new (mark_at marks k) ≡ false → is_new m ≡ false → count_by is_new (set marks k m) ≡ count_by is_new marks
new_same marks k m lt old now = count_same (get_or marks k New) m _ _ (sym (ap is_new (mark_get marks k)) ∙ old) now (sum_by-set (λ x. if is_new x then 1 else 0) marks k m New lt)

count_less : (m n : Mark) (x y : ℕ) → m ≡ New → is_new n ≡ false → x + (if is_new m then 1 else 0) ≡ y + (if is_new n then 1 else 0) → x + 1 ≡ y
count_less Begun n x y e f h = absurd cc
count_less Placed n x y e f h = absurd cc
count_less New New x y e f h = absurd cc
count_less New Begun x y e f h = omega (arith, h)
count_less New Placed x y e f h = omega (arith, h)

pub new_less : (marks : List Mark) (k : ℕ) (m : Mark) → k < length marks → mark_at marks k ≡ New → is_new m ≡ false → count_by is_new (set marks k m) + 1 ≡ count_by is_new marks
new_less marks k m lt old now = count_less (get_or marks k New) m _ _ (sym (mark_get marks k) ∙ old) now (sum_by-set (λ x. if is_new x then 1 else 0) marks k m New lt)

-- what stands in the order by one's marks stands there by the other's
pub placed_stays : (marks others : List Mark) → ((j : ℕ) → is_placed (mark_at marks j) ≡ true → is_placed (mark_at others j) ≡ true) → (ks : List ℕ) → all_placed marks ks ≡ true → all_placed others ks ≡ true
placed_stays marks others h ks e = all_among (λ j. is_placed (mark_at others j)) ks (λ j among. h j (among_all (λ i. is_placed (mark_at marks i)) j ks among e))
