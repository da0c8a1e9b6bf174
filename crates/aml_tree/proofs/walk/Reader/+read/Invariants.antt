-- A measure is the depth that is left, and within one depth how many calls are still to come before it falls.
use Rattle.std.proofs.Common.{◌≡◌, ℕ, ◌≤◌, ◌+◌, ◌*◌, ◌-◌, length, map}
use Rattle.aml_operators.specs.Tree.{view}
use Rattle.aml_tree.specs.Reading.{term_at, terms_until, terms_counted, items_until}
use Rattle.aml_tree.proofs.walk.Reader.+read.Given as goal

abbrev pub decreases-term : goal.decreases-term
decreases-term g l = 40 * l.depth

abbrev pub decreases-terms : goal.decreases-terms
decreases-terms g l = 40 * l.depth + 1

abbrev pub decreases-counted : goal.decreases-counted
decreases-counted g l = 40 * l.depth + 1

abbrev pub decreases-piece : goal.decreases-piece
decreases-piece g l = 40 * l.depth + 1

abbrev pub decreases-else_block : goal.decreases-else_block
decreases-else_block g l = 40 * l.depth + 2

abbrev pub decreases-pieces : goal.decreases-pieces
decreases-pieces g l = 40 * l.depth + 2 + length l.pieces.now

abbrev pub decreases-item : goal.decreases-item
decreases-item g l = 40 * l.depth + 7

abbrev pub decreases-items : goal.decreases-items
decreases-items g l = 40 * l.depth + 8

abbrev pub decreases-parts : goal.decreases-parts
decreases-parts g l = 40 * l.depth + 9 + length l.letters.now

abbrev pub decreases-form : goal.decreases-form
decreases-form g l = 40 * l.depth + 20

abbrev pub decreases-terms-loop-at : goal.decreases-terms-loop-at
decreases-terms-loop-at g l = length l.bytes - l.at

abbrev pub decreases-items-loop-at : goal.decreases-items-loop-at
decreases-items-loop-at g l = length l.bytes - l.at

abbrev pub decreases-counted-loop-left : goal.decreases-counted-loop-left
decreases-counted-loop-left g l = l.left

-- what is read and what is left are the whole
abbrev pub invariant-terms-loop-at : goal.invariant-terms-loop-at
invariant-terms-loop-at g l =
    let counts = g.A.Arity.counts l.self.arity.now in
    (n : ℕ) × (length l.bytes ≤ l.at + n) × (l.start ≤ l.at) × (l.at ≤ length l.bytes)
    × (terms_until counts (term_at l.self.code counts l.depth) l.own l.spot l.bytes (length l.bytes) (map view l.fn.parts.items) l.start ≡ terms_until counts (term_at l.self.code counts l.depth) l.own l.spot l.bytes n (map view l.parts.items) l.at)

abbrev pub invariant-items-loop-at : goal.invariant-items-loop-at
invariant-items-loop-at g l =
    let counts = g.A.Arity.counts l.self.arity.now in
    (n : ℕ) × (length l.bytes ≤ l.at + n) × (l.start ≤ l.at) × (l.at ≤ length l.bytes)
    × (items_until counts (term_at l.self.code counts l.depth) l.own l.bytes (length l.bytes) (map view l.fn.parts.items) l.start ≡ items_until counts (term_at l.self.code counts l.depth) l.own l.bytes n (map view l.parts.items) l.at)

abbrev pub invariant-counted-loop-left : goal.invariant-counted-loop-left
invariant-counted-loop-left g l =
    let counts = g.A.Arity.counts l.self.arity.now in
    (l.start ≤ l.at) × (l.at ≤ length l.bytes)
    × (terms_counted counts (term_at l.self.code counts l.depth) l.own l.bytes l.count (map view l.fn.parts.items) l.start ≡ terms_counted counts (term_at l.self.code counts l.depth) l.own l.bytes l.left (map view l.parts.items) l.at)
