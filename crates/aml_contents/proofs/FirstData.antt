-- Data that is read, or not.
use Rattle.std.proofs.Common.{◌≡◌, ◌≤◌, ◌&&◌, nat_le, ℕ, List, take, length, Result, Ok, Err, Bool, true, false, refl, arith}
use Rattle.std.proofs.lemmas.Bool.Decides.{nat_tests}
use Rattle.aml_operators.specs.declared.op.Op.TheVariants as op
use Rattle.aml_operators.specs.declared.row.Code.TheVariants as code
use Rattle.aml_operators.specs.declared.row.Spot.TheVariants as spot
use Rattle.aml_operators.specs.Tree.{Tree, Node, none}
use Rattle.aml_tree.specs.declared.body.Span.{Span}
use Rattle.aml_tree.specs.declared.fault.Refusal.{Refusal}
use Rattle.aml_tree.specs.Body.{greatest_depth, no_arguments}
use Rattle.aml_tree.specs.Data.{FaultyData, IsData, data_at}
use Rattle.aml_tree.proofs.Combining.{of_ok}
use Rattle.aml_tree.proofs.Full.{term_full}
use Rattle.aml_tree.proofs.RightTerms.{term_right}
use Rattle.aml_contents.specs.FirstContents.{data_in, term_or_zero}

le_test : (m n : ℕ) → m ≤ n → nat_le m n ≡ true
le_test m n h = grind (arith, nat_tests)

both : (a b : Bool) → a ≡ true → b ≡ true → (a && b) ≡ true
both true b p q = q
both false b p q = cc

lies : (bytes : List ℕ) (span : Span) → span.at ≤ span.end → span.end ≤ length bytes → (nat_le span.at span.end && nat_le span.end (length bytes)) ≡ true
lies bytes span first last = both (nat_le span.at span.end) (nat_le span.end (length bytes)) (le_test span.at span.end first) (le_test span.end (length bytes) last)

-- what is data there
pub data_there : (bytes : List ℕ) (span : Span) (t : Tree) → span.at ≤ span.end → span.end ≤ length bytes → IsData (take span.end bytes) span.at t → t ≡ data_in bytes span
data_there bytes span t first last is =
    let read : data_at (take span.end bytes) span.at ≡ Ok t = term_full code.Module no_arguments greatest_depth span.at spot.Data (take span.end bytes) span.at t is in
    rw (lies bytes span first last, read)

none_read : (r : Result Tree Refusal) → ((t : Tree) → r ≡ Ok t → ⊥) → Node op.Zero 0 0 none ≡ term_or_zero r
none_read (Ok t) never = absurd (never t refl)
none_read (Err f) never = refl

-- no data is there
pub no_data : (bytes : List ℕ) (span : Span) → span.at ≤ span.end → span.end ≤ length bytes → ((t : Tree) → IsData (take span.end bytes) span.at t → ⊥) → Node op.Zero 0 0 none ≡ data_in bytes span
no_data bytes span first last never =
    let none_there = none_read (data_at (take span.end bytes) span.at)
    (λ t e. never t (of_ok (data_at (take span.end bytes) span.at) (IsData (take span.end bytes) span.at) (FaultyData (take span.end bytes) span.at) t (term_right code.Module no_arguments greatest_depth span.at spot.Data (take span.end bytes) span.at) e)) in
    rw (lies bytes span first last) none_there
