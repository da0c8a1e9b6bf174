use Rattle.std.proofs.Common.{◌≡◌, ◌++◌, ℕ, List, [], ◌∷◌, Some, length, sym, ap, subst, ◌∙◌, arith}
use Rattle.std.specs.BTreeMap.{Updates}
use Rattle.aml_shapes.specs.Keys.{key_order}
use Rattle.aml_shapes.specs.Tables.{IsTable}
use Rattle.aml_shapes.specs.declared.kept.Kept.{Kept}
use Rattle.aml_shapes.proofs.Keys.{are_below-same, joins-same, room-same}
use Rattle.aml_shapes.proofs.TableLaws.{table_more, table_stays}
use Rattle.aml_shapes.proofs.table.put.Goals as goal

pub returns-in_err-insert-clause-table : goal.returns-in_err-insert-clause-table
returns-in_err-insert-clause-table c =
    let old = c.args.shapes.now.items in
    let same = table_stays old c.args.numbers.now c.insert.new.self c.in_err-insert.ensures.err c.requires.table in
    subst (λ (ks : List Kept). IsTable ks c.insert.new.self) (sym c.in_ok-reserve.ensures.items) same

pub returns-clause-table : goal.returns-clause-table
returns-clause-table c =
    let old = c.args.shapes.now.items in
    let copy = c.in_ok-copy.copy in
    let key = c.args.key in
    let k : Kept = record { key = copy; joined = c.joined_places-joined.result } in
    let same = c.in_ok-copy.ensures in
    let all : c.push.new.self.items ≡ old ++ k ∷ [] = c.in_ok-push.ensures.items ∙ ap (λ (ks : List Kept). ks ++ k ∷ []) c.in_ok-reserve.ensures.items in
    let last : c.len-number.result ≡ length old = omega arith in
    let updates = subst (λ (n : ℕ). Updates key_order c.args.numbers.now c.insert.new.self key (Some n)) last c.in_ok-insert.ensures.updates in
    subst (λ (ks : List Kept). IsTable ks c.insert.new.self) (sym all)
    (table_more old c.args.numbers.now c.insert.new.self key k c.requires.table (room-same copy key same c.requires.room) (are_below-same _ copy key same c.requires.below) (joins-same k.joined copy key same c.joined_places-joined.ensures) same c.requires.absent updates)

pub returns-clause-put : goal.returns-clause-put
returns-clause-put c =
    let k : Kept = record { key = c.in_ok-copy.copy; joined = c.joined_places-joined.result } in
    record { more = k; same = c.in_ok-copy.ensures; put = c.in_ok-push.ensures.items ∙ ap (λ (ks : List Kept). ks ++ k ∷ []) c.in_ok-reserve.ensures.items }
