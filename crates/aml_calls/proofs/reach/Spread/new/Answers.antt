use Rattle.std.proofs.Common.{◌∙◌, ◌++◌, ◌∷◌, [], List, ap}
use Rattle.aml_paths.specs.declared.scope.ObjectId.{ObjectId}
use Rattle.aml_calls.proofs.Spreading.{spread_begins}
use Rattle.aml_calls.proofs.reach.Spread.new.Goals as goal

pub returns : goal.returns
returns c = λ calls all room.
    spread_begins calls all c.args.from c.args.room c.in_ok-seen.seen.items c.push.new.self.items (c.in_ok-seen.ensures.items_if_clones_equal (λ y e. e))
    (c.in_ok-push.ensures.items ∙ ap (λ (ids : List ObjectId). ids ++ c.args.from ∷ []) c.new-waiting.ensures.items) c.requires room
