use Rattle.std.proofs.Common.{sym, ◌∷◌, [], ◌∙◌, arith}
use Rattle.aml_objects.specs.Kept.{entries_seen}
use Rattle.aml_objects.proofs.Kept.{kept_below, kept_closed, kept_count, kept_distinct, kept_there}
use Rattle.aml_objects.proofs.Entering.{number_is}
use Rattle.aml_objects.proofs.objects.Objects.push.Goals as goal

pub add-requires-clause-there : goal.add-requires-clause-there
add-requires-clause-there c = omega (arith, kept_count c.args.self.now, c.requires.there)

pub add-requires-clause-new : goal.add-requires-clause-new
add-requires-clause-new c =
    let held = c.args.self.now in
    kept_below held c.args.parent (c.args.segment.bytes ∷ []) ∙ sym (number_is (entries_seen held) (kept_distinct held) (kept_closed held) c.args.parent c.args.segment (kept_there held c.args.parent c.requires.there)) ∙ c.requires.new
