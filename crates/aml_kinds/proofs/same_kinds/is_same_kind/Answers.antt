use Rattle.aml_kinds.specs.KindViews.{kind_of}
use Rattle.aml_kinds.proofs.SameKinds.{same_kind_decides}
use Rattle.aml_kinds.proofs.same_kinds.is_same_kind.Goals as goal

pub returns : goal.returns
returns c = same_kind_decides c.kinds_match.result (kind_of c.args.j.now) (kind_of c.args.k.now) c.kinds_match.ensures
