use Rattle.aml_contents.specs.ContentViews.{contents_of, content_kinds_of}
use Rattle.aml_contents.proofs.ContentLaws.{holding_their_kinds}
use Rattle.aml_contents.proofs.names.Names.hold_their_kinds.Goals as goal

pub returns : goal.returns
returns c =
    let held = c.args.self.now in holding_their_kinds (contents_of held.contents.items) (content_kinds_of held.kinds.items) held.fitting
