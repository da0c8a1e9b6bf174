use Rattle.aml_components.proofs.Cutting.{rest_inside}
use Rattle.aml_components.proofs.search.Search.close.Goals as goal

pub close_all-requires : goal.close_all-requires
close_all-requires c =
    rest_inside c.args.self.now.opened.items c.deref.result.now c.args.root
    c.args.self.now.marks.len c.deref.ensures.value c.requires.marks
