use Rattle.std.proofs.Common.{◌+◌, sym, arith}
use Rattle.aml_fields.proofs.Gathering.{number_more}
use Rattle.aml_fields.proofs.Numbers.{number-lt}
use Rattle.aml_fields.proofs.Places.{above_fits}
use Rattle.aml_fields.proofs.gather.U64Gathers.put.Goals as goal

pub above-requires-clause-low : goal.above-requires-clause-low
above-requires-clause-low c =
    let b = c.requires.before in
    rw b.2 (number-lt c.args.done b.0 b.1)

pub above-requires-clause-fits : goal.above-requires-clause-fits
above-requires-clause-fits c = above_fits c.args.part c.args._take c.args.done (c.args.done + c.args._take) c.requires.part (omega arith) c.requires.room

pub returns-clause-more : goal.returns-clause-more
returns-clause-more c = λ before bit goes is. rw (c.above.ensures, is) (sym (number_more before bit c.args.done c.args._take c.args.part goes))
