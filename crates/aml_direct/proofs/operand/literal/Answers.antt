use Rattle.std.proofs.Common.{sym}
use Rattle.aml_meaning.proofs.Runs.{runs_give}
use Rattle.aml_quick.specs.Settings.{count_of}
use Rattle.aml_quick.proofs.Forms.{literal_row, parts_there}
use Rattle.aml_direct.proofs.operand.literal.Goals as goal

pub literal_number-number-requires-clause-literal : goal.literal_number-number-requires-clause-literal
literal_number-number-requires-clause-literal c = c.requires.literal

pub literal_number-number-requires-clause-there : goal.literal_number-number-requires-clause-there
literal_number-number-requires-clause-there c =
    parts_there (count_of c.args.here.scene.now) c.args.op c.args.bytes.now c.args.at c.requires.there.own c.requires.there.stop c.requires.there.parts (literal_row c.args.op c.requires.literal) c.requires.there.lie

pub returns : goal.returns
returns c = λ around own s stop parts lie.
    let p = parts_there (count_of c.args.here.scene.now) c.args.op c.args.bytes.now c.args.at own stop parts (literal_row c.args.op c.requires.literal) lie in
    record {
      runs = rw (c.literal_number-number.ensures.number p, ← c.wrapped.ensures) (runs_give _ s);
      next = sym (c.literal_number-number.ensures.place p);
    }
