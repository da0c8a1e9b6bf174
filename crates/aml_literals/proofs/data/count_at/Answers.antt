use Rattle.std.proofs.Common.{arith}
use Rattle.aml_literals.proofs.Parts.{count_is, count_size, count_within, counted_size}
use Rattle.aml_literals.proofs.data.count_at.Goals as goal

pub literal_at-requires : goal.literal_at-requires
literal_at-requires c = count_size c.args.bytes.now c.args.at c.args.op c.in-VarPackage.is c.requires

pub number-requires : goal.number-requires
number-requires c =
    let within = count_within c.args.bytes.now c.args.at c.args.op c.in_default.not-VarPackage c.requires in
    record { some = omega arith; few = omega arith; within = within }

pub returns-in-VarPackage-clause-is : goal.returns-in-VarPackage-clause-is
returns-in-VarPackage-clause-is c =
    counted_size c.args.bytes.now c.args.at c.args.op c.in-VarPackage.is c.literal_at.result c.literal_at.ensures.number c.literal_at.ensures.place

pub returns-in_default : goal.returns-in_default
returns-in_default c =
    let within = count_within c.args.bytes.now c.args.at c.args.op c.in_default.not-VarPackage c.requires in
    record {
      is = count_is c.args.bytes.now c.args.at c.args.op c.in_default.not-VarPackage c.number.result c.number.ensures.number c.number.ensures.place;
      ahead = omega (arith, c.number.ensures.place);
      within = omega (arith, c.number.ensures.place, within);
    }
