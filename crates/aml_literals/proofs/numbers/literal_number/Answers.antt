use Rattle.std.proofs.Common.{◌∙◌, sym}
use Rattle.aml_operators.specs.declared.row.NumberSize.TheVariants.{Byte, Word, DWord, QWord}
use Rattle.aml_literals.proofs.Literals.{literal_is, read_is}
use Rattle.aml_literals.proofs.numbers.literal_number.Goals as goal

pub number-requires-clause-within : goal.number-requires-clause-within
number-requires-clause-within c = (literal_is c.args.bytes.now c.args.at Byte c.args.op c.in-ByteConst.is c.requires.there).0

pub returns-in-ByteConst-clause-number : goal.returns-in-ByteConst-clause-number
returns-in-ByteConst-clause-number c = λ p.
    read_is c.args.bytes.now c.args.at Byte c.args.op c.in-ByteConst.is c.number.result.0 c.number.ensures.number p

pub returns-in-ByteConst-clause-place : goal.returns-in-ByteConst-clause-place
returns-in-ByteConst-clause-place c = λ p.
    (literal_is c.args.bytes.now c.args.at Byte c.args.op c.in-ByteConst.is p).2 ∙ sym c.number.ensures.place

pub number-requires-in-WordConst-clause-within : goal.number-requires-in-WordConst-clause-within
number-requires-in-WordConst-clause-within c = (literal_is c.args.bytes.now c.args.at Word c.args.op c.in-WordConst.is c.requires.there).0

pub returns-in-WordConst-clause-number : goal.returns-in-WordConst-clause-number
returns-in-WordConst-clause-number c = λ p.
    read_is c.args.bytes.now c.args.at Word c.args.op c.in-WordConst.is c.number-in-WordConst.result.0 c.number-in-WordConst.ensures.number p

pub returns-in-WordConst-clause-place : goal.returns-in-WordConst-clause-place
returns-in-WordConst-clause-place c = λ p.
    (literal_is c.args.bytes.now c.args.at Word c.args.op c.in-WordConst.is p).2 ∙ sym c.number-in-WordConst.ensures.place

pub number-requires-in-DWordConst-clause-within : goal.number-requires-in-DWordConst-clause-within
number-requires-in-DWordConst-clause-within c = (literal_is c.args.bytes.now c.args.at DWord c.args.op c.in-DWordConst.is c.requires.there).0

pub returns-in-DWordConst-clause-number : goal.returns-in-DWordConst-clause-number
returns-in-DWordConst-clause-number c = λ p.
    read_is c.args.bytes.now c.args.at DWord c.args.op c.in-DWordConst.is c.number-in-DWordConst.result.0 c.number-in-DWordConst.ensures.number p

pub returns-in-DWordConst-clause-place : goal.returns-in-DWordConst-clause-place
returns-in-DWordConst-clause-place c = λ p.
    (literal_is c.args.bytes.now c.args.at DWord c.args.op c.in-DWordConst.is p).2 ∙ sym c.number-in-DWordConst.ensures.place

pub number-requires-in-QWordConst-clause-within : goal.number-requires-in-QWordConst-clause-within
number-requires-in-QWordConst-clause-within c = (literal_is c.args.bytes.now c.args.at QWord c.args.op c.in-QWordConst.is c.requires.there).0

pub returns-in-QWordConst-clause-number : goal.returns-in-QWordConst-clause-number
returns-in-QWordConst-clause-number c = λ p.
    read_is c.args.bytes.now c.args.at QWord c.args.op c.in-QWordConst.is c.number-in-QWordConst.result.0 c.number-in-QWordConst.ensures.number p

pub returns-in-QWordConst-clause-place : goal.returns-in-QWordConst-clause-place
returns-in-QWordConst-clause-place c = λ p.
    (literal_is c.args.bytes.now c.args.at QWord c.args.op c.in-QWordConst.is p).2 ∙ sym c.number-in-QWordConst.ensures.place
