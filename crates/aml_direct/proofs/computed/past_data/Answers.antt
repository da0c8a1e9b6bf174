use Rattle.std.proofs.Common.{◌≡◌, sym, subst, arith}
use Rattle.aml_operators.specs.declared.op.Op.{Op}
use Rattle.aml_literals.specs.There.{PartsThere}
use Rattle.aml_direct.proofs.Sizes.{data_opens, data_stops, string_reads, string_stops}
use Rattle.aml_direct.proofs.computed.past_data.Goals as goal

pub text_end-requires : goal.text_end-requires
text_end-requires c = string_reads c.args.bytes.now c.args.at (subst (λ (o : Op). PartsThere o c.args.bytes.now c.args.at) c.in-String.is c.requires.there)

pub returns-in-String-clause-is : goal.returns-in-String-clause-is
returns-in-String-clause-is c =
    subst (λ (o : Op). (p : PartsThere o c.args.bytes.now c.args.at) → p.stop ≡ c.text_end.result) (sym c.in-String.is) (string_stops c.args.bytes.now c.args.at c.text_end.result c.text_end.ensures.is)

pub package-requires : goal.package-requires
package-requires c = data_opens c.args.op c.args.bytes.now c.args.at c.requires.datum c.in_default.not-String c.requires.there

pub returns-in_default : goal.returns-in_default
returns-in_default c = record {
  is = λ p. data_stops c.args.bytes.now c.args.at c.package.result c.package.ensures.is c.package.ensures.within c.args.op c.requires.datum c.in_default.not-String p;
  ahead = omega (arith, c.package.ensures.ahead, c.package.ensures.own);
  within = c.package.ensures.within;
}
