use Rattle.std.proofs.Common.{sym, ◌∙◌, arith}
use Rattle.aml_places.proofs.Targets.{else_fits, else_package, else_stops, no_else_stops}
use Rattle.aml_places.proofs.places.past_else.Goals as goal

pub overflow_add-at : goal.overflow_add-at
overflow_add-at c = let w = else_fits c.args.bytes.now c.args.at (sym c.has_else.ensures ∙ c.if-has_else.true) in omega arith

pub package-requires : goal.package-requires
package-requires c = else_package c.args.bytes.now c.args.at (sym c.has_else.ensures ∙ c.if-has_else.true) c.requires

pub returns-then-has_else-clause-is : goal.returns-then-has_else-clause-is
returns-then-has_else-clause-is c = else_stops c.args.bytes.now c.args.at c.package.result (sym c.has_else.ensures ∙ c.if-has_else.true) c.package.ensures.is

pub returns-else-has_else-clause-is : goal.returns-else-has_else-clause-is
returns-else-has_else-clause-is c = no_else_stops c.args.bytes.now c.args.at (sym c.has_else.ensures ∙ c.if-has_else.false)
