use Rattle.std.proofs.Common.{◌≡◌, ◌-◌, ◌^◌, sym, ap, ◌∙◌}
use Rattle.aml_regions.specs.Fields.{bits_of}
use Rattle.aml_regions.specs.declared.field.OtherBits.TheVariants.{Preserve, Ones, Zeros}
use Rattle.aml_fields.proofs.Writing.{others_kept, others_ones, others_zeros, kept_cost}
use Rattle.aml_meaning.proofs.Runs.{runs_give}
use Rattle.aml_fields.proofs.write.others.Goals as goal

pub returns-then-whole-clause-means : goal.returns-then-whole-clause-means
returns-then-whole-clause-means g c = λ frame names. rw c.if-whole.true (runs_give 0 _)

pub returns-in-Preserve-clause-means : goal.returns-in-Preserve-clause-means
returns-in-Preserve-clause-means g c = λ frame names.
    let f = (g.U.Units.plan c.args.units.now).layout in
    let is : f.others ≡ Preserve = sym (ap (λ l. l.others) c.layout-layout.ensures.is) ∙ c.in-Preserve.is in
    others_kept f.others c.args.whole _ _ c.if-whole.false _ _ _ is (c.read_unit.ensures.means frame names)

pub returns-in-Preserve-clause-takes : goal.returns-in-Preserve-clause-takes
returns-in-Preserve-clause-takes g c =
    let f = (g.U.Units.plan c.args.units.now).layout in
    let is : f.others ≡ Preserve = sym (ap (λ l. l.others) c.layout-layout.ensures.is) ∙ c.in-Preserve.is in
    rw (kept_cost f.others c.args.whole (g.U.Units.plan c.args.units.now).read_events c.if-whole.false is) c.read_unit.ensures.takes

pub returns-in-Ones-clause-means : goal.returns-in-Ones-clause-means
returns-in-Ones-clause-means g c = λ frame names.
    let f = (g.U.Units.plan c.args.units.now).layout in
    let is : f.others ≡ Ones = sym (ap (λ l. l.others) c.layout-layout.ensures.is) ∙ c.in-Ones.is in
    others_ones f.others c.args.whole (bits_of f.width) _ c.if-whole.false c.ones.result _ is (c.ones.ensures ∙ ap (λ l. 2 ^ bits_of l.width - 1) c.layout-layout.ensures.is)

pub returns-in-Zeros-clause-means : goal.returns-in-Zeros-clause-means
returns-in-Zeros-clause-means g c = λ frame names.
    let f = (g.U.Units.plan c.args.units.now).layout in
    let is : f.others ≡ Zeros = sym (ap (λ l. l.others) c.layout-layout.ensures.is) ∙ c.in-Zeros.is in
    others_zeros f.others c.args.whole (bits_of f.width) _ c.if-whole.false _ is
