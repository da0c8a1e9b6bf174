use Rattle.std.proofs.Common.{rules, length, ◌∙◌}
use Rattle.aml_fields.proofs.WideBytes.{bytes_none}
use Rattle.aml_fields.proofs.gather.GatheredBytesGathers.clear.Goals as goal

pub returns-clause-none : goal.returns-clause-none
returns-clause-none c = λ bit. c.fill.ensures.after (λ y is. search rules) ∙ bytes_none (length c.args.self.now.bytes.now) bit
