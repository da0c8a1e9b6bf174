use Rattle.aml_regions.proofs.Written.{written_is_read}
use Rattle.aml_regions.proofs.law.reads_what_was_written.Goals as goal

pub returns : goal.returns
returns c = written_is_read
