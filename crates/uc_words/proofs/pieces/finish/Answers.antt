use Rattle.std.proofs.Common.{ap}
use Rattle.std.specs.Prelude.{option_copied}
use Rattle.uc_words.specs.Rest.{parts_of}
use Rattle.uc_words.proofs.Faults.{end_line, end_only, end_bad}
use Rattle.uc_words.proofs.pieces.finish.Goals as goal

pub returns-in-None-clause-fault : goal.returns-in-None-clause-fault
returns-in-None-clause-fault c = end_bad (parts_of c.args.told) _ (ap option_copied c.in-None.is) c.fault_at.ensures

pub returns-in-Some-clause-line : goal.returns-in-Some-clause-line
returns-in-Some-clause-line c = rw c.job_of-job.ensures (end_line (parts_of c.args.told) c.in-Some.file.now (ap option_copied c.in-Some.is))

pub returns-in-Some-clause-only : goal.returns-in-Some-clause-only
returns-in-Some-clause-only c = rw c.job_of-job.ensures (end_only (parts_of c.args.told) c.in-Some.file.now (ap option_copied c.in-Some.is))
