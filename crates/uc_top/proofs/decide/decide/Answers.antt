use Rattle.std.proofs.Common.{rules}
use Rattle.std.specs.Prelude.{map, string_bytes}
use Rattle.uc_words.specs.Rest.{command_of}
use Rattle.uc_top.proofs.Line.{in_line}
use Rattle.uc_top.proofs.Findings.{has_done, has_refused, bad_word}
use Rattle.uc_top.proofs.decide.decide.Goals as goal

pub do_job-requires : goal.do_job-requires
do_job-requires g c = (search rules, (search rules, in_line (map string_bytes c.args.words.now) (command_of c.in-Ok.job) c.in-Ok.ensures.line))

pub returns-in-Ok-do_job-clause-done : goal.returns-in-Ok-do_job-clause-done
returns-in-Ok-do_job-clause-done g c = has_done (command_of c.in-Ok.job) c.in-Ok.ensures.line c.in-Ok.ensures.only c.in-Ok-do_job.ensures.did

pub returns-in-Err-do_job-clause-refused : goal.returns-in-Err-do_job-clause-refused
returns-in-Err-do_job-clause-refused g c = has_refused _ _ (command_of c.in-Ok.job) _ _ c.in-Ok.ensures.line c.in-Ok.ensures.only c.in-Err-do_job.ensures.refused

pub returns-in-Err-clause-refused : goal.returns-in-Err-clause-refused
returns-in-Err-clause-refused g c = bad_word _ _ _ _ c.bad_word.ensures c.in-Err.ensures.fault
