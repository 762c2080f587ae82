use Rattle.uc_top.specs.Decisions.{out_failed, err_failed}
use Rattle.uc_top.proofs.Leave.{tried, finished_whole}
use Rattle.uc_top.proofs.top.put_run.Goals as goal

pub returns-in-Ok-put_ending : goal.returns-in-Ok-put_ending
returns-in-Ok-put_ending g c = finished_whole c.status.ensures c.in-Ok.ensures.ok c.in-Ok-put_ending.ensures.ok

pub returns-in-Err-Failed-put_ending : goal.returns-in-Err-Failed-put_ending
returns-in-Err-Failed-put_ending g c =
    err_failed c.in-Ok.ensures.ok (record { at = c.in-Err-Failed-put_ending.ensures.failed; prefix = c.in-Err-Failed-put_ending.ensures.prefix })

pub returns-in-Err-Failed : goal.returns-in-Err-Failed
returns-in-Err-Failed g c =
    out_failed (record { at = c.in-Err-Failed.ensures.failed; prefix = c.in-Err-Failed.ensures.prefix }) (tried c.put_line-told.result c.put_line-told.ensures.ok c.put_line-told.ensures.failed c.put_line-told.ensures.prefix)
