use denote.Exit as Exit
use denote.Param.Send.{param_sync, arg_sync}
use Rattle.uc_vproc.proofs.Sent.{lock_shared}
use Rattle.uc_vproc.proofs.work.lock_crosses.Goals as goal

pub is_sync-requires-sync-T : goal.is_sync-requires-sync-T
is_sync-requires-sync-T c κs = param_sync 0 _ (arg_sync _ Exit.no _ lock_shared)
