use denote.Exit as Exit
use denote.Param.Send.{param_send, arg_send}
use Rattle.uc_vproc.proofs.Sent.{locked_sent}
use Rattle.uc_vproc.proofs.desk.desk_crosses.Goals as goal

pub is_send-requires-send-T : goal.is_send-requires-send-T
is_send-requires-send-T c κs = param_send 0 _ (arg_send _ Exit.no _ locked_sent)
