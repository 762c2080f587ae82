use denote.Exit as Exit
use denote.Param.{param}
use denote.Param.Send.{param_send, arg_send, param_sync, arg_sync}
use Rattle.std.proofs.alloc.Global.TheSendSync as global
use Rattle.uc_code.proofs.code.Code.TheSendSync as code
use Rattle.uc_fused.proofs.table.Table.TheSendSync as table
use Rattle.uc_vproc.proofs.bell.Bell.TheSendSync as bell
use Rattle.uc_vproc.proofs.Sent.{seat_sent, lock_shared, seven_shared}
use Rattle.uc_vproc.proofs.work.work_all.Goals as goal

pub map_vec-requires-send-J : goal.map_vec-requires-send-J
map_vec-requires-send-J g c κs within = param_send 1 _ (arg_send _ Exit.no _ seat_sent)

pub map_vec-requires-send-X : goal.map_vec-requires-send-X
map_vec-requires-send-X g c κs within = param_send 2 _ (arg_send _ Exit.no _ seat_sent)

pub map_vec-requires-sync-F : goal.map_vec-requires-sync-F
map_vec-requires-sync-F g c κs within =
    param_sync 4 _ (arg_sync _ Exit.no _ (seven_shared _ _ _ _ _ _ _ _ _ _ _ _ _ _ _ (param 0 g.row.R) _ _ _ _ _ (param 1 g.row.G) c.type_bounds.sync-R global.the_sync lock_shared bell.the_sync code.the_sync table.the_sync c.type_bounds.sync-G))
