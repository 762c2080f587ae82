use Rattle.uc_vproc.proofs.Riding.{is_ride}
use Rattle.uc_vproc.proofs.work.go.Goals as goal

pub returns : goal.returns
returns g c =
    is_ride c.args.code.now c.args.given c.new-work.result c.in_ok-ridden.ridden.work c.into_parts-task.result.0 c.going_on-task.result c.into_parts-task.result.1 c.room.new.self c.in_ok-ridden.ridden.child c.boxed-child.result c.in_ok-ridden.ridden.ticks c.ride.new.asked c.new-work.ensures c.into_parts-task.ensures c.in_ok-room.ensures.items c.in_ok-room.ensures.ok c.going_on-task.ensures c.boxed-child.ensures c.in_ok-ridden.ensures.rides c.in_ok-ridden.ensures.kept c.in_ok-ridden.ensures.born
