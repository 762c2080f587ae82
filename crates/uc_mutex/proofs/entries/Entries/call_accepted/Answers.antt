use Rattle.std.proofs.Common.{◌∙◌, ap}
use Rattle.uc_mutex.specs.Doors.{Door, with_door, door_at, off_top, meeting_door}
use Rattle.uc_mutex.proofs.Views.{then}
use Rattle.uc_mutex.proofs.Nexts.{met_some}
use Rattle.uc_mutex.proofs.entries.Entries.call_accepted.Goals as goal

pub returns-in-Some-clause-door : goal.returns-in-Some-clause-door
returns-in-Some-clause-door g c =
    let v = c.args.self.now in let o = c.args.object in let d = door_at v o in
    then v c.pop.new.self c.meet.new.self o (off_top d) (λ (x : Door). meeting_door c.args.task c.in-Some.top.0 c.args.clause c.args.member x) c.requires.object c.in-Some.ensures.door c.meet.ensures.door
    ∙ ap (with_door v o) (met_some c.args.task c.args.clause c.args.member d.stacked c.in-Some.top d c.if-clause-eq0.false c.in-Some.ensures.value)
