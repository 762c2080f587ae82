use Rattle.std.proofs.Common.{◌∙◌, ap}
use Rattle.uc_mutex.specs.Doors.{Door, with_door, door_at, off_front, let_in}
use Rattle.uc_mutex.proofs.Views.{then}
use Rattle.uc_mutex.proofs.Nexts.{next_front}
use Rattle.uc_mutex.proofs.entries.Entries.next_caller.Goals as goal

pub returns-in-Some-clause-door : goal.returns-in-Some-clause-door
returns-in-Some-clause-door g c =
    let v = c.args.self.now in let o = c.args.object in let d = door_at v o in
    then v c.shift.new.self c.enter.new.self o (off_front d) (λ (x : Door). let_in c.in-Some.task x) c.requires.object c.in-Some.ensures.door c.enter.ensures
    ∙ ap (with_door v o) (next_front d.waiting c.in-Some.task d c.in-Some.ensures.value)
