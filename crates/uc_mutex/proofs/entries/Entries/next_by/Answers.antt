use Rattle.std.proofs.Common.{◌∙◌, ap}
use Rattle.uc_mutex.specs.Doors.{Door, with_door, door_at, off_top, let_in}
use Rattle.uc_mutex.proofs.Views.{then}
use Rattle.uc_mutex.proofs.Nexts.{next_top}
use Rattle.uc_mutex.proofs.entries.Entries.next_by.Goals as goal

pub returns-in-Some-clause-door : goal.returns-in-Some-clause-door
returns-in-Some-clause-door g c =
    let v = c.args.self.now in let o = c.args.object in let d = door_at v o in
    then v c.pop.new.self c.enter.new.self o (off_top d) (λ (x : Door). let_in c.in-Some.top.0 x) c.requires.object c.in-Some.ensures.door c.enter.ensures
    ∙ ap (with_door v o) (next_top d.stacked d.waiting c.in-Some.top d c.in-Some.ensures.value)
