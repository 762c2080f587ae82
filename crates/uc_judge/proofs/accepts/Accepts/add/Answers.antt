use Rattle.std.specs.Ordering.{nat_cmp}
use Rattle.std.specs.BTreeMap.{get}
use Rattle.uc_judge.proofs.Opening.{opened_more}
use Rattle.uc_judge.proofs.accepts.Accepts.add.Goals as goal

pub returns : goal.returns
returns c j h =
    let updates = c.in_ok-_before.ensures.updates in
    record { opened = opened_more (get nat_cmp c.args.self.now.opened) (get nat_cmp c.insert.new.self) c.value_at.result c.opened_behind-behind.result c.args.e.now j h.opened c.value_at.ensures c.opened_behind-behind.ensures updates.1 updates.2 }
