use Rattle.std.proofs.Common.{◌≡◌, List, [], ◌++◌, map}
use Rattle.uc_lock.specs.Meanings.{Sitting, summary}
use Rattle.uc_lock.proofs.shared.Shared.close.Given as goal

abbrev pub invariant-loop-other : goal.invariant-loop-other
invariant-loop-other g l = (l.kept.table_id ≡ l.fn.self.id)
    × ((gone : List (Sitting g.row.V-Key.Denot g.row.V-Item.Denot)) × (l.initial.seats.items ≡ l.seats.items ++ gone)
    × (l.kept.me ≡ (record l.initial.kept.me.0 { joined = map summary gone }, [])))

abbrev pub decreases-loop-other : goal.decreases-loop-other
decreases-loop-other g l = goal.left-loop-other g l
