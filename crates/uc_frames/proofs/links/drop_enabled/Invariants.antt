use Rattle.std.proofs.Common.{◌≡◌, ◌++◌, take, drop}
use Rattle.uc_tree.specs.SiteOffers.{has_bit}
use Rattle.uc_entry.specs.Keyed.{drop_first}
use Rattle.uc_machine.specs.declared.exec.Pending.{Pending}
use Rattle.uc_frames.proofs.links.drop_enabled.Given as goal

abbrev pub invariant-loop-at : goal.invariant-loop-at
invariant-loop-at l =
    drop_first (λ (p : Pending). has_bit p.event l.mask) l.fn.pending.items ≡ take l.at l.pending.items ++ drop_first (λ (p : Pending). has_bit p.event l.mask) (drop l.at l.pending.items)
