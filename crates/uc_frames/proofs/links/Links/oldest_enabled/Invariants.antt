use Rattle.std.proofs.Common.{◌≡◌, drop}
use Rattle.std.specs.List.{find}
use Rattle.uc_tree.specs.SiteOffers.{has_bit}
use Rattle.uc_machine.specs.declared.exec.Pending.{Pending}
use Rattle.uc_frames.proofs.links.Links.oldest_enabled.Given as goal

abbrev pub invariant-loop-at : goal.invariant-loop-at
invariant-loop-at l = find (λ (p : Pending). has_bit p.event l.self.enabled) l.self.pending ≡ find (λ (p : Pending). has_bit p.event l.self.enabled) (drop l.at l.self-inside.pending.items)
