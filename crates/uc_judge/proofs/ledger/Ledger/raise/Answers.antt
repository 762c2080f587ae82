use Rattle.std.proofs.Common.{rules}
use Rattle.uc_acts.specs.Journal.{first_or_0}
use Rattle.uc_acts.specs.Known.{owner}
use Rattle.uc_judge.proofs.Signals.{raise_settles, fault_settles}
use Rattle.uc_judge.proofs.ledger.Ledger.raise.Goals as goal

pub returns-then-count : goal.returns-then-count
returns-then-count c =
    let s = c.args.self.now in
    let h = c.requires.ledger in
    raise_settles c.args.actor c.args.object c.args.event c.args.x c.args.y c.owner-target.result (first_or_0 (owner c.args.object s.entries.items)) (c.owner-target.ensures s.opts s.entries.items h.tasks) s.entries.items c.count.result (c.count.ensures s.entries.items h.pending) _ c.raise.result _ _ (search rules) (search rules) c.if-count.true c.raise.ensures.is c.in_ok-one.ensures

pub returns : goal.returns
returns c =
    let s = c.args.self.now in
    let h = c.requires.ledger in
    fault_settles c.args.actor c.args.object c.args.event c.args.x c.args.y c.owner-target.result (first_or_0 (owner c.args.object s.entries.items)) (c.owner-target.ensures s.opts s.entries.items h.tasks) s.entries.items c.count.result (c.count.ensures s.entries.items h.pending) _ c.if-count.false c.in_ok-fault.ensures
