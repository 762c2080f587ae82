use Rattle.std.proofs.Common.{sym, ap, ◌∙◌, refl, length, take}
use Rattle.std.specs.Prelude.{pos, nat_le}
use Rattle.uc_entry.specs.declared.entry.EntryKind.TheVariants as kind
use Rattle.uc_acts.specs.Journal.{entry}
use Rattle.uc_acts.specs.Acts.{verdict}
use Rattle.uc_judge.proofs.Fitted.{closed_some, over_ended}
use Rattle.uc_judge.proofs.ledger.Ledger.close.Goals as goal

pub returns-in_ok-limit-in-Some-clause-going : goal.returns-in_ok-limit-in-Some-clause-going
returns-in_ok-limit-in-Some-clause-going c sites h o =
    absurd (over_ended (take c.args.from c.stop.new.self.entries.items) c.limit.new.self.entries.items (entry kind.Limit c.args.actor.processor c.args.actor.task 0 0 (pos 0) (pos 0)) c.in_ok-limit-in-Some.ensures.entries refl o)

pub returns-else-is_full-clause-going : goal.returns-else-is_full-clause-going
returns-else-is_full-clause-going c sites h o =
    absurd (over_ended c.args.self.now.entries.items c.stop.new.self.entries.items (entry c.in-Some.kind c.args.actor.processor c.args.actor.task 0 0 (pos 0) (pos 0)) c.in_ok-stop-in-Some.ensures.entries c.in-Some.ensures.kind o)

pub returns-else-is_full-clause-entries : goal.returns-else-is_full-clause-entries
returns-else-is_full-clause-entries c sites h =
    let s = c.args.self.now in
    let one = c.stop.new.self.entries.items in
    closed_some s.opts c.args.from c.args.actor.processor c.args.actor.task s.entries.items (verdict s.opts s.entries.items) c.in-Some.kind (sym (c.ending.ensures.verdict sites h) ∙ c.in-Some.is) one c.in_ok-stop-in-Some.ensures.entries (ap (λ o. nat_le o.entries (length one)) (sym c.in_ok-stop-in-Some.ensures.opts) ∙ sym c.is_full.ensures.full ∙ c.if-is_full.false)
