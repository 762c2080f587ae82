use Rattle.std.proofs.Common.{sym, ◌∙◌, refl, arith, take}
use Rattle.std.specs.Prelude.{pos}
use Rattle.uc_entry.specs.declared.entry.EntryKind.TheVariants as kind
use Rattle.uc_acts.specs.Journal.{entry}
use Rattle.uc_judge.proofs.Fitted.{act_limit, act_fault, act_end, over_ended}
use Rattle.uc_judge.proofs.ledger.Ledger.act.Goals as goal

pub returns-then-is_full-clause-entries : goal.returns-then-is_full-clause-entries
returns-then-is_full-clause-entries c =
    let l = c.args.self.now.entries.ok.0 in
    let i = c.len-from.ensures in
    act_limit c.args.input.now c.args.actor c.args.request.now c.len-from.result (omega (arith, l, i)) c.in_ok-take_up.ensures c.limit.new.self (sym c.is_full.ensures.full ∙ c.if-is_full.true) c.in_ok-limit.ensures.entries

pub returns-then-is_full-clause-going : goal.returns-then-is_full-clause-going
returns-then-is_full-clause-going c o =
    absurd (over_ended (take c.len-from.result c.take_up.new.self.entries.items) c.limit.new.self.entries.items (entry kind.Limit c.args.actor.processor c.args.actor.task 0 0 (pos 0) (pos 0)) c.in_ok-limit.ensures.entries refl o)

pub returns-then-has_failed-clause-entries : goal.returns-then-has_failed-clause-entries
returns-then-has_failed-clause-entries c =
    let l = c.args.self.now.entries.ok.0 in
    let i = c.len-from.ensures in
    act_fault c.args.input.now c.args.actor c.args.request.now c.len-from.result (omega (arith, l, i)) c.in_ok-take_up.ensures (sym c.is_full.ensures.full ∙ c.if-is_full.false) (sym c.has_failed.ensures ∙ c.if-has_failed.true)

pub returns-clause-entries : goal.returns-clause-entries
returns-clause-entries c =
    let l = c.args.self.now.entries.ok.0 in
    let i = c.len-from.ensures in
    act_end c.args.input.now c.args.actor c.args.request.now c.len-from.result (omega (arith, l, i)) c.in_ok-take_up.ensures c.close.new.self (sym c.has_failed.ensures ∙ c.if-has_failed.false) (c.in_ok-close.ensures.entries c.args.sites.now c.in_ok-take_up.ensures.ledger)

pub returns-clause-going : goal.returns-clause-going
returns-clause-going c o = c.in_ok-close.ensures.going c.args.sites.now c.in_ok-take_up.ensures.ledger o
