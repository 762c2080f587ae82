use Rattle.std.proofs.Common.{sym, ◌∙◌, subst}
use Rattle.uc_kernel.specs.KernelState.{with_asked, Store, kept, stored}
use Rattle.uc_kernel.specs.Calls.{Acted}
use Rattle.uc_kernel.proofs.Dispatching.{is_ready_of}
use Rattle.uc_kernel.proofs.Taking.{brought, told_at, admission_at, less_at, asks_it, one_more, is_act, kept_on, acted}
use Rattle.uc_kernel.proofs.kernel.Kernel.act.Goals as goal

pub act-requires-clause-ready : goal.act-requires-clause-ready
act-requires-clause-ready g c = is_ready_of c.self.inside.book c.self.inside.tasks.items c.self.inside.loose.items c.self.invariant (sym c.is_over.ensures ∙ c.if-is_over.false)

pub act-requires-clause-asks : goal.act-requires-clause-asks
act-requires-clause-asks g c = let m = (brought c.args.self.now (stored c.self.inside.book c.self.inside.abandoned c.self.inside.tasks.items c.self.inside.loose.items) (with_asked c.args.back c.args.asked.now) c.self.view_is c.requires.fits (sym c.is_over.ensures ∙ c.if-is_over.false)) in asks_it c.self.inside.book c.self.inside.abandoned c.self.inside.tasks.items c.self.inside.loose.items c.self.invariant (sym c.is_over.ensures ∙ c.if-is_over.false) (with_asked c.args.back c.args.asked.now) m c.actor-who.result.processor c.actor-who.result.task c.actor-who.result.ticks c.actor-who.result.line (c.actor-who.ensures.processor m.task m.asks.runs) (c.actor-who.ensures.task m.task m.asks.runs) c.actor-who.ensures.ticks c.actor-who.ensures.line

pub entry_at-first-requires : goal.entry_at-first-requires
entry_at-first-requires g c = let m = (brought c.args.self.now (stored c.self.inside.book c.self.inside.abandoned c.self.inside.tasks.items c.self.inside.loose.items) (with_asked c.args.back c.args.asked.now) c.self.view_is c.requires.fits (sym c.is_over.ensures ∙ c.if-is_over.false)) in less_at _ _ _ _ c.journal.ensures c.journal-before.ensures (one_more c.self.inside.book c.self.inside.abandoned c.self.inside.tasks.items c.self.inside.loose.items c.self.invariant (sym c.is_over.ensures ∙ c.if-is_over.false) (with_asked c.args.back c.args.asked.now) m c.actor-who.result.processor c.actor-who.result.task c.actor-who.result.ticks c.actor-who.result.line (c.actor-who.ensures.processor m.task m.asks.runs) (c.actor-who.ensures.task m.task m.asks.runs) c.actor-who.ensures.ticks c.actor-who.ensures.line c.act.new.self c.act.ensures c.requires.old)

pub follow-requires : goal.follow-requires
follow-requires g c = let m = (brought c.args.self.now (stored c.self.inside.book c.self.inside.abandoned c.self.inside.tasks.items c.self.inside.loose.items) (with_asked c.args.back c.args.asked.now) c.self.view_is c.requires.fits (sym c.is_over.ensures ∙ c.if-is_over.false)) in record { after = record { asked = c.args.asked.now; old = c.requires.old; act = is_act c.self.inside.book c.self.inside.abandoned c.self.inside.tasks.items c.self.inside.loose.items c.self.invariant (sym c.is_over.ensures ∙ c.if-is_over.false) (with_asked c.args.back c.args.asked.now) m c.actor-who.result.processor c.actor-who.result.task c.actor-who.result.ticks c.actor-who.result.line (c.actor-who.ensures.processor m.task m.asks.runs) (c.actor-who.ensures.task m.task m.asks.runs) c.actor-who.ensures.ticks c.actor-who.ensures.line c.act.new.self c.act.ensures c.entry_at-first.result c.admission_at-admission.result (told_at _ _ _ _ c.entry_at-first.result c.journal.ensures c.journal-before.ensures c.entry_at-first.ensures) (admission_at _ _ _ _ c.admission_at-admission.result c.journal-2.ensures c.journal-before.ensures c.admission_at-admission.ensures) } }

pub invariant_of-self : goal.invariant_of-self
invariant_of-self g c = let m = (brought c.args.self.now (stored c.self.inside.book c.self.inside.abandoned c.self.inside.tasks.items c.self.inside.loose.items) (with_asked c.args.back c.args.asked.now) c.self.view_is c.requires.fits (sym c.is_over.ensures ∙ c.if-is_over.false)) in kept_on c.self.inside.book c.self.inside.abandoned c.self.inside.tasks.items c.self.inside.loose.items c.self.invariant (sym c.is_over.ensures ∙ c.if-is_over.false) (with_asked c.args.back c.args.asked.now) m c.actor-who.result.processor c.actor-who.result.task c.actor-who.result.ticks c.actor-who.result.line (c.actor-who.ensures.processor m.task m.asks.runs) (c.actor-who.ensures.task m.task m.asks.runs) c.actor-who.ensures.ticks c.actor-who.ensures.line c.act.new.self c.act.ensures c.entry_at-first.result c.admission_at-admission.result (told_at _ _ _ _ c.entry_at-first.result c.journal.ensures c.journal-before.ensures c.entry_at-first.ensures) (admission_at _ _ _ _ c.admission_at-admission.result c.journal-2.ensures c.journal-before.ensures c.admission_at-admission.ensures) c.follow.new.tasks.items c.follow.new.loose.items c.requires.old c.follow.ensures.lies

pub returns : goal.returns
returns g c = let m = (brought c.args.self.now (stored c.self.inside.book c.self.inside.abandoned c.self.inside.tasks.items c.self.inside.loose.items) (with_asked c.args.back c.args.asked.now) c.self.view_is c.requires.fits (sym c.is_over.ensures ∙ c.if-is_over.false)) in
    subst (λ (x : Store _ _). Acted (kept x) (with_asked c.args.back c.args.asked.now) c.follow.result (kept (stored c.act.new.self c.self.inside.abandoned c.follow.new.tasks.items c.follow.new.loose.items))) c.self.view_is (acted c.self.inside.book c.self.inside.abandoned c.self.inside.tasks.items c.self.inside.loose.items c.self.invariant (sym c.is_over.ensures ∙ c.if-is_over.false) (with_asked c.args.back c.args.asked.now) m c.actor-who.result.processor c.actor-who.result.task c.actor-who.result.ticks c.actor-who.result.line (c.actor-who.ensures.processor m.task m.asks.runs) (c.actor-who.ensures.task m.task m.asks.runs) c.actor-who.ensures.ticks c.actor-who.ensures.line c.act.new.self c.act.ensures c.entry_at-first.result c.admission_at-admission.result (told_at _ _ _ _ c.entry_at-first.result c.journal.ensures c.journal-before.ensures c.entry_at-first.ensures) (admission_at _ _ _ _ c.admission_at-admission.result c.journal-2.ensures c.journal-before.ensures c.admission_at-admission.ensures) c.follow.new.tasks.items c.follow.new.loose.items c.follow.result (λ y. c.follow.ensures.follows (record { asked = c.args.asked.now; old = c.requires.old; act = y })))
