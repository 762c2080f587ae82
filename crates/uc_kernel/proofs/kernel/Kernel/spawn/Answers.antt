use Rattle.std.proofs.Common.{sym, ap, ◌∙◌, subst}
use Rattle.uc_kernel.specs.KernelState.{with_asked, Store, kept, stored}
use Rattle.uc_kernel.specs.Calls.{Acted}
use Rattle.uc_kernel.specs.AtRest.{IsKept}
use Rattle.uc_kernel.proofs.Dispatching.{is_ready_of}
use Rattle.uc_kernel.proofs.Taking.{brought, renamed, told_at, less_at, one_more_spawned, from_first, kept_from, acted_first}
use Rattle.uc_kernel.proofs.kernel.Kernel.spawn.Goals as goal

pub spawn-requires-clause-ready : goal.spawn-requires-clause-ready
spawn-requires-clause-ready g c = is_ready_of c.self.inside.book c.self.inside.tasks.items c.self.inside.loose.items c.self.invariant (sym c.is_over.ensures ∙ c.if-is_over.false)

pub entry_at-first-requires : goal.entry_at-first-requires
entry_at-first-requires g c = let k = (subst (λ l. IsKept c.self.inside.book l c.self.inside.loose.items) (sym c.in_ok-reserve.ensures.items) c.self.invariant) in let m = (brought c.args.self.now (stored c.self.inside.book c.self.inside.abandoned c.reserve.new.self.items c.self.inside.loose.items) (with_asked c.args.back c.args.asked.now) (ap (λ l. stored c.self.inside.book c.self.inside.abandoned l c.self.inside.loose.items) c.in_ok-reserve.ensures.items ∙ c.self.view_is) c.requires.fits (sym c.is_over.ensures ∙ c.if-is_over.false)) in less_at _ _ _ _ c.journal.ensures c.journal-before.ensures (one_more_spawned c.self.inside.book c.self.inside.abandoned c.reserve.new.self.items c.self.inside.loose.items k (sym c.is_over.ensures ∙ c.if-is_over.false) (with_asked c.args.back c.args.asked.now) m c.actor-who.result.processor c.actor-who.result.task c.actor-who.result.ticks c.actor-who.result.line (c.actor-who.ensures.processor m.task m.asks.runs) (c.actor-who.ensures.task m.task m.asks.runs) c.actor-who.ensures.ticks c.actor-who.ensures.line c.spawn.new.self (renamed c.self.inside.book c.spawn.new.self c.actor-who.result.processor c.actor-who.result.task c.actor-who.result.ticks c.actor-who.result.line _ c.args.asked.now.request c.object_of-object.ensures c.in_ok-spawn.ensures.ok) c.requires.spawns)

pub follow_spawn-next-requires-clause-after : goal.follow_spawn-next-requires-clause-after
follow_spawn-next-requires-clause-after g c = let k = (subst (λ l. IsKept c.self.inside.book l c.self.inside.loose.items) (sym c.in_ok-reserve.ensures.items) c.self.invariant) in let m = (brought c.args.self.now (stored c.self.inside.book c.self.inside.abandoned c.reserve.new.self.items c.self.inside.loose.items) (with_asked c.args.back c.args.asked.now) (ap (λ l. stored c.self.inside.book c.self.inside.abandoned l c.self.inside.loose.items) c.in_ok-reserve.ensures.items ∙ c.self.view_is) c.requires.fits (sym c.is_over.ensures ∙ c.if-is_over.false)) in record { asked = c.args.asked.now; spawns = c.requires.spawns; act = from_first c.self.inside.book c.self.inside.abandoned c.reserve.new.self.items c.self.inside.loose.items k (sym c.is_over.ensures ∙ c.if-is_over.false) (with_asked c.args.back c.args.asked.now) m c.actor-who.result.processor c.actor-who.result.task c.actor-who.result.ticks c.actor-who.result.line (c.actor-who.ensures.processor m.task m.asks.runs) (c.actor-who.ensures.task m.task m.asks.runs) c.actor-who.ensures.ticks c.actor-who.ensures.line c.spawn.new.self (renamed c.self.inside.book c.spawn.new.self c.actor-who.result.processor c.actor-who.result.task c.actor-who.result.ticks c.actor-who.result.line _ c.args.asked.now.request c.object_of-object.ensures c.in_ok-spawn.ensures.ok) c.entry_at-first.result (told_at _ _ _ _ c.entry_at-first.result c.journal.ensures c.journal-before.ensures c.entry_at-first.ensures) }

pub invariant_of-self-2 : goal.invariant_of-self-2
invariant_of-self-2 g c = let k = (subst (λ l. IsKept c.self.inside.book l c.self.inside.loose.items) (sym c.in_ok-reserve.ensures.items) c.self.invariant) in let m = (brought c.args.self.now (stored c.self.inside.book c.self.inside.abandoned c.reserve.new.self.items c.self.inside.loose.items) (with_asked c.args.back c.args.asked.now) (ap (λ l. stored c.self.inside.book c.self.inside.abandoned l c.self.inside.loose.items) c.in_ok-reserve.ensures.items ∙ c.self.view_is) c.requires.fits (sym c.is_over.ensures ∙ c.if-is_over.false)) in kept_from c.self.inside.book c.self.inside.abandoned c.reserve.new.self.items c.self.inside.loose.items k (sym c.is_over.ensures ∙ c.if-is_over.false) (with_asked c.args.back c.args.asked.now) m c.actor-who.result.processor c.actor-who.result.task c.actor-who.result.ticks c.actor-who.result.line (c.actor-who.ensures.processor m.task m.asks.runs) (c.actor-who.ensures.task m.task m.asks.runs) c.actor-who.ensures.ticks c.actor-who.ensures.line c.spawn.new.self (renamed c.self.inside.book c.spawn.new.self c.actor-who.result.processor c.actor-who.result.task c.actor-who.result.ticks c.actor-who.result.line _ c.args.asked.now.request c.object_of-object.ensures c.in_ok-spawn.ensures.ok) c.follow_spawn-next.new.tasks.items c.self.inside.loose.items c.follow_spawn-next.ensures.lies

pub returns-clause-ok : goal.returns-clause-ok
returns-clause-ok g c = let k = (subst (λ l. IsKept c.self.inside.book l c.self.inside.loose.items) (sym c.in_ok-reserve.ensures.items) c.self.invariant) in let m = (brought c.args.self.now (stored c.self.inside.book c.self.inside.abandoned c.reserve.new.self.items c.self.inside.loose.items) (with_asked c.args.back c.args.asked.now) (ap (λ l. stored c.self.inside.book c.self.inside.abandoned l c.self.inside.loose.items) c.in_ok-reserve.ensures.items ∙ c.self.view_is) c.requires.fits (sym c.is_over.ensures ∙ c.if-is_over.false)) in
    subst (λ (x : Store _ _). Acted (kept x) (with_asked c.args.back c.args.asked.now) c.follow_spawn-next.result (kept (stored c.spawn.new.self c.self.inside.abandoned c.follow_spawn-next.new.tasks.items c.self.inside.loose.items))) (ap (λ l. stored c.self.inside.book c.self.inside.abandoned l c.self.inside.loose.items) c.in_ok-reserve.ensures.items ∙ c.self.view_is) (acted_first c.self.inside.book c.self.inside.abandoned c.reserve.new.self.items c.self.inside.loose.items k (sym c.is_over.ensures ∙ c.if-is_over.false) (with_asked c.args.back c.args.asked.now) m c.actor-who.result.processor c.actor-who.result.task c.actor-who.result.ticks c.actor-who.result.line (c.actor-who.ensures.processor m.task m.asks.runs) (c.actor-who.ensures.task m.task m.asks.runs) c.actor-who.ensures.ticks c.actor-who.ensures.line c.spawn.new.self (renamed c.self.inside.book c.spawn.new.self c.actor-who.result.processor c.actor-who.result.task c.actor-who.result.ticks c.actor-who.result.line _ c.args.asked.now.request c.object_of-object.ensures c.in_ok-spawn.ensures.ok) c.entry_at-first.result (told_at _ _ _ _ c.entry_at-first.result c.journal.ensures c.journal-before.ensures c.entry_at-first.ensures) c.follow_spawn-next.new.tasks.items c.self.inside.loose.items c.follow_spawn-next.result (λ y. c.follow_spawn-next.ensures.follows (record { asked = c.args.asked.now; spawns = c.requires.spawns; act = y })))
