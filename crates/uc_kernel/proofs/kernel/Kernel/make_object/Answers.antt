use Rattle.std.proofs.Common.{◌≡◌, ◌∷◌, [], sym, ap, ◌∙◌, subst}
use Rattle.uc_acts.specs.KernelRuns.{MayAsk}
use Rattle.uc_kernel.specs.KernelState.{with_asked, Store, kept, stored}
use Rattle.uc_acts.specs.Queues.{running}
use Rattle.uc_kernel.specs.Calls.{Acted, LacksNew}
use Rattle.uc_kernel.specs.AtRest.{IsKept}
use Rattle.uc_kernel.proofs.Dispatching.{is_ready_of}
use Rattle.uc_kernel.proofs.Taking.{brought, renamed, asks_it, from_act, kept_from, acted_from}
use Rattle.uc_kernel.proofs.kernel.Kernel.make_object.Goals as goal

pub make_object-requires-clause-ready : goal.make_object-requires-clause-ready
make_object-requires-clause-ready g c = is_ready_of c.self.inside.book c.self.inside.tasks.items c.self.inside.loose.items c.self.invariant (sym c.is_over.ensures ∙ c.if-is_over.false)

pub make_object-requires-clause-asks : goal.make_object-requires-clause-asks
make_object-requires-clause-asks g c = let k = (subst (IsKept c.self.inside.book c.self.inside.tasks.items) (sym c.in_ok-reserve.ensures.items) c.self.invariant) in let m = (brought c.args.self.now (stored c.self.inside.book c.self.inside.abandoned c.self.inside.tasks.items c.reserve.new.self.items) (with_asked c.args.back c.args.asked.now) (ap (stored c.self.inside.book c.self.inside.abandoned c.self.inside.tasks.items) c.in_ok-reserve.ensures.items ∙ c.self.view_is) c.requires.fits (sym c.is_over.ensures ∙ c.if-is_over.false)) in
    subst (MayAsk c.self.inside.book.opts c.self.inside.book.sites c.self.inside.book.journal c.actor-who.result.processor c.actor-who.result.task c.actor-who.result.ticks) c.class_of-class.ensures (asks_it c.self.inside.book c.self.inside.abandoned c.self.inside.tasks.items c.reserve.new.self.items k (sym c.is_over.ensures ∙ c.if-is_over.false) (with_asked c.args.back c.args.asked.now) m c.actor-who.result.processor c.actor-who.result.task c.actor-who.result.ticks c.actor-who.result.line (c.actor-who.ensures.processor m.task m.asks.runs) (c.actor-who.ensures.task m.task m.asks.runs) c.actor-who.ensures.ticks c.actor-who.ensures.line)

pub follow_make-next-requires-clause-after : goal.follow_make-next-requires-clause-after
follow_make-next-requires-clause-after g c = let k = (subst (IsKept c.self.inside.book c.self.inside.tasks.items) (sym c.in_ok-reserve.ensures.items) c.self.invariant) in let m = (brought c.args.self.now (stored c.self.inside.book c.self.inside.abandoned c.self.inside.tasks.items c.reserve.new.self.items) (with_asked c.args.back c.args.asked.now) (ap (stored c.self.inside.book c.self.inside.abandoned c.self.inside.tasks.items) c.in_ok-reserve.ensures.items ∙ c.self.view_is) c.requires.fits (sym c.is_over.ensures ∙ c.if-is_over.false)) in record { asked = c.args.asked.now; makes = c.requires.makes; from = from_act c.self.inside.book c.self.inside.abandoned c.self.inside.tasks.items c.reserve.new.self.items k (sym c.is_over.ensures ∙ c.if-is_over.false) (with_asked c.args.back c.args.asked.now) m c.actor-who.result.processor c.actor-who.result.task c.actor-who.result.ticks c.actor-who.result.line (c.actor-who.ensures.processor m.task m.asks.runs) (c.actor-who.ensures.task m.task m.asks.runs) c.actor-who.ensures.ticks c.actor-who.ensures.line c.make_object.new.self (renamed c.self.inside.book c.make_object.new.self c.actor-who.result.processor c.actor-who.result.task c.actor-who.result.ticks c.actor-who.result.line _ c.args.asked.now.request c.class_of-class.ensures c.in_ok-make_object.ensures.ok) }

pub invariant_of-self-2 : goal.invariant_of-self-2
invariant_of-self-2 g c = let k = (subst (IsKept c.self.inside.book c.self.inside.tasks.items) (sym c.in_ok-reserve.ensures.items) c.self.invariant) in let m = (brought c.args.self.now (stored c.self.inside.book c.self.inside.abandoned c.self.inside.tasks.items c.reserve.new.self.items) (with_asked c.args.back c.args.asked.now) (ap (stored c.self.inside.book c.self.inside.abandoned c.self.inside.tasks.items) c.in_ok-reserve.ensures.items ∙ c.self.view_is) c.requires.fits (sym c.is_over.ensures ∙ c.if-is_over.false)) in kept_from c.self.inside.book c.self.inside.abandoned c.self.inside.tasks.items c.reserve.new.self.items k (sym c.is_over.ensures ∙ c.if-is_over.false) (with_asked c.args.back c.args.asked.now) m c.actor-who.result.processor c.actor-who.result.task c.actor-who.result.ticks c.actor-who.result.line (c.actor-who.ensures.processor m.task m.asks.runs) (c.actor-who.ensures.task m.task m.asks.runs) c.actor-who.ensures.ticks c.actor-who.ensures.line c.make_object.new.self (renamed c.self.inside.book c.make_object.new.self c.actor-who.result.processor c.actor-who.result.task c.actor-who.result.ticks c.actor-who.result.line _ c.args.asked.now.request c.class_of-class.ensures c.in_ok-make_object.ensures.ok) c.follow_make-next.new.tasks.items c.follow_make-next.new.loose.items c.follow_make-next.ensures.lies

pub returns-clause-ok : goal.returns-clause-ok
returns-clause-ok g c = let k = (subst (IsKept c.self.inside.book c.self.inside.tasks.items) (sym c.in_ok-reserve.ensures.items) c.self.invariant) in let m = (brought c.args.self.now (stored c.self.inside.book c.self.inside.abandoned c.self.inside.tasks.items c.reserve.new.self.items) (with_asked c.args.back c.args.asked.now) (ap (stored c.self.inside.book c.self.inside.abandoned c.self.inside.tasks.items) c.in_ok-reserve.ensures.items ∙ c.self.view_is) c.requires.fits (sym c.is_over.ensures ∙ c.if-is_over.false)) in
    subst (λ (x : Store _ _). Acted (kept x) (with_asked c.args.back c.args.asked.now) c.follow_make-next.result (kept (stored c.make_object.new.self c.self.inside.abandoned c.follow_make-next.new.tasks.items c.follow_make-next.new.loose.items))) (ap (stored c.self.inside.book c.self.inside.abandoned c.self.inside.tasks.items) c.in_ok-reserve.ensures.items ∙ c.self.view_is) (acted_from c.self.inside.book c.self.inside.abandoned c.self.inside.tasks.items c.reserve.new.self.items k (sym c.is_over.ensures ∙ c.if-is_over.false) (with_asked c.args.back c.args.asked.now) m c.actor-who.result.processor c.actor-who.result.task c.actor-who.result.ticks c.actor-who.result.line (c.actor-who.ensures.processor m.task m.asks.runs) (c.actor-who.ensures.task m.task m.asks.runs) c.actor-who.ensures.ticks c.actor-who.ensures.line c.make_object.new.self (renamed c.self.inside.book c.make_object.new.self c.actor-who.result.processor c.actor-who.result.task c.actor-who.result.ticks c.actor-who.result.line _ c.args.asked.now.request c.class_of-class.ensures c.in_ok-make_object.ensures.ok) c.follow_make-next.new.tasks.items c.follow_make-next.new.loose.items c.follow_make-next.result (λ y. c.follow_make-next.ensures.follows (record { asked = c.args.asked.now; makes = c.requires.makes; from = y })))

pub returns-clause-lacks : goal.returns-clause-lacks
returns-clause-lacks g c = λ t r.
    let runs = subst (λ (x : Store _ _). running c.args.back.processor x.journal ≡ t ∷ []) (sym c.self.view_is) r in
    subst (λ u. LacksNew c.make_object.new.self.journal u c.follow_make-next.result) (c.actor-who.ensures.task t runs) c.follow_make-next.ensures.lacks
