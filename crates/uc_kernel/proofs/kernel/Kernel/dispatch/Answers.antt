use Rattle.std.proofs.Common.{sym, ◌∙◌, subst}
use Rattle.uc_kernel.specs.KernelState.{Store, kept, stored}
use Rattle.uc_kernel.specs.Calls.{GivesNone, Dispatched}
use Rattle.uc_kernel.proofs.Dispatching.{is_ready_of, known, small, still_going, kept_some, dispatched, gives_none, kept_none}
use Rattle.uc_kernel.proofs.kernel.Kernel.dispatch.Goals as goal

pub dispatch-requires : goal.dispatch-requires
dispatch-requires g c = record { ready = is_ready_of c.self.inside.book c.self.inside.tasks.items c.self.inside.loose.items c.self.invariant (sym c.is_over.ensures ∙ c.if-is_over.false) }

pub invariant_of-self : goal.invariant_of-self
invariant_of-self g c = kept_none c.self.inside.book c.self.inside.tasks.items c.self.inside.loose.items c.self.invariant (sym c.is_over.ensures ∙ c.if-is_over.false) c.dispatch.new.self c.in-None.ensures.none

pub take_out-requires-clause-going : goal.take_out-requires-clause-going
take_out-requires-clause-going g c = still_going c.self.inside.book c.self.inside.tasks.items c.self.inside.loose.items c.self.invariant (sym c.is_over.ensures ∙ c.if-is_over.false) c.in-Some.processor c.in-Some.task c.in-Some.ensures.some.first.serves c.in-Some.ensures.some.room c.dispatch.new.self c.in-Some.ensures.some.appended

pub take_out-requires-clause-small : goal.take_out-requires-clause-small
take_out-requires-clause-small g c = small c.self.inside.book c.self.inside.tasks.items c.self.inside.loose.items c.self.invariant (sym c.is_over.ensures ∙ c.if-is_over.false) c.in-Some.processor c.in-Some.task c.in-Some.ensures.some.first.serves c.in-Some.ensures.some.room

pub take_out-requires-clause-known : goal.take_out-requires-clause-known
take_out-requires-clause-known g c =
    known c.self.inside.book c.self.inside.tasks.items c.self.inside.loose.items c.self.invariant (sym c.is_over.ensures ∙ c.if-is_over.false) c.in-Some.processor c.in-Some.task c.in-Some.ensures.some.first.serves c.in-Some.ensures.some.room

pub invariant_of-self-in-Some : goal.invariant_of-self-in-Some
invariant_of-self-in-Some g c =
    kept_some c.self.inside.book c.self.inside.tasks.items c.self.inside.loose.items c.self.invariant (sym c.is_over.ensures ∙ c.if-is_over.false) c.in-Some.processor c.in-Some.task c.dispatch.new.self c.in-Some.ensures.some c.take_out.new.tasks.items c.take_out.ensures.tasks

pub returns-in-None : goal.returns-in-None
returns-in-None g c =
    subst (λ (x : Store _ _). GivesNone (kept x) (kept (stored c.dispatch.new.self c.self.inside.abandoned c.self.inside.tasks.items c.self.inside.loose.items))) c.self.view_is (subst (λ b. GivesNone (kept (stored c.self.inside.book b c.self.inside.tasks.items c.self.inside.loose.items)) (kept (stored c.dispatch.new.self b c.self.inside.tasks.items c.self.inside.loose.items))) (sym c.if-self.false) (gives_none c.self.inside.book c.self.inside.tasks.items c.self.inside.loose.items c.self.invariant (sym c.is_over.ensures ∙ c.if-is_over.false) c.dispatch.new.self c.in-None.ensures.none))

pub returns-in-Some : goal.returns-in-Some
returns-in-Some g c =
    subst (λ (x : Store _ _). Dispatched (kept x) c.take_out.result (kept (stored c.dispatch.new.self c.self.inside.abandoned c.take_out.new.tasks.items c.self.inside.loose.items))) c.self.view_is (subst (λ b. Dispatched (kept (stored c.self.inside.book b c.self.inside.tasks.items c.self.inside.loose.items)) c.take_out.result (kept (stored c.dispatch.new.self b c.take_out.new.tasks.items c.self.inside.loose.items))) (sym c.if-self.false) (dispatched c.self.inside.book c.self.inside.tasks.items c.self.inside.loose.items c.self.invariant (sym c.is_over.ensures ∙ c.if-is_over.false) c.in-Some.processor c.in-Some.task c.dispatch.new.self c.in-Some.ensures.some c.take_out.new.tasks.items c.take_out.ensures.tasks c.take_out.result c.take_out.ensures.given))
