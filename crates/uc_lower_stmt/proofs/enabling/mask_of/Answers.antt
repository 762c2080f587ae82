use Rattle.std.proofs.Common.{◌≡◌, ◌+◌, ◌-◌, drop, ap, sym, ◌∙◌, arith}
use Rattle.uc_tree.specs.declared.kinds.EventName.{EventName}
use Rattle.uc_resolve.specs.Resolve.{events_named, number_of_event}
use Rattle.uc_lower_stmt.proofs.EnablingLemmas.{named_by_bits}
use Rattle.uc_lower_stmt.proofs.enabling.mask_of.Goals as goal

pub loop-i-preserved : goal.loop-i-preserved
loop-i-preserved c =
    let few = c.loop-i.invariant.0 in
    let some = c.loop-i-test.true in
    let back : c.loop-i.i - 1 + 1 ≡ c.loop-i.i = omega (arith, some) in
    let so = c.loop-i.invariant.1 ∙ sym (ap (λ k. events_named c.args.names.now (drop k c.args.events.now)) back) in
    (omega (arith, few), named_by_bits c.args.names.now c.args.events.now (c.loop-i.i - 1) c.event.result c.loop-i.mask c.index-events-i.result (omega (arith, few, some)) c.index-events-i.is (c.event.ensures ∙ ap (λ (e : EventName). number_of_event c.args.names.now e.name) (sym c.index-events-i.is)) so)
