use Rattle.std.proofs.Common.{◌-◌, ◌≤◌, ◌++◌, Some, sym, ap, ◌∙◌, subst, length, replicate, vec_capacity, arith}
use Rattle.uc_kernel.specs.KernelState.{kept}
use Rattle.uc_kernel.specs.Calls.{Opened}
use Rattle.uc_vproc.specs.declared.step.Step.TheVariants.{Idle}
use Rattle.uc_vproc.specs.Desks.{Keeping}
use Rattle.uc_vproc.proofs.Opening.{opens}
use Rattle.uc_vproc.proofs.desk.Desk.open.Goals as goal

pub invariant_of-result : goal.invariant_of-result
invariant_of-result c =
    let k = kept c.in_ok-kernel.kernel in
    let code = c.args.code.now in
    let o = subst (λ m. Opened code.sites c.args.opts c.args.input.items (Some c.args.first) m k) c.requires.own (subst (λ s. Opened s c.args.opts c.args.input.items (Some c.args.first) c.args.own k) c.requires.sites c.in_ok-kernel.ensures) in
    let none = c.in_ok-notes.ensures.items in
    let one = c.make_notes.ensures.items ∙ ap (λ l. l ++ replicate (1 - length l) (64, Idle)) none in
    let cap = c.make_notes.ensures.capacity in
    let wide = c.in_ok-notes.ensures.capacity in
    let le : c.args.opts.entries ≤ vec_capacity c.make_notes.new.notes = omega (arith, cap, wide) in
    let registry = c.in_ok-registry.registry in
    subst (λ r. Keeping r c.args.main k c.make_notes.new.notes.items (vec_capacity c.make_notes.new.notes) registry) (sym c.of.ensures) (opens code c.args.main c.args.opts c.args.input.items c.args.first c.requires.source c.requires.first c.requires.kept k c.make_notes.new.notes.items (vec_capacity c.make_notes.new.notes) registry c.requires.options o one le c.in_ok-registry.ensures)
