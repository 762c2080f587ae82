use Rattle.std.proofs.Common.{◌<◌, ◌∙◌, sym, ap, subst}
use Rattle.uc_acts.specs.Doors.{has_others}
use Rattle.uc_acts.specs.Known.{object_count}
use Rattle.uc_kernel_core.specs.Mirrors.{MayAct, Seen}
use Rattle.uc_kernel_core.proofs.Letting as letting
use Rattle.uc_kernel_core.proofs.kernel_core.KernelCore.has_others.Goals as goal

pub returns : goal.returns
returns c =
    let may = subst (λ (s : Seen). MayAct s c.args.who.processor c.args.who.task) (sym c.self.view_is) c.requires.may in
    let m = c.self.invariant.mirrors may.going in
    let known = subst (λ (s : Seen). c.args.object < object_count s.journal) (sym c.self.view_is) c.requires.known in
    letting.others_told _ _ _ _ _ _ _ _ _ _ _ m c.args.object known c.args.who.processor c.args.who.task may.runs c.destroys_busy.result c.destroys_busy.ensures.yes c.destroys_busy.ensures.no ∙ ap (λ (s : Seen). has_others c.args.object c.args.who.task s.journal) c.self.view_is
