use Rattle.std.proofs.Common.{◌≡◌, ◌<◌, ◌∙◌, false, sym, ap, subst}
use Rattle.uc_acts.specs.Journal.{first_or_0, is_over}
use Rattle.uc_acts.specs.Known.{object_count, owner}
use Rattle.uc_kernel_core.specs.Mirrors.{Seen}
use Rattle.uc_kernel_core.proofs.Raising as raising
use Rattle.uc_kernel_core.proofs.kernel_core.KernelCore.owner_of.Goals as goal

pub returns-in-None : goal.returns-in-None
returns-in-None c =
    let going = subst (λ (s : Seen). is_over s.journal ≡ false) (sym c.self.view_is) c.requires.going in
    let known = subst (λ (s : Seen). c.args.object < object_count s.journal) (sym c.self.view_is) c.requires.known in
    let m = c.self.invariant.mirrors going in
    let told = raising.owner_told _ _ _ _ _ _ _ _ _ _ _ m c.args.object known c.index.result.now _ c.index.ensures in
    raising.nobody_or_0 c.index.result.now (owner c.args.object c.self.inside.journal.journal) told c.in-None.is ∙ ap (λ (s : Seen). first_or_0 (owner c.args.object s.journal)) c.self.view_is

pub returns-in-Some : goal.returns-in-Some
returns-in-Some c =
    let going = subst (λ (s : Seen). is_over s.journal ≡ false) (sym c.self.view_is) c.requires.going in
    let known = subst (λ (s : Seen). c.args.object < object_count s.journal) (sym c.self.view_is) c.requires.known in
    let m = c.self.invariant.mirrors going in
    let told = raising.owner_told _ _ _ _ _ _ _ _ _ _ _ m c.args.object known c.index.result.now _ c.index.ensures in
    raising.owner_or_0 c.index.result.now (owner c.args.object c.self.inside.journal.journal) told c.in-Some.task c.in-Some.is ∙ ap (λ (s : Seen). first_or_0 (owner c.args.object s.journal)) c.self.view_is
