use Rattle.std.proofs.Common.{◌≡◌, ◌<◌, ◌∙◌, false, sym, ap, subst, length}
use Rattle.uc_acts.specs.Journal.{is_over}
use Rattle.uc_acts.specs.Known.{object_count, owner}
use Rattle.uc_kernel_core.specs.Mirrors.{Seen}
use Rattle.uc_kernel_core.proofs.Raising as raising
use Rattle.uc_kernel_core.proofs.kernel_core.KernelCore.is_owned.Goals as goal

pub returns-in-None-clause-nobody : goal.returns-in-None-clause-nobody
returns-in-None-clause-nobody c =
    let going = subst (λ (s : Seen). is_over s.journal ≡ false) (sym c.self.view_is) c.requires.going in
    let known = subst (λ (s : Seen). c.args.object < object_count s.journal) (sym c.self.view_is) c.requires.known in
    let m = c.self.invariant.mirrors going in
    let told = raising.owner_told _ _ _ _ _ _ _ _ _ _ _ m c.args.object known c.index.result.now _ c.index.ensures in
    λ h. sym (ap (λ (s : Seen). owner c.args.object s.journal) c.self.view_is) ∙ raising.nobody_told c.index.result.now (owner c.args.object c.self.inside.journal.journal) told c.in-None.is

pub returns-in-Some-clause-one : goal.returns-in-Some-clause-one
returns-in-Some-clause-one c =
    let going = subst (λ (s : Seen). is_over s.journal ≡ false) (sym c.self.view_is) c.requires.going in
    let known = subst (λ (s : Seen). c.args.object < object_count s.journal) (sym c.self.view_is) c.requires.known in
    let m = c.self.invariant.mirrors going in
    let told = raising.owner_told _ _ _ _ _ _ _ _ _ _ _ m c.args.object known c.index.result.now _ c.index.ensures in
    λ h. sym (ap (λ (s : Seen). length (owner c.args.object s.journal)) c.self.view_is) ∙ raising.one_told c.index.result.now (owner c.args.object c.self.inside.journal.journal) told _ c.in-Some.is
