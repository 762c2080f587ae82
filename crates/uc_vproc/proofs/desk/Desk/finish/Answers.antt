use Rattle.std.proofs.Common.{sym, subst, vec_capacity}
use Rattle.uc_kernel.specs.KernelState.{kept}
use Rattle.uc_vproc.specs.Desks.{Table, EndsAs}
use Rattle.uc_vproc.proofs.Turns.{ends_as, is_some_of}
use Rattle.uc_vproc.proofs.desk.Desk.finish.Goals as goal

pub returns-then-not-abandoned : goal.returns-then-not-abandoned
returns-then-not-abandoned c =
    let k = kept c.self.inside.kernel in
    let e = is_some_of c.ending.result c.is_some-over.result c.is_some-over.ensures c.if-over.true c.ending.ensures.over in
    subst (λ (x : Table). EndsAs x.code x.main x.store.input x.store.opts c.into_journal-journal.result.items) c.self.view_is (subst (λ j. EndsAs c.self.inside.code.value c.self.inside.main k.input k.opts j) (sym c.into_journal-journal.ensures) (ends_as c.self.inside.code.value c.self.inside.main k c.self.inside.notes.items (vec_capacity c.self.inside.notes) c.self.inside.registry c.self.invariant e.0 e.1))
