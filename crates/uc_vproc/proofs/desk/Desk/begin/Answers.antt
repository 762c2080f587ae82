use Rattle.std.proofs.Common.{ap, refl, ◌∙◌, subst, length, vec_capacity, arith}
use Rattle.uc_kernel.specs.KernelState.{kept}
use Rattle.uc_lock.specs.Journals.{Extends}
use Rattle.uc_vproc.specs.Makers.{paired}
use Rattle.uc_vproc.specs.Desks.{Table, key_from, Came}
use Rattle.uc_vproc.proofs.Turns.{noted, handed_on, fits_room, keeps_on, logs_on, comes_on}
use Rattle.uc_vproc.proofs.desk.Desk.begin.Goals as goal

pub hand_out-step-requires-clause-runs : goal.hand_out-step-requires-clause-runs
hand_out-step-requires-clause-runs c =
    c.self.invariant.runs

pub hand_out-step-requires-clause-ended : goal.hand_out-step-requires-clause-ended
hand_out-step-requires-clause-ended c =
    (λ wanted going. (c.self.invariant.steady wanted going).ended)

pub make_notes-requires : goal.make_notes-requires
make_notes-requires c =
    let code = c.self.inside.code.value in
    let main = c.self.inside.main in
    let k = kept c.self.inside.kernel in
    let ns = c.self.inside.notes.items in
    let room = vec_capacity c.self.inside.notes in
    let n = c.args.maker in
    let registry = c.self.inside.registry in
    let step = c.hand_out-step.result in
    let new = kept c.hand_out-step.new.kernel in
    let adv = handed_on code main k ns room n registry c.self.invariant c.self.inside.kernel c.hand_out-step.new.kernel refl c.hand_out-step.ensures in
    let le = fits_room code main new (noted ns n step new.journal) room registry adv.keeps in
    let e = ap length c.journal-count.ensures in omega (arith, le, e)

pub invariant_of-self : goal.invariant_of-self
invariant_of-self c =
    let code = c.self.inside.code.value in
    let main = c.self.inside.main in
    let k = kept c.self.inside.kernel in
    let ns = c.self.inside.notes.items in
    let room = vec_capacity c.self.inside.notes in
    let n = c.args.maker in
    let registry = c.self.inside.registry in
    let step = c.hand_out-step.result in
    let new = kept c.hand_out-step.new.kernel in
    let adv = handed_on code main k ns room n registry c.self.invariant c.self.inside.kernel c.hand_out-step.new.kernel refl c.hand_out-step.ensures in
    keeps_on code main k ns room n new (noted ns n step new.journal) c.make_notes.new.notes.items (vec_capacity c.make_notes.new.notes) registry step adv (c.make_notes.ensures.items ∙ ap (noted ns n step) c.journal-count.ensures) c.make_notes.ensures.capacity

pub returns-clause-key : goal.returns-clause-key
returns-clause-key c =
    let code = c.self.inside.code.value in
    let main = c.self.inside.main in
    let k = kept c.self.inside.kernel in
    let ns = c.self.inside.notes.items in
    let room = vec_capacity c.self.inside.notes in
    let n = c.args.maker in
    let registry = c.self.inside.registry in
    let step = c.hand_out-step.result in
    let adv = handed_on code main k ns room n registry c.self.invariant c.self.inside.kernel c.hand_out-step.new.kernel refl c.hand_out-step.ensures in
    (λ i. record { code = code; main = main; input = adv.input i; opts = adv.opts i }) ∙ ap key_from c.self.view_is

pub returns-clause-log : goal.returns-clause-log
returns-clause-log c =
    let code = c.self.inside.code.value in
    let main = c.self.inside.main in
    let k = kept c.self.inside.kernel in
    let ns = c.self.inside.notes.items in
    let room = vec_capacity c.self.inside.notes in
    let n = c.args.maker in
    let registry = c.self.inside.registry in
    let step = c.hand_out-step.result in
    let new = kept c.hand_out-step.new.kernel in
    let adv = handed_on code main k ns room n registry c.self.invariant c.self.inside.kernel c.hand_out-step.new.kernel refl c.hand_out-step.ensures in
    subst (λ (x : Table). Extends n x.log (paired new.journal c.make_notes.new.notes.items)) c.self.view_is (logs_on code main k ns room n new (noted ns n step new.journal) c.make_notes.new.notes.items (vec_capacity c.make_notes.new.notes) registry step adv (c.make_notes.ensures.items ∙ ap (noted ns n step) c.journal-count.ensures))

pub returns-clause-came : goal.returns-clause-came
returns-clause-came c =
    let code = c.self.inside.code.value in
    let main = c.self.inside.main in
    let k = kept c.self.inside.kernel in
    let ns = c.self.inside.notes.items in
    let room = vec_capacity c.self.inside.notes in
    let n = c.args.maker in
    let registry = c.self.inside.registry in
    let step = c.hand_out-step.result in
    let new = kept c.hand_out-step.new.kernel in
    let adv = handed_on code main k ns room n registry c.self.invariant c.self.inside.kernel c.hand_out-step.new.kernel refl c.hand_out-step.ensures in
    subst (λ (x : Table). Came x.code n (paired new.journal c.make_notes.new.notes.items) step) c.self.view_is (comes_on code main k ns room n new (noted ns n step new.journal) c.make_notes.new.notes.items (vec_capacity c.make_notes.new.notes) registry step adv (c.make_notes.ensures.items ∙ ap (noted ns n step) c.journal-count.ensures))
