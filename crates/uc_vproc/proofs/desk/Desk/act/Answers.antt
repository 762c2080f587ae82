use Rattle.std.proofs.Common.{refl, sym, ap, ◌∙◌, subst, length, vec_capacity, arith}
use Rattle.uc_kernel.specs.KernelState.{with_asked, kept}
use Rattle.uc_lock.specs.Journals.{Extends}
use Rattle.uc_vproc.specs.Makers.{Log, paired}
use Rattle.uc_vproc.specs.Desks.{Table, key_from, Came, Saw, Brings}
use Rattle.uc_vproc.proofs.Turns.{noted, fits_room, keeps_on, logs_on, comes_on}
use Rattle.uc_vproc.proofs.Acts.{put_on}
use Rattle.uc_vproc.proofs.AskingLemmas.{asking}
use Rattle.uc_vproc.proofs.desk.Desk.act.Goals as goal

pub put-step-requires-clause-asks : goal.put-step-requires-clause-asks
put-step-requires-clause-asks c =
    let code = c.self.inside.code.value in
    let main = c.self.inside.main in
    let k = kept c.self.inside.kernel in
    let ns = c.self.inside.notes.items in
    let room = vec_capacity c.self.inside.notes in
    let n = c.args.maker in
    let registry = c.self.inside.registry in
    let b = with_asked c.args.back c.args.asked.now in
    let br = subst (λ (x : Table). (seen : Log) × Saw n seen x.log × Brings x.code n seen b) (sym c.self.view_is) c.requires.brings in
    (λ wanted going t runs. asking code main k ns room n registry c.self.invariant going wanted b br.0 br.1 br.2 t runs)

pub put-step-requires-clause-told : goal.put-step-requires-clause-told
put-step-requires-clause-told c =
    c.self.invariant.told

pub put-step-requires-clause-runs : goal.put-step-requires-clause-runs
put-step-requires-clause-runs c =
    c.self.invariant.runs

pub make_notes-requires : goal.make_notes-requires
make_notes-requires c =
    let code = c.self.inside.code.value in
    let main = c.self.inside.main in
    let k = kept c.self.inside.kernel in
    let ns = c.self.inside.notes.items in
    let room = vec_capacity c.self.inside.notes in
    let n = c.args.maker in
    let registry = c.self.inside.registry in
    let br = subst (λ (x : Table). (seen : Log) × Saw n seen x.log × Brings x.code n seen (with_asked c.args.back c.args.asked.now)) (sym c.self.view_is) c.requires.brings in
    let step = c.put-step.result in
    let new = kept c.put-step.new.kernel in
    let adv = put_on code main k ns room n registry c.self.invariant (with_asked c.args.back c.args.asked.now) br.0 br.1 br.2 c.put-step.new.registry c.self.inside.kernel c.put-step.new.kernel refl c.put-step.ensures in
    let le = fits_room code main new (noted ns n step new.journal) room c.put-step.new.registry adv.keeps in
    let e = ap length c.journal-count.ensures in omega (arith, le, e)

pub invariant_of-self : goal.invariant_of-self
invariant_of-self c =
    let code = c.self.inside.code.value in
    let main = c.self.inside.main in
    let k = kept c.self.inside.kernel in
    let ns = c.self.inside.notes.items in
    let room = vec_capacity c.self.inside.notes in
    let n = c.args.maker in
    let registry = c.self.inside.registry in
    let br = subst (λ (x : Table). (seen : Log) × Saw n seen x.log × Brings x.code n seen (with_asked c.args.back c.args.asked.now)) (sym c.self.view_is) c.requires.brings in
    let step = c.put-step.result in
    let new = kept c.put-step.new.kernel in
    let adv = put_on code main k ns room n registry c.self.invariant (with_asked c.args.back c.args.asked.now) br.0 br.1 br.2 c.put-step.new.registry c.self.inside.kernel c.put-step.new.kernel refl c.put-step.ensures in
    keeps_on code main k ns room n new (noted ns n step new.journal) c.make_notes.new.notes.items (vec_capacity c.make_notes.new.notes) c.put-step.new.registry step adv (c.make_notes.ensures.items ∙ ap (noted ns n step) c.journal-count.ensures) c.make_notes.ensures.capacity

pub returns-clause-key : goal.returns-clause-key
returns-clause-key c =
    let code = c.self.inside.code.value in
    let main = c.self.inside.main in
    let k = kept c.self.inside.kernel in
    let ns = c.self.inside.notes.items in
    let room = vec_capacity c.self.inside.notes in
    let n = c.args.maker in
    let registry = c.self.inside.registry in
    let br = subst (λ (x : Table). (seen : Log) × Saw n seen x.log × Brings x.code n seen (with_asked c.args.back c.args.asked.now)) (sym c.self.view_is) c.requires.brings in
    let step = c.put-step.result in
    let adv = put_on code main k ns room n registry c.self.invariant (with_asked c.args.back c.args.asked.now) br.0 br.1 br.2 c.put-step.new.registry c.self.inside.kernel c.put-step.new.kernel refl c.put-step.ensures in
    (λ i. record { code = code; main = main; input = adv.input i; opts = adv.opts i }) ∙ ap key_from c.self.view_is

pub returns-clause-log : goal.returns-clause-log
returns-clause-log c =
    let code = c.self.inside.code.value in
    let main = c.self.inside.main in
    let k = kept c.self.inside.kernel in
    let ns = c.self.inside.notes.items in
    let room = vec_capacity c.self.inside.notes in
    let n = c.args.maker in
    let registry = c.self.inside.registry in
    let br = subst (λ (x : Table). (seen : Log) × Saw n seen x.log × Brings x.code n seen (with_asked c.args.back c.args.asked.now)) (sym c.self.view_is) c.requires.brings in
    let step = c.put-step.result in
    let new = kept c.put-step.new.kernel in
    let adv = put_on code main k ns room n registry c.self.invariant (with_asked c.args.back c.args.asked.now) br.0 br.1 br.2 c.put-step.new.registry c.self.inside.kernel c.put-step.new.kernel refl c.put-step.ensures in
    subst (λ (x : Table). Extends n x.log (paired new.journal c.make_notes.new.notes.items)) c.self.view_is (logs_on code main k ns room n new (noted ns n step new.journal) c.make_notes.new.notes.items (vec_capacity c.make_notes.new.notes) c.put-step.new.registry step adv (c.make_notes.ensures.items ∙ ap (noted ns n step) c.journal-count.ensures))

pub returns-clause-came : goal.returns-clause-came
returns-clause-came c =
    let code = c.self.inside.code.value in
    let main = c.self.inside.main in
    let k = kept c.self.inside.kernel in
    let ns = c.self.inside.notes.items in
    let room = vec_capacity c.self.inside.notes in
    let n = c.args.maker in
    let registry = c.self.inside.registry in
    let br = subst (λ (x : Table). (seen : Log) × Saw n seen x.log × Brings x.code n seen (with_asked c.args.back c.args.asked.now)) (sym c.self.view_is) c.requires.brings in
    let step = c.put-step.result in
    let new = kept c.put-step.new.kernel in
    let adv = put_on code main k ns room n registry c.self.invariant (with_asked c.args.back c.args.asked.now) br.0 br.1 br.2 c.put-step.new.registry c.self.inside.kernel c.put-step.new.kernel refl c.put-step.ensures in
    subst (λ (x : Table). Came x.code n (paired new.journal c.make_notes.new.notes.items) step) c.self.view_is (comes_on code main k ns room n new (noted ns n step new.journal) c.make_notes.new.notes.items (vec_capacity c.make_notes.new.notes) c.put-step.new.registry step adv (c.make_notes.ensures.items ∙ ap (noted ns n step) c.journal-count.ensures))
