use Rattle.std.proofs.Common.{◌≡◌, ap, ◌∙◌, length}
use Rattle.uc_kernel_core.specs.Mirrors.{Seen}
use Rattle.uc_kernel_core.proofs.Endings as endings
use Rattle.uc_kernel_core.proofs.kernel_core.KernelCore.act.Goals as goal

pub request-requires-clause-may : goal.request-requires-clause-may
request-requires-clause-may c = endings.may_act _ _ _ _ _ _ _ _ _ _ _ _ _ _ _ _ c.self.invariant c.self.view_is c.requires.ready c.requires.asks

pub finish-requires-clause-task : goal.finish-requires-clause-task
finish-requires-clause-task c = (endings.may_act _ _ _ _ _ _ _ _ _ _ _ _ _ _ _ _ c.self.invariant c.self.view_is c.requires.ready c.requires.asks).known

pub finish-requires-clause-room : goal.finish-requires-clause-room
finish-requires-clause-room c =
    let w = c.args.who in
    let size : c.len-before.result ≡ length c.args.self.now.journal = c.len-before.ensures.count ∙ ap (λ (s : Seen). length s.journal) c.self.view_is in
    (endings.rows_room c.args.self.now c.request.new.self w.processor w.task w.ticks w.line c.len-before.result c.args.request.now c.requires.asks.fits size c.requires.ready.room c.request.ensures).1

pub returns : goal.returns
returns c =
    let w = c.args.who in
    let size : c.len-before.result ≡ length c.args.self.now.journal = c.len-before.ensures.count ∙ ap (λ (s : Seen). length s.journal) c.self.view_is in
    endings.acts_by c.args.self.now c.request.new.self c.finish.new.self w.processor w.task w.ticks w.line c.len-before.result c.args.request.now c.requires.ready.going size c.request.ensures c.finish.ensures
