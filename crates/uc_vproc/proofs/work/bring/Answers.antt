use Rattle.std.proofs.Common.{◌≡◌, sym, ap, ◌∙◌, subst}
use Rattle.uc_entry.specs.declared.request.Asked.{Asked}
use Rattle.uc_kernel.specs.KernelState.{with_asked}
use Rattle.uc_lock.specs.Journals.{Extends}
use Rattle.uc_vproc.specs.Makers.{Log}
use Rattle.uc_vproc.specs.Desks.{Table, Saw, Brings}
use Rattle.uc_vproc.specs.declared.desk.RunKey.{RunKey}
use Rattle.uc_vproc.proofs.work.bring.Goals as goal

pub act-step-requires : goal.act-step-requires
act-step-requires g c =
    let n = c.args.seat.now.number in
    let seen = c.args.seat.now.seen in
    let t = c.take-held.ensures in
    let is : c.deref_mut.result.now ≡ c.take-held.result = c.deref_mut.ensures.value ∙ c.behind-held.view_is ∙ c.value.ensures.value in
    let saw : Saw n seen c.take-held.result.log = record { begins = t.seen; mine = t.own ∙ c.requires.own } in
    let br : Brings c.take-held.result.code n seen (with_asked c.args.back c.args.asked.now) = subst (λ (k : RunKey). Brings k.code n seen (with_asked c.args.back c.args.asked.now)) (sym t.key) c.requires.brings in
    record {
      brings = subst (λ (a : Asked). (x : Log) × Saw c.number-number.result x c.deref_mut.result.now.log × Brings c.deref_mut.result.now.code c.number-number.result x (with_asked c.args.back a)) (sym c.get-what.ensures) (subst (λ m. (x : Log) × Saw m x c.deref_mut.result.now.log × Brings c.deref_mut.result.now.code m x (with_asked c.args.back c.args.asked.now)) (sym c.number-number.ensures) (subst (λ (y : Table). (x : Log) × Saw n x y.log × Brings y.code n x (with_asked c.args.back c.args.asked.now)) (sym is) (seen, saw, br)));
    }

pub give-requires-clause-journal : goal.give-requires-clause-journal
give-requires-clause-journal g c =
    let seat = c.take-held.ensures.seat in
    let is : c.deref_mut.result.now ≡ c.take-held.result = c.deref_mut.ensures.value ∙ c.behind-held.view_is ∙ c.value.ensures.value in
    subst (λ l. Extends c.take-held.new.seat.number l c.act-step.new.self.log) (ap (λ (x : Table). x.log) is ∙ sym (ap (λ s. s.seen) seat)) (subst (λ m. Extends m c.deref_mut.result.now.log c.act-step.new.self.log) (c.number-number.ensures ∙ sym (ap (λ s. s.number) seat)) c.act-step.ensures.log)
