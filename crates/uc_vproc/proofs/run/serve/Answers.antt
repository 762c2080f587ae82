use Rattle.std.proofs.Common.{◌≡◌, ◌<◌, ◌≤◌, All, get_or, refl, sym, ap, ◌∙◌, subst, arith}
use Rattle.std.proofs.lemmas.Option.{slice_get-get_or}
use Rattle.uc_lock.specs.Meanings.{fresh}
use Rattle.uc_vproc.specs.Workers.{IsReady}
use Rattle.uc_vproc.specs.Desks.{Table, EndsAs, key_from}
use Rattle.uc_vproc.specs.declared.desk.RunKey.{RunKey}
use Rattle.uc_vproc.proofs.run.serve.Goals as goal

pub work_all-requires-clause-ready : goal.work_all-requires-clause-ready
work_all-requires-clause-ready g c κs h k d lt =
    let n = c.in_ok-lock.ensures in
    let len = n.count in
    let within : k < c.args.processors = omega (arith, lt, len) in
    let e : fresh c.in_ok-lock.lock k ≡ get_or c.in_ok-lock.seats.items k d = cc (sym (n.each k within) ∙ slice_get-get_or c.in_ok-lock.seats.items k d lt) in
    subst (λ s. IsReady c.in_ok-lock.lock s) e ((refl, refl), refl)

pub new-requires-2-clause-makers : goal.new-requires-2-clause-makers
new-requires-2-clause-makers g c =
    subst (λ (d : Table). All (λ e. c.args.processors ≤ e.1) d.log) (sym c.in_ok-desk.ensures.ok) c.requires.log

pub returns : goal.returns
returns g c =
    let is : c.into_inner.result ≡ c.close.result = c.into_inner.ensures ∙ c.desk.view_is in
    let key : key_from c.close.result ≡ key_from c.args.desk = c.close.ensures.key ∙ ap (λ t. t.key) c.in_ok-lock.ensures.terms ∙ ap key_from c.in_ok-desk.ensures.ok in
    subst (λ (k : RunKey). EndsAs k.code k.main k.input k.opts c.in_ok-journal.journal.items) (ap key_from is ∙ key) c.in_ok-journal.ensures
