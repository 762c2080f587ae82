use Rattle.std.proofs.Common.{◌≡◌, ◌∷◌, None, ap, sym, subst, ◌∙◌}
use Rattle.std.specs.Prelude.{if◌then◌else◌}
use Rattle.uc_machine.specs.Raising.{seek}
use Rattle.uc_code.specs.Layout.{laid_of}
use Rattle.uc_except.specs.RowSearch.{resumed, caught}
use Rattle.uc_except.specs.FoundAgrees.{FoundAs, CaughtAs, catcher}
use Rattle.uc_except.proofs.Catches.{catches_as}
use Rattle.uc_except.proofs.Seeks.{seeks}
use Rattle.uc_except.proofs.seeking.propagate.Goals as goal

pub returns-clause-resumed : goal.returns-clause-resumed
returns-clause-resumed c =
    λ yes e cs n h.
    let acts = c.args.work.now.run ∷ c.args.work.now.callers in
    let rows = c.args.code.now.rows in
    let f : c.search-found.result ≡ resumed rows None e.number acts =
    c.search-found.ensures ∙ (ap (λ b. if b then resumed rows None c.args.event acts else caught rows c.args.event acts) yes ∙ ap (λ k. resumed rows None k acts) (sym n)) in
    subst (λ x. FoundAs (laid_of c.args.code.now) acts x (seek None e cs)) (sym f) (seeks (laid_of c.args.code.now) None e acts cs h)

pub returns-clause-thrown : goal.returns-clause-thrown
returns-clause-thrown c =
    λ no e cs n h.
    let acts = c.args.work.now.run ∷ c.args.work.now.callers in
    let rows = c.args.code.now.rows in
    let f : c.search-found.result ≡ caught rows e.number acts =
    c.search-found.ensures ∙ (ap (λ b. if b then resumed rows None c.args.event acts else caught rows c.args.event acts) no ∙ ap (λ k. caught rows k acts) (sym n)) in
    subst (λ x. CaughtAs (laid_of c.args.code.now) x (catcher e cs)) (sym f) (catches_as (laid_of c.args.code.now) e acts cs h)
