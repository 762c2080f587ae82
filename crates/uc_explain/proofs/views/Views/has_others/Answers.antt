use Rattle.std.proofs.Common.{◌≡◌, ap, ◌∙◌}
use Rattle.std.specs.Prelude.{unwrap_or}
use Rattle.uc_explain.specs.Shown.{shown}
use Rattle.uc_explain.specs.Steps.{nothing}
use Rattle.uc_explain.proofs.OthersLemmas.{others_shown}
use Rattle.uc_explain.proofs.views.Views.has_others.Goals as goal

pub returns-in-Some : goal.returns-in-Some
returns-in-Some c j h =
    let o = c.args.object in
    let is : c.in-Some.door.now ≡ shown o j = ap (λ x. unwrap_or x nothing) c.in-Some.ensures.value ∙ h o in
    c.has_others.ensures ∙ others_shown o c.args.task j c.in-Some.door.now is

pub returns-in-None : goal.returns-in-None
returns-in-None c j h =
    let o = c.args.object in
    let is : nothing ≡ shown o j = ap (λ x. unwrap_or x nothing) c.in-None.ensures.value ∙ h o in
    others_shown o c.args.task j nothing is
