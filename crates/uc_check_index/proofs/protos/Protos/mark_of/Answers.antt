use Rattle.std.proofs.Common.{◌≡◌, ap, ◌∙◌}
use Rattle.uc_names.specs.Blocks.{found}
use Rattle.uc_rules.specs.ProgramVisits.{mark_among}
use Rattle.uc_check_index.specs.Keys.{role_key}
use Rattle.uc_check_index.specs.Marked.{mark_at}
use Rattle.uc_check_index.proofs.Marks.{mark_found}
use Rattle.uc_check_index.proofs.protos.Protos.mark_of.Goals as goal

pub returns : goal.returns
returns c =
    let sig = c.args.sig.now in
    let class = c.self.inside.class.now in
    let e : c.first_in-first.result ≡ found c.self.inside.roles (role_key sig) = c.first_in-first.ensures ∙ ap (λ b. found c.self.inside.roles b) (c.deref.ensures.value ∙ c.in_ok-key.ensures) in
    c.mark_at.ensures
    ∙ ap (λ ms. mark_at ms c.first_in-first.result) (c.deref-2.ensures.value ∙ ap (λ k. k.members) c.class.view_is)
    ∙ mark_found sig class.members c.first_in-first.result (e ∙ c.self.invariant.roles_are.at (role_key sig))
    ∙ ap (λ k. mark_among sig k.members) c.self.view_is
