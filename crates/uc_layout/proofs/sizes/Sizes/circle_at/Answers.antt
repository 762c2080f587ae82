use Rattle.std.proofs.Common.{◌≡◌, ap, subst, sym, ◌∙◌}
use Rattle.uc_tree.specs.Cells.{rows_of}
use Rattle.uc_layout.specs.ContainmentProgress.{IsCircle, flag_at}
use Rattle.uc_layout.proofs.sizes.Sizes.circle_at.Goals as goal

pub returns : goal.returns
returns c =
    let read : c.flag_at-found.result ≡ flag_at c.self.inside.circles.items c.args.place = c.flag_at-found.ensures ∙ ap (λ fs. flag_at fs c.args.place) c.deref.ensures.value in
    let here : IsCircle (rows_of c.self.inside.program.now) c.args.place c.flag_at-found.result = subst (λ b. IsCircle (rows_of c.self.inside.program.now) c.args.place b) (sym read) (c.self.invariant.0.circles_are c.args.place) in
    subst (λ p. IsCircle (rows_of p) c.args.place c.flag_at-found.result) c.self.view_is here
