use Rattle.std.proofs.Common.{Option, ℕ, ap, sym, ◌∙◌}
use Rattle.uc_tree.specs.Objects.{class_at}
use Rattle.uc_resolve.specs.Resolve.{class_by, has_coroutines}
use Rattle.uc_lower_expr.proofs.program_names.ProgramNames.has_coroutines.Goals as goal

pub returns-in-Some : goal.returns-in-Some
returns-in-Some c =
    c.has_coroutines_at.ensures
    ∙ ap (λ p. has_coroutines p (class_at p c.in-Some.class)) c.self.view_is
    ∙ ap (λ (o : Option ℕ). has_coroutines c.args.self.now (class_by c.args.self.now o)) (sym c.in-Some.is)
