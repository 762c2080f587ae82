use Rattle.std.proofs.Common.{◌≡◌, ◌+◌, refl, ap, ◌∙◌}
use Rattle.uc_tree.specs.Expressions.{exprs_of}
use Rattle.uc_rules.specs.Entities as entities
use Rattle.uc_rules.specs.ProgramVisits.{init_arg_visits, init_args_visits}
use Rattle.uc_types.specs.FirstBreak.{with_visits}
use Rattle.uc_classes.proofs.Walked.{walked_by}
use Rattle.uc_classes.proofs.init.check_init_args.Goals as goal

pub loop-place-preserved : goal.loop-place-preserved
loop-place-preserved c =
    let env = c.args.names.now in
    let field = c.args.field in
    let target = c.args.target in
    let e = c.index-args-place.result in
    let i = c.loop-place.place in
    let f = c.loop-place.found in
    let same : c.loop-place.names ≡ env = c.loop-place.invariant.names in
    let asked : c.expected_of-expected.result ≡ entities.expected env.program target i = c.expected_of-expected.ensures ∙ ap (λ p. entities.expected p target i) (c.tables.ensures ∙ ap (λ n. n.program) same) in
    record {
      names = c.check_init_arg-entity.ensures.names ∙ same;
      breaks = walked_by (λ k x. init_arg_visits env field x (entities.expected env.program target k)) (λ k x. k + 1) (λ k xs. init_args_visits env field (exprs_of xs) target k) (λ k x xs. refl) i (i + 1) c.args.args.now i e f _ _ c.loop-place-test.true c.index-args-place.is refl (c.check_init_arg-entity.ensures.breaks ∙ ap (λ n. with_visits f (init_arg_visits n field e c.expected_of-expected.result)) same ∙ ap (λ x. with_visits f (init_arg_visits env field e x)) asked) c.loop-place.invariant.breaks;
    }
