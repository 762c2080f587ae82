use Rattle.std.proofs.Common.{◌≡◌, [], ◌∷◌, ◌++◌, refl, ap, ◌∙◌}
use Rattle.uc_rules.specs.ProgramVisits.{field_of, init_args_visits, init_target, inits_visits, last_field}
use Rattle.uc_rules.specs.Visits.{AtInit}
use Rattle.uc_types.specs.FirstBreak.{with_visits}
use Rattle.uc_classes.proofs.Walked.{walked_by}
use Rattle.uc_classes.proofs.init.check_inits.Goals as goal

pub loop-init-preserved : goal.loop-init-preserved
loop-init-preserved c =
    let env = c.args.names.now in
    let x = c.init-item.result in
    let last = c.loop-init.last in
    let f = c.loop-init.found in
    let same : c.loop-init.names ≡ env = c.loop-init.invariant.names in
    record {
      names = c.check_init-field.ensures.names ∙ same;
      breaks = walked_by (λ l y. init_args_visits env (field_of env y.name) y.args (init_target env y.name) 0 ++ AtInit env y l ∷ []) (λ l y. last_field l (field_of env y.name)) (λ l ys. inits_visits env l ys) (λ l y ys. refl) last _ c.args.inits.now c.loop-init.init-index x f _ _ c.loop-init-test.true c.init-item.is (c.last_field-last.ensures ∙ ap (λ t. last_field last t) (c.check_init-field.ensures.field ∙ ap (λ n. field_of n x.name) same)) (c.check_init-field.ensures.breaks ∙ ap (λ n. with_visits f (init_args_visits n (field_of n x.name) x.args (init_target n x.name) 0 ++ AtInit n x last ∷ [])) same) c.loop-init.invariant.breaks;
    }
