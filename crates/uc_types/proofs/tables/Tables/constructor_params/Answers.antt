use Rattle.std.proofs.Common.{[], ap, ◌∙◌, option_map, slice_get, unwrap_or}
use Rattle.uc_rules.specs.Names.{constructor_params}
use Rattle.uc_types.proofs.Looked.{params_are}
use Rattle.uc_types.proofs.tables.Tables.constructor_params.Goals as goal

pub returns : goal.returns
returns c =
    c.params_at.ensures
    ∙ ap (λ l. unwrap_or (option_map (λ x. x.now) (slice_get l c.args.class)) []) c.deref.ensures.value
    ∙ params_are (λ x. x.now) c.self.inside.bases c.self.inside.params.items c.args.class c.self.invariant.1.params_are
    ∙ ap (λ p. constructor_params p c.args.class) c.self.view_is
