use Rattle.std.proofs.Common.{[], ap, ◌∙◌, map, option_map, slice_get, unwrap_or}
use Rattle.uc_rules.specs.Sorts.{class_at}
use Rattle.uc_types.proofs.Looked.{names_are, names_few}
use Rattle.uc_types.proofs.tables.Tables.mutex_members.Goals as goal

pub returns-clause-names : goal.returns-clause-names
returns-clause-names c class at =
    c.names_at.ensures
    ∙ ap (λ l. unwrap_or (option_map (λ ns. map (λ n. n.now) ns.items) (slice_get l c.args.class)) []) c.deref.ensures.value
    ∙ names_are (λ ns. map (λ n. n.now) ns.items) c.self.inside.bases c.self.inside.numbered.items c.args.class class c.self.invariant.1.numbered_are (ap (λ p. class_at p c.args.class) c.self.view_is ∙ at)

pub returns-clause-few : goal.returns-clause-few
returns-clause-few c =
    names_few (λ ns. map (λ n. n.now) ns.items) (λ n. n.now) c.self.inside.bases c.self.inside.numbered.items c.args.class c.names_at.result.now c.self.invariant.1.numbered_are (c.names_at.ensures ∙ ap (λ l. unwrap_or (option_map (λ ns. map (λ n. n.now) ns.items) (slice_get l c.args.class)) []) c.deref.ensures.value)
