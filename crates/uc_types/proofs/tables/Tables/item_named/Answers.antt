use Rattle.std.proofs.Common.{ap, ◌∙◌}
use Rattle.uc_rules.specs.Names.{items_named}
use Rattle.uc_types.proofs.Placed.{outer_is}
use Rattle.uc_types.proofs.tables.Tables.item_named.Goals as goal

pub returns : goal.returns
returns c =
    c.find-meant.ensures
    ∙ outer_is c.self.inside.bases c.self.inside.outer c.args.name.now c.self.invariant.0.outer_is
    ∙ ap (λ p. items_named p 0 p.items c.args.name.now) c.self.view_is
