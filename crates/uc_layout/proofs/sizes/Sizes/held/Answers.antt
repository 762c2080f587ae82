use Rattle.std.proofs.Common.{map, ap, ◌∙◌}
use Rattle.uc_tree.specs.Constants.{constants_of, value_of_name}
use Rattle.uc_tree.specs.Cells.{held_by}
use Rattle.uc_layout.proofs.sizes.Sizes.held.Goals as goal

pub returns : goal.returns
returns c =
    c.held_by.ensures ∙ ap (λ f. held_by (map (λ k. k.now) c.classes.result.list.now) f c.args.base.now c.args.declarator.now) c.known.ensures ∙ ap (λ cs. held_by cs (value_of_name (constants_of c.args.self.now.items)) c.args.base.now c.args.declarator.now) c.classes.ensures
