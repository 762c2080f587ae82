use Rattle.std.proofs.Common.{ap, ◌∙◌}
use Rattle.uc_tree.specs.Constants.{elements}
use Rattle.uc_layout.proofs.sizes.Sizes.elements_of_variable.Goals as goal

pub returns : goal.returns
returns c = c.elements_of.ensures ∙ ap (λ f. elements f c.args.declarator.now) c.known.ensures
