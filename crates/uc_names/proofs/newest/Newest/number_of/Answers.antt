use Rattle.std.proofs.Common.{ap, ◌∙◌}
use Rattle.uc_names.specs.Seen.{number_in}
use Rattle.uc_names.proofs.SeenLemmas.{number_is}
use Rattle.uc_names.proofs.newest.Newest.number_of.Goals as goal

pub returns-clause-number : goal.returns-clause-number
returns-clause-number c = c.get_index_of.ensures.index ∙ number_is c.args.name.now c.self.inside.places.entries ∙ ap (λ s. number_in s.names c.args.name.now) c.self.view_is
