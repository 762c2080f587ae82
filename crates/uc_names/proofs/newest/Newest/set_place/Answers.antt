use Rattle.std.proofs.Common.{ap, sym, subst, set, ◌∙◌}
use Rattle.uc_names.specs.Seen.{Distinct}
use Rattle.uc_names.proofs.SeenLemmas.{names_kept, places_set}
use Rattle.uc_names.proofs.newest.Newest.set_place.Goals as goal

pub invariant_of-self : goal.invariant_of-self
invariant_of-self c = subst Distinct (sym (names_kept c.self.inside.places.entries c.args.number c.args.place)) c.self.invariant

pub returns-clause-names : goal.returns-clause-names
returns-clause-names c = names_kept c.self.inside.places.entries c.args.number c.args.place ∙ ap (λ s. s.names) c.self.view_is

pub returns-clause-places : goal.returns-clause-places
returns-clause-places c = places_set c.self.inside.places.entries c.args.number c.args.place ∙ ap (λ s. set s.places c.args.number c.args.place) c.self.view_is
