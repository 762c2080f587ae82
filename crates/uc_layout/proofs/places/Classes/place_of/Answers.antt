use Rattle.uc_layout.proofs.PlacesLemmas.{within_list}
use Rattle.uc_layout.proofs.places.Classes.place_of.Goals as goal

pub returns-clause-within : goal.returns-clause-within
returns-clause-within c = within_list (λ k. k.now.name) c.args.self.now.list.now c.args.name.now c.place_in-place.result (c.place_in-place.ensures _ c.args.self.now.placed)
