use Rattle.std.proofs.Common.{◌≡◌, ◌∙◌, ap, List, ◌++◌, ◌∷◌, []}
use Rattle.uc_mutex.specs.declared.called.Mark.{Mark}
use Rattle.uc_mutex.specs.declared.marks.Spot.{Spot}
use Rattle.uc_mutex.specs.Doors.{unmarked}
use Rattle.uc_mutex.specs.Chain.{no_spot}
use Rattle.uc_mutex.proofs.Views.{add_task, fits_task}
use Rattle.uc_mutex.proofs.Chains.{linked_more}
use Rattle.uc_mutex.proofs.entries.Entries.add_task.Goals as goal

pub invariant_of-self-2 : goal.invariant_of-self-2
invariant_of-self-2 c =
    let s = c.self.inside in
    let marks : c.push_reserved.new.self.items ≡ s.marks.items ++ unmarked ∷ [] = c.push_reserved.ensures.items ∙ ap (λ (l : List Mark). l ++ unmarked ∷ []) c.reserve.ensures.items in
    let spots : c.push_reserved-2.new.self.items ≡ s.spots.items ++ no_spot ∷ [] = c.push_reserved-2.ensures.items ∙ ap (λ (l : List Spot). l ++ no_spot ∷ []) c.reserve-2.ensures.items in
    rw (c.in_ok-_task.ensures.added, marks, spots) (
      fits_task s.links s.doorways.items s.marks.items s.pulled c.args.self.now c.self.invariant.0 c.self.view_is,
      linked_more s.links s.marks.items s.spots.items s.newest.items c.self.invariant.1,
    )

pub returns-clause-ok : goal.returns-clause-ok
returns-clause-ok c =
    let s = c.self.inside in
    let marks : c.push_reserved.new.self.items ≡ s.marks.items ++ unmarked ∷ [] = c.push_reserved.ensures.items ∙ ap (λ (l : List Mark). l ++ unmarked ∷ []) c.reserve.ensures.items in
    rw (c.in_ok-_task.ensures.added, marks) (add_task s.links s.doorways.items s.marks.items s.pulled c.args.self.now c.self.invariant.0 c.self.view_is)
