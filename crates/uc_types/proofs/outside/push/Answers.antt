use Rattle.std.proofs.Common.{sym, subst, ap, ◌∙◌}
use Rattle.uc_layout.specs.Places.{IsPlaces}
use Rattle.uc_types.specs.OuterConstructors.{group_named}
use Rattle.uc_types.proofs.Grouped.{owners, owners_kept, grown_is, begun_is}
use Rattle.uc_types.proofs.outside.push.Goals as goal

pub returns-in_ok-grow-in-Some-clause-placed : goal.returns-in_ok-grow-in-Some-clause-placed
returns-in_ok-grow-in-Some-clause-placed c = record {
  places_are = subst (λ ns. IsPlaces ns c.args.places.now) (sym (ap owners c.in_ok-grow-in-Some.ensures ∙ owners_kept c.args.groups.now.items c.in-Some.place c.args.routine.now)) c.requires.places_are;
}

pub returns-in_ok-grow-in-Some-clause-grown : goal.returns-in_ok-grow-in-Some-clause-grown
returns-in_ok-grow-in-Some-clause-grown c name =
    ap (λ gs. group_named gs name) c.in_ok-grow-in-Some.ensures
    ∙ grown_is c.args.groups.now.items c.args.owner.now c.in-Some.place c.args.routine.now (c.in-Some.ensures _ c.requires.places_are) name

pub returns-in_ok-begin-in-None-clause-grown : goal.returns-in_ok-begin-in-None-clause-grown
returns-in_ok-begin-in-None-clause-grown c name =
    ap (λ gs. group_named gs name) c.in_ok-begin-in-None.ensures
    ∙ begun_is c.args.groups.now.items 0 c.args.owner.now c.args.routine.now name (c.in-None.ensures _ c.requires.places_are)
