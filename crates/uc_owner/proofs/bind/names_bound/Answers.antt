use Rattle.std.proofs.Common.{◌||◌, List, Bool, ap, ◌∙◌, map}
use Rattle.std.specs.List.{list_any}
use Rattle.uc_tree.specs.Programs.{Member, Routine}
use Rattle.uc_rules.specs.OwnerBreaks.{form_binds, is_bound_inside, routine_binds}
use Rattle.uc_owner.proofs.Outside.{outside_bind}
use Rattle.uc_owner.proofs.bind.names_bound.Goals as goal

pub returns : goal.returns
returns c x =
    let p = c.args.tables.now in
    let k = c.args.place in
    let inside : List Member → Bool = λ ms. list_any (λ m. form_binds p k x m.form) ms in
    let outside : List Routine → Bool = λ rs. list_any (routine_binds p k x) rs in
    let members = c.class.inside.members.items in
    c.in_ok-note_routines.ensures.noted x
    ∙ ap (λ b. b || outside (map (λ r. r.now) c.constructors_of.result.now)) (c.in_ok-note_members.ensures.noted x ∙ ap (λ b. b || inside c.deref.result.now) (c.in_ok-names.ensures.none x) ∙ ap inside c.deref.ensures.value)
    ∙ ap (λ rs. inside members || outside rs) c.constructors_of.ensures
    ∙ ap (λ b. inside members || b) (outside_bind p k c.class.inside.name x p.items)
    ∙ ap (λ cl. is_bound_inside p cl k x) c.class.view_is
