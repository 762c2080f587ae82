use Rattle.std.proofs.Common.{Option, ap, sym, subst, ◌∙◌, arith}
use Rattle.std.proofs.lemmas.Option.{slice_get_within}
use Rattle.uc_tree.specs.Cells.{classes_of}
use Rattle.uc_tree.specs.Programs.{Class}
use Rattle.uc_resolve.specs.Resolve.{has_coroutines}
use Rattle.uc_lower_class.specs.Fields.{FieldsBehind, set_up_room}
use Rattle.uc_lower_class.proofs.Living.{class_on}
use Rattle.uc_lower_class.proofs.fields.build_class.Goals as goal

pub set_up-requires-clause-class : goal.set_up-requires-clause-class
set_up-requires-clause-class c = slice_get_within (classes_of c.args.names.now.items) c.args.class c.args.at.now c.requires.there

pub set_up-requires-clause-room : goal.set_up-requires-clause-room
set_up-requires-clause-room c =
    let kind = c.has_coroutines-coroutine.ensures ∙ ap (λ (o : Option Class). has_coroutines c.args.names.now o) c.requires.there in
    let few = ap set_up_room kind in
    let room = c.requires.room in
    omega (arith, few, room)

pub build_fields-requires-clause-room : goal.build_fields-requires-clause-room
build_fields-requires-clause-room c =
    let kind = c.has_coroutines-coroutine.ensures ∙ ap (λ (o : Option Class). has_coroutines c.args.names.now o) c.requires.there in
    let few = ap set_up_room kind in
    let now = c.in_ok-set_up.ensures.room in
    let room = c.requires.room in
    omega (arith, few, now, room)

pub build_fields-requires-clause-behind : goal.build_fields-requires-clause-behind
build_fields-requires-clause-behind c = subst (λ n. FieldsBehind c.args.names.now c.args.class n) (sym c.in_ok-set_up.ensures.inside) c.requires.behind

pub returns : goal.returns
returns c =
    let kind = c.has_coroutines-coroutine.ensures ∙ ap (λ (o : Option Class). has_coroutines c.args.names.now o) c.requires.there in
    class_on c.args.names.now c.args.class c.args.at.now c.has_coroutines-coroutine.result c.args.inits.now _ _ _ _ c.args.out.now _ _ _ kind c.in_ok-set_up.ensures c.in_ok-build_fields.ensures (c.in_ok-open_started.ensures c.args.names.now)
