use Rattle.std.proofs.Common.{rules, ◌≡◌, ◌<◌, length, map, ap, sym, subst, ◌∙◌, arith}
use Rattle.std.specs.Prelude.{slice_get, Some}
use Rattle.uc_tree.specs.Programs.{Class}
use Rattle.uc_tree.specs.Objects.{fields_of}
use Rattle.uc_lower_stmt.specs.LowersStatement.{scope_of}
use Rattle.uc_lower_class.specs.Fields.{FieldsBehind}
use Rattle.uc_lower_class.proofs.Looping.{building_begin, building_end, name_at, names_long}
use Rattle.uc_lower_class.proofs.Stepping.{build_turn, same_class, there_is, turn_room}
use Rattle.uc_lower_class.proofs.fields.build_fields.Goals as goal

pub loop-place-init : goal.loop-place-init
loop-place-init c = building_begin c.args.names.now c.args.at.now c.args.class c.args.inits.now (scope_of c.args.out.now) c.args.parts.now.items c.args.out.now

pub build_field-requires-clause-room : goal.build_field-requires-clause-room
build_field-requires-clause-room c cl f there is =
    let same = same_class c.args.names.now c.args.class cl c.args.at.now there c.requires.there in
    let here : slice_get (fields_of c.args.at.now.members) c.loop-place.place ≡ Some f = subst (λ (d : Class). slice_get (fields_of d.members) c.loop-place.place ≡ Some f) same is in
    let within : c.loop-place.place < length c.deref-name-items.result.now = search rules in
    let name = name_at (λ n. n.now) c.deref-name-items.result.now (fields_of c.args.at.now.members) c.loop-place.place c.name-item.result f (ap (map (λ n. n.now)) c.deref-name-items.ensures.value ∙ c.in_ok-fields.ensures) within c.name-item.is here in
    let left = turn_room c.args.names.now c.args.at.now c.args.class c.loop-place.place f here c.args.inits.now _ _ c.args_for-args.ensures name in
    let room = c.requires.room in
    let now = c.loop-place.invariant.room in
    omega (arith, left, room, now)

pub build_field-requires-clause-behind : goal.build_field-requires-clause-behind
build_field-requires-clause-behind c = subst (λ n. FieldsBehind c.args.names.now c.args.class n) (sym c.loop-place.invariant.inside) c.requires.behind

pub loop-place-preserved : goal.loop-place-preserved
loop-place-preserved c =
    let within : c.loop-place.place < length c.deref-name-items.result.now = search rules in
    let names = ap (map (λ n. n.now)) c.deref-name-items.ensures.value ∙ c.in_ok-fields.ensures in
    let long = names_long (λ n. n.now) c.deref-name-items.result.now (fields_of c.args.at.now.members) names in
    let t = there_is (fields_of c.args.at.now.members) c.loop-place.place (omega (arith, within, long)) in
    let name = name_at (λ n. n.now) c.deref-name-items.result.now (fields_of c.args.at.now.members) c.loop-place.place c.name-item.result t.field names within c.name-item.is t.is in
    build_turn c.args.names.now c.args.at.now c.args.class c.loop-place.place t.field t.is c.args.inits.now _ _ c.args.parts.now.items c.loop-place.parts.items c.build_field.new.parts.items c.args.out.now c.loop-place.out c.build_field.new.out c.args_for-args.ensures name c.loop-place.invariant
    (c.in_ok-build_field.ensures c.args.at.now t.field c.requires.there t.is)

pub returns : goal.returns
returns c =
    building_end c.args.names.now c.args.at.now c.args.class c.args.inits.now (scope_of c.args.out.now) c.args.parts.now.items c.args.out.now c.loop-place.place c.loop-place.parts.items c.loop-place.out c.loop-place.invariant
    (let long = names_long (λ n. n.now) c.deref-name-items.result.now (fields_of c.args.at.now.members) (ap (map (λ n. n.now)) c.deref-name-items.ensures.value ∙ c.in_ok-fields.ensures) in let past = c.loop-place-test.false in omega (arith, long, past))
