use Rattle.std.proofs.Common.{ap, sym, subst, ◌∙◌, arith}
use Rattle.uc_tree.specs.Objects.{fields_of}
use Rattle.uc_lower_expr.specs.Members.{count_fields}
use Rattle.uc_lower_class.specs.Fields.{FieldsBehind}
use Rattle.uc_lower_class.proofs.Looping.{leaving_begin, leaving_end, leaving_step}
use Rattle.uc_lower_class.proofs.Stepping.{there_is}
use Rattle.uc_lower_class.proofs.fields.leave_fields.Goals as goal

pub loop-place-init : goal.loop-place-init
loop-place-init c = leaving_begin c.args.names.now c.args.at.now c.args.class c.args.out.now

pub leave_field-requires : goal.leave_field-requires
leave_field-requires c = subst (λ n. FieldsBehind c.args.names.now c.args.class n) (sym c.loop-place.invariant.inside) c.requires.behind

pub loop-place-preserved : goal.loop-place-preserved
loop-place-preserved c =
    let count = c.field_count-place-end.ensures ∙ ap count_fields c.requires.there in
    let within = c.loop-place-test.true in
    let t = there_is (fields_of c.args.at.now.members) c.loop-place.place (omega (arith, within, count)) in
    leaving_step c.args.names.now c.args.at.now c.args.class c.args.out.now c.loop-place.place c.loop-place.out t.field c.leave_field.new.out c.loop-place.invariant t.is (c.in_ok-leave_field.ensures c.args.at.now t.field c.requires.there t.is)

pub returns : goal.returns
returns c =
    leaving_end c.args.names.now c.args.at.now c.args.class c.args.out.now c.loop-place.place c.loop-place.out c.loop-place.invariant (let count = c.field_count-place-end.ensures ∙ ap count_fields c.requires.there in let past = c.loop-place-test.false in omega (arith, count, past))
