use Rattle.std.proofs.Common.{Option, ap, sym, subst, ◌∙◌, arith}
use Rattle.uc_tree.specs.Programs.{Class}
use Rattle.uc_resolve.specs.Resolve.{has_coroutines}
use Rattle.uc_lower_expr.specs.Meanings.{is_mutex_in}
use Rattle.uc_lower_stmt.proofs.Laying.{lays_routine}
use Rattle.uc_lower_class.specs.Fields.{FieldsBehind, forget_count, mutex_count, take_down_room}
use Rattle.uc_lower_class.proofs.Living.{left_on}
use Rattle.uc_lower_class.proofs.fields.leave_class.Goals as goal

pub leave_fields-requires-clause-behind : goal.leave_fields-requires-clause-behind
leave_fields-requires-clause-behind c =
    let p = c.args.names.now in
    subst (λ n. FieldsBehind p c.args.class n) (sym (lays_routine (c.in_ok-open_execution.ensures p) ∙ lays_routine (c.in_ok-open_ending.ensures p))) c.requires.behind

pub take_down-requires : goal.take_down-requires
take_down-requires c =
    let p = c.args.names.now in
    let kind = c.has_coroutines-coroutine.ensures ∙ ap (λ (o : Option Class). has_coroutines p o) c.requires.there in
    let few = ap take_down_room kind in
    let count = ap forget_count kind in
    let mutex = ap mutex_count (c.is_mutex.ensures ∙ ap is_mutex_in c.requires.there) in
    let zero = (c.in_ok-open_ending.ensures p).room in
    let first = (c.in_ok-open_execution.ensures p).room in
    let more = c.in_ok-leave_fields.ensures.room in
    let room = c.requires.room in
    let outside = c.requires.outside in
    omega (arith, few, count, mutex, zero, first, more, room, outside)

pub returns : goal.returns
returns c =
    let p = c.args.names.now in
    let kind = c.has_coroutines-coroutine.ensures ∙ ap (λ (o : Option Class). has_coroutines p o) c.requires.there in
    let mutex = c.is_mutex.ensures ∙ ap is_mutex_in c.requires.there in
    left_on p c.args.class c.args.at.now c.is_mutex.result c.has_coroutines-coroutine.result c.args.out.now _ _ _ _ mutex kind (c.in_ok-open_ending.ensures p) (c.in_ok-open_execution.ensures p) c.in_ok-leave_fields.ensures (c.in_ok-take_down.ensures p)
