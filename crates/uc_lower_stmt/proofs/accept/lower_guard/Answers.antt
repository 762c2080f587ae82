use Rattle.std.proofs.Common.{ap, sym, ◌∙◌, arith}
use Rattle.uc_lower_stmt.specs.Accepting.{guard_of, guard_room}
use Rattle.uc_lower_stmt.proofs.AcceptingLemmas.{guard_left_out, guard_written}
use Rattle.uc_lower_stmt.proofs.accept.lower_guard.Goals as goal

pub lower_value-requires : goal.lower_value-requires
lower_value-requires c =
    let room = ap guard_room (sym (ap guard_of c.clause.view_is) ∙ c.in-Some.is) in
    let r = c.requires in
    omega (arith, room, r)

pub put-requires : goal.put-requires
put-requires c =
    let room = ap guard_room (sym (ap guard_of c.clause.view_is) ∙ c.in-None.is) in
    let r = c.requires in
    omega (arith, room, r)

pub returns-in_ok-_told-in-Some : goal.returns-in_ok-_told-in-Some
returns-in_ok-_told-in-Some c = guard_written c.args.names.now c.args.line c.in-Some.test _ _ _ (sym (ap guard_of c.clause.view_is) ∙ c.in-Some.is) c.in_ok-_told-in-Some.ensures.code

pub returns-in_ok-put-in-None : goal.returns-in_ok-put-in-None
returns-in_ok-put-in-None c = guard_left_out c.args.names.now c.args.line _ _ _ (sym (ap guard_of c.clause.view_is) ∙ c.in-None.is) c.in_ok-put-in-None.ensures
