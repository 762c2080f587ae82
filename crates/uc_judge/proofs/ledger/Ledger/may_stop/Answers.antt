use Rattle.std.proofs.Common.{sym, ap, ◌∙◌}
use Rattle.uc_judge.proofs.Steps.{stop_so, stop_off, stop_room}
use Rattle.uc_judge.proofs.ledger.Ledger.may_stop.Goals as goal

pub returns-then-not-is_written-clause-no : goal.returns-then-not-is_written-clause-no
returns-then-not-is_written-clause-no c h sites l =
    stop_off c.lone_limit.ensures (c.is_written.ensures.other c.if-not-is_written.true)

pub returns-then-has_room_for_two-clause-no : goal.returns-then-has_room_for_two-clause-no
returns-then-has_room_for_two-clause-no c h sites l =
    stop_room (sym c.has_room_for_two.ensures ∙ c.if-has_room_for_two.true)

pub returns-clause-yes : goal.returns-clause-yes
returns-clause-yes c h sites l =
    stop_so c.lone_limit.ensures (c.is_written.ensures.same c.if-not-is_written.false) (sym c.has_room_for_two.ensures ∙ c.if-has_room_for_two.false) (c.serves_any.ensures.yes h sites l)

pub returns-clause-no : goal.returns-clause-no
returns-clause-no c h sites l m = c.serves_any.ensures.no h sites l m.served
