use Rattle.std.proofs.Common.{sym, ◌∙◌}
use Rattle.uc_judge.proofs.Steps.{give_so, give_off, give_full, give_unserved}
use Rattle.uc_judge.proofs.ledger.Ledger.may_give.Goals as goal

pub returns-then-not-is_written-clause-no : goal.returns-then-not-is_written-clause-no
returns-then-not-is_written-clause-no c h sites l =
    give_off c.dispatch.ensures.is (c.is_written.ensures.other c.if-not-is_written.true)

pub returns-then-not-has_room_for_two-clause-no : goal.returns-then-not-has_room_for_two-clause-no
returns-then-not-has_room_for_two-clause-no c h sites l =
    give_full (sym c.has_room_for_two.ensures ∙ c.if-not-has_room_for_two.true)

pub returns-clause-yes : goal.returns-clause-yes
returns-clause-yes c h sites l =
    give_so c.dispatch.ensures.is (c.is_written.ensures.same c.if-not-is_written.false) (sym c.has_room_for_two.ensures ∙ c.if-not-has_room_for_two.false) (c.serves.ensures.yes h sites l)

pub returns-clause-no : goal.returns-clause-no
returns-clause-no c h sites l = give_unserved (c.serves.ensures.no h sites l)
