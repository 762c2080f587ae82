use Rattle.std.proofs.Common.{◌+◌, ◌*◌, length}
use Rattle.uc_front.proofs.walk.+follow.Given as goal

abbrev pub decreases-follow_body : goal.decreases-follow_body
decreases-follow_body l = 10 * length l.steps.now + 1

abbrev pub decreases-enter_body : goal.decreases-enter_body
decreases-enter_body l = 10 * length l.steps.now + 9

abbrev pub decreases-enter_nth : goal.decreases-enter_nth
decreases-enter_nth l = 10 * length l.steps.now + 8

abbrev pub decreases-follow_stmt : goal.decreases-follow_stmt
decreases-follow_stmt l = 10 * length l.steps.now + 1

abbrev pub decreases-enter_stmt : goal.decreases-enter_stmt
decreases-enter_stmt l = 10 * length l.steps.now + 9

abbrev pub decreases-enter_block : goal.decreases-enter_block
decreases-enter_block l = 10 * length l.steps.now + 8

abbrev pub decreases-enter_if : goal.decreases-enter_if
decreases-enter_if l = 10 * length l.steps.now + 8

abbrev pub decreases-enter_loop : goal.decreases-enter_loop
decreases-enter_loop l = 10 * length l.steps.now + 8

abbrev pub decreases-enter_for : goal.decreases-enter_for
decreases-enter_for l = 10 * length l.steps.now + 8

abbrev pub decreases-enter_try : goal.decreases-enter_try
decreases-enter_try l = 10 * length l.steps.now + 8

abbrev pub decreases-enter_masked : goal.decreases-enter_masked
decreases-enter_masked l = 10 * length l.steps.now + 8

abbrev pub decreases-enter_accept : goal.decreases-enter_accept
decreases-enter_accept l = 10 * length l.steps.now + 8

abbrev pub decreases-enter_inner : goal.decreases-enter_inner
decreases-enter_inner l = 10 * length l.steps.now + 5

abbrev pub decreases-enter_maybe : goal.decreases-enter_maybe
decreases-enter_maybe l = 10 * length l.steps.now + 6

abbrev pub decreases-enter_handlers : goal.decreases-enter_handlers
decreases-enter_handlers l = 10 * length l.steps.now + 6

abbrev pub decreases-enter_handler : goal.decreases-enter_handler
decreases-enter_handler l = 10 * length l.steps.now + 5

abbrev pub decreases-enter_clauses : goal.decreases-enter_clauses
decreases-enter_clauses l = 10 * length l.steps.now + 7

abbrev pub decreases-enter_clause : goal.decreases-enter_clause
decreases-enter_clause l = 10 * length l.steps.now + 6
