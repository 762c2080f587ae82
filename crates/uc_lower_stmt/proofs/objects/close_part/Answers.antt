use Rattle.std.proofs.Common.{arith, ◌∙◌}
use Rattle.uc_code.proofs.Putting.{marks_of}
use Rattle.uc_lower_stmt.proofs.Joined.{puts_adds}
use Rattle.uc_lower_stmt.proofs.Ending.{behind_part, marks_past_part, part_closed}
use Rattle.uc_lower_stmt.proofs.objects.close_part.Goals as goal

pub put_clean-requires-clause-behind : goal.put_clean-requires-clause-behind
put_clean-requires-clause-behind c =
    let past = marks_past_part 1 c.args.out.now _ c.requires.part c.close.ensures.closed in
    behind_part c.args.what c.args.out.now.marks _ c.requires.part c.requires.behind (marks_of (puts_adds c.in_ok-put.ensures) ∙ past)

pub returns : goal.returns
returns c =
    part_closed c.args.line _ c.args.what c.args.out.now _ _ _ _ c.requires.part c.close.ensures.closed c.close.ensures.kept c.close.ensures.handler (puts_adds c.in_ok-put.ensures) c.in_ok-put_clean.ensures (puts_adds c.in_ok-put_at_risk.ensures)
    (omega (arith, c.here.ensures.count, c.clean_length.ensures))
