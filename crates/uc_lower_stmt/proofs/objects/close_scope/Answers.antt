use Rattle.std.proofs.Common.{◌≡◌, ◌+◌, length, ap, arith, ◌∙◌}
use Rattle.uc_code.specs.Emits.{clean_length}
use Rattle.uc_code.proofs.Putting.{clean_is, marks_of}
use Rattle.uc_code.proofs.Sweeping.{closed_ops}
use Rattle.uc_lower_stmt.proofs.Joined.{puts_adds}
use Rattle.uc_lower_stmt.proofs.Ending.{behind_scope, close_needs, marks_past_scope, scope_closed}
use Rattle.uc_lower_stmt.proofs.objects.close_scope.Goals as goal

pub put_cleaned-requires-clause-behind : goal.put_cleaned-requires-clause-behind
put_cleaned-requires-clause-behind c = behind_scope c.args.what c.args.line c.args.out.now.marks _ c.requires.scope (marks_past_scope c.args.what c.args.line _ c.args.out.now _ c.requires.scope c.close.ensures.closed)

pub put_pad-requires-clause-behind : goal.put_pad-requires-clause-behind
put_pad-requires-clause-behind c =
    let past = marks_past_scope c.args.what c.args.line _ c.args.out.now _ c.requires.scope c.close.ensures.closed in
    behind_scope c.args.what c.args.line c.args.out.now.marks _ c.requires.scope (marks_of (puts_adds c.in_ok-put.ensures) ∙ (marks_of c.in_ok-put_cleaned.ensures ∙ past))

pub put_cleaned-requires-clause-room : goal.put_cleaned-requires-clause-room
put_cleaned-requires-clause-room c =
    let ops = ap length (closed_ops _ c.args.out.now c.close.new.self c.close.ensures.closed) in
    let needs = close_needs c.args.what c.requires.other in
    omega (arith, ops, needs, c.requires.room)

pub put_pad-requires-clause-room : goal.put_pad-requires-clause-room
put_pad-requires-clause-room c =
    let ops = ap length (closed_ops _ c.args.out.now c.close.new.self c.close.ensures.closed) in
    let long = clean_is _ c.args.line c.args.what _ _ _ c.in_ok-put_cleaned.ensures.code in
    let needs = close_needs c.args.what c.requires.other in
    omega (arith, ops, long, needs, c.in_ok-put.ensures.room, c.requires.room)

pub returns : goal.returns
returns c =
    let long : c.clean_length-long.result ≡ clean_length c.args.what = c.clean_length-long.ensures in
    scope_closed c.args.line _ _ c.args.what c.args.out.now _ _ _ _ c.requires.scope c.requires.other c.close.ensures.closed c.close.ensures.kept c.close.ensures.handler c.in_ok-put_cleaned.ensures (puts_adds c.in_ok-put.ensures) c.in_ok-put_pad.ensures
    (ap (λ k. k + 1) long) (omega (arith, c.here.ensures.count, long))
