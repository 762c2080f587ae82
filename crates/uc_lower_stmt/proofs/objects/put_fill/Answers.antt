use Rattle.std.proofs.Common.{◌+◌, ◌<◌, ◌^◌, ℕ, ap, rules}
use Rattle.uc_lower_stmt.proofs.Joined.{puts_adds}
use Rattle.uc_lower_stmt.proofs.Filling.{filled}
use Rattle.uc_lower_stmt.proofs.objects.put_fill.Goals as goal

pub returns : goal.returns
returns c =
    let start : ℕ = c.here-start.result in
    let test : ℕ = c.here-start.result + 2 + c.done_length.result in
    let entry : ℕ = c.here-start.result + 2 + c.done_length.result + 2 + c.done_length-2.result in
    let few : c.args.count < 2 ^ 32 = search rules in
    filled c.args.line c.args.count start test entry few c.args.builder c.args.destroyer c.args.out.now _ _ _ _ _ _ _ _ _
    (puts_adds c.in_ok-put.ensures) c.in_ok-_row.ensures.ok c.in_ok-_row.ensures.kept c.in_ok-put_built.ensures (puts_adds c.in_ok-put-2.ensures) (puts_adds c.in_ok-put-3.ensures) c.in_ok-put_done.ensures c.close.ensures.closed c.close.ensures.kept c.close.ensures.handler (puts_adds c.in_ok-put-4.ensures) (puts_adds c.in_ok-put_at_risk.ensures)
    c.here-start.ensures.count (ap (λ k. c.here-start.result + 2 + k) c.done_length.ensures) (ap (λ k. c.here-start.result + 2 + c.done_length.result + 2 + k) c.done_length-2.ensures)
