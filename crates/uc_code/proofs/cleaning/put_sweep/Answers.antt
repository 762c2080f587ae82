use Rattle.std.proofs.Common.{◌+◌, ◌<◌, ◌^◌, ℕ, ap, rules}
use Rattle.uc_code.proofs.Sweeping.{swept}
use Rattle.uc_code.proofs.cleaning.put_sweep.Goals as goal

pub returns : goal.returns
returns c =
    let start : ℕ = c.here-start.result in
    let test : ℕ = c.here-start.result + 1 + c.done_length.result in
    let entry : ℕ = c.here-start.result + 1 + c.done_length.result + 2 + c.done_length-2.result in
    let few : c.args.array.length < 2 ^ 32 = search rules in
    swept c.args.line c.args.array.length start test entry few c.args.what c.args.out.now c.put.new.out c.open.new.self c.put_done.new.out c.put-2.new.out c.put-3.new.out c.put_done-2.new.out c.close.new.self c.put-4.new.out c.put_at_risk.new.out
    c.in_ok-put.ensures c.in_ok-_row.ensures.ok c.in_ok-_row.ensures.kept c.in_ok-put_done.ensures c.in_ok-put-2.ensures c.in_ok-put-3.ensures c.in_ok-put_done-2.ensures c.close.ensures.closed c.close.ensures.kept c.close.ensures.handler c.in_ok-put-4.ensures c.in_ok-put_at_risk.ensures
    c.here-start.ensures.count (ap (λ k. c.here-start.result + 1 + k) c.done_length.ensures) (ap (λ k. c.here-start.result + 1 + c.done_length.result + 2 + k) c.done_length-2.ensures)
