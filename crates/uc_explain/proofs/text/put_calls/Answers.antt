use Rattle.std.proofs.Common.{◌≤◌, ◌++◌, length, ap, ◌∙◌, arith}
use Rattle.uc_explain.specs.Explained.{colon, joined}
use Rattle.uc_explain.proofs.LineLemmas.{parted_whole}
use Rattle.uc_explain.proofs.text.put_calls.Goals as goal

pub returns-after-loop-call : goal.returns-after-loop-call
returns-after-loop-call c =
    let le : length c.in-Some.rest.now ≤ c.loop-call.call-index = omega arith in
    parted_whole colon c.in-Some.first.now c.in-Some.rest.now c.args.calls.now c.loop-call.call-index c.args.text.now.items _ c.loop-call.text.items c.in-Some.ensures.cases.0 le
    (c.in_ok-put_joined-in-Some.ensures ∙ ap (λ n. c.args.text.now.items ++ joined 58 n c.from-in-Some.result) c.from.ensures ∙ ap (λ n. c.args.text.now.items ++ joined 58 c.in-Some.first.now.0 n) c.from-in-Some.ensures) c.loop-call.invariant
