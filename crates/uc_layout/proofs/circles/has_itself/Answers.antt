use Rattle.std.proofs.Common.{◌≡◌, false, length, subst, sym, ◌∙◌, arith}
use Rattle.uc_layout.specs.ContainmentProgress.{IsCircle, flag_at}
use Rattle.uc_layout.proofs.Whole.{at_any}
use Rattle.uc_layout.proofs.ContainmentProgressLemmas.{itself}
use Rattle.uc_layout.proofs.circles.has_itself.Goals as goal

pub returns : goal.returns
returns c =
    let full : length c.in_ok-flags.flags.items ≡ length c.args.rows.now = c.in_ok-flags.ensures.full in
    let read : c.index-found.result.now ≡ flag_at c.in_ok-flags.flags.items c.args.class = c.index-found.ensures ∙ at_any c.in_ok-flags.flags.items c.args.class c.index-found.result.now false (omega arith) in
    subst (λ b. IsCircle c.args.rows.now c.args.class b) (sym read) (itself c.args.rows.now c.args.class c.in_ok-flags.flags.items full c.in_ok-flags.ensures.led c.in_ok-flags.ensures.told)
