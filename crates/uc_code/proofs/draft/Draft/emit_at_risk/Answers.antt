use Rattle.std.proofs.Common.{◌≡◌, ◌<◌, length, reverse, ap, arith}
use Rattle.uc_tree.specs.declared.limits.TheConstants.{PROGRAM_OPS}
use Rattle.uc_code.specs.Drafts.{Draft}
use Rattle.uc_code.proofs.Settled.{risk_with}
use Rattle.uc_code.proofs.draft.Draft.emit_at_risk.Goals as goal

pub returns-clause-risk : goal.returns-clause-risk
returns-clause-risk c =
    let e : length c.self.inside.ops.items ≡ length c.args.self.now.ops = ap (λ (d : Draft). length d.ops) c.self.view_is in
    let r = c.requires in
    let l : length c.self.inside.ops.items < PROGRAM_OPS = omega arith in
    rw (← c.self.view_is, c.in_ok-push.ensures.items) (risk_with c.self.inside.ops.items c.self.inside.settled c.self.inside.rows.items (reverse c.self.inside.marks.items) c.args.op c.args.line l c.self.invariant.1)
