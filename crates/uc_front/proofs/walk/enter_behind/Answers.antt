use Rattle.std.proofs.Common.{arith}
use Rattle.uc_front.proofs.PlaceLemmas.{behind_ends, behind_none}
use Rattle.uc_front.proofs.walk.enter_behind.Goals as goal

pub returns-then-declarators-number : goal.returns-then-declarators-number
returns-then-declarators-number c = behind_none c.args.names.now c.args.names.now c.args.base.now c.args.declarators.now c.args.number c.args.steps.now (omega (arith, c.if-declarators-number.true))

pub returns : goal.returns
returns c = behind_ends c.args.names.now _ c.args.base.now c.args.declarators.now c.args.number c.args.steps.now c.is_end.result (omega (arith, c.if-declarators-number.false)) c.in_ok-declare_all.ensures c.is_end.ensures
