use Rattle.std.proofs.Common.{rules}
use Rattle.uc_code.proofs.Patches.{patched_then, patched_else}
use Rattle.uc_code.proofs.draft.patch_op.Goals as goal

pub returns-then-at-len : goal.returns-then-at-len
returns-then-at-len c = patched_then c.args.ops.now.items c.args.at c.len.result c.args.op _ (search rules) c.if-at-len.true c.index.ensures

pub returns-else-at-len : goal.returns-else-at-len
returns-else-at-len c = patched_else c.args.ops.now.items c.args.at c.len.result c.args.op (search rules) c.if-at-len.false
