use Rattle.std.proofs.Common.{◌≡◌, List, length, reverse, take, arith}
use Rattle.std.proofs.lemmas.List.{length-reverse, length-take-le}
use Rattle.uc_frames.specs.declared.active.Activation.{Activation as Row}
use Rattle.uc_frames.proofs.Completed.{completed_count}
use Rattle.uc_frames.proofs.stack.Stack.level.Goals as goal

pub returns : goal.returns
returns c =
    let s = c.self.inside in
    let cs : List Row = take (length s.block.waiting) s.callers.items in
    let q : length cs ≡ length s.block.waiting = length-take-le (length s.block.waiting) s.callers.items c.self.invariant.1 in
    rw (← c.self.view_is) (omega (arith, q, completed_count (reverse cs) s.block.waiting, length-reverse cs))
