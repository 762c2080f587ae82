use Rattle.std.proofs.Common.{rules, ◌≡◌, true}
use Rattle.uc_frames.proofs.Completed.{nothing_handled}
use Rattle.uc_frames.proofs.stack.Stack.give_back.Goals as goal

pub returns-clause-plain : goal.returns-clause-plain
returns-clause-plain c =
    let a = c.self.inside.run in
    let made : c.copy_plain.result ≡ true = search rules in
    λ t. rw (← c.self.view_is) (nothing_handled a.head.is_exceptional a.handles a.raised a.result c.self.invariant.2 (c.copy_plain.ensures.own made))
