use Rattle.std.proofs.Common.{◌≡◌, ◌<◌, ◌∙◌, ◌∷◌, List, arith, refl, sym, length, reverse, take, Some, get_or}
use Rattle.std.proofs.lemmas.List.{get_or-take, length-take-le}
use Rattle.std.proofs.lemmas.Option.{slice_get_read}
use Rattle.uc_machine.specs.Executions.{at_depth}
use Rattle.uc_frames.specs.declared.active.Activation.{Activation as Row}
use Rattle.uc_frames.proofs.Completed.{none_there, one_there}
use Rattle.uc_frames.proofs.Depths.{waiting_at, running_at, none_at}
use Rattle.uc_frames.proofs.stack.Stack.activation.Goals as goal

pub returns-then-level-waiting : goal.returns-then-level-waiting
returns-then-level-waiting c =
    let s = c.self.inside in
    let cs : List Row = take (length s.block.waiting) s.callers.items in
    let q : length cs ≡ length s.block.waiting = length-take-le (length s.block.waiting) s.callers.items c.self.invariant.1 in
    let b : c.args.level < length s.block.waiting = omega (arith, c.if-level-waiting.true) in
    let l : c.args.level < length cs = omega (arith, b, q) in
    let r = c.index.result.now in
    let e : r ≡ get_or cs c.args.level r = c.index.ensures ∙ sym (get_or-take (length s.block.waiting) s.callers.items c.args.level r b) in
    let h : at_depth (s.run ∷ reverse cs) c.args.level ≡ Some r = waiting_at s.run cs c.args.level l ∙ slice_get_read cs (length cs) c.args.level r refl l e in
    rw (← c.self.view_is) (one_there (s.run ∷ reverse cs) (s.block.operands ∷ s.block.waiting) c.args.level r h)

pub returns-then-level-waiting-2 : goal.returns-then-level-waiting-2
returns-then-level-waiting-2 c =
    let s = c.self.inside in
    let cs : List Row = take (length s.block.waiting) s.callers.items in
    let q : length cs ≡ length s.block.waiting = length-take-le (length s.block.waiting) s.callers.items c.self.invariant.1 in
    let h : at_depth (s.run ∷ reverse cs) c.args.level ≡ Some s.run = running_at s.run cs c.args.level (omega (arith, c.if-level-waiting-2.true, q)) in
    rw (← c.self.view_is) (one_there (s.run ∷ reverse cs) (s.block.operands ∷ s.block.waiting) c.args.level s.run h)

pub returns : goal.returns
returns c =
    let s = c.self.inside in
    let cs : List Row = take (length s.block.waiting) s.callers.items in
    let q : length cs ≡ length s.block.waiting = length-take-le (length s.block.waiting) s.callers.items c.self.invariant.1 in
    rw (← c.self.view_is) (none_there (s.run ∷ reverse cs) (s.block.operands ∷ s.block.waiting) c.args.level (none_at s.run cs c.args.level (omega (arith, c.if-level-waiting.false, c.if-level-waiting-2.false, q))))
