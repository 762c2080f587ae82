use Rattle.std.proofs.Common.{take, arith, refl}
use Rattle.uc_acts.specs.Journal.{cost}
use Rattle.std.proofs.lemmas.List.{length-append, length-take-le}
use Rattle.uc_kernel_core.proofs.Asks as asks
use Rattle.uc_kernel_core.proofs.kernel_core.KernelCore.print.Goals as goal

pub put_print-requires-clause-going : goal.put_print-requires-clause-going
put_print-requires-clause-going c = c.requires.may.going

pub put_print-requires-clause-room : goal.put_print-requires-clause-room
put_print-requires-clause-room c = let room = c.requires.may.room in omega arith

pub loop-at-init : goal.loop-at-init
loop-at-init c = record { behind = omega arith; prints = λ s a. a }

pub put_print-requires-in-loop-at-clause-going : goal.put_print-requires-in-loop-at-clause-going
put_print-requires-in-loop-at-clause-going c =
    let w = c.args.who in
    let all = c.loop-at.invariant.prints c.args.self.now (asks.print_step c.args.self.now c.args.self.now c.put_print.new.self w.processor w.task (cost w.ticks w.line) 0 _ c.args.items.now _ (omega arith) refl (asks.appended_none c.args.self.now) c.put_print.ensures) in
    rw all.journal (asks.prints_going c.args.self.now.journal w.processor w.task (cost w.ticks w.line) 0 (take c.loop-at.at c.args.items.now) c.requires.may.going)

pub put_print-requires-in-loop-at-clause-room : goal.put_print-requires-in-loop-at-clause-room
put_print-requires-in-loop-at-clause-room c =
    let w = c.args.who in
    let all = c.loop-at.invariant.prints c.args.self.now (asks.print_step c.args.self.now c.args.self.now c.put_print.new.self w.processor w.task (cost w.ticks w.line) 0 _ c.args.items.now _ (omega arith) refl (asks.appended_none c.args.self.now) c.put_print.ensures) in
    let n = asks.prints_length w.processor w.task (cost w.ticks w.line) 0 (take c.loop-at.at c.args.items.now) in
    let m = length-take-le c.loop-at.at c.args.items.now (omega arith) in
    let room = c.requires.may.room in
    rw (all.journal, all.opts) (omega (arith, length-append c.args.self.now.journal (asks.prints_from w.processor w.task (cost w.ticks w.line) 0 (take c.loop-at.at c.args.items.now))))

pub loop-at-preserved : goal.loop-at-preserved
loop-at-preserved c =
    let w = c.args.who in
    let le = c.loop-at.invariant.behind in
    record {
      behind = omega (arith, le);
      prints = λ s a. asks.print_step s c.loop-at.self c.put_print-in-loop-at.new.self w.processor w.task (cost w.ticks w.line) c.loop-at.at _ c.args.items.now _ (omega arith) (asks.later_cost (cost w.ticks w.line) c.loop-at.at le) (c.loop-at.invariant.prints s a) c.put_print-in-loop-at.ensures;
    }

pub returns : goal.returns
returns c =
    let w = c.args.who in
    let le = c.loop-at.invariant.behind in
    asks.print_rows c.args.self.now c.loop-at.self w.processor w.task w.ticks w.line c.args.n c.loop-at.at c.args.items.now (omega (arith, le)) (c.loop-at.invariant.prints c.args.self.now (asks.print_step c.args.self.now c.args.self.now c.put_print.new.self w.processor w.task (cost w.ticks w.line) 0 _ c.args.items.now _ (omega arith) refl (asks.appended_none c.args.self.now) c.put_print.ensures))
