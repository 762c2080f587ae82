use Rattle.std.proofs.Common.{◌≡◌, ◌+◌, length, true, false, Some, sym, ap, subst, ◌∙◌}
use Rattle.std.specs.Prelude.{slice_get}
use Rattle.uc_code.specs.Layout.{laid_of}
use Rattle.uc_machine.specs.Raising.{arrives}
use Rattle.uc_coroutine.specs.MainEnds.{BlockLeft, block_over, call_over}
use Rattle.uc_ride.proofs.Leading.{at_block, at_call, at_main, at_coroutine, cleans_by, cleans_no, tests, calls}
use Rattle.uc_ride.proofs.Lowering.{entered_falls, over_falls, tested_falls, called_falls}
use Rattle.uc_ride.proofs.events.begin.Goals as goal

pub returns-in-None-clause-source : goal.returns-in-None-clause-source
returns-in-None-clause-source c =
    λ source s low b. cleans_no source c.args.code.now low c.args.work.now c.args.work.now s (sym (ap (slice_get c.args.code.now.ops) c.next-next.ensures) ∙ (sym c.op_at.ensures.op ∙ c.in-None.is)) b

pub returns-in-None-clause-falls : goal.returns-in-None-clause-falls
returns-in-None-clause-falls c = λ w left g. entered_falls c.args.code.now w left c.args.work.now g

pub returns-in-Nothing-clause-source : goal.returns-in-Nothing-clause-source
returns-in-Nothing-clause-source c =
    let code = c.args.code.now in
    let i = c.in-Some.instruction in
    let is : slice_get code.ops c.args.work.now.run.control ≡ Some i = sym (ap (slice_get code.ops) c.next-next.ensures) ∙ (sym c.op_at.ensures.op ∙ c.in-Some.is) in
    λ source s low b. cleans_by source code low c.args.work.now c.args.work.now s i is (sym c.test_of.ensures ∙ c.in-Nothing.is) b

pub returns-in-Nothing-clause-falls : goal.returns-in-Nothing-clause-falls
returns-in-Nothing-clause-falls c = λ w left g. entered_falls c.args.code.now w left c.args.work.now g

pub returns-then-end_block-clause-source : goal.returns-then-end_block-clause-source
returns-then-end_block-clause-source c =
    let code = c.args.code.now in
    let m = c.args.work.now in
    let n = c.end_block.new.work in
    let i = c.in-Some.instruction in
    let is : slice_get code.ops m.run.control ≡ Some i = sym (ap (slice_get code.ops) c.next-next.ensures) ∙ (sym c.op_at.ensures.op ∙ c.in-Some.is) in
    let here = at_block i (slice_get code.ops m.run.control) is (sym c.test_of.ensures ∙ c.in-Block.is) in
    λ source s low b.
    tests source code low m n s i.line here true (λ t h. subst (λ x. BlockLeft source (laid_of code) x n t) c.if-end_block.true (c.end_block.ensures.source source (laid_of code) t h (ap (λ k. k + 1) c.next-next.ensures))) b

pub returns-then-end_block-clause-falls : goal.returns-then-end_block-clause-falls
returns-then-end_block-clause-falls c =
    let code = c.args.code.now in
    let m = c.args.work.now in
    let n = c.end_block.new.work in
    let i = c.in-Some.instruction in
    let is : slice_get code.ops m.run.control ≡ Some i = sym (ap (slice_get code.ops) c.next-next.ensures) ∙ (sym c.op_at.ensures.op ∙ c.in-Some.is) in
    let here = at_block i (slice_get code.ops m.run.control) is (sym c.test_of.ensures ∙ c.in-Block.is) in
    let over : n ≡ block_over true (m.run.control + 1) m = c.end_block.ensures.now ∙ (ap (λ x. block_over x (c.next-next.result + 1) m) c.if-end_block.true ∙ ap (λ k. block_over true (k + 1) m) c.next-next.ensures) in
    λ w left g. over_falls code w c.requires.paced left m n g i.line here over

pub returns-else-end_block-clause-source : goal.returns-else-end_block-clause-source
returns-else-end_block-clause-source c =
    let code = c.args.code.now in
    let m = c.args.work.now in
    let n = c.end_block.new.work in
    let i = c.in-Some.instruction in
    let is : slice_get code.ops m.run.control ≡ Some i = sym (ap (slice_get code.ops) c.next-next.ensures) ∙ (sym c.op_at.ensures.op ∙ c.in-Some.is) in
    let here = at_block i (slice_get code.ops m.run.control) is (sym c.test_of.ensures ∙ c.in-Block.is) in
    λ source s low b.
    tests source code low m n s i.line here false (λ t h. subst (λ x. BlockLeft source (laid_of code) x n t) c.if-end_block.false (c.end_block.ensures.source source (laid_of code) t h (ap (λ k. k + 1) c.next-next.ensures))) b

pub returns-else-end_block-clause-falls : goal.returns-else-end_block-clause-falls
returns-else-end_block-clause-falls c =
    let code = c.args.code.now in
    let m = c.args.work.now in
    let n = c.end_block.new.work in
    let i = c.in-Some.instruction in
    let is : slice_get code.ops m.run.control ≡ Some i = sym (ap (slice_get code.ops) c.next-next.ensures) ∙ (sym c.op_at.ensures.op ∙ c.in-Some.is) in
    let here = at_block i (slice_get code.ops m.run.control) is (sym c.test_of.ensures ∙ c.in-Block.is) in
    let on : n ≡ block_over false (m.run.control + 1) m = c.end_block.ensures.now ∙ (ap (λ x. block_over x (c.next-next.result + 1) m) c.if-end_block.false ∙ ap (λ k. block_over false (k + 1) m) c.next-next.ensures) in
    λ w left g. tested_falls code w c.requires.paced left m n g i.line here on

pub returns-in_ok-end_call-in-Call-clause-source : goal.returns-in_ok-end_call-in-Call-clause-source
returns-in_ok-end_call-in-Call-clause-source c =
    let code = c.args.code.now in
    let m = c.args.work.now in
    let n = c.end_call.new.work in
    let i = c.in-Some.instruction in
    let is : slice_get code.ops m.run.control ≡ Some i = sym (ap (slice_get code.ops) c.next-next.ensures) ∙ (sym c.op_at.ensures.op ∙ c.in-Some.is) in
    let here = at_call c.in-Call.arrived i (slice_get code.ops m.run.control) is (sym c.test_of.ensures ∙ c.in-Call.is) in
    λ source s low b.
    calls source code low m n s c.in-Call.arrived i.line here (λ t h. c.in_ok-end_call-in-Call.ensures.source source (laid_of code) t h i.line (record { here = here }) (ap (λ k. k + 1) c.next-next.ensures)) b

pub returns-in_ok-end_call-in-Call-clause-falls : goal.returns-in_ok-end_call-in-Call-clause-falls
returns-in_ok-end_call-in-Call-clause-falls c =
    let code = c.args.code.now in
    let m = c.args.work.now in
    let n = c.end_call.new.work in
    let i = c.in-Some.instruction in
    let is : slice_get code.ops m.run.control ≡ Some i = sym (ap (slice_get code.ops) c.next-next.ensures) ∙ (sym c.op_at.ensures.op ∙ c.in-Some.is) in
    let here = at_call c.in-Call.arrived i (slice_get code.ops m.run.control) is (sym c.test_of.ensures ∙ c.in-Call.is) in
    let over = arrives m.run.raised (length m.callers) in
    let b : n ≡ call_over over c.in-Call.arrived (m.run.control + 1) m = c.in_ok-end_call-in-Call.ensures.now ∙ ap (λ k. call_over over c.in-Call.arrived (k + 1) m) c.next-next.ensures in
    λ w left g. called_falls code w c.requires.paced left m n c.in-Call.arrived i.line over here b g

pub end_on-requires : goal.end_on-requires
end_on-requires c =
    let code = c.args.code.now in
    let m = c.args.work.now in
    let i = c.in-Some.instruction in
    let is : slice_get code.ops m.run.control ≡ Some i = sym (ap (slice_get code.ops) c.next-next.ensures) ∙ (sym c.op_at.ensures.op ∙ c.in-Some.is) in
    at_main i (slice_get code.ops m.run.control) is (sym c.test_of.ensures ∙ c.in-Task.is)

pub leave_coroutine-after-requires : goal.leave_coroutine-after-requires
leave_coroutine-after-requires c =
    let code = c.args.code.now in
    let m = c.args.work.now in
    let i = c.in-Some.instruction in
    let is : slice_get code.ops m.run.control ≡ Some i = sym (ap (slice_get code.ops) c.next-next.ensures) ∙ (sym c.op_at.ensures.op ∙ c.in-Some.is) in
    at_coroutine i (slice_get code.ops m.run.control) is (sym c.test_of.ensures ∙ c.in-Coroutine.is)
