use Rattle.std.proofs.Common.{◌≡◌, ℕ, ◌+◌, ◌-◌, ◌++◌, ◌∷◌, [], replicate, length, arith, length-append, append_assoc, ap, ◌∙◌}
use Rattle.std.proofs.lemmas.List.{replicate-append-replicate}
use Rattle.uc_vproc.specs.declared.step.Step.{Step}
use Rattle.uc_vproc.proofs.desk.make_notes.Goals as goal

pub loop-preserved : goal.loop-preserved
loop-preserved c =
    let old = c.args.notes.now.items in
    let now = c.loop.notes.items in
    let x : ℕ × Step = (c.args.maker, c.args.step.now) in
    let e = c.push_reserved.ensures.items ∙ ap (λ y. now ++ y ∷ []) c.of.ensures in
    let i = c.loop.invariant in
    let l : length c.push_reserved.new.self.items ≡ length now + 1 = ap length e ∙ length-append now (x ∷ []) in
    let more = i.more in
    let d : length now - length old + 1 ≡ length c.push_reserved.new.self.items - length old = omega (arith, l, more) in
    record {
      items = e ∙ ap (λ y. y ++ x ∷ []) i.items ∙ append_assoc old (replicate (length now - length old) x) (x ∷ []) ∙ ap (λ y. old ++ y) (replicate-append-replicate (length now - length old) 1 x ∙ ap (λ k. replicate k x) d);
      more = omega (arith, l, more);
      reached = λ h. let r = i.reached h in omega (arith, l, r);
      still = λ h. let lt = c.loop-test.true in let a = c.loop.auto.counter in let n = c.len-counter.ensures in absurd (omega (arith, h, lt, a, n));
      capacity = c.push_reserved.ensures.capacity ∙ i.capacity;
    }
