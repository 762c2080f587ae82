use Rattle.std.proofs.Common.{◌≡◌, ◌++◌, ◌+ℤ◌, pos, take, drop, arith, rules, ap, sym, ◌∙◌, to_z, of_z, w64}
use Rattle.std.proofs.lemmas.Int.{ints}
use Rattle.uc_acts.specs.Pending.{drop_first}
use Rattle.uc_judge.proofs.Events.{is_of, taken_here}
use Rattle.uc_judge.proofs.pending.take_out.Goals as goal

pub returns-then-from-field : goal.returns-then-from-field
returns-then-from-field c =
    let es = c.loop-at.events.items in
    let at = c.loop-at.at in
    let is : c.from.result +ℤ pos 1 ≡ c.args.field = search (rules, ints) in
    let f : to_z w64 (of_z w64 c.args.field) ≡ c.args.field = search rules in
    c.remove-event.ensures.items
    ∙ taken_here c.args.field at es c.index.result.now (omega arith) c.index.ensures (ap (λ z. z +ℤ pos 1) (sym c.from.ensures) ∙ is)
    ∙ sym (ap (λ z. take at es ++ drop_first (is_of z) (drop at es)) f)
    ∙ sym c.loop-at.invariant.kept
    ∙ ap (λ z. drop_first (is_of z) es) f
    ∙ ap (drop_first (is_of c.args.field)) c.loop-at.invariant.same
