use Rattle.std.proofs.Common.{◌≡◌, ◌∙◌, sym, ap, Some, None, length, arith}
use Rattle.uc_inherit.specs.OpenedTokens.{virtual_noted, virtuals}
use Rattle.uc_inherit.proofs.Picked.{none_yet, one_picked, none_picked, all_done, virtual_there, virtual_missing}
use Rattle.uc_inherit.proofs.opening.virtuals_of.Goals as goal
use Rattle.uc_inherit.proofs.opening.virtuals_of.Goals.{then-is_virtual_at+in_ok-push, else-is_virtual_at}

pub loop-at-init : goal.loop-at-init
loop-at-init c = none_yet (virtual_noted c.args.tokens.now) c.new-virtuals.result.items c.new-virtuals.ensures.items

pub loop-at-preserved : goal.loop-at-preserved
loop-at-preserved c =
    elim c.if-is_virtual_at.branch [
      | then-is_virtual_at+in_ok-push w ↦
          let is : virtual_noted c.args.tokens.now c.loop-at.at ≡ Some w.place_behind.result = virtual_there c.args.tokens.now c.loop-at.at (sym c.is_virtual_at.ensures ∙ w.if-is_virtual_at.true) ∙ ap Some (sym w.place_behind.ensures) in
          rw w.virtuals-is (w.in_ok-push.ensures.items ∙ one_picked (virtual_noted c.args.tokens.now) c.loop-at.at c.loop-at.virtuals.items w.place_behind.result c.loop-at.invariant is)
      | else-is_virtual_at w ↦
          let is : virtual_noted c.args.tokens.now c.loop-at.at ≡ None = virtual_missing c.args.tokens.now c.loop-at.at (sym c.is_virtual_at.ensures ∙ w.if-is_virtual_at.false) in
          rw w.virtuals-is (none_picked (virtual_noted c.args.tokens.now) c.loop-at.at c.loop-at.virtuals.items c.loop-at.invariant is)
    ]

pub returns : goal.returns
unfolding virtuals
returns c = all_done (virtual_noted c.args.tokens.now) c.loop-at.at (length c.args.tokens.now) c.loop-at.virtuals.items c.loop-at.invariant (omega (arith, c.loop-at.auto.at-end, c.loop-at-test.false))
