use Rattle.std.proofs.Common.{◌≡◌, ◌∙◌, Some, None, length, arith}
use Rattle.uc_inherit.specs.OpenedTokens.{base_noted, bases}
use Rattle.uc_inherit.proofs.Picked.{none_yet, one_picked, none_picked, all_done, base_copied, base_missing}
use Rattle.uc_inherit.proofs.opening.bases_of.Goals as goal
use Rattle.uc_inherit.proofs.opening.bases_of.Goals.{in-Some+in_ok-copy+in_ok-push, in_default}

pub loop-at-init : goal.loop-at-init
loop-at-init c = none_yet (base_noted c.args.tokens.now) c.new-bases.result.items c.new-bases.ensures.items

pub loop-at-preserved : goal.loop-at-preserved
loop-at-preserved c =
    elim c.match-base_name.branch [
      | in-Some+in_ok-copy+in_ok-push w ↦
          let is : base_noted c.args.tokens.now c.loop-at.at ≡ Some (w.first_place.result, w.in_ok-copy.field-0) = base_copied c.args.tokens.now c.loop-at.at w.in-Some.name.now w.in_ok-copy.field-0 w.first_place.result w.in-Some.ensures w.first_place.ensures w.in_ok-copy.ensures in
          rw w.bases-is (w.in_ok-push.ensures.items ∙ one_picked (base_noted c.args.tokens.now) c.loop-at.at c.loop-at.bases.items (w.first_place.result, w.in_ok-copy.field-0) c.loop-at.invariant is)
      | in_default w ↦
          let is : base_noted c.args.tokens.now c.loop-at.at ≡ None = base_missing c.args.tokens.now c.loop-at.at w.in_default.ensures in
          rw w.bases-is (none_picked (base_noted c.args.tokens.now) c.loop-at.at c.loop-at.bases.items c.loop-at.invariant is)
    ]

pub returns : goal.returns
unfolding bases
returns c = all_done (base_noted c.args.tokens.now) c.loop-at.at (length c.args.tokens.now) c.loop-at.bases.items c.loop-at.invariant (omega (arith, c.loop-at.auto.at-end, c.loop-at-test.false))
