use Rattle.std.proofs.Common.{◌≡◌, ◌∙◌, sym, ap, Some, None, length, arith}
use Rattle.std.specs.Prelude.{slice_get}
use Rattle.std.proofs.lemmas.Option.{slice_get-get_or}
use Rattle.uc_inherit.specs.OpenedTokens.{left_at, tokens_left}
use Rattle.uc_inherit.proofs.Picked.{none_yet, one_picked, none_picked, all_done, token_stays, token_goes}
use Rattle.uc_inherit.proofs.opening.tokens_left.Goals as goal
use Rattle.uc_inherit.proofs.opening.tokens_left.Goals.{then-not-is_taken_out+in_ok-copy_of+in_ok-push, else-not-is_taken_out}

pub loop-index-init : goal.loop-index-init
loop-index-init c = none_yet (left_at c.args.tokens.now) c.new-left.result.items c.new-left.ensures.items

pub loop-index-preserved : goal.loop-index-preserved
loop-index-preserved c =
    elim c.if-not-is_taken_out.branch [
      | then-not-is_taken_out+in_ok-copy_of+in_ok-push w ↦
          let there : slice_get c.args.tokens.now c.loop-index.index ≡ Some c.index-tokens-index.result = slice_get-get_or c.args.tokens.now c.loop-index.index c.index-tokens-index.result c.loop-index-test.true ∙ ap Some (sym c.index-tokens-index.is) in
          let is : left_at c.args.tokens.now c.loop-index.index ≡ Some w.in_ok-copy_of.field-0 = token_stays c.args.tokens.now c.loop-index.index c.index-tokens-index.result (sym c.is_taken_out.ensures ∙ w.if-not-is_taken_out.true) there ∙ ap Some (sym w.in_ok-copy_of.ensures) in
          rw w.left-is (w.in_ok-push.ensures.items ∙ one_picked (left_at c.args.tokens.now) c.loop-index.index c.loop-index.left.items w.in_ok-copy_of.field-0 c.loop-index.invariant is)
      | else-not-is_taken_out w ↦
          let is : left_at c.args.tokens.now c.loop-index.index ≡ None = token_goes c.args.tokens.now c.loop-index.index (sym c.is_taken_out.ensures ∙ w.if-not-is_taken_out.false) in
          rw w.left-is (none_picked (left_at c.args.tokens.now) c.loop-index.index c.loop-index.left.items c.loop-index.invariant is)
    ]

pub returns : goal.returns
unfolding tokens_left
returns c = all_done (left_at c.args.tokens.now) c.loop-index.index (length c.args.tokens.now) c.loop-index.left.items c.loop-index.invariant (omega (arith, c.loop-index.auto.index-end, c.loop-index-test.false))
