use Rattle.std.proofs.Common.{sym, ◌∙◌}
use Rattle.uc_lex.proofs.Comments.{past-next, past-found, past-end, past-start}
use Rattle.uc_lex.proofs.gaps.comment_length.Goals as goal

pub loop-i-init : goal.loop-i-init
loop-i-init c = past-start c.args.rest.now

pub returns-then-starts_with-clause-length : goal.returns-then-starts_with-clause-length
returns-then-starts_with-clause-length c = sym (past-found c.loop-i.i c.args.rest.now c.loop-i-test.true c.loop-i.invariant (rw (← c.text_from.ensures) (sym c.starts_with.ensures.value ∙ c.if-starts_with.true)))

pub loop-i-preserved : goal.loop-i-preserved
loop-i-preserved c = past-next c.loop-i.i c.args.rest.now c.loop-i-test.true c.loop-i.invariant (rw (← c.text_from.ensures) (sym c.starts_with.ensures.value ∙ c.if-starts_with.false))

pub returns-clause-length : goal.returns-clause-length
returns-clause-length c = sym (past-end c.loop-i.i c.args.rest.now c.loop-i-test.false c.loop-i.invariant)
