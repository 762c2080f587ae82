use Rattle.std.proofs.Common.{◌<◌, sym, ◌∙◌, arith, length}
use Rattle.uc_kernel_journal.proofs.Clauses as offered
use Rattle.uc_kernel_journal.proofs.notes.clause_listing.Goals as goal
use Rattle.uc_kernel_journal.proofs.notes.clause_listing.Goals.{then-is_true+else-lists, else-is_true}

pub returns-then-lists : goal.returns-then-lists
returns-then-lists c =
    let lt : c.loop-at.at < length c.args.clauses.now.items = omega arith in
    sym (c.loop-at.invariant ∙ offered.clause_found c.loop-at.at c.args.mask c.args.clauses.now.items lt c.args.member c.index.result.now c.index.ensures (sym c.is_true.ensures ∙ c.if-is_true.true) (sym c.lists.ensures ∙ c.if-lists.true))

pub loop-at-preserved : goal.loop-at-preserved
loop-at-preserved c =
    let lt : c.loop-at.at < length c.args.clauses.now.items = omega arith in
    elim c.if-is_true.branch [ then-is_true+else-lists w ↦ c.loop-at.invariant ∙ offered.clause_next c.loop-at.at c.args.mask c.args.clauses.now.items lt c.args.member w.index.result.now w.index.ensures (sym c.is_true.ensures ∙ w.if-is_true.true) (sym w.lists.ensures ∙ w.if-lists.false) | else-is_true w ↦ c.loop-at.invariant ∙ offered.clause_skip c.loop-at.at c.args.mask c.args.clauses.now.items lt c.args.member (sym c.is_true.ensures ∙ w.if-is_true.false) ]
