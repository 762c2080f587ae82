use Rattle.uc_lex.proofs.Comments.{IsPast}
use Rattle.uc_lex.proofs.gaps.comment_length.Given as goal

-- no comment ended before
abbrev pub invariant-loop-i : goal.invariant-loop-i
invariant-loop-i l = IsPast l.i l.rest
