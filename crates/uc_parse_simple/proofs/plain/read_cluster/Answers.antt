use Rattle.std.proofs.Common.{inl, inr}
use Rattle.std.proofs.lemmas.Result.{err_from_is_err_and}
use Rattle.uc_tree.specs.declared.token.Sign.TheVariants as sign
use Rattle.uc_grammar.specs.Form.{Fails}
use Rattle.uc_grammar.specs.Grammar.{before, postfix_form, inner, faults}
use Rattle.uc_parse_simple.proofs.plain.read_cluster.Goals as goal

pub returns-in_err-cluster-clause-fails : goal.returns-in_err-cluster-clause-fails
returns-in_err-cluster-clause-fails c = let h : Fails (inner c.args.room) (faults c.args.room) (before postfix_form sign.CloseParen) c.args.tokens.now c.args.from c.in_err-cluster.field-0.0 = inl c.in_err-cluster.ensures.fails in let p = err_from_is_err_and c.from_residual.result c.from_residual.ensures.1 in rw (p.1, p.2) h

pub returns-in_err-cluster-2-clause-fails : goal.returns-in_err-cluster-2-clause-fails
returns-in_err-cluster-2-clause-fails c = let h : Fails (inner c.args.room) (faults c.args.room) (before postfix_form sign.CloseParen) c.args.tokens.now c.args.from c.in_err-cluster-2.field-0.0 = inr (inl (c.in_ok-cluster.at, c.in_ok-cluster.cluster, c.in_ok-cluster.ensures.found, inl c.in_err-cluster-2.ensures.fails)) in let p = err_from_is_err_and c.from_residual-in_err-cluster-2.result c.from_residual-in_err-cluster-2.ensures.1 in rw (p.1, p.2) h
