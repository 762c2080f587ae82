use Rattle.std.proofs.Common.{◌≡◌, ℕ, ◌+◌, ◌*◌, ◌-◌, ◌≤◌, arith}
use Rattle.std.proofs.lemmas.Result.{err_from_is_err_and}
use Rattle.uc_tree.specs.declared.limits.TheConstants.{NESTING}
use Rattle.uc_grammar.specs.declared.fault.ParseFault.TheVariants.{TooDeep}
use Rattle.uc_parse_expr.proofs.Told.{is_expr, expr_fails, only_expr, no_expr, never_expr, far_expr, first_expr}
use Rattle.uc_parse_expr.proofs.parse.parse_expr.Goals as goal

pub returns-clause-found : goal.returns-clause-found
returns-clause-found c = is_expr _ _ _ _ _ c.in_ok-e.ensures.found

pub returns-clause-only : goal.returns-clause-only
returns-clause-only c = only_expr _ _ _ _ _ c.in_ok-e.ensures.found

pub returns-in_err-e-clause-fails : goal.returns-in_err-e-clause-fails
returns-in_err-e-clause-fails c = let h = expr_fails _ _ _ _ c.in_err-e.ensures.fails in let p = err_from_is_err_and c.from_residual.result c.from_residual.ensures.1 in rw (p.1, p.2) h

pub returns-in_err-e-clause-none : goal.returns-in_err-e-clause-none
returns-in_err-e-clause-none c = let h = no_expr _ _ _ _ c.in_err-e.ensures.fails in let p = err_from_is_err_and c.from_residual.result c.from_residual.ensures.1 in rw (p.1, p.2) h

pub returns-in_err-e-clause-syntax : goal.returns-in_err-e-clause-syntax
returns-in_err-e-clause-syntax c = let h = never_expr _ _ _ _ c.in_err-e.ensures.fails in let p = err_from_is_err_and c.from_residual.result c.from_residual.ensures.1 in rw (p.1, p.2) h

pub returns-in_err-e-clause-deep : goal.returns-in_err-e-clause-deep
returns-in_err-e-clause-deep c = let h : (k : ℕ) → c.in_err-e.field-0.0 ≡ TooDeep k → NESTING ≤ c.args.depth + 2 * (k - c.args.from) + 1 = λ k e. omega (arith, far_expr _ c.args.depth _ _ _ c.in_err-e.ensures.fails k e, c.requires.shallow) in let p = err_from_is_err_and c.from_residual.result c.from_residual.ensures.1 in rw (p.1, p.2) h

pub returns-in_err-e-clause-first : goal.returns-in_err-e-clause-first
returns-in_err-e-clause-first c = let h = first_expr _ _ _ _ c.in_err-e.ensures.fails in let p = err_from_is_err_and c.from_residual.result c.from_residual.ensures.1 in rw (p.1, p.2) h
