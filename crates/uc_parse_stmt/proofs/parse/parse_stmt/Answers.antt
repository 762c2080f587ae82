use Rattle.std.proofs.Common.{◌≡◌, ℕ, ◌+◌, ◌*◌, ◌-◌, ◌≤◌, arith}
use Rattle.std.proofs.lemmas.Result.{err_from_is_err_and}
use Rattle.uc_tree.specs.declared.limits.TheConstants.{NESTING}
use Rattle.uc_grammar.specs.declared.fault.ParseFault.TheVariants.{TooDeep}
use Rattle.uc_parse_stmt.proofs.Told.{is_stmt, stmt_fails, only_stmt, no_stmt, never_stmt, far_stmt, first_stmt}
use Rattle.uc_parse_stmt.proofs.parse.parse_stmt.Goals as goal

pub returns-clause-found : goal.returns-clause-found
returns-clause-found c = is_stmt _ _ _ _ _ c.in_ok-s.ensures.found

pub returns-clause-only : goal.returns-clause-only
returns-clause-only c = only_stmt _ _ _ _ _ c.in_ok-s.ensures.found

pub returns-in_err-s-clause-fails : goal.returns-in_err-s-clause-fails
returns-in_err-s-clause-fails c = let h = stmt_fails _ _ _ _ c.in_err-s.ensures.fails in let p = err_from_is_err_and c.from_residual.result c.from_residual.ensures.1 in rw (p.1, p.2) h

pub returns-in_err-s-clause-none : goal.returns-in_err-s-clause-none
returns-in_err-s-clause-none c = let h = no_stmt _ _ _ _ c.in_err-s.ensures.fails in let p = err_from_is_err_and c.from_residual.result c.from_residual.ensures.1 in rw (p.1, p.2) h

pub returns-in_err-s-clause-syntax : goal.returns-in_err-s-clause-syntax
returns-in_err-s-clause-syntax c = let h = never_stmt _ _ _ _ c.in_err-s.ensures.fails in let p = err_from_is_err_and c.from_residual.result c.from_residual.ensures.1 in rw (p.1, p.2) h

pub returns-in_err-s-clause-deep : goal.returns-in_err-s-clause-deep
returns-in_err-s-clause-deep c = let h : (k : ℕ) → c.in_err-s.field-0.0 ≡ TooDeep k → NESTING ≤ c.args.depth + 2 * (k - c.args.from) + 1 = λ k e. omega (arith, far_stmt _ c.args.depth _ _ _ c.in_err-s.ensures.fails k e, c.requires.shallow) in let p = err_from_is_err_and c.from_residual.result c.from_residual.ensures.1 in rw (p.1, p.2) h

pub returns-in_err-s-clause-first : goal.returns-in_err-s-clause-first
returns-in_err-s-clause-first c = let h = first_stmt _ _ _ _ c.in_err-s.ensures.fails in let p = err_from_is_err_and c.from_residual.result c.from_residual.ensures.1 in rw (p.1, p.2) h
