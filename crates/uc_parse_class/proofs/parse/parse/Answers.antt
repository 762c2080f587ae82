use Rattle.std.proofs.Common.{length, refl, inl}
use Rattle.std.proofs.lemmas.Result.{err_from_is_err_and}
use Rattle.uc_tree.specs.declared.limits.TheConstants.{NESTING}
use Rattle.uc_parse_class.proofs.Told.{is_program, program_fails, only_program, no_program, never_program, far_program, first_program}
use Rattle.uc_parse_class.proofs.parse.parse.Goals as goal

pub returns-clause-found : goal.returns-clause-found
returns-clause-found c = is_program NESTING c.args.tokens.now (length c.args.tokens.now) _ (record { inside = c.in_ok-items.items.items; spelled = c.in_ok-items.ensures.found; value = refl })

pub returns-clause-only : goal.returns-clause-only
returns-clause-only c = only_program NESTING c.args.tokens.now _ (record { inside = c.in_ok-items.items.items; spelled = c.in_ok-items.ensures.found; value = refl })

pub returns-in_err-items-clause-fails : goal.returns-in_err-items-clause-fails
returns-in_err-items-clause-fails c = let h = program_fails NESTING c.args.tokens.now c.in_err-items.field-0.0 (inl c.in_err-items.ensures.fails) in let p = err_from_is_err_and c.from_residual.result c.from_residual.ensures.1 in rw (p.1, p.2) h

pub returns-in_err-items-clause-none : goal.returns-in_err-items-clause-none
returns-in_err-items-clause-none c = let h = no_program NESTING c.args.tokens.now c.in_err-items.field-0.0 (inl c.in_err-items.ensures.fails) in let p = err_from_is_err_and c.from_residual.result c.from_residual.ensures.1 in rw (p.1, p.2) h

pub returns-in_err-items-clause-syntax : goal.returns-in_err-items-clause-syntax
returns-in_err-items-clause-syntax c = let h = never_program NESTING c.args.tokens.now c.in_err-items.field-0.0 (inl c.in_err-items.ensures.fails) in let p = err_from_is_err_and c.from_residual.result c.from_residual.ensures.1 in rw (p.1, p.2) h

pub returns-in_err-items-clause-deep : goal.returns-in_err-items-clause-deep
returns-in_err-items-clause-deep c = let h = far_program NESTING c.args.tokens.now c.in_err-items.field-0.0 (inl c.in_err-items.ensures.fails) in let p = err_from_is_err_and c.from_residual.result c.from_residual.ensures.1 in rw (p.1, p.2) h

pub returns-in_err-items-clause-first : goal.returns-in_err-items-clause-first
returns-in_err-items-clause-first c = let h = first_program NESTING c.args.tokens.now c.in_err-items.field-0.0 (inl c.in_err-items.ensures.fails) in let p = err_from_is_err_and c.from_residual.result c.from_residual.ensures.1 in rw (p.1, p.2) h
