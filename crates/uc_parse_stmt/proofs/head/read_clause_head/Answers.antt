use Rattle.std.proofs.Common.{inl, inr}
use Rattle.std.proofs.lemmas.Result.{err_from_is_err_and}
use Rattle.uc_grammar.specs.Form.{Fails}
use Rattle.uc_grammar.specs.Grammar.{clause_form, inner, faults}
use Rattle.uc_parse_stmt.proofs.HeadsLemmas.{clause_head}
use Rattle.uc_parse_stmt.proofs.head.read_clause_head.Goals as goal

pub returns-in_err-members-clause-fails : goal.returns-in_err-members-clause-fails
returns-in_err-members-clause-fails c = let h : Fails (inner c.args.room) (faults c.args.room) clause_form c.args.tokens.now c.args.from c.in_err-members.field-0.0 = inr (inl (c.in_ok-guard.accept, c.in_ok-guard.guard, c.in_ok-guard.ensures.found, inl c.in_err-members.ensures.fails)) in
    let p = err_from_is_err_and c.from_residual-in_err-members.result c.from_residual-in_err-members.ensures.1 in rw (p.1, p.2) h

pub returns-clause-leads : goal.returns-clause-leads
returns-clause-leads c = clause_head c.args.room c.args.tokens.now (record { pos = c.pos_at-pos.result; guard = c.in_ok-guard.guard; members = c.in_ok-members.members }) c.args.from c.in_ok-guard.accept c.in_ok-members.at c.pos_at-pos.ensures c.in_ok-guard.ensures.found c.in_ok-members.ensures.found
