use Rattle.std.proofs.Common.{inl}
use Rattle.std.proofs.lemmas.Result.{err_from_is_err_and}
use Rattle.uc_grammar.specs.Form.{Fails}
use Rattle.uc_grammar.specs.Grammar.{accept_form, inner, faults}
use Rattle.uc_parse_stmt.proofs.HeadsLemmas.{accept_head, try_head}
use Rattle.uc_parse_stmt.proofs.LeadsLemmas.{skip_read, open_read}
use Rattle.uc_parse_stmt.proofs.head.begin_as.Goals as goal

pub returns-in_err-first-in-Accept-clause-fails : goal.returns-in_err-first-in-Accept-clause-fails
returns-in_err-first-in-Accept-clause-fails c = let h : Fails (inner c.args.room) (faults c.args.room) (accept_form c.args.pos) c.args.tokens.now c.args.from c.in_err-first-in-Accept.field-0.0 = inl (inl c.in_err-first-in-Accept.ensures.fails) in
    let p = err_from_is_err_and c.from_residual-in_err-first-in-Accept.result c.from_residual-in_err-first-in-Accept.ensures.1 in rw (c.in-Accept.is, p.1, p.2) h

pub returns-in_ok-head-in-If-clause-leads : goal.returns-in_ok-head-in-If-clause-leads
returns-in_ok-head-in-If-clause-leads c = rw c.in-If.is (open_read _ _ _ _ _ _ _ (skip_read _ _ _ _ _ _ c.in_ok-head-in-If.ensures.leads))

pub returns-in_ok-head-in-While-clause-leads : goal.returns-in_ok-head-in-While-clause-leads
returns-in_ok-head-in-While-clause-leads c = rw c.in-While.is (open_read _ _ _ _ _ _ _ (skip_read _ _ _ _ _ _ c.in_ok-head-in-While.ensures.leads))

pub returns-in_ok-head-in-For-clause-leads : goal.returns-in_ok-head-in-For-clause-leads
returns-in_ok-head-in-For-clause-leads c = rw c.in-For.is (open_read _ _ _ _ _ _ _ (skip_read _ _ _ _ _ _ c.in_ok-head-in-For.ensures.leads))

pub returns-in_ok-head-in-Enable-clause-leads : goal.returns-in_ok-head-in-Enable-clause-leads
returns-in_ok-head-in-Enable-clause-leads c = rw c.in-Enable.is (open_read _ _ _ _ _ _ _ (skip_read _ _ _ _ _ _ c.in_ok-head-in-Enable.ensures.leads))

pub returns-in_ok-head-in-Disable-clause-leads : goal.returns-in_ok-head-in-Disable-clause-leads
returns-in_ok-head-in-Disable-clause-leads c = rw c.in-Disable.is (open_read _ _ _ _ _ _ _ (skip_read _ _ _ _ _ _ c.in_ok-head-in-Disable.ensures.leads))

pub returns-in_ok-brace-in-Try-clause-leads : goal.returns-in_ok-brace-in-Try-clause-leads
returns-in_ok-brace-in-Try-clause-leads c = rw c.in-Try.is (open_read _ _ _ _ _ _ _ (skip_read _ _ _ _ _ _ (try_head c.args.room c.args.tokens.now c.args.pos _ _ _ c.in_ok-brace-in-Try.ensures.place c.in_ok-brace-in-Try.ensures.found)))

pub returns-in_ok-first-in-Accept-clause-leads : goal.returns-in_ok-first-in-Accept-clause-leads
returns-in_ok-first-in-Accept-clause-leads c = rw c.in-Accept.is (open_read _ _ _ _ _ _ _ (accept_head c.args.room c.args.tokens.now c.args.pos c.in_ok-first-in-Accept.first _ _ c.in_ok-first-in-Accept.ensures.leads))
