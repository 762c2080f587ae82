use Rattle.std.proofs.Common.{inl}
use Rattle.std.proofs.lemmas.Result.{err_from_is_err_and}
use Rattle.uc_grammar.specs.Form.{Fails, bind, apply}
use Rattle.uc_grammar.specs.Grammar.{caught_form, handles, block_form, inner, faults}
use Rattle.uc_parse_stmt.specs.Heads.{taken_form}
use Rattle.uc_parse_stmt.specs.Leads.{Leads}
use Rattle.uc_parse_simple.specs.Parts.{caught_of}
use Rattle.uc_parse_stmt.proofs.HeadsLemmas.{taken_opened, taken_caught, taken_head}
use Rattle.uc_parse_stmt.proofs.head.read_taken.Goals as goal

pub returns-in_err-caught-clause-fails : goal.returns-in_err-caught-clause-fails
returns-in_err-caught-clause-fails c =
    let l : Leads c.args.room c.args.tokens.now (taken_form c.args.pos c.args.kind) c.args.from (bind caught_form (λ e. apply (handles c.args.pos c.args.kind e) block_form)) c.in_ok-open.open = taken_opened _ _ _ _ _ _ c.in_ok-open.ensures.found in
    let h : Fails (inner c.args.room) (faults c.args.room) (taken_form c.args.pos c.args.kind) c.args.tokens.now c.args.from c.in_err-caught.field-0.0 = l.fails _ (inl c.in_err-caught.ensures.fails) in
    let p = err_from_is_err_and c.from_residual-in_err-caught.result c.from_residual-in_err-caught.ensures.1 in rw (p.1, p.2) h

pub returns-in_err-brace-clause-fails : goal.returns-in_err-brace-clause-fails
returns-in_err-brace-clause-fails c =
    let l : Leads c.args.room c.args.tokens.now (taken_form c.args.pos c.args.kind) c.args.from (apply (handles c.args.pos c.args.kind (caught_of c.in_ok-caught.caught)) block_form) c.in_ok-caught.end = taken_caught _ _ _ _ _ _ _ _ (taken_opened _ _ _ _ _ _ c.in_ok-open.ensures.found) c.in_ok-caught.ensures.found in
    let h : Fails (inner c.args.room) (faults c.args.room) (taken_form c.args.pos c.args.kind) c.args.tokens.now c.args.from c.in_err-brace.field-0.0 = l.fails _ (inl (inl c.in_err-brace.ensures.fails)) in
    let p = err_from_is_err_and c.from_residual-in_err-brace.result c.from_residual-in_err-brace.ensures.1 in rw (p.1, p.2) h

pub returns-clause-leads : goal.returns-clause-leads
returns-clause-leads c = taken_head c.args.room c.args.tokens.now (record { pos = c.args.pos; kind = c.args.kind; caught = c.in_ok-caught.caught; brace = c.in_ok-brace.brace }) c.args.from c.in_ok-caught.end c.in_ok-brace.at (taken_caught _ _ _ _ _ _ _ _ (taken_opened _ _ _ _ _ _ c.in_ok-open.ensures.found) c.in_ok-caught.ensures.found) c.in_ok-brace.ensures.place c.in_ok-brace.ensures.found
