use Rattle.uc_parse_simple.proofs.Steps.{behind_fails, behind_found}
use Rattle.uc_tree.specs.declared.token.TokenKind.TheVariants as token
use Rattle.uc_tree.specs.declared.token.Sign.TheVariants as sign
use Rattle.uc_grammar.specs.Grammar.{closed_arguments, raise_of, raised_form, inner, faults}
use Rattle.uc_grammar.specs.Form.{apply, Fails}
use Rattle.uc_grammar.specs.Spell.{pos_at}
use Rattle.std.proofs.lemmas.Result.{err_from_is_err_and}
use Rattle.std.proofs.Common.{inl, inr, ap}
use Rattle.uc_parse_simple.proofs.event.read_raised.Goals as goal

pub returns-in_err-name-clause-fails : goal.returns-in_err-name-clause-fails
returns-in_err-name-clause-fails c = let h : Fails (inner c.args.room) (faults c.args.room) raised_form c.args.tokens.now c.args.from c.in_err-name.field-0.0 = inl (c.in_err-name.ensures.fails c.args.room) in
    let p = err_from_is_err_and c.from_residual.result c.from_residual.ensures.1 in rw (p.1, p.2) h

pub returns-in_err-open-clause-fails : goal.returns-in_err-open-clause-fails
returns-in_err-open-clause-fails c = let h : Fails (inner c.args.room) (faults c.args.room) raised_form c.args.tokens.now c.args.from c.in_err-open.field-0.0 = inr (inl (c.in_ok-name.at, c.in_ok-name.name, c.in_ok-name.ensures.found c.args.room, inl c.in_err-open.ensures.fails)) in
    let p = err_from_is_err_and c.from_residual-in_err-open.result c.from_residual-in_err-open.ensures.1 in rw (p.1, p.2) h

pub returns-in_err-args-clause-fails : goal.returns-in_err-args-clause-fails
returns-in_err-args-clause-fails c = let h : Fails (inner c.args.room) (faults c.args.room) raised_form c.args.tokens.now c.args.from c.in_err-args.field-0.0 = inr (inl (c.in_ok-name.at, c.in_ok-name.name, c.in_ok-name.ensures.found c.args.room, behind_fails c.args.room c.args.tokens.now (token.Sign sign.OpenParen) (apply (raise_of (pos_at c.args.tokens.now c.args.from) c.in_ok-name.name) (closed_arguments sign.CloseParen)) c.in_ok-name.at c.in_ok-open.open _ c.in_ok-open.ensures.found (inl c.in_err-args.ensures.fails))) in
    let p = err_from_is_err_and c.from_residual-in_err-args.result c.from_residual-in_err-args.ensures.1 in rw (p.1, p.2) h

pub returns-clause-found : goal.returns-clause-found
returns-clause-found c = record { middle = c.in_ok-name.at; left = c.in_ok-name.name; first = c.in_ok-name.ensures.found c.args.room; second = behind_found c.args.room c.args.tokens.now (token.Sign sign.OpenParen) (apply (raise_of (pos_at c.args.tokens.now c.args.from) c.in_ok-name.name) (closed_arguments sign.CloseParen)) c.in_ok-name.at c.in_ok-open.open _ _ c.in_ok-open.ensures.found (record { inside = c.in_ok-args.args.items; spelled = c.in_ok-args.ensures.found; value = ap (λ p. raise_of p c.in_ok-name.name c.in_ok-args.args.items) c.pos_at-pos.ensures }) }
