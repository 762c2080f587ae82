use Rattle.std.proofs.Common.{inl}
use Rattle.std.proofs.lemmas.Result.{err_from_is_err_and}
use Rattle.uc_tree.specs.Statements as stmt
use Rattle.uc_tree.specs.declared.token.TokenKind.TheVariants as token
use Rattle.uc_tree.specs.declared.token.Sign.TheVariants as sign
use Rattle.uc_tree.specs.declared.token.Word.TheVariants as word
use Rattle.uc_grammar.specs.Form.{apply, expect, Fails}
use Rattle.uc_grammar.specs.Grammar.{outs_form, together_rest, inner, faults}
use Rattle.uc_parse_simple.proofs.Steps.{behind_fails}
use Rattle.uc_parse_simple.proofs.print.read_together.Goals as goal

pub returns-in_err-cout-clause-fails : goal.returns-in_err-cout-clause-fails
returns-in_err-cout-clause-fails c = let h : Fails (inner c.args.room) (faults c.args.room) (together_rest c.args.pos) c.args.tokens.now c.args.from c.in_err-cout.field-0.0 = behind_fails c.args.room c.args.tokens.now (token.Sign sign.OpenParen) (expect (token.Word word.Cout) (expect (token.Sign sign.CloseParen) (apply (stmt.PrintTogether c.args.pos) outs_form))) c.args.from c.in_ok-open.open _ c.in_ok-open.ensures.found (inl c.in_err-cout.ensures.fails) in
    let p = err_from_is_err_and c.from_residual-in_err-cout.result c.from_residual-in_err-cout.ensures.1 in rw (p.1, p.2) h

pub returns-in_err-first-clause-fails : goal.returns-in_err-first-clause-fails
returns-in_err-first-clause-fails c = let h : Fails (inner c.args.room) (faults c.args.room) (together_rest c.args.pos) c.args.tokens.now c.args.from c.in_err-first.field-0.0 = behind_fails c.args.room c.args.tokens.now (token.Sign sign.OpenParen) (expect (token.Word word.Cout) (expect (token.Sign sign.CloseParen) (apply (stmt.PrintTogether c.args.pos) outs_form))) c.args.from c.in_ok-open.open _ c.in_ok-open.ensures.found (behind_fails c.args.room c.args.tokens.now (token.Word word.Cout) (expect (token.Sign sign.CloseParen) (apply (stmt.PrintTogether c.args.pos) outs_form)) c.in_ok-open.open c.in_ok-cout.cout _ c.in_ok-cout.ensures.found (inl c.in_err-first.ensures.fails)) in
    let p = err_from_is_err_and c.from_residual-in_err-first.result c.from_residual-in_err-first.ensures.1 in rw (p.1, p.2) h

pub returns-in_err-items-clause-fails : goal.returns-in_err-items-clause-fails
returns-in_err-items-clause-fails c = let h : Fails (inner c.args.room) (faults c.args.room) (together_rest c.args.pos) c.args.tokens.now c.args.from c.in_err-items.field-0.0 = behind_fails c.args.room c.args.tokens.now (token.Sign sign.OpenParen) (expect (token.Word word.Cout) (expect (token.Sign sign.CloseParen) (apply (stmt.PrintTogether c.args.pos) outs_form))) c.args.from c.in_ok-open.open _ c.in_ok-open.ensures.found (behind_fails c.args.room c.args.tokens.now (token.Word word.Cout) (expect (token.Sign sign.CloseParen) (apply (stmt.PrintTogether c.args.pos) outs_form)) c.in_ok-open.open c.in_ok-cout.cout _ c.in_ok-cout.ensures.found (behind_fails c.args.room c.args.tokens.now (token.Sign sign.CloseParen) (apply (stmt.PrintTogether c.args.pos) outs_form) c.in_ok-cout.cout c.in_ok-first.first _ c.in_ok-first.ensures.found (inl c.in_err-items.ensures.fails))) in
    let p = err_from_is_err_and c.from_residual-in_err-items.result c.from_residual-in_err-items.ensures.1 in rw (p.1, p.2) h
