use Rattle.std.proofs.Common.{inl}
use Rattle.std.proofs.lemmas.Result.{err_from_is_err_and}
use Rattle.uc_tree.specs.declared.token.TokenKind.TheVariants as token
use Rattle.uc_tree.specs.declared.token.Sign.TheVariants as sign
use Rattle.uc_tree.specs.declared.token.Word.TheVariants as word
use Rattle.uc_grammar.specs.Form.{expect, Fails}
use Rattle.uc_grammar.specs.Grammar.{before, comma_list, member_name_form, members_form, inner, faults}
use Rattle.uc_parse_simple.proofs.Steps.{behind_fails}
use Rattle.uc_parse_simple.proofs.event.read_members.Goals as goal

pub returns-in_err-members-clause-fails : goal.returns-in_err-members-clause-fails
returns-in_err-members-clause-fails c = let h : Fails (inner c.args.room) (faults c.args.room) (members_form) c.args.tokens.now c.args.from c.in_err-members.field-0.0 = behind_fails c.args.room c.args.tokens.now (token.Word word.Accept) (expect (token.Sign sign.OpenParen) (before (comma_list member_name_form) sign.CloseParen)) c.args.from c.in_ok-open.open _ c.in_ok-open.ensures.found (behind_fails c.args.room c.args.tokens.now (token.Sign sign.OpenParen) (before (comma_list member_name_form) sign.CloseParen) c.in_ok-open.open c.in_ok-first.first _ c.in_ok-first.ensures.found (inl c.in_err-members.ensures.fails)) in
    let p = err_from_is_err_and c.from_residual-in_err-members.result c.from_residual-in_err-members.ensures.1 in rw (p.1, p.2) h
