use Rattle.std.proofs.Common.{inl, inr}
use Rattle.std.proofs.lemmas.Result.{err_from_is_err_and}
use Rattle.uc_grammar.specs.Form.{Fails}
use Rattle.uc_grammar.specs.Grammar.{member_maker, inner, faults}
use Rattle.uc_parse_simple.proofs.Steps.{behind_fails}
use Rattle.uc_parse_class.specs.Forms.{destructor_form}
use Rattle.uc_tree.specs.declared.token.TokenKind.TheVariants as token
use Rattle.uc_tree.specs.declared.token.Sign.TheVariants as sign
use Rattle.uc_tree.specs.declared.kinds.Role.TheVariants as role
use Rattle.uc_parse_class.proofs.member.read_destructor.Goals as goal

pub returns-in_err-form-clause-fails : goal.returns-in_err-form-clause-fails
returns-in_err-form-clause-fails c = let h : Fails (inner c.args.room) (faults c.args.room) (destructor_form c.args.pos) c.args.tokens.now c.args.from c.in_err-form.field-0.0 = inr (inl (c.in_ok-name.at, c.in_ok-name.name, c.in_ok-name.ensures.found c.args.room, behind_fails c.args.room c.args.tokens.now (token.Sign sign.OpenParen) (member_maker c.args.pos role.Destructor c.in_ok-name.name) c.in_ok-name.at c.in_ok-open.open _ c.in_ok-open.ensures.found c.in_err-form.ensures.fails)) in
    let p = err_from_is_err_and c.from_residual-in_err-form.result c.from_residual-in_err-form.ensures.1 in rw (p.1, p.2) h

pub returns-in_err-name-clause-fails : goal.returns-in_err-name-clause-fails
returns-in_err-name-clause-fails c = let h : Fails (inner c.args.room) (faults c.args.room) (destructor_form c.args.pos) c.args.tokens.now c.args.from c.in_err-name.field-0.0 = inl (c.in_err-name.ensures.fails c.args.room) in
    let p = err_from_is_err_and c.from_residual.result c.from_residual.ensures.1 in rw (p.1, p.2) h

pub returns-in_err-open-clause-fails : goal.returns-in_err-open-clause-fails
returns-in_err-open-clause-fails c = let h : Fails (inner c.args.room) (faults c.args.room) (destructor_form c.args.pos) c.args.tokens.now c.args.from c.in_err-open.field-0.0 = inr (inl (c.in_ok-name.at, c.in_ok-name.name, c.in_ok-name.ensures.found c.args.room, inl c.in_err-open.ensures.fails)) in
    let p = err_from_is_err_and c.from_residual-in_err-open.result c.from_residual-in_err-open.ensures.1 in rw (p.1, p.2) h
