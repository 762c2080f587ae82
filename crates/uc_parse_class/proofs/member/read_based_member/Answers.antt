use Rattle.std.proofs.Common.{rules, ◌+◌, Some, inl, inr, subst, true}
use Rattle.std.proofs.lemmas.Result.{err_from_is_err_and}
use Rattle.uc_grammar.specs.Spell.{kind_at, pos_at}
use Rattle.uc_grammar.specs.Form.{Fails}
use Rattle.uc_grammar.specs.Grammar.{fields_rest, inner, faults, based_at, based_member}
use Rattle.uc_parse_expr.proofs.Steps.{by_fails}
use Rattle.uc_parse_class.specs.Forms.{based_rest}
use Rattle.uc_tree.specs.declared.token.TokenKind.TheVariants as token
use Rattle.uc_tree.specs.declared.token.Sign.TheVariants as sign
use Rattle.uc_parse_class.proofs.member.read_based_member.Goals as goal

pub returns-in_err-form-in-Some-Sign-And-clause-fails : goal.returns-in_err-form-in-Some-Sign-And-clause-fails
returns-in_err-form-in-Some-Sign-And-clause-fails c = let h : Fails (inner c.args.room) (faults c.args.room) (based_member c.args.place c.args.base) c.args.tokens.now c.args.from c.in_err-form-in-Some-Sign-And.field-0.0 = by_fails c.args.room c.args.tokens.now c.args.from (based_at c.args.place c.args.base (pos_at c.args.tokens.now c.args.from)) (Some (token.Sign sign.And)) (kind_at c.args.tokens.now c.args.from) _ (search rules) (inr (inl (c.in_ok-name-in-Some-Sign-And.at, c.in_ok-name-in-Some-Sign-And.name, c.in_ok-name-in-Some-Sign-And.ensures.found c.args.room, subst (λ p. Fails (inner c.args.room) (faults c.args.room) (fields_rest c.args.place c.args.base p true c.in_ok-name-in-Some-Sign-And.name) c.args.tokens.now c.in_ok-name-in-Some-Sign-And.at c.in_err-form-in-Some-Sign-And.field-0.0) c.pos_at-pos.ensures c.in_err-form-in-Some-Sign-And.ensures.fails))) in
    let p = err_from_is_err_and c.from_residual-in_err-form-in-Some-Sign-And.result c.from_residual-in_err-form-in-Some-Sign-And.ensures.1 in rw (p.1, p.2) h

pub returns-in_err-form-in-Some-Name-clause-fails : goal.returns-in_err-form-in-Some-Name-clause-fails
returns-in_err-form-in-Some-Name-clause-fails c = let h : Fails (inner c.args.room) (faults c.args.room) (based_member c.args.place c.args.base) c.args.tokens.now c.args.from c.in_err-form-in-Some-Name.field-0.0 = by_fails c.args.room c.args.tokens.now c.args.from (based_at c.args.place c.args.base (pos_at c.args.tokens.now c.args.from)) (Some (token.Name c.in-Some-Name.name)) (kind_at c.args.tokens.now c.args.from) _ (search rules) (subst (λ p. Fails (inner c.args.room) (faults c.args.room) (based_rest c.args.place c.args.base p c.in-Some-Name.name) c.args.tokens.now (c.args.from + 1) c.in_err-form-in-Some-Name.field-0.0) c.pos_at-pos.ensures c.in_err-form-in-Some-Name.ensures.fails) in
    let p = err_from_is_err_and c.from_residual-in_err-form-in-Some-Name.result c.from_residual-in_err-form-in-Some-Name.ensures.1 in rw (p.1, p.2) h
