use Rattle.uc_parse_simple.proofs.Steps.{behind_fails, behind_found}
use Rattle.uc_tree.specs.declared.token.TokenKind.TheVariants as token
use Rattle.uc_tree.specs.declared.token.Sign.TheVariants as sign
use Rattle.uc_grammar.specs.Grammar.{before, migrate_rest, postfix_form, inner, faults}
use Rattle.uc_grammar.specs.Form.{apply, Fails}
use Rattle.uc_tree.specs.Statements as stmt
use Rattle.std.proofs.lemmas.Result.{err_from_is_err_and}
use Rattle.std.proofs.Common.{inl, inr, refl}
use Rattle.uc_parse_simple.proofs.plain.read_migrate.Goals as goal

pub returns-in_err-cluster-clause-fails : goal.returns-in_err-cluster-clause-fails
returns-in_err-cluster-clause-fails c = let h : Fails (inner c.args.room) (faults c.args.room) (migrate_rest c.args.pos) c.args.tokens.now c.args.from c.in_err-cluster.field-0.0 = behind_fails c.args.room c.args.tokens.now (token.Sign sign.OpenParen) (apply (stmt.Migrate c.args.pos) (before (before postfix_form sign.CloseParen) sign.Semicolon)) c.args.from c.in_ok-at.at _ c.in_ok-at.ensures.found (inl (inl c.in_err-cluster.ensures.fails)) in
    let p = err_from_is_err_and c.from_residual-in_err-cluster.result c.from_residual-in_err-cluster.ensures.1 in rw (p.1, p.2) h

pub returns-in_err-cluster-2-clause-fails : goal.returns-in_err-cluster-2-clause-fails
returns-in_err-cluster-2-clause-fails c = let h : Fails (inner c.args.room) (faults c.args.room) (migrate_rest c.args.pos) c.args.tokens.now c.args.from c.in_err-cluster-2.field-0.0 = behind_fails c.args.room c.args.tokens.now (token.Sign sign.OpenParen) (apply (stmt.Migrate c.args.pos) (before (before postfix_form sign.CloseParen) sign.Semicolon)) c.args.from c.in_ok-at.at _ c.in_ok-at.ensures.found (inl (inr (inl (c.in_ok-cluster.end, c.in_ok-cluster.cluster, c.in_ok-cluster.ensures.found, inl c.in_err-cluster-2.ensures.fails)))) in
    let p = err_from_is_err_and c.from_residual-in_err-cluster-2.result c.from_residual-in_err-cluster-2.ensures.1 in rw (p.1, p.2) h

pub returns-clause-found : goal.returns-clause-found
returns-clause-found c = behind_found c.args.room c.args.tokens.now (token.Sign sign.OpenParen) (apply (stmt.Migrate c.args.pos) (before (before postfix_form sign.CloseParen) sign.Semicolon)) c.args.from c.in_ok-at.at _ _ c.in_ok-at.ensures.found (record { inside = c.in_ok-cluster-2.cluster; spelled = record { middle = c.in_ok-cluster.end; left = c.in_ok-cluster.cluster; first = c.in_ok-cluster.ensures.found; second = (c.in_ok-cluster-2.ensures.found.0, (c.in_ok-cluster-2.ensures.found.1, c.in_ok-cluster-2.ensures.same)) }; value = refl })
