use Rattle.uc_parse_simple.proofs.Steps.{behind_fails}
use Rattle.uc_tree.specs.declared.token.TokenKind.TheVariants as token
use Rattle.uc_tree.specs.declared.token.Sign.TheVariants as sign
use Rattle.uc_tree.specs.declared.token.Word.TheVariants as word
use Rattle.uc_tree.specs.Programs as prog
use Rattle.uc_grammar.specs.Form.{empty, expect, Fails}
use Rattle.uc_grammar.specs.Grammar.{using_rest, inner, faults}
use Rattle.std.proofs.lemmas.Result.{err_from_is_err_and}
use Rattle.std.proofs.Common.{inl}
use Rattle.uc_parse_class.proofs.item.read_using.Goals as goal

pub returns-in_err-std-clause-fails : goal.returns-in_err-std-clause-fails
returns-in_err-std-clause-fails c = let h : Fails (inner c.args.room) (faults c.args.room) (using_rest c.args.pos) c.args.tokens.now c.args.from c.in_err-std.field-0.0 = behind_fails c.args.room c.args.tokens.now (token.Word word.Namespace) (expect (token.Word word.Std) (expect (token.Sign sign.Semicolon) (empty (prog.UsingItem c.args.pos)))) c.args.from c.in_ok-namespace.namespace _ c.in_ok-namespace.ensures.found (inl c.in_err-std.ensures.fails) in
    let p = err_from_is_err_and c.from_residual-in_err-std.result c.from_residual-in_err-std.ensures.1 in rw (p.1, p.2) h

pub returns-in_err-to-clause-fails : goal.returns-in_err-to-clause-fails
returns-in_err-to-clause-fails c = let h : Fails (inner c.args.room) (faults c.args.room) (using_rest c.args.pos) c.args.tokens.now c.args.from c.in_err-to.field-0.0 = behind_fails c.args.room c.args.tokens.now (token.Word word.Namespace) (expect (token.Word word.Std) (expect (token.Sign sign.Semicolon) (empty (prog.UsingItem c.args.pos)))) c.args.from c.in_ok-namespace.namespace _ c.in_ok-namespace.ensures.found (behind_fails c.args.room c.args.tokens.now (token.Word word.Std) (expect (token.Sign sign.Semicolon) (empty (prog.UsingItem c.args.pos))) c.in_ok-namespace.namespace c.in_ok-std.std _ c.in_ok-std.ensures.found (inl c.in_err-to.ensures.fails)) in
    let p = err_from_is_err_and c.from_residual-in_err-to.result c.from_residual-in_err-to.ensures.1 in rw (p.1, p.2) h
