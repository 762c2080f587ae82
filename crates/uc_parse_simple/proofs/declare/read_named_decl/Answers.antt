use Rattle.std.proofs.Common.{inl}
use Rattle.std.proofs.lemmas.Result.{err_from_is_err_and}
use Rattle.uc_grammar.specs.Form.{Fails}
use Rattle.uc_grammar.specs.Grammar.{inner, faults}
use Rattle.uc_parse_simple.specs.Forms.{named_decl}
use Rattle.uc_parse_simple.proofs.declare.read_named_decl.Goals as goal

pub returns-in_err-declarators-clause-fails : goal.returns-in_err-declarators-clause-fails
returns-in_err-declarators-clause-fails c = let h : Fails (inner c.args.room) (faults c.args.room) (named_decl c.args.pos c.args.name.now) c.args.tokens.now c.args.from c.in_err-declarators.field-0.0 = inl c.in_err-declarators.ensures.fails in
    let p = err_from_is_err_and c.from_residual-in_err-declarators.result c.from_residual-in_err-declarators.ensures.1 in rw (p.1, p.2) h
