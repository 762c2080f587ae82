use Rattle.uc_parse_class.specs.Forms.{marked_form}
use Rattle.std.proofs.lemmas.Result.{err_from_is_err_and}
use Rattle.uc_grammar.specs.Form.{Fails}
use Rattle.uc_grammar.specs.Grammar.{inner, faults}
use Rattle.std.proofs.Common.{inl, inr}
use Rattle.uc_parse_class.proofs.class.read_marked.Goals as goal

pub returns-in_err-form-clause-fails : goal.returns-in_err-form-clause-fails
returns-in_err-form-clause-fails c = let h : Fails (inner c.args.room) (faults c.args.room) (marked_form c.args.pos) c.args.tokens.now c.args.from c.in_err-form.field-0.0 = inr (inl (c.skip_mark-mark.result.1, c.skip_mark-mark.result.0, c.skip_mark-mark.ensures.found c.args.room, inl c.in_err-form.ensures.fails)) in
    let p = err_from_is_err_and c.from_residual.result c.from_residual.ensures.1 in rw (p.1, p.2) h
