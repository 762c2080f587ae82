use Rattle.std.proofs.Common.{arith}
use Rattle.std.proofs.lemmas.Result.{err_from_is_err_and}
use Rattle.uc_grammar.specs.Names.{part_name, ClassPart}
use Rattle.uc_grammar.specs.Grammar.{faults}
use Rattle.uc_parse_expr.proofs.Steps.{deeper, deeper_fails, no_room}
use Rattle.uc_parse_class.proofs.class.read_inner_part.Goals as goal

pub returns-then-room-eq0-clause-fails : goal.returns-then-room-eq0-clause-fails
returns-then-room-eq0-clause-fails c = rw c.if-room-eq0.true (no_room ClassPart part_name c.args.tokens.now c.args.from)

pub returns-in_err-part-clause-fails : goal.returns-in_err-part-clause-fails
returns-in_err-part-clause-fails c = let h : faults c.args.room ClassPart part_name c.args.tokens.now c.args.from c.in_err-part.field-0.0 = deeper_fails ClassPart part_name c.args.room c.args.tokens.now c.args.from _ (omega arith) c.in_err-part.ensures.fails in
    let p = err_from_is_err_and c.from_residual.result c.from_residual.ensures.1 in rw (p.1, p.2) h

pub returns-clause-found : goal.returns-clause-found
returns-clause-found c = deeper ClassPart part_name c.args.room c.args.tokens.now c.args.from _ _ (omega arith) c.in_ok-part.ensures.found
