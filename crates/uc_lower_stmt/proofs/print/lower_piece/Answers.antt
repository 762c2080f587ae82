use Rattle.uc_lower_stmt.specs.LowersStatement.{scope_of}
use Rattle.uc_lower_stmt.proofs.Printing.{out_is, piece_endl, piece_value, piece_text, op_endl, op_text, op_value}
use Rattle.uc_lower_stmt.proofs.print.lower_piece.Goals as goal

pub returns-in_ok-put-in-Endl-clause-code : goal.returns-in_ok-put-in-Endl-clause-code
returns-in_ok-put-in-Endl-clause-code c = piece_endl c.args.names.now _ _ c.args.line _ _ (out_is _ _ _ _ c.in-Endl.is c.item.view_is) c.in_ok-put-in-Endl.ensures

pub returns-in_ok-put-in-Endl-clause-op : goal.returns-in_ok-put-in-Endl-clause-op
returns-in_ok-put-in-Endl-clause-op c = op_endl c.args.names.now _ _ (scope_of c.args.out.now) (out_is _ _ _ _ c.in-Endl.is c.item.view_is)

pub returns-in-Literal-clause-code : goal.returns-in-Literal-clause-code
returns-in-Literal-clause-code c = piece_text c.args.names.now _ _ _ c.args.line _ _ (out_is _ _ _ _ c.in-Literal.is c.item.view_is) c.add_text.ensures.counted

pub returns-in-Literal-clause-op : goal.returns-in-Literal-clause-op
returns-in-Literal-clause-op c = op_text c.args.names.now _ _ _ (scope_of c.args.out.now) _ (out_is _ _ _ _ c.in-Literal.is c.item.view_is) c.add_text.ensures.number

pub returns-in_ok-told-in-Value-clause-code : goal.returns-in_ok-told-in-Value-clause-code
returns-in_ok-told-in-Value-clause-code c = piece_value c.args.names.now _ _ c.in-Value.value c.args.line _ _ (out_is _ _ _ _ c.in-Value.is c.item.view_is) c.in_ok-told-in-Value.ensures.code

pub returns-in_ok-told-in-Value-clause-op : goal.returns-in_ok-told-in-Value-clause-op
returns-in_ok-told-in-Value-clause-op c = op_value c.args.names.now _ _ c.in-Value.value (scope_of c.args.out.now) _ _ (out_is _ _ _ _ c.in-Value.is c.item.view_is) c.form.ensures c.in_ok-told-in-Value.ensures.tells
