use Rattle.std.proofs.lemmas.Result.{on_ok_weaker}
use Rattle.uc_lower_expr.proofs.Arms.{convert_as, convert_binding, convert_none}
use Rattle.uc_lower_expr.proofs.put.put_conversion.Goals as goal

pub returns-in-Number : goal.returns-in-Number
returns-in-Number c = convert_none _ _ _ c.in-Number.is

pub returns-in-Character : goal.returns-in-Character
returns-in-Character c = on_ok_weaker c.put.result (convert_as _ _ _ _ _ c.in-Character.is) c.put.ensures

pub returns-in-Truth : goal.returns-in-Truth
returns-in-Truth c = on_ok_weaker c.put-in-Truth.result (convert_as _ _ _ _ _ c.in-Truth.is) c.put-in-Truth.ensures

pub returns-in-Binding : goal.returns-in-Binding
returns-in-Binding c = convert_binding _ _ _ c.in-Binding.is
