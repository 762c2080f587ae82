use Rattle.uc_lower_expr.proofs.program_names.RoutinesByName.new.Goals as goal

pub returns : goal.returns
returns c = λ ds routines owners. record {
  alone_are = c.in_ok-alone.ensures ds routines owners;
  long = c.in_ok-tables.ensures.long;
  each = λ number t e. c.in_ok-tables.ensures.each ds number t routines owners e;
  builders_are = c.in_ok-builders.ensures ds routines owners;
}
