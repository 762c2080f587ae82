use Rattle.std.proofs.lemmas.Result.{IfOk-at_ok}
use Rattle.uc_check_index.proofs.index.named_in.Goals as goal

pub returns : goal.returns
returns c =
    let classes = IfOk-at_ok _ c.in_ok-classes.ensures.made.0 c.both.ensures.made in
    let others = IfOk-at_ok _ c.in_ok-classes.ensures.made.1 c.both-4.ensures.made in
    let routines = IfOk-at_ok _ others.0 c.both-2.ensures.made in
    let constants = IfOk-at_ok _ others.1 c.both-3.ensures.made in
    record {
      classes_are = IfOk-at_ok _ classes.0 c.firsts_by_name-classes.ensures;
      forwards_are = IfOk-at_ok _ classes.1 c.firsts_by_name-forwards.ensures;
      routines_are = IfOk-at_ok _ routines.0 c.firsts_by_name-routines.ensures;
      protos_are = IfOk-at_ok _ routines.1 c.firsts_by_name-protos.ensures;
      constants_are = IfOk-at_ok _ constants.0 c.firsts_by_name-constants.ensures;
      builders_are = IfOk-at_ok _ constants.1 c.firsts_by_name-builders.ensures;
    }
