use Rattle.std.proofs.lemmas.Result.{IfOk-at_ok}
use Rattle.uc_check_index.proofs.index.keyed_in.Goals as goal

pub returns : goal.returns
returns c =
    let kinds = c.in_ok-kinds.ensures.made in
    let others = IfOk-at_ok _ kinds.1 c.both-3.ensures.made in
    let protos = IfOk-at_ok _ others.0 c.both.ensures.made in
    let members = IfOk-at_ok _ others.1 c.both-2.ensures.made in
    record {
      kinds_are = IfOk-at_ok _ kinds.0 c.firsts_by_key-kinds.ensures;
      protos_are = IfOk-at_ok _ protos.0 c.firsts_by_key-protos.ensures;
      routines_are = IfOk-at_ok _ protos.1 c.firsts_by_key-routines.ensures;
      members_are = IfOk-at_ok _ members.0 c.firsts_by_key-members.ensures;
      sigs_are = IfOk-at_ok _ members.1 c.firsts_by_key-member_sigs.ensures;
    }
