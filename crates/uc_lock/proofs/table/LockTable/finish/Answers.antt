use Rattle.std.proofs.Common.{◌∙◌, sym, ap, subst}
use Rattle.std.specs.Option.{is_some}
use Rattle.uc_lock.specs.Rule.{Ends}
use Rattle.uc_lock.proofs.Moves.{same_some}
use Rattle.uc_lock.proofs.Seats.{last_value}
use Rattle.uc_lock.proofs.table.LockTable.finish.Goals as goal

pub unwrap-value-requires : goal.unwrap-value-requires
unwrap-value-requires g c = let f = last_value g.V.Journaled.key_of g.V.Journaled.journal_of _ _ _ _ _ _ c.close_with-closed.ensures.values.2 c.take.ensures.value c.requires.idle.0 c.requires.idle.1 c.requires.all in ap is_some f.1

pub returns : goal.returns
returns g c = let f = last_value g.V.Journaled.key_of g.V.Journaled.journal_of _ _ _ _ _ _ c.close_with-closed.ensures.values.2 c.take.ensures.value c.requires.idle.0 c.requires.idle.1 c.requires.all in
    subst (Ends g.V.Journaled.key_of g.V.Journaled.journal_of c.args.seat.me.0) (same_some _ _ (sym f.1 ∙ c.unwrap-value.ensures)) f.2
