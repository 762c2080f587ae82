use Rattle.std.proofs.Common.{rules, Some, ap, sym, ◌∙◌, ◌∷◌}
use Rattle.atomic_table.specs.Table.{rest}
use Rattle.uc_lock.proofs.table.LockTable.take.Goals as goal

pub exchange-value-requires : goal.exchange-value-requires
exchange-value-requires g c = let t = c.wait_turn.ensures.came.2 in let e = ap (λ m. m.1) t.2 in
    (search rules, (Some t.0, e ∙ ap (λ l. (0, Some t.0) ∷ rest l) (sym e)))
