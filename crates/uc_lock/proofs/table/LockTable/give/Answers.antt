use Rattle.std.proofs.Common.{rules, None, Some, ap, sym, refl, ◌∙◌, ◌∷◌, []}
use Rattle.atomic_table.specs.Table.{rest}
use Rattle.uc_lock.specs.Journals.{made_by}
use Rattle.uc_lock.specs.declared.view.Stage.TheVariants.{Idle}
use Rattle.uc_lock.proofs.Moves.{gives_back_at, empty_slot}
use Rattle.uc_lock.proofs.table.LockTable.give.Goals as goal

pub exchange-empty-requires : goal.exchange-empty-requires
exchange-empty-requires g c = let h = c.requires.seat.1 in (c.requires.seat.0, (None, h ∙ ap (λ l. (0, None) ∷ rest l) (sym h)))

pub unreachable-requires : goal.unreachable-requires
unreachable-requires g c = empty_slot _ _ _ c.requires.seat.1 c.exchange-empty.ensures.2 c.in_default.is

pub store-requires : goal.store-requires
store-requires g c = let t = c.requires.turn in
    let is = c.exchange-empty.ensures.3 ∙ ap (λ l. (c.args.seat.now.me.0, (0, Some c.args.value) ∷ rest l)) c.requires.seat.1 in
    (search rules, search rules, gives_back_at g.V.Journaled.key_of g.V.Journaled.journal_of _ _ _ _ c.args.seat.now.me.0 t.0 c.args.ticket _ c.args.value is c.args.self.now.sized.1 t.1 c.requires.unspent t.2 refl c.requires.key c.requires.journal)

pub returns-clause-gave : goal.returns-clause-gave
returns-clause-gave g c = let is = c.exchange-empty.ensures.3 ∙ ap (λ l. (c.args.seat.now.me.0, (0, Some c.args.value) ∷ rest l)) c.requires.seat.1 in
    c.store.ensures.2 c.args.value (ap (λ m. m.1) is) ∙ ap (λ m. (record m.0 { stage = Idle; seen = g.V.Journaled.journal_of c.args.value; own = made_by m.0.number (g.V.Journaled.journal_of c.args.value) }, [])) is
