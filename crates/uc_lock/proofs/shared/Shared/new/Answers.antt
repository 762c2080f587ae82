use Rattle.std.proofs.Common.{◌≡◌, [], ◌∷◌, ◌++◌, List, Option, Some, ap, sym, ◌∙◌, subst, arith}
use Rattle.atomic_table.specs.Table.{opening}
use Rattle.uc_lock.specs.Rule.{Kept, opened}
use Rattle.uc_lock.proofs.Seats.{opens, terms_of}
use Rattle.uc_lock.proofs.shared.Shared.new.Goals as goal

pub new-requires : goal.new-requires
new-requires g c = let key = g.V.Journaled.key_of in let journal = g.V.Journaled.journal_of in let count = c.requires.seats.0 in
    let items : c.push_reserved.new.self.items ≡ Some c.args.v ∷ [] = c.push_reserved.ensures.items ∙ ap (λ xs. xs ++ Some c.args.v ∷ []) c.in_ok-slots.ensures.items in
    subst (λ (xs : List (Option g.row.V.Denot)). Kept key journal (terms_of key journal c.args.seats c.of.result.value) (opening (0 ∷ 0 ∷ []) xs (opened (terms_of key journal c.args.seats c.of.result.value)))) (sym items)
    (subst (λ (x : g.row.V.Denot). Kept key journal (terms_of key journal c.args.seats x) (opening (0 ∷ 0 ∷ []) (Some c.args.v ∷ []) (opened (terms_of key journal c.args.seats x)))) (sym c.of.ensures)
    (opens key journal c.args.seats c.args.v c.requires.makers (omega arith)))
