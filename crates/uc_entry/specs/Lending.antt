-- What `List::get_mut` lends.
use Rattle.std.specs.Prelude.{ℕ, slice_set}
use Rattle.std.specs.Borrow.{Lends, MutBor, Fml}
use denote.RattleType.{RattleType}
use Rattle.uc_entry.specs.Listed.{Listed}
use Rattle.uc_entry.specs.contracts.list.List.{the_row}

module _ (X : RattleType) where
  abbrev pub with_item : Listed X.Denot → ℕ → X.Denot → Listed X.Denot
  with_item l i x = record l { items = slice_set l.items i x }

  abbrev pub LendsItem : MutBor (Listed X.Denot) → ℕ → MutBor X.Denot → Fml
  LendsItem s i r = Lends (the_row X) X s r (with_item s.now i)
