-- What `Held::value` lends.
use Rattle.std.specs.Borrow.{Lends, MutBor, Fml}
use denote.RattleType.{RattleType}
use Rattle.uc_lock.specs.contracts.seat.Held.{the_row}

module _ (V : RattleType) where
  abbrev pub LendsValue : MutBor V.Denot → MutBor V.Denot → Fml
  LendsValue s r = Lends (the_row V) V s r (λ w. w)
