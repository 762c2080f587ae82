-- What holds at the states of a ride as long as something else held at those before.
use Rattle.std.specs.Prelude.{ℕ, suc}
use Rattle.uc_tree.specs.Source.{Source}
use Rattle.uc_entry.specs.declared.request.Asked.{Asked}
use Rattle.uc_machine.specs.Pieces.{State}
use Rattle.uc_machine.specs.Rides.{Rides, slices, goes_on, ticks, asks}

-- `P` is what is to hold before, `Q` what then holds
abbrev pub RideWhile : (P Q : State → Type 0) (source : Source) (s : State) (q : ℕ) (u : State) (k : ℕ) (a : Asked) →
    Rides source s q u k a → Type 0
RideWhile P Q source _ _ _ _ _ slices = Unit {0}
RideWhile P Q source _ _ _ _ _ (goes_on {s} {t} {u} {q} {k} {a} e rest) = Q s ×
    (P s → RideWhile P Q source t (suc q) u k a rest)
RideWhile P Q source _ _ _ _ _ (ticks {s} {t} {u} {q} {k} {a} e rest) = Q s ×
    (P s → RideWhile P Q source t q u k a rest)
RideWhile P Q source _ _ _ _ _ (asks {s} e) = Q s
