-- At each step of a run nobody else has at hand what is let go of, where those of whom it is asked are clear of it.
use Rattle.std.proofs.Common.{ℕ, List, [], ◌∷◌}
use Rattle.uc_tree.specs.Source.{Source}
use Rattle.uc_acts.specs.Journal.{Journal}
use Rattle.uc_machine.specs.declared.exec.Exec.{Exec}
use Rattle.uc_machine.specs.Pieces as piece
use Rattle.uc_machine.specs.Pieces.{Value, Todo, State}
use Rattle.uc_meaning.specs.Runs.{World}
use Rattle.uc_typing.specs.Typing.{Ty, Table}
use Rattle.uc_life_laws.specs.Things.{Few, Base}
use Rattle.uc_life_laws.specs.Knowing.{KnowsState}
use Rattle.uc_life_laws.specs.Rooted.{IsBase}
use Rattle.uc_life_laws.specs.AtHand.{IsApart}
use Rattle.uc_apart_laws.specs.Clear.{IsClearAt}
use Rattle.uc_apart_laws.specs.Before.{BeforeAt, Before, LawBefore}
use Rattle.uc_apart_laws.proofs.Clear.{law_clear}

module _ (t : Table) (few : Few) (source : Source) (places : (n : Exec) (w : Value) (b : Ty) → Base few n w b → IsBase w b) where
  module _ (j : Journal) (w : World) (u : ℕ) where
    pub apart : (s : State) → Before t few j w u s source → (k : KnowsState t few [] s) → IsApart t few source s k
    apart s h k = law_clear.step t few places source s k (by s.run.control (h k))
      where
        by : (l : List Todo) → BeforeAt t few j w u s source k l → IsClearAt t few source s k l
        by [] f = f
        by (piece.GoneNow ∷ todo) f = f.0
        by (piece.GiveUpNow ∷ todo) f = f.0
        by (p ∷ todo) f = f

pub law_before : LawBefore
law_before t few source places j w u = apart t few source places j w u
