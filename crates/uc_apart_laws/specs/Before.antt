-- Just before an object goes, or is given up, nobody who does not run has it at hand, and nobody who lives is to clean up anything around it.
use Rattle.std.specs.Prelude.{ℕ, ◌==◌, List, [], ◌∷◌, if◌then◌else◌}
use Rattle.uc_tree.specs.Source.{Source}
use Rattle.uc_entry.specs.Keyed.{find}
use Rattle.uc_acts.specs.Journal.{Journal}
use Rattle.uc_machine.specs.declared.exec.Exec.{Exec}
use Rattle.uc_machine.specs.Monitors.{this_object}
use Rattle.uc_machine.specs.Pieces.{Value, Todo, GoneNow, GiveUpNow, Active, State}
use Rattle.uc_meaning.specs.Runs.{World, or_else}
use Rattle.uc_typing.specs.Typing.{Ty, Table}
use Rattle.uc_life_laws.specs.Things.{Few, Base}
use Rattle.uc_life_laws.specs.Belonging.{Belongs}
use Rattle.uc_life_laws.specs.Marks.{Marked, Free}
use Rattle.uc_life_laws.specs.Knowing.{KnowsState}
use Rattle.uc_life_laws.specs.Rooted.{IsBase, Lives}
use Rattle.uc_life_laws.specs.AtHand.{IsApart}
use Rattle.uc_apart_laws.specs.Clear.{IsClearAt}

-- the world while task u has come to a state: what it has in hand is no more at home where it was drawn from
abbrev pub world_at : World → ℕ → State → World
world_at w u s = record {
  tasks = λ v. if v == u then s else w.tasks v;
  homes = λ q. or_else (find q s.env.hand) (w.homes q);
}

module _ (t : Table) (few : Few) (j : Journal) (w : World) (u : ℕ) (s : State) where
  -- an object is at home in what is the own of who runs, and nobody who lives in that world is to clean up anything around it
  pub record IsUnmarked (o : ℕ) : Type 0 where
    pub belongs : Belongs few s.env.exec (few.home o)
    pub free : (n : Exec) (cs : List Active) → Lives j (world_at w u s) n cs → Free t few o (Marked t n cs)

  -- so it is of what goes, or is given up; and of what is let go of, or is entered again to be destroyed, those of whom it is asked are clear
  abbrev pub BeforeAt : Source → KnowsState t few [] s → List Todo → Type 0
  BeforeAt source k (GoneNow ∷ todo) = IsClearAt t few source s k (GoneNow ∷ todo) × IsUnmarked (this_object s)
  BeforeAt source k (GiveUpNow ∷ todo) = IsClearAt t few source s k (GiveUpNow ∷ todo) × IsUnmarked (this_object s)
  BeforeAt source k todo = IsClearAt t few source s k todo

  abbrev pub Before : Source → Type 0
  Before source = (k : KnowsState t few [] s) → BeforeAt source k s.run.control

-- then nobody else has at hand what is let go of in that state, where executions have places alone of others, and objects that are not whole
abbrev pub LawBefore : Type 0
LawBefore =
    (t : Table) (few : Few) (source : Source) → ((n : Exec) (w : Value) (b : Ty) → Base few n w b → IsBase w b) →
    (j : Journal) (w : World) (u : ℕ) (s : State) → Before t few j w u s source →
    (k : KnowsState t few [] s) → IsApart t few source s k
