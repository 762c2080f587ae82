-- Worlds in which each thing that an execution has of others stands in what the one that made it has.
use Rattle.std.specs.Prelude.{◌≡◌, ℕ, ◌<◌, ◌⊎◌, Bool, true, false, List, ◌∷◌}
use Rattle.uc_acts.specs.Journal.{Journal}
use Rattle.uc_acts.specs.Known.{has_ended, task_count}
use Rattle.uc_machine.specs.declared.exec.Exec.{Exec}
use Rattle.uc_machine.specs.declared.exec.Home.TheVariants.{Object}
use Rattle.uc_machine.specs.Pieces.{Value, Active}
use Rattle.uc_meaning.specs.Runs.{World}
use Rattle.uc_typing.specs.Typing.{Ty, Table}
use Rattle.uc_life_laws.specs.Things.{Few, Base, Stands}
use Rattle.uc_life_laws.specs.LifeStates.{EnvBy, MembersBy}
use Rattle.uc_life_laws.specs.Rooted.{LivesBy, Lives, Had, StandsUpwards}
use Rattle.uc_rooted_runs.specs.Makers.{Makers}
use Rattle.uc_rooted_runs.specs.Outlasting.{Outlasts, OutlastEx, HadBefore}

-- an execution lives in the world behind a journal, of the tasks that were spawned and have not ended
abbrev pub IsThere : Journal → World → Exec → List Active → Type 0
IsThere j x n cs = LivesBy (λ u. (u < task_count j) × (has_ended u j ≡ false)) x n cs

-- in the world behind a journal what executions were to clean up as they made others stays with them
pub record OutlastWorld (makers : Makers) (up : Exec → Bool) (j : Journal) (x : World) : Type 0 where
  pub stacks : (u : ℕ) → u < task_count j → has_ended u j ≡ false →
      Outlasts makers up (x.tasks u).env.exec ((x.tasks u).run ∷ (x.tasks u).callers)
  pub tasks : (u : ℕ) → EnvBy (OutlastEx makers up) (x.tasks u).env
  pub homes : (o : ℕ) → MembersBy (OutlastEx makers up) (Object o) (x.homes o)

-- what one that lives has of others, but its own object: it is asked of this one, which was made later than the one that made it; that is there, and
-- the thing stood in what it was to clean up, or had of others, as it made this one, or stands in what it has now
pub record IsBased (t : Table) (few : Few) (makers : Makers) (up : Exec → Bool) (yet : Exec → List Active → Value → Ty → Bool) (j : Journal) (x : World) (n : Exec) (w : Value) (b : Ty) : Type 0 where
  pub asked : up n ≡ true
  pub later : makers.rank (makers.parent n) < makers.rank n
  pub active : List Active
  pub lives : IsThere j x (makers.parent n) active
  pub stood : Stands t few (HadBefore t few makers n) b w ⊎
      Stands t few (Had t few yet (makers.parent n) active) b w

-- then it stands in what that one has
abbrev pub LawUpwards : Type 0
LawUpwards =
    (t : Table) (few : Few) (makers : Makers) (up : Exec → Bool) (j : Journal) (x : World)
    (own : Exec → Value → Ty → Bool) (yet : Exec → List Active → Value → Ty → Bool) → OutlastWorld makers up j x →
    ((n : Exec) (cs : List Active) → Lives j x n cs → (w : Value) (b : Ty) → Base few n w b → own n w b ≡ false →
    IsBased t few makers up yet j x n w b) →
    StandsUpwards t few j x own yet makers.rank
