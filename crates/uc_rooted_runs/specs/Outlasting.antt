-- What an execution was to clean up as it made another stays with it: those marks are the outermost ones of what it is to clean up.
use Rattle.std.specs.Prelude.{◌≡◌, ◌⊎◌, Bool, true, List, [], ◌∷◌}
use Rattle.uc_machine.specs.declared.exec.Exec.{Exec}
use Rattle.uc_machine.specs.declared.exec.Owner.TheVariants.{Frame}
use Rattle.uc_machine.specs.Executions.{Execution}
use Rattle.uc_machine.specs.Pieces.{Value, Todo, sort, Active, Env}
use Rattle.uc_typing.specs.Typing.{Ty, Table}
use Rattle.uc_life_laws.specs.Things.{Few, AtField, IsFor, Marks, NoBase, InStack, Base, Stands}
use Rattle.uc_life_laws.specs.LifeStates.{EnvBy}
use Rattle.uc_life_laws.specs.Placed.{Placed, stacked, Ends}
use Rattle.uc_rooted_runs.specs.Makers.{Makers}

-- `up x`: of this execution it is asked
module _ (makers : Makers) (up : Exec → Bool) where
  -- in what an execution of this name has to do
  abbrev pub Outlasts : Exec → List Active → Type 0
  Outlasts n cs = (x : Exec) → up x ≡ true → makers.parent x ≡ n → Ends (makers.before x) (stacked cs)

  abbrev pub OutlastEx : Exec → Execution (List Todo) Value → Type 0
  OutlastEx n x = Outlasts n (x.run ∷ x.callers)

-- things of marks, and what the execution has of others
abbrev pub InPlaced : Table → Exec → List Placed → Value → Ty → Type 0
InPlaced t n [] w a = ⊥
InPlaced t n (p ∷ ps) w a = Marks (IsFor t (Frame n p.frame) p.this) (AtField t (Frame n p.frame) p.this) (sort p.mark) w a (InPlaced t n ps w a)

abbrev pub HadBefore : Table → Few → Makers → Exec → Value → Ty → Type 0
HadBefore t few makers x w a = InPlaced t (makers.parent x) (makers.before x) w a ⊎ Base few (makers.parent x) w a

-- no execution that does not run has the name of the running one
abbrev pub IsAlone : Env → Type 0
IsAlone e = EnvBy (λ n x. n ≡ e.exec → ⊥) e

-- so what stands in what one was to clean up as it made another, or had of others, stands in what it is to clean up, or has of others
abbrev pub LawOutlasting : Type 0
LawOutlasting =
    (t : Table) (few : Few) (makers : Makers) (up : Exec → Bool) (n : Exec) (cs : List Active) →
    Outlasts makers up n cs → (x : Exec) → up x ≡ true → makers.parent x ≡ n → (w : Value) (a : Ty) →
    Stands t few (HadBefore t few makers x) a w →
    Stands t few (λ w a. InStack (IsFor t) (AtField t) NoBase n cs w a ⊎ Base few n w a) a w
