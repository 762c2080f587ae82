-- When a machine that comes to a switch stands for a state of the source that does.
use Rattle.std.specs.Prelude.{◌≡◌, List, ◌∷◌}
use Rattle.uc_machine.specs.Quiet.{Todo, ResumeNow, SuspendNow, TakeDownNow, Land, FinishCoroutine, State}
use Rattle.uc_code.specs.Layout.{Laid}
use Rattle.uc_frames.specs.Machine.{Machine}
use Rattle.uc_frames.specs.StandsByParts.{Lined}
use Rattle.uc_frames.specs.Stands.{CallerStands, EnvironmentStands, Stands}

-- what a resume or a suspend leaves to do
abbrev pub landing : List Todo → List Todo
landing todo = Land ∷ todo

-- what the destruction of a coroutine leaves to do
abbrev pub onward : List Todo → List Todo
onward todo = todo

module _ (code : Laid) where
  -- the next piece is this switch; the machine stands behind its op for what it leaves to do
  pub record SwitchStands (p : Todo) (behind : List Todo → List Todo) (m : Machine) (s : State) : Type 0 where
    pub rest : List Todo
    pub todo : s.run.control ≡ p ∷ rest
    pub stands : Stands code m (record s { run = record s.run { control = behind rest } })

  abbrev pub Resumes : Machine → State → Type 0
  Resumes = SwitchStands ResumeNow landing

  abbrev pub Suspends : Machine → State → Type 0
  Suspends = SwitchStands SuspendNow landing

  abbrev pub TakesDown : Machine → State → Type 0
  TakesDown = SwitchStands TakeDownNow onward

  -- the main of a coroutine ends, behind which nothing is to do
  pub record EndsCoroutine (m : Machine) (s : State) : Type 0 where
    pub rest : List Todo
    pub todo : s.run.control ≡ FinishCoroutine ∷ rest
    pub callers : Lined (CallerStands code) m.callers s.callers
    pub env : EnvironmentStands code m.env s.env
