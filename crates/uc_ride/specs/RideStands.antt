-- Rides of a task, by what its machine stands for.
use Rattle.std.specs.Prelude.{◌≡◌, ℕ, ◌-◌, Option, Some, None, slice_get}
use Rattle.uc_tree.specs.Source.{Source}
use Rattle.uc_entry.specs.declared.request.Asked.{Asked}
use Rattle.uc_entry.specs.declared.request.Request.{Request}
use Rattle.uc_entry.specs.declared.request.Request.TheVariants as ask
use Rattle.uc_machine.specs.Quiet.{State}
use Rattle.uc_machine.specs.Answering.{child_of}
use Rattle.uc_machine.specs.Rides.{Rides}
use Rattle.uc_code.specs.declared.op.Op.{Op}
use Rattle.uc_code.specs.declared.op.Op.TheVariants as op
use Rattle.uc_code.specs.declared.rows.Instruction.{Instruction}
use Rattle.uc_code.specs.declared.rows.RoutineCode.{RoutineCode}
use Rattle.uc_code.specs.Codes.{Code}
use Rattle.uc_code.specs.Layout.{Laid, laid_of}
use Rattle.uc_code.specs.Lowered.{Lowered}
use Rattle.uc_frames.specs.Machine.{Machine}
use Rattle.uc_frames.specs.Stands.{Stands, Rests}
use Rattle.uc_step.specs.Simulation.{StandsAfter, Onward}

-- the object of the task that a request spawns, if it spawns one
abbrev pub spawned_by : Request → Option ℕ
spawned_by (ask.Spawn o) = Some o
spawned_by _ = None

-- the main that an op names which spawns a task
abbrev pub main_in : Op → Option ℕ
main_in (op.Spawn r) = Some r
main_in _ = None

abbrev pub main_at : Option Instruction → Option ℕ
main_at None = None
main_at (Some i) = main_in i.op

abbrev pub routine_in : Code → Option ℕ → Option RoutineCode
routine_in code None = None
routine_in code (Some r) = slice_get code.routines r

-- the code of the main that the op before the next one names
abbrev pub main_behind : Code → Machine → Option RoutineCode
main_behind code m = routine_in code (main_at (slice_get code.ops (m.run.control - 1)))

module _ (source : Source) (code : Laid) where
  -- a task is made where one is spawned, and nowhere else; it stands for the one that the source makes from this state
  abbrev pub BornBy : Option ℕ → Option Machine → State → Type 0
  BornBy None child s = child ≡ None
  BornBy (Some o) None s = ⊥
  BornBy (Some o) (Some m) s = Stands code m (child_of source o s)

  abbrev pub BornAs : Request → Option Machine → State → Type 0
  BornAs r child s = BornBy (spawned_by r) child s

  -- from this state, with at most so many ticks, the task makes these ticks and then asks this, and the machine stands for the
  -- state that it is then in
  pub record Led (s : State) (quantum ticks : ℕ) (asked : Asked) (m : Machine) : Type 0 where
    pub reached : State
    pub rides : Rides source s quantum reached ticks asked
    pub stands : StandsAfter code asked.request m reached

  -- with the task that it makes
  pub record Rode (s : State) (quantum ticks : ℕ) (asked : Asked) (m : Machine) (child : Option Machine) : Type 0 where
    pub reached : State
    pub rides : Rides source s quantum reached ticks asked
    pub stands : StandsAfter code asked.request m reached
    pub born : BornAs asked.request child reached

  -- with so many ticks left
  pub record OnWay (s : State) (quantum left : ℕ) (m : Machine) : Type 0 where
    pub now : State
    pub onward : Onward source quantum left s now
    pub rests : Rests code m now

-- for each source whose code this is, and each state in which the first machine rests: a ride begins where the last one ended, which may
-- be where what was made is bound
module _ (code : Code) where
  abbrev pub IsOnWay : ℕ → ℕ → Machine → Machine → Type 0
  IsOnWay quantum left old m = (source : Source) (s : State) → Lowered source code → Rests (laid_of code) old s → OnWay source (laid_of code) s quantum left m

  abbrev pub HasRidden : ℕ → Machine → ℕ → Asked → Machine → Type 0
  HasRidden quantum old ticks asked m = (source : Source) (s : State) → Lowered source code → Rests (laid_of code) old s → Led source (laid_of code) s quantum ticks asked m
