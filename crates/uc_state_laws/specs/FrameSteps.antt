-- What the steps of a task keep of its frames.
use Rattle.std.specs.Prelude.{ℕ}
use Rattle.uc_tree.specs.Source.{Source, routine_of}
use Rattle.uc_entry.specs.declared.request.Answer.{Answer}
use Rattle.uc_machine.specs.Quiet.{State, quiet, first_state}
use Rattle.uc_machine.specs.Answering.{answered}
use Rattle.uc_state_laws.specs.FrameSizes.{SourceFits, StateFits, StepFits}

-- of any source of which no routine takes more: a task begins with frames of no more cells than a number, and each step and each answer
-- keep that, of all its executions
pub record LawSteps : Type 0 where
  pub begins : (most : ℕ) (source : Source) → SourceFits most source → (r o : ℕ) →
      StateFits most (first_state (routine_of source r) o)
  pub steps : (most : ℕ) (source : Source) → SourceFits most source → (s : State) →
      StateFits most s → StepFits most (quiet source s)
  pub told : (most : ℕ) (source : Source) (given : Answer) (s : State) → StateFits most s →
      StateFits most (answered source given s)
