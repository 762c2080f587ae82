-- What is in scope and known by its number stays what it is.
use Rattle.std.specs.Prelude.{◌≡◌, ℕ, Bool, true}
use Rattle.uc_tree.specs.Source.{Source, routine_of}
use Rattle.uc_entry.specs.declared.request.Answer.{Answer}
use Rattle.uc_entry.specs.declared.request.Answer.TheVariants as answer
use Rattle.uc_machine.specs.Quiet.{State, quiet, first_state}
use Rattle.uc_machine.specs.Answering.{answered}
use Rattle.uc_state_laws.specs.ThereStates.{CountedState, SourceBegins, Fair}
use Rattle.uc_state_laws.specs.FillingStates.{FillingBy, FillWaits}
use Rattle.uc_state_laws.specs.NewClusters.{OpeningBy, WaitingBy, GoodBy, GoodStepBy}

-- of any source in which no routine begins with what belongs behind the declaration of a cluster: a task begins with all there, and each
-- step that finds what it is to find keeps that, also on the way from the declaration of a cluster to its scope, and while an array is filled;
-- so does each answer, and who waits for a new object is told of one. Of the numbers of clusters any may be chosen that are so: those of variables are, where each answer
-- tells a new cluster of one of these numbers
pub record LawSteps : Type 0 where
  pub begins : (few : ℕ → Bool) (source : Source) → SourceBegins source → (r o : ℕ) →
      CountedState few (first_state (routine_of source r) o)
  pub steps : (few : ℕ → Bool) (source : Source) → SourceBegins source → (s : State) →
      GoodBy few s → Fair source s → GoodStepBy few (quiet source s)
  pub told : (few : ℕ → Bool) (source : Source) (given : Answer) (s : State) → CountedState few s →
      CountedState few (answered source given s)
  pub waited : (few : ℕ → Bool) (source : Source) (o : ℕ) (s : State) → few o ≡ true →
      WaitingBy few s → OpeningBy few (answered source (answer.Object o) s)
  pub filled : (few : ℕ → Bool) (source : Source) (o : ℕ) (s : State) → FillWaits few s →
      FillingBy few (answered source (answer.Object o) s)
