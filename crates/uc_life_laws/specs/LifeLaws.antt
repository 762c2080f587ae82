-- What is in scope keeps what it holds.
use Rattle.std.specs.Prelude.{ℕ, []}
use Rattle.uc_tree.specs.Source.{Source, routine_of}
use Rattle.uc_entry.specs.declared.request.Answer.{Answer}
use Rattle.uc_machine.specs.Quiet.{State, quiet, first_state}
use Rattle.uc_machine.specs.Answering.{answered}
use Rattle.uc_typing.specs.Typing.{Table}
use Rattle.uc_typing.specs.States.{Sound}
use Rattle.uc_life_laws.specs.Knowing.{KnowsState, KnowsStep, Finds}
use Rattle.uc_life_laws.specs.LifeStates.{LifeState, LifeStep, Opens, Clears}
use Rattle.uc_life_laws.specs.Things.{Few}

-- of any table and any source: a task begins so, and each step keeps it that finds what it is to find where a scope opens and where cells start
-- anew; so does each answer
pub record LawSteps : Type 0 where
  pub begins : (t : Table) (few : Few) (source : Source) (r o : ℕ) →
      LifeState t few (first_state (routine_of source r) o)
  pub steps : (t : Table) (few : Few) (source : Source) (s : State) → LifeState t few s →
      Opens t few s → Clears t s → LifeStep t few (quiet source s)
  pub told : (t : Table) (few : Few) (source : Source) (given : Answer) (s : State) →
      LifeState t few s → LifeState t few (answered source given s)

-- of each sound source: in a state in which all is known that its execution can come by, and what is in scope holds what is known, a step leads to
-- one, as far as it finds what it is to find; and what it names in a request has such a number
abbrev pub LawKnown : Type 0
LawKnown = (t : Table) (few : Few) (source : Source) → Sound t source → (s : State) →
    LifeState t few s → (x : KnowsState t few [] s) →
    Finds t few x.sigs x.run.sig x.run.scope s s.run.control x.run.own →
    KnowsStep t few source (quiet source s)
