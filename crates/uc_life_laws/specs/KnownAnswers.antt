-- What is known goes on to be so with each answer that suits what was asked, and where a task begins.
use Rattle.std.specs.Prelude.{◌≡◌, ℕ, true, [], Option, Some, None}
use Rattle.uc_tree.specs.Source.{Source, routine_of}
use Rattle.uc_entry.specs.declared.request.Request.{Request}
use Rattle.uc_entry.specs.declared.request.Request.TheVariants as ask
use Rattle.uc_entry.specs.declared.request.Answer.{Answer}
use Rattle.uc_entry.specs.declared.request.Answer.TheVariants as answer
use Rattle.uc_machine.specs.Quiet.{State, first_state}
use Rattle.uc_machine.specs.Answering.{answered, child_main, child_of}
use Rattle.uc_typing.specs.Typing.{Obj, Clu, Pro, Table, Raw}
use Rattle.uc_typing.specs.States.{IsTask, Suits, Sound}
use Rattle.uc_life_laws.specs.Knowing.{KnowsState, KnowsAsked, HasObject}
use Rattle.uc_life_laws.specs.Things.{Few}

module _ (t : Table) (few : Few) where
  -- what is answered has such a number: a mutex object of the class that was asked for, a cluster, a processor
  abbrev pub Passes : Request → Answer → Type 0
  Passes (ask.Make m) (answer.Object o) = (c : ℕ) → t.number c ≡ m → few.numbers (Raw c) o ≡ true
  Passes ask.Cluster (answer.Object o) = few.numbers Clu o ≡ true
  Passes (ask.Processor c) (answer.Object o) = few.numbers Pro o ≡ true
  Passes q a = Unit {0}

  -- so has the object of a main, and its task has it at hand
  abbrev pub MainPasses : Option ℕ → ℕ → Type 0
  MainPasses None o = Unit {0}
  MainPasses (Some c) o = (few.numbers (Raw c) o ≡ true) × (few.numbers (Obj c) o ≡ true) × HasObject t few (Some c) o

-- all stays known with an answer that suits what was asked; and all is known in a task that begins, with this main, or since it is spawned
pub record LawAnswers : Type 0 where
  pub told : (t : Table) (few : Few) (source : Source) (q : Request) (a : Answer) (s : State) →
      KnowsAsked t few source q s → Suits q a → Passes t few q a → KnowsState t few [] (answered source a s)
  pub begins : (t : Table) (few : Few) (source : Source) → Sound t source → (r o : ℕ) → IsTask t r →
      MainPasses t few (t.routine r).this o → KnowsState t few [] (first_state (routine_of source r) o)
  pub spawned : (t : Table) (few : Few) (source : Source) → Sound t source → (o n : ℕ) (s : State) →
      KnowsAsked t few source (ask.Spawn o) s →
      MainPasses t few (t.routine (child_main source s.run.control)).this n →
      KnowsState t few [] (child_of source n s)
