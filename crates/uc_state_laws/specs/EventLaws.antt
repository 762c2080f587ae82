-- What tasks raise at tasks: the number of an event where one is expected, in any source in which arguments are counted.
use Rattle.std.specs.Prelude.{◌≡◌, ℕ, false, List}
use Rattle.uc_tree.specs.Programs.{Site}
use Rattle.uc_tree.specs.Source.{Source, routine_of}
use Rattle.uc_entry.specs.declared.entry.Options.{Options}
use Rattle.uc_entry.specs.declared.request.Answer.{Answer}
use Rattle.uc_entry.specs.declared.request.Asked.{Asked}
use Rattle.uc_acts.specs.Journal.{Journal, is_over}
use Rattle.uc_acts.specs.KernelRuns.{InRange}
use Rattle.uc_machine.specs.Quiet.{State, quiet, first_state}
use Rattle.uc_machine.specs.Answering.{answered}
use Rattle.uc_machine.specs.Rides.{Rides}
use Rattle.uc_meaning.specs.Runs.{World, Runs as RunsIn, AsksIn}
use Rattle.uc_typing.specs.Typing.{Table}
use Rattle.uc_typing.specs.States.{Sound}
use Rattle.uc_answer_laws.specs.Suiting.{Form, IsForm}
use Rattle.uc_site_laws.specs.Named.{NamedSource}
use Rattle.uc_site_laws.specs.Resting.{AllWait, RestsEnv}
use Rattle.uc_state_laws.specs.Fitting.{RunFits}
use Rattle.uc_state_laws.specs.Counted.{CountedSource}
use Rattle.uc_state_laws.specs.Marked.{operands, Finds, Runs, Waits, EventKnown, MarkedState, MarkedAsk, MarkedStep}

-- of any source in which arguments are counted, and events that are raised at others have numbers below 64
pub record LawSteps : Type 0 where
  pub begins : (source : Source) → CountedSource source → (r o : ℕ) →
      MarkedState source (first_state (routine_of source r) o)
  pub steps : (source : Source) → CountedSource source → (s : State) → MarkedState source s →
      MarkedStep source (quiet source s)
  pub told : (source : Source) (form : Form) (given : Answer) (s : State) → IsForm form given →
      Finds source (operands form) s.run → AllWait (Runs source) (Waits source) s.callers →
      RestsEnv (Runs source) (Waits source) s.env → MarkedState source (answered source given s)
  pub rides : (source : Source) → CountedSource source → (s u : State) (q k : ℕ) (a : Asked) →
      Rides source s q u k a → MarkedState source s → MarkedAsk source a.request u

-- a source that is in order for some table, and of which all names are known, is such a one
abbrev pub LawCounted : Type 0
LawCounted =
    (sites : List Site) (source : Source) (table : Table) → Sound table source →
    NamedSource sites source → CountedSource source

-- in every run of such a source, as long as all that was asked before fits, what is raised at a task is an event by a number that there
-- may be
abbrev pub LawEvents : Type 0
LawEvents =
    (source : Source) → CountedSource source → (input : List ℕ) (opts : Options) → InRange opts →
    (j : Journal) (w : World) (r : RunsIn source input opts j w) → RunFits source input opts j w r →
    is_over j ≡ false → (p t n : ℕ) (s : State) (asked : Asked) →
    AsksIn source opts j w p t n s asked → EventKnown asked.request
