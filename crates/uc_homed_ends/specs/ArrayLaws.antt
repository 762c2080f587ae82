-- Elements of arrays of mutex objects hold numbers until they are bound, and from then on what is at home there: in steps and in runs.
use Rattle.std.specs.Prelude.{◌≡◌, ℕ, false, List, [], ◌∷◌, drop}
use Rattle.uc_tree.specs.Programs.{Program}
use Rattle.uc_tree.specs.Source.{Source, Then, routine_of}
use Rattle.uc_entry.specs.declared.entry.Options.{Options}
use Rattle.uc_entry.specs.declared.request.Answer.{Answer}
use Rattle.uc_acts.specs.Journal.{Journal, is_over}
use Rattle.uc_acts.specs.KernelRuns.{InRange}
use Rattle.uc_machine.specs.Pieces.{Value, Todo, BindNow, BindMadeNow, SetUpNow, Rest, State, top, below}
use Rattle.uc_machine.specs.Quiet.{quiet, first_state}
use Rattle.uc_machine.specs.Answering.{answered}
use Rattle.uc_meaning.specs.Runs.{World, Runs, drawn}
use Rattle.uc_resolve.specs.Resolve.{source_of}
use Rattle.uc_rules.specs.Breaks.{breaks_of}
use Rattle.uc_sound.specs.SoundFormed.{IsFormed}
use Rattle.uc_sound.specs.Tables.{table_of}
use Rattle.uc_state_laws.specs.Counted.{params}
use Rattle.uc_state_laws.specs.Fitting.{RunFits}
use Rattle.uc_state_laws.specs.Limits.{IsWithinLimits}
use Rattle.uc_state_laws.specs.RoomRuns.{Comes}
use Rattle.uc_state_laws.specs.Opens.{RunMeets, LeadsMeet}
use Rattle.uc_state_laws.specs.ThereStates as there
use Rattle.uc_state_laws.specs.ThereStates.{SourceBegins}
use Rattle.uc_life_laws.specs.Things.{Few}
use Rattle.uc_life_laws.specs.LifeStates.{frame_at}
use Rattle.uc_life_laws.specs.Homes.{home_of}
use Rattle.uc_homed_ends.specs.ArrayHomes.{OpensArray, FillsBy, Each, EachOrBinds, AreFree, ValueSpares, ArrayState, ArrayStep}
use Rattle.uc_homed_ends.specs.Elements.{OpensElements}

module _ (few : Few) (source : Source) where
  -- what is bound spares all elements, or is at home at the one that it is bound to; and where statements begin with one behind which the scope of such
  -- an array opens, that makes its elements, which hold numbers
  abbrev pub SparesAt : List Todo → State → Type 0
  SparesAt (BindNow ∷ todo) s = ValueSpares few EachOrBinds (top s.run.operands) (top (below s.run.operands)) s.run.frame todo s.callers s.env
  SparesAt (BindMadeNow c r ∷ todo) s =
      ValueSpares few Each (top s.run.operands) (top (drop (params source r) (below s.run.operands))) s.run.frame todo s.callers s.env
  SparesAt (SetUpNow r ∷ todo) s = (w : Value) → ValueSpares few Each w s.run.this s.run.frame todo s.callers s.env
  SparesAt (Rest (Then a ss) ∷ todo) s =
      OpensArray (λ k n. FillsBy a × AreFree few s.env.exec (frame_at s.run.frame s.env.frames) s.run.frame k n) ss
  SparesAt todo s = Unit {0}

  -- what a step is to find: that, and what keeps all there that is known by its number
  pub record ArrayFinds (s : State) : Type 0 where
    pub fair : there.Fair source s
    pub spares : SparesAt s.run.control s

-- of any source in which no routine begins with what belongs behind a declaration: a task begins so, each step that finds that keeps it, and so does each
-- answer
pub record LawArraySteps : Type 0 where
  pub begins : (few : Few) (source : Source) → SourceBegins source → (r o : ℕ) →
      ArrayState few (first_state (routine_of source r) o)
  pub steps : (few : Few) (source : Source) → SourceBegins source → (s : State) → ArrayState few s →
      ArrayFinds few source s → ArrayStep few (quiet source s)
  pub told : (few : Few) (source : Source) (given : Answer) (s : State) → ArrayState few s →
      ArrayState few (answered source given s)

-- so each element is at home where the scope of its array opens, with the homes that a run tells in the end, in each run of a program that breaks no rule
-- and is within its limits, as long as all that was asked fits: in each state of each ride, and on the way to each state to which whoever runs comes before
-- it asks, and there
pub record LawArrays : Type 0 where
  pub runs : (p : Program) → IsFormed p → breaks_of p ≡ [] → IsWithinLimits p → (few : Few) →
      (input : List ℕ) (opts : Options) → InRange opts → (j : Journal) (w : World) →
      (r : Runs (source_of p) input opts j w) → RunFits (source_of p) input opts j w r →
      ((o : ℕ) → few.home o ≡ home_of (source_of p) input opts j w r o) →
      RunMeets (OpensElements (table_of p) few) (source_of p) input opts j w r
  pub leads : (p : Program) → IsFormed p → breaks_of p ≡ [] → IsWithinLimits p → (few : Few) →
      (input : List ℕ) (opts : Options) → InRange opts → (j : Journal) (w : World) →
      (r : Runs (source_of p) input opts j w) → RunFits (source_of p) input opts j w r →
      ((o : ℕ) → few.home o ≡ home_of (source_of p) input opts j w r o) →
      is_over j ≡ false → (t : ℕ) (s : State) (c : Comes (source_of p) j w t s) →
      OpensElements (table_of p) few s × LeadsMeet (OpensElements (table_of p) few) (source_of p) (answered (source_of p) c.given (drawn j w t)) s c.leads
