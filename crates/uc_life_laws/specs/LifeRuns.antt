-- Runs of programs in which what is in scope holds what is known, and the cells that things lie in.
use Rattle.std.specs.Prelude.{◌≡◌, ℕ, ◌+◌, ◌*◌, ◌≤◌, ◌<◌, List, [], Some}
use Rattle.uc_tree.specs.Programs.{Program}
use Rattle.uc_tree.specs.Source.{Source, shape_cells, field_cells}
use Rattle.uc_entry.specs.declared.entry.Options.{Options}
use Rattle.uc_acts.specs.Journal.{Journal}
use Rattle.uc_machine.specs.declared.exec.Home.TheVariants.{Object}
use Rattle.uc_machine.specs.Quiet.{State}
use Rattle.uc_machine.specs.Answering.{answered}
use Rattle.uc_meaning.specs.Runs.{World, Runs, drawn}
use Rattle.uc_resolve.specs.Resolve.{source_of}
use Rattle.uc_rules.specs.Breaks.{breaks_of}
use Rattle.uc_state_laws.specs.Layout.{Sized}
use Rattle.uc_state_laws.specs.RoomStacks.{StackState}
use Rattle.uc_state_laws.specs.RoomRuns.{Comes}
use Rattle.uc_state_laws.specs.Opens.{RunMeets, LeadsMeet}
use Rattle.uc_typing.specs.Typing.{Ty, Num, Cell, Obj, Raw, Row, Clu, Pro, Table, element_shape}
use Rattle.uc_sound.specs.SoundFormed.{IsFormed}
use Rattle.uc_sound.specs.Tables.{table_of}
use Rattle.uc_life_laws.specs.Things.{Few, IsField}
use Rattle.uc_life_laws.specs.LifeStates.{LifeMembers, LifeState, Opens, Clears}

-- the cells that bindings within a thing of this type lie in
abbrev pub span : Table → Ty → ℕ
span t Num = 0
span t (Cell a) = 1
span t (Obj c) = shape_cells (t.shape c)
span t (Raw c) = 0
span t (Row n a) = n * shape_cells (element_shape t a)
span t Clu = 0
span t Pro = 0

-- no array of arrays
abbrev pub IsFlat : Ty → Type 0
IsFlat (Row n (Row m a)) = ⊥
IsFlat a = Unit {0}

-- each field that somebody declared lies within the cells of its class and before all later ones, and what destroys an object is counted with no fewer
-- cells
pub record IsLaidOut (Cells : ℕ → ℕ → Type 0) (t : Table) : Type 0 where
  pub fields : (c i : ℕ) → IsField t c i →
      field_cells (t.shape c) i + span t (t.fields c i) ≤ shape_cells (t.shape c)
  pub apart : (c i j : ℕ) → IsField t c i → i < j →
      field_cells (t.shape c) i + span t (t.fields c i) ≤ field_cells (t.shape c) j
  pub flat : (c i : ℕ) → IsField t c i → IsFlat (t.fields c i)
  pub counted : (r n c : ℕ) → Cells r n → (t.routine r).this ≡ Some c → shape_cells (t.shape c) ≤ n

-- where things lie so and activations which use one frame stay behind one another, cells that start anew lie behind all that is in scope in
-- their frame; and things lie so in each program that breaks no rule
pub record LawClears : Type 0 where
  pub clears : (p : Program) (t : Table) → IsLaidOut (Sized p) t → (s : State) →
      StackState (Sized p) s → Clears t s
  pub laid_out : (p : Program) → IsFormed p → breaks_of p ≡ [] → IsLaidOut (Sized p) (table_of p)

-- what is in scope holds what is known: of each task at rest, of what is at home in each object, and of whoever runs in each state to which it
-- comes before it asks, as long as each scope opened so on the way
pub record KeepsHolding (t : Table) (few : Few) (source : Source) (j : Journal) (w : World) : Type 0 where
  pub tasks : (n : ℕ) → LifeState t few (w.tasks n)
  pub homes : (o : ℕ) → LifeMembers t few (Object o) (w.homes o)
  pub comes : (n : ℕ) (s : State) (c : Comes source j w n s) →
      LeadsMeet (Opens t few) source (answered source c.given (drawn j w n)) s c.leads → LifeState t few s

-- so it is in each run of a program that breaks no rule in which each scope opens where what it is of holds what is known
abbrev pub LawRuns : Type 0
LawRuns =
    (p : Program) → IsFormed p → breaks_of p ≡ [] → (few : Few) →
    (input : List ℕ) (opts : Options) (j : Journal) (w : World) (r : Runs (source_of p) input opts j w) →
    RunMeets (Opens (table_of p) few) (source_of p) input opts j w r →
    KeepsHolding (table_of p) few (source_of p) j w
