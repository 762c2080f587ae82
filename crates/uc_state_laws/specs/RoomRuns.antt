-- Runs of programs in which tasks keep to their rooms.
use Rattle.std.specs.Prelude.{◌≡◌, ℕ, List, [], ◌∷◌, Some}
use Rattle.uc_tree.specs.Programs.{Program}
use Rattle.uc_tree.specs.Source.{Source}
use Rattle.uc_entry.specs.declared.entry.Options.{Options}
use Rattle.uc_entry.specs.declared.request.Answer.{Answer}
use Rattle.uc_acts.specs.Journal.{Journal}
use Rattle.uc_acts.specs.Queues.{running}
use Rattle.uc_acts.specs.Answers.{answer_to}
use Rattle.uc_machine.specs.Quiet.{State, Todo, ClearNow, Goes, Ticks, quiet}
use Rattle.uc_machine.specs.Answering.{answered}
use Rattle.uc_meaning.specs.Runs.{World, Runs, drawn}
use Rattle.uc_resolve.specs.Resolve.{source_of}
use Rattle.uc_rules.specs.Breaks.{breaks_of}
use Rattle.uc_state_laws.specs.RoomStates.{RoomState, AllBefore}
use Rattle.uc_state_laws.specs.Layout.{Sized}

-- quiet steps and ticks lead from one state to another
pub data Leads (source : Source) : State → State → Type 0 where
  stays : {s : State} → Leads source s s
  goes : {s u v : State} → quiet source s ≡ Goes u → Leads source u v → Leads source s v
  ticks : {s u v : State} → quiet source s ≡ Ticks u → Leads source u v → Leads source s v

-- in a world, whoever runs comes to this state before it asks
pub record Comes (source : Source) (j : Journal) (w : World) (t : ℕ) (s : State) : Type 0 where
  pub given : Answer
  pub processor : ℕ
  pub runs : running processor j ≡ t ∷ []
  pub told : answer_to source.sites t j ≡ Some given
  pub leads : Leads source (answered source given (drawn j w t)) s

-- in each run of a program that breaks no rule each task keeps to its rooms, at rest and in all states to which it comes; so the cells
-- that are cleared in them lie behind all objects in scope
pub record InRooms (p : Program) (j : Journal) (w : World) : Type 0 where
  pub rests : (t : ℕ) → RoomState (Sized p) (w.tasks t)
  pub comes : (t : ℕ) (s : State) → Comes (source_of p) j w t s → RoomState (Sized p) s
  pub clears : (t : ℕ) (s : State) → Comes (source_of p) j w t s → (k n : ℕ) (todo : List Todo) →
      s.run.control ≡ ClearNow k n ∷ todo → AllBefore (Sized p) k todo

abbrev pub LawRuns : Type 0
LawRuns = (p : Program) → breaks_of p ≡ [] →
    (input : List ℕ) (opts : Options) (j : Journal) (w : World) → Runs (source_of p) input opts j w →
    InRooms p j w
