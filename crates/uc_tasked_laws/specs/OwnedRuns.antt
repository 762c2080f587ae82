-- Runs of programs in which an object that is at home where a task is in scope is of a task.
use Rattle.std.specs.Prelude.{◌≡◌, ℕ, ◌<◌, true, false, List, [], ◌∷◌}
use Rattle.uc_tree.specs.Programs.{Program}
use Rattle.uc_entry.specs.declared.entry.Options.{Options}
use Rattle.uc_acts.specs.Journal.{Journal, is_over}
use Rattle.uc_acts.specs.Known.{object_count, is_gone, owner}
use Rattle.uc_acts.specs.KernelRuns.{InRange}
use Rattle.uc_machine.specs.Pieces.{Value, State}
use Rattle.uc_machine.specs.Answering.{answered}
use Rattle.uc_meaning.specs.Runs.{World, Runs, drawn}
use Rattle.uc_state_laws.specs.Fitting.{RunFits}
use Rattle.uc_resolve.specs.Resolve.{source_of}
use Rattle.uc_rules.specs.Breaks.{breaks_of}
use Rattle.uc_state_laws.specs.RoomRuns.{Comes}
use Rattle.uc_state_laws.specs.Opens.{LeadsMeet}
use Rattle.uc_typing.specs.Typing.{Cell, Obj}
use Rattle.uc_sound.specs.SoundFormed.{IsFormed}
use Rattle.uc_sound.specs.Tables.{table_of}
use Rattle.uc_tasked_laws.specs.SeatedStates.{Fair}
use Rattle.uc_tasked_laws.specs.TaskedRuns.{told_by, RunFair, RunMakesApart}
use Rattle.uc_tasked_laws.specs.TaskedLaws.{InScope}

-- whoever runs has a task in scope, or as a part of an object under construction; who is at home there, has been made and is not gone is of a
-- task
abbrev pub LawOwned : Type 0
LawOwned =
    (p : Program) → IsFormed p → breaks_of p ≡ [] → (homes : ℕ → Value) →
    (input : List ℕ) (opts : Options) → InRange opts →
    (j : Journal) (w : World) (r : Runs (source_of p) input opts j w) →
    RunFits (source_of p) input opts j w r → is_over j ≡ false →
    RunFair p homes (source_of p) input opts j w r →
    RunMakesApart p homes (source_of p) input opts j w r →
    (n : ℕ) (s : State) (c : Comes (source_of p) j w n s) →
    LeadsMeet (Fair p (source_of p) (told_by homes j)) (source_of p) (answered (source_of p) c.given (drawn j w n)) s c.leads →
    (i o : ℕ) → (table_of p).tasks i ≡ true →
    InScope (table_of p) s.env.exec (s.run ∷ s.callers) (homes o) (Cell (Obj i)) →
    o < object_count j → is_gone o j ≡ false → owner o j ≡ [] → ⊥
