-- Runs of a program whose worlds are in order: each task that has not ended, and all that is at home somewhere.
use Rattle.std.specs.Prelude.{◌≡◌, ◌⊎◌, ℕ, zero, suc, false, List, [], ◌∷◌, Option, Some, None}
use Rattle.uc_tree.specs.Programs.{Program}
use Rattle.uc_tree.specs.Source.{Source}
use Rattle.uc_entry.specs.declared.entry.Options.{Options}
use Rattle.uc_entry.specs.declared.request.Request.{Request}
use Rattle.uc_entry.specs.declared.request.Request.TheVariants as ask
use Rattle.uc_acts.specs.Journal.{Journal, is_over}
use Rattle.uc_acts.specs.Known.{has_ended}
use Rattle.uc_acts.specs.KernelRuns.{InRange}
use Rattle.uc_answer_laws.specs.Suiting.{Form, form_of_request, asked_form}
use Rattle.uc_machine.specs.Quiet.{State, Members, Todo}
use Rattle.uc_machine.specs.Answering.{answered}
use Rattle.uc_meaning.specs.Runs.{World, Runs, drawn}
use Rattle.uc_state_laws.specs.Fitting.{RunFits}
use Rattle.uc_state_laws.specs.RoomRuns.{Leads, Comes}
use Rattle.uc_resolve.specs.Resolve.{source_of}
use Rattle.uc_typing.specs.Typing.{Table}
use Rattle.uc_typing.specs.States.{Sound, Typed, ReadsPlace, IsTask, Asked as AskedIn, Parked}
use Rattle.uc_typing.specs.Laws.{ReadsIn}
use Rattle.uc_typing.specs.Finds.{Finds}
use Rattle.uc_sound.specs.Tables.{table_of}
use Rattle.uc_sound.specs.WellTyped.{IsTextOf}
use Rattle.uc_state_laws.specs.Endings.{RunHolds, LeadsHold}
use Rattle.uc_state_laws.specs.Reading.{ReadsElement}
use Rattle.uc_state_laws.specs.Limits.{IsWithinLimits}

-- What is read of bindings is of its type.
abbrev pub Reading : Table → ℕ → State → Type 0
Reading table n s = ReadsIn table s

-- A state that is in order is so by a typing by which what its next step reads at a place, or of a field of the object at hand, is of
-- its type, or by which the place is that of an element of an array in scope. Of variables that are read by their names it says nothing,
-- and of such elements not what they hold.
abbrev pub PlacesIn : Table → State → Type 0
PlacesIn table s = Typed table [] s → (x : Typed table [] s) ×
    (ReadsPlace table x.run.sig s s.run.control x.run.own ⊎
    ReadsElement x.run.scope s s.run.control x.run.own)

-- So it is, but for the states in which a clean-up finds and reads the variable that it ends.
abbrev pub Following : Table → ℕ → State → Type 0
Following table zero s = PlacesIn table s
Following table (suc n) s = Unit {0}

-- A task that has asked for an answer of this form is in order with the operands that its answer brings.
pub record Awaits (table : Table) (source : Source) (form : Form) (s : State) : Type 0 where
  pub request : Request
  pub asked : AskedIn table source request s
  pub asks_for : form_of_request request ≡ form
  pub no_end : request ≡ ask.End → ⊥
  pub no_fault : (n : ℕ) → request ≡ ask.Fault n → ⊥

-- what is at home in an object: its executions that may go on are in order
abbrev pub AtHome : Table → Option Members → Type 0
AtHome table None = Unit {0}
AtHome table (Some m) = Parked table m.parked

-- the world that a journal leaves, and whoever runs, as far as Led holds of its way
pub record IsTyped (table : Table) (source : Source) (Led : (s u : State) → Leads source s u → Type 0)
    (j : Journal) (w : World) : Type 0 where
  pub tasks : (t : ℕ) → has_ended t j ≡ false → Awaits table source (asked_form t j) (w.tasks t)
  pub homes : (o : ℕ) → AtHome table (w.homes o)
  -- whoever runs, told its answer and with its hand, in each state to which it comes before it asks
  pub comes : (t : ℕ) (s : State) (c : Comes source j w t s) →
      Led (answered source c.given (drawn j w t)) s c.leads → Typed table [] s
  -- there each piece finds what it takes: as many operands, a place, an object, its routine
  pub finds : (t : ℕ) (s : State) (c : Comes source j w t s) →
      Led (answered source c.given (drawn j w t)) s c.leads →
      (p : Todo) (todo : List Todo) → s.run.control ≡ p ∷ todo → Finds source p s

-- Of each sound source, where all was of its type that was read of bindings.
abbrev pub LawTypedRuns : Type 0
LawTypedRuns =
    (table : Table) (source : Source) (input : List ℕ) (opts : Options) (j : Journal) (w : World) (r : Runs source input opts j w) →
    Sound table source → IsTask table source.main → InRange opts → RunFits source input opts j w r →
    RunHolds (Reading table) source input opts j w r → is_over j ≡ false →
    IsTyped table source (LeadsHold (Reading table) source 0) j w

-- Of each program whose text is accepted and which is within its limits, where all was of its type that was read at places and of fields of
-- the object at hand, but by the clean-ups of variables that are known by their numbers.
abbrev pub LawTypedTexts : Type 0
LawTypedTexts =
    (text : List ℕ) (p : Program) → IsTextOf text p → IsWithinLimits p →
    (input : List ℕ) (opts : Options) (j : Journal) (w : World) (r : Runs (source_of p) input opts j w) →
    InRange opts → RunFits (source_of p) input opts j w r →
    RunHolds (Following (table_of p)) (source_of p) input opts j w r → is_over j ≡ false →
    IsTyped (table_of p) (source_of p) (LeadsHold (Following (table_of p)) (source_of p) 0) j w
