-- Runs in which who makes an object builds it until it is asked that the object is let go of.
use Rattle.std.specs.Prelude.{◌≡◌, ℕ, ◌<◌, ◌⊎◌, Bool, true, false, List, ◌∷◌, length, drop, Option, Some, None, slice_get}
use Rattle.uc_tree.specs.Source.{Routine, Source}
use Rattle.uc_entry.specs.declared.entry.Entry.{Entry}
use Rattle.uc_entry.specs.declared.entry.Options.{Options}
use Rattle.uc_entry.specs.declared.request.Request.TheVariants as ask
use Rattle.uc_acts.specs.Journal.{Journal, is_over}
use Rattle.uc_acts.specs.Known.{object_count}
use Rattle.uc_acts.specs.KernelRuns.{InRange}
use Rattle.uc_machine.specs.declared.exec.Exec.{Exec}
use Rattle.uc_machine.specs.Pieces as piece
use Rattle.uc_machine.specs.Pieces.{Value, Object, Todo, State, top, below}
use Rattle.uc_machine.specs.Answering.{answered}
use Rattle.uc_meaning.specs.Runs.{World, May, Runs, gives, no_room, acts, begun, more, drawn}
use Rattle.uc_state_laws.specs.Counted.{params}
use Rattle.uc_state_laws.specs.Fitting.{RunFits}
use Rattle.uc_state_laws.specs.RoomRuns.{Comes}
use Rattle.uc_state_laws.specs.Opens.{RunMeets, LeadsMeet}
use Rattle.uc_name_laws.specs.NameSteps.{Spares}
use Rattle.uc_inner_laws.specs.Standing.{Calls}
use Rattle.uc_life_laws.specs.RunningRuns.{RunLeaves}
use Rattle.uc_life_laws.specs.LifeStates.{EnvBy}
use Rattle.uc_making_laws.specs.Builders.{opens_built, lets_built, Lets, Building, BuildsEx, AsksLetting}

abbrev pub opens_by : Bool → Option Routine → Bool
opens_by every None = false
opens_by every (Some x) = opens_built every x.body

-- at the end of the main of a task nothing is left that lets go of an object
abbrev pub FinishesBy : Bool → List Todo → Type 0
FinishesBy every (piece.Finish ∷ todo) = lets_built every todo ≡ false
FinishesBy every todo = Unit {0}

abbrev pub Finishes : Bool → State → Type 0
Finishes every s = FinishesBy every s.run.control

module _ (source : Source) (every : Bool) (o : ℕ) (m : Exec) where
  -- the routine is in a scope of its object as a whole
  abbrev pub opens_so : ℕ → Bool
  opens_so k = opens_by every (slice_get source.routines k)

  -- such a one is called next on the object, or behind what binds that
  abbrev pub CalledNext : ℕ → List Value → Type 0
  CalledNext k vs = (opens_so k ≡ true) × (top (drop (params source k) vs) ≡ Object o)

  abbrev pub Nears : List Todo → List Value → Type 0
  Nears (piece.BindMadeNow c k ∷ todo) vs = Calls k todo × (opens_so k ≡ true) × (top vs ≡ Object o) × (params source k < length (below vs))
  Nears (piece.CallOnNow k ∷ todo) vs = CalledNext k vs
  Nears (piece.CallUnwrittenNow k ∷ todo) vs = CalledNext k vs
  Nears todo vs = ⊥

  -- one is, as soon as the number of a new object is told
  abbrev pub AwaitsIt : List Todo → List Value → Type 0
  AwaitsIt (piece.BindMadeNow c k ∷ todo) vs = Calls k todo × (opens_so k ≡ true) × (params source k < length vs)
  AwaitsIt todo vs = ⊥

  -- who builds the object, or is about to
  abbrev pub Here : State → Type 0
  Here s = Building every s.callers o ⊎ ((s.run.this ≡ Object o) × Lets every s.run.control)

  pub record NearState (s : State) : Type 0 where
    pub stack : s.env.exec ≡ m → Here s ⊎ Nears s.run.control s.run.operands
    pub env : EnvBy (BuildsEx every o m) s.env

  -- in an act who runs, of this name, makes the object
  pub record Makes (j : Journal) (s : State) (class : ℕ) : Type 0 where
    pub number : object_count j ≡ o
    pub name : s.env.exec ≡ m
    pub awaits : AwaitsIt s.run.control s.run.operands

  module _ (input : List ℕ) (opts : Options) where
    abbrev pub MakesBy : {j : Journal} {w : World} {a : List Entry} {x : World} → May source opts input j w a x → Type 0
    MakesBy (gives p t s h) = ⊥
    MakesBy (no_room p t s h) = ⊥
    MakesBy {j} (acts p t n s asked d) = (c : ℕ) × (asked.request ≡ ask.Make c) × Makes j s c

    -- it is not asked in it that the object is let go of
    abbrev pub KeepsBy : {j : Journal} {w : World} {a : List Entry} {x : World} → May source opts input j w a x → Type 0
    KeepsBy (gives p t s h) = Unit {0}
    KeepsBy (no_room p t s h) = Unit {0}
    KeepsBy (acts p t n s asked d) = AsksLetting every o m asked.request → ⊥

    -- so the object was made in a run, and has not been let go of
    abbrev pub IsUnderWay : {j : Journal} {w : World} → Runs source input opts j w → Type 0
    IsUnderWay begun = ⊥
    IsUnderWay (more r on i) = (IsUnderWay r × KeepsBy i) ⊎ MakesBy i

-- then who made it builds it, or is about to, in each state to which it comes before it asks, as long as all that was asked so far fits, nobody leaves its home
-- for good, no step forgets the running execution, and mains end with nothing left
abbrev pub LawBuilderRuns : Type 0
LawBuilderRuns =
    (source : Source) (every : Bool) (o : ℕ) (m : Exec) (input : List ℕ) (opts : Options) (j : Journal) (w : World)
    (r : Runs source input opts j w) → InRange opts → RunFits source input opts j w r → is_over j ≡ false →
    RunLeaves source input opts j w r → RunMeets Spares source input opts j w r →
    RunMeets (Finishes every) source input opts j w r → IsUnderWay source every o m input opts r →
    (t : ℕ) (s : State) (c : Comes source j w t s) →
    LeadsMeet (Finishes every) source (answered source c.given (drawn j w t)) s c.leads → NearState source every o m s
