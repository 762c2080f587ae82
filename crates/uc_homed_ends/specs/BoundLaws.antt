-- Variables that are mutex objects hold numbers until they are bound, and from then on what is at home there: in steps and in runs.
use Rattle.std.specs.Prelude.{◌≡◌, ℕ, ◌<◌, true, false, List, [], ◌∷◌, slice_index_or}
use Rattle.uc_tree.specs.Programs.{Program}
use Rattle.uc_tree.specs.Source.{Source, Variable, Then, Scoped, routine_of}
use Rattle.uc_entry.specs.declared.entry.Options.{Options}
use Rattle.uc_entry.specs.declared.request.Answer.{Answer}
use Rattle.uc_acts.specs.Journal.{Journal, is_over}
use Rattle.uc_acts.specs.KernelRuns.{InRange}
use Rattle.uc_machine.specs.Pieces.{Slot, Value, LAST_ADDRESS, Todo, BindMadeNow, Rest, Active, State, top, address, nought, this_frame, variable_at}
use Rattle.uc_machine.specs.Quiet.{quiet, first_state}
use Rattle.uc_machine.specs.Answering.{answered}
use Rattle.uc_meaning.specs.Runs.{World, Runs, drawn}
use Rattle.uc_resolve.specs.Resolve.{source_of}
use Rattle.uc_rules.specs.Breaks.{breaks_of}
use Rattle.uc_sound.specs.SoundFormed.{IsFormed}
use Rattle.uc_sound.specs.Tables.{table_of}
use Rattle.uc_state_laws.specs.Fitting.{RunFits}
use Rattle.uc_state_laws.specs.Limits.{IsWithinLimits}
use Rattle.uc_state_laws.specs.RoomRuns.{Comes}
use Rattle.uc_state_laws.specs.Opens.{RunMeets, LeadsMeet}
use Rattle.uc_state_laws.specs.ThereStates as there
use Rattle.uc_state_laws.specs.ThereStates.{SourceBegins}
use Rattle.uc_place_laws.specs.AsideLaws.{Puts}
use Rattle.uc_life_laws.specs.Things.{Few}
use Rattle.uc_life_laws.specs.LifeStates.{frame_at}
use Rattle.uc_life_laws.specs.Homes.{home_of}
use Rattle.uc_life_laws.specs.HomedStates.{Owns, HoldsHome, Opens}
use Rattle.uc_typing.specs.Typing.{Ty, Num, Cell, Obj, Raw, Row, Clu, Pro, Table, CleansAt}
use Rattle.uc_putting_laws.specs.Putting.{IsHome}
use Rattle.uc_homed_ends.specs.BoundHomes.{OfMutex, OpensMutex, DropMutex, CallMutex, MakesBy, IsUnset, BoundState, GoodStep}

module _ (few : Few) (source : Source) where
  -- what is bound next is at home at the variable whose scope opens behind that; and where statements begin with one that makes the object of the scope
  -- that opens behind it, the variable of that holds a number
  abbrev pub SetsAt : List Todo → State → Type 0
  SetsAt (BindMadeNow c r ∷ todo) s = CallMutex (λ k. IsHome few (top s.run.operands) (variable_at k s)) todo
  SetsAt (Rest (Then a ss) ∷ todo) s = OpensMutex (λ k. MakesBy a × IsUnset (frame_at s.run.frame s.env.frames) k) ss
  SetsAt todo s = Unit {0}

  -- what a step is to find: that, what keeps all there that is known by its number, and that what is bound lies aside of what is still to be bound
  pub record Finds (s : State) : Type 0 where
    pub fair : there.Fair source s
    pub puts : Puts source s
    pub sets : SetsAt s.run.control s

-- of any source in which no routine begins with what belongs behind a declaration: a task begins so, each step that finds that keeps it, and so does each
-- answer
pub record LawBoundSteps : Type 0 where
  pub begins : (few : Few) (source : Source) → SourceBegins source → (r o : ℕ) →
      BoundState few source false (first_state (routine_of source r) o)
  pub steps : (few : Few) (source : Source) → SourceBegins source → (s : State) → BoundState few source true s →
      Finds few source s → GoodStep few source (quiet source s)
  pub told : (few : Few) (source : Source) (given : Answer) (s : State) → BoundState few source false s →
      BoundState few source false (answered source given s)
  pub goes_on : (few : Few) (source : Source) (s : State) → BoundState few source false s → BoundState few source true s

-- where the scope of a mutex object that is a variable opens, that is at home there
abbrev pub OpensSetAt : Few → List Todo → State → Type 0
OpensSetAt few (Rest (Scoped c rest) ∷ todo) s =
    OfMutex (λ k. IsHome few (slice_index_or (frame_at s.run.frame s.env.frames) (address (Slot k ∷ [])) nought) (variable_at k s)) c
OpensSetAt few todo s = Unit {0}

abbrev pub OpensSet : Few → State → Type 0
OpensSet few s = OpensSetAt few s.run.control s

-- so it is, with the homes that a run tells in the end, in each run of a program that breaks no rule and is within its limits, as long as all that was
-- asked fits: in each state of each ride, of whoever runs in each state to which it comes before it asks, and on the way there
pub record LawSet : Type 0 where
  pub runs : (p : Program) → IsFormed p → breaks_of p ≡ [] → IsWithinLimits p → (few : Few) →
      (input : List ℕ) (opts : Options) → InRange opts → (j : Journal) (w : World) →
      (r : Runs (source_of p) input opts j w) → RunFits (source_of p) input opts j w r →
      ((o : ℕ) → few.home o ≡ home_of (source_of p) input opts j w r o) →
      RunMeets (OpensSet few) (source_of p) input opts j w r
  pub leads : (p : Program) → IsFormed p → breaks_of p ≡ [] → IsWithinLimits p → (few : Few) →
      (input : List ℕ) (opts : Options) → InRange opts → (j : Journal) (w : World) →
      (r : Runs (source_of p) input opts j w) → RunFits (source_of p) input opts j w r →
      ((o : ℕ) → few.home o ≡ home_of (source_of p) input opts j w r o) →
      is_over j ≡ false → (t : ℕ) (s : State) (c : Comes (source_of p) j w t s) →
      OpensSet few s × LeadsMeet (OpensSet few) (source_of p) (answered (source_of p) c.given (drawn j w t)) s c.leads

-- of activations with these frames that wait for one with this object: where one waits for the constructor of the object at a variable whose scope opens next,
-- what it waits for is of the object that the variable holds
abbrev pub AwaitsFor : List (List Value) → Value → List Active → Type 0
AwaitsFor fs v [] = Unit {0}
AwaitsFor fs v (a ∷ older) =
    DropMutex (λ k. k < LAST_ADDRESS → slice_index_or (frame_at a.frame fs) (address (Slot k ∷ [])) nought ≡ v) a.control ×
    AwaitsFor fs a.this older

abbrev pub Awaits : State → Type 0
Awaits s = AwaitsFor s.env.frames s.run.this s.callers

-- so it is in each such run, as long as all that was asked fits: in each state of each ride, of whoever runs in each state to which it comes before it asks,
-- and on the way there
pub record LawAwaits : Type 0 where
  pub runs : (p : Program) → IsFormed p → breaks_of p ≡ [] → IsWithinLimits p →
      (input : List ℕ) (opts : Options) → InRange opts → (j : Journal) (w : World) →
      (r : Runs (source_of p) input opts j w) → RunFits (source_of p) input opts j w r →
      RunMeets Awaits (source_of p) input opts j w r
  pub leads : (p : Program) → IsFormed p → breaks_of p ≡ [] → IsWithinLimits p →
      (input : List ℕ) (opts : Options) → InRange opts → (j : Journal) (w : World) →
      (r : Runs (source_of p) input opts j w) → RunFits (source_of p) input opts j w r →
      is_over j ≡ false → (t : ℕ) (s : State) (c : Comes (source_of p) j w t s) →
      Awaits s × LeadsMeet Awaits (source_of p) (answered (source_of p) c.given (drawn j w t)) s c.leads

-- what is no binding: an object, an array
abbrev pub IsWhole : Ty → Type 0
IsWhole Num = Unit {0}
IsWhole (Cell a) = ⊥
IsWhole (Obj c) = Unit {0}
IsWhole (Raw c) = Unit {0}
IsWhole (Row n a) = Unit {0}
IsWhole Clu = Unit {0}
IsWhole Pro = Unit {0}

-- where the scope of such a variable opens, the mutex objects that it is of are at home
abbrev pub OpensWholeAt : Table → Owns → Few → List Todo → State → Type 0
OpensWholeAt t owns few (Rest (Scoped c rest) ∷ todo) s = (k : ℕ) (a : Ty) → IsWhole a → CleansAt t a (Variable k) c →
    HoldsHome t owns few s.env.exec (this_frame s) (frame_at s.run.frame s.env.frames) (variable_at k s) a
OpensWholeAt t owns few todo s = Unit {0}

abbrev pub OpensWhole : Table → Owns → Few → State → Type 0
OpensWhole t owns few s = OpensWholeAt t owns few s.run.control s

-- then so it is of each scope
pub record LawOpens : Type 0 where
  pub runs : (p : Program) → IsFormed p → breaks_of p ≡ [] → IsWithinLimits p → (owns : Owns) (few : Few) →
      (input : List ℕ) (opts : Options) → InRange opts → (j : Journal) (w : World) →
      (r : Runs (source_of p) input opts j w) → RunFits (source_of p) input opts j w r →
      ((o : ℕ) → few.home o ≡ home_of (source_of p) input opts j w r o) →
      RunMeets (OpensWhole (table_of p) owns few) (source_of p) input opts j w r →
      RunMeets (Opens (table_of p) owns few) (source_of p) input opts j w r
  pub leads : (p : Program) → IsFormed p → breaks_of p ≡ [] → IsWithinLimits p → (owns : Owns) (few : Few) →
      (input : List ℕ) (opts : Options) → InRange opts → (j : Journal) (w : World) →
      (r : Runs (source_of p) input opts j w) → RunFits (source_of p) input opts j w r →
      ((o : ℕ) → few.home o ≡ home_of (source_of p) input opts j w r o) →
      is_over j ≡ false → (t : ℕ) (s : State) (c : Comes (source_of p) j w t s) →
      LeadsMeet (OpensWhole (table_of p) owns few) (source_of p) (answered (source_of p) c.given (drawn j w t)) s c.leads →
      LeadsMeet (Opens (table_of p) owns few) (source_of p) (answered (source_of p) c.given (drawn j w t)) s c.leads
