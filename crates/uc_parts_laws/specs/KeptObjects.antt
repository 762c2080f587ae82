-- Runs in which what the maker of a mutex object was to clean up outwards of it, as it let others in or spawned it, stays with that as long as the object is
-- there.
use Rattle.std.specs.Prelude.{◌≡◌, ℕ, ◌⊎◌, Bool, true, false, List, [], ◌∷◌}
use Rattle.uc_tree.specs.Source.{Source, Variable, Load, OfObject, EndOn, CleanUp, Destroys}
use Rattle.uc_entry.specs.declared.entry.Entry.{Entry}
use Rattle.uc_entry.specs.declared.entry.Options.{Options}
use Rattle.uc_entry.specs.declared.request.Request.{Request}
use Rattle.uc_entry.specs.declared.request.Request.TheVariants as ask
use Rattle.uc_acts.specs.Journal.{Journal, is_over}
use Rattle.uc_acts.specs.KernelRuns.{InRange}
use Rattle.uc_machine.specs.declared.exec.Exec.{Exec}
use Rattle.uc_machine.specs.declared.exec.Owner.TheVariants.{Frame}
use Rattle.uc_machine.specs.Executions.{Execution}
use Rattle.uc_machine.specs.Pieces as piece
use Rattle.uc_machine.specs.Pieces.{Slot, Value, Place, Object, loaded, Todo, Sort, sort, Active, State}
use Rattle.uc_machine.specs.Quiet.{quiet}
use Rattle.uc_machine.specs.Pieces.{Asks}
use Rattle.uc_machine.specs.Answering.{answered}
use Rattle.uc_meaning.specs.Runs.{World, May, Runs, gives, no_room, acts, begun, more, drawn}
use Rattle.uc_state_laws.specs.Fitting.{RunFits}
use Rattle.uc_state_laws.specs.RoomRuns.{Comes}
use Rattle.uc_state_laws.specs.Opens.{MayMeet, RunMeets, LeadsMeet}
use Rattle.uc_name_laws.specs.NameSteps.{Spares}
use Rattle.uc_life_laws.specs.RunningRuns.{RunLeaves}
use Rattle.uc_life_laws.specs.LifeStates.{EnvBy}
use Rattle.uc_life_laws.specs.Destroying.{Seat}
use Rattle.uc_life_laws.specs.Placed.{Placed, stacked, Ends}
use Rattle.uc_life_laws.specs.Outermost.{outermost}
use Rattle.uc_life_laws.specs.Held.{Seating, AreLines, Soon, HeldState, IsOwn, TakesAt}
use Rattle.uc_life_laws.specs.Ways.{ReadsLast, ForgetsBy, UnwindsBy}
use Rattle.uc_parts_laws.specs.PartStates.{PartsState}

-- a mutex object, by whom it was made, where mutex objects are at home, and what its maker is to clean up outwards of it
pub record Lodger : Type 0 where
  pub object : ℕ
  pub maker : Exec
  pub home : ℕ → Value
  pub outer : List Placed

-- what comes to its end
abbrev pub seat_of : Lodger → Seat
seat_of b = record { place = Object b.object; task = true; home = b.home }

-- of this object alone, by whatever name
abbrev pub seats_for : Lodger → Seating
seats_for b = record { parent = λ x. b.maker; seat = λ x. seat_of b; before = λ x. b.outer }

abbrev pub any_name : Exec → Bool
any_name x = true

module _ (source : Source) (b : Lodger) where
  -- its maker holds it, or holds it soon
  abbrev pub LodgerState : State → Type 0
  LodgerState s = HeldState source (seats_for b) any_name s

  -- what a step is to find then: where a mark is taken away that held it, it is held soon, and it does not go; of an execution that is made nothing is asked
  abbrev pub KeepsAt : List Todo → State → Type 0
  KeepsAt (piece.SetUpNow r ∷ todo) s = Unit {0}
  KeepsAt todo s = TakesAt source (seats_for b) any_name todo s

  abbrev pub Keeps : State → Type 0
  Keeps s = LodgerState s → KeepsAt s.run.control s

  -- its maker asks that others are let in, or that it is spawned, and holds it soon
  pub record LetsIn (r : Request) (s : State) : Type 0 where
    pub asks : (r ≡ ask.Made b.object) ⊎ (r ≡ ask.Spawn b.object)
    pub name : s.env.exec ≡ b.maker
    pub soon : Soon source (seat_of b) b.outer b.maker s.run s.callers

  module _ (input : List ℕ) (opts : Options) where
    abbrev pub LetsInBy : {j : Journal} {w : World} {a : List Entry} {x : World} → May source opts input j w a x → Type 0
    LetsInBy (gives p t s h) = ⊥
    LetsInBy (no_room p t s h) = ⊥
    LetsInBy (acts p t n s asked d) = LetsIn asked.request s

    -- so it was in an act of a run; and each state since then finds what it is to find
    abbrev pub WasLetIn : {j : Journal} {w : World} → Runs source input opts j w → Type 0
    WasLetIn begun = ⊥
    WasLetIn (more r on i) = WasLetIn r ⊎ LetsInBy i

    abbrev pub RunKeeps : {j : Journal} {w : World} → Runs source input opts j w → Type 0
    RunKeeps begun = Unit {0}
    RunKeeps (more {j} {w} {a} {w' = x} r on i) = WasLetIn r → RunKeeps r × MayMeet Keeps source opts input j w a x i

  -- of an execution of this name these marks are the outermost ones
  abbrev pub EndsSo : Exec → Execution (List Todo) Value → Type 0
  EndsSo n x = n ≡ b.maker → Ends b.outer (stacked (x.run ∷ x.callers))

  pub record Outermost (s : State) : Type 0 where
    pub stack : s.env.exec ≡ b.maker → Ends b.outer (stacked (s.run ∷ s.callers))
    pub env : EnvBy EndsSo s.env

-- then it is held so in each state to which a task comes before it asks, in runs in which all that was asked so far fits, nobody leaves its home for good, and
-- no step forgets the running execution; and where it is held, what was outwards of it then is the outermost of what its maker is to clean up
pub record LawKeptObjects : Type 0 where
  pub comes : (source : Source) (b : Lodger) (input : List ℕ) (opts : Options) (j : Journal) (w : World)
      (r : Runs source input opts j w) → InRange opts → RunFits source input opts j w r → is_over j ≡ false →
      RunLeaves source input opts j w r → RunMeets Spares source input opts j w r →
      WasLetIn source b input opts r → RunKeeps source b input opts r →
      (t : ℕ) (s : State) (c : Comes source j w t s) →
      LeadsMeet (Keeps source b) source (answered source c.given (drawn j w t)) s c.leads → LodgerState source b s
  pub ends : (source : Source) (b : Lodger) (s : State) → LodgerState source b s → Outermost source b s

-- where parts of objects are taken over, the maker of a mutex object holds that soon as it lets others in or spawns it; and a step finds what it is to find, but where
-- what destroys mutex objects is called at a place at which this one is at home, or one in which it is: that object is read there; where a main ends, nothing
-- is left behind it; and it does not go
module _ (source : Source) (b : Lodger) where
  abbrev pub LoadsAt : List Todo → State → Type 0
  LoadsAt (piece.Clean c ∷ todo) s = ForgetsBy source (seats_for b) any_name c s
  LoadsAt (piece.Sweep d ∷ todo) s = (x : Exec) → IsOwn source (seats_for b) any_name s x → ReadsLast source (seats_for b) any_name x d s
  LoadsAt (piece.Unwind ∷ (p ∷ todo)) s = UnwindsBy source (seats_for b) any_name (sort p) s
  LoadsAt (piece.Finish ∷ todo) s = AreLines todo
  LoadsAt (piece.GoneNow ∷ todo) s = s.run.this ≡ Object b.object → ⊥
  LoadsAt todo s = Unit {0}

  abbrev pub Loads : State → Type 0
  Loads s = LoadsAt s.run.control s

-- where the object is at home at a variable of its maker: what is loaded there to be destroyed is that
module _ (b : Lodger) where
  pub record IsAtVariable : Type 0 where
    pub frame : ℕ
    pub variable : ℕ
    pub home : b.home b.object ≡ Place (Frame b.maker frame) (Slot variable ∷ [])

  abbrev pub LoadsIt : CleanUp → State → Type 0
  LoadsIt (Destroys (OfObject (EndOn d written (Load (Variable k))))) s = b.maker ≡ s.env.exec →
      b.home b.object ≡ Place (Frame s.env.exec s.run.frame) (Slot k ∷ []) →
      loaded (Place (Frame s.env.exec s.run.frame) (Slot k ∷ [])) s.env ≡ Object b.object
  LoadsIt c s = Unit {0}

  abbrev pub LoadsItBy : Sort → State → Type 0
  LoadsItBy (piece.IsClean c) s = LoadsIt c s
  LoadsItBy (piece.IsPart c) s = LoadsIt c s
  LoadsItBy k s = Unit {0}

  abbrev pub LoadsItAt : List Todo → State → Type 0
  LoadsItAt (piece.Clean c ∷ todo) s = LoadsIt c s
  LoadsItAt (piece.Unwind ∷ (p ∷ todo)) s = LoadsItBy (sort p) s
  LoadsItAt (piece.Finish ∷ todo) s = AreLines todo
  LoadsItAt (piece.GoneNow ∷ todo) s = s.run.this ≡ Object b.object → ⊥
  LoadsItAt todo s = Unit {0}

pub record LawLodgers : Type 0 where
  pub keeps : (source : Source) (special : ℕ → Bool) (b : Lodger) (s : State) →
      PartsState (record { source = source; special = special; home = b.home }) s → Loads source b s → Keeps source b s
  pub variables : (source : Source) (b : Lodger) (s : State) → IsAtVariable b → LoadsItAt b s.run.control s → Loads source b s
  pub lets_in : (source : Source) (special : ℕ → Bool) (home : ℕ → Value) (s : State) →
      PartsState (record { source = source; special = special; home = home }) s → (r : Request) (u : State) → quiet source s ≡ Asks r u →
      (o : ℕ) → (r ≡ ask.Made o) ⊎ (r ≡ ask.Spawn o) →
      LetsIn source (record { object = o; maker = u.env.exec; home = home; outer = outermost u.callers }) r u
