-- Tasks in which who is at home where a mutex object that is a task is in scope is no task that is still to begin.
use Rattle.std.specs.Prelude.{◌≡◌, ℕ, ◌<◌, ◌⊎◌, Bool, true, false, List, [], ◌∷◌, length, drop, Option}
use Rattle.uc_tree.specs.Programs.{Program}
use Rattle.uc_tree.specs.Source.{Expr, Source}
use Rattle.uc_entry.specs.declared.request.Request.{Request}
use Rattle.uc_entry.specs.declared.request.Request.TheVariants as ask
use Rattle.uc_machine.specs.declared.exec.Exec.{Exec}
use Rattle.uc_machine.specs.declared.exec.Home.{Home}
use Rattle.uc_machine.specs.Pieces as piece
use Rattle.uc_machine.specs.Pieces.{Value, Object, Todo, Active, State, Members, Step, Goes, Ticks, Asks, top, below}
use Rattle.uc_machine.specs.Raising.{arrives}
use Rattle.uc_answer_laws.specs.Suiting.{form_of_request}
use Rattle.uc_state_laws.specs.Counted.{params}
use Rattle.uc_state_laws.specs.Marked.{operands}
use Rattle.uc_place_laws.specs.OlderResting.{AllWait, NamedMembers, NamedEnv}
use Rattle.uc_tasked_laws.specs.Seated.{ArePaired, EndsTask, OfScope, OfPart, OpensOf}
use Rattle.uc_tasked_laws.specs.Seats.{Mark, seat, Holds, anys, Every, Ok, AtDrop, Stands, Starts}

-- what is told of objects: the place at which each is at home, and whether it has been made, is not gone, and is of no task yet
pub record Told : Type 0 where
  pub homes : ℕ → Value
  pub pending : ℕ → Bool

-- who is at home at a place is not pending; nor is it, but for this object
abbrev pub IsFree : Told → Value → Type 0
IsFree told v = (o : ℕ) → told.homes o ≡ v → told.pending o ≡ false

abbrev pub IsFreeBut : Told → ℕ → Value → Type 0
IsFreeBut told x v = (o : ℕ) → told.homes o ≡ v → (o ≡ x) ⊎ (told.pending o ≡ false)

-- of the scope that opens next where the value of the statement before it is to be dropped; of that for which the first of those that wait does so
abbrev pub Awaited : (ℕ → Expr → Type 0) → List Todo → Type 0
Awaited P (piece.DropNow ∷ (piece.Within line ∷ (piece.Rest ss ∷ todo))) = OpensOf P ss
Awaited P todo = Unit {0}

abbrev pub OnTop : (Active → ℕ → Expr → Type 0) → List Active → Type 0
OnTop P [] = Unit {0}
OnTop P (b ∷ older) = Awaited (P b) b.control

-- what holds of all seats for which a list has a mark
abbrev pub MarkHas : (ℕ → Expr → Type 0) → Todo → Type 0
MarkHas P (piece.Clean c) = OfScope P c
MarkHas P (piece.Part c) = OfPart P c
MarkHas P x = Unit {0}

abbrev pub AllHave : (ℕ → Expr → Type 0) → List Todo → Type 0
AllHave P [] = Unit {0}
AllHave P (x ∷ todo) = MarkHas P x × AllHave P todo

module _ (p : Program) (told : Told) where
  -- where a task is in scope, or a part of an object under construction, nobody is at home who is pending
  abbrev pub Kept : Exec → ℕ → Value → ℕ → Expr → Type 0
  Kept n f this d e = EndsTask p d → IsFree told (seat n f this e)

  -- so it is where an activation ends for the end of which such a scope waits; and while it runs this holds but for its own object
  abbrev pub Done : Exec → List Active → Type 0
  Done n older = OnTop (λ b d e. Kept n b.frame b.this d e) older

  abbrev pub Begun : Exec → Value → List Active → Type 0
  Begun n this older =
      OnTop (λ b d e. EndsTask p d → (x : ℕ) × (this ≡ Object x) × IsFreeBut told x (seat n b.frame b.this e)) older

module _ (p : Program) (source : Source) (told : Told) where
  -- an activation before these older ones, with this still to do
  abbrev pub IsOk : Exec → ℕ → Value → List Active → List Mark → List Todo → Type 0
  IsOk n f this older ms todo = Ok p source (Done p told n older) (Begun p told n this older) (Kept p told n f this) ms todo

  -- one of the execution n that is to find so many operands in front of its own
  pub record Finds (many : ℕ) (n : Exec) (older : List Active) (a : Active) : Type 0 where
    pub marks : List Mark
    pub holds : Holds n a.frame a.this marks a.operands
    pub ok : IsOk n a.frame a.this older (anys many marks) a.control

  -- one that is to go on
  abbrev pub Runs : Exec → List Active → Active → Type 0
  Runs n older a = Finds 0 n older a

  -- one that waits for another, which may be a constructor of the object whose scope opens next
  abbrev pub WaitsAt : Exec → ℕ → Value → List Active → List Todo → Type 0
  WaitsAt n f this older todo = AtDrop p source (Done p told n older) (Begun p told n this older) (Kept p told n f this) Every todo

  abbrev pub Waits : Exec → List Active → Active → Type 0
  Waits n older a = Finds 1 n older a ⊎ WaitsAt n a.frame a.this older a.control

  -- who runs may stand before such a scope
  abbrev pub Standing : Exec → List Active → Active → Type 0
  Standing n older a = Stands p source (Done p told n older) (Begun p told n a.this older) (Kept p told n a.frame a.this) (Kept p told n a.frame a.this) a.control

  -- or at the start or at the end of the building of its object
  abbrev pub Starting : Exec → List Active → Active → Type 0
  Starting n older a = Starts p source (Done p told n older) (Begun p told n a.this older) (Kept p told n a.frame a.this) a.control

  -- or before the call of a constructor for an object that is made
  abbrev pub Calls : Exec → List Active → Active → ℕ → List Todo → Type 0
  Calls n older a r todo = (x : ℕ) × (top (drop (params source r) a.operands) ≡ Object x) ×
      AtDrop p source (Done p told n older) (Begun p told n a.this older) (Kept p told n a.frame a.this) (λ d e. ArePaired p r d × (EndsTask p d → IsFreeBut told x (seat n a.frame a.this e))) todo

  abbrev pub Calling : Exec → List Active → Active → List Todo → Type 0
  Calling n older a (piece.CallOnNow r ∷ todo) = Calls n older a r todo
  Calling n older a (piece.CallUnwrittenNow r ∷ todo) = Calls n older a r todo
  Calling n older a todo = ⊥

  abbrev pub RunsNow : Exec → List Active → Active → Type 0
  RunsNow n older a = Finds 0 n older a ⊎ (Starting n older a ⊎ (Standing n older a ⊎ Calling n older a a.control))

  abbrev pub SeatedMembers : Home → Option Members → Type 0
  SeatedMembers h m = NamedMembers Runs Waits h m

  pub record SeatedState (s : State) : Type 0 where
    pub run : RunsNow s.env.exec s.callers s.run
    pub callers : AllWait Runs Waits s.env.exec s.callers
    pub env : NamedEnv Runs Waits s.env

  -- one at rest, that is to find so many operands
  pub record SeatedRest (many : ℕ) (s : State) : Type 0 where
    pub run : Finds many s.env.exec s.callers s.run
    pub callers : AllWait Runs Waits s.env.exec s.callers
    pub env : NamedEnv Runs Waits s.env

  -- one that lets the task of its object begin: then that is not pending any more
  pub record Spawning (n : Exec) (older : List Active) (a : Active) : Type 0 where
    pub marks : List Mark
    pub holds : Holds n a.frame a.this marks a.operands
    pub ok : Ok p source (Done p told n older ⊎ Begun p told n a.this older) (Begun p told n a.this older) (Kept p told n a.frame a.this) marks a.control

  -- behind a request: so many operands come with the answer; behind an end and a fault nothing is done
  abbrev pub FindsBehind : Request → Exec → List Active → Active → Type 0
  FindsBehind ask.End n older a = Unit {0}
  FindsBehind (ask.Fault f) n older a = Unit {0}
  FindsBehind (ask.Spawn o) n older a = Spawning n older a × (o ≡ piece.object_in a.this)
  FindsBehind r n older a = Finds (operands (form_of_request r)) n older a

  pub record SeatedAsk (r : Request) (s : State) : Type 0 where
    pub run : FindsBehind r s.env.exec s.callers s.run
    pub callers : AllWait Runs Waits s.env.exec s.callers
    pub env : NamedEnv Runs Waits s.env

  abbrev pub SeatedStep : Step → Type 0
  SeatedStep (Goes s) = SeatedState s
  SeatedStep (Ticks s) = SeatedRest 0 s
  SeatedStep (Asks r s) = SeatedAsk r s

  -- what a step is to find. Where a made object is bound: an object, with its place below the arguments, at which nobody else is at home who is
  -- pending
  pub record Binds (r : ℕ) (s : State) : Type 0 where
    pub object : ℕ
    pub made : top s.run.operands ≡ Object object
    pub lies : params source r < length (below s.run.operands)
    pub alone : IsFreeBut told object (top (drop (params source r) (below s.run.operands)))

  -- and no return of a handler is over at the end of an activation for which the scope of a task waits
  abbrev pub FairAt : List Todo → State → Type 0
  FairAt (piece.BindMadeNow c r ∷ todo) s = Binds r s
  FairAt (piece.Unwind ∷ []) s = arrives s.run.raised (length s.callers) ≡ true → Done p told s.env.exec s.callers
  FairAt todo s = Unit {0}

  abbrev pub Fair : State → Type 0
  Fair s = FairAt s.run.control s
