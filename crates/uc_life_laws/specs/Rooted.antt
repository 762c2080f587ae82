-- What has gone is at hand of nobody, where it stands in what nobody has to clean up, and what executions have of others stands in what those have.
use Rattle.std.specs.Prelude.{◌≡◌, ℕ, ◌<◌, ◌⊎◌, false, List, [], ◌∷◌, ◌++◌, Option, Some, None, Bool, true}
use Rattle.uc_entry.specs.declared.entry.Entry.{Entry}
use Rattle.uc_acts.specs.Journal.{Journal}
use Rattle.uc_acts.specs.Known.{has_ended, is_gone}
use Rattle.uc_machine.specs.declared.exec.Exec.{Exec}
use Rattle.uc_machine.specs.declared.exec.Home.{Home}
use Rattle.uc_machine.specs.declared.exec.Home.TheVariants.{Task, Object}
use Rattle.uc_machine.specs.declared.exec.Stage.{Stage}
use Rattle.uc_machine.specs.declared.exec.Stage.TheVariants.{Fresh, Started, Ended}
use Rattle.uc_machine.specs.Executions.{Execution, others}
use Rattle.uc_machine.specs.Pieces as piece
use Rattle.uc_machine.specs.Pieces.{Value, Todo, Active, State, Env, Members}
use Rattle.uc_meaning.specs.Runs.{World}
use Rattle.uc_typing.specs.Typing.{Ty, Cell, Obj, Raw, Sig, Table}
use Rattle.uc_life_laws.specs.Things.{Few, AtField, IsFor, InStack, Base, NoBase, Variables, Stands}
use Rattle.uc_life_laws.specs.Knowing.{InMaking, KnowsEx, KnowsState}
use Rattle.uc_life_laws.specs.Silent.{AllSilent}
use Rattle.uc_life_laws.specs.Fewer.{FreshLasts}
use Rattle.uc_life_laws.specs.Lasting.{lasting, lasting_numbers, WorldLasts}
use Rattle.uc_life_laws.specs.LifeStates.{EnvBy, MembersBy}

-- what an execution has to clean up
abbrev pub OwnThings : Table → Exec → List Active → Value → Ty → Type 0
OwnThings t n cs w a = InStack (IsFor t) (AtField t) NoBase n cs w a

-- an execution is among those that do not run, has begun and not ended, and has these activations
abbrev pub InSlot : Exec → List Active → Exec → Option (Execution (List Todo) Value) → Type 0
InSlot n cs m None = ⊥
InSlot n cs m (Some x) = (n ≡ m) × (cs ≡ x.run ∷ x.callers) × (x.links.stage ≡ Started)

abbrev pub InParked : Exec → List Active → Home → List (ℕ × Option (Execution (List Todo) Value)) → Type 0
InParked n cs h [] = ⊥
InParked n cs h (p ∷ ps) = InSlot n cs (record { home = h; serial = p.0 }) p.1 ⊎ InParked n cs h ps

abbrev pub InHand : Exec → List Active → List (ℕ × Members) → Type 0
InHand n cs [] = ⊥
InHand n cs (p ∷ ps) = InParked n cs (Object p.0) p.1.parked ⊎ InHand n cs ps

abbrev pub InMembers : Exec → List Active → Home → Option Members → Type 0
InMembers n cs h None = ⊥
InMembers n cs h (Some m) = InParked n cs h m.parked

-- it lives in a world: it runs in a task of which this holds, or does not run, in a task or in an object
abbrev pub LivesBy : (ℕ → Type 0) → World → Exec → List Active → Type 0
LivesBy P x n cs =
    ((u : ℕ) × P u × (n ≡ (x.tasks u).env.exec) × (cs ≡ (x.tasks u).run ∷ (x.tasks u).callers)) ⊎
    (((u : ℕ) × (InParked n cs (Task (x.tasks u).env.own) (x.tasks u).env.house.parked ⊎ InHand n cs (x.tasks u).env.hand)) ⊎
    ((o : ℕ) × InMembers n cs (Object o) (x.homes o)))

-- behind a journal: of tasks that have not ended
abbrev pub Lives : Journal → World → Exec → List Active → Type 0
Lives j x n cs = LivesBy (λ u. has_ended u j ≡ false) x n cs

-- what is at a place
abbrev pub IsPlace : Value → Type 0
IsPlace (piece.Number z) = ⊥
IsPlace (piece.Place o p) = Unit {0}
IsPlace (piece.Running n) = ⊥
IsPlace (piece.Object o) = ⊥
IsPlace piece.Nothing = ⊥

-- what executions may have of others: what is at a place, or a mutex object as one that is not whole
abbrev pub IsBase : Value → Ty → Type 0
IsBase w b = IsPlace w ⊎ ((o : ℕ) × (c : ℕ) × (w ≡ piece.Object o) × (b ≡ Raw c))

-- what an execution is still to clean up: what it has marks for, and what else is told, such as that which it is about to destroy
abbrev pub Yet : Table → (Exec → List Active → Value → Ty → Bool) → Exec → List Active → Value → Ty → Type 0
Yet t yet n cs w a = OwnThings t n cs w a ⊎ (yet n cs w a ≡ true)

-- that, and what it has of others
abbrev pub Had : Table → Few → (Exec → List Active → Value → Ty → Bool) → Exec → List Active → Value → Ty → Type 0
Had t few yet n cs w a = Yet t yet n cs w a ⊎ Base few n w a

-- among what it has of others, that which is told to be its own object
abbrev pub OwnObject : Few → (Exec → Value → Ty → Bool) → Exec → Value → Ty → Type 0
OwnObject few own n w a = Base few n w a × (own n w a ≡ true)

module _ (t : Table) (few : Few) (numbers : Ty → ℕ → Bool) (o : ℕ) where
  -- these activations do not build or destroy the object
  abbrev pub Apart : List Sig → List Active → Type 0
  Apart gs cs = (c : ℕ) → InMaking gs cs (piece.Object o) (Raw c) → ⊥

  -- an execution that does not run, has begun and not ended does not build or destroy the object
  abbrev pub StageApart : Stage → Exec → Execution (List Todo) Value → Type 0
  StageApart Fresh n x = Unit {0}
  StageApart Started n x = (k : KnowsEx t few n x) → Apart k.sigs (x.run ∷ x.callers)
  StageApart Ended n x = Unit {0}

  abbrev pub ExApart : Exec → Execution (List Todo) Value → Type 0
  ExApart n x = StageApart x.links.stage n x

  -- of the running execution, those of its activations that wait do not build or destroy the object, nor does the newest one, but where that only comes to
  -- its end
  pub record RunApart (given : List Ty) (s : State) (x : KnowsState t few given s) : Type 0 where
    pub waiting : Apart (others x.sigs) s.callers
    pub operands : Apart x.sigs (s.run ∷ s.callers) ⊎ AllSilent s.run.control

-- one that has not begun knows its own object alone, which keeps its number, and has no variables in scope; nor has one that has ended
abbrev pub FreshKeeps : Table → Few → (Ty → ℕ → Bool) → Stage → Exec → Execution (List Todo) Value → Type 0
FreshKeeps t few numbers Fresh n x = FreshLasts t few numbers x ×
    ((w : Value) (a : Ty) → Variables t n (x.run ∷ x.callers) w a → ⊥)
FreshKeeps t few numbers Started n x = Unit {0}
FreshKeeps t few numbers Ended n x = (w : Value) (a : Ty) → Variables t n (x.run ∷ x.callers) w a → ⊥

-- so it is of all in a world behind an act, and tasks that have ended have none
pub record FreshLast (t : Table) (few : Few) (j : Journal) (a : List Entry) (x : World) : Type 0 where
  pub scopes : (u : ℕ) (w : Value) (b : Ty) → Variables t (x.tasks u).env.exec ((x.tasks u).run ∷ (x.tasks u).callers) w b →
      has_ended u (j ++ a) ≡ false
  pub tasks : (u : ℕ) →
      EnvBy (λ n y. FreshKeeps t (lasting few j) (lasting_numbers few.numbers (j ++ a)) y.links.stage n y) (x.tasks u).env
  pub homes : (q : ℕ) →
      MembersBy (λ n y. FreshKeeps t (lasting few j) (lasting_numbers few.numbers (j ++ a)) y.links.stage n y) (Object q) (x.homes q)

-- each thing that one which lives has of others, but its own object, stands in what one has that lives and was there before
abbrev pub StandsUpwards : Table → Few → Journal → World → (Exec → Value → Ty → Bool) → (Exec → List Active → Value → Ty → Bool) → (Exec → ℕ) → Type 0
StandsUpwards t few j x own yet rank =
    (n : Exec) (cs : List Active) → Lives j x n cs → (w : Value) (b : Ty) → Base few n w b → own n w b ≡ false →
    (m : Exec) × (ds : List Active) × Lives j x m ds × (rank m < rank n) × Stands t few (Had t few yet m ds) b w

-- after an act that takes out an object: nobody is to clean up that in which it is at home, nor does it stand in the own object of one that
-- lives, nor has one that lives it of others as one that is not whole; and whoever may go on does not build or destroy it
pub record RootedBeside (t : Table) (few : Few) (j : Journal) (a : List Entry) (x : World) (own : Exec → Value → Ty → Bool) (yet : Exec → List Active → Value → Ty → Bool) (o : ℕ) : Type 0 where
  pub outside : (n : Exec) (cs : List Active) → Lives (j ++ a) x n cs → (c : ℕ) →
      Stands t few (OwnObject few own n) (Cell (Obj c)) (few.home o) → ⊥
  pub unheld : (n : Exec) (cs : List Active) → Lives (j ++ a) x n cs → (c : ℕ) → Base few n (piece.Object o) (Raw c) → ⊥
  pub unmarked : (n : Exec) (cs : List Active) → Lives (j ++ a) x n cs → (c : ℕ) →
      Stands t few (Yet t yet n cs) (Cell (Obj c)) (few.home o) → ⊥
  pub tasks : (u : ℕ) → EnvBy (ExApart t (lasting few j) (lasting_numbers few.numbers (j ++ a)) o) (x.tasks u).env
  pub alive : (u : ℕ) → has_ended u (j ++ a) ≡ false → (given : List Ty) (k : KnowsState t (lasting few j) given (x.tasks u)) →
      RunApart t (lasting few j) (lasting_numbers few.numbers (j ++ a)) o given (x.tasks u) k
  pub homes : (q : ℕ) →
      MembersBy (ExApart t (lasting few j) (lasting_numbers few.numbers (j ++ a)) o) (Object q) (x.homes q)

-- so it is, and what executions have of others stands upwards
pub record Rooted (t : Table) (few : Few) (j : Journal) (a : List Entry) (x : World) (own : Exec → Value → Ty → Bool) (yet : Exec → List Active → Value → Ty → Bool) (rank : Exec → ℕ) (o : ℕ) : Type 0 where
  pub up : StandsUpwards t few (j ++ a) x own yet rank
  pub beside : RootedBeside t few j a x own yet o

-- then what has gone is at hand of nobody, if that object alone has gone, what executions have of others are places, or objects that are not whole, those that have not begun
-- know their own objects alone, and those that have ended have nothing in scope
abbrev pub LawRooted : Type 0
LawRooted =
    (t : Table) (few : Few) (j : Journal) (a : List Entry) (x : World) (own : Exec → Value → Ty → Bool)
    (yet : Exec → List Active → Value → Ty → Bool) (rank : Exec → ℕ) (o : ℕ) →
    ((u : ℕ) → is_gone u j ≡ false → is_gone u (j ++ a) ≡ true → u ≡ o) →
    ((n : Exec) (w : Value) (b : Ty) → Base few n w b → IsBase w b) →
    FreshLast t few j a x → Rooted t few j a x own yet rank o → WorldLasts t few j a x
