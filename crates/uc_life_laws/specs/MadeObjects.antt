-- Who binds a made object has just been told it: nothing that is to do binds one, but what a task does first as it goes on.
use Rattle.std.specs.Prelude.{◌≡◌, ℕ, ◌<◌, List, [], ◌∷◌, drop, Option}
use Rattle.uc_tree.specs.Source.{Source}
use Rattle.uc_entry.specs.declared.request.Request.{Request}
use Rattle.uc_entry.specs.declared.request.Request.TheVariants as ask
use Rattle.uc_machine.specs.Pieces.{Value, Object, Todo, BindMadeNow, Active, State, Members, Step, Goes, Ticks, Asks, top, below}
use Rattle.uc_state_laws.specs.Counted.{params}
use Rattle.uc_site_laws.specs.Resting.{AllWait, RestsMembers, RestsEnv, RestsState}

-- nothing of this binds a made object
abbrev pub BindsNone : List Todo → Type 0
BindsNone [] = Unit {0}
BindsNone (BindMadeNow c r ∷ todo) = ⊥
BindsNone (p ∷ todo) = BindsNone todo

abbrev pub NoneActive : Active → Type 0
NoneActive a = BindsNone a.control

-- what is at home in an object, and a task
abbrev pub NoneMembers : Option Members → Type 0
NoneMembers m = RestsMembers NoneActive NoneActive m

abbrev pub NoneState : State → Type 0
NoneState s = RestsState NoneActive NoneActive s

-- the first piece alone does
abbrev pub BindsNext : List Todo → Type 0
BindsNext (BindMadeNow c r ∷ todo) = BindsNone todo
BindsNext todo = ⊥

pub record NextState (s : State) : Type 0 where
  pub run : BindsNext s.run.control
  pub callers : AllWait NoneActive NoneActive s.callers
  pub env : RestsEnv NoneActive NoneActive s.env

-- so it is of who asks for an object
abbrev pub NoneStep : Step → Type 0
NoneStep (Goes s) = NoneState s
NoneStep (Ticks s) = NoneState s
NoneStep (Asks (ask.Make m) s) = NextState s
NoneStep (Asks r s) = NoneState s

module _ (source : Source) (homes : ℕ → Value) (many : ℕ) where
  -- the newest operand is an object, one of the first so many, which is at home at the place below the arguments of its constructor
  pub record IsBound (r : ℕ) (vs : List Value) : Type 0 where
    pub number : ℕ
    pub made : number < many
    pub object : top vs ≡ Object number
    pub home : homes number ≡ top (drop (params source r) (below vs))

  -- so it is where a made object is bound next
  abbrev pub BindsAt : List Todo → State → Type 0
  BindsAt (BindMadeNow c r ∷ todo) s = IsBound r s.run.operands
  BindsAt todo s = Unit {0}

  abbrev pub Binds : State → Type 0
  Binds s = BindsAt s.run.control s

  -- and nothing binds one behind that
  abbrev pub BindsFirst : List Todo → List Value → Type 0
  BindsFirst (BindMadeNow c r ∷ todo) vs = IsBound r vs × BindsNone todo
  BindsFirst todo vs = BindsNone todo

  pub record FirstState (s : State) : Type 0 where
    pub run : BindsFirst s.run.control s.run.operands
    pub callers : AllWait NoneActive NoneActive s.callers
    pub env : RestsEnv NoneActive NoneActive s.env

  -- a task at rest that has asked this
  abbrev pub RestsBy : Request → State → Type 0
  RestsBy (ask.Make m) s = NextState s
  RestsBy ask.Slice s = FirstState s
  RestsBy r s = NoneState s
