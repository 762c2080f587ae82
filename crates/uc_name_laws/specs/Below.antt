-- Names of executions in what a task has in hand, by how many executions were made at each home.
use Rattle.std.specs.Prelude.{◌≡◌, ℕ, suc, ◌<◌, List, [], ◌∷◌, Option, Some, None, Bool, true, false, if◌then◌else◌}
use Rattle.uc_entry.specs.Keyed.{find}
use Rattle.uc_machine.specs.declared.exec.Exec.{Exec}
use Rattle.uc_machine.specs.declared.exec.Home.{Home}
use Rattle.uc_machine.specs.declared.exec.Owner.TheVariants.{Frame}
use Rattle.uc_machine.specs.Executions.{Links, Execution, home_eq, members_at, slot_in}
use Rattle.uc_machine.specs.Pieces.{Value, Place, Running, Todo, Active, State, Env, Members}

abbrev pub Ex : Type 0
Ex = Execution (List Todo) Value

-- one execution more at a home
abbrev pub one_more_at : Home → (Home → ℕ) → Home → ℕ
one_more_at h serials k = if home_eq k h then suc (serials k) else serials k

-- numbers are apart
abbrev pub AreApart : {X : Type 0} → List (ℕ × X) → Type 0
AreApart [] = Unit {0}
AreApart (p ∷ ps) = (find p.0 ps ≡ None) × AreApart ps

module _ (serials : Home → ℕ) where
  -- an execution that was made: it is one of so many at its home
  abbrev pub IsBelow : Exec → Type 0
  IsBelow n = n.serial < serials n.home

  -- so is one that a value names, in whose frame it is a place
  abbrev pub IsNamed : Value → Type 0
  IsNamed (Place (Frame n d) path) = IsBelow n
  IsNamed (Running n) = IsBelow n
  IsNamed v = Unit {0}

  abbrev pub AreNamed : List Value → Type 0
  AreNamed [] = Unit {0}
  AreNamed (v ∷ vs) = IsNamed v × AreNamed vs

  abbrev pub FramesNamed : List (List Value) → Type 0
  FramesNamed [] = Unit {0}
  FramesNamed (f ∷ fs) = AreNamed f × FramesNamed fs

  abbrev pub MaybeBelow : Option Exec → Type 0
  MaybeBelow None = Unit {0}
  MaybeBelow (Some n) = IsBelow n

  pub record LinksNamed (l : Links) : Type 0 where
    pub starter_below : MaybeBelow l.starter
    pub resumer_below : MaybeBelow l.resumer
    pub destroyer_below : MaybeBelow l.destroyer

  pub record ActiveNamed (a : Active) : Type 0 where
    pub operands_named : AreNamed a.operands
    pub this_named : IsNamed a.this
    pub result_named : IsNamed a.result

  abbrev pub AllNamed : List Active → Type 0
  AllNamed [] = Unit {0}
  AllNamed (a ∷ rest) = ActiveNamed a × AllNamed rest

  -- an execution that does not run
  pub record ExNamed (x : Ex) : Type 0 where
    pub run_named : ActiveNamed x.run
    pub callers_named : AllNamed x.callers
    pub frames_named : FramesNamed x.frames
    pub links_named : LinksNamed x.links

  abbrev pub SlotNamed : Option Ex → Type 0
  SlotNamed None = Unit {0}
  SlotNamed (Some x) = ExNamed x

  -- executions by numbers below n
  abbrev pub ParkedNamed : ℕ → List (ℕ × Option Ex) → Type 0
  ParkedNamed n [] = Unit {0}
  ParkedNamed n (p ∷ ps) = (p.0 < n) × SlotNamed p.1 × ParkedNamed n ps

  -- what is at a home
  pub record MembersNamed (h : Home) (m : Members) : Type 0 where
    pub values_named : AreNamed m.values
    pub parked_named : ParkedNamed m.serial m.parked
    pub apart : AreApart m.parked
    -- the home has made just so many executions
    pub serial_is : m.serial ≡ serials h

  -- a task, but for the activations of its running execution: what is at home in it, and in the objects in its hand, which are of homes that
  -- pass a test
  pub record EnvNamed (here : Home → Bool) (e : Env) : Type 0 where
    pub frames_named : FramesNamed e.frames
    pub links_named : LinksNamed e.links
    pub exec_below : IsBelow e.exec
    pub members_named : (h : Home) (m : Members) → members_at h e ≡ Some m → MembersNamed h m
    pub away : (h : Home) → here h ≡ false → members_at h e ≡ None

  -- all names in a task with its hand are of executions that were made
  pub record StateNamed (here : Home → Bool) (s : State) : Type 0 where
    pub run_named : ActiveNamed s.run
    pub callers_named : AllNamed s.callers
    pub env_named : EnvNamed here s.env

-- what there is of an execution in hand: nothing where it runs
abbrev pub slot_at : Exec → Env → Option (Option Ex)
slot_at n e = slot_in n.serial (members_at n.home e)

-- the execution of this name is there and without what it has to do, as one that runs, and no other is, where that is sure
pub record RunsAlone (sure : Bool) (n : Exec) (e : Env) : Type 0 where
  pub alone : sure ≡ true → (m : Exec) → slot_at m e ≡ Some None → m ≡ n
  pub there : sure ≡ true → slot_at n e ≡ Some None
