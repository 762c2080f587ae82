-- References of mutex objects that are bound to mutex objects: which were bound so. And what mutex objects executions read that are another's, of which they then have
-- the homes of others.
use Rattle.std.specs.Prelude.{◌≡◌, ◌<◌, ◌⊎◌, ℕ, zero, suc, ◌&&◌, ◌||◌, Bool, true, false, not, nat_eq, List, [], ◌∷◌, Option, Some, None}
use Rattle.uc_tree.specs.Programs.{Program}
use Rattle.uc_tree.specs.Source.{Source, OfObject, GetOwn}
use Rattle.uc_entry.specs.declared.entry.Entry.{Entry}
use Rattle.uc_entry.specs.declared.entry.Options.{Options}
use Rattle.uc_entry.specs.declared.request.Asked.{Asked}
use Rattle.uc_entry.specs.declared.request.Request.TheVariants as ask
use Rattle.uc_acts.specs.Journal.{Journal}
use Rattle.uc_acts.specs.Known.{is_gone}
use Rattle.uc_machine.specs.declared.exec.Exec.{Exec}
use Rattle.uc_machine.specs.declared.exec.Owner.TheVariants.{Frame, Fields}
use Rattle.uc_machine.specs.Executions.{exec_eq}
use Rattle.uc_machine.specs.Pieces.{FieldAt, Value, Number, Place, Running, Object, Nothing, Todo, Eval, LoadNow, BindNow, State, address, further, loaded, top, below}
use Rattle.uc_machine.specs.Rides.{Rides, slices, goes_on, ticks, asks}
use Rattle.uc_meaning.specs.Runs.{World, May, Runs, AsksIn, gives, no_room, acts, begun, more}
use Rattle.uc_resolve.specs.Resolve.{source_of}
use Rattle.uc_sound.specs.Tables.{table_of}
use Rattle.uc_cell_laws.specs.OwnCells.{owns_of}
use Rattle.uc_lasting_programs.specs.Seats.{is_same}
use Rattle.uc_typing.specs.Typing.{Ty, Cell, Obj, Table}
use Rattle.uc_life_laws.specs.Homes.{home_of}
use Rattle.uc_life_laws.specs.HomedStates.{Owns}

-- the mutex object to which a value belongs, if there is one
abbrev pub owner_of : Value → Option ℕ
owner_of (Number z) = None
owner_of (Place (Frame n d) p) = None
owner_of (Place (Fields o) p) = Some o
owner_of (Running x) = None
owner_of (Object o) = Some o
owner_of Nothing = None

-- `homes`: where objects are at home. What belongs to an object is the own of the object o: that is o, or it is at home in what is the own of o; behind so many it is
-- taken to be
module _ (homes : ℕ → Value) (o : ℕ) where
  abbrev pub is_own_of : ℕ → Option ℕ → Bool
  is_own_of zero u = true
  is_own_of (suc k) None = false
  is_own_of (suc k) (Some u) = nat_eq u o || is_own_of k (owner_of (homes u))

  -- so an object is at home in o: those in which it lies have lower numbers
  abbrev pub is_part : ℕ → Bool
  is_part q = is_own_of (suc (suc q)) (owner_of (homes q))

-- the field i of a class is a reference to a mutex object of the class d
abbrev pub IsReferenceTo : Table → Owns → ℕ → ℕ → ℕ → Type 0
IsReferenceTo t owns c i d = (owns c i ≡ false) × (t.fields c i ≡ Cell (Obj d)) × (t.mutex d ≡ true)

-- the field i of an object of the class c at that object's place
abbrev pub field_cell : Table → ℕ → ℕ → ℕ
field_cell t c i = address (FieldAt (t.shape c) i ∷ [])

-- `n`: an execution. A value is its own: it lies in a frame of it, or in a mutex object that is at home in what is its own; behind so many it is taken to be
module _ (homes : ℕ → Value) (n : Exec) where
  abbrev pub is_own_by : ℕ → Value → Bool
  is_own_by zero v = true
  is_own_by (suc k) (Number z) = false
  is_own_by (suc k) (Place (Frame m d) p) = exec_eq m n
  is_own_by (suc k) (Place (Fields o) p) = is_own_by k (homes o)
  is_own_by (suc k) (Running x) = false
  is_own_by (suc k) (Object o) = is_own_by k (homes o)
  is_own_by (suc k) Nothing = false

  -- so an object is at home in what is its own
  abbrev pub is_own : ℕ → Bool
  is_own q = is_own_by (suc (suc q)) (homes q)

-- `o`, `q`: the object q, which is no part of the object o, is bound to a reference of that
module _ (t : Table) (owns : Owns) (homes : ℕ → Value) (class : ℕ → Option ℕ) (o q : ℕ) where
  -- the cell k is a reference to a mutex object
  abbrev pub IsBoundAt : ℕ → Value → Type 0
  IsBoundAt k (Object u) = (c : ℕ) × (i : ℕ) × (d : ℕ) × (u ≡ q) × (is_part homes o q ≡ false) × (class o ≡ Some c) × IsReferenceTo t owns c i d × (field_cell t c i ≡ k)
  IsBoundAt k v = ⊥

  -- at a place a value is
  abbrev pub IsBound : Value → Value → Type 0
  IsBound (Place (Fields u) p) w = (u ≡ o) × IsBoundAt (address p) w
  IsBound (Object u) w = (u ≡ o) × IsBoundAt 0 w
  IsBound v w = ⊥

  -- so it is in a state, on a ride, and in a run
  abbrev pub BindsBy : List Todo → State → Type 0
  BindsBy (BindNow ∷ todo) s = IsBound (top (below s.run.operands)) (top s.run.operands)
  BindsBy todo s = ⊥

  abbrev pub BindsTo : State → Type 0
  BindsTo s = BindsBy s.run.control s

  abbrev pub RideBinds : {source : Source} {s x : State} {e k : ℕ} {a : Asked} → Rides source s e x k a → Type 0
  RideBinds slices = ⊥
  RideBinds (goes_on {s} e r) = BindsTo s ⊎ RideBinds r
  RideBinds (ticks {s} e r) = BindsTo s ⊎ RideBinds r
  RideBinds (asks {s} e) = BindsTo s

  module _ (source : Source) (input : List ℕ) (opts : Options) where
    abbrev pub MayBindTo : {j : Journal} {w : World} {a : List Entry} {x : World} → May source opts input j w a x → Type 0
    MayBindTo (gives p u s h) = ⊥
    MayBindTo (no_room p u s h) = ⊥
    MayBindTo (acts p u k s asked d) = RideBinds d.rides

    abbrev pub RunBinds : {j : Journal} {w : World} → Runs source input opts j w → Type 0
    RunBinds begun = ⊥
    RunBinds (more r on m) = RunBinds r ⊎ MayBindTo m

-- of the first so many objects something is told as otherwise
abbrev pub AreTold : {A : Type 0} → ℕ → (told so : ℕ → A) → Type 0
AreTold many told so = (o : ℕ) → o < many → so o ≡ told o

-- of what a task asks next, in a run: what is bound on the way to it to a reference of a mutex object is not gone; and where what is bound to a reference of another
-- object goes next, that is gone
pub record IsOutlived (p : Program) (homes : ℕ → Value) (class : ℕ → Option ℕ) (input : List ℕ) (opts : Options) (j : Journal) (w : World) (r : Runs (source_of p) input opts j w) (u v k : ℕ) (s : State) (asked : Asked) (d : AsksIn (source_of p) opts j w u v k s asked) : Type 0 where
  pub there : (o q : ℕ) → RideBinds (table_of p) (owns_of p) homes class o q d.rides → is_gone q j ≡ false
  pub last : (o q : ℕ) → RunBinds (table_of p) (owns_of p) homes class o q (source_of p) input opts r ⊎ RideBinds (table_of p) (owns_of p) homes class o q d.rides →
      asked.request ≡ ask.Gone q → is_gone o j ≡ false → o ≡ q

-- what a state reads: a field of the object at hand, or what is loaded
abbrev pub value_read : List Todo → State → Value
value_read (Eval (OfObject (GetOwn k i)) ∷ todo) s = loaded (further (FieldAt k i) s.run.this) s.env
value_read (LoadNow ∷ todo) s = loaded (top s.run.operands) s.env
value_read todo s = Nothing

abbrev pub is_placed : Value → Bool
is_placed (Place o p) = true
is_placed v = false

-- `homes`: where mutex objects are at home
module _ (homes : ℕ → Value) where
  -- a mutex object is another's: it is at home at a place, and not in what is the own of an execution
  abbrev pub is_anothers : Exec → Value → Bool
  is_anothers n (Object q) = is_placed (homes q) && not (is_own homes n q)
  is_anothers n v = false

  -- it is at home at this place
  abbrev pub is_home : Value → Value → Bool
  is_home (Object q) z = is_same (homes q) z
  is_home v z = false

  -- so an execution reads, in a state, what is another's and at home at a place
  abbrev pub reads_by : List Todo → State → Exec → Value → Bool
  reads_by todo s n z = exec_eq n s.env.exec && (is_anothers s.env.exec (value_read todo s) && is_home (value_read todo s) z)

  -- on a ride, and in a run
  abbrev pub reads_on_ride : {source : Source} {s x : State} {e k : ℕ} {a : Asked} → Rides source s e x k a → Exec → Value → Bool
  reads_on_ride slices n z = false
  reads_on_ride (goes_on {s} e r) n z = reads_by s.run.control s n z || reads_on_ride r n z
  reads_on_ride (ticks {s} e r) n z = reads_by s.run.control s n z || reads_on_ride r n z
  reads_on_ride (asks {s} e) n z = reads_by s.run.control s n z

  module _ (source : Source) (input : List ℕ) (opts : Options) where
    abbrev pub reads_in_act : {j : Journal} {w : World} {a : List Entry} {x : World} → May source opts input j w a x → Exec → Value → Bool
    reads_in_act (gives p u s h) n z = false
    reads_in_act (no_room p u s h) n z = false
    reads_in_act (acts p u k s asked d) n z = reads_on_ride d.rides n z

    abbrev pub reads_in_run : {j : Journal} {w : World} → Runs source input opts j w → Exec → Value → Bool
    reads_in_run begun n z = false
    reads_in_run (more r on m) n z = reads_in_run r n z || reads_in_act m n z

-- of a run of a program, and of the way to what is asked next
abbrev pub has_read : (p : Program) (input : List ℕ) (opts : Options) {j : Journal} {w : World} → Runs (source_of p) input opts j w → {q u k : ℕ} {s : State} {a : Asked} →
    AsksIn (source_of p) opts j w q u k s a → Exec → Value → Bool
has_read p input opts {j} {w} r d n z =
    reads_in_run (λ o. home_of (source_of p) input opts j w r o) (source_of p) input opts r n z || reads_on_ride (λ o. home_of (source_of p) input opts j w r o) d.rides n z

-- what a reference of the object at hand is bound to was lent to that
abbrev pub is_class : Option ℕ → ℕ → Bool
is_class None c = false
is_class (Some d) c = nat_eq d c

-- `passes`: numbers that were made
module _ (t : Table) (owns : Owns) (homes : ℕ → Value) (passes : ℕ → ℕ → Bool) (class : ℕ → Option ℕ) (s : State) where
  -- a mutex object that was made, and is no part of the object o
  abbrev pub is_lent_value : ℕ → ℕ → Value → Bool
  is_lent_value d o (Object q) = passes d q && not (is_part homes o q)
  is_lent_value d o v = false

  -- something of a type that is bound so
  abbrev pub is_lent_at : ℕ → Ty → Value → Bool
  is_lent_at o (Cell (Obj d)) v = t.mutex d && is_lent_value d o v
  is_lent_at o a v = false

  -- the field i of the object at hand, of a class, is a reference that is bound to one
  abbrev pub reads_lent : Option ℕ → ℕ → Value → Bool
  reads_lent (Some c) i (Object o) = (is_class (class o) c && not (owns c i)) &&
      is_lent_at o (t.fields c i) (loaded (further (FieldAt (t.shape c) i) (Object o)) s.env)
  reads_lent c i v = false
