-- What comes to the end of an execution: destructors of objects that are its coroutine, or in which that lies, and clean-ups that call these.
use Rattle.std.specs.Prelude.{◌≡◌, ℕ, ◌<◌, ◌⊎◌, Bool, true, false, [], ◌∷◌, Some, slice_get}
use Rattle.uc_tree.specs.Source.{Shape, Expr, Variable, Element, Load, NoExprs, OfObject, OwnField, Counted, CallOn, CallUnwritten, EndOn, CleanUp, Destroys, DestroysAll, Forgets, Ends, Stmts, Scoped, Routine, Source}
use Rattle.uc_machine.specs.declared.exec.Exec.{Exec}
use Rattle.uc_machine.specs.declared.exec.Owner.TheVariants.{Frame}
use Rattle.uc_machine.specs.Pieces.{Slot, FieldAt, At, Value, Place, Object, further}

-- the scope of this clean-up opens among the first ones
abbrev pub IsScoped : CleanUp → Stmts → Type 0
IsScoped c (Scoped d rest) = (d ≡ c) ⊎ IsScoped c rest
IsScoped c ss = ⊥

-- a destructor is called at a place, one that somebody wrote or another
abbrev pub calling_at : Bool → ℕ → Expr → Expr
calling_at true d p = OfObject (CallOn d p NoExprs)
calling_at false d p = OfObject (CallUnwritten d p)

-- what ends it at last: where it is a task's the object at hand goes, else its coroutine is forgotten
abbrev pub IsLast : Bool → CleanUp → Type 0
IsLast task Forgets = task ≡ false
IsLast task Ends = task ≡ true
IsLast task c = ⊥

-- where the coroutine of an execution is, or the object of the task whose main it is; which of these it is; and where mutex objects are at home
pub record Seat : Type 0 where
  pub place : Value
  pub task : Bool
  pub home : ℕ → Value

module _ (source : Source) (w : Seat) where
  -- the routine of this number, called at this value, opens the scope in which the execution of that coroutine is forgotten at last, or that task is taken
  -- out, or one in which such a destructor is called at a field, at an element of one, or at the mutex object that is at home at one of these
  pub data Destroying : ℕ → Value → Type 0 where
    itself : {r : ℕ} (x : Routine) → slice_get source.routines r ≡ Some x → x.params ≡ 0 →
        (c : CleanUp) → IsLast w.task c → IsScoped c x.body → Destroying r w.place
    field : {r d : ℕ} {v : Value} (x : Routine) → slice_get source.routines r ≡ Some x → x.params ≡ 0 →
        (h : Shape) (i : ℕ) (written : Bool) → IsScoped (Destroys (calling_at written d (OfObject (OwnField h i)))) x.body →
        Destroying d (further (FieldAt h i) v) → Destroying r v
    element : {r d : ℕ} {v : Value} (x : Routine) → slice_get source.routines r ≡ Some x → x.params ≡ 0 →
        (h : Shape) (i n j : ℕ) (k : Shape) (written : Bool) → j < n →
        IsScoped (DestroysAll n (calling_at written d (Element n k (OfObject (OwnField h i)) (OfObject Counted)))) x.body →
        Destroying d (further (At k j) (further (FieldAt h i) v)) → Destroying r v
    mutex : {r d : ℕ} {v : Value} (x : Routine) → slice_get source.routines r ≡ Some x → x.params ≡ 0 →
        (h : Shape) (i o : ℕ) (written : Bool) → IsScoped (Destroys (OfObject (EndOn d written (Load (OfObject (OwnField h i)))))) x.body →
        w.home o ≡ further (FieldAt h i) v → Destroying d (Object o) → Destroying r v
    mutexes : {r d : ℕ} {v : Value} (x : Routine) → slice_get source.routines r ≡ Some x → x.params ≡ 0 →
        (h : Shape) (i n j o : ℕ) (k : Shape) (written : Bool) → j < n →
        IsScoped (DestroysAll n (OfObject (EndOn d written (Load (Element n k (OfObject (OwnField h i)) (OfObject Counted)))))) x.body →
        w.home o ≡ further (At k j) (further (FieldAt h i) v) → Destroying d (Object o) → Destroying r v

  -- at the mutex object that is at home at a place
  abbrev pub DestroyingAt : ℕ → Value → Type 0
  DestroyingAt d v = (o : ℕ) × (w.home o ≡ v) × Destroying d (Object o)

  -- in an activation of this frame and object
  module _ (n : Exec) (f : ℕ) (this : Value) where
    -- what holds of a place that is a variable, or a field of the object at hand
    abbrev pub AtPlace : (Value → Type 0) → Expr → Type 0
    AtPlace P (Variable k) = P (Place (Frame n f) (Slot k ∷ []))
    AtPlace P (OfObject (OwnField h i)) = P (further (FieldAt h i) this)
    AtPlace P e = ⊥

    -- such a destructor is called there
    abbrev pub EndsAt : Expr → Type 0
    EndsAt (OfObject (CallOn d p NoExprs)) = AtPlace (Destroying d) p
    EndsAt (OfObject (CallUnwritten d p)) = AtPlace (Destroying d) p
    EndsAt (OfObject (EndOn d written (Load p))) = AtPlace (DestroyingAt d) p
    EndsAt e = ⊥

    -- at the element j of an array there
    abbrev pub AtElement : (Value → Type 0) → ℕ → Expr → Type 0
    AtElement P j (Element m k p (OfObject Counted)) = (j < m) × AtPlace (λ v. P (further (At k j) v)) p
    AtElement P j e = ⊥

    abbrev pub EndsElement : ℕ → Expr → Type 0
    EndsElement j (OfObject (CallOn d p NoExprs)) = AtElement (Destroying d) j p
    EndsElement j (OfObject (CallUnwritten d p)) = AtElement (Destroying d) j p
    EndsElement j (OfObject (EndOn d written (Load p))) = AtElement (DestroyingAt d) j p
    EndsElement j e = ⊥

    -- at one of the first elements, of so many
    abbrev pub EndsBelow : ℕ → Expr → Type 0
    EndsBelow e d = (j : ℕ) × (j < e) × EndsElement j d

    -- a clean-up comes to the end of the execution
    abbrev pub CleansUp : CleanUp → Type 0
    CleansUp Forgets = (w.task ≡ false) × (this ≡ w.place)
    CleansUp Ends = (w.task ≡ true) × (this ≡ w.place)
    CleansUp (Destroys e) = EndsAt e
    CleansUp (DestroysAll m e) = EndsBelow m e
    CleansUp c = ⊥
