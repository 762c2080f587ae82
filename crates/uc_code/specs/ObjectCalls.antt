-- Calls of constructors and destructors without arguments, and clean-ups, as the resolved tree has them and as marks do.
use Rattle.std.specs.Prelude.{◌≡◌, ℕ, pos, Option, Some, None, Bool, true, false}
use Rattle.uc_tree.specs.Source.{Shape, shape_cells, field_cells, Expr, Variable, Element, Load, OfObject, OwnField, Counted, CallOn, CallUnwritten, MakeOn, EndOn, Bind, NewCluster, NewProcessor, EndCluster, EndProcessor, Literal, NoExprs, CleanUp, Destroys, DestroysAll, Unwinds, Forgets, Leaves, Ends, Frees, Restores}
use Rattle.uc_code.specs.declared.rows.ObjectSpot.{ObjectSpot}
use Rattle.uc_code.specs.declared.rows.ObjectSpot.TheVariants.{Local, This}
use Rattle.uc_code.specs.declared.rows.Array.{Array}
use Rattle.uc_code.specs.declared.rows.Resource.TheVariants.{Cluster, Processor}
use Rattle.uc_code.specs.declared.rows.Manner.TheVariants.{Plain, Makes, Ends as EndsIt, Opens, Closes}
use Rattle.uc_code.specs.declared.rows.ObjectCall.{ObjectCall}
use Rattle.uc_code.specs.declared.rows.Cleaning.{Cleaning}
use Rattle.uc_code.specs.declared.rows.Cleaning.TheVariants as cleaning

-- a place that begins in a spot: a variable, a field of the object at hand
pub data BeginsAt : Expr → ObjectSpot → Type 0 where
  InFrame : (k : ℕ) → BeginsAt (Variable k) (Local k)
  InObject : (s : Shape) (i : ℕ) → BeginsAt (OfObject (OwnField s i)) (This (field_cells s i))

-- an object there, or the element that is counted of an array there
pub data LiesAt : Expr → ObjectSpot → Option Array → Type 0 where
  Whole : (e : Expr) (spot : ObjectSpot) → BeginsAt e spot → LiesAt e spot None
  Part : (n : ℕ) (s : Shape) (e : Expr) (spot : ObjectSpot) → BeginsAt e spot → LiesAt (Element n s e (OfObject Counted)) spot (Some (record { length = n; size = shape_cells s }))

-- the call of a routine there, written or not; a mutex object is made there, and the one whose number stands there is destroyed; so it is
-- for clusters and processors, which have no routine
pub data Calls : Expr → ObjectCall → Type 0 where
  Written : (r : ℕ) (e : Expr) (spot : ObjectSpot) (array : Option Array) → LiesAt e spot array → Calls (OfObject (CallOn r e NoExprs)) (record { spot = spot; array = array; routine = r; written = true; manner = Plain })
  Unwritten : (r : ℕ) (e : Expr) (spot : ObjectSpot) (array : Option Array) → LiesAt e spot array → Calls (OfObject (CallUnwritten r e)) (record { spot = spot; array = array; routine = r; written = false; manner = Plain })
  MakesMutex : (c r : ℕ) (written : Bool) (e : Expr) (spot : ObjectSpot) (array : Option Array) → LiesAt e spot array → Calls (OfObject (MakeOn c r written e NoExprs)) (record { spot = spot; array = array; routine = r; written = written; manner = Makes c })
  EndsMutex : (r : ℕ) (written : Bool) (e : Expr) (spot : ObjectSpot) (array : Option Array) → LiesAt e spot array → Calls (OfObject (EndOn r written (Load e))) (record { spot = spot; array = array; routine = r; written = written; manner = EndsIt })
  OpensCluster : (e : Expr) (spot : ObjectSpot) (array : Option Array) → LiesAt e spot array → Calls (OfObject (Bind e (OfObject NewCluster))) (record { spot = spot; array = array; routine = 0; written = true; manner = Opens Cluster })
  OpensProcessor : (e : Expr) (spot : ObjectSpot) (array : Option Array) → LiesAt e spot array → Calls (OfObject (Bind e (OfObject (NewProcessor (Literal (pos 0)))))) (record { spot = spot; array = array; routine = 0; written = true; manner = Opens Processor })
  ClosesCluster : (e : Expr) (spot : ObjectSpot) (array : Option Array) → LiesAt e spot array → Calls (OfObject (EndCluster (Load e))) (record { spot = spot; array = array; routine = 0; written = true; manner = Closes Cluster })
  ClosesProcessor : (e : Expr) (spot : ObjectSpot) (array : Option Array) → LiesAt e spot array → Calls (OfObject (EndProcessor (Load e))) (record { spot = spot; array = array; routine = 0; written = true; manner = Closes Processor })

-- the call that cleans up an object, or each element of an array of this length; what cleans up a coroutine, and a mutex object; and what
-- enables events again
pub data Cleans : CleanUp → Cleaning → Type 0 where
  One : (e : Expr) (what : ObjectCall) → Calls e what → what.array ≡ None → Cleans (Destroys e) (cleaning.Call what)
  All : (n size : ℕ) (e : Expr) (what : ObjectCall) → Calls e what → what.array ≡ Some (record { length = n; size = size }) → Cleans (DestroysAll n e) (cleaning.Call what)
  TakesDown : Cleans Unwinds cleaning.TakeDown
  IsForgotten : Cleans Forgets cleaning.Forget
  Left : Cleans Leaves cleaning.Leave
  Ended : Cleans Ends cleaning.End
  Freed : (main : Option ℕ) → Cleans (Frees main) (cleaning.Free main)
  Restored : (cell : ℕ) → Cleans (Restores cell) (cleaning.Restore cell)
