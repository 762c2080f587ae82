-- Where activations stand in frames: of the object that a constructor or a destructor has at hand; and of handlers of resumptions, which use the frame of a
-- routine that waits: of what code those are that a search finds which goes out from an activation.
use Rattle.std.specs.Prelude.{◌≡◌, ℕ, ◌<◌, Bool, true, false, List, [], ◌∷◌, length, Option, Some, None, nat_eq}
use Rattle.uc_tree.specs.Source.{Shape, Expr, Variable, Element, Load, OfObject, Counted, EndOn, Source}
use Rattle.uc_machine.specs.declared.exec.Exec.{Exec}
use Rattle.uc_machine.specs.declared.exec.Visited.{Visited}
use Rattle.uc_machine.specs.declared.exec.Owner.TheVariants.{Frame}
use Rattle.uc_machine.specs.Pieces as piece
use Rattle.uc_machine.specs.Pieces.{Link, Slot, At, Value, Place, Object, further, Todo, Sort, sort, IsGuard, Active}
use Rattle.uc_machine.specs.Raising.{within}
use Rattle.uc_typing.specs.Typing.{Cell, Obj, Table}
use Rattle.uc_life_laws.specs.Things.{Few, Stands}
use Rattle.uc_life_laws.specs.Marks.{Marked}
use Rattle.uc_putting_laws.specs.CleanedSpots.{HoldsObjects, Reach, from_variable}
use Rattle.uc_putting_laws.specs.ObjectsAtHand.{LiesIn, BelongsBelow, variable, OwnMarked, NoneWithin, IsBuilt}
use Rattle.uc_putting_laws.specs.Calling.{CallingHandlers}

-- an array of mutex objects that is a variable: how many there are, and at which variable, by what destroys the element that is counted
abbrev pub OfArray : (ℕ → ℕ → Type 0) → Expr → Type 0
OfArray P (OfObject (EndOn r written (Load (Element m s (Variable k) (OfObject Counted))))) = P m k
OfArray P e = Unit {0}

-- that of which elements are built or destroyed, in front of all guarded blocks
abbrev pub ArrayBy : (ℕ → ℕ → Type 0) → Sort → Type 0 → Type 0
ArrayBy P (piece.IsSweep e) rest = OfArray P e
ArrayBy P (piece.IsFill n b d) rest = OfArray P d
ArrayBy P (piece.IsGuard hs) rest = Unit {0}
ArrayBy P k rest = rest

abbrev pub AtArray : (ℕ → ℕ → Type 0) → List Todo → Type 0
AtArray P [] = Unit {0}
AtArray P (p ∷ todo) = ArrayBy P (sort p) (AtArray P todo)

-- such arrays in a frame, if they have elements, lie before a variable
abbrev pub ArraysBefore : ℕ → ℕ → List Active → Type 0
ArraysBefore x f [] = Unit {0}
ArraysBefore x f (a ∷ others) = (a.frame ≡ f → AtArray (λ m k. 0 < m → k < x) a.control) × ArraysBefore x f others

-- a place in an execution of this name is that of no element which stands of such an array
abbrev pub NotStanding : Exec → Value → List Active → Type 0
NotStanding n place [] = Unit {0}
NotStanding n place (a ∷ others) =
    AtArray (λ m k. (s : Shape) (j : ℕ) → j < m → j < a.elements → place ≡ Place (Frame n a.frame) (At s j ∷ (Slot k ∷ [])) → ⊥) a.control ×
    NotStanding n place others

module _ (t : Table) (source : Source) (special : ℕ → Bool) where
  -- the handlers of guarded blocks name variables from one on
  abbrev pub GuardBy : ℕ → Sort → Type 0 → Type 0
  GuardBy x (IsGuard hs) rest = CallingHandlers t source special (from_variable x) hs × rest
  GuardBy x k rest = rest

  abbrev pub GuardsCode : ℕ → List Todo → Type 0
  GuardsCode x [] = Unit {0}
  GuardsCode x (p ∷ todo) = GuardBy x (sort p) (GuardsCode x todo)

  -- so do all handlers of a frame that a search finds which comes to these activations, as far as it has come
  abbrev pub SearchedAt : Bool → Type 0 → Type 0 → Type 0
  SearchedAt true here beyond = here
  SearchedAt false here beyond = beyond

  abbrev pub Searched : ℕ → Option Visited → ℕ → List Active → Type 0
  Searched x v f [] = Unit {0}
  Searched x None f (a ∷ others) = (a.frame ≡ f → GuardsCode x a.control) × Searched x a.handles f others
  Searched x (Some v) f (a ∷ others) =
      SearchedAt (nat_eq (length others) v.level) ((a.frame ≡ f → GuardsCode x (within v.rest a.control)) × Searched x a.handles f others) (Searched x (Some v) f others)

  module _ (few : Few) where
    -- in the frame f, of an activation of the execution n with this object, before these older ones: a variable behind all those in which a field stands
    -- that older ones have to clean up, or a mutex object that they build or destroy, behind arrays of which they do that with elements, and behind that in
    -- which the object lies, where mutex objects may lie in that, or it is one itself; and handlers that a search finds which goes out from it name variables
    -- from that one on
    pub record Beyond (r : Reach) (n : Exec) (older : List Active) (handles : Option Visited) (this : Value) (f : ℕ) : Type 0 where
      pub cell : ℕ
      pub spare : (k : ℕ) (v : Value) (e : ℕ) → LiesIn few (variable n f k) v →
          Stands t few (OwnMarked t n older) (Cell (Obj e)) v → k < cell
      pub past : HoldsObjects t r.class → (k : ℕ) (l : Link) (v : Value) → LiesIn few (variable n f k) v →
          LiesIn few (further l this) v → k < cell
      pub held : r.builds ≡ true → (o : ℕ) → this ≡ Object o → (k : ℕ) → LiesIn few (variable n f k) (few.home o) → k < cell
      pub built : (o : ℕ) → IsBuilt older o → (k : ℕ) → LiesIn few (variable n f k) (few.home o) → k < cell
      pub arrays : ArraysBefore cell f older
      pub code : Searched cell handles f older

    -- of an activation of the execution n with this frame and this object, before these older ones: the object, where it builds or destroys that, in which
    -- older ones build and destroy nothing, and which is at home in no element that stands of an array of which they build or destroy others; that variables
    -- of its frame in which a field stands that older ones have to clean up, or a mutex object that they build or destroy, and such arrays, are none of those
    -- that it names, nor of those that handlers name which a search finds there; and so it is in other frames
    pub record IsSeated (r : Reach) (n : Exec) (older : List Active) (frame : ℕ) (handles : Option Visited) (this : Value) : Type 0 where
      pub own : r.builds ≡ true → BelongsBelow few n frame this
      pub alone : r.builds ≡ true → NoneWithin t few (Marked t n older) this
      pub free : r.builds ≡ true → (o : ℕ) → IsBuilt older o → (l : Link) → LiesIn few (further l this) (few.home o) → ⊥
      pub spare : (k : ℕ) (v : Value) (e : ℕ) → LiesIn few (variable n frame k) v →
          Stands t few (OwnMarked t n older) (Cell (Obj e)) v → k < r.low
      pub built : (o : ℕ) → IsBuilt older o → (k : ℕ) → LiesIn few (variable n frame k) (few.home o) → k < r.low
      pub arrays : ArraysBefore r.low frame older
      pub apart : r.builds ≡ true → (o : ℕ) → this ≡ Object o → NotStanding n (few.home o) older
      pub after : Searched r.low handles frame older
      pub beyond : (f : ℕ) → (f ≡ frame → ⊥) → Beyond r n older handles this f
