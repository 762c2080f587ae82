-- What activations have to clean up: variables, or fields of their objects, which are in frames below theirs.
use Rattle.std.proofs.Common.{◌≡◌, ℕ, ◌≤◌, ◌⊎◌, inl, inr, ⊎_elim, true, false, List, [], ◌∷◌, length, Option, None, sym, subst, arith}
use Rattle.uc_tree.specs.Source as src
use Rattle.uc_tree.specs.Source.{Shape, CleanUp}
use Rattle.uc_machine.specs.declared.exec.Exec.{Exec}
use Rattle.uc_machine.specs.declared.exec.Owner.{Owner}
use Rattle.uc_machine.specs.declared.exec.Owner.TheVariants.{Frame}
use Rattle.uc_machine.specs.Pieces as piece
use Rattle.uc_machine.specs.Pieces.{FieldAt, Value, Todo, Sort, Active, sort, further}
use Rattle.uc_typing.specs.Typing.{Ty, Cell, Obj, Table}
use Rattle.uc_state_laws.specs.RoomStacks.{Stack}
use Rattle.uc_life_laws.specs.Things.{Few, Within, AtVariable, AtField, Nowhere, IsFor, Marks, InTodo, Stands, Variables}
use Rattle.uc_life_laws.specs.Marks.{Marked}
use Rattle.uc_life_laws.specs.Ending.{OfField}
use Rattle.uc_putting_laws.specs.CleanedSpots.{HoldsObjects, LiesInClass, Reach, reach_of}
use Rattle.uc_putting_laws.specs.ObjectsAtHand.{same_place, further_on, LiesIn, BelongsBelow, in_object, variable, OwnMarked, lets_go, IsBuilt}
use Rattle.uc_putting_laws.specs.Seats.{IsSeated}
use Rattle.uc_putting_laws.specs.Calling.{CleansBy}
use Rattle.uc_putting_laws.specs.Putting.{Setting, Around, around, CodeScope, LeftBy, Ok, Left}
use Rattle.uc_putting_laws.proofs.CleanedSpots.{cleans_spot, spot_named}
use Rattle.uc_putting_laws.proofs.ObjectsWithin.{below_more, under_below, not_standing}
use Rattle.uc_putting_laws.proofs.Marks.{left_tail, AllLeft}
use Rattle.uc_putting_laws.proofs.Searches.{FramesBelow}

-- variables, or fields

module _ (t : Table) where
  sort_parts : (o : Owner) (this : Value) (s : Sort) (w : Value) (a : Ty) (R A B : Type 0) → (R → A ⊎ B) → Marks (IsFor t o this) (AtField t o this) s w a R → Marks (AtVariable t o this) (Nowhere o this) s w a A ⊎ Marks (AtField t o this) (AtField t o this) s w a B
  sort_parts o this (piece.IsClean c) w a R A B f (inl (inl m)) = inl (inl m)
  sort_parts o this (piece.IsClean c) w a R A B f (inl (inr m)) = inr (inl m)
  sort_parts o this (piece.IsClean c) w a R A B f (inr m) = ⊎_elim (λ x. inl (inr x)) (λ x. inr (inr x)) (f m)
  sort_parts o this (piece.IsPart c) w a R A B f (inl m) = inr (inl m)
  sort_parts o this (piece.IsPart c) w a R A B f (inr m) = ⊎_elim (λ x. inl (inr x)) (λ x. inr (inr x)) (f m)
  sort_parts o this piece.Simple w a R A B f m = f m
  sort_parts o this (piece.IsLoop x y z u) w a R A B f m = f m
  sort_parts o this piece.IsWhole w a R A B f m = f m
  sort_parts o this (piece.IsFill x y z) w a R A B f m = f m
  sort_parts o this (piece.IsSweep x) w a R A B f m = f m
  sort_parts o this (piece.IsGuard x) w a R A B f m = f m
  sort_parts o this piece.IsFinish w a R A B f m = f m
  sort_parts o this piece.IsFinishCoroutine w a R A B f m = f m

  todo_parts : (o : Owner) (this : Value) (todo : List Todo) (w : Value) (a : Ty) → InTodo (IsFor t o this) (AtField t o this) todo w a → InTodo (AtVariable t o this) (Nowhere o this) todo w a ⊎ InTodo (AtField t o this) (AtField t o this) todo w a
  todo_parts o this [] w a m = absurd m
  todo_parts o this (p ∷ todo) w a m = sort_parts o this (sort p) w a _ _ _ (todo_parts o this todo w a) m

  pub parts : (n : Exec) (cs : List Active) (w : Value) (a : Ty) → Marked t n cs w a → Variables t n cs w a ⊎ OwnMarked t n cs w a
  parts n [] w a m = absurd m
  parts n (c ∷ older) w a (inl m) = ⊎_elim (λ x. inl (inl x)) (λ x. inr (inl x)) (todo_parts (Frame n c.frame) c.this c.control w a m)
  parts n (c ∷ older) w a (inr m) = ⊎_elim (λ x. inl (inr x)) (λ x. inr (inr x)) (parts n older w a m)

-- an activation that has to clean up fields builds or destroys an object
module _ (g : Setting) (A : Around) (made : Reach) where
  pub record IsField (w : Value) (a : Ty) : Type 0 where
    pub builds : made.builds ≡ true
    pub shape : Shape
    pub number : ℕ
    pub at : w ≡ further (FieldAt shape number) A.this
    pub holds : (v : Value) (e : ℕ) → Within g.table w a v (Cell (Obj e)) → HoldsObjects g.table made.class

  abbrev Cleaned : CleanUp → Value → Ty → Type 0
  Cleaned c w a = AtField g.table (Frame A.exec A.frame) A.this c w a

  by_clean : (c : CleanUp) (w : Value) (a : Ty) → CleansBy g.table g.source g.special made c → LiesInClass g.table made.class c → Cleaned c w a → IsField w a
  by_clean c w a k n m = record {
    builds = spot_named g.table g.source g.special made (OfField m.0 m.1) c k (cleans_spot g.table a (src.OfObject (src.OwnField m.0 m.1)) c m.2);
    shape = m.0;
    number = m.1;
    at = m.3;
    holds = λ v e h. n m.0 m.1 a A.this v e m.2 (subst (λ x. Within g.table x a v (Cell (Obj e))) m.3 h);
  }

  by_scope : (c : CleanUp) (todo : List Todo) (w : Value) (a : Ty) → CodeScope g A made c todo → Cleaned c w a → IsField w a
  by_scope (src.Destroys e) todo w a n m = by_clean (src.Destroys e) w a n.1 n.3 m
  by_scope (src.DestroysAll j e) todo w a n m = by_clean (src.DestroysAll j e) w a n.1 n.3 m
  by_scope c todo w a n m = absurd m.2

  by_sort : (s : Sort) (todo : List Todo) (l o R : Type 0) (w : Value) (a : Ty) → LeftBy g A made s todo l o → (R → IsField w a) → Marks (AtField g.table (Frame A.exec A.frame) A.this) (AtField g.table (Frame A.exec A.frame) A.this) s w a R → IsField w a
  by_sort (piece.IsClean c) todo l o R w a k next (inl m) = by_scope c todo w a k.0 m
  by_sort (piece.IsClean c) todo l o R w a k next (inr m) = next m
  by_sort (piece.IsPart c) todo l o R w a k next (inl m) = by_clean c w a k.0.1 k.0.3 m
  by_sort (piece.IsPart c) todo l o R w a k next (inr m) = next m
  by_sort piece.Simple todo l o R w a k next m = next m
  by_sort (piece.IsLoop x y z u) todo l o R w a k next m = next m
  by_sort piece.IsWhole todo l o R w a k next m = next m
  by_sort (piece.IsFill x y z) todo l o R w a k next m = next m
  by_sort (piece.IsSweep x) todo l o R w a k next m = next m
  by_sort (piece.IsGuard x) todo l o R w a k next m = next m
  by_sort piece.IsFinish todo l o R w a k next m = next m
  by_sort piece.IsFinishCoroutine todo l o R w a k next m = next m

  pub fields_in : (todo : List Todo) (w : Value) (a : Ty) → Left g A made todo → InTodo (AtField g.table (Frame A.exec A.frame) A.this) (AtField g.table (Frame A.exec A.frame) A.this) todo w a → IsField w a
  fields_in [] w a k m = absurd m
  fields_in (p ∷ todo) w a k m = by_sort (sort p) todo (Left g A made todo) (Ok g A made [] todo) _ w a k (fields_in todo w a (left_tail g A made p todo k)) m

  -- so does one in which a scope is still to be left that lets go of the mutex object at hand
  pub lets_builds : (todo : List Todo) → Left g A made todo → lets_go todo ≡ true → made.builds ≡ true
  lets_builds [] k e = absurd (cc)
  lets_builds (piece.Clean src.Ends ∷ todo) k e = k.0
  lets_builds (piece.Clean (src.Frees r) ∷ todo) k e = k.0.2
  lets_builds (p ∷ todo) k e = lets_builds todo (left_tail g A made p todo k) e

-- the home of an object that is the execution's own
pub home_below : (few : Few) (n : Exec) (d o : ℕ) → BelongsBelow few n d (piece.Object o) → BelongsBelow few n d (few.home o)
home_below few n d o (in_object h) = h

-- frames lie within the stack
abbrev pub FramesWithin : List Active → Type 0
FramesWithin [] = Unit {0}
FramesWithin (a ∷ older) = (a.frame ≤ length older) × FramesWithin older

pub frames_within : (Z : ℕ → ℕ → Type 0) (fs : List (List Value)) (cs : List Active) → Stack Z fs cs → FramesWithin cs
frames_within Z fs [] h = tt
frames_within Z fs (a ∷ older) h = (h.0.frame, frames_within Z fs older h.1)

-- so they are below one that comes next
pub frames_below : (f : ℕ) (cs : List Active) → length cs ≤ f → FramesWithin cs → FramesBelow f cs
frames_below f [] le h = tt
frames_below f (c ∷ cs) le h =
    let k = h.0 in
    (omega (arith, le, k), frames_below f cs (omega (arith, le)) h.1)

-- and fields that are cleaned up are in frames below the next one
module _ (g : Setting) (n : Exec) where
  pub own_below : (cs : List Active) → AllLeft g n cs → FramesWithin cs → (w : Value) (a : Ty) → OwnMarked g.table n cs w a → BelongsBelow g.few n (length cs) w
  own_below [] h k w a m = absurd m
  own_below (c ∷ older) h k w a (inl m) =
      let x = fields_in g (around n c older) h.0.made c.control w a h.0.rest m in
      let low = k.0 in
      below_more g.few n c.frame (length (c ∷ older)) (omega (arith, low)) w (at x.shape x.number x.at (h.0.seat.own x.builds))
    where
      at : (s : Shape) (i : ℕ) → w ≡ further (FieldAt s i) c.this → BelongsBelow g.few n c.frame c.this → BelongsBelow g.few n c.frame w
      at s i e b = subst (BelongsBelow g.few n c.frame) (sym e) (under_below g.few n c.frame c.this (further (FieldAt s i) c.this) (further_on (FieldAt s i) same_place) b)
  own_below (c ∷ older) h k w a (inr m) =
      below_more g.few n (length older) (length (c ∷ older)) (omega arith) w (own_below older h.1 k.1 w a m)

  -- and so is what activations build or destroy
  pub built_below : (cs : List Active) → AllLeft g n cs → FramesWithin cs → (o : ℕ) → IsBuilt cs o → BelongsBelow g.few n (length cs) (g.few.home o)
  built_below [] h k o m = absurd m
  built_below (c ∷ older) h k o (inl m) =
      let low = k.0 in
      below_more g.few n c.frame (length (c ∷ older)) (omega (arith, low)) (g.few.home o) (home_below g.few n c.frame o (subst (BelongsBelow g.few n c.frame) m.0 (h.0.seat.own (lets_builds g (around n c older) h.0.made c.control h.0.rest m.1))))
  built_below (c ∷ older) h k o (inr m) =
      below_more g.few n (length older) (length (c ∷ older)) (omega arith) (g.few.home o) (built_below older h.1 k.1 o m)

-- where no one waits nothing is to be cleaned up
pub first_seat : (g : Setting) (n : Exec) (frame : ℕ) (this : Value) (o : Option ℕ) → IsSeated g.table g.source g.special g.few (reach_of false o) n [] frame None this
first_seat g n frame this o = record {
  own = λ q. absurd (cc);
  alone = λ q. absurd (cc);
  free = λ q. absurd (cc);
  built = λ o m. absurd m;
  arrays = tt;
  apart = λ q. absurd (cc);
  spare = λ k v e i st. absurd (none frame k v e i st);
  after = tt;
  beyond = λ f q. record { cell = 0; spare = λ k v e i st. absurd (none f k v e i st); past = λ h. absurd h; held = λ q. absurd (cc); built = λ o m. absurd m; arrays = tt; code = tt };
}
  where
    none : (f k : ℕ) (v : Value) (e : ℕ) → LiesIn g.few (variable n f k) v → Stands g.table g.few (OwnMarked g.table n []) (Cell (Obj e)) v → ⊥
    none f k v e i st = not_standing g.few n g.table f (piece.Slot k ∷ []) (OwnMarked g.table n []) (λ w a m. absurd m) _ v i st
