-- What stands in what an execution was to clean up as it made another, or had of others, stands in what it is to clean up, or has of others.
use Rattle.std.proofs.Common.{◌≡◌, ℕ, ◌⊎◌, inl, inr, Bool, true, List, [], ◌∷◌, subst, ⊎_elim}
use Rattle.uc_machine.specs.declared.exec.Exec.{Exec}
use Rattle.uc_machine.specs.declared.exec.Owner.TheVariants.{Frame}
use Rattle.uc_machine.specs.Pieces as piece
use Rattle.uc_machine.specs.Pieces.{Value, Todo, Sort, Active, State}
use Rattle.uc_typing.specs.Typing.{Ty, Cell, Obj, Table}
use Rattle.uc_life_laws.specs.Things.{Few, AtField, IsFor, Marks, InTodo, InStack, Base, NoBase, Stands, lies, inside}
use Rattle.uc_life_laws.specs.Placed.{Placed, put, placed, stacked, Ends, all, behind}
use Rattle.uc_rooted_runs.specs.Makers.{Makers}
use Rattle.uc_rooted_runs.specs.Outlasting.{Outlasts, InPlaced, HadBefore, LawOutlasting}

module _ (t : Table) (n : Exec) where
  -- things of a mark, and of those behind it
  abbrev Of : ℕ → Value → Sort → Value → Ty → Type 0 → Type 0
  Of f this k w a rest = Marks (IsFor t (Frame n f) this) (AtField t (Frame n f) this) k w a rest

  more_behind : (f : ℕ) (this : Value) (k : Sort) (w : Value) (a : Ty) (R : Type 0) → R → Of f this k w a R
  more_behind f this (piece.IsClean c) w a R h = inr h
  more_behind f this (piece.IsPart c) w a R h = inr h
  more_behind f this piece.Simple w a R h = h
  more_behind f this (piece.IsLoop x y z q) w a R h = h
  more_behind f this piece.IsWhole w a R h = h
  more_behind f this (piece.IsFill x y z) w a R h = h
  more_behind f this (piece.IsSweep x) w a R h = h
  more_behind f this (piece.IsGuard x) w a R h = h
  more_behind f this piece.IsFinish w a R h = h
  more_behind f this piece.IsFinishCoroutine w a R h = h

  -- of the outermost ones
  of_ends : (ps qs : List Placed) → Ends ps qs → (w : Value) (a : Ty) → InPlaced t n ps w a → InPlaced t n qs w a
  of_ends ps qs all w a h = h
  of_ends ps (p ∷ qs) (behind e) w a h = more_behind p.frame p.this (piece.sort p.mark) w a (InPlaced t n qs w a) (of_ends ps qs e w a h)

  -- things of placed marks are things of the to-do lists
  by_put : (k : Sort) (f : ℕ) (this : Value) (ps : List Placed) (w : Value) (a : Ty) (R S : Type 0) → (InPlaced t n ps w a → R ⊎ S) → InPlaced t n (put k f this ps) w a → Of f this k w a R ⊎ S
  by_put (piece.IsClean c) f this ps w a R S g (inl m) = inl (inl m)
  by_put (piece.IsClean c) f this ps w a R S g (inr m) = by (g m)
    where
      by : R ⊎ S → Of f this (piece.IsClean c) w a R ⊎ S
      by (inl r) = inl (inr r)
      by (inr x) = inr x
  by_put (piece.IsPart c) f this ps w a R S g (inl m) = inl (inl m)
  by_put (piece.IsPart c) f this ps w a R S g (inr m) = by (g m)
    where
      by : R ⊎ S → Of f this (piece.IsPart c) w a R ⊎ S
      by (inl r) = inl (inr r)
      by (inr x) = inr x
  by_put piece.Simple f this ps w a R S g m = g m
  by_put (piece.IsLoop x y z q) f this ps w a R S g m = g m
  by_put piece.IsWhole f this ps w a R S g m = g m
  by_put (piece.IsFill x y z) f this ps w a R S g m = g m
  by_put (piece.IsSweep x) f this ps w a R S g m = g m
  by_put (piece.IsGuard x) f this ps w a R S g m = g m
  by_put piece.IsFinish f this ps w a R S g m = g m
  by_put piece.IsFinishCoroutine f this ps w a R S g m = g m

  in_todo : (f : ℕ) (this : Value) (todo : List Todo) (ps : List Placed) (w : Value) (a : Ty) → InPlaced t n (placed f this todo ps) w a → InTodo (IsFor t (Frame n f) this) (AtField t (Frame n f) this) todo w a ⊎ InPlaced t n ps w a
  in_todo f this [] ps w a m = inr m
  in_todo f this (p ∷ todo) ps w a m =
      by_put (piece.sort p) f this (placed f this todo ps) w a _ (InPlaced t n ps w a) (in_todo f this todo ps w a) m

  in_stack : (cs : List Active) (w : Value) (a : Ty) → InPlaced t n (stacked cs) w a → InStack (IsFor t) (AtField t) NoBase n cs w a
  in_stack [] w a m = m
  in_stack (c ∷ older) w a m =
      ⊎_elim (λ h. inl h) (λ h. inr (in_stack older w a h)) (in_todo c.frame c.this c.control (stacked older) w a m)

module _ (t : Table) (few : Few) (K L : Value → Ty → Type 0) (more : (w : Value) (a : Ty) → K w a → L w a) where
  pub stands_more : (b : Ty) (v : Value) → Stands t few K b v → Stands t few L b v
  stands_more b v (lies {w = w} {a} k h) = lies (more w a k) h
  stands_more b v (inside {o = o} {c} m k h) = inside m (stands_more (Cell (Obj c)) (few.home o) k) h

module _ (t : Table) (few : Few) (makers : Makers) (up : Exec → Bool) where
  had_now : (n : Exec) (cs : List Active) → Outlasts makers up n cs → (x : Exec) → up x ≡ true → makers.parent x ≡ n → (w : Value) (a : Ty) → HadBefore t few makers x w a → InStack (IsFor t) (AtField t) NoBase n cs w a ⊎ Base few n w a
  had_now n cs h x u p w a (inl m) = inl (in_stack t n cs w a (of_ends t n (makers.before x) (stacked cs) (h x u p) w a (subst (λ q. InPlaced t q (makers.before x) w a) p m)))
  had_now n cs h x u p w a (inr m) = inr (subst (λ q. Base few q w a) p m)

pub law_outlasting : LawOutlasting
law_outlasting t few makers up n cs h x u p w a k = stands_more t few (HadBefore t few makers x) (λ w a. InStack (IsFor t) (AtField t) NoBase n cs w a ⊎ Base few n w a) (had_now t few makers up n cs h x u p) a w k
