-- What an execution has of others stands where its object does, or outwards of that.
use Rattle.std.proofs.Common.{◌≡◌, ℕ, ◌⊎◌, inl, inr, true, List, [], ◌∷◌}
use Rattle.uc_machine.specs.declared.exec.Exec.{Exec}
use Rattle.uc_machine.specs.declared.exec.Owner.TheVariants.{Frame}
use Rattle.uc_machine.specs.Pieces as piece
use Rattle.uc_machine.specs.Pieces.{Value, Todo, Sort, Active, State}
use Rattle.uc_typing.specs.Typing.{Ty, Cell, Obj, Table}
use Rattle.uc_life_laws.specs.Things.{Few, AtField, IsFor, Marks, InTodo, Base, Things, Stands, lies, inside}
use Rattle.uc_life_laws.specs.Marked.{mark_or, marks, OfMark, AllMarked, MarkStack}
use Rattle.uc_life_laws.specs.Claims.{Seats, MarkKnows, Claimed, SeatsIn, SeatsAmong, LawClaims}
use Rattle.uc_life_laws.proofs.CoverWalk as walking

module _ (t : Table) (few : Few) (K L : Value → Ty → Type 0) (more : (w : Value) (a : Ty) → K w a → L w a) where
  stands_more : (b : Ty) (v : Value) → Stands t few K b v → Stands t few L b v
  stands_more b v (lies {w = w} {a} k h) = lies (more w a k) h
  stands_more b v (inside {o = o} {c} m k h) = inside m (stands_more (Cell (Obj c)) (few.home o) k) h

module _ (t : Table) (few : Few) (seats : Seats) (n : Exec) where
  -- things of marks are things of the list
  module _ (f : ℕ) (this : Value) where
    abbrev In : List Todo → Value → Ty → Type 0
    In todo w a = InTodo (IsFor t (Frame n f) this) (AtField t (Frame n f) this) todo w a

    of_sort : (s : Sort) (ms todo : List Todo) (w : Value) (a : Ty) → (In ms w a → In todo w a) → In (mark_or s ms) w a → Marks (IsFor t (Frame n f) this) (AtField t (Frame n f) this) s w a (In todo w a)
    of_sort (piece.IsClean c) ms todo w a g (inl m) = inl m
    of_sort (piece.IsClean c) ms todo w a g (inr m) = inr (g m)
    of_sort (piece.IsPart c) ms todo w a g (inl m) = inl m
    of_sort (piece.IsPart c) ms todo w a g (inr m) = inr (g m)
    of_sort piece.Simple ms todo w a g m = g m
    of_sort (piece.IsLoop x y z q) ms todo w a g m = g m
    of_sort piece.IsWhole ms todo w a g m = g m
    of_sort (piece.IsFill x y z) ms todo w a g m = g m
    of_sort (piece.IsSweep x) ms todo w a g m = g m
    of_sort (piece.IsGuard x) ms todo w a g m = g m
    of_sort piece.IsFinish ms todo w a g m = g m
    of_sort piece.IsFinishCoroutine ms todo w a g m = g m

    of_marks : (todo : List Todo) (w : Value) (a : Ty) → In (marks todo) w a → In todo w a
    of_marks [] w a m = m
    of_marks (p ∷ todo) w a m = of_sort (piece.sort p) (marks todo) todo w a (of_marks todo w a) m

  module _ (x : Exec) (up : seats.is_up x ≡ true) (w : Value) (a : Ty) (b : Base few x w a) (else : w ≡ seats.cell x → ⊥) (L : Value → Ty → Type 0) where
    abbrev There : Type 0
    There = Stands t few L a w

    at_mark : (f : ℕ) (this : Value) (older : List Active) (s : Sort) (todo : List Todo) (R : Type 0) → OfMark (Claimed t few seats) n f this older s todo R → ((v : Value) (e : Ty) → In f this (mark_or s (marks todo)) v e ⊎ Things t few n older v e → L v e) → (((v : Value) (e : Ty) → In f this (marks todo) v e ⊎ Things t few n older v e → L v e) → R → SeatsIn t few seats x n f this (marks todo) → There) → SeatsIn t few seats x n f this (mark_or s (marks todo)) → There
    at_mark f this older (piece.IsClean c) todo R h more next (inl k) =
        stands_more t few (MarkKnows t few n f this older (piece.Clean c) (marks todo)) L more a w (h.0 x up k w a b else)
    at_mark f this older (piece.IsClean c) todo R h more next (inr k) = next (λ v e m. more v e (inner v e m)) h.1 k
      where
        inner : (v : Value) (e : Ty) → In f this (marks todo) v e ⊎ Things t few n older v e → In f this (piece.Clean c ∷ marks todo) v e ⊎ Things t few n older v e
        inner v e (inl m) = inl (inr m)
        inner v e (inr m) = inr m
    at_mark f this older (piece.IsPart c) todo R h more next (inl k) =
        stands_more t few (MarkKnows t few n f this older (piece.Part c) (marks todo)) L more a w (h.0 x up k w a b else)
    at_mark f this older (piece.IsPart c) todo R h more next (inr k) = next (λ v e m. more v e (inner v e m)) h.1 k
      where
        inner : (v : Value) (e : Ty) → In f this (marks todo) v e ⊎ Things t few n older v e → In f this (piece.Part c ∷ marks todo) v e ⊎ Things t few n older v e
        inner v e (inl m) = inl (inr m)
        inner v e (inr m) = inr m
    at_mark f this older piece.Simple todo R h more next k = next more h k
    at_mark f this older (piece.IsLoop o y z q) todo R h more next k = next more h k
    at_mark f this older piece.IsWhole todo R h more next k = next more h k
    at_mark f this older (piece.IsFill y z q) todo R h more next k = next more h k
    at_mark f this older (piece.IsSweep y) todo R h more next k = next more h k
    at_mark f this older (piece.IsGuard y) todo R h more next k = next more h k
    at_mark f this older piece.IsFinish todo R h more next k = next more h k
    at_mark f this older piece.IsFinishCoroutine todo R h more next k = next more h k

    in_list : (f : ℕ) (this : Value) (older : List Active) (todo : List Todo) → AllMarked (Claimed t few seats) n f this older todo → ((v : Value) (e : Ty) → In f this (marks todo) v e ⊎ Things t few n older v e → L v e) → SeatsIn t few seats x n f this (marks todo) → There
    in_list f this older [] h more k = absurd k
    in_list f this older (p ∷ todo) h more k =
        at_mark f this older (piece.sort p) todo (AllMarked (Claimed t few seats) n f this older todo) h more (λ more h k. in_list f this older todo h more k) k

    in_stack : (cs : List Active) → MarkStack (Claimed t few seats) n cs → ((v : Value) (e : Ty) → Things t few n cs v e → L v e) → SeatsAmong t few seats x n cs → There
    in_stack [] h more k = absurd k
    in_stack (c ∷ older) h more (inl k) = in_list c.frame c.this older c.control h.0 (λ v e m. more v e (all v e m)) k
      where
        all : (v : Value) (e : Ty) → In c.frame c.this (marks c.control) v e ⊎ Things t few n older v e → Things t few n (c ∷ older) v e
        all v e (inl m) = inl (of_marks c.frame c.this c.control v e m)
        all v e (inr m) = inr m
    in_stack (c ∷ older) h more (inr k) = in_stack older h.1 (λ v e m. more v e (inr m)) k

pub law_claims : LawClaims
law_claims = record {
  begins = λ t few seats source r o. walking.begins (Claimed t few seats) source r o;
  steps = λ t few seats source s h m. walking.walk (Claimed t few seats) source s h m;
  told = λ t few seats source given s h. walking.answered_there (Claimed t few seats) source given s h;
  running = λ t few seats s h x up k w a b else. in_stack t few seats s.env.exec x up w a b else (Things t few s.env.exec (s.run ∷ s.callers)) (s.run ∷ s.callers) h.stack (λ v e m. m) k;
}
