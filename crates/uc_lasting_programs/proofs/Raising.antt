-- An event is raised at an object that is at home in what is the own of who raises it, or in what that has of others.
use Rattle.std.proofs.Common.{true, ◌≡◌, ℕ, ◌⊎◌, inl, inr, false, List, [], ◌∷◌, refl, sym, subst, ⊎_elim}
use Rattle.uc_tree.specs.Source as src
use Rattle.uc_tree.specs.Source.{CleanUp, Source}
use Rattle.uc_machine.specs.declared.exec.Exec.{Exec}
use Rattle.uc_machine.specs.declared.exec.Owner.TheVariants.{Frame}
use Rattle.uc_machine.specs.Pieces as piece
use Rattle.uc_machine.specs.Pieces.{Value, Object, Todo, RaiseAtNow, Sort, Active, State, top}
use Rattle.uc_typing.specs.Typing.{Ty, Cell, Obj, Raw, Row, Table}
use Rattle.uc_life_laws.specs.Things.{Few, Within, itself, field, element, AtField, IsFor, Marks, InTodo, Base, Things, Stands, lies, inside}
use Rattle.uc_life_laws.specs.Belonging.{Belongs, frame, object}
use Rattle.uc_life_laws.specs.Knowing.{KnowsState}
use Rattle.uc_life_laws.specs.Marks.{Marked, OfClean, OfSort, AllLone, LoneStack}
use Rattle.uc_life_laws.specs.Rooted.{IsBase}
use Rattle.uc_life_laws.proofs.Own.{further_own}
use Rattle.uc_life_laws.proofs.Rooted.{things_split, stands_split, stands_things}
use Rattle.uc_tasked_laws.specs.Aims.{IsAimed}
use Rattle.uc_tasked_laws.proofs.Aiming.{law_aimed}
use Rattle.uc_life_laws.specs.Held.{AreLines}
use Rattle.uc_rooted_runs.specs.MainRuns.{EndsMains}
use Rattle.uc_making_laws.specs.NoOthers.{NoThis}
use Rattle.uc_making_laws.specs.Builders.{lets_built, Lets, Building}
use Rattle.uc_making_laws.specs.BuilderRuns.{FinishesBy, Finishes, Nears, NearState}
use Rattle.uc_making_laws.proofs.NoOthers.{law_no_others}

-- what marks are for is their execution's own: a variable of it, or a field of what is; so is what stands in that

module _ (t : Table) (few : Few) (n : Exec) where
  within_own : (w : Value) (a : Ty) (v : Value) (b : Ty) → Belongs few n w → Within t w a v b → Belongs few n v
  within_own w a v b h itself = h
  within_own w a v b h (field {v = x} {c} k i f) = further_own t few n _ x (within_own w a x (Obj c) h k)
  within_own w a v b h (element {v = x} {m} {b = e} k j l) = further_own t few n _ x (within_own w a x (Row m e) h k)

  pub stands_own : (K : Value → Ty → Type 0) → ((w : Value) (a : Ty) → K w a → Belongs few n w) → (b : Ty) (v : Value) → Stands t few K b v → Belongs few n v
  stands_own K own b v (lies {w = w} {a} k h) = within_own w a v b (own w a k) h
  stands_own K own b v (inside {o = o} {c} m k h) =
      within_own (Object o) (Obj c) v b (object (stands_own K own (Cell (Obj c)) (few.home o) k)) h

  module _ (f : ℕ) (this : Value) (older : List Active) where
    abbrev At : CleanUp → Value → Ty → Type 0
    At c w a = AtField t (Frame n f) this c w a

    field_own : (c : CleanUp) (todo : List Todo) → OfClean t few n f this older c todo → (w : Value) (a : Ty) → At c w a → Belongs few n w
    field_own src.Ends todo h w a k = absurd k.2
    field_own (src.Frees r) todo h w a k = absurd k.2
    field_own c todo h w a k = subst (Belongs few n) (sym k.3) (further_own t few n _ this (h.0 w a k))

    mark_own : (c : CleanUp) (todo : List Todo) → OfClean t few n f this older c todo → (w : Value) (a : Ty) → IsFor t (Frame n f) this c w a → Belongs few n w
    mark_own c todo h w a (inl k) = subst (Belongs few n) (sym k.2) (frame refl)
    mark_own c todo h w a (inr k) = field_own c todo h w a k

    sort_own : (s : Sort) (todo : List Todo) (R Q : Type 0) (w : Value) (a : Ty) → OfSort t few n f this older s todo R → (R → Q → Belongs few n w) → Marks (IsFor t (Frame n f) this) At s w a Q → Belongs few n w
    sort_own (piece.IsClean c) todo R Q w a h next (inl k) = mark_own c todo h.0 w a k
    sort_own (piece.IsClean c) todo R Q w a h next (inr k) = next h.1 k
    sort_own (piece.IsPart c) todo R Q w a h next (inl k) = field_own c todo h.0 w a k
    sort_own (piece.IsPart c) todo R Q w a h next (inr k) = next h.1 k
    sort_own piece.Simple todo R Q w a h next k = next h k
    sort_own (piece.IsLoop x y z q) todo R Q w a h next k = next h k
    sort_own piece.IsWhole todo R Q w a h next k = next h k
    sort_own (piece.IsFill x y z) todo R Q w a h next k = next h k
    sort_own (piece.IsSweep x) todo R Q w a h next k = next h k
    sort_own (piece.IsGuard x) todo R Q w a h next k = next h k
    sort_own piece.IsFinish todo R Q w a h next k = next h k
    sort_own piece.IsFinishCoroutine todo R Q w a h next k = next h k

    by_sort : (p : Todo) (todo : List Todo) → AllLone t few n f this older (p ∷ todo) → OfSort t few n f this older (piece.sort p) todo (AllLone t few n f this older todo)
    by_sort piece.GoneNow todo h = h.1
    by_sort piece.GiveUpNow todo h = h.1
    by_sort p todo h = h

    todo_own : (todo : List Todo) → AllLone t few n f this older todo → (w : Value) (a : Ty) → InTodo (IsFor t (Frame n f) this) At todo w a → Belongs few n w
    todo_own [] h w a k = absurd k
    todo_own (p ∷ todo) h w a k =
        sort_own (piece.sort p) todo _ _ w a (by_sort p todo h) (λ r q. todo_own todo r w a q) k

  pub stack_own : (cs : List Active) → LoneStack t few n cs → (w : Value) (a : Ty) → Marked t n cs w a → Belongs few n w
  stack_own [] h w a k = absurd k
  stack_own (c ∷ older) h w a (inl k) = todo_own c.frame c.this older c.control h.0 w a k
  stack_own (c ∷ older) h w a (inr k) = stack_own older h.1 w a k

-- so where it is neither, nobody raises one: none of the activations is of the object, what the execution has of others is not that in which it is at home, and the
-- execution was not made for it as for a task
module _ (t : Table) (few : Few) (places : (n : Exec) (w : Value) (b : Ty) → Base few n w b → IsBase w b) (s : State) (known : KnowsState t few [] s) (o : ℕ) (unbuilt : NoThis o (s.run ∷ s.callers)) (foreign : (i : ℕ) → t.tasks i ≡ true → Stands t few (Marked t s.env.exec (s.run ∷ s.callers)) (Cell (Obj i)) (few.home o) → ⊥) (away : (c : ℕ) → Stands t few (Base few s.env.exec) (Cell (Obj c)) (few.home o) → ⊥) (unheld : (c : ℕ) → t.tasks c ≡ true → Base few s.env.exec (Object o) (Raw c) → ⊥) where
  abbrev n : Exec
  n = s.env.exec

  abbrev all : List Active
  all = s.run ∷ s.callers

  no_home : (c : ℕ) → t.tasks c ≡ true → Stands t few (Things t few s.env.exec (s.run ∷ s.callers)) (Cell (Obj c)) (few.home o) → ⊥
  no_home c k h =
      ⊎_elim (λ m. foreign c k m) (λ b. away c b) (stands_split t few (Things t few n all) (Marked t n all) (Base few n) (things_split t few n all) (Cell (Obj c)) (few.home o) h)

  not_whole : (i : ℕ) → IsBase (Object o) (Obj i) → ⊥
  not_whole i (inl h) = h
  not_whole i (inr h) = let e : Obj i ≡ Raw h.1 = h.3 in absurd (cc)

  not_aimed : (i : ℕ) → t.tasks i ≡ true → IsAimed t few s.env.exec known.sigs (s.run ∷ s.callers) i o → ⊥
  not_aimed i k (inl h) = no_home i k (stands_things t few n known.sigs all (Obj i) (few.home o) h)
  not_aimed i k (inr (inl (inl h))) = not_whole i (places n (Object o) (Obj i) h)
  not_aimed i k (inr (inl (inr h))) = unheld i k h
  not_aimed i k (inr (inr h)) = law_no_others.making t few o known.sigs all unbuilt i h

  pub not_raised : (todo : List Todo) → s.run.control ≡ RaiseAtNow ∷ todo → top s.run.operands ≡ Object o → ⊥
  not_raised todo control at = let a = law_aimed t few s known todo control o at in not_aimed a.0 a.1 a.2

-- what is under way is that of an activation of who made it
module _ (source : Source) (o : ℕ) (m : Exec) (s : State) (near : NearState source false o m s) (none : NoThis o (s.run ∷ s.callers)) where
  is_of : (cs : List Active) → Building false cs o → NoThis o cs → ⊥
  is_of [] b h = b
  is_of (a ∷ cs) (inl b) h = h.0 b.0
  is_of (a ∷ cs) (inr b) h = is_of cs b h.1

  pub not_under_way : (todo : List Todo) → s.run.control ≡ RaiseAtNow ∷ todo → s.env.exec ≡ m → ⊥
  not_under_way todo control e = by (near.stack e)
    where
      by : (Building false s.callers o ⊎ ((s.run.this ≡ Object o) × Lets false s.run.control)) ⊎ Nears source false o m s.run.control s.run.operands → ⊥
      by (inl (inl b)) = is_of s.callers b none.1
      by (inl (inr b)) = none.0 b.0
      by (inr n) = subst (λ l. Nears source false o m l s.run.operands) control n

-- at the end of a main nothing is left that lets go of an object

lines_none : (todo : List Todo) → AreLines todo → lets_built false todo ≡ false
lines_none [] h = refl
lines_none (piece.Within line ∷ todo) h = lines_none todo h
lines_none (p ∷ todo) h = absurd h

pub finishes : (source : Source) (s : State) → EndsMains source s → Finishes false s
finishes source s h = by s.run.control refl
  where
    by : (l : List Todo) → s.run.control ≡ l → FinishesBy false l
    by (piece.Finish ∷ todo) e = lines_none todo (h.finish todo e)
    by [] e = tt
    by (p ∷ todo) e = tt
