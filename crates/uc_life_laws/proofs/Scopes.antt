-- What is read of what is in scope.
use Rattle.std.proofs.Common.{ℕ, inl, inr, Bool, List, [], ◌∷◌, sym, subst}
use Rattle.std.specs.Prelude.{if◌then◌else◌, slice_index_or}
use Rattle.uc_tree.specs.Source as src
use Rattle.uc_tree.specs.Source.{Expr, CleanUp}
use Rattle.uc_machine.specs.declared.exec.Exec.{Exec}
use Rattle.uc_machine.specs.declared.exec.Owner.{Owner}
use Rattle.uc_machine.specs.declared.exec.Owner.TheVariants.{Frame}
use Rattle.uc_machine.specs.Executions.{at_depth, list_in, frames_in, parked_at}
use Rattle.uc_machine.specs.Pieces as piece
use Rattle.uc_machine.specs.Pieces.{Link, Slot, Value, Place, Todo, Sort, Active, State, nought, address, loaded, variable_at}
use Rattle.uc_typing.specs.Typing.{Ty, Cell, Obj, Clu, Pro, Table, InScope, DestroysAt, CleansAt}
use Rattle.uc_typing.specs.Pieces.{onto}
use Rattle.uc_typing.specs.States.{Is, Typed, ReadsVariable}
use Rattle.uc_life_laws.specs.Things.{Few, IsBinding, Within, itself, AtVariable, Nowhere, Marks, InTodo, Around, Variables, Known}
use Rattle.uc_life_laws.specs.LifeStates.{frame_at, OutwardsOnly, LifeState}
use Rattle.uc_life_laws.specs.LifeReading.{LawReading}
use Rattle.uc_life_laws.proofs.LifeSteps.{exec_same}
use Rattle.uc_life_laws.proofs.Knowns.{known_is}
use Rattle.uc_life_laws.proofs.Reading.{from_variables, none_behind, scope_at}

-- in a frame of the execution that runs
own_frame : (P : Value → Type 0) (s : State) (d : ℕ) (p : List Link) → P (slice_index_or (frame_at d s.env.frames) (address p) nought) → P (loaded (Place (Frame s.env.exec d) p) s.env)
own_frame P s d p h =
    subst (λ (b : Bool). P (slice_index_or (list_in (at_depth (if b then s.env.frames else frames_in (parked_at s.env.exec s.env)) d)) (address p) nought)) (sym (exec_same s.env.exec)) h

module _ (t : Table) (few : Few) (s : State) (st : LifeState t few s) where
  abbrev K : Value → Ty → Type 0
  K w a = Around t few s.env.exec (s.run ∷ s.callers) w a

  places : (w : Value) (a : Ty) → Variables t s.env.exec (s.run ∷ s.callers) w a → (d : ℕ) (p : List Link) (b : Ty) → Within t w a (Place (Frame s.env.exec d) p) (Cell b) → IsBinding b → Known t few s.env.exec K b (loaded (Place (Frame s.env.exec d) p) s.env)
  places w a x d p b i binds =
      own_frame (Known t few s.env.exec K b) s d p (from_variables t s.env.exec few OutwardsOnly s.env.frames w a d p b binds K (s.run ∷ s.callers) st.stack (none_behind t s.env.exec few K (s.run ∷ s.callers)) (λ v e y. y) x i)

names : (t : Table) (given : List Ty) (s : State) (x : Typed t given s) (k : ℕ) (a : Ty) → InScope x.run.scope k a → Variables t s.env.exec (s.run ∷ s.callers) (variable_at k s) a
names t given s x k a i =
    scope_at t s.env.exec x.run.sig k a s.run s.callers x.run.base x.run.scope (onto given x.run.own) x.run.ok x.run.ends i

-- a cell in scope is bound

destroyed_binding : (t : Table) (a : Ty) (place e : Expr) → DestroysAt t (Cell a) place e → IsBinding a
destroyed_binding t (Obj c) place e h = tt
destroyed_binding t Clu place e h = tt
destroyed_binding t Pro place e h = tt
destroyed_binding t a place e h = absurd h

cleaned_binding : (t : Table) (a : Ty) (place : Expr) (c : CleanUp) → CleansAt t (Cell a) place c → IsBinding a
cleaned_binding t a place (src.Destroys e) h = destroyed_binding t a place e h
cleaned_binding t a place c h = absurd h

module _ (t : Table) (w : Value) (a : Ty) where
  mark_binding : (o : Owner) (this : Value) (s : Sort) (A : Type 0) → (A → IsBinding a) → Marks (AtVariable t o this) (Nowhere o this) s w (Cell a) A → IsBinding a
  mark_binding o this (piece.IsClean c) A f (inl x) = cleaned_binding t a (src.Variable x.0) c x.1
  mark_binding o this (piece.IsClean c) A f (inr x) = f x
  mark_binding o this (piece.IsPart c) A f (inl x) = absurd x
  mark_binding o this (piece.IsPart c) A f (inr x) = f x
  mark_binding o this piece.Simple A f x = f x
  mark_binding o this (piece.IsLoop q e s b) A f x = f x
  mark_binding o this piece.IsWhole A f x = f x
  mark_binding o this (piece.IsFill m b d) A f x = f x
  mark_binding o this (piece.IsSweep e) A f x = f x
  mark_binding o this (piece.IsGuard hs) A f x = f x
  mark_binding o this piece.IsFinish A f x = f x
  mark_binding o this piece.IsFinishCoroutine A f x = f x

  todo_binding : (o : Owner) (this : Value) (todo : List Todo) → InTodo (AtVariable t o this) (Nowhere o this) todo w (Cell a) → IsBinding a
  todo_binding o this [] x = absurd x
  todo_binding o this (p ∷ todo) x = mark_binding o this (piece.sort p) _ (todo_binding o this todo) x

  variable_binding : (n : Exec) (cs : List Active) → Variables t n cs w (Cell a) → IsBinding a
  variable_binding n [] x = absurd x
  variable_binding n (c ∷ older) (inl x) = todo_binding (Frame n c.frame) c.this c.control x
  variable_binding n (c ∷ older) (inr x) = variable_binding n older x

module _ (t : Table) (few : Few) (s : State) (x : Typed t [] s) (st : LifeState t few s) where
  variable : (k : ℕ) (a : Ty) → InScope x.run.scope k (Cell a) → Is t a (loaded (variable_at k s) s.env)
  variable k a i =
      let here = names t [] s x k (Cell a) i in
      known_is t few s.env.exec (K t few s st) a (loaded (variable_at k s) s.env) (places t few s st (variable_at k s) (Cell a) here s.run.frame (Slot k ∷ []) a itself (variable_binding t (variable_at k s) a s.env.exec (s.run ∷ s.callers) here))

  by_name : (todo : List Todo) → ReadsVariable t x.run.scope s todo
  by_name [] = tt
  by_name (piece.Eval (src.Get k) ∷ todo) = λ q a i. variable k a i
  by_name (piece.Eval e ∷ todo) = tt
  by_name (_ ∷ todo) = tt

pub law_reading : LawReading
law_reading = record {
  places = λ t few s h w a x d p b i binds. places t few s h w a x d p b i binds;
  names = names;
  reads = λ t few s x h. by_name t few s x h s.run.control;
}
