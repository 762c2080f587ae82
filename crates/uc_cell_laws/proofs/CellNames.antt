-- Whom the first cell of a coroutine may name, as it is written and as it is read.
use Rattle.std.proofs.Common.{◌≡◌, ℕ, ◌⊎◌, inl, inr, true, List, [], ◌∷◌, Some, refl, sym, ap, ◌∙◌, subst}
use Rattle.std.specs.Prelude.{slice_index_or}
use Rattle.uc_entry.specs.Keyed.{find}
use Rattle.uc_machine.specs.declared.exec.Exec.{Exec}
use Rattle.uc_machine.specs.declared.exec.Owner.{Owner}
use Rattle.uc_machine.specs.declared.exec.Owner.TheVariants.{Frame, Fields}
use Rattle.uc_machine.specs.Executions.{at_depth, values_in}
use Rattle.uc_machine.specs.Pieces.{Link, Slot, Value, Number, Place, Running, Object, Nothing, Todo, ForgetNow, State, Env, exec_in, own_exec, loaded, nought}
use Rattle.uc_typing.specs.Typing.{Obj}
use Rattle.uc_life_laws.specs.Belonging.{Belongs, frame, fields, object}
use Rattle.uc_cell_laws.specs.Sites.{Telling}
use Rattle.uc_cell_laws.specs.CellTodos.{Ok, IsOwnPart}
use Rattle.uc_cell_laws.specs.CellStates.{IsOwnCoroutine, IsCoroutineIn, first_cell, IsAllowed, MayName, IsRooted, CellState}
use Rattle.uc_cell_laws.proofs.CellFields.{first_read, coroutine_read}
use Rattle.uc_cell_laws.proofs.CellPlaces.{MayWrite, inside_place, inside_object}

one_name : (n m : Exec) → Running n ≡ Running m → n ≡ m
one_name n m e = cc

module _ (g : Telling) where
  -- a new execution may be named where that is not its own
  pub names_new : (v : Value) (n : Exec) → (g.naming ≡ true → Belongs g.few n v → ⊥) → MayName g v (Running n)
  names_new (Place o p) n f = λ m e on b. f on (subst (λ k. Belongs g.few k (Place o p)) (sym (one_name n m e)) (there m o b))
    where
      there : (m : Exec) (o : Owner) → Belongs g.few m (Place o []) → Belongs g.few m (Place o p)
      there m (Frame x d) (frame i) = frame i
      there m (Fields q) (fields i) = fields i
  names_new (Object o) n f = λ m e on b. f on (subst (λ k. Belongs g.few k (Object o)) (sym (one_name n m e)) (there m b))
    where
      there : (m : Exec) → Belongs g.few m (Place (Fields o) []) → Belongs g.few m (Object o)
      there m (fields i) = object i
  names_new (Number z) n f = tt
  names_new (Running x) n f = tt
  names_new Nothing n f = tt

names_it : (v : Value) (n : Exec) → exec_in v ≡ Some n → v ≡ Running n
names_it (Number z) n e = cc
names_it (Place o p) n e = cc
names_it (Running m) n e = let k : m ≡ n = some_same m n e in ap Running k
  where
    some_same : (m n : Exec) → Some m ≡ Some n → m ≡ n
    some_same m n e = cc
names_it (Object o) n e = cc
names_it Nothing n e = cc

same_class : (c d : ℕ) → Some c ≡ Some d → c ≡ d
same_class c d e = cc

-- so the execution that a step forgets is not the one that runs, where the coroutine at hand is its own
module _ (g : Telling) (may : MayWrite g) (on : g.naming ≡ true) (s : State) (h : CellState g s) where
  abbrev e : Env
  e = s.env

  in_object : (o : ℕ) (B : Type 0) (v : Value) → ((v ≡ Object o) × B) ⊎ ((x : List Link) × (v ≡ Place (Fields o) x)) → IsAllowed g (Fields o) (slice_index_or (values_in (find o e.hand)) (first_cell v) nought) → Belongs g.few e.exec v → loaded v e ≡ Running e.exec → ⊥
  in_object o B v (inl q) f b r = by (subst (λ w. IsAllowed g (Fields o) (slice_index_or (values_in (find o e.hand)) (first_cell w) nought)) q.0 f) (subst (Belongs g.few e.exec) q.0 b) (subst (λ w. loaded w e ≡ Running e.exec) q.0 r)
    where
      by : IsAllowed g (Fields o) (slice_index_or (values_in (find o e.hand)) 0 nought) → Belongs g.few e.exec (Object o) → loaded (Object o) e ≡ Running e.exec → ⊥
      by f (object b) r = f e.exec r on (fields b)
  in_object o B v (inr q) f b r = by q.0 (subst (λ w. IsAllowed g (Fields o) (slice_index_or (values_in (find o e.hand)) (first_cell w) nought)) q.1 f) (subst (Belongs g.few e.exec) q.1 b) (subst (λ w. loaded w e ≡ Running e.exec) q.1 r)
    where
      by : (x : List Link) → IsAllowed g (Fields o) (slice_index_or (values_in (find o e.hand)) (first_cell (Place (Fields o) x)) nought) → Belongs g.few e.exec (Place (Fields o) x) → loaded (Place (Fields o) x) e ≡ Running e.exec → ⊥
      by x f (fields b) r = f e.exec r on (fields b)

  rooted : (rs : List ℕ) (level q c : ℕ) (v : Value) → rs ≡ h.routines → (g.table.routine q).this ≡ Some c → g.table.executes c ≡ true → IsRooted g e.exec rs level q v → Belongs g.few e.exec v → loaded v e ≡ Running e.exec → ⊥
  rooted rs level q c v same this ex (inl k) b r =
      let part = k.2 in
      let own : IsCoroutineIn g part.number v k.0 = (part.class, subst (λ n. g.table.executes n ≡ true) (same_class c k.0 (sym this ∙ k.1)) ex, part.told, part.mutex, part.inside) in
      in_object part.number (Obj k.0 ≡ Obj part.class) v (inside_object g.table g.owns part.number part.inside) (first_read g e h.env part.number v k.0 own (may.first_low_in part.number v k.0 own)) b r
  rooted rs level q c v same this ex (inr k) b r =
      let part = k.4.2 in
      let x = inside_place g.table g.owns (Frame e.exec k.0) (Slot part.cell ∷ []) part.inside in
      let there : Value = Place (Frame e.exec k.0) x.0 in
      let own : IsOwnCoroutine g k.1 (Frame e.exec k.0) there k.4.0 = (subst (λ n. g.table.executes n ≡ true) (same_class c k.4.0 (sym this ∙ k.4.1)) ex, subst (λ u. IsOwnPart g.table g.owns g.source k.1 (Frame e.exec k.0) u (Obj k.4.0)) x.1 part) in
      coroutine_read g e h.routines h.cells k.0 k.1 (subst (λ l. at_depth l k.0 ≡ Some k.1) same k.3) x.0 k.4.0 own (may.first_low k.1 (Frame e.exec k.0) there k.4.0 own) e.exec (subst (λ w. loaded w e ≡ Running e.exec) x.1 r) on (frame refl)

  pub forgets : (todo : List Todo) → s.run.control ≡ ForgetNow ∷ todo → Belongs g.few e.exec s.run.this → own_exec s ≡ Some e.exec → ⊥
  forgets todo c b i =
      let run = h.run in
      let k = (subst (Ok g run.routine run.marks) c run.ok).0 in
      rooted h.routines _ run.routine k.1.0 s.run.this refl k.1.1 k.1.2 (run.this k.0) b (names_it (loaded s.run.this e) e.exec i)
