-- What numbers and homes alone tell: an object at hand has the number of one that is whole, a task and a new execution have their objects at hand,
-- and what is read in what lies outside the frames of the running execution is read elsewhere.
use Rattle.std.proofs.Common.{◌≡◌, ℕ, ◌<◌, ◌⊎◌, inl, inr, ⊎_elim, List, [], ◌∷◌, Option, Some, None, Bool, true, false, refl, sym, ap, ◌∙◌, subst}
use Rattle.std.specs.Prelude.{if◌then◌else◌, slice_get, slice_index_or}
use Rattle.uc_tree.specs.Source.{Expr, Shape, Variable, OfObject, ObjectExpr, This, GetOwn, OwnField, CleanUp, Destroys, DestroysAll, Scoped, Source, Routine}
use Rattle.uc_machine.specs.declared.exec.Exec.{Exec}
use Rattle.uc_machine.specs.declared.exec.Home.{Home}
use Rattle.uc_machine.specs.declared.exec.Owner.{Owner}
use Rattle.uc_machine.specs.declared.exec.Owner.TheVariants.{Frame, Fields}
use Rattle.uc_machine.specs.Executions.{exec_eq, members_at}
use Rattle.uc_machine.specs.Switches.{new_exec}
use Rattle.uc_machine.specs.Quiet.{home_at}
use Rattle.uc_machine.specs.Pieces as piece
use Rattle.uc_machine.specs.Pieces.{Link, Slot, FieldAt, Value, Number, Place, Running, Object, Nothing, Todo, Sort, Active, State, Members, Eval, LoadNow, Rest, SetUpNow, SpawnNow, address, further, loaded, nought, top, object_in}
use Rattle.uc_typing.specs.Typing.{Ty, Num, Cell, Obj, Raw, Row, Clu, Pro, Name, Sig, Table, IsMain, Yields, ObjectGives, DestroysAt, CleansAt}
use Rattle.uc_typing.specs.Pieces.{Ok}
use Rattle.uc_typing.specs.States.{Sound, IsObjectBy}
use Rattle.uc_typing.proofs.Answers.{there}
use Rattle.uc_acts.specs.Journal.{Journal}
use Rattle.uc_meaning.specs.Runs.{World}
use Rattle.uc_state_laws.specs.RoomRuns.{Comes}
use Rattle.uc_name_laws.specs.Below.{IsNamed}
use Rattle.uc_life_laws.specs.NamedRuns.{ComesNamed}
use Rattle.uc_life_laws.specs.Things.{Few, numbered, is_outside, Within, itself, field, element, AtVariable, AtField, IsFor, Marks, InTodo, InStack, NoBase, Base, Things, OwnFields, LiesIn, IsFew, Known, Holds, Held, lies}
use Rattle.uc_life_laws.specs.LifeStates.{frame_at, Outwards, OpensAtBy}
use Rattle.uc_life_laws.specs.Opened.{ObjectsHold}
use Rattle.uc_life_laws.specs.Lives.{OutwardsOrMade, LivesState}
use Rattle.uc_life_laws.specs.Knowing.{IsOwn, Here, ReadsKnown, IsStill, FindsObject, FindsExpr, Finds, HasObject}
use Rattle.uc_life_laws.proofs.Reading.{exec_is}
use Rattle.uc_life_laws.proofs.LifeSteps.{exec_same}
use Rattle.uc_life_laws.specs.FoundReads.{OwnMarks, IsRightAs, HoldsRight, VariableRight, OpensRightAt, ObjectsRight, IsFound, ReadsFound, ReadsAt, Reads}

-- in a frame of this execution or elsewhere
own_or_not : (n : Exec) (v : Value) → IsOwn n v ⊎ (IsOwn n v → ⊥)
own_or_not n (Place (Frame x d) p) = by (exec_eq x n) refl
  where
    by : (b : Bool) → exec_eq x n ≡ b → (x ≡ n) ⊎ (x ≡ n → ⊥)
    by true e = inl (exec_is x n e)
    by false e = inr (λ q. let f : false ≡ true = sym e ∙ (ap (λ (m : Exec). exec_eq m n) q ∙ exec_same n) in absurd (cc))
own_or_not n (Place (Fields o) p) = inr (λ h. h)
own_or_not n (Number z) = inr (λ h. h)
own_or_not n (Running x) = inr (λ h. h)
own_or_not n (Object o) = inr (λ h. h)
own_or_not n Nothing = inr (λ h. h)

-- what lies outside is in no frame of its own, and so is what lies within it
own_inside : (n : Exec) (v : Value) → IsOwn n v → is_outside n v ≡ true → ⊥
own_inside n (Place (Frame x d) p) h e =
    let f : (if exec_eq x n then false else true) ≡ true = e in
    let g : exec_eq x n ≡ true = ap (λ (m : Exec). exec_eq m n) h ∙ exec_same n in
    let q : false ≡ true = subst (λ (b : Bool). (if b then false else true) ≡ true) g f in
    absurd (cc)
own_inside n (Place (Fields o) p) h e = h
own_inside n (Number z) h e = h
own_inside n (Running x) h e = h
own_inside n (Object o) h e = h
own_inside n Nothing h e = h

own_further : (n : Exec) (l : Link) (v : Value) → IsOwn n (further l v) → IsOwn n v
own_further n l (Place (Frame x d) p) h = h
own_further n l (Place (Fields o) p) h = h
own_further n l (Number z) h = h
own_further n l (Running x) h = h
own_further n l (Object o) h = h
own_further n l Nothing h = h

outside : (t : Table) (n : Exec) (w : Value) (a : Ty) (v : Value) (b : Ty) → Within t w a v b → IsOwn n v → is_outside n w ≡ true → ⊥
outside t n w a v b itself h e = own_inside n v h e
outside t n w a v b (field {v = u} {c} k i f) h e = outside t n w a u (Obj c) k (own_further n _ u h) e
outside t n w a v b (element {v = u} {m} {b = d} k j l) h e = outside t n w a u (Row m d) k (own_further n _ u h) e

-- of all fields that an execution has at hand those that it has of others lie outside
own_marks : (t : Table) (few : Few) (n : Exec) (cs : List Active) (w : Value) (b : Ty) → OwnFields t few n cs w b → OwnMarks t n cs w b ⊎ Base few n w b
own_marks t few n [] w b m = inr m
own_marks t few n (c ∷ older) w b (inl m) = inl (inl m)
own_marks t few n (c ∷ older) w b (inr m) = ⊎_elim (λ h. inl (inr h)) (λ h. inr h) (own_marks t few n older w b m)

-- no mark is for what is not whole

module _ (t : Table) (c : ℕ) (w : Value) where
  raw_ended : (x : CleanUp) (place : Expr) → CleansAt t (Raw c) place x → ⊥
  raw_ended (Destroys e) place h = h
  raw_ended (DestroysAll m e) place h = h
  raw_ended x place h = absurd h

  raw_marked : (o : Owner) (this : Value) (s : Sort) (R : Type 0) → Marks (IsFor t o this) (AtField t o this) s w (Raw c) R → R
  raw_marked o this (piece.IsClean x) R (inl (inl m)) = absurd (raw_ended x (Variable m.0) m.1)
  raw_marked o this (piece.IsClean x) R (inl (inr m)) = absurd (raw_ended x (OfObject (OwnField m.0 m.1)) m.2)
  raw_marked o this (piece.IsClean x) R (inr r) = r
  raw_marked o this (piece.IsPart x) R (inl m) = absurd (raw_ended x (OfObject (OwnField m.0 m.1)) m.2)
  raw_marked o this (piece.IsPart x) R (inr r) = r
  raw_marked o this piece.Simple R r = r
  raw_marked o this (piece.IsLoop x y z q) R r = r
  raw_marked o this piece.IsWhole R r = r
  raw_marked o this (piece.IsFill x y z) R r = r
  raw_marked o this (piece.IsSweep x) R r = r
  raw_marked o this (piece.IsGuard x) R r = r
  raw_marked o this piece.IsFinish R r = r
  raw_marked o this piece.IsFinishCoroutine R r = r

  raw_todo : (o : Owner) (this : Value) (todo : List Todo) → InTodo (IsFor t o this) (AtField t o this) todo w (Raw c) → ⊥
  raw_todo o this [] m = m
  raw_todo o this (x ∷ todo) m = raw_todo o this todo (raw_marked o this (piece.sort x) _ m)

  raw_thing : (few : Few) (n : Exec) (cs : List Active) → Things t few n cs w (Raw c) → Base few n w (Raw c)
  raw_thing few n [] m = m
  raw_thing few n (x ∷ older) (inl m) = absurd (raw_todo (Frame n x.frame) x.this x.control m)
  raw_thing few n (x ∷ older) (inr m) = raw_thing few n older m

-- a new execution is none in whose frame its coroutine lies

module _ (source : Source) where
  abbrev pub SetsUpNew : State → Type 0
  SetsUpNew s = (r : ℕ) (todo : List Todo) → s.run.control ≡ SetUpNow r ∷ todo →
      (x : Routine) → slice_get source.routines r ≡ Some x →
      (m : Members) → members_at (home_at s.run.this s.env) s.env ≡ Some m →
      (d : ℕ) (p : List Link) → s.run.this ≡ Place (Frame (new_exec (home_at s.run.this s.env) s.env) d) p → ⊥

  -- so it is of each state to which whoever runs comes in a run, by the names of executions
  pub sets_up : (j : Journal) (w : World) (before : Home → ℕ) (n : ℕ) (s : State) (c : Comes source j w n s) → ComesNamed source j w before n s c → SetsUpNew s
  sets_up j w before n s c h r todo e x k m at d p q =
      h.new (new_exec (home_at s.run.this s.env) s.env) (record { main = r; todo = todo; next = e; routine = x; known = k; members = m; in_hand = at; named = refl }) (subst (IsNamed h.now) q h.names.run_named.this_named)

module _ (t : Table) (numbers : Ty → ℕ → Bool) where
  abbrev few : Few
  few = numbered numbers

  -- what is not in a frame of an execution is at hand to it
  at_hand : (n : Exec) (c : ℕ) (v : Value) → ((d : ℕ) (p : List Link) → v ≡ Place (Frame n d) p → ⊥) → LiesIn t few n (Base few n) (Obj c) v
  at_hand n c (Place (Frame x d) p) h = by (exec_eq x n) refl
    where
      by : (b : Bool) → exec_eq x n ≡ b → LiesIn t few n (Base few n) (Obj c) (Place (Frame x d) p)
      by true e = absurd (h d p (ap (λ (m : Exec). Place (Frame m d) p) (exec_is x n e)))
      by false e = inl (lies (ap (λ (b : Bool). if b then false else true) e) itself)
  at_hand n c (Place (Fields o) p) h = inl (lies refl itself)
  at_hand n c (Object o) h = inl (lies refl itself)
  at_hand n c (Number z) h = tt
  at_hand n c (Running x) h = tt
  at_hand n c Nothing h = tt

  -- what is whole has the numbers of what is not
  raw_few : (n : Exec) (c : ℕ) (v : Value) → IsFew t few n (Raw c) v → IsFew t few n (Obj c) v
  raw_few n c (Object o) h = h
  raw_few n c (Place o p) h = tt
  raw_few n c (Number z) h = tt
  raw_few n c (Running x) h = tt
  raw_few n c Nothing h = tt

  few_raw : (n : Exec) (c : ℕ) (v : Value) → IsFew t few n (Obj c) v → IsFew t few n (Raw c) v
  few_raw n c (Object o) h = h
  few_raw n c (Place o p) h = tt
  few_raw n c (Number z) h = tt
  few_raw n c (Running x) h = tt
  few_raw n c Nothing h = tt

  has_object : (c : Option ℕ) (o : ℕ) → HasObject t few c o
  has_object None o = tt
  has_object (Some c) o = inl (lies refl itself)

  -- what lies outside is a thing
  pub outside_thing : (n : Exec) (cs : List Active) (w : Value) (a : Ty) → is_outside n w ≡ true → Things t few n cs w a
  outside_thing n [] w a h = h
  outside_thing n (c ∷ older) w a h = inr (outside_thing n older w a h)

  -- who has at hand all that lies outside knows what is right
  module _ (n : Exec) (K : Value → Ty → Type 0) (others : (w : Value) (a : Ty) → is_outside n w ≡ true → K w a) where
    outside_or_own : (v : Value) → (is_outside n v ≡ true) ⊎ IsOwn n v
    outside_or_own (Place (Frame x d) p) = by (exec_eq x n) refl
      where
        by : (b : Bool) → exec_eq x n ≡ b → ((if exec_eq x n then false else true) ≡ true) ⊎ (x ≡ n)
        by true e = inr (exec_is x n e)
        by false e = inl (ap (λ (b : Bool). if b then false else true) e)
    outside_or_own (Place (Fields o) p) = inl refl
    outside_or_own (Number z) = inl refl
    outside_or_own (Running x) = inl refl
    outside_or_own (Object o) = inl refl
    outside_or_own Nothing = inl refl

    to_lie : (a : Ty) (v : Value) → (IsOwn n v → Held t few K a v) → LiesIn t few n K a v
    to_lie a (Place o p) h = ⊎_elim (λ e. inl (lies (others (Place o p) a e) itself)) h (outside_or_own (Place o p))
    to_lie a (Object o) h = inl (lies (others (Object o) a refl) itself)
    to_lie a (Number z) h = tt
    to_lie a (Running x) h = tt
    to_lie a Nothing h = tt

    -- a mutex object is known by its number
    numbered_lies : (c : ℕ) (v : Value) (b : Bool) → t.mutex c ≡ b → b ≡ true → IsObjectBy t b c v → LiesIn t few n K (Obj c) v
    numbered_lies c (Object o) true m e i = to_lie (Obj c) (Object o) (λ f. absurd f)
    numbered_lies c (Number z) true m e i = tt
    numbered_lies c (Place o p) true m e i = absurd i
    numbered_lies c (Running x) true m e i = tt
    numbered_lies c Nothing true m e i = tt
    numbered_lies c v false m e i = absurd (cc)

    right_known : (a : Ty) (v : Value) → IsRightAs t few n K a v → Known t few n K a v
    right_known Num v r = tt
    right_known (Cell a) v r = record { is = r.is; passes = r.passes; rooted = λ k. to_lie (Cell a) v (λ i. r.lies i (inl k)); held = λ m. absurd m; seated = λ k. inl (to_lie (Cell a) v (λ i. r.lies i (inr k))) }
    right_known (Obj c) v r = record { is = r.is; passes = r.passes; rooted = λ k. to_lie (Obj c) v (λ i. r.lies i (inl k)); held = λ m. numbered_lies c v (t.mutex c) refl m r.is; seated = λ k. absurd k }
    right_known (Raw c) v r = record { is = r.is; passes = r.passes }
    right_known (Row m a) v r = record { is = r.is; passes = r.passes; rooted = λ k. to_lie (Row m a) v (λ i. r.lies i (inl k)); held = λ m. absurd m; seated = λ k. inl (to_lie (Row m a) v (λ i. r.lies i (inr k))) }
    right_known Clu v r = record { is = r.is; passes = r.passes; rooted = λ k. absurd k; held = λ m. absurd m; seated = λ k. absurd k }
    right_known Pro v r = record { is = r.is; passes = r.passes; rooted = λ k. absurd k; held = λ m. absurd m; seated = λ k. absurd k }

    pub right_holds : (o : Owner) (vs : List Value) (w : Value) (a : Ty) → HoldsRight t few n K o vs w a → Holds t few n K o vs w a
    right_holds o vs w a h p b y i = right_known b (slice_index_or vs (address p) nought) (h p b y i)

  -- so a scope opens where what it is of holds what is known
  module _ (s : State) where
    module _ (gs : List Sig) where
      abbrev Behind : CleanUp → List Todo → Value → Ty → Type 0
      Behind c todo = OutwardsOrMade gs (Outwards t few s.env.exec s.run.frame s.run.this s.callers c todo) s.env.exec s.run.frame s.run.this s.callers

      variable_holds : (c : CleanUp) (todo : List Todo) (k : ℕ) (a : Ty) → VariableRight t few gs c todo s k a → Holds t few s.env.exec (Behind c todo) (Frame s.env.exec s.run.frame) (frame_at s.run.frame s.env.frames) (Place (Frame s.env.exec s.run.frame) (Slot k ∷ [])) a
      variable_holds c todo k a h = right_holds s.env.exec (Behind c todo) (λ w b o. inl (inr (inl (outside_thing s.env.exec s.callers w b o)))) (Frame s.env.exec s.run.frame) (frame_at s.run.frame s.env.frames) (Place (Frame s.env.exec s.run.frame) (Slot k ∷ [])) a h

      pub opens_at : (l : List Todo) → OpensRightAt t few gs l s → OpensAtBy t few (OutwardsOrMade gs) l s
      opens_at (Rest (Scoped c rest) ∷ todo) h = λ k a y. variable_holds c todo k a (h k a y)
      opens_at l h = tt

  module _ (gs : List Sig) (s : State) where
    reads_known : (a : Ty) (v : Value) → ReadsFound t few gs s a v → ReadsKnown t few gs s a v
    reads_known a v r = record {
      untracked = λ no other. known (⊎_elim (λ i. r.ending i no other) (λ i. r.foreign i) (own_or_not s.env.exec v));
      seated = λ k l. known (⊎_elim (λ i. r.loose i k l) (λ i. r.foreign i) (own_or_not s.env.exec v));
      foreign = λ i. known (r.foreign i);
      field = λ w b m y. known (⊎_elim (λ i. ⊎_elim (λ h. r.field i w b h y) (λ h. absurd (outside t s.env.exec w b v (Cell a) y i h)) (own_marks t few s.env.exec (s.run ∷ s.callers) w b m)) (λ i. r.foreign i) (own_or_not s.env.exec v));
      making = λ w c m y. known (⊎_elim (λ i. ⊎_elim (λ h. absurd (outside t s.env.exec w (Obj c) v (Cell a) y i (raw_thing t c w few s.env.exec (s.run ∷ s.callers) h))) (λ h. r.making i w c h y) m) (λ i. r.foreign i) (own_or_not s.env.exec v));
    }
      where
        known : IsFound t few gs s a v → Known t few s.env.exec (Here t few gs s) a (loaded v s.env)
        known f = right_known s.env.exec (Here t few gs s) (λ w b h. inl (outside_thing s.env.exec (s.run ∷ s.callers) w b h)) a (loaded v s.env) f

    still : (g : Sig) (sc : List Name) → IsStill t few gs g sc s
    still g sc c e = (raw_few s.env.exec c s.run.this, few_raw s.env.exec c s.run.this)

    module _ (source : Source) (sound : Sound t source) (new : SetsUpNew source s) (g : Sig) (base sc : List Name) where
      known : (r : ℕ) (o : Option Routine) → slice_get source.routines r ≡ o → IsMain t g r → (x : Routine) × (slice_get source.routines r ≡ Some x)
      known r None e m = absurd (there source.routines r (subst (λ (k : ℕ). r < k) (sym sound.count) m.2) e)
      known r (Some x) e m = (x, e)

      objects : (o : ObjectExpr) (todo : List Todo) (own : List Ty) → ReadsAt t few gs s g sc (Eval (OfObject o) ∷ todo) own → (a : Ty) → ObjectGives t g sc o a → FindsObject t few gs g sc s o a
      objects This todo own h a y = still g sc
      objects (GetOwn k i) todo own h a y = reads_known a (further (FieldAt k i) s.run.this) (h a y)
      objects o todo own h a y = tt

      exprs : (e : Expr) (todo : List Todo) (own : List Ty) → ReadsAt t few gs s g sc (Eval e ∷ todo) own → (a : Ty) → Yields t g sc e a → FindsExpr t few gs g sc s e a
      exprs (OfObject o) todo own h a y = objects o todo own h a y
      exprs e todo own h a y = tt

      finds : (control : List Todo) (own : List Ty) → s.run.control ≡ control → Ok t g base sc control own → ReadsAt t few gs s g sc control own → Finds t few gs g sc s control own
      finds (Eval e ∷ todo) own q o h = λ a y. exprs e todo own h a y
      finds (LoadNow ∷ todo) (Cell a ∷ more) e o h = reads_known a (top s.run.operands) h
      finds (SetUpNow r ∷ todo) own e o h = λ m at. (still g sc, λ c q. at_hand (new_exec (home_at s.run.this s.env) s.env) c s.run.this (λ d p is. let x = known r (slice_get source.routines r) refl o.0 in new r todo e x.0 x.1 m at d p is))
      finds (SpawnNow r ∷ todo) own e o h = has_object (t.routine r).this (object_in s.run.this)
      finds control own e o h = tt

  -- by these kinds, then, a step finds what it is to find
  pub found : (source : Source) (sound : Sound t source) (s : State) → SetsUpNew source s → (x : LivesState t few s) → Reads t few s x → Finds t few x.0.sigs x.0.run.sig x.0.run.scope s s.run.control x.0.run.own
  found source sound s new x h = finds x.0.sigs s source sound new x.0.run.sig x.0.run.base x.0.run.scope s.run.control x.0.run.own refl x.0.run.ok h

-- where numbers are not tested, objects hold what is known
pub objects_hold : (t : Table) (gs : List Sig) (c : CleanUp) (todo : List Todo) (s : State) → ObjectsRight t gs c todo s → ObjectsHold t gs c todo s
objects_hold t gs c todo s h = record {
  object = λ k i y. variable_holds t (λ a o. true) s gs c todo k (Obj i) (h.object k i y);
  array = λ k m i y. variable_holds t (λ a o. true) s gs c todo k (Row m (Obj i)) (h.array k m i y);
}
