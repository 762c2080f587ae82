-- Steps on the way from the statement that binds a variable to a new cluster to its scope.
use Rattle.std.proofs.Common.{◌≡◌, ℕ, zero, suc, ◌+◌, ◌≤◌, ◌<◌, ◌⊎◌, inl, inr, Bool, true, false, List, [], ◌∷◌, length, Some, refl, sym, ap, ◌∙◌, subst, arith}
use Rattle.std.specs.Prelude.{nat_eq, min, if◌then◌else◌, slice_index_or}
use Rattle.std.proofs.lemmas.Bool.{eq-eqb, cases_lt}
use Rattle.std.proofs.Math.Nat.{min-eq_left}
use Rattle.uc_tree.specs.Source as src
use Rattle.uc_tree.specs.Source.{Source, Expr, CleanUp, Stmt, Stmts}
use Rattle.uc_machine.specs.Executions.{at_depth, set_depth, frame_changed, frames_changed, change, list_in, value_changed}
use Rattle.uc_machine.specs.Quiet as quiet
use Rattle.uc_machine.specs.Pieces as piece
use Rattle.uc_machine.specs.Pieces.{Slot, Value, Number, Place, Running, Object, Nothing, Todo, Active, State, Env, Step, Goes, Ticks, Asks, LAST_ADDRESS, at, in_env, top, below, nought, address, stored, written, variable_at}
use Rattle.uc_typing.specs.States.{IsNumbered}
use Rattle.uc_state_laws.specs.Clusters.{BindsCluster, BindsProcessor, BindsObject, PrecedesFill, Precedes, OpensArray, OpensBound, FillsNone, EndsNone, IsUnbound, IsUnscoped, Begins, Joined}
use Rattle.uc_state_laws.specs.There.{ArrayGiven, IsGiven, MayOpen, OfBound, HoldsObject, IsLoose, IsThere, IsFew, IsCounted, AllCounted, frame_at}
use Rattle.uc_state_laws.specs.ThereStates.{CountedStep, ScopeFits, FairAt, Fair}
use Rattle.uc_state_laws.specs.Declaring.{IsCount, IsUnset}
use Rattle.uc_state_laws.specs.NewClusters as way
use Rattle.uc_state_laws.specs.NewClusters.{Stage, stage_todo, IsSetBy, IsScopeOf, StageHoldsBy, OpeningBy, WaitingBy, GoodBy, AskedBy, GoodStepBy}
use Rattle.uc_state_laws.proofs.Cells.{set_length}
use Rattle.uc_state_laws.proofs.ValueKeeping as kept
use Rattle.uc_state_laws.proofs.ValueKeeping.{Keeps}
use Rattle.uc_state_laws.proofs.ValueSteps.{exec_same, here}

-- cells

pub set_same : (P : List Value → Type 0) (fs : List (List Value)) (d : ℕ) (y : List Value) → P y → P [] → P (frame_at d (set_depth fs d y))
set_same P [] d y h k = k
set_same P (x ∷ xs) d y h k = by (nat_eq d (length xs)) refl (set_same P xs d y h k)
  where
    by : (b : Bool) → nat_eq d (length xs) ≡ b → P (frame_at d (set_depth xs d y)) → P (list_in (at_depth (if b then y ∷ xs else x ∷ set_depth xs d y) d))
    by true e m = subst (λ (c : Bool). P (list_in (if c then Some y else at_depth xs d))) (sym e) h
    by false e m =
        let l : nat_eq d (length (set_depth xs d y)) ≡ false = ap (nat_eq d) (set_length xs d y) ∙ e in
        subst (λ (c : Bool). P (list_in (if c then Some x else at_depth (set_depth xs d y) d))) (sym l) m

-- of a frame that is there
pub set_in : (P : List Value → Type 0) (fs : List (List Value)) (d : ℕ) (y : List Value) → d < length fs → P y → P (frame_at d (set_depth fs d y))
set_in P [] d y l h = let f : ⊥ = omega (arith, l) in absurd f
set_in P (x ∷ xs) d y l h = by (nat_eq d (length xs)) refl (λ m. set_in P xs d y m h)
  where
    other : nat_eq d (length xs) ≡ false → (d < length xs) ⊎ (length xs ≤ d) → d < length xs
    other e (inl m) = m
    other e (inr m) =
        let q : d ≡ length xs = omega (arith, l, m) in
        let t : nat_eq d (length xs) ≡ true = eq-eqb d (length xs) q in
        let f : ⊥ = cc in
        absurd f

    by : (b : Bool) → nat_eq d (length xs) ≡ b → (d < length xs → P (frame_at d (set_depth xs d y))) → P (list_in (at_depth (if b then y ∷ xs else x ∷ set_depth xs d y) d))
    by true e m = subst (λ (c : Bool). P (list_in (if c then Some y else at_depth xs d))) (sym e) h
    by false e m =
        let k : nat_eq d (length (set_depth xs d y)) ≡ false = ap (nat_eq d) (set_length xs d y) ∙ e in
        subst (λ (c : Bool). P (list_in (if c then Some x else at_depth (set_depth xs d y) d))) (sym k) (m (other e (cases_lt d (length xs))))

pub near_address : (k : ℕ) → k ≤ LAST_ADDRESS → address (Slot k ∷ []) ≡ k
near_address k l =
    let e : 0 + k ≡ k = omega arith in
    subst (λ (m : ℕ). min m LAST_ADDRESS ≡ k) (sym e) (min-eq_left l)

-- what stands behind a statement

pub no_processor : (k : ℕ) (a : Stmt) → BindsProcessor k a → IsUnbound a → ⊥
no_processor k (src.Evaluate line (src.OfObject (src.Bind (src.Variable m) (src.OfObject (src.NewProcessor e))))) h u = u
no_processor k a h u = h

pub no_object : (k : ℕ) (a : Stmt) → BindsObject k a → IsUnbound a → ⊥
no_object k (src.Evaluate line (src.OfObject (src.MakeOn c r written (src.Variable m) args))) h u = u
no_object k a h u = h

pub no_bind : (k : ℕ) (a : Stmt) → BindsCluster k a → IsUnbound a → ⊥
no_bind k (src.Evaluate line (src.OfObject (src.Bind (src.Variable m) (src.OfObject src.NewCluster)))) h u = u
no_bind k a h u = h

-- no array is filled by a statement that is an expression
pub none_ends : (l n : ℕ) (x e : Expr) → OpensArray (src.Evaluate l x) n e → EndsNone e
none_ends l n x (src.OfObject (src.EndCluster (src.Load (src.Element m src.Binding (src.Variable k) i)))) h = h
none_ends l n x (src.OfObject (src.EndProcessor (src.Load (src.Element m src.Binding (src.Variable k) i)))) h = h
none_ends l n x (src.OfObject (src.EndOn r written (src.Load (src.Element m src.Binding (src.Variable k) i)))) h = h
none_ends l n x e h = tt

none_fills : (l n : ℕ) (x b : Expr) → PrecedesFill (src.Evaluate l x) n b → FillsNone b
none_fills l n x (src.OfObject (src.Bind (src.Element m src.Binding (src.Variable k) i) e)) h = h.0
none_fills l n x (src.OfObject (src.MakeOn c r written (src.Element m src.Binding (src.Variable k) i) args)) h = h.0
none_fills l n x b h = tt

behind_scope : (k l : ℕ) (c : CleanUp) (rest : Stmts) → OpensBound (src.Evaluate l (src.OfObject (src.Bind (src.Variable k) (src.OfObject src.NewCluster)))) c → Begins rest → IsUnscoped c ⊎ IsScopeOf k (src.Scoped c rest)
behind_scope k l (src.Destroys (src.OfObject (src.EndCluster (src.Load (src.Variable m))))) rest h b = inr (sym h, b)
behind_scope k l (src.Destroys (src.OfObject (src.EndProcessor (src.Load (src.Variable m))))) rest h b = absurd h
behind_scope k l (src.Destroys (src.OfObject (src.EndOn r written (src.Load (src.Variable m))))) rest h b = absurd h
behind_scope k l (src.DestroysAll n e) rest h b = inl (none_ends l n (src.OfObject (src.Bind (src.Variable k) (src.OfObject src.NewCluster))) e h)
behind_scope k l c rest h b = inl tt

pub behind_stmt : (l : ℕ) (e : Expr) (b : Stmt) → Precedes (src.Evaluate l e) b → IsUnbound b
behind_stmt l e (src.Evaluate line (src.OfObject (src.Bind (src.Variable m) (src.OfObject src.NewCluster)))) h = h
behind_stmt l e (src.Evaluate line (src.OfObject (src.Bind (src.Variable m) (src.OfObject (src.NewProcessor x))))) h = h
behind_stmt l e (src.Evaluate line (src.OfObject (src.MakeOn c r written (src.Variable m) args))) h = h
behind_stmt l e (src.Fill line n b d) h = none_fills l n e b h
behind_stmt l e b h = tt

pub behind_bound : (k l : ℕ) (rest : Stmts) → Joined (src.Then (src.Evaluate l (src.OfObject (src.Bind (src.Variable k) (src.OfObject src.NewCluster)))) rest) → Begins rest ⊎ IsScopeOf k rest
behind_bound k l src.Nil h = inl tt
behind_bound k l (src.Then b rest) h = inl (behind_stmt l (src.OfObject (src.Bind (src.Variable k) (src.OfObject src.NewCluster))) b h.0)
behind_bound k l (src.Scoped c rest) h = behind_scope k l c rest h.0 h.1.0
behind_bound k l (src.Built c rest) h = inl tt

-- a scope that is not of what is known by its number is not given
far_array : (n : ℕ) (e : Expr) → EndsNone e → ArrayGiven n e → ⊥
far_array n (src.OfObject (src.EndCluster (src.Load (src.Element m src.Binding (src.Variable k) i)))) h g = h
far_array n (src.OfObject (src.EndProcessor (src.Load (src.Element m src.Binding (src.Variable k) i)))) h g = h
far_array n (src.OfObject (src.EndOn r written (src.Load (src.Element m src.Binding (src.Variable k) i)))) h g = h
far_array n e h g = g

pub far : (c : CleanUp) → IsUnscoped c → IsGiven c → ⊥
far (src.Destroys (src.OfObject (src.EndCluster (src.Load (src.Variable k))))) h n = h
far (src.Destroys (src.OfObject (src.EndProcessor (src.Load (src.Variable k))))) h n = h
far (src.Destroys (src.OfObject (src.EndOn r written (src.Load (src.Variable k))))) h n = h
far (src.DestroysAll n e) h g = far_array n e h g
far c h n = n

-- one whose variable is bound is there
given_near : (k : ℕ) (R : Type 0) → (k < LAST_ADDRESS → R) → ((k < LAST_ADDRESS → ⊥) → R) → R
given_near k R h f = by (cases_lt k LAST_ADDRESS)
  where
    by : (k < LAST_ADDRESS) ⊎ (LAST_ADDRESS ≤ k) → R
    by (inl l) = h l
    by (inr l) = f (λ n. omega (arith, l, n))

pub opened : (vs : List Value) (c : CleanUp) → MayOpen c → OfBound (HoldsObject vs) c → ((IsGiven c → ⊥) → IsThere vs c) → IsThere vs c
opened vs (src.Destroys (src.OfObject (src.EndCluster (src.Load (src.Variable k))))) n h f = absurd n
opened vs (src.Destroys (src.OfObject (src.EndProcessor (src.Load (src.Variable k))))) n h f = given_near k (HoldsObject vs (Slot k ∷ [])) h f
opened vs (src.Destroys (src.OfObject (src.EndOn r written (src.Load (src.Variable k))))) n h f = given_near k (HoldsObject vs (Slot k ∷ [])) h f
opened vs (src.DestroysAll m e) n h f = f (far_array m e n)
opened vs c n h f = f (λ g. g)

module _ (Few : ℕ → Bool) where
  number_bound : (o : ℕ) (v : Value) → IsCount v → Few o ≡ true → IsFew Few (stored (Object o) v)
  number_bound o (Number n) h f = f
  number_bound o (Place w p) h f = absurd h
  number_bound o (Running x) h f = absurd h
  number_bound o (Object q) h f = absurd h
  number_bound o Nothing h f = absurd h

  cell_bound : (vs : List Value) (k o : ℕ) → k < length vs → IsCount (slice_index_or vs k nought) → Few o ≡ true → IsFew Few (slice_index_or (value_changed k (stored (Object o)) nought vs) k nought)
  cell_bound [] k o l h w = let f : ⊥ = omega (arith, l) in absurd f
  cell_bound (x ∷ vs) zero o l h w = number_bound o x h w
  cell_bound (x ∷ vs) (suc k) o l h w = cell_bound vs k o (omega (arith, l)) h w

  few_numbered : (v : Value) → IsFew Few v → IsNumbered v
  few_numbered (Number n) h = h
  few_numbered (Place w p) h = h
  few_numbered (Running x) h = h
  few_numbered (Object o) h = tt
  few_numbered Nothing h = h

  -- a scope that is not of a cluster asks nothing of one
  pub uncounted : (vs : List Value) (c : CleanUp) → MayOpen c → IsCounted Few vs c
  uncounted vs (src.Destroys (src.OfObject (src.EndCluster (src.Load (src.Variable k))))) h = absurd h
  uncounted vs c h = tt

  pub lift : (x : Step) → CountedStep Few x → GoodStepBy Few x
  lift (Goes s) h = inl h
  lift (Ticks s) h = inl h
  lift (Asks r s) h = inl h

  module _ (source : Source) (s : State) (st : OpeningBy Few s) where
    abbrev Then : Stage → List Todo
    Then g = stage_todo g st.cell st.line st.next st.todo

    -- with nothing written
    next : (g : Stage) (vs : List Value) → StageHoldsBy Few g st.cell st.next (at (Then g) vs s) → OpeningBy Few (at (Then g) vs s)
    next g vs h = record { cell = st.cell; line = st.line; next = st.next; todo = st.todo; stage = g; control = refl; follows = st.follows; holds = h; frames = st.frames; frame = st.frame; behind = st.behind; callers = st.callers; env = st.env }

    -- the variable is bound

    bound_cell : (o : ℕ) → st.cell < length (here s) → IsUnset st.cell s → Few o ≡ true → st.cell < LAST_ADDRESS → IsFew Few (slice_index_or (frame_at s.run.frame (written (variable_at st.cell s) (Object o) s.env).frames) st.cell nought)
    bound_cell o l h w n =
        let a : ℕ = address (Slot st.cell ∷ []) in
        let frames = st.frames in
        let frame = st.frame in
        let y : List Value = value_changed a (stored (Object o)) nought (here s) in
        let bound : IsFew Few (slice_index_or y st.cell nought) = subst (λ (k : ℕ). IsFew Few (slice_index_or (value_changed k (stored (Object o)) nought (here s)) st.cell nought)) (sym (near_address st.cell (omega (arith, n)))) (cell_bound (here s) st.cell o l h w) in
        subst (λ (b : Bool). IsFew Few (slice_index_or (frame_at s.run.frame (if b then record s.env { frames = frame_changed s.run.frame (value_changed a (stored (Object o)) nought) s.env.frames } else change s.env.exec.home (frames_changed s.env.exec.serial (frame_changed s.run.frame (value_changed a (stored (Object o)) nought))) s.env).frames) st.cell nought)) (sym (exec_same s.env.exec)) (set_in (λ vs. IsFew Few (slice_index_or vs st.cell nought)) s.env.frames s.run.frame y (omega (arith, frames, frame)) bound)

    scope_cell : (k n : ℕ) (ss : Stmts) → IsScopeOf k ss → ScopeFits n ss → k < n
    scope_cell k n (src.Scoped (src.Destroys (src.OfObject (src.EndCluster (src.Load (src.Variable m))))) rest) h f =
        subst (λ (m : ℕ). m < n) h.0 f
    scope_cell k n ss h f = absurd h

    binds : StageHoldsBy Few way.Told st.cell st.next s → ScopeFits (length (here s)) st.next → GoodBy Few (at (Then way.Bound) (top s.run.operands ∷ below (below s.run.operands)) (in_env (written (top (below s.run.operands)) (top s.run.operands) s.env) s))
    binds h f = by st.follows
      where
        e : Env
        e = written (top (below s.run.operands)) (top s.run.operands) s.env

        k : Keeps Few s.env e
        k = kept.written_keeps Few (top (below s.run.operands)) (top s.run.operands) (subst IsLoose (sym h.2.1) tt) s.env st.env

        behind : AllCounted Few (frame_at s.run.frame e.frames) st.todo
        behind = k.lists s.run.frame st.todo st.behind

        set : IsScopeOf st.cell st.next → st.cell < LAST_ADDRESS → IsFew Few (slice_index_or (frame_at s.run.frame e.frames) st.cell nought)
        set i n =
            subst (λ (v : Value). IsFew Few (slice_index_or (frame_at s.run.frame (written v (top s.run.operands) s.env).frames) st.cell nought)) (sym h.1) (subst (λ (v : Value). IsFew Few (slice_index_or (frame_at s.run.frame (written (variable_at st.cell s) v s.env).frames) st.cell nought)) (sym h.2.1) (bound_cell h.2.0 (scope_cell st.cell (length (here s)) st.next i f) h.0 h.2.2 n))

        by : Begins st.next ⊎ IsScopeOf st.cell st.next → GoodBy Few (at (Then way.Bound) (top s.run.operands ∷ below (below s.run.operands)) (in_env e s))
        by (inl b) = inl (record { frames = k.frames ∙ st.frames; stack = (st.frame, inl (tt, (tt, (b, behind))), k.stack s.callers st.callers); env = k.env })
        by (inr i) = inr (inr (inl (record { cell = st.cell; line = st.line; next = st.next; todo = st.todo; stage = way.Bound; control = refl; follows = st.follows; holds = (i, set i); frames = k.frames ∙ st.frames; frame = st.frame; behind = behind; callers = k.stack s.callers st.callers; env = k.env })))

    -- its scope opens

    near_few : (m k : ℕ) → m ≡ k → IsSetBy Few k s → m < LAST_ADDRESS → IsFew Few (slice_index_or (here s) (address (Slot m ∷ [])) nought)
    near_few m k q h l =
        subst (λ (a : ℕ). IsFew Few (slice_index_or (here s) a nought)) (sym (near_address m (omega (arith, l)))) (subst (λ (a : ℕ). IsFew Few (slice_index_or (here s) a nought)) (sym q) (h (subst (λ (a : ℕ). a < LAST_ADDRESS) q l)))

    opens : (ss : Stmts) → IsScopeOf st.cell ss → IsSetBy Few st.cell s → FairAt source (piece.Rest ss ∷ st.todo) s → GoodStepBy Few (quiet.rest_step ss st.todo s)
    opens (src.Scoped (src.Destroys (src.OfObject (src.EndCluster (src.Load (src.Variable m))))) rest) i h f =
        inl (record { frames = st.frames; stack = (st.frame, inl (i.1, ((there (cases_lt m LAST_ADDRESS), near_few m st.cell i.0 h), st.behind)), st.callers); env = st.env })
      where
        there : (m < LAST_ADDRESS) ⊎ (LAST_ADDRESS ≤ m) → IsNumbered (slice_index_or (here s) (address (Slot m ∷ [])) nought)
        there (inr l) = f.1 (λ n. omega (arith, l, n))
        there (inl l) = few_numbered (slice_index_or (here s) (address (Slot m ∷ [])) nought) (near_few m st.cell i.0 h l)
    opens ss i h f = absurd i

    step : (g : Stage) → s.run.control ≡ Then g → StageHoldsBy Few g st.cell st.next s → FairAt source (Then g) s → GoodStepBy Few (quiet.act_todo source (Then g) s)
    step way.Does e h f = inr (inr (inl (next way.Binds s.run.operands h)))
    step way.Binds e h f = inr (inr (inl (next way.Places s.run.operands h)))
    step way.Places e h f = inr (inr (inl (next way.Makes (variable_at st.cell s ∷ s.run.operands) (h, refl))))
    step way.Makes e h f = inr (inr (inl (next way.Orders s.run.operands h)))
    step way.Orders e h f = inr (inl (refl, λ o w. next way.Told (Object o ∷ s.run.operands) (h.0, h.1, (o, refl, w))))
    step way.Told e h f = binds h f.0
    step way.Bound e h f = inr (inr (inl (next way.Leaves (below s.run.operands) h)))
    step way.Leaves e h f = inr (inr (inl (next way.Opens s.run.operands h)))
    step way.Opens e h f = opens st.next h.0 h.1 f

    pub opening : Fair source s → GoodStepBy Few (quiet.quiet source s)
    opening f =
        subst (λ (l : List Todo). GoodStepBy Few (quiet.act_todo source l s)) (sym st.control) (step st.stage st.control st.holds (subst (λ (l : List Todo). FairAt source l s) st.control f))
