-- Steps on the way from the declaration of a variable that is known by its number to the statement that binds it.
use Rattle.std.proofs.Common.{◌≡◌, ℕ, zero, suc, ◌+◌, ◌<◌, ◌≤◌, inl, inr, Bool, List, [], ◌∷◌, refl, sym, ap, ◌∙◌, subst, arith}
use Rattle.std.specs.Prelude.{if◌then◌else◌, slice_index_or}
use Rattle.uc_tree.specs.Source as src
use Rattle.uc_tree.specs.Source.{Source, Expr, Exprs, Declared, Stmt, Stmts}
use Rattle.uc_machine.specs.Executions.{frame_changed, frames_changed, change, values_cleared}
use Rattle.uc_machine.specs.Quiet as quiet
use Rattle.uc_machine.specs.Pieces as piece
use Rattle.uc_machine.specs.Pieces.{Slot, Value, Number, Place, Running, Object, Nothing, Todo, State, Env, Goes, LAST_ADDRESS, at, in_env, nought, address}
use Rattle.uc_state_laws.specs.Clusters.{DeclaresAlone, DeclaresAll, FillsArray, Begins, Joined}
use Rattle.uc_state_laws.specs.There.{IsLoose, HoldsLoose, EndsArray, ElementsLoose, AllCounted, Held, AllBefore, FrameBefore, frame_at}
use Rattle.uc_state_laws.specs.ThereStates.{CountedState, FairAt, Fair}
use Rattle.uc_state_laws.specs.Declaring as point
use Rattle.uc_state_laws.specs.Declaring.{Point, point_todo, BindsAt, IsOwn, IsCount, IsUnset, AreUnset, PointHolds, DeclaringBy}
use Rattle.uc_state_laws.specs.Filling as fill
use Rattle.uc_state_laws.specs.Filling.{Kind, Array, element_at, binder}
use Rattle.uc_state_laws.specs.NewClusters as way
use Rattle.uc_state_laws.specs.NewClusters.{GoodBy, GoodStepBy}
use Rattle.uc_state_laws.proofs.Cells.{set_length, list_cleared, stack_cleared}
use Rattle.uc_state_laws.proofs.ValueKeeping as kept
use Rattle.uc_state_laws.proofs.ValueSteps.{exec_same, here}
use Rattle.uc_state_laws.proofs.NewClusters.{set_same, near_address, none_ends, behind_stmt, behind_bound}
use Rattle.uc_state_laws.proofs.Filling.{address_of, same_cell, binder_of, none_behind}

-- cells that start anew hold numbers
front_unset : (vs : List Value) (j n : ℕ) → j < n → IsCount (slice_index_or (values_cleared 0 n nought vs) j nought)
front_unset vs j zero l = let f : ⊥ = omega (arith, l) in absurd f
front_unset [] zero (suc n) l = tt
front_unset [] (suc j) (suc n) l = tt
front_unset (x ∷ vs) zero (suc n) l = tt
front_unset (x ∷ vs) (suc j) (suc n) l = front_unset vs j n (omega (arith, l))

cell_unset : (vs : List Value) (k i n : ℕ) → k ≤ i → i < k + n → IsCount (slice_index_or (values_cleared k n nought vs) i nought)
cell_unset vs zero i n g l = front_unset vs i n (omega (arith, l))
cell_unset vs (suc k) zero n g l = let f : ⊥ = omega (arith, g) in absurd f
cell_unset [] (suc k) (suc i) zero g l = let f : ⊥ = omega (arith, g, l) in absurd f
cell_unset [] (suc k) (suc i) (suc n) g l = tt
cell_unset (x ∷ vs) (suc k) (suc i) n g l = cell_unset vs k i n (omega (arith, g)) (omega (arith, l))

frame_unset : (fs : List (List Value)) (d k j n : ℕ) → j < n → IsCount (slice_index_or (frame_at d (frame_changed d (values_cleared k n nought) fs)) (k + j) nought)
frame_unset fs d k j n l =
    set_same (λ vs. IsCount (slice_index_or vs (k + j) nought)) fs d (values_cleared k n nought (frame_at d fs)) (cell_unset (frame_at d fs) k (k + j) n (omega arith) (omega (arith, l))) (none (k + j))
  where
    none : (i : ℕ) → IsCount (slice_index_or [] i nought)
    none zero = tt
    none (suc i) = tt

count_loose : (v : Value) → IsCount v → IsLoose v
count_loose (Number n) h = tt
count_loose (Place o p) h = h
count_loose (Running n) h = h
count_loose (Object o) h = tt
count_loose Nothing h = tt

module _ (Few : ℕ → Bool) where
  -- the declaration of one begins, of an array with so many elements
  module _ (s : State) (st : CountedState Few s) where
    pub begun : (k n : ℕ) (b : Stmt) → BindsAt k n b → (m : ℕ) (d : Declared) → IsOwn k n d → (rest : Stmts) (todo : List Todo) → AllCounted Few (here s) todo → GoodBy Few (at (piece.Do (src.Declare m (d ∷ [])) ∷ (piece.Rest (src.Then b rest) ∷ todo)) s.run.operands s)
    begun k n b x m d h rest todo t =
        inr (inl (record { cell = k; count = n; binder = b; next = rest; todo = todo; point = point.Declares m d; control = refl; binds = x; holds = h; frames = st.frames; frame = st.stack.0; behind = t; callers = st.stack.2; env = st.env }))

    pub begun_alone : (k : ℕ) (b : Stmt) → BindsAt k 1 b → (a : Stmt) (rest : Stmts) (todo : List Todo) → DeclaresAlone k a → AllCounted Few (here s) todo → GoodBy Few (at (piece.Do a ∷ (piece.Rest (src.Then b rest) ∷ todo)) s.run.operands s)
    begun_alone k b x (src.Declare m (d ∷ [])) rest todo h t = begun k 1 b x m d h rest todo t
    begun_alone k b x a rest todo h t = absurd h

    pub begun_all : (k n : ℕ) (b : Stmt) → BindsAt k n b → (a : Stmt) (rest : Stmts) (todo : List Todo) → DeclaresAll k n a → AllCounted Few (here s) todo → GoodBy Few (at (piece.Do a ∷ (piece.Rest (src.Then b rest) ∷ todo)) s.run.operands s)
    begun_all k n b x (src.Declare m (d ∷ [])) rest todo h t = begun k n b x m d h rest todo t
    begun_all k n b x a rest todo h t = absurd h

  module _ (source : Source) (s : State) (st : DeclaringBy Few s) where
    abbrev Then : Point → List Todo
    Then g = point_todo g st.binder st.next st.todo

    -- with nothing written
    next : (g : Point) (vs : List Value) → PointHolds g st.cell st.count (at (Then g) vs s) → DeclaringBy Few (at (Then g) vs s)
    next g vs h = record { cell = st.cell; count = st.count; binder = st.binder; next = st.next; todo = st.todo; point = g; control = refl; binds = st.binds; holds = h; frames = st.frames; frame = st.frame; behind = st.behind; callers = st.callers; env = st.env }

    clears : (m : ℕ) (d : Declared) → IsOwn st.cell st.count d → FrameBefore d.cell s.run.frame s.callers → AllBefore d.cell (Then (point.Cleared m)) → DeclaringBy Few (at (Then (point.Cleared m)) s.run.operands (in_env (piece.cleared d.cell d.cells s) s))
    clears m d h f lies =
        subst (λ (b : Bool). DeclaringBy Few (at (Then (point.Cleared m)) s.run.operands (in_env (if b then record s.env { frames = frame_changed s.run.frame (values_cleared d.cell d.cells nought) s.env.frames } else change s.env.exec.home (frames_changed s.env.exec.serial (frame_changed s.run.frame (values_cleared d.cell d.cells nought))) s.env) s))) (sym (exec_same s.env.exec)) (record {
          cell = st.cell;
          count = st.count;
          binder = st.binder;
          next = st.next;
          todo = st.todo;
          point = point.Cleared m;
          control = refl;
          binds = st.binds;
          holds = λ j l.
              let more = h.2 in
              subst (λ (k : ℕ). IsCount (slice_index_or (frame_at s.run.frame (frame_changed s.run.frame (values_cleared d.cell d.cells nought) s.env.frames)) (k + j) nought)) h.0 (frame_unset s.env.frames s.run.frame d.cell j d.cells (omega (arith, l, more)));
          frames = set_length s.env.frames s.run.frame (values_cleared d.cell d.cells nought (here s)) ∙ st.frames;
          frame = st.frame;
          behind = list_cleared Few s.run.frame d.cell d.cells s.env.frames st.todo lies.1.1.1 st.behind;
          callers = stack_cleared Few s.run.frame d.cell d.cells s.env.frames s.callers f st.callers;
          env = kept.like Few st.env refl refl;
        })

    -- its cell is loose
    unset : st.count ≡ 1 → AreUnset st.cell st.count s → IsUnset st.cell s
    unset q u =
        let first : st.cell + 0 ≡ st.cell = omega arith in
        subst (λ (k : ℕ). IsUnset k s) first (u 0 (omega (arith, q)))

    loose : (m k : ℕ) → m ≡ st.cell → m ≡ k → IsUnset st.cell s → k < LAST_ADDRESS → HoldsLoose (here s) (Slot k ∷ [])
    loose m k p q u l =
        let same : st.cell ≡ k = sym p ∙ q in
        subst (λ (a : ℕ). IsLoose (slice_index_or (here s) a nought)) (sym (near_address k (omega (arith, l)))) (count_loose (slice_index_or (here s) k nought) (subst (λ (c : ℕ). IsCount (slice_index_or (here s) c nought)) same u))

    -- so are those of an array
    elements_loose : (k n : ℕ) → st.cell ≡ k → n ≡ st.count → AreUnset st.cell st.count s → ElementsLoose (here s) k n
    elements_loose k n p q u near j l =
        subst (λ (a : ℕ). IsLoose (slice_index_or (here s) a nought)) (sym (address_of k n j near l)) (count_loose (slice_index_or (here s) (k + j) nought) (subst (λ (c : ℕ). IsCount (slice_index_or (here s) (c + j) nought)) p (u j (subst (λ (x : ℕ). j < x) q l))))

    -- the statement comes that binds it
    does : (b : Stmt) (ss : Stmts) → Held Few (here s) s.run.elements (piece.Do b ∷ (piece.Rest ss ∷ st.todo)) → CountedState Few (at (piece.Do b ∷ (piece.Rest ss ∷ st.todo)) s.run.operands s)
    does b ss h = record { frames = st.frames; stack = (st.frame, h, st.callers); env = st.env }

    processor : (line m : ℕ) (x : Expr) → m ≡ st.cell → IsUnset st.cell s → (ss : Stmts) → Joined (src.Then (src.Evaluate line (src.OfObject (src.Bind (src.Variable m) (src.OfObject (src.NewProcessor x))))) ss) → Held Few (here s) s.run.elements (piece.Do (src.Evaluate line (src.OfObject (src.Bind (src.Variable m) (src.OfObject (src.NewProcessor x))))) ∷ (piece.Rest ss ∷ st.todo))
    processor line m x q u src.Nil j = inl (inl (tt, st.behind))
    processor line m x q u (src.Then b rest) j = inl (inl (behind_stmt line (src.OfObject (src.Bind (src.Variable m) (src.OfObject (src.NewProcessor x)))) b j.0, st.behind))
    processor line m x q u (src.Scoped (src.Destroys (src.OfObject (src.EndCluster (src.Load (src.Variable k))))) rest) j = absurd j.0
    processor line m x q u (src.Scoped (src.Destroys (src.OfObject (src.EndProcessor (src.Load (src.Variable k))))) rest) j = inl (inr (tt, (tt, st.behind), loose m k q j.0 u))
    processor line m x q u (src.Scoped (src.Destroys (src.OfObject (src.EndOn r written (src.Load (src.Variable k))))) rest) j = absurd j.0
    processor line m x q u (src.Scoped (src.DestroysAll n e) rest) j = inl (inl (none_ends line n (src.OfObject (src.Bind (src.Variable m) (src.OfObject (src.NewProcessor x)))) e j.0, st.behind))
    processor line m x q u (src.Scoped c rest) j = inl (inl (tt, st.behind))
    processor line m x q u (src.Built c rest) j = inl (inl (tt, st.behind))

    object : (c r : ℕ) (w : Bool) (line m : ℕ) (args : Exprs) → m ≡ st.cell → IsUnset st.cell s → (ss : Stmts) → Joined (src.Then (src.Evaluate line (src.OfObject (src.MakeOn c r w (src.Variable m) args))) ss) → Held Few (here s) s.run.elements (piece.Do (src.Evaluate line (src.OfObject (src.MakeOn c r w (src.Variable m) args))) ∷ (piece.Rest ss ∷ st.todo))
    object c r w line m args q u src.Nil j = inl (inl (tt, st.behind))
    object c r w line m args q u (src.Then b rest) j = inl (inl (behind_stmt line (src.OfObject (src.MakeOn c r w (src.Variable m) args)) b j.0, st.behind))
    object c r w line m args q u (src.Scoped (src.Destroys (src.OfObject (src.EndCluster (src.Load (src.Variable k))))) rest) j = absurd j.0
    object c r w line m args q u (src.Scoped (src.Destroys (src.OfObject (src.EndProcessor (src.Load (src.Variable k))))) rest) j = absurd j.0
    object c r w line m args q u (src.Scoped (src.Destroys (src.OfObject (src.EndOn n written (src.Load (src.Variable k))))) rest) j = inl (inr (tt, (tt, st.behind), loose m k q j.0 u))
    object c r w line m args q u (src.Scoped (src.DestroysAll n e) rest) j = inl (inl (none_ends line n (src.OfObject (src.MakeOn c r w (src.Variable m) args)) e j.0, st.behind))
    object c r w line m args q u (src.Scoped d rest) j = inl (inl (tt, st.behind))
    object c r w line m args q u (src.Built d rest) j = inl (inl (tt, st.behind))

    -- an array is to be filled, of which the scope opens behind that
    fills : (line m : ℕ) (b d : Expr) → FillsArray st.cell st.count (src.Fill line m b d) → AreUnset st.cell st.count s → (k n : ℕ) (e : Expr) (rest : Stmts) → FillsArray k n (src.Fill line m b d) → EndsArray k e → Joined rest × Begins rest → GoodBy Few (at (piece.Do (src.Fill line m b d) ∷ (piece.Rest (src.Scoped (src.DestroysAll n e) rest) ∷ st.todo)) s.run.operands s)
    fills line m b d h u k n e rest f q j =
        let x = binder_of k n b f.1 in
        inr (inr (inr (record {
          array = record { cell = k; count = n; kind = x.0; destroys = d; line = line; ended = e; rest = rest; todo = st.todo };
          stage = fill.Does;
          control = ap (λ (y : Expr). piece.Do (src.Fill line m y d) ∷ (piece.Rest (src.Scoped (src.DestroysAll n e) rest) ∷ st.todo)) x.1 ∙ ap (λ (y : ℕ). piece.Do (src.Fill line y (binder x.0 (src.Element n src.Binding (src.Variable k) (src.OfObject src.Counted))) d) ∷ (piece.Rest (src.Scoped (src.DestroysAll n e) rest) ∷ st.todo)) f.0;
          ends = q;
          begins = j.1;
          loose = elements_loose k n (same_cell st.cell st.count k n b h.1 f.1) (sym f.0 ∙ h.0) u;
          there = λ near j l z. let f : ⊥ = omega (arith, z) in absurd f;
          missing = tt;
          finding = tt;
          frames = st.frames;
          frame = st.frame;
          behind = st.behind;
          callers = st.callers;
          env = st.env;
        })))

    plain : (b : Stmt) (ss : Stmts) → Begins ss → GoodBy Few (at (piece.Do b ∷ (piece.Rest ss ∷ st.todo)) s.run.operands s)
    plain b ss g = inl (does b ss (inl (inl (g, st.behind))))

    filling : (line m : ℕ) (b d : Expr) → FillsArray st.cell st.count (src.Fill line m b d) → AreUnset st.cell st.count s → (ss : Stmts) → Joined (src.Then (src.Fill line m b d) ss) → GoodBy Few (at (piece.Do (src.Fill line m b d) ∷ (piece.Rest ss ∷ st.todo)) s.run.operands s)
    filling line m b d h u src.Nil j = plain _ src.Nil tt
    filling line m b d h u (src.Then a rest) j = plain _ (src.Then a rest) (none_behind line m b d a j.0)
    filling line m b d h u (src.Scoped (src.Destroys (src.OfObject (src.EndCluster (src.Load (src.Variable k))))) rest) j = absurd j.0
    filling line m b d h u (src.Scoped (src.Destroys (src.OfObject (src.EndProcessor (src.Load (src.Variable k))))) rest) j = absurd j.0
    filling line m b d h u (src.Scoped (src.Destroys (src.OfObject (src.EndOn n written (src.Load (src.Variable k))))) rest) j = absurd j.0
    filling line m b d h u (src.Scoped (src.DestroysAll n (src.OfObject (src.EndCluster (src.Load (src.Element c src.Binding (src.Variable k) i))))) rest) j = fills line m b d h u k n (src.OfObject (src.EndCluster (src.Load (src.Element c src.Binding (src.Variable k) i)))) rest j.0 refl (j.1.1, j.1.0)
    filling line m b d h u (src.Scoped (src.DestroysAll n (src.OfObject (src.EndProcessor (src.Load (src.Element c src.Binding (src.Variable k) i))))) rest) j = fills line m b d h u k n (src.OfObject (src.EndProcessor (src.Load (src.Element c src.Binding (src.Variable k) i)))) rest j.0 refl (j.1.1, j.1.0)
    filling line m b d h u (src.Scoped (src.DestroysAll n (src.OfObject (src.EndOn r w (src.Load (src.Element c src.Binding (src.Variable k) i))))) rest) j = fills line m b d h u k n (src.OfObject (src.EndOn r w (src.Load (src.Element c src.Binding (src.Variable k) i)))) rest j.0 refl (j.1.1, j.1.0)
    filling line m b d h u (src.Scoped c rest) j = plain _ (src.Scoped c rest) tt
    filling line m b d h u (src.Built c rest) j = plain _ (src.Built c rest) tt

    reaches : (b : Stmt) → BindsAt st.cell st.count b → AreUnset st.cell st.count s → Joined (src.Then b st.next) → GoodStepBy Few (quiet.rest_step (src.Then b st.next) st.todo s)
    reaches (src.Evaluate line (src.OfObject (src.Bind (src.Variable m) (src.OfObject src.NewCluster)))) q u j =
        inr (inr (inl (record {
          cell = m;
          line = line;
          next = st.next;
          todo = st.todo;
          stage = way.Does;
          control = refl;
          follows = behind_bound m line st.next j;
          holds = subst (λ (k : ℕ). IsUnset k s) (sym q.0) (unset q.1 u);
          frames = st.frames;
          frame = st.frame;
          behind = st.behind;
          callers = st.callers;
          env = st.env;
        })))
    reaches (src.Evaluate line (src.OfObject (src.Bind (src.Variable m) (src.OfObject (src.NewProcessor x))))) q u j = inl (does _ st.next (processor line m x q.0 (unset q.1 u) st.next j))
    reaches (src.Evaluate line (src.OfObject (src.MakeOn c r w (src.Variable m) args))) q u j = inl (does _ st.next (object c r w line m args q.0 (unset q.1 u) st.next j))
    reaches (src.Fill line m b d) q u j = filling line m b d q u st.next j
    reaches b q u j = absurd q

    step : (g : Point) → PointHolds g st.cell st.count s → FairAt source (Then g) s → GoodStepBy Few (quiet.act_todo source (Then g) s)
    step (point.Declares m d) h f = inr (inl (next (point.Lists m d) s.run.operands h))
    step (point.Lists m d) h f =
        subst (λ v. GoodStepBy Few (piece.turns (piece.ClearNow d.cell d.cells ∷ quiet.starting d.cell v (piece.Variables [] ∷ (piece.Within m ∷ Then point.Reaches))) s)) (sym h.1) (inr (inl (next (point.Clears m d) s.run.operands h)))
    step (point.Clears m d) h f = inr (inl (clears m d h f.1 f.0))
    step (point.Cleared m) h f = inr (inl (next (point.Passes m) s.run.operands h))
    step (point.Passes m) h f = inr (inl (next point.Reaches s.run.operands h))
    step point.Reaches h f = reaches st.binder st.binds h f.0

    pub declaring : Fair source s → GoodStepBy Few (quiet.quiet source s)
    declaring f =
        subst (λ (l : List Todo). GoodStepBy Few (quiet.act_todo source l s)) (sym st.control) (step st.point st.holds (subst (λ (l : List Todo). FairAt source l s) st.control f))
