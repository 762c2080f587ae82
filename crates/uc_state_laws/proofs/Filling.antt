-- Steps while an array is filled whose elements are clusters, processors or mutex objects.
use Rattle.std.proofs.Common.{◌≡◌, ℕ, zero, suc, ◌+◌, ◌<◌, ◌≤◌, ◌⊎◌, inl, inr, pos, Bool, true, false, List, [], ◌∷◌, length, Option, Some, None, refl, sym, ap, ◌∙◌, subst, arith}
use Rattle.std.specs.Prelude.{◌*◌, min, nat_lt, slice_get, slice_index_or, if◌then◌else◌}
use Rattle.std.proofs.lemmas.Bool.{cases_lt, lt-ltb, ltb-true, ltb-false}
use Rattle.std.proofs.Math.Nat.{min-eq_left, min-le_left}
use Rattle.uc_tree.specs.Source as src
use Rattle.uc_tree.specs.Source.{Source, Expr, Stmt, Stmts, Routine}
use Rattle.uc_machine.specs.declared.exec.Owner.TheVariants.{Frame}
use Rattle.uc_machine.specs.Executions.{frame_changed, frames_changed, change, value_changed}
use Rattle.uc_machine.specs.Insides as inside
use Rattle.uc_machine.specs.Monitors as monitors
use Rattle.uc_machine.specs.Quiet as quiet
use Rattle.uc_machine.specs.Pieces as piece
use Rattle.uc_machine.specs.Pieces.{Link, Slot, At, Value, Number, Place, Running, Object, Nothing, Todo, State, Env, Step, LAST_ADDRESS, at, in_env, top, below, nought, address, stored, written, this_frame, variable_at}
use Rattle.uc_typing.specs.States.{IsNumbered}
use Rattle.uc_state_laws.specs.Clusters.{IsElementOf, BindsElement, FillsArray, PrecedesFill, Precedes, FillsNone, IsUnbound}
use Rattle.uc_state_laws.specs.There.{IsLoose, HoldsObject, IsBefore, IsThere, ArrayGiven, IsGiven, EachNext, EachCall, EndsArray, ElementsLoose, ElementsThere, AllCounted, FilledBy, frame_at}
use Rattle.uc_state_laws.specs.ThereStates.{CountedStack, CountedState, RoutineBegins, SourceBegins, BuildsBare, FillsBare, FairAt, Fair}
use Rattle.uc_state_laws.specs.Filling as fill
use Rattle.uc_state_laws.specs.Filling.{Kind, Array, Stage, element_at, counted, binder, call, again_todo, turn_todo, fill_todo, found_todo, asking_todo, going_todo, told_todo, bound_todo, reached}
use Rattle.uc_state_laws.specs.FillingStates.{place_at, AskingPlace, Finding, IsMissing, FillingBy, FillWaits}
use Rattle.uc_state_laws.specs.NewClusters.{GoodBy, GoodStepBy}
use Rattle.uc_state_laws.proofs.Cells.{either, each_of, of_each, set_at, cell_stored, loose_stored, numbered_stored}
use Rattle.uc_state_laws.proofs.ValueKeeping as kept
use Rattle.uc_state_laws.proofs.ValueKeeping.{Keeps}
use Rattle.uc_state_laws.proofs.ValueSteps as steps
use Rattle.uc_state_laws.proofs.ValueSteps.{exec_same, here}
use Rattle.uc_state_laws.proofs.NewClusters.{set_in, lift}

-- the address of an element before the last one
pub address_of : (k n j : ℕ) → k + n ≤ LAST_ADDRESS → j < n → address (element_at k j) ≡ k + j
address_of k n j near l =
    let first : min (0 + k) LAST_ADDRESS ≡ 0 + k = min-eq_left (omega (arith, near)) in
    let both : min (0 + k + j * 1) LAST_ADDRESS ≡ 0 + k + j * 1 = min-eq_left (omega (arith, near, l)) in
    let same : 0 + k + j * 1 ≡ k + j = omega arith in
    ap (λ (x : ℕ). min (x + j * 1) LAST_ADDRESS) first ∙ (both ∙ same)

-- statements

element_of : (k n : ℕ) (p : Expr) → IsElementOf k n p → p ≡ src.Element n src.Binding (src.Variable k) (src.OfObject src.Counted)
element_of k n (src.Element m src.Binding (src.Variable c) (src.OfObject src.Counted)) h =
    ap (λ (x : ℕ). src.Element m src.Binding (src.Variable x) (src.OfObject src.Counted)) h.0 ∙ ap (λ (x : ℕ). src.Element x src.Binding (src.Variable k) (src.OfObject src.Counted)) h.1
element_of k n p h = absurd h

-- what binds an element is of one of the kinds
pub binder_of : (k n : ℕ) (b : Expr) → BindsElement k n b → (x : Kind) × (b ≡ binder x (src.Element n src.Binding (src.Variable k) (src.OfObject src.Counted)))
binder_of k n (src.OfObject (src.Bind p (src.OfObject src.NewCluster))) h = (fill.Cluster, ap (binder fill.Cluster) (element_of k n p h))
binder_of k n (src.OfObject (src.Bind p (src.OfObject (src.NewProcessor (src.Literal i))))) h = (fill.Processor i, ap (binder (fill.Processor i)) (element_of k n p h))
binder_of k n (src.OfObject (src.MakeOn c r written p src.NoExprs)) h = (fill.Object c r written, ap (binder (fill.Object c r written)) (element_of k n p h))
binder_of k n b h = absurd h

same_element : (k n c m : ℕ) (p : Expr) → IsElementOf k n p → IsElementOf c m p → k ≡ c
same_element k n c m (src.Element l src.Binding (src.Variable x) (src.OfObject src.Counted)) h g = sym h.0 ∙ g.0
same_element k n c m p h g = absurd h

pub same_cell : (k n c m : ℕ) (b : Expr) → BindsElement k n b → BindsElement c m b → k ≡ c
same_cell k n c m (src.OfObject (src.Bind p (src.OfObject src.NewCluster))) h g = same_element k n c m p h g
same_cell k n c m (src.OfObject (src.Bind p (src.OfObject (src.NewProcessor (src.Literal i))))) h g = same_element k n c m p h g
same_cell k n c m (src.OfObject (src.MakeOn x r written p src.NoExprs)) h g = same_element k n c m p h g
same_cell k n c m b h g = absurd h

-- nothing that binds a variable stands right behind a statement that fills an array
none_fills : (line m : ℕ) (b d : Expr) (n : ℕ) (x : Expr) → PrecedesFill (src.Fill line m b d) n x → FillsNone x
none_fills line m b d n (src.OfObject (src.Bind (src.Element c src.Binding (src.Variable k) i) e)) h = h.0
none_fills line m b d n (src.OfObject (src.MakeOn c r written (src.Element l src.Binding (src.Variable k) i) args)) h = h.0
none_fills line m b d n x h = tt

pub none_behind : (line m : ℕ) (b d : Expr) (a : Stmt) → Precedes (src.Fill line m b d) a → IsUnbound a
none_behind line m b d (src.Evaluate l (src.OfObject (src.Bind (src.Variable k) (src.OfObject src.NewCluster)))) h = h
none_behind line m b d (src.Evaluate l (src.OfObject (src.Bind (src.Variable k) (src.OfObject (src.NewProcessor x))))) h = h
none_behind line m b d (src.Evaluate l (src.OfObject (src.MakeOn c r written (src.Variable k) args))) h = h
none_behind line m b d (src.Fill l n x e) h = none_fills line m b d n x h
none_behind line m b d a h = tt

-- what fills an array stands behind a declaration
bind_some : (k n : ℕ) (p e : Expr) → IsElementOf k n p → FillsNone (src.OfObject (src.Bind p e)) → ⊥
bind_some k n (src.Element m src.Binding (src.Variable c) i) e h u = u
bind_some k n p e h u = h

make_some : (k n c r : ℕ) (w : Bool) (p : Expr) → IsElementOf k n p → FillsNone (src.OfObject (src.MakeOn c r w p src.NoExprs)) → ⊥
make_some k n c r w (src.Element m src.Binding (src.Variable x) i) h u = u
make_some k n c r w p h u = h

binds_some : (k n : ℕ) (b : Expr) → BindsElement k n b → FillsNone b → ⊥
binds_some k n (src.OfObject (src.Bind p (src.OfObject src.NewCluster))) h u = bind_some k n p (src.OfObject src.NewCluster) h u
binds_some k n (src.OfObject (src.Bind p (src.OfObject (src.NewProcessor (src.Literal i))))) h u = bind_some k n p (src.OfObject (src.NewProcessor (src.Literal i))) h u
binds_some k n (src.OfObject (src.MakeOn c r w p src.NoExprs)) h u = make_some k n c r w p h u
binds_some k n b h u = h

pub no_array : (k n : ℕ) (a : Stmt) → FillsArray k n a → IsUnbound a → ⊥
no_array k n (src.Fill line m b d) h u = binds_some k n b h.1 u
no_array k n a h u = h

-- cells

value_numbered : (o : ℕ) (x : Value) → IsLoose x → IsNumbered (stored (Object o) x)
value_numbered o (Number n) h = tt
value_numbered o (Place w p) h = absurd h
value_numbered o (Running n) h = absurd h
value_numbered o (Object q) h = tt
value_numbered o Nothing h = tt

cell_numbered : (vs : List Value) (k o : ℕ) → k < length vs → IsLoose (slice_index_or vs k nought) → IsNumbered (slice_index_or (value_changed k (stored (Object o)) nought vs) k nought)
cell_numbered [] k o l h = let f : ⊥ = omega (arith, l) in absurd f
cell_numbered (x ∷ vs) zero o l h = value_numbered o x h
cell_numbered (x ∷ vs) (suc k) o l h = cell_numbered vs k o (omega (arith, l)) h

-- a scope that is given lies before the last address
given_near : (k n : ℕ) (e : Expr) → EndsArray k e → ArrayGiven n e → k + n ≤ LAST_ADDRESS
given_near k n (src.OfObject (src.EndCluster (src.Load (src.Element m src.Binding (src.Variable c) i)))) q h = subst (λ (x : ℕ). x + n ≤ LAST_ADDRESS) q h
given_near k n (src.OfObject (src.EndProcessor (src.Load (src.Element m src.Binding (src.Variable c) i)))) q h = subst (λ (x : ℕ). x + n ≤ LAST_ADDRESS) q h
given_near k n (src.OfObject (src.EndOn r written (src.Load (src.Element m src.Binding (src.Variable c) i)))) q h = subst (λ (x : ℕ). x + n ≤ LAST_ADDRESS) q h
given_near k n e q h = absurd q

-- the frame of the running activation once a place in it is written
here_written : (P : List Value → Type 0) (s : State) (p : List Link) (v : Value) → P (frame_at s.run.frame (frame_changed s.run.frame (value_changed (address p) (stored v) nought) s.env.frames)) → P (frame_at s.run.frame (written (Place (this_frame s) p) v s.env).frames)
here_written P s p v h =
    subst (λ (b : Bool). P (frame_at s.run.frame (if b then record s.env { frames = frame_changed s.run.frame (value_changed (address p) (stored v) nought) s.env.frames } else change s.env.exec.home (frames_changed s.env.exec.serial (frame_changed s.run.frame (value_changed (address p) (stored v) nought))) s.env).frames)) (sym (exec_same s.env.exec)) h

module _ (Few : ℕ → Bool) (source : Source) (known : SourceBegins source) where
  module _ (s : State) (st : FillingBy Few s) where
    abbrev x : Array
    x = st.array

    -- with nothing written
    next : (g : Stage) (l : List Todo) (vs : List Value) → l ≡ fill_todo g x → ElementsThere (here s) x.cell x.count (reached g s.run.elements x.count) → IsMissing g s.run.elements x.count → Finding g x (at l vs s) → FillingBy Few (at l vs s)
    next g l vs e t m f = record { array = x; stage = g; control = e; ends = st.ends; begins = st.begins; loose = st.loose; there = t; missing = m; finding = f; frames = st.frames; frame = st.frame; behind = st.behind; callers = st.callers; env = st.env }

    fills : (g : Stage) (l : List Todo) (vs : List Value) → l ≡ fill_todo g x → ElementsThere (here s) x.cell x.count (reached g s.run.elements x.count) → IsMissing g s.run.elements x.count → Finding g x (at l vs s) → GoodBy Few (at l vs s)
    fills g l vs e t m f = inr (inr (inr (next g l vs e t m f)))

    -- another number of elements is counted
    counts : (m : ℕ) → ElementsThere (here s) x.cell x.count m → GoodBy Few (at (again_todo x) s.run.operands (quiet.with_elements m s))
    counts m t = inr (inr (inr (record { array = x; stage = fill.Turns; control = refl; ends = st.ends; begins = st.begins; loose = st.loose; there = t; missing = tt; finding = tt; frames = st.frames; frame = st.frame; behind = st.behind; callers = st.callers; env = st.env })))

    -- the element that is counted is bound
    module _ (o : ℕ) (fits : (j : ℕ) → j < x.count → IsBefore (length (here s)) (element_at x.cell j)) (t : ElementsThere (here s) x.cell x.count s.run.elements) where
      abbrev place : List Link
      place = element_at x.cell s.run.elements

      abbrev changed : List Value
      changed = value_changed (address place) (stored (Object o)) nought (here s)

      abbrev after : Env
      after = written (place_at x.cell s) (Object o) s.env

      keeps : Keeps Few s.env after
      keeps = kept.written_keeps Few (place_at x.cell s) (Object o) tt s.env st.env

      -- what a write of an object keeps
      kept_here : (P : Value → Type 0) → ((v : Value) → P v → P (stored (Object o) v)) → (p : List Link) → P (slice_index_or (here s) (address p) nought) → P (slice_index_or (frame_at s.run.frame after.frames) (address p) nought)
      kept_here P f p h =
          here_written (λ vs. P (slice_index_or vs (address p) nought)) s place (Object o) (set_at (λ vs. P (slice_index_or vs (address p) nought)) s.env.frames s.run.frame s.run.frame changed (λ e. cell_stored P (Object o) f (here s) (address p) (address place) h) h)

      now_loose : ElementsLoose (frame_at s.run.frame after.frames) x.cell x.count
      now_loose near j l = kept_here IsLoose (λ v h. loose_stored (Object o) v tt h) (element_at x.cell j) (st.loose near j l)

      bound_there : s.run.elements < x.count → IsLoose (slice_index_or (here s) (address place) nought) → IsNumbered (slice_index_or (frame_at s.run.frame after.frames) (address place) nought)
      bound_there l h =
          let frames = st.frames in
          let frame = st.frame in
          here_written (λ vs. IsNumbered (slice_index_or vs (address place) nought)) s place (Object o) (set_in (λ vs. IsNumbered (slice_index_or vs (address place) nought)) s.env.frames s.run.frame changed (omega (arith, frames, frame)) (cell_numbered (here s) (address place) o (fits s.run.elements l) h))

      now_there : ElementsThere (frame_at s.run.frame after.frames) x.cell x.count (suc s.run.elements)
      now_there near j l f = by (cases_lt j s.run.elements)
        where
          by : (j < s.run.elements) ⊎ (s.run.elements ≤ j) → HoldsObject (frame_at s.run.frame after.frames) (element_at x.cell j)
          by (inl k) = kept_here IsNumbered (numbered_stored (Object o)) (element_at x.cell j) (t near j l k)
          by (inr k) =
              let same : s.run.elements ≡ j = omega (arith, k, f) in
              let less : s.run.elements < x.count = subst (λ (i : ℕ). i < x.count) (sym same) l in
              subst (λ (i : ℕ). HoldsObject (frame_at s.run.frame after.frames) (element_at x.cell i)) same (bound_there less (st.loose near s.run.elements less))

      bound : (vs : List Value) → FillingBy Few (at (bound_todo x.kind (turn_todo x)) vs (in_env after s))
      bound vs = record {
        array = x;
        stage = fill.Bound;
        control = refl;
        ends = st.ends;
        begins = st.begins;
        loose = now_loose;
        there = now_there;
        missing = tt;
        finding = tt;
        frames = keeps.frames ∙ st.frames;
        frame = st.frame;
        behind = keeps.lists s.run.frame x.todo st.behind;
        callers = keeps.stack s.callers st.callers;
        env = keeps.env;
      }

    -- so it is where that is found among the operands
    binds : (w v : Value) (l : List Todo) (vs : List Value) → l ≡ bound_todo x.kind (turn_todo x) → (o : ℕ) × (v ≡ Object o) → w ≡ place_at x.cell s → EachNext (IsBefore (length (here s))) (turn_todo x) → ElementsThere (here s) x.cell x.count s.run.elements → GoodBy Few (at l vs (in_env (written w v s.env) s))
    binds w v l vs e q p fits t =
        inr (inr (inr (subst (λ l. FillingBy Few (at l vs (in_env (written w v s.env) s))) (sym e) (subst (λ w. FillingBy Few (at (bound_todo x.kind (turn_todo x)) vs (in_env (written w v s.env) s))) (sym p) (subst (λ v. FillingBy Few (at (bound_todo x.kind (turn_todo x)) vs (in_env (written (place_at x.cell s) v s.env) s))) (sym q.1) (bound q.0 (each_of (IsBefore (length (here s))) x.cell x.count x.ended st.ends fits) t vs))))))

    turns : (b : Bool) → nat_lt s.run.elements x.count ≡ b → ElementsThere (here s) x.cell x.count s.run.elements → GoodStepBy Few (piece.turns (quiet.fill_todo b x.count (binder x.kind (counted x)) x.destroys (piece.Within x.line ∷ fill.scope_todo x)) s)
    turns true e t = fills fill.Evals _ s.run.operands refl t (ltb-true s.run.elements x.count e) tt
    turns false e t =
        let more : x.count ≤ s.run.elements = ltb-false s.run.elements x.count e in
        fills fill.Passes _ s.run.operands refl (λ near j l f. t near j l (omega (arith, l, more))) tt tt

    evals : (k : Kind) → x.kind ≡ k → IsMissing fill.Evals s.run.elements x.count → ElementsThere (here s) x.cell x.count s.run.elements → GoodStepBy Few (quiet.eval_step (binder k (counted x)) (turn_todo x) s)
    evals fill.Cluster q m t = fills fill.Finds _ s.run.operands (ap (λ k. piece.Eval (counted x) ∷ found_todo k (turn_todo x)) (sym q)) t m tt
    evals (fill.Processor i) q m t = fills fill.Finds _ s.run.operands (ap (λ k. piece.Eval (counted x) ∷ found_todo k (turn_todo x)) (sym q)) t m tt
    evals (fill.Object c r true) q m t = fills fill.Finds _ s.run.operands (ap (λ k. piece.Eval (counted x) ∷ found_todo k (turn_todo x)) (sym q)) t m tt
    evals (fill.Object c r false) q m t = fills fill.Finds _ s.run.operands (ap (λ k. piece.Eval (counted x) ∷ found_todo k (turn_todo x)) (sym q)) t m tt

    -- the place of the element
    elements : (v w : Value) (vs : List Value) → v ≡ Number (pos s.run.elements) → w ≡ variable_at x.cell s → s.run.elements < x.count → ElementsThere (here s) x.cell x.count s.run.elements → GoodStepBy Few (piece.element_step src.Binding (piece.index_in x.count (piece.number v)) (found_todo x.kind (turn_todo x)) w vs s)
    elements v w vs p q m t =
        subst (λ v. GoodStepBy Few (piece.element_step src.Binding (piece.index_in x.count (piece.number v)) (found_todo x.kind (turn_todo x)) w vs s)) (sym p) (subst (λ w. GoodStepBy Few (piece.element_step src.Binding (if nat_lt s.run.elements x.count then Some s.run.elements else None) (found_todo x.kind (turn_todo x)) w vs s)) (sym q) (subst (λ (b : Bool). GoodStepBy Few (piece.element_step src.Binding (if b then Some s.run.elements else None) (found_todo x.kind (turn_todo x)) (variable_at x.cell s) vs s)) (sym (lt-ltb s.run.elements x.count m)) (fills fill.Found _ _ refl t tt refl)))

    -- the request for an object, in another rest of the task
    asked : (k : Kind) → x.kind ≡ k → (vs : List Value) (e : Env) → e.frames ≡ s.env.frames → e.exec ≡ s.env.exec → e.hand ≡ s.env.hand → e.house ≡ s.env.house → top vs ≡ place_at x.cell s → ElementsThere (here s) x.cell x.count s.run.elements → FillWaits Few (at (told_todo k (turn_todo x)) vs (in_env e s))
    asked k q vs e f n h g p t o = record {
      array = x;
      stage = fill.Told;
      control = ap (λ k. told_todo k (turn_todo x)) (sym q);
      ends = st.ends;
      begins = st.begins;
      loose = subst (λ fs. ElementsLoose (frame_at s.run.frame fs) x.cell x.count) (sym f) st.loose;
      there = subst (λ fs. ElementsThere (frame_at s.run.frame fs) x.cell x.count s.run.elements) (sym f) t;
      missing = tt;
      finding = ((o, refl), p ∙ ap (λ n. Place (Frame n s.run.frame) (element_at x.cell s.run.elements)) (sym n));
      frames = ap length f ∙ st.frames;
      frame = st.frame;
      behind = subst (λ fs. AllCounted Few (frame_at s.run.frame fs) x.todo) (sym f) st.behind;
      callers = subst (λ fs. CountedStack Few fs s.callers) (sym f) st.callers;
      env = kept.like Few st.env h g;
    }

    makes : (c r : ℕ) (w : Bool) (q : Option Routine) → x.kind ≡ fill.Object c r w → top s.run.operands ≡ place_at x.cell s → ElementsThere (here s) x.cell x.count s.run.elements → GoodStepBy Few (monitors.make_step c r q (call w r ∷ turn_todo x) s)
    makes c r w None e p t = inr (inr (inr (tt, st.env)))
    makes c r w (Some q) e p t =
        either (GoodStepBy Few) (monitors.may_call q.written s) _ _ (inr (inr (inl (refl, asked (fill.Object c r w) e s.run.operands (inside.build_begun s.env) refl refl refl refl p t)))) (inr (inr (inr (tt, st.env))))

    asks : (k : Kind) → x.kind ≡ k → AskingPlace k (place_at x.cell s) s.run.operands → ElementsThere (here s) x.cell x.count s.run.elements → GoodStepBy Few (quiet.act_todo source (asking_todo k (turn_todo x)) s)
    asks fill.Cluster q p t = inr (inr (inl (refl, asked fill.Cluster q s.run.operands s.env refl refl refl refl p t)))
    asks (fill.Processor i) q p t = inr (inr (inl (refl, asked (fill.Processor i) q (below s.run.operands) s.env refl refl refl refl p t)))
    asks (fill.Object c r w) q p t = makes c r w (slice_get source.routines r) q p t

    founds : (k : Kind) → x.kind ≡ k → top s.run.operands ≡ place_at x.cell s → ElementsThere (here s) x.cell x.count s.run.elements → GoodStepBy Few (quiet.act_todo source (found_todo k (turn_todo x)) s)
    founds fill.Cluster q p t = fills fill.Asks _ s.run.operands (ap (λ k. asking_todo k (turn_todo x)) (sym q)) t tt (subst (λ k. AskingPlace k (place_at x.cell s) s.run.operands) (sym q) p)
    founds (fill.Processor i) q p t = fills fill.Nears _ s.run.operands (ap (λ k. going_todo k (turn_todo x)) (sym q)) t tt p
    founds (fill.Object c r true) q p t = fills fill.Nears _ s.run.operands (ap (λ k. going_todo k (turn_todo x)) (sym q)) t tt p
    founds (fill.Object c r false) q p t = fills fill.Asks _ s.run.operands (ap (λ k. asking_todo k (turn_todo x)) (sym q)) t tt (subst (λ k. AskingPlace k (place_at x.cell s) s.run.operands) (sym q) p)

    nears : (k : Kind) → x.kind ≡ k → top s.run.operands ≡ place_at x.cell s → ElementsThere (here s) x.cell x.count s.run.elements → GoodStepBy Few (quiet.act_todo source (going_todo k (turn_todo x)) s)
    nears fill.Cluster q p t = asks fill.Cluster q p t
    nears (fill.Processor i) q p t = fills fill.Asks _ _ (ap (λ k. asking_todo k (turn_todo x)) (sym q)) t tt (subst (λ k. AskingPlace k (place_at x.cell s) (Number i ∷ s.run.operands)) (sym q) p)
    nears (fill.Object c r true) q p t = fills fill.Asks _ s.run.operands (ap (λ k. asking_todo k (turn_todo x)) (sym q)) t tt (subst (λ k. AskingPlace k (place_at x.cell s) s.run.operands) (sym q) p)
    nears (fill.Object c r false) q p t = asks (fill.Object c r false) q p t

    -- a mutex object is bound, whose constructor has no parameters
    abbrev IsTold : Type 0
    IsTold = ((o : ℕ) × (top s.run.operands ≡ Object o)) × (top (below s.run.operands) ≡ place_at x.cell s)

    made_by : (n : ℕ) → n ≡ 0 → (l : List Todo) → l ≡ bound_todo x.kind (turn_todo x) → IsTold → EachNext (IsBefore (length (here s))) (turn_todo x) → ElementsThere (here s) x.cell x.count s.run.elements → GoodStepBy Few (monitors.bind_at n (top s.run.operands) (below s.run.operands) l s)
    made_by n z l e q fits t =
        subst (λ (n : ℕ). GoodStepBy Few (monitors.bind_at n (top s.run.operands) (below s.run.operands) l s)) (sym z) (binds (top (below s.run.operands)) (top s.run.operands) l _ e q.0 q.1 fits t)

    mades : (c r : ℕ) (w : Bool) (o : Option Routine) → ((q : Routine) → o ≡ Some q → q.params ≡ 0) → x.kind ≡ fill.Object c r w → IsTold → EachNext (IsBefore (length (here s))) (turn_todo x) → ElementsThere (here s) x.cell x.count s.run.elements → GoodStepBy Few (monitors.bind_step o (call w r ∷ turn_todo x) s)
    mades c r w None z e q fits t = inr (inr (inr (tt, st.env)))
    mades c r w (Some y) z e q fits t = made_by y.params (z y refl) (call w r ∷ turn_todo x) (ap (λ k. bound_todo k (turn_todo x)) (sym e)) q fits t

    call_fits : (w : Bool) (r : ℕ) (P : List Link → Type 0) → EachCall P (call w r ∷ turn_todo x) → EachNext P (turn_todo x)
    call_fits true r P h = h
    call_fits false r P h = h

    bare_fits : (w : Bool) (r : ℕ) → FillsBare source (call w r ∷ turn_todo x) → BuildsBare source (binder x.kind (counted x))
    bare_fits true r h = h
    bare_fits false r h = h

    bare : (c r : ℕ) (w : Bool) → x.kind ≡ fill.Object c r w → BuildsBare source (binder x.kind (counted x)) → (q : Routine) → slice_get source.routines r ≡ Some q → q.params ≡ 0
    bare c r w e h = subst (λ k. BuildsBare source (binder k (counted x))) e h

    tolds : (k : Kind) → x.kind ≡ k → IsTold → ElementsThere (here s) x.cell x.count s.run.elements → FairAt source (told_todo k (turn_todo x)) s → GoodStepBy Few (quiet.act_todo source (told_todo k (turn_todo x)) s)
    tolds fill.Cluster e q t f = binds (top (below s.run.operands)) (top s.run.operands) (turn_todo x) _ (ap (λ k. bound_todo k (turn_todo x)) (sym e)) q.0 q.1 f.3 t
    tolds (fill.Processor i) e q t f = binds (top (below s.run.operands)) (top s.run.operands) (turn_todo x) _ (ap (λ k. bound_todo k (turn_todo x)) (sym e)) q.0 q.1 f.3 t
    tolds (fill.Object c r w) e q t f =
        mades c r w (slice_get source.routines r) (bare c r w e (bare_fits w r f.3)) e q (call_fits w r (IsBefore (length (here s))) f.2) t

    -- the constructor is called, and the array waits for that
    waits : ElementsThere (here s) x.cell x.count (suc s.run.elements) → FilledBy Few (here s) s.run.elements (turn_todo x)
    waits t = record { array = x; turns = refl; ends = st.ends; begins = st.begins; loose = st.loose; there = t; behind = st.behind }

    waiting : ElementsThere (here s) x.cell x.count (suc s.run.elements) → CountedState Few (at (turn_todo x) s.run.operands s)
    waiting t = record { frames = st.frames; stack = (st.frame, inr (inr (waits t)), st.callers); env = st.env }

    called : (o : Option Routine) → RoutineBegins o → ElementsThere (here s) x.cell x.count (suc s.run.elements) → GoodStepBy Few (quiet.call_on_step o (turn_todo x) s)
    called None b t = inr (inr (inr (tt, st.env)))
    called (Some q) b t = lift Few (quiet.call_on_step (Some q) (turn_todo x) s) (steps.call_on Few (at (turn_todo x) s.run.operands s) (waiting t) (Some q) (turn_todo x) b (inr (inr (waits t))))

    called_unwritten : (o : Option Routine) → RoutineBegins o → ElementsThere (here s) x.cell x.count (suc s.run.elements) → GoodStepBy Few (quiet.call_unwritten_step o (turn_todo x) s)
    called_unwritten None b t = inr (inr (inr (tt, st.env)))
    called_unwritten (Some q) b t = lift Few (quiet.call_unwritten_step (Some q) (turn_todo x) s) (steps.call_unwritten Few (at (turn_todo x) s.run.operands s) (waiting t) (Some q) (turn_todo x) b (inr (inr (waits t))))

    calls : (r : ℕ) (w : Bool) → ElementsThere (here s) x.cell x.count (suc s.run.elements) → GoodStepBy Few (quiet.act_todo source (call w r ∷ turn_todo x) s)
    calls r true t = called (slice_get source.routines r) (known r) t
    calls r false t = called_unwritten (slice_get source.routines r) (known r) t

    bounds : (k : Kind) → x.kind ≡ k → ElementsThere (here s) x.cell x.count (suc s.run.elements) → GoodStepBy Few (quiet.act_todo source (bound_todo k (turn_todo x)) s)
    bounds fill.Cluster e t = fills fill.More _ (below s.run.operands) refl t tt tt
    bounds (fill.Processor i) e t = fills fill.More _ (below s.run.operands) refl t tt tt
    bounds (fill.Object c r w) e t = calls r w t

    -- the scope opens
    opens : ElementsThere (here s) x.cell x.count x.count → ((IsGiven (src.DestroysAll x.count x.ended) → ⊥) → IsThere (here s) (src.DestroysAll x.count x.ended)) → IsThere (here s) (src.DestroysAll x.count x.ended)
    opens t f = by (cases_lt LAST_ADDRESS (x.cell + x.count))
      where
        by : (LAST_ADDRESS < x.cell + x.count) ⊎ (x.cell + x.count ≤ LAST_ADDRESS) → IsThere (here s) (src.DestroysAll x.count x.ended)
        by (inl l) = f (λ g. let near = given_near x.cell x.count x.ended st.ends g in omega (arith, l, near))
        by (inr near) = of_each (HoldsObject (here s)) x.cell x.count x.ended st.ends (λ j l. t near j l l)

    step : (g : Stage) → ElementsThere (here s) x.cell x.count (reached g s.run.elements x.count) → IsMissing g s.run.elements x.count → Finding g x s → FairAt source (fill_todo g x) s → GoodStepBy Few (quiet.act_todo source (fill_todo g x) s)
    step fill.Does t m p f = fills fill.Counts _ s.run.operands refl t tt tt
    step fill.Counts t m p f = counts 0 t
    step fill.Turns t m p f = turns (nat_lt s.run.elements x.count) refl t
    step fill.Evals t m p f = evals x.kind refl m t
    step fill.Finds t m p f = fills fill.Names _ s.run.operands refl t m tt
    step fill.Names t m p f = fills fill.Indexes _ _ refl t m refl
    step fill.Indexes t m p f = fills fill.Elements _ _ refl t m (refl, p)
    step fill.Elements t m p f = elements (top s.run.operands) (top (below s.run.operands)) (below (below s.run.operands)) p.0 p.1 m t
    step fill.Found t m p f = founds x.kind refl p t
    step fill.Nears t m p f = nears x.kind refl p t
    step fill.Asks t m p f = asks x.kind refl p t
    step fill.Told t m p f = tolds x.kind refl p t f
    step fill.Bound t m p f = bounds x.kind refl t
    step fill.More t m p f =
        let less : min (s.run.elements + 1) quiet.MOST_ELEMENTS ≤ s.run.elements + 1 = min-le_left (s.run.elements + 1) quiet.MOST_ELEMENTS in
        counts (min (s.run.elements + 1) quiet.MOST_ELEMENTS) (λ near j l k. t near j l (omega (arith, k, less)))
    step fill.Passes t m p f = fills fill.Opens _ s.run.operands refl t tt tt
    step fill.Opens t m p f =
        inl (record { frames = st.frames; stack = (st.frame, inl (st.begins, ((opens t f.1, tt), st.behind)), st.callers); env = st.env })

    pub filling : Fair source s → GoodStepBy Few (quiet.quiet source s)
    filling f =
        subst (λ (l : List Todo). GoodStepBy Few (quiet.act_todo source l s)) (sym st.control) (step st.stage st.there st.missing st.finding (subst (λ (l : List Todo). FairAt source l s) st.control f))

  -- where an array waits for its constructor no more, the element is counted
  pub counting : (s : State) → CountedState Few s → FilledBy Few (here s) s.run.elements s.run.control → GoodStepBy Few (quiet.quiet source s)
  counting s st h =
      subst (λ (l : List Todo). GoodStepBy Few (quiet.act_todo source l s)) (sym h.turns) (inr (inr (inr (record {
        array = h.array;
        stage = fill.More;
        control = refl;
        ends = h.ends;
        begins = h.begins;
        loose = h.loose;
        there = h.there;
        missing = tt;
        finding = tt;
        frames = st.frames;
        frame = st.stack.0;
        behind = h.behind;
        callers = st.stack.2;
        env = st.env;
      }))))
