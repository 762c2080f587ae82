-- In every run of a program within its limits each step finds what keeps elements of arrays of mutex objects so: where the scopes of those open they hold what
-- is at home there.
use Rattle.std.proofs.Common.{◌≡◌, ℕ, ◌+◌, ◌*◌, ◌≤◌, ◌<◌, ◌⊎◌, inl, inr, Bool, true, false, List, [], ◌∷◌, length, Option, Some, None, refl, sym, ap, ◌∙◌, subst, arith}
use Rattle.std.specs.Prelude.{drop, nat_lt, slice_get, slice_index_or}
use Rattle.uc_tree.specs.Programs.{Program}
use Rattle.uc_tree.specs.Source as src
use Rattle.uc_tree.specs.Source.{Expr, CleanUp, Stmt, Stmts, Source, Routine}
use Rattle.uc_entry.specs.declared.entry.Options.{Options}
use Rattle.uc_acts.specs.Journal.{Journal, is_over}
use Rattle.uc_acts.specs.Known.{object_count}
use Rattle.uc_acts.specs.KernelRuns.{InRange}
use Rattle.uc_acts.specs.Queues.{cluster_count}
use Rattle.uc_machine.specs.declared.exec.Exec.{Exec}
use Rattle.uc_machine.specs.declared.exec.Owner.{Owner}
use Rattle.uc_machine.specs.declared.exec.Owner.TheVariants.{Frame, Fields}
use Rattle.uc_machine.specs.Executions.{others}
use Rattle.uc_machine.specs.Pieces as piece
use Rattle.uc_machine.specs.Pieces.{Link, Value, Number, Place, LAST_ADDRESS, address, nought, Todo, State, top, below, this_frame}
use Rattle.uc_machine.specs.Answering.{answered}
use Rattle.uc_meaning.specs.Runs.{World, Runs, drawn}
use Rattle.uc_resolve.specs.Resolve.{source_of}
use Rattle.uc_rules.specs.Breaks.{breaks_of}
use Rattle.uc_sound.specs.SoundFormed.{IsFormed}
use Rattle.uc_sound.specs.Tables.{table_of}
use Rattle.uc_typing.specs.States.{IsNumbered}
use Rattle.uc_typing.specs.Typing.{Cell, Obj, Row, DestroysAt, CleansAt}
use Rattle.uc_state_laws.specs.Addressed.{AddressedAt, Addressed}
use Rattle.uc_state_laws.specs.Clusters.{FillsArray, Follows}
use Rattle.uc_state_laws.specs.Counted.{params, params_at}
use Rattle.uc_state_laws.specs.Declaring as way
use Rattle.uc_state_laws.specs.Declaring.{IsCount, AreUnset, Point, point_todo, BindsAt, PointHolds}
use Rattle.uc_state_laws.specs.Filling as fill
use Rattle.uc_state_laws.specs.Filling.{Array, Kind, element_at, counted, binder, call, scope_todo, turn_todo, fill_todo, told_todo, reached}
use Rattle.uc_state_laws.specs.FillingStates.{place_at}
use Rattle.uc_state_laws.specs.Fitting.{RunFits}
use Rattle.uc_state_laws.specs.Layout.{Sized}
use Rattle.uc_state_laws.specs.Limits.{IsWithinLimits}
use Rattle.uc_state_laws.specs.NewClusters as opening
use Rattle.uc_state_laws.specs.NewClusters.{Stage, stage_todo, StageHoldsBy, IsScopeOf, GoodBy}
use Rattle.uc_state_laws.specs.Opening.{EndsElement, Opens, ScopeOpens, OpenStmts}
use Rattle.uc_state_laws.specs.Opens.{HasAddresses, RunMeets, LeadsMeet}
use Rattle.uc_state_laws.specs.RoomRuns.{Comes}
use Rattle.uc_state_laws.specs.Rooms.{Room, IsWithin, LiesIn}
use Rattle.uc_state_laws.specs.RoomStacks.{StackState, UpTo, SomeTo}
use Rattle.uc_state_laws.specs.There.{AllCounted, AtBound, Held, EndsArray, ElementsThere}
use Rattle.uc_state_laws.specs.ThereStates as there
use Rattle.uc_state_laws.specs.ThereStates.{IsAside, BuildsBare, FillsBare}
use Rattle.uc_state_laws.proofs.AddressWorlds.{law_addressed}
use Rattle.uc_state_laws.proofs.Filling.{address_of, same_cell, no_array}
use Rattle.uc_state_laws.proofs.Stacks.{up_to}
use Rattle.uc_state_laws.proofs.StackWalk as stacking
use Rattle.uc_state_laws.proofs.StackWorlds.{law_frame_runs}
use Rattle.uc_state_laws.proofs.Unreferring.{law_accepted}
use Rattle.uc_state_laws.proofs.ValueWorlds.{law_fair}
use Rattle.uc_place_laws.specs.AsideLaws.{makes_of, Puts, PutsAt}
use Rattle.uc_place_laws.specs.Asides.{OkNow, AsideState, IsNear}
use Rattle.uc_place_laws.specs.Placed.{Ok, PlacedState}
use Rattle.uc_place_laws.specs.Siting.{OpensAt, OpensAlone, MakesFor, SitedStmt}
use Rattle.uc_place_laws.proofs.AsideWorlds.{aside_in}
use Rattle.uc_place_laws.proofs.BindingWorlds.{placed_in}
use Rattle.uc_place_laws.proofs.OpenRuns.{law_opens, law_there}
use Rattle.uc_place_laws.proofs.PutsRuns.{law_runs as aside_runs}
use Rattle.uc_life_laws.specs.Things.{Few}
use Rattle.uc_life_laws.specs.LifeStates.{frame_at}
use Rattle.uc_life_laws.specs.Homes.{home_of}
use Rattle.uc_life_laws.specs.MadeObjects.{Binds, BindsAt as BoundAt}
use Rattle.uc_life_laws.proofs.Homes.{law_binds}
use Rattle.uc_putting_laws.specs.Putting.{IsHome}
use Rattle.uc_homed_ends.specs.ArrayHomes.{OfArray, OpensArray, FillsBy, Arrays, Each, BindsBehind, EachOrBinds, HoldsAt, IsFree, AreFree, ArrayState, Spares, ValueSpares}
use Rattle.uc_homed_ends.specs.ArrayLaws.{SparesAt, ArrayFinds, LawArrays}
use Rattle.uc_homed_ends.specs.Elements.{OpensElementsAt, OpensElements}
use Rattle.uc_homed_ends.proofs.ArrayCells.{same_index}
use Rattle.uc_homed_ends.proofs.ArrayLists.{counted_each, filled, stack_waits, Fills, own, callers_of}
use Rattle.uc_homed_ends.proofs.ArrayWorlds.{run_arrays, leads_arrays}
use Rattle.uc_homed_ends.proofs.BoundRuns.{run_meets, leads_meet, run_zip, leads_zip, is_then, first_of, not_stage, not_filling}

-- before a statement that fills an array its elements hold numbers

module _ (few : ℕ → Bool) (s : State) (a : Stmt) (ss : Stmts) (todo : List Todo) where
  abbrev next : List Todo
  next = piece.Rest (src.Then a ss) ∷ todo

  no_then : (l : List Todo) → is_then l ≡ false → next ≡ l → ⊥
  no_then l h q = let e : true ≡ false = ap is_then q ∙ h in absurd (cc)

  abbrev here : List Value
  here = frame_at s.run.frame s.env.frames

  reaches : (c m k n : ℕ) (a : Stmt) → BindsAt c m a → AreUnset c m s → FillsArray k n a → (j : ℕ) → j < n → IsCount (slice_index_or here (k + j) nought)
  reaches c m k n (src.Fill line l b d) i h f = λ j less.
      let cell : c ≡ k = same_cell c m k n b i.1 f.1 in
      let one : l ≡ m = i.0 in
      let two : l ≡ n = f.0 in
      subst (λ (z : ℕ). IsCount (slice_index_or here (z + j) nought)) cell (h j (omega (arith, one, two, less)))
  reaches c m k n a i h f = absurd f

  on_way : (g : Point) (c m k n : ℕ) (b : Stmt) (ends : Stmts) (behind : List Todo) → next ≡ point_todo g b ends behind → BindsAt c m b → PointHolds g c m s → FillsArray k n a → (j : ℕ) → j < n → IsCount (slice_index_or here (k + j) nought)
  on_way (way.Declares l d) c m k n b ends behind q i h f = absurd (no_then _ refl q)
  on_way (way.Lists l d) c m k n b ends behind q i h f = absurd (no_then _ refl q)
  on_way (way.Clears l d) c m k n b ends behind q i h f = absurd (no_then _ refl q)
  on_way (way.Cleared l) c m k n b ends behind q i h f = absurd (no_then _ refl q)
  on_way (way.Passes l) c m k n b ends behind q i h f = absurd (no_then _ refl q)
  on_way way.Reaches c m k n b ends behind q i h f =
      let same : a ≡ b = ap first_of q in
      reaches c m k n a (subst (BindsAt c m) (sym same) i) h f

  unset : (k n : ℕ) → s.run.control ≡ next → GoodBy few s → FillsArray k n a → (j : ℕ) → j < n → IsCount (slice_index_or here (k + j) nought)
  unset k n e (inl h) f = by h.stack.1
    where
      by : Held few here s.run.elements s.run.control → (j : ℕ) → j < n → IsCount (slice_index_or here (k + j) nought)
      by (inl x) = let y : AllCounted few here next = subst (AllCounted few here) e x in absurd (no_array k n a f y.0)
      by (inr (inl x)) = let y : AtBound few here next = subst (AtBound few here) e x.0 in absurd (no_array k n a f y.0)
      by (inr (inr x)) = absurd (no_then _ refl (sym e ∙ x.turns))
  unset k n e (inr (inl d)) f = on_way d.point d.cell d.count k n d.binder d.next d.todo (sym e ∙ d.control) d.binds d.holds f
  unset k n e (inr (inr (inl o))) f = absurd (no_then _ (not_stage o.stage o.cell o.line o.next o.todo s few o.holds) (sym e ∙ o.control))
  unset k n e (inr (inr (inr x))) f = absurd (no_then _ (not_filling x.stage x.array) (sym e ∙ x.control))

-- it makes them, where the scope behind it ends them

array_ends : (r : ℕ) (w : Bool) (m k : ℕ) (i : Expr) → EndsElement (src.OfObject (src.EndOn r w (src.Load (src.Element m src.Binding (src.Variable k) i)))) → ⊥
array_ends r w m k i h = let q : src.Element m src.Binding (src.Variable k) i ≡ src.Element h.count h.of (src.OfObject (src.OwnField h.shape h.number)) (src.OfObject src.Counted) = h.element in absurd (cc)

-- what destroys an element that stands is of what makes one
abbrev MadeFor : Stmt → Type 0
MadeFor (src.Fill line n b d) = MakesFor b d
MadeFor a = Unit {0}

made_for : (makes : ℕ → Bool) (Near : ℕ → Type 0) (Alone : Type 0) (made : Bool) (a : Stmt) → SitedStmt makes Near Alone made a → MadeFor a
made_for makes Near Alone made (src.Fill line n b d) h = h.2
made_for makes Near Alone made a h = tt

makes_them : (n k r : ℕ) (w : Bool) (x : Expr) (a : Stmt) → FillsArray k n a → Opens (Some a) (src.DestroysAll n (src.OfObject (src.EndOn r w x))) → MadeFor a → FillsBy a
makes_them n k r w x (src.Fill line m b d) f o h = subst (MakesFor b) o.1 h
makes_them n k r w x a f o h = absurd f

module _ (few : ℕ → Bool) (homes : Few) (s : State) (good : GoodBy few s) where
  abbrev Made : Stmt → ℕ → ℕ → Type 0
  Made a k n = FillsBy a × AreFree homes s.env.exec (frame_at s.run.frame s.env.frames) s.run.frame k n

  declared_by : (a : Stmt) (c : CleanUp) (rest : Stmts) (todo : List Todo) → s.run.control ≡ piece.Rest (src.Then a (src.Scoped c rest)) ∷ todo → Follows a (src.Scoped c rest) → ScopeOpens (Some a) c → MadeFor a → OfArray (Made a) c
  declared_by a (src.DestroysAll n (src.OfObject (src.EndOn r w (src.Load (src.Element m src.Binding (src.Variable k) i))))) rest todo e f (inl o) h =
      (makes_them n k r w (src.Load (src.Element m src.Binding (src.Variable k) i)) a f o h, λ near j l. inl (subst (λ (z : ℕ). IsCount (slice_index_or (frame_at s.run.frame s.env.frames) z nought)) (sym (address_of k n j near l)) (unset few s a _ todo k n e good f j l)))
  declared_by a (src.DestroysAll n (src.OfObject (src.EndOn r w (src.Load (src.Element m src.Binding (src.Variable k) i))))) rest todo e f (inr o) h = absurd (array_ends r w m k i o)
  declared_by a c rest todo e f o h = tt

  declared : (a : Stmt) (ss : Stmts) (todo : List Todo) → s.run.control ≡ piece.Rest (src.Then a ss) ∷ todo → Follows a ss → OpenStmts (Some a) ss → MadeFor a → OpensArray (Made a) ss
  declared a (src.Scoped c rest) todo e f o h = declared_by a c rest todo e f o.0 h
  declared a ss todo e f o h = tt

-- what is bound spares all elements

abbrev is_bind : List Todo → Bool
is_bind (piece.BindNow ∷ todo) = true
is_bind todo = false

abbrev is_made : List Todo → Bool
is_made (piece.BindMadeNow c r ∷ todo) = true
is_made todo = false

abbrev is_setting : List Todo → Bool
is_setting (piece.SetUpNow r ∷ todo) = true
is_setting todo = false

abbrev built_by : List Todo → ℕ
built_by (piece.BindMadeNow c r ∷ todo) = r
built_by todo = 0

-- what is to do behind an element, by what binds one
abbrev turn_with : Kind → Array → List Todo
turn_with k x = piece.DropNow ∷ (piece.MoreNow ∷ (piece.FillNow x.count (binder k (counted x)) x.destroys ∷ (piece.Within x.line ∷ scope_todo x)))

same_array : (k c : ℕ) (e : Expr) → EndsArray k e → EndsArray c e → k ≡ c
same_array k c (src.OfObject (src.EndCluster (src.Load (src.Element m src.Binding (src.Variable v) i)))) h g = sym h ∙ g
same_array k c (src.OfObject (src.EndProcessor (src.Load (src.Element m src.Binding (src.Variable v) i)))) h g = sym h ∙ g
same_array k c (src.OfObject (src.EndOn r w (src.Load (src.Element m src.Binding (src.Variable v) i)))) h g = sym h ∙ g
same_array k c e h g = absurd h

abbrev path_of : Value → List Link
path_of (Place o p) = p
path_of v = []

module _ (source : Source) (few : ℕ → Bool) (homes : Few) (s : State) (good : GoodBy few s) where
  abbrev values : List Value
  values = frame_at s.run.frame s.env.frames

  abbrev Spared : Value → ℕ → ℕ → ℕ → Type 0
  Spared w cell = Spares homes s.env.exec w cell s.run.frame

  -- a value at a place aside spares all, if those of the own to-do list do
  module _ (Own : (ℕ → ℕ → Type 0) → List Todo → Type 0) (w : Value) (todo : List Todo) where
    spares_at : (v : Value) → IsAside v todo s → ((o : Owner) (p : List Link) → v ≡ Place o p → Own (Spared w (address p)) todo) → ValueSpares homes Own w v s.run.frame todo s.callers s.env
    spares_at (Place (Frame n d) p) a f = (a.0, (λ e. f (Frame n d) p refl), stack_waits few homes s.env.exec w (address p) d s.env.frames s.callers (callers_of few s good) a.2)
    spares_at (Place (Fields o) p) a f = tt
    spares_at v a f = tt

  module _ (todo : List Todo) where
    -- elements are bound to what is no mutex object
    binds_behind : (S : ℕ → ℕ → Type 0) (x : Array) (k : Kind) → x.kind ≡ k → piece.BindNow ∷ todo ≡ told_todo k (turn_todo x) → Each S x.todo → BindsBehind S todo
    binds_behind S x fill.Cluster e q h = subst (BindsBehind S) (sym (ap others q)) (subst (λ k. BindsBehind S (turn_with k x)) (sym e) h)
    binds_behind S x (fill.Processor i) e q h = subst (BindsBehind S) (sym (ap others q)) (subst (λ k. BindsBehind S (turn_with k x)) (sym e) h)
    binds_behind S x (fill.Object c r w) e q h = let n : true ≡ false = ap is_bind q in absurd (cc)

    bound : s.run.control ≡ piece.BindNow ∷ todo → (S : ℕ → ℕ → Type 0) → EachOrBinds S todo
    bound e S = by (own few s piece.BindNow todo e refl good)
      where
        by : ((S : ℕ → ℕ → Type 0) → Each S todo) ⊎ Fills few s (piece.BindNow ∷ todo) → EachOrBinds S todo
        by (inl f) = inl (f S)
        by (inr x) = inr (binds_behind S x.array x.array.kind refl x.turns (counted_each few values S x.array.todo x.behind))

    -- the object at hand gets an execution
    no_setting : (r : ℕ) (k : Kind) (l : List Todo) → piece.SetUpNow r ∷ todo ≡ told_todo k l → ⊥
    no_setting r fill.Cluster l q = let n : true ≡ false = ap is_setting q in absurd (cc)
    no_setting r (fill.Processor i) l q = let n : true ≡ false = ap is_setting q in absurd (cc)
    no_setting r (fill.Object c m w) l q = let n : true ≡ false = ap is_setting q in absurd (cc)

    set_up : (r : ℕ) → s.run.control ≡ piece.SetUpNow r ∷ todo → (S : ℕ → ℕ → Type 0) → Each S todo
    set_up r e S = by (own few s (piece.SetUpNow r) todo e refl good)
      where
        by : ((S : ℕ → ℕ → Type 0) → Each S todo) ⊎ Fills few s (piece.SetUpNow r ∷ todo) → Each S todo
        by (inl f) = f S
        by (inr x) = absurd (no_setting r x.array.kind (turn_todo x.array) x.turns)

    -- a mutex object is bound to the element that is counted
    module _ (c r : ℕ) (e : s.run.control ≡ piece.BindMadeNow c r ∷ todo) (bare : FillsBare source todo) where
      none_given : (o : Option Routine) → ((q : Routine) → o ≡ Some q → q.params ≡ 0) → params_at o ≡ 0
      none_given None h = refl
      none_given (Some q) h = h q refl

      bare_call : (w : Bool) (q : ℕ) (x : Array) → FillsBare source (call w q ∷ turn_todo x) → BuildsBare source (binder x.kind (counted x))
      bare_call true q x h = h
      bare_call false q x h = h

      no_params : (x : Array) (k : Kind) → x.kind ≡ k → piece.BindMadeNow c r ∷ todo ≡ told_todo k (turn_todo x) → params source r ≡ 0
      no_params x fill.Cluster q t = let n : true ≡ false = ap is_made t in absurd (cc)
      no_params x (fill.Processor i) q t = let n : true ≡ false = ap is_made t in absurd (cc)
      no_params x (fill.Object b m w) q t =
          let same : r ≡ m = ap built_by t in
          let built : BuildsBare source (binder x.kind (counted x)) = bare_call w m x (subst (FillsBare source) (ap others t) bare) in
          none_given (slice_get source.routines r) (subst (λ n. (y : Routine) → slice_get source.routines n ≡ Some y → y.params ≡ 0) (sym same) (subst (λ k. BuildsBare source (binder k (counted x))) q built))

      call_each : (S : ℕ → ℕ → Type 0) (w : Bool) (q : ℕ) (l : List Todo) → Each S l → Each S (call w q ∷ l)
      call_each S true q l h = h
      call_each S false q l h = h

      behind : (S : ℕ → ℕ → Type 0) (x : Array) (k : Kind) → piece.BindMadeNow c r ∷ todo ≡ told_todo k (turn_todo x) → Each S (turn_todo x) → Each S todo
      behind S x fill.Cluster t h = let n : true ≡ false = ap is_made t in absurd (cc)
      behind S x (fill.Processor i) t h = let n : true ≡ false = ap is_made t in absurd (cc)
      behind S x (fill.Object b m w) t h = subst (Each S) (sym (ap others t)) (call_each S w m (turn_todo x) h)

      abbrev at : Value
      at = top (drop (params source r) (below s.run.operands))

      made : (w : Value) → IsHome homes w at → (o : Owner) (p : List Link) → at ≡ Place o p → Each (Spared w (address p)) todo
      made w h o p q = by (own few s (piece.BindMadeNow c r) todo e refl good)
        where
          by : ((S : ℕ → ℕ → Type 0) → Each S todo) ⊎ Fills few s (piece.BindMadeNow c r ∷ todo) → Each (Spared w (address p)) todo
          by (inl f) = f (Spared w (address p))
          by (inr x) =
              let y : Array = x.array in
              let none : params source r ≡ 0 = no_params y y.kind refl x.turns in
              let place : at ≡ place_at y.cell s = ap (λ (n : ℕ). top (drop n (below s.run.operands))) none ∙ x.place in
              let cell : address p ≡ address (element_at y.cell s.run.elements) = ap (λ v. address (path_of v)) (sym q ∙ place) in
              behind (Spared w (address p)) y y.kind x.turns (filled few values (Spared w (address p)) y x.behind (λ k ends near j l a. element k j near l ends (a ∙ cell) place))
            where
              element : (k j : ℕ) → k + x.array.count ≤ LAST_ADDRESS → j < x.array.count → EndsArray k x.array.ended → address (element_at k j) ≡ address (element_at x.array.cell s.run.elements) → at ≡ place_at x.array.cell s → IsHome homes w (Place (Frame s.env.exec s.run.frame) (element_at k j))
              element k j near l ends a place =
                  let same : x.array.cell ≡ k = same_array x.array.cell k x.array.ended x.ends ends in
                  let index : s.run.elements ≡ j = same_index k x.array.count j s.run.elements near l (a ∙ ap (λ (z : ℕ). address (element_at z s.run.elements)) same) in
                  subst (IsHome homes w) (place ∙ (ap (λ (z : ℕ). Place (Frame s.env.exec s.run.frame) (element_at z s.run.elements)) same ∙ ap (λ (z : ℕ). Place (Frame s.env.exec s.run.frame) (element_at k z)) index)) h

-- in runs

-- what a step finds but for homes
record Found (p : Program) (s : State) : Type 0 where
  few : ℕ → Bool
  good : GoodBy few s
  fair : there.Fair (source_of p) s
  puts : Puts (source_of p) s
  aside : AsideState (Sized p) (makes_of p) (source_of p) s
  placed : PlacedState (Sized p) (source_of p) s
  stack : StackState (Sized p) s
  addressed : Addressed s

module _ (p : Program) (formed : IsFormed p) (accepted : breaks_of p ≡ []) (within : IsWithinLimits p) (input : List ℕ) (opts : Options) (range : InRange opts) where
  found : (j : Journal) (w : World) (r : Runs (source_of p) input opts j w) → RunFits (source_of p) input opts j w r → is_over j ≡ false → (t : ℕ) (s : State) → Comes (source_of p) j w t s → Found p s
  found j w r fits on t s c = record {
    few = λ n. nat_lt n (cluster_count j);
    good = law_there.comes p formed accepted within input opts range j w r fits on t s c;
    fair = law_fair.fair p (source_of p) s stack (law_opens.comes p formed accepted within input opts range j w r fits on t s c);
    puts = aside_runs.comes p formed accepted input opts range j w r fits on t s c;
    aside = aside_in p formed accepted input opts range j w r fits on t s c;
    placed = placed_in p formed accepted input opts range j w r fits on t s c;
    stack = stack;
    addressed = law_addressed.comes p within input opts j w r t s c;
  }
    where
      stack : StackState (Sized p) s
      stack = (law_frame_runs p accepted input opts j w r).comes t s c

  module _ (few : Few) (homes : ℕ → Value) (many : ℕ) (same : (o : ℕ) → few.home o ≡ homes o) where
    finds : (s : State) → Found p s → Binds (source_of p) homes many s → ArrayFinds few (source_of p) s
    finds s k b = record { fair = k.fair; spares = by s.run.control refl k.fair k.puts b }
      where
        by : (l : List Todo) → s.run.control ≡ l → there.FairAt (source_of p) l s → PutsAt (source_of p) l s → BoundAt (source_of p) homes many l s → SparesAt few (source_of p) l s
        by (piece.BindNow ∷ todo) e f a b = spares_at (source_of p) k.few few s k.good EachOrBinds (top s.run.operands) todo (top (below s.run.operands)) a (λ o q x. bound (source_of p) k.few few s k.good todo e _)
        by (piece.BindMadeNow c r ∷ todo) e f a b =
            spares_at (source_of p) k.few few s k.good Each (top s.run.operands) todo (top (drop (params (source_of p) r) (below s.run.operands))) a (λ o q x. made (source_of p) k.few few s k.good todo c r e f.3 (top s.run.operands) (record { number = b.number; object = b.object; home = same b.number ∙ b.home }) o q x)
        by (piece.SetUpNow r ∷ todo) e f a b = λ w. spares_at (source_of p) k.few few s k.good Each w todo s.run.this a (λ o q x. set_up (source_of p) k.few few s k.good todo r e _)
        by (piece.Rest (src.Then a ss) ∷ todo) e f q b =
            let n = subst (Ok (Sized p) (source_of p) k.placed.run.marks) e k.placed.run.ok in
            let m = subst (OkNow (makes_of p) (source_of p) (IsNear (Sized p) s.run.frame s.callers) k.aside.run.made k.aside.run.marks) e k.aside.run.ok in
            declared k.few few s k.good a ss todo e f.0.0 n.0.1.1.1 (made_for (makes_of p) (OpensAt ss) (OpensAlone ss) k.aside.run.made a m.0.0.1.0)
        by l e f a b = tt

-- where a scope opens

abbrev is_scope : List Todo → Bool
is_scope (piece.Rest (src.Scoped c ss) ∷ todo) = true
is_scope todo = false

abbrev statements : List Todo → Stmts
statements (piece.Rest ss ∷ todo) = ss
statements todo = src.Nil

abbrev count_of : List Todo → ℕ
count_of (piece.Rest (src.Scoped (src.DestroysAll n e) rest) ∷ todo) = n
count_of todo = 0

abbrev ended_of : List Todo → Expr
ended_of (piece.Rest (src.Scoped (src.DestroysAll n e) rest) ∷ todo) = e
ended_of todo = src.Fail

scope_point : (g : Point) (b : Stmt) (ends : Stmts) (behind : List Todo) → is_scope (point_todo g b ends behind) ≡ false
scope_point (way.Declares l d) b ends behind = refl
scope_point (way.Lists l d) b ends behind = refl
scope_point (way.Clears l d) b ends behind = refl
scope_point (way.Cleared l) b ends behind = refl
scope_point (way.Passes l) b ends behind = refl
scope_point way.Reaches b ends behind = refl

scope_found : (x : Kind) (todo : List Todo) → is_scope (fill.found_todo x todo) ≡ false
scope_found fill.Cluster todo = refl
scope_found (fill.Processor i) todo = refl
scope_found (fill.Object c r true) todo = refl
scope_found (fill.Object c r false) todo = refl

scope_asking : (x : Kind) (todo : List Todo) → is_scope (fill.asking_todo x todo) ≡ false
scope_asking fill.Cluster todo = refl
scope_asking (fill.Processor i) todo = refl
scope_asking (fill.Object c r written) todo = refl

scope_going : (x : Kind) (todo : List Todo) → is_scope (fill.going_todo x todo) ≡ false
scope_going fill.Cluster todo = refl
scope_going (fill.Processor i) todo = refl
scope_going (fill.Object c r true) todo = refl
scope_going (fill.Object c r false) todo = refl

scope_told : (x : Kind) (todo : List Todo) → is_scope (fill.told_todo x todo) ≡ false
scope_told fill.Cluster todo = refl
scope_told (fill.Processor i) todo = refl
scope_told (fill.Object c r written) todo = refl

scope_bound : (x : Kind) (y : Array) → is_scope (fill.bound_todo x (fill.turn_todo y)) ≡ false
scope_bound fill.Cluster y = refl
scope_bound (fill.Processor i) y = refl
scope_bound (fill.Object c r true) y = refl
scope_bound (fill.Object c r false) y = refl

scope_filling : (g : fill.Stage) (x : Array) → (g ≡ fill.Opens) ⊎ (is_scope (fill_todo g x) ≡ false)
scope_filling fill.Does x = inr refl
scope_filling fill.Counts x = inr refl
scope_filling fill.Turns x = inr refl
scope_filling fill.Evals x = inr refl
scope_filling fill.Finds x = inr refl
scope_filling fill.Names x = inr refl
scope_filling fill.Indexes x = inr refl
scope_filling fill.Elements x = inr refl
scope_filling fill.Found x = inr (scope_found x.kind (fill.turn_todo x))
scope_filling fill.Nears x = inr (scope_going x.kind (fill.turn_todo x))
scope_filling fill.Asks x = inr (scope_asking x.kind (fill.turn_todo x))
scope_filling fill.Told x = inr (scope_told x.kind (fill.turn_todo x))
scope_filling fill.Bound x = inr (scope_bound x.kind x)
scope_filling fill.More x = inr refl
scope_filling fill.Passes x = inr refl
scope_filling fill.Opens x = inl refl

module _ (few : ℕ → Bool) (s : State) (n r m k : ℕ) (w : Bool) (i : Expr) (rest : Stmts) (todo : List Todo) where
  abbrev ending : Expr
  ending = src.OfObject (src.EndOn r w (src.Load (src.Element m src.Binding (src.Variable k) i)))

  abbrev scope : List Todo
  scope = piece.Rest (src.Scoped (src.DestroysAll n ending) rest) ∷ todo

  abbrev cells : List Value
  cells = frame_at s.run.frame s.env.frames

  no_scope : (l : List Todo) → is_scope l ≡ false → scope ≡ l → ⊥
  no_scope l h q = let e : true ≡ false = ap is_scope q ∙ h in absurd (cc)

  not_opening : (g : Stage) (c l : ℕ) (ss : Stmts) (behind : List Todo) → StageHoldsBy few g c ss s → scope ≡ stage_todo g c l ss behind → ⊥
  not_opening opening.Does c l ss behind h q = no_scope _ refl q
  not_opening opening.Binds c l ss behind h q = no_scope _ refl q
  not_opening opening.Places c l ss behind h q = no_scope _ refl q
  not_opening opening.Makes c l ss behind h q = no_scope _ refl q
  not_opening opening.Orders c l ss behind h q = no_scope _ refl q
  not_opening opening.Told c l ss behind h q = no_scope _ refl q
  not_opening opening.Bound c l ss behind h q = no_scope _ refl q
  not_opening opening.Leaves c l ss behind h q = no_scope _ refl q
  not_opening opening.Opens c l ss behind h q = subst (IsScopeOf c) (sym (ap statements q)) h.0

  -- all elements hold objects
  all_there : s.run.control ≡ scope → GoodBy few s → ElementsThere cells k n n
  all_there e (inl h) = by h.stack.1
    where
      by : Held few cells s.run.elements s.run.control → ElementsThere cells k n n
      by (inl x) = let y : AllCounted few cells scope = subst (AllCounted few cells) e x in absurd y.0
      by (inr (inl x)) = let y : AtBound few cells scope = subst (AtBound few cells) e x.0 in absurd y.0
      by (inr (inr x)) = absurd (no_scope _ refl (sym e ∙ x.turns))
  all_there e (inr (inl d)) = absurd (no_scope _ (scope_point d.point d.binder d.next d.todo) (sym e ∙ d.control))
  all_there e (inr (inr (inl o))) = absurd (not_opening o.stage o.cell o.line o.next o.todo o.holds (sym e ∙ o.control))
  all_there e (inr (inr (inr x))) = by (scope_filling x.stage x.array)
    where
      by : (x.stage ≡ fill.Opens) ⊎ (is_scope (fill_todo x.stage x.array) ≡ false) → ElementsThere cells k n n
      by (inl t) =
          let q : scope ≡ fill_todo fill.Opens x.array = sym e ∙ (x.control ∙ ap (λ g. fill_todo g x.array) t) in
          let many : n ≡ x.array.count = ap count_of q in
          let cell : x.array.cell ≡ k = same_array x.array.cell k ending (subst (EndsArray x.array.cell) (sym (ap ended_of q)) x.ends) refl in
          let there : ElementsThere cells x.array.cell x.array.count x.array.count = subst (λ g. ElementsThere cells x.array.cell x.array.count (reached g s.run.elements x.array.count)) t x.there in
          subst (λ (z : ℕ). ElementsThere cells z n n) cell (subst (λ (z : ℕ). ElementsThere cells x.array.cell z z) (sym many) there)
      by (inr f) = absurd (no_scope _ f (sym e ∙ x.control))

-- an array that is in scope lies where elements have addresses of their own
array_low : (p : Program) (low high n m k : ℕ) (i : Expr) → LiesIn (Sized p) low high n 1 (src.Element m src.Binding (src.Variable k) i) → k + n * 1 ≤ high
array_low p low high n m k (src.OfObject src.Counted) h = h.1.1
array_low p low high n m k i h = absurd h

is_set : (few : Few) (n : Exec) (q v : Value) → IsNumbered v → IsFree few n q v → IsHome few v q
is_set few n q v o (inr h) = h
is_set few n q (Number z) o (inl h) = absurd o
is_set few n q v o (inl h) = absurd h

module _ (p : Program) (few : Few) (s : State) (f : Found p s) (a : ArrayState few s) where
  each_clean : (c : CleanUp) (rest : Stmts) (todo : List Todo) → s.run.control ≡ piece.Rest (src.Scoped c rest) ∷ todo → OfArray (λ k n. (j : ℕ) → j < n → HoldsAt (frame_at s.run.frame s.env.frames) k j (λ v. IsHome few v (Place (this_frame s) (element_at k j)))) c
  each_clean (src.DestroysAll n (src.OfObject (src.EndOn r w (src.Load (src.Element m src.Binding (src.Variable k) i))))) rest todo e = λ j l.
      let x = subst (SomeTo (Sized p) (UpTo (length (frame_at s.run.frame s.env.frames)))) e (stacking.rooms (Sized p) s f.stack 0 s.run refl) in
      let room : Room = x.0 in
      let high : room.high ≤ length (frame_at s.run.frame s.env.frames) = up_to (Sized p) (length (frame_at s.run.frame s.env.frames)) room todo x.1.1 in
      let inner : Room = x.1.0.0 in
      let within : IsWithin room inner = x.1.0.1 in
      let cells = within.cells in
      let up = within.high in
      let lies : k + n * 1 ≤ inner.low = array_low p room.low inner.low n m k i x.1.0.2.0 in
      let short : HasAddresses s = subst (λ l. AddressedAt l s) e f.addressed in
      let near : k + n ≤ LAST_ADDRESS = omega (arith, high, cells, up, lies, short) in
      let free : Arrays (AreFree few s.env.exec (frame_at s.run.frame s.env.frames) s.run.frame) (piece.Rest (src.Scoped (src.DestroysAll n (src.OfObject (src.EndOn r w (src.Load (src.Element m src.Binding (src.Variable k) i))))) rest) ∷ todo) = subst (Arrays (AreFree few s.env.exec (frame_at s.run.frame s.env.frames) s.run.frame)) e a.stack.1 in
      is_set few s.env.exec (Place (this_frame s) (element_at k j)) (slice_index_or (frame_at s.run.frame s.env.frames) (address (element_at k j)) nought) (all_there f.few s n r m k w i rest todo e f.good near j l l) (free.0 near j l)
  each_clean c rest todo e = tt

  -- that of a type whose elements are mutex objects
  abbrev Elements : CleanUp → Type 0
  Elements c = OfArray (λ k n. (j : ℕ) → j < n → HoldsAt (frame_at s.run.frame s.env.frames) k j (λ v. IsHome few v (Place (this_frame s) (element_at k j)))) c

  ended_each : (k m n e : ℕ) (x : Expr) → Elements (src.DestroysAll n x) → DestroysAt (table_of p) (Cell (Obj e)) (src.Element m src.Binding (src.Variable k) (src.OfObject src.Counted)) x → Elements (src.DestroysAll n (src.OfObject (src.EndOn 0 false (src.Load (src.Element m src.Binding (src.Variable k) (src.OfObject src.Counted))))))
  ended_each k m n e (src.OfObject (src.EndOn r w (src.Load y))) h d = subst (λ (z : Expr). Elements (src.DestroysAll n (src.OfObject (src.EndOn 0 false (src.Load z))))) (sym d.0) (any_routine n r w y h)
    where
      any_routine : (n r : ℕ) (w : Bool) (y : Expr) → Elements (src.DestroysAll n (src.OfObject (src.EndOn r w (src.Load y)))) → Elements (src.DestroysAll n (src.OfObject (src.EndOn 0 false (src.Load y))))
      any_routine n r w (src.Element m src.Binding (src.Variable k) i) h = h
      any_routine n r w y h = tt
  ended_each k m n e x h d = absurd d

  cleans_each : (c : CleanUp) → Elements c → (k m e : ℕ) → CleansAt (table_of p) (Row m (Cell (Obj e))) (src.Variable k) c → (j : ℕ) → j < m → HoldsAt (frame_at s.run.frame s.env.frames) k j (λ v. IsHome few v (Place (this_frame s) (element_at k j)))
  cleans_each (src.DestroysAll n x) h k m e q = λ j l. ended_each k m n e x h q.1 j (subst (λ (z : ℕ). j < z) q.0 l)
  cleans_each c h k m e q = absurd q

  opens_each : OpensElements (table_of p) few s
  opens_each = by s.run.control refl
    where
      by : (l : List Todo) → s.run.control ≡ l → OpensElementsAt (table_of p) few l s
      by (piece.Rest (src.Scoped c rest) ∷ todo) e = λ k m x mutex q. cleans_each c (each_clean c rest todo e) k m x q
      by l e = tt

module _ (p : Program) (formed : IsFormed p) (accepted : breaks_of p ≡ []) (within : IsWithinLimits p) (few : Few) (input : List ℕ) (opts : Options) (range : InRange opts) {j : Journal} {w : World} (r : Runs (source_of p) input opts j w) (fits : RunFits (source_of p) input opts j w r) (same : (o : ℕ) → few.home o ≡ home_of (source_of p) input opts j w r o) where
  abbrev Told : State → Type 0
  Told s = Binds (source_of p) (home_of (source_of p) input opts j w r) (object_count j) s

  found_run : RunMeets (Found p) (source_of p) input opts j w r
  found_run = run_meets (Found p) (found p formed accepted within input opts range) r fits

  finds_run : RunMeets (ArrayFinds few (source_of p)) (source_of p) input opts j w r
  finds_run = run_zip (Found p) Told (ArrayFinds few (source_of p)) (finds p formed accepted within input opts range few (home_of (source_of p) input opts j w r) (object_count j) same) r found_run (law_binds.runs (source_of p) input opts j w r range fits)

  begins : there.SourceBegins (source_of p)
  begins = law_fair.begins p (source_of p) (law_accepted p accepted)

  arrays_run : RunMeets (OpensElements (table_of p) few) (source_of p) input opts j w r
  arrays_run = run_zip (Found p) (ArrayState few) (OpensElements (table_of p) few) (opens_each p few) r found_run (run_arrays few (source_of p) begins input opts range r fits finds_run).1

  arrays_leads : is_over j ≡ false → (t : ℕ) (s : State) (c : Comes (source_of p) j w t s) → OpensElements (table_of p) few s × LeadsMeet (OpensElements (table_of p) few) (source_of p) (answered (source_of p) c.given (drawn j w t)) s c.leads
  arrays_leads on t s c =
      let found_leads : LeadsMeet (Found p) (source_of p) (answered (source_of p) c.given (drawn j w t)) s c.leads = leads_meet (Found p) c.leads (λ v l. found p formed accepted within input opts range j w r fits on t v (record { given = c.given; processor = c.processor; runs = c.runs; told = c.told; leads = l })) in
      let finds_leads : LeadsMeet (ArrayFinds few (source_of p)) (source_of p) (answered (source_of p) c.given (drawn j w t)) s c.leads = leads_zip (Found p) Told (ArrayFinds few (source_of p)) (finds p formed accepted within input opts range few (home_of (source_of p) input opts j w r) (object_count j) same) c.leads found_leads (law_binds.leads (source_of p) input opts j w r range fits on t s c).0 in
      let b = leads_arrays few (source_of p) begins input opts range r fits finds_run on t s c finds_leads in
      (opens_each p few s (found p formed accepted within input opts range j w r fits on t s c) b.0, leads_zip (Found p) (ArrayState few) (OpensElements (table_of p) few) (opens_each p few) c.leads found_leads b.1)

pub law_arrays : LawArrays
law_arrays = record {
  runs = λ p formed accepted within few input opts range j w r fits same. arrays_run p formed accepted within few input opts range r fits same;
  leads = λ p formed accepted within few input opts range j w r fits same on t s c. arrays_leads p formed accepted within few input opts range r fits same on t s c;
}
