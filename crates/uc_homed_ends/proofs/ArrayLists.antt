-- Where the scope of an array of mutex objects that is a variable stands among what is to do: behind what fills it, in no activation but one that does that or
-- waits for what builds an element.
use Rattle.std.proofs.Common.{◌≡◌, ℕ, ◌+◌, ◌<◌, ◌⊎◌, inl, inr, Bool, true, false, List, [], ◌∷◌, refl, sym, ap, ◌∙◌, subst, arith}
use Rattle.uc_tree.specs.Source as src
use Rattle.uc_tree.specs.Source.{Expr, CleanUp, Stmt, Stmts}
use Rattle.uc_machine.specs.declared.exec.Exec.{Exec}
use Rattle.uc_machine.specs.Executions.{others}
use Rattle.uc_machine.specs.Pieces as piece
use Rattle.uc_machine.specs.Pieces.{Value, LAST_ADDRESS, address, Todo, Sort, Active, State, top, below}
use Rattle.uc_state_laws.specs.Clusters.{Begins}
use Rattle.uc_state_laws.specs.Declaring as way
use Rattle.uc_state_laws.specs.Declaring.{Point, point_todo}
use Rattle.uc_state_laws.specs.Filling as fill
use Rattle.uc_state_laws.specs.Filling.{Array, Kind, element_at, turn_todo, fill_todo}
use Rattle.uc_state_laws.specs.FillingStates.{place_at, Finding}
use Rattle.uc_state_laws.specs.NewClusters as opening
use Rattle.uc_state_laws.specs.NewClusters.{Stage, stage_todo, IsScopeOf, GoodBy}
use Rattle.uc_state_laws.specs.There.{MayBegin, AllCounted, AtRest, AtDrop, AtCall, AllLeft, AtBound, Held, LeftBy, EachNext, EndsArray, OfEach}
use Rattle.uc_state_laws.specs.ThereStates.{CountedStack, StackAside}
use Rattle.uc_state_laws.proofs.Cells.{each_of}
use Rattle.uc_state_laws.proofs.Filling.{address_of}
use Rattle.uc_life_laws.specs.Things.{Few}
use Rattle.uc_life_laws.specs.LifeStates.{frame_at}
use Rattle.uc_homed_ends.specs.ArrayHomes.{OfArray, OpensArray, SkipBy, Each, EachLeft, Spares, StackSpares}
use Rattle.uc_homed_ends.proofs.ArrayCells.{begins_none}

-- lists in which all is counted have no such scope

may_clean : (S : ℕ → ℕ → Type 0) (c : CleanUp) (rest : Stmts) → MayBegin (src.Scoped c rest) → OfArray S c
may_clean S (src.DestroysAll n (src.OfObject (src.EndOn r written (src.Load (src.Element m src.Binding (src.Variable k) i))))) rest h = absurd h
may_clean S c rest h = tt

may_begin : (S : ℕ → ℕ → Type 0) (ss : Stmts) → MayBegin ss → OpensArray S ss
may_begin S (src.Scoped c rest) h = may_clean S c rest h
may_begin S ss h = tt

module _ (few : ℕ → Bool) (vs : List Value) (S : ℕ → ℕ → Type 0) where
  skip_by : (k : Sort) (left all skipped each : Type 0) → (left → skipped) → (all → each) → LeftBy few vs k left all → SkipBy k skipped each
  skip_by piece.Simple left all skipped each f g h = f h
  skip_by (piece.IsLoop order t x b) left all skipped each f g h = g h.1
  skip_by piece.IsWhole left all skipped each f g h = g h.1
  skip_by (piece.IsClean c) left all skipped each f g h = g h.1
  skip_by (piece.IsFill m b d) left all skipped each f g h = f h
  skip_by (piece.IsSweep x) left all skipped each f g h = g h.1
  skip_by (piece.IsPart c) left all skipped each f g h = g h.1
  skip_by (piece.IsGuard hs) left all skipped each f g h = g h.1
  skip_by piece.IsFinish left all skipped each f g h = g h.1
  skip_by piece.IsFinishCoroutine left all skipped each f g h = g h.1

  mutual
    pub counted_each : (todo : List Todo) → AllCounted few vs todo → Each S todo
    counted_each [] h = tt
    counted_each (piece.Eval e ∷ todo) (inl h) = counted_each todo h
    counted_each (piece.Eval e ∷ todo) (inr h) = dropped todo h.1
    counted_each (piece.Do a ∷ todo) (inl h) = counted_each todo h
    counted_each (piece.Do a ∷ todo) (inr h) = rested todo h.1
    counted_each (piece.BindNow ∷ todo) (inl h) = counted_each todo h
    counted_each (piece.BindNow ∷ todo) (inr h) = dropped todo h.0
    counted_each (piece.MakeNow c r ∷ todo) (inl h) = counted_each todo h
    counted_each (piece.MakeNow c r ∷ todo) (inr h) = called todo h.0
    counted_each (piece.BindMadeNow c r ∷ todo) (inl h) = counted_each todo h
    counted_each (piece.BindMadeNow c r ∷ todo) (inr h) = called todo h.0
    counted_each (piece.Rest ss ∷ todo) h = (begins_none S ss h.0, counted_each todo h.1)
    counted_each (piece.Exit w ∷ todo) h = left todo h
    counted_each (piece.Unwind ∷ todo) h = left todo h
    counted_each (p ∷ todo) h = counted_each todo h.1

    rested : (todo : List Todo) → AtRest few vs todo → Each S todo
    rested (piece.Rest ss ∷ todo) h = (may_begin S ss h.0, counted_each todo h.1)
    rested todo h = absurd h

    dropped : (todo : List Todo) → AtDrop few vs todo → Each S todo
    dropped (piece.DropNow ∷ (piece.Within line ∷ todo)) h = rested todo h
    dropped todo h = absurd h

    called : (todo : List Todo) → AtCall few vs todo → Each S todo
    called (piece.CallOnNow r ∷ todo) h = dropped todo h
    called (piece.CallUnwrittenNow r ∷ todo) h = dropped todo h
    called todo h = absurd h

    left : (todo : List Todo) → AllLeft few vs todo → EachLeft S todo
    left [] h = tt
    left (p ∷ todo) h = skip_by (piece.sort p) (AllLeft few vs todo) (AllCounted few vs todo) (EachLeft S todo) (Each S todo) (left todo) (counted_each todo) h

  bound : (todo : List Todo) → AtBound few vs todo → Each S todo
  bound (piece.Rest ss ∷ todo) h = (may_begin S ss h.0, counted_each todo h.1)
  bound (piece.Within line ∷ todo) h = rested todo h
  bound (piece.DropNow ∷ (piece.Within line ∷ todo)) h = rested todo h
  bound (piece.CallOnNow r ∷ todo) h = dropped todo h
  bound (piece.CallUnwrittenNow r ∷ todo) h = dropped todo h
  bound todo h = absurd h

  -- the array that is filled, and none behind it
  of_ended : (n : ℕ) (e : Expr) → ((k : ℕ) → EndsArray k e → S k n) → OfArray S (src.DestroysAll n e)
  of_ended n (src.OfObject (src.EndOn r written (src.Load (src.Element m src.Binding (src.Variable k) i)))) f = f k refl
  of_ended n e f = tt

  pub filled : (x : Array) → AllCounted few vs x.todo → ((k : ℕ) → EndsArray k x.ended → S k x.count) → Each S (turn_todo x)
  filled x h f = (of_ended x.count x.ended f, counted_each x.todo h)

-- activations that wait

module _ (few : ℕ → Bool) (homes : Few) (n : Exec) (w : Value) (cell : ℕ) where
  -- elements that lie before the last address lie aside
  aside : (f k m : ℕ) (e : Expr) → EndsArray k e → OfEach (λ p. address p < LAST_ADDRESS → address p ≡ cell → ⊥) (src.DestroysAll m e) → Spares homes n w cell f k m
  aside f k m e q h = λ near j l c.
      let one : address (element_at k j) ≡ k + j = address_of k m j near l in
      absurd (each_of (λ p. address p < LAST_ADDRESS → address p ≡ cell → ⊥) k m e q h j l (omega (arith, one, near, l)) c)

  waits : (f elements : ℕ) (vs : List Value) (todo : List Todo) → Held few vs elements todo → EachNext (λ p. address p < LAST_ADDRESS → address p ≡ cell → ⊥) todo → Each (Spares homes n w cell f) todo
  waits f elements vs todo (inl h) q = counted_each few vs (Spares homes n w cell f) todo h
  waits f elements vs todo (inr (inl h)) q = bound few vs (Spares homes n w cell f) todo h.0
  waits f elements vs todo (inr (inr h)) q =
      let x : Array = h.array in
      let next : EachNext (λ p. address p < LAST_ADDRESS → address p ≡ cell → ⊥) (turn_todo x) = subst (EachNext (λ p. address p < LAST_ADDRESS → address p ≡ cell → ⊥)) h.turns q in
      subst (Each (Spares homes n w cell f)) (sym h.turns) (filled few vs (Spares homes n w cell f) x h.behind (λ k e. aside f k x.count x.ended e next))

  pub stack_waits : (d : ℕ) (fs : List (List Value)) (cs : List Active) → CountedStack few fs cs → StackAside cell d cs → StackSpares homes n w cell d cs
  stack_waits d fs [] h q = tt
  stack_waits d fs (a ∷ older) h q =
      ((λ e. waits a.frame a.elements (frame_at a.frame fs) a.control h.1 (q.0 e).1), stack_waits d fs older h.2 q.1)

-- who binds something next

abbrev binds : List Todo → Bool
binds (piece.BindNow ∷ todo) = true
binds (piece.BindMadeNow c r ∷ todo) = true
binds (piece.SetUpNow r ∷ todo) = true
binds todo = false

point_binds : (g : Point) (b : Stmt) (ends : Stmts) (behind : List Todo) → binds (point_todo g b ends behind) ≡ false
point_binds (way.Declares l d) b ends behind = refl
point_binds (way.Lists l d) b ends behind = refl
point_binds (way.Clears l d) b ends behind = refl
point_binds (way.Cleared l) b ends behind = refl
point_binds (way.Passes l) b ends behind = refl
point_binds way.Reaches b ends behind = refl

found_binds : (x : Kind) (todo : List Todo) → binds (fill.found_todo x todo) ≡ false
found_binds fill.Cluster todo = refl
found_binds (fill.Processor i) todo = refl
found_binds (fill.Object c r true) todo = refl
found_binds (fill.Object c r false) todo = refl

asking_binds : (x : Kind) (todo : List Todo) → binds (fill.asking_todo x todo) ≡ false
asking_binds fill.Cluster todo = refl
asking_binds (fill.Processor i) todo = refl
asking_binds (fill.Object c r written) todo = refl

going_binds : (x : Kind) (todo : List Todo) → binds (fill.going_todo x todo) ≡ false
going_binds fill.Cluster todo = refl
going_binds (fill.Processor i) todo = refl
going_binds (fill.Object c r true) todo = refl
going_binds (fill.Object c r false) todo = refl

bound_binds : (x : Kind) (y : Array) → binds (fill.bound_todo x (fill.turn_todo y)) ≡ false
bound_binds fill.Cluster y = refl
bound_binds (fill.Processor i) y = refl
bound_binds (fill.Object c r true) y = refl
bound_binds (fill.Object c r false) y = refl

filling_binds : (g : fill.Stage) (x : Array) → (g ≡ fill.Told) ⊎ (binds (fill_todo g x) ≡ false)
filling_binds fill.Does x = inr refl
filling_binds fill.Counts x = inr refl
filling_binds fill.Turns x = inr refl
filling_binds fill.Evals x = inr refl
filling_binds fill.Finds x = inr refl
filling_binds fill.Names x = inr refl
filling_binds fill.Indexes x = inr refl
filling_binds fill.Elements x = inr refl
filling_binds fill.Found x = inr (found_binds x.kind (fill.turn_todo x))
filling_binds fill.Nears x = inr (going_binds x.kind (fill.turn_todo x))
filling_binds fill.Asks x = inr (asking_binds x.kind (fill.turn_todo x))
filling_binds fill.Told x = inl refl
filling_binds fill.Bound x = inr (bound_binds x.kind x)
filling_binds fill.More x = inr refl
filling_binds fill.Passes x = inr refl
filling_binds fill.Opens x = inr refl

-- behind what binds no such scope stands, or an element is bound of an array that is filled
pub record Fills (few : ℕ → Bool) (s : State) (control : List Todo) : Type 0 where
  pub array : Array
  pub turns : control ≡ fill_todo fill.Told array
  pub ends : EndsArray array.cell array.ended
  pub place : top (below s.run.operands) ≡ place_at array.cell s
  pub behind : AllCounted few (frame_at s.run.frame s.env.frames) array.todo

module _ (few : ℕ → Bool) (s : State) (p : Todo) (todo : List Todo) (e : s.run.control ≡ p ∷ todo) (b : binds (p ∷ todo) ≡ true) where
  no_binds : (l : List Todo) → binds l ≡ false → p ∷ todo ≡ l → ⊥
  no_binds l h q = let c : true ≡ false = sym b ∙ (ap binds q ∙ h) in absurd (cc)

  tail : (S : ℕ → ℕ → Type 0) (q : Todo) → binds (q ∷ todo) ≡ true → Each S (q ∷ todo) → Each S todo
  tail S piece.BindNow c h = h
  tail S (piece.BindMadeNow k r) c h = h
  tail S (piece.SetUpNow r) c h = h
  tail S q c h = let n : true ≡ false = sym c in absurd (cc)

  abbrev here : List Value
  here = frame_at s.run.frame s.env.frames

  -- of a variable that is a cluster
  opened : (S : ℕ → ℕ → Type 0) (g : Stage) (k l : ℕ) (ss : Stmts) (behind : List Todo) → (Begins ss ⊎ IsScopeOf k ss) → AllCounted few here behind → p ∷ todo ≡ stage_todo g k l ss behind → Each S todo
  opened S opening.Does k l ss behind f h q = absurd (no_binds _ refl q)
  opened S opening.Binds k l ss behind f h q = absurd (no_binds _ refl q)
  opened S opening.Places k l ss behind f h q = absurd (no_binds _ refl q)
  opened S opening.Makes k l ss behind f h q = absurd (no_binds _ refl q)
  opened S opening.Orders k l ss behind f h q = absurd (no_binds _ refl q)
  opened S opening.Told k l ss behind f h q = subst (Each S) (sym (ap others q)) (scope ss f, counted_each few here S behind h)
    where
      clean : (c : CleanUp) (rest : Stmts) → IsScopeOf k (src.Scoped c rest) → OfArray S c
      clean (src.DestroysAll n x) rest i = absurd i
      clean c rest i = tt

      scope : (ss : Stmts) → (Begins ss ⊎ IsScopeOf k ss) → OpensArray S ss
      scope ss (inl i) = begins_none S ss i
      scope (src.Scoped c rest) (inr i) = clean c rest i
      scope ss (inr i) = absurd i
  opened S opening.Bound k l ss behind f h q = absurd (no_binds _ refl q)
  opened S opening.Leaves k l ss behind f h q = absurd (no_binds _ refl q)
  opened S opening.Opens k l ss behind f h q = absurd (no_binds _ refl q)

  pub own : GoodBy few s → ((S : ℕ → ℕ → Type 0) → Each S todo) ⊎ Fills few s (p ∷ todo)
  own (inl h) = by h.stack.1
    where
      by : Held few here s.run.elements s.run.control → ((S : ℕ → ℕ → Type 0) → Each S todo) ⊎ Fills few s (p ∷ todo)
      by (inl k) = inl (λ S. tail S p b (counted_each few here S (p ∷ todo) (subst (AllCounted few here) e k)))
      by (inr (inl k)) = inl (λ S. tail S p b (bound few here S (p ∷ todo) (subst (AtBound few here) e k.0)))
      by (inr (inr k)) = absurd (no_binds _ refl (sym e ∙ k.turns))
  own (inr (inl d)) = absurd (no_binds _ (point_binds d.point d.binder d.next d.todo) (sym e ∙ d.control))
  own (inr (inr (inl o))) = inl (λ S. opened S o.stage o.cell o.line o.next o.todo o.follows o.behind (sym e ∙ o.control))
  own (inr (inr (inr x))) = by (filling_binds x.stage x.array)
    where
      by : (x.stage ≡ fill.Told) ⊎ (binds (fill_todo x.stage x.array) ≡ false) → ((S : ℕ → ℕ → Type 0) → Each S todo) ⊎ Fills few s (p ∷ todo)
      by (inl t) = inr (record {
        array = x.array;
        turns = sym e ∙ (x.control ∙ ap (λ g. fill_todo g x.array) t);
        ends = x.ends;
        place = (subst (λ g. Finding g x.array s) t x.finding).1;
        behind = x.behind;
      })
      by (inr f) = absurd (no_binds _ f (sym e ∙ x.control))

-- the activations that wait are so
pub callers_of : (few : ℕ → Bool) (s : State) → GoodBy few s → CountedStack few s.env.frames s.callers
callers_of few s (inl h) = h.stack.2
callers_of few s (inr (inl d)) = d.callers
callers_of few s (inr (inr (inl o))) = o.callers
callers_of few s (inr (inr (inr x))) = x.callers
