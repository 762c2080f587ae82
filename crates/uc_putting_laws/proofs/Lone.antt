-- Where nothing stands around what is built and destroyed at a spot: a variable whose scope is left, or opens behind what builds that; and a field of
-- a higher number than those that are cleaned up outwards of it.
use Rattle.std.proofs.Common.{◌≡◌, ℕ, ◌+◌, ◌≤◌, ◌<◌, ◌⊎◌, inl, inr, Bool, true, false, List, [], ◌∷◌, Some, refl, sym, ap, ◌∙◌, subst, arith}
use Rattle.uc_tree.specs.Source as src
use Rattle.uc_tree.specs.Source.{CleanUp, Stmt, Stmts, EventStmt, Raised}
use Rattle.uc_machine.specs.declared.exec.Owner.TheVariants.{Frame, Fields}
use Rattle.uc_machine.specs.Pieces as piece
use Rattle.uc_machine.specs.Pieces.{Slot, FieldAt, Value, Object, Todo, Active, State, further}
use Rattle.uc_typing.specs.Typing.{Ty, Cell, Obj, Table}
use Rattle.uc_state_laws.specs.Rooms.{Room, IsWithin, RaisedIn}
use Rattle.uc_state_laws.specs.RoomStacks as stacks
use Rattle.uc_state_laws.specs.RoomStacks.{SomeTo, UpTo, GuardsFrom, StackState}
use Rattle.uc_state_laws.proofs.Stacks.{up_to, stacked_by, stack_before}
use Rattle.uc_life_laws.specs.Things.{Within, Stands, lies, inside, Variables}
use Rattle.uc_life_laws.specs.LifeRuns.{IsLaidOut}
use Rattle.uc_life_laws.specs.Marks.{Marked, Outward}
use Rattle.uc_place_laws.specs.OlderResting.{AllWait, NamedEnv}
use Rattle.uc_life_laws.specs.Ending.{Spot, OfVariable, OfField, leaving}
use Rattle.uc_putting_laws.specs.CleanedSpots.{Site, Under, site_spot, HasSome, spot_of, HoldsObjects, MayHold, IsOver, OpensFor, IsHollow, LiesInClass, Reach, apart, IsOf, IsIn, AllBelow, IsOutermost, AscendsBy, Ascends}
use Rattle.uc_putting_laws.specs.ObjectsAtHand as hand
use Rattle.uc_putting_laws.specs.ObjectsAtHand.{OwnedBy, same_place, further_on, there, at_home, variable, OwnMarked}
use Rattle.uc_putting_laws.specs.Seats.{IsSeated}
use Rattle.uc_putting_laws.specs.Calling.{CleansBy, RaisesBy, CallingEvent}
use Rattle.uc_putting_laws.specs.Putting.{Setting, IsPast, BehindBy, SeatAt, spot_at, CodeStmt, CodeRest, CodeScope, CodePart, Ok, Left, Runs, Waits}
use Rattle.uc_putting_laws.proofs.CleanedSpots.{over_spot, spot_named, below_more, all_others}
use Rattle.uc_putting_laws.proofs.SpotRooms.{variable_one, cleaned_between, own_part, guards_high, over_past, over_class}
use Rattle.uc_putting_laws.proofs.Searches.{guards_left, guards_from, searched}
use Rattle.uc_putting_laws.proofs.ObjectsWithin.{owner_one, owned_under, one_object, no_frame, within_under, below_own, under_below, not_below}
use Rattle.uc_putting_laws.proofs.Fields.{field_lone}
use Rattle.uc_putting_laws.proofs.VariableMarks.{no_variable}
use Rattle.uc_putting_laws.proofs.OwnMarks.{parts, fields_in}
use Rattle.uc_putting_laws.proofs.Marks as marks
use Rattle.uc_putting_laws.proofs.PuttingTodos.{LoneFor, Lones, BuildsAt}
use Rattle.uc_putting_laws.proofs.Steps as steps
use Rattle.uc_putting_laws.proofs.Steps.{here}

-- rooms of clean-ups

no_field : false ≡ true → ⊥
no_field e = cc

no_spot : (p : Spot) → spot_of src.Ends ≡ Some p → ⊥
no_spot p e = cc

no_variable_field : (k : ℕ) (h : src.Shape) (i : ℕ) → OfVariable k ≡ OfField h i → ⊥
no_variable_field k h i e = cc

module _ (Z : ℕ → ℕ → Type 0) where
  -- so marks in the frame lie before a variable whose scope is left, or opens next, and before the hidden cells of an event

  cleared : (k : ℕ) (c : CleanUp) (todo : List Todo) (End : Room → Type 0) → spot_of c ≡ Some (OfVariable k) → SomeTo Z End (piece.Clean c ∷ todo) → SomeTo Z End (piece.ClearNow k 0 ∷ todo)
  cleared k c todo End e h =
      let w = h.1.1 in
      let b = cleaned_between Z h.1.0.low h.0.low k c h.1.2.0 e in
      let low = b.0 in
      let high = b.1 in
      let cells = w.cells in
      let wide = w.high in
      (h.1.0, (inl (low, omega (arith, high, cells, wide)), h.1.3))

  pub left_cleared : (unwinds : Bool) (k : ℕ) (c : CleanUp) (todo : List Todo) (End : Room → Type 0) → spot_of c ≡ Some (OfVariable k) → SomeTo Z End (leaving unwinds c todo) → SomeTo Z End (piece.ClearNow k 0 ∷ todo)
  left_cleared true k c todo End e h = cleared k c todo End e (h.0, h.1.1)
  left_cleared false k c todo End e h = cleared k c todo End e h

  pub opened_cleared : (k : ℕ) (a : Stmt) (ss : Stmts) (x : Site) (todo : List Todo) (End : Room → Type 0) → (t : Table) → site_spot x ≡ OfVariable k → OpensFor t ss x → SomeTo Z End (piece.Do a ∷ (piece.Rest ss ∷ todo)) → SomeTo Z End (piece.ClearNow k 0 ∷ todo)
  opened_cleared k a (src.Scoped c ss) x todo End t q e h =
      let there = h.1.1 in
      let w = there.0.1 in
      let b = cleaned_between Z h.0.low there.0.0.low k c there.0.2.0 (over_spot t c x e ∙ ap Some q) in
      let low = b.0 in
      let high = b.1 in
      let cells = w.cells in
      let wide = w.high in
      (h.0, (inl (low, omega (arith, high, cells, wide)), there.1))
  opened_cleared k a (src.Built c ss) x todo End t q e h = absurd (own_part Z k c h.1.1.0.0 (over_spot t c x e ∙ ap Some q))
  opened_cleared k a ss x todo End t q e h = absurd e

  -- the cells of an event
  abbrev pub BuiltIn : ℕ → Raised → Type 0
  BuiltIn k (src.BuiltAt n c e) = c ≡ k
  BuiltIn k r = ⊥

  raised_cleared : (k : ℕ) (r : Raised) (o : Room) → BuiltIn k r → RaisedIn Z o r → (o.hidden ≤ k) × (k + 0 ≤ o.last)
  raised_cleared k (src.BuiltAt n c e) o q h =
      let low = h.0 in
      let high = h.1 in
      (omega (arith, low, q), omega (arith, high, q))
  raised_cleared k r o q h = absurd q

  abbrev pub EventIn : ℕ → EventStmt → Type 0
  EventIn k (src.Throw line r) = BuiltIn k r
  EventIn k (src.Raise line r) = BuiltIn k r
  EventIn k (src.RaiseAt line r e) = BuiltIn k r
  EventIn k a = ⊥

  pub event_cleared : (k : ℕ) (a : EventStmt) (todo : List Todo) (End : Room → Type 0) → EventIn k a → SomeTo Z End (piece.Do (src.OfEvents a) ∷ todo) → SomeTo Z End (piece.ClearNow k 0 ∷ todo)
  event_cleared k (src.Throw line r) todo End q h = (h.0, (inr (raised_cleared k r h.0 q h.1.0), h.1.1))
  event_cleared k (src.Raise line r) todo End q h = (h.0, (inr (raised_cleared k r h.0 q h.1.0), h.1.1))
  event_cleared k (src.RaiseAt line r e) todo End q h = (h.0, (inr (raised_cleared k r h.0 q h.1.0.0), h.1.1))
  event_cleared k a todo End q h = absurd q

-- behind what is at a variable whose scope is left, or opens next: its room, behind which all handlers outwards of it lie
module _ (Z : ℕ → ℕ → Type 0) (t : Table) (laid : IsLaidOut Z t) where
  record PastIn (k : ℕ) (todo : List Todo) (top : ℕ) (x : Site) : Type 0 where
    pub cell : ℕ
    pub low : k ≤ cell
    pub high : cell ≤ top
    pub guards : GuardsFrom Z cell todo
    pub past : MayHold t x → HasSome x → k < cell

  clean_past : (k : ℕ) (c : CleanUp) (todo : List Todo) (top : ℕ) (x : Site) → IsOver t c x → site_spot x ≡ OfVariable k → SomeTo Z (UpTo top) (piece.Clean c ∷ todo) → PastIn k todo top x
  clean_past k c todo top x y e h =
      let o : Room = h.0 in
      let m : Room = h.1.0 in
      let w : IsWithin m o = h.1.1 in
      let b = cleaned_between Z m.low o.low k c h.1.2.0 (over_spot t c x y ∙ ap Some e) in
      let cells = w.cells in
      let wide = w.high in
      let last = up_to Z top m todo h.1.3 in
      record {
        cell = o.low;
        low = b.1;
        high = omega (arith, cells, wide, last);
        guards = guards_high Z (UpTo top) o.low m todo (omega (arith, cells, wide)) h.1.3;
        past = λ v s. over_past t Z laid m.low o.low k c x h.1.2.0 y e v s;
      }

  left_past : (unwinds : Bool) (k : ℕ) (c : CleanUp) (todo : List Todo) (top : ℕ) (x : Site) → IsOver t c x → site_spot x ≡ OfVariable k → SomeTo Z (UpTo top) (leaving unwinds c todo) → PastIn k todo top x
  left_past true k c todo top x y e h = clean_past k c todo top x y e (h.0, h.1.1)
  left_past false k c todo top x y e h = clean_past k c todo top x y e h

  opened_past : (k : ℕ) (a : Stmt) (ss : Stmts) (x : Site) (todo : List Todo) (top : ℕ) → site_spot x ≡ OfVariable k → OpensFor t ss x → SomeTo Z (UpTo top) (piece.Do a ∷ (piece.Rest ss ∷ todo)) → PastIn k todo top x
  opened_past k a (src.Scoped c ss) x todo top e y h =
      let there = h.1.1 in
      let o : Room = h.0 in
      let m : Room = there.0.0 in
      let w : IsWithin o m = there.0.1 in
      let b = cleaned_between Z o.low m.low k c there.0.2.0 (over_spot t c x y ∙ ap Some e) in
      let cells = w.cells in
      let wide = w.high in
      let last = up_to Z top o todo there.1 in
      record {
        cell = m.low;
        low = b.1;
        high = omega (arith, cells, wide, last);
        guards = guards_high Z (UpTo top) m.low o todo (omega (arith, cells, wide)) there.1;
        past = λ v s. over_past t Z laid o.low m.low k c x there.0.2.0 y e v s;
      }
  opened_past k a (src.Built c ss) x todo top e y h = absurd (own_part Z k c h.1.1.0.0 (over_spot t c x y ∙ ap Some e))
  opened_past k a ss x todo top e y h = absurd y

-- what holds no mutex object
hollow_spot : (t : Table) (k : ℕ) (x : Site) → IsHollow t k x → site_spot x ≡ OfVariable k
hollow_spot t k (Under o n p) h = h.0
hollow_spot t k x h = absurd h

hollow_none : (t : Table) (k : ℕ) (x : Site) → IsHollow t k x → MayHold t x → ⊥
hollow_none t k (Under o n p) h m = h.1 m
hollow_none t k x h m = absurd h

module _ (Z : ℕ → ℕ → Type 0) (g : Setting) (laid : IsLaidOut Z g.table) (s : State) (st : StackState Z s) (callers : AllWait (Runs g) (Waits g) s.env.exec s.callers) (env : NamedEnv (Runs g) (Waits g) s.env) (made : Reach) (this : IsSeated g.table g.source g.special g.few made s.env.exec s.callers s.run.frame s.run.handles s.run.this) where
  -- of a variable before which all marks in the frame lie
  module _ (k : ℕ) (todo : List Todo) (low : made.low ≤ k) (code : Left g (here s) made todo) (clears : (End : Room → Type 0) → SomeTo Z End s.run.control → SomeTo Z End (piece.ClearNow k 0 ∷ todo)) where
    abbrev run : Active
    run = record s.run { control = piece.ClearNow k 0 ∷ todo }

    abbrev cell : Value
    cell = variable s.env.exec s.run.frame k

    abbrev K : Value → Ty → Type 0
    K w a = Marked g.table s.env.exec (run ∷ s.callers) w a

    before : stacks.FrameBefore Z k s.run.frame (run ∷ s.callers)
    before = stack_before Z s.env.frames run s.callers k 0 todo refl (stacked_by Z s.env.frames s.run run s.callers refl refl clears st.stack.0)

    -- fields of the object at hand are in other frames, and those of older ones at other variables
    no_own : (w : Value) (a : Ty) (v : Value) (e : ℕ) → OwnMarked g.table s.env.exec (run ∷ s.callers) w a → Within g.table w a v (Cell (Obj e)) → hand.LiesIn g.few cell v → ⊥
    no_own w a v e (inl m) h l =
        let x = fields_in g (here s) made todo w a code m in
        let field : Value = further (FieldAt x.shape x.number) s.run.this in
        let below = under_below g.few s.env.exec s.run.frame s.run.this field (further_on (FieldAt x.shape x.number) same_place) (this.own x.builds) in
        not_below g.few s.env.exec s.run.frame s.run.frame (Slot k ∷ []) (omega arith) v l (under_below g.few s.env.exec s.run.frame field v (subst (λ y. hand.LiesUnder y v) x.at (within_under g.table w a v (Cell (Obj e)) h)) below)
    no_own w a v e (inr m) h l =
        let less : k < made.low = this.spare k v e l (lies m h) in
        omega (arith, less, low)

    no_mark : (w : Value) (a : Ty) (v : Value) (e : ℕ) → Variables g.table s.env.exec (run ∷ s.callers) w a ⊎ OwnMarked g.table s.env.exec (run ∷ s.callers) w a → Within g.table w a v (Cell (Obj e)) → hand.LiesIn g.few cell v → ⊥
    no_mark w a v e (inr m) h l = no_own w a v e m h l
    no_mark w a v e (inl m) h l = no_variable Z g.table laid g.few s.env.exec s.run.frame k (run ∷ s.callers) w a v e before m h l

    variable_lone : (v : Value) (e : ℕ) → hand.LiesIn g.few cell v → Stands g.table g.few K (Cell (Obj e)) v → ⊥
    variable_lone v e l (lies {w = w} {a} m h) = no_mark w a v e (parts g.table s.env.exec (run ∷ s.callers) w a m) h l
    variable_lone v e (there u) (inside {o = o} {c} m h i) =
        let mine : OwnedBy (Frame s.env.exec s.run.frame) v = owned_under (Frame s.env.exec s.run.frame) cell refl v u in
        let its : OwnedBy (Fields o) v = owned_under (Fields o) (Object o) refl v (within_under g.table (Object o) (Obj c) v (Cell (Obj e)) i) in
        no_frame s.env.exec s.run.frame o (owner_one (Frame s.env.exec s.run.frame) (Fields o) v mine its)
    variable_lone v e (at_home {o = x} u q) (inside {o = o} {c} m h i) =
        let its : OwnedBy (Fields o) v = owned_under (Fields o) (Object o) refl v (within_under g.table (Object o) (Obj c) v (Cell (Obj e)) i) in
        let same : o ≡ x = one_object o x (owner_one (Fields o) (Fields x) v its q) in
        variable_lone (g.few.home x) c u (subst (λ y. Stands g.table g.few K (Cell (Obj c)) (g.few.home y)) same h)

  -- of a field
  at_field : (h : src.Shape) (i : ℕ) (todo : List Todo) → AllBelow i todo → made.builds ≡ true → (v : Value) (e : ℕ) → hand.LiesIn g.few (further (FieldAt h i) s.run.this) v → Stands g.table g.few (Outward g.table s.env.exec s.run.frame s.run.this s.callers todo) (Cell (Obj e)) v → ⊥
  at_field h i todo b y v e l st =
      field_lone g.table g.few s.env.exec s.run.frame s.run.this s.callers todo i (all_others g.table i todo b) (below_own g.few s.env.exec s.run.frame s.run.this (this.own y)) (this.alone y) h v e l st

  -- of a site
  abbrev Clears : ℕ → List Todo → Type 1
  Clears k todo = (End : Room → Type 0) → SomeTo Z End s.run.control → SomeTo Z End (piece.ClearNow k 0 ∷ todo)

  spot_lone : (p : Spot) (todo : List Todo) → IsOf made p → Left g (here s) made todo → ((k : ℕ) → p ≡ OfVariable k → Clears k todo) → ((h : src.Shape) (i : ℕ) → p ≡ OfField h i → AllBelow i todo) → (v : Value) (e : ℕ) → hand.LiesIn g.few (spot_at g.few (here s) p) v → Stands g.table g.few (Outward g.table s.env.exec s.run.frame s.run.this s.callers todo) (Cell (Obj e)) v → ⊥
  spot_lone (OfVariable k) todo i code clears below v e l st = variable_lone k todo i code (clears k refl) v e l st
  spot_lone (OfField h j) todo i code clears below v e l st = at_field h j todo (below h j refl) i v e l st

  -- behind a site

  abbrev Past : ℕ → List Todo → Site → Type 0
  Past k todo x = PastIn Z g.table laid k todo st.stack.0.top x

  at_past : (k : ℕ) (todo : List Todo) (x : Site) → made.low ≤ k → Left g (here s) made todo → Past k todo x → IsPast g (here s) made todo k x
  at_past k todo x i code p =
      let low = p.low in (
        p.cell,
        omega (arith, i, low),
        guards_from Z g p.cell p.cell made.low todo (omega arith) p.guards (guards_left g (here s) made todo code),
        searched Z g s.env.exec p.cell st.stack.0.top s.run.handles s.run.frame s.callers p.high (marks.waits_left g s.env.exec s.callers callers) st.stack.0.beyond,
        p.past,
      )

  spot_behind : (p : Spot) (todo : List Todo) (x : Site) → IsOf made p → Left g (here s) made todo → ((k : ℕ) → p ≡ OfVariable k → Past k todo x) → ((h : src.Shape) (i : ℕ) → p ≡ OfField h i → MayHold g.table x → HasSome x → HoldsObjects g.table made.class) → BehindBy g (here s) made todo p x
  spot_behind (OfVariable k) todo x i code past class = at_past k todo x i code (past k refl)
  spot_behind (OfField h j) todo x i code past class = class h j refl

  same_spot : (p : Spot) → IsOf made p → IsOf made p
  same_spot p i = i

  -- a clean-up, where its spot is so
  cleans_lone : (c : CleanUp) (todo : List Todo) → ((x : Site) → IsIn made x → IsOver g.table c x → SeatAt g (here s) made todo x) → CleansBy g.table g.source g.special made c → LoneFor g (here s) made c todo
  cleans_lone (src.Destroys e) todo f (inl k) = inl (marks.number_more g.table g.source g.special made made same_spot (IsOver g.table (src.Destroys e)) (Lones g (here s) made todo) f e k)
  cleans_lone (src.Destroys e) todo f (inr (inl k)) = inr (inl (marks.calls_more g.table g.source g.special made made same_spot (IsOver g.table (src.Destroys e)) (Lones g (here s) made todo) f e k))
  cleans_lone (src.Destroys e) todo f (inr (inr k)) = inr (inr (marks.ends_more g.table g.source g.special made made same_spot (IsOver g.table (src.Destroys e)) (Lones g (here s) made todo) f e k))
  cleans_lone (src.DestroysAll m e) todo f k = marks.sweeps_more g.table g.source g.special made made same_spot (IsOver g.table (src.DestroysAll m e)) (Lones g (here s) made todo) f e k
  cleans_lone c todo f k = tt

  left_lone : (unwinds : Bool) (c : CleanUp) (todo : List Todo) → s.run.control ≡ leaving unwinds c todo → CleansBy g.table g.source g.special made c → IsOutermost (spot_of c) todo → LiesInClass g.table made.class c → Left g (here s) made todo → LoneFor g (here s) made c todo
  left_lone unwinds c todo q n o z code =
      cleans_lone c todo (λ x i e. (
        spot_lone (site_spot x) todo i code (λ k y end h. left_cleared Z unwinds k c todo end (over_spot g.table c x e ∙ ap Some y) (subst (SomeTo Z end) q h)) (λ h j y. subst (λ z. IsOutermost z todo) (over_spot g.table c x e ∙ ap Some y) o),
        spot_behind (site_spot x) todo x i code (λ k y. left_past Z g.table laid unwinds k c todo st.stack.0.top x e y (subst (SomeTo Z (UpTo st.stack.0.top)) q st.stack.0.fits)) (λ h j y. over_class g.table made.class h j c x z e y),
      )) n

  -- its scope is left next
  pub scope_lone : (unwinds : Bool) (c : CleanUp) (todo : List Todo) → s.run.control ≡ leaving unwinds c todo → CodeScope g (here s) made c todo → Left g (here s) made todo → LoneFor g (here s) made c todo
  scope_lone unwinds (src.Destroys e) todo q n code = left_lone unwinds (src.Destroys e) todo q n.1 n.2 n.3 code
  scope_lone unwinds (src.DestroysAll m e) todo q n code = left_lone unwinds (src.DestroysAll m e) todo q n.1 n.2 n.3 code
  scope_lone unwinds c todo q n code = tt

  -- a part is given up
  pub part_lone : (c : CleanUp) (todo : List Todo) → s.run.control ≡ piece.Unwind ∷ (piece.Part c ∷ todo) → CodePart g made c todo → Left g (here s) made todo → LoneFor g (here s) made c todo
  part_lone c todo q n code =
      cleans_lone c todo (λ x i e. (
        spot_lone (site_spot x) todo i code (λ k y end h. absurd (own_part Z k c (subst (SomeTo Z end) q h).1.1.0 (over_spot g.table c x e ∙ ap Some y))) (λ h j y. subst (λ z. IsOutermost z todo) (over_spot g.table c x e ∙ ap Some y) n.2),
        spot_behind (site_spot x) todo x i code (λ k y. absurd (own_part Z k c (subst (SomeTo Z (UpTo st.stack.0.top)) q st.stack.0.fits).1.1.0 (over_spot g.table c x e ∙ ap Some y))) (λ h j y. over_class g.table made.class h j c x n.3 e y),
      )) n.1

  -- what opens behind a statement is of a higher number than all outwards of it
  spot_next : (c : CleanUp) (x : Site) (n : ℕ) (todo : List Todo) (next : ℕ → Type 0) (h : src.Shape) (i : ℕ) → AscendsBy (spot_of c) n next → AllBelow n todo → IsOver g.table c x → site_spot x ≡ OfField h i → AllBelow i todo
  spot_next c x n todo next h i a b e y = below_more n i todo (subst (λ o. AscendsBy o n next) (over_spot g.table c x e ∙ ap Some y) a).0 b

  rest_below : (ss : Stmts) (todo : List Todo) (x : Site) (h : src.Shape) (i : ℕ) → CodeRest g (here s) made ss todo → OpensFor g.table ss x → site_spot x ≡ OfField h i → AllBelow i todo
  rest_below (src.Scoped c ss) todo x h i (inl n) e y = absurd (no_field (spot_named g.table g.source g.special (apart made) (OfField h i) c n.1.0 (over_spot g.table c x e ∙ ap Some y)))
  rest_below (src.Built c ss) todo x h i (inl n) e y = absurd (no_field (spot_named g.table g.source g.special (apart made) (OfField h i) c n.1.0 (over_spot g.table c x e ∙ ap Some y)))
  rest_below (src.Scoped c ss) todo x h i (inr (inl n)) e y = spot_next c x n.1.0 todo (λ m. Ascends m ss) h i n.1.2 n.1.1 e y
  rest_below (src.Built c ss) todo x h i (inr (inl n)) e y = spot_next c x n.1.0 todo (λ m. Ascends m ss) h i n.1.2 n.1.1 e y
  rest_below (src.Scoped src.Ends ss) todo x h i (inr (inr n)) e y = absurd (no_spot (site_spot x) (over_spot g.table src.Ends x e))
  rest_below (src.Scoped (src.Frees r) ss) todo x h i (inr (inr n)) e y = absurd (no_spot (site_spot x) (over_spot g.table (src.Frees r) x e))
  rest_below (src.Scoped c ss) todo x h i (inr (inr n)) e y = absurd n.2
  rest_below (src.Built c ss) todo x h i (inr (inr n)) e y = absurd n.2
  rest_below ss todo x h i n e y = absurd e

  -- so is it with objects that may lie there
  rest_class : (ss : Stmts) (todo : List Todo) (x : Site) (h : src.Shape) (i : ℕ) → CodeRest g (here s) made ss todo → OpensFor g.table ss x → site_spot x ≡ OfField h i → MayHold g.table x → HasSome x → HoldsObjects g.table made.class
  rest_class (src.Scoped c ss) todo x h i (inl n) e y = absurd (no_field (spot_named g.table g.source g.special (apart made) (OfField h i) c n.1.0 (over_spot g.table c x e ∙ ap Some y)))
  rest_class (src.Built c ss) todo x h i (inl n) e y = absurd (no_field (spot_named g.table g.source g.special (apart made) (OfField h i) c n.1.0 (over_spot g.table c x e ∙ ap Some y)))
  rest_class (src.Scoped c ss) todo x h i (inr (inl n)) e y = over_class g.table made.class h i c x n.2.0 e y
  rest_class (src.Built c ss) todo x h i (inr (inl n)) e y = over_class g.table made.class h i c x n.2.0 e y
  rest_class (src.Scoped src.Ends ss) todo x h i (inr (inr n)) e y = absurd (no_spot (site_spot x) (over_spot g.table src.Ends x e))
  rest_class (src.Scoped (src.Frees r) ss) todo x h i (inr (inr n)) e y = absurd (no_spot (site_spot x) (over_spot g.table (src.Frees r) x e))
  rest_class (src.Scoped c ss) todo x h i (inr (inr n)) e y = absurd n.2
  rest_class (src.Built c ss) todo x h i (inr (inr n)) e y = absurd n.2
  rest_class ss todo x h i n e y = absurd e

  opened : (a : Stmt) (ss : Stmts) (todo : List Todo) → s.run.control ≡ piece.Do a ∷ (piece.Rest ss ∷ todo) → CodeRest g (here s) made ss todo → Left g (here s) made todo → (x : Site) → IsIn made x → OpensFor g.table ss x → SeatAt g (here s) made todo x
  opened a ss todo q n code x i e = (
    spot_lone (site_spot x) todo i code (λ k y end h. opened_cleared Z k a ss x todo end g.table y e (subst (SomeTo Z end) q h)) (λ h j y. rest_below ss todo x h j n e y),
    spot_behind (site_spot x) todo x i code (λ k y. opened_past Z g.table laid k a ss x todo st.stack.0.top y e (subst (SomeTo Z (UpTo st.stack.0.top)) q st.stack.0.fits)) (λ h j y. rest_class ss todo x h j n e y),
  )

  pub lone_behind : (a : Stmt) (todo : List Todo) → s.run.control ≡ piece.Do a ∷ todo → Ok g (here s) made [] todo → steps.LoneBehind g s callers env made this todo
  lone_behind a (piece.Rest ss ∷ todo) q h x i e = opened a ss todo q h.0 (marks.left g (here s) made [] todo h.1) x i e
  lone_behind a todo q h x i e = absurd e

  -- where an event is built

  -- all handlers of its frame name other variables than those that older activations have to clean up
  built_behind : (p : Spot) (k : ℕ) (todo : List Todo) (x : Site) → p ≡ OfVariable k → Left g (here s) made todo → (MayHold g.table x → ⊥) → BehindBy g (here s) made todo p x
  built_behind (OfVariable j) k todo x y code none =
      (made.low, omega arith, guards_left g (here s) made todo code, this.after, λ m e. absurd (none m))
  built_behind (OfField h j) k todo x y code none = absurd (no_variable_field k h j (sym y))

  raised_lone : (a : EventStmt) (r : Raised) (todo : List Todo) → s.run.control ≡ piece.Do (src.OfEvents a) ∷ todo → ((k : ℕ) → BuiltIn Z k r → EventIn Z k a) → RaisesBy g.table g.source g.special made r → Left g (here s) made todo → BuildsAt g (here s) made r (Lones g (here s) made todo)
  raised_lone a (src.BuiltAt n c e) todo q f h code =
      marks.calls_more g.table g.source g.special made made same_spot (IsHollow g.table c) (Lones g (here s) made todo) (λ x i y. (
        spot_lone (site_spot x) todo i code (λ k z end l. event_cleared Z k a todo end (f k (variable_one c k (sym (hollow_spot g.table c x y) ∙ z))) (subst (SomeTo Z end) q l)) (λ h j z. absurd (no_variable_field c h j (sym (hollow_spot g.table c x y) ∙ z))),
        built_behind (site_spot x) c todo x (hollow_spot g.table c x y) code (hollow_none g.table c x y),
      )) e h
  raised_lone a (src.Plainly n) todo q f h code = tt
  raised_lone a (src.AgainFrom c) todo q f h code = tt

  lone_event : (a : EventStmt) (todo : List Todo) → s.run.control ≡ piece.Do (src.OfEvents a) ∷ todo → CallingEvent g.table g.source g.special made a → Left g (here s) made todo → steps.LoneEvent g s callers env made this a todo
  lone_event (src.Throw line r) todo q h code = raised_lone (src.Throw line r) r todo q (λ k b. b) h code
  lone_event (src.Raise line r) todo q h code = raised_lone (src.Raise line r) r todo q (λ k b. b) h code
  lone_event (src.RaiseAt line r e) todo q h code = raised_lone (src.RaiseAt line r e) r todo q (λ k b. b) h.0 code
  lone_event a todo q h code = tt

  pub lone_stmt : (P : Site → Type 0) (a : Stmt) (todo : List Todo) → s.run.control ≡ piece.Do a ∷ todo → CodeStmt g P made a → Left g (here s) made todo → steps.LoneStmt g s callers env made this a todo
  lone_stmt P (src.OfEvents a) todo q n code = lone_event a todo q n.1 code
  lone_stmt P a todo q n code = tt
