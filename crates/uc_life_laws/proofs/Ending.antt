-- The scope of a mutex object is left: where that is a variable, other marks in its frame lie before it.
use Rattle.std.proofs.Common.{◌≡◌, ℕ, ◌<◌, inl, inr, Bool, true, false, List, [], ◌∷◌, drop, Some, refl, sym, ap, subst, arith}
use Rattle.std.specs.Prelude.{nat_lt, slice_get}
use Rattle.uc_tree.specs.declared.limits.TheConstants.{CALLS, DESTRUCTOR}
use Rattle.uc_tree.specs.Source as src
use Rattle.uc_tree.specs.Source.{Shape, Expr, CleanUp, Stmts, Routine, Purpose, Source}
use Rattle.uc_machine.specs.declared.exec.Exec.{Exec}
use Rattle.uc_machine.specs.declared.exec.Owner.{Owner}
use Rattle.uc_machine.specs.declared.exec.Owner.TheVariants.{Frame}
use Rattle.uc_machine.specs.Pieces as piece
use Rattle.uc_machine.specs.Pieces.{Link, Slot, FieldAt, At, Value, Number, Place, Running, Object, Nothing, further, Todo, Sort, Active, State, Step, Goes, Ticks, Asks, at, top, below, loaded, variable_at, object_in}
use Rattle.uc_machine.specs.Quiet as quiet
use Rattle.uc_typing.specs.Typing.{Ty, Cell, Obj, Table, DestroysAt, CleansAt}
use Rattle.uc_state_laws.specs.Rooms.{Room, LiesAt, Destroyed, Lies}
use Rattle.uc_state_laws.specs.RoomStates as rooms
use Rattle.uc_state_laws.specs.Layout.{Sized}
use Rattle.uc_state_laws.specs.RoomStacks as stacks
use Rattle.uc_state_laws.specs.RoomStacks.{TodoTo, SomeTo, StackState}
use Rattle.uc_state_laws.specs.RoomRuns.{Leads, stays, goes, ticks}
use Rattle.uc_state_laws.proofs.Stacks.{stacked_by, stack_before}
use Rattle.uc_life_laws.specs.Things.{Few, Within, itself, field, element, AtField, IsFor, Marks, InTodo, Stands, lies, inside}
use Rattle.uc_life_laws.proofs.Cells.{either}
use Rattle.uc_life_laws.specs.Belonging.{Belongs, frame}
use Rattle.uc_life_laws.specs.Marks.{Marked, Outward, Free, OfClean, AllLone, LoneState, PutsAt}
use Rattle.uc_life_laws.proofs.Own.{further_own}
use Rattle.uc_life_laws.specs.Ending.{Spot, OfVariable, OfField, naming, place_at, ends_at, leaving, behind, calling, entering, opening, LoneBefore, PutsThen, OpensObject, LawLeft, LawBegins}

-- a variable is no part of anything else

abbrev is_slot : Link → Bool
is_slot (Slot k) = true
is_slot (FieldAt s i) = false
is_slot (At s i) = false

further_slot : (l : Link) (v : Value) (q : Owner) (k : ℕ) → is_slot l ≡ false → Place q (Slot k ∷ []) ≡ further l v → ⊥
further_slot l (Number z) q k h e = cc
further_slot (Slot j) (Place o p) q k h e = let f : true ≡ false = h in absurd (cc)
further_slot (FieldAt s i) (Place o p) q k h e = cc
further_slot (At s i) (Place o p) q k h e = cc
further_slot l (Running x) q k h e = cc
further_slot (Slot j) (Object o) q k h e = let f : true ≡ false = h in absurd (cc)
further_slot (FieldAt s i) (Object o) q k h e = cc
further_slot (At s i) (Object o) q k h e = cc
further_slot l Nothing q k h e = cc

module _ (t : Table) (q : Owner) (k : ℕ) where
  abbrev cell : Value
  cell = Place q (Slot k ∷ [])

  within_slot : (w : Value) (a : Ty) (v : Value) (b : Ty) → v ≡ cell → Within t w a v b → (w ≡ cell) × (a ≡ b)
  within_slot w a v b e itself = (e, refl)
  within_slot w a v b e (field {v = x} {c} h i f) = absurd (further_slot (FieldAt (t.shape c) i) x q k refl (sym e))
  within_slot w a v b e (element {v = x} {m} h j l) = absurd (further_slot (At _ j) x q k refl (sym e))

  -- so only what stands there itself stands around it
  only_there : (few : Few) (K : Value → Ty → Type 0) → ((w : Value) (a : Ty) → K w a → w ≡ cell → (c : ℕ) → a ≡ Cell (Obj c) → ⊥) → (c : ℕ) (v : Value) → v ≡ cell → Stands t few K (Cell (Obj c)) v → ⊥
  only_there few K none c v e (lies {w = w} {a} m h) = let g = within_slot w a v (Cell (Obj c)) e h in none w a m g.0 c g.1
  only_there few K none c v e (inside {o = o} {c = d} m s h) =
      let g : Object o ≡ cell = (within_slot (Object o) (Obj d) v (Cell (Obj c)) e h).0 in absurd (cc)

-- the clean-up of such an object that lies before a cell is at a variable before it
module _ (Z : ℕ → ℕ → Type 0) (t : Table) (last c : ℕ) where
  ended_before : (k : ℕ) (e : Expr) → Destroyed Z (LiesAt Z 0 last 1) e → DestroysAt t (Cell (Obj c)) (src.Variable k) e → k < last
  ended_before k (src.OfObject (src.EndOn r written (src.Load x))) h d =
      let l : LiesAt Z 0 last 1 1 (src.Variable k) = subst (LiesAt Z 0 last 1 1) (sym d.0) h in
      let m = l.1 in
      omega (arith, m)
  ended_before k e h d = absurd d

  clean_before : (k : ℕ) (x : CleanUp) → Lies Z 0 last x → CleansAt t (Cell (Obj c)) (src.Variable k) x → k < last
  clean_before k (src.Destroys e) h d = ended_before k e h d
  clean_before k (src.DestroysAll m e) h d = absurd d
  clean_before k x h d = absurd d

module _ (Z : ℕ → ℕ → Type 0) (t : Table) (n : Exec) (f k : ℕ) where
  abbrev here : Value
  here = Place (Frame n f) (Slot k ∷ [])

  frame_is : (g j : ℕ) → Place (Frame n f) (Slot k ∷ []) ≡ Place (Frame n g) (Slot j ∷ []) → (g ≡ f) × (j ≡ k)
  frame_is g j e = (cc, cc)

  -- no mark of an activation is for what stands there
  not_for : (g : ℕ) (this : Value) (x : CleanUp) (c : ℕ) → (g ≡ f → Lies Z 0 k x) → IsFor t (Frame n g) this x here (Cell (Obj c)) → ⊥
  not_for g this x c h (inl m) =
      let e = frame_is g m.0 m.2 in
      let l : m.0 < k = clean_before Z t k c m.0 x (h e.0) m.1 in
      let same : m.0 ≡ k = e.1 in
      omega (arith, l, same)
  not_for g this x c h (inr m) = further_slot (FieldAt m.0 m.1) this (Frame n f) k refl m.3

  not_field : (g : ℕ) (this : Value) (x : CleanUp) (c : ℕ) → AtField t (Frame n g) this x here (Cell (Obj c)) → ⊥
  not_field g this x c m = further_slot (FieldAt m.0 m.1) this (Frame n f) k refl m.3

  not_marked : (g : ℕ) (this : Value) (s : Sort) (c : ℕ) (A R : Type 0) → (g ≡ f → rooms.IsBefore Z k s) → (R → ⊥) → Marks (IsFor t (Frame n g) this) (AtField t (Frame n g) this) s here (Cell (Obj c)) R → ⊥
  not_marked g this (piece.IsClean x) c A R h next (inl m) = not_for g this x c h m
  not_marked g this (piece.IsClean x) c A R h next (inr m) = next m
  not_marked g this (piece.IsPart x) c A R h next (inl m) = not_field g this x c m
  not_marked g this (piece.IsPart x) c A R h next (inr m) = next m
  not_marked g this piece.Simple c A R h next m = next m
  not_marked g this (piece.IsLoop x y z q) c A R h next m = next m
  not_marked g this piece.IsWhole c A R h next m = next m
  not_marked g this (piece.IsFill x y z) c A R h next m = next m
  not_marked g this (piece.IsSweep x) c A R h next m = next m
  not_marked g this (piece.IsGuard x) c A R h next m = next m
  not_marked g this piece.IsFinish c A R h next m = next m
  not_marked g this piece.IsFinishCoroutine c A R h next m = next m

  not_in : (g : ℕ) (this : Value) (todo : List Todo) (c : ℕ) → (g ≡ f → rooms.AllBefore Z k todo) → InTodo (IsFor t (Frame n g) this) (AtField t (Frame n g) this) todo here (Cell (Obj c)) → ⊥
  not_in g this [] c h m = m
  not_in g this (p ∷ todo) c h m =
      not_marked g this (piece.sort p) c (Unit {0}) _ (λ e. (h e).0) (not_in g this todo c (λ e. (h e).1)) m

  none_there : (cs : List Active) (c : ℕ) → stacks.FrameBefore Z k f cs → Marked t n cs here (Cell (Obj c)) → ⊥
  none_there [] c h m = m
  none_there (a ∷ older) c h (inl m) = not_in a.frame a.this a.control c h.0 m
  none_there (a ∷ older) c h (inr m) = none_there older c h.1 m

-- marks in the frame lie before the variable whose scope is left
module _ (Z : ℕ → ℕ → Type 0) (k r : ℕ) (written : Bool) where
  opened : (todo : List Todo) (End : Room → Type 0) → SomeTo Z End (piece.Clean (ends_at (OfVariable k) r written) ∷ todo) → SomeTo Z End (piece.ClearNow k 0 ∷ todo)
  opened todo End h =
      let w = h.1.1 in
      let low = h.1.2.0.0 in
      let high = h.1.2.0.1 in
      let cells = w.cells in
      let wide = w.high in
      (h.1.0, (inl (low, omega (arith, high, cells, wide)), h.1.3))

  some_left : (unwinds : Bool) (todo : List Todo) (End : Room → Type 0) → SomeTo Z End (leaving unwinds (ends_at (OfVariable k) r written) todo) → SomeTo Z End (piece.ClearNow k 0 ∷ todo)
  some_left true todo End h = opened todo End (h.0, h.1.1)
  some_left false todo End h = opened todo End h

  left_before : (s : State) → StackState Z s → (unwinds : Bool) (todo : List Todo) → s.run.control ≡ leaving unwinds (ends_at (OfVariable k) r written) todo → stacks.FrameBefore Z k s.run.frame (record s.run { control = piece.ClearNow k 0 ∷ todo } ∷ s.callers)
  left_before s st unwinds todo e =
      let b = record s.run { control = piece.ClearNow k 0 ∷ todo } in
      stack_before Z s.env.frames b s.callers k 0 todo refl (stacked_by Z s.env.frames s.run b s.callers refl refl (λ End h. some_left unwinds todo End (subst (SomeTo Z End) e h)) st.stack.0)

-- what has a mark behind it goes on to have none where other pieces stand there
module _ (t : Table) (few : Few) (K L : Value → Ty → Type 0) (more : (w : Value) (a : Ty) → K w a → L w a) where
  stands_more : (b : Ty) (v : Value) → Stands t few K b v → Stands t few L b v
  stands_more b v (lies {w = w} {a} k h) = lies (more w a k) h
  stands_more b v (inside {o = o} {c} m k h) = inside m (stands_more (Cell (Obj c)) (few.home o) k) h

  free_fewer : (o : ℕ) → Free t few o L → Free t few o K
  free_fewer o h c k = h c (stands_more (Cell (Obj c)) (few.home o) k)

behind_same : (t : Table) (n : Exec) (a : Active) (older : List Active) (unwinds : Bool) (k : ℕ) (todo : List Todo) (w : Value) (b : Ty) → Marked t n (record a { control = behind unwinds todo } ∷ older) w b → Marked t n (record a { control = piece.ClearNow k 0 ∷ todo } ∷ older) w b
behind_same t n a older true k todo w b m = m
behind_same t n a older false k todo w b m = m

-- so it is where all marks of the frame lie before the variable
module _ (Z : ℕ → ℕ → Type 0) (t : Table) (few : Few) (s : State) (k : ℕ) (todo : List Todo) where
  abbrev cleared : List Active
  cleared = record s.run { control = piece.ClearNow k 0 ∷ todo } ∷ s.callers

  module _ (before : stacks.FrameBefore Z k s.run.frame cleared) where
    none : (w : Value) (a : Ty) → Marked t s.env.exec cleared w a → w ≡ variable_at k s → (c : ℕ) → a ≡ Cell (Obj c) → ⊥
    none w a m f c g =
        none_there Z t s.env.exec s.run.frame k cleared c before (subst (Marked t s.env.exec cleared (variable_at k s)) g (subst (λ w. Marked t s.env.exec cleared w a) f m))

    lone : (rest : List Todo) → ((w : Value) (b : Ty) → Marked t s.env.exec (record s.run { control = rest } ∷ s.callers) w b → Marked t s.env.exec cleared w b) → (o : ℕ) → few.home o ≡ variable_at k s → LoneBefore t few o rest s
    lone rest same o h =
        (subst (Belongs few s.env.exec) (sym h) (frame refl), free_fewer t few (Marked t s.env.exec (record s.run { control = rest } ∷ s.callers)) (Marked t s.env.exec cleared) same o (λ c m. only_there t (Frame s.env.exec s.run.frame) k few (Marked t s.env.exec cleared) none c (few.home o) h m))

-- the scope of what is being built opens behind the call of its constructor
module _ (Z : ℕ → ℕ → Type 0) (k q : ℕ) (ends : Bool) where
  made_in : (line : ℕ) (rest : Stmts) (todo : List Todo) (End : Room → Type 0) (o : Room) → TodoTo Z End o (opening line (ends_at (OfVariable k) q ends) rest todo) → SomeTo Z End (piece.ClearNow k 0 ∷ todo)
  made_in line rest todo End o h =
      let there = h.1.1 in
      let w = there.0.1 in
      let low = there.0.2.0.0 in
      let high = there.0.2.0.1 in
      let cells = w.cells in
      let wide = w.high in
      (o, (inl (low, omega (arith, high, cells, wide)), there.1))

  some_made : (written : Bool) (r line : ℕ) (rest : Stmts) (todo : List Todo) (End : Room → Type 0) → SomeTo Z End (calling written r ∷ opening line (ends_at (OfVariable k) q ends) rest todo) → SomeTo Z End (piece.ClearNow k 0 ∷ todo)
  some_made true r line rest todo End h = made_in line rest todo End h.0 h.1.1
  some_made false r line rest todo End h = made_in line rest todo End h.0 h.1.1

  made_before : (s : State) → StackState Z s → (written : Bool) (r line : ℕ) (rest : Stmts) (todo : List Todo) → s.run.control ≡ calling written r ∷ opening line (ends_at (OfVariable k) q ends) rest todo → stacks.FrameBefore Z k s.run.frame (record s.run { control = piece.ClearNow k 0 ∷ todo } ∷ s.callers)
  made_before s st written r line rest todo e =
      let b = record s.run { control = piece.ClearNow k 0 ∷ todo } in
      stack_before Z s.env.frames b s.callers k 0 todo refl (stacked_by Z s.env.frames s.run b s.callers refl refl (λ End h. some_made written r line rest todo End (subst (SomeTo Z End) e h)) st.stack.0)

-- what is a field of the execution's own object is its own
module _ (t : Table) (few : Few) (s : State) (st : LoneState t few s) (h : Shape) (i r c : ℕ) (written : Bool) (todo : List Todo) (this : (t.routine r).this ≡ Some c) (whole : (t.routine r).whole ≡ true) where
  abbrev mark : CleanUp
  mark = ends_at (OfField h i) r written

  abbrev owner : Owner
  owner = Frame s.env.exec s.run.frame

  abbrev spot : Value
  spot = further (FieldAt h i) s.run.this

  it : AtField t owner s.run.this mark spot (Cell (Obj c))
  it = (h, i, (refl, this, whole), refl)

  abbrev Claims : List Todo → Type 0
  Claims l = AllLone t few s.env.exec s.run.frame s.run.this s.callers l

  claim : (unwinds : Bool) → Claims (leaving unwinds mark todo) → OfClean t few s.env.exec s.run.frame s.run.this s.callers mark todo
  claim true k = k.0
  claim false k = k.0

  outward : (unwinds : Bool) (w : Value) (b : Ty) → Marked t s.env.exec (record s.run { control = behind unwinds todo } ∷ s.callers) w b → Outward t s.env.exec s.run.frame s.run.this s.callers todo w b
  outward true w b m = m
  outward false w b m = m

  field_lone : (unwinds : Bool) → s.run.control ≡ leaving unwinds mark todo → (o : ℕ) → few.home o ≡ spot → LoneBefore t few o (behind unwinds todo) s
  field_lone unwinds e o f =
      let k = claim unwinds (subst Claims e st.stack.0) in (
        subst (Belongs few s.env.exec) (sym f) (further_own t few s.env.exec (FieldAt h i) s.run.this (k.0 spot (Cell (Obj c)) it)),
        (λ d m.
            k.1 spot (Cell (Obj c)) it spot c d itself (subst (Stands t few (Outward t s.env.exec s.run.frame s.run.this s.callers todo) (Cell (Obj d))) f (stands_more t few (Marked t s.env.exec (record s.run { control = behind unwinds todo } ∷ s.callers)) (Outward t s.env.exec s.run.frame s.run.this s.callers todo) (outward unwinds) (Cell (Obj d)) (few.home o) m))),
      )

-- the way to the object

module _ (source : Source) (s : State) (r : ℕ) where
  enters : (p : Spot) (b : Bool) → (rest : List Todo) (vs : List Value) → Leads source (at (piece.Eval (src.OfObject (src.EndOn r b (src.Load (naming p)))) ∷ rest) vs s) (at (piece.EnterNow DESTRUCTOR r ∷ (calling b r ∷ rest)) (loaded (place_at p s) s.env ∷ vs) s)
  enters (OfVariable k) true rest vs = goes refl (goes refl (goes refl (goes refl (ticks refl stays))))
  enters (OfVariable k) false rest vs = goes refl (goes refl (goes refl (goes refl stays)))
  enters (OfField h i) true rest vs = goes refl (goes refl (goes refl (goes refl (ticks refl stays))))
  enters (OfField h i) false rest vs = goes refl (goes refl (goes refl (goes refl stays)))

  way : (unwinds : Bool) (p : Spot) (written : Bool) (todo : List Todo) → s.run.control ≡ leaving unwinds (ends_at p r written) todo → Leads source s (entering unwinds p r written todo s)
  way true p written todo e =
      goes (ap (λ l. quiet.act_todo source l s) e) (enters p written (piece.DropNow ∷ (piece.Unwind ∷ todo)) [])
  way false p written todo e =
      goes (ap (λ l. quiet.act_todo source l s) e) (enters p written (piece.DropNow ∷ todo) s.run.operands)

pub law_left : LawLeft
law_left = record {
  leads = λ source s unwinds p r written todo e. way source s r unwinds p written todo e;
  left = λ p t few s st unwinds k r written todo e o h.
      lone (Sized p) t few s k todo (left_before (Sized p) k r written s st unwinds todo e) (behind unwinds todo) (behind_same t s.env.exec s.run s.callers unwinds k todo) o h;
  made = λ p t few s st k q ends written r line rest todo e o h.
      lone (Sized p) t few s k todo (made_before (Sized p) k q ends s st written r line rest todo e) (opening line (ends_at (OfVariable k) q ends) rest todo) (λ w b m. m) o h;
  field = λ t few s st unwinds h i r c written todo this whole e o f.
      field_lone t few s st h i r c written todo this whole unwinds e o f;
}

-- what is called begins

no_marks : (t : Table) (n : Exec) (f : ℕ) (this : Value) (p : Purpose) (line : ℕ) (w : Value) (a : Ty) → InTodo (IsFor t (Frame n f) this) (AtField t (Frame n f) this) (quiet.behind_body p line) w a → ⊥
no_marks t n f this src.TaskMain line w a m = m
no_marks t n f this src.CoroutineMain line w a m = m
no_marks t n f this src.Procedure line w a m = m
no_marks t n f this src.Function line w a m = m
no_marks t n f this src.Builder line w a m = m

module _ (t : Table) (few : Few) (source : Source) (s : State) (x : Routine) (todo : List Todo) (v : Value) (vs : List Value) where
  abbrev caller : Active
  caller = record s.run { control = todo; operands = vs }

  abbrev last : List Todo
  last = quiet.behind_body x.purpose x.line

  free_begun : (f : ℕ) → Free t few (object_in v) (Marked t s.env.exec (record s.run { control = todo } ∷ s.callers)) → Free t few (object_in v) (Outward t s.env.exec f v (caller ∷ s.callers) last)
  free_begun f h =
      free_fewer t few (Outward t s.env.exec f v (caller ∷ s.callers) last) (Marked t s.env.exec (record s.run { control = todo } ∷ s.callers)) by (object_in v) h
    where
      by : (w : Value) (a : Ty) → Outward t s.env.exec f v (caller ∷ s.callers) last w a → Marked t s.env.exec (record s.run { control = todo } ∷ s.callers) w a
      by w a (inl m) = absurd (no_marks t s.env.exec f v x.purpose x.line w a m)
      by w a (inr m) = m

  abbrev Out : ℕ → Exec → Value → List Active → Type 0
  Out f n this older = Belongs few n (few.home (object_in this)) × Free t few (object_in this) (Outward t n f this older last)

  opens : (d : State) (b : Stmts) → OpensObject b → Out d.run.frame d.env.exec d.run.this d.callers → PutsAt t few (piece.Rest b ∷ last) d
  opens d (src.Scoped src.Ends rest) o h = h
  opens d (src.Scoped (src.Frees m) rest) o h = h
  opens d b o h = absurd o

  begun : (counts : Bool) → OpensObject x.body → LoneBefore t few (object_in v) todo s → PutsThen t few (quiet.begun_step x v counts todo vs s)
  begun counts o h = opens _ x.body o (h.0, free_begun _ h.1)

law_begins_by : (t : Table) (few : Few) (source : Source) (s : State) (written : Bool) (r : ℕ) (x : Routine) (todo : List Todo) → slice_get source.routines r ≡ Some x → OpensObject x.body → LoneBefore t few (object_in (top (drop x.params s.run.operands))) todo s → PutsThen t few (quiet.act_todo source (calling written r ∷ todo) s)
law_begins_by t few source s true r x todo f o h =
    subst (λ y. PutsThen t few (quiet.call_on_step y todo s)) (sym f) (either (PutsThen t few) (nat_lt s.env.links.calls CALLS) _ _ (begun t few source s x todo _ _ true o h) tt)
law_begins_by t few source s false r x todo f o h =
    subst (λ y. PutsThen t few (quiet.call_unwritten_step y todo s)) (sym f) (begun t few source s x todo _ _ false o h)

pub law_begins : LawBegins
law_begins t few source s written r x todo e f o h =
    subst (λ l. PutsThen t few (quiet.act_todo source l s)) (sym e) (law_begins_by t few source s written r x todo f o h)
