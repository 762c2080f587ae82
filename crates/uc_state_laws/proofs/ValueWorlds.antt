-- In every run in which variables hold objects once they are bound, all is there that is in scope and known by its number.
use Rattle.std.proofs.Common.{◌≡◌, ℕ, ◌+◌, ◌*◌, ◌≤◌, ◌<◌, ◌⊎◌, inl, inr, ◌==◌, ◌||◌, Bool, true, false, List, [], ◌∷◌, ◌++◌, length, Option, Some, None, refl, sym, ap, ◌∙◌, subst, arith, append-nil, append_assoc}
use Rattle.std.specs.Prelude.{min, nat_lt, if◌then◌else◌, slice_get, slice_index_or}
use Rattle.std.proofs.Math.Nat.{min-le_left}
use Rattle.std.proofs.lemmas.Bool.{eqb-true, lt-ltb, ltb-true}
use Rattle.uc_tree.specs.Programs.{Program}
use Rattle.uc_tree.specs.Source as src
use Rattle.uc_tree.specs.Source.{Source, Expr, Stmt, Stmts, CleanUp, Routine, routine_of}
use Rattle.uc_entry.specs.declared.entry.Entry.{Entry}
use Rattle.uc_entry.specs.declared.entry.Options.{Options}
use Rattle.uc_entry.specs.declared.request.Answer.{Answer}
use Rattle.uc_entry.specs.declared.request.Answer.TheVariants as answer
use Rattle.uc_entry.specs.declared.request.Asked.{Asked}
use Rattle.uc_entry.specs.declared.request.Request.{Request}
use Rattle.uc_entry.specs.declared.request.Request.TheVariants as ask
use Rattle.uc_entry.specs.Keyed.{find}
use Rattle.uc_acts.specs.Journal.{Journal, held, own_object, is_over}
use Rattle.uc_acts.specs.Known.{ends as ends_task, has_ended, spawns, takes_out}
use Rattle.uc_acts.specs.Serves.{left}
use Rattle.uc_acts.specs.Acts.{act, dispatch, lone_limit}
use Rattle.uc_acts.specs.KernelRuns.{InRange, MayAsk}
use Rattle.uc_acts.specs.Answers.{answer_to}
use Rattle.uc_acts.specs.Queues.{cluster_count}
use Rattle.uc_acts.proofs.Bounds.{over_limit}
use Rattle.uc_acts.proofs.SoundLemmas.{ended_push}
use Rattle.uc_machine.specs.Pieces as piece
use Rattle.uc_machine.specs.Pieces.{Link, Slot, At, Value, Todo, Sort, Active, LAST_ADDRESS, address, at, loaded, nought, object_in}
use Rattle.uc_machine.specs.Executions.{at_depth, list_in, frames_in, parked_at}
use Rattle.uc_machine.specs.Quiet as quiet
use Rattle.uc_machine.specs.Quiet.{State, Members, no_members, first_state}
use Rattle.uc_machine.specs.Answering.{answered, child_main, with_operand}
use Rattle.uc_machine.specs.Rides as rides
use Rattle.uc_machine.specs.Rides.{Rides}
use Rattle.uc_meaning.specs.Runs.{World, AsksIn, May, Runs, gives, no_room, acts, begun, more, bare, with_home, hand_of, drawn, or_else, world_after}
use Rattle.uc_resolve.specs.Resolve.{source_of}
use Rattle.uc_rules.specs.Breaks.{breaks_of}
use Rattle.uc_state_laws.specs.Fitting.{MayFit, RunFits}
use Rattle.uc_state_laws.proofs.Alive.{law_alive}
use Rattle.uc_state_laws.proofs.Makes.{law_ends as law_last}
use Rattle.uc_state_laws.proofs.Others.{RunRests, may_ask, run_rests}
use Rattle.uc_answer_laws.specs.Suiting.{Form, AnObject, JustGo, IsForm, asked_form, form_of_request, AsksFor}
use Rattle.uc_answer_laws.proofs.Told.{form_push}
use Rattle.uc_answer_laws.proofs.Runs.{law_suiting}
use Rattle.uc_answer_laws.proofs.Asking.{law_asking}
use Rattle.uc_state_laws.specs.Rooms.{Room, IsWithin, SourceIn, LiesAt, LiesIn, Destroyed, Lies, StmtIn, StmtsIn, MaybeRoutineIn}
use Rattle.uc_state_laws.specs.RoomStates as rooms
use Rattle.uc_state_laws.specs.RoomStacks as stacks
use Rattle.uc_state_laws.specs.RoomStacks.{UpTo, SomeTo, Beneath, StackState, StackStep}
use Rattle.uc_state_laws.specs.Layout.{Sized}
use Rattle.uc_state_laws.specs.RoomRuns as runs
use Rattle.uc_state_laws.specs.RoomRuns.{Leads, Comes}
use Rattle.uc_state_laws.proofs.RoomLemmas.{joined}
use Rattle.uc_state_laws.proofs.Stacks.{up_to}
use Rattle.uc_state_laws.proofs.StackWalk as stacking
use Rattle.uc_state_laws.proofs.StackWorlds as stacked
use Rattle.uc_state_laws.proofs.StackWorlds.{StackWorld}
use Rattle.uc_state_laws.proofs.Unreferring.{law_accepted}
use Rattle.uc_state_laws.specs.There.{EndsAt, OfVariable, OfElements, OfEach, IsThere, IsGiven, CleanBy, OfBound, OpensBound, NextBound, EachNext, EachCall, IsFew, AllLeft, Any, IsBefore, AllBefore, FrameBefore, frame_at}
use Rattle.uc_state_laws.specs.ThereStates.{CountedHand, CountedMembers, CountedEnv, CountedState, RoutineBegins, SourceBegins, BodiesBegin, ScopeFits, BoundFits, FairAt, Fair}
use Rattle.uc_state_laws.specs.Declaring as point
use Rattle.uc_state_laws.specs.Declaring.{Point, point_todo, PointHolds}
use Rattle.uc_state_laws.specs.Filling as fill
use Rattle.uc_state_laws.specs.FillingStates.{AsksObject, Finding, FillingBy, FillWaits}
use Rattle.uc_state_laws.specs.NewClusters as way
use Rattle.uc_state_laws.specs.NewClusters.{Stage, stage_todo, StageHoldsBy, OpeningBy, WaitingBy, OnWayBy, GoodBy, IsLast, AskedBy, GoodStepBy}
use Rattle.uc_state_laws.specs.Opens.{OpensAt, Opens, LawFair, RideOpens, MayOpen, RunOpens, LeadsOpen, TellsFew, RestsBy, AllIsCounted, LawRuns, LawCounts, LeavesCluster, EndsCluster, LawEnds}
use Rattle.uc_state_laws.proofs.Cells.{either, held_left}
use Rattle.uc_state_laws.proofs.ValueKeeping.{found_hand}
use Rattle.uc_state_laws.proofs.Counts.{some_cluster, grows, told_own, told_others, one_kept}
use Rattle.uc_state_laws.proofs.ValueSteps.{exec_same, here}
use Rattle.uc_state_laws.proofs.ValueWalk.{walk, first, answered_there, waited, fill_told}

no_both : {A : Type 0} (b : Bool) → b ≡ true → b ≡ false → A
no_both b t f = absurd (cc)

-- who has not ended had not ended before
ended_before : (j : Journal) (a : List Entry) (t : ℕ) → has_ended t (j ++ a) ≡ false → has_ended t j ≡ false
ended_before j [] t h = ap (has_ended t) (sym (append-nil j)) ∙ h
ended_before j (e ∷ a) t h =
    first (has_ended t j) (ends_task t e.kind e) (sym (ended_push t j e) ∙ ended_before (j ++ e ∷ []) a t (ap (has_ended t) (append_assoc j (e ∷ []) a) ∙ h))
  where
    first : (b c : Bool) → (b || c) ≡ false → b ≡ false
    first true c g = cc
    first false c g = refl

-- what lies before a cell

single_before : (cell k : ℕ) → k + 1 ≤ cell → IsBefore cell (Slot k ∷ [])
single_before cell k h = let m : min (0 + k) LAST_ADDRESS ≤ 0 + k = min-le_left (0 + k) LAST_ADDRESS in omega (arith, m, h)

element_before : (cell k n j : ℕ) → k + n ≤ cell → j < n → IsBefore cell (At src.Binding j ∷ (Slot k ∷ []))
element_before cell k n j h l =
    let m : min (0 + k) LAST_ADDRESS ≤ 0 + k = min-le_left (0 + k) LAST_ADDRESS in
    let e : min (min (0 + k) LAST_ADDRESS + j * 1) LAST_ADDRESS ≤ min (0 + k) LAST_ADDRESS + j * 1 = min-le_left (min (0 + k) LAST_ADDRESS + j * 1) LAST_ADDRESS in
    omega (arith, m, e, h, l)

module _ (Z : ℕ → ℕ → Type 0) where
  -- what lies between two cells, of which the second one is no later

  at_before : (cell low high : ℕ) (e : Expr) → high ≤ cell → LiesAt Z low high 1 1 e → OfVariable (IsBefore cell) e
  at_before cell low high (src.Variable k) le h = single_before cell k (let l = h.1 in omega (arith, l, le))
  at_before cell low high e le h = tt

  in_before : (cell low high n : ℕ) (e : Expr) → high ≤ cell → LiesIn Z low high n 1 e → OfElements n (IsBefore cell) e
  in_before cell low high n (src.Element m src.Binding (src.Variable k) (src.OfObject src.Counted)) le h = λ j l. element_before cell k n j (let b = h.1.1 in omega (arith, b, le)) l
  in_before cell low high n (src.Element m src.Binding (src.Variable k) i) le h = absurd h
  in_before cell low high n e le h = tt

  ends_before : (lies : ℕ → Expr → Type 0) (P : Expr → Type 0) (e : Expr) → ((x : Expr) → lies 1 x → P x) → Destroyed Z lies e → EndsAt P e
  ends_before lies P (src.OfObject (src.EndOn r written (src.Load e))) f h = f e h
  ends_before lies P (src.OfObject (src.EndCluster (src.Load e))) f h = f e h
  ends_before lies P (src.OfObject (src.EndProcessor (src.Load e))) f h = f e h
  ends_before lies P e f h = tt

  lies_before : (cell low high : ℕ) (c : CleanUp) → high ≤ cell → Lies Z low high c → OfEach (IsBefore cell) c
  lies_before cell low high (src.Destroys e) le h = ends_before (LiesAt Z low high 1) (OfVariable (IsBefore cell)) e (λ x. at_before cell low high x le) h
  lies_before cell low high (src.DestroysAll n e) le h = ends_before (LiesIn Z low high n) (OfElements n (IsBefore cell)) e (λ x. in_before cell low high n x le) h
  lies_before cell low high c le h = tt

  clean_before : (cell : ℕ) (c : CleanUp) → Lies Z 0 cell c → OfEach (IsBefore cell) c
  clean_before cell c h = lies_before cell 0 cell c (omega arith) h

  before_by : (cell : ℕ) (s : Sort) → rooms.IsBefore Z cell s → CleanBy (OfEach (IsBefore cell)) s
  before_by cell (piece.IsClean c) h = clean_before cell c h
  before_by cell s h = tt

  all_before : (cell : ℕ) (todo : List Todo) → rooms.AllBefore Z cell todo → AllBefore cell todo
  all_before cell [] h = tt
  all_before cell (p ∷ todo) h = (before_by cell (piece.sort p) h.0, all_before cell todo h.1)

  -- what opens next lies in the room of what is to do next

  bound_before : (cell low high : ℕ) (c : CleanUp) → high ≤ cell → Lies Z low high c → OfBound (IsBefore cell) c
  bound_before cell low high (src.Destroys (src.OfObject (src.EndProcessor (src.Load (src.Variable k))))) le h = λ near. single_before cell k (let l = h.1 in omega (arith, l, le))
  bound_before cell low high (src.Destroys (src.OfObject (src.EndOn r written (src.Load (src.Variable k))))) le h = λ near. single_before cell k (let l = h.1 in omega (arith, l, le))
  bound_before cell low high c le h = tt

  opens_before : (cell : ℕ) (o : Room) (ss : Stmts) → o.high ≤ cell → StmtsIn Z o ss → OpensBound (IsBefore cell) ss
  opens_before cell o (src.Scoped c rest) le h =
      let m : Room = h.0 in
      let w : IsWithin o m = h.1 in
      let a = w.cells in
      let b = w.high in
      bound_before cell o.low m.low c (omega (arith, le, a, b)) h.2.0
  opens_before cell o ss le h = tt

  next_before : (cell : ℕ) (todo : List Todo) → Beneath Z cell todo → NextBound (IsBefore cell) todo
  next_before cell (piece.Rest ss ∷ todo) h = opens_before cell h.0 ss h.1 h.2.0
  next_before cell (piece.Within line ∷ (piece.Rest ss ∷ todo)) h = opens_before cell h.0 ss h.1 h.2.1.0
  next_before cell (piece.DropNow ∷ (piece.Within line ∷ (piece.Rest ss ∷ todo))) h = opens_before cell h.0 ss h.1 h.2.1.1.0
  next_before cell (piece.CallOnNow r ∷ (piece.DropNow ∷ (piece.Within line ∷ (piece.Rest ss ∷ todo)))) h = opens_before cell h.0 ss h.1 h.2.1.1.1.0
  next_before cell (piece.CallUnwrittenNow r ∷ (piece.DropNow ∷ (piece.Within line ∷ (piece.Rest ss ∷ todo)))) h = opens_before cell h.0 ss h.1 h.2.1.1.1.0
  next_before cell todo h = tt

  -- so do the elements of an array that is being filled
  scope_before : (cell : ℕ) (o : Room) (c : CleanUp) (rest : Stmts) → o.high ≤ cell → StmtsIn Z o (src.Scoped c rest) → OfEach (IsBefore cell) c
  scope_before cell o c rest le h =
      let m : Room = h.0 in
      let w : IsWithin o m = h.1 in
      let a = w.cells in
      let b = w.high in
      lies_before cell o.low m.low c (omega (arith, le, a, b)) h.2.0

  each_before : (cell : ℕ) (todo : List Todo) → Beneath Z cell todo → EachNext (IsBefore cell) todo
  each_before cell (piece.DropNow ∷ (piece.MoreNow ∷ (piece.FillNow n b d ∷ (piece.Within line ∷ (piece.Rest (src.Scoped c rest) ∷ todo))))) h =
      scope_before cell h.0 c rest h.1 h.2.1.1.1.1.0
  each_before cell todo h = tt

  each_fits : (n : ℕ) (todo : List Todo) → SomeTo Z (UpTo n) todo → EachNext (IsBefore n) todo
  each_fits n (piece.DropNow ∷ (piece.MoreNow ∷ (piece.FillNow m b d ∷ (piece.Within line ∷ (piece.Rest (src.Scoped c rest) ∷ todo))))) h =
      scope_before n h.0 c rest (up_to Z n h.0 todo h.1.1.1.1.1.1) h.1.1.1.1.1.0
  each_fits n todo h = tt

  call_fits : (n : ℕ) (todo : List Todo) → SomeTo Z (UpTo n) todo → EachCall (IsBefore n) todo
  call_fits n (piece.CallOnNow r ∷ todo) h = each_fits n todo (h.0, h.1.1)
  call_fits n (piece.CallUnwrittenNow r ∷ todo) h = each_fits n todo (h.0, h.1.1)
  call_fits n todo h = tt

  frame_before : (cell f : ℕ) (cs : List Active) → stacks.FrameBefore Z cell f cs → stacks.FrameBeneath Z cell f cs → FrameBefore cell f cs
  frame_before cell f [] h b = tt
  frame_before cell f (c ∷ cs) h b = ((λ e. (all_before cell c.control (h.0 e), next_before cell c.control (b.0 e), each_before cell c.control (b.0 e))), frame_before cell f cs h.1 b.1)

  -- in a frame of which all cells have addresses what opens is given

  given_there : (vs : List Value) (low high : ℕ) (c : CleanUp) → high ≤ LAST_ADDRESS → Lies Z low high c → (IsGiven c → ⊥) → IsThere vs c
  given_there vs low high (src.Destroys (src.OfObject (src.EndCluster (src.Load (src.Variable k))))) le h f = let l = h.1 in absurd (f (omega (arith, le, l)))
  given_there vs low high (src.Destroys (src.OfObject (src.EndProcessor (src.Load (src.Variable k))))) le h f = let l = h.1 in absurd (f (omega (arith, le, l)))
  given_there vs low high (src.Destroys (src.OfObject (src.EndOn r written (src.Load (src.Variable k))))) le h f = let l = h.1 in absurd (f (omega (arith, le, l)))
  given_there vs low high (src.DestroysAll n (src.OfObject (src.EndCluster (src.Load (src.Element m src.Binding (src.Variable k) (src.OfObject src.Counted)))))) le h f = let l = h.1.1 in absurd (f (omega (arith, le, l)))
  given_there vs low high (src.DestroysAll n (src.OfObject (src.EndProcessor (src.Load (src.Element m src.Binding (src.Variable k) (src.OfObject src.Counted)))))) le h f = let l = h.1.1 in absurd (f (omega (arith, le, l)))
  given_there vs low high (src.DestroysAll n (src.OfObject (src.EndOn r written (src.Load (src.Element m src.Binding (src.Variable k) (src.OfObject src.Counted)))))) le h f = let l = h.1.1 in absurd (f (omega (arith, le, l)))
  given_there vs low high (src.DestroysAll n (src.OfObject (src.EndCluster (src.Load (src.Element m src.Binding (src.Variable k) i))))) le h f = absurd h
  given_there vs low high (src.DestroysAll n (src.OfObject (src.EndProcessor (src.Load (src.Element m src.Binding (src.Variable k) i))))) le h f = absurd h
  given_there vs low high (src.DestroysAll n (src.OfObject (src.EndOn r written (src.Load (src.Element m src.Binding (src.Variable k) i))))) le h f = absurd h
  given_there vs low high c le h f = tt

  opens_there : (n : ℕ) (vs : List Value) (o : Room) (c : CleanUp) (rest : Stmts) → o.high ≤ n → n ≤ LAST_ADDRESS → StmtsIn Z o (src.Scoped c rest) → (IsGiven c → ⊥) → IsThere vs c
  opens_there n vs o c rest le short h f =
      let m : Room = h.0 in
      let w : IsWithin o m = h.1 in
      let a = w.cells in
      let b = w.high in
      given_there vs o.low m.low c (omega (arith, le, short, a, b)) h.2.0 f

  -- a cluster lies in the frame

  scope_fits : (n : ℕ) (o : Room) (ss : Stmts) → o.high ≤ n → StmtsIn Z o ss → ScopeFits n ss
  scope_fits n o (src.Scoped (src.Destroys (src.OfObject (src.EndCluster (src.Load (src.Variable k))))) rest) l h =
      let m : Room = h.0 in
      let w : IsWithin o m = h.1 in
      let a = w.cells in
      let b = w.high in
      let c = h.2.0.1 in
      omega (arith, l, a, b, c)
  scope_fits n o ss l h = tt

  bound_fits : (n : ℕ) (todo : List Todo) → SomeTo Z (UpTo n) todo → BoundFits n todo
  bound_fits n (piece.DropNow ∷ (piece.Within line ∷ (piece.Rest ss ∷ todo))) h =
      scope_fits n h.0 ss (up_to Z n h.0 todo h.1.1.1.1) h.1.1.1.0
  bound_fits n todo h = tt

  -- what stands within a statement
  bodies : (o : Room) (a : Stmt) → StmtIn Z o a → BodiesBegin a
  bodies o (src.Block line body) h = h.1
  bodies o (src.Whole line body) h = h.1
  bodies o (src.OfEvents (src.Try line body hs)) h = (h.7, h.8)
  bodies o a h = tt

  fair : (source : Source) (s : State) → StackState Z s → Opens source s → Fair source s
  fair source s st o = by s.run.control refl o
    where
      to : (l : List Todo) → s.run.control ≡ l → SomeTo Z (UpTo (length (frame_at s.run.frame s.env.frames))) l
      to l e = subst (SomeTo Z (UpTo (length (frame_at s.run.frame s.env.frames)))) e (stacking.rooms Z s st 0 s.run refl)

      by : (l : List Todo) → s.run.control ≡ l → OpensAt source l s → FairAt source l s
      by (piece.ClearNow k n ∷ todo) e o =
          let before = stacking.cleared Z s st k n todo e in
          let own : rooms.AllBefore Z k (piece.ClearNow k n ∷ todo) = subst (rooms.AllBefore Z k) e (before.0 refl) in
          (all_before k todo own.1, frame_before k s.run.frame s.callers before.1 (stacking.beneath Z s st k n todo e))
      by (piece.Rest (src.Scoped c rest) ∷ todo) e o =
          let n : ℕ = length (frame_at s.run.frame s.env.frames) in
          let t = to (piece.Rest (src.Scoped c rest) ∷ todo) e in
          (joined Z t.0 (src.Scoped c rest) t.1.0, opens_there n (frame_at s.run.frame s.env.frames) t.0 c rest (up_to Z n t.0 todo t.1.1) o t.1.0)
      by (piece.Rest ss ∷ todo) e o = let t = to (piece.Rest ss ∷ todo) e in (joined Z t.0 ss t.1.0, tt)
      by (piece.Do a ∷ todo) e o = let t = to (piece.Do a ∷ todo) e in bodies t.0 a t.1.0
      by (piece.BindNow ∷ todo) e o = let t = to (piece.BindNow ∷ todo) e in (bound_fits (length (frame_at s.run.frame s.env.frames)) todo (t.0, t.1.1), o.0, o.1, each_fits (length (frame_at s.run.frame s.env.frames)) todo (t.0, t.1.1))
      by (piece.BindMadeNow c r ∷ todo) e o =
          let t = to (piece.BindMadeNow c r ∷ todo) e in
          (o.0, o.1, call_fits (length (frame_at s.run.frame s.env.frames)) todo (t.0, t.1.1), o.2)
      by (piece.SetUpNow r ∷ todo) e o = o
      by l e o = tt

  begins_by : (r : Option Routine) → MaybeRoutineIn Z r → RoutineBegins r
  begins_by None h = tt
  begins_by (Some r) h = h.begins

pub law_fair : LawFair
law_fair = record {
  begins = λ p source h n. begins_by (Sized p) (slice_get source.routines n) (h n);
  fair = λ p source s st o. fair (Sized p) source s st o;
}

module _ (Few : ℕ → Bool) where
  -- what is at home in objects

  home_there : (o : ℕ) (x : Option Members) (hand : List (ℕ × Members)) → CountedMembers Few x → CountedHand Few hand → CountedHand Few (with_home o x hand)
  home_there o None hand h k = k
  home_there o (Some m) hand h k = (h, k)

  hand_there : (os : List ℕ) (homes : ℕ → Option Members) → ((o : ℕ) → CountedMembers Few (homes o)) → CountedHand Few (hand_of os homes)
  hand_there [] homes h = tt
  hand_there (o ∷ os) homes h = home_there o (homes o) (hand_of os homes) (h o) (hand_there os homes h)

  or_there : (x y : Option Members) → CountedMembers Few x → CountedMembers Few y → CountedMembers Few (or_else x y)
  or_there None y h k = k
  or_there (Some m) y h k = h

  -- a task with other things in hand

  abbrev with_hand : (hand : List (ℕ × Members)) → State → State
  with_hand hand s = record s { env = record s.env { hand = hand } }

  hand_state : (hand : List (ℕ × Members)) (s : State) → CountedHand Few hand → CountedState Few s → CountedState Few (with_hand hand s)
  hand_state hand s k h = record { frames = h.frames; stack = h.stack; env = record { house = h.env.house; hand = k } }

  hand_holds : (hand : List (ℕ × Members)) (g : Stage) (k : ℕ) (ss : Stmts) (s : State) → StageHoldsBy Few g k ss s → StageHoldsBy Few g k ss (with_hand hand s)
  hand_holds hand way.Does k ss s h = h
  hand_holds hand way.Binds k ss s h = h
  hand_holds hand way.Places k ss s h = h
  hand_holds hand way.Makes k ss s h = h
  hand_holds hand way.Orders k ss s h = h
  hand_holds hand way.Told k ss s h = h
  hand_holds hand way.Bound k ss s h = h
  hand_holds hand way.Leaves k ss s h = h
  hand_holds hand way.Opens k ss s h = h

  hand_opening : (hand : List (ℕ × Members)) (s : State) → CountedHand Few hand → OpeningBy Few s → OpeningBy Few (with_hand hand s)
  hand_opening hand s k h = record {
    cell = h.cell;
    line = h.line;
    next = h.next;
    todo = h.todo;
    stage = h.stage;
    control = h.control;
    follows = h.follows;
    holds = hand_holds hand h.stage h.cell h.next s h.holds;
    frames = h.frames;
    frame = h.frame;
    behind = h.behind;
    callers = h.callers;
    env = record { house = h.env.house; hand = k };
  }

  hand_point : (hand : List (ℕ × Members)) (g : Point) (k n : ℕ) (s : State) → PointHolds g k n s → PointHolds g k n (with_hand hand s)
  hand_point hand (point.Declares m d) k n s h = h
  hand_point hand (point.Lists m d) k n s h = h
  hand_point hand (point.Clears m d) k n s h = h
  hand_point hand (point.Cleared m) k n s h = h
  hand_point hand (point.Passes m) k n s h = h
  hand_point hand point.Reaches k n s h = h

  hand_finding : (hand : List (ℕ × Members)) (g : fill.Stage) (x : fill.Array) (s : State) → Finding g x s → Finding g x (with_hand hand s)
  hand_finding hand fill.Indexes x s h = h
  hand_finding hand fill.Elements x s h = h
  hand_finding hand fill.Found x s h = h
  hand_finding hand fill.Nears x s h = h
  hand_finding hand fill.Asks x s h = h
  hand_finding hand fill.Told x s h = h
  hand_finding hand g x s h = tt

  hand_filling : (hand : List (ℕ × Members)) (s : State) → CountedHand Few hand → FillingBy Few s → FillingBy Few (with_hand hand s)
  hand_filling hand s k h = record {
    array = h.array;
    stage = h.stage;
    control = h.control;
    ends = h.ends;
    begins = h.begins;
    loose = h.loose;
    there = h.there;
    missing = h.missing;
    finding = hand_finding hand h.stage h.array s h.finding;
    frames = h.frames;
    frame = h.frame;
    behind = h.behind;
    callers = h.callers;
    env = record { house = h.env.house; hand = k };
  }

  hand_way : (hand : List (ℕ × Members)) (s : State) → CountedHand Few hand → OnWayBy Few s → OnWayBy Few (with_hand hand s)
  hand_way hand s k (inl h) =
      inl (record {
        cell = h.cell;
        count = h.count;
        binder = h.binder;
        next = h.next;
        todo = h.todo;
        point = h.point;
        control = h.control;
        binds = h.binds;
        holds = hand_point hand h.point h.cell h.count s h.holds;
        frames = h.frames;
        frame = h.frame;
        behind = h.behind;
        callers = h.callers;
        env = record { house = h.env.house; hand = k };
      })
  hand_way hand s k (inr (inl h)) = inr (inl (hand_opening hand s k h))
  hand_way hand s k (inr (inr h)) = inr (inr (hand_filling hand s k h))

  hand_waiting : (hand : List (ℕ × Members)) (s : State) → CountedHand Few hand → WaitingBy Few s → WaitingBy Few (with_hand hand s)
  hand_waiting hand s k h o w = hand_opening hand (with_operand (piece.Object o) s) k (h o w)

  hand_rests : (source : Source) (j : Journal) (t : ℕ) (hand : List (ℕ × Members)) (s : State) → CountedHand Few hand → RestsBy Few source j t s → RestsBy Few source j t (with_hand hand s)
  hand_rests source j t hand s k (inl h) = inl (hand_state hand s k h)
  hand_rests source j t hand s k (inr (inl h)) = inr (inl (h.0, hand_waiting hand s k h.1, h.2))
  hand_rests source j t hand s k (inr (inr (inl h))) = inr (inr (inl (h.0, λ o. hand_filling hand (with_operand (piece.Object o) s) k (h.1 o))))
  hand_rests source j t hand s k (inr (inr (inr h))) = inr (inr (inr (h.0, hand_way hand s k h.1)))

  -- what a task has asked of the form

  same_form : (source : Source) (j i : Journal) (t : ℕ) (s : State) → asked_form t i ≡ asked_form t j → ((o : ℕ) → answer_to source.sites t i ≡ Some (answer.Object o) → answer_to source.sites t j ≡ Some (answer.Object o)) → RestsBy Few source j t s → RestsBy Few source i t s
  same_form source j i t s e f (inl h) = inl h
  same_form source j i t s e f (inr (inl h)) = inr (inl (e ∙ h.0, h.1, λ o q. h.2 o (f o q)))
  same_form source j i t s e f (inr (inr (inl h))) = inr (inr (inl (e ∙ h.0, h.1)))
  same_form source j i t s e f (inr (inr (inr h))) = inr (inr (inr (e ∙ h.0, h.1)))

  -- where a ride ends
  abbrev RiddenState : Request → State → Type 0
  RiddenState r s =
      CountedState Few s ⊎
      (((r ≡ ask.Cluster) × WaitingBy Few s) ⊎ ((AsksObject r × FillWaits Few s) ⊎ (((r ≡ ask.Slice) × OnWayBy Few s) ⊎ (IsLast r × CountedEnv Few s.env))))

  asked_ridden : (r : Request) (s : State) → AskedBy Few r s → RiddenState r s
  asked_ridden r s (inl h) = inl h
  asked_ridden r s (inr (inl h)) = inr (inl h)
  asked_ridden r s (inr (inr (inl h))) = inr (inr (inl h))
  asked_ridden r s (inr (inr (inr h))) = inr (inr (inr (inr h)))

  sliced : (s : State) → GoodBy Few s → RiddenState ask.Slice s
  sliced s (inl h) = inl h
  sliced s (inr h) = inr (inr (inr (inl (refl, h))))

  -- some number is one of these
  abbrev SomeFew : Type 0
  SomeFew = (n : ℕ) × (Few n ≡ true)

  way_env : (s : State) → OnWayBy Few s → CountedEnv Few s.env
  way_env s (inl h) = h.env
  way_env s (inr (inl h)) = h.env
  way_env s (inr (inr h)) = h.env

  ridden_env : SomeFew → (r : Request) (s : State) → RiddenState r s → CountedEnv Few s.env
  ridden_env f r s (inl h) = h.env
  ridden_env f r s (inr (inl h)) = (h.1 f.0 f.1).env
  ridden_env f r s (inr (inr (inl h))) = (h.1 0).env
  ridden_env f r s (inr (inr (inr (inl h)))) = way_env s h.1
  ridden_env f r s (inr (inr (inr (inr h)))) = h.1

  no_last : (r : Request) → IsLast r → (r ≡ ask.End → ⊥) → ((n : ℕ) → r ≡ ask.Fault n → ⊥) → ⊥
  no_last ask.End h e f = e refl
  no_last (ask.Fault n) h e f = f n refl
  no_last r h e f = h

  ridden_rests : (source : Source) (j : Journal) (t : ℕ) (r : Request) (s : State) → asked_form t j ≡ form_of_request r → (r ≡ ask.Cluster → TellsFew Few source t j) → (r ≡ ask.End → ⊥) → ((n : ℕ) → r ≡ ask.Fault n → ⊥) → RiddenState r s → RestsBy Few source j t s
  ridden_rests source j t r s e f n m (inl h) = inl h
  ridden_rests source j t r s e f n m (inr (inl h)) = inr (inl (e ∙ ap form_of_request h.0, h.1, f h.0))
  ridden_rests source j t r s e f n m (inr (inr (inl h))) = inr (inr (inl (e ∙ h.0, h.1)))
  ridden_rests source j t r s e f n m (inr (inr (inr (inl h)))) = inr (inr (inr (e ∙ ap form_of_request h.0, h.1)))
  ridden_rests source j t r s e f n m (inr (inr (inr (inr h)))) = absurd (no_last r h.0 n m)

  -- a task goes on with an answer

  told_waiting : (source : Source) (given : Answer) (s : State) → IsForm AnObject given → ((o : ℕ) → given ≡ answer.Object o → Few o ≡ true) → WaitingBy Few s → GoodBy Few (answered source given s)
  told_waiting source (answer.Object o) s f w h = inr (inr (inl (waited Few source o s (w o refl) h)))
  told_waiting source given s f w h = absurd f

  told_filling : (source : Source) (given : Answer) (s : State) → IsForm AnObject given → FillWaits Few s → GoodBy Few (answered source given s)
  told_filling source (answer.Object o) s f h = inr (inr (inr (fill_told Few source o s h)))
  told_filling source given s f h = absurd f

  told_opening : (source : Source) (given : Answer) (s : State) → IsForm JustGo given → OnWayBy Few s → GoodBy Few (answered source given s)
  told_opening source answer.Go s f h = inr h
  told_opening source given s f h = absurd f

  told_rests : (source : Source) (given : Answer) (j : Journal) (t : ℕ) (s : State) → IsForm (asked_form t j) given → answer_to source.sites t j ≡ Some given → RestsBy Few source j t s → GoodBy Few (answered source given s)
  told_rests source given j t s f a (inl h) = inl (answered_there Few source given s h)
  told_rests source given j t s f a (inr (inl h)) = told_waiting source given s (subst (λ (x : Form). IsForm x given) h.0 f) (λ o q. h.2 o (a ∙ ap (λ (x : Answer). Some x) q)) h.1
  told_rests source given j t s f a (inr (inr (inl h))) = told_filling source given s (subst (λ (x : Form). IsForm x given) h.0 f) h.1
  told_rests source given j t s f a (inr (inr (inr h))) = told_opening source given s (subst (λ (x : Form). IsForm x given) h.0 f) h.1

  -- all clusters that there are have such numbers
  abbrev Below : Journal → Type 0
  Below j = (n : ℕ) → n < cluster_count j → Few n ≡ true

  some_few : (j : Journal) → Below j → SomeFew
  some_few j low = let l = some_cluster j in (0, low 0 (omega (arith, l)))

  object_same : (n o : ℕ) → Some (answer.Object n) ≡ Some (answer.Object o) → n ≡ o
  object_same n o e = cc

  -- tasks at rest
  record CountedWorld (source : Source) (j : Journal) (w : World) : Type 0 where
    tasks : (t : ℕ) → has_ended t j ≡ false → RestsBy Few source j t (w.tasks t)
    homes : (o : ℕ) → CountedMembers Few (w.homes o)

  module _ (Z : ℕ → ℕ → Type 0) (source : Source) (known : SourceIn Z source) where
    begin : SourceBegins source
    begin n = begins_by Z (slice_get source.routines n) (known n)

    -- one step
    steps_to : (s : State) → StackState Z s → Opens source s → GoodBy Few s → GoodStepBy Few (quiet.quiet source s)
    steps_to s st o h = walk Few source begin s h (fair Z source s st o)

    stack_to : (s : State) → StackState Z s → StackStep Z (quiet.quiet source s)
    stack_to s st = stacking.walk Z source known s st

    led : {s u : State} (l : Leads source s u) → LeadsOpen source s u l → StackState Z s → GoodBy Few s → GoodBy Few u
    led runs.stays o st h = h
    led (runs.goes {s} e l) o st h = led l o.1 (subst (StackStep Z) e (stack_to s st)) (subst (GoodStepBy Few) e (steps_to s st o.0 h))
    led (runs.ticks {s} e l) o st h = led l o.1 (subst (StackStep Z) e (stack_to s st)) (subst (GoodStepBy Few) e (steps_to s st o.0 h))

    ridden : {s u : State} {q k : ℕ} {a : Asked} (r : Rides source s q u k a) → RideOpens source s q u k a r → StackState Z s → GoodBy Few s → RiddenState a.request u
    ridden (rides.slices {s}) o st h = sliced s h
    ridden (rides.goes_on {s} {t} e r) o st h = ridden r o.1 (subst (StackStep Z) e (stack_to s st)) (subst (GoodStepBy Few) e (steps_to s st o.0 h))
    ridden (rides.ticks {s} {t} e r) o st h = ridden r o.1 (subst (StackStep Z) e (stack_to s st)) (subst (GoodStepBy Few) e (steps_to s st o.0 h))
    ridden (rides.asks {s} {t} {q} {r} e) o st h = asked_ridden r t (subst (GoodStepBy Few) e (steps_to s st o h))

    begun_stack : (given : Answer) (j : Journal) (w : World) (t : ℕ) → StackWorld Z w → StackState Z (answered source given (drawn j w t))
    begun_stack given j w t x = stacking.answered_rests Z source given (drawn j w t) (stacked.drawn_rests Z j w t x)

    begun_there : (given : Answer) (j : Journal) (w : World) (t : ℕ) → has_ended t j ≡ false → IsForm (asked_form t j) given → answer_to source.sites t j ≡ Some given → CountedWorld source j w → GoodBy Few (answered source given (drawn j w t))
    begun_there given j w t alive f a n =
        told_rests source given j t (drawn j w t) f a (hand_rests source j t (hand_of (held t j) w.homes) (w.tasks t) (hand_there (held t j) w.homes n.homes) (n.tasks t alive))

    module _ (input : List ℕ) (opts : Options) (range : InRange opts) where
      acts_there : {j : Journal} {w : World} → RunRests source input opts j w → is_over j ≡ false → StackWorld Z w → CountedWorld source j w → (p t n : ℕ) (s : State) (asked : Asked) (d : AsksIn source opts j w p t n s asked) → RideOpens source (answered source d.given (drawn j w t)) (left opts j t) s n asked d.rides → MayAsk opts source.sites j p t n asked.request → is_over (j ++ act opts source.sites input j p t n asked) ≡ false → Below (j ++ act opts source.sites input j p t n asked) → CountedWorld source (j ++ act opts source.sites input j p t n asked) (world_after source (act opts source.sites input j p t n asked) w t s)
      acts_there {j} {w} r going st x p t n s asked d o m on low =
          let a : List Entry = act opts source.sites input j p t n asked in
          let asks = law_asking opts source.sites input j p t n asked r.kernel m on in
          let there : RiddenState asked.request s = ridden d.rides o (begun_stack d.given j w t st) (begun_there d.given j w t (law_alive opts source.sites input j r.kernel going p t d.runs) (law_suiting opts source.sites input j r.kernel going t d.given d.told) d.told x) in
          record {
            tasks = λ u h. by_task u asks there h;
            homes = λ q. either (CountedMembers Few) (takes_out a q) None (or_else (find q s.env.hand) (w.homes q)) tt (or_there (find q s.env.hand) (w.homes q) (found_hand Few q s.env.hand (ridden_env (some_few (j ++ a) low) asked.request s there).hand) (x.homes q));
          }
        where
          after : List Entry
          after = act opts source.sites input j p t n asked

          told : asked.request ≡ ask.Cluster → TellsFew Few source t (j ++ after)
          told q o e =
              let new = told_own opts source.sites input j p t n asked q on in
              let same : cluster_count j ≡ o = object_same (cluster_count j) o (sym new.answer ∙ e) in
              low o (subst (λ (x : ℕ). x < cluster_count (j ++ after)) same new.count)

          by_task : (u : ℕ) → AsksFor j after t asked.request → RiddenState asked.request s → has_ended u (j ++ after) ≡ false → RestsBy Few source (j ++ after) u (if u == t then bare s else if spawns after u then first_state (routine_of source (child_main source s.run.control)) (own_object u after) else w.tasks u)
          by_task u asks there alive = by (u == t) refl
            where
              own : u ≡ t → RestsBy Few source (j ++ after) u (bare s)
              own e =
                  let last = law_last opts source.sites input j p t n asked on (subst (λ v. has_ended v (j ++ after) ≡ false) e alive) in
                  subst (λ v. RestsBy Few source (j ++ after) v (bare s)) (sym e) (hand_rests source (j ++ after) t [] s tt (ridden_rests source (j ++ after) t asked.request s asks.own told last.no_end last.no_fault there))

              by : (b : Bool) → (u == t) ≡ b → RestsBy Few source (j ++ after) u (if b then bare s else if spawns after u then first_state (routine_of source (child_main source s.run.control)) (own_object u after) else w.tasks u)
              by true e = own (eqb-true u t e)
              by false e =
                  either (RestsBy Few source (j ++ after) u) (spawns after u) (first_state (routine_of source (child_main source s.run.control)) (own_object u after)) (w.tasks u) (inl (first Few source begin (child_main source s.run.control) (own_object u after))) (same_form source j (j ++ after) u (w.tasks u) (asks.others u e) (λ o f. told_others opts source.sites input j p t n asked u o e f) (x.tasks u (ended_before j after u alive)))

      may_there : {j : Journal} {w : World} {a : List Entry} {v : World} → RunRests source input opts j w → is_over j ≡ false → StackWorld Z w → CountedWorld source j w → (m : May source opts input j w a v) → MayFit source opts input j w a v m → MayOpen source opts input j w a v m → is_over (j ++ a) ≡ false → Below (j ++ a) → CountedWorld source (j ++ a) v
      may_there {j} {w} r going st n (gives p t s le) f o on low = record {
        tasks = λ u h. same_form source j (j ++ dispatch p t ∷ []) u (w.tasks u) (form_push u j (dispatch p t)) (λ o f. one_kept source.sites j (dispatch p t) u o refl f) (n.tasks u (ended_before j (dispatch p t ∷ []) u h));
        homes = n.homes;
      }
      may_there {j} r going st n (no_room p t s le) f o on low = no_both (is_over (j ++ lone_limit ∷ [])) (over_limit j 0 0) on
      may_there {j} {w} r going st n (acts p t k s asked d) f o on low = acts_there r going st n p t k s asked d o (may_ask source input opts range d f) on low

      world_there : {j : Journal} {w : World} (r : Runs source input opts j w) → RunFits source input opts j w r → is_over j ≡ false → RunOpens source input opts j w r → Below j → CountedWorld source j w
      world_there begun f on o low = record {
        tasks = λ t h. inl (first Few source begin source.main 0);
        homes = λ q. either (CountedMembers Few) (q == 0) (Some no_members) None tt tt;
      }
      world_there (more {j} {w} {a} r g m) f on o low =
          may_there (run_rests source input opts range r f.0 g) g (stacked.world_rests Z source known input opts r) (world_there r f.0 g o.0 (λ n l. let more = grows j a in low n (omega (arith, l, more)))) m f.1 o.1 on low

-- in a run of a program
runs_by : (few : ℕ → Bool) (p : Program) → breaks_of p ≡ [] → (input : List ℕ) (opts : Options) → InRange opts → (j : Journal) (w : World) (r : Runs (source_of p) input opts j w) → RunFits (source_of p) input opts j w r → is_over j ≡ false → RunOpens (source_of p) input opts j w r → ((n : ℕ) → n < cluster_count j → few n ≡ true) → AllIsCounted few (source_of p) j w
runs_by few p h input opts range j w r f on o low = record {
  tasks = λ t h. there.tasks t h;
  homes = λ q. there.homes q;
  comes = λ t s c l. led few (Sized p) (source_of p) known c.leads l (begun_stack few (Sized p) (source_of p) known c.given j w t (stacked.world_rests (Sized p) (source_of p) known input opts r)) (begun_there few (Sized p) (source_of p) known c.given j w t (law_alive opts (source_of p).sites input j rests.kernel on c.processor t c.runs) (law_suiting opts (source_of p).sites input j rests.kernel on t c.given c.told) c.told there);
}
  where
    known : SourceIn (Sized p) (source_of p)
    known = law_accepted p h

    rests : RunRests (source_of p) input opts j w
    rests = run_rests (source_of p) input opts range r f on

    there : CountedWorld few (source_of p) j w
    there = world_there few (Sized p) (source_of p) known input opts range r f on o low

pub law_runs : LawRuns
law_runs p h input opts range j w r f on o = runs_by Any p h input opts range j w r f on o (λ n l. refl)

pub law_counts : LawCounts
law_counts p h input opts range j w r f on o = runs_by (λ n. nat_lt n (cluster_count j)) p h input opts range j w r f on o (λ n l. lt-ltb n (cluster_count j) l)

-- the end of a cluster

running : (P : Value → Type 0) (s : State) (p : List Link) → P (slice_index_or (here s) (address p) nought) → P (loaded (piece.Place (piece.this_frame s) p) s.env)
running P s p h =
    subst (λ (b : Bool). P (slice_index_or (list_in (at_depth (if b then s.env.frames else frames_in (parked_at s.env.exec s.env)) s.run.frame)) (address p) nought)) (sym (exec_same s.env.exec)) h

few_below : (n : ℕ) (v : Value) → IsFew (λ x. nat_lt x n) v → object_in v < n
few_below n (piece.Number z) h = absurd h
few_below n (piece.Place o p) h = absurd h
few_below n (piece.Running e) h = absurd h
few_below n (piece.Object o) h = ltb-true o n h
few_below n piece.Nothing h = absurd h

module _ (source : Source) (j : Journal) (s : State) (k : ℕ) (todo : List Todo) (l : object_in (loaded (piece.variable_at k s) s.env) < cluster_count j) where
  abbrev ended : Expr
  ended = src.OfObject (src.EndCluster (src.Load (src.Variable k)))

  -- the end of the cluster is asked for before this, with these operands below it
  ends : (rest : List Todo) (vs : List Value) → quiet.quiet source s ≡ piece.Goes (at (piece.Eval ended ∷ (piece.DropNow ∷ rest)) vs s) → EndsCluster source j s
  ends rest vs e = record {
    cluster = object_in (loaded (piece.variable_at k s) s.env);
    there = l;
    asking = at (piece.ClusterEndNow ∷ (piece.DropNow ∷ rest)) (loaded (piece.variable_at k s) s.env ∷ vs) s;
    after = at (piece.DropNow ∷ rest) (nought ∷ vs) s;
    leads = quiet.more e (quiet.more refl (quiet.more refl (quiet.more refl (quiet.more refl quiet.stay))));
    asks = refl;
  }

  leaves : LeavesCluster k todo s.run.control → EndsCluster source j s
  leaves (inl e) = ends todo s.run.operands (ap (λ (x : List Todo). quiet.act_todo source x s) e)
  leaves (inr e) = ends (piece.Unwind ∷ todo) [] (ap (λ (x : List Todo). quiet.act_todo source x s) e)

-- no list on the way to a scope begins so

abbrev BeginsElse : List Todo → Type 0
BeginsElse (piece.Clean c ∷ todo) = ⊥
BeginsElse (piece.Unwind ∷ todo) = ⊥
BeginsElse todo = Unit {0}

none_list : (l : List Todo) (k : ℕ) (todo : List Todo) → BeginsElse l → LeavesCluster k todo l → ⊥
none_list l k todo h (inl e) = subst BeginsElse e h
none_list l k todo h (inr e) = subst BeginsElse e h

none_leaves : (g : Stage) (n l : ℕ) (ss : Stmts) (rest : List Todo) (k : ℕ) (todo : List Todo) → LeavesCluster k todo (stage_todo g n l ss rest) → ⊥
none_leaves way.Does n l ss rest k todo (inl e) = cc
none_leaves way.Does n l ss rest k todo (inr e) = cc
none_leaves way.Binds n l ss rest k todo (inl e) = cc
none_leaves way.Binds n l ss rest k todo (inr e) = cc
none_leaves way.Places n l ss rest k todo (inl e) = cc
none_leaves way.Places n l ss rest k todo (inr e) = cc
none_leaves way.Makes n l ss rest k todo (inl e) = cc
none_leaves way.Makes n l ss rest k todo (inr e) = cc
none_leaves way.Orders n l ss rest k todo (inl e) = cc
none_leaves way.Orders n l ss rest k todo (inr e) = cc
none_leaves way.Told n l ss rest k todo (inl e) = cc
none_leaves way.Told n l ss rest k todo (inr e) = cc
none_leaves way.Bound n l ss rest k todo (inl e) = cc
none_leaves way.Bound n l ss rest k todo (inr e) = cc
none_leaves way.Leaves n l ss rest k todo (inl e) = cc
none_leaves way.Leaves n l ss rest k todo (inr e) = cc
none_leaves way.Opens n l ss rest k todo (inl e) = cc
none_leaves way.Opens n l ss rest k todo (inr e) = cc

none_points : (g : Point) (b : Stmt) (ss : Stmts) (rest : List Todo) (k : ℕ) (todo : List Todo) → LeavesCluster k todo (point_todo g b ss rest) → ⊥
none_points (point.Declares m d) b ss rest k todo (inl e) = cc
none_points (point.Declares m d) b ss rest k todo (inr e) = cc
none_points (point.Lists m d) b ss rest k todo (inl e) = cc
none_points (point.Lists m d) b ss rest k todo (inr e) = cc
none_points (point.Clears m d) b ss rest k todo (inl e) = cc
none_points (point.Clears m d) b ss rest k todo (inr e) = cc
none_points (point.Cleared m) b ss rest k todo (inl e) = cc
none_points (point.Cleared m) b ss rest k todo (inr e) = cc
none_points (point.Passes m) b ss rest k todo (inl e) = cc
none_points (point.Passes m) b ss rest k todo (inr e) = cc
none_points point.Reaches b ss rest k todo (inl e) = cc
none_points point.Reaches b ss rest k todo (inr e) = cc

none_kinds : (kind : fill.Kind) (k : ℕ) (todo behind : List Todo) → (LeavesCluster k todo (fill.found_todo kind behind) → ⊥) × (LeavesCluster k todo (fill.going_todo kind behind) → ⊥) × (LeavesCluster k todo (fill.asking_todo kind behind) → ⊥) × (LeavesCluster k todo (fill.told_todo kind behind) → ⊥)
none_kinds fill.Cluster k todo behind = (none_list _ k todo tt, none_list _ k todo tt, none_list _ k todo tt, none_list _ k todo tt)
none_kinds (fill.Processor i) k todo behind = (none_list _ k todo tt, none_list _ k todo tt, none_list _ k todo tt, none_list _ k todo tt)
none_kinds (fill.Object c r true) k todo behind = (none_list _ k todo tt, none_list _ k todo tt, none_list _ k todo tt, none_list _ k todo tt)
none_kinds (fill.Object c r false) k todo behind = (none_list _ k todo tt, none_list _ k todo tt, none_list _ k todo tt, none_list _ k todo tt)

none_bound : (x : fill.Array) (kind : fill.Kind) (k : ℕ) (todo : List Todo) → LeavesCluster k todo (fill.bound_todo kind (fill.turn_todo x)) → ⊥
none_bound x fill.Cluster k todo = none_list _ k todo tt
none_bound x (fill.Processor i) k todo = none_list _ k todo tt
none_bound x (fill.Object c r true) k todo = none_list _ k todo tt
none_bound x (fill.Object c r false) k todo = none_list _ k todo tt

none_fills : (g : fill.Stage) (x : fill.Array) (k : ℕ) (todo : List Todo) → LeavesCluster k todo (fill.fill_todo g x) → ⊥
none_fills fill.Found x k todo = (none_kinds x.kind k todo (fill.turn_todo x)).0
none_fills fill.Nears x k todo = (none_kinds x.kind k todo (fill.turn_todo x)).1
none_fills fill.Asks x k todo = (none_kinds x.kind k todo (fill.turn_todo x)).2
none_fills fill.Told x k todo = (none_kinds x.kind k todo (fill.turn_todo x)).3
none_fills fill.Bound x k todo = none_bound x x.kind k todo
none_fills fill.Does x k todo = none_list _ k todo tt
none_fills fill.Counts x k todo = none_list _ k todo tt
none_fills fill.Turns x k todo = none_list _ k todo tt
none_fills fill.Evals x k todo = none_list _ k todo tt
none_fills fill.Finds x k todo = none_list _ k todo tt
none_fills fill.Names x k todo = none_list _ k todo tt
none_fills fill.Indexes x k todo = none_list _ k todo tt
none_fills fill.Elements x k todo = none_list _ k todo tt
none_fills fill.More x k todo = none_list _ k todo tt
none_fills fill.Passes x k todo = none_list _ k todo tt
none_fills fill.Opens x k todo = none_list _ k todo tt

counted_here : (few : ℕ → Bool) (s : State) (k : ℕ) (todo : List Todo) → LeavesCluster k todo s.run.control → k < LAST_ADDRESS → GoodBy few s → IsFew few (slice_index_or (here s) (address (Slot k ∷ [])) nought)
counted_here few s k todo (inl e) l (inl h) =
    let left : AllLeft few (here s) (piece.Clean (src.Destroys (src.OfObject (src.EndCluster (src.Load (src.Variable k))))) ∷ todo) = subst (AllLeft few (here s)) e (held_left few (here s) s.run.elements s.run.control h.stack.1) in
    left.0.1 l
counted_here few s k todo (inr e) l (inl h) =
    let left : AllLeft few (here s) (piece.Unwind ∷ (piece.Clean (src.Destroys (src.OfObject (src.EndCluster (src.Load (src.Variable k))))) ∷ todo)) = subst (AllLeft few (here s)) e (held_left few (here s) s.run.elements s.run.control h.stack.1) in
    left.0.1 l
counted_here few s k todo e l (inr (inl h)) = absurd (none_points h.point h.binder h.next h.todo k todo (subst (LeavesCluster k todo) h.control e))
counted_here few s k todo e l (inr (inr (inr h))) = absurd (none_fills h.stage h.array k todo (subst (LeavesCluster k todo) h.control e))
counted_here few s k todo e l (inr (inr (inl h))) = absurd (none_leaves h.stage h.cell h.line h.next h.todo k todo (subst (LeavesCluster k todo) h.control e))

pub law_ends : LawEnds
law_ends p h input opts range j w r f on o t s c l k todo near e =
    let good : GoodBy (λ n. nat_lt n (cluster_count j)) s = (law_counts p h input opts range j w r f on o).comes t s c l in
    let few : IsFew (λ n. nat_lt n (cluster_count j)) (loaded (piece.variable_at k s) s.env) = running (IsFew (λ n. nat_lt n (cluster_count j))) s (Slot k ∷ []) (counted_here (λ n. nat_lt n (cluster_count j)) s k todo e near good) in
    leaves (source_of p) j s k todo (few_below (cluster_count j) (loaded (piece.variable_at k s) s.env) few) e
