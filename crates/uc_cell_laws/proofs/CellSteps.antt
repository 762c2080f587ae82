-- A quiet step of a task in which the own cells of frames and of mutex objects hold no object or what is at home there leads to one.
use Rattle.std.proofs.Common.{◌≡◌, ℕ, ℤ, pos, negsuc, zero, suc, ◌≤◌, ◌<◌, ◌⊎◌, inl, inr, ◌++◌, Bool, true, false, List, [], ◌∷◌, length, drop, Option, Some, None, refl, arith, ap, ◌∙◌, subst, sym}
use Rattle.std.specs.Prelude.{nat_eq, nat_lt, slice_set, if◌then◌else◌}
use Rattle.std.proofs.lemmas.Bool.{ltb-true}
use Rattle.uc_tree.specs.declared.limits.TheConstants.{CALLS, PENDING_EVENTS}
use Rattle.uc_tree.specs.Source as src
use Rattle.uc_tree.specs.Source.{Shape, Expr, ObjectExpr, Stmt, Stmts, EventStmt, TaskStmt, Routine, Way, CleanUp, Handlers}
use Rattle.uc_entry.specs.declared.fault.RunFault.{RunFault}
use Rattle.uc_entry.specs.declared.fault.RunFault.TheVariants.{Index, Depth, BlockedInside, TooManyPending, NotLive, Unhandled}
use Rattle.uc_entry.specs.declared.request.Piece.{Piece}
use Rattle.uc_entry.specs.declared.request.Request.TheVariants as ask
use Rattle.uc_entry.specs.Keyed.{find, signed_64}
use Rattle.uc_machine.specs.declared.exec.Exec.{Exec}
use Rattle.uc_machine.specs.declared.exec.Pending.{Pending}
use Rattle.uc_machine.specs.declared.exec.UnwindReason.{UnwindReason}
use Rattle.uc_machine.specs.declared.exec.UnwindReason.TheVariants as reason
use Rattle.uc_machine.specs.declared.exec.Visited.{Visited}
use Rattle.uc_machine.specs.Executions.{at_depth, others, frame_changed, values_cleared, change, frames_changed}
use Rattle.uc_machine.specs.Switches as sw
use Rattle.uc_machine.specs.Switches.{Moved, To, Stops}
use Rattle.uc_machine.specs.Insides as inside
use Rattle.uc_machine.specs.Raising as raising
use Rattle.uc_machine.specs.Raising.{Event, Handler, Found, Hit}
use Rattle.uc_machine.specs.Monitors as monitors
use Rattle.uc_machine.specs.Polls as polls
use Rattle.uc_machine.specs.Quiet as quiet
use Rattle.uc_machine.specs.Pieces as piece
use Rattle.uc_machine.specs.Pieces.{Value, Number, Object, Nothing, loaded, Todo, Sort, Active, State, Env, Step, Asks, Outcome, Gives, Faults, at, in_env, fault, top, below, number, nought, written}
use Rattle.uc_typing.specs.Typing.{Ty, Cell, Obj, Row}
use Rattle.uc_state_laws.specs.Counted.{params_at, params, count, CountedExpr}
use Rattle.uc_state_laws.proofs.ValueSteps.{exec_same}
use Rattle.uc_life_laws.specs.Belonging.{Belongs}
use Rattle.uc_life_laws.specs.HomedStates.{Inside, all_of_it}
use Rattle.uc_life_laws.specs.LifeStates.{frame_at}
use Rattle.uc_life_laws.proofs.HomedCells.{either, set_length, others_length}
use Rattle.uc_cell_laws.specs.Sites.{Telling, IsNoMaker, SitedExpr}
use Rattle.uc_cell_laws.specs.CellTodos.{Around, around, Mark, Any, Sited, Lent, Classed, mark_of, made_mark, rest, rests, anys, FirstSited, FirstClassed, FirstCell, FirstRow, FirstBound, Meets, Holds, Finding, CodeExpr, CodeClean, CodeStmt, CodeStmts, CodeHandlers, CallFits, BindFits, LeftBy, Ok, Left}
use Rattle.uc_cell_laws.specs.CellStates.{IsFree, AllCells, IsRooted, IsOf, AllWait, CellEx, CellRest, CellState, CellStep, Fits, FindsNumber}
use Rattle.uc_cell_laws.proofs.CellMarks as marks
use Rattle.uc_cell_laws.proofs.CellMarks.{holds_below, holds_drop, bound_under}
use Rattle.uc_cell_laws.proofs.CellLists as todos
use Rattle.uc_cell_laws.proofs.CellFrames.{newest, deeper, all_newer, all_older, all_others, all_changed, cells_anew, cells_none, cells_zero, LieBehind, cells_called, lengths, running_free, rooted_newer, rooted_wider}
use Rattle.uc_cell_laws.proofs.CellFields.{part_read}
use Rattle.uc_cell_laws.proofs.CellPlaces.{MayWrite, variable_meets, field_meets, lent_meets, element_meets, Lies, sited_lies, fits_home, fits_bound}
use Rattle.uc_cell_laws.proofs.CellNames.{names_new}
use Rattle.uc_cell_laws.proofs.CellKeeping as kept
use Rattle.uc_cell_laws.proofs.CellKeeping.{Keeps}

-- an index that is found is below
index_below : (n : ℕ) (z : ℤ) (j : ℕ) → piece.index_in n z ≡ Some j → j < n
index_below n (pos i) j e = by (nat_lt i n) refl e
  where
    by : (b : Bool) → nat_lt i n ≡ b → (if b then Some i else None) ≡ Some j → j < n
    by true q e = let l : i < n = ltb-true i n q in let same : i ≡ j = cc in omega (arith, l, same)
    by false q e = absurd (cc)
index_below n (negsuc i) j e = absurd (cc)

no_operand : (o : ℕ) → top [] ≡ Object o → ⊥
no_operand o e = cc

module _ (tg : Telling) where
  -- a handler that is found stands in code of the routine whose frame it uses, and has its object at hand
  record FoundIn (n : Exec) (rs : List ℕ) (level : ℕ) (x : Found) : Type 0 where
    pub routine : ℕ
    pub frame : at_depth rs x.frame ≡ Some routine
    pub low : x.frame ≤ level
    pub code : CodeStmts tg routine x.handler.body
    pub this : tg.special routine ≡ true → IsRooted tg n rs level routine x.this

  abbrev IsFound : Exec → List ℕ → ℕ → Option Found → Type 0
  IsFound n rs level None = Unit {0}
  IsFound n rs level (Some x) = FoundIn n rs level x

  -- an activation of which it is told what is left, whatever operands it has
  record Leaves (n : Exec) (rs : List ℕ) (level : ℕ) (a : Active) : Type 0 where
    pub routine : ℕ
    pub frame : at_depth rs a.frame ≡ Some routine
    pub low : a.frame ≤ level
    pub this : tg.special routine ≡ true → IsRooted tg n rs level routine a.this
    pub left : Left tg routine a.control

  abbrev AllLeave : Exec → List ℕ → List Active → Type 0
  AllLeave n rs [] = Unit {0}
  AllLeave n rs (a ∷ older) = Leaves n rs (length older) a × AllLeave n rs older

  leaving : (n : Exec) (given : List Mark) (rs : List ℕ) (level : ℕ) (a : Active) → IsOf tg n given rs level a → Leaves n rs level a
  leaving n given rs level a h = record { routine = h.routine; frame = h.frame; low = h.low; this = h.this; left = marks.left tg h.routine (given ++ h.marks) a.control h.ok }

  all_leave : (n : Exec) (rs : List ℕ) (cs : List Active) → AllWait tg n rs cs → AllLeave n rs cs
  all_leave n rs [] h = tt
  all_leave n rs (a ∷ older) h = (leaving n (Any ∷ []) rs (length older) a h.0, all_leave n rs older h.1)

  found_or : (n : Exec) (rs : List ℕ) (level : ℕ) (o : Option Hit) (a : Active) (cs : List Active) (other : Option Found) → length cs ≤ level → (h : Leaves n rs (length cs) a) → todos.OfHit tg h.routine o → IsFound n rs level other → IsFound n rs level (raising.found_or o a cs other)
  found_or n rs level None a cs other l h k f = f
  found_or n rs level (Some y) a cs other l h k f = let low = h.low in record {
    routine = h.routine;
    frame = h.frame;
    low = omega (arith, low, l);
    code = k;
    this = λ s. rooted_wider tg n rs (length cs) level h.routine a.this l (h.this s);
  }

  seek_to : (n : Exec) (rs : List ℕ) (level : ℕ) (v : Option Visited) (e : Event) (cs : List Active) → length cs ≤ suc level → AllLeave n rs cs → IsFound n rs level (raising.seek v e cs)
  seek_to n rs level None e [] l h = tt
  seek_to n rs level (Some v) e [] l h = tt
  seek_to n rs level None e (a ∷ cs) l h =
      found_or n rs level (raising.hit_in e a.control) a cs (raising.seek a.handles e cs) (omega (arith, l)) h.0 (todos.hit_in tg h.0.routine e a.control h.0.left) (seek_to n rs level a.handles e cs (omega (arith, l)) h.1)
  seek_to n rs level (Some v) e (a ∷ cs) l h =
      either (IsFound n rs level) (nat_eq (length cs) v.level) (raising.found_or (raising.hit_in e (raising.within v.rest a.control)) a cs (raising.seek a.handles e cs)) (raising.seek (Some v) e cs) (found_or n rs level (raising.hit_in e (raising.within v.rest a.control)) a cs (raising.seek a.handles e cs) (omega (arith, l)) h.0 (todos.hit_in tg h.0.routine e (raising.within v.rest a.control) (todos.within tg h.0.routine v.rest a.control h.0.left)) (seek_to n rs level a.handles e cs (omega (arith, l)) h.1)) (seek_to n rs level (Some v) e cs (omega (arith, l)) h.1)

  module _ (s : State) (st : CellState tg s) where
    -- the routine of the running activation
    abbrev pub R : ℕ
    R = st.run.routine

    abbrev pub here : Around
    here = around s.env.exec s.run

    abbrev pub O : List Mark → List Todo → Type 0
    O ms todo = Ok tg R ms todo

    abbrev pub L : List Todo → Type 0
    L todo = Left tg R todo

    abbrev pub H : List Mark → List Value → Type 0
    H ms vs = Holds tg R here ms vs

    gone : (ms : List Mark) (todo : List Todo) → O ms todo → L todo
    gone ms todo h = marks.left tg R ms todo h

    -- the running activation with something else to do, and other operands, where so many come in front of these
    now : (given : List Mark) (b : Active) → b.frame ≡ s.run.frame → b.this ≡ s.run.this → (ns : List Mark) → Holds tg R (around s.env.exec b) ns b.operands → O (given ++ ns) b.control → IsOf tg s.env.exec given st.routines (length s.callers) b
    now given b e f ns k h = record {
      routine = R;
      frame = ap (at_depth st.routines) e ∙ st.run.frame;
      low = let low = st.run.low in omega (arith, low, e);
      this = λ x. subst (λ v. IsRooted tg s.env.exec st.routines (length s.callers) R v) (sym f) (st.run.this x);
      marks = ns;
      holds = k;
      ok = h;
    }

    -- it is told anew
    pub told : (given : List Mark) (b : Active) → b.frame ≡ s.run.frame → b.this ≡ s.run.this → (ns : List Mark) → Holds tg R (around s.env.exec b) ns b.operands → O (given ++ ns) b.control → CellRest tg given (record s { run = b })
    told given b e f ns k h = record { routines = st.routines; frames = st.frames; cells = st.cells; run = now given b e f ns k h; callers = st.callers; env = st.env }

    -- of which nothing need be known
    pub told_anew : (b : Active) → b.frame ≡ s.run.frame → b.this ≡ s.run.this → O [] b.control → CellState tg (record s { run = b })
    told_anew b e f h = told [] b e f [] tt h

    pub finds : (given ns : List Mark) (todo : List Todo) (vs : List Value) → H ns vs → O (given ++ ns) todo → CellRest tg given (at todo vs s)
    finds given ns todo vs k h = told given (record s.run { control = todo; operands = vs }) refl refl ns k h

    pub go : (ns : List Mark) (todo : List Todo) (vs : List Value) → H ns vs → O ns todo → CellState tg (at todo vs s)
    go ns todo vs k h = finds [] ns todo vs k h

    -- with something to do before which nothing need be known
    pub anew : (todo : List Todo) (vs : List Value) → O [] todo → CellState tg (at todo vs s)
    anew todo vs h = go [] todo vs tt h

    -- it is unwound
    pub unwound : (todo : List Todo) (vs : List Value) → L todo → CellState tg (at (piece.Unwind ∷ todo) vs s)
    unwound todo vs h = anew (piece.Unwind ∷ todo) vs h

    -- and with another rest of the task
    pub told_in : (given : List Mark) (b : Active) (e : Env) → b.frame ≡ s.run.frame → b.this ≡ s.run.this → (ns : List Mark) → Holds tg R (around s.env.exec b) ns b.operands → O (given ++ ns) b.control → Keeps tg st.routines s.env e → CellRest tg given (record s { run = b; env = e })
    told_in given b e x y ns k h i = record {
      routines = st.routines;
      frames = i.frames ∙ st.frames;
      cells = subst (λ n. AllCells tg n st.routines e.frames) (sym i.exec) (i.cells st.cells);
      run = subst (λ n. IsOf tg n given st.routines (length s.callers) b) (sym i.exec) (now given b x y ns k h);
      callers = subst (λ n. AllWait tg n st.routines s.callers) (sym i.exec) st.callers;
      env = i.env;
    }

    pub rest_in : (given ns : List Mark) (todo : List Todo) (vs : List Value) (e : Env) → H ns vs → O (given ++ ns) todo → Keeps tg st.routines s.env e → CellRest tg given (at todo vs (in_env e s))
    rest_in given ns todo vs e k h i = told_in given _ e refl refl ns k h i

    pub go_in : (ns : List Mark) (todo : List Todo) (vs : List Value) (e : Env) → H ns vs → O ns todo → Keeps tg st.routines s.env e → CellState tg (at todo vs (in_env e s))
    go_in ns todo vs e k h i = rest_in [] ns todo vs e k h i

    -- nothing that is told of changes
    pub same : {e : Env} → e.exec ≡ s.env.exec → e.frames ≡ s.env.frames → e.hand ≡ s.env.hand → e.house ≡ s.env.house → e.own ≡ s.env.own → Keeps tg st.routines s.env e
    same x q h g o = kept.keeps_like tg st.env x q h g o

    pub stop : (f : RunFault) (todo : List Todo) (vs : List Value) → CellStep tg (fault f todo vs s)
    stop f todo vs = record { env = st.env }

    ends : (todo : List Todo) (vs : List Value) → CellStep tg (Asks ask.End (at todo vs s))
    ends todo vs = record { env = st.env }

    pub moved : (m : Moved (List Todo) Value) (todo : List Todo) (vs : List Value) → kept.LifeMoved tg m → CellStep tg (piece.moves m (at todo vs s))
    moved (To t) todo vs m = m
    moved (Stops f) todo vs m = stop f todo vs

    pub outcome : (ms : List Mark) (o : Outcome) (todo : List Todo) (vs : List Value) → H ms vs → O (Any ∷ ms) todo → CellStep tg (piece.outcome_step o todo vs s)
    outcome ms (Gives n) todo vs k h = go (Any ∷ ms) todo _ (tt, k) h
    outcome ms (Faults f) todo vs k h = stop f todo vs

    -- something is known of an element or not
    pub element : (ms : List Mark) (n : ℕ) (k : Shape) (i v : Value) (vs : List Value) (todo : List Todo) → H (rest ms) (v ∷ vs) → O (Any ∷ rest (rest ms)) todo ⊎ FirstRow n k tg.table (rest ms) (λ m. O (m ∷ rest (rest ms)) todo) → CellStep tg (piece.element_step k (piece.index_in n (number i)) todo v vs s)
    element ms n k i v vs todo l h = by (piece.index_in n (number i)) refl
      where
        by : (o : Option ℕ) → piece.index_in n (number i) ≡ o → CellStep tg (piece.element_step k o todo v vs s)
        by None e = stop Index todo vs
        by (Some j) e = some (rest ms) l h
          where
            some : (ns : List Mark) → H ns (v ∷ vs) → O (Any ∷ rest ns) todo ⊎ FirstRow n k tg.table ns (λ m. O (m ∷ rest ns) todo) → CellState tg (at todo (piece.further (piece.At k j) v ∷ vs) s)
            some ns q (inl o) = go (Any ∷ rest ns) todo _ (tt, holds_below tg R here ns (v ∷ vs) q) o
            some (Sited (Row m a) ∷ ns) q (inr o) = go (Sited a ∷ ns) todo _ (element_meets tg R here m n j k a v o.0 (index_below n (number i) j e) o.1 q.0, q.1) o.2
            some ns q (inr o) = absurd o

    pub condition : (ms : List Mark) (k : ℕ) (i : Option ℕ) (todo : List Todo) → H ms (below s.run.operands) → O (Any ∷ ms) todo → CellStep tg (monitors.condition_step k i todo s)
    condition ms k None todo l h = stop Index todo _
    condition ms k (Some i) todo l h = go (Any ∷ ms) todo _ (tt, l) h

    -- the end of an activation

    -- those that wait, with a frame less
    less : (a : Active) (cs : List Active) → length s.env.frames ≡ suc (length (a ∷ cs)) → AllWait tg s.env.exec st.routines (a ∷ cs) → AllWait tg s.env.exec (others st.routines) (a ∷ cs)
    less a cs l h =
        let n : length (others s.env.frames) ≡ suc (length cs) = others_length s.env.frames (length cs) l in
        let m = lengths tg s.env.exec (others st.routines) (others s.env.frames) (all_others tg s.env.exec st.routines s.env.frames st.cells) in
        all_older tg s.env.exec st.routines (a ∷ cs) (omega (arith, n, m)) h

    -- the one that waited goes on
    behind_end : (b a : Active) (cs : List Active) → b.frame ≡ a.frame → b.this ≡ a.this → (h : IsOf tg s.env.exec (Any ∷ []) (others st.routines) (length cs) a) → (ns : List Mark) → Holds tg h.routine (around s.env.exec b) ns b.operands → Ok tg h.routine ns b.control → IsOf tg s.env.exec [] (others st.routines) (length cs) b
    behind_end b a cs e f h ns k o = record {
      routine = h.routine;
      frame = ap (at_depth (others st.routines)) e ∙ h.frame;
      low = let low = h.low in omega (arith, low, e);
      this = λ x. subst (λ v. IsRooted tg s.env.exec (others st.routines) (length cs) h.routine v) (sym f) (h.this x);
      marks = ns;
      holds = k;
      ok = o;
    }

    left_of : (a : Active) (cs : List Active) (h : IsOf tg s.env.exec (Any ∷ []) (others st.routines) (length cs) a) → Ok tg h.routine [] (piece.Unwind ∷ a.control)
    left_of a cs h = marks.left tg h.routine (Any ∷ h.marks) a.control h.ok

    pub returned : (given : Value) (cs : List Active) → length s.env.frames ≡ suc (length cs) → AllWait tg s.env.exec st.routines cs → CellStep tg (piece.return_step given cs s)
    returned given [] l h = record { env = st.env }
    returned given (a ∷ cs) l h =
        let k = less a cs l h in
        record { routines = others st.routines; frames = others_length s.env.frames (length cs) l; cells = all_others tg s.env.exec st.routines s.env.frames st.cells; run = behind_end _ a cs refl refl k.0 (Any ∷ k.0.marks) (tt, k.0.holds) k.0.ok; callers = k.1; env = kept.like tg st.env refl refl refl }

    past : (v : Visited) (given : Value) (cs : List Active) → length s.env.frames ≡ suc (length cs) → AllWait tg s.env.exec st.routines cs → CellStep tg (raising.return_past v given cs s)
    past v given [] l h = record { env = st.env }
    past v given (a ∷ cs) l h =
        let k = less a cs l h in
        record { routines = others st.routines; frames = others_length s.env.frames (length cs) l; cells = all_others tg s.env.exec st.routines s.env.frames st.cells; run = behind_end _ a cs refl refl k.0 [] tt (left_of a cs k.0); callers = k.1; env = kept.like tg st.env refl refl refl }

    end_by : (v : Option Visited) (given : Value) → CellStep tg (raising.end_by v given s)
    end_by None given = returned given s.callers st.frames st.callers
    end_by (Some v) given = past v given s.callers st.frames st.callers

    end_step : (w : Way) → CellStep tg (quiet.end_step w s)
    end_step src.ToReturn = end_by s.run.handles _
    end_step src.ToEnd = end_by s.run.handles _
    end_step src.ToBreak = returned _ s.callers st.frames st.callers
    end_step src.ToContinue = returned _ s.callers st.frames st.callers

    pub exits : (w : Way) (todo : List Todo) → L todo → CellStep tg (quiet.exit_step w todo s)
    exits w [] h = end_step w
    exits w (p ∷ ps) h = anew _ _ (todos.left_behind tg R w (piece.sort p) ps h)

    pass_on : (w : Option UnwindReason) (c : Active) (cs : List Active) → length s.env.frames ≡ suc (length (c ∷ cs)) → AllWait tg s.env.exec st.routines (c ∷ cs) → CellStep tg (raising.pass_on w c cs s)
    pass_on None c cs l h = record { env = st.env }
    pass_on (Some why) c cs l h =
        let k = less c cs l h in
        record { routines = others st.routines; frames = others_length s.env.frames (length cs) l; cells = all_others tg s.env.exec st.routines s.env.frames st.cells; run = behind_end _ c cs refl refl k.0 [] tt (left_of c cs k.0); callers = k.1; env = kept.like tg st.env refl refl refl }

    leave_for : (b : Bool) (c : Active) (cs : List Active) → length s.env.frames ≡ suc (length (c ∷ cs)) → AllWait tg s.env.exec st.routines (c ∷ cs) → CellStep tg (raising.leave_for b c cs s)
    leave_for true c cs l h = record { env = st.env }
    leave_for false c cs l h = pass_on s.run.raised c cs l h

    leaves : (cs : List Active) → length s.env.frames ≡ suc (length cs) → AllWait tg s.env.exec st.routines cs → CellStep tg (raising.leave_step cs s)
    leaves [] l h = record { env = st.env }
    leaves (c ∷ cs) l h =
        either (CellStep tg) (raising.arrives s.run.raised (length (c ∷ cs))) _ _ (returned s.run.result (c ∷ cs) l h) (leave_for _ c cs l h)

    -- statements

    pub swept : (n : ℕ) (e : Expr) (todo : List Todo) → CodeExpr tg R e → O [] todo → CellStep tg (quiet.sweep_step n e todo s)
    swept zero e todo n h = anew _ _ h
    swept (suc m) e todo n h = told_anew _ refl refl (n, inl (tt, (n, h)))

    event_step : (a : EventStmt) (todo : List Todo) → CodeStmt tg R (src.OfEvents a) → O [] todo → CellStep tg (quiet.event_step a todo s)
    event_step (src.Throw line r) todo n h = anew _ _ (todos.raised tg R r (piece.ThrowNow ∷ (piece.Within line ∷ todo)) n.0 n.1 (tt, (tt, h)))
    event_step (src.Raise line r) todo n h = anew _ _ (todos.raised tg R r (piece.RaiseNow ∷ (piece.Within line ∷ todo)) n.0 n.1 (tt, (tt, h)))
    event_step (src.Try line body hs) todo n h = anew _ _ ((n.0.0, n.1.0), ((n.0.1, n.1.1), (tt, h)))
    event_step (src.RaiseAt line r a) todo n h =
        anew _ _ (todos.raised tg R r (piece.Eval a ∷ (piece.RaiseAtNow ∷ (piece.Within line ∷ todo))) (todos.counted_at tg R r n.0.0) n.1.0 ((n.0.1, n.1.1), inl (tt, (tt, h))))
    event_step (src.Enable line events cell a) todo n h = anew _ _ (tt, (tt, (n, ((tt, tt), (tt, h)))))
    event_step (src.Disable line events cell a) todo n h = anew _ _ (tt, (n, ((tt, tt), (tt, h))))

    task_step : (a : TaskStmt) (todo : List Todo) → CodeStmt tg R (src.OfTasks a) → O [] todo → CellStep tg (quiet.task_step a todo s)
    task_step (src.Resume line) todo n h = anew _ _ (tt, (tt, (tt, h)))
    task_step (src.Suspend line) todo n h = anew _ _ (tt, (tt, (tt, h)))
    task_step (src.SetUp r) todo n h = anew _ _ (n.1.0, h)
    task_step src.Enliven todo n h = anew _ _ (tt, h)
    task_step src.TakeDown todo n h = anew _ _ (tt, h)
    task_step (src.Yield line) todo n h = anew _ _ (tt, (tt, (tt, h)))
    task_step (src.Migrate line a) todo n h = anew _ _ ((n.0, n.1.1), inl (tt, (tt, h)))
    task_step (src.Accept line site cs) todo n h = anew _ _ ((n.0, n.1.1), (tt, ((n.0, n.1.1), (tt, h))))

    pub stmt : (a : Stmt) (todo : List Todo) → CodeStmt tg R a → O [] todo → CellStep tg (quiet.stmt_step a todo s)
    stmt (src.Skip line) todo n h = anew _ _ h
    stmt (src.Block line body) todo n h = anew _ _ (n, (tt, h))
    stmt (src.Whole line body) todo n h = anew _ _ (n, (tt, (tt, h)))
    stmt (src.Evaluate line a) todo n h = anew _ _ (n, inl (tt, (tt, h)))
    stmt (src.Declare line ds) todo n h = anew _ _ (n, (tt, h))
    stmt (src.Print line items) todo n h = anew _ _ (n, (tt, h))
    stmt (src.PrintTogether line items) todo n h = anew _ _ (n, (tt, (n, (tt, (tt, h)))))
    stmt (src.Read line ts) todo n h = anew _ _ (n, (tt, h))
    stmt (src.If line t x y) todo n h = anew _ _ ((n.0.0, n.1.0), inl (((n.0.1, n.1.1), (n.0.2, n.1.2)), (tt, h)))
    stmt (src.Loop line o t e x) todo n h = anew _ _ (todos.looped tg R o t e x _ ((n.0.0, n.1.0), (n.0.1, n.1.1), (n.0.2, n.1.2)) (tt, h))
    stmt (src.Break line) todo n h = anew _ _ (gone [] todo h)
    stmt (src.Continue line) todo n h = anew _ _ (gone [] todo h)
    stmt (src.Return line None) todo n h = anew _ _ (gone [] todo h)
    stmt (src.Return line (Some e)) todo n h = anew _ _ (n, inl (gone [] todo h))
    stmt (src.Owes line) todo n h = anew _ _ (tt, (tt, h))
    stmt (src.Fill line m x e) todo n h = anew _ _ (tt, (((n.0.0, n.1.0), (n.0.1, n.1.1)), (tt, h)))
    stmt (src.OfEvents a) todo n h = event_step a todo n h
    stmt (src.OfTasks a) todo n h = task_step a todo n h

    pub rest_of : (ss : Stmts) (todo : List Todo) → CodeStmts tg R ss → O [] todo → CellStep tg (quiet.rest_step ss todo s)
    rest_of src.Nil todo n h = anew _ _ h
    rest_of (src.Then a ss) todo n h = anew _ _ ((n.0.0, n.1.0), ((n.0.1, n.1.1), h))
    rest_of (src.Scoped c ss) todo n h = anew _ _ ((n.0.1, n.1.1), ((n.0.0, n.1.0), h))
    rest_of (src.Built c ss) todo n h = anew _ _ ((n.0.1, n.1.1), ((n.0.0, n.1.0), h))

    pub land : (o : Option UnwindReason) (ms : List Mark) (todo : List Todo) → H ms s.run.operands → O ms todo → CellStep tg (quiet.land_step o todo s)
    land None ms todo k h = go ms _ _ k h
    land (Some why) ms todo k h = unwound _ _ (gone ms todo h)

    -- cells start anew
    pub clears : (ms : List Mark) (k m : ℕ) (todo : List Todo) → H ms s.run.operands → O ms todo → CellStep tg (quiet.turns todo (in_env (piece.cleared k m s) s))
    clears ms k m todo q h =
        subst (λ (b : Bool). CellState tg (at todo s.run.operands (in_env (if b then record s.env { frames = frame_changed s.run.frame (values_cleared k m nought) s.env.frames } else change s.env.exec.home (frames_changed s.env.exec.serial (frame_changed s.run.frame (values_cleared k m nought))) s.env) s))) (sym (exec_same s.env.exec)) (record {
          routines = st.routines;
          frames = set_length s.env.frames s.run.frame (values_cleared k m nought (frame_at s.run.frame s.env.frames)) ∙ st.frames;
          cells = all_changed tg s.env.exec s.run.frame (values_cleared k m nought) st.routines s.env.frames (λ r i vs c. cells_anew tg s.env.exec r s.run.frame k m vs c) st.cells;
          run = now [] _ refl refl ms q h;
          callers = st.callers;
          env = kept.like tg st.env refl refl refl;
        })

    -- events

    throws : (e : Event) (todo : List Todo) → L todo → CellStep tg (raising.throw_step e todo s)
    throws e todo h = told_anew _ refl refl h

    pub thrown : (e : Event) (todo : List Todo) → O [] todo → CellStep tg (raising.throw_step e todo s)
    thrown e todo h = throws e todo (gone [] todo h)

    -- the activation that raised goes on without the event
    handles : (ms : List Mark) (o : Option Found) (e : Event) (todo : List Todo) → H ms s.run.operands → IsFound s.env.exec st.routines (length s.callers) o → O (rests 3 ms) todo → CellStep tg (raising.handle_step o e todo s)
    handles ms None e todo k f h = throws e todo (gone (rests 3 ms) todo h)
    handles ms (Some x) e todo k f h =
        let low = f.low in
        record {
          routines = 0 ∷ st.routines;
          frames = ap suc st.frames;
          cells = (cells_none tg s.env.exec 0 (length s.env.frames), st.cells);
          run = record {
            routine = f.routine;
            frame = deeper st.routines 0 x.frame f.routine f.frame;
            low = omega (arith, low);
            this = λ y. rooted_newer tg s.env.exec st.routines 0 (length s.callers) (suc (length s.callers)) f.routine x.this (omega arith) (f.this y);
            marks = [];
            holds = tt;
            ok = todos.handled tg f.routine x.handler [] f.code tt;
          };
          callers = all_newer tg s.env.exec st.routines 0 (record s.run { control = piece.DropNow ∷ todo; operands = below (below (below s.run.operands)) } ∷ s.callers) (now (Any ∷ []) _ refl refl (rests 3 ms) (holds_below tg R here (rests 2 ms) _ (holds_below tg R here (rests 1 ms) _ (holds_below tg R here ms _ k))) (tt, h), st.callers);
          env = kept.like tg st.env refl refl refl;
        }

    pub raises : (ms : List Mark) (e : Event) (todo : List Todo) → H ms s.run.operands → O (rests 3 ms) todo → CellStep tg (raising.raise_step e todo s)
    raises ms e todo k h =
        handles ms (raising.seek None e (record s.run { control = todo } ∷ s.callers)) e todo k (seek_to s.env.exec st.routines (length s.callers) None e (record s.run { control = todo } ∷ s.callers) (omega arith) (record { routine = R; frame = st.run.frame; low = st.run.low; this = st.run.this; left = gone (rests 3 ms) todo h }, all_leave s.env.exec st.routines s.callers st.callers)) h

    -- unwinding

    catches : (o : Option Handler) (e : raising.Event) (todo : List Todo) → todos.OfHandler tg R o → O [] todo → CellStep tg (raising.catch_step o e todo s)
    catches None e todo n h = unwound _ _ (gone [] todo h)
    catches (Some x) e todo n h = told_anew _ refl refl (todos.handled tg R x todo n h)

    guarded : (hs : Handlers) (o : Option UnwindReason) (todo : List Todo) → CodeHandlers tg R hs → O [] todo → CellStep tg (raising.guard_left hs o todo s)
    guarded hs (Some (reason.Event n x y)) todo k h =
        catches _ _ todo (todos.handler_for tg R false (record { number = n; x = x; y = y }) hs k) h
    guarded hs o todo k h = unwound _ _ (gone [] todo h)

    whole : (b : Bool) (todo : List Todo) → O [] todo → CellStep tg (raising.whole_left b todo s)
    whole true todo h = told_anew _ refl refl (h)
    whole false todo h = unwound _ _ (gone [] todo h)

    scope : (x : CleanUp) (b : Bool) (todo : List Todo) → CodeClean tg R x → O [] todo → CellStep tg (raising.scope_left x b todo s)
    scope src.Leaves true todo n h = told_anew _ refl refl ((tt, gone [] todo h))
    scope x b todo n h = anew (raising.left_todo x (piece.Unwind ∷ todo)) [] (todos.left_cleans tg R x (piece.Unwind ∷ todo) n (gone [] todo h))

    main_left : (o : Option UnwindReason) (todo : List Todo) → O [] todo → CellStep tg (raising.main_left o todo s)
    main_left (Some (reason.ReturnTo n)) todo h = told_anew _ refl refl ((tt, h))
    main_left o todo h = stop Unhandled todo []

    coroutine_left : (o : Option UnwindReason) (todo : List Todo) → O [] todo → CellStep tg (raising.coroutine_left o todo s)
    coroutine_left (Some (reason.ReturnTo n)) todo h = told_anew _ refl refl ((tt, h))
    coroutine_left (Some reason.Destroyed) todo h = moved _ todo _ (kept.taken_down_rests tg (at todo [] s) (anew todo [] h))
    coroutine_left o todo h = moved _ todo _ (kept.escape_rests tg (at todo [] s) (anew todo [] h))

    unwind_past : (k : Sort) (todo : List Todo) → LeftBy tg R k (L todo) (O [] todo) → CellStep tg (raising.unwind_past k todo s)
    unwind_past piece.Simple todo h = unwound _ _ h
    unwind_past (piece.IsLoop o t e b) todo h = unwound _ _ (gone [] todo h.1)
    unwind_past piece.IsWhole todo h = whole _ todo h
    unwind_past (piece.IsClean c) todo h = scope c _ todo h.0 h.1
    unwind_past (piece.IsFill m b d) todo h = anew _ _ (h.0.1, gone [] todo h.1)
    unwind_past (piece.IsSweep e) todo h = anew _ _ (h.0, gone [] todo h.1)
    unwind_past (piece.IsPart c) todo h = anew _ _ (todos.cleans tg R c _ h.0 (gone [] todo h.1))
    unwind_past (piece.IsGuard hs) todo h = guarded hs s.run.raised todo h.0 h.1
    unwind_past piece.IsFinish todo h = main_left s.run.raised todo h
    unwind_past piece.IsFinishCoroutine todo h = coroutine_left s.run.raised todo h

    pub unwinds : (todo : List Todo) → L todo → CellStep tg (raising.unwind_step todo s)
    unwinds [] h = leaves s.callers st.frames st.callers
    unwinds (p ∷ ps) h = unwind_past (piece.sort p) ps h

    -- printing

    pub prints : (o : Option (List Piece)) (p : Piece) (todo : List Todo) (vs : List Value) → O [] todo → CellStep tg (piece.print_step o p todo vs s)
    prints None p todo vs h = finds [] [] todo vs tt h
    prints (Some ps) p todo vs h = go_in [] _ _ _ tt h (same refl refl refl refl refl)

    pub flushes : (o : Option (List Piece)) (todo : List Todo) (vs : List Value) → O [] todo → CellStep tg (piece.flush_step o todo vs s)
    flushes None todo vs h = anew _ _ h
    flushes (Some []) todo vs h = go_in [] _ _ _ tt h (same refl refl refl refl refl)
    flushes (Some (p ∷ ps)) todo vs h = rest_in [] [] todo vs _ tt h (same refl refl refl refl refl)

    -- with what is known of the operands
    module _ (ms : List Mark) (holds : H ms s.run.operands) where
      pub one : H (rest ms) (below s.run.operands)
      one = holds_below tg R here ms s.run.operands holds

      pub two : H (rest (rest ms)) (below (below s.run.operands))
      two = holds_below tg R here (rest ms) (below s.run.operands) one

      -- expressions

      on : (n r : ℕ) (m : Mark) (todo : List Todo) → n ≡ params tg.source r → O (Any ∷ ms) todo → O (Any ∷ rests (suc (params tg.source r)) (anys n (m ∷ ms))) todo
      on n r m todo e h = todos.called_on tg R n r m ms todo e h

      -- a place below the arguments
      below_args : (n r : ℕ) (a : Ty) → n ≡ params tg.source r → FirstSited a (rests (params tg.source r) (anys n (Sited a ∷ ms)))
      below_args n r a e = todos.under tg R (FirstSited a) n r (Sited a ∷ ms) e refl

      -- what calls a constructor or a destructor of a mutex class
      mutex_fits : (n r c : ℕ) → (tg.table.routine r).this ≡ Some c → tg.table.mutex c ≡ true → n ≡ params tg.source r → (ns : List Mark) → FirstClassed c ns → CallFits tg R r (anys n ns)
      mutex_fits n r c this mutex e ns f = inr (c, this, inl (mutex, todos.under tg R (FirstClassed c) n r ns e f))

      -- the new object takes the place of its place below the arguments
      made_on : (n r : ℕ) (m k : Mark) (todo : List Todo) → n ≡ params tg.source r → O (Any ∷ ms) todo → O (Any ∷ rests (suc (params tg.source r)) (anys (params tg.source r) (k ∷ rests (suc (params tg.source r)) (anys n (m ∷ ms))))) todo
      made_on n r m k todo e h = todos.called_on tg R (params tg.source r) r k (rests (suc (params tg.source r)) (anys n (m ∷ ms))) todo refl (on n r m todo e h)

      -- which is known by its class
      made_classed : (r c : ℕ) (ns : List Mark) → (tg.table.routine r).this ≡ Some c → FirstClassed c (made_mark tg R r ∷ ns)
      made_classed r c ns e = subst (λ o. FirstClassed c (mark_of o ∷ ns)) (sym e) refl

      made_fits : (r c : ℕ) (ns : List Mark) → (tg.table.routine r).this ≡ Some c → tg.table.mutex c ≡ true → CallFits tg R r (anys (params tg.source r) (made_mark tg R r ∷ ns))
      made_fits r c ns this mutex = mutex_fits (params tg.source r) r c this mutex refl (made_mark tg R r ∷ ns) (made_classed r c ns this)

      object : (x : ObjectExpr) (todo : List Todo) → CountedExpr tg.source (src.OfObject x) → SitedExpr tg R (src.OfObject x) → O (Any ∷ ms) todo → CellStep tg (quiet.object_step x todo s)
      object src.This todo n q h = go (Any ∷ ms) _ _ (tt, holds) h
      object (src.OwnField k i) todo n q h = go (Any ∷ ms) _ _ (tt, holds) h
      object (src.GetOwn k i) todo n q h = go (Any ∷ ms) _ _ (tt, holds) h
      object (src.FieldOf k i a) todo n q h = go ms _ _ holds ((n, q.1), inl (tt, h))
      object src.Counted todo n q h = go (Any ∷ ms) _ _ (tt, holds) h
      object (src.CallOn r a args) todo n (inl free, q) h = go ms _ _ holds ((n.0, q.0), inl ((n.1, q.1), (tt, (inl free, on (count args) r Any todo n.2 h))))
      object (src.CallOn r a args) todo n (inr c, q) h =
          go ms _ _ holds ((n.0, q.0), inr (inl (Obj c.0, c.2, ((n.1, q.1), (tt, (inr (c.0, c.1, inr (below_args (count args) r (Obj c.0) n.2)), on (count args) r (Sited (Obj c.0)) todo n.2 h))))))
      object (src.CallLive r a args) todo n q h = go ms _ _ holds ((n.0, q.1.0), inl ((n.1, q.1.1), (tt, (tt, (inl q.0, on (count args) r Any todo n.2 h)))))
      object (src.CallUnwritten r a) todo n (inl free, q) h = go ms _ _ holds ((n.0, q), inl (inl free, on 0 r Any todo n.1 h))
      object (src.CallUnwritten r a) todo n (inr c, q) h =
          go ms _ _ holds ((n.0, q), inr (inl (Obj c.0, c.2, (inr (c.0, c.1, inr (below_args 0 r (Obj c.0) n.1)), on 0 r (Sited (Obj c.0)) todo n.1 h))))
      object (src.EnterOn m r a args) todo n q h = go ms _ _ holds ((n.0, q.1.0), inl ((n.1, q.1.1), (tt, (tt, (inl q.0, on (count args) r Any todo n.2 h)))))
      object (src.EndOn r written (src.Load a)) todo n q h = ends written
        where
          c : ℕ
          c = q.0.0

          fits : CallFits tg R r (Classed c ∷ ms)
          fits = mutex_fits 0 r c q.0.1 q.0.2 n.1 (Classed c ∷ ms) refl

          ends : (written : Bool) → CellStep tg (quiet.object_step (src.EndOn r written (src.Load a)) todo s)
          ends false = go ms _ _ holds ((n.0, q.1), inr (inr (inr (c, q.0.2, q.0.3, (tt, (fits, on 0 r (Classed c) todo n.1 h))))))
          ends true = go ms _ _ holds ((n.0, q.1), inr (inr (inr (c, q.0.2, q.0.3, (tt, (tt, (fits, on 0 r (Classed c) todo n.1 h)))))))
      object (src.EndOn r written a) todo n q h = absurd q.0
      object (src.Bind a b) todo n (inl p, q) h = go ms _ _ holds ((n.0, q.0), inr (inl (Cell p.0, p.2, ((n.1, q.1), inl (p.1, h)))))
      object (src.Bind a b) todo n (inr l, q) h = go ms _ _ holds ((n.0, q.0), inr (inr (inl (l, ((n.1, q.1), inl (tt, h))))))
      object (src.MakeOn c r false a args) todo n q h =
          let b = q.0 in
          let m : Mark = Sited (Cell (Obj b.0)) in
          go ms _ _ holds ((n.0, q.1.0), inr (inl (Cell (Obj b.0), b.3, ((n.1, q.1.1), ((b.0, b.1, b.2, below_args (count args) r (Cell (Obj b.0)) n.2), (made_fits r b.0 (rests (suc (params tg.source r)) (anys (count args) (m ∷ ms))) b.1 b.2, made_on (count args) r m (made_mark tg R r) todo n.2 h))))))
      object (src.MakeOn c r true a args) todo n q h =
          let b = q.0 in
          let m : Mark = Sited (Cell (Obj b.0)) in
          go ms _ _ holds ((n.0, q.1.0), inr (inl (Cell (Obj b.0), b.3, ((n.1, q.1.1), (tt, ((b.0, b.1, b.2, below_args (count args) r (Cell (Obj b.0)) n.2), (made_fits r b.0 (rests (suc (params tg.source r)) (anys (count args) (m ∷ ms))) b.1 b.2, made_on (count args) r m (made_mark tg R r) todo n.2 h)))))))
      object src.NewCluster todo n q h = go ms _ _ holds (tt, h)
      object (src.NewProcessor a) todo n q h = go ms _ _ holds ((n, q.1), inl (tt, h))
      object (src.EndCluster a) todo n q h = go ms _ _ holds ((n, q.1), inl (tt, h))
      object (src.EndProcessor a) todo n q h = go ms _ _ holds ((n, q.1), inl (tt, h))
      object (src.ConditionAt k m a) todo n q h = go ms _ _ holds ((n, q.1), inl (tt, h))
      object (src.Wait a b) todo n q h = go ms _ _ holds ((n.0, q.1.0), inl ((n.1, q.1.1), inl (tt, (tt, h))))
      object (src.Signal a) todo n q h = go ms _ _ holds ((n, q.1), inl (tt, h))
      object (src.SignalBlock a) todo n q h = go ms _ _ holds ((n, q.1), inl (tt, h))
      object (src.IsEmpty a) todo n q h = go ms _ _ holds ((n, q.1), inl (tt, h))
      object (src.FrontOf a) todo n q h = go ms _ _ holds ((n, q.1), inl (tt, h))

      eval : (a : Expr) (todo : List Todo) → CountedExpr tg.source a → SitedExpr tg R a → O (Any ∷ ms) todo → CellStep tg (quiet.eval_step a todo s)
      eval (src.Literal k) todo n q h = go (Any ∷ ms) _ _ (tt, holds) h
      eval (src.Variable k) todo n q h = go (Any ∷ ms) _ _ (tt, holds) h
      eval (src.Element m k a i) todo n q h = go ms _ _ holds ((n.0, q.0), inl ((n.1, q.1), inl (inl h)))
      eval (src.Get k) todo n q h = go (Any ∷ ms) _ _ (tt, holds) h
      eval (src.Load a) todo n q h = go ms _ _ holds ((n, q), inl (inl h))
      eval (src.Negated a) todo n q h = go ms _ _ holds ((n, q), inl (tt, h))
      eval (src.Not a) todo n q h = go ms _ _ holds ((n, q), inl (tt, h))
      eval (src.AsCharacter a) todo n q h = go ms _ _ holds ((n, q), inl (tt, h))
      eval (src.AsTruth a) todo n q h = go ms _ _ holds ((n, q), inl (tt, h))
      eval (src.Operate op a b) todo n q h = go ms _ _ holds ((n.0, q.0), inl ((n.1, q.1), inl (tt, h)))
      eval (src.And a b) todo n q h = go ms _ _ holds ((n.0, q.0), inl (((n.1, q.1), (tt, tt)), h))
      eval (src.Or a b) todo n q h = go ms _ _ holds ((n.0, q.0), inl (((tt, tt), (n.1, q.1)), h))
      eval (src.Set k a) todo n q h = go ms _ _ holds ((n, q), inl (tt, h))
      eval (src.Assign p a) todo n q h = go ms _ _ holds ((n.0, q.0), inl ((n.1, q.1), inl (tt, h)))
      eval (src.First a b) todo n q h = go ms _ _ holds ((n.0, q.0), inl ((n.1, q.1), inl (tt, h)))
      eval (src.Update op k p a) todo n q h = go ms _ _ holds ((n.0, q.0), inl (tt, inl ((n.1, q.1), inl (tt, todos.converts tg R k (Any ∷ ms) _ (tt, h)))))
      eval (src.StepBehind op k p) todo n q h =
          go ms _ _ holds ((n, q), inl (tt, inl (tt, (tt, ((tt, tt), inl (tt, todos.converts tg R k (Any ∷ (Any ∷ (Any ∷ ms))) _ (tt, (tt, h))))))))
      eval src.Fail todo n q h = finds (Any ∷ []) ms todo _ holds h
      eval (src.Call r args) todo n q h = go ms _ _ holds ((n.0, q.1), (tt, (tt, todos.called tg R args r ms todo n.1 h)))
      eval (src.OfObject x) todo n q h = object x todo n q h

      -- a place is found of which something is known
      finding : (e : Expr) (todo : List Todo) → CountedExpr tg.source e → SitedExpr tg R e → Finding tg R e (λ m. O (m ∷ ms) todo) → CellStep tg (quiet.eval_step e todo s)
      finding (src.Variable k) todo n q (inl h) = go (Sited h.0 ∷ ms) _ _ (variable_meets tg R here k h.0 h.1, holds) h.2
      finding (src.OfObject (src.OwnField k i)) todo n q (inl h) = go (Sited h.0 ∷ ms) _ _ (field_meets tg R here k i h.0 h.1, holds) h.2
      finding (src.OfObject (src.OwnField k i)) todo n q (inr (inl h)) = go (Lent ∷ ms) _ _ (lent_meets tg R here k i h.0, holds) h.1
      finding (src.Element m k a i) todo n q (inl h) = go ms _ _ holds ((n.0, q.0), inr (inl (Row m h.0, h.1.1, ((n.1, q.1), inl (inr (refl, h.1.0, h.2))))))
      finding e todo n q (inl h) = absurd h.1
      finding (src.Load e) todo n q (inr (inr h)) = go ms _ _ holds ((n, q), inr (inl (Cell (Obj h.0), h.2, inr (h.1, h.3))))
      finding e todo n q (inr (inl h)) = absurd h.0
      finding e todo n q (inr (inr h)) = absurd h

      pub evals : (e : Expr) (todo : List Todo) → O ms (piece.Eval e ∷ todo) → CellStep tg (quiet.eval_step e todo s)
      evals e todo (n, inl h) = eval e todo n.0 n.1 h
      evals e todo (n, inr h) = finding e todo n.0 n.1 h

      -- calls

      dropped : (n : ℕ) → H (rests n ms) (drop n s.run.operands)
      dropped n = holds_drop tg R here n ms s.run.operands holds

      dropped_one : (n : ℕ) → H (rests (suc n) ms) (below (drop n s.run.operands))
      dropped_one n = holds_below tg R here (rests n ms) (drop n s.run.operands) (dropped n)

      -- the running activation has a frame below all new ones
      running_low : s.run.frame < length s.env.frames
      running_low = let low = st.run.low in let l = st.frames in omega (arith, low, l)

      wide_low : length s.callers ≤ length s.env.frames
      wide_low = let l = st.frames in omega (arith, l)

      first_classed : (c : ℕ) (ns : List Mark) (vs : List Value) → FirstClassed c ns → H ns vs → Meets tg R here (Classed c) (top vs)
      first_classed c (Classed d ∷ ns) vs e h = subst (λ z. Meets tg R here (Classed z) (top vs)) e h.0
      first_classed c ns vs e h = absurd e

      first_sited : (a : Ty) (ns : List Mark) (vs : List Value) → FirstSited a ns → H ns vs → Meets tg R here (Sited a) (top vs)
      first_sited a (Sited b ∷ ns) vs e h = subst (λ z. Meets tg R here (Sited z) (top vs)) e h.0
      first_sited a ns vs e h = absurd e

      -- what is called lies where it is told
      pub rooted : (q : ℕ) → CallFits tg R q ms → FindsNumber tg q s → tg.special q ≡ true → IsRooted tg s.env.exec st.routines (length s.env.frames) q (top (drop (params tg.source q) s.run.operands))
      rooted q (inl free) f x = absurd (free x)
      rooted q (inr c) f x = by c.2
        where
          v : Value
          v = top (drop (params tg.source q) s.run.operands)

          by : ((tg.table.mutex c.0 ≡ true) × FirstClassed c.0 (rests (params tg.source q) ms)) ⊎ FirstSited (Obj c.0) (rests (params tg.source q) ms) → IsRooted tg s.env.exec st.routines (length s.env.frames) q v
          by (inl m) =
              let o = f x c.0 c.1 m.0 in
              let told = first_classed c.0 (rests (params tg.source q) ms) (drop (params tg.source q) s.run.operands) m.1 (dropped (params tg.source q)) o.0 o.1 in
              inl (c.0, c.1, record { number = o.0; class = c.0; told = told; mutex = m.0; inside = subst (λ u. Inside tg.table tg.owns (Object o.0) (Obj c.0) u (Obj c.0)) (sym o.1) all_of_it })
          by (inr e) = lies (sited_lies tg s.env.exec st.routines (length s.env.frames) R s.run.frame (length s.callers) s.run.this running_low wide_low st.run.frame st.run.this v (Obj c.0) (first_sited (Obj c.0) (rests (params tg.source q) ms) (drop (params tg.source q) s.run.operands) e (dropped (params tg.source q))))
            where
              lies : Lies tg s.env.exec st.routines (length s.env.frames) v (Obj c.0) → IsRooted tg s.env.exec st.routines (length s.env.frames) q v
              lies (inl u) = inl (c.0, c.1, u)
              lies (inr u) = inr (u.0, u.1, u.2, u.3, (c.0, c.1, u.4))

      abbrev pub Starts : ℕ → Option Routine → Type 0
      Starts n None = Unit {0}
      Starts n (Some q) = CodeStmts tg n q.body × ((d : ℕ) → LieBehind tg s.env.exec n d q)

      begun : (n : ℕ) (q : Routine) (this : Value) (counts : Bool) (ns : List Mark) (todo : List Todo) (vs : List Value) → Starts n (Some q) → (tg.special n ≡ true → IsRooted tg s.env.exec st.routines (length s.env.frames) n this) → H ns vs → O (Any ∷ ns) todo → CellStep tg (quiet.begun_step q this counts todo vs s)
      begun n q this counts ns todo vs b f k h =
          let l = st.frames in
          let m = lengths tg s.env.exec st.routines s.env.frames st.cells in
          record {
            routines = n ∷ st.routines;
            frames = ap suc st.frames;
            cells = (cells_called tg s.env.exec n (length s.env.frames) q s.run.operands (b.1 (length s.env.frames)), st.cells);
            run = record {
              routine = n;
              frame = newest st.routines n (length s.env.frames) (sym m);
              low = omega (arith, l);
              this = λ x. rooted_newer tg s.env.exec st.routines n (length s.env.frames) (suc (length s.callers)) n this (omega (arith, l)) (f x);
              marks = [];
              holds = tt;
              ok = todos.routine tg n q b.0;
            };
            callers = all_newer tg s.env.exec st.routines n (record s.run { control = todo; operands = vs } ∷ s.callers) (now (Any ∷ []) _ refl refl ns k h, st.callers);
            env = kept.like tg st.env refl refl refl;
          }

      pub call : (n : ℕ) (x : Option Routine) (todo : List Todo) → Starts n x → IsNoMaker tg n → O (Any ∷ rests (params_at x) ms) todo → CellStep tg (quiet.call_step x todo s)
      call n None todo b free h = ends _ _
      call n (Some x) todo b free h = either (CellStep tg) (nat_lt s.env.links.calls CALLS) _ _ (begun n x _ true (rests x.params ms) todo _ b (λ i. absurd (free i)) (dropped x.params) h) (stop Depth todo _)

      pub call_on : (n : ℕ) (x : Option Routine) (todo : List Todo) → Starts n x → (tg.special n ≡ true → IsRooted tg s.env.exec st.routines (length s.env.frames) n (top (drop (params_at x) s.run.operands))) → O (Any ∷ rests (suc (params_at x)) ms) todo → CellStep tg (quiet.call_on_step x todo s)
      call_on n None todo b f h = ends _ _
      call_on n (Some x) todo b f h = either (CellStep tg) (nat_lt s.env.links.calls CALLS) _ _ (begun n x _ true (rests (suc x.params) ms) todo _ b f (dropped_one x.params) h) (stop Depth todo _)

      pub call_unwritten : (n : ℕ) (x : Option Routine) (todo : List Todo) → Starts n x → (tg.special n ≡ true → IsRooted tg s.env.exec st.routines (length s.env.frames) n (top (drop (params_at x) s.run.operands))) → O (Any ∷ rests (suc (params_at x)) ms) todo → CellStep tg (quiet.call_unwritten_step x todo s)
      call_unwritten n None todo b f h = ends _ _
      call_unwritten n (Some x) todo b f h = begun n x _ false (rests (suc x.params) ms) todo _ b f (dropped_one x.params) h

      pub live : (q : Option Routine) (todo : List Todo) → O ms todo → CellStep tg (quiet.live_step q todo s)
      live None todo h = ends _ _
      live (Some q) todo h = either (CellStep tg) (sw.is_live (piece.exec_at (top (drop q.params s.run.operands)) s.env) s.env) _ _ (go ms _ _ holds h) (stop NotLive todo _)

      -- coroutines

      fresh : (n : Exec) (k : ℕ) (q : Routine) (this : Value) → CodeStmts tg k q.body → IsNoMaker tg k → CellEx tg n (quiet.fresh q this)
      fresh n k q this b free = record { routines = k ∷ []; frames = refl; cells = (cells_zero tg n k 0 q.cells, tt); run = record { routine = k; frame = refl; low = omega arith; this = λ x. absurd (free x); marks = []; holds = tt; ok = todos.routine tg k q b }; callers = tt }

      pub set_up : (k : ℕ) (q : Option Routine) (todo : List Todo) → Starts k q → IsNoMaker tg k → (tg.naming ≡ true → Belongs tg.few (sw.new_exec (quiet.home_at s.run.this s.env) s.env) s.run.this → ⊥) → O [] todo → CellStep tg (quiet.set_up_step q todo s)
      set_up k None todo b free f h = anew _ _ h
      set_up k (Some q) todo b free f h =
          let c = quiet.home_at s.run.this s.env in
          let x = quiet.fresh q s.run.this in
          let i : Keeps tg st.routines s.env (sw.born c x s.env) = kept.born_keeps tg c x s.env (λ m. fresh m k q s.run.this b.0 free) st.env in
          go_in [] todo _ _ tt h (kept.keeps_both tg i (kept.written_none tg s.run.this _ (sw.born c x s.env) (λ p k. running_free tg p k _) (names_new tg s.run.this _ f) i.env))

      -- mutex objects

      pub unless : (o : ℕ) (step : Step) (todo : List Todo) → CellStep tg step → CellStep tg (monitors.unless_held_up o step todo s)
      unless o step todo k = either (CellStep tg) (inside.is_held_up o s.env) _ step (stop BlockedInside todo _) k

      enter_at : (d : Option ℕ) (o m : ℕ) (todo : List Todo) → O ms todo → CellStep tg (monitors.enter_at d o m todo s)
      enter_at (Some d) o m todo h = go_in ms _ _ _ holds h (same refl refl refl refl refl)
      enter_at None o m todo h = rest_in [] ms todo _ _ holds h (same refl refl refl refl refl)

      pub enter : (m : ℕ) (q : Option Routine) (todo : List Todo) → O ms todo → CellStep tg (monitors.enter_step m q todo s)
      enter m None todo h = ends _ _
      enter m (Some q) todo h =
          let o = piece.object_in (top (drop q.params s.run.operands)) in
          either (CellStep tg) (monitors.may_call q.written s) _ _ (enter_at (find o s.env.depths) o m todo h) (stop Depth todo _)

      pub leave : (b : Bool) (o : ℕ) (todo : List Todo) → O ms todo → CellStep tg (monitors.leave_at b o todo s)
      leave false o todo h = go_in ms _ _ _ holds h (same refl refl refl refl refl)
      leave true o todo h =
          unless o _ todo (told_in [] _ _ refl refl ms holds (todos.polled tg R s.run.raised ms todo h) (same refl refl refl refl refl))

      pub make : (c k : ℕ) (q : Option Routine) (todo : List Todo) → O ms (piece.MakeNow c k ∷ todo) → CellStep tg (monitors.make_step c k q todo s)
      make c k None todo h = ends _ _
      make c k (Some q) todo h =
          either (CellStep tg) (monitors.may_call q.written s) _ _ (rest_in (made_mark tg R k ∷ []) ms (piece.BindMadeNow c k ∷ todo) _ _ holds ((h.0.0, h.0.1, h.0.2, made_classed k h.0.0 ms h.0.1, h.0.3), h.1) (same refl refl refl refl refl)) (stop Depth todo _)

      module _ (may : MayWrite tg) where
        -- what is bound is at home there, and of its class
        pub bind : (k : ℕ) (q : Option Routine) (todo : List Todo) → params_at q ≡ params tg.source k → BindFits tg R k ms → ((o : ℕ) → top s.run.operands ≡ Object o → tg.few.home o ≡ top (drop (params tg.source k) (below s.run.operands))) → O (anys (params tg.source k) (made_mark tg R k ∷ rests (suc (params tg.source k)) (rest ms))) todo → CellStep tg (monitors.bind_step q todo s)
        bind k None todo e m f h = ends _ _
        bind k (Some q) todo e m f h =
            let vs = below s.run.operands in
            let w = top s.run.operands in
            let cell : Ty = Cell (Obj m.0) in
            let there : Meets tg R here (Sited cell) (top (drop q.params vs)) = subst (λ z. Meets tg R here (Sited cell) (top (drop z vs))) (sym e) (first_sited cell (rests (params tg.source k) (rest ms)) (drop (params tg.source k) vs) m.4 (holds_drop tg R here (params tg.source k) (rest ms) vs one)) in
            let told : Meets tg R here (Classed m.0) w = first_classed m.0 ms s.run.operands m.3 holds in
            let lies = sited_lies tg s.env.exec st.routines (length s.env.frames) R s.run.frame (length s.callers) s.run.this running_low wide_low st.run.frame st.run.this (top (drop q.params vs)) cell there in
            let free : IsFree tg (top (drop q.params vs)) m.0 w = λ o x. (f o x ∙ ap (λ z. top (drop z vs)) (sym e), told o x) in
            let fits : Fits tg st.routines (top (drop q.params vs)) w s.env = fits_home tg may s.env st.routines (length s.env.frames) (top (drop q.params vs)) w m.0 lies free in
            let mark : Meets tg R here (made_mark tg R k) (top (drop q.params (slice_set vs q.params w))) = subst (λ o. Meets tg R here (mark_of o) (top (drop q.params (slice_set vs q.params w)))) (sym m.1) (marks.set_operand (Meets tg R here (Classed m.0)) q.params w vs told (λ o x. absurd (no_operand o x))) in
            go_in (anys q.params (made_mark tg R k ∷ rests (suc q.params) (rest ms))) todo _ _ (bound_under tg R here q.params (made_mark tg R k) w (rest ms) vs mark one) (subst (λ z. O (anys z (made_mark tg R k ∷ rests (suc z) (rest ms))) todo) (sym e) h) (kept.written_fits tg (top (drop q.params vs)) w s.env fits st.env)

        -- what is bound is no mutex object, or the place is a reference
        pub binding : (todo : List Todo) → FirstBound tg.table (rest ms) → O (Any ∷ rest (rest ms)) todo → CellStep tg (piece.goes todo (top s.run.operands ∷ below (below s.run.operands)) (in_env (written (top (below s.run.operands)) (top s.run.operands) s.env) s))
        binding todo f h =
            go_in (Any ∷ rest (rest ms)) _ _ _ (tt, two) h (kept.written_fits tg (top (below s.run.operands)) (top s.run.operands) s.env (fits_bound tg may s.env st.routines (length s.env.frames) R s.run.frame (length s.callers) s.run.this running_low wide_low st.run.frame st.run.this (rest ms) (top (below s.run.operands)) (top s.run.operands) (below (below s.run.operands)) f (spread (rest ms) (below s.run.operands) one)) st.env)
          where
            spread : (ns : List Mark) (vs : List Value) → H ns vs → H ns (top vs ∷ below vs)
            spread [] vs h = tt
            spread (m ∷ ns) vs h = h

        -- of what is loaded from the place of a mutex object the class is told
        pub load : (todo : List Todo) → O (Any ∷ rest ms) todo ⊎ FirstCell tg.table ms (λ m. O (m ∷ rest ms) todo) → CellState tg (at todo (loaded (top s.run.operands) s.env ∷ below s.run.operands) s)
        load todo (inl h) = go (Any ∷ rest ms) todo _ (tt, one) h
        load todo (inr h) = by ms holds one h
          where
            by : (ns : List Mark) → H ns s.run.operands → H (rest ns) (below s.run.operands) → FirstCell tg.table ns (λ m. O (m ∷ rest ns) todo) → CellState tg (at todo (loaded (top s.run.operands) s.env ∷ below s.run.operands) s)
            by (Sited (Cell (Obj c)) ∷ ns) k l f =
                let lies = sited_lies tg s.env.exec st.routines (length s.env.frames) R s.run.frame (length s.callers) s.run.this running_low wide_low st.run.frame st.run.this (top s.run.operands) (Cell (Obj c)) k.0 in
                let free = part_read tg may s.env st.routines (length s.env.frames) st.cells st.env (top s.run.operands) c f.0 lies in
                go (Classed c ∷ ns) todo _ ((λ o e. (free o e).1), l) f.1
            by ns k l f = absurd f

      pub accept : (mask o site : ℕ) (todo : List Todo) (vs : List Value) → O [] todo → CellStep tg (monitors.accept_by mask o site todo vs s)
      accept zero o site todo vs h = anew _ _ h
      accept (suc mask) o site todo vs h = unless o _ todo (finds (Any ∷ (Any ∷ [])) [] (piece.FailedNow ∷ (piece.PollNow ∷ todo)) vs tt (tt, (tt, h)))

      pub failed : (b : Bool) (todo : List Todo) (vs : List Value) → O [] todo → CellStep tg (monitors.failed_step b todo vs s)
      failed true todo vs h = anew _ _ h
      failed false todo vs h = anew _ _ (tt, h)

      -- events elsewhere

      pend : (n : Exec) (e : Event) (todo : List Todo) (vs : List Value) → O [] todo → CellStep tg (polls.pend_step n e todo vs s)
      pend n e todo vs h =
          either (CellStep tg) (nat_lt (length (inside.pending_at n s.env)) PENDING_EVENTS) _ _ (go_in [] _ _ _ tt h (kept.links_keeps tg (λ l. record l { pending = l.pending ++ (record { event = e.number; x = e.x; y = e.y }) ∷ [] }) n s.env st.env)) (stop TooManyPending todo vs)

      pend_at : (o : Option Exec) (e : Event) (todo : List Todo) (vs : List Value) → O [] todo → CellStep tg (polls.pend_at o e todo vs s)
      pend_at None e todo vs h = stop NotLive todo vs
      pend_at (Some n) e todo vs h = either (CellStep tg) (sw.is_live (Some n) s.env) _ _ (pend n e todo vs h) (stop NotLive todo vs)

      pub raise_at : (v : Value) (e : Event) (todo : List Todo) (vs : List Value) → O [] todo → CellStep tg (polls.raise_at_step v e todo vs s)
      raise_at (Object o) e todo vs h = finds [] [] todo vs tt h
      raise_at v e todo vs h = pend_at (piece.exec_at v s.env) e todo vs h

      pub enables : (events cell : ℕ) (todo : List Todo) → O [] todo → CellStep tg (polls.enable_step events cell todo s)
      enables events cell todo h =
          let k : Keeps tg st.routines s.env (written (piece.variable_at cell s) (Number (signed_64 s.env.links.enabled)) s.env) = kept.written_number tg (piece.variable_at cell s) (signed_64 s.env.links.enabled) s.env st.env in
          go_in [] _ _ _ tt h (kept.keeps_both tg k (kept.keeps_like tg k.env refl refl refl refl refl))

      quiet_poll : (o : Option Pending) (todo : List Todo) → O ms todo → CellStep tg (polls.quiet_poll o todo s)
      quiet_poll None todo h = go ms _ _ holds h
      quiet_poll (Some p) todo h = go_in (Any ∷ (Any ∷ (Any ∷ ms))) _ _ _ (tt, (tt, (tt, holds))) (tt, h) (same refl refl refl refl refl)

      poll_by : (b : Bool) (todo : List Todo) → O ms todo → CellStep tg (polls.poll_by b todo s)
      poll_by true todo h = finds (Any ∷ (Any ∷ (Any ∷ []))) ms (piece.DeliverNow ∷ todo) _ holds (tt, h)
      poll_by false todo h = quiet_poll (inside.oldest_enabled s.env.links) todo h

      pub poll : (todo : List Todo) → O ms todo → CellStep tg (polls.poll_step todo s)
      poll todo h = either (CellStep tg) (nat_eq s.env.links.enabled 0) _ _ (go ms _ _ holds h) (poll_by (inside.is_own s.env) todo h)

      pub deliver : (v : Value) (todo : List Todo) → O (rests 3 ms) todo → CellStep tg (polls.deliver_step v todo s)
      deliver Nothing todo h = go (rests 3 ms) _ _ (dropped 3) h
      deliver v todo h = go ms _ _ holds (tt, (tt, h))
