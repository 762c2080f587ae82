-- A quiet step of a task in which returns of handlers are over where they are to be leads to one.
use Rattle.std.proofs.Common.{◌≡◌, ℕ, zero, suc, ◌<◌, inl, inr, ◌++◌, Bool, true, false, List, [], ◌∷◌, length, drop, Option, Some, None, refl, ap, ◌∙◌, subst, sym}
use Rattle.std.specs.Prelude.{nat_eq, nat_lt}
use Rattle.std.proofs.lemmas.Bool.{eq-eqb}
use Rattle.uc_tree.specs.declared.limits.TheConstants.{CALLS, PENDING_EVENTS}
use Rattle.uc_tree.specs.Source as src
use Rattle.uc_tree.specs.Source.{Shape, Expr, ObjectExpr, Stmt, Stmts, EventStmt, TaskStmt, Routine, Purpose, Order, Way, CleanUp, Handlers, Clauses, Raised, Item}
use Rattle.uc_entry.specs.declared.request.Piece.{Piece}
use Rattle.uc_entry.specs.Keyed.{find, signed_64}
use Rattle.uc_machine.specs.declared.exec.Exec.{Exec}
use Rattle.uc_machine.specs.declared.exec.Pending.{Pending}
use Rattle.uc_machine.specs.declared.exec.UnwindReason.{UnwindReason}
use Rattle.uc_machine.specs.declared.exec.UnwindReason.TheVariants as reason
use Rattle.uc_machine.specs.declared.exec.Visited.{Visited}
use Rattle.uc_machine.specs.Switches as sw
use Rattle.uc_machine.specs.Switches.{Moved, To, Stops as Stopping}
use Rattle.uc_machine.specs.Insides as inside
use Rattle.uc_machine.specs.Raising as raising
use Rattle.uc_machine.specs.Raising.{Event, Handler, Found}
use Rattle.uc_machine.specs.Monitors as monitors
use Rattle.uc_machine.specs.Polls as polls
use Rattle.uc_machine.specs.Quiet as quiet
use Rattle.uc_machine.specs.Pieces as piece
use Rattle.uc_machine.specs.Pieces.{Value, Number, Object, Nothing, Todo, Sort, Active, State, Env, Step, Outcome, Gives, Faults, at, in_env, top, number, written}
use Rattle.uc_life_laws.proofs.Cells.{either}
use Rattle.uc_place_laws.specs.OlderResting.{AllWait}
use Rattle.uc_parts_laws.specs.Parts.{InnerStmts, InnerHandlers, Heads, IsOrderly}
use Rattle.uc_parts_laws.specs.PartStates.{Setting, InParts}
use Rattle.uc_parts_laws.specs.Returning.{StopsClean, Stops, HasBegun, HasBegunBehind, Unwinds, StopsAt, ReturnsWell, AllReturnWell, ReturnsEx, ReturnsState, ReturnsStep}
use Rattle.uc_parts_laws.proofs.PartSteps.{OfHandler, handler_for}
use Rattle.uc_parts_laws.proofs.ReturnLists as lists
use Rattle.uc_parts_laws.proofs.ReturnLists.{BodyInner, FoundWell, inner_builds, head_builds, begun_tail, begun_behind}
use Rattle.uc_parts_laws.proofs.ReturnKeeping as kept
use Rattle.uc_parts_laws.proofs.ReturnKeeping.{InEnv}

-- a return that arrives

arrives_at : (w : Option UnwindReason) (n : ℕ) → w ≡ Some (reason.ReturnTo n) → raising.arrives w n ≡ true
arrives_at w n e = subst (λ v. raising.arrives v n ≡ true) (sym e) (eq-eqb n n refl)

no_both : {A : Type 0} (b : Bool) → b ≡ true → b ≡ false → A
no_both b e f = let q : true ≡ false = sym e ∙ f in absurd (cc)

visited_is : (f v : Visited) → Some f ≡ Some v → f ≡ v
visited_is f v e = cc

-- to-do lists, of an activation that is unwound by a return to it where A says so

module _ (A : Type 0) where
  abbrev pub There : List Todo → Type 0
  There todo = HasBegun todo × (A → Unwinds todo)

  -- statements are done while no such return unwinds it
  pub calm : (todo : List Todo) → HasBegun todo → (A → ⊥) → There todo
  calm todo b n = (b, λ a. absurd (n a))

  pub starts : (cell : ℕ) (v : Option Expr) (todo : List Todo) → There todo → There (quiet.starting cell v todo)
  starts cell None todo h = h
  starts cell (Some e) todo h = h

  pub converts : (k : Shape) (todo : List Todo) → There todo → There (quiet.converting k todo)
  converts src.Character todo h = h
  converts src.Truth todo h = h
  converts k todo h = h

  pub raised : (r : Raised) (todo : List Todo) → There todo → There (raising.raised_todo r todo)
  raised (src.Plainly n) todo h = h
  raised (src.BuiltAt n c e) todo h = h
  raised (src.AgainFrom c) todo h = h

  -- behind an unwinding that stops a return, so does what cleans up
  pub cleans : (c : CleanUp) (todo : List Todo) → There todo → There (piece.clean_todo c todo)
  cleans (src.Destroys e) todo h = h
  cleans (src.DestroysAll k e) todo h = h
  cleans src.Unwinds todo h = h
  cleans src.Forgets todo h = h
  cleans src.Leaves todo h = h
  cleans src.Ends todo h = h
  cleans (src.Frees None) todo h = h
  cleans (src.Frees (Some r)) todo h = h
  cleans (src.Restores k) todo h = h

  pub left_cleans : (c : CleanUp) (todo : List Todo) → There todo → There (raising.left_todo c todo)
  left_cleans (src.Frees r) todo h = h
  left_cleans c todo h = cleans c todo h

  pub item : (i : Item) (todo : List Todo) → There todo → There (quiet.item_todo i todo)
  item (src.Show g e) todo h = h
  item (src.ShowText k) todo h = h

  pub item_value : (i : Item) (todo : List Todo) → There todo → There (quiet.item_value i todo)
  item_value (src.Show g e) todo h = h
  item_value (src.ShowText k) todo h = h

  pub item_piece : (i : Item) (todo : List Todo) → There todo → There (quiet.item_piece i ∷ todo)
  item_piece (src.Show g e) todo h = h
  item_piece (src.ShowText k) todo h = h

-- what statements put in front

stepped : (e : Option Expr) (todo : List Todo) → HasBegun todo → HasBegun (quiet.step_todo e todo)
stepped None todo h = h
stepped (Some e) todo h = h

pub tested : (order : Order) (c : Expr) (e : Option Expr) (b : Stmt) (todo : List Todo) → HasBegun todo → HasBegun (quiet.test_todo order c e b todo)
tested src.TestFirst c e b todo h = h
tested src.BodyFirst c e b todo h = h
tested src.NoTest c e b todo h = h

pub turned : (order : Order) (c : Expr) (e : Option Expr) (b : Stmt) (todo : List Todo) → HasBegun todo → HasBegun (quiet.step_todo e (quiet.test_todo order c e b todo))
turned order c e b todo h = stepped e _ (tested order c e b todo h)

looped : (order : Order) (c : Expr) (e : Option Expr) (b : Stmt) (todo : List Todo) → HasBegun todo → HasBegun (quiet.loop_todo order c e b todo)
looped src.TestFirst c e b todo h = h
looped src.BodyFirst c e b todo h = h
looped src.NoTest c e b todo h = h

loop_left : (w : Way) (order : Order) (c : Expr) (e : Option Expr) (b : Stmt) (todo : List Todo) → HasBegun todo → HasBegun (quiet.loop_left w order c e b todo)
loop_left src.ToBreak order c e b todo h = h
loop_left src.ToContinue order c e b todo h = h
loop_left src.ToReturn order c e b todo h = h
loop_left src.ToEnd order c e b todo h = h

left_behind : (w : Way) (k : Sort) (todo : List Todo) → HasBegun todo → HasBegun (quiet.left_behind w k todo)
left_behind w piece.Simple todo h = h
left_behind w (piece.IsLoop order c e b) todo h = loop_left w order c e b todo h
left_behind w piece.IsWhole todo h = h
left_behind w (piece.IsClean x) todo h = h
left_behind w (piece.IsFill n b d) todo h = h
left_behind w (piece.IsSweep e) todo h = h
left_behind w (piece.IsPart x) todo h = h
left_behind w (piece.IsGuard hs) todo h = h
left_behind w piece.IsFinish todo h = h
left_behind w piece.IsFinishCoroutine todo h = h

pub filled : (b : Bool) (n : ℕ) (e d : Expr) (todo : List Todo) → HasBegun todo → HasBegun (quiet.fill_todo b n e d todo)
filled false n e d todo h = h
filled true n e d todo h = h

pub branch : (k : ℕ) (cs : Clauses) (todo : List Todo) → HasBegun todo → HasBegun (monitors.branch_todo k cs todo)
branch k src.NoClauses todo h = h
branch k (src.Otherwise b) todo h = either HasBegun (nat_eq k 0) (piece.Do b ∷ todo) todo h h
branch zero (src.MoreClauses guard b cs) todo h = branch zero cs todo h
branch (suc zero) (src.MoreClauses guard b cs) todo h = h
branch (suc (suc k)) (src.MoreClauses guard b cs) todo h = branch (suc k) cs todo h

pub behind : (p : Purpose) (line : ℕ) → HasBegun (quiet.behind_body p line)
behind src.TaskMain line = tt
behind src.CoroutineMain line = tt
behind src.Procedure line = tt
behind src.Function line = tt
behind src.Builder line = tt

-- an activation that begins

pub begins_well : (older : List Active) (a : Active) → a.handles ≡ None → a.raised ≡ None → ReturnsWell older a
begins_well older a h r = record {
  handles = λ v e. let q : None ≡ Some v = sym h ∙ e in absurd (cc);
  passes = λ n e. let q : None ≡ Some (reason.ReturnTo n) = sym r ∙ e in absurd (cc);
  own = λ e. let q : None ≡ Some (reason.ReturnTo (length older)) = sym r ∙ e in absurd (cc);
}

module _ (s : State) (st : ReturnsState s) where
  -- a return to it unwinds it
  abbrev pub Over : Type 0
  Over = s.run.raised ≡ Some (reason.ReturnTo (length s.callers))

  abbrev pub Holding : List Todo → Type 0
  Holding todo = There Over todo

  -- as told of it by these to-do lists
  pub with_run : (todo : List Todo) → HasBegun todo → (Over → Unwinds todo) → ReturnsWell s.callers (record s.run { control = todo })
  with_run todo b h = record { handles = st.run.handles; passes = st.run.passes; own = h }

  -- with something else to do, and other operands
  pub go : (todo : List Todo) (vs : List Value) → Holding todo → ReturnsState (at todo vs s)
  go todo vs h = record { begun = begun_behind todo h.0; run = record { handles = st.run.handles; passes = st.run.passes; own = h.1 }; callers = st.callers; env = st.env }

  -- and with another rest of the task
  pub go_in : (todo : List Todo) (vs : List Value) (e : Env) → InEnv e → Holding todo → ReturnsState (at todo vs (in_env e s))
  go_in todo vs e k h = record { begun = begun_behind todo h.0; run = record { handles = st.run.handles; passes = st.run.passes; own = h.1 }; callers = st.callers; env = k }

  -- nothing that is told of changes
  pub same : {e : Env} → e.hand ≡ s.env.hand → e.house ≡ s.env.house → e.own ≡ s.env.own → InEnv e
  same h g o = kept.like st.env h g o

  -- it is unwound for another reason than a return, or no more
  pub other_run : (b : Active) → b.handles ≡ s.run.handles → ((n : ℕ) → b.raised ≡ Some (reason.ReturnTo n) → ⊥) → HasBegunBehind b.control → ReturnsState (record s { run = b })
  other_run b h r g = record {
    begun = g;
    run = record { handles = λ v e. st.run.handles v (sym h ∙ e); passes = λ n e. absurd (r n e); own = λ e. absurd (r (length s.callers) e) };
    callers = st.callers;
    env = st.env;
  }

  pub calmed : (b : Active) → b.handles ≡ s.run.handles → b.raised ≡ None → HasBegunBehind b.control → ReturnsState (record s { run = b })
  calmed b h r g = other_run b h (λ n e. let q : None ≡ Some (reason.ReturnTo n) = sym r ∙ e in absurd (cc)) g

  -- the end of an activation

  pub returned : (given : Value) (cs : List Active) → AllReturnWell cs → ReturnsStep (piece.return_step given cs s)
  returned given [] h = st
  returned given (a ∷ cs) h = record {
    begun = begun_behind a.control h.0.0;
    run = record { handles = h.0.1.handles; passes = h.0.1.passes; own = h.0.1.own };
    callers = h.1;
    env = kept.like st.env refl refl refl;
  }

  -- by a return: who waited is unwound, and stops that, if it is one to it
  unwound : (a : Active) (cs : List Active) (why : UnwindReason) (b : Active) → AllReturnWell (a ∷ cs) → b.control ≡ piece.Unwind ∷ a.control → b.handles ≡ a.handles → b.raised ≡ Some why → ((home : ℕ) → why ≡ reason.ReturnTo home → StopsAt home (a ∷ cs)) → HasBegunBehind b.control × ReturnsWell cs b
  unwound a cs why b h c v r f = (
    subst HasBegunBehind (sym c) h.0.0,
    record {
      handles = λ w e. h.0.1.handles w (sym v ∙ e);
      passes = λ n e. (f n (is_why n (sym r ∙ e))).1;
      own = λ e. subst Unwinds (sym c) ((f (length cs) (is_why (length cs) (sym r ∙ e))).0 refl);
    },
  )
    where
      is_why : (n : ℕ) → Some why ≡ Some (reason.ReturnTo n) → why ≡ reason.ReturnTo n
      is_why n e = cc

  past : (v : Visited) (given : Value) (cs : List Active) → StopsAt v.home cs → AllReturnWell cs → ReturnsStep (raising.return_past v given cs s)
  past v given [] f h = st
  past v given (a ∷ cs) f h =
      let u = unwound a cs (reason.ReturnTo v.home) _ h refl refl refl (λ home e. subst (λ n. StopsAt n (a ∷ cs)) (home_is home e) f) in
      record { begun = u.0; run = u.1; callers = h.1; env = kept.like st.env refl refl refl }
    where
      home_is : (home : ℕ) → reason.ReturnTo v.home ≡ reason.ReturnTo home → v.home ≡ home
      home_is home e = cc

  end_by : (v : Option Visited) → s.run.handles ≡ v → (given : Value) → ReturnsStep (raising.end_by v given s)
  end_by None e given = returned given s.callers st.callers
  end_by (Some v) e given = past v given s.callers (st.run.handles v e).1 st.callers

  end_step : (w : Way) → ReturnsStep (quiet.end_step w s)
  end_step src.ToReturn = end_by s.run.handles refl _
  end_step src.ToEnd = end_by s.run.handles refl _
  end_step src.ToBreak = returned _ s.callers st.callers
  end_step src.ToContinue = returned _ s.callers st.callers

  why_is : (why : UnwindReason) (o : Option UnwindReason) (home : ℕ) → raising.why_by why o ≡ reason.ReturnTo home → why ≡ reason.ReturnTo home
  why_is why (Some reason.Destroyed) home e = absurd (cc)
  why_is why (Some (reason.Event n x y)) home e = e
  why_is why (Some (reason.ReturnTo n)) home e = e
  why_is why None home e = e

  pass_on : (w : Option UnwindReason) (c : Active) (cs : List Active) → s.callers ≡ c ∷ cs → s.run.raised ≡ w → AllReturnWell (c ∷ cs) → ReturnsStep (raising.pass_on w c cs s)
  pass_on None c cs q e h = st
  pass_on (Some why) c cs q e h =
      let u = unwound c cs (raising.why_by why c.raised) _ h refl refl refl (λ home i. subst (StopsAt home) q (st.run.passes home (e ∙ ap Some (why_is why c.raised home i)))) in
      record { begun = u.0; run = u.1; callers = h.1; env = kept.like st.env refl refl refl }

  leave_for : (b : Bool) (c : Active) (cs : List Active) → s.callers ≡ c ∷ cs → AllReturnWell (c ∷ cs) → ReturnsStep (raising.leave_for b c cs s)
  leave_for true c cs q h = st
  leave_for false c cs q h = pass_on s.run.raised c cs q refl h

  leaves : (cs : List Active) → s.callers ≡ cs → AllReturnWell cs → ReturnsStep (raising.leave_step cs s)
  leaves [] q h = st
  leaves (c ∷ cs) q h =
      either ReturnsStep (raising.arrives s.run.raised (length (c ∷ cs))) _ _ (returned s.run.result (c ∷ cs) h) (leave_for _ c cs q h)

  pub moved : (m : Moved (List Todo) Value) (todo : List Todo) (vs : List Value) → Holding todo → kept.ReturnsMoved m → ReturnsStep (piece.moves m (at todo vs s))
  moved (To u) todo vs h m = m
  moved (Stopping f) todo vs h m = go todo vs h

  pub outcome : (x : Outcome) (todo : List Todo) (vs : List Value) → Holding todo → ReturnsStep (piece.outcome_step x todo vs s)
  outcome (Gives n) todo vs h = go todo _ h
  outcome (Faults f) todo vs h = go todo _ h

  pub element : (n : Shape) (i : Option ℕ) (todo : List Todo) (v : Value) (vs : List Value) → Holding todo → ReturnsStep (piece.element_step n i todo v vs s)
  element n None todo v vs h = go todo _ h
  element n (Some i) todo v vs h = go todo _ h

  -- expressions

  object : (x : ObjectExpr) (todo : List Todo) → Holding todo → ReturnsStep (quiet.object_step x todo s)
  object (src.EndOn r false a) todo h = go _ _ h
  object (src.EndOn r true a) todo h = go _ _ h
  object (src.MakeOn c r false a args) todo h = go _ _ h
  object (src.MakeOn c r true a args) todo h = go _ _ h
  object x todo h = go _ _ h

  pub eval : (a : Expr) (todo : List Todo) → Holding todo → ReturnsStep (quiet.eval_step a todo s)
  eval (src.Update op k p a) todo h = go _ _ (converts Over k (piece.KeepNow ∷ todo) h)
  eval (src.StepBehind op k p) todo h = go _ _ (converts Over k (piece.StoreNow ∷ (piece.DropBelowNow ∷ todo)) h)
  eval (src.OfObject x) todo h = object x todo h
  eval a todo h = go _ _ h

  -- statements, which are done while no return unwinds the activation

  pub swept : (n : ℕ) (e : Expr) (todo : List Todo) → Holding todo → ReturnsStep (quiet.sweep_step n e todo s)
  swept zero e todo h = go _ _ h
  swept (suc m) e todo h = record { begun = h.0; run = record { handles = st.run.handles; passes = st.run.passes; own = h.1 }; callers = st.callers; env = st.env }

  module _ (still : Over → ⊥) where
    quietly : (todo : List Todo) (vs : List Value) → HasBegun todo → ReturnsState (at todo vs s)
    quietly todo vs b = go todo vs (calm Over todo b still)

    event_step : (a : EventStmt) (todo : List Todo) → BodyInner (src.OfEvents a) → HasBegun todo → ReturnsStep (quiet.event_step a todo s)
    event_step (src.Throw line r) todo i b = go _ _ (raised Over r _ (calm Over (piece.ThrowNow ∷ (piece.Within line ∷ todo)) b still))
    event_step (src.Raise line r) todo i b = go _ _ (raised Over r _ (calm Over (piece.RaiseNow ∷ (piece.Within line ∷ todo)) b still))
    event_step (src.Try line body hs) todo i b = quietly _ _ (inner_builds body (HasBegun todo) i b)
    event_step (src.RaiseAt line r a) todo i b = go _ _ (raised Over r _ (calm Over (piece.Eval a ∷ (piece.RaiseAtNow ∷ (piece.Within line ∷ todo))) b still))
    event_step (src.Enable line events cell a) todo i b = quietly _ _ b
    event_step (src.Disable line events cell a) todo i b = quietly _ _ b

    task_step : (a : TaskStmt) (todo : List Todo) → HasBegun todo → ReturnsStep (quiet.task_step a todo s)
    task_step (src.Resume line) todo b = quietly _ _ b
    task_step a todo b = quietly _ _ b

    pub stmt : (a : Stmt) (todo : List Todo) → BodyInner a → HasBegun todo → ReturnsStep (quiet.stmt_step a todo s)
    stmt (src.Block line body) todo i b = quietly _ _ (inner_builds body (HasBegun todo) i b)
    stmt (src.Whole line body) todo i b = quietly _ _ (inner_builds body (HasBegun todo) i b)
    stmt (src.Loop line order c e body) todo i b = quietly _ _ (looped order c e body _ b)
    stmt (src.Return line None) todo i b = quietly _ _ b
    stmt (src.Return line (Some e)) todo i b = quietly _ _ b
    stmt (src.OfEvents a) todo i b = event_step a todo i b
    stmt (src.OfTasks a) todo i b = task_step a todo b
    stmt a todo i b = quietly _ _ b

    -- the statements that are left

    inner_rest : (ss : Stmts) (todo : List Todo) → InnerStmts ss → HasBegun todo → ReturnsStep (quiet.rest_step ss todo s)
    inner_rest src.Nil todo n b = quietly _ _ b
    inner_rest (src.Then a ss) todo n b = quietly _ _ (inner_builds ss (HasBegun todo) n.1 b)
    inner_rest (src.Scoped c ss) todo n b = quietly _ _ (inner_builds ss (HasBegun todo) n.1 b)
    inner_rest (src.Built c ss) todo n b = absurd n

    heads_rest : (special : ℕ → Bool) (P : CleanUp → Type 0) (ss : Stmts) (todo : List Todo) → Heads special P ss todo → HasBegun todo → ReturnsStep (quiet.rest_step ss todo s)
    heads_rest special P src.Nil todo n b = quietly _ _ b
    heads_rest special P (src.Then a ss) todo n b = quietly _ _ (head_builds special ss (HasBegun todo) n.0.1 b)
    heads_rest special P (src.Scoped (src.Frees r) ss) todo n b = quietly _ _ (head_builds special ss (HasBegun todo) n.2 b)
    heads_rest special P (src.Scoped c ss) todo n b = absurd n.0
    heads_rest special P (src.Built c ss) todo n b = quietly _ _ (head_builds special ss (HasBegun todo) n.0.1 b)

    pub rest_of : (special : ℕ → Bool) (P : CleanUp → Type 0) (count : ℕ) (ss : Stmts) (todo : List Todo) → IsOrderly special P count (piece.Rest ss ∷ todo) → HasBegun todo → ReturnsStep (quiet.rest_step ss todo s)
    rest_of special P count ss todo (inl h) b = inner_rest ss todo h.0 b
    rest_of special P count ss todo (inr h) b = heads_rest special P ss todo h b

    pub exits : (w : Way) (todo : List Todo) → HasBegun todo → ReturnsStep (quiet.exit_step w todo s)
    exits w [] b = end_step w
    exits w (p ∷ ps) b = quietly _ _ (left_behind w (piece.sort p) ps (begun_tail p ps b))

  -- calls

  begun : (r : Routine) (this : Value) (counts : Bool) (todo : List Todo) (vs : List Value) → Holding todo → ReturnsStep (quiet.begun_step r this counts todo vs s)
  begun r this counts todo vs h = record {
    begun = behind r.purpose r.line;
    run = begins_well _ _ refl refl;
    callers = ((h.0, record { handles = st.run.handles; passes = st.run.passes; own = h.1 }), st.callers);
    env = kept.like st.env refl refl refl;
  }

  pub call : (r : Option Routine) (todo : List Todo) → Holding todo → ReturnsStep (quiet.call_step r todo s)
  call None todo h = go _ _ h
  call (Some r) todo h = either ReturnsStep (nat_lt s.env.links.calls CALLS) _ _ (begun r _ true todo _ h) (go todo _ h)

  pub call_on : (r : Option Routine) (todo : List Todo) → Holding todo → ReturnsStep (quiet.call_on_step r todo s)
  call_on None todo h = go _ _ h
  call_on (Some r) todo h = either ReturnsStep (nat_lt s.env.links.calls CALLS) _ _ (begun r _ true todo _ h) (go todo _ h)

  pub call_unwritten : (r : Option Routine) (todo : List Todo) → Holding todo → ReturnsStep (quiet.call_unwritten_step r todo s)
  call_unwritten None todo h = go _ _ h
  call_unwritten (Some r) todo h = begun r _ false todo _ h

  -- coroutines

  fresh : (n : Exec) (r : Routine) (this : Value) → ReturnsEx n (quiet.fresh r this)
  fresh n r this = record { begun = behind r.purpose r.line; run = begins_well _ _ refl refl; callers = tt }

  pub set_up : (r : Option Routine) (todo : List Todo) → Holding todo → ReturnsStep (quiet.set_up_step r todo s)
  set_up None todo h = go _ _ h
  set_up (Some r) todo h =
      let q = quiet.home_at s.run.this s.env in
      let x = quiet.fresh r s.run.this in
      let k : InEnv (sw.born q x s.env) = kept.born_rests q x s.env (λ n. fresh n r s.run.this) st.env in
      go_in _ _ _ (kept.written_rests s.run.this _ (sw.born q x s.env) k) h

  pub live : (r : Option Routine) (todo : List Todo) → Holding todo → ReturnsStep (quiet.live_step r todo s)
  live None todo h = go _ _ h
  live (Some r) todo h = either ReturnsStep (sw.is_live (piece.exec_at (top (drop r.params s.run.operands)) s.env) s.env) _ _ (go todo _ h) (go todo _ h)

  pub land : (w : Option UnwindReason) (todo : List Todo) → Holding todo → ReturnsStep (quiet.land_step w todo s)
  land None todo h = go _ _ h
  land (Some why) todo h = go _ _ (h.0, λ a. lists.unwinds_stops todo (h.1 a))

  -- mutex objects

  pub unless : (q : ℕ) (step : Step) (todo : List Todo) → Holding todo → ReturnsStep step → ReturnsStep (monitors.unless_held_up q step todo s)
  unless q step todo h k = either ReturnsStep (inside.is_held_up q s.env) _ step (go todo _ h) k

  enter_at : (d : Option ℕ) (q m : ℕ) (todo : List Todo) → Holding todo → ReturnsStep (monitors.enter_at d q m todo s)
  enter_at (Some d) q m todo h = go_in _ _ _ (same refl refl refl) h
  enter_at None q m todo h = go_in _ _ _ (same refl refl refl) h

  pub enter : (m : ℕ) (r : Option Routine) (todo : List Todo) → Holding todo → ReturnsStep (monitors.enter_step m r todo s)
  enter m None todo h = go _ _ h
  enter m (Some r) todo h =
      let q = piece.object_in (top (drop r.params s.run.operands)) in
      either ReturnsStep (monitors.may_call r.written s) _ _ (enter_at (find q s.env.depths) q m todo h) (go todo _ h)

  polled : (w : Option UnwindReason) (todo : List Todo) → Holding todo → Holding (monitors.leave_todo w todo)
  polled None todo h = h
  polled (Some why) todo h = h

  pub leave : (b : Bool) (q : ℕ) (todo : List Todo) → Holding todo → ReturnsStep (monitors.leave_at b q todo s)
  leave false q todo h = go_in _ _ _ (same refl refl refl) h
  leave true q todo h =
      let k = polled s.run.raised todo h in
      unless q _ todo h (record { begun = begun_behind (monitors.leave_todo s.run.raised todo) k.0; run = record { handles = st.run.handles; passes = st.run.passes; own = k.1 }; callers = st.callers; env = kept.like st.env refl refl refl })

  pub make : (c n : ℕ) (r : Option Routine) (todo : List Todo) → Holding todo → ReturnsStep (monitors.make_step c n r todo s)
  make c n None todo h = go _ _ h
  make c n (Some r) todo h = either ReturnsStep (monitors.may_call r.written s) _ _ (go_in _ _ _ (same refl refl refl) h) (go todo _ h)

  pub bind : (r : Option Routine) (todo : List Todo) → Holding todo → ReturnsStep (monitors.bind_step r todo s)
  bind None todo h = go _ _ h
  bind (Some r) todo h = go_in _ _ _ (kept.written_rests _ _ s.env st.env) h

  pub condition : (n : ℕ) (i : Option ℕ) (todo : List Todo) → Holding todo → ReturnsStep (monitors.condition_step n i todo s)
  condition n None todo h = go todo _ h
  condition n (Some i) todo h = go todo _ h

  pub accept_by : (mask q site : ℕ) (todo : List Todo) (vs : List Value) → Holding todo → ReturnsStep (monitors.accept_by mask q site todo vs s)
  accept_by zero q site todo vs h = go _ _ h
  accept_by (suc mask) q site todo vs h = unless q _ todo h (go _ _ h)

  pub failed : (b : Bool) (todo : List Todo) (vs : List Value) → Holding todo → ReturnsStep (monitors.failed_step b todo vs s)
  failed true todo vs h = go _ _ h
  failed false todo vs h = go _ _ h

  -- the main of a task ends
  pub finished : (q : ℕ) (todo : List Todo) → HasBegun todo → (Over → ⊥) → ReturnsStep (monitors.unless_held_up q (piece.return_step piece.nought s.callers s) todo s)
  finished q todo b n = unless q _ todo (calm Over todo b n) (returned _ s.callers st.callers)

  -- events

  pend : (n : Exec) (e : Event) (todo : List Todo) (vs : List Value) → Holding todo → ReturnsStep (polls.pend_step n e todo vs s)
  pend n e todo vs h =
      either ReturnsStep (nat_lt (length (inside.pending_at n s.env)) PENDING_EVENTS) _ _ (go_in _ _ _ (kept.links_rests (λ l. record l { pending = l.pending ++ (record { event = e.number; x = e.x; y = e.y }) ∷ [] }) n s.env st.env) h) (go todo vs h)

  pend_at : (x : Option Exec) (e : Event) (todo : List Todo) (vs : List Value) → Holding todo → ReturnsStep (polls.pend_at x e todo vs s)
  pend_at None e todo vs h = go todo vs h
  pend_at (Some n) e todo vs h = either ReturnsStep (sw.is_live (Some n) s.env) _ _ (pend n e todo vs h) (go todo vs h)

  pub raise_at : (v : Value) (e : Event) (todo : List Todo) (vs : List Value) → Holding todo → ReturnsStep (polls.raise_at_step v e todo vs s)
  raise_at (Object q) e todo vs h = go todo vs h
  raise_at v e todo vs h = pend_at (piece.exec_at v s.env) e todo vs h

  pub enables : (events cell : ℕ) (todo : List Todo) → Holding todo → ReturnsStep (polls.enable_step events cell todo s)
  enables events cell todo h =
      go_in _ _ _ (kept.like (kept.written_rests (piece.variable_at cell s) (Number (signed_64 s.env.links.enabled)) s.env st.env) refl refl refl) h

  quiet_poll : (x : Option Pending) (todo : List Todo) → Holding todo → ReturnsStep (polls.quiet_poll x todo s)
  quiet_poll None todo h = go _ _ h
  quiet_poll (Some p) todo h = go_in _ _ _ (same refl refl refl) h

  poll_by : (b : Bool) (todo : List Todo) → Holding todo → ReturnsStep (polls.poll_by b todo s)
  poll_by true todo h = go _ _ h
  poll_by false todo h = quiet_poll (inside.oldest_enabled s.env.links) todo h

  pub poll : (todo : List Todo) → Holding todo → ReturnsStep (polls.poll_step todo s)
  poll todo h = either ReturnsStep (nat_eq s.env.links.enabled 0) _ _ (go todo _ h) (poll_by (inside.is_own s.env) todo h)

  pub deliver : (v : Value) (todo : List Todo) → Holding todo → ReturnsStep (polls.deliver_step v todo s)
  deliver Nothing todo h = go _ _ h
  deliver v todo h = go _ _ h

  pub throws : (e : Event) (todo : List Todo) → HasBegun todo → ReturnsStep (raising.throw_step e todo s)
  throws e todo b = other_run _ refl (λ n q. absurd (cc)) b

  -- the handler of a resumption begins
  handles : (o : Option Found) (e : Event) (todo : List Todo) → Holding todo → FoundWell (record s.run { control = todo } ∷ s.callers) o → ReturnsStep (raising.handle_step o e todo s)
  handles None e todo h f = throws e todo h.0
  handles (Some x) e todo h f = record {
    begun = inner_builds x.handler.body (Unit {0}) f.2 tt;
    run = record {
      handles = λ v q. subst (λ w. (w.home < suc (length s.callers)) × StopsAt w.home (record s.run { control = todo } ∷ s.callers)) (visited_is x.visited v q) (f.0, f.1);
      passes = λ n q. absurd (cc);
      own = λ q. absurd (cc);
    };
    callers = ((h.0, record { handles = st.run.handles; passes = st.run.passes; own = h.1 }), st.callers);
    env = kept.like st.env refl refl refl;
  }

  pub raises : (g : Setting) (e : Event) (todo : List Todo) → AllWait (InParts g) (InParts g) s.env.exec (record s.run { control = todo } ∷ s.callers) → Holding todo → ReturnsStep (raising.raise_step e todo s)
  raises g e todo w h =
      handles (raising.seek None e (record s.run { control = todo } ∷ s.callers)) e todo h (lists.seek_well g s.env.exec None e (record s.run { control = todo } ∷ s.callers) w ((h.0, with_run todo h.0 h.1), st.callers))

  -- unwinding: what stops a return to the activation is behind it

  module _ (todo : List Todo) (b : HasBegun todo) where
    abbrev On : Type 0
    On = Over → Stops todo

    catches : (x : Option Handler) (e : Event) → OfHandler x → On → ReturnsStep (raising.catch_step x e todo s)
    catches None e i h = go _ _ (b, h)
    catches (Some x) e i h = calmed _ refl refl (inner_builds x.body (HasBegun todo) i b)

    guarded : (hs : Handlers) (w : Option UnwindReason) → InnerHandlers hs → On → ReturnsStep (raising.guard_left hs w todo s)
    guarded hs (Some (reason.Event n y z)) i h =
        catches (raising.handler_for false (record { number = n; x = y; y = z }) hs) (record { number = n; x = y; y = z }) (handler_for false (record { number = n; x = y; y = z }) hs i) h
    guarded hs w i h = go _ _ (b, h)

    -- a return that does not arrive is none to it
    passing : (k : Bool) → raising.arrives s.run.raised (length s.callers) ≡ k → k ≡ false → Over → ⊥
    passing k e f a = no_both (raising.arrives s.run.raised (length s.callers)) (arrives_at s.run.raised (length s.callers) a) (e ∙ f)

    whole : (k : Bool) → raising.arrives s.run.raised (length s.callers) ≡ k → ReturnsStep (raising.whole_left k todo s)
    whole true e = calmed _ refl refl (begun_behind todo b)
    whole false e = go _ _ (b, λ a. absurd (passing false e refl a))

    behind_clean : (c : CleanUp) → (Over → Stops todo) → Holding (raising.left_todo c (piece.Unwind ∷ todo))
    behind_clean c f = left_cleans Over c (piece.Unwind ∷ todo) (b, f)

    scope : (c : CleanUp) (k : Bool) → raising.arrives s.run.raised (length s.callers) ≡ k → (Over → StopsClean c (Stops todo)) → ReturnsStep (raising.scope_left c k todo s)
    scope src.Leaves true e h = calmed _ refl refl b
    scope src.Leaves false e h = go _ _ (behind_clean src.Leaves (λ a. absurd (passing false e refl a)))
    scope (src.Frees r) k e h = go _ _ (behind_clean (src.Frees r) (λ a. absurd (h a)))
    scope c k e h = go _ _ (behind_clean c h)

    main_left : (w : Option UnwindReason) → s.run.raised ≡ w → ReturnsStep (raising.main_left w todo s)
    main_left (Some (reason.ReturnTo n)) e = calmed _ refl refl b
    main_left (Some (reason.Event n x y)) e = go _ _ (b, λ a. let q : Some (reason.Event n x y) ≡ Some (reason.ReturnTo (length s.callers)) = sym e ∙ a in absurd (cc))
    main_left (Some reason.Destroyed) e = go _ _ (b, λ a. let q : Some reason.Destroyed ≡ Some (reason.ReturnTo (length s.callers)) = sym e ∙ a in absurd (cc))
    main_left None e = go _ _ (b, λ a. let q : None ≡ Some (reason.ReturnTo (length s.callers)) = sym e ∙ a in absurd (cc))

    coroutine_left : (w : Option UnwindReason) → s.run.raised ≡ w → ReturnsStep (raising.coroutine_left w todo s)
    coroutine_left (Some (reason.ReturnTo n)) e = calmed _ refl refl b
    coroutine_left (Some reason.Destroyed) e =
        let h : Holding todo = (b, λ a. let q : Some reason.Destroyed ≡ Some (reason.ReturnTo (length s.callers)) = sym e ∙ a in absurd (cc)) in
        moved _ todo _ h (kept.taken_down_rests (at todo [] s) (go todo [] h))
    coroutine_left (Some (reason.Event n x y)) e =
        let h : Holding todo = (b, λ a. let q : Some (reason.Event n x y) ≡ Some (reason.ReturnTo (length s.callers)) = sym e ∙ a in absurd (cc)) in
        moved _ todo _ h (kept.escape_rests (at todo [] s) (go todo [] h))
    coroutine_left None e =
        let h : Holding todo = (b, λ a. let q : None ≡ Some (reason.ReturnTo (length s.callers)) = sym e ∙ a in absurd (cc)) in
        moved _ todo _ h (kept.escape_rests (at todo [] s) (go todo [] h))

  unwind_past : (special : ℕ → Bool) (P : CleanUp → Type 0) (count : ℕ) (p : Todo) (todo : List Todo) → IsOrderly special P count (p ∷ todo) → HasBegun (p ∷ todo) → (Over → Stops (p ∷ todo)) → ReturnsStep (raising.unwind_past (piece.sort p) todo s)
  unwind_past special P count (piece.InLoop o t e x) todo k b h = go _ _ (b, h)
  unwind_past special P count piece.InWhole todo k b h = whole todo b _ refl
  unwind_past special P count (piece.Clean c) todo k b h = scope todo b c _ refl h
  unwind_past special P count (piece.FillNow m x d) todo k b h = go _ _ (b, h)
  unwind_past special P count (piece.Sweep x) todo k b h = go _ _ (b, h)
  unwind_past special P count (piece.Part c) todo k b h = go _ _ (cleans Over c (piece.Unwind ∷ todo) (b, h))
  unwind_past special P count (piece.Guard hs) todo k b h = guarded todo b hs s.run.raised k.0 h
  unwind_past special P count piece.Finish todo k b h = main_left todo b s.run.raised refl
  unwind_past special P count piece.FinishCoroutine todo k b h = coroutine_left todo b s.run.raised refl
  unwind_past special P count (piece.Rest ss) todo k b h = go _ _ (lists.builds_rest ss (HasBegun todo) b, λ a. lists.builds_rest ss (Stops todo) (h a))
  unwind_past special P count p todo k b h = go _ _ (b, h)

  pub unwinds : (special : ℕ → Bool) (P : CleanUp → Type 0) (count : ℕ) (todo : List Todo) → IsOrderly special P count todo → HasBegun todo → (Over → Stops todo) → ReturnsStep (raising.unwind_step todo s)
  unwinds special P count [] k b h = leaves s.callers refl st.callers
  unwinds special P count (p ∷ ps) k b h = unwind_past special P count p ps k b h

  -- printing

  pub prints : (x : Option (List Piece)) (p : Piece) (todo : List Todo) (vs : List Value) → Holding todo → ReturnsStep (piece.print_step x p todo vs s)
  prints None p todo vs h = go _ _ h
  prints (Some ps) p todo vs h = go_in _ _ _ (same refl refl refl) h

  pub flushes : (x : Option (List Piece)) (todo : List Todo) (vs : List Value) → Holding todo → ReturnsStep (piece.flush_step x todo vs s)
  flushes None todo vs h = go _ _ h
  flushes (Some []) todo vs h = go_in _ _ _ (same refl refl refl) h
  flushes (Some (p ∷ ps)) todo vs h = go_in _ _ _ (same refl refl refl) h
