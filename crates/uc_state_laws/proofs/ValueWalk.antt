-- Every quiet step of a task in which all is there that is in scope and known by its number, and answers to it.
use Rattle.std.proofs.Common.{◌≡◌, ℕ, List, [], ◌∷◌, ◌++◌, Option, Some, None, inl, inr, refl, sym, ap, ◌∙◌, subst, arith, Bool, true}
use Rattle.std.specs.Prelude.{nat_lt, slice_get, drop}
use Rattle.uc_tree.specs.Source as src
use Rattle.uc_tree.specs.Source.{Source, Expr, CleanUp, Stmt, Stmts, Routine, routine_or_none, routine_of}
use Rattle.uc_entry.specs.declared.request.Answer.{Answer}
use Rattle.uc_entry.specs.declared.request.Answer.TheVariants as answer
use Rattle.uc_machine.specs.Executions.{take_operands}
use Rattle.uc_machine.specs.Raising as raising
use Rattle.uc_machine.specs.Monitors as monitors
use Rattle.uc_machine.specs.Quiet as quiet
use Rattle.uc_machine.specs.Quiet.{first_state, zeros}
use Rattle.uc_machine.specs.Pieces as piece
use Rattle.uc_machine.specs.Pieces.{Value, Nothing, Todo, State, Env, Members, Step, Goes, Ticks, Asks, at, top, below, number}
use Rattle.uc_machine.specs.Answering.{answered, entered, new_members, with_operand}
use Rattle.uc_state_laws.specs.Clusters.{PrecedesFill, OpensArray, Follows, EndsNone, IsUnbound, IsUnscoped, Joined}
use Rattle.uc_state_laws.specs.There.{HoldsObject, NextBound, MayOpen, AllCounted, AtBound, Held}
use Rattle.uc_state_laws.specs.ThereStates.{CountedParked, CountedHand, CountedMembers, CountedState, CountedStep, RoutineBegins, SourceBegins, FairAt, Fair}
use Rattle.uc_state_laws.specs.Filling as fill
use Rattle.uc_state_laws.specs.FillingStates.{Finding, FillingBy, FillWaits}
use Rattle.uc_state_laws.specs.NewClusters as way
use Rattle.uc_state_laws.specs.NewClusters.{Stage, stage_todo, OpeningBy, WaitingBy, GoodBy, GoodStepBy}
use Rattle.uc_state_laws.specs.ValueLaws.{LawSteps}
use Rattle.uc_state_laws.proofs.Cells.{either}
use Rattle.uc_state_laws.proofs.ValueKeeping as kept
use Rattle.uc_state_laws.proofs.ValueSteps as steps
use Rattle.uc_state_laws.proofs.ValueSteps.{here}
use Rattle.uc_state_laws.proofs.NewClusters.{lift, opening, no_bind, no_processor, no_object, far, opened, uncounted}
use Rattle.uc_state_laws.proofs.Declaring.{begun_alone, begun_all, declaring}
use Rattle.uc_state_laws.proofs.Filling.{no_array, filling, counting}

-- a piece that tells of no statements that are left of a block, and that binds nothing
abbrev IsOther : Todo → Type 0
IsOther (piece.Rest ss) = ⊥
IsOther piece.BindNow = ⊥
IsOther (piece.MakeNow c r) = ⊥
IsOther (piece.BindMadeNow c r) = ⊥
IsOther p = Unit {0}

no_cluster : (c : CleanUp) → IsUnscoped c → MayOpen c
no_cluster (src.Destroys (src.OfObject (src.EndCluster (src.Load (src.Variable k))))) h = h
no_cluster (src.DestroysAll n e) h = h
no_cluster c h = tt

-- no scope of an array opens behind a statement that fills none
not_opened : (a : Stmt) (n : ℕ) (e : Expr) → OpensArray a n e → IsUnbound a → EndsNone e
not_opened a n (src.OfObject (src.EndCluster (src.Load (src.Element m src.Binding (src.Variable k) i)))) h u = no_array k n a h u
not_opened a n (src.OfObject (src.EndProcessor (src.Load (src.Element m src.Binding (src.Variable k) i)))) h u = no_array k n a h u
not_opened a n (src.OfObject (src.EndOn r written (src.Load (src.Element m src.Binding (src.Variable k) i)))) h u = no_array k n a h u
not_opened a n e h u = tt

none_new : (source : Source) (g : Stage) (k l : ℕ) (ss : Stmts) (todo : List Todo) → new_members source (stage_todo g k l ss todo) ≡ None
none_new source way.Does k l ss todo = refl
none_new source way.Binds k l ss todo = refl
none_new source way.Places k l ss todo = refl
none_new source way.Makes k l ss todo = refl
none_new source way.Orders k l ss todo = refl
none_new source way.Told k l ss todo = refl
none_new source way.Bound k l ss todo = refl
none_new source way.Leaves k l ss todo = refl
none_new source way.Opens k l ss todo = refl

-- what the operands are stays so while an object comes into the hand
find_entered : (g : fill.Stage) (x : fill.Array) (m : Members) (o : ℕ) (s : State) → Finding g x (with_operand (piece.Object o) s) → Finding g x (with_operand (piece.Object o) (entered (Some m) o s))
find_entered fill.Indexes x m o s h = h
find_entered fill.Elements x m o s h = h
find_entered fill.Found x m o s h = h
find_entered fill.Nears x m o s h = h
find_entered fill.Asks x m o s h = h
find_entered fill.Told x m o s h = h
find_entered g x m o s h = tt

module _ (Few : ℕ → Bool) where
  module _ (source : Source) (known : SourceBegins source) where
    module _ (s : State) (st : CountedState Few s) where
      go : (todo : List Todo) (vs : List Value) → AllCounted Few (here s) todo → CountedState Few (at todo vs s)
      go = steps.go Few s st

      like : {e : Env} → e.frames ≡ s.env.frames → e.hand ≡ s.env.hand → e.house ≡ s.env.house → kept.Keeps Few s.env e
      like q h g = steps.like Few s st q h g

      -- one piece, with what is to do behind it
      acts : (p : Todo) (todo : List Todo) → s.run.control ≡ p ∷ todo → IsOther p → FairAt source (p ∷ todo) s → AllCounted Few (here s) (p ∷ todo) → CountedStep Few (quiet.act source p todo s)
      acts (piece.Eval a) todo e n f h = steps.evals Few s st a todo h
      acts (piece.ElementNow m k) todo e n f h = steps.element Few s st k _ todo _ _ h.1
      acts piece.NegateNow todo e n f h = steps.outcome Few s st _ todo _ h.1
      acts (piece.OperateNow op) todo e n f h = steps.outcome Few s st _ todo _ h.1
      acts piece.StoreNow todo e n f h = steps.go_in Few s st _ _ _ (kept.written_keeps Few (top (below s.run.operands)) (piece.Number (number (top s.run.operands))) tt s.env st.env) h.1
      acts piece.KeepNow todo e n f h = steps.go_in Few s st _ _ _ (kept.written_keeps Few (top (below s.run.operands)) (piece.Number (number (top s.run.operands))) tt s.env st.env) h.1
      acts (piece.SetNow k) todo e n f h = steps.go_in Few s st _ _ _ (kept.written_keeps Few (piece.variable_at k s) (piece.Number (number (top s.run.operands))) tt s.env st.env) h.1
      acts piece.BindNow todo e n f h = absurd n
      acts (piece.Choose a b) todo e n f h = go _ _ (inl h.1)
      acts (piece.Branch a b) todo e n f h = go _ _ (inl h.1)
      acts (piece.TurnNow o t step b) todo e n f h = go _ _ (inl (tt, h.1))
      acts (piece.Arguments src.NoExprs) todo e n f h = go _ _ h.1
      acts (piece.Arguments (src.MoreExprs a es)) todo e n f h = go _ _ (inl (tt, h.1))
      acts (piece.CallNow r) todo e n f h = steps.call Few s st (slice_get source.routines r) todo (known r) h.1
      acts (piece.CallOnNow r) todo e n f h = steps.call_on Few s st (slice_get source.routines r) todo (known r) (inl h.1)
      acts (piece.CallUnwrittenNow r) todo e n f h = steps.call_unwritten Few s st (slice_get source.routines r) todo (known r) (inl h.1)
      acts (piece.CountNow m) todo e n f h = record { frames = st.frames; stack = (st.stack.0, inl h.1, st.stack.2); env = st.env }
      acts piece.MoreNow todo e n f h = record { frames = st.frames; stack = (st.stack.0, inl h.1, st.stack.2); env = st.env }
      acts (piece.FillNow m b d) todo e n f h = go _ _ (steps.filled Few (here s) (nat_lt s.run.elements m) m b d todo h.1)
      acts (piece.Again o t step b) todo e n f h = go _ _ (either (AllCounted Few (here s)) (piece.is_zero (number (top s.run.operands))) todo (piece.TurnNow o t step b ∷ todo) h.1 (tt, h.1))
      acts (piece.PrintNow form) todo e n f h = steps.prints Few s st s.env.gathered _ todo _ h.1
      acts (piece.TextNow k) todo e n f h = steps.prints Few s st s.env.gathered _ todo _ h.1
      acts piece.GatherNow todo e n f h = steps.go_in Few s st _ _ _ (like refl refl refl) h.1
      acts piece.FlushNow todo e n f h = steps.flushes Few s st s.env.gathered todo _ h.1
      acts (piece.ReadNow form) todo e n f h = go _ _ h.1
      acts (piece.ClearNow k m) todo e n f h = steps.clears Few s st k m todo f h.1
      acts (piece.Items []) todo e n f h = go _ _ h.1
      acts (piece.Items (i ∷ is)) todo e n f h = go _ _ (steps.item Few (here s) i _ (tt, h.1))
      acts (piece.Values []) todo e n f h = go _ _ h.1
      acts (piece.Values (i ∷ is)) todo e n f h = go _ _ (steps.item_value Few (here s) i _ (tt, h.1))
      acts (piece.Pieces []) todo e n f h = go _ _ h.1
      acts (piece.Pieces (i ∷ is)) todo e n f h = go _ _ (tt, steps.item_piece Few (here s) i todo h.1)
      acts (piece.Targets []) todo e n f h = go _ _ h.1
      acts (piece.Targets (t ∷ ts)) todo e n f h = go _ _ (inl (tt, (tt, (tt, h.1))))
      acts (piece.Variables []) todo e n f h = go _ _ h.1
      acts (piece.Variables (d ∷ ds)) todo e n f h = go _ _ (tt, steps.starts Few (here s) d.cell d.value (piece.Variables ds ∷ todo) (tt, h.1))
      acts (piece.Do a) todo e n f h = steps.stmts Few s st a todo f h
      acts (piece.Rest ss) todo e n f h = absurd n
      acts (piece.Exit w) todo e n f h = steps.exits Few s st w todo h
      acts (piece.InLoop o t step b) todo e n f h = go _ _ (steps.stepped Few (here s) step _ (steps.tested Few (here s) o t step b todo h.1))
      acts (piece.Clean x) todo e n f h = go _ _ (steps.cleans Few (here s) x todo h.1)
      acts (piece.Sweep a) todo e n f h = steps.swept Few s st s.run.elements a todo h.1
      acts piece.Unwind todo e n f h = steps.unwinds Few s st todo h
      acts piece.ThrowNow todo e n f h = steps.throws Few s st (raising.event_in s.run.operands) todo h.1
      acts piece.RaiseNow todo e n f h = steps.raises Few s st (raising.event_in s.run.operands) todo h.1
      acts (piece.SetUpNow r) todo e n f h = steps.set_up Few s st (slice_get source.routines r) todo (known r) f h.1
      acts piece.EnlivenNow todo e n f h = steps.go_in Few s st _ _ _ (kept.enlivened_keeps Few (piece.own_exec s) s.env st.env) h.1
      acts piece.TakeDownNow todo e n f h = steps.moved Few s st _ todo _ h.1 (kept.take_down_rests Few (piece.own_exec s) (at todo s.run.operands s) (go _ _ h.1))
      acts piece.ForgetNow todo e n f h = steps.go_in Few s st _ _ _ (kept.forgotten_keeps Few (piece.own_exec s) s.env st.env) h.1
      acts (piece.LiveNow r) todo e n f h = steps.live Few s st (slice_get source.routines r) todo h.1
      acts piece.ResumeNow todo e n f h = steps.moved Few s st _ (piece.Land ∷ todo) _ (tt, h.1) (kept.wake_rests Few (quiet.resumed s) (at (piece.Land ∷ todo) s.run.operands s) (go _ _ (tt, h.1)))
      acts piece.SuspendNow todo e n f h = steps.moved Few s st _ (piece.Land ∷ todo) _ (tt, h.1) (kept.suspend_rests Few (at (piece.Land ∷ todo) s.run.operands s) (go _ _ (tt, h.1)))
      acts piece.Land todo e n f h = steps.land Few s st s.run.raised todo h.1
      acts (piece.EnterNow m r) todo e n f h = steps.enter Few s st m (slice_get source.routines r) todo h.1
      acts piece.LeaveNow todo e n f h = steps.leave Few s st _ (monitors.this_object s) todo h.1
      acts (piece.MakeNow k r) todo e n f h = absurd n
      acts (piece.BindMadeNow k r) todo e n f h = absurd n
      acts piece.MadeNow todo e n f h = steps.unless Few s st (monitors.this_object s) _ todo h.1 (steps.go_in Few s st _ _ _ (like refl refl refl) h.1)
      acts (piece.SpawnNow r) todo e n f h = steps.unless Few s st (monitors.this_object s) _ (piece.ChildNow r ∷ todo) (tt, h.1) (steps.go_in Few s st _ _ _ (like refl refl refl) (tt, h.1))
      acts piece.GoneNow todo e n f h = steps.go_in Few s st _ _ _ (like refl refl refl) h.1
      acts piece.GiveUpNow todo e n f h = steps.go_in Few s st _ _ _ (like refl refl refl) h.1
      acts (piece.ConditionNow k m) todo e n f h = steps.condition Few s st k _ todo h.1
      acts piece.WaitNow todo e n f h = steps.unless Few s st (monitors.this_object s) _ todo h.1 (go _ _ h.1)
      acts piece.SignalBlockNow todo e n f h = steps.unless Few s st (monitors.this_object s) _ todo h.1 (go _ _ h.1)
      acts (piece.Guards src.NoClauses) todo e n f h = go _ _ h.1
      acts (piece.Guards (src.Otherwise b)) todo e n f h = go _ _ h.1
      acts (piece.Guards (src.MoreClauses guard b cs)) todo e n f h = go _ _ (inl (tt, h.1))
      acts (piece.AcceptNow site m) todo e n f h = steps.accept_by Few s st (monitors.mask_of (take_operands Nothing m s.run.operands [])) (monitors.this_object s) site todo (drop m s.run.operands) h.1
      acts piece.FailedNow todo e n f h = steps.failed Few s st _ todo _ h.1
      acts (piece.ChooseNow cs) todo e n f h = go _ _ (steps.branch Few (here s) _ cs todo h.1)
      acts piece.RaiseAtNow todo e n f h = steps.raise_at Few s st (top s.run.operands) (raising.event_in (below s.run.operands)) todo (drop 4 s.run.operands) h.1
      acts (piece.EnableNow events cell) todo e n f h = steps.enables Few s st _ cell todo h.1
      acts (piece.DisableNow events cell) todo e n f h = steps.enables Few s st _ cell todo h.1
      acts (piece.RestoreNow cell) todo e n f h = steps.go_in Few s st _ _ _ (like refl refl refl) h.1
      acts piece.PollNow todo e n f h = steps.poll Few s st todo h.1
      acts piece.DeliverNow todo e n f h = steps.deliver Few s st _ todo h.1
      acts piece.Finish todo e n f h = steps.unless Few s st s.env.own _ todo h.1 (steps.returned Few s st _ s.callers st.frames st.stack.2)
      acts piece.FinishCoroutine todo e n f h = steps.moved Few s st _ todo _ h.1 (kept.finish_rests Few (at todo s.run.operands s) (go _ _ h.1))
      acts p todo e n f h = go _ _ h.1

      -- the pieces that bind

      binds : (todo : List Todo) → FairAt source (piece.BindNow ∷ todo) s → AllCounted Few (here s) (piece.BindNow ∷ todo) → GoodStepBy Few (quiet.act source piece.BindNow todo s)
      binds todo f (inl h) = inl (steps.go_at Few s st _ _ _ (steps.binding Few s st todo f.2) h)
      binds todo f (inr h) = inl (steps.bound Few s st todo f.1 (steps.binding Few s st todo f.2) h.0 h.1)

      makes : (k r : ℕ) (todo : List Todo) → AllCounted Few (here s) (piece.MakeNow k r ∷ todo) → GoodStepBy Few (quiet.act source (piece.MakeNow k r) todo s)
      makes k r todo (inl h) = lift Few (quiet.act source (piece.MakeNow k r) todo s) (steps.make Few s st k r (slice_get source.routines r) todo h)
      makes k r todo (inr h) = steps.makes Few s st k r (slice_get source.routines r) todo h.0 h.1

      made : (k r : ℕ) (todo : List Todo) → FairAt source (piece.BindMadeNow k r ∷ todo) s → AllCounted Few (here s) (piece.BindMadeNow k r ∷ todo) → GoodStepBy Few (quiet.act source (piece.BindMadeNow k r) todo s)
      made k r todo f (inl h) = lift Few (quiet.act source (piece.BindMadeNow k r) todo s) (steps.bind Few s st (slice_get source.routines r) todo f.1 h)
      made k r todo f (inr h) = steps.made Few s st (slice_get source.routines r) todo f.0 f.1 h.0 h.1

      -- the statements that are left of a block

      fills : (a : Stmt) (l n : ℕ) (x d : Expr) (rest : Stmts) (todo : List Todo) → PrecedesFill a n x → AllCounted Few (here s) todo → GoodStepBy Few (quiet.rest_step (src.Then a (src.Then (src.Fill l n x d) rest)) todo s)
      fills a l n (src.OfObject (src.Bind (src.Element m src.Binding (src.Variable k) i) e)) d rest todo f h =
          begun_all Few s st k n (src.Fill l n (src.OfObject (src.Bind (src.Element m src.Binding (src.Variable k) i) e)) d) (refl, f.1) a rest todo f.0 h
      fills a l n (src.OfObject (src.MakeOn c r w (src.Element m src.Binding (src.Variable k) i) args)) d rest todo f h =
          begun_all Few s st k n (src.Fill l n (src.OfObject (src.MakeOn c r w (src.Element m src.Binding (src.Variable k) i) args)) d) (refl, f.1) a rest todo f.0 h
      fills a l n x d rest todo f h = inl (steps.rest_with Few s st a (src.Then (src.Fill l n x d) rest) todo tt h)

      thens : (a : Stmt) (ss : Stmts) (todo : List Todo) → IsUnbound a → Follows a ss → Joined ss → AllCounted Few (here s) todo → GoodStepBy Few (quiet.rest_step (src.Then a ss) todo s)
      thens a src.Nil todo b f j h = inl (steps.rest_with Few s st a src.Nil todo tt h)
      thens a (src.Then (src.Evaluate l (src.OfObject (src.Bind (src.Variable k) (src.OfObject src.NewCluster)))) rest) todo b f j h = begun_alone Few s st k (src.Evaluate l (src.OfObject (src.Bind (src.Variable k) (src.OfObject src.NewCluster)))) (refl, refl) a rest todo f h
      thens a (src.Then (src.Evaluate l (src.OfObject (src.Bind (src.Variable k) (src.OfObject (src.NewProcessor e))))) rest) todo b f j h = begun_alone Few s st k (src.Evaluate l (src.OfObject (src.Bind (src.Variable k) (src.OfObject (src.NewProcessor e))))) (refl, refl) a rest todo f h
      thens a (src.Then (src.Evaluate l (src.OfObject (src.MakeOn c r written (src.Variable k) args))) rest) todo b f j h = begun_alone Few s st k (src.Evaluate l (src.OfObject (src.MakeOn c r written (src.Variable k) args))) (refl, refl) a rest todo f h
      thens a (src.Then (src.Fill l n x d) rest) todo b f j h = fills a l n x d rest todo f h
      thens a (src.Then c rest) todo b f j h = inl (steps.rest_with Few s st a (src.Then c rest) todo tt h)
      thens a (src.Scoped (src.Destroys (src.OfObject (src.EndCluster (src.Load (src.Variable k))))) rest) todo b f j h = absurd (no_bind k a f b)
      thens a (src.Scoped (src.Destroys (src.OfObject (src.EndProcessor (src.Load (src.Variable k))))) rest) todo b f j h = absurd (no_processor k a f b)
      thens a (src.Scoped (src.Destroys (src.OfObject (src.EndOn r written (src.Load (src.Variable k))))) rest) todo b f j h = absurd (no_object k a f b)
      thens a (src.Scoped (src.DestroysAll n e) rest) todo b f j h = inl (steps.rest_with Few s st a (src.Scoped (src.DestroysAll n e) rest) todo (not_opened a n e f b) h)
      thens a (src.Scoped c rest) todo b f j h = inl (steps.rest_with Few s st a (src.Scoped c rest) todo tt h)
      thens a (src.Built c rest) todo b f j h = inl (steps.rest_with Few s st a (src.Built c rest) todo tt h)

      rests : (ss : Stmts) (todo : List Todo) → FairAt source (piece.Rest ss ∷ todo) s → AllCounted Few (here s) (piece.Rest ss ∷ todo) → GoodStepBy Few (quiet.rest_step ss todo s)
      rests src.Nil todo f h = inl (go _ _ h.1)
      rests (src.Then a ss) todo f h = thens a ss todo h.0 f.0.0 f.0.1 h.1
      rests (src.Scoped c ss) todo f h = inl (go _ _ (f.0.0, ((f.1 (far c h.0), uncounted Few (here s) c (no_cluster c h.0)), h.1)))
      rests (src.Built c ss) todo f h = inl (go _ _ (f.0.0, (tt, h.1)))

      -- the scope opens of what is bound
      scopes : (ss : Stmts) (todo : List Todo) → FairAt source (piece.Rest ss ∷ todo) s → AtBound Few (here s) (piece.Rest ss ∷ todo) → NextBound (HoldsObject (here s)) (piece.Rest ss ∷ todo) → GoodStepBy Few (quiet.rest_step ss todo s)
      scopes (src.Scoped c ss) todo f h b = inl (go _ _ (f.0.0, ((opened (here s) c h.0 b f.1, uncounted Few (here s) c h.0), h.1)))
      scopes src.Nil todo f h b = rests src.Nil todo f h
      scopes (src.Then a ss) todo f h b = rests (src.Then a ss) todo f h
      scopes (src.Built c ss) todo f h b = rests (src.Built c ss) todo f h

      bounds : (l : List Todo) → FairAt source l s → AtBound Few (here s) l → NextBound (HoldsObject (here s)) l → GoodStepBy Few (quiet.act_todo source l s)
      bounds (piece.Rest ss ∷ todo) f h b = scopes ss todo f h b
      bounds (piece.Within line ∷ (piece.Rest ss ∷ todo)) f h b = inl (steps.go_held Few s st _ _ (inr (inl (h, b))))
      bounds (piece.DropNow ∷ (piece.Within line ∷ (piece.Rest ss ∷ todo))) f h b = inl (steps.go_held Few s st _ _ (inr (inl (h, b))))
      bounds (piece.CallOnNow r ∷ (piece.DropNow ∷ (piece.Within line ∷ (piece.Rest ss ∷ todo)))) f h b =
          lift Few _ (steps.call_on Few s st (slice_get source.routines r) (piece.DropNow ∷ (piece.Within line ∷ (piece.Rest ss ∷ todo))) (known r) (inr (inl (h, b))))
      bounds (piece.CallUnwrittenNow r ∷ (piece.DropNow ∷ (piece.Within line ∷ (piece.Rest ss ∷ todo)))) f h b =
          lift Few _ (steps.call_unwritten Few s st (slice_get source.routines r) (piece.DropNow ∷ (piece.Within line ∷ (piece.Rest ss ∷ todo))) (known r) (inr (inl (h, b))))
      bounds l f h b = absurd h

      counts : (l : List Todo) → s.run.control ≡ l → FairAt source l s → AllCounted Few (here s) l → GoodStepBy Few (quiet.act_todo source l s)
      counts [] e f h = lift Few (quiet.act_todo source [] s) (steps.returned Few s st _ s.callers st.frames st.stack.2)
      counts (piece.Rest ss ∷ todo) e f h = rests ss todo f h
      counts (piece.BindNow ∷ todo) e f h = binds todo f h
      counts (piece.MakeNow k r ∷ todo) e f h = makes k r todo h
      counts (piece.BindMadeNow k r ∷ todo) e f h = made k r todo f h
      counts (p ∷ todo) e f h = lift Few (quiet.act source p todo s) (acts p todo e tt f h)

      there : Fair source s → GoodStepBy Few (quiet.quiet source s)
      there f = by s.run.control refl st.stack.1
        where
          by : (l : List Todo) → s.run.control ≡ l → Held Few (here s) s.run.elements s.run.control → GoodStepBy Few (quiet.act_todo source l s)
          by l e (inl h) = counts l e (subst (λ l. FairAt source l s) e f) (subst (AllCounted Few (here s)) e h)
          by l e (inr (inl h)) = bounds l (subst (λ l. FairAt source l s) e f) (subst (AtBound Few (here s)) e h.0) (subst (NextBound (HoldsObject (here s))) e h.1)
          by l e (inr (inr h)) = subst (λ l. GoodStepBy Few (quiet.act_todo source l s)) e (counting Few source known s st h)

    pub walk : (s : State) → GoodBy Few s → Fair source s → GoodStepBy Few (quiet.quiet source s)
    walk s (inl st) f = there s st f
    walk s (inr (inl d)) f = declaring Few source s d f
    walk s (inr (inr (inl o))) f = opening Few source s o f
    walk s (inr (inr (inr x))) f = filling Few source known s x f

    begins : (o : ℕ) (r : Option Routine) → RoutineBegins r → CountedState Few (first_state (routine_or_none r) o)
    begins o None b = record { frames = refl; stack = (omega arith, inl (tt, (tt, tt)), tt); env = record { house = (tt, tt); hand = tt } }
    begins o (Some r) b = record { frames = refl; stack = (omega arith, inl (steps.routine Few _ r b), tt); env = record { house = (tt, tt); hand = tt } }

    -- a task begins so
    pub first : (r o : ℕ) → CountedState Few (first_state (routine_of source r) o)
    first r o = begins o (slice_get source.routines r) (known r)

  -- answers bring operands, and at most an object in which nothing is to do

  more_hand : (hand : List (ℕ × Members)) (o : ℕ) (m : Members) → CountedParked Few m.parked → CountedHand Few hand → CountedHand Few (hand ++ (o, m) ∷ [])
  more_hand [] o m h k = (h, tt)
  more_hand (p ∷ hand) o m h k = (k.0, more_hand hand o m h k.1)

  new_there : (source : Source) (todo : List Todo) → CountedMembers Few (new_members source todo)
  new_there source [] = tt
  new_there source (piece.BindMadeNow c r ∷ todo) = tt
  new_there source (p ∷ todo) = tt

  -- with other operands
  with_operands : (s : State) (vs : List Value) → CountedState Few s → CountedState Few (record s { run = record s.run { operands = vs } })
  with_operands s vs h = record { frames = h.frames; stack = (h.stack.0, h.stack.1, h.stack.2); env = h.env }

  entered_there : (m : Option Members) (o : ℕ) (s : State) → CountedMembers Few m → CountedState Few s → CountedState Few (with_operand (piece.Object o) (entered m o s))
  entered_there None o s k h = with_operands s _ h
  entered_there (Some m) o s k h = record { frames = h.frames; stack = (h.stack.0, h.stack.1, h.stack.2); env = record { house = h.env.house; hand = more_hand s.env.hand o m k h.env.hand } }

  pub answered_there : (source : Source) (given : Answer) (s : State) → CountedState Few s → CountedState Few (answered source given s)
  answered_there source (answer.Object o) s h = entered_there (new_members source s.run.control) o s (new_there source s.run.control) h
  answered_there source (answer.Number n) s h = with_operands s _ h
  answered_there source (answer.Value n failed) s h = with_operands s _ h
  answered_there source (answer.Clause k failed) s h = with_operands s _ h
  answered_there source (answer.Event n x y) s h = with_operands s _ h
  answered_there source answer.Nothing s h = with_operands s _ h
  answered_there source answer.Go s h = h

  -- one that waits for a new cluster is told of it
  pub waited : (source : Source) (o : ℕ) (s : State) → Few o ≡ true → WaitingBy Few s → OpeningBy Few (answered source (answer.Object o) s)
  waited source o s w h =
      let t : OpeningBy Few (with_operand (piece.Object o) s) = h o w in
      let none : new_members source s.run.control ≡ None = ap (new_members source) t.control ∙ none_new source t.stage t.cell t.line t.next t.todo in
      subst (λ m. OpeningBy Few (with_operand (piece.Object o) (entered m o s))) (sym none) t

  -- one that fills an array and waits for an object is told of it
  fill_entered : (m : Option Members) (o : ℕ) (s : State) → CountedMembers Few m → FillingBy Few (with_operand (piece.Object o) s) → FillingBy Few (with_operand (piece.Object o) (entered m o s))
  fill_entered None o s k h = h
  fill_entered (Some m) o s k h = record {
    array = h.array;
    stage = h.stage;
    control = h.control;
    ends = h.ends;
    begins = h.begins;
    loose = h.loose;
    there = h.there;
    missing = h.missing;
    finding = find_entered h.stage h.array m o s h.finding;
    frames = h.frames;
    frame = h.frame;
    behind = h.behind;
    callers = h.callers;
    env = record { house = h.env.house; hand = more_hand s.env.hand o m k h.env.hand };
  }

  pub fill_told : (source : Source) (o : ℕ) (s : State) → FillWaits Few s → FillingBy Few (answered source (answer.Object o) s)
  fill_told source o s h = fill_entered (new_members source s.run.control) o s (new_there source s.run.control) (h o)

pub law_steps : LawSteps
law_steps = record {
  begins = λ few source known r o. first few source known r o;
  steps = λ few source known s h f. walk few source known s h f;
  told = λ few source given s h. answered_there few source given s h;
  waited = λ few source o s w h. waited few source o s w h;
  filled = λ few source o s h. fill_told few source o s h;
}
