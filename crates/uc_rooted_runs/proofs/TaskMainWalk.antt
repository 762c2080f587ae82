-- In every quiet step of a task mains of tasks alone end tasks, as long as none is called or set up, and so they do with answers.
use Rattle.std.proofs.Common.{◌≡◌, ℕ, true, List, [], ◌∷◌, Option, Some, None, refl, subst}
use Rattle.uc_tree.specs.Source.{CleanUp}
use Rattle.uc_machine.specs.Pieces.{Active}
use Rattle.std.specs.Prelude.{nat_lt, slice_get, drop}
use Rattle.uc_tree.specs.Source as src
use Rattle.uc_tree.specs.Source.{Source, Stmts, Routine, routine_of}
use Rattle.uc_entry.specs.declared.request.Answer.{Answer}
use Rattle.uc_entry.specs.declared.request.Answer.TheVariants as answer
use Rattle.uc_machine.specs.declared.exec.Home.TheVariants as home
use Rattle.uc_machine.specs.Executions.{take_operands}
use Rattle.uc_machine.specs.Raising as raising
use Rattle.uc_machine.specs.Monitors as monitors
use Rattle.uc_machine.specs.Quiet as quiet
use Rattle.uc_machine.specs.Quiet.{first_state}
use Rattle.uc_machine.specs.Pieces as piece
use Rattle.uc_machine.specs.Pieces.{Value, Todo, State, Members, at, top, number}
use Rattle.uc_machine.specs.Answering.{answered, entered, new_members, with_operand}
use Rattle.uc_rooted_runs.specs.TaskMains.{EndsMembers, EndsEx, EndsState, EndsStep, BeginsNoneBy, BeginsNone, is_task_main}
use Rattle.uc_life_laws.proofs.Cells.{either}
use Rattle.uc_rooted_runs.proofs.TaskMainKeeping as kept
use Rattle.uc_life_laws.proofs.Parked as parked
use Rattle.uc_rooted_runs.proofs.TaskMainSteps as steps
use Rattle.uc_rooted_runs.proofs.TaskMainSteps.{Holding}

module _ (source : Source) (s : State) (st : EndsState s) where
  go : (todo : List Todo) (vs : List Value) → Holding s st todo → EndsState (at todo vs s)
  go = steps.go s st

  -- the statements that are left of a block
  rests : (ss : Stmts) (todo : List Todo) → Holding s st todo → EndsStep (quiet.rest_step ss todo s)
  rests src.Nil todo h = go _ _ h
  rests (src.Then a ss) todo h = go _ _ h
  rests (src.Scoped c ss) todo h = go _ _ h
  rests (src.Built c ss) todo h = go _ _ h

  -- one piece, with what is to do behind it
  acts : (p : Todo) (todo : List Todo) → s.run.control ≡ p ∷ todo → BeginsNoneBy source (p ∷ todo) → Holding s st (p ∷ todo) → EndsStep (quiet.act source p todo s)
  acts (piece.Eval a) todo e o h = steps.eval s st a todo h
  acts (piece.ElementNow m k) todo e o h = steps.element s st k _ todo _ _ h
  acts piece.NegateNow todo e o h = steps.outcome s st _ todo _ h
  acts (piece.OperateNow op) todo e o h = steps.outcome s st _ todo _ h
  acts piece.StoreNow todo e o h = steps.go_in s st _ _ _ (kept.written_keeps _ _ s.env st.env) h
  acts piece.KeepNow todo e o h = steps.go_in s st _ _ _ (kept.written_keeps _ _ s.env st.env) h
  acts (piece.SetNow k) todo e o h = steps.go_in s st _ _ _ (kept.written_keeps (piece.variable_at k s) (piece.Number (number (top s.run.operands))) s.env st.env) h
  acts piece.BindNow todo e o h = steps.go_in s st _ _ _ (kept.written_keeps _ _ s.env st.env) h
  acts (piece.Arguments src.NoExprs) todo e o h = go _ _ h
  acts (piece.Arguments (src.MoreExprs a es)) todo e o h = go _ _ h
  acts (piece.CallNow r) todo e o h = steps.call s st (slice_get source.routines r) o todo h
  acts (piece.CallOnNow r) todo e o h = steps.call_on s st (slice_get source.routines r) o todo h
  acts (piece.CallUnwrittenNow r) todo e o h = steps.call_unwritten s st (slice_get source.routines r) o todo h
  acts (piece.CountNow m) todo e o h = record { stack = (h, st.stack.1); env = st.env }
  acts piece.MoreNow todo e o h = record { stack = (h, st.stack.1); env = st.env }
  acts (piece.FillNow m b d) todo e o h = go _ _ (steps.filled (is_task_main s.env.exec) (nat_lt s.run.elements m) m b d todo h)
  acts (piece.Again order c step b) todo e o h = go _ _ (either (Holding s st) (piece.is_zero (number (top s.run.operands))) todo (piece.TurnNow order c step b ∷ todo) h h)
  acts (piece.PrintNow form) todo e o h = steps.prints s st s.env.gathered _ todo _ h
  acts (piece.TextNow k) todo e o h = steps.prints s st s.env.gathered _ todo _ h
  acts piece.GatherNow todo e o h = steps.go_in s st _ _ _ (steps.same s st refl refl refl refl) h
  acts piece.FlushNow todo e o h = steps.flushes s st s.env.gathered todo _ h
  acts (piece.ClearNow k m) todo e o h = steps.clears s st k m todo h
  acts (piece.Items []) todo e o h = go _ _ h
  acts (piece.Items (i ∷ is)) todo e o h = go _ _ (steps.item (is_task_main s.env.exec) i (piece.Items is ∷ todo) h)
  acts (piece.Values []) todo e o h = go _ _ h
  acts (piece.Values (i ∷ is)) todo e o h = go _ _ (steps.item_value (is_task_main s.env.exec) i (piece.Values is ∷ todo) h)
  acts (piece.Pieces []) todo e o h = go _ _ h
  acts (piece.Pieces (i ∷ is)) todo e o h = go _ _ (steps.item_piece (is_task_main s.env.exec) i todo h)
  acts (piece.Targets []) todo e o h = go _ _ h
  acts (piece.Targets (x ∷ xs)) todo e o h = go _ _ h
  acts (piece.Variables []) todo e o h = go _ _ h
  acts (piece.Variables (d ∷ ds)) todo e o h = go _ _ (steps.starts (is_task_main s.env.exec) d.cell d.value (piece.Variables ds ∷ todo) h)
  acts (piece.Do a) todo e o h = steps.stmt s st a todo h
  acts (piece.Rest ss) todo e o h = rests ss todo h
  acts (piece.Exit w) todo e o h = steps.exits s st w todo h
  acts (piece.InLoop order c step b) todo e o h = go _ _ (steps.stepped (is_task_main s.env.exec) step _ (steps.tested (is_task_main s.env.exec) order c step b todo h))
  acts (piece.Clean x) todo e o h = go _ _ (steps.cleans (is_task_main s.env.exec) x todo h)
  acts (piece.Part x) todo e o h = go _ _ h
  acts (piece.Sweep a) todo e o h = steps.swept s st s.run.elements a todo h
  acts piece.Unwind todo e o h = steps.unwinds s st todo h
  acts piece.ThrowNow todo e o h = steps.throws s st (raising.event_in s.run.operands) todo h
  acts piece.RaiseNow todo e o h = steps.raises s st (raising.event_in s.run.operands) todo h
  acts (piece.SetUpNow r) todo e o h = steps.set_up s st (slice_get source.routines r) o todo h
  acts piece.EnlivenNow todo e o h = steps.go_in s st _ _ _ (kept.enlivened_keeps (piece.own_exec s) s.env st.env) h
  acts piece.TakeDownNow todo e o h = steps.moved s st _ todo _ h (kept.take_down_rests (piece.own_exec s) (at todo s.run.operands s) (go _ _ h))
  acts piece.ForgetNow todo e o h = steps.go_in s st _ _ _ (kept.forgotten_keeps (piece.own_exec s) s.env st.env) h
  acts (piece.LiveNow r) todo e o h = steps.live s st (slice_get source.routines r) todo h
  acts piece.ResumeNow todo e o h = steps.moved s st _ (piece.Land ∷ todo) _ h (kept.wake_rests (quiet.resumed s) (at (piece.Land ∷ todo) s.run.operands s) (go _ _ h))
  acts piece.SuspendNow todo e o h = steps.moved s st _ (piece.Land ∷ todo) _ h (kept.suspend_rests (at (piece.Land ∷ todo) s.run.operands s) (go _ _ h))
  acts piece.Land todo e o h = steps.land s st s.run.raised todo h
  acts (piece.EnterNow m r) todo e o h = steps.enter s st m (slice_get source.routines r) todo h
  acts piece.LeaveNow todo e o h = steps.leave s st _ (monitors.this_object s) todo h
  acts (piece.MakeNow k r) todo e o h = steps.make s st k r (slice_get source.routines r) todo h
  acts (piece.BindMadeNow k r) todo e o h = steps.bind s st (slice_get source.routines r) todo h
  acts piece.MadeNow todo e o h = steps.unless s st (monitors.this_object s) _ todo h (steps.go_in s st _ _ _ (steps.same s st refl refl refl refl) h)
  acts (piece.SpawnNow r) todo e o h = steps.unless s st (monitors.this_object s) _ (piece.ChildNow r ∷ todo) h (steps.go_in s st _ _ _ (steps.same s st refl refl refl refl) h)
  acts piece.GoneNow todo e o h = steps.go_in s st _ _ _ (steps.same s st refl refl refl refl) h
  acts piece.GiveUpNow todo e o h = steps.go_in s st _ _ _ (steps.same s st refl refl refl refl) h
  acts (piece.ConditionNow k m) todo e o h = steps.condition s st k _ todo h
  acts piece.WaitNow todo e o h = steps.unless s st (monitors.this_object s) _ todo h (go _ _ h)
  acts piece.SignalBlockNow todo e o h = steps.unless s st (monitors.this_object s) _ todo h (go _ _ h)
  acts (piece.Guards src.NoClauses) todo e o h = go _ _ h
  acts (piece.Guards (src.Otherwise b)) todo e o h = go _ _ h
  acts (piece.Guards (src.MoreClauses guard b cs)) todo e o h = go _ _ h
  acts (piece.AcceptNow site m) todo e o h = steps.accept_by s st (monitors.mask_of (take_operands piece.Nothing m s.run.operands [])) (monitors.this_object s) site todo (drop m s.run.operands) h
  acts piece.FailedNow todo e o h = steps.failed s st _ todo _ h
  acts (piece.ChooseNow cs) todo e o h = go _ _ (steps.branch (is_task_main s.env.exec) _ cs todo h)
  acts piece.RaiseAtNow todo e o h = steps.raise_at s st _ _ todo _ h
  acts (piece.EnableNow events cell) todo e o h = steps.enables s st _ cell todo h
  acts (piece.DisableNow events cell) todo e o h = steps.enables s st _ cell todo h
  acts (piece.RestoreNow cell) todo e o h = steps.go_in s st _ _ _ (steps.same s st refl refl refl refl) h
  acts piece.PollNow todo e o h = steps.poll s st todo h
  acts piece.DeliverNow todo e o h = steps.deliver s st _ todo h
  acts piece.Finish todo e o h = steps.unless s st s.env.own _ todo h.1 (steps.returned s st _ s.callers st.stack.1)
  acts piece.FinishCoroutine todo e o h = steps.moved s st _ todo _ h (kept.finish_rests (at todo s.run.operands s) (go _ _ h))
  acts p todo e o h = go _ _ h

  pub walk : BeginsNone source s → EndsStep (quiet.quiet source s)
  walk o = by s.run.control refl
    where
      by : (l : List Todo) → s.run.control ≡ l → EndsStep (quiet.act_todo source l s)
      by [] e = steps.returned s st _ s.callers st.stack.1
      by (p ∷ todo) e = acts p todo e (subst (BeginsNoneBy source) e o) (subst (Holding s st) e st.stack.0)

pub begins : (source : Source) (r o : ℕ) → EndsState (first_state (routine_of source r) o)
begins source r o = record {
  stack = (steps.begins true refl (routine_of source r), tt);
  env = record { house = (tt, tt); hand = tt };
}

new_there : (source : Source) (h : ℕ) (todo : List Todo) → EndsMembers (home.Object h) (new_members source todo)
new_there source h [] = tt
new_there source h (piece.BindMadeNow c r ∷ todo) = tt
new_there source h (p ∷ todo) = tt

-- with other operands
with_operands : (s : State) (vs : List Value) → EndsState s → EndsState (record s { run = record s.run { operands = vs } })
with_operands s vs h = record { stack = (h.stack.0, h.stack.1); env = h.env }

entered_there : (m : Option Members) (o : ℕ) (s : State) → EndsMembers (home.Object o) m → EndsState s → EndsState (with_operand (piece.Object o) (entered m o s))
entered_there None o s k h = with_operands s _ h
entered_there (Some m) o s k h = record { stack = (h.stack.0, h.stack.1); env = record { house = h.env.house; hand = parked.more_hand EndsEx s.env.hand o m k h.env.hand } }

pub answered_there : (source : Source) (given : Answer) (s : State) → EndsState s → EndsState (answered source given s)
answered_there source (answer.Object o) s h = entered_there (new_members source s.run.control) o s (new_there source o s.run.control) h
answered_there source (answer.Number n) s h = with_operands s _ h
answered_there source (answer.Value n failed) s h = with_operands s _ h
answered_there source (answer.Clause k failed) s h = with_operands s _ h
answered_there source (answer.Event n x y) s h = with_operands s _ h
answered_there source answer.Nothing s h = with_operands s _ h
answered_there source answer.Go s h = h
