-- Every quiet step of a state that keeps to its rooms, and answers to it.
use Rattle.std.proofs.Common.{◌≡◌, ℕ, inl, List, [], ◌∷◌, ◌++◌, Option, Some, None, refl, subst, arith}
use Rattle.std.specs.Prelude.{nat_lt, slice_get, drop}
use Rattle.uc_tree.specs.Source as src
use Rattle.uc_tree.specs.Source.{Source, Routine, routine_or_none, routine_of}
use Rattle.uc_entry.specs.declared.fault.RunFault.TheVariants.{NoReturn}
use Rattle.uc_entry.specs.declared.request.Answer.{Answer}
use Rattle.uc_entry.specs.declared.request.Answer.TheVariants as answer
use Rattle.uc_machine.specs.Executions.{take_operands, values_cleared}
use Rattle.uc_machine.specs.Raising as raising
use Rattle.uc_machine.specs.Monitors as monitors
use Rattle.uc_machine.specs.Quiet as quiet
use Rattle.uc_machine.specs.Quiet.{first_state, zeros}
use Rattle.uc_machine.specs.Pieces as piece
use Rattle.uc_machine.specs.Pieces.{Value, Nothing, Todo, State, Members, Step, Goes, Ticks, Asks, at, top, below, number}
use Rattle.uc_machine.specs.Answering.{answered, entered, new_members, with_operand}
use Rattle.uc_site_laws.proofs.Kept.{either}
use Rattle.uc_site_laws.proofs.Kept as kept
use Rattle.uc_site_laws.specs.Resting.{AllWait, RestsParked, RestsHand, RestsMembers, RestsEnv}
use Rattle.uc_state_laws.specs.Rooms.{Room, MaybeRoutineIn, SourceIn}
use Rattle.uc_state_laws.specs.RoomStates.{PieceIn, TodoIn, SomeRoom, RoomActive, RoomState, RoomStep}
use Rattle.uc_state_laws.specs.Layout.{Sized}
use Rattle.uc_state_laws.specs.ScopeLaws.{LawSteps, LawClears}
use Rattle.uc_state_laws.proofs.ScopeSteps as steps

module _ (Z : ℕ → ℕ → Type 0) (source : Source) (known : SourceIn Z source) where
  module _ (s : State) (callers : AllWait (RoomActive Z) (RoomActive Z) s.callers) (env : RestsEnv (RoomActive Z) (RoomActive Z) s.env) (c : SomeRoom Z s.run.control) (o : Room) where
    go : (todo : List Todo) (vs : List Value) → TodoIn Z o todo → RoomState Z (at todo vs s)
    go = steps.go Z s callers env o

    -- one piece, with what is to do behind it
    acts : (p : Todo) (todo : List Todo) → TodoIn Z o (p ∷ todo) → RoomStep Z (quiet.act source p todo s)
    acts (piece.Eval a) todo n = steps.eval Z s callers env o a todo n.0 n.1
    acts (piece.ElementNow m k) todo n = steps.element Z s callers env o k _ todo _ _ n.1
    acts piece.NegateNow todo n = steps.outcome Z s callers env o _ todo _ n.1
    acts (piece.OperateNow op) todo n = steps.outcome Z s callers env o _ todo _ n.1
    acts piece.StoreNow todo n = steps.go_in Z s callers env o _ _ _ n.1 (steps.write Z s callers env _ _)
    acts piece.KeepNow todo n = steps.go_in Z s callers env o _ _ _ n.1 (steps.write Z s callers env _ _)
    acts (piece.SetNow k) todo n = steps.go_in Z s callers env o _ _ _ n.1 (steps.write Z s callers env (piece.variable_at k s) (piece.Number (number (top s.run.operands))))
    acts piece.BindNow todo n = steps.go_in Z s callers env o _ _ _ n.1 (steps.write Z s callers env _ _)
    acts (piece.Choose e f) todo n =
        go _ _ (either (λ (x : src.Expr). PieceIn Z o (piece.Eval x)) (piece.is_zero (number (top s.run.operands))) f e (steps.eva Z o f n.0.1) (steps.eva Z o e n.0.0), n.1)
    acts (piece.Branch a b) todo n =
        go _ _ (either (λ (x : src.Stmt). PieceIn Z o (piece.Do x)) (piece.is_zero (number (top s.run.operands))) b a n.0.1 n.0.0, n.1)
    acts (piece.TurnNow order t e b) todo n = go _ _ (n.0.2, (n.0, n.1))
    acts (piece.Arguments src.NoExprs) todo n = go _ _ n.1
    acts (piece.Arguments (src.MoreExprs e es)) todo n = go _ _ (steps.eva Z o e n.0.0, (n.0.1, n.1))
    acts (piece.CallNow r) todo n = steps.call Z s callers env o (slice_get source.routines r) todo (known r) n.1
    acts (piece.CallOnNow r) todo n = steps.call_on Z s callers env o (slice_get source.routines r) todo (known r) n.1
    acts (piece.CallUnwrittenNow r) todo n = steps.call_unwritten Z s callers env o (slice_get source.routines r) todo (known r) n.1
    acts (piece.CountNow m) todo n = record { run = (o, n.1); callers = callers; env = env }
    acts piece.MoreNow todo n = record { run = (o, n.1); callers = callers; env = env }
    acts (piece.FillNow m b d) todo n = go _ _ (steps.filled Z o (nat_lt s.run.elements m) m b d todo n.0 n.1)
    acts (piece.Again order t e b) todo n =
        go _ _ (either (TodoIn Z o) (piece.is_zero (number (top s.run.operands))) todo (piece.TurnNow order t e b ∷ todo) n.1 n)
    acts (piece.PrintNow f) todo n = steps.prints Z s callers env o s.env.gathered _ todo _ n.1
    acts (piece.TextNow k) todo n = steps.prints Z s callers env o s.env.gathered _ todo _ n.1
    acts piece.GatherNow todo n = steps.go_in Z s callers env o _ _ _ n.1 (steps.likes Z env refl refl)
    acts piece.FlushNow todo n = steps.flushes Z s callers env o s.env.gathered todo _ n.1
    acts (piece.ReadNow f) todo n = go _ _ n.1
    acts (piece.ClearNow k m) todo n = steps.go_in Z s callers env o _ _ _ n.1 (kept.owned_rests (RoomActive Z) (RoomActive Z) (steps.calm Z) (piece.this_frame s) (values_cleared k m piece.nought) s.env env)
    acts (piece.Items []) todo n = go _ _ n.1
    acts (piece.Items (i ∷ is)) todo n = go _ _ (steps.item Z o i _ n.0.0 (n.0.1, n.1))
    acts (piece.Values []) todo n = go _ _ n.1
    acts (piece.Values (i ∷ is)) todo n = go _ _ (steps.item_value Z o i _ n.0.0 (n.0.1, n.1))
    acts (piece.Pieces []) todo n = go _ _ n.1
    acts (piece.Pieces (i ∷ is)) todo n = go _ _ (n.0.1, steps.item_piece Z o i todo n.1)
    acts (piece.Targets []) todo n = go _ _ n.1
    acts (piece.Targets (t ∷ ts)) todo n = go _ _ (steps.eva Z o t.place n.0.0, (tt, (tt, (n.0.1, n.1))))
    acts (piece.Variables []) todo n = go _ _ n.1
    acts (piece.Variables (d ∷ ds)) todo n =
        go _ _ (inl (n.0.0, n.0.1), steps.starts Z o d.cell d.value (piece.Variables ds ∷ todo) n.0.2 (n.0.3, n.1))
    acts (piece.Do a) todo n = steps.stmt Z s callers env o a todo n.0 n.1
    acts (piece.Rest ss) todo n = steps.rest Z s callers env o ss todo n.0 n.1
    acts (piece.Exit w) todo n = steps.exits Z s callers env w todo (o, n.1) c
    acts piece.NoReturnNow todo n = steps.stop Z s callers env o NoReturn todo _ n.1
    acts (piece.InLoop order t e b) todo n = go _ _ (steps.stepped Z o e _ n.0.1 (steps.tested Z o order t e b todo n.0 n.1))
    acts piece.InWhole todo n = go _ _ n
    acts (piece.Clean x) todo n = steps.some Z s callers env _ _ (n.0, steps.cleans Z n.0 o x todo n.2 n.3)
    acts (piece.Sweep e) todo n = steps.swept Z s callers env o s.run.elements e todo n.0 n.1
    acts (piece.Part x) todo n = go _ _ n.1
    acts (piece.Guard hs) todo n = steps.some Z s callers env _ _ (n.0, n.6)
    acts piece.Unwind todo n = steps.unwinds Z s callers env todo (o, n.1) c
    acts piece.ThrowNow todo n = steps.throws Z s callers env o (raising.event_in s.run.operands) todo n.1
    acts piece.RaiseNow todo n = steps.raises Z s callers env o (raising.event_in s.run.operands) todo n.1
    acts (piece.SetUpNow r) todo n = steps.set_up Z s callers env o (slice_get source.routines r) todo (known r) n.1
    acts piece.EnlivenNow todo n = steps.go_in Z s callers env o _ _ _ n.1 (kept.enlivened_rests (RoomActive Z) (RoomActive Z) (steps.calm Z) _ s.env env)
    acts piece.TakeDownNow todo n = steps.moved Z s callers env o _ todo _ n.1 (kept.take_down_rests (RoomActive Z) (RoomActive Z) (steps.calm Z) (piece.own_exec s) (at todo s.run.operands s) (go _ _ n.1))
    acts piece.ForgetNow todo n = steps.go_in Z s callers env o _ _ _ n.1 (kept.forgotten_rests (RoomActive Z) (RoomActive Z) (steps.calm Z) _ s.env env)
    acts (piece.LiveNow r) todo n = steps.live Z s callers env o (slice_get source.routines r) todo n.1
    acts piece.ResumeNow todo n = steps.moved Z s callers env o _ (piece.Land ∷ todo) _ (tt, n.1) (kept.wake_rests (RoomActive Z) (RoomActive Z) (steps.calm Z) (quiet.resumed s) (at (piece.Land ∷ todo) s.run.operands s) (go _ _ (tt, n.1)))
    acts piece.SuspendNow todo n = steps.moved Z s callers env o _ (piece.Land ∷ todo) _ (tt, n.1) (kept.suspend_rests (RoomActive Z) (RoomActive Z) (steps.calm Z) (at (piece.Land ∷ todo) s.run.operands s) (go _ _ (tt, n.1)))
    acts piece.Land todo n = steps.land Z s callers env o s.run.raised todo n.1
    acts (piece.EnterNow m r) todo n = steps.enter Z s callers env o m (slice_get source.routines r) todo n.1
    acts piece.LeaveNow todo n = steps.leave Z s callers env o _ (monitors.this_object s) todo n.1
    acts (piece.MakeNow k r) todo n = steps.make Z s callers env o k r (slice_get source.routines r) todo n.1
    acts (piece.BindMadeNow k r) todo n = steps.bind Z s callers env o (slice_get source.routines r) todo n.1
    acts piece.MadeNow todo n = steps.unless Z s callers env o (monitors.this_object s) _ todo n.1 (steps.go_in Z s callers env o _ _ _ n.1 (steps.likes Z env refl refl))
    acts (piece.SpawnNow r) todo n = steps.unless Z s callers env o (monitors.this_object s) _ (piece.ChildNow r ∷ todo) (tt, n.1) (steps.go_in Z s callers env o _ _ _ (tt, n.1) (steps.likes Z env refl refl))
    acts piece.GoneNow todo n = steps.go_in Z s callers env o _ _ _ n.1 (steps.likes Z env refl refl)
    acts piece.GiveUpNow todo n = steps.go_in Z s callers env o _ _ _ n.1 (steps.likes Z env refl refl)
    acts piece.ClusterNow todo n = go _ _ n.1
    acts piece.ProcessorNow todo n = go _ _ n.1
    acts piece.ClusterEndNow todo n = go _ _ n.1
    acts piece.ProcessorEndNow todo n = go _ _ n.1
    acts (piece.ConditionNow k m) todo n = steps.condition Z s callers env o k _ todo n.1
    acts piece.WaitNow todo n = steps.unless Z s callers env o (monitors.this_object s) _ todo n.1 (go _ _ n.1)
    acts piece.SignalNow todo n = go _ _ n.1
    acts piece.SignalBlockNow todo n = steps.unless Z s callers env o (monitors.this_object s) _ todo n.1 (go _ _ n.1)
    acts piece.EmptyNow todo n = go _ _ n.1
    acts piece.FrontNow todo n = go _ _ n.1
    acts piece.YieldNow todo n = go _ _ n.1
    acts piece.MigrateNow todo n = go _ _ n.1
    acts (piece.Guards src.NoClauses) todo n = go _ _ n.1
    acts (piece.Guards (src.Otherwise b)) todo n = go _ _ n.1
    acts (piece.Guards (src.MoreClauses guard b cs)) todo n = go _ _ (steps.eva Z o guard n.0.0, (n.0.2, n.1))
    acts (piece.AcceptNow site m) todo n = steps.accept_by Z s callers env o (monitors.mask_of (take_operands Nothing m s.run.operands [])) (monitors.this_object s) site todo (drop m s.run.operands) n.1
    acts piece.FailedNow todo n = steps.failed Z s callers env o _ todo _ n.1
    acts (piece.ChooseNow cs) todo n = go _ _ (steps.branch Z o _ cs todo n.0 n.1)
    acts piece.RaiseAtNow todo n = steps.raise_at Z s callers env o _ _ todo _ n.1
    acts (piece.EnableNow events cell) todo n = steps.enables Z s callers env o _ cell todo n.1
    acts (piece.DisableNow events cell) todo n = steps.enables Z s callers env o _ cell todo n.1
    acts (piece.RestoreNow cell) todo n = steps.go_in Z s callers env o _ _ _ n.1 (steps.likes Z env refl refl)
    acts piece.PollNow todo n = steps.poll Z s callers env o todo n.1
    acts piece.DeliverNow todo n = steps.deliver Z s callers env o _ todo n.1
    acts piece.Finish todo n = steps.unless Z s callers env o s.env.own _ todo n (steps.returned Z s callers env _ s.callers callers c)
    acts piece.FinishCoroutine todo n = steps.moved Z s callers env o _ todo _ n (kept.finish_rests (RoomActive Z) (RoomActive Z) (steps.calm Z) (at todo s.run.operands s) (go _ _ n))
    acts p todo n = go _ _ n.1

  pub walk : (s : State) → RoomState Z s → RoomStep Z (quiet.quiet source s)
  walk s h = by s.run.control refl
    where
      by : (l : List Todo) → s.run.control ≡ l → RoomStep Z (quiet.act_todo source l s)
      by [] e = steps.returned Z s h.callers h.env _ s.callers h.callers h.run
      by (p ∷ todo) e =
          let n : SomeRoom Z (p ∷ todo) = subst (SomeRoom Z) e h.run in
          acts s h.callers h.env h.run n.0 p todo n.1

  abbrev nothing_room : Room
  nothing_room = record { low = 0; high = 0; hidden = 0; last = 0 }

  begins : (o : ℕ) (r : Option Routine) → MaybeRoutineIn Z r → RoomState Z (first_state (routine_or_none r) o)
  begins o None h = record { run = (nothing_room, (tt, (tt, record { cells = omega arith; apart = omega arith }))); callers = tt; env = record { house = (tt, tt); hand = tt } }
  begins o (Some r) h = record { run = steps.routine Z r h; callers = tt; env = record { house = (tt, tt); hand = tt } }

  -- a task begins so
  pub first : (r o : ℕ) → RoomState Z (first_state (routine_of source r) o)
  first r o = begins o (slice_get source.routines r) (known r)

-- answers bring operands, and at most an object in which nothing is to do

module _ (Z : ℕ → ℕ → Type 0) where
  more_hand : (hand : List (ℕ × Members)) (o : ℕ) (m : Members) → RestsParked (RoomActive Z) (RoomActive Z) m.parked → RestsHand (RoomActive Z) (RoomActive Z) hand → RestsHand (RoomActive Z) (RoomActive Z) (hand ++ (o, m) ∷ [])
  more_hand [] o m h k = (h, tt)
  more_hand (p ∷ hand) o m h k = (k.0, more_hand hand o m h k.1)

  new_rests : (source : Source) (todo : List Todo) → RestsMembers (RoomActive Z) (RoomActive Z) (new_members source todo)
  new_rests source [] = tt
  new_rests source (piece.BindMadeNow c r ∷ todo) = tt
  new_rests source (p ∷ todo) = tt

  entered_rests : (m : Option Members) (o : ℕ) (s : State) → RestsMembers (RoomActive Z) (RoomActive Z) m → RoomState Z s → RoomState Z (with_operand (piece.Object o) (entered m o s))
  entered_rests None o s k h = record { run = h.run; callers = h.callers; env = h.env }
  entered_rests (Some m) o s k h = record { run = h.run; callers = h.callers; env = record { house = h.env.house; hand = more_hand s.env.hand o m k h.env.hand } }

  pub answered_rests : (source : Source) (given : Answer) (s : State) → RoomState Z s → RoomState Z (answered source given s)
  answered_rests source (answer.Object o) s h = entered_rests (new_members source s.run.control) o s (new_rests source s.run.control) h
  answered_rests source (answer.Number n) s h = record { run = h.run; callers = h.callers; env = h.env }
  answered_rests source (answer.Value n failed) s h = record { run = h.run; callers = h.callers; env = h.env }
  answered_rests source (answer.Clause k failed) s h = record { run = h.run; callers = h.callers; env = h.env }
  answered_rests source (answer.Event n x y) s h = record { run = h.run; callers = h.callers; env = h.env }
  answered_rests source answer.Nothing s h = record { run = h.run; callers = h.callers; env = h.env }
  answered_rests source answer.Go s h = h

pub law_steps : LawSteps
law_steps = record {
  begins = λ source p known r o. first (Sized p) source known r o;
  steps = λ source p known s h. walk (Sized p) source known s h;
  told = λ source p given s h. answered_rests (Sized p) source given s h;
}

pub law_clears : LawClears
law_clears p s h k n todo e =
    let r : SomeRoom (Sized p) (piece.ClearNow k n ∷ todo) = subst (SomeRoom (Sized p)) e h.run in
    steps.cleared (Sized p) r.0 k n todo r.1
