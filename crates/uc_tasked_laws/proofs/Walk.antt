-- Every quiet step of a state in which nobody who is pending is at home where a task is in scope, and answers to it.
use Rattle.std.proofs.Common.{◌≡◌, ℕ, ◌⊎◌, List, [], ◌∷◌, ◌++◌, inl, inr, drop, Option, Some, None, refl, subst}
use Rattle.std.specs.Prelude.{nat_lt, slice_get}
use Rattle.uc_tree.specs.Programs.{Program}
use Rattle.uc_tree.specs.Source as src
use Rattle.uc_tree.specs.Source.{Source, Routine, routine_or_none, routine_of}
use Rattle.uc_entry.specs.declared.fault.RunFault.TheVariants.{NoReturn}
use Rattle.uc_entry.specs.declared.request.Answer.{Answer}
use Rattle.uc_entry.specs.declared.request.Answer.TheVariants as answer
use Rattle.uc_machine.specs.declared.exec.Home.{Home}
use Rattle.uc_machine.specs.declared.exec.Home.TheVariants as home
use Rattle.uc_machine.specs.Executions.{values_cleared}
use Rattle.uc_machine.specs.Raising as raising
use Rattle.uc_machine.specs.Monitors as monitors
use Rattle.uc_machine.specs.Quiet as quiet
use Rattle.uc_machine.specs.Quiet.{first_state}
use Rattle.uc_machine.specs.Pieces as piece
use Rattle.uc_machine.specs.Pieces.{Value, Todo, State, Env, Members, Active, Step, Goes, Ticks, Asks, at, top, below, number}
use Rattle.uc_machine.specs.Answering.{answered, entered, new_members, with_operand}
use Rattle.uc_answer_laws.specs.Suiting.{Form, AnObject, AClause, ANumber, AValue, AnEvent, JustGo, IsForm}
use Rattle.uc_state_laws.specs.Counted.{CountedExpr}
use Rattle.uc_place_laws.specs.OlderResting.{AllWait, NamedParked, NamedHand, NamedEnv}
use Rattle.uc_place_laws.proofs.AsideKeeping as kept
use Rattle.uc_place_laws.proofs.AsideKeeping.{either}
use Rattle.uc_state_laws.specs.Marked.{operands}
use Rattle.uc_tasked_laws.specs.Seated.{SpawnsSource}
use Rattle.uc_tasked_laws.specs.Seats.{Mark, Any, Holds, rest, CodeStmt, CodeRoutine, Ok, Stands, Starts}
use Rattle.uc_tasked_laws.specs.SeatedStates.{Told, Kept, Done, Begun, IsOk, Finds, Runs, Waits, Calling, RunsNow, SeatedMembers, SeatedState, SeatedRest, SeatedStep, FairAt, Fair}
use Rattle.uc_tasked_laws.proofs.Marks.{holds_below, opens_any}
use Rattle.uc_tasked_laws.proofs.Mapping.{all_have, ok_more}
use Rattle.uc_tasked_laws.proofs.Lists as lists
use Rattle.uc_tasked_laws.proofs.Steps as steps
use Rattle.uc_tasked_laws.proofs.Binding as binding

module _ (g : Program) (source : Source) (told : Told) (known : (n : ℕ) → CodeRoutine g source (slice_get source.routines n)) (spawning : SpawnsSource g source) where
  module _ (s : State) (callers : AllWait (Runs g source told) (Waits g source told) s.env.exec s.callers) (env : NamedEnv (Runs g source told) (Waits g source told) s.env) (ms : List Mark) (holds : Holds s.env.exec s.run.frame s.run.this ms s.run.operands) where
    abbrev D : Type 0
    D = Done g told s.env.exec s.callers

    abbrev B : Type 0
    B = Begun g told s.env.exec s.run.this s.callers

    abbrev S : ℕ → src.Expr → Type 0
    S d e = Kept g told s.env.exec s.run.frame s.run.this d e

    abbrev H : List Mark → List Value → Type 0
    H ns vs = Holds s.env.exec s.run.frame s.run.this ns vs

    go : (ns : List Mark) (todo : List Todo) (vs : List Value) → H ns vs → Ok g source D B S ns todo → steps.T g source told (Goes (at todo vs s))
    go = steps.go g source told s callers env

    anew : (todo : List Todo) (vs : List Value) → Ok g source D B S [] todo → steps.T g source told (Goes (at todo vs s))
    anew = steps.anew g source told s callers env

    one : H (rest ms) (below s.run.operands)
    one = holds_below s.env.exec s.run.frame s.run.this ms s.run.operands holds

    two : H (rest (rest ms)) (below (below s.run.operands))
    two = holds_below s.env.exec s.run.frame s.run.this (rest ms) (below s.run.operands) one

    -- one piece, with what is to do behind it
    acts : (x : Todo) (todo : List Todo) → s.run.control ≡ x ∷ todo → FairAt g source told (x ∷ todo) s → Ok g source D B S ms (x ∷ todo) → steps.T g source told (quiet.act source x todo s)
    acts (piece.Eval a) todo c fair h = steps.evals g source told s callers env ms holds a todo h.0 h.1
    acts piece.LoadNow todo c fair h = go (Any ∷ rest ms) _ _ (tt, one) h.1
    acts (piece.ElementNow m k) todo c fair h = steps.element g source told s callers env (rest (rest ms)) k _ todo _ _ two h.1
    acts (piece.FieldNow k i) todo c fair h = go (Any ∷ rest ms) _ _ (tt, one) h.1
    acts piece.NegateNow todo c fair h = steps.outcome g source told s callers env (rest ms) _ todo _ one h.1
    acts piece.NotNow todo c fair h = go (Any ∷ rest ms) _ _ (tt, one) h.1
    acts piece.CharacterNow todo c fair h = go (Any ∷ rest ms) _ _ (tt, one) h.1
    acts piece.TruthNow todo c fair h = go (Any ∷ rest ms) _ _ (tt, one) h.1
    acts (piece.OperateNow op) todo c fair h = steps.outcome g source told s callers env (rest (rest ms)) _ todo _ two h.1
    acts piece.CopyNow todo c fair h = go (Any ∷ ms) _ _ (tt, holds) h.1
    acts piece.CopyBelowNow todo c fair h = go (Any ∷ ms) _ _ (tt, holds) h.1
    acts piece.DropNow todo c fair h = go (rest ms) _ _ one h.1
    acts piece.DropBelowNow todo c fair h = go (Any ∷ rest (rest ms)) _ _ (tt, two) h.1
    acts piece.StoreNow todo c fair h = steps.go_in g source told s callers env (rest (rest ms)) _ _ _ two h.1 (steps.write g source told s callers env (top (below s.run.operands)) (piece.Number (number (top s.run.operands))))
    acts piece.KeepNow todo c fair h = steps.go_in g source told s callers env (Any ∷ rest (rest ms)) _ _ _ (tt, two) h.1 (steps.write g source told s callers env (top (below s.run.operands)) (piece.Number (number (top s.run.operands))))
    acts (piece.SetNow k) todo c fair h = steps.go_in g source told s callers env ms _ _ _ holds h.1 (steps.write g source told s callers env (piece.variable_at k s) (piece.Number (number (top s.run.operands))))
    acts piece.BindNow todo c fair h = steps.go_in g source told s callers env (Any ∷ rest (rest ms)) _ _ _ (tt, two) h.1 (steps.write g source told s callers env (top (below s.run.operands)) (top s.run.operands))
    acts (piece.Choose e f) todo c fair h = go (rest ms) _ _ one (either (CountedExpr source) (piece.is_zero (number (top s.run.operands))) f e h.0.1 h.0.0, inl h.1)
    acts (piece.Branch a b) todo c fair h = anew _ _ (either (CodeStmt g source) (piece.is_zero (number (top s.run.operands))) b a h.0.1 h.0.0, inl h.1, inr h.2)
    acts piece.TickNow todo c fair h = steps.here g source told s callers env ms _ _ holds h.1
    acts (piece.TurnNow o t e b) todo c fair h = steps.afresh g source told s callers env _ _ (h.0.2, inl (h.0, h.1, h.2), inr h.2)
    acts (piece.Arguments src.NoExprs) todo c fair h = go ms _ _ holds h.1
    acts (piece.Arguments (src.MoreExprs e es)) todo c fair h = go ms _ _ holds (h.0.0, inl (h.0.1, h.1))
    acts (piece.CallNow r) todo c fair h = steps.call g source told s callers env ms holds (slice_get source.routines r) todo (known r) h.1
    acts (piece.CallOnNow r) todo c fair h = steps.call_on g source told s callers env ms holds (slice_get source.routines r) todo (known r) h.1
    acts (piece.CallUnwrittenNow r) todo c fair h = steps.call_unwritten g source told s callers env ms holds (slice_get source.routines r) todo (known r) h.1
    acts (piece.CountNow m) todo c fair h = inl (record { run = record { marks = []; holds = tt; ok = h.1 }; callers = callers; env = env })
    acts piece.MoreNow todo c fair h = inl (record { run = record { marks = []; holds = tt; ok = h.1 }; callers = callers; env = env })
    acts (piece.FillNow m b d) todo c fair h = anew _ _ (lists.filled g source D B S (nat_lt s.run.elements m) m b d todo h.0 h.1)
    acts (piece.Again o t e b) todo c fair h = anew _ _ (either (Ok g source D B S []) (piece.is_zero (number (top s.run.operands))) todo (piece.TurnNow o t e b ∷ todo) h.1 (h.0, h.1, h.2))
    acts (piece.PrintNow f) todo c fair h = steps.prints g source told s callers env s.env.gathered _ todo _ h.1
    acts (piece.TextNow k) todo c fair h = steps.prints g source told s callers env s.env.gathered _ todo _ h.1
    acts piece.GatherNow todo c fair h = steps.go_in g source told s callers env [] _ _ _ tt h.1 (steps.same g source told s callers env refl refl refl refl)
    acts piece.FlushNow todo c fair h = steps.flushes g source told s callers env s.env.gathered todo _ h.1
    acts (piece.ReadNow f) todo c fair h = record { run = record { marks = ms; holds = holds; ok = h.1 }; callers = callers; env = env }
    acts (piece.ClearNow k m) todo c fair h = steps.go_in g source told s callers env ms _ _ _ holds h.1 (kept.owned_keeps (Runs g source told) (Waits g source told) (steps.calm g source told) (piece.this_frame s) (values_cleared k m piece.nought) s.env env)
    acts (piece.Items []) todo c fair h = anew _ _ h.1
    acts (piece.Items (i ∷ is)) todo c fair h = anew _ _ (lists.item g source D B S i _ h.0.0 (h.0.1, h.1))
    acts (piece.Values []) todo c fair h = anew _ _ h.1
    acts (piece.Values (i ∷ is)) todo c fair h = anew _ _ (lists.item_value g source D B S i _ h.0.0 (λ ns. (h.0.1, h.1)))
    acts (piece.Pieces []) todo c fair h = anew _ _ h.1
    acts (piece.Pieces (i ∷ is)) todo c fair h = anew _ _ (h.0.1, lists.item_piece g source D B S i todo h.1)
    acts (piece.Targets []) todo c fair h = anew _ _ h.1
    acts (piece.Targets (t ∷ ts)) todo c fair h = anew _ _ (h.0.0, inl (tt, (tt, (h.0.1, h.1))))
    acts (piece.Variables []) todo c fair h = anew _ _ h.1
    acts (piece.Variables (d ∷ ds)) todo c fair h = anew _ _ (tt, lists.starts g source D B S d.cell d.value (piece.Variables ds ∷ todo) h.0.0 (h.0.1, h.1))
    acts (piece.Do a) todo c fair h = steps.stmt g source told s callers env a todo h.0 h.1 h.2
    acts (piece.Rest ss) todo c fair h = steps.rest_of g source told s callers env ss todo (opens_any S ss h.0.0) h.0.1 h.1 h.2
    acts (piece.Within line) todo c fair h = anew _ _ h.1
    acts (piece.Exit w) todo c fair h = steps.exits g source told s callers env w todo h.0 h.1
    acts piece.NoReturnNow todo c fair h = steps.stop g source told s callers env NoReturn todo _
    acts (piece.InLoop o t e b) todo c fair h = anew _ _ (lists.stepped g source D B S e _ h.0.1 (lists.turned g source D B S o t e b todo h.0.0 h.0.1 h.0.2 h.1 h.2))
    acts piece.InWhole todo c fair h = anew _ _ h.1
    acts (piece.Clean x) todo c fair h = steps.cleans_up g source told s callers env x todo h.0.0 h.1
    acts (piece.Sweep e) todo c fair h = steps.swept g source told s callers env s.run.elements e todo h.0 h.1
    acts (piece.Part x) todo c fair h = anew _ _ h.1
    acts (piece.Guard hs) todo c fair h = anew _ _ h.1
    acts piece.Unwind todo c fair h = steps.unwinds g source told s callers env todo fair h
    acts piece.ThrowNow todo c fair h = steps.thrown g source told s callers env (raising.event_in s.run.operands) todo h.1
    acts piece.RaiseNow todo c fair h = steps.raises g source told s callers env ms (raising.event_in s.run.operands) todo holds h.1
    acts (piece.SetUpNow r) todo c fair h = steps.set_up g source told s callers env ms holds (slice_get source.routines r) todo (known r) h.1
    acts piece.EnlivenNow todo c fair h = steps.go_in g source told s callers env [] _ _ _ tt h.1 (kept.enlivened_keeps (Runs g source told) (Waits g source told) (steps.calm g source told) (piece.own_exec s) s.env env)
    acts piece.TakeDownNow todo c fair h = steps.moved g source told s callers env _ todo _ (kept.take_down_rests (Runs g source told) (Waits g source told) (steps.calm g source told) (piece.own_exec s) (at todo s.run.operands s) (steps.afresh g source told s callers env _ _ h.1))
    acts piece.ForgetNow todo c fair h = steps.go_in g source told s callers env [] _ _ _ tt h.1 (kept.forgotten_keeps (Runs g source told) (Waits g source told) (steps.calm g source told) (piece.own_exec s) s.env env)
    acts (piece.LiveNow r) todo c fair h = steps.live g source told s callers env ms holds (slice_get source.routines r) todo h.1
    acts piece.ResumeNow todo c fair h = steps.moved g source told s callers env _ (piece.Land ∷ todo) _ (kept.wake_rests (Runs g source told) (Waits g source told) (steps.calm g source told) (quiet.resumed s) (at (piece.Land ∷ todo) s.run.operands s) (steps.afresh g source told s callers env _ _ (tt, h.1)))
    acts piece.SuspendNow todo c fair h = steps.moved g source told s callers env _ (piece.Land ∷ todo) _ (kept.suspend_rests (Runs g source told) (Waits g source told) (steps.calm g source told) (at (piece.Land ∷ todo) s.run.operands s) (steps.afresh g source told s callers env _ _ (tt, h.1)))
    acts piece.Land todo c fair h = steps.land g source told s callers env s.run.raised ms todo holds h.1
    acts (piece.EnterNow m r) todo c fair h = steps.enter g source told s callers env ms holds m (slice_get source.routines r) todo h.1
    acts piece.LeaveNow todo c fair h = steps.leave g source told s callers env ms holds _ (monitors.this_object s) todo h.1
    acts (piece.MakeNow k r) todo c fair h = steps.make g source told s callers env ms holds k r (slice_get source.routines r) todo h
    acts (piece.BindMadeNow k r) todo c fair h = binding.bind g source told s callers env ms holds k r (slice_get source.routines r) refl todo fair h
    acts piece.MadeNow todo c fair h = steps.unless g source told s callers env ms holds (monitors.this_object s) _ todo (record { run = record { marks = []; holds = tt; ok = h.1 }; callers = callers; env = steps.likes g source told env refl refl refl })
    acts (piece.SpawnNow r) todo c fair h =
        steps.unless g source told s callers env ms holds (monitors.this_object s) _ (piece.ChildNow r ∷ todo) (record { run = (record { marks = []; holds = tt; ok = (tt, ok_more g source D B S (D ⊎ B) B S (λ d. inl d) (λ b. b) [] todo (all_have (λ d e. S d e → S d e) (λ d e x. x) todo) h.1) }, refl); callers = callers; env = steps.likes g source told env refl refl refl })
    acts (piece.ChildNow r) todo c fair h = anew _ _ h.1
    acts piece.GoneNow todo c fair h = record { run = record { marks = []; holds = tt; ok = h.1 }; callers = callers; env = steps.likes g source told env refl refl refl }
    acts piece.GiveUpNow todo c fair h = record { run = record { marks = []; holds = tt; ok = h.1 }; callers = callers; env = steps.likes g source told env refl refl refl }
    acts piece.ClusterNow todo c fair h = record { run = record { marks = ms; holds = holds; ok = h.1 }; callers = callers; env = env }
    acts piece.ProcessorNow todo c fair h = record { run = record { marks = rest ms; holds = one; ok = h.1 }; callers = callers; env = env }
    acts piece.ClusterEndNow todo c fair h = record { run = record { marks = Any ∷ rest ms; holds = (tt, one); ok = h.1 }; callers = callers; env = env }
    acts piece.ProcessorEndNow todo c fair h = record { run = record { marks = Any ∷ rest ms; holds = (tt, one); ok = h.1 }; callers = callers; env = env }
    acts (piece.ConditionNow k m) todo c fair h = steps.condition g source told s callers env (rest ms) k _ todo one h.1
    acts piece.WaitNow todo c fair h = steps.unless g source told s callers env ms holds (monitors.this_object s) _ todo (record { run = record { marks = Any ∷ rest (rest ms); holds = (tt, two); ok = h.1 }; callers = callers; env = env })
    acts piece.SignalNow todo c fair h = record { run = record { marks = Any ∷ rest ms; holds = (tt, one); ok = h.1 }; callers = callers; env = env }
    acts piece.SignalBlockNow todo c fair h = steps.unless g source told s callers env ms holds (monitors.this_object s) _ todo (record { run = record { marks = Any ∷ rest ms; holds = (tt, one); ok = h.1 }; callers = callers; env = env })
    acts piece.EmptyNow todo c fair h = record { run = record { marks = rest ms; holds = one; ok = h.1 }; callers = callers; env = env }
    acts piece.FrontNow todo c fair h = record { run = record { marks = rest ms; holds = one; ok = h.1 }; callers = callers; env = env }
    acts piece.YieldNow todo c fair h = record { run = record { marks = []; holds = tt; ok = h.1 }; callers = callers; env = env }
    acts piece.MigrateNow todo c fair h = record { run = record { marks = []; holds = tt; ok = h.1 }; callers = callers; env = env }
    acts (piece.Guards src.NoClauses) todo c fair h = anew _ _ h.1
    acts (piece.Guards (src.Otherwise b)) todo c fair h = anew _ _ h.1
    acts (piece.Guards (src.MoreClauses guard b cs)) todo c fair h = anew _ _ (h.0.0.0, inl ((h.0.0.2, h.0.1.1), h.1))
    acts (piece.AcceptNow site m) todo c fair h = steps.accept g source told s callers env ms holds _ (monitors.this_object s) site todo _ h.1
    acts piece.FailedNow todo c fair h = steps.failed g source told s callers env ms holds _ todo _ h.1
    acts (piece.ChooseNow cs) todo c fair h = anew _ _ (lists.branch g source D B S _ cs todo h.0 h.1 h.2)
    acts piece.RaiseAtNow todo c fair h = steps.raise_at g source told s callers env ms holds (top s.run.operands) (raising.event_in (below s.run.operands)) todo (drop 4 s.run.operands) h.1
    acts (piece.EnableNow events cell) todo c fair h = steps.enables g source told s callers env ms holds _ cell todo h.1
    acts (piece.DisableNow events cell) todo c fair h = steps.enables g source told s callers env ms holds _ cell todo h.1
    acts (piece.RestoreNow cell) todo c fair h = steps.go_in g source told s callers env [] _ _ _ tt h.1 (steps.same g source told s callers env refl refl refl refl)
    acts piece.PollNow todo c fair h = steps.poll g source told s callers env ms holds todo h.1
    acts piece.DeliverNow todo c fair h = steps.deliver g source told s callers env ms holds _ todo h.1
    acts piece.Finish todo c fair h = steps.unless g source told s callers env ms holds s.env.own _ todo (steps.returned g source told s callers env _ s.callers callers h.0)
    acts piece.FinishCoroutine todo c fair h = steps.moved g source told s callers env _ todo _ (kept.finish_rests (Runs g source told) (Waits g source told) (steps.calm g source told) (at todo s.run.operands s) (steps.afresh g source told s callers env _ _ h.1))

  -- such a scope opens next
  stands : (s : State) → AllWait (Runs g source told) (Waits g source told) s.env.exec s.callers → NamedEnv (Runs g source told) (Waits g source told) s.env → (l : List Todo) → Stands g source (Done g told s.env.exec s.callers) (Begun g told s.env.exec s.run.this s.callers) (Kept g told s.env.exec s.run.frame s.run.this) (Kept g told s.env.exec s.run.frame s.run.this) l → steps.T g source told (quiet.act_todo source l s)
  stands s callers env (piece.Rest ss ∷ todo) h = steps.rest_of g source told s callers env ss todo h.0.0 h.0.1 h.1 h.2
  stands s callers env (piece.Within line ∷ (piece.Rest ss ∷ todo)) h = inr (record { now = inr (inl h); callers = callers; env = env })
  stands s callers env (piece.DropNow ∷ (piece.Within line ∷ (piece.Rest ss ∷ todo))) h = inr (record { now = inr (inl h); callers = callers; env = env })
  stands s callers env l h = absurd h

  -- the building of an object begins, or lets its task begin
  starts : (s : State) → AllWait (Runs g source told) (Waits g source told) s.env.exec s.callers → NamedEnv (Runs g source told) (Waits g source told) s.env → (l : List Todo) → Starts g source (Done g told s.env.exec s.callers) (Begun g told s.env.exec s.run.this s.callers) (Kept g told s.env.exec s.run.frame s.run.this) l → steps.T g source told (quiet.act_todo source l s)
  starts s callers env (piece.Rest ss ∷ todo) h = steps.start_of g source told s callers env ss todo h.0 h.1 h.2 h.3
  starts s callers env (piece.SpawnNow r ∷ todo) h = steps.spawns g source told s callers env r todo h.0 h.1
  starts s callers env l h = absurd h

  -- the constructor of a made object is called
  calls : (s : State) → AllWait (Runs g source told) (Waits g source told) s.env.exec s.callers → NamedEnv (Runs g source told) (Waits g source told) s.env → (l : List Todo) → Calling g source told s.env.exec s.callers s.run l → steps.T g source told (quiet.act_todo source l s)
  calls s callers env (piece.CallOnNow r ∷ todo) h = binding.call_on g source told s callers env spawning r (slice_get source.routines r) refl todo (known r) h
  calls s callers env (piece.CallUnwrittenNow r ∷ todo) h = binding.call_unwritten g source told s callers env spawning r (slice_get source.routines r) refl todo (known r) h
  calls s callers env l h = absurd h

  pub walk : (s : State) → SeatedState g source told s → Fair g source told s → steps.T g source told (quiet.quiet source s)
  walk s h fair = from h.run
    where
      by : Finds g source told 0 s.env.exec s.callers s.run → (l : List Todo) → s.run.control ≡ l → steps.T g source told (quiet.act_todo source l s)
      by f [] e = steps.returned g source told s h.callers h.env _ s.callers h.callers (subst (IsOk g source told s.env.exec s.run.frame s.run.this s.callers f.marks) e f.ok)
      by f (x ∷ todo) e = acts s h.callers h.env f.marks f.holds x todo e (subst (λ l. FairAt g source told l s) e fair) (subst (IsOk g source told s.env.exec s.run.frame s.run.this s.callers f.marks) e f.ok)

      from : RunsNow g source told s.env.exec s.callers s.run → steps.T g source told (quiet.quiet source s)
      from (inl f) = by f s.run.control refl
      from (inr (inl f)) = starts s h.callers h.env s.run.control f
      from (inr (inr (inl f))) = stands s h.callers h.env s.run.control f
      from (inr (inr (inr f))) = calls s h.callers h.env s.run.control f

  begins : (o : ℕ) (r : Option Routine) → CodeRoutine g source r → SeatedRest g source told 0 (first_state (routine_or_none r) o)
  begins o None h = record { run = record { marks = []; holds = tt; ok = ((tt, (tt, tt)), (tt, tt), inl tt) }; callers = tt; env = record { house = (tt, tt); hand = tt } }
  begins o (Some r) h = record { run = record { marks = []; holds = tt; ok = lists.routine g source (Unit {0}) (Unit {0}) (Kept g told (record { home = home.Task o; serial = 0 }) 0 (piece.Object o)) r tt h }; callers = tt; env = record { house = (tt, tt); hand = tt } }

  -- a task begins so
  pub first_seated : (r o : ℕ) → SeatedRest g source told 0 (first_state (routine_of source r) o)
  first_seated r o = begins o (slice_get source.routines r) (known r)

-- what a step leads to, and answers

module _ (g : Program) (source : Source) (told : Told) where
  pub led : (step : Step) → steps.T g source told step → SeatedStep g source told step
  led (Goes u) (inl h) = record { run = inl h.run; callers = h.callers; env = h.env }
  led (Goes u) (inr h) = record { run = inr h.now; callers = h.callers; env = h.env }
  led (Ticks u) h = record { run = h.run; callers = h.callers; env = h.env }
  led (Asks r u) h = h

  pub goes_on : (s : State) → SeatedRest g source told 0 s → SeatedState g source told s
  goes_on s h = record { run = inl h.run; callers = h.callers; env = h.env }

  -- an answer of its form brings the operands that a state is to find, and at most an object in which nothing is to do

  more_hand : (hand : List (ℕ × Members)) (o : ℕ) (m : Members) → NamedParked (Runs g source told) (Waits g source told) (home.Object o) m.parked → NamedHand (Runs g source told) (Waits g source told) hand → NamedHand (Runs g source told) (Waits g source told) (hand ++ (o, m) ∷ [])
  more_hand [] o m h k = (h, tt)
  more_hand (x ∷ hand) o m h k = (k.0, more_hand hand o m h k.1)

  new_seated : (h : Home) (todo : List Todo) → SeatedMembers g source told h (new_members source todo)
  new_seated h [] = tt
  new_seated h (piece.BindMadeNow c r ∷ todo) = tt
  new_seated h (x ∷ todo) = tt

  entered_seated : (m : Option Members) (o : ℕ) (s : State) → SeatedMembers g source told (home.Object o) m → Finds g source told 1 s.env.exec s.callers s.run → AllWait (Runs g source told) (Waits g source told) s.env.exec s.callers → NamedEnv (Runs g source told) (Waits g source told) s.env → SeatedRest g source told 0 (with_operand (piece.Object o) (entered m o s))
  entered_seated None o s k f c e = record { run = (record { marks = Any ∷ f.marks; holds = (tt, f.holds); ok = f.ok }); callers = c; env = e }
  entered_seated (Some m) o s k f c e = record {
    run = (record { marks = Any ∷ f.marks; holds = (tt, f.holds); ok = f.ok });
    callers = c;
    env = record { house = e.house; hand = more_hand s.env.hand o m k e.hand };
  }

  pub answered_seated : (form : Form) (given : Answer) (s : State) → IsForm form given → Finds g source told (operands form) s.env.exec s.callers s.run → AllWait (Runs g source told) (Waits g source told) s.env.exec s.callers → NamedEnv (Runs g source told) (Waits g source told) s.env → SeatedRest g source told 0 (answered source given s)
  answered_seated AnObject (answer.Object o) s k f c e = entered_seated (new_members source s.run.control) o s (new_seated (home.Object o) s.run.control) f c e
  answered_seated AClause (answer.Clause n failed) s k f c e = record { run = (record { marks = Any ∷ (Any ∷ f.marks); holds = (tt, (tt, f.holds)); ok = f.ok }); callers = c; env = e }
  answered_seated ANumber (answer.Number n) s k f c e = record { run = (record { marks = Any ∷ f.marks; holds = (tt, f.holds); ok = f.ok }); callers = c; env = e }
  answered_seated AValue (answer.Value n failed) s k f c e = record { run = (record { marks = Any ∷ f.marks; holds = (tt, f.holds); ok = f.ok }); callers = c; env = e }
  answered_seated AnEvent (answer.Event n x y) s k f c e = record { run = (record { marks = Any ∷ (Any ∷ (Any ∷ f.marks)); holds = (tt, (tt, (tt, f.holds))); ok = f.ok }); callers = c; env = e }
  answered_seated AnEvent answer.Nothing s k f c e = record { run = (record { marks = Any ∷ (Any ∷ (Any ∷ f.marks)); holds = (tt, (tt, (tt, f.holds))); ok = f.ok }); callers = c; env = e }
  answered_seated JustGo answer.Go s k f c e = record { run = f; callers = c; env = e }
  answered_seated form given s k f c e = absurd k
