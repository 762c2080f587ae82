-- Every quiet step of a state in which scopes open behind the calls of constructors, and answers to it.
use Rattle.std.proofs.Common.{◌≡◌, ℕ, List, [], ◌∷◌, ◌++◌, inl, inr, drop, Option, Some, None, refl, sym, subst}
use Rattle.std.specs.Prelude.{nat_lt, slice_get}
use Rattle.uc_tree.specs.Programs.{Program}
use Rattle.uc_tree.specs.Source as src
use Rattle.uc_tree.specs.Source.{Source, Routine, routine_or_none, routine_of}
use Rattle.uc_entry.specs.declared.fault.RunFault.TheVariants.{NoReturn}
use Rattle.uc_entry.specs.declared.request.Answer.{Answer}
use Rattle.uc_entry.specs.declared.request.Answer.TheVariants as answer
use Rattle.uc_entry.specs.declared.request.Request.{Request}
use Rattle.uc_entry.specs.declared.request.Request.TheVariants as ask
use Rattle.uc_machine.specs.declared.exec.Home.{Home}
use Rattle.uc_machine.specs.declared.exec.Home.TheVariants as home
use Rattle.uc_machine.specs.Executions.{values_cleared}
use Rattle.uc_machine.specs.Raising as raising
use Rattle.uc_machine.specs.Monitors as monitors
use Rattle.uc_machine.specs.Quiet as quiet
use Rattle.uc_machine.specs.Quiet.{first_state}
use Rattle.uc_machine.specs.Pieces as piece
use Rattle.uc_machine.specs.Pieces.{Value, Todo, State, Env, Members, Active, Step, Goes, Ticks, Asks, at, top, below, number}
use Rattle.uc_machine.specs.Answering.{answered, entered, new_members, with_operand}
use Rattle.uc_answer_laws.specs.Suiting.{Form, AnObject, AClause, ANumber, AValue, AnEvent, JustGo, IsForm}
use Rattle.uc_state_laws.specs.Counted.{CountedExpr}
use Rattle.uc_place_laws.specs.OlderResting.{AllWait, NamedParked, NamedHand, NamedEnv}
use Rattle.uc_place_laws.proofs.AsideKeeping as kept
use Rattle.uc_place_laws.proofs.AsideKeeping.{either}
use Rattle.uc_place_laws.specs.Opened.{Spans}
use Rattle.uc_place_laws.specs.Called.{Mark, Any, Holds, rest, AnyOne, CodeStmt, CodeRoutine, Ok, AtBuild, Stands, OnWay}
use Rattle.uc_place_laws.specs.CalledStates.{Seated, Ends, Finds, Runs, Waits, RunsNow, CalledMembers, CalledState, FindsFor, FindsBehind, CalledStep, Joins, AskJoins, StepJoins, PartJoins, AskPartJoins, StepPartJoins, NextJoins, Follows, AskFollows, StepFollows}
use Rattle.uc_place_laws.proofs.OpeningMarks.{holds_below, builds_more, next_opens, next_part}
use Rattle.uc_place_laws.proofs.OpeningSteps as steps

module _ (g : Program) (source : Source) (known : (n : ℕ) → CodeRoutine g source (slice_get source.routines n)) where
  module _ (s : State) (callers : AllWait (Runs g source) (Waits g source) s.env.exec s.callers) (seat : Seated s.env.exec s.callers s.run.this) (env : NamedEnv (Runs g source) (Waits g source) s.env) (ms : List Mark) (holds : Holds s.env.exec s.run.frame s.run.this ms s.run.operands) where
    abbrev H : List Mark → List Value → Type 0
    H ns vs = Holds s.env.exec s.run.frame s.run.this ns vs

    go : (ns : List Mark) (todo : List Todo) (vs : List Value) → H ns vs → Ok g source ns todo → steps.T g source s (Goes (at todo vs s))
    go = steps.go g source s callers seat env

    anew : (todo : List Todo) (vs : List Value) → Ok g source [] todo → steps.T g source s (Goes (at todo vs s))
    anew = steps.anew g source s callers seat env

    one : H (rest ms) (below s.run.operands)
    one = holds_below s.env.exec s.run.frame s.run.this ms s.run.operands holds

    two : H (rest (rest ms)) (below (below s.run.operands))
    two = holds_below s.env.exec s.run.frame s.run.this (rest ms) (below s.run.operands) one

    -- one piece, with what is to do behind it
    acts : (x : Todo) (todo : List Todo) → s.run.control ≡ x ∷ todo → Ok g source ms (x ∷ todo) → steps.T g source s (quiet.act source x todo s)
    acts (piece.Eval a) todo c h = steps.evals g source s callers seat env ms holds a todo h.0 h.1
    acts piece.LoadNow todo c h = go (Any ∷ rest ms) _ _ (tt, one) h.1
    acts (piece.ElementNow m k) todo c h = steps.element g source s callers seat env (rest (rest ms)) k _ todo _ _ two h.1
    acts (piece.FieldNow k i) todo c h = go (Any ∷ rest ms) _ _ (tt, one) h.1
    acts piece.NegateNow todo c h = steps.outcome g source s callers seat env (rest ms) _ todo _ one h.1
    acts piece.NotNow todo c h = go (Any ∷ rest ms) _ _ (tt, one) h.1
    acts piece.CharacterNow todo c h = go (Any ∷ rest ms) _ _ (tt, one) h.1
    acts piece.TruthNow todo c h = go (Any ∷ rest ms) _ _ (tt, one) h.1
    acts (piece.OperateNow op) todo c h = steps.outcome g source s callers seat env (rest (rest ms)) _ todo _ two h.1
    acts piece.CopyNow todo c h = go (Any ∷ ms) _ _ (tt, holds) h.1
    acts piece.CopyBelowNow todo c h = go (Any ∷ ms) _ _ (tt, holds) h.1
    acts piece.DropNow todo c h = go (rest ms) _ _ one h.1
    acts piece.DropBelowNow todo c h = go (Any ∷ rest (rest ms)) _ _ (tt, two) h.1
    acts piece.StoreNow todo c h = steps.go_in g source s callers seat env (rest (rest ms)) _ _ _ two h.1 (steps.write g source s callers seat env (top (below s.run.operands)) (piece.Number (number (top s.run.operands))))
    acts piece.KeepNow todo c h = steps.go_in g source s callers seat env (Any ∷ rest (rest ms)) _ _ _ (tt, two) h.1 (steps.write g source s callers seat env (top (below s.run.operands)) (piece.Number (number (top s.run.operands))))
    acts (piece.SetNow k) todo c h = steps.go_in g source s callers seat env ms _ _ _ holds h.1 (steps.write g source s callers seat env (piece.variable_at k s) (piece.Number (number (top s.run.operands))))
    acts piece.BindNow todo c h = steps.go_in g source s callers seat env (Any ∷ rest (rest ms)) _ _ _ (tt, two) h.1 (steps.write g source s callers seat env (top (below s.run.operands)) (top s.run.operands))
    acts (piece.Choose e f) todo c h = go (rest ms) _ _ one (either (CountedExpr source) (piece.is_zero (number (top s.run.operands))) f e h.0.1 h.0.0, inl h.1)
    acts (piece.Branch a b) todo c h = anew _ _ (either (CodeStmt g source) (piece.is_zero (number (top s.run.operands))) b a h.0.1 h.0.0, inl h.1)
    acts piece.TickNow todo c h = go ms _ _ holds h.1
    acts (piece.TurnNow o t e b) todo c h = anew _ _ (h.0.2, inl (h.0, h.1))
    acts (piece.Arguments src.NoExprs) todo c h = go ms _ _ holds h.1
    acts (piece.Arguments (src.MoreExprs e es)) todo c h = go ms _ _ holds (h.0.0, inl (h.0.1, h.1))
    acts (piece.CallNow r) todo c h = steps.call g source s callers seat env ms holds (slice_get source.routines r) todo (known r) h.1
    acts (piece.CallOnNow r) todo c h = steps.call_on g source s callers seat env ms holds r (slice_get source.routines r) todo (known r) h
    acts (piece.CallUnwrittenNow r) todo c h = steps.call_unwritten g source s callers seat env ms holds r (slice_get source.routines r) todo (known r) h
    acts (piece.CountNow m) todo c h = inl (record { run = (record { marks = []; holds = tt; ok = h.1 }, seat); callers = callers; env = env })
    acts piece.MoreNow todo c h = inl (record { run = (record { marks = []; holds = tt; ok = h.1 }, seat); callers = callers; env = env })
    acts (piece.FillNow m b d) todo c h = anew _ _ (steps.filled g source (nat_lt s.run.elements m) m b d todo h.0 h.1)
    acts (piece.Again o t e b) todo c h = anew _ _ (either (Ok g source []) (piece.is_zero (number (top s.run.operands))) todo (piece.TurnNow o t e b ∷ todo) h.1 (h.0, h.1))
    acts (piece.PrintNow f) todo c h = steps.prints g source s callers seat env s.env.gathered _ todo _ h.1
    acts (piece.TextNow k) todo c h = steps.prints g source s callers seat env s.env.gathered _ todo _ h.1
    acts piece.GatherNow todo c h = steps.go_in g source s callers seat env [] _ _ _ tt h.1 (steps.same g source s callers seat env refl refl refl refl)
    acts piece.FlushNow todo c h = steps.flushes g source s callers seat env s.env.gathered todo _ h.1
    acts (piece.ReadNow f) todo c h = record { run = record { marks = ms; holds = holds; ok = h.1 }; seat = seat; callers = callers; env = env }
    acts (piece.ClearNow k m) todo c h = steps.go_in g source s callers seat env ms _ _ _ holds h.1 (kept.owned_keeps (Runs g source) (Waits g source) (steps.calm g source) (piece.this_frame s) (values_cleared k m piece.nought) s.env env)
    acts (piece.Items []) todo c h = anew _ _ h.1
    acts (piece.Items (i ∷ is)) todo c h = anew _ _ (steps.item g source i _ h.0.0 (h.0.1, h.1))
    acts (piece.Values []) todo c h = anew _ _ h.1
    acts (piece.Values (i ∷ is)) todo c h = anew _ _ (steps.item_value g source i _ h.0.0 (λ ns. (h.0.1, h.1)))
    acts (piece.Pieces []) todo c h = anew _ _ h.1
    acts (piece.Pieces (i ∷ is)) todo c h = anew _ _ (h.0.1, steps.item_piece g source i todo h.1)
    acts (piece.Targets []) todo c h = anew _ _ h.1
    acts (piece.Targets (t ∷ ts)) todo c h = anew _ _ (h.0.0, inl (tt, (tt, (h.0.1, h.1))))
    acts (piece.Variables []) todo c h = anew _ _ h.1
    acts (piece.Variables (d ∷ ds)) todo c h = anew _ _ (tt, steps.starts g source d.cell d.value (piece.Variables ds ∷ todo) h.0.0 (h.0.1, h.1))
    acts (piece.Do a) todo c h = steps.stmt g source s callers seat env a todo h.0 h.1
    acts (piece.Rest ss) todo c h = steps.rest_of g source s callers seat env ss todo h.0.1 h.1
    acts (piece.Within line) todo c h = anew _ _ h.1
    acts (piece.Exit w) todo c h = steps.exits g source s callers seat env w todo c h
    acts piece.NoReturnNow todo c h = steps.stop g source s callers seat env NoReturn todo _
    acts (piece.InLoop o t e b) todo c h = anew _ _ (steps.stepped g source e _ h.0.1 (steps.turned g source o t e b todo h.0.0 h.0.1 h.0.2 h.1))
    acts piece.InWhole todo c h = anew _ _ h.1
    acts (piece.Clean x) todo c h = anew _ _ (steps.cleans g source x todo h.0 h.1)
    acts (piece.Sweep e) todo c h = steps.swept g source s callers seat env s.run.elements e todo h.0 h.1
    acts (piece.Part x) todo c h = anew _ _ h.1
    acts (piece.Guard hs) todo c h = anew _ _ h.1
    acts piece.Unwind todo c h = steps.unwinds g source s callers seat env todo c h
    acts piece.ThrowNow todo c h = steps.thrown g source s callers seat env (raising.event_in s.run.operands) todo h.1
    acts piece.RaiseNow todo c h = steps.raises g source s callers seat env ms (raising.event_in s.run.operands) todo holds h.1
    acts (piece.SetUpNow r) todo c h = steps.set_up g source s callers seat env ms holds (slice_get source.routines r) todo (known r) h.1
    acts piece.EnlivenNow todo c h = steps.go_in g source s callers seat env [] _ _ _ tt h.1 (kept.enlivened_keeps (Runs g source) (Waits g source) (steps.calm g source) (piece.own_exec s) s.env env)
    acts piece.TakeDownNow todo c h = steps.moved g source s callers seat env _ todo _ (kept.take_down_rests (Runs g source) (Waits g source) (steps.calm g source) (piece.own_exec s) (at todo s.run.operands s) (steps.afresh g source s callers seat env _ _ h.1))
    acts piece.ForgetNow todo c h = steps.go_in g source s callers seat env [] _ _ _ tt h.1 (kept.forgotten_keeps (Runs g source) (Waits g source) (steps.calm g source) (piece.own_exec s) s.env env)
    acts (piece.LiveNow r) todo c h = steps.live g source s callers seat env ms holds (slice_get source.routines r) todo h.1
    acts piece.ResumeNow todo c h = steps.moved g source s callers seat env _ (piece.Land ∷ todo) _ (kept.wake_rests (Runs g source) (Waits g source) (steps.calm g source) (quiet.resumed s) (at (piece.Land ∷ todo) s.run.operands s) (steps.afresh g source s callers seat env _ _ (tt, h.1)))
    acts piece.SuspendNow todo c h = steps.moved g source s callers seat env _ (piece.Land ∷ todo) _ (kept.suspend_rests (Runs g source) (Waits g source) (steps.calm g source) (at (piece.Land ∷ todo) s.run.operands s) (steps.afresh g source s callers seat env _ _ (tt, h.1)))
    acts piece.Land todo c h = steps.land g source s callers seat env s.run.raised ms todo holds h.1
    acts (piece.EnterNow m r) todo c h = steps.enter g source s callers seat env ms holds m (slice_get source.routines r) todo h.1
    acts piece.LeaveNow todo c h = steps.leave g source s callers seat env ms holds _ (monitors.this_object s) todo h.1
    acts (piece.MakeNow k r) todo c h = steps.make g source s callers seat env ms holds k r (slice_get source.routines r) todo h.1
    acts (piece.BindMadeNow k r) todo c h = steps.bind g source s callers seat env ms holds (slice_get source.routines r) todo h.1
    acts piece.MadeNow todo c h = steps.unless g source s callers seat env ms holds (monitors.this_object s) _ todo (record { run = record { marks = []; holds = tt; ok = h.1 }; seat = seat; callers = callers; env = steps.likes g source env refl refl refl })
    acts (piece.SpawnNow r) todo c h = steps.unless g source s callers seat env ms holds (monitors.this_object s) _ (piece.ChildNow r ∷ todo) (record { run = record { marks = []; holds = tt; ok = (tt, h.1) }; seat = seat; callers = callers; env = steps.likes g source env refl refl refl })
    acts (piece.ChildNow r) todo c h = anew _ _ h.1
    acts piece.GoneNow todo c h = record { run = record { marks = []; holds = tt; ok = h.1 }; seat = seat; callers = callers; env = steps.likes g source env refl refl refl }
    acts piece.GiveUpNow todo c h = record { run = record { marks = []; holds = tt; ok = h.1 }; seat = seat; callers = callers; env = steps.likes g source env refl refl refl }
    acts piece.ClusterNow todo c h = record { run = record { marks = ms; holds = holds; ok = h.1 }; seat = seat; callers = callers; env = env }
    acts piece.ProcessorNow todo c h = record { run = record { marks = rest ms; holds = one; ok = h.1 }; seat = seat; callers = callers; env = env }
    acts piece.ClusterEndNow todo c h = record { run = record { marks = Any ∷ rest ms; holds = (tt, one); ok = h.1 }; seat = seat; callers = callers; env = env }
    acts piece.ProcessorEndNow todo c h = record { run = record { marks = Any ∷ rest ms; holds = (tt, one); ok = h.1 }; seat = seat; callers = callers; env = env }
    acts (piece.ConditionNow k m) todo c h = steps.condition g source s callers seat env (rest ms) k _ todo one h.1
    acts piece.WaitNow todo c h = steps.unless g source s callers seat env ms holds (monitors.this_object s) _ todo (record { run = record { marks = Any ∷ rest (rest ms); holds = (tt, two); ok = h.1 }; seat = seat; callers = callers; env = env })
    acts piece.SignalNow todo c h = record { run = record { marks = Any ∷ rest ms; holds = (tt, one); ok = h.1 }; seat = seat; callers = callers; env = env }
    acts piece.SignalBlockNow todo c h = steps.unless g source s callers seat env ms holds (monitors.this_object s) _ todo (record { run = record { marks = Any ∷ rest ms; holds = (tt, one); ok = h.1 }; seat = seat; callers = callers; env = env })
    acts piece.EmptyNow todo c h = record { run = record { marks = rest ms; holds = one; ok = h.1 }; seat = seat; callers = callers; env = env }
    acts piece.FrontNow todo c h = record { run = record { marks = rest ms; holds = one; ok = h.1 }; seat = seat; callers = callers; env = env }
    acts piece.YieldNow todo c h = record { run = record { marks = []; holds = tt; ok = h.1 }; seat = seat; callers = callers; env = env }
    acts piece.MigrateNow todo c h = record { run = record { marks = []; holds = tt; ok = h.1 }; seat = seat; callers = callers; env = env }
    acts (piece.Guards src.NoClauses) todo c h = anew _ _ h.1
    acts (piece.Guards (src.Otherwise b)) todo c h = anew _ _ h.1
    acts (piece.Guards (src.MoreClauses guard b cs)) todo c h = anew _ _ (h.0.0.0, inl ((h.0.0.2, h.0.1.1), h.1))
    acts (piece.AcceptNow site m) todo c h = steps.accept g source s callers seat env ms holds _ (monitors.this_object s) site todo _ h.1
    acts piece.FailedNow todo c h = steps.failed g source s callers seat env ms holds _ todo _ h.1
    acts (piece.ChooseNow cs) todo c h = anew _ _ (steps.branch g source _ cs todo h.0 h.1)
    acts piece.RaiseAtNow todo c h = steps.raise_at g source s callers seat env ms holds (top s.run.operands) (raising.event_in (below s.run.operands)) todo (drop 4 s.run.operands) h.1
    acts (piece.EnableNow events cell) todo c h = steps.enables g source s callers seat env ms holds _ cell todo h.1
    acts (piece.DisableNow events cell) todo c h = steps.enables g source s callers seat env ms holds _ cell todo h.1
    acts (piece.RestoreNow cell) todo c h = steps.go_in g source s callers seat env [] _ _ _ tt h.1 (steps.same g source s callers seat env refl refl refl refl)
    acts piece.PollNow todo c h = steps.poll g source s callers seat env ms holds todo h.1
    acts piece.DeliverNow todo c h = steps.deliver g source s callers seat env ms holds _ todo h.1
    acts piece.Finish todo c h = steps.unless g source s callers seat env ms holds s.env.own _ todo (steps.returned g source s callers seat env _ s.callers callers (subst (Ends s) (sym c) tt))
    acts piece.FinishCoroutine todo c h = steps.moved g source s callers seat env _ todo _ (kept.finish_rests (Runs g source) (Waits g source) (steps.calm g source) (at todo s.run.operands s) (steps.afresh g source s callers seat env _ _ h.1))

  -- such a scope opens next
  stands : (s : State) → AllWait (Runs g source) (Waits g source) s.env.exec s.callers → Seated s.env.exec s.callers s.run.this → NamedEnv (Runs g source) (Waits g source) s.env → (l : List Todo) → s.run.control ≡ l → Stands g source l → steps.T g source s (quiet.act_todo source l s)
  stands s callers seat env (piece.Rest ss ∷ todo) e h = steps.rest_of g source s callers seat env ss todo h.0.1 h.1
  stands s callers seat env (piece.Within line ∷ (piece.Rest ss ∷ todo)) e h = inr (inl (record { stands = h; seat = seat; callers = callers; env = env; joins = inr (line, e) }))
  stands s callers seat env (piece.DropNow ∷ (piece.Within line ∷ (piece.Rest ss ∷ todo))) e h = inr (inl (record { stands = h; seat = seat; callers = callers; env = env; joins = inr e }))
  stands s callers seat env l e h = absurd h

  -- such an object is to be built next
  module _ (s : State) (callers : AllWait (Runs g source) (Waits g source) s.env.exec s.callers) (seat : Seated s.env.exec s.callers s.run.this) (env : NamedEnv (Runs g source) (Waits g source) s.env) where
    cleared : (k m line : ℕ) (todo : List Todo) → s.run.control ≡ piece.ClearNow k m ∷ (piece.Variables [] ∷ (piece.Within line ∷ todo)) → AtBuild g source (λ d i. (k ≡ i) × Spans g d m) todo → steps.T g source s (quiet.act source (piece.ClearNow k m) (piece.Variables [] ∷ (piece.Within line ∷ todo)) s)
    cleared k m line (piece.Rest ss ∷ todo) e h =
        let kept_so = kept.owned_keeps (Runs g source) (Waits g source) (steps.calm g source) (piece.this_frame s) (values_cleared k m piece.nought) s.env env in
        inr (inr (record {
          way = ((h.0.0, h.0.1, builds_more (λ d i. (k ≡ i) × Spans g d m) AnyOne (λ d i z. tt) ss h.0.2), h.1);
          seat = subst (λ n. Seated n s.callers s.run.this) (sym kept_so.exec) seat;
          callers = subst (λ n. AllWait (Runs g source) (Waits g source) n s.callers) (sym kept_so.exec) callers;
          env = kept_so.env;
          follows = inr (k, m, e, h.0.2);
        }))
    cleared k m line todo e h = absurd h

    passed : (line : ℕ) (todo : List Todo) → s.run.control ≡ piece.Variables [] ∷ (piece.Within line ∷ todo) → AtBuild g source AnyOne todo → steps.T g source s (Goes (at (piece.Within line ∷ todo) s.run.operands s))
    passed line (piece.Rest ss ∷ todo) e h = inr (inr (record { way = h; seat = seat; callers = callers; env = env; follows = inr e }))
    passed line todo e h = absurd h

    reached : (line : ℕ) (todo : List Todo) → s.run.control ≡ piece.Within line ∷ todo → AtBuild g source AnyOne todo → steps.T g source s (Goes (at todo s.run.operands s))
    reached line (piece.Rest ss ∷ todo) e h = inr (inr (record { way = h; seat = seat; callers = callers; env = env; follows = inr (line, e) }))
    reached line todo e h = absurd h

    ways : (l : List Todo) → s.run.control ≡ l → OnWay g source l → steps.T g source s (quiet.act_todo source l s)
    ways (piece.Variables (x ∷ []) ∷ (piece.Within line ∷ todo)) e h =
        subst (λ v. steps.T g source s (Goes (at (piece.ClearNow x.cell x.cells ∷ quiet.starting x.cell v (piece.Variables [] ∷ (piece.Within line ∷ todo))) s.run.operands s))) (sym h.0) (inr (inr (record { way = h.1; seat = seat; callers = callers; env = env; follows = tt })))
    ways (piece.ClearNow k m ∷ (piece.Variables [] ∷ (piece.Within line ∷ todo))) e h = cleared k m line todo e h
    ways (piece.Variables [] ∷ (piece.Within line ∷ todo)) e h = passed line todo e h
    ways (piece.Within line ∷ todo) e h = reached line todo e h
    ways (piece.Rest ss ∷ todo) e h = steps.rest_of g source s callers seat env ss todo h.0.1 h.1
    ways l e h = absurd h

  pub walk : (s : State) → CalledState g source s → steps.T g source s (quiet.quiet source s)
  walk s h = from h.run
    where
      by : Finds g source 0 s.env.exec s.run → (l : List Todo) → s.run.control ≡ l → steps.T g source s (quiet.act_todo source l s)
      by f [] e = steps.returned g source s h.callers h.seat h.env _ s.callers h.callers (subst (Ends s) (sym e) tt)
      by f (x ∷ todo) e = acts s h.callers h.seat h.env f.marks f.holds x todo e (subst (Ok g source f.marks) e f.ok)

      from : RunsNow g source s.env.exec s.run → steps.T g source s (quiet.quiet source s)
      from (inl f) = by f s.run.control refl
      from (inr (inl f)) = stands s h.callers h.seat h.env s.run.control refl f
      from (inr (inr f)) = ways s h.callers h.seat h.env s.run.control refl f

  begins : (o : ℕ) (r : Option Routine) → CodeRoutine g source r → CalledState g source (first_state (routine_or_none r) o)
  begins o None h = record { run = inl (record { marks = []; holds = tt; ok = ((tt, (tt, tt), tt), (tt, tt)) }); seat = tt; callers = tt; env = record { house = (tt, tt); hand = tt } }
  begins o (Some r) h = record { run = inl (record { marks = []; holds = tt; ok = steps.routine g source r h }); seat = tt; callers = tt; env = record { house = (tt, tt); hand = tt } }

  -- a task begins so
  pub first_called : (r o : ℕ) → CalledState g source (first_state (routine_of source r) o)
  first_called r o = begins o (slice_get source.routines r) (known r)

-- what a step leads to

module _ (g : Program) (source : Source) where
  -- in a list that is in order no such scope opens next
  pub no_scope : (s : State) (ms : List Mark) (todo : List Todo) → Ok g source ms todo → NextJoins s todo
  no_scope s ms (piece.Rest ss ∷ todo) h = inl h.0.0
  no_scope s ms (piece.Within line ∷ (piece.Rest ss ∷ todo)) h = inl h.1.0.0
  no_scope s ms (piece.DropNow ∷ (piece.Within line ∷ (piece.Rest ss ∷ todo))) h = inl h.1.1.0.0
  no_scope s ms todo h = tt

  way_joins : (s : State) (l : List Todo) → OnWay g source l → NextJoins s l
  way_joins s (piece.Rest ss ∷ todo) h = inl h.0.0
  way_joins s (piece.Within line ∷ (piece.Rest ss ∷ todo)) h = inl h.0.0
  way_joins s (piece.DropNow ∷ todo) h = absurd h
  way_joins s todo h = tt

  -- no such object is built next
  no_builds : (s : State) (ms : List Mark) (todo : List Todo) → Ok g source ms todo → Follows g s todo
  no_builds s ms (piece.Variables [] ∷ (piece.Within line ∷ (piece.Rest ss ∷ todo))) h = inl h.1.1.0.2
  no_builds s ms (piece.Within line ∷ (piece.Rest ss ∷ todo)) h = inl h.1.0.2
  no_builds s ms (piece.Rest ss ∷ todo) h = inl h.0.2
  no_builds s ms todo h = tt

  stands_follow : (s : State) (l : List Todo) → Stands g source l → Follows g s l
  stands_follow s (piece.Rest ss ∷ todo) h = inl h.0.2
  stands_follow s (piece.Within line ∷ (piece.Rest ss ∷ todo)) h = inl h.0.2
  stands_follow s (piece.Variables ds ∷ todo) h = absurd h
  stands_follow s todo h = tt

  asked_follows : (s u : State) (r : Request) → FindsBehind g source r u.env.exec u.run → AskFollows g s r u
  asked_follows s u ask.End h = tt
  asked_follows s u (ask.Fault f) h = tt
  asked_follows s u r h = no_builds s _ u.run.control h.ok

  pub followed : (s : State) (step : Step) → steps.T g source s step → StepFollows g s step
  followed s (Goes u) (inl h) = no_builds s h.run.0.marks u.run.control h.run.0.ok
  followed s (Goes u) (inr (inl h)) = stands_follow s u.run.control h.stands
  followed s (Goes u) (inr (inr h)) = h.follows
  followed s (Ticks u) (inl h) = no_builds s h.run.0.marks u.run.control h.run.0.ok
  followed s (Ticks u) (inr (inl h)) = stands_follow s u.run.control h.stands
  followed s (Ticks u) (inr (inr h)) = h.follows
  followed s (Asks r u) h = asked_follows s u r h.run

  -- so neither of both does
  opens_joins : (s : State) (l : List Todo) → NextJoins s l → Joins s l
  opens_joins s (piece.Rest ss ∷ todo) (inl h) = inl (next_opens (λ d x. ⊥) ss h)
  opens_joins s (piece.Rest ss ∷ todo) (inr h) = inr h
  opens_joins s (piece.Within line ∷ (piece.Rest ss ∷ todo)) (inl h) = inl (next_opens (λ d x. ⊥) ss h)
  opens_joins s (piece.Within line ∷ (piece.Rest ss ∷ todo)) (inr h) = inr h
  opens_joins s (piece.DropNow ∷ (piece.Within line ∷ (piece.Rest ss ∷ todo))) (inl h) = inl (next_opens (λ d x. ⊥) ss h)
  opens_joins s (piece.DropNow ∷ (piece.Within line ∷ (piece.Rest ss ∷ todo))) (inr h) = inr h
  opens_joins s l h = tt

  part_joins : (s : State) (l : List Todo) → NextJoins s l → PartJoins s l
  part_joins s (piece.Rest ss ∷ todo) (inl h) = inl (next_part (λ d x. ⊥) ss h)
  part_joins s (piece.Rest ss ∷ todo) (inr h) = inr h
  part_joins s (piece.Within line ∷ (piece.Rest ss ∷ todo)) (inl h) = inl (next_part (λ d x. ⊥) ss h)
  part_joins s (piece.Within line ∷ (piece.Rest ss ∷ todo)) (inr h) = inr h
  part_joins s (piece.DropNow ∷ (piece.Within line ∷ (piece.Rest ss ∷ todo))) (inl h) = inl (next_part (λ d x. ⊥) ss h)
  part_joins s (piece.DropNow ∷ (piece.Within line ∷ (piece.Rest ss ∷ todo))) (inr h) = inr h
  part_joins s l h = tt

  module _ (P : List Todo → Type 0) (s : State) (f : (l : List Todo) → NextJoins s l → P l) where
    abbrev Asked : Request → State → Type 0
    Asked ask.End u = Unit {0}
    Asked (ask.Fault k) u = Unit {0}
    Asked r u = P u.run.control

    abbrev Stepped : Step → Type 0
    Stepped (Goes u) = P u.run.control
    Stepped (Ticks u) = P u.run.control
    Stepped (Asks r u) = Asked r u

    asked_next : (u : State) (r : Request) → FindsBehind g source r u.env.exec u.run → Asked r u
    asked_next u ask.End h = tt
    asked_next u (ask.Fault k) h = tt
    asked_next u r h = f u.run.control (no_scope s _ u.run.control h.ok)

    next : (step : Step) → steps.T g source s step → Stepped step
    next (Goes u) (inl h) = f u.run.control (no_scope s h.run.0.marks u.run.control h.run.0.ok)
    next (Goes u) (inr (inl h)) = f u.run.control h.joins
    next (Goes u) (inr (inr h)) = f u.run.control (way_joins s u.run.control h.way)
    next (Ticks u) (inl h) = f u.run.control (no_scope s h.run.0.marks u.run.control h.run.0.ok)
    next (Ticks u) (inr (inl h)) = f u.run.control h.joins
    next (Ticks u) (inr (inr h)) = f u.run.control (way_joins s u.run.control h.way)
    next (Asks r u) h = asked_next u r h.run

  asked_joins : (s u : State) (r : Request) → Asked (Joins s) s (opens_joins s) r u → AskJoins s r u
  asked_joins s u ask.End h = tt
  asked_joins s u (ask.Fault f) h = tt
  asked_joins s u r h = h

  pub joined : (s : State) (step : Step) → steps.T g source s step → StepJoins s step
  joined s (Goes u) h = next (Joins s) s (opens_joins s) (Goes u) h
  joined s (Ticks u) h = next (Joins s) s (opens_joins s) (Ticks u) h
  joined s (Asks r u) h = asked_joins s u r (next (Joins s) s (opens_joins s) (Asks r u) h)

  asked_parts : (s u : State) (r : Request) → Asked (PartJoins s) s (part_joins s) r u → AskPartJoins s r u
  asked_parts s u ask.End h = tt
  asked_parts s u (ask.Fault f) h = tt
  asked_parts s u r h = h

  pub parted : (s : State) (step : Step) → steps.T g source s step → StepPartJoins s step
  parted s (Goes u) h = next (PartJoins s) s (part_joins s) (Goes u) h
  parted s (Ticks u) h = next (PartJoins s) s (part_joins s) (Ticks u) h
  parted s (Asks r u) h = asked_parts s u r (next (PartJoins s) s (part_joins s) (Asks r u) h)

  pub led : (s : State) (step : Step) → steps.T g source s step → CalledStep g source step
  led s (Goes u) (inl h) = record { run = inl h.run.0; seat = h.run.1; callers = h.callers; env = h.env }
  led s (Goes u) (inr (inl h)) = record { run = inr (inl h.stands); seat = h.seat; callers = h.callers; env = h.env }
  led s (Goes u) (inr (inr h)) = record { run = inr (inr h.way); seat = h.seat; callers = h.callers; env = h.env }
  led s (Ticks u) (inl h) = record { run = inl h.run.0; seat = h.run.1; callers = h.callers; env = h.env }
  led s (Ticks u) (inr (inl h)) = record { run = inr (inl h.stands); seat = h.seat; callers = h.callers; env = h.env }
  led s (Ticks u) (inr (inr h)) = record { run = inr (inr h.way); seat = h.seat; callers = h.callers; env = h.env }
  led s (Asks r u) h = h

  -- an answer of its form brings the operands that a state is to find, and at most an object in which nothing is to do

  more_hand : (hand : List (ℕ × Members)) (o : ℕ) (m : Members) → NamedParked (Runs g source) (Waits g source) (home.Object o) m.parked → NamedHand (Runs g source) (Waits g source) hand → NamedHand (Runs g source) (Waits g source) (hand ++ (o, m) ∷ [])
  more_hand [] o m h k = (h, tt)
  more_hand (x ∷ hand) o m h k = (k.0, more_hand hand o m h k.1)

  new_called : (h : Home) (todo : List Todo) → CalledMembers g source h (new_members source todo)
  new_called h [] = tt
  new_called h (piece.BindMadeNow c r ∷ todo) = tt
  new_called h (x ∷ todo) = tt

  entered_called : (m : Option Members) (o : ℕ) (s : State) → CalledMembers g source (home.Object o) m → Finds g source 1 s.env.exec s.run → Seated s.env.exec s.callers s.run.this → AllWait (Runs g source) (Waits g source) s.env.exec s.callers → NamedEnv (Runs g source) (Waits g source) s.env → CalledState g source (with_operand (piece.Object o) (entered m o s))
  entered_called None o s k f z c e = record { run = inl (record { marks = Any ∷ f.marks; holds = (tt, f.holds); ok = f.ok }); seat = z; callers = c; env = e }
  entered_called (Some m) o s k f z c e = record {
    run = inl (record { marks = Any ∷ f.marks; holds = (tt, f.holds); ok = f.ok });
    seat = z;
    callers = c;
    env = record { house = e.house; hand = more_hand s.env.hand o m k e.hand };
  }

  pub answered_called : (form : Form) (given : Answer) (s : State) → IsForm form given → FindsFor g source form s.env.exec s.run → Seated s.env.exec s.callers s.run.this → AllWait (Runs g source) (Waits g source) s.env.exec s.callers → NamedEnv (Runs g source) (Waits g source) s.env → CalledState g source (answered source given s)
  answered_called AnObject (answer.Object o) s k f z c e = entered_called (new_members source s.run.control) o s (new_called (home.Object o) s.run.control) f z c e
  answered_called AClause (answer.Clause n failed) s k f z c e = record { run = inl (record { marks = Any ∷ (Any ∷ f.marks); holds = (tt, (tt, f.holds)); ok = f.ok }); seat = z; callers = c; env = e }
  answered_called ANumber (answer.Number n) s k f z c e = record { run = inl (record { marks = Any ∷ f.marks; holds = (tt, f.holds); ok = f.ok }); seat = z; callers = c; env = e }
  answered_called AValue (answer.Value n failed) s k f z c e = record { run = inl (record { marks = Any ∷ f.marks; holds = (tt, f.holds); ok = f.ok }); seat = z; callers = c; env = e }
  answered_called AnEvent (answer.Event n x y) s k f z c e = record { run = inl (record { marks = Any ∷ (Any ∷ (Any ∷ f.marks)); holds = (tt, (tt, (tt, f.holds))); ok = f.ok }); seat = z; callers = c; env = e }
  answered_called AnEvent answer.Nothing s k f z c e = record { run = inl (record { marks = Any ∷ (Any ∷ (Any ∷ f.marks)); holds = (tt, (tt, (tt, f.holds))); ok = f.ok }); seat = z; callers = c; env = e }
  answered_called JustGo answer.Go s k f z c e = record { run = f; seat = z; callers = c; env = e }
  answered_called form given s k f z c e = absurd k
