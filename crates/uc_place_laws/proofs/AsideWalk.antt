-- Every quiet step of a state in which what is bound lies aside of what is still to be bound, and answers to it.
use Rattle.std.proofs.Common.{◌≡◌, ℕ, ◌≤◌, Bool, true, false, List, [], ◌∷◌, ◌++◌, inl, drop, Option, Some, None, refl, subst, arith}
use Rattle.std.specs.Prelude.{nat_lt, slice_get, if◌then◌else◌}
use Rattle.uc_tree.specs.Source as src
use Rattle.uc_tree.specs.Source.{Source, Expr, Stmt, EventStmt, Raised, Routine, routine_or_none, routine_of}
use Rattle.uc_entry.specs.declared.fault.RunFault.TheVariants.{NoReturn}
use Rattle.uc_entry.specs.declared.request.Answer.{Answer}
use Rattle.uc_entry.specs.declared.request.Answer.TheVariants as answer
use Rattle.uc_machine.specs.declared.exec.Home.{Home}
use Rattle.uc_machine.specs.declared.exec.Home.TheVariants as home
use Rattle.uc_machine.specs.Executions.{values_cleared}
use Rattle.uc_machine.specs.Raising as raising
use Rattle.uc_machine.specs.Monitors as monitors
use Rattle.uc_machine.specs.Quiet as quiet
use Rattle.uc_machine.specs.Quiet.{first_state}
use Rattle.uc_machine.specs.Pieces as piece
use Rattle.uc_machine.specs.Pieces.{Value, Todo, State, Env, Members, Step, Goes, Ticks, Asks, at, top, below, number}
use Rattle.uc_machine.specs.Answering.{answered, entered, new_members, with_operand}
use Rattle.uc_answer_laws.specs.Suiting.{Form, AnObject, AClause, ANumber, AValue, AnEvent, JustGo, IsForm}
use Rattle.uc_state_laws.specs.Ordinary.{IsNew}
use Rattle.uc_state_laws.specs.Rooms.{Room, RaisedIn}
use Rattle.uc_state_laws.specs.RoomStacks.{From, SomeTo, TodoTo, StackState}
use Rattle.uc_state_laws.specs.Counted.{CountedExpr}
use Rattle.uc_place_laws.specs.OlderResting.{AllWait, NamedParked, NamedHand, NamedEnv}
use Rattle.uc_place_laws.specs.Siting.{Nowhere, PlainExpr}
use Rattle.uc_place_laws.specs.Asides.{LiesAside, IsNear, Sits, Mark, Any, Holds, rest, NextAlone, CodeStmt, CodeRoutine, Ok, OkNow, Finds, FindsObject, FindsFor, Runs, Waits, AsideMembers, AsideState, AsideStep}
use Rattle.uc_place_laws.proofs.AsideKeeping as kept
use Rattle.uc_place_laws.proofs.AsideKeeping.{either}
use Rattle.uc_place_laws.proofs.AsideMarks as marks
use Rattle.uc_place_laws.proofs.AsideMarks.{holds_below, holds_spread, holds_told, Rooted, NearNew}
use Rattle.uc_place_laws.proofs.Nearness.{from_low, near_all, rest_from, hidden_from}
use Rattle.uc_place_laws.proofs.AsideSteps as steps

module _ (Z : ℕ → ℕ → Type 0) (makes : ℕ → Bool) (source : Source) (known : (n : ℕ) → CodeRoutine makes source (makes n) (slice_get source.routines n)) where
  module _ (s : State) (st : StackState Z s) (callers : AllWait (Runs Z makes source) (Waits Z makes source) s.env.exec s.callers) (env : NamedEnv (Runs Z makes source) (Waits Z makes source) s.env) (made : Bool) (this : made ≡ true → LiesAside Z s.env.exec s.callers s.run.this × Sits Z s.env.exec s.callers s.run.this) (ms : List Mark) (holds : Holds Z s.env.exec s.run.frame s.run.this s.callers ms s.run.operands) where
    abbrev H : List Mark → List Value → Type 0
    H ns vs = Holds Z s.env.exec s.run.frame s.run.this s.callers ns vs

    abbrev O : List Mark → List Todo → Type 0
    O ns todo = Ok makes source (IsNear Z s.run.frame s.callers) made ns todo

    go : (ns : List Mark) (todo : List Todo) (vs : List Value) → H ns vs → O ns todo → AsideState Z makes source (at todo vs s)
    go = steps.go Z makes source s callers env made this

    anew : (todo : List Todo) (vs : List Value) → O [] todo → AsideState Z makes source (at todo vs s)
    anew = steps.anew Z makes source s callers env made this

    one : H (rest ms) (below s.run.operands)
    one = holds_below Z s.env.exec s.run.frame s.run.this s.callers ms s.run.operands holds

    two : H (rest (rest ms)) (below (below s.run.operands))
    two = holds_below Z s.env.exec s.run.frame s.run.this s.callers (rest ms) (below s.run.operands) one

    -- what is built behind all rooms of older activations of the frame lies aside
    near : (k : ℕ) → ((x : ℕ) → SomeTo Z (From x) s.run.control → x ≤ k) → IsNear Z s.run.frame s.callers k
    near k f = near_all Z makes source k s.run.frame s.run.control s.run.handles s.callers s.env.exec s.callers f st.stack.0.over callers

    -- so does what is new, which is bound in the room of what is to do
    rooted : (p : Expr) (todo : List Todo) → ((o : Room) (x : ℕ) → TodoTo Z (From x) o s.run.control → IsNew o.low p × TodoTo Z (From x) o todo) → Rooted (IsNear Z s.run.frame s.callers) p
    rooted (src.Variable k) todo f =
        near k (λ x z. let y = f z.0 x z.1 in let low : x ≤ z.0.low = from_low Z x z.0 todo y.1 in let there : z.0.low ≤ k = y.0 in omega (arith, low, there))
    rooted (src.Element m h e i) todo f = rooted e todo (λ o x z. let y = f o x z in (y.0.0, y.1))
    rooted p todo f = tt

    new_near : (a : Expr) (todo : List Todo) → s.run.control ≡ piece.Eval a ∷ todo → NearNew (IsNear Z s.run.frame s.callers) a
    new_near (src.OfObject (src.Bind p e)) todo c = rooted p todo (λ o x z. let y : TodoTo Z (From x) o (piece.Eval (src.OfObject (src.Bind p e)) ∷ todo) = subst (TodoTo Z (From x) o) c z in (y.0.0, y.1))
    new_near (src.OfObject (src.MakeOn k r written p args)) todo c = rooted p todo (λ o x z. let y : TodoTo Z (From x) o (piece.Eval (src.OfObject (src.MakeOn k r written p args)) ∷ todo) = subst (TodoTo Z (From x) o) c z in (y.0.0, y.1))
    new_near a todo c = tt

    hidden_raised : (r : Raised) (todo : List Todo) → ((o : Room) (x : ℕ) → TodoTo Z (From x) o s.run.control → RaisedIn Z o r × TodoTo Z (From x) o todo) → steps.Hidden Z makes source s callers env made this r
    hidden_raised (src.BuiltAt n k e) todo f = near k (λ x z. let y = f z.0 x z.1 in hidden_from Z z.0 x k todo y.1 y.0.0)
    hidden_raised (src.Plainly n) todo f = tt
    hidden_raised (src.AgainFrom k) todo f = tt

    hidden_of : (a : Stmt) (todo : List Todo) → s.run.control ≡ piece.Do a ∷ todo → steps.HiddenStmt Z makes source s callers env made this a
    hidden_of (src.OfEvents (src.Throw line r)) todo c = hidden_raised r todo (λ o x z. let y : TodoTo Z (From x) o (piece.Do (src.OfEvents (src.Throw line r)) ∷ todo) = subst (TodoTo Z (From x) o) c z in (y.0, y.1))
    hidden_of (src.OfEvents (src.Raise line r)) todo c = hidden_raised r todo (λ o x z. let y : TodoTo Z (From x) o (piece.Do (src.OfEvents (src.Raise line r)) ∷ todo) = subst (TodoTo Z (From x) o) c z in (y.0, y.1))
    hidden_of (src.OfEvents (src.RaiseAt line r a)) todo c = hidden_raised r todo (λ o x z. let y : TodoTo Z (From x) o (piece.Do (src.OfEvents (src.RaiseAt line r a)) ∷ todo) = subst (TodoTo Z (From x) o) c z in (y.0.0, y.1))
    hidden_of a todo c = tt

    -- one piece, with what is to do behind it
    acts : (p : Todo) (todo : List Todo) → s.run.control ≡ p ∷ todo → OkNow makes source (IsNear Z s.run.frame s.callers) made ms (p ∷ todo) → AsideStep Z makes source (quiet.act source p todo s)
    acts (piece.Eval a) todo c h = steps.evals Z makes source s callers env made this ms holds a todo (new_near a todo c) h
    acts piece.LoadNow todo c h = go (Any ∷ rest ms) _ _ (tt, one) h.1
    acts (piece.ElementNow m k) todo c h = steps.element Z makes source s callers env made this (rest ms) k _ todo _ _ (holds_spread Z s.env.exec s.run.frame s.run.this s.callers (rest ms) (below s.run.operands) one) h
    acts (piece.FieldNow k i) todo c h = go (Any ∷ rest ms) _ _ (tt, one) h.1
    acts piece.NegateNow todo c h = steps.outcome Z makes source s callers env made this (rest ms) _ todo _ one h.1
    acts piece.NotNow todo c h = go (Any ∷ rest ms) _ _ (tt, one) h.1
    acts piece.CharacterNow todo c h = go (Any ∷ rest ms) _ _ (tt, one) h.1
    acts piece.TruthNow todo c h = go (Any ∷ rest ms) _ _ (tt, one) h.1
    acts (piece.OperateNow op) todo c h = steps.outcome Z makes source s callers env made this (rest (rest ms)) _ todo _ two h.1
    acts piece.CopyNow todo c h = go (Any ∷ ms) _ _ (tt, holds) h.1
    acts piece.CopyBelowNow todo c h = go (Any ∷ ms) _ _ (tt, holds) h.1
    acts piece.DropNow todo c h = go (rest ms) _ _ one h.1
    acts piece.DropBelowNow todo c h = go (Any ∷ rest (rest ms)) _ _ (tt, two) h.1
    acts piece.StoreNow todo c h = steps.go_in Z makes source s callers env made this (rest (rest ms)) _ _ _ two h.1 (steps.write Z makes source s callers env made this (top (below s.run.operands)) (piece.Number (number (top s.run.operands))))
    acts piece.KeepNow todo c h = steps.go_in Z makes source s callers env made this (Any ∷ rest (rest ms)) _ _ _ (tt, two) h.1 (steps.write Z makes source s callers env made this (top (below s.run.operands)) (piece.Number (number (top s.run.operands))))
    acts (piece.SetNow k) todo c h = steps.go_in Z makes source s callers env made this ms _ _ _ holds h.1 (steps.write Z makes source s callers env made this (piece.variable_at k s) (piece.Number (number (top s.run.operands))))
    acts piece.BindNow todo c h = steps.go_in Z makes source s callers env made this (Any ∷ rest (rest ms)) _ _ _ (tt, two) h.1 (steps.write Z makes source s callers env made this (top (below s.run.operands)) (top s.run.operands))
    acts (piece.Choose e f) todo c h = go (rest ms) _ _ one (either (CountedExpr source) (piece.is_zero (number (top s.run.operands))) f e h.0.1.0 h.0.0.0, inl (either (PlainExpr makes) (piece.is_zero (number (top s.run.operands))) f e h.0.1.1 h.0.0.1, h.1))
    acts (piece.Branch a b) todo c h = anew _ _ (steps.inner Z makes source (IsNear Z s.run.frame s.callers) made (NextAlone todo) (if piece.is_zero (number (top s.run.operands)) then b else a) (either (CodeStmt makes source Nowhere ⊥ made) (piece.is_zero (number (top s.run.operands))) b a h.0.1 h.0.0), h.1, h.2)
    acts piece.TickNow todo c h = go ms _ _ holds h.1
    acts (piece.TurnNow o t e b) todo c h = anew _ _ (steps.inner Z makes source (IsNear Z s.run.frame s.callers) made (Unit {0}) b h.0.0.2, h.0.1, (h.0, h.1))
    acts (piece.Arguments src.NoExprs) todo c h = go ms _ _ holds h.1
    acts (piece.Arguments (src.MoreExprs e es)) todo c h = go ms _ _ holds (h.0.0.0, inl (h.0.1.0, ((h.0.0.1, h.0.1.1), h.1)))
    acts (piece.CallNow r) todo c h = steps.call Z makes source s callers env made this ms holds (makes r) (slice_get source.routines r) todo (known r) h.1
    acts (piece.CallOnNow r) todo c h = steps.call_on Z makes source s callers env made this ms holds (makes r) (slice_get source.routines r) todo (known r) h.0 h.1
    acts (piece.CallUnwrittenNow r) todo c h = steps.call_unwritten Z makes source s callers env made this ms holds (makes r) (slice_get source.routines r) todo (known r) h.0 h.1
    acts (piece.CountNow m) todo c h = record { run = record { made = made; this = this; marks = []; holds = tt; ok = marks.now makes source (IsNear Z s.run.frame s.callers) made [] todo h.1 }; callers = callers; env = env }
    acts piece.MoreNow todo c h = record { run = record { made = made; this = this; marks = []; holds = tt; ok = marks.now makes source (IsNear Z s.run.frame s.callers) made [] todo h.1 }; callers = callers; env = env }
    acts (piece.FillNow m b d) todo c h = anew _ _ (steps.filled Z makes source (IsNear Z s.run.frame s.callers) made (nat_lt s.run.elements m) m b d todo h.0.0 h.0.1 h.0.2 h.1)
    acts (piece.Again o t e b) todo c h = anew _ _ (either (Ok makes source (IsNear Z s.run.frame s.callers) made []) (piece.is_zero (number (top s.run.operands))) todo (piece.TurnNow o t e b ∷ todo) h.1 (h.0, h.1))
    acts (piece.PrintNow f) todo c h = steps.prints Z makes source s callers env made this s.env.gathered _ todo _ h.1
    acts (piece.TextNow k) todo c h = steps.prints Z makes source s callers env made this s.env.gathered _ todo _ h.1
    acts piece.GatherNow todo c h = steps.go_in Z makes source s callers env made this [] _ _ _ tt h.1 (steps.same Z makes source s callers env made this refl refl refl refl)
    acts piece.FlushNow todo c h = steps.flushes Z makes source s callers env made this s.env.gathered todo _ h.1
    acts (piece.ReadNow f) todo c h = record { run = record { made = made; this = this; marks = ms; holds = holds; ok = h.1 }; callers = callers; env = env }
    acts (piece.ClearNow k m) todo c h = steps.go_in Z makes source s callers env made this ms _ _ _ holds h.1 (kept.owned_keeps (Runs Z makes source) (Waits Z makes source) (steps.calm Z makes source) (piece.this_frame s) (values_cleared k m piece.nought) s.env env)
    acts (piece.Items []) todo c h = anew _ _ h.1
    acts (piece.Items (i ∷ is)) todo c h = anew _ _ (steps.item Z makes source (IsNear Z s.run.frame s.callers) made i is _ h.0 ((h.0.0.1, h.0.1.1), h.1))
    acts (piece.Values []) todo c h = anew _ _ h.1
    acts (piece.Values (i ∷ is)) todo c h = anew _ _ (steps.item_value Z makes source (IsNear Z s.run.frame s.callers) made i is _ h.0 (λ ns. ((h.0.0.1, h.0.1.1), h.1)))
    acts (piece.Pieces []) todo c h = anew _ _ h.1
    acts (piece.Pieces (i ∷ is)) todo c h = anew _ _ ((h.0.0.1, h.0.1.1), steps.item_piece Z makes source (IsNear Z s.run.frame s.callers) made i todo h.1)
    acts (piece.Targets []) todo c h = anew _ _ h.1
    acts (piece.Targets (t ∷ ts)) todo c h = anew _ _ (h.0.0.0, inl (h.0.1.0, (tt, (tt, ((h.0.0.1, h.0.1.1), h.1)))))
    acts (piece.Variables []) todo c h = anew _ _ h.1
    acts (piece.Variables (d ∷ ds)) todo c h = anew _ _ (tt, steps.starts Z makes source (IsNear Z s.run.frame s.callers) made d.cell d.value (piece.Variables ds ∷ todo) (h.0.0.0, h.0.1.0) ((h.0.0.1, h.0.1.1), h.1))
    acts (piece.Do a) todo c h = steps.stmt Z makes source s callers env made this a todo h.0 (hidden_of a todo c) h.1 h.2
    acts (piece.Rest ss) todo c h = steps.rest_of Z makes source s callers env made this ss todo h.0.0 (λ a more k e q. near k (λ x z. rest_from Z a more todo k q x (subst (λ l. SomeTo Z (From x) l) (subst (λ l. s.run.control ≡ piece.Rest l ∷ todo) e c) z))) h.0.1 h.1
    acts (piece.Within line) todo c h = anew _ _ h.1
    acts (piece.Exit w) todo c h = steps.exits Z makes source s callers env made this w todo h.0 h.1
    acts piece.NoReturnNow todo c h = steps.stop Z makes source s callers env made this NoReturn todo _
    acts (piece.InLoop o t e b) todo c h = anew _ _ (steps.stepped Z makes source (IsNear Z s.run.frame s.callers) made e _ h.0.0.1 (steps.tested Z makes source (IsNear Z s.run.frame s.callers) made o t e b todo h.0 h.1))
    acts piece.InWhole todo c h = anew _ _ h.1
    acts (piece.Clean x) todo c h = anew _ _ (steps.cleans Z makes source (IsNear Z s.run.frame s.callers) made x todo h.0.0 h.0.1 h.1)
    acts (piece.Sweep e) todo c h = steps.swept Z makes source s callers env made this s.run.elements e todo h.0.0 h.0.1 h.1
    acts (piece.Part x) todo c h = anew _ _ h.1
    acts (piece.Guard hs) todo c h = anew _ _ h.1
    acts piece.Unwind todo c h = steps.unwinds Z makes source s callers env made this todo h
    acts piece.ThrowNow todo c h = steps.thrown Z makes source s callers env made this (raising.event_in s.run.operands) todo h.1
    acts piece.RaiseNow todo c h = steps.raises Z makes source s callers env made this ms (raising.event_in s.run.operands) todo holds h.1
    acts (piece.SetUpNow r) todo c h = steps.set_up Z makes source s callers env made this ms holds (slice_get source.routines r) todo (subst (λ b. CodeRoutine makes source b (slice_get source.routines r)) h.0.1 (known r)) h.1
    acts piece.EnlivenNow todo c h = steps.go_in Z makes source s callers env made this [] _ _ _ tt h.1 (kept.enlivened_keeps (Runs Z makes source) (Waits Z makes source) (steps.calm Z makes source) (piece.own_exec s) s.env env)
    acts piece.TakeDownNow todo c h = steps.moved Z makes source s callers env made this _ todo _ (kept.take_down_rests (Runs Z makes source) (Waits Z makes source) (steps.calm Z makes source) (piece.own_exec s) (at todo s.run.operands s) (anew _ _ h.1))
    acts piece.ForgetNow todo c h = steps.go_in Z makes source s callers env made this [] _ _ _ tt h.1 (kept.forgotten_keeps (Runs Z makes source) (Waits Z makes source) (steps.calm Z makes source) (piece.own_exec s) s.env env)
    acts (piece.LiveNow r) todo c h = steps.live Z makes source s callers env made this ms holds (slice_get source.routines r) todo h.1
    acts piece.ResumeNow todo c h = steps.moved Z makes source s callers env made this _ (piece.Land ∷ todo) _ (kept.wake_rests (Runs Z makes source) (Waits Z makes source) (steps.calm Z makes source) (quiet.resumed s) (at (piece.Land ∷ todo) s.run.operands s) (anew _ _ (tt, h.1)))
    acts piece.SuspendNow todo c h = steps.moved Z makes source s callers env made this _ (piece.Land ∷ todo) _ (kept.suspend_rests (Runs Z makes source) (Waits Z makes source) (steps.calm Z makes source) (at (piece.Land ∷ todo) s.run.operands s) (anew _ _ (tt, h.1)))
    acts piece.Land todo c h = steps.land Z makes source s callers env made this s.run.raised ms todo holds h.1
    acts (piece.EnterNow m r) todo c h = steps.enter Z makes source s callers env made this ms holds m (slice_get source.routines r) todo h.1
    acts piece.LeaveNow todo c h = steps.leave Z makes source s callers env made this ms holds _ (monitors.this_object s) todo h.1
    acts (piece.MakeNow k r) todo c h = steps.make Z makes source s callers env made this ms holds k r (slice_get source.routines r) todo h.0 h.1
    acts (piece.BindMadeNow k r) todo c h = steps.bind Z makes source s callers env made this ms holds (slice_get source.routines r) todo h.0.0 h.1
    acts piece.MadeNow todo c h = steps.unless Z makes source s callers env made this ms holds (monitors.this_object s) _ todo (record { run = record { made = made; this = this; marks = []; holds = tt; ok = marks.now makes source (IsNear Z s.run.frame s.callers) made [] todo h.1 }; callers = callers; env = steps.likes Z makes source env refl refl refl })
    acts (piece.SpawnNow r) todo c h = steps.unless Z makes source s callers env made this ms holds (monitors.this_object s) _ (piece.ChildNow r ∷ todo) (record { run = record { made = made; this = this; marks = []; holds = tt; ok = (tt, h.1) }; callers = callers; env = steps.likes Z makes source env refl refl refl })
    acts (piece.ChildNow r) todo c h = anew _ _ h.1
    acts piece.GoneNow todo c h = record { run = record { made = made; this = this; marks = []; holds = tt; ok = marks.now makes source (IsNear Z s.run.frame s.callers) made [] todo h.1 }; callers = callers; env = steps.likes Z makes source env refl refl refl }
    acts piece.GiveUpNow todo c h = record { run = record { made = made; this = this; marks = []; holds = tt; ok = marks.now makes source (IsNear Z s.run.frame s.callers) made [] todo h.1 }; callers = callers; env = steps.likes Z makes source env refl refl refl }
    acts piece.ClusterNow todo c h = record { run = record { made = made; this = this; first = h.0; told = h.1; marks = ms; holds = holds; ok = h.2 }; callers = callers; env = env }
    acts piece.ProcessorNow todo c h = record { run = record { made = made; this = this; first = h.0; told = h.1; marks = rest ms; holds = one; ok = h.2 }; callers = callers; env = env }
    acts piece.ClusterEndNow todo c h = record { run = record { made = made; this = this; marks = Any ∷ rest ms; holds = (tt, one); ok = marks.now makes source (IsNear Z s.run.frame s.callers) made (Any ∷ rest ms) todo h.1 }; callers = callers; env = env }
    acts piece.ProcessorEndNow todo c h = record { run = record { made = made; this = this; marks = Any ∷ rest ms; holds = (tt, one); ok = marks.now makes source (IsNear Z s.run.frame s.callers) made (Any ∷ rest ms) todo h.1 }; callers = callers; env = env }
    acts (piece.ConditionNow k m) todo c h = steps.condition Z makes source s callers env made this (rest ms) k _ todo one h.1
    acts piece.WaitNow todo c h = steps.unless Z makes source s callers env made this ms holds (monitors.this_object s) _ todo (record { run = record { made = made; this = this; marks = Any ∷ rest (rest ms); holds = (tt, two); ok = marks.now makes source (IsNear Z s.run.frame s.callers) made (Any ∷ rest (rest ms)) todo h.1 }; callers = callers; env = env })
    acts piece.SignalNow todo c h = record { run = record { made = made; this = this; marks = Any ∷ rest ms; holds = (tt, one); ok = marks.now makes source (IsNear Z s.run.frame s.callers) made (Any ∷ rest ms) todo h.1 }; callers = callers; env = env }
    acts piece.SignalBlockNow todo c h = steps.unless Z makes source s callers env made this ms holds (monitors.this_object s) _ todo (record { run = record { made = made; this = this; marks = Any ∷ rest ms; holds = (tt, one); ok = marks.now makes source (IsNear Z s.run.frame s.callers) made (Any ∷ rest ms) todo h.1 }; callers = callers; env = env })
    acts piece.EmptyNow todo c h = record { run = record { made = made; this = this; marks = rest ms; holds = one; ok = h.1 }; callers = callers; env = env }
    acts piece.FrontNow todo c h = record { run = record { made = made; this = this; marks = rest ms; holds = one; ok = h.1 }; callers = callers; env = env }
    acts piece.YieldNow todo c h = record { run = record { made = made; this = this; marks = []; holds = tt; ok = marks.now makes source (IsNear Z s.run.frame s.callers) made [] todo h.1 }; callers = callers; env = env }
    acts piece.MigrateNow todo c h = record { run = record { made = made; this = this; marks = []; holds = tt; ok = marks.now makes source (IsNear Z s.run.frame s.callers) made [] todo h.1 }; callers = callers; env = env }
    acts (piece.Guards src.NoClauses) todo c h = anew _ _ h.1
    acts (piece.Guards (src.Otherwise b)) todo c h = anew _ _ h.1
    acts (piece.Guards (src.MoreClauses guard b cs)) todo c h = anew _ _ (h.0.0.0, inl (h.0.1.0, ((h.0.0.2, h.0.1.2), h.1)))
    acts (piece.AcceptNow site m) todo c h = steps.accept Z makes source s callers env made this ms holds _ (monitors.this_object s) site todo _ h.1
    acts piece.FailedNow todo c h = steps.failed Z makes source s callers env made this ms holds _ todo _ h.1
    acts (piece.ChooseNow cs) todo c h = anew _ _ (steps.branch Z makes source (IsNear Z s.run.frame s.callers) made _ cs todo h.0 h.1 h.2)
    acts piece.RaiseAtNow todo c h = steps.raise_at Z makes source s callers env made this ms holds (top s.run.operands) (raising.event_in (below s.run.operands)) todo (drop 4 s.run.operands) h.1
    acts (piece.EnableNow events cell) todo c h = steps.enables Z makes source s callers env made this ms holds _ cell todo h.1
    acts (piece.DisableNow events cell) todo c h = steps.enables Z makes source s callers env made this ms holds _ cell todo h.1
    acts (piece.RestoreNow cell) todo c h = steps.go_in Z makes source s callers env made this [] _ _ _ tt h.1 (steps.same Z makes source s callers env made this refl refl refl refl)
    acts piece.PollNow todo c h = steps.poll Z makes source s callers env made this ms holds todo h.1
    acts piece.DeliverNow todo c h = steps.deliver Z makes source s callers env made this ms holds _ todo h.1
    acts piece.Finish todo c h = steps.unless Z makes source s callers env made this ms holds s.env.own _ todo (steps.returned Z makes source s callers env made this _ s.callers callers)
    acts piece.FinishCoroutine todo c h = steps.moved Z makes source s callers env made this _ todo _ (kept.finish_rests (Runs Z makes source) (Waits Z makes source) (steps.calm Z makes source) (at todo s.run.operands s) (anew _ _ h.1))

  pub walk : (s : State) → AsideState Z makes source s → StackState Z s → AsideStep Z makes source (quiet.quiet source s)
  walk s h st = by s.run.control refl
    where
      by : (l : List Todo) → s.run.control ≡ l → AsideStep Z makes source (quiet.act_todo source l s)
      by [] e = steps.returned Z makes source s h.callers h.env h.run.made h.run.this _ s.callers h.callers
      by (p ∷ todo) e = acts s st h.callers h.env h.run.made h.run.this h.run.marks h.run.holds p todo e (subst (OkNow makes source (IsNear Z s.run.frame s.callers) h.run.made h.run.marks) e h.run.ok)

module _ (Z : ℕ → ℕ → Type 0) (makes : ℕ → Bool) (source : Source) (known : (n : ℕ) → CodeRoutine makes source (makes n) (slice_get source.routines n)) where
  begins : (b : Bool) (o : ℕ) (r : Option Routine) → CodeRoutine makes source b r → AsideState Z makes source (first_state (routine_or_none r) o)
  begins b o None h = record { run = record { made = false; this = λ q. (tt, tt); marks = []; holds = tt; ok = (((tt, tt), tt), (tt, tt)) }; callers = tt; env = record { house = (tt, tt); hand = tt } }
  begins b o (Some r) h = record { run = record { made = b; this = λ q. (tt, tt); marks = []; holds = tt; ok = steps.routine Z makes source (IsNear Z 0 []) b r h }; callers = tt; env = record { house = (tt, tt); hand = tt } }

  -- a task begins so
  pub first_aside : (r o : ℕ) → AsideState Z makes source (first_state (routine_of source r) o)
  first_aside r o = begins (makes r) o (slice_get source.routines r) (known r)

-- an answer of its form brings the operands that a state is to find, and at most an object in which nothing is to do

module _ (Z : ℕ → ℕ → Type 0) (makes : ℕ → Bool) (source : Source) where
  more_hand : (hand : List (ℕ × Members)) (o : ℕ) (m : Members) → NamedParked (Runs Z makes source) (Waits Z makes source) (home.Object o) m.parked → NamedHand (Runs Z makes source) (Waits Z makes source) hand → NamedHand (Runs Z makes source) (Waits Z makes source) (hand ++ (o, m) ∷ [])
  more_hand [] o m h k = (h, tt)
  more_hand (p ∷ hand) o m h k = (k.0, more_hand hand o m h k.1)

  new_aside : (h : Home) (todo : List Todo) → AsideMembers Z makes source h (new_members source todo)
  new_aside h [] = tt
  new_aside h (piece.BindMadeNow c r ∷ todo) = tt
  new_aside h (p ∷ todo) = tt

  -- with an operand more, or several, it goes on
  found : (s : State) (many : ℕ) (ms : List Mark) (vs : List Value) → (f : Finds Z makes source many s.env.exec s.callers s.run) → Holds Z s.env.exec s.run.frame s.run.this s.callers ms vs → Ok makes source (IsNear Z s.run.frame s.callers) f.made ms s.run.control → Runs Z makes source s.env.exec s.callers (record s.run { operands = vs })
  found s many ms vs f h k = record { made = f.made; this = f.this; marks = ms; holds = h; ok = marks.now makes source (IsNear Z s.run.frame s.callers) f.made ms s.run.control k }

  told_object : (s : State) (o : ℕ) → FindsObject Z makes source s.env.exec s.callers s.run → Runs Z makes source s.env.exec s.callers (record s.run { operands = piece.Object o ∷ s.run.operands })
  told_object s o f = record { made = f.made; this = f.this; marks = f.first ∷ f.marks; holds = (holds_told Z s.env.exec s.run.frame s.run.this s.callers f.first o f.told, f.holds); ok = marks.now makes source (IsNear Z s.run.frame s.callers) f.made (f.first ∷ f.marks) s.run.control f.ok }

  entered_aside : (m : Option Members) (o : ℕ) (s : State) → AsideMembers Z makes source (home.Object o) m → FindsObject Z makes source s.env.exec s.callers s.run → AllWait (Runs Z makes source) (Waits Z makes source) s.env.exec s.callers → NamedEnv (Runs Z makes source) (Waits Z makes source) s.env → AsideState Z makes source (with_operand (piece.Object o) (entered m o s))
  entered_aside None o s k f c e = record { run = told_object s o f; callers = c; env = e }
  entered_aside (Some m) o s k f c e = record { run = told_object s o f; callers = c; env = record { house = e.house; hand = more_hand s.env.hand o m k e.hand } }

  pub answered_aside : (form : Form) (given : Answer) (s : State) → IsForm form given → FindsFor Z makes source form s.env.exec s.callers s.run → AllWait (Runs Z makes source) (Waits Z makes source) s.env.exec s.callers → NamedEnv (Runs Z makes source) (Waits Z makes source) s.env → AsideState Z makes source (answered source given s)
  answered_aside AnObject (answer.Object o) s k f c e = entered_aside (new_members source s.run.control) o s (new_aside (home.Object o) s.run.control) f c e
  answered_aside AClause (answer.Clause n failed) s k f c e = record { run = found s 2 (Any ∷ (Any ∷ f.marks)) _ f (tt, (tt, f.holds)) f.ok; callers = c; env = e }
  answered_aside ANumber (answer.Number n) s k f c e = record { run = found s 1 (Any ∷ f.marks) _ f (tt, f.holds) f.ok; callers = c; env = e }
  answered_aside AValue (answer.Value n failed) s k f c e = record { run = record { made = f.made; this = f.this; marks = Any ∷ f.marks; holds = (tt, f.holds); ok = marks.now makes source (IsNear Z s.run.frame s.callers) f.made (Any ∷ f.marks) s.run.control f.ok }; callers = c; env = e }
  answered_aside AnEvent (answer.Event n x y) s k f c e = record { run = found s 3 (Any ∷ (Any ∷ (Any ∷ f.marks))) _ f (tt, (tt, (tt, f.holds))) f.ok; callers = c; env = e }
  answered_aside AnEvent answer.Nothing s k f c e = record { run = found s 3 (Any ∷ (Any ∷ (Any ∷ f.marks))) _ f (tt, (tt, (tt, f.holds))) f.ok; callers = c; env = e }
  answered_aside JustGo answer.Go s k f c e = record { run = f; callers = c; env = e }
  answered_aside form given s k f c e = absurd k
