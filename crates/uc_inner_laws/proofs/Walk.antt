-- Every quiet step of a task in order, answers to it, and what follows for what is asked.
use Rattle.std.proofs.Common.{◌≡◌, ℕ, ◌<◌, ◌⊎◌, inl, inr, Bool, true, false, List, [], ◌∷◌, ◌++◌, ◌||◌, suc, drop, Option, Some, None, refl, sym, subst, ap, ◌∙◌, arith}
use Rattle.std.specs.Prelude.{nat_lt, nat_eq, is_some, slice_get, if◌then◌else◌}
use Rattle.std.proofs.lemmas.Bool.{eq-eqb}
use Rattle.uc_tree.specs.Source as src
use Rattle.uc_tree.specs.Source.{Source, Routine, routine_or_none, routine_of}
use Rattle.uc_entry.specs.declared.fault.RunFault.TheVariants.{NoReturn}
use Rattle.uc_entry.specs.declared.request.Answer.{Answer}
use Rattle.uc_entry.specs.declared.request.Answer.TheVariants as answer
use Rattle.uc_entry.specs.declared.request.Request.{Request}
use Rattle.uc_entry.specs.declared.request.Request.TheVariants as ask
use Rattle.uc_entry.specs.Keyed.{find}
use Rattle.uc_machine.specs.declared.exec.Exec.{Exec}
use Rattle.uc_machine.specs.declared.exec.Home.{Home}
use Rattle.uc_machine.specs.declared.exec.Home.TheVariants as home
use Rattle.uc_machine.specs.Executions.{values_cleared, home_eq}
use Rattle.uc_machine.specs.Insides.{is_held_up, has_engaged}
use Rattle.uc_machine.specs.Raising as raising
use Rattle.uc_machine.specs.Monitors as monitors
use Rattle.uc_machine.specs.Quiet as quiet
use Rattle.uc_machine.specs.Quiet.{first_state}
use Rattle.uc_machine.specs.Pieces as piece
use Rattle.uc_machine.specs.Pieces.{Value, Todo, MakeNow, State, Members, Active, at, top, below, number, object_in}
use Rattle.uc_machine.specs.Answering.{answered, entered, new_members, with_operand}
use Rattle.uc_depth_laws.specs.Owing.{Tests, marks, SoleAt, FairAt, IsInside, Deep}
use Rattle.uc_depth_laws.proofs.Kept.{either}
use Rattle.uc_depth_laws.proofs.Standing.{law_inside}
use Rattle.uc_answer_laws.specs.Suiting.{AnObject, AClause, ANumber, AValue, AnEvent, JustGo, IsForm, form_of_request}
use Rattle.uc_inner_laws.specs.Inner.{Part, ground_of, params_at, params, InnerMaybe, InnerItems, InnerExpr, InnerStmt, InnerRoutine, InnerSource}
use Rattle.uc_inner_laws.specs.Standing.{Mark, Any, Thing, Meets, Holds, rest, ground, Base, calm, Ok, brings, StandsParked, StandsHand, StandsMembers, StandsWith, StandsState, IsHome, Backs, IsHere, StandsAsk, StandsIn, StandsAsking, StandsStep}
use Rattle.uc_inner_laws.specs.InnerLaws.{IsElsewhere, IsAt, LawSteps, LawInside, LawFair, LawMakes}
use Rattle.uc_inner_laws.proofs.Keeping as kept
use Rattle.uc_inner_laws.proofs.Marking.{holds_below, there_long, alone}
use Rattle.uc_inner_laws.proofs.TodoLists as lists
use Rattle.uc_inner_laws.proofs.Steps as steps
use Rattle.uc_inner_laws.proofs.Steps.{Round}
use Rattle.uc_depth_laws.specs.Entering.{IsMain, IsMainRoutine}

module _ (part : ℕ → Part) (source : Source) (mine : ℕ) (known : InnerSource part source) where
  module _ (s : State) (base : Base) (x : Round part source mine base s) (ms : List Mark) (holds : Holds s.env.exec.home s.run.this ms s.run.operands) where
    go : (ns : List Mark) (todo : List Todo) (vs : List Value) → Holds s.env.exec.home s.run.this ns vs → Ok part source base ns todo → StandsState part source mine (at todo vs s)
    go = steps.go part source mine s base x

    anew : (todo : List Todo) (vs : List Value) → Ok part source base [] todo → StandsState part source mine (at todo vs s)
    anew = steps.anew part source mine s base x

    lift : (todo : List Todo) → Ok part source (calm base) [] todo → Ok part source base [] todo
    lift = steps.lift part source mine s base x

    one : Holds s.env.exec.home s.run.this (rest ms) (below s.run.operands)
    one = holds_below s.env.exec.home s.run.this ms s.run.operands holds

    two : Holds s.env.exec.home s.run.this (rest (rest ms)) (below (below s.run.operands))
    two = holds_below s.env.exec.home s.run.this (rest ms) (below s.run.operands) one

    -- one piece, with what is to do behind it
    acts : (p : Todo) (todo : List Todo) → s.run.control ≡ p ∷ todo → Ok part source base ms (p ∷ todo) → StandsStep part source mine s (quiet.act source p todo s)
    acts (piece.Eval a) todo c h = steps.evals part source mine s base x ms holds a todo h.0 h.1
    acts piece.LoadNow todo c h = go (Any ∷ rest ms) _ _ (tt, one) h.1
    acts (piece.ElementNow m k) todo c h = steps.element part source mine s base x (rest (rest ms)) k _ todo _ _ two h.1
    acts (piece.FieldNow k i) todo c h = go (Any ∷ rest ms) _ _ (tt, one) h.1
    acts piece.NegateNow todo c h = steps.outcome part source mine s base x (rest ms) _ todo _ one h.1
    acts piece.NotNow todo c h = go (Any ∷ rest ms) _ _ (tt, one) h.1
    acts piece.CharacterNow todo c h = go (Any ∷ rest ms) _ _ (tt, one) h.1
    acts piece.TruthNow todo c h = go (Any ∷ rest ms) _ _ (tt, one) h.1
    acts (piece.OperateNow op) todo c h = steps.outcome part source mine s base x (rest (rest ms)) _ todo _ two h.1
    acts piece.CopyNow todo c h = go (Any ∷ ms) _ _ (tt, holds) h.1
    acts piece.CopyBelowNow todo c h = go (Any ∷ ms) _ _ (tt, holds) h.1
    acts piece.DropNow todo c h = go (rest ms) _ _ one h.1
    acts piece.DropBelowNow todo c h = go (Any ∷ rest (rest ms)) _ _ (tt, two) h.1
    acts piece.StoreNow todo c h = steps.go_in part source mine s base x (rest (rest ms)) _ _ _ two h.1 (steps.write part source mine s base x (top (below s.run.operands)) (piece.Number (number (top s.run.operands))))
    acts piece.KeepNow todo c h = steps.go_in part source mine s base x (Any ∷ rest (rest ms)) _ _ _ (tt, two) h.1 (steps.write part source mine s base x (top (below s.run.operands)) (piece.Number (number (top s.run.operands))))
    acts (piece.SetNow k) todo c h = steps.go_in part source mine s base x ms _ _ _ holds h.1 (steps.write part source mine s base x (piece.variable_at k s) (piece.Number (number (top s.run.operands))))
    acts piece.BindNow todo c h = steps.go_in part source mine s base x (Any ∷ rest (rest ms)) _ _ _ (tt, two) h.1 (steps.write part source mine s base x (top (below s.run.operands)) (top s.run.operands))
    acts (piece.Choose e f) todo c h = go (rest ms) _ _ one (either (InnerExpr part source (ground base.ground todo)) (piece.is_zero (number (top s.run.operands))) f e h.0.1 h.0.0, inl h.1)
    acts (piece.Branch a b) todo c h = anew _ _ (either (InnerStmt part source (ground base.ground todo)) (piece.is_zero (number (top s.run.operands))) b a h.0.1 h.0.0, h.1)
    acts piece.TickNow todo c h = go ms _ _ holds h.1
    acts (piece.TurnNow o t e b) todo c h = anew _ _ (h.0.2, (h.0, h.1))
    acts (piece.Arguments src.NoExprs) todo c h = go ms _ _ holds h.1
    acts (piece.Arguments (src.MoreExprs e es)) todo c h = go ms _ _ holds (h.0.0, inl (h.0.1, h.1))
    acts (piece.CallNow r) todo c h = steps.call part source mine s base x ms holds (part r) (slice_get source.routines r) todo h.0.0 h.0.1 (known r) h.1
    acts (piece.CallOnNow r) todo c h = steps.call_on part source mine s base x ms holds (part r) (slice_get source.routines r) todo h.0.1 (known r) h.0.0 h.1
    acts (piece.CallUnwrittenNow r) todo c h = steps.call_unwritten part source mine s base x ms holds (part r) (slice_get source.routines r) todo h.0.1 (known r) h.0.0 h.1
    acts (piece.CountNow m) todo c h = steps.changed part source mine s base x _ refl refl h.1
    acts piece.MoreNow todo c h = steps.changed part source mine s base x _ refl refl h.1
    acts (piece.FillNow m b d) todo c h = anew _ _ (lists.filled part source base (nat_lt s.run.elements m) m b d todo h.0 h.1)
    acts (piece.Again o t e b) todo c h = anew _ _ (either (Ok part source base []) (piece.is_zero (number (top s.run.operands))) todo (piece.TurnNow o t e b ∷ todo) (lift todo h.1) (h.0, h.1))
    acts (piece.PrintNow f) todo c h = steps.prints part source mine s base x s.env.gathered _ todo _ h.1
    acts (piece.TextNow k) todo c h = steps.prints part source mine s base x s.env.gathered _ todo _ h.1
    acts piece.GatherNow todo c h = steps.go_in part source mine s base x [] _ _ _ tt h.1 (steps.likes part source mine s base x refl refl refl refl)
    acts piece.FlushNow todo c h = steps.flushes part source mine s base x s.env.gathered todo _ h.1
    acts (piece.ReadNow f) todo c h = steps.asked part source mine s base x _ ms todo _ (λ z. z) tt holds h.1
    acts (piece.ClearNow k m) todo c h = steps.go_in part source mine s base x ms _ _ _ holds h.1 (kept.owned_stands part source mine (piece.this_frame s) (values_cleared k m piece.nought) s.env x.env)
    acts (piece.Items []) todo c h = anew _ _ h.1
    acts (piece.Items (i ∷ is)) todo c h = anew _ _ (lists.item part source base i _ h.0.0 (h.0.1, h.1))
    acts (piece.Values []) todo c h = anew _ _ h.1
    acts (piece.Values (i ∷ is)) todo c h = anew _ _ (lists.item_value part source base i _ h.0.0 (λ ns. (h.0.1, h.1)))
    acts (piece.Pieces []) todo c h = anew _ _ h.1
    acts (piece.Pieces (i ∷ is)) todo c h = anew _ _ (subst (λ g. InnerItems part source g is) (sym (lists.item_ground part source base i todo)) h.0.1, lists.item_piece part source base i todo h.1)
    acts (piece.Targets []) todo c h = anew _ _ h.1
    acts (piece.Targets (t ∷ ts)) todo c h = anew _ _ (h.0.0, inl (tt, (tt, (h.0.1, h.1))))
    acts (piece.Variables []) todo c h = anew _ _ h.1
    acts (piece.Variables (d ∷ ds)) todo c h = anew _ _ (tt, lists.starts part source base d.cell d.value (piece.Variables ds ∷ todo) h.0.0 (h.0.1, h.1))
    acts (piece.Do a) todo c h = steps.stmt part source mine s base x a todo h.0 h.1
    acts (piece.Rest ss) todo c h = steps.rest_of part source mine s base x ss todo h.0 h.1
    acts (piece.Within line) todo c h = anew _ _ (lift todo h.1)
    acts (piece.Exit w) todo c h = steps.exits part source mine s base x w todo h
    acts piece.NoReturnNow todo c h = steps.stop part source mine s base x NoReturn todo _
    acts (piece.InLoop o t e b) todo c h = anew _ _ (lists.stepped part source base e _ (subst (λ g. InnerMaybe part source g e) (sym (lists.tested_ground part source base o t e b todo)) h.0.1) (lists.tested part source base o t e b todo h.0.0 h.0.1 h.0.2 h.1))
    acts piece.InWhole todo c h = anew _ _ (lift todo h.1)
    acts (piece.Clean y) todo c h = anew _ _ (lists.cleans part source base y todo h.0 (lift todo h.1))
    acts (piece.Sweep e) todo c h = steps.swept part source mine s base x s.run.elements e todo h.0 h.1
    acts (piece.Part x) todo c h = anew _ _ (lift todo h.1)
    acts (piece.Guard hs) todo c h = anew _ _ (lift todo h.1)
    acts piece.Unwind todo c h = steps.unwinds part source mine s base x todo h.0 h.1
    acts piece.ThrowNow todo c h = steps.thrown part source mine s base x (raising.event_in s.run.operands) todo h.1
    acts piece.RaiseNow todo c h = steps.raises part source mine s base x ms (raising.event_in s.run.operands) todo holds h.1
    acts (piece.SetUpNow r) todo c h = steps.set_up part source mine s base x ms holds (part r) (slice_get source.routines r) todo h.0.0 h.0.1 (known r) h.1
    acts piece.EnlivenNow todo c h = steps.go_in part source mine s base x [] _ _ _ tt h.1 (kept.enlivened_stands part source mine (piece.own_exec s) s.env x.env)
    acts piece.TakeDownNow todo c h = steps.moved part source mine s base x _ todo _ (kept.take_down_stands part source mine (piece.own_exec s) (at todo s.run.operands s) (anew _ _ h.1))
    acts piece.ForgetNow todo c h = steps.go_in part source mine s base x [] _ _ _ tt h.1 (kept.forgotten_stands part source mine (piece.own_exec s) s.env x.env)
    acts (piece.LiveNow r) todo c h = steps.live part source mine s base x ms holds (slice_get source.routines r) todo h.0 h.1
    acts piece.ResumeNow todo c h = steps.moved part source mine s base x _ (piece.Land ∷ todo) _ (kept.wake_stands part source mine (quiet.resumed s) (at (piece.Land ∷ todo) s.run.operands s) (anew _ _ (tt, h.1)))
    acts piece.SuspendNow todo c h = steps.moved part source mine s base x _ (piece.Land ∷ todo) _ (kept.suspend_stands part source mine (at (piece.Land ∷ todo) s.run.operands s) (anew _ _ (tt, h.1)))
    acts piece.Land todo c h = steps.land part source mine s base x s.run.raised refl ms todo holds h.1
    acts (piece.EnterNow m r) todo c h = steps.enter part source mine s base x ms holds m (slice_get source.routines r) todo h.0 h.1
    acts piece.LeaveNow todo c h = steps.leave part source mine s base x ms holds _ todo h.1
    acts (piece.MakeNow k r) todo c h = steps.make part source mine s base x ms holds k r (slice_get source.routines r) todo h.0.1 h.0.1 h.0.0 h.1
    acts (piece.BindMadeNow k r) todo c h = steps.bind part source mine s base x ms holds (slice_get source.routines r) todo h.0.2 h.0.0 h.1
    acts piece.MadeNow todo c h = steps.unless part source mine s base x ms holds (monitors.this_object s) _ todo (λ u. steps.asked_in part source mine s base x _ [] todo _ _ (λ z. z) tt tt h.1 (steps.likes part source mine s base x refl refl refl refl))
    acts (piece.SpawnNow r) todo c h = steps.unless part source mine s base x ms holds (monitors.this_object s) _ (piece.ChildNow r ∷ todo) (λ u. steps.asked_in part source mine s base x _ [] _ _ _ (λ z. z) tt tt (h.0, h.1) (steps.likes part source mine s base x refl refl refl refl))
    acts (piece.ChildNow r) todo c h = anew _ _ h.1
    acts piece.GoneNow todo c h = steps.asked_in part source mine s base x _ [] todo _ _ (λ z. z) (λ g e. steps.takes_out part source mine s base x todo _ c g e) tt h.1 (steps.likes part source mine s base x refl refl refl refl)
    acts piece.GiveUpNow todo c h = steps.asked_in part source mine s base x _ [] todo _ _ (λ z. z) (λ g e. steps.gives_up part source mine s base x todo h.0 g e) tt h.1 (steps.likes part source mine s base x refl refl refl refl)
    acts piece.ClusterNow todo c h = steps.asked part source mine s base x _ (ms) todo _ (λ z. z) tt holds h.1
    acts piece.ProcessorNow todo c h = steps.asked part source mine s base x _ (rest ms) todo _ (λ z. z) tt one h.1
    acts piece.ClusterEndNow todo c h = steps.asked part source mine s base x _ (Any ∷ rest ms) todo _ (λ z. z) tt (tt, one) h.1
    acts piece.ProcessorEndNow todo c h = steps.asked part source mine s base x _ (Any ∷ rest ms) todo _ (λ z. z) tt (tt, one) h.1
    acts (piece.ConditionNow k m) todo c h = steps.condition part source mine s base x (rest ms) k _ todo one h.1
    acts piece.WaitNow todo c h = steps.unless part source mine s base x ms holds (monitors.this_object s) _ todo (λ u. steps.asked part source mine s base x _ (Any ∷ rest (rest ms)) todo _ (λ z. z) ((steps.stands_in part source mine s base x piece.WaitNow todo c h.0), u) (tt, two) h.1)
    acts piece.SignalNow todo c h = steps.asked part source mine s base x _ (Any ∷ rest ms) todo _ (λ z. z) (steps.stands_in part source mine s base x piece.SignalNow todo c h.0) (tt, one) h.1
    acts piece.SignalBlockNow todo c h = steps.unless part source mine s base x ms holds (monitors.this_object s) _ todo (λ u. steps.asked part source mine s base x _ (Any ∷ rest ms) todo _ (λ z. z) ((steps.stands_in part source mine s base x piece.SignalBlockNow todo c h.0), u) (tt, one) h.1)
    acts piece.EmptyNow todo c h = steps.asked part source mine s base x _ (rest ms) todo _ (λ z. z) (steps.stands_in part source mine s base x piece.EmptyNow todo c h.0) one h.1
    acts piece.FrontNow todo c h = steps.asked part source mine s base x _ (rest ms) todo _ (λ z. z) (steps.stands_in part source mine s base x piece.FrontNow todo c h.0) one h.1
    acts piece.YieldNow todo c h = steps.asked part source mine s base x _ ([]) todo _ (λ z. z) tt tt h.1
    acts piece.MigrateNow todo c h = steps.asked part source mine s base x _ ([]) todo _ (λ z. z) tt tt h.1
    acts (piece.Guards src.NoClauses) todo c h = anew _ _ h.1
    acts (piece.Guards (src.Otherwise b)) todo c h = anew _ _ h.1
    acts (piece.Guards (src.MoreClauses guard b cs)) todo c h = anew _ _ (h.0.0, inl (h.0.2, h.1))
    acts (piece.AcceptNow site m) todo c h = steps.accept part source mine s base x ms holds _ (monitors.this_object s) site todo _ (steps.stands_in part source mine s base x (piece.AcceptNow site m) todo c h.0) h.1
    acts piece.FailedNow todo c h = steps.failed part source mine s base x ms holds _ todo _ h.1
    acts (piece.ChooseNow cs) todo c h = anew _ _ (lists.branch part source base _ cs todo h.0 h.1)
    acts piece.RaiseAtNow todo c h = steps.raise_at part source mine s base x ms holds (top s.run.operands) (raising.event_in (below s.run.operands)) todo (drop 4 s.run.operands) h.1
    acts (piece.EnableNow events cell) todo c h = steps.enables part source mine s base x ms holds _ cell todo h.1
    acts (piece.DisableNow events cell) todo c h = steps.enables part source mine s base x ms holds _ cell todo h.1
    acts (piece.RestoreNow cell) todo c h = steps.go_in part source mine s base x [] _ _ _ tt h.1 (steps.likes part source mine s base x refl refl refl refl)
    acts piece.PollNow todo c h = steps.poll part source mine s base x ms holds todo h.1
    acts piece.DeliverNow todo c h = steps.deliver part source mine s base x ms holds _ todo h.1
    acts piece.Finish todo c h = steps.unless part source mine s base x ms holds s.env.own _ todo (λ u. steps.finished part source mine s base x _ s.callers u x.callers)
    acts piece.FinishCoroutine todo c h = steps.moved part source mine s base x _ todo _ (kept.finish_stands part source mine (at todo s.run.operands s) x.own x.env)

  pub walk : (s : State) → StandsState part source mine s → StandsStep part source mine s (quiet.quiet source s)
  walk s h = by s.run.control refl
    where
      x : Round part source mine h.run.base s
      x = record { own = h.own; callers = h.callers; env = h.env; here = h.here; backed = h.run.backed; thing = h.run.thing; waited = h.run.waited; reason = h.run.reason }

      by : (l : List Todo) → s.run.control ≡ l → StandsStep part source mine s (quiet.act_todo source l s)
      by [] e = steps.returned part source mine s h.run.base x _ s.callers (h.run.waited (subst (Ok part source h.run.base h.run.marks) e h.run.ok)) h.callers
      by (p ∷ todo) e = acts s h.run.base x h.run.marks h.run.holds p todo e (subst (Ok part source h.run.base h.run.marks) e h.run.ok)

module _ (part : ℕ → Part) (source : Source) (known : InnerSource part source) where
  -- a task begins at home in its own object
  begins : (o : ℕ) (p : Part) (r : Option Routine) → IsMainRoutine r → InnerRoutine part source p r → StandsState part source o (first_state (routine_or_none r) o)
  begins o p None m h = absurd m
  begins o p (Some r) m h = record {
    own = refl;
    run = record { base = alone (ground_of p); marks = []; holds = tt; ok = lists.routine part source (alone (ground_of p)) r (inr m) h; backed = λ i. refl; thing = λ i. (refl, λ e. absurd (cc)); waited = λ i. absurd (cc); reason = λ i. absurd (cc) };
    callers = tt;
    env = record { house = (tt, tt); hand = tt };
    here = refl;
  }

  pub first : (r o : ℕ) → IsMain source r → StandsState part source o (first_state (routine_of source r) o)
  first r o m = begins o (part r) (slice_get source.routines r) m (known r)

-- answers bring operands, and at most an object in which nothing is at home

module _ (part : ℕ → Part) (source : Source) (mine : ℕ) where
  more_hand : (hand : List (ℕ × Members)) (o : ℕ) (m : Members) → StandsParked part source (home.Object o) m.parked → StandsHand part source hand → StandsHand part source (hand ++ (o, m) ∷ [])
  more_hand [] o m h k = (h, tt)
  more_hand (p ∷ hand) o m h k = (k.0, more_hand hand o m h k.1)

  new_stands : (todo : List Todo) (o : ℕ) → StandsMembers part source (home.Object o) (new_members source todo)
  new_stands [] o = tt
  new_stands (piece.BindMadeNow c r ∷ todo) o = tt
  new_stands (p ∷ todo) o = tt

  -- the operand that is brought meets its mark
  brought : (m : Mark) (v : Value) (s : State) → StandsWith part source mine (m ∷ []) s → ((this : Value) → Meets s.env.exec.home this m v) → StandsState part source mine (with_operand v s)
  brought m v s w k = record {
    run = record { base = w.run.base; marks = m ∷ w.run.marks; holds = (k s.run.this, w.run.holds); ok = w.run.ok; backed = w.run.backed; thing = w.run.thing; waited = w.run.waited; reason = w.run.reason };
    callers = w.callers;
    env = w.env;
    own = w.own;
    here = w.here;
  }

  found : (m : Mark) (o : ℕ) (x : Option Members) (s : State) → StandsMembers part source (home.Object o) x → StandsWith part source mine (m ∷ []) s → StandsWith part source mine (m ∷ []) (entered x o s)
  found m o None s k w = w
  found m o (Some x) s k w = record { run = w.run; callers = w.callers; env = record { house = w.env.house; hand = more_hand s.env.hand o x k w.env.hand }; own = w.own; here = still s.env.exec.home w.here }
    where
      more : (q : ℕ) (ps : List (ℕ × Members)) → is_some (find q ps) ≡ true → is_some (find q (ps ++ (o, x) ∷ [])) ≡ true
      more q [] i = absurd (cc)
      more q (p ∷ ps) i = by (nat_eq p.0 q) i (λ j. more q ps j)
        where
          by : (b : Bool) → is_some (if b then Some p.1 else find q ps) ≡ true → (is_some (find q ps) ≡ true → is_some (find q (ps ++ (o, x) ∷ [])) ≡ true) → is_some (if b then Some p.1 else find q (ps ++ (o, x) ∷ [])) ≡ true
          by true j r = refl
          by false j r = r j

      still : (h : Home) → IsHere s.env.own s.env.hand h → IsHere s.env.own (s.env.hand ++ (o, x) ∷ []) h
      still (home.Task t) i = i
      still (home.Object q) i = more q s.env.hand i

  -- an object that is there is new, or nothing is known of it
  at_same : (m : Mark) (o : ℕ) (x : Option Members) (s : State) → ((this : Value) → Meets s.env.exec.home this m (piece.Object o)) → (this : Value) → Meets (entered x o s).env.exec.home this m (piece.Object o)
  at_same m o None s k this = k this
  at_same m o (Some x) s k this = k this

  an_object : (m : Mark) (o : ℕ) (s : State) → ((this : Value) → Meets s.env.exec.home this m (piece.Object o)) → StandsWith part source mine (m ∷ []) s → StandsState part source mine (answered source (answer.Object o) s)
  an_object m o s k w =
      brought m (piece.Object o) (entered (new_members source s.run.control) o s) (found m o (new_members source s.run.control) s (new_stands s.run.control o) w) (at_same m o (new_members source s.run.control) s k)

  any_object : (given : Answer) (s : State) → StandsWith part source mine (Any ∷ []) s → IsForm AnObject given → StandsState part source mine (answered source given s)
  any_object (answer.Object o) s w f = an_object Any o s (λ this. tt) w
  any_object given s w f = absurd f

  new_object : (c : ℕ) (given : Answer) (s : State) → IsElsewhere (ask.Make c) given s → StandsWith part source mine (Thing ∷ []) s → IsForm AnObject given → StandsState part source mine (answered source given s)
  new_object c (answer.Object o) s e w f = an_object Thing o s (λ this. (refl, e)) w
  new_object c given s e w f = absurd f

  a_clause : (given : Answer) (s : State) → StandsWith part source mine (Any ∷ (Any ∷ [])) s → IsForm AClause given → StandsState part source mine (answered source given s)
  a_clause (answer.Clause n failed) s w f = record {
    run = record { base = w.run.base; marks = Any ∷ (Any ∷ w.run.marks); holds = (tt, (tt, w.run.holds)); ok = w.run.ok; backed = w.run.backed; thing = w.run.thing; waited = w.run.waited; reason = w.run.reason };
    callers = w.callers;
    env = w.env;
    own = w.own;
    here = w.here;
  }
  a_clause given s w f = absurd f

  a_number : (given : Answer) (s : State) → StandsWith part source mine (Any ∷ []) s → IsForm ANumber given → StandsState part source mine (answered source given s)
  a_number (answer.Number n) s w f = brought Any _ s w (λ this. tt)
  a_number given s w f = absurd f

  a_value : (given : Answer) (s : State) → StandsWith part source mine (Any ∷ []) s → IsForm AValue given → StandsState part source mine (answered source given s)
  a_value (answer.Value n failed) s w f = brought Any _ s w (λ this. tt)
  a_value given s w f = absurd f

  three : (u v y : Value) (s : State) → StandsWith part source mine (Any ∷ (Any ∷ (Any ∷ []))) s → StandsState part source mine (with_operand u (with_operand v (with_operand y s)))
  three u v y s w = record {
    run = record { base = w.run.base; marks = Any ∷ (Any ∷ (Any ∷ w.run.marks)); holds = (tt, (tt, (tt, w.run.holds))); ok = w.run.ok; backed = w.run.backed; thing = w.run.thing; waited = w.run.waited; reason = w.run.reason };
    callers = w.callers;
    env = w.env;
    own = w.own;
    here = w.here;
  }

  an_event : (given : Answer) (s : State) → StandsWith part source mine (Any ∷ (Any ∷ (Any ∷ []))) s → IsForm AnEvent given → StandsState part source mine (answered source given s)
  an_event (answer.Event n i j) s w f = three _ _ _ s w
  an_event answer.Nothing s w f = three _ _ _ s w
  an_event given s w f = absurd f

  goes_on : (given : Answer) (s : State) → StandsState part source mine s → IsForm JustGo given → StandsState part source mine (answered source given s)
  goes_on answer.Go s w f = w
  goes_on given s w f = absurd f

  pub told : (r : Request) (given : Answer) (s : State) → StandsWith part source mine (brings r) s → IsForm (form_of_request r) given → IsElsewhere r given s → StandsState part source mine (answered source given s)
  told (ask.Make c) given s w f e = new_object c given s e w f
  told ask.Cluster given s w f e = any_object given s w f
  told (ask.Processor c) given s w f e = any_object given s w f
  told (ask.Accept o site mask) given s w f e = a_clause given s w f
  told (ask.Empty o c) given s w f e = a_number given s w f
  told (ask.Front o c) given s w f e = a_number given s w f
  told ask.Fail given s w f e = a_number given s w f
  told (ask.Read form) given s w f e = a_value given s w f
  told (ask.Poll events) given s w f e = an_event given s w f
  told r given s w f e = goes_on given s w f

pub law_steps : LawSteps
law_steps = record { begins = first; steps = λ part source known mine s h. walk part source mine known s h; told = told }

-- a new object finds its place

module _ (part : ℕ → Part) (source : Source) (mine : ℕ) (s : State) (h : StandsState part source mine s) where
  params_same : (r : ℕ) → params part source r ≡ (routine_of source r).params
  params_same r = by (slice_get source.routines r)
    where
      by : (o : Option Routine) → params_at o ≡ (routine_or_none o).params
      by None = refl
      by (Some r) = refl

  fair : (l : List Todo) → s.run.control ≡ l → SoleAt source l s → FairAt source l s
  fair (piece.BindMadeNow c r ∷ todo) e a =
      let ok : Ok part source h.run.base h.run.marks (piece.BindMadeNow c r ∷ todo) = subst (Ok part source h.run.base h.run.marks) e h.run.ok in
      let l = there_long s.env.exec.home s.run.this (params part source r) (rest h.run.marks) (below s.run.operands) ok.0.1 (holds_below s.env.exec.home s.run.this h.run.marks s.run.operands h.run.holds) in
      let n = params_same r in
      omega (arith, l, n)
  fair [] e a = a
  fair (p ∷ todo) e a = a

pub law_makes : LawMakes
law_makes part source mine s h c r todo e =
    let ok : Ok part source h.run.base h.run.marks (MakeNow c r ∷ todo) = subst (Ok part source h.run.base h.run.marks) e h.run.ok in
    (ok.0.2, ok.0.3, there_long s.env.exec.home s.run.this (params part source r) h.run.marks s.run.operands ok.0.0 h.run.holds)

-- who waits is inside

module _ (h : Home) (o : ℕ) where
  -- a mark of an object
  record Marked (cs : List Active) : Type 0 where
    at : ℕ
    active : Active
    there : slice_get cs at ≡ Some active
    this : object_in active.this ≡ o
    marked : 0 < marks active.control

  backing : (cs : List Active) → Backs h o cs → IsHome h o ⊎ Marked cs
  backing [] b = inl b
  backing (a ∷ cs) (inl m) = inr (record { at = 0; active = a; there = refl; this = m.0; marked = m.1 })
  backing (a ∷ cs) (inr b) = further (backing cs b)
    where
      further : IsHome h o ⊎ Marked cs → IsHome h o ⊎ Marked (a ∷ cs)
      further (inl i) = inl i
      further (inr m) = inr (record { at = suc m.at; active = m.active; there = m.there; this = m.this; marked = m.marked })

module _ (part : ℕ → Part) (source : Source) (mine : ℕ) (s : State) (h : StandsState part source mine s) (news : Tests) (deep : Deep source news s) where
  -- by a mark, or at home in it
  is_inside : (o : ℕ) → Backs s.env.exec.home o (s.run ∷ s.callers) → IsInside o s.env ⊎ ((s.env.exec.home ≡ home.Object o) × (is_some (find o s.env.hand) ≡ true))
  is_inside o b = by (backing s.env.exec.home o (s.run ∷ s.callers) b)
    where
      in_home : (k : Home) → IsHere s.env.own s.env.hand k → IsHome k o → IsInside o s.env ⊎ ((k ≡ home.Object o) × (is_some (find o s.env.hand) ≡ true))
      in_home (home.Task t) e i = inl (subst (λ q. IsInside q s.env) (sym e ∙ i) (law_inside.own source news s deep))
      in_home (home.Object q) e i = inr (ap home.Object i, subst (λ k. is_some (find k s.env.hand) ≡ true) i e)

      by : IsHome s.env.exec.home o ⊎ Marked s.env.exec.home o (s.run ∷ s.callers) → IsInside o s.env ⊎ ((s.env.exec.home ≡ home.Object o) × (is_some (find o s.env.hand) ≡ true))
      by (inl i) = in_home s.env.exec.home h.here i
      by (inr m) = inl (subst (λ q. IsInside q s.env) m.this (law_inside.marked source news s deep m.at m.active m.there m.marked))

  in_hand : (t : State) → ((q : ℕ) → is_some (find q s.env.hand) ≡ true → is_some (find q t.env.hand) ≡ true) → (o : ℕ) → Backs s.env.exec.home o (s.run ∷ s.callers) → IsInside o s.env ⊎ (is_some (find o t.env.hand) ≡ true)
  in_hand t k o b = by (is_inside o b)
    where
      by : IsInside o s.env ⊎ ((s.env.exec.home ≡ home.Object o) × (is_some (find o s.env.hand) ≡ true)) → IsInside o s.env ⊎ (is_some (find o t.env.hand) ≡ true)
      by (inl i) = inl i
      by (inr e) = inr (k o e.1)

  -- where nothing holds it up, it is not at home there
  is_let : (o : ℕ) → Backs s.env.exec.home o (s.run ∷ s.callers) → is_held_up o s.env ≡ false → IsInside o s.env
  is_let o b u = by (is_inside o b)
    where
      elsewhere : s.env.exec.home ≡ home.Object o → IsInside o s.env
      elsewhere e =
          let here : home_eq s.env.exec.home (home.Object o) ≡ true = ap (λ k. home_eq k (home.Object o)) e ∙ eq-eqb o o refl in
          let held : is_held_up o s.env ≡ true = ap (λ b. b || has_engaged (find o s.env.hand)) here in
          absurd (cc)

      by : IsInside o s.env ⊎ ((s.env.exec.home ≡ home.Object o) × (is_some (find o s.env.hand) ≡ true)) → IsInside o s.env
      by (inl i) = i
      by (inr e) = elsewhere e.0

  asked : (t : State) → t.env.exec ≡ s.env.exec → ((q : ℕ) → is_some (find q s.env.hand) ≡ true → is_some (find q t.env.hand) ≡ true) → (r : Request) → StandsIn r s → StandsAsk part source mine r t → IsAt r s t
  asked t x k (ask.Wait o c n) i v = is_let o i.0 i.1
  asked t x k (ask.SignalBlock o c) i v = is_let o i.0 i.1
  asked t x k (ask.Accept o site mask) i v = is_let o i.0 i.1
  asked t x k (ask.Signal o c) i v = in_hand t k o i
  asked t x k (ask.Empty o c) i v = in_hand t k o i
  asked t x k (ask.Front o c) i v = in_hand t k o i
  asked t x k (ask.Gone o) i v = λ g q. i g (sym (ap (λ (n : Exec). n.home) x) ∙ q)
  asked t x k ask.End i v = subst (λ o. is_held_up o t.env ≡ false) (sym h.own) v.1
  asked t x k r i v = tt

pub law_is_inside : LawInside
law_is_inside part source known mine news s h deep r t e =
    let a : StandsAsking part source mine s r t = subst (StandsStep part source mine s) e (walk part source mine known s h) in
    asked part source mine s h news deep t a.exec a.hand r a.inside a.state

pub law_fair : LawFair
law_fair part source mine s h a = fair part source mine s h s.run.control refl a
