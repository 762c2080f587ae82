-- Every quiet step of a task in which constructors have bound what they do not bind any more, and answers to it.
use Rattle.std.proofs.Common.{◌≡◌, ℕ, Bool, true, false, List, [], ◌∷◌, length, inl, inr, Option, Some, None, refl, sym, subst}
use Rattle.std.specs.Prelude.{nat_lt, slice_get, drop, if◌then◌else◌}
use Rattle.uc_tree.specs.Programs.{Program}
use Rattle.uc_tree.specs.Source as src
use Rattle.uc_tree.specs.Source.{Source, Stmt, Stmts, Routine, routine_of}
use Rattle.uc_entry.specs.declared.request.Answer.{Answer}
use Rattle.uc_entry.specs.declared.request.Answer.TheVariants as answer
use Rattle.uc_machine.specs.declared.exec.Owner.TheVariants.{Frame}
use Rattle.uc_machine.specs.Executions.{take_operands}
use Rattle.uc_machine.specs.Raising as raising
use Rattle.uc_machine.specs.Monitors as monitors
use Rattle.uc_machine.specs.Quiet as quiet
use Rattle.uc_machine.specs.Quiet.{first_state}
use Rattle.uc_machine.specs.Pieces as piece
use Rattle.uc_machine.specs.Pieces.{Value, Number, Todo, State, Members, Step, Goes, Ticks, Asks, at, top, below, number, is_zero}
use Rattle.uc_machine.specs.Answering.{answered, entered, new_members}
use Rattle.uc_typing.specs.Typing.{Ty, Obj, Sig, Table}
use Rattle.uc_life_laws.specs.LifeStates.{frame_at}
use Rattle.uc_life_laws.specs.Kinds.{GoesOn}
use Rattle.uc_life_laws.specs.LifeRuns.{IsLaidOut}
use Rattle.uc_state_laws.specs.Layout.{Sized}
use Rattle.uc_state_laws.specs.RoomStacks.{StackState}
use Rattle.uc_state_laws.specs.Counted.{params_at}
use Rattle.uc_place_laws.specs.Opened.{OpensNone, BuildsOf, BuildsNone}
use Rattle.uc_place_laws.specs.OpeningLaws.{NoneAwaited, TailAt}
use Rattle.uc_place_laws.specs.Calling.{Calling}
use Rattle.uc_place_laws.specs.Sparing.{Spares, SparesAt}
use Rattle.uc_place_laws.proofs.OpeningMarks.{builds_any}
use Rattle.uc_building_laws.specs.Building.{InHead, Now}
use Rattle.uc_building_laws.specs.Anew.{OnWay, IsAnew}
use Rattle.uc_building_laws.specs.BuildingStates.{variable, of_run, of_wait, BuildsBy, BuildsState, BuildsRest, BuildsStep}
use Rattle.uc_building_laws.specs.BuildingLaws.{BuildsAt, ClearsAt, Clears, Fair, AreAddressed, IsSpanned, LawSteps}
use Rattle.uc_building_laws.proofs.Building as building
use Rattle.uc_building_laws.proofs.Keeping as kept
use Rattle.uc_building_laws.proofs.Steps as steps
use Rattle.uc_building_laws.proofs.Steps.{StepBuilds}
use Rattle.uc_building_laws.proofs.Making as making
use Rattle.uc_building_laws.proofs.Clears as clearing
use Rattle.uc_building_laws.proofs.Standing as standing
use Rattle.uc_building_laws.proofs.Starting as starting
use Rattle.uc_building_laws.proofs.Anew.{any_awaited, any_rest, behind_calling, way_rest}
use Rattle.uc_building_laws.proofs.Plain.{none_plain}
use Rattle.uc_life_laws.specs.Things.{Few, LiesBefore}
use Rattle.uc_building_laws.proofs.Laid.{lying}
use Rattle.uc_building_laws.proofs.Building.{Lying}

module _ (g : Program) (t : Table) (heads : ℕ → ℕ → Bool) (few : Few) (kinds : List Sig) (source : Source) (Z : ℕ → ℕ → Type 0) (s : State) (life : StackState Z s) (st : BuildsBy t heads few kinds (of_run t heads s.run) s) (laid : IsLaidOut Z t) (short : AreAddressed s) (lies : Lying t heads few kinds s.env.exec (λ g k i. LiesBefore t (length (frame_at g s.env.frames)) (Frame s.env.exec g) (variable s.env.exec g k) (Obj i)) s.callers) where
  abbrev Holding : List Todo → Type 0
  Holding todo = steps.Holding t heads few kinds Z s life st.callers st.anew.1 todo

  abbrev Nothing_left : Type 0
  Nothing_left = steps.Nothing_left t heads few kinds Z s life st.callers st.anew.1

  abbrev Anew : ℕ → ℕ → Type 0
  Anew d k = steps.Anew t heads few kinds Z s life st.callers st.anew.1 d k

  -- what is left as this is to do
  abbrev Before : List Todo → Type 0
  Before l = Calling Anew l × steps.With t heads few kinds Z s life st.callers st.anew.1 (λ ps c i w K. Now t heads ps c i w K l s.run.operands)

  go : (todo : List Todo) (vs : List Value) → Holding todo → BuildsBy t heads few kinds (of_run t heads (at todo vs s).run) (at todo vs s)
  go = steps.go t heads few kinds Z s life st.callers st.anew.1

  stays : (todo : List Todo) (vs : List Value) → Holding todo → BuildsBy t heads few kinds of_wait (at todo vs s)
  stays = steps.stays t heads few kinds Z s life st.callers st.anew.1

  -- as it stands, where nothing is evaluated
  stay : Nothing_left → BuildsBy t heads few kinds of_wait s
  stay h = record { anew = st.anew; run = h; callers = st.callers }

  -- the statements that are left of a block
  then_do : (ps : List Ty) (c i : ℕ) (w : Value) (K : Ty → Value → Type 0) (a : Stmt) (ss : Stmts) (todo : List Todo) → InHead t heads ps c i (src.Then a ss) → Now t heads ps c i w K (piece.Do a ∷ (piece.Rest ss ∷ todo)) s.run.operands
  then_do ps c i w K a ss todo (inl h) = inl h
  then_do ps c i w K a ss todo (inr h) = inr h

  rests : (ss : Stmts) (todo : List Todo) → BuildsOf Anew ss → Before (piece.Rest ss ∷ todo) → StepBuilds t heads few kinds (quiet.rest_step ss todo s)
  rests src.Nil todo way h = go _ _ h
  rests (src.Then a ss) todo way h = steps.go_now t heads few kinds Z s life st.callers st.anew.1 _ _ (way_rest Anew a ss todo way, h.0) (steps.more t heads few kinds Z s life st.callers st.anew.1 (λ ps c i w K. Now t heads ps c i w K (piece.Rest (src.Then a ss) ∷ todo) s.run.operands) (λ ps c i w K. Now t heads ps c i w K (piece.Do a ∷ (piece.Rest ss ∷ todo)) s.run.operands) (λ ps c i w K x. then_do ps c i w K a ss todo x) h.1)
  rests (src.Scoped c ss) todo way h = go _ _ h
  rests (src.Built c ss) todo way h = making.later t heads few kinds Z s life st.callers st.anew.1 _ _ h.0 h.1

  -- an expression
  evals : (a : src.Expr) (todo : List Todo) → NoneAwaited (piece.DropNow ∷ todo) → Before (piece.Eval a ∷ todo) → StepBuilds t heads few kinds (quiet.eval_step a todo s)
  evals (src.Literal n) todo b h = making.literal t heads few kinds Z s life st.callers st.anew.1 n todo h.0.1 h.1
  evals (src.Get k) todo b h = making.get t heads few kinds Z s life st.callers st.anew.1 k todo h.0.1 h.1
  evals (src.Assign x a) todo b h = making.assign t heads few kinds Z s life st.callers st.anew.1 x a todo h.0.1 h.1
  evals (src.OfObject (src.OwnField k j)) todo b h = making.own t heads few kinds Z s life st.callers st.anew.1 k j todo h.0.1 h.1
  evals (src.OfObject (src.GetOwn k j)) todo b h = making.value t heads few kinds Z s life st.callers st.anew.1 k j todo h.0.1 h.1
  evals (src.OfObject (src.FieldOf k j a)) todo b h = making.field_of t heads few kinds Z s life st.callers st.anew.1 k j a todo h.0.1 h.1
  evals (src.OfObject (src.Bind x a)) todo b h = making.bind_to t heads few kinds Z s life st.callers st.anew.1 x a todo h.0.1 h.1
  evals (src.Variable k) todo b h = making.still t heads few kinds Z s life st.callers st.anew.1 todo h.0.1 (src.Variable k) tt b h.1
  evals (src.Element m k a i) todo b h = making.still t heads few kinds Z s life st.callers st.anew.1 todo h.0.1 (src.Element m k a i) tt b h.1
  evals (src.Load a) todo b h = making.still t heads few kinds Z s life st.callers st.anew.1 todo h.0.1 (src.Load a) tt b h.1
  evals (src.Negated a) todo b h = making.still t heads few kinds Z s life st.callers st.anew.1 todo h.0.1 (src.Negated a) tt b h.1
  evals (src.Not a) todo b h = making.still t heads few kinds Z s life st.callers st.anew.1 todo h.0.1 (src.Not a) tt b h.1
  evals (src.AsCharacter a) todo b h = making.still t heads few kinds Z s life st.callers st.anew.1 todo h.0.1 (src.AsCharacter a) tt b h.1
  evals (src.AsTruth a) todo b h = making.still t heads few kinds Z s life st.callers st.anew.1 todo h.0.1 (src.AsTruth a) tt b h.1
  evals (src.Operate op a c) todo b h = making.still t heads few kinds Z s life st.callers st.anew.1 todo h.0.1 (src.Operate op a c) tt b h.1
  evals (src.And a c) todo b h = making.still t heads few kinds Z s life st.callers st.anew.1 todo h.0.1 (src.And a c) tt b h.1
  evals (src.Or a c) todo b h = making.still t heads few kinds Z s life st.callers st.anew.1 todo h.0.1 (src.Or a c) tt b h.1
  evals (src.OfObject src.This) todo b h = making.still t heads few kinds Z s life st.callers st.anew.1 todo h.0.1 (src.OfObject src.This) tt b h.1
  evals (src.OfObject src.Counted) todo b h = making.still t heads few kinds Z s life st.callers st.anew.1 todo h.0.1 (src.OfObject src.Counted) tt b h.1
  evals (src.OfObject y) todo b h = steps.eval t heads few kinds Z s life st.callers st.anew.1 todo h.0.0 h.0.1 b (src.OfObject y) tt h.1
  evals a todo b h = steps.eval t heads few kinds Z s life st.callers st.anew.1 todo h.0.0 h.0.1 b a tt h.1

  -- one piece, with what is to do behind it
  again : (z : Bool) (order : src.Order) (c : src.Expr) (step : Option src.Expr) (body : Stmt) (todo : List Todo) → Calling Anew todo → Calling Anew (if z then todo else piece.TurnNow order c step body ∷ todo)
  again true order c step body todo h = h
  again false order c step body todo h = h

  acts : (p : Todo) (todo : List Todo) → s.run.control ≡ p ∷ todo → GoesOn (p ∷ todo) s.run.raised → BuildsAt t heads few kinds source s (p ∷ todo) → ClearsAt t (p ∷ todo) s → TailAt g (p ∷ todo) → SparesAt Z source (p ∷ todo) s → OnWay Anew (p ∷ todo) → Before (p ∷ todo) → StepBuilds t heads few kinds (quiet.act source p todo s)
  acts (piece.Eval a) todo e calm f l b x y h = evals a todo b.1 h
  acts piece.LoadNow todo e calm f l b x y h = making.passed t heads few kinds Z s life st.callers st.anew.1 todo h.0 _ h.1
  acts piece.NotNow todo e calm f l b x y h = making.passed t heads few kinds Z s life st.callers st.anew.1 todo h.0 _ h.1
  acts piece.CharacterNow todo e calm f l b x y h = making.passed t heads few kinds Z s life st.callers st.anew.1 todo h.0 _ h.1
  acts piece.TruthNow todo e calm f l b x y h = making.passed t heads few kinds Z s life st.callers st.anew.1 todo h.0 _ h.1
  acts (piece.ElementNow m k) todo e calm f l b x y h = making.element_at t heads few kinds Z s life st.callers st.anew.1 todo h.0 k _ _ _ h.1
  acts piece.NegateNow todo e calm f l b x y h = making.reckoned t heads few kinds Z s life st.callers st.anew.1 todo h.0 _ _ h.1
  acts (piece.OperateNow op) todo e calm f l b x y h = making.reckoned t heads few kinds Z s life st.callers st.anew.1 todo h.0 _ _ h.1
  acts piece.StoreNow todo e calm f l b x y h = steps.go_in t heads few kinds Z s life st.callers st.anew.1 _ _ _ (kept.number_keeps (top (below s.run.operands)) (number (top s.run.operands)) s.env) h
  acts piece.KeepNow todo e calm f l b x y h = making.writes t heads few kinds Z s life st.callers st.anew.1 todo _ (top (below s.run.operands)) (number (top s.run.operands)) h.0 h.1
  acts (piece.SetNow k) todo e calm f l b x y h = steps.go_in t heads few kinds Z s life st.callers st.anew.1 _ _ _ (kept.number_keeps (piece.variable_at k s) (number (top s.run.operands)) s.env) h
  acts (piece.FieldNow k j) todo e calm f l b x y h = making.field_now t heads few kinds Z s life st.callers st.anew.1 k j todo h.0 h.1
  acts piece.BindNow todo e calm f l b x y h = making.bind_now t heads few kinds Z s life st.callers st.anew.1 laid short todo _ x lies h.0 h.1
  acts (piece.Branch a c) todo e calm f l b x y h = go _ _ ((any_rest Anew todo b.1, h.0), h.1)
  acts (piece.Choose a c) todo e calm f l b x y h = making.chooses t heads few kinds Z s life st.callers st.anew.1 todo h.0 (any_awaited Anew todo b.0) (is_zero (number (top s.run.operands))) a c _ h.1
  acts piece.DropNow todo e calm f l b x y h = making.later t heads few kinds Z s life st.callers st.anew.1 todo _ h.0 h.1
  acts (piece.Within line) todo e calm f l b x y h = making.later t heads few kinds Z s life st.callers st.anew.1 todo _ h.0 h.1
  acts (piece.Arguments src.NoExprs) todo e calm f l b x y h = go _ _ h
  acts (piece.Arguments (src.MoreExprs a es)) todo e calm f l b x y h = go _ _ ((tt, h.0), h.1)
  acts (piece.CallNow r) todo e calm f l b x y h = making.call t heads few kinds Z s life st.callers st.anew.1 (slice_get source.routines r) todo f h
  acts (piece.CallOnNow r) todo e calm f l b x y h = making.call_on t heads few kinds Z s life st.callers st.anew.1 source r todo (h.0.1, h.1) h.0.0 f (slice_get source.routines r) refl
  acts (piece.CallUnwrittenNow r) todo e calm f l b x y h = making.call_unwritten t heads few kinds Z s life st.callers st.anew.1 source r todo (h.0.1, h.1) h.0.0 f (slice_get source.routines r) refl
  acts (piece.CountNow m) todo e calm f l b x y h = record { anew = (h.0, st.anew.1); run = steps.lost t heads few kinds Z s life st.callers st.anew.1 (λ ps c i w K. Now t heads ps c i w K todo s.run.operands) h.1; callers = st.callers }
  acts piece.MoreNow todo e calm f l b x y h = record { anew = (h.0, st.anew.1); run = steps.lost t heads few kinds Z s life st.callers st.anew.1 (λ ps c i w K. Now t heads ps c i w K todo s.run.operands) h.1; callers = st.callers }
  acts (piece.FillNow m a d) todo e calm f l b x y h = go _ _ (steps.filled t heads few kinds Z s life st.callers st.anew.1 (nat_lt s.run.elements m) m a d todo h)
  acts (piece.TurnNow o c step body) todo e calm f l b x y h = stays _ _ ((tt, h.0), h.1)
  acts piece.TickNow todo e calm f l b x y h = stays _ _ h
  acts (piece.Again order c step body) todo e calm f l b x y h = go _ _ (again (is_zero (number (top s.run.operands))) order c step body todo h.0, h.1)
  acts (piece.PrintNow form) todo e calm f l b x y h = steps.prints t heads few kinds Z s life st.callers st.anew.1 s.env.gathered _ todo _ h
  acts (piece.TextNow k) todo e calm f l b x y h = steps.prints t heads few kinds Z s life st.callers st.anew.1 s.env.gathered _ todo _ h
  acts piece.GatherNow todo e calm f l b x y h = steps.go_in t heads few kinds Z s life st.callers st.anew.1 _ _ _ (steps.same t heads few kinds Z s life st.callers st.anew.1 refl refl) h
  acts piece.FlushNow todo e calm f l b x y h = steps.flushes t heads few kinds Z s life st.callers st.anew.1 s.env.gathered todo _ h
  acts (piece.ReadNow form) todo e calm f l b x y h = stays _ _ h
  acts (piece.ClearNow k m) todo e calm f l b x y h = clearing.clears t heads few kinds s k m todo l (h.0, st.anew.1) h.1 st.callers
  acts (piece.Items []) todo e calm f l b x y h = go _ _ h
  acts (piece.Items (i ∷ is)) todo e calm f l b x y h = go _ _ (steps.item t heads few kinds Z s life st.callers st.anew.1 i (piece.Items is ∷ todo) h)
  acts (piece.Values []) todo e calm f l b x y h = go _ _ h
  acts (piece.Values (i ∷ is)) todo e calm f l b x y h = go _ _ (steps.item_value t heads few kinds Z s life st.callers st.anew.1 i is todo h)
  acts (piece.Pieces []) todo e calm f l b x y h = go _ _ h
  acts (piece.Pieces (i ∷ is)) todo e calm f l b x y h = go _ _ (steps.item_piece t heads few kinds Z s life st.callers st.anew.1 i todo h)
  acts (piece.Targets []) todo e calm f l b x y h = go _ _ h
  acts (piece.Targets (z ∷ zs)) todo e calm f l b x y h = go _ _ ((tt, h.0), h.1)
  acts (piece.Variables []) todo e calm f l b x y h = go _ _ h
  acts (piece.Variables (d ∷ ds)) todo e calm f l b x y h = go _ _ (steps.starts t heads few kinds Z s life st.callers st.anew.1 d.cell d.value (piece.Variables ds ∷ todo) h)
  acts (piece.Do a) todo e calm f l b x y h = steps.stmt t heads few kinds Z s life st.callers st.anew.1 a todo h.0.0 h.0.1 h.1
  acts (piece.Rest ss) todo e calm f l b x y h = rests ss todo y h
  acts (piece.Exit w) todo e calm f l b x y h = steps.exits t heads few kinds Z s life st.callers st.anew.1 (stay h.1) w todo h
  acts piece.NoReturnNow todo e calm f l b x y h = tt
  acts (piece.InLoop order c step body) todo e calm f l b x y h = go _ _ (steps.turns t heads few kinds Z s life st.callers st.anew.1 step order c body todo h)
  acts piece.InWhole todo e calm f l b x y h = go _ _ h
  acts (piece.Clean z) todo e calm f l b x y h = go _ _ (steps.cleans t heads few kinds Z s life st.callers st.anew.1 z todo (any_awaited Anew (piece.DropNow ∷ todo) b.2) h)
  acts (piece.Sweep a) todo e calm f l b x y h = steps.swept t heads few kinds Z s life st.callers st.anew.1 s.run.elements a todo h
  acts (piece.Part z) todo e calm f l b x y h = go _ _ h
  acts (piece.Guard hs) todo e calm f l b x y h = go _ _ h
  acts piece.Unwind todo e calm f l b x y h = steps.unwinds t heads few kinds Z s life st.callers st.anew.1 (stay h.1) todo calm h
  acts piece.ThrowNow todo e calm f l b x y h = steps.throws t heads few kinds Z s life st.callers st.anew.1 (raising.event_in s.run.operands) todo h
  acts piece.RaiseNow todo e calm f l b x y h = making.raises t heads few kinds Z s life st.callers st.anew.1 (raising.event_in s.run.operands) todo f h
  acts (piece.SetUpNow r) todo e calm f l b x y h = making.set_up t heads few kinds Z s life st.callers st.anew.1 laid short (slice_get source.routines r) todo x h.0 h.1
  acts piece.EnlivenNow todo e calm f l b x y h = steps.go_in t heads few kinds Z s life st.callers st.anew.1 _ _ _ (kept.enlivened_keeps (piece.own_exec s) s.env) h
  acts piece.TakeDownNow todo e calm f l b x y h = absurd calm
  acts piece.ForgetNow todo e calm f l b x y h = steps.go_in t heads few kinds Z s life st.callers st.anew.1 _ _ _ (kept.forgotten_keeps (piece.own_exec s) s.env) h
  acts (piece.LiveNow r) todo e calm f l b x y h = steps.live t heads few kinds Z s life st.callers st.anew.1 (slice_get source.routines r) todo h
  acts piece.ResumeNow todo e calm f l b x y h = absurd calm
  acts piece.SuspendNow todo e calm f l b x y h = absurd calm
  acts piece.Land todo e calm f l b x y h = steps.land t heads few kinds Z s life st.callers st.anew.1 s.run.raised todo h
  acts (piece.EnterNow m r) todo e calm f l b x y h = steps.enter t heads few kinds Z s life st.callers st.anew.1 m (slice_get source.routines r) todo h
  acts piece.LeaveNow todo e calm f l b x y h = steps.leave t heads few kinds Z s life st.callers st.anew.1 _ (monitors.this_object s) todo h
  acts (piece.MakeNow k r) todo e calm f l b x y h = steps.make t heads few kinds Z s life st.callers st.anew.1 k r (slice_get source.routines r) todo h
  acts (piece.BindMadeNow k r) todo e calm f l b x y h = making.bind t heads few kinds Z s life st.callers st.anew.1 laid short (slice_get source.routines r) todo (λ q is. subst (λ o. Spares Z s.env.exec (record s.run { control = todo } ∷ s.callers) (top (drop (params_at o) (below s.run.operands)))) is x) h
  acts piece.MadeNow todo e calm f l b x y h = steps.unless t heads few kinds Z s life st.callers st.anew.1 (monitors.this_object s) _ todo h (steps.stays_in t heads few kinds Z s life st.callers st.anew.1 _ _ _ (steps.same t heads few kinds Z s life st.callers st.anew.1 refl refl) h)
  acts (piece.SpawnNow r) todo e calm f l b x y h = steps.unless t heads few kinds Z s life st.callers st.anew.1 (monitors.this_object s) _ (piece.ChildNow r ∷ todo) h (steps.stays_in t heads few kinds Z s life st.callers st.anew.1 _ _ _ (steps.same t heads few kinds Z s life st.callers st.anew.1 refl refl) h)
  acts piece.GoneNow todo e calm f l b x y h = steps.stays_in t heads few kinds Z s life st.callers st.anew.1 _ _ _ (steps.same t heads few kinds Z s life st.callers st.anew.1 refl refl) h
  acts piece.GiveUpNow todo e calm f l b x y h = steps.stays_in t heads few kinds Z s life st.callers st.anew.1 _ _ _ (steps.same t heads few kinds Z s life st.callers st.anew.1 refl refl) h
  acts piece.ClusterNow todo e calm f l b x y h = stays _ _ h
  acts piece.ProcessorNow todo e calm f l b x y h = stays _ _ h
  acts piece.ClusterEndNow todo e calm f l b x y h = stays _ _ h
  acts piece.ProcessorEndNow todo e calm f l b x y h = stays _ _ h
  acts (piece.ConditionNow k m) todo e calm f l b x y h = steps.condition t heads few kinds Z s life st.callers st.anew.1 k _ todo h
  acts piece.WaitNow todo e calm f l b x y h = steps.unless t heads few kinds Z s life st.callers st.anew.1 (monitors.this_object s) _ todo h (stays _ _ h)
  acts piece.SignalNow todo e calm f l b x y h = stays _ _ h
  acts piece.SignalBlockNow todo e calm f l b x y h = steps.unless t heads few kinds Z s life st.callers st.anew.1 (monitors.this_object s) _ todo h (stays _ _ h)
  acts piece.EmptyNow todo e calm f l b x y h = stays _ _ h
  acts piece.FrontNow todo e calm f l b x y h = stays _ _ h
  acts piece.YieldNow todo e calm f l b x y h = stays _ _ h
  acts piece.MigrateNow todo e calm f l b x y h = stays _ _ h
  acts (piece.Guards src.NoClauses) todo e calm f l b x y h = go _ _ h
  acts (piece.Guards (src.Otherwise z)) todo e calm f l b x y h = go _ _ h
  acts (piece.Guards (src.MoreClauses guard z cs)) todo e calm f l b x y h = go _ _ ((tt, h.0), h.1)
  acts (piece.AcceptNow site m) todo e calm f l b x y h = steps.accept_by t heads few kinds Z s life st.callers st.anew.1 (monitors.mask_of (take_operands piece.Nothing m s.run.operands [])) (monitors.this_object s) site todo (drop m s.run.operands) h
  acts piece.FailedNow todo e calm f l b x y h = steps.failed t heads few kinds Z s life st.callers st.anew.1 _ todo _ h
  acts (piece.ChooseNow cs) todo e calm f l b x y h = go _ _ (steps.branch t heads few kinds Z s life st.callers st.anew.1 (piece.as_number (number (top s.run.operands))) cs todo (any_rest Anew todo b.1) h.0, h.1)
  acts piece.RaiseAtNow todo e calm f l b x y h = steps.raise_at t heads few kinds Z s life st.callers st.anew.1 (top s.run.operands) (raising.event_in (below s.run.operands)) todo (drop 4 s.run.operands) h
  acts (piece.EnableNow events cell) todo e calm f l b x y h = steps.enables t heads few kinds Z s life st.callers st.anew.1 _ cell todo h
  acts (piece.DisableNow events cell) todo e calm f l b x y h = steps.enables t heads few kinds Z s life st.callers st.anew.1 _ cell todo h
  acts (piece.RestoreNow cell) todo e calm f l b x y h = steps.go_in t heads few kinds Z s life st.callers st.anew.1 _ _ _ (steps.same t heads few kinds Z s life st.callers st.anew.1 refl refl) h
  acts piece.PollNow todo e calm f l b x y h = steps.poll t heads few kinds Z s life st.callers st.anew.1 todo h
  acts piece.DeliverNow todo e calm f l b x y h = steps.deliver t heads few kinds Z s life st.callers st.anew.1 _ todo h
  acts piece.Finish todo e calm f l b x y h = steps.unless t heads few kinds Z s life st.callers st.anew.1 s.env.own _ todo h (steps.returned t heads few kinds Z s life st.callers st.anew.1 (stay h.1) _ s.callers life.frames life.stack.1 st.callers st.anew.1)
  acts piece.FinishCoroutine todo e calm f l b x y h = absurd calm
  acts p todo e calm f l b x y h = go _ _ h

  pub walk : GoesOn s.run.control s.run.raised → Clears t s → Fair t heads few kinds source s g → SparesAt Z source s.run.control s → OnWay Anew s.run.control → StepBuilds t heads few kinds (quiet.quiet source s)
  walk calm clears fair spares way = by s.run.control refl
    where
      by : (l : List Todo) → s.run.control ≡ l → StepBuilds t heads few kinds (quiet.act_todo source l s)
      by [] e = steps.returned t heads few kinds Z s life st.callers st.anew.1 (stay (subst (λ l. steps.With t heads few kinds Z s life st.callers st.anew.1 (λ ps c i w K. Now t heads ps c i w K l s.run.operands)) e st.run)) _ s.callers life.frames life.stack.1 st.callers st.anew.1
      by (p ∷ todo) e = acts p todo e (subst (λ l. GoesOn l s.run.raised) e calm) (subst (BuildsAt t heads few kinds source s) e fair.at) (subst (λ l. ClearsAt t l s) e clears) (subst (TailAt g) e fair.tails) (subst (λ l. SparesAt Z source l s) e spares) (subst (OnWay Anew) e way) (subst Before e (st.anew.0, st.run))

-- all of a step

module _ (t : Table) (heads : ℕ → ℕ → Bool) (few : Few) (kinds : List Sig) where
  module _ (g : Program) (source : Source) (s : State) (laid : IsLaidOut (Sized g) t) (spanned : IsSpanned g t) (life : StackState (Sized g) s) (st : BuildsState t heads few kinds s) (fair : Fair t heads few kinds source s g) where
    both : (step : Step) → StepBuilds t heads few kinds step → standing.StepStands t heads few kinds source (Sized g) s life st step → starting.StepStarts t heads few kinds g source s laid spanned fair.addresses st.starts step → BuildsStep t heads few kinds step
    both (Goes u) b h k = record { builds = b; stands = h; starts = k }
    both (Ticks u) b h k = record { builds = b; stands = h; starts = k }
    both (Asks r u) b h k = record { builds = b; stands = h; starts = k }

    steps_to : GoesOn s.run.control s.run.raised → Clears t s → BuildsStep t heads few kinds (quiet.quiet source s)
    steps_to calm clears =
        both (quiet.quiet source s) (walk g t heads few kinds source (Sized g) s life st.builds laid fair.addresses (lying (Sized g) t laid heads few kinds s.env.exec s.env.frames s.callers life.stack.1) calm clears fair fair.spares st.starts) (standing.stands t heads few kinds source (Sized g) s life st (quiet.quiet source s) refl fair.joins) (starting.starts t heads few kinds g source s laid spanned fair.addresses st.starts (quiet.quiet source s) refl fair.follows)

  -- a task begins
  begun : (r : Routine) (o : ℕ) (body : Stmts) → OpensNone body → BuildsNone body → r.body ≡ body → BuildsRest t heads few kinds (first_state r o)
  begun r o body j k e = record {
    builds = record { anew = (behind_calling (IsAnew t heads (first_state r o).env.frames (first_state r o).run.frame) r.purpose r.line, tt); run = tt; callers = tt };
    stands = subst (λ (ss : Stmts). standing.StandsOf t heads few kinds (first_state r o) (piece.Rest ss ∷ quiet.behind_body r.purpose r.line)) (sym e) (by body j);
    starts = builds_any (IsAnew t heads (first_state r o).env.frames (first_state r o).run.frame) r.body (subst BuildsNone (sym e) k);
  }
    where
      by : (ss : Stmts) → OpensNone ss → standing.StandsOf t heads few kinds (first_state r o) (piece.Rest ss ∷ quiet.behind_body r.purpose r.line)
      by (src.Scoped c ss) h = λ k i d. absurd (none_plain t c h (k, i, d))
      by ss h = tt

  -- an answer

  -- with other operands
  with_operands : (s : State) (vs : List Value) → BuildsRest t heads few kinds s → BuildsRest t heads few kinds (record s { run = record s.run { operands = vs } })
  with_operands s vs h = record { builds = record { anew = h.builds.anew; run = h.builds.run; callers = h.builds.callers }; stands = h.stands; starts = h.starts }

  entered_there : (m : Option Members) (o : ℕ) (s : State) → BuildsRest t heads few kinds s → BuildsRest t heads few kinds (entered m o s)
  entered_there None o s h = h
  entered_there (Some m) o s h = record { builds = record { anew = h.builds.anew; run = h.builds.run; callers = h.builds.callers }; stands = h.stands; starts = h.starts }

  answered_there : (source : Source) (given : Answer) (s : State) → BuildsRest t heads few kinds s → BuildsRest t heads few kinds (answered source given s)
  answered_there source (answer.Object o) s h = with_operands (entered (new_members source s.run.control) o s) (piece.Object o ∷ (entered (new_members source s.run.control) o s).run.operands) (entered_there (new_members source s.run.control) o s h)
  answered_there source (answer.Number n) s h = with_operands s (Number n ∷ s.run.operands) h
  answered_there source (answer.Value n failed) s h = with_operands s (Number n ∷ s.run.operands) h
  answered_there source (answer.Clause k failed) s h = with_operands s _ h
  answered_there source (answer.Event n x y) s h = with_operands s _ h
  answered_there source answer.Nothing s h = with_operands s _ h
  answered_there source answer.Go s h = h

  going : (s : State) → BuildsRest t heads few kinds s → BuildsState t heads few kinds s
  going s h = record {
    builds = record { anew = h.builds.anew; run = building.builds_more t heads few kinds s.env.exec of_wait (of_run t heads s.run) (λ ps c i w K x. absurd x) s.env.frames s.run.frame s.run.this s.callers h.builds.run; callers = h.builds.callers };
    stands = h.stands;
    starts = h.starts;
  }

pub law_steps : LawSteps
law_steps = record {
  begins = λ t heads few kinds source r o j k. begun t heads few kinds (routine_of source r) o (routine_of source r).body j k refl;
  steps = λ t heads few kinds source p laid spanned s life st calm clears fair. steps_to t heads few kinds p source s laid spanned life st fair calm clears;
  told = λ t heads few kinds source given s h. answered_there t heads few kinds source given s h;
  goes_on = λ t heads few kinds s h. going t heads few kinds s h;
}
