-- Every quiet step of a task that is as deep as it is owed, and answers to it.
use Rattle.std.proofs.Common.{◌≡◌, ℕ, ◌≤◌, Bool, true, List, [], ◌∷◌, refl, ap, arith}
use Rattle.std.specs.Prelude.{nat_eq, nat_lt, slice_get}
use Rattle.uc_tree.specs.Source as src
use Rattle.uc_tree.specs.Source.{Source, Routine, routine_or_none, routine_of}
use Rattle.uc_entry.specs.declared.fault.RunFault.TheVariants.{NoReturn}
use Rattle.uc_machine.specs.Executions.{values_cleared}
use Rattle.uc_machine.specs.Insides as inside
use Rattle.uc_machine.specs.Raising as raising
use Rattle.uc_machine.specs.Monitors as monitors
use Rattle.uc_machine.specs.Quiet as quiet
use Rattle.uc_machine.specs.Switches.{without}
use Rattle.uc_machine.specs.Pieces as piece
use Rattle.uc_machine.specs.Pieces.{Value, Todo, Active, State, Step, at, top, below, number, object_in}
use Rattle.uc_depth_laws.specs.Entering.{Aspect, New, Other, EnteredSource}
use Rattle.uc_depth_laws.specs.Owing.{Tests, marks, First, Any, Skipped, CallOf, Bound, next, is_told, owed_waiting, EnteredPiece, Allowed, Entered, owed, DeepAlone, Deep, DeepStep, FairAt, Fair, Done, EnteredNext}
use Rattle.uc_depth_laws.specs.DepthLaws.{TellsOthers}
use Rattle.uc_depth_laws.proofs.Depths.{both_hold, piece_next}
use Rattle.uc_depth_laws.proofs.Kept as kept
use Rattle.uc_depth_laws.proofs.Kept.{either}
use Rattle.uc_depth_laws.proofs.TodoLists as lists
use Rattle.uc_depth_laws.proofs.TodoLists.{Ok, OkDone}
use Rattle.uc_depth_laws.proofs.Standing.{all_owed, engaged_without, owed_without}
use Rattle.uc_depth_laws.proofs.Steps as steps
use Rattle.uc_depth_laws.proofs.Steps.{Budget}
use Rattle.uc_depth_laws.proofs.Calls as calls

-- what is told of the object of an activation is so
pub told_object : (tells : Aspect → ℕ → Bool) (v : Value) (older : List Active) (k : Aspect) → is_told tells v older k ≡ true → tells k (object_in v) ≡ true
told_object tells v older k h = (both_hold (tells k (object_in v)) (nat_eq (owed_waiting (object_in v) older) 0) h).0

-- the piece that tells the main of a new task owes nothing
spawned : (source : Source) (told : Aspect → Bool) (s : State) (r : ℕ) (todo : List Todo) → Entered source told Any todo → owed source (monitors.this_object s) (at todo s.run.operands s) ≡ 0 → owed source (monitors.this_object s) (at (piece.ChildNow r ∷ todo) s.run.operands s) ≡ 0
spawned source told s r todo h f = omega (arith, f)

module _ (source : Source) (news : Tests) (known : EnteredSource source) where
  module _ (s : State) (tells : TellsOthers news s) (deep : Deep source news s) where
    abbrev told : Aspect → Bool
    told = is_told (news s.env.exec.home) s.run.this s.callers

    b : Budget source news (marks s.run.control) s
    b = record {
      one = deep.one;
      callers = deep.callers;
      env = deep.env;
      engaged = let a = deep.engaged in omega (arith, a);
      depths = λ q. let a = deep.depths q in omega (arith, a);
    }

    go : (todo : List Todo) (vs : List Value) → Entered source told Any todo → marks todo ≤ marks s.run.control → Deep source news (at todo vs s)
    go todo vs h l = steps.go source news s (marks s.run.control) b todo vs h l

    go_alone : (todo : List Todo) (vs : List Value) → Entered source told Any todo → marks todo ≤ marks s.run.control → DeepAlone source news (at todo vs s)
    go_alone todo vs h l = steps.go_alone source news s (marks s.run.control) b todo vs h l

    go_ok : (todo : List Todo) (vs : List Value) → Ok source told (marks s.run.control) todo → Deep source news (at todo vs s)
    go_ok todo vs x = steps.go_ok source news s (marks s.run.control) b todo vs x

    go_done : (todo : List Todo) (vs : List Value) → OkDone source told (marks s.run.control) todo → Deep source news (at todo vs s)
    go_done todo vs x = steps.go_done source news s (marks s.run.control) b todo vs x

    -- one piece, with what is to do behind it
    acts : (p : Todo) (todo : List Todo) → s.run.control ≡ p ∷ todo → EnteredNext source told p → Entered source told (next p) todo → marks (p ∷ todo) ≤ marks s.run.control → FairAt source (p ∷ todo) s → DeepStep source news s (quiet.act source p todo s)
    acts (piece.Eval a) todo c n h l f = steps.eval source news s (marks s.run.control) b a todo n h l
    acts (piece.ElementNow m k) todo c n h l f = steps.element source news s (marks s.run.control) b k _ todo _ _ h l
    acts piece.NegateNow todo c n h l f = steps.outcome source news s (marks s.run.control) b _ todo _ h l
    acts (piece.OperateNow op) todo c n h l f = steps.outcome source news s (marks s.run.control) b _ todo _ h l
    acts piece.StoreNow todo c n h l f = steps.go_in source news s (marks s.run.control) b _ _ _ h l (steps.write source news s (marks s.run.control) b _ _)
    acts piece.KeepNow todo c n h l f = steps.go_in source news s (marks s.run.control) b _ _ _ h l (steps.write source news s (marks s.run.control) b _ _)
    acts (piece.SetNow k) todo c n h l f = steps.go_in source news s (marks s.run.control) b _ _ _ h l (steps.write source news s (marks s.run.control) b (piece.variable_at k s) (piece.Number (number (top s.run.operands))))
    acts piece.BindNow todo c n h l f = steps.go_in source news s (marks s.run.control) b _ _ _ h l (steps.write source news s (marks s.run.control) b _ _)
    acts (piece.Choose x y) todo c n h l f = go _ _ (either (λ (z : src.Expr). EnteredPiece source told (piece.Eval z)) (piece.is_zero (number (top s.run.operands))) y x n.1 n.0, h) l
    acts (piece.Branch x y) todo c n h l f = go _ _ (either (λ (z : src.Stmt). EnteredPiece source told (piece.Do z)) (piece.is_zero (number (top s.run.operands))) y x n.1 n.0, h) l
    acts (piece.TurnNow o t e d) todo c n h l f = go _ _ (n.2, (n, h)) l
    acts (piece.Arguments src.NoExprs) todo c n h l f = go _ _ h l
    acts (piece.Arguments (src.MoreExprs e es)) todo c n h l f = go _ _ (n.0, (n.1, h)) l
    acts (piece.CallNow r) todo c n h l f = calls.call source news known s deep r todo c n h (slice_get source.routines r) refl
    acts (piece.CallOnNow r) todo c n h l f = calls.call_on source news known s deep r todo c h (slice_get source.routines r) refl
    acts (piece.CallUnwrittenNow r) todo c n h l f = calls.call_unwritten source news known s deep r todo c h (slice_get source.routines r) refl
    acts (piece.CountNow m) todo c n h l f = steps.counts source news s (marks s.run.control) b m todo h l
    acts piece.MoreNow todo c n h l f = steps.counts source news s (marks s.run.control) b _ todo h l
    acts (piece.FillNow m x d) todo c n h l f = go_ok _ _ (lists.filled source told (marks s.run.control) (nat_lt s.run.elements m) m x d todo n h l)
    acts (piece.Again o t e d) todo c n h l f = go_ok _ _ (either (Ok source told (marks s.run.control)) (piece.is_zero (number (top s.run.operands))) todo (piece.TurnNow o t e d ∷ todo) (record { list = h; few = l }) (record { list = (n, h); few = l }))
    acts (piece.PrintNow form) todo c n h l f = steps.prints source news s (marks s.run.control) b s.env.gathered _ todo _ h l
    acts (piece.TextNow k) todo c n h l f = steps.prints source news s (marks s.run.control) b s.env.gathered _ todo _ h l
    acts piece.GatherNow todo c n h l f = steps.go_in source news s (marks s.run.control) b _ _ _ h l (kept.same source news s.env _ deep.env refl refl refl refl (omega arith) refl)
    acts piece.FlushNow todo c n h l f = steps.flushes source news s (marks s.run.control) b s.env.gathered todo _ h l
    acts (piece.ReadNow form) todo c n h l f = steps.asked source news s (marks s.run.control) b _ _ _ (λ x. x) tt tt h l
    acts (piece.ClearNow k m) todo c n h l f = steps.go_in source news s (marks s.run.control) b _ _ _ h l (kept.owned_lighter source news (piece.this_frame s) (values_cleared k m piece.nought) s.env deep.env)
    acts (piece.Items []) todo c n h l f = go _ _ h l
    acts (piece.Items (i ∷ is)) todo c n h l f = go_ok _ _ (lists.item source told (marks s.run.control) i _ n.0 (n.1, h) l)
    acts (piece.Values []) todo c n h l f = go _ _ h l
    acts (piece.Values (i ∷ is)) todo c n h l f = go_ok _ _ (lists.item_value source told (marks s.run.control) i _ n.0 (n.1, h) l)
    acts (piece.Pieces []) todo c n h l f = go _ _ h l
    acts (piece.Pieces (i ∷ is)) todo c n h l f = let x = lists.item_piece source told (marks s.run.control) i todo h l in go _ _ (n.1, x.list) x.few
    acts (piece.Targets []) todo c n h l f = go _ _ h l
    acts (piece.Targets (t ∷ ts)) todo c n h l f = go _ _ (n.0, (tt, (tt, (n.1, h)))) l
    acts (piece.Variables []) todo c n h l f = go _ _ h l
    acts (piece.Variables (d ∷ ds)) todo c n h l f = let x = lists.starts source told (marks s.run.control) d.cell d.value (piece.Variables ds ∷ todo) n.0 (n.1, h) l in go _ _ (tt, x.list) x.few
    acts (piece.Do a) todo c n h l f = steps.stmt source news s (marks s.run.control) b a todo n h l
    acts (piece.Rest ss) todo c n h l f = steps.rest source news s (marks s.run.control) b ss todo n h l
    acts (piece.Exit w) todo c n h l f = steps.exits source news s (marks s.run.control) b w todo h l
    acts piece.NoReturnNow todo c n h l f = steps.stop source news s (marks s.run.control) b NoReturn todo _
    acts (piece.InLoop o t e d) todo c n h l f =
        let x = lists.tested source told (marks s.run.control) o t e d todo n.0 n.1 n.2 h l in
        go_ok _ _ (lists.stepped source told (marks s.run.control) e _ n.1 x.list x.few)
    acts (piece.Clean x) todo c n h l f = go_done _ _ (lists.cleans source told (marks s.run.control) x todo n h l)
    acts (piece.Sweep e) todo c n h l f = steps.swept source news s (marks s.run.control) b s.run.elements e todo n h l
    acts piece.Unwind todo c n h l f = steps.unwinds source news s (marks s.run.control) b todo h l
    acts piece.ThrowNow todo c n h l f = steps.throws source news s (marks s.run.control) b (raising.event_in s.run.operands) todo h l
    acts piece.RaiseNow todo c n h l f = steps.raises source news s (marks s.run.control) b (raising.event_in s.run.operands) todo h l
    acts (piece.SetUpNow r) todo c n h l f = steps.set_up source news s (marks s.run.control) b (slice_get source.routines r) todo (known.routines r) n h l
    acts piece.EnlivenNow todo c n h l f = steps.go_in source news s (marks s.run.control) b _ _ _ h l (kept.enlivened_lighter source news _ s.env deep.env)
    acts piece.TakeDownNow todo c n h l f = steps.moved source news s (marks s.run.control) b _ todo _ (kept.take_down_deep source news (piece.own_exec s) (at todo s.run.operands s) (go_alone _ _ h l))
    acts piece.ForgetNow todo c n h l f = steps.go_in source news s (marks s.run.control) b _ _ _ h l (kept.forgotten_lighter source news _ s.env deep.env)
    acts (piece.LiveNow r) todo c n h l f = steps.live source news s (marks s.run.control) b (slice_get source.routines r) todo h l
    acts piece.ResumeNow todo c n h l f = steps.moved source news s (marks s.run.control) b _ (piece.Land ∷ todo) _ (kept.wake_deep source news (quiet.resumed s) (at (piece.Land ∷ todo) s.run.operands s) (go_alone _ _ (tt, h) l))
    acts piece.SuspendNow todo c n h l f = steps.moved source news s (marks s.run.control) b _ (piece.Land ∷ todo) _ (kept.suspend_deep source news (at (piece.Land ∷ todo) s.run.operands s) (go_alone _ _ (tt, h) l))
    acts piece.Land todo c n h l f = steps.land source news s (marks s.run.control) b s.run.raised todo h l
    acts (piece.EnterNow m r) todo c n h l f = steps.enter source news s (marks s.run.control) b tells m r (slice_get source.routines r) todo refl n f h l (omega arith)
    acts piece.LeaveNow todo c n h l f = steps.leave source news s (marks s.run.control) b _ todo h l
    acts (piece.MakeNow k r) todo c n h l f = steps.make source news s (marks s.run.control) b k r (slice_get source.routines r) todo h l
    acts (piece.BindMadeNow k r) todo c n h l f = absurd n
    acts piece.MadeNow todo c n h l f = steps.unless source news s (marks s.run.control) b (monitors.this_object s) _ todo (λ u. record { state = record { alone = h; deep = (steps.gone_here source news s (marks s.run.control) b (inside.build_ended (monitors.this_object s) s.env) todo h l (all_owed source news s deep todo u f) refl refl refl deep.env.hand (λ q. omega arith) refl (omega arith)) }; inside = steps.is_inside source news s (marks s.run.control) b (marks todo) l; unheld = u })
    acts (piece.SpawnNow r) todo c n h l f = steps.unless source news s (marks s.run.control) b (monitors.this_object s) _ (piece.ChildNow r ∷ todo) (λ u. record { state = (record { alone = (n.1, h); deep = (steps.gone_here source news s (marks s.run.control) b (inside.build_ended (monitors.this_object s) s.env) (piece.ChildNow r ∷ todo) (n.1, h) l (spawned source told s r todo h (all_owed source news s deep todo u f)) refl refl refl deep.env.hand (λ q. omega arith) refl (omega arith)) }, told_object (news s.env.exec.home) s.run.this s.callers New n.0, spawned source told s r todo h (all_owed source news s deep todo u f)); inside = steps.is_inside source news s (marks s.run.control) b (marks todo) l; unheld = u })
    acts piece.GoneNow todo c n h l f = record { state = (record { alone = h; deep = (steps.gone_here source news s (marks s.run.control) b (record (inside.call_gone (monitors.this_object s) s.env) { hand = without (monitors.this_object s) s.env.hand }) todo h l (omega (arith, f)) refl refl refl (engaged_without source news (monitors.this_object s) s.env.hand deep.env.hand) (λ q. owed_without q (monitors.this_object s) s.env.hand) refl (omega arith)) }, deep.env.hand); inside = (steps.is_inside source news s (marks s.run.control) b (marks todo) l, (Other, told_object (news s.env.exec.home) s.run.this s.callers Other n)); unheld = tt }
    acts piece.GiveUpNow todo c n h l f = record { state = (record { alone = h; deep = (steps.gone_here source news s (marks s.run.control) b (record (inside.build_ended (monitors.this_object s) s.env) { hand = without (monitors.this_object s) s.env.hand }) todo h l (omega (arith, f)) refl refl refl (engaged_without source news (monitors.this_object s) s.env.hand deep.env.hand) (λ q. owed_without q (monitors.this_object s) s.env.hand) refl (omega arith)) }, deep.env.hand); inside = (steps.is_inside source news s (marks s.run.control) b (marks todo) l, (New, told_object (news s.env.exec.home) s.run.this s.callers New n)); unheld = tt }
    acts piece.ClusterNow todo c n h l f = steps.asked source news s (marks s.run.control) b _ _ _ (λ x. x) tt tt h l
    acts piece.ProcessorNow todo c n h l f = steps.asked source news s (marks s.run.control) b _ _ _ (λ x. x) tt tt h l
    acts piece.ClusterEndNow todo c n h l f = steps.asked source news s (marks s.run.control) b _ _ _ (λ x. x) tt tt h l
    acts piece.ProcessorEndNow todo c n h l f = steps.asked source news s (marks s.run.control) b _ _ _ (λ x. x) tt tt h l
    acts (piece.ConditionNow k m) todo c n h l f = steps.condition source news s (marks s.run.control) b k _ todo h l
    acts piece.WaitNow todo c n h l f = steps.unless source news s (marks s.run.control) b (monitors.this_object s) _ todo (λ u. steps.asked source news s (marks s.run.control) b _ _ _ (λ x. x) tt u h l)
    acts piece.SignalNow todo c n h l f = steps.asked source news s (marks s.run.control) b _ _ _ (λ x. x) tt tt h l
    acts piece.SignalBlockNow todo c n h l f = steps.unless source news s (marks s.run.control) b (monitors.this_object s) _ todo (λ u. steps.asked source news s (marks s.run.control) b _ _ _ (λ x. x) tt u h l)
    acts piece.EmptyNow todo c n h l f = steps.asked source news s (marks s.run.control) b _ _ _ (λ x. x) tt tt h l
    acts piece.FrontNow todo c n h l f = steps.asked source news s (marks s.run.control) b _ _ _ (λ x. x) tt tt h l
    acts piece.YieldNow todo c n h l f = steps.asked source news s (marks s.run.control) b _ _ _ (λ x. x) tt tt h l
    acts piece.MigrateNow todo c n h l f = steps.asked source news s (marks s.run.control) b _ _ _ (λ x. x) tt tt h l
    acts (piece.Guards src.NoClauses) todo c n h l f = go _ _ h l
    acts (piece.Guards (src.Otherwise x)) todo c n h l f = go _ _ h l
    acts (piece.Guards (src.MoreClauses guard x cs)) todo c n h l f = go _ _ (n.0, (n.2, h)) l
    acts (piece.AcceptNow site m) todo c n h l f = steps.accept source news s (marks s.run.control) b (monitors.this_object s) site m todo h l
    acts piece.FailedNow todo c n h l f = steps.failed source news s (marks s.run.control) b _ todo _ h l
    acts (piece.ChooseNow cs) todo c n h l f = go_ok _ _ (lists.branch source told (marks s.run.control) _ cs todo n h l)
    acts piece.RaiseAtNow todo c n h l f = steps.raise_at source news s (marks s.run.control) b _ _ todo _ h l
    acts (piece.EnableNow events cell) todo c n h l f = steps.enables source news s (marks s.run.control) b _ cell todo h l
    acts (piece.DisableNow events cell) todo c n h l f = steps.enables source news s (marks s.run.control) b _ cell todo h l
    acts (piece.RestoreNow cell) todo c n h l f = steps.go_in source news s (marks s.run.control) b _ _ _ h l (kept.same source news s.env _ deep.env refl refl refl refl (omega arith) refl)
    acts piece.PollNow todo c n h l f = steps.poll source news s (marks s.run.control) b todo h l
    acts piece.DeliverNow todo c n h l f = steps.deliver source news s (marks s.run.control) b _ todo h l
    acts piece.Finish todo c n h l f = steps.unless source news s (marks s.run.control) b s.env.own _ todo (λ u. steps.returned source news s (marks s.run.control) b _ s.callers refl)
    acts piece.FinishCoroutine todo c n h l f = steps.moved source news s (marks s.run.control) b _ todo _ (kept.finish_deep source news (at todo s.run.operands s) (go_alone _ _ h l))
    acts p todo c n h l f = go _ _ h l

    -- whatever may stand first
    starts : (g : First) (p : Todo) (todo : List Todo) → s.run.control ≡ p ∷ todo → Allowed source told g p → Entered source told (next p) todo → FairAt source (p ∷ todo) s → DeepStep source news s (quiet.act source p todo s)
    starts Any p todo c n h f = acts p todo c (piece_next source told p n) h (let a = ap marks c in omega (arith, a)) f
    starts Done p todo c n h f = acts p todo c n h (let a = ap marks c in omega (arith, a)) f
    starts Skipped (piece.CallOnNow r) todo c n h f = calls.call_on source news known s deep r todo c h (slice_get source.routines r) refl
    starts Skipped (piece.CallUnwrittenNow r) todo c n h f = calls.call_unwritten source news known s deep r todo c h (slice_get source.routines r) refl
    starts Skipped p todo c n h f = acts p todo c (piece_next source told p n) h (let a = ap marks c in omega (arith, a)) f
    starts (CallOf k) (piece.CallOnNow r) todo c n h f = calls.call_on source news known s deep r todo c h (slice_get source.routines r) refl
    starts (CallOf k) (piece.CallUnwrittenNow r) todo c n h f = calls.call_unwritten source news known s deep r todo c h (slice_get source.routines r) refl
    starts (CallOf k) p todo c n h f = absurd n
    starts Bound (piece.BindMadeNow k r) todo c n h f = calls.bind source news known s deep k r todo c h f (slice_get source.routines r) refl
    starts Bound p todo c n h f = absurd n

    by : (l : List Todo) → s.run.control ≡ l → Entered source told deep.first l → FairAt source l s → DeepStep source news s (quiet.act_todo source l s)
    by [] c e f = steps.returned source news s (marks s.run.control) b _ s.callers refl
    by (p ∷ todo) c e f = starts deep.first p todo c e.0 e.1 f

  pub walk : (s : State) → TellsOthers news s → Deep source news s → Fair source s → DeepStep source news s (quiet.quiet source s)
  walk s o h f = by s o h s.run.control refl h.run f
