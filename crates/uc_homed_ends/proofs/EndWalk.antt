-- Every quiet step of a task in which mutex objects are ended by clean-ups alone, and of one that is on the way from such a clean-up to where it reads
-- what it ends.
use Rattle.std.proofs.Common.{◌≡◌, ℕ, zero, suc, inl, inr, ◌⊎◌, Bool, true, false, List, [], ◌∷◌, ◌++◌, drop, Option, Some, None, refl, sym, ap, ◌∙◌, subst}
use Rattle.std.specs.Prelude.{pos, nat_lt, slice_get, if◌then◌else◌}
use Rattle.std.proofs.lemmas.Bool.{ltb-true}
use Rattle.uc_tree.specs.declared.limits.TheConstants.{DESTRUCTOR}
use Rattle.uc_tree.specs.Source as src
use Rattle.uc_tree.specs.Source.{Source, Expr, CleanUp, Routine, routine_or_none, routine_of}
use Rattle.uc_entry.specs.declared.fault.RunFault.TheVariants.{NoReturn}
use Rattle.uc_entry.specs.declared.request.Answer.{Answer}
use Rattle.uc_entry.specs.declared.request.Answer.TheVariants as answer
use Rattle.uc_entry.specs.declared.request.Asked.{Asked}
use Rattle.uc_entry.specs.declared.request.Request.{Request}
use Rattle.uc_entry.specs.declared.request.Request.TheVariants as ask
use Rattle.uc_machine.specs.Executions.{take_operands, values_cleared}
use Rattle.uc_machine.specs.declared.exec.Exec.{Exec}
use Rattle.uc_machine.specs.Raising as raising
use Rattle.uc_machine.specs.Monitors as monitors
use Rattle.uc_machine.specs.Quiet as quiet
use Rattle.uc_machine.specs.Quiet.{first_state}
use Rattle.uc_machine.specs.Pieces as piece
use Rattle.uc_machine.specs.Pieces.{Value, Todo, State, Members, Step, Goes, Ticks, Asks, at, top, below, further, loaded, number}
use Rattle.uc_machine.specs.Answering.{answered, entered, new_members, with_operand}
use Rattle.uc_machine.specs.Rides as rides
use Rattle.uc_machine.specs.Rides.{Rides}
use Rattle.uc_site_laws.specs.Resting.{AllWait, RestsParked, RestsHand, RestsEnv}
use Rattle.uc_site_laws.proofs.Kept as kept
use Rattle.uc_site_laws.proofs.Kept.{either}
use Rattle.uc_typing.specs.Typing.{Table}
use Rattle.uc_state_laws.specs.RoomRuns as runs
use Rattle.uc_state_laws.specs.RoomRuns.{Leads}
use Rattle.uc_state_laws.specs.Opens.{RideMeets, LeadsMeet}
use Rattle.uc_life_laws.specs.Ending.{Spot, OfVariable, OfField, calling, place_at}
use Rattle.uc_homed_ends.specs.EndCode.{EndSite, AtSpot, AtElement, EndOf, FreeSweep, FreeExpr, FreeStmt, FreeClean, FreeRoutine, FreeSource}
use Rattle.uc_homed_ends.specs.EndLists.{FreePiece, FreeList, FreeActive, FreeMembers, FreeState, FreeStep}
use Rattle.uc_homed_ends.specs.EndWays as ways
use Rattle.uc_homed_ends.specs.EndWays.{Stage, Ends, Loads, Finds, Arrays, Counts, Picks, Reads, todo_at, Found, Leaves, Behind, OneLess, Way, Enters, RestState, RestBy, NowBy, NowStep}
use Rattle.uc_homed_ends.proofs.EndSteps as steps

-- a piece at which no mutex object is ended
abbrev IsOther : Todo → Type 0
IsOther (piece.Clean c) = ⊥
IsOther (piece.Sweep e) = ⊥
IsOther piece.Unwind = ⊥
IsOther p = Unit {0}

same_place : (p : Spot) (todo : List Todo) (vs : List Value) (s : State) → place_at p (at todo vs s) ≡ place_at p s
same_place (OfVariable k) todo vs s = refl
same_place (OfField h i) todo vs s = refl

module _ (tb : Table) (P : State → Type 0) (Q : Exec → List Todo → Value → Type 0) where
  -- on no such way
  free_now : (x : Step) → FreeStep tb x → NowStep tb P Q x
  free_now (Goes s) h = record { run = inl (inl h.run); callers = h.callers; env = h.env }
  free_now (Ticks s) h = record { run = inl h.run; callers = h.callers; env = h.env }
  free_now (Asks r s) h = by r h
    where
      by : (r : Request) → FreeState tb s → NowStep tb P Q (Asks r s)
      by (ask.Fault m) h = h.env
      by r h = h

  pub rest_free : (s : State) → FreeState tb s → RestState tb Q s
  rest_free s h = record { run = inl h.run; callers = h.callers; env = h.env }

  pub now_rest : (s : State) → RestState tb Q s → NowBy tb P Q s
  now_rest s h = record { run = inl h.run; callers = h.callers; env = h.env }

  asked_rest : (r : Request) (s : State) → NowStep tb P Q (Asks r s) → RestBy tb Q r s
  asked_rest ask.Slice s h = rest_free s h
  asked_rest (ask.Fault m) s h = h
  asked_rest r s h = h

module _ (tb : Table) (P : State → Type 0) (Q : Exec → List Todo → Value → Type 0) (loads : (s : State) → P s → (w : Way tb P s) (x : EndSite) (b : Bool) → s.run.control ≡ piece.LoadNow ∷ ways.entering w.routine b w.todo → Found Reads x s → Leaves x w.routine b w.start.run.control → Behind x w.todo w.start.run.control → OneLess x w.start.run.elements s.run.elements → Q s.env.exec (calling b w.routine ∷ w.todo) (loaded (top s.run.operands) s.env)) (source : Source) (known : FreeSource tb source) where
  module _ (s : State) (callers : AllWait (FreeActive tb) (FreeActive tb) s.callers) (env : RestsEnv (FreeActive tb) (FreeActive tb) s.env) where
    go : (todo : List Todo) (vs : List Value) → FreeList tb todo → FreeState tb (at todo vs s)
    go = steps.go tb s callers env

    -- one piece, with what is to do behind it
    acts : (p : Todo) (todo : List Todo) → IsOther p → FreePiece tb p todo → FreeList tb todo → FreeList tb s.run.control → FreeStep tb (quiet.act source p todo s)
    acts (piece.Eval a) todo u n h c = steps.eval tb s callers env a todo n.0 n.1 h
    acts (piece.ElementNow m k) todo u n h c = steps.element tb s callers env k _ todo _ _ h
    acts piece.NegateNow todo u n h c = steps.outcome tb s callers env _ todo _ h
    acts (piece.OperateNow op) todo u n h c = steps.outcome tb s callers env _ todo _ h
    acts piece.StoreNow todo u n h c = steps.go_in tb s callers env _ _ _ h (steps.write tb s callers env _ _)
    acts piece.KeepNow todo u n h c = steps.go_in tb s callers env _ _ _ h (steps.write tb s callers env _ _)
    acts (piece.SetNow k) todo u n h c = steps.go_in tb s callers env _ _ _ h (steps.write tb s callers env (piece.variable_at k s) (piece.Number (number (top s.run.operands))))
    acts piece.BindNow todo u n h c = steps.go_in tb s callers env _ _ _ h (steps.write tb s callers env _ _)
    acts (piece.Choose e f) todo u n h c = go _ _ ((either (FreeExpr tb) (piece.is_zero (number (top s.run.operands))) f e n.1 n.0, n.2), h)
    acts (piece.Branch a b) todo u n h c = go _ _ (either (FreeStmt tb) (piece.is_zero (number (top s.run.operands))) b a n.1 n.0, h)
    acts (piece.TurnNow o t e b) todo u n h c = go _ _ (n.2, (n, h))
    acts (piece.Arguments src.NoExprs) todo u n h c = go _ _ h
    acts (piece.Arguments (src.MoreExprs e es)) todo u n h c = go _ _ ((n.0, tt), (n.1, h))
    acts (piece.CallNow r) todo u n h c = steps.call tb s callers env (slice_get source.routines r) todo (known r) h
    acts (piece.CallOnNow r) todo u n h c = steps.call_on tb s callers env (slice_get source.routines r) todo (known r) h
    acts (piece.CallUnwrittenNow r) todo u n h c = steps.call_unwritten tb s callers env (slice_get source.routines r) todo (known r) h
    acts (piece.CountNow m) todo u n h c = record { run = h; callers = callers; env = env }
    acts piece.MoreNow todo u n h c = record { run = h; callers = callers; env = env }
    acts (piece.FillNow m b d) todo u n h c = go _ _ (steps.filled tb (nat_lt s.run.elements m) m b d todo n h)
    acts (piece.Again o t e b) todo u n h c = go _ _ (either (FreeList tb) (piece.is_zero (number (top s.run.operands))) todo (piece.TurnNow o t e b ∷ todo) h (n, h))
    acts (piece.PrintNow f) todo u n h c = steps.prints tb s callers env s.env.gathered _ todo _ h
    acts (piece.TextNow k) todo u n h c = steps.prints tb s callers env s.env.gathered _ todo _ h
    acts piece.GatherNow todo u n h c = steps.go_in tb s callers env _ _ _ h (steps.likes tb env refl refl)
    acts piece.FlushNow todo u n h c = steps.flushes tb s callers env s.env.gathered todo _ h
    acts (piece.ReadNow f) todo u n h c = go _ _ h
    acts (piece.ClearNow k m) todo u n h c = steps.go_in tb s callers env _ _ _ h (kept.owned_rests (FreeActive tb) (FreeActive tb) (steps.calm tb) (piece.this_frame s) (values_cleared k m piece.nought) s.env env)
    acts (piece.Items []) todo u n h c = go _ _ h
    acts (piece.Items (i ∷ is)) todo u n h c = go _ _ (steps.item tb i _ n.0 (n.1, h))
    acts (piece.Values []) todo u n h c = go _ _ h
    acts (piece.Values (i ∷ is)) todo u n h c = go _ _ (steps.item_value tb i _ n.0 tt (n.1, h))
    acts (piece.Pieces []) todo u n h c = go _ _ h
    acts (piece.Pieces (i ∷ is)) todo u n h c = go _ _ (n.1, steps.item_piece tb i todo h)
    acts (piece.Targets []) todo u n h c = go _ _ h
    acts (piece.Targets (t ∷ ts)) todo u n h c = go _ _ ((n.0, tt), (tt, (tt, (n.1, h))))
    acts (piece.Variables []) todo u n h c = go _ _ h
    acts (piece.Variables (d ∷ ds)) todo u n h c = go _ _ (tt, steps.starts tb d.cell d.value (piece.Variables ds ∷ todo) n.0 (n.1, h))
    acts (piece.Do a) todo u n h c = steps.stmt tb s callers env a todo n h
    acts (piece.Rest ss) todo u n h c = steps.rest tb s callers env ss todo n h
    acts (piece.Exit w) todo u n h c = steps.exits tb s callers env w todo h c
    acts piece.NoReturnNow todo u n h c = steps.stop tb s callers env NoReturn todo _ h
    acts (piece.InLoop o t e b) todo u n h c = go _ _ (steps.stepped tb e _ n.1 (steps.tested tb o t e b todo n.0 n.1 n.2 h))
    acts (piece.Clean x) todo u n h c = absurd u
    acts (piece.Sweep e) todo u n h c = absurd u
    acts piece.Unwind todo u n h c = absurd u
    acts piece.ThrowNow todo u n h c = steps.throws tb s callers env (raising.event_in s.run.operands) todo h
    acts piece.RaiseNow todo u n h c = steps.raises tb s callers env (raising.event_in s.run.operands) todo h
    acts (piece.SetUpNow r) todo u n h c = steps.set_up tb s callers env (slice_get source.routines r) todo (known r) h
    acts piece.EnlivenNow todo u n h c = steps.go_in tb s callers env _ _ _ h (kept.enlivened_rests (FreeActive tb) (FreeActive tb) (steps.calm tb) _ s.env env)
    acts piece.TakeDownNow todo u n h c = steps.moved tb s callers env _ todo _ h (kept.take_down_rests (FreeActive tb) (FreeActive tb) (steps.calm tb) (piece.own_exec s) (at todo s.run.operands s) (go _ _ h))
    acts piece.ForgetNow todo u n h c = steps.go_in tb s callers env _ _ _ h (kept.forgotten_rests (FreeActive tb) (FreeActive tb) (steps.calm tb) _ s.env env)
    acts (piece.LiveNow r) todo u n h c = steps.live tb s callers env (slice_get source.routines r) todo h
    acts piece.ResumeNow todo u n h c = steps.moved tb s callers env _ (piece.Land ∷ todo) _ (tt, h) (kept.wake_rests (FreeActive tb) (FreeActive tb) (steps.calm tb) (quiet.resumed s) (at (piece.Land ∷ todo) s.run.operands s) (go _ _ (tt, h)))
    acts piece.SuspendNow todo u n h c = steps.moved tb s callers env _ (piece.Land ∷ todo) _ (tt, h) (kept.suspend_rests (FreeActive tb) (FreeActive tb) (steps.calm tb) (at (piece.Land ∷ todo) s.run.operands s) (go _ _ (tt, h)))
    acts piece.Land todo u n h c = steps.land tb s callers env s.run.raised todo h
    acts (piece.EnterNow m r) todo u n h c = steps.enter tb s callers env m (slice_get source.routines r) todo h
    acts piece.LeaveNow todo u n h c = steps.leave tb s callers env _ (monitors.this_object s) todo h
    acts (piece.MakeNow k r) todo u n h c = steps.make tb s callers env k r (slice_get source.routines r) todo h
    acts (piece.BindMadeNow k r) todo u n h c = steps.bind tb s callers env (slice_get source.routines r) todo h
    acts piece.MadeNow todo u n h c = steps.unless tb s callers env (monitors.this_object s) _ todo h (steps.go_in tb s callers env _ _ _ h (steps.likes tb env refl refl))
    acts (piece.SpawnNow r) todo u n h c = steps.unless tb s callers env (monitors.this_object s) _ (piece.ChildNow r ∷ todo) (tt, h) (steps.go_in tb s callers env _ _ _ (tt, h) (steps.likes tb env refl refl))
    acts piece.GoneNow todo u n h c = steps.go_in tb s callers env _ _ _ h (steps.likes tb env refl refl)
    acts piece.GiveUpNow todo u n h c = steps.go_in tb s callers env _ _ _ h (steps.likes tb env refl refl)
    acts piece.ClusterNow todo u n h c = go _ _ h
    acts piece.ProcessorNow todo u n h c = go _ _ h
    acts piece.ClusterEndNow todo u n h c = go _ _ h
    acts piece.ProcessorEndNow todo u n h c = go _ _ h
    acts (piece.ConditionNow k m) todo u n h c = steps.condition tb s callers env k _ todo h
    acts piece.WaitNow todo u n h c = steps.unless tb s callers env (monitors.this_object s) _ todo h (go _ _ h)
    acts piece.SignalNow todo u n h c = go _ _ h
    acts piece.SignalBlockNow todo u n h c = steps.unless tb s callers env (monitors.this_object s) _ todo h (go _ _ h)
    acts piece.EmptyNow todo u n h c = go _ _ h
    acts piece.FrontNow todo u n h c = go _ _ h
    acts piece.YieldNow todo u n h c = go _ _ h
    acts piece.MigrateNow todo u n h c = go _ _ h
    acts (piece.Guards src.NoClauses) todo u n h c = go _ _ h
    acts (piece.Guards (src.Otherwise b)) todo u n h c = go _ _ h
    acts (piece.Guards (src.MoreClauses guard b cs)) todo u n h c = go _ _ ((n.0, tt), (n.2, h))
    acts (piece.AcceptNow site m) todo u n h c = steps.accept_by tb s callers env (monitors.mask_of (take_operands piece.Nothing m s.run.operands [])) (monitors.this_object s) site todo (drop m s.run.operands) h
    acts piece.FailedNow todo u n h c = steps.failed tb s callers env _ todo _ h
    acts (piece.ChooseNow cs) todo u n h c = go _ _ (steps.branch tb _ cs todo n h)
    acts piece.RaiseAtNow todo u n h c = steps.raise_at tb s callers env _ _ todo _ h
    acts (piece.EnableNow events cell) todo u n h c = steps.enables tb s callers env _ cell todo h
    acts (piece.DisableNow events cell) todo u n h c = steps.enables tb s callers env _ cell todo h
    acts (piece.RestoreNow cell) todo u n h c = steps.go_in tb s callers env _ _ _ h (steps.likes tb env refl refl)
    acts piece.PollNow todo u n h c = steps.poll tb s callers env todo h
    acts piece.DeliverNow todo u n h c = steps.deliver tb s callers env _ todo h
    acts piece.Finish todo u n h c = steps.unless tb s callers env s.env.own _ todo h (steps.returned tb s callers env _ s.callers callers c)
    acts piece.FinishCoroutine todo u n h c = steps.moved tb s callers env _ todo _ h (kept.finish_rests (FreeActive tb) (FreeActive tb) (steps.calm tb) (at todo s.run.operands s) (go _ _ h))
    acts p todo u n h c = go _ _ h

    -- at a clean-up of one

    module _ (held : P s) where
      way_from : (u : State) (x : Expr) (site : EndSite) (en : EndOf tb site x) (todo : List Todo) → u.run.control ≡ piece.Eval x ∷ todo → FreeList tb todo → Leaves site en.routine en.written s.run.control → Behind site todo s.run.control → u.env ≡ s.env → u.run.frame ≡ s.run.frame → u.run.this ≡ s.run.this → u.callers ≡ s.callers → OneLess site s.run.elements u.run.elements → Way tb P u
      way_from u x site en todo c f l h e g o k m = record {
        stage = Ends;
        site = site;
        routine = en.routine;
        written = en.written;
        class = en.class;
        todo = todo;
        control = c ∙ ap (λ x. piece.Eval x ∷ todo) en.is;
        free = f;
        found = tt;
        this = en.this;
        whole = en.whole;
        mutex = en.mutex;
        params = en.params;
        start = s;
        leaves = l;
        behind = h;
        held = held;
        elements = m;
        env = e;
        frame = g;
        object = o;
        callers = k;
      }

      cleaned : (x : CleanUp) (todo : List Todo) → s.run.control ≡ piece.Clean x ∷ todo → FreeClean tb x → FreeList tb todo → NowStep tb P Q (quiet.act source (piece.Clean x) todo s)
      cleaned (src.Destroys x) todo e (inl f) h = free_now tb P Q (quiet.act source (piece.Clean (src.Destroys x)) todo s) (go _ _ ((f, tt), (tt, h)))
      cleaned (src.Destroys x) todo e (inr (p, en)) h =
          record { run = inr (way_from (at (piece.Eval x ∷ (piece.DropNow ∷ todo)) s.run.operands s) x (AtSpot p) en (piece.DropNow ∷ todo) refl (tt, h) (todo, inl (e ∙ ap (λ x. piece.Clean (src.Destroys x) ∷ todo) en.is)) tt refl refl refl refl tt); callers = callers; env = env }
      cleaned x todo e n h = free_now tb P Q (quiet.act source (piece.Clean x) todo s) (go _ _ (steps.cleans tb x todo n h))

      swept : (m : ℕ) (x : Expr) (todo : List Todo) → s.run.elements ≡ m → s.run.control ≡ piece.Sweep x ∷ todo → FreeSweep tb x → FreeList tb todo → NowStep tb P Q (quiet.sweep_step m x todo s)
      swept m x todo q e (inl f) h = free_now tb P Q (quiet.sweep_step m x todo s) (steps.swept_free tb s callers env m x todo f h)
      swept zero x todo q e (inr (n, p, en)) h = free_now tb P Q (quiet.sweep_step zero x todo s) (go _ _ h)
      swept (suc m) x todo q e (inr (n, p, en)) h =
          let u : State = at (piece.Eval x ∷ (piece.DropNow ∷ (piece.Sweep x ∷ todo))) s.run.operands (quiet.with_elements m s) in
          record { run = inr (way_from u x (AtElement n p) en (piece.DropNow ∷ (piece.Sweep x ∷ todo)) refl (tt, (inr (n, p, en), h)) (todo, e ∙ ap (λ x. piece.Sweep x ∷ todo) en.is) (x, todo, e, refl) refl refl refl refl q); callers = callers; env = env }

      left_scope : (x : CleanUp) (b : Bool) (todo : List Todo) → s.run.control ≡ piece.Unwind ∷ (piece.Clean x ∷ todo) → FreeClean tb x → FreeList tb todo → NowStep tb P Q (raising.scope_left x b todo s)
      left_scope (src.Destroys x) b todo e (inl f) h = free_now tb P Q (raising.scope_left (src.Destroys x) b todo s) (steps.scope tb s callers env (src.Destroys x) b todo f h)
      left_scope (src.Destroys x) b todo e (inr (p, en)) h =
          record { run = inr (way_from (at (piece.Eval x ∷ (piece.DropNow ∷ (piece.Unwind ∷ todo))) [] s) x (AtSpot p) en (piece.DropNow ∷ (piece.Unwind ∷ todo)) refl (tt, (tt, h)) (todo, inr (inl (e ∙ ap (λ x. piece.Unwind ∷ (piece.Clean (src.Destroys x) ∷ todo)) en.is))) tt refl refl refl refl tt); callers = callers; env = env }
      left_scope x b todo e n h = free_now tb P Q (raising.scope_left x b todo s) (steps.scope tb s callers env x b todo n h)

      left_part : (x : CleanUp) (todo : List Todo) → s.run.control ≡ piece.Unwind ∷ (piece.Part x ∷ todo) → FreeClean tb x → FreeList tb todo → NowStep tb P Q (raising.unwind_past (piece.IsPart x) todo s)
      left_part (src.Destroys x) todo e (inl f) h = free_now tb P Q (raising.unwind_past (piece.IsPart (src.Destroys x)) todo s) (go _ _ ((f, tt), (tt, (tt, h))))
      left_part (src.Destroys x) todo e (inr (p, en)) h =
          record { run = inr (way_from (at (piece.Eval x ∷ (piece.DropNow ∷ (piece.Unwind ∷ todo))) [] s) x (AtSpot p) en (piece.DropNow ∷ (piece.Unwind ∷ todo)) refl (tt, (tt, h)) (todo, inr (inr (e ∙ ap (λ x. piece.Unwind ∷ (piece.Part (src.Destroys x) ∷ todo)) en.is))) tt refl refl refl refl tt); callers = callers; env = env }
      left_part x todo e n h = free_now tb P Q (raising.unwind_past (piece.IsPart x) todo s) (go _ _ (steps.cleans tb x (piece.Unwind ∷ todo) n (tt, h)))

      unwound : (todo : List Todo) → s.run.control ≡ piece.Unwind ∷ todo → FreeList tb todo → FreeList tb s.run.control → NowStep tb P Q (raising.unwind_step todo s)
      unwound [] e h c = free_now tb P Q (raising.unwind_step [] s) (steps.left_all tb s callers env c)
      unwound (piece.Clean x ∷ todo) e h c = left_scope x _ todo e h.0 h.1
      unwound (piece.Part x ∷ todo) e h c = left_part x todo e h.0 h.1
      unwound (p ∷ todo) e h c = free_now tb P Q (raising.unwind_step (p ∷ todo) s) (steps.unwind_past tb s callers env (piece.sort p) todo (steps.sorted tb p todo h.0) tt h.1)

      first : (p : Todo) (todo : List Todo) → s.run.control ≡ p ∷ todo → FreePiece tb p todo → FreeList tb todo → FreeList tb s.run.control → NowStep tb P Q (quiet.act source p todo s)
      first (piece.Clean x) todo e n h c = cleaned x todo e n h
      first (piece.Sweep x) todo e n h c = swept s.run.elements x todo refl e n h
      first piece.Unwind todo e n h c = unwound todo e h c
      first p todo e n h c = free_now tb P Q (quiet.act source p todo s) (acts p todo tt n h c)

    -- on the way from there

    module _ (held : P s) (w : Way tb P s) where
      next : (k : Stage) (x : EndSite) (b : Bool) (u : State) → u.run.control ≡ todo_at k x w.routine b w.todo → Found k x u → Leaves x w.routine b w.start.run.control → Behind x w.todo w.start.run.control → u.env ≡ s.env → u.run.frame ≡ s.run.frame → u.run.this ≡ s.run.this → u.callers ≡ s.callers → OneLess x w.start.run.elements u.run.elements → NowBy tb P Q u
      next k x b u c f l h e g o r m = record {
        run = inr (record {
          stage = k;
          site = x;
          routine = w.routine;
          written = b;
          class = w.class;
          todo = w.todo;
          control = c;
          free = w.free;
          found = f;
          this = w.this;
          whole = w.whole;
          mutex = w.mutex;
          params = w.params;
          start = w.start;
          leaves = l;
          behind = h;
          held = w.held;
          elements = m;
          env = e ∙ w.env;
          frame = g ∙ w.frame;
          object = o ∙ w.object;
          callers = r ∙ w.callers;
        });
        callers = subst (AllWait (FreeActive tb) (FreeActive tb)) (sym r) callers;
        env = subst (RestsEnv (FreeActive tb) (FreeActive tb)) (sym e) env;
      }

      picked : (n : ℕ) (p : Spot) (b : Bool) (c : Bool) → nat_lt s.run.elements n ≡ c → top (below s.run.operands) ≡ place_at p s → Leaves (AtElement n p) w.routine b w.start.run.control → Behind (AtElement n p) w.todo w.start.run.control → OneLess (AtElement n p) w.start.run.elements s.run.elements → NowStep tb P Q (piece.element_step src.Binding (if c then Some s.run.elements else None) (piece.LoadNow ∷ ways.entering w.routine b w.todo) (top (below s.run.operands)) (below (below s.run.operands)) s)
      picked n p b false e f l h m = env
      picked n p b true e f l h m =
          let todo : List Todo = piece.LoadNow ∷ ways.entering w.routine b w.todo in
          let vs : List Value = further (piece.At src.Binding s.run.elements) (top (below s.run.operands)) ∷ below (below s.run.operands) in
          next Reads (AtElement n p) b (at todo vs s) refl (ap (λ v. further (piece.At src.Binding s.run.elements) v) (f ∙ sym (same_place p todo vs s)), ltb-true s.run.elements n e) l h refl refl refl refl m

      -- what has been read is entered next
      read : (x : EndSite) (b : Bool) → s.run.control ≡ piece.LoadNow ∷ ways.entering w.routine b w.todo → Found Reads x s → Leaves x w.routine b w.start.run.control → Behind x w.todo w.start.run.control → OneLess x w.start.run.elements s.run.elements → Enters tb Q (at (ways.entering w.routine b w.todo) (loaded (top s.run.operands) s.env ∷ below s.run.operands) s)
      read x false c f l h m = record {
        routine = w.routine;
        todo = piece.CallUnwrittenNow w.routine ∷ w.todo;
        control = inl refl;
        free = (tt, w.free);
        params = w.params;
        told = loads s held w x false c f l h m;
      }
      read x true c f l h m = record {
        routine = w.routine;
        todo = piece.CallOnNow w.routine ∷ w.todo;
        control = inr refl;
        free = (tt, w.free);
        params = w.params;
        told = loads s held w x true c f l h m;
      }

      onward : (k : Stage) (x : EndSite) (b : Bool) → s.run.control ≡ todo_at k x w.routine b w.todo → Found k x s → Leaves x w.routine b w.start.run.control → Behind x w.todo w.start.run.control → OneLess x w.start.run.elements s.run.elements → NowStep tb P Q (quiet.act_todo source (todo_at k x w.routine b w.todo) s)
      onward Ends x false c f l h m = next Loads x false _ refl tt l h refl refl refl refl m
      onward Ends x true c f l h m = next Loads x true _ refl tt l h refl refl refl refl m
      onward Loads x b c f l h m = next Finds x b _ refl tt l h refl refl refl refl m
      onward Finds (AtSpot (OfVariable k)) b c f l h m = next Reads (AtSpot (OfVariable k)) b _ refl refl l h refl refl refl refl m
      onward Finds (AtSpot (OfField y i)) b c f l h m = next Reads (AtSpot (OfField y i)) b _ refl refl l h refl refl refl refl m
      onward Finds (AtElement n p) b c f l h m = next Arrays (AtElement n p) b _ refl tt l h refl refl refl refl m
      onward Arrays (AtSpot p) b c f l h m = absurd f
      onward Arrays (AtElement n (OfVariable k)) b c f l h m = next Counts (AtElement n (OfVariable k)) b _ refl refl l h refl refl refl refl m
      onward Arrays (AtElement n (OfField y i)) b c f l h m = next Counts (AtElement n (OfField y i)) b _ refl refl l h refl refl refl refl m
      onward Counts (AtSpot p) b c f l h m = absurd f
      onward Counts (AtElement n p) b c f l h m = next Picks (AtElement n p) b (at (todo_at Picks (AtElement n p) w.routine b w.todo) (piece.Number (pos s.run.elements) ∷ s.run.operands) s) refl (refl, f ∙ sym (same_place p (todo_at Picks (AtElement n p) w.routine b w.todo) (piece.Number (pos s.run.elements) ∷ s.run.operands) s)) l h refl refl refl refl m
      onward Picks (AtSpot p) b c f l h m = absurd f
      onward Picks (AtElement n p) b c f l h m = subst (λ v. NowStep tb P Q (piece.element_step src.Binding (piece.index_in n (number v)) (piece.LoadNow ∷ ways.entering w.routine b w.todo) (top (below s.run.operands)) (below (below s.run.operands)) s)) (sym f.0) (picked n p b (nat_lt s.run.elements n) refl f.1 l h m)
      onward Reads x b c f l h m = record { run = inl (inr (read x b c f l h m)); callers = callers; env = env }

      go_on : NowStep tb P Q (quiet.quiet source s)
      go_on = subst (λ l. NowStep tb P Q (quiet.act_todo source l s)) (sym w.control) (onward w.stage w.site w.written w.control w.found w.leaves w.behind w.elements)

    -- one who has loaded what it ends

    enters_now : Enters tb Q s → NowStep tb P Q (quiet.quiet source s)
    enters_now e = by e.control
      where
        by : (s.run.control ≡ piece.EnterNow DESTRUCTOR e.routine ∷ e.todo) ⊎ (s.run.control ≡ piece.TickNow ∷ (piece.EnterNow DESTRUCTOR e.routine ∷ e.todo)) → NowStep tb P Q (quiet.quiet source s)
        by (inl c) =
            subst (λ l. NowStep tb P Q (quiet.act_todo source l s)) (sym c) (free_now tb P Q (quiet.act source (piece.EnterNow DESTRUCTOR e.routine) e.todo s) (steps.enter tb s callers env DESTRUCTOR (slice_get source.routines e.routine) e.todo e.free))
        by (inr c) =
            subst (λ l. NowStep tb P Q (quiet.act_todo source l s)) (sym c) (record { run = inr (record { routine = e.routine; todo = e.todo; control = inl refl; free = e.free; params = e.params; told = e.told }); callers = callers; env = env })

  pub walk : (s : State) → P s → NowBy tb P Q s → NowStep tb P Q (quiet.quiet source s)
  walk s held h = by_run h.run
    where
      by : (l : List Todo) → s.run.control ≡ l → FreeList tb s.run.control → NowStep tb P Q (quiet.act_todo source l s)
      by [] e c = free_now tb P Q (quiet.act_todo source [] s) (steps.returned tb s h.callers h.env _ s.callers h.callers c)
      by (p ∷ todo) e c = let n : FreeList tb (p ∷ todo) = subst (FreeList tb) e c in first s h.callers h.env held p todo e n.0 n.1 c

      by_run : (FreeActive tb s.run ⊎ Enters tb Q s) ⊎ Way tb P s → NowStep tb P Q (quiet.quiet source s)
      by_run (inl (inl c)) = by s.run.control refl c
      by_run (inl (inr e)) = enters_now s h.callers h.env e
      by_run (inr w) = go_on s h.callers h.env held w

  -- rides

  pub ridden : {s u : State} {q k : ℕ} {a : Asked} (d : Rides source s q u k a) → RideMeets P source s q u k a d → NowBy tb P Q s → (q ≡ 0 → RestState tb Q s) → RestBy tb Q a.request u × RideMeets (NowBy tb P Q) source s q u k a d
  ridden rides.slices m h f = (f refl, tt)
  ridden (rides.goes_on {s} {t} e d) m h f =
      let k = ridden d m.1 (subst (NowStep tb P Q) e (walk s m.0 h)) (λ q. absurd (cc)) in
      (k.0, (h, k.1))
  ridden (rides.ticks {s} {t} e d) m h f =
      let g : RestState tb Q t = subst (NowStep tb P Q) e (walk s m.0 h) in
      let k = ridden d m.1 (now_rest tb P Q t g) (λ q. g) in
      (k.0, (h, k.1))
  ridden (rides.asks {s} {t} {q} {r} e) m h f = (asked_rest tb P Q r t (subst (NowStep tb P Q) e (walk s m h)), h)

  pub led : {s u : State} (l : Leads source s u) → LeadsMeet P source s u l → NowBy tb P Q s → NowBy tb P Q u × LeadsMeet (NowBy tb P Q) source s u l
  led runs.stays m h = (h, tt)
  led (runs.goes {s} {u} e l) m h =
      let k = led l m.1 (subst (NowStep tb P Q) e (walk s m.0 h)) in
      (k.0, (h, k.1))
  led (runs.ticks {s} {u} e l) m h =
      let k = led l m.1 (now_rest tb P Q u (subst (NowStep tb P Q) e (walk s m.0 h))) in
      (k.0, (h, k.1))

module _ (tb : Table) (source : Source) (known : FreeSource tb source) where
  begins : (o : ℕ) (r : Option Routine) → FreeRoutine tb r → FreeState tb (first_state (routine_or_none r) o)
  begins o None h = record { run = (tt, (tt, tt)); callers = tt; env = record { house = (tt, tt); hand = tt } }
  begins o (Some r) h = record { run = steps.routine tb r h; callers = tt; env = record { house = (tt, tt); hand = tt } }

  -- a task begins so
  pub first_free : (r o : ℕ) → FreeState tb (first_state (routine_of source r) o)
  first_free r o = begins o (slice_get source.routines r) (known r)

-- answers bring operands, and at most an object in which nothing is to do

more_hand : (tb : Table) (hand : List (ℕ × Members)) (o : ℕ) (m : Members) → RestsParked (FreeActive tb) (FreeActive tb) m.parked → RestsHand (FreeActive tb) (FreeActive tb) hand → RestsHand (FreeActive tb) (FreeActive tb) (hand ++ (o, m) ∷ [])
more_hand tb [] o m h k = (h, tt)
more_hand tb (p ∷ hand) o m h k = (k.0, more_hand tb hand o m h k.1)

new_free : (tb : Table) (source : Source) (todo : List Todo) → FreeMembers tb (new_members source todo)
new_free tb source [] = tt
new_free tb source (piece.BindMadeNow c r ∷ todo) = tt
new_free tb source (p ∷ todo) = tt

entered_free : (tb : Table) (m : Option Members) (o : ℕ) (s : State) → FreeMembers tb m → FreeState tb s → FreeState tb (with_operand (piece.Object o) (entered m o s))
entered_free tb None o s k h = record { run = h.run; callers = h.callers; env = h.env }
entered_free tb (Some m) o s k h = record { run = h.run; callers = h.callers; env = record { house = h.env.house; hand = more_hand tb s.env.hand o m k h.env.hand } }

pub answered_free : (tb : Table) (source : Source) (given : Answer) (s : State) → FreeState tb s → FreeState tb (answered source given s)
answered_free tb source (answer.Object o) s h = entered_free tb (new_members source s.run.control) o s (new_free tb source s.run.control) h
answered_free tb source (answer.Number n) s h = record { run = h.run; callers = h.callers; env = h.env }
answered_free tb source (answer.Value n failed) s h = record { run = h.run; callers = h.callers; env = h.env }
answered_free tb source (answer.Clause k failed) s h = record { run = h.run; callers = h.callers; env = h.env }
answered_free tb source (answer.Event n x y) s h = record { run = h.run; callers = h.callers; env = h.env }
answered_free tb source answer.Nothing s h = record { run = h.run; callers = h.callers; env = h.env }
answered_free tb source answer.Go s h = h
