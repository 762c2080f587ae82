-- Every quiet step of a task in which nothing that is to do binds a made object, but what it does first.
use Rattle.std.proofs.Common.{◌≡◌, ℕ, ◌<◌, ◌≤◌, List, [], ◌∷◌, ◌++◌, drop, Option, Some, None, refl, sym, ◌∙◌, subst, arith}
use Rattle.std.specs.Prelude.{nat_lt, slice_get}
use Rattle.uc_tree.specs.Source as src
use Rattle.uc_tree.specs.Source.{Source, Stmts, routine_of}
use Rattle.uc_entry.specs.declared.request.Answer.{Answer}
use Rattle.uc_entry.specs.declared.request.Answer.TheVariants as answer
use Rattle.uc_entry.specs.declared.request.Asked.{Asked}
use Rattle.uc_entry.specs.declared.request.Request.{Request}
use Rattle.uc_entry.specs.declared.request.Request.TheVariants as ask
use Rattle.uc_machine.specs.Executions.{take_operands, values_cleared}
use Rattle.uc_machine.specs.Raising as raising
use Rattle.uc_machine.specs.Monitors as monitors
use Rattle.uc_machine.specs.Quiet as quiet
use Rattle.uc_machine.specs.Quiet.{first_state}
use Rattle.uc_machine.specs.Pieces as piece
use Rattle.uc_machine.specs.Pieces.{Value, Todo, Active, State, Members, Asks, at, top, number}
use Rattle.uc_machine.specs.Answering.{answered, entered, new_members, with_hand}
use Rattle.uc_machine.specs.Rides as rides
use Rattle.uc_machine.specs.Rides.{Rides}
use Rattle.uc_site_laws.specs.Resting.{AllWait, RestsParked, RestsHand, RestsEnv}
use Rattle.uc_site_laws.proofs.Kept as kept
use Rattle.uc_site_laws.proofs.Kept.{either}
use Rattle.uc_answer_laws.specs.Suiting.{IsForm, form_of_request}
use Rattle.uc_state_laws.specs.RoomRuns as runs
use Rattle.uc_state_laws.specs.RoomRuns.{Leads}
use Rattle.uc_state_laws.specs.Opens.{RideMeets, LeadsMeet}
use Rattle.uc_life_laws.specs.Homes.{made_at}
use Rattle.uc_life_laws.specs.MadeObjects.{BindsNone, BindsNext, NoneActive, NoneMembers, NoneState, NextState, NoneStep, BindsAt, Binds, BindsFirst, FirstState, RestsBy}
use Rattle.uc_life_laws.proofs.MadeSteps as steps
use Rattle.uc_life_laws.proofs.MadeSteps.{calm}

module _ (source : Source) where
  module _ (s : State) (callers : AllWait NoneActive NoneActive s.callers) (env : RestsEnv NoneActive NoneActive s.env) where
    go : (todo : List Todo) (vs : List Value) → BindsNone todo → NoneState (at todo vs s)
    go = steps.go s callers env

    -- the statements that are left of a block
    rests : (ss : Stmts) (todo : List Todo) → BindsNone todo → NoneStep (quiet.rest_step ss todo s)
    rests src.Nil todo h = go _ _ h
    rests (src.Then a ss) todo h = go _ _ h
    rests (src.Scoped c ss) todo h = go _ _ h
    rests (src.Built c ss) todo h = go _ _ h

    -- one piece, with what is to do behind it
    pub acts : (p : Todo) (todo : List Todo) → BindsNone todo → BindsNone s.run.control → NoneStep (quiet.act source p todo s)
    acts (piece.Eval a) todo h c = steps.eval s callers env a todo h
    acts (piece.ElementNow m k) todo h c = steps.element s callers env k _ todo _ _ h
    acts piece.NegateNow todo h c = steps.outcome s callers env _ todo _ h
    acts (piece.OperateNow op) todo h c = steps.outcome s callers env _ todo _ h
    acts piece.StoreNow todo h c = steps.go_in s callers env _ _ _ (steps.write s callers env _ _) h
    acts piece.KeepNow todo h c = steps.go_in s callers env _ _ _ (steps.write s callers env _ _) h
    acts (piece.SetNow k) todo h c = steps.go_in s callers env _ _ _ (steps.write s callers env (piece.variable_at k s) (piece.Number (number (top s.run.operands)))) h
    acts piece.BindNow todo h c = steps.go_in s callers env _ _ _ (steps.write s callers env _ _) h
    acts (piece.Arguments src.NoExprs) todo h c = go _ _ h
    acts (piece.Arguments (src.MoreExprs a es)) todo h c = go _ _ h
    acts (piece.CallNow r) todo h c = steps.call s callers env (slice_get source.routines r) todo h
    acts (piece.CallOnNow r) todo h c = steps.call_on s callers env (slice_get source.routines r) todo h
    acts (piece.CallUnwrittenNow r) todo h c = steps.call_unwritten s callers env (slice_get source.routines r) todo h
    acts (piece.CountNow m) todo h c = record { run = h; callers = callers; env = env }
    acts piece.MoreNow todo h c = record { run = h; callers = callers; env = env }
    acts (piece.FillNow m b d) todo h c = go _ _ (steps.filled (nat_lt s.run.elements m) m b d todo h)
    acts (piece.Again order t step b) todo h c = go _ _ (either BindsNone (piece.is_zero (number (top s.run.operands))) todo (piece.TurnNow order t step b ∷ todo) h h)
    acts (piece.PrintNow form) todo h c = steps.prints s callers env s.env.gathered _ todo _ h
    acts (piece.TextNow k) todo h c = steps.prints s callers env s.env.gathered _ todo _ h
    acts piece.GatherNow todo h c = steps.go_in s callers env _ _ _ (steps.same s callers env refl refl) h
    acts piece.FlushNow todo h c = steps.flushes s callers env s.env.gathered todo _ h
    acts (piece.ClearNow k m) todo h c = steps.go_in s callers env _ _ _ (kept.owned_rests NoneActive NoneActive calm (piece.this_frame s) (values_cleared k m piece.nought) s.env env) h
    acts (piece.Items []) todo h c = go _ _ h
    acts (piece.Items (i ∷ is)) todo h c = go _ _ (steps.item i (piece.Items is ∷ todo) h)
    acts (piece.Values []) todo h c = go _ _ h
    acts (piece.Values (i ∷ is)) todo h c = go _ _ (steps.item_value i (piece.Values is ∷ todo) h)
    acts (piece.Pieces []) todo h c = go _ _ h
    acts (piece.Pieces (i ∷ is)) todo h c = go _ _ (steps.item_piece i todo h)
    acts (piece.Targets []) todo h c = go _ _ h
    acts (piece.Targets (x ∷ xs)) todo h c = go _ _ h
    acts (piece.Variables []) todo h c = go _ _ h
    acts (piece.Variables (d ∷ ds)) todo h c = go _ _ (steps.starts d.cell d.value (piece.Variables ds ∷ todo) h)
    acts (piece.Do a) todo h c = steps.stmt s callers env a todo h
    acts (piece.Rest ss) todo h c = rests ss todo h
    acts (piece.Exit w) todo h c = steps.exits s callers env w todo h c
    acts (piece.InLoop order t step b) todo h c = go _ _ (steps.stepped step _ (steps.tested order t step b todo h))
    acts (piece.Clean x) todo h c = go _ _ (steps.cleans x todo h)
    acts (piece.Sweep a) todo h c = steps.swept s callers env s.run.elements a todo h
    acts piece.Unwind todo h c = steps.unwinds s callers env todo h c
    acts piece.ThrowNow todo h c = steps.throws s callers env (raising.event_in s.run.operands) todo h
    acts piece.RaiseNow todo h c = steps.raises s callers env (raising.event_in s.run.operands) todo h
    acts (piece.SetUpNow r) todo h c = steps.set_up s callers env (slice_get source.routines r) todo h
    acts piece.EnlivenNow todo h c = steps.go_in s callers env _ _ _ (kept.enlivened_rests NoneActive NoneActive calm (piece.own_exec s) s.env env) h
    acts piece.TakeDownNow todo h c = steps.moved s callers env _ todo _ h (kept.take_down_rests NoneActive NoneActive calm (piece.own_exec s) (at todo s.run.operands s) (go _ _ h))
    acts piece.ForgetNow todo h c = steps.go_in s callers env _ _ _ (kept.forgotten_rests NoneActive NoneActive calm (piece.own_exec s) s.env env) h
    acts (piece.LiveNow r) todo h c = steps.live s callers env (slice_get source.routines r) todo h
    acts piece.ResumeNow todo h c = steps.moved s callers env _ (piece.Land ∷ todo) _ h (kept.wake_rests NoneActive NoneActive calm (quiet.resumed s) (at (piece.Land ∷ todo) s.run.operands s) (go _ _ h))
    acts piece.SuspendNow todo h c = steps.moved s callers env _ (piece.Land ∷ todo) _ h (kept.suspend_rests NoneActive NoneActive calm (at (piece.Land ∷ todo) s.run.operands s) (go _ _ h))
    acts piece.Land todo h c = steps.land s callers env s.run.raised todo h
    acts (piece.EnterNow m r) todo h c = steps.enter s callers env m (slice_get source.routines r) todo h
    acts piece.LeaveNow todo h c = steps.leave s callers env _ (monitors.this_object s) todo h
    acts (piece.MakeNow k r) todo h c = steps.make s callers env k r (slice_get source.routines r) todo h
    acts (piece.BindMadeNow k r) todo h c = steps.bind s callers env (slice_get source.routines r) todo h
    acts piece.MadeNow todo h c = steps.unless s callers env (monitors.this_object s) _ todo h (steps.go_in s callers env _ _ _ (steps.same s callers env refl refl) h)
    acts (piece.SpawnNow r) todo h c = steps.unless s callers env (monitors.this_object s) _ (piece.ChildNow r ∷ todo) h (steps.go_in s callers env _ _ _ (steps.same s callers env refl refl) h)
    acts piece.GoneNow todo h c = steps.go_in s callers env _ _ _ (steps.same s callers env refl refl) h
    acts piece.GiveUpNow todo h c = steps.go_in s callers env _ _ _ (steps.same s callers env refl refl) h
    acts (piece.ConditionNow k m) todo h c = steps.condition s callers env k _ todo h
    acts piece.WaitNow todo h c = steps.unless s callers env (monitors.this_object s) _ todo h (go _ _ h)
    acts piece.SignalBlockNow todo h c = steps.unless s callers env (monitors.this_object s) _ todo h (go _ _ h)
    acts (piece.Guards src.NoClauses) todo h c = go _ _ h
    acts (piece.Guards (src.Otherwise b)) todo h c = go _ _ h
    acts (piece.Guards (src.MoreClauses guard b cs)) todo h c = go _ _ h
    acts (piece.AcceptNow site m) todo h c = steps.accept_by s callers env (monitors.mask_of (take_operands piece.Nothing m s.run.operands [])) (monitors.this_object s) site todo (drop m s.run.operands) h
    acts piece.FailedNow todo h c = steps.failed s callers env _ todo _ h
    acts (piece.ChooseNow cs) todo h c = go _ _ (steps.branch _ cs todo h)
    acts piece.RaiseAtNow todo h c = steps.raise_at s callers env _ _ todo _ h
    acts (piece.EnableNow events cell) todo h c = steps.enables s callers env _ cell todo h
    acts (piece.DisableNow events cell) todo h c = steps.enables s callers env _ cell todo h
    acts (piece.RestoreNow cell) todo h c = steps.go_in s callers env _ _ _ (steps.same s callers env refl refl) h
    acts piece.PollNow todo h c = steps.poll s callers env todo h
    acts piece.DeliverNow todo h c = steps.deliver s callers env _ todo h
    acts piece.Finish todo h c = steps.unless s callers env s.env.own _ todo h (steps.returned s callers env _ s.callers callers c)
    acts piece.FinishCoroutine todo h c = steps.moved s callers env _ todo _ h (kept.finish_rests NoneActive NoneActive calm (at todo s.run.operands s) (go _ _ h))
    acts p todo h c = go _ _ h

  -- behind a step that comes first nothing binds a made object
  pub walk : (homes : ℕ → Value) (many : ℕ) (s : State) → FirstState source homes many s → NoneStep (quiet.quiet source s)
  walk homes many s x = by s.run.control refl
    where
      none : (p : Todo) (todo : List Todo) → s.run.control ≡ p ∷ todo → BindsNone (p ∷ todo) → NoneStep (quiet.act source p todo s)
      none p todo e h = acts s x.callers x.env p todo (steps.behind p todo h) (subst BindsNone (sym e) h)

      first : (p : Todo) (todo : List Todo) → s.run.control ≡ p ∷ todo → BindsFirst source homes many (p ∷ todo) s.run.operands → NoneStep (quiet.act source p todo s)
      first (piece.BindMadeNow c r) todo e h = steps.bind s x.callers x.env (slice_get source.routines r) todo h.1
      first p todo e h = none p todo e h

      by : (l : List Todo) → s.run.control ≡ l → NoneStep (quiet.act_todo source l s)
      by [] e = steps.returned s x.callers x.env _ s.callers x.callers (subst BindsNone (sym e) tt)
      by (p ∷ todo) e = first p todo e (subst (λ l. BindsFirst source homes many l s.run.operands) e x.run)

  -- where the first one binds nothing, either
  none_first : (homes : ℕ → Value) (many : ℕ) (todo : List Todo) (vs : List Value) → BindsNone todo → BindsFirst source homes many todo vs
  none_first homes many [] vs h = h
  none_first homes many (piece.BindMadeNow c r ∷ todo) vs h = absurd h
  none_first homes many (p ∷ todo) vs h = h

  pub first_none : (homes : ℕ → Value) (many : ℕ) (s : State) → NoneState s → FirstState source homes many s
  first_none homes many s h = record { run = none_first homes many s.run.control s.run.operands h.run; callers = h.callers; env = h.env }

  pub binds_first : (homes : ℕ → Value) (many : ℕ) (s : State) → FirstState source homes many s → Binds source homes many s
  binds_first homes many s x = by s.run.control x.run
    where
      by : (l : List Todo) → BindsFirst source homes many l s.run.operands → BindsAt source homes many l s
      by [] h = tt
      by (piece.BindMadeNow c r ∷ todo) h = h.0
      by (p ∷ todo) h = tt

  -- what a step asks
  pub asked_rests : (homes : ℕ → Value) (many : ℕ) (r : Request) (s : State) → NoneStep (Asks r s) → RestsBy source homes many r s
  asked_rests homes many (ask.Make m) s h = h
  asked_rests homes many ask.Slice s h = first_none homes many s h
  asked_rests homes many r s h = h

  -- with homes of more objects
  pub first_more : (homes more : ℕ → Value) (few many : ℕ) → ((o : ℕ) → o < few → more o ≡ homes o) → few ≤ many → (s : State) → FirstState source homes few s → FirstState source more many s
  first_more homes more few many same le s x = record { run = by s.run.control x.run; callers = x.callers; env = x.env }
    where
      by : (l : List Todo) → BindsFirst source homes few l s.run.operands → BindsFirst source more many l s.run.operands
      by [] h = h
      by (piece.BindMadeNow c r ∷ todo) h =
          let i = h.0 in
          let b = i.made in
          (record { number = i.number; made = omega (arith, b, le); object = i.object; home = same i.number b ∙ i.home }, h.1)
      by (p ∷ todo) h = h

  pub rests_more : (homes more : ℕ → Value) (few many : ℕ) → ((o : ℕ) → o < few → more o ≡ homes o) → few ≤ many → (r : Request) (s : State) → RestsBy source homes few r s → RestsBy source more many r s
  rests_more homes more few many same le ask.Slice s h = first_more homes more few many same le s h
  rests_more homes more few many same le r s h = h

pub begins_none : (source : Source) (r o : ℕ) → NoneState (first_state (routine_of source r) o)
begins_none source r o = record { run = steps.routine (routine_of source r); callers = tt; env = record { house = (tt, tt); hand = tt } }

-- answers bring operands, and at most an object in which nothing is to do

more_hand : (hand : List (ℕ × Members)) (o : ℕ) (m : Members) → RestsParked NoneActive NoneActive m.parked → RestsHand NoneActive NoneActive hand → RestsHand NoneActive NoneActive (hand ++ (o, m) ∷ [])
more_hand [] o m h k = (h, tt)
more_hand (p ∷ hand) o m h k = (k.0, more_hand hand o m h k.1)

new_none : (source : Source) (todo : List Todo) → NoneMembers (new_members source todo)
new_none source [] = tt
new_none source (piece.BindMadeNow c r ∷ todo) = tt
new_none source (p ∷ todo) = tt

entered_env : (m : Option Members) (o : ℕ) (s : State) → NoneMembers m → RestsEnv NoneActive NoneActive s.env → RestsEnv NoneActive NoneActive (entered m o s).env
entered_env None o s k h = h
entered_env (Some m) o s k h = record { house = h.house; hand = more_hand s.env.hand o m k h.hand }

entered_control : (m : Option Members) (o : ℕ) (s : State) → (entered m o s).run ≡ s.run
entered_control None o s = refl
entered_control (Some m) o s = refl

entered_callers : (m : Option Members) (o : ℕ) (s : State) → (entered m o s).callers ≡ s.callers
entered_callers None o s = refl
entered_callers (Some m) o s = refl

answered_none : (source : Source) (given : Answer) (s : State) → NoneState s → NoneState (answered source given s)
answered_none source (answer.Object o) s h =
    let m = new_members source s.run.control in
    record {
      run = subst NoneActive (sym (entered_control m o s)) h.run;
      callers = subst (AllWait NoneActive NoneActive) (sym (entered_callers m o s)) h.callers;
      env = entered_env m o s (new_none source s.run.control) h.env;
    }
answered_none source (answer.Number n) s h = record { run = h.run; callers = h.callers; env = h.env }
answered_none source (answer.Value n failed) s h = record { run = h.run; callers = h.callers; env = h.env }
answered_none source (answer.Clause k failed) s h = record { run = h.run; callers = h.callers; env = h.env }
answered_none source (answer.Event n x y) s h = record { run = h.run; callers = h.callers; env = h.env }
answered_none source answer.Nothing s h = record { run = h.run; callers = h.callers; env = h.env }
answered_none source answer.Go s h = h

module _ (source : Source) (homes : ℕ → Value) (many : ℕ) where
  -- who is told the object that it has asked for binds it next
  next_first : (o : ℕ) (l : List Todo) (vs : List Value) → o < many → homes o ≡ made_at source l vs → BindsNext l → BindsFirst source homes many l (piece.Object o ∷ vs)
  next_first o [] vs l e h = absurd h
  next_first o (piece.BindMadeNow c r ∷ todo) vs l e h = (record { number = o; made = l; object = refl; home = e }, h)
  next_first o (p ∷ todo) vs l e h = absurd h

  told_object : (o : ℕ) (s : State) → o < many → homes o ≡ made_at source s.run.control s.run.operands → NextState s → FirstState source homes many (answered source (answer.Object o) s)
  told_object o s l e h =
      let m = new_members source s.run.control in
      record {
        run = subst (λ (a : Active). BindsFirst source homes many a.control (piece.Object o ∷ a.operands)) (sym (entered_control m o s)) (next_first o s.run.control s.run.operands l e h.run);
        callers = subst (AllWait NoneActive NoneActive) (sym (entered_callers m o s)) h.callers;
        env = entered_env m o s (new_none source s.run.control) h.env;
      }

  -- who goes on with an answer of the form that it has asked for
  pub answered_first : (r : Request) (given : Answer) (s : State) → IsForm (form_of_request r) given → ((m o : ℕ) → r ≡ ask.Make m → given ≡ answer.Object o → (o < many) × (homes o ≡ made_at source s.run.control s.run.operands)) → RestsBy source homes many r s → FirstState source homes many (answered source given s)
  answered_first (ask.Make m) (answer.Object o) s f t h = let k = t m o refl refl in told_object o s k.0 k.1 h
  answered_first (ask.Make m) given s f t h = absurd f
  answered_first ask.Slice answer.Go s f t h = h
  answered_first ask.Slice given s f t h = absurd f
  answered_first r given s f t h = first_none source homes many (answered source given s) (answered_none source given s h)

  -- with another hand
  pub handed : (r : Request) (hand : List (ℕ × Members)) (s : State) → RestsHand NoneActive NoneActive hand → RestsBy source homes many r s → RestsBy source homes many r (with_hand hand s)
  handed (ask.Make m) hand s k h = record { run = h.run; callers = h.callers; env = record { house = h.env.house; hand = k } }
  handed ask.Slice hand s k h = record { run = h.run; callers = h.callers; env = record { house = h.env.house; hand = k } }
  handed r hand s k h = record { run = h.run; callers = h.callers; env = record { house = h.env.house; hand = k } }

  -- what an execution at home in an object does is told behind any request
  pub env_of : (r : Request) (s : State) → RestsBy source homes many r s → RestsEnv NoneActive NoneActive s.env
  env_of (ask.Make m) s h = h.env
  env_of ask.Slice s h = h.env
  env_of r s h = h.env

  -- a ride
  pub ridden : {s u : State} {q k : ℕ} {a : Asked} (d : Rides source s q u k a) → FirstState source homes many s → RestsBy source homes many a.request u × RideMeets (Binds source homes many) source s q u k a d
  ridden rides.slices h = (h, tt)
  ridden (rides.goes_on {s} {t} e d) h =
      let k = ridden d (first_none source homes many t (subst NoneStep e (walk source homes many s h))) in
      (k.0, (binds_first source homes many s h, k.1))
  ridden (rides.ticks {s} {t} e d) h =
      let k = ridden d (first_none source homes many t (subst NoneStep e (walk source homes many s h))) in
      (k.0, (binds_first source homes many s h, k.1))
  ridden (rides.asks {s} {t} {r = r} e) h =
      (asked_rests source homes many r t (subst NoneStep e (walk source homes many s h)), binds_first source homes many s h)

  pub led : {s u : State} (l : Leads source s u) → FirstState source homes many s → FirstState source homes many u × LeadsMeet (Binds source homes many) source s u l
  led runs.stays h = (h, tt)
  led (runs.goes {s} {u} e l) h =
      let k = led l (first_none source homes many u (subst NoneStep e (walk source homes many s h))) in
      (k.0, (binds_first source homes many s h, k.1))
  led (runs.ticks {s} {u} e l) h =
      let k = led l (first_none source homes many u (subst NoneStep e (walk source homes many s h))) in
      (k.0, (binds_first source homes many s h, k.1))
