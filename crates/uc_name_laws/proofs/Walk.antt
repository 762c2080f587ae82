-- Every quiet step of a task whose names are of executions that were made.
use Rattle.std.proofs.Common.{◌≡◌, ℕ, ◌⊎◌, inl, inr, Bool, true, false, List, [], ◌∷◌, Some, refl, sym, ap, ◌∙◌, subst, arith, ⊎_elim}
use Rattle.std.specs.Prelude.{slice_get}
use Rattle.uc_tree.specs.Source as src
use Rattle.uc_tree.specs.Source.{Source, Routine}
use Rattle.uc_entry.specs.declared.fault.RunFault.TheVariants.{NoReturn}
use Rattle.uc_machine.specs.declared.exec.Exec.{Exec}
use Rattle.uc_machine.specs.declared.exec.Home.{Home}
use Rattle.uc_machine.specs.Executions.{members_at}
use Rattle.uc_machine.specs.Switches as sw
use Rattle.uc_machine.specs.Raising as raising
use Rattle.uc_machine.specs.Monitors as monitors
use Rattle.uc_machine.specs.Quiet as quiet
use Rattle.uc_machine.specs.Pieces as piece
use Rattle.uc_machine.specs.Pieces.{Value, Todo, State, Step, Members, at, top, below, number}
use Rattle.uc_name_laws.specs.Below.{IsBelow, IsNamed, AreNamed}
use Rattle.uc_name_laws.specs.NameSteps.{Named, StepNamed, Grows, IsBorn, BornBelow, NamedBehind, SparesAt, Spares, LawSteps}
use Rattle.uc_name_laws.proofs.Homes.{no_both}
use Rattle.uc_name_laws.proofs.Values.{named_top, named_below, named_drop, named_further}
use Rattle.uc_name_laws.proofs.Keeping.{loaded_named}
use Rattle.uc_name_laws.proofs.Switching.{wake_named, suspend_named, finish_named}
use Rattle.uc_name_laws.proofs.Goods.{good_cleared, good_enlivened, good_forgotten, take_down_named}
use Rattle.uc_name_laws.proofs.Births.{HasMade, set_up}
use Rattle.uc_name_laws.proofs.Steps as steps

-- whether an execution is made next
abbrev is_birth : Todo → Bool
is_birth (piece.SetUpNow r) = true
is_birth p = false

module _ (source : Source) (here : Home → Bool) (sure : Bool) (serials : Home → ℕ) where
  module _ (s : State) (h : Named here sure serials s) where
    go : (todo : List Todo) (vs : List Value) → AreNamed serials vs → Named here sure serials (at todo vs s)
    go = steps.go here sure serials s h

    ops : AreNamed serials s.run.operands
    ops = steps.ops here sure serials s h

    newest : IsNamed serials (top s.run.operands)
    newest = named_top serials s.run.operands ops

    left : AreNamed serials (below s.run.operands)
    left = named_below serials s.run.operands ops

    next : IsNamed serials (top (below s.run.operands))
    next = named_top serials (below s.run.operands) left

    rest : AreNamed serials (below (below s.run.operands))
    rest = named_below serials (below s.run.operands) left

    -- one piece, with what is to do behind it
    acts : (p : Todo) (todo : List Todo) → is_birth p ≡ false → (sure ≡ true → SparesAt (p ∷ todo) s) → StepNamed here sure serials (quiet.act source p todo s)
    acts (piece.Eval a) todo b f = steps.eval here sure serials s h a todo
    acts piece.LoadNow todo b f = go _ _ (loaded_named serials here (top s.run.operands) s.env h.names.env_named, left)
    acts (piece.ElementNow n k) todo b f = steps.element here sure serials s h k _ todo _ _ next rest
    acts (piece.FieldNow k i) todo b f = go _ _ (named_further serials (piece.FieldAt k i) (top s.run.operands) newest, left)
    acts piece.NegateNow todo b f = steps.outcome here sure serials s h _ todo _ left
    acts piece.NotNow todo b f = go _ _ (tt, left)
    acts piece.CharacterNow todo b f = go _ _ (tt, left)
    acts piece.TruthNow todo b f = go _ _ (tt, left)
    acts (piece.OperateNow op) todo b f = steps.outcome here sure serials s h _ todo _ rest
    acts piece.CopyNow todo b f = go _ _ (newest, ops)
    acts piece.CopyBelowNow todo b f = go _ _ (next, ops)
    acts piece.DropNow todo b f = go _ _ left
    acts piece.DropBelowNow todo b f = go _ _ (newest, rest)
    acts piece.StoreNow todo b f = steps.go_in here sure serials s h _ _ _ rest (steps.write here sure serials s h (top (below s.run.operands)) (piece.Number (number (top s.run.operands))) tt)
    acts piece.KeepNow todo b f = steps.go_in here sure serials s h _ _ _ (newest, rest) (steps.write here sure serials s h (top (below s.run.operands)) (piece.Number (number (top s.run.operands))) tt)
    acts (piece.SetNow k) todo b f = steps.go_in here sure serials s h _ _ _ ops (steps.write here sure serials s h (piece.variable_at k s) (piece.Number (number (top s.run.operands))) tt)
    acts piece.BindNow todo b f = steps.go_in here sure serials s h _ _ _ (newest, rest) (steps.write here sure serials s h (top (below s.run.operands)) (top s.run.operands) newest)
    acts (piece.Choose x y) todo b f = go _ _ left
    acts (piece.Branch x y) todo b f = go _ _ left
    acts (piece.Arguments src.NoExprs) todo b f = go _ _ ops
    acts (piece.Arguments (src.MoreExprs e es)) todo b f = go _ _ ops
    acts (piece.CallNow r) todo b f = steps.call here sure serials s h (slice_get source.routines r) todo
    acts (piece.CallOnNow r) todo b f = steps.call_on here sure serials s h (slice_get source.routines r) todo
    acts (piece.CallUnwrittenNow r) todo b f = steps.call_unwritten here sure serials s h (slice_get source.routines r) todo
    acts (piece.CountNow n) todo b f = steps.counts here sure serials s h n todo
    acts piece.MoreNow todo b f = steps.counts here sure serials s h _ todo
    acts (piece.Again o t e x) todo b f = go _ _ left
    acts (piece.PrintNow x) todo b f = steps.prints here sure serials s h s.env.gathered _ todo _ left
    acts (piece.TextNow k) todo b f = steps.prints here sure serials s h s.env.gathered _ todo _ ops
    acts piece.GatherNow todo b f = steps.go_in here sure serials s h _ _ _ ops (steps.gathers here sure serials s h _)
    acts piece.FlushNow todo b f = steps.flushes here sure serials s h s.env.gathered todo _ ops
    acts (piece.ReadNow x) todo b f = (go _ _ ops, tt)
    acts (piece.ClearNow k n) todo b f = steps.go_in here sure serials s h _ _ _ ops (good_cleared here sure serials (piece.this_frame s) k n s.env (steps.env here sure serials s h))
    acts (piece.Items []) todo b f = go _ _ ops
    acts (piece.Items (i ∷ is)) todo b f = go _ _ ops
    acts (piece.Values []) todo b f = go _ _ ops
    acts (piece.Values (i ∷ is)) todo b f = go _ _ ops
    acts (piece.Pieces []) todo b f = go _ _ ops
    acts (piece.Pieces (i ∷ is)) todo b f = go _ _ ops
    acts (piece.Targets []) todo b f = go _ _ ops
    acts (piece.Targets (t ∷ ts)) todo b f = go _ _ ops
    acts (piece.Variables []) todo b f = go _ _ ops
    acts (piece.Variables (d ∷ ds)) todo b f = go _ _ ops
    acts (piece.Do a) todo b f = steps.stmt here sure serials s h a todo
    acts (piece.Rest ss) todo b f = steps.rest here sure serials s h ss todo
    acts (piece.Exit w) todo b f = steps.exits here sure serials s h w todo
    acts piece.NoReturnNow todo b f = steps.stop here sure serials s h NoReturn todo _ ops
    acts (piece.Sweep e) todo b f = steps.swept here sure serials s h s.run.elements e todo
    acts piece.Unwind todo b f = steps.unwinds here sure serials s h todo
    acts piece.ThrowNow todo b f = steps.throws here sure serials s h (raising.event_in s.run.operands) todo
    acts piece.RaiseNow todo b f = steps.raises here sure serials s h (raising.event_in s.run.operands) todo
    acts (piece.SetUpNow r) todo b f = no_both true refl b
    acts piece.EnlivenNow todo b f = steps.go_in here sure serials s h _ _ _ ops (good_enlivened here sure serials (piece.own_exec s) s.env (steps.env here sure serials s h))
    acts piece.TakeDownNow todo b f = steps.moved here sure serials s h _ todo _ ops (take_down_named here sure serials (piece.own_exec s) (at todo s.run.operands s) (go _ _ ops))
    acts piece.ForgetNow todo b f = steps.go_in here sure serials s h _ _ _ ops (good_forgotten here sure serials (piece.own_exec s) s.env f (steps.env here sure serials s h))
    acts (piece.LiveNow r) todo b f = steps.live here sure serials s h (slice_get source.routines r) todo
    acts piece.ResumeNow todo b f = steps.moved here sure serials s h _ (piece.Land ∷ todo) _ ops (wake_named here sure serials (quiet.resumed s) (at (piece.Land ∷ todo) s.run.operands s) (go _ _ ops))
    acts piece.SuspendNow todo b f = steps.moved here sure serials s h _ (piece.Land ∷ todo) _ ops (suspend_named here sure serials (at (piece.Land ∷ todo) s.run.operands s) (go _ _ ops))
    acts piece.Land todo b f = steps.land here sure serials s h s.run.raised todo
    acts (piece.EnterNow m r) todo b f = steps.enter here sure serials s h m (slice_get source.routines r) todo
    acts piece.LeaveNow todo b f = steps.leave here sure serials s h _ (monitors.this_object s) todo
    acts (piece.MakeNow k r) todo b f = steps.make here sure serials s h k r (slice_get source.routines r) todo
    acts (piece.BindMadeNow k r) todo b f = steps.bind here sure serials s h (slice_get source.routines r) todo
    acts piece.MadeNow todo b f = steps.built here sure serials s h (monitors.this_object s) _ todo (λ g. g)
    acts (piece.SpawnNow r) todo b f = steps.built here sure serials s h (monitors.this_object s) _ _ (λ g. g)
    acts piece.GoneNow todo b f = steps.gone here sure serials s h (monitors.this_object s) todo _ (steps.calls_gone here sure serials s h (monitors.this_object s))
    acts piece.GiveUpNow todo b f = steps.gone here sure serials s h (monitors.this_object s) todo _ (steps.builds_gone here sure serials s h (monitors.this_object s))
    acts piece.ClusterNow todo b f = (go _ _ ops, tt)
    acts piece.ProcessorNow todo b f = (go _ _ left, tt)
    acts piece.ClusterEndNow todo b f = (go _ _ (tt, left), tt)
    acts piece.ProcessorEndNow todo b f = (go _ _ (tt, left), tt)
    acts (piece.ConditionNow k n) todo b f = steps.condition here sure serials s h k _ todo
    acts piece.WaitNow todo b f = steps.unless here sure serials s h (monitors.this_object s) _ todo (λ g. (go _ _ (tt, rest), g))
    acts piece.SignalNow todo b f = (go _ _ (tt, left), tt)
    acts piece.SignalBlockNow todo b f = steps.unless here sure serials s h (monitors.this_object s) _ todo (λ g. (go _ _ (tt, left), g))
    acts piece.EmptyNow todo b f = (go _ _ left, tt)
    acts piece.FrontNow todo b f = (go _ _ left, tt)
    acts piece.YieldNow todo b f = (go _ _ ops, tt)
    acts piece.MigrateNow todo b f = (go _ _ left, tt)
    acts (piece.Guards src.NoClauses) todo b f = go _ _ ops
    acts (piece.Guards (src.Otherwise x)) todo b f = go _ _ ops
    acts (piece.Guards (src.MoreClauses guard x cs)) todo b f = go _ _ ops
    acts (piece.AcceptNow site n) todo b f = steps.accept here sure serials s h _ (monitors.this_object s) site todo _ (named_drop serials n s.run.operands ops)
    acts piece.FailedNow todo b f = steps.failed here sure serials s h _ todo _ left
    acts (piece.ChooseNow cs) todo b f = go _ _ left
    acts piece.RaiseAtNow todo b f = steps.raise_at here sure serials s h _ _ todo _ (named_drop serials 4 s.run.operands ops)
    acts (piece.EnableNow events cell) todo b f = steps.enables here sure serials s h _ cell todo
    acts (piece.DisableNow events cell) todo b f = steps.enables here sure serials s h _ cell todo
    acts (piece.RestoreNow cell) todo b f = steps.go_in here sure serials s h _ _ _ ops (steps.enabled here sure serials s h _)
    acts piece.PollNow todo b f = steps.poll here sure serials s h todo
    acts piece.DeliverNow todo b f = steps.deliver here sure serials s h _ todo
    acts piece.Finish todo b f = steps.unless here sure serials s h s.env.own _ todo (λ g. steps.returned here sure serials s h _ s.callers tt h.names.callers_named)
    acts piece.FinishCoroutine todo b f = steps.moved here sure serials s h _ todo _ ops (finish_named here sure serials (at todo s.run.operands s) (go _ _ ops))
    acts p todo b f = go _ _ ops

  stays : Grows here serials serials
  stays = record { more = λ q. omega arith; same = λ q e. refl }

  -- nothing is made
  none_born : (s : State) (p : Todo) (todo : List Todo) → s.run.control ≡ p ∷ todo → is_birth p ≡ false → BornBelow source serials s
  none_born s p todo e b n x =
      let same : p ∷ todo ≡ piece.SetUpNow x.main ∷ x.todo = sym e ∙ x.next in
      let it : p ≡ piece.SetUpNow x.main = cc same in
      no_both (is_birth p) (ap is_birth it) b

  empty_born : (s : State) → s.run.control ≡ [] → BornBelow source serials s
  empty_born s e n x = let no : [] ≡ piece.SetUpNow x.main ∷ x.todo = sym e ∙ x.next in absurd (cc)

  -- this one is
  one_born : (s : State) (main : ℕ) (todo : List Todo) → s.run.control ≡ piece.SetUpNow main ∷ todo → (behind : Home → ℕ) → ((x : Routine) → slice_get source.routines main ≡ Some x → (m : Members) → members_at (quiet.home_at s.run.this s.env) s.env ≡ Some m → IsBelow behind (sw.new_exec (quiet.home_at s.run.this s.env) s.env)) → BornBelow source behind s
  one_born s main todo e behind f n x =
      let same : piece.SetUpNow main ∷ todo ≡ piece.SetUpNow x.main ∷ x.todo = sym e ∙ x.next in
      let it : main ≡ x.main = cc same in
      let place : n.home ≡ quiet.home_at s.run.this s.env = ap (λ k. k.home) x.named in
      subst (IsBelow behind) (sym x.named) (f x.routine (ap (slice_get source.routines) it ∙ x.known) x.members (ap (λ k. members_at k s.env) (sym place) ∙ x.in_hand))

  one_only : (s : State) (main : ℕ) (todo : List Todo) → s.run.control ≡ piece.SetUpNow main ∷ todo → (behind : Home → ℕ) → ((n : Exec) → IsBelow behind n → IsBelow serials n ⊎ HasMade (slice_get source.routines main) (quiet.home_at s.run.this s.env) s.env n) → (n : Exec) → IsBelow behind n → IsBelow serials n ⊎ IsBorn source s n
  one_only s main todo e behind f n x =
      ⊎_elim
      (λ lt. inl lt)
      (λ m. inr (record { main = main; todo = todo; next = e; routine = m.routine; known = m.known; members = m.members; in_hand = ap (λ k. members_at k s.env) (ap (λ (q : Exec). q.home) m.named) ∙ m.in_hand; named = m.named }))
      (f n x)

  pub walk : (s : State) → Named here sure serials s → (sure ≡ true → Spares s) → NamedBehind source here sure serials s
  walk s h f = by s.run.control refl f
    where
      by : (l : List Todo) → s.run.control ≡ l → (sure ≡ true → SparesAt l s) → NamedBehind source here sure serials s
      by [] e f = record { serials = serials; grows = stays; named = subst (λ l. StepNamed here sure serials (quiet.act_todo source l s)) (sym e) (steps.returned here sure serials s h _ s.callers tt h.names.callers_named); born = empty_born s e; only = λ n x. inl x }
      by (p ∷ todo) e f = split p (is_birth p) refl e f
        where
          split : (p : Todo) (b : Bool) → is_birth p ≡ b → s.run.control ≡ p ∷ todo → (sure ≡ true → SparesAt (p ∷ todo) s) → NamedBehind source here sure serials s
          split p false b e f = record { serials = serials; grows = stays; named = subst (λ l. StepNamed here sure serials (quiet.act_todo source l s)) (sym e) (acts s h p todo b f); born = none_born s p todo e b; only = λ n x. inl x }
          split (piece.SetUpNow r) true b e f =
              let x = set_up here sure serials s h (slice_get source.routines r) todo in
              record { serials = x.serials; grows = x.grows; named = subst (λ l. StepNamed here sure x.serials (quiet.act_todo source l s)) (sym e) x.named; born = one_born s r todo e x.serials x.born; only = one_only s r todo e x.serials x.only }
          split p true b e f = no_both (is_birth p) b refl

pub law_steps : LawSteps
law_steps = record { steps = λ source here sure serials s h f. walk source here sure serials s h f }
