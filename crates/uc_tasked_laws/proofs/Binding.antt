-- A made object is bound, and then its constructor is called.
use Rattle.std.proofs.Common.{◌≡◌, ℕ, zero, suc, ◌<◌, ◌⊎◌, inl, inr, Bool, true, false, List, [], ◌∷◌, length, drop, Option, Some, None, refl, sym, ap, ◌∙◌, subst, arith}
use Rattle.std.specs.Prelude.{nat_lt, slice_get, slice_set}
use Rattle.uc_tree.specs.declared.limits.TheConstants.{CALLS}
use Rattle.uc_tree.specs.Programs.{Program}
use Rattle.uc_tree.specs.Source as src
use Rattle.uc_tree.specs.Source.{Expr, CleanUp, Stmts, Routine, Source}
use Rattle.uc_entry.specs.declared.fault.RunFault.TheVariants.{Depth}
use Rattle.uc_machine.specs.Monitors as monitors
use Rattle.uc_machine.specs.Quiet as quiet
use Rattle.uc_machine.specs.Pieces as piece
use Rattle.uc_machine.specs.Pieces.{Value, Object, Todo, Active, State, Env, top, below, written}
use Rattle.uc_state_laws.specs.Counted.{params_at, params}
use Rattle.uc_place_laws.specs.OlderResting.{AllWait, NamedEnv}
use Rattle.uc_place_laws.proofs.AsideKeeping as kept
use Rattle.uc_place_laws.proofs.AsideKeeping.{either}
use Rattle.uc_tasked_laws.specs.Seated.{ArePaired, EndsTask, Begins, SpawnsBy, SpawnsSource, OfScope, OfPart, OpensOf}
use Rattle.uc_tasked_laws.specs.Seats.{Mark, Any, At, seat, Holds, rest, rests, anys, Every, AtEnd, CalledAt, CalledBy, CodeBlock, CodeRoutine, Ok, AtDrop, AtCall}
use Rattle.uc_tasked_laws.specs.SeatedStates.{Told, IsFreeBut, Awaited, Kept, Done, Begun, Runs, Waits, Calls, Calling, Binds}
use Rattle.uc_tasked_laws.proofs.Lists as lists
use Rattle.uc_tasked_laws.proofs.Marks as marks
use Rattle.uc_tasked_laws.proofs.Marks.{holds_below, holds_drop}
use Rattle.uc_tasked_laws.proofs.Steps as steps

top_set : (n : ℕ) (v : Value) (vs : List Value) → n < length vs → top (drop n (slice_set vs n v)) ≡ v
top_set n v [] l = let x : ⊥ = omega (arith, l) in absurd x
top_set zero v (w ∷ vs) l = refl
top_set (suc n) v (w ∷ vs) l = top_set n v vs (omega (arith, l))

module _ (g : Program) (source : Source) (told : Told) (s : State) (callers : AllWait (Runs g source told) (Waits g source told) s.env.exec s.callers) (env : NamedEnv (Runs g source told) (Waits g source told) s.env) where
  abbrev D : Type 0
  D = Done g told s.env.exec s.callers

  abbrev B : Type 0
  B = Begun g told s.env.exec s.run.this s.callers

  abbrev S : ℕ → Expr → Type 0
  S d e = Kept g told s.env.exec s.run.frame s.run.this d e

  abbrev here : Expr → Value
  here e = seat s.env.exec s.run.frame s.run.this e

  -- the place is that of the seat whose scope opens
  abbrev AtSeat : ℕ → Value → ℕ → Expr → Type 0
  AtSeat r v d e = ArePaired g r d × (v ≡ here e)

  seated_at : (r : ℕ) (ns : List Mark) (ws : List Value) (todo : List Todo) → Holds s.env.exec s.run.frame s.run.this ns ws → AtDrop g source D B S (CalledBy g r ns) todo → AtDrop g source D B S (AtSeat r (top ws)) todo
  seated_at r [] ws todo k h = marks.drop_more g source D B S (λ d e. ⊥) (AtSeat r (top ws)) (λ d e x. absurd x) todo h
  seated_at r (Any ∷ ns) ws todo k h = marks.drop_more g source D B S (λ d e. ⊥) (AtSeat r (top ws)) (λ d e x. absurd x) todo h
  seated_at r (At m ∷ ns) ws todo k h = marks.drop_more g source D B S (CalledAt g r m) (AtSeat r (top ws)) (λ d e x. (x.1, subst (λ q. top ws ≡ here q) x.0 k.0)) todo h

  -- it is bound, and the constructor is called next
  abbrev Free : ℕ → ℕ → ℕ → Expr → Type 0
  Free x r d e = ArePaired g r d × (EndsTask g d → IsFreeBut told x (here e))

  module _ (ms : List Mark) (holds : Holds s.env.exec s.run.frame s.run.this ms s.run.operands) (r : ℕ) (q : Routine) (e : slice_get source.routines r ≡ Some q) (f : Binds g source told r s) where
    abbrev operands : List Value
    operands = slice_set (below s.run.operands) q.params (top s.run.operands)

    abbrev after : Env
    after = written (top (drop q.params (below s.run.operands))) (top s.run.operands) s.env

    count : params source r ≡ q.params
    count = ap params_at e

    target : (k : ℕ) → k ≡ r → top (drop (params source k) operands) ≡ Object f.object
    target k h =
        let set : top (drop (params source r) (slice_set (below s.run.operands) (params source r) (top s.run.operands))) ≡ top s.run.operands = top_set (params source r) (top s.run.operands) (below s.run.operands) f.lies in
        subst (λ m. top (drop (params source m) operands) ≡ Object f.object) (sym h) (subst (λ m. top (drop (params source r) (slice_set (below s.run.operands) m (top s.run.operands))) ≡ Object f.object) count (set ∙ f.made))

    free : (k : ℕ) (todo : List Todo) → k ≡ r → AtDrop g source D B S (CalledBy g r (rests (params source r) (rest ms))) todo → AtDrop g source D B S (Free f.object k) todo
    free k todo h m =
        let ws : List Value = drop (params source r) (below s.run.operands) in
        let lies : Holds s.env.exec s.run.frame s.run.this (rests (params source r) (rest ms)) ws = holds_drop s.env.exec s.run.frame s.run.this (params source r) (rest ms) (below s.run.operands) (holds_below s.env.exec s.run.frame s.run.this ms s.run.operands holds) in
        marks.drop_more g source D B S (AtSeat r (top ws)) (Free f.object k) (λ d e x. (subst (λ m. ArePaired g m d) (sym h) x.0, λ t. subst (IsFreeBut told f.object) x.1 f.alone)) todo (seated_at r (rests (params source r) (rest ms)) ws todo lies m)

    keeps : kept.Keeps (Runs g source told) (Waits g source told) (steps.calm g source told) s.env after
    keeps = kept.written_keeps (Runs g source told) (Waits g source told) (steps.calm g source told) (top (drop q.params (below s.run.operands))) (top s.run.operands) s.env env

    abbrev bound : List Todo → Active
    bound todo = record s.run { control = todo; operands = operands }

    comes : (todo : List Todo) → Calling g source told s.env.exec s.callers (bound todo) todo → steps.Comes g source told (record s { run = bound todo; env = after })
    comes todo h = record {
      now = inr (inr (subst (λ n. Calling g source told n s.callers (bound todo) todo) (sym keeps.exec) h));
      callers = subst (λ n. AllWait (Runs g source told) (Waits g source told) n s.callers) (sym keeps.exec) callers;
      env = keeps.env;
    }

    called : (todo : List Todo) → AtCall g source D B S r (CalledBy g r (rests (params source r) (rest ms))) todo → steps.T g source told (monitors.bind_step (Some q) todo s)
    called (piece.CallOnNow k ∷ todo) h = inr (comes (piece.CallOnNow k ∷ todo) (f.object, target k h.0, free k todo h.0 h.1))
    called (piece.CallUnwrittenNow k ∷ todo) h = inr (comes (piece.CallUnwrittenNow k ∷ todo) (f.object, target k h.0, free k todo h.0 h.1))
    called todo h = absurd h

  pub bind : (ms : List Mark) → Holds s.env.exec s.run.frame s.run.this ms s.run.operands → (c r : ℕ) (q : Option Routine) → slice_get source.routines r ≡ q → (todo : List Todo) → Binds g source told r s → Ok g source D B S ms (piece.BindMadeNow c r ∷ todo) → steps.T g source told (monitors.bind_step q todo s)
  bind ms holds c r None e todo f h = record { run = tt; callers = callers; env = env }
  bind ms holds c r (Some q) e todo f (inl h) =
      steps.bind_any g source told s callers env ms holds q todo (subst (λ o. Ok g source D B S (anys (suc (params_at o)) (rests (suc (params_at o)) (rest ms))) todo) e h)
  bind ms holds c r (Some q) e todo f (inr h) = called ms holds r q e f todo h

  -- the constructor begins

  module _ (spawning : SpawnsSource g source) (r : ℕ) (q : Routine) (e : slice_get source.routines r ≡ Some q) (x : ℕ) (at : top (drop (params source r) s.run.operands) ≡ Object x) where
    abbrev object : Value
    object = top (drop q.params s.run.operands)

    is_object : object ≡ Object x
    is_object = subst (λ o. top (drop (params_at o) s.run.operands) ≡ Object x) e at

    -- what holds of it while it runs
    abbrev Builds : ℕ → Expr → Type 0
    Builds d e = EndsTask g d → (y : ℕ) × (object ≡ Object y) × IsFreeBut told y (here e)

    by_kind : (d : ℕ) (p : Expr) → Free x r d p → SpawnsBy g d (Some q) → S d p ⊎ (Builds d p × Begins q.body × (q.purpose ≡ src.Builder))
    by_kind d p h (inl k) = inr ((λ t. (x, is_object, h.1 t)), k.0, k.1)
    by_kind d p h (inr never) = inl (λ t. absurd (never t))

    fits : (d : ℕ) (p : Expr) → Free x r d p → S d p ⊎ (Builds d p × Begins q.body × (q.purpose ≡ src.Builder))
    fits d p h = by_kind d p h (subst (SpawnsBy g d) e (spawning r d h.0))

    scope : (c : CleanUp) → OfScope (Free x r) c → OfScope S c ⊎ (OfScope Builds c × Begins q.body × (q.purpose ≡ src.Builder))
    scope (src.Destroys (src.OfObject (src.EndOn d written (src.Load (src.Variable k))))) h = fits d (src.Variable k) h
    scope c h = inl tt

    part : (c : CleanUp) → OfPart (Free x r) c → OfPart S c ⊎ (OfPart Builds c × Begins q.body × (q.purpose ≡ src.Builder))
    part (src.Destroys (src.OfObject (src.EndOn d written (src.Load (src.OfObject (src.OwnField k i)))))) h = fits d (src.OfObject (src.OwnField k i)) h
    part c h = inl tt

    opens : (ss : Stmts) → OpensOf (Free x r) ss → OpensOf S ss ⊎ (OpensOf Builds ss × Begins q.body × (q.purpose ≡ src.Builder))
    opens (src.Scoped c ss) h = scope c h
    opens (src.Built c ss) h = part c h
    opens ss h = inl tt

    awaited : (todo : List Todo) → AtDrop g source D B S (Free x r) todo → Awaited S todo ⊎ (Awaited Builds todo × Begins q.body × (q.purpose ≡ src.Builder))
    awaited (piece.DropNow ∷ (piece.Within line ∷ (piece.Rest ss ∷ todo))) h = opens ss h.0.0
    awaited todo h = inl tt

    begins : (counts : Bool) (todo : List Todo) (vs : List Value) → CodeBlock g source q.body → AtDrop g source D B S (Free x r) todo → Awaited S todo ⊎ (Awaited Builds todo × Begins q.body × (q.purpose ≡ src.Builder)) → steps.T g source told (quiet.begun_step q object counts todo vs s)
    begins counts todo vs code h (inl k) =
        let b : Active = record s.run { control = todo; operands = vs } in
        inl (record {
          run = record { marks = []; holds = tt; ok = lists.routine g source (Done g told s.env.exec (b ∷ s.callers)) (Begun g told s.env.exec object (b ∷ s.callers)) (Kept g told s.env.exec (length s.env.frames) object) q k code };
          callers = (inr (marks.drop_more g source D B S (Free x r) Every (λ d e y. tt) todo h), callers);
          env = steps.likes g source told env refl refl refl;
        })
    begins counts todo vs code h (inr k) = inr (record {
      now = inl (code, k.0, k.1, subst (λ u. AtEnd (quiet.behind_body u q.line)) (sym k.2) tt);
      callers = (inr (marks.drop_more g source D B S (Free x r) Every (λ d e y. tt) todo h), callers);
      env = steps.likes g source told env refl refl refl;
    })

    starts : (counts : Bool) (todo : List Todo) (vs : List Value) → CodeBlock g source q.body → AtDrop g source D B S (Free x r) todo → steps.T g source told (quiet.begun_step q object counts todo vs s)
    starts counts todo vs code h = begins counts todo vs code h (awaited todo h)

  pub call_on : (spawning : SpawnsSource g source) (r : ℕ) (q : Option Routine) → slice_get source.routines r ≡ q → (todo : List Todo) → CodeRoutine g source q → Calls g source told s.env.exec s.callers s.run r todo → steps.T g source told (quiet.call_on_step q todo s)
  call_on spawning r None e todo code h = record { run = tt; callers = callers; env = env }
  call_on spawning r (Some q) e todo code h =
      either (steps.T g source told) (nat_lt s.env.links.calls CALLS) _ _ (starts spawning r q e h.0 h.1 true todo _ code h.2) (steps.stop g source told s callers env Depth todo _)

  pub call_unwritten : (spawning : SpawnsSource g source) (r : ℕ) (q : Option Routine) → slice_get source.routines r ≡ q → (todo : List Todo) → CodeRoutine g source q → Calls g source told s.env.exec s.callers s.run r todo → steps.T g source told (quiet.call_unwritten_step q todo s)
  call_unwritten spawning r None e todo code h = record { run = tt; callers = callers; env = env }
  call_unwritten spawning r (Some q) e todo code h = starts spawning r q e h.0 h.1 false todo _ code h.2
