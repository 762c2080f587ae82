-- Of any source in which arguments are counted and scopes open behind the statements that build their objects.
use Rattle.std.proofs.Common.{◌≡◌, ℕ, ◌⊎◌, inl, inr, List, [], ◌∷◌, drop, Option, Some, None, subst}
use Rattle.std.specs.Prelude.{slice_get}
use Rattle.uc_tree.specs.Programs.{Program}
use Rattle.uc_tree.specs.Source as src
use Rattle.uc_tree.specs.Source.{Shape, Expr, Stmt, Source, Routine}
use Rattle.uc_machine.specs.Quiet as quiet
use Rattle.uc_machine.specs.Pieces as piece
use Rattle.uc_machine.specs.Pieces.{FieldAt, Value, Todo, Active, State, top, below, further}
use Rattle.uc_state_laws.specs.Counted.{params, CountedRoutine, CountedSource}
use Rattle.uc_place_laws.specs.Opened.{Spot, Var, Own, ArePaired, Spans, Builds, Before, Declares, OpenedRoutine, OpenedSource}
use Rattle.uc_place_laws.specs.Called.{variable, Mark, Any, At, Holds, rest, rests, AnyOne, CalledAt, CalledBy, Placed, after, CodeRoutine, Ok, AtRest, AtBuild, AtDrop, Stands, OnWay}
use Rattle.uc_place_laws.specs.CalledStates.{AllSeated, Runs, Waits, RunsNow}
use Rattle.uc_place_laws.specs.OlderResting.{AllWait}
use Rattle.uc_machine.specs.declared.exec.Exec.{Exec}
use Rattle.uc_place_laws.specs.OpeningLaws.{Awaited, NoneAwaited, CallsAt, AwaitedPart, NoPart, PartsAt, AwaitedRest, TailAt, LawSteps, LawCalled}
use Rattle.uc_place_laws.proofs.OpeningMarks.{holds_drop, opens_any, part_any, next_more, next_opens, next_part}
use Rattle.uc_place_laws.proofs.OpeningWalk.{walk, first_called, led, joined, parted, followed, answered_called}

code_by : (g : Program) (x : Source) (r : Option Routine) → CountedRoutine x r → OpenedRoutine g r → CodeRoutine g x r
code_by g x None n o = tt
code_by g x (Some r) n o = (o.0, (n, o.1), o.2)

pub code : (g : Program) (x : Source) → CountedSource x → OpenedSource g x → (n : ℕ) → CodeRoutine g x (slice_get x.routines n)
code g x known opened n = code_by g x (slice_get x.routines n) (known n) (opened n)

pub law_steps : LawSteps
law_steps = record {
  begins = λ g source known opened r o. first_called g source (code g source known opened) r o;
  steps = λ g source known opened s h. led g source s (quiet.quiet source s) (walk g source (code g source known opened) s h);
  told = λ g source form given s k f z c e. answered_called g source form given s k f z c e;
}

module _ (g : Program) (source : Source) where
  none_awaited : (ms : List Mark) (todo : List Todo) → Ok g source ms todo → NoneAwaited todo
  none_awaited ms (piece.DropNow ∷ (piece.Within line ∷ (piece.Rest ss ∷ todo))) h = next_opens (λ d x. ⊥) ss h.1.1.0.0
  none_awaited ms todo h = tt

  none_behind : (ms : List Mark) (todo : List Todo) → Ok g source ms todo → NoneAwaited (piece.DropNow ∷ todo)
  none_behind ms (piece.Within line ∷ (piece.Rest ss ∷ todo)) h = next_opens (λ d x. ⊥) ss h.1.0.0
  none_behind ms todo h = tt

  any_awaited : (P : ℕ → ℕ → Type 0) (todo : List Todo) → NoneAwaited todo → Awaited P todo
  any_awaited P (piece.DropNow ∷ (piece.Within line ∷ (piece.Rest ss ∷ todo))) h = opens_any P ss h
  any_awaited P todo h = tt

  -- behind what is to do first

  any_rest : (P : ℕ → ℕ → Type 0) (todo : List Todo) → AwaitedRest (λ d k. ⊥) todo → AwaitedRest P todo
  any_rest P (piece.Rest ss ∷ todo) h = opens_any P ss h
  any_rest P todo h = tt

  none_rest : (ms : List Mark) (todo : List Todo) → Ok g source ms todo → AwaitedRest (λ d k. ⊥) todo
  none_rest ms (piece.Rest ss ∷ todo) h = next_opens (λ d x. ⊥) ss h.0.0
  none_rest ms todo h = tt

  rest_by : (P : ℕ → Spot → Type 0) (todo : List Todo) → AtRest g source P todo → AwaitedRest (λ d k. P d (Var k)) todo
  rest_by P (piece.Rest ss ∷ todo) h = next_opens P ss h.0.0
  rest_by P todo h = absurd h

  build_by : (P Q : ℕ → ℕ → Type 0) (todo : List Todo) → AtBuild g source Q todo → AwaitedRest P todo
  build_by P Q (piece.Rest ss ∷ todo) h = opens_any P ss (next_opens (λ d x. ⊥) ss h.0.0)
  build_by P Q todo h = absurd h

  drop_by : (P : ℕ → Spot → Type 0) (todo : List Todo) → AtDrop g source P todo → Awaited (λ d k. P d (Var k)) todo
  drop_by P (piece.DropNow ∷ (piece.Within line ∷ (piece.Rest ss ∷ todo))) h = next_opens P ss h.0.0
  drop_by P todo h = tt

  done_tail : (a : Stmt) (todo : List Todo) → Ok g source [] todo ⊎ (AtRest g source (Before g a) todo ⊎ AtBuild g source (Declares g a) todo) → AwaitedRest (λ d k. Before g a d (Var k)) todo
  done_tail a todo (inl h) = any_rest (λ d k. Before g a d (Var k)) todo (none_rest [] todo h)
  done_tail a todo (inr (inl h)) = rest_by (Before g a) todo h
  done_tail a todo (inr (inr h)) = build_by (λ d k. Before g a d (Var k)) (Declares g a) todo h

  placed_tail : (ms : List Mark) (e : Expr) (todo : List Todo) → Placed e (λ x. Ok g source (At x ∷ ms) todo) → Awaited (λ d k. Builds g e d (Var k)) todo
  placed_tail ms (src.Variable k) todo h = any_awaited (λ d m. Builds g (src.Variable k) d (Var m)) todo (none_awaited (At (Var k) ∷ ms) todo h)
  placed_tail ms (src.OfObject (src.OwnField k i)) todo h = any_awaited (λ d m. Builds g (src.OfObject (src.OwnField k i)) d (Var m)) todo (none_awaited (At (Own k i) ∷ ms) todo h)
  placed_tail ms e todo h = absurd h

  eval_tail : (ms : List Mark) (e : Expr) (todo : List Todo) → Ok g source (Any ∷ ms) todo ⊎ (AtDrop g source (Builds g e) todo ⊎ Placed e (λ x. Ok g source (At x ∷ ms) todo)) → Awaited (λ d k. Builds g e d (Var k)) todo
  eval_tail ms e todo (inl h) = any_awaited (λ d k. Builds g e d (Var k)) todo (none_awaited (Any ∷ ms) todo h)
  eval_tail ms e todo (inr (inl h)) = drop_by (Builds g e) todo h
  eval_tail ms e todo (inr (inr h)) = placed_tail ms e todo h

  -- nor once the line of a statement is left

  drop_behind : (P : ℕ → Spot → Type 0) (todo : List Todo) → AtDrop g source P todo → NoneAwaited (piece.DropNow ∷ todo)
  drop_behind P (piece.DropNow ∷ (piece.Within line ∷ todo)) h = tt
  drop_behind P todo h = absurd h

  placed_behind : (ms : List Mark) (e : Expr) (todo : List Todo) → Placed e (λ x. Ok g source (At x ∷ ms) todo) → NoneAwaited (piece.DropNow ∷ todo)
  placed_behind ms (src.Variable k) todo h = none_behind (At (Var k) ∷ ms) todo h
  placed_behind ms (src.OfObject (src.OwnField k i)) todo h = none_behind (At (Own k i) ∷ ms) todo h
  placed_behind ms e todo h = absurd h

  eval_behind : (ms : List Mark) (e : Expr) (todo : List Todo) → Ok g source (Any ∷ ms) todo ⊎ (AtDrop g source (Builds g e) todo ⊎ Placed e (λ x. Ok g source (At x ∷ ms) todo)) → NoneAwaited (piece.DropNow ∷ todo)
  eval_behind ms e todo (inl h) = none_behind (Any ∷ ms) todo h
  eval_behind ms e todo (inr (inl h)) = drop_behind (Builds g e) todo h
  eval_behind ms e todo (inr (inr h)) = placed_behind ms e todo h

  tail_at : (ms : List Mark) (l : List Todo) → Ok g source ms l → TailAt g l
  tail_at ms [] h = tt
  tail_at ms (piece.Do a ∷ todo) h = done_tail a todo h.1
  tail_at ms (piece.Eval e ∷ todo) h = (eval_tail ms e todo h.1, eval_behind ms e todo h.1)
  tail_at ms (piece.CallOnNow r ∷ todo) h = tt
  tail_at ms (piece.CallUnwrittenNow r ∷ todo) h = tt
  tail_at ms (piece.DropNow ∷ todo) h = (none_awaited (rest ms) todo h.1, none_rest (rest ms) todo h.1)
  tail_at ms (piece.Within line ∷ todo) h = tt
  tail_at ms (piece.Exit w ∷ todo) h = tt
  tail_at ms (piece.Unwind ∷ todo) h = tt
  tail_at ms (x ∷ todo) h = (none_awaited (after source x ms) todo h.1, none_rest (after source x ms) todo h.1, none_behind (after source x ms) todo h.1)

  stands_tail : (l : List Todo) → Stands g source l → TailAt g l
  stands_tail (piece.Rest ss ∷ todo) h = (none_awaited [] todo h.1, none_rest [] todo h.1, none_behind [] todo h.1)
  stands_tail (piece.Within line ∷ todo) h = tt
  stands_tail (piece.DropNow ∷ (piece.Within line ∷ todo)) h = (tt, tt)
  stands_tail l h = absurd h

  way_behind : (P : ℕ → ℕ → Type 0) (line : ℕ) (todo : List Todo) → AtBuild g source P todo → NoneAwaited (piece.DropNow ∷ (piece.Within line ∷ todo))
  way_behind P line (piece.Rest ss ∷ todo) h = next_opens (λ d x. ⊥) ss h.0.0
  way_behind P line todo h = absurd h

  way_tail : (l : List Todo) → OnWay g source l → TailAt g l
  way_tail (piece.Variables (x ∷ []) ∷ (piece.Within line ∷ todo)) h = (tt, tt, way_behind (λ d k. (x.cell ≡ k) × Spans g d x.cells) line todo h.1)
  way_tail (piece.ClearNow k m ∷ (piece.Variables [] ∷ (piece.Within line ∷ todo))) h = (tt, tt, tt)
  way_tail (piece.Variables [] ∷ (piece.Within line ∷ todo)) h = (tt, tt, way_behind AnyOne line todo h)
  way_tail (piece.Within line ∷ todo) h = tt
  way_tail (piece.Rest ss ∷ todo) h = (none_awaited [] todo h.1, none_rest [] todo h.1, none_behind [] todo h.1)
  way_tail l h = absurd h

  module _ (s : State) where
    pub tails : RunsNow g source s.env.exec s.run → TailAt g s.run.control
    tails (inl f) = tail_at f.marks s.run.control f.ok
    tails (inr (inl f)) = stands_tail s.run.control f
    tails (inr (inr f)) = way_tail s.run.control f

    -- the routine r is called at this
    abbrev pub AtVariable : ℕ → Value → ℕ → ℕ → Type 0
    AtVariable r v d k = ArePaired g r d × (v ≡ variable s.env.exec s.run.frame k)

    abbrev pub AtOwn : ℕ → Value → ℕ → Shape → ℕ → Type 0
    AtOwn r v d k i = ArePaired g r d × (v ≡ further (FieldAt k i) s.run.this)

    abbrev AtSpot : ℕ → Value → ℕ → Spot → Type 0
    AtSpot r v d (Var k) = AtVariable r v d k
    AtSpot r v d (Own k i) = AtOwn r v d k i

    moved_to : (r : ℕ) (v : Value) (x y : Spot) (ms : List Mark) (vs : List Value) → Holds s.env.exec s.run.frame s.run.this (At x ∷ ms) (v ∷ vs) → (d : ℕ) → CalledAt g r x d y → AtSpot r v d y
    moved_to r v (Var k) y ms vs h d x = subst (AtSpot r v d) x.0 (x.1, h.0)
    moved_to r v (Own k i) y ms vs h d x = subst (AtSpot r v d) x.0 (x.1, h.0)

    awaited : (r : ℕ) (v : Value) (x : Spot) (ms : List Mark) (vs : List Value) → Holds s.env.exec s.run.frame s.run.this (At x ∷ ms) (v ∷ vs) → (todo : List Todo) → AtDrop g source (CalledAt g r x) todo → Awaited (AtVariable r v) todo × AwaitedPart (AtOwn r v) todo
    awaited r v x ms vs k (piece.DropNow ∷ (piece.Within line ∷ (piece.Rest ss ∷ todo))) h =
        let both = next_more (CalledAt g r x) (AtSpot r v) (λ d y z. moved_to r v x y ms vs k d z) ss h.0.0 in
        (next_opens (AtSpot r v) ss both, next_part (AtSpot r v) ss both)
    awaited r v x ms vs k todo h = (tt, tt)

    none_at : (todo : List Todo) → AtDrop g source (λ d x. ⊥) todo → NoneAwaited todo × NoPart todo
    none_at (piece.DropNow ∷ (piece.Within line ∷ (piece.Rest ss ∷ todo))) h = (next_opens (λ d x. ⊥) ss h.0.0, next_part (λ d x. ⊥) ss h.0.0)
    none_at todo h = (tt, tt)

    any_part : (P : ℕ → Shape → ℕ → Type 0) (todo : List Todo) → NoPart todo → AwaitedPart P todo
    any_part P (piece.DropNow ∷ (piece.Within line ∷ (piece.Rest ss ∷ todo))) h = part_any P ss h
    any_part P todo h = tt

    none_part : (ms : List Mark) (todo : List Todo) → Ok g source ms todo → NoPart todo
    none_part ms (piece.DropNow ∷ (piece.Within line ∷ (piece.Rest ss ∷ todo))) h = next_part (λ d x. ⊥) ss h.1.1.0.0
    none_part ms todo h = tt

    part_behind : (ms : List Mark) (todo : List Todo) → Ok g source ms todo → NoPart (piece.DropNow ∷ todo)
    part_behind ms (piece.Within line ∷ (piece.Rest ss ∷ todo)) h = next_part (λ d x. ⊥) ss h.1.0.0
    part_behind ms todo h = tt

    neither : (r : ℕ) (v : Value) (todo : List Todo) → NoneAwaited todo × NoPart todo → Awaited (AtVariable r v) todo × AwaitedPart (AtOwn r v) todo
    neither r v todo h = (any_awaited (AtVariable r v) todo h.0, any_part (AtOwn r v) todo h.1)

    awaited_at : (r : ℕ) (ms : List Mark) (vs : List Value) → Holds s.env.exec s.run.frame s.run.this ms vs → (todo : List Todo) → AtDrop g source (CalledBy g r ms) todo → Awaited (AtVariable r (top vs)) todo × AwaitedPart (AtOwn r (top vs)) todo
    awaited_at r (At x ∷ ms) vs k todo h = awaited r (top vs) x ms (below vs) k todo h
    awaited_at r (Any ∷ ms) vs k todo h = neither r (top vs) todo (none_at todo h)
    awaited_at r [] vs k todo h = neither r (top vs) todo (none_at todo h)

    module _ (ms : List Mark) (holds : Holds s.env.exec s.run.frame s.run.this ms s.run.operands) where
      called : (r : ℕ) (todo : List Todo) → Ok g source ms (piece.CallOnNow r ∷ todo) → Awaited (AtVariable r (top (drop (params source r) s.run.operands))) todo × AwaitedPart (AtOwn r (top (drop (params source r) s.run.operands))) todo
      called r todo (inl h) = neither r (top (drop (params source r) s.run.operands)) todo (none_awaited _ todo h, none_part _ todo h)
      called r todo (inr h) = awaited_at r (rests (params source r) ms) (drop (params source r) s.run.operands) (holds_drop s.env.exec s.run.frame s.run.this (params source r) ms s.run.operands holds) todo h

      calls : (l : List Todo) → Ok g source ms l → CallsAt g source l s
      calls (piece.CallNow r ∷ todo) h = none_awaited _ todo h.1
      calls (piece.RaiseNow ∷ todo) h = none_behind _ todo h.1
      calls (piece.CallOnNow r ∷ todo) h = (called r todo h).0
      calls (piece.CallUnwrittenNow r ∷ todo) h = (called r todo h).0
      calls l h = tt

      builds : (l : List Todo) → Ok g source ms l → PartsAt g source l s
      builds (piece.CallNow r ∷ todo) h = none_part _ todo h.1
      builds (piece.RaiseNow ∷ todo) h = part_behind _ todo h.1
      builds (piece.CallOnNow r ∷ todo) h = (called r todo h).1
      builds (piece.CallUnwrittenNow r ∷ todo) h = (called r todo h).1
      builds l h = tt

    stands : (l : List Todo) → Stands g source l → CallsAt g source l s
    stands (piece.Rest ss ∷ todo) h = tt
    stands (piece.Within line ∷ todo) h = tt
    stands (piece.DropNow ∷ todo) h = tt
    stands l h = absurd h

    ways : (l : List Todo) → OnWay g source l → CallsAt g source l s
    ways (piece.CallNow r ∷ todo) h = absurd h
    ways (piece.RaiseNow ∷ todo) h = absurd h
    ways (piece.CallOnNow r ∷ todo) h = absurd h
    ways (piece.CallUnwrittenNow r ∷ todo) h = absurd h
    ways l h = tt

    stands_part : (l : List Todo) → Stands g source l → PartsAt g source l s
    stands_part (piece.Rest ss ∷ todo) h = tt
    stands_part (piece.Within line ∷ todo) h = tt
    stands_part (piece.DropNow ∷ todo) h = tt
    stands_part l h = absurd h

    way_part : (l : List Todo) → OnWay g source l → PartsAt g source l s
    way_part (piece.CallNow r ∷ todo) h = absurd h
    way_part (piece.RaiseNow ∷ todo) h = absurd h
    way_part (piece.CallOnNow r ∷ todo) h = absurd h
    way_part (piece.CallUnwrittenNow r ∷ todo) h = absurd h
    way_part l h = tt

    pub is_building : RunsNow g source s.env.exec s.run → PartsAt g source s.run.control s
    is_building (inl f) = builds f.marks f.holds s.run.control f.ok
    is_building (inr (inl f)) = stands_part s.run.control f
    is_building (inr (inr f)) = way_part s.run.control f

    pub is_calling : RunsNow g source s.env.exec s.run → CallsAt g source s.run.control s
    is_calling (inl f) = calls f.marks f.holds s.run.control f.ok
    is_calling (inr (inl f)) = stands s.run.control f
    is_calling (inr (inr f)) = ways s.run.control f

all_seated : (g : Program) (source : Source) (n : Exec) (cs : List Active) → AllWait (Runs g source) (Waits g source) n cs → AllSeated n cs
all_seated g source n [] h = tt
all_seated g source n (c ∷ cs) h = (h.0.1, all_seated g source n cs h.1)

pub law_called : LawCalled
law_called g source known opened s h = record {
  calls = is_calling g source s h.run;
  tails = tails g source s h.run;
  joins = joined g source s (quiet.quiet source s) (walk g source (code g source known opened) s h);
  follows = followed g source s (quiet.quiet source s) (walk g source (code g source known opened) s h);
  parts = is_building g source s h.run;
  seats = (h.seat, all_seated g source s.env.exec s.callers h.callers);
  part_joins = parted g source s (quiet.quiet source s) (walk g source (code g source known opened) s h);
}
