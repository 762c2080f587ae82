-- What constructors have bound stays so in a step.
use Rattle.std.proofs.Common.{◌≡◌, ℕ, zero, suc, ◌≤◌, ◌++◌, ◌⊎◌, inl, inr, Bool, true, false, List, [], ◌∷◌, length, drop, Option, Some, None, refl, arith, subst, sym}
use Rattle.std.specs.Prelude.{nat_eq, nat_lt, if◌then◌else◌}
use Rattle.uc_tree.specs.declared.limits.TheConstants.{PENDING_EVENTS}
use Rattle.uc_tree.specs.Source as src
use Rattle.uc_tree.specs.Source.{Shape, Expr, ObjectExpr, Stmt, EventStmt, TaskStmt, Routine, Order, Way, CleanUp, Handlers, Clauses, Raised, Item}
use Rattle.uc_entry.specs.declared.request.Piece.{Piece}
use Rattle.uc_entry.specs.Keyed.{find, signed_64}
use Rattle.uc_machine.specs.declared.exec.Exec.{Exec}
use Rattle.uc_machine.specs.declared.exec.Pending.{Pending}
use Rattle.uc_machine.specs.declared.exec.UnwindReason.{UnwindReason}
use Rattle.uc_machine.specs.declared.exec.UnwindReason.TheVariants as reason
use Rattle.uc_machine.specs.declared.exec.Visited.{Visited}
use Rattle.uc_machine.specs.Executions.{others, left_for, unwound}
use Rattle.uc_machine.specs.Switches as sw
use Rattle.uc_machine.specs.Insides as inside
use Rattle.uc_machine.specs.Raising as raising
use Rattle.uc_machine.specs.Raising.{Event, Handler, Found}
use Rattle.uc_machine.specs.Monitors as monitors
use Rattle.uc_machine.specs.Polls as polls
use Rattle.uc_machine.specs.Quiet as quiet
use Rattle.uc_machine.specs.Pieces as piece
use Rattle.uc_machine.specs.Pieces.{Value, Number, Object, Nothing, Todo, Sort, Active, State, Env, Step, Goes, Ticks, Asks, Outcome, Gives, Faults, at, in_env, top, below, written}
use Rattle.uc_typing.specs.Typing.{Ty, Sig, Table}
use Rattle.uc_state_laws.specs.RoomStacks.{Stack, StackState}
use Rattle.uc_life_laws.proofs.Cells.{either, others_length}
use Rattle.uc_building_laws.specs.Building.{is_still, IsHead, BindsField, BindsBy, Stays, Behind, Stills, Now}
use Rattle.uc_building_laws.specs.Anew.{IsAnew, AllAnew}
use Rattle.uc_building_laws.specs.BuildingStates.{Builds, BuildsBehind, of_run, of_wait, AllBuild, BuildsBy}
use Rattle.uc_building_laws.proofs.Memory.{frame_newer, frame_older}
use Rattle.uc_building_laws.proofs.Building.{AllKeep, all_keep, builds_kept, all_kept, builds_more}
use Rattle.uc_building_laws.proofs.Anew.{all_loosen, all_anew, older_loosen, tail_calling, any_awaited, rest_awaited}
use Rattle.uc_building_laws.proofs.Keeping as kept
use Rattle.uc_building_laws.proofs.Keeping.{Keeps}
use Rattle.uc_life_laws.specs.Things.{Few}
use Rattle.uc_life_laws.specs.Kinds.{Returns, GoesPast, GoesOn}
use Rattle.uc_place_laws.specs.OpeningLaws.{Awaited, NoneAwaited, AwaitedRest}
use Rattle.uc_place_laws.specs.Calling.{Calling}

abbrev pub StepBuilds : (t : Table) (heads : ℕ → ℕ → Bool) (few : Few) (kinds : List Sig) → Step → Type 0
StepBuilds t heads few kinds (Goes s) = BuildsBy t heads few kinds (of_run t heads s.run) s
StepBuilds t heads few kinds (Ticks s) = BuildsBy t heads few kinds of_wait s
StepBuilds t heads few kinds (Asks r s) = BuildsBehind t heads few kinds r s

-- frames of those that wait

module _ (t : Table) (heads : ℕ → ℕ → Bool) (few : Few) (kinds : List Sig) (Z : ℕ → ℕ → Type 0) (n : Exec) where
  pub newer_all : (x : List Value) (fs : List (List Value)) (cs : List Active) → length cs ≤ length fs → Stack Z fs cs → AllKeep t heads few kinds n fs (x ∷ fs) cs
  newer_all x fs [] l h = tt
  newer_all x fs (a ∷ older) l h =
      let le = h.0.frame in
      (frame_newer x fs a.frame (omega (arith, le, l)), newer_all x fs older (omega (arith, l)) h.1)

  pub older_all : (fs : List (List Value)) (cs : List Active) → length cs ≤ length (others fs) → Stack Z fs cs → AllKeep t heads few kinds n fs (others fs) cs
  older_all fs [] l h = tt
  older_all fs (a ∷ older) l h =
      let le = h.0.frame in
      (frame_older fs a.frame (omega (arith, le, l)), older_all fs older (omega (arith, l)) h.1)

-- of no field

-- an expression that is neither done before fields are bound nor binds them
abbrev pub IsOther : Expr → Type 0
IsOther (src.Literal n) = ⊥
IsOther (src.Variable k) = ⊥
IsOther (src.Element n k a i) = ⊥
IsOther (src.Get k) = ⊥
IsOther (src.Load a) = ⊥
IsOther (src.Negated a) = ⊥
IsOther (src.Not a) = ⊥
IsOther (src.AsCharacter a) = ⊥
IsOther (src.AsTruth a) = ⊥
IsOther (src.Operate op a b) = ⊥
IsOther (src.And a b) = ⊥
IsOther (src.Or a b) = ⊥
IsOther (src.Assign p a) = ⊥
IsOther (src.OfObject src.This) = ⊥
IsOther (src.OfObject src.Counted) = ⊥
IsOther (src.OfObject (src.OwnField k i)) = ⊥
IsOther (src.OfObject (src.GetOwn k i)) = ⊥
IsOther (src.OfObject (src.FieldOf k i a)) = ⊥
IsOther (src.OfObject (src.Bind a b)) = ⊥
IsOther a = Unit {0}

-- one that is found without a call, but none that is calm
abbrev pub IsStill : Expr → Type 0
IsStill (src.Variable k) = Unit {0}
IsStill (src.Element n k a i) = Unit {0}
IsStill (src.Load a) = Unit {0}
IsStill (src.Negated a) = Unit {0}
IsStill (src.Not a) = Unit {0}
IsStill (src.AsCharacter a) = Unit {0}
IsStill (src.AsTruth a) = Unit {0}
IsStill (src.Operate op a b) = Unit {0}
IsStill (src.And a b) = Unit {0}
IsStill (src.Or a b) = Unit {0}
IsStill (src.OfObject src.This) = Unit {0}
IsStill (src.OfObject src.Counted) = Unit {0}
IsStill a = ⊥

module _ (t : Table) (heads : ℕ → ℕ → Bool) (ps : List Ty) (c i : ℕ) (w : Value) (K : Ty → Value → Type 0) where
  other_object : (x : ObjectExpr) (todo : List Todo) (vs : List Value) → IsOther (src.OfObject x) → Now t heads ps c i w K (piece.Eval (src.OfObject x) ∷ todo) vs → ⊥
  other_object src.This todo vs o h = o
  other_object src.Counted todo vs o h = o
  other_object (src.OwnField k j) todo vs o h = o
  other_object (src.GetOwn k j) todo vs o h = o
  other_object (src.FieldOf k j a) todo vs o h = o
  other_object (src.Bind a b) todo vs o h = o
  other_object x todo vs o (inl (inl h)) = h
  other_object x todo vs o (inl (inr (inl h))) = h
  other_object x todo vs o (inl (inr (inr h))) = h.1
  other_object x todo vs o (inr (inl h)) = h.0
  other_object x todo vs o (inr (inr (inl h))) = h
  other_object x todo vs o (inr (inr (inr (inl h)))) = let e = h.0 in absurd (cc)
  other_object x todo vs o (inr (inr (inr (inr h)))) = let e = h.0 in absurd (cc)

  other : (a : Expr) (todo : List Todo) (vs : List Value) → IsOther a → Now t heads ps c i w K (piece.Eval a ∷ todo) vs → ⊥
  other (src.Literal n) todo vs o h = o
  other (src.Variable k) todo vs o h = o
  other (src.Element n k a i) todo vs o h = o
  other (src.Get k) todo vs o h = o
  other (src.Load a) todo vs o h = o
  other (src.Negated a) todo vs o h = o
  other (src.Not a) todo vs o h = o
  other (src.AsCharacter a) todo vs o h = o
  other (src.AsTruth a) todo vs o h = o
  other (src.Operate op a b) todo vs o h = o
  other (src.And a b) todo vs o h = o
  other (src.Or a b) todo vs o h = o
  other (src.Assign p a) todo vs o h = o
  other (src.OfObject x) todo vs o h = other_object x todo vs o h
  other a todo vs o (inl (inl h)) = h
  other a todo vs o (inl (inr (inl h))) = h
  other a todo vs o (inl (inr (inr h))) = h.1
  other a todo vs o (inr (inl h)) = h.0
  other a todo vs o (inr (inr (inl h))) = h
  other a todo vs o (inr (inr (inr (inl h)))) = let e = h.0 in absurd (cc)
  other a todo vs o (inr (inr (inr (inr h)))) = let e = h.0 in absurd (cc)

  -- one that is found without a call is found for a number that is written
  pub only_still : (a : Expr) (todo : List Todo) (vs : List Value) → IsStill a → Now t heads ps c i w K (piece.Eval a ∷ todo) vs → (is_still a ≡ true) × Stills t heads ps c i todo
  only_still (src.Variable k) todo vs o (inl (inl h)) = absurd h
  only_still (src.Variable k) todo vs o (inl (inr (inl h))) = absurd h
  only_still (src.Variable k) todo vs o (inl (inr (inr h))) = absurd h.1
  only_still (src.Variable k) todo vs o (inr (inl h)) = absurd h.0
  only_still (src.Variable k) todo vs o (inr (inr (inl h))) = absurd h
  only_still (src.Variable k) todo vs o (inr (inr (inr (inl h)))) = let e = h.0 in absurd (cc)
  only_still (src.Variable k) todo vs o (inr (inr (inr (inr h)))) = h
  only_still (src.Element n k a b) todo vs o (inl (inl h)) = absurd h
  only_still (src.Element n k a b) todo vs o (inl (inr (inl h))) = absurd h
  only_still (src.Element n k a b) todo vs o (inl (inr (inr h))) = absurd h.1
  only_still (src.Element n k a b) todo vs o (inr (inl h)) = absurd h.0
  only_still (src.Element n k a b) todo vs o (inr (inr (inl h))) = absurd h
  only_still (src.Element n k a b) todo vs o (inr (inr (inr (inl h)))) = let e = h.0 in absurd (cc)
  only_still (src.Element n k a b) todo vs o (inr (inr (inr (inr h)))) = h
  only_still (src.Load a) todo vs o (inl (inl h)) = absurd h
  only_still (src.Load a) todo vs o (inl (inr (inl h))) = absurd h
  only_still (src.Load a) todo vs o (inl (inr (inr h))) = absurd h.1
  only_still (src.Load a) todo vs o (inr (inl h)) = absurd h.0
  only_still (src.Load a) todo vs o (inr (inr (inl h))) = absurd h
  only_still (src.Load a) todo vs o (inr (inr (inr (inl h)))) = let e = h.0 in absurd (cc)
  only_still (src.Load a) todo vs o (inr (inr (inr (inr h)))) = h
  only_still (src.Negated a) todo vs o (inl (inl h)) = absurd h
  only_still (src.Negated a) todo vs o (inl (inr (inl h))) = absurd h
  only_still (src.Negated a) todo vs o (inl (inr (inr h))) = absurd h.1
  only_still (src.Negated a) todo vs o (inr (inl h)) = absurd h.0
  only_still (src.Negated a) todo vs o (inr (inr (inl h))) = absurd h
  only_still (src.Negated a) todo vs o (inr (inr (inr (inl h)))) = let e = h.0 in absurd (cc)
  only_still (src.Negated a) todo vs o (inr (inr (inr (inr h)))) = h
  only_still (src.Not a) todo vs o (inl (inl h)) = absurd h
  only_still (src.Not a) todo vs o (inl (inr (inl h))) = absurd h
  only_still (src.Not a) todo vs o (inl (inr (inr h))) = absurd h.1
  only_still (src.Not a) todo vs o (inr (inl h)) = absurd h.0
  only_still (src.Not a) todo vs o (inr (inr (inl h))) = absurd h
  only_still (src.Not a) todo vs o (inr (inr (inr (inl h)))) = let e = h.0 in absurd (cc)
  only_still (src.Not a) todo vs o (inr (inr (inr (inr h)))) = h
  only_still (src.AsCharacter a) todo vs o (inl (inl h)) = absurd h
  only_still (src.AsCharacter a) todo vs o (inl (inr (inl h))) = absurd h
  only_still (src.AsCharacter a) todo vs o (inl (inr (inr h))) = absurd h.1
  only_still (src.AsCharacter a) todo vs o (inr (inl h)) = absurd h.0
  only_still (src.AsCharacter a) todo vs o (inr (inr (inl h))) = absurd h
  only_still (src.AsCharacter a) todo vs o (inr (inr (inr (inl h)))) = let e = h.0 in absurd (cc)
  only_still (src.AsCharacter a) todo vs o (inr (inr (inr (inr h)))) = h
  only_still (src.AsTruth a) todo vs o (inl (inl h)) = absurd h
  only_still (src.AsTruth a) todo vs o (inl (inr (inl h))) = absurd h
  only_still (src.AsTruth a) todo vs o (inl (inr (inr h))) = absurd h.1
  only_still (src.AsTruth a) todo vs o (inr (inl h)) = absurd h.0
  only_still (src.AsTruth a) todo vs o (inr (inr (inl h))) = absurd h
  only_still (src.AsTruth a) todo vs o (inr (inr (inr (inl h)))) = let e = h.0 in absurd (cc)
  only_still (src.AsTruth a) todo vs o (inr (inr (inr (inr h)))) = h
  only_still (src.Operate op a b) todo vs o (inl (inl h)) = absurd h
  only_still (src.Operate op a b) todo vs o (inl (inr (inl h))) = absurd h
  only_still (src.Operate op a b) todo vs o (inl (inr (inr h))) = absurd h.1
  only_still (src.Operate op a b) todo vs o (inr (inl h)) = absurd h.0
  only_still (src.Operate op a b) todo vs o (inr (inr (inl h))) = absurd h
  only_still (src.Operate op a b) todo vs o (inr (inr (inr (inl h)))) = let e = h.0 in absurd (cc)
  only_still (src.Operate op a b) todo vs o (inr (inr (inr (inr h)))) = h
  only_still (src.And a b) todo vs o (inl (inl h)) = absurd h
  only_still (src.And a b) todo vs o (inl (inr (inl h))) = absurd h
  only_still (src.And a b) todo vs o (inl (inr (inr h))) = absurd h.1
  only_still (src.And a b) todo vs o (inr (inl h)) = absurd h.0
  only_still (src.And a b) todo vs o (inr (inr (inl h))) = absurd h
  only_still (src.And a b) todo vs o (inr (inr (inr (inl h)))) = let e = h.0 in absurd (cc)
  only_still (src.And a b) todo vs o (inr (inr (inr (inr h)))) = h
  only_still (src.Or a b) todo vs o (inl (inl h)) = absurd h
  only_still (src.Or a b) todo vs o (inl (inr (inl h))) = absurd h
  only_still (src.Or a b) todo vs o (inl (inr (inr h))) = absurd h.1
  only_still (src.Or a b) todo vs o (inr (inl h)) = absurd h.0
  only_still (src.Or a b) todo vs o (inr (inr (inl h))) = absurd h
  only_still (src.Or a b) todo vs o (inr (inr (inr (inl h)))) = let e = h.0 in absurd (cc)
  only_still (src.Or a b) todo vs o (inr (inr (inr (inr h)))) = h
  only_still (src.OfObject src.This) todo vs o (inl (inl h)) = absurd h
  only_still (src.OfObject src.This) todo vs o (inl (inr (inl h))) = absurd h
  only_still (src.OfObject src.This) todo vs o (inl (inr (inr h))) = absurd h.1
  only_still (src.OfObject src.This) todo vs o (inr (inl h)) = absurd h.0
  only_still (src.OfObject src.This) todo vs o (inr (inr (inl h))) = absurd h
  only_still (src.OfObject src.This) todo vs o (inr (inr (inr (inl h)))) = let e = h.0 in absurd (cc)
  only_still (src.OfObject src.This) todo vs o (inr (inr (inr (inr h)))) = h
  only_still (src.OfObject src.Counted) todo vs o (inl (inl h)) = absurd h
  only_still (src.OfObject src.Counted) todo vs o (inl (inr (inl h))) = absurd h
  only_still (src.OfObject src.Counted) todo vs o (inl (inr (inr h))) = absurd h.1
  only_still (src.OfObject src.Counted) todo vs o (inr (inl h)) = absurd h.0
  only_still (src.OfObject src.Counted) todo vs o (inr (inr (inl h))) = absurd h
  only_still (src.OfObject src.Counted) todo vs o (inr (inr (inr (inl h)))) = let e = h.0 in absurd (cc)
  only_still (src.OfObject src.Counted) todo vs o (inr (inr (inr (inr h)))) = h
  only_still a todo vs o h = absurd o

  -- the parts of what binds, and of what writes a number
  pub binds : (a b : Expr) (todo : List Todo) (vs : List Value) → Now t heads ps c i w K (piece.Eval (src.OfObject (src.Bind a b)) ∷ todo) vs → Now t heads ps c i w K (piece.Eval a ∷ (piece.Eval b ∷ (piece.BindNow ∷ todo))) vs
  binds (src.OfObject (src.OwnField k j)) b todo vs (inl (inl h)) = inl (inr (inl h))
  binds (src.OfObject x) b todo vs (inl (inl h)) = absurd h
  binds a b todo vs (inl (inl h)) = absurd h
  binds a b todo vs (inl (inr (inl h))) = absurd h
  binds a b todo vs (inl (inr (inr h))) = absurd h.1
  binds (src.OfObject (src.OwnField k j)) b todo vs (inr (inl h)) = inr (inr (inl h))
  binds (src.OfObject x) b todo vs (inr (inl h)) = absurd h.0
  binds a b todo vs (inr (inl h)) = absurd h.0
  binds a b todo vs (inr (inr (inl h))) = absurd h
  binds a b todo vs (inr (inr (inr (inl h)))) = let e = h.0 in absurd (cc)
  binds a b todo vs (inr (inr (inr (inr h)))) = let e = h.0 in absurd (cc)

  pub assigns : (a b : Expr) (todo : List Todo) (vs : List Value) → Now t heads ps c i w K (piece.Eval (src.Assign a b) ∷ todo) vs → Now t heads ps c i w K (piece.Eval a ∷ (piece.Eval b ∷ (piece.KeepNow ∷ todo))) vs
  assigns a b todo vs (inl (inl h)) = absurd h
  assigns a b todo vs (inl (inr (inl h))) = absurd h
  assigns a b todo vs (inl (inr (inr h))) = absurd h.1
  assigns (src.OfObject (src.OwnField k j)) b todo vs (inr (inl h)) = inr (inr (inl h))
  assigns (src.OfObject x) b todo vs (inr (inl h)) = absurd h.0
  assigns a b todo vs (inr (inl h)) = absurd h.0
  assigns a b todo vs (inr (inr (inl h))) = absurd h
  assigns a b todo vs (inr (inr (inr (inl h)))) = let e = h.0 in absurd (cc)
  assigns a b todo vs (inr (inr (inr (inr h)))) = let e = h.0 in absurd (cc)

module _ (t : Table) (heads : ℕ → ℕ → Bool) (few : Few) (kinds : List Sig) (Z : ℕ → ℕ → Type 0) (s : State) (life : StackState Z s) (callers : AllBuild t heads few kinds s.env.exec s.env.frames s.callers) (anew : AllAnew t heads s.env.frames s.callers) where
  abbrev pub With : (List Ty → ℕ → ℕ → Value → (Ty → Value → Type 0) → Type 0) → Type 0
  With L = Builds t heads few kinds s.env.exec L s.env.frames s.run.frame s.run.this s.callers

  -- of objects whose constructors this list has still to call nothing is bound
  abbrev pub Anew : ℕ → ℕ → Type 0
  Anew d k = IsAnew t heads s.env.frames s.run.frame d k

  abbrev pub Nothing_left : Type 0
  Nothing_left = With of_wait

  -- with that to do, and nothing left to be bound
  abbrev pub Holding : List Todo → Type 0
  Holding todo = Calling Anew todo × Nothing_left

  pub more : (L M : List Ty → ℕ → ℕ → Value → (Ty → Value → Type 0) → Type 0) → ((ps : List Ty) (c i : ℕ) (w : Value) (K : Ty → Value → Type 0) → L ps c i w K → M ps c i w K) → With L → With M
  more L M m h = builds_more t heads few kinds s.env.exec L M m s.env.frames s.run.frame s.run.this s.callers h

  pub lost : (M : List Ty → ℕ → ℕ → Value → (Ty → Value → Type 0) → Type 0) → Nothing_left → With M
  lost M h = more of_wait M (λ ps c i w K x. absurd x) h

  -- with something else to do, and other operands
  pub go_now : (todo : List Todo) (vs : List Value) → Calling Anew todo → With (λ ps c i w K. Now t heads ps c i w K todo vs) → BuildsBy t heads few kinds (of_run t heads (at todo vs s).run) (at todo vs s)
  go_now todo vs a h = record { anew = (a, anew); run = h; callers = callers }

  pub go : (todo : List Todo) (vs : List Value) → Holding todo → BuildsBy t heads few kinds (of_run t heads (at todo vs s).run) (at todo vs s)
  go todo vs h = go_now todo vs h.0 (lost (λ ps c i w K. Now t heads ps c i w K todo vs) h.1)

  pub stays : (todo : List Todo) (vs : List Value) → Holding todo → BuildsBy t heads few kinds of_wait (at todo vs s)
  stays todo vs h = record { anew = (h.0, anew); run = h.1; callers = callers }

  -- the same running execution, in a task that has changed
  with_env : {e : Env} (u : State) → BuildsBy t heads few kinds of_wait u → Keeps u.env e → BuildsBy t heads few kinds of_wait (record u { env = e })
  with_env {e} u h k = record {
    anew = all_anew t heads u.env.frames e.frames (u.run ∷ u.callers) (all_loosen t heads u.env.frames e.frames k.looses (u.run ∷ u.callers)) h.anew;
    run = subst (λ n. Builds t heads few kinds n of_wait e.frames u.run.frame u.run.this u.callers) (sym k.binds.exec) (builds_kept t heads few kinds u.env.exec u.env.frames e.frames u.run.frame u.run.this u.callers (k.binds.frames u.run.frame) (all_keep t heads few kinds u.env.exec u.env.frames e.frames k.binds.frames u.callers) h.run);
    callers = subst (λ n. AllBuild t heads few kinds n e.frames u.callers) (sym k.binds.exec) (all_kept t heads few kinds u.env.exec u.env.frames e.frames u.callers (all_keep t heads few kinds u.env.exec u.env.frames e.frames k.binds.frames u.callers) h.callers);
  }

  -- who runs goes on with nothing to bind
  pub runs : (u : State) → BuildsBy t heads few kinds of_wait u → BuildsBy t heads few kinds (of_run t heads u.run) u
  runs u h = record {
    anew = h.anew;
    run = builds_more t heads few kinds u.env.exec of_wait (of_run t heads u.run) (λ ps c i w K x. absurd x) u.env.frames u.run.frame u.run.this u.callers h.run;
    callers = h.callers;
  }

  -- and with another rest of the task
  pub stays_in : (todo : List Todo) (vs : List Value) (e : Env) → Keeps s.env e → Holding todo → BuildsBy t heads few kinds of_wait (at todo vs (in_env e s))
  stays_in todo vs e k h = with_env (at todo vs s) (stays todo vs h) k

  pub go_in : (todo : List Todo) (vs : List Value) (e : Env) → Keeps s.env e → Holding todo → BuildsBy t heads few kinds (of_run t heads (at todo vs (in_env e s)).run) (at todo vs (in_env e s))
  go_in todo vs e k h = runs (at todo vs (in_env e s)) (stays_in todo vs e k h)

  -- nothing that is told of changes
  pub same : {e : Env} → e.exec ≡ s.env.exec → e.frames ≡ s.env.frames → Keeps s.env e
  same x q = kept.keeps_like x q

  -- the end of an activation

  -- the first one that waits, with a frame less
  module _ (c : Active) (cs : List Active) (l : length s.env.frames ≡ suc (length (c ∷ cs))) (h : Stack Z s.env.frames (c ∷ cs)) (b : AllBuild t heads few kinds s.env.exec s.env.frames (c ∷ cs)) (a : AllAnew t heads s.env.frames (c ∷ cs)) where
    fits : length (c ∷ cs) ≤ length (others s.env.frames)
    fits = let n : length (others s.env.frames) ≡ suc (length cs) = others_length s.env.frames (length cs) l in omega (arith, n)

    all_less : AllKeep t heads few kinds s.env.exec s.env.frames (others s.env.frames) (c ∷ cs)
    all_less = older_all t heads few kinds Z s.env.exec s.env.frames (c ∷ cs) fits h

    less : Builds t heads few kinds s.env.exec of_wait (others s.env.frames) c.frame c.this cs
    less = builds_kept t heads few kinds s.env.exec s.env.frames (others s.env.frames) c.frame c.this cs all_less.0 all_less.1 b.0

    rest_less : AllBuild t heads few kinds s.env.exec (others s.env.frames) cs
    rest_less = all_kept t heads few kinds s.env.exec s.env.frames (others s.env.frames) cs all_less.1 b.1

    anew_less : AllAnew t heads (others s.env.frames) (c ∷ cs)
    anew_less = all_anew t heads s.env.frames (others s.env.frames) (c ∷ cs) (older_loosen t heads Z s.env.frames (c ∷ cs) fits h) a

  module _ (stay : BuildsBy t heads few kinds of_wait s) where
    pub returned : (given : Value) (cs : List Active) → length s.env.frames ≡ suc (length cs) → Stack Z s.env.frames cs → AllBuild t heads few kinds s.env.exec s.env.frames cs → AllAnew t heads s.env.frames cs → StepBuilds t heads few kinds (piece.return_step given cs s)
    returned given [] l h b p = stay
    returned given (a ∷ cs) l h b p = record {
      anew = anew_less a cs l h b p;
      run = builds_more t heads few kinds s.env.exec of_wait _ (λ ps c i w K x. absurd x) (others s.env.frames) a.frame a.this cs (less a cs l h b p);
      callers = rest_less a cs l h b p;
    }

    passed : (given : Value) (why : UnwindReason) (a : Active) (cs : List Active) → length s.env.frames ≡ suc (length (a ∷ cs)) → Stack Z s.env.frames (a ∷ cs) → AllBuild t heads few kinds s.env.exec s.env.frames (a ∷ cs) → AllAnew t heads s.env.frames (a ∷ cs) → StepBuilds t heads few kinds (Goes (left_for s.run.counts (unwound (piece.Unwind ∷ a.control) why given a) cs s.env))
    passed given why a cs l h b p = record {
      anew = anew_less a cs l h b p;
      run = builds_more t heads few kinds s.env.exec of_wait (of_run t heads (unwound (piece.Unwind ∷ a.control) why given a)) (λ ps c i w K x. absurd x) (others s.env.frames) a.frame a.this cs (less a cs l h b p);
      callers = rest_less a cs l h b p;
    }

    past : (v : Visited) (given : Value) (cs : List Active) → length s.env.frames ≡ suc (length cs) → Stack Z s.env.frames cs → AllBuild t heads few kinds s.env.exec s.env.frames cs → AllAnew t heads s.env.frames cs → StepBuilds t heads few kinds (raising.return_past v given cs s)
    past v given [] l h b p = stay
    past v given (a ∷ cs) l h b p = passed given (reason.ReturnTo v.home) a cs l h b p

    end_by : (v : Option Visited) (given : Value) → StepBuilds t heads few kinds (raising.end_by v given s)
    end_by None given = returned given s.callers life.frames life.stack.1 callers anew
    end_by (Some v) given = past v given s.callers life.frames life.stack.1 callers anew

    pub end_step : (w : Way) → StepBuilds t heads few kinds (quiet.end_step w s)
    end_step src.ToReturn = end_by s.run.handles _
    end_step src.ToEnd = end_by s.run.handles _
    end_step src.ToBreak = returned _ s.callers life.frames life.stack.1 callers anew
    end_step src.ToContinue = returned _ s.callers life.frames life.stack.1 callers anew

    pass_on : (w : Option UnwindReason) (c : Active) (cs : List Active) → length s.env.frames ≡ suc (length (c ∷ cs)) → Stack Z s.env.frames (c ∷ cs) → AllBuild t heads few kinds s.env.exec s.env.frames (c ∷ cs) → AllAnew t heads s.env.frames (c ∷ cs) → StepBuilds t heads few kinds (raising.pass_on w c cs s)
    pass_on None c cs l h b p = stay
    pass_on (Some why) c cs l h b p = passed s.run.result (raising.why_by why c.raised) c cs l h b p

    leave_for : (b : Bool) (c : Active) (cs : List Active) → length s.env.frames ≡ suc (length (c ∷ cs)) → Stack Z s.env.frames (c ∷ cs) → AllBuild t heads few kinds s.env.exec s.env.frames (c ∷ cs) → AllAnew t heads s.env.frames (c ∷ cs) → StepBuilds t heads few kinds (raising.leave_for b c cs s)
    leave_for true c cs l h b p = tt
    leave_for false c cs l h b p = pass_on s.run.raised c cs l h b p

    pub leaves : (cs : List Active) → length s.env.frames ≡ suc (length cs) → Stack Z s.env.frames cs → AllBuild t heads few kinds s.env.exec s.env.frames cs → AllAnew t heads s.env.frames cs → StepBuilds t heads few kinds (raising.leave_step cs s)
    leaves [] l h b p = stay
    leaves (c ∷ cs) l h b p =
        either (StepBuilds t heads few kinds) (raising.arrives s.run.raised (length (c ∷ cs))) _ _ (returned s.run.result (c ∷ cs) l h b p) (leave_for _ c cs l h b p)

  -- expressions, and what is to do behind them

  module _ (todo : List Todo) (next : Awaited Anew todo) (calls : Calling Anew todo) (behind : NoneAwaited (piece.DropNow ∷ todo)) where
    converts : (k : Shape) (l : List Todo) → Calling Anew l → Calling Anew (quiet.converting k l)
    converts src.Character l c = c
    converts src.Truth l c = c
    converts k l c = c

    object : (x : ObjectExpr) → IsOther (src.OfObject x) → Nothing_left → StepBuilds t heads few kinds (quiet.object_step x todo s)
    object src.This o h = absurd o
    object src.Counted o h = absurd o
    object (src.CallOn r a args) o h = go _ _ ((tt, (next, calls)), h)
    object (src.CallLive r a args) o h = go _ _ ((tt, (next, calls)), h)
    object (src.CallUnwritten r a) o h = go _ _ ((tt, (next, calls)), h)
    object (src.EnterOn m r a args) o h = go _ _ ((tt, (next, calls)), h)
    object (src.EndOn r false a) o h = go _ _ ((tt, (next, calls)), h)
    object (src.EndOn r true a) o h = go _ _ ((tt, (next, calls)), h)
    object (src.MakeOn c r false a args) o h = go _ _ ((tt, (next, calls)), h)
    object (src.MakeOn c r true a args) o h = go _ _ ((tt, (next, calls)), h)
    object src.NewCluster o h = go _ _ (calls, h)
    object (src.NewProcessor a) o h = go _ _ ((tt, calls), h)
    object (src.EndCluster a) o h = go _ _ ((tt, calls), h)
    object (src.EndProcessor a) o h = go _ _ ((tt, calls), h)
    object (src.ConditionAt k n a) o h = go _ _ ((tt, calls), h)
    object (src.Wait a b) o h = go _ _ ((tt, (tt, calls)), h)
    object (src.Signal a) o h = go _ _ ((tt, calls), h)
    object (src.SignalBlock a) o h = go _ _ ((tt, calls), h)
    object (src.IsEmpty a) o h = go _ _ ((tt, calls), h)
    object (src.FrontOf a) o h = go _ _ ((tt, calls), h)
    object (src.OwnField k i) o h = absurd o
    object (src.GetOwn k i) o h = absurd o
    object (src.FieldOf k i a) o h = absurd o
    object (src.Bind a b) o h = absurd o

    evaluated : (a : Expr) → IsOther a → Nothing_left → StepBuilds t heads few kinds (quiet.eval_step a todo s)
    evaluated (src.Variable k) o h = absurd o
    evaluated (src.Element n k a b) o h = absurd o
    evaluated (src.Load a) o h = absurd o
    evaluated (src.Negated a) o h = absurd o
    evaluated (src.Not a) o h = absurd o
    evaluated (src.AsCharacter a) o h = absurd o
    evaluated (src.AsTruth a) o h = absurd o
    evaluated (src.Operate op a b) o h = absurd o
    evaluated (src.And a b) o h = absurd o
    evaluated (src.Or a b) o h = absurd o
    evaluated (src.Update op k p a) o h = go _ _ ((tt, (tt, converts k (piece.KeepNow ∷ todo) calls)), h)
    evaluated (src.StepBehind op k p) o h = go _ _ ((tt, (tt, converts k (piece.StoreNow ∷ (piece.DropBelowNow ∷ todo)) calls)), h)
    evaluated src.Fail o h = stays todo _ (calls, h)
    evaluated (src.Set k a) o h = go _ _ ((tt, calls), h)
    evaluated (src.First a b) o h = go _ _ ((tt, (any_awaited Anew (piece.DropNow ∷ todo) behind, calls)), h)
    evaluated (src.Call r args) o h = go _ _ (calls, h)
    evaluated (src.OfObject x) o h = object x o h
    evaluated (src.Literal n) o h = absurd o
    evaluated (src.Get k) o h = absurd o
    evaluated (src.Assign p a) o h = absurd o

    -- but for what is done before fields are bound, and binds them
    pub eval : (a : Expr) → IsOther a → With (λ ps c i w K. Now t heads ps c i w K (piece.Eval a ∷ todo) s.run.operands) → StepBuilds t heads few kinds (quiet.eval_step a todo s)
    eval a o h = evaluated a o (more (λ ps c i w K. Now t heads ps c i w K (piece.Eval a ∷ todo) s.run.operands) of_wait (λ ps c i w K x. other t heads ps c i w K a todo s.run.operands o x) h)

  -- statements

  pub starts : (cell : ℕ) (v : Option Expr) (todo : List Todo) → Holding todo → Holding (quiet.starting cell v todo)
  starts cell None todo h = h
  starts cell (Some e) todo h = ((tt, (tt, h.0)), h.1)

  pub filled : (b : Bool) (n : ℕ) (e d : Expr) (todo : List Todo) → Holding todo → Holding (quiet.fill_todo b n e d todo)
  filled false n e d todo h = h
  filled true n e d todo h = ((tt, h.0), h.1)

  pub swept : (n : ℕ) (e : Expr) (todo : List Todo) → Holding todo → StepBuilds t heads few kinds (quiet.sweep_step n e todo s)
  swept zero e todo h = go _ _ h
  swept (suc m) e todo h = record { anew = ((tt, h.0), anew); run = lost (λ ps c i w K. Now t heads ps c i w K (piece.Eval e ∷ (piece.DropNow ∷ (piece.Sweep e ∷ todo))) s.run.operands) h.1; callers = callers }

  pub item : (i : Item) (todo : List Todo) → Holding todo → Holding (quiet.item_todo i todo)
  item (src.Show g e) todo h = ((tt, h.0), h.1)
  item (src.ShowText k) todo h = h

  pub item_value : (i : Item) (is : List Item) (todo : List Todo) → Holding todo → Holding (quiet.item_value i (piece.Values is ∷ todo))
  item_value (src.Show g e) is todo h = ((tt, h.0), h.1)
  item_value (src.ShowText k) is todo h = h

  pub item_piece : (i : Item) (todo : List Todo) → Holding todo → Holding (quiet.item_piece i ∷ todo)
  item_piece (src.Show g e) todo h = h
  item_piece (src.ShowText k) todo h = h

  -- the step behind the body of a loop, and its next turn
  tests : (o : Order) (e : Expr) (step : Option Expr) (b : Stmt) (todo : List Todo) → Calling Anew todo → Calling Anew (quiet.test_todo o e step b todo)
  tests src.TestFirst e step b todo c = (tt, c)
  tests src.BodyFirst e step b todo c = (tt, c)
  tests src.NoTest e step b todo c = c

  loops : (o : Order) (e : Expr) (step : Option Expr) (b : Stmt) (todo : List Todo) → Calling Anew todo → Calling Anew (quiet.loop_todo o e step b todo)
  loops src.TestFirst e step b todo c = (tt, c)
  loops src.BodyFirst e step b todo c = c
  loops src.NoTest e step b todo c = c

  drops : (o : Order) (e : Expr) (step : Option Expr) (b : Stmt) (todo : List Todo) → Awaited Anew (piece.DropNow ∷ quiet.test_todo o e step b todo)
  drops src.TestFirst e step b todo = tt
  drops src.BodyFirst e step b todo = tt
  drops src.NoTest e step b todo = tt

  pub turns : (step : Option Expr) (o : Order) (e : Expr) (b : Stmt) (todo : List Todo) → Holding todo → Holding (quiet.step_todo step (quiet.test_todo o e step b todo))
  turns None o e b todo h = (tests o e None b todo h.0, h.1)
  turns (Some a) o e b todo h = ((drops o e (Some a) b todo, tests o e (Some a) b todo h.0), h.1)

  raised : (r : Raised) (l : List Todo) → Awaited Anew l → Calling Anew l → Calling Anew (raising.raised_todo r l)
  raised (src.Plainly n) l a c = (tt, (tt, (a, c)))
  raised (src.BuiltAt n k e) l a c = (tt, (tt, (tt, (a, c))))
  raised (src.AgainFrom k) l a c = (tt, (tt, (a, c)))

  event_step : (a : EventStmt) (todo : List Todo) → Holding todo → StepBuilds t heads few kinds (quiet.event_step a todo s)
  event_step (src.Throw line r) todo h = go _ _ (raised r (piece.ThrowNow ∷ (piece.Within line ∷ todo)) tt h.0, h.1)
  event_step (src.Raise line r) todo h = go _ _ (raised r (piece.RaiseNow ∷ (piece.Within line ∷ todo)) tt h.0, h.1)
  event_step (src.Try line body hs) todo h = go _ _ h
  event_step (src.RaiseAt line r a) todo h = go _ _ (raised r (piece.Eval a ∷ (piece.RaiseAtNow ∷ (piece.Within line ∷ todo))) tt (tt, h.0), h.1)
  event_step (src.Enable line events cell a) todo h = go _ _ ((tt, h.0), h.1)
  event_step (src.Disable line events cell a) todo h = go _ _ ((tt, h.0), h.1)

  -- what is left of a statement that is neither a head nor binds
  none : (a : Stmt) (todo : List Todo) → ((ps : List Ty) (c i : ℕ) → BindsBy t ps c (λ m. Stays t heads ps c i todo m) i a → ⊥) → ((ps : List Ty) (c i : ℕ) → IsHead t c i a (Behind t heads ps c i todo) → ⊥) → With (λ ps c i w K. Now t heads ps c i w K (piece.Do a ∷ todo) s.run.operands) → Nothing_left
  none a todo f g h = more (λ ps c i w K. Now t heads ps c i w K (piece.Do a ∷ todo) s.run.operands) of_wait (λ ps c i w K x. by ps c i x) h
    where
      by : (ps : List Ty) (c i : ℕ) → BindsBy t ps c (λ m. Stays t heads ps c i todo m) i a ⊎ IsHead t c i a (Behind t heads ps c i todo) → ⊥
      by ps c i (inl x) = f ps c i x
      by ps c i (inr x) = g ps c i x

  task_step : (a : TaskStmt) (todo : List Todo) → Calling Anew todo → With (λ ps c i w K. Now t heads ps c i w K (piece.Do (src.OfTasks a) ∷ todo) s.run.operands) → StepBuilds t heads few kinds (quiet.task_step a todo s)
  task_step (src.SetUp r) todo c h = go_now _ _ c (more (λ ps c i w K. Now t heads ps c i w K (piece.Do (src.OfTasks (src.SetUp r)) ∷ todo) s.run.operands) (λ ps c i w K. Now t heads ps c i w K (piece.SetUpNow r ∷ todo) s.run.operands) (λ ps c i w K x. by ps c i x) h)
    where
      by : (ps : List Ty) (c i : ℕ) → ⊥ ⊎ Behind t heads ps c i (piece.Do (src.OfTasks (src.SetUp r)) ∷ todo) → Behind t heads ps c i (piece.Do (src.OfTasks (src.SetUp r)) ∷ todo)
      by ps c i (inl x) = absurd x
      by ps c i (inr x) = x
  task_step (src.Resume line) todo c h = go _ _ (c, none (src.OfTasks (src.Resume line)) todo (λ ps c i x. x) (λ ps c i x. x) h)
  task_step (src.Suspend line) todo c h = go _ _ (c, none (src.OfTasks (src.Suspend line)) todo (λ ps c i x. x) (λ ps c i x. x) h)
  task_step src.Enliven todo c h = go _ _ (c, none (src.OfTasks src.Enliven) todo (λ ps c i x. x) (λ ps c i x. x) h)
  task_step src.TakeDown todo c h = go _ _ (c, none (src.OfTasks src.TakeDown) todo (λ ps c i x. x) (λ ps c i x. x) h)
  task_step (src.Yield line) todo c h = go _ _ (c, none (src.OfTasks (src.Yield line)) todo (λ ps c i x. x) (λ ps c i x. x) h)
  task_step (src.Migrate line a) todo c h = go _ _ ((tt, c), none (src.OfTasks (src.Migrate line a)) todo (λ ps c i x. x) (λ ps c i x. x) h)
  task_step (src.Accept line site cs) todo c h = go _ _ (c, none (src.OfTasks (src.Accept line site cs)) todo (λ ps c i x. x) (λ ps c i x. x) h)

  pub stmt : (a : Stmt) (todo : List Todo) → AwaitedRest Anew todo → Calling Anew todo → With (λ ps c i w K. Now t heads ps c i w K (piece.Do a ∷ todo) s.run.operands) → StepBuilds t heads few kinds (quiet.stmt_step a todo s)
  stmt (src.Evaluate line e) todo r c h =
      go_now _ _ (rest_awaited Anew line todo r, c) (more (λ ps c i w K. Now t heads ps c i w K (piece.Do (src.Evaluate line e) ∷ todo) s.run.operands) (λ ps c i w K. Now t heads ps c i w K (piece.Eval e ∷ (piece.DropNow ∷ (piece.Within line ∷ todo))) s.run.operands) (λ ps c i w K x. by ps c i w K x) h)
    where
      by : (ps : List Ty) (c i : ℕ) (w : Value) (K : Ty → Value → Type 0) → BindsField t ps c (λ m. Stays t heads ps c i todo m) i e ⊎ Behind t heads ps c i (piece.Do (src.Evaluate line e) ∷ todo) → Now t heads ps c i w K (piece.Eval e ∷ (piece.DropNow ∷ (piece.Within line ∷ todo))) s.run.operands
      by ps c i w K (inl x) = inl (inl x)
      by ps c i w K (inr x) = inr (inl x)
  stmt (src.Skip line) todo r c h = go _ _ (c, none (src.Skip line) todo (λ ps c i x. x) (λ ps c i x. x) h)
  stmt (src.Block line body) todo r c h = go _ _ (c, none (src.Block line body) todo (λ ps c i x. x) (λ ps c i x. x) h)
  stmt (src.Whole line body) todo r c h = go _ _ (c, none (src.Whole line body) todo (λ ps c i x. x) (λ ps c i x. x) h)
  stmt (src.Declare line ds) todo r c h = go _ _ (c, none (src.Declare line ds) todo (λ ps c i x. x) (λ ps c i x. x) h)
  stmt (src.Print line is) todo r c h = go _ _ (c, none (src.Print line is) todo (λ ps c i x. x) (λ ps c i x. x) h)
  stmt (src.PrintTogether line is) todo r c h = go _ _ (c, none (src.PrintTogether line is) todo (λ ps c i x. x) (λ ps c i x. x) h)
  stmt (src.Read line ts) todo r c h = go _ _ (c, none (src.Read line ts) todo (λ ps c i x. x) (λ ps c i x. x) h)
  stmt (src.If line e a b) todo r c h = go _ _ ((tt, c), none (src.If line e a b) todo (λ ps c i x. x) (λ ps c i x. x) h)
  stmt (src.Loop line order a e b) todo r c h = go _ _ (loops order a e b (piece.Within line ∷ todo) c, none (src.Loop line order a e b) todo (λ ps c i x. x) (λ ps c i x. x) h)
  stmt (src.Break line) todo r c h = go _ _ (c, none (src.Break line) todo (λ ps c i x. x) (λ ps c i x. x) h)
  stmt (src.Continue line) todo r c h = go _ _ (c, none (src.Continue line) todo (λ ps c i x. x) (λ ps c i x. x) h)
  stmt (src.Return line None) todo r c h = go _ _ (c, none (src.Return line None) todo (λ ps c i x. x) (λ ps c i x. x) h)
  stmt (src.Return line (Some e)) todo r c h = go _ _ ((tt, c), none (src.Return line (Some e)) todo (λ ps c i x. x) (λ ps c i x. x) h)
  stmt (src.Owes line) todo r c h = go _ _ (c, none (src.Owes line) todo (λ ps c i x. x) (λ ps c i x. x) h)
  stmt (src.Fill line n b d) todo r c h = go _ _ (c, none (src.Fill line n b d) todo (λ ps c i x. x) (λ ps c i x. x) h)
  stmt (src.OfEvents a) todo r c h = event_step a todo (c, none (src.OfEvents a) todo (λ ps c i x. x) (λ ps c i x. x) h)
  stmt (src.OfTasks a) todo r c h = task_step a todo c h

  -- coroutines

  pub live : (r : Option Routine) (todo : List Todo) → Holding todo → StepBuilds t heads few kinds (quiet.live_step r todo s)
  live None todo h = stays _ _ h
  live (Some r) todo h = either (StepBuilds t heads few kinds) (sw.is_live (piece.exec_at (top (drop r.params s.run.operands)) s.env) s.env) _ _ (go todo _ h) tt

  pub land : (w : Option UnwindReason) (todo : List Todo) → Holding todo → StepBuilds t heads few kinds (quiet.land_step w todo s)
  land None todo h = go _ _ h
  land (Some why) todo h = go (piece.Unwind ∷ todo) [] h

  -- mutex objects

  pub unless : (q : ℕ) (step : Step) (todo : List Todo) → Holding todo → StepBuilds t heads few kinds step → StepBuilds t heads few kinds (monitors.unless_held_up q step todo s)
  unless q step todo h k = either (StepBuilds t heads few kinds) (inside.is_held_up q s.env) _ step tt k

  enter_at : (d : Option ℕ) (q m : ℕ) (todo : List Todo) → Holding todo → StepBuilds t heads few kinds (monitors.enter_at d q m todo s)
  enter_at (Some d) q m todo h = go_in _ _ _ (same refl refl) h
  enter_at None q m todo h = stays_in _ _ _ (same refl refl) h

  pub enter : (m : ℕ) (r : Option Routine) (todo : List Todo) → Holding todo → StepBuilds t heads few kinds (monitors.enter_step m r todo s)
  enter m None todo h = stays _ _ h
  enter m (Some r) todo h =
      let q = piece.object_in (top (drop r.params s.run.operands)) in
      either (StepBuilds t heads few kinds) (monitors.may_call r.written s) _ _ (enter_at (find q s.env.depths) q m todo h) tt

  polled : (w : Option UnwindReason) (todo : List Todo) → Holding todo → Holding (monitors.leave_todo w todo)
  polled None todo h = h
  polled (Some why) todo h = h

  pub leave : (b : Bool) (q : ℕ) (todo : List Todo) → Holding todo → StepBuilds t heads few kinds (monitors.leave_at b q todo s)
  leave false q todo h = go_in _ _ _ (same refl refl) h
  leave true q todo h =
      unless q _ todo h (record { anew = ((polled s.run.raised todo h).0, anew); run = (polled s.run.raised todo h).1; callers = callers })

  pub make : (c n : ℕ) (r : Option Routine) (todo : List Todo) → Holding todo → StepBuilds t heads few kinds (monitors.make_step c n r todo s)
  make c n None todo h = stays _ _ h
  make c n (Some r) todo h =
      either (StepBuilds t heads few kinds) (monitors.may_call r.written s) _ _ (stays_in _ _ _ (same refl refl) h) tt

  pub condition : (n : ℕ) (i : Option ℕ) (todo : List Todo) → Holding todo → StepBuilds t heads few kinds (monitors.condition_step n i todo s)
  condition n None todo h = tt
  condition n (Some i) todo h = go todo _ h

  pub accept_by : (mask q site : ℕ) (todo : List Todo) (vs : List Value) → Holding todo → StepBuilds t heads few kinds (monitors.accept_by mask q site todo vs s)
  accept_by zero q site todo vs h = go _ _ h
  accept_by (suc mask) q site todo vs h = unless q _ todo h (stays _ _ h)

  pub failed : (b : Bool) (todo : List Todo) (vs : List Value) → Holding todo → StepBuilds t heads few kinds (monitors.failed_step b todo vs s)
  failed true todo vs h = go _ _ h
  failed false todo vs h = go _ _ h

  -- events

  pend : (n : Exec) (e : Event) (todo : List Todo) (vs : List Value) → Holding todo → StepBuilds t heads few kinds (polls.pend_step n e todo vs s)
  pend n e todo vs h =
      either (StepBuilds t heads few kinds) (nat_lt (length (inside.pending_at n s.env)) PENDING_EVENTS) _ _ (go_in _ _ _ (kept.links_keeps (λ l. record l { pending = l.pending ++ (record { event = e.number; x = e.x; y = e.y }) ∷ [] }) n s.env) h) tt

  pend_at : (x : Option Exec) (e : Event) (todo : List Todo) (vs : List Value) → Holding todo → StepBuilds t heads few kinds (polls.pend_at x e todo vs s)
  pend_at None e todo vs h = tt
  pend_at (Some n) e todo vs h = either (StepBuilds t heads few kinds) (sw.is_live (Some n) s.env) _ _ (pend n e todo vs h) tt

  pub raise_at : (v : Value) (e : Event) (todo : List Todo) (vs : List Value) → Holding todo → StepBuilds t heads few kinds (polls.raise_at_step v e todo vs s)
  raise_at (Object q) e todo vs h = stays todo vs h
  raise_at v e todo vs h = pend_at (piece.exec_at v s.env) e todo vs h

  pub enables : (events cell : ℕ) (todo : List Todo) → Holding todo → StepBuilds t heads few kinds (polls.enable_step events cell todo s)
  enables events cell todo h =
      let k : Keeps s.env (written (piece.variable_at cell s) (Number (signed_64 s.env.links.enabled)) s.env) = kept.number_keeps (piece.variable_at cell s) (signed_64 s.env.links.enabled) s.env in
      go_in _ _ _ (kept.keeps_both k (kept.keeps_like refl refl)) h

  quiet_poll : (x : Option Pending) (todo : List Todo) → Holding todo → StepBuilds t heads few kinds (polls.quiet_poll x todo s)
  quiet_poll None todo h = go _ _ h
  quiet_poll (Some p) todo h = stays_in _ _ _ (same refl refl) h

  poll_by : (b : Bool) (todo : List Todo) → Holding todo → StepBuilds t heads few kinds (polls.poll_by b todo s)
  poll_by true todo h = stays _ _ h
  poll_by false todo h = quiet_poll (inside.oldest_enabled s.env.links) todo h

  pub poll : (todo : List Todo) → Holding todo → StepBuilds t heads few kinds (polls.poll_step todo s)
  poll todo h = either (StepBuilds t heads few kinds) (nat_eq s.env.links.enabled 0) _ _ (go todo _ h) (poll_by (inside.is_own s.env) todo h)

  pub deliver : (v : Value) (todo : List Todo) → Holding todo → StepBuilds t heads few kinds (polls.deliver_step v todo s)
  deliver Nothing todo h = go _ _ h
  deliver v todo h = go _ _ h

  -- the running activation is told anew
  told : (b : Active) → b.frame ≡ s.run.frame → b.this ≡ s.run.this → Holding b.control → BuildsBy t heads few kinds (of_run t heads b) (record s { run = b })
  told b e q h = record {
    anew = (subst (λ f. Calling (IsAnew t heads s.env.frames f) b.control) (sym e) h.0, anew);
    run = subst (λ v. Builds t heads few kinds s.env.exec (of_run t heads b) s.env.frames b.frame v s.callers) (sym q) (subst (λ f. Builds t heads few kinds s.env.exec (of_run t heads b) s.env.frames f s.run.this s.callers) (sym e) (lost (of_run t heads b) h.1));
    callers = callers;
  }

  pub throws : (e : Event) (todo : List Todo) → Holding todo → StepBuilds t heads few kinds (raising.throw_step e todo s)
  throws e todo h = told _ refl refl h

  -- unwinding

  catches : (x : Option Handler) (e : Event) (todo : List Todo) → Holding todo → StepBuilds t heads few kinds (raising.catch_step x e todo s)
  catches None e todo h = go _ _ h
  catches (Some x) e todo h = told _ refl refl h

  guarded : (hs : Handlers) (w : Option UnwindReason) (todo : List Todo) → Holding todo → StepBuilds t heads few kinds (raising.guard_left hs w todo s)
  guarded hs (Some (reason.Event n y z)) todo h = catches (raising.handler_for false (record { number = n; x = y; y = z }) hs) (record { number = n; x = y; y = z }) todo h
  guarded hs w todo h = go _ _ h

  whole : (b : Bool) (todo : List Todo) → Holding todo → StepBuilds t heads few kinds (raising.whole_left b todo s)
  whole true todo h = told _ refl refl h
  whole false todo h = go _ _ h

  main_left : (w : Option UnwindReason) (todo : List Todo) → Holding todo → StepBuilds t heads few kinds (raising.main_left w todo s)
  main_left (Some (reason.ReturnTo n)) todo h = told _ refl refl h
  main_left w todo h = tt

  coroutine_left : (w : Option UnwindReason) (todo : List Todo) → Returns w → Holding todo → StepBuilds t heads few kinds (raising.coroutine_left w todo s)
  coroutine_left (Some (reason.ReturnTo n)) todo calm h = told _ refl refl h
  coroutine_left (Some reason.Destroyed) todo calm h = absurd calm
  coroutine_left (Some (reason.Event n x y)) todo calm h = absurd calm
  coroutine_left None todo calm h = absurd calm

  -- what cleans up
  pub cleans : (c : CleanUp) (todo : List Todo) → Awaited Anew (piece.DropNow ∷ todo) → Holding todo → Holding (piece.clean_todo c todo)
  cleans (src.Destroys e) todo a h = ((a, h.0), h.1)
  cleans (src.DestroysAll k e) todo a h = h
  cleans src.Unwinds todo a h = h
  cleans src.Forgets todo a h = h
  cleans src.Leaves todo a h = h
  cleans src.Ends todo a h = h
  cleans (src.Frees None) todo a h = h
  cleans (src.Frees (Some r)) todo a h = h
  cleans (src.Restores k) todo a h = h

  -- before an unwinding
  left_cleans : (c : CleanUp) (todo : List Todo) → Holding todo → Holding (raising.left_todo c (piece.Unwind ∷ todo))
  left_cleans (src.Frees r) todo h = h
  left_cleans c todo h = cleans c (piece.Unwind ∷ todo) tt h

  scope : (c : CleanUp) (b : Bool) (todo : List Todo) → Holding todo → StepBuilds t heads few kinds (raising.scope_left c b todo s)
  scope src.Leaves true todo h = told _ refl refl h
  scope src.Leaves false todo h = go _ _ h
  scope c b todo h = go (raising.left_todo c (piece.Unwind ∷ todo)) [] (left_cleans c todo h)

  unwind_past : (k : Sort) (todo : List Todo) → GoesPast k s.run.raised → Holding todo → StepBuilds t heads few kinds (raising.unwind_past k todo s)
  unwind_past piece.Simple todo calm h = go _ _ h
  unwind_past (piece.IsLoop order c e b) todo calm h = go _ _ h
  unwind_past piece.IsWhole todo calm h = whole _ todo h
  unwind_past (piece.IsClean x) todo calm h = scope x _ todo h
  unwind_past (piece.IsFill m b d) todo calm h = go _ _ h
  unwind_past (piece.IsSweep e) todo calm h = go _ _ h
  unwind_past (piece.IsPart x) todo calm h = go _ _ (cleans x (piece.Unwind ∷ todo) tt h)
  unwind_past (piece.IsGuard hs) todo calm h = guarded hs s.run.raised todo h
  unwind_past piece.IsFinish todo calm h = main_left s.run.raised todo h
  unwind_past piece.IsFinishCoroutine todo calm h = coroutine_left s.run.raised todo calm h

  tail : (p : Todo) (todo : List Todo) → Holding (p ∷ todo) → Holding todo
  tail p todo h = (tail_calling Anew p todo h.0, h.1)

  pub unwinds : BuildsBy t heads few kinds of_wait s → (todo : List Todo) → GoesOn (piece.Unwind ∷ todo) s.run.raised → Holding todo → StepBuilds t heads few kinds (raising.unwind_step todo s)
  unwinds stay [] calm h = leaves stay s.callers life.frames life.stack.1 callers anew
  unwinds stay (p ∷ ps) calm h = unwind_past (piece.sort p) ps calm (tail p ps h)

  -- exits

  left_loop : (w : Way) (order : Order) (a : Expr) (e : Option Expr) (b : Stmt) (todo : List Todo) → Holding todo → Holding (quiet.loop_left w order a e b todo)
  left_loop src.ToBreak order a e b todo h = h
  left_loop src.ToContinue order a e b todo h = h
  left_loop src.ToReturn order a e b todo h = h
  left_loop src.ToEnd order a e b todo h = h

  left_behind : (w : Way) (k : Sort) (todo : List Todo) → Holding todo → Holding (quiet.left_behind w k todo)
  left_behind w piece.Simple todo h = h
  left_behind w (piece.IsLoop order a e b) todo h = left_loop w order a e b todo h
  left_behind w piece.IsWhole todo h = h
  left_behind w (piece.IsClean c) todo h = h
  left_behind w (piece.IsFill n b d) todo h = h
  left_behind w (piece.IsSweep e) todo h = h
  left_behind w (piece.IsPart c) todo h = h
  left_behind w (piece.IsGuard hs) todo h = h
  left_behind w piece.IsFinish todo h = h
  left_behind w piece.IsFinishCoroutine todo h = h

  pub exits : BuildsBy t heads few kinds of_wait s → (w : Way) (todo : List Todo) → Holding todo → StepBuilds t heads few kinds (quiet.exit_step w todo s)
  exits stay w [] h = end_step stay w
  exits stay w (p ∷ ps) h = go _ _ (left_behind w (piece.sort p) ps (tail p ps h))

  -- the branch of a clause
  pub branch : (k : ℕ) (cs : Clauses) (todo : List Todo) → AwaitedRest Anew todo → Calling Anew todo → Calling Anew (monitors.branch_todo k cs todo)
  branch k src.NoClauses todo a c = c
  branch k (src.Otherwise b) todo a c = by (nat_eq k 0)
    where
      by : (x : Bool) → Calling Anew (if x then piece.Do b ∷ todo else todo)
      by true = (a, c)
      by false = c
  branch zero (src.MoreClauses guard b cs) todo a c = branch zero cs todo a c
  branch (suc zero) (src.MoreClauses guard b cs) todo a c = (a, c)
  branch (suc (suc k)) (src.MoreClauses guard b cs) todo a c = branch (suc k) cs todo a c

  -- printing

  pub prints : (x : Option (List Piece)) (p : Piece) (todo : List Todo) (vs : List Value) → Holding todo → StepBuilds t heads few kinds (piece.print_step x p todo vs s)
  prints None p todo vs h = stays _ _ h
  prints (Some ps) p todo vs h = go_in _ _ _ (same refl refl) h

  pub flushes : (x : Option (List Piece)) (todo : List Todo) (vs : List Value) → Holding todo → StepBuilds t heads few kinds (piece.flush_step x todo vs s)
  flushes None todo vs h = go _ _ h
  flushes (Some []) todo vs h = go_in _ _ _ (same refl refl) h
  flushes (Some (p ∷ ps)) todo vs h = stays_in _ _ _ (same refl refl) h
