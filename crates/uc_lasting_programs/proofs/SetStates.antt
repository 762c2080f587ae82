-- What activations that wait have bound to variables that are mutex objects has not gone: by homes of what has not gone alone, also behind acts by which an
-- object goes, but where its building has just been given up.
use Rattle.std.proofs.Common.{◌≡◌, ℕ, suc, ◌≤◌, ◌⊎◌, inl, inr, Bool, true, false, List, [], ◌∷◌, length, Option, Some, None, refl, sym, ap, ◌∙◌, subst, arith}
use Rattle.std.specs.Prelude.{slice_index_or, if◌then◌else◌}
use Rattle.uc_tree.specs.Source.{Source}
use Rattle.uc_entry.specs.declared.request.Answer.{Answer}
use Rattle.uc_entry.specs.declared.request.Answer.TheVariants as answer
use Rattle.uc_machine.specs.declared.exec.Exec.{Exec}
use Rattle.uc_machine.specs.declared.exec.Home.TheVariants as home
use Rattle.uc_machine.specs.declared.exec.Owner.{Owner}
use Rattle.uc_machine.specs.declared.exec.Owner.TheVariants.{Frame}
use Rattle.uc_machine.specs.declared.exec.Stage.{Stage}
use Rattle.uc_machine.specs.declared.exec.Stage.TheVariants.{Fresh, Started, Ended}
use Rattle.uc_machine.specs.declared.exec.UnwindReason.{UnwindReason}
use Rattle.uc_machine.specs.Executions.{Execution, others}
use Rattle.uc_machine.specs.Raising as raising
use Rattle.uc_machine.specs.Pieces as piece
use Rattle.uc_machine.specs.Pieces.{Link, Slot, Value, Place, Object, Nothing, address, nought, Todo, Active, State, Members}
use Rattle.uc_machine.specs.Quiet.{quiet, act_todo}
use Rattle.uc_machine.specs.Answering.{answered, entered, new_members, with_operand}
use Rattle.uc_state_laws.specs.ThereStates.{SourceBegins}
use Rattle.uc_life_laws.specs.Things.{Few}
use Rattle.uc_life_laws.specs.LifeStates.{frame_at}
use Rattle.uc_life_laws.proofs.HomedCells.{others_length}
use Rattle.uc_life_laws.proofs.Parked as parked
use Rattle.uc_putting_laws.specs.Putting.{IsHome}
use Rattle.uc_homed_ends.specs.BoundHomes.{NoVariable, AtDrop, AllLeft, IsUnset, IsThat, WaitsFor, BoundStack, BoundThere, BoundBy, BoundEx, BoundMembers, BoundEnv, BoundState, GoodStep}
use Rattle.uc_homed_ends.specs.BoundLaws.{Finds}
use Rattle.uc_homed_ends.specs.Freeing.{IsCalm, IsUnawaited, GivesUp}
use Rattle.uc_homed_ends.proofs.BoundCells.{opens_both, held_left, stack_older}
use Rattle.uc_homed_ends.proofs.BoundKeeping as kept
use Rattle.uc_homed_ends.proofs.BoundWalk.{law_bound_steps}

-- homes of what has not gone
abbrev pub not_gone : (ℕ → Value) → (ℕ → Bool) → Few
not_gone homes gone = record { numbers = λ a o. false; home = λ o. if gone o then Nothing else homes o; base = λ n v a. false }

-- a building that is given up

-- the one that waits is unwound next
abbrev pub left_stack : List Active → List Active
left_stack [] = []
left_stack (a ∷ older) = record a { control = piece.Unwind ∷ a.control } ∷ older

-- who gave up the object that it built passes its unwinding on
pub record HasGivenUp (few : Few) (s : State) : Type 0 where
  pub control : s.run.control ≡ piece.Unwind ∷ []
  pub passes : raising.arrives s.run.raised (length s.callers) ≡ false
  pub frames : length s.env.frames ≡ suc (length s.callers)
  pub frame : s.run.frame ≤ length s.callers
  pub callers : BoundStack few s.env.exec s.env.frames s.run.this (left_stack s.callers)
  pub env : BoundEnv few s.env

-- a task at rest, and on its way
abbrev pub SetAtRest : Source → Few → State → Type 0
SetAtRest source few s = BoundState few source false s ⊎ HasGivenUp few s

abbrev pub SetOnWay : Source → Few → State → Type 0
SetOnWay source few s = BoundState few source true s ⊎ HasGivenUp few s

-- who waits by homes told otherwise

drop_more : (Q S P : ℕ → Type 0) (f : (k : ℕ) → S k → P k) (todo : List Todo) → AtDrop Q S todo → AtDrop Q P todo
drop_more Q S P f (piece.DropNow ∷ (piece.Within line ∷ (piece.Rest ss ∷ todo))) h = (opens_both S S P (λ k x y. f k x) ss h.0 h.0, h.1)
drop_more Q S P f todo h = absurd h

-- no such scope opens next
drop_calm : (Q S P : ℕ → Type 0) (todo : List Todo) → IsCalm todo → AtDrop Q S todo → AtDrop Q P todo
drop_calm Q S P (piece.DropNow ∷ (piece.Within line ∷ (piece.Rest ss ∷ todo))) c h = (opens_both NoVariable NoVariable P (λ k x y. absurd x) ss c c, h.1)
drop_calm Q S P todo c h = absurd h

module _ (homes : ℕ → Value) (g h : ℕ → Bool) where
  abbrev Before : Few
  Before = not_gone homes g

  abbrev Behind : Few
  Behind = not_gone homes h

  -- what is at home at a place has not gone
  at_place : (b : Bool) (u : Value) (o : Owner) (p : List Link) → (if b then Nothing else u) ≡ Place o p → (b ≡ false) × (u ≡ Place o p)
  at_place true u o p e = absurd (cc)
  at_place false u o p e = (refl, e)

  still_home : (v : Value) (o : Owner) (p : List Link) → ((q : ℕ) → v ≡ Object q → g q ≡ false → h q ≡ false) → IsHome Before v (Place o p) → IsHome Behind v (Place o p)
  still_home v o p stay x =
      let y = at_place (g x.number) (homes x.number) o p x.home in
      record {
        number = x.number;
        object = x.object;
        home = ap (λ (b : Bool). if b then Nothing else homes x.number) (stay x.number x.object y.0) ∙ y.1;
      }

  still_that : (n : Exec) (v : Value) (vs : List Value) (f k : ℕ) → ((q : ℕ) → v ≡ Object q → g q ≡ false → h q ≡ false) → IsThat Before n v vs f k → IsThat Behind n v vs f k
  still_that n v vs f k stay x = λ l.
      let y = x l in
      (still_home (slice_index_or vs (address (Slot k ∷ [])) nought) (Frame n f) (Slot k ∷ []) (λ q e. stay q (sym y.1 ∙ e)) y.0, y.1)

  still_waits : (n : Exec) (v : Value) (vs : List Value) (f : ℕ) (todo : List Todo) → ((q : ℕ) → v ≡ Object q → g q ≡ false → h q ≡ false) → WaitsFor Before n v vs f todo → WaitsFor Behind n v vs f todo
  still_waits n v vs f todo stay (inl x) = inl x
  still_waits n v vs f todo stay (inr x) = inr (drop_more (IsUnset vs) (IsThat Before n v vs f) (IsThat Behind n v vs f) (λ k y. still_that n v vs f k stay y) todo x)

  calm_waits : (n : Exec) (v : Value) (vs : List Value) (f : ℕ) (todo : List Todo) → IsCalm todo → WaitsFor Before n v vs f todo → WaitsFor Behind n v vs f todo
  calm_waits n v vs f todo c (inl x) = inl x
  calm_waits n v vs f todo c (inr x) = inr (drop_calm (IsUnset vs) (IsThat Before n v vs f) (IsThat Behind n v vs f) todo c x)

  -- where nothing has gone since but perhaps such
  module _ (Out : ℕ → Type 0) (stay : (q : ℕ) → (Out q → ⊥) → g q ≡ false → h q ≡ false) where
    abbrev pub IsIn : Value → Type 0
    IsIn v = (q : ℕ) → v ≡ Object q → Out q → ⊥

    abbrev pub AllIn : List Active → Type 0
    AllIn [] = Unit {0}
    AllIn (a ∷ older) = IsIn a.this × AllIn older

    spared : (v : Value) → IsIn v → (q : ℕ) → v ≡ Object q → g q ≡ false → h q ≡ false
    spared v i q e = stay q (i q e)

    pub still_stack : (n : Exec) (fs : List (List Value)) (v : Value) (cs : List Active) → IsIn v → AllIn cs → BoundStack Before n fs v cs → BoundStack Behind n fs v cs
    still_stack n fs v [] a s x = tt
    still_stack n fs v (c ∷ older) a s x =
        (x.0, still_waits n v (frame_at c.frame fs) c.frame c.control (spared v a) x.1, still_stack n fs c.this older s.0 s.1 x.2)

    -- so it is behind the end of what nobody awaits
    pub calm_stack : (n : Exec) (fs : List (List Value)) (v : Value) (cs : List Active) → IsUnawaited cs → AllIn cs → BoundStack Before n fs v cs → BoundStack Behind n fs v cs
    calm_stack n fs v [] c s x = tt
    calm_stack n fs v (a ∷ older) c s x = (x.0, calm_waits n v (frame_at a.frame fs) a.frame a.control c x.1, still_stack n fs a.this older s.0 s.1 x.2)

    -- and behind the end of a building that is given up
    pub left_behind : (n : Exec) (fs : List (List Value)) (v : Value) (cs : List Active) → AllIn cs → BoundStack Before n fs v cs → BoundStack Behind n fs v (left_stack cs)
    left_behind n fs v [] s x = tt
    left_behind n fs v (a ∷ older) s x =
        (x.0, inl (held_left (IsUnset (frame_at a.frame fs)) (IsThat Before n v (frame_at a.frame fs) a.frame) a.control x.1), still_stack n fs a.this older s.0 s.1 x.2)

    left_calm : (cs : List Active) → IsUnawaited (left_stack cs)
    left_calm [] = tt
    left_calm (a ∷ older) = tt

    left_in : (cs : List Active) → AllIn cs → AllIn (left_stack cs)
    left_in [] s = tt
    left_in (a ∷ older) s = s

    there : (n : Exec) (y : Execution (List Todo) Value) → AllIn (y.run ∷ y.callers) → BoundThere Before n y → BoundThere Behind n y
    there n y s x = record { frames = x.frames; frame = x.frame; run = x.run; callers = still_stack n y.frames y.run.this y.callers s.0 s.1 x.callers }

    abbrev pub Inner : Stage → Execution (List Todo) Value → Type 0
    Inner Fresh y = AllIn (y.run ∷ y.callers)
    Inner Started y = AllIn (y.run ∷ y.callers)
    Inner Ended y = Unit {0}

    at_stage : (s : Stage) (n : Exec) (y : Execution (List Todo) Value) → BoundBy Before s n y → Inner s y → BoundBy Behind s n y
    at_stage Fresh n y x s = there n y s x
    at_stage Started n y x s = there n y s x
    at_stage Ended n y x s = tt

    pub still_ex : (n : Exec) (y : Execution (List Todo) Value) → BoundEx Before n y → Inner y.links.stage y → BoundEx Behind n y
    still_ex n y x s = at_stage y.links.stage n y x s

    -- a task at rest, of whose objects that is so
    pub still_rest : (source : Source) (s : State) → IsIn s.run.this → AllIn s.callers → BoundEnv Behind s.env → SetAtRest source Before s → SetAtRest source Behind s
    still_rest source s i a e (inl x) = inl (record { frames = x.frames; frame = x.frame; run = x.run; callers = still_stack s.env.exec s.env.frames s.run.this s.callers i a x.callers; env = e })
    still_rest source s i a e (inr x) = inr (record { control = x.control; passes = x.passes; frames = x.frames; frame = x.frame; callers = calm_stack s.env.exec s.env.frames s.run.this (left_stack s.callers) (left_calm s.callers) (left_in s.callers a) x.callers; env = e })

    -- who lets go of an object that nobody awaits, or gives up its building
    pub gone_rest : (source : Source) (s : State) → AllIn s.callers → BoundEnv Behind s.env → IsUnawaited s.callers ⊎ GivesUp source s → BoundState Before source false s → SetAtRest source Behind s
    gone_rest source s a e (inl c) x = inl (record { frames = x.frames; frame = x.frame; run = x.run; callers = calm_stack s.env.exec s.env.frames s.run.this s.callers c a x.callers; env = e })
    gone_rest source s a e (inr c) x = inr (record { control = c.1; passes = c.0; frames = x.frames; frame = x.frame; callers = left_behind s.env.exec s.env.frames s.run.this s.callers a x.callers; env = e })

module _ (few : Few) (source : Source) where
  module _ (s : State) (st : HasGivenUp few s) where
    -- who waited is unwound
    unwinds : (w : Option UnwindReason) (c : Active) (cs : List Active) → length s.env.frames ≡ suc (length (c ∷ cs)) → BoundStack few s.env.exec s.env.frames s.run.this (left_stack (c ∷ cs)) → GoodStep few source (raising.pass_on w c cs s)
    unwinds None c cs l h = inr (tt, st.env)
    unwinds (Some why) c cs l h =
        let n : length (others s.env.frames) ≡ suc (length cs) = others_length s.env.frames (length cs) l in
        let k = stack_older few s.env.exec s.env.frames s.run.this (left_stack (c ∷ cs)) (omega (arith, n)) h in
        record { frames = n; frame = k.0; run = inl (by k.1); callers = k.2; env = kept.like few st.env refl refl refl }
      where
        by : AllLeft (IsUnset (frame_at c.frame (others s.env.frames))) c.control ⊎ ⊥ → AllLeft (IsUnset (frame_at c.frame (others s.env.frames))) c.control
        by (inl x) = x
        by (inr x) = absurd x

    leaves_for : (b : Bool) (c : Active) (cs : List Active) → length s.env.frames ≡ suc (length (c ∷ cs)) → BoundStack few s.env.exec s.env.frames s.run.this (left_stack (c ∷ cs)) → GoodStep few source (raising.leave_for b c cs s)
    leaves_for true c cs l h = inr (tt, st.env)
    leaves_for false c cs l h = unwinds s.run.raised c cs l h

    leaves : (cs : List Active) → raising.arrives s.run.raised (length cs) ≡ false → length s.env.frames ≡ suc (length cs) → BoundStack few s.env.exec s.env.frames s.run.this (left_stack cs) → GoodStep few source (raising.leave_step cs s)
    leaves [] e l h = inr (tt, st.env)
    leaves (c ∷ cs) e l h =
        subst (λ (b : Bool). GoodStep few source (if b then piece.return_step s.run.result (c ∷ cs) s else raising.leave_for (raising.escapes s.run.raised c.raised) c cs s)) (sym e) (leaves_for (raising.escapes s.run.raised c.raised) c cs l h)

    passed_on : GoodStep few source (quiet source s)
    passed_on = subst (λ l. GoodStep few source (act_todo source l s)) (sym st.control) (leaves s.callers st.passes st.frames st.callers)

  -- each step
  pub set_steps : SourceBegins source → (s : State) → Finds few source s → SetOnWay source few s → GoodStep few source (quiet source s)
  set_steps begins s f (inl h) = law_bound_steps.steps few source begins s h f
  set_steps begins s f (inr h) = passed_on s h

  pub goes_on : (s : State) → SetAtRest source few s → SetOnWay source few s
  goes_on s (inl h) = inl (law_bound_steps.goes_on few source s h)
  goes_on s (inr h) = inr h

  -- answers

  with_operands : (s : State) (vs : List Value) → HasGivenUp few s → HasGivenUp few (record s { run = record s.run { operands = vs } })
  with_operands s vs h = record { control = h.control; passes = h.passes; frames = h.frames; frame = h.frame; callers = h.callers; env = h.env }

  new_there : (o : ℕ) (todo : List Todo) → BoundMembers few (home.Object o) (new_members source todo)
  new_there o [] = tt
  new_there o (piece.BindMadeNow c r ∷ todo) = tt
  new_there o (p ∷ todo) = tt

  entered_there : (m : Option Members) (o : ℕ) (s : State) → BoundMembers few (home.Object o) m → HasGivenUp few s → HasGivenUp few (with_operand (Object o) (entered m o s))
  entered_there None o s k h = with_operands s _ h
  entered_there (Some m) o s k h = record { control = h.control; passes = h.passes; frames = h.frames; frame = h.frame; callers = h.callers; env = record { house = h.env.house; hand = parked.more_hand (BoundEx few) s.env.hand o m k h.env.hand } }

  answered_up : (given : Answer) (s : State) → HasGivenUp few s → HasGivenUp few (answered source given s)
  answered_up (answer.Object o) s h = entered_there (new_members source s.run.control) o s (new_there o s.run.control) h
  answered_up (answer.Number n) s h = with_operands s _ h
  answered_up (answer.Value n failed) s h = with_operands s _ h
  answered_up (answer.Clause k failed) s h = with_operands s _ h
  answered_up (answer.Event n x y) s h = with_operands s _ h
  answered_up answer.Nothing s h = with_operands s _ h
  answered_up answer.Go s h = h

  pub set_told : (given : Answer) (s : State) → SetAtRest source few s → SetAtRest source few (answered source given s)
  set_told given s (inl h) = inl (law_bound_steps.told few source given s h)
  set_told given s (inr h) = inr (answered_up given s h)
