-- Where the scope of an object opens next, behind what has built it, that holds what is known.
use Rattle.std.proofs.Common.{◌≡◌, ℕ, suc, ◌⊎◌, inl, inr, Bool, true, false, List, [], ◌∷◌, length, Option, Some, None, refl, sym, ap, ◌∙◌, subst, arith}
use Rattle.uc_tree.specs.Source as src
use Rattle.uc_tree.specs.Source.{Source, Stmts, Way, CleanUp}
use Rattle.uc_entry.specs.declared.request.Request.{Request}
use Rattle.uc_entry.specs.declared.request.Request.TheVariants as ask
use Rattle.uc_machine.specs.declared.exec.UnwindReason.{UnwindReason}
use Rattle.uc_machine.specs.declared.exec.Visited.{Visited}
use Rattle.uc_machine.specs.Insides as inside
use Rattle.uc_machine.specs.Raising as raising
use Rattle.uc_machine.specs.declared.exec.Owner.TheVariants.{Frame}
use Rattle.uc_machine.specs.Executions.{others, returned}
use Rattle.uc_machine.specs.Quiet as quiet
use Rattle.uc_machine.specs.Pieces as piece
use Rattle.uc_machine.specs.Pieces.{FieldAt, Value, Todo, Active, State, Step, Goes, Ticks, Asks, at, below, further, nought}
use Rattle.uc_typing.specs.Typing.{Ty, Obj, Sig, Table, CleansAt}
use Rattle.uc_life_laws.specs.Things.{Few, Known, Holds}
use Rattle.uc_life_laws.specs.LifeStates.{frame_at}
use Rattle.uc_life_laws.specs.Kinds.{GoesOn}
use Rattle.uc_state_laws.specs.RoomStacks.{Stack, StackState}
use Rattle.uc_life_laws.proofs.Cells.{either, others_length}
use Rattle.uc_building_laws.specs.Building.{Now}
use Rattle.uc_building_laws.specs.BuildingStates.{variable, AtScope, Awaits, Nears, IsLoose, IsBuilt, IsMaking, Builds, of_run, Stands, StandsBehind, BuildsState}
use Rattle.uc_place_laws.specs.CalledStates.{Ends, Joins, AskJoins, StepJoins}
use Rattle.uc_building_laws.proofs.Memory.{frame_older}
use Rattle.uc_building_laws.proofs.Plain.{none_plain}
use Rattle.uc_building_laws.proofs.Building.{built_kept}

-- so a list tells
abbrev pub StandsOf : (t : Table) (heads : ℕ → ℕ → Bool) (few : Few) (kinds : List Sig) → State → List Todo → Type 0
StandsOf t heads few kinds u l = Nears (λ c todo. (k i : ℕ) → CleansAt t (Obj i) (src.Variable k) c → IsBuilt t heads few kinds u.env.exec u.env.frames u.run.frame (variable u.env.exec u.run.frame k) i (AtScope t few kinds u.env.exec u.run.frame u.run.this u.callers c todo)) l

-- what the end of an activation of a state leads to: to who waits for it, which goes on or is unwound
abbrev EndsTo : State → List Active → Step → Type 0
EndsTo s cs (Goes u) = ((given : Value) × (piece.return_step given cs s ≡ Goes u)) ⊎ ((rest : List Todo) × (u.run.control ≡ piece.Unwind ∷ rest))
EndsTo s cs (Ticks u) = ⊥
EndsTo s cs (Asks r u) = (r ≡ ask.End) ⊎ ((n : ℕ) × (r ≡ ask.Fault n))

module _ (s : State) where
  return_to : (given : Value) (cs : List Active) → EndsTo s cs (piece.return_step given cs s)
  return_to given [] = inl refl
  return_to given (b ∷ cs) = inl (given, refl)

  past_to : (v : Visited) (given : Value) (cs : List Active) → EndsTo s cs (raising.return_past v given cs s)
  past_to v given [] = inl refl
  past_to v given (b ∷ cs) = inr (b.control, refl)

  end_to : (v : Option Visited) (given : Value) → EndsTo s s.callers (raising.end_by v given s)
  end_to None given = return_to given s.callers
  end_to (Some v) given = past_to v given s.callers

  exit_to : (w : Way) → EndsTo s s.callers (quiet.end_step w s)
  exit_to src.ToReturn = end_to s.run.handles (piece.top s.run.operands)
  exit_to src.ToEnd = end_to s.run.handles nought
  exit_to src.ToBreak = return_to nought s.callers
  exit_to src.ToContinue = return_to nought s.callers

  pass_to : (o : Option UnwindReason) (c : Active) (cs : List Active) → EndsTo s (c ∷ cs) (raising.pass_on o c cs s)
  pass_to None c cs = inl refl
  pass_to (Some why) c cs = inr (c.control, refl)

  leave_for_to : (b : Bool) (c : Active) (cs : List Active) → EndsTo s (c ∷ cs) (raising.leave_for b c cs s)
  leave_for_to true c cs = inr (_, refl)
  leave_for_to false c cs = pass_to s.run.raised c cs

  leave_to : (cs : List Active) → EndsTo s cs (raising.leave_step cs s)
  leave_to [] = inl refl
  leave_to (c ∷ cs) = either (EndsTo s (c ∷ cs)) (raising.arrives s.run.raised (length (c ∷ cs))) (piece.return_step s.run.result (c ∷ cs) s) (raising.leave_for (raising.escapes s.run.raised c.raised) c cs s) (return_to s.run.result (c ∷ cs)) (leave_for_to (raising.escapes s.run.raised c.raised) c cs)

  -- so it is of each end
  pub ends_to : (source : Source) (l : List Todo) → Ends s l → EndsTo s s.callers (quiet.act_todo source l s)
  ends_to source [] e = return_to nought s.callers
  ends_to source (piece.Exit w ∷ []) e = exit_to w
  ends_to source (piece.Finish ∷ todo) e = either (EndsTo s s.callers) (inside.is_held_up s.env.own s.env) _ (piece.return_step nought s.callers s) (inr (_, refl)) (return_to nought s.callers)
  ends_to source (piece.Unwind ∷ []) e = leave_to s.callers
  ends_to source l e = absurd e

-- where another execution goes on behind a step no scope of an object opens next
module _ (s : State) (other : GoesOn s.run.control s.run.raised → ⊥) where
  ends_calm : (l : List Todo) → Ends s l → GoesOn l s.run.raised
  ends_calm [] h = tt
  ends_calm (piece.Exit w ∷ []) h = tt
  ends_calm (piece.Finish ∷ todo) h = tt
  ends_calm (piece.Unwind ∷ []) h = tt
  ends_calm l h = absurd h

  pub others_stand : (t : Table) (heads : ℕ → ℕ → Bool) (few : Few) (kinds : List Sig) (u : State) (l : List Todo) → Joins s l → StandsOf t heads few kinds u l
  others_stand t heads few kinds u (piece.Rest (src.Scoped c ss) ∷ todo) (inl none) = λ k i d. absurd (none_plain t c none (k, i, d))
  others_stand t heads few kinds u (piece.Rest (src.Scoped c ss) ∷ todo) (inr q) = absurd (other (subst (λ l. GoesOn l s.run.raised) (sym q.1) tt))
  others_stand t heads few kinds u (piece.Within line ∷ (piece.Rest (src.Scoped c ss) ∷ todo)) (inl none) = λ k i d. absurd (none_plain t c none (k, i, d))
  others_stand t heads few kinds u (piece.Within line ∷ (piece.Rest (src.Scoped c ss) ∷ todo)) (inr q) = absurd (other (subst (λ l. GoesOn l s.run.raised) (sym q) tt))
  others_stand t heads few kinds u (piece.DropNow ∷ (piece.Within line ∷ (piece.Rest (src.Scoped c ss) ∷ todo))) (inl none) = λ k i d. absurd (none_plain t c none (k, i, d))
  others_stand t heads few kinds u (piece.DropNow ∷ (piece.Within line ∷ (piece.Rest (src.Scoped c ss) ∷ todo))) (inr q) = absurd (other (ends_calm s.run.control q))
  others_stand t heads few kinds u l j = tt

module _ (t : Table) (heads : ℕ → ℕ → Bool) (few : Few) (kinds : List Sig) (source : Source) (Z : ℕ → ℕ → Type 0) (s : State) (life : StackState Z s) (st : BuildsState t heads few kinds s) where
  -- what a clean-up is for is built, in the frame of who runs, with this to do behind it
  abbrev Claim : State → CleanUp → List Todo → Type 0
  Claim u c todo = (k i : ℕ) → CleansAt t (Obj i) (src.Variable k) c → IsBuilt t heads few kinds u.env.exec u.env.frames u.run.frame (variable u.env.exec u.run.frame k) i (AtScope t few kinds u.env.exec u.run.frame u.run.this u.callers c todo)

  abbrev pub StepStands : Step → Type 0
  StepStands (Goes u) = Stands t heads few kinds u
  StepStands (Ticks u) = Stands t heads few kinds u
  StepStands (Asks r u) = StandsBehind t heads few kinds r u

  module _ (line : ℕ) (c : CleanUp) (ss : Stmts) (todo : List Todo) where
    abbrev rest : List Todo
    rest = piece.Rest (src.Scoped c ss) ∷ todo

    abbrev within : List Todo
    within = piece.Within line ∷ rest

    abbrev drop : List Todo
    drop = piece.DropNow ∷ within

    leaves : s.run.control ≡ within → quiet.quiet source s ≡ Goes (at rest s.run.operands s)
    leaves e = ap (λ l. quiet.act_todo source l s) e

    drops : s.run.control ≡ drop → quiet.quiet source s ≡ Goes (at within (below s.run.operands) s)
    drops e = ap (λ l. quiet.act_todo source l s) e

    left_stands : s.run.control ≡ within → Claim s c todo
    left_stands e = subst (StandsOf t heads few kinds s) e st.stands

    dropped_stands : s.run.control ≡ drop → Claim s c todo
    dropped_stands e = subst (StandsOf t heads few kinds s) e st.stands

    -- a constructor has come to its end, and nothing is left to be bound
    module _ (nothing : (ps : List Ty) (d i : ℕ) (w : Value) (K : Ty → Value → Type 0) → of_run t heads s.run ps d i w K → ⊥) (b : Active) (cs : List Active) (l : length s.env.frames ≡ suc (length (b ∷ cs))) (h : Stack Z s.env.frames (b ∷ cs)) (control : b.control ≡ drop) (x : Builds t heads few kinds s.env.exec (of_run t heads s.run) s.env.frames s.run.frame s.run.this (b ∷ cs)) where
      made : (g : ℕ) (w : Value) (d : ℕ) (K : Value → Ty → Type 0) → IsBuilt t heads few kinds s.env.exec s.env.frames g w d K ⊎ IsMaking t heads few kinds s.env.exec (of_run t heads s.run) s.env.frames s.run.frame (suc (length cs)) s.run.this g w d K → IsBuilt t heads few kinds s.env.exec s.env.frames g w d K
      made g w d K (inl y) = y
      made g w d K (inr m) = λ i f told. by i (m.fields i f told)
        where
          by : (i : ℕ) → Holds t few s.env.exec K (Frame s.env.exec g) (frame_at g s.env.frames) (further (FieldAt (t.shape d) i) w) (t.fields d i) ⊎ (of_run t heads s.run m.params d i w (Known t few s.env.exec K) × IsLoose s.env.frames g (further (FieldAt (t.shape d) i) w)) → Holds t few s.env.exec K (Frame s.env.exec g) (frame_at g s.env.frames) (further (FieldAt (t.shape d) i) w) (t.fields d i)
          by i (inl y) = y
          by i (inr y) = absurd (nothing m.params d i w (Known t few s.env.exec K) y.0)

      handed : (k i : ℕ) → CleansAt t (Obj i) (src.Variable k) c → IsBuilt t heads few kinds s.env.exec (others s.env.frames) b.frame (variable s.env.exec b.frame k) i (AtScope t few kinds s.env.exec b.frame b.this cs c todo)
      handed k i d =
          let y : Awaits (λ c todo. (k i : ℕ) → CleansAt t (Obj i) (src.Variable k) c → IsBuilt t heads few kinds s.env.exec s.env.frames b.frame (variable s.env.exec b.frame k) i (AtScope t few kinds s.env.exec b.frame b.this cs c todo) ⊎ IsMaking t heads few kinds s.env.exec (of_run t heads s.run) s.env.frames s.run.frame (suc (length cs)) s.run.this b.frame (variable s.env.exec b.frame k) i (AtScope t few kinds s.env.exec b.frame b.this cs c todo)) drop = subst (Awaits _) control x in
          let n : length (others s.env.frames) ≡ suc (length cs) = others_length s.env.frames (length cs) l in
          let le = h.0.frame in
          built_kept t heads few kinds s.env.exec s.env.frames (others s.env.frames) b.frame (variable s.env.exec b.frame k) i (AtScope t few kinds s.env.exec b.frame b.this cs c todo) (frame_older s.env.frames b.frame (omega (arith, n, le))) (made b.frame (variable s.env.exec b.frame k) i (AtScope t few kinds s.env.exec b.frame b.this cs c todo) (y k i d))

    returned_goes : ((ps : List Ty) (d i : ℕ) (w : Value) (K : Ty → Value → Type 0) → of_run t heads s.run ps d i w K → ⊥) → (given : Value) (u : State) → u.run.control ≡ drop → piece.return_step given s.callers s ≡ Goes u → Claim u c todo
    returned_goes nothing given u control q = by s.callers life.frames life.stack.1 st.builds.run q
      where
        by : (cs : List Active) → length s.env.frames ≡ suc (length cs) → Stack Z s.env.frames cs → Builds t heads few kinds s.env.exec (of_run t heads s.run) s.env.frames s.run.frame s.run.this cs → piece.return_step given cs s ≡ Goes u → Claim u c todo
        by [] l h x q = absurd (cc)
        by (b ∷ cs) l h x q =
            let same : returned (Some given) s.run.counts b cs s.env ≡ u = cc in
            let stands : b.control ≡ drop = ap (λ (u : State). u.run.control) same ∙ control in
            subst (λ u. Claim u c todo) same (handed nothing b cs l h stands x)

    ended_goes : (u : State) → u.run.control ≡ drop → (l : List Todo) → s.run.control ≡ l → Ends s l → EndsTo s s.callers (Goes u) → Claim u c todo
    ended_goes u control l e en (inr q) =
        let z : piece.Unwind ∷ q.0 ≡ drop = sym q.1 ∙ control in
        absurd (cc)
    ended_goes u control [] e en (inl q) = returned_goes (λ ps d i w K y. subst (λ l. Now t heads ps d i w K l s.run.operands) e y) q.0 u control q.1
    ended_goes u control (piece.Exit w ∷ []) e en (inl q) = returned_goes (λ ps d i v K y. subst (λ l. Now t heads ps d i v K l s.run.operands) e y) q.0 u control q.1
    ended_goes u control (piece.Finish ∷ past) e en (inl q) = returned_goes (λ ps d i w K y. subst (λ l. Now t heads ps d i w K l s.run.operands) e y) q.0 u control q.1
    ended_goes u control (piece.Unwind ∷ []) e en (inl q) = returned_goes (λ ps d i w K y. subst (λ l. Now t heads ps d i w K l s.run.operands) e y) q.0 u control q.1
    ended_goes u control l e en (inl q) = absurd en

  -- who runs has come to an end
  ended : (step : Step) → quiet.quiet source s ≡ step → Ends s s.run.control → EndsTo s s.callers step
  ended step e en = subst (EndsTo s s.callers) e (ends_to s source s.run.control en)

  goes_at : (u : State) (l : List Todo) → u.run.control ≡ l → quiet.quiet source s ≡ Goes u → Joins s l → StandsOf t heads few kinds u l
  goes_at u (piece.Rest (src.Scoped c ss) ∷ todo) control e (inl none) = λ k i d. absurd (none_plain t c none (k, i, d))
  goes_at u (piece.Rest (src.Scoped c ss) ∷ todo) control e (inr q) =
      let a : Goes (at (piece.Rest (src.Scoped c ss) ∷ todo) s.run.operands s) ≡ Goes u = sym (leaves q.0 c ss todo q.1) ∙ e in
      let same : at (piece.Rest (src.Scoped c ss) ∷ todo) s.run.operands s ≡ u = cc in
      subst (λ u. Claim u c todo) same (left_stands q.0 c ss todo q.1)
  goes_at u (piece.Within line ∷ (piece.Rest (src.Scoped c ss) ∷ todo)) control e (inl none) = λ k i d. absurd (none_plain t c none (k, i, d))
  goes_at u (piece.Within line ∷ (piece.Rest (src.Scoped c ss) ∷ todo)) control e (inr q) =
      let a : Goes (at (piece.Within line ∷ (piece.Rest (src.Scoped c ss) ∷ todo)) (below s.run.operands) s) ≡ Goes u = sym (drops line c ss todo q) ∙ e in
      let same : at (piece.Within line ∷ (piece.Rest (src.Scoped c ss) ∷ todo)) (below s.run.operands) s ≡ u = cc in
      subst (λ u. Claim u c todo) same (dropped_stands line c ss todo q)
  goes_at u (piece.DropNow ∷ (piece.Within line ∷ (piece.Rest (src.Scoped c ss) ∷ todo))) control e (inl none) = λ k i d. absurd (none_plain t c none (k, i, d))
  goes_at u (piece.DropNow ∷ (piece.Within line ∷ (piece.Rest (src.Scoped c ss) ∷ todo))) control e (inr q) =
      ended_goes line c ss todo u control s.run.control refl q (ended (Goes u) e q)
  goes_at u l control e j = tt

  ticks_at : (u : State) (l : List Todo) → u.run.control ≡ l → quiet.quiet source s ≡ Ticks u → Joins s l → StandsOf t heads few kinds u l
  ticks_at u (piece.Rest (src.Scoped c ss) ∷ todo) control e (inl none) = λ k i d. absurd (none_plain t c none (k, i, d))
  ticks_at u (piece.Rest (src.Scoped c ss) ∷ todo) control e (inr q) =
      let a : Goes (at (piece.Rest (src.Scoped c ss) ∷ todo) s.run.operands s) ≡ Ticks u = sym (leaves q.0 c ss todo q.1) ∙ e in
      absurd (cc)
  ticks_at u (piece.Within line ∷ (piece.Rest (src.Scoped c ss) ∷ todo)) control e (inl none) = λ k i d. absurd (none_plain t c none (k, i, d))
  ticks_at u (piece.Within line ∷ (piece.Rest (src.Scoped c ss) ∷ todo)) control e (inr q) =
      let a : Goes (at (piece.Within line ∷ (piece.Rest (src.Scoped c ss) ∷ todo)) (below s.run.operands) s) ≡ Ticks u = sym (drops line c ss todo q) ∙ e in
      absurd (cc)
  ticks_at u (piece.DropNow ∷ (piece.Within line ∷ (piece.Rest (src.Scoped c ss) ∷ todo))) control e (inl none) = λ k i d. absurd (none_plain t c none (k, i, d))
  ticks_at u (piece.DropNow ∷ (piece.Within line ∷ (piece.Rest (src.Scoped c ss) ∷ todo))) control e (inr q) = absurd (ended (Ticks u) e q)
  ticks_at u l control e j = tt

  asks_at : (r : Request) → (r ≡ ask.End → ⊥) → ((n : ℕ) → r ≡ ask.Fault n → ⊥) → (u : State) (l : List Todo) → u.run.control ≡ l → quiet.quiet source s ≡ Asks r u → Joins s l → StandsOf t heads few kinds u l
  asks_at r no_end no_fault u (piece.Rest (src.Scoped c ss) ∷ todo) control e (inl none) = λ k i d. absurd (none_plain t c none (k, i, d))
  asks_at r no_end no_fault u (piece.Rest (src.Scoped c ss) ∷ todo) control e (inr q) =
      let a : Goes (at (piece.Rest (src.Scoped c ss) ∷ todo) s.run.operands s) ≡ Asks r u = sym (leaves q.0 c ss todo q.1) ∙ e in
      absurd (cc)
  asks_at r no_end no_fault u (piece.Within line ∷ (piece.Rest (src.Scoped c ss) ∷ todo)) control e (inl none) = λ k i d. absurd (none_plain t c none (k, i, d))
  asks_at r no_end no_fault u (piece.Within line ∷ (piece.Rest (src.Scoped c ss) ∷ todo)) control e (inr q) =
      let a : Goes (at (piece.Within line ∷ (piece.Rest (src.Scoped c ss) ∷ todo)) (below s.run.operands) s) ≡ Asks r u = sym (drops line c ss todo q) ∙ e in
      absurd (cc)
  asks_at r no_end no_fault u (piece.DropNow ∷ (piece.Within line ∷ (piece.Rest (src.Scoped c ss) ∷ todo))) control e (inl none) = λ k i d. absurd (none_plain t c none (k, i, d))
  asks_at r no_end no_fault u (piece.DropNow ∷ (piece.Within line ∷ (piece.Rest (src.Scoped c ss) ∷ todo))) control e (inr q) = absurd (by (ended (Asks r u) e q))
    where
      by : (r ≡ ask.End) ⊎ ((n : ℕ) × (r ≡ ask.Fault n)) → ⊥
      by (inl x) = no_end x
      by (inr x) = no_fault x.0 x.1
  asks_at r no_end no_fault u l control e j = tt

  behind : (r : Request) (u : State) → quiet.quiet source s ≡ Asks r u → AskJoins s r u → StandsBehind t heads few kinds r u
  behind ask.End u e j = tt
  behind (ask.Fault n) u e j = tt
  behind r u e j = asks_at r (λ q. absurd (cc)) (λ n q. absurd (cc)) u u.run.control refl e j

  pub stands : (step : Step) → quiet.quiet source s ≡ step → StepJoins s step → StepStands step
  stands (Goes u) e j = goes_at u u.run.control refl e j
  stands (Ticks u) e j = ticks_at u u.run.control refl e j
  stands (Asks r u) e j = behind r u e j
