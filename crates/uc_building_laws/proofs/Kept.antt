-- Each step keeps what constructors have bound, by the kinds of frames; and answers do.
use Rattle.std.proofs.Common.{◌≡◌, ℕ, suc, ℤ, ◌⊎◌, inl, inr, Bool, true, false, List, [], ◌∷◌, length, drop, Option, Some, None, refl, sym, ap, ◌∙◌, subst, arith}
use Rattle.uc_tree.specs.Programs.{Program}
use Rattle.uc_tree.specs.Source as src
use Rattle.uc_tree.specs.Source.{Source, Routine, Stmts, CleanUp}
use Rattle.uc_entry.specs.declared.request.Request.{Request}
use Rattle.uc_entry.specs.declared.request.Request.TheVariants as ask
use Rattle.uc_machine.specs.declared.exec.Exec.{Exec}
use Rattle.uc_machine.specs.declared.exec.Owner.TheVariants.{Frame, Fields}
use Rattle.uc_machine.specs.declared.exec.UnwindReason.{UnwindReason}
use Rattle.uc_machine.specs.declared.exec.UnwindReason.TheVariants as reason
use Rattle.uc_machine.specs.Executions.{others, exec_eq, frame_changed, value_changed}
use Rattle.uc_machine.specs.Raising as raising
use Rattle.uc_machine.specs.Switches as sw
use Rattle.uc_machine.specs.Switches.{Moved, To, Stops, stopped, new_exec, unwound_there}
use Rattle.uc_machine.specs.Pieces as piece
use Rattle.uc_machine.specs.Pieces.{FieldAt, Value, Number, Place, Running, Object, Nothing, Todo, Sort, Active, State, Step, Goes, Ticks, Asks, top, at, further, stored, nought}
use Rattle.uc_machine.specs.Quiet.{act_todo, fresh, home_at, quiet}
use Rattle.uc_state_laws.specs.Layout.{Sized}
use Rattle.uc_state_laws.specs.RoomStacks.{StackState}
use Rattle.uc_typing.specs.Typing.{Ty, Obj, Sig, Table, CleansAt}
use Rattle.uc_typing.specs.States.{Sound}
use Rattle.uc_place_laws.specs.CalledStates.{StepJoins, StepFollows}
use Rattle.uc_place_laws.specs.Calling.{Calling}
use Rattle.uc_place_laws.specs.Sparing.{Spares, SparesAt}
use Rattle.uc_state_laws.specs.Counted.{params_at}
use Rattle.uc_life_laws.specs.Things.{Few, IsField, Known, Holds}
use Rattle.uc_life_laws.specs.LifeStates.{frame_at, Outwards, LifeStateBy, StepIs, OpensBy}
use Rattle.uc_life_laws.specs.LifeRuns.{IsLaidOut}
use Rattle.uc_life_laws.specs.Kinds.{Stays, IsKept, Turned, stays, begins, goes_back, Returns, GoesPast, GoesOn, Parks, FollowsOn, Claimed}
use Rattle.uc_life_laws.specs.Lives.{OutwardsOrMade, Lives}
use Rattle.uc_life_laws.specs.Knowing.{AskedBy, StepBy, ClaimsEnv, Finds}
use Rattle.uc_life_laws.proofs.Acting.{law_claims}
use Rattle.uc_life_laws.proofs.Cells.{others_length}
use Rattle.uc_life_laws.proofs.GoingOn.{goes_or}
use Rattle.uc_life_laws.proofs.KindsLemmas.{asked_more}
use Rattle.uc_life_laws.proofs.Knowns.{known_more, frames_length}
use Rattle.uc_life_laws.proofs.Clearing as clearing
use Rattle.uc_life_laws.proofs.LifeSteps.{life_kept}
use Rattle.uc_life_laws.proofs.LifeWalk.{walk}
use Rattle.uc_life_laws.proofs.LivesLemmas.{below, lives_kept, lives_parks, lives_read, lives_turned, nothing_kept}
use Rattle.uc_life_laws.proofs.Parked.{Ex, each_env}
use Rattle.uc_building_laws.specs.Anew.{IsAnew}
use Rattle.uc_place_laws.specs.OpeningLaws.{CallsAt, PartsAt}
use Rattle.uc_building_laws.specs.Pairs.{AreKinded}
use Rattle.uc_building_laws.proofs.Pairs.{pairs_turned}
use Rattle.uc_building_laws.specs.BuildingStates.{variable, of_run, of_wait, BuildsEx, BuildsBy, BuildsAsk, BuildsStep, Stands, Starts, Left, Built, BuiltState}
use Rattle.uc_building_laws.specs.BuildingLaws.{IsSpanned, Fair, LawKept}
use Rattle.uc_building_laws.proofs.Building.{all_keep, all_kept, builds_kept, builds_more}
use Rattle.uc_building_laws.proofs.Given.{holds_there}
use Rattle.uc_building_laws.proofs.Anew.{all_loosen, all_anew, behind_calling}
use Rattle.uc_building_laws.proofs.Laid.{clears}
use Rattle.uc_building_laws.proofs.Memory.{FrameKeeps, frame_stored, frame_number}
use Rattle.uc_building_laws.proofs.Standing.{StandsOf, others_stand}
use Rattle.uc_building_laws.proofs.Starting.{others_start}
use Rattle.uc_building_laws.proofs.Turning.{AllMade, newer_made, older_made, now_more, by_kinds, stands_by}
use Rattle.uc_building_laws.proofs.Walk.{law_steps}

-- behind a step by which another execution goes on, nothing but a fault is asked

abbrev OnlyFaults : Step → Type 0
OnlyFaults (Goes u) = Unit {0}
OnlyFaults (Ticks u) = ⊥
OnlyFaults (Asks (ask.Fault n) u) = Unit {0}
OnlyFaults (Asks r u) = ⊥

moves_only : (m : Moved (List Todo) Value) (u : State) → OnlyFaults (piece.moves m u)
moves_only (To v) u = tt
moves_only (Stops f) u = tt

left_only : (s : State) (w : Option UnwindReason) (todo : List Todo) → (Returns w → ⊥) → OnlyFaults (raising.coroutine_left w todo s)
left_only s (Some (reason.ReturnTo n)) todo other = absurd (other tt)
left_only s (Some reason.Destroyed) todo other = moves_only (sw.taken_down (at todo [] s)) _
left_only s (Some (reason.Event n x y)) todo other = moves_only (sw.escape (at todo [] s)) _
left_only s None todo other = moves_only (sw.escape (at todo [] s)) _

past_only : (s : State) (k : Sort) (todo : List Todo) → (GoesPast k s.run.raised → ⊥) → OnlyFaults (raising.unwind_past k todo s)
past_only s piece.IsFinishCoroutine todo other = left_only s s.run.raised todo other
past_only s k todo other = absurd (other tt)

stops_only : (source : Source) (s : State) (l : List Todo) → (GoesOn l s.run.raised → ⊥) → OnlyFaults (act_todo source l s)
stops_only source s [] other = absurd (other tt)
stops_only source s (piece.TakeDownNow ∷ todo) other = moves_only _ _
stops_only source s (piece.ResumeNow ∷ todo) other = moves_only _ _
stops_only source s (piece.SuspendNow ∷ todo) other = moves_only _ _
stops_only source s (piece.FinishCoroutine ∷ todo) other = moves_only _ _
stops_only source s (piece.Unwind ∷ []) other = absurd (other tt)
stops_only source s (piece.Unwind ∷ (p ∷ todo)) other = past_only s (piece.sort p) todo other
stops_only source s (p ∷ todo) other = absurd (other tt)

module _ (t : Table) (heads : ℕ → ℕ → Bool) (few : Few) where
  abbrev J : Exec → List Sig → Ex → Type 0
  J n gs x = Built t heads few n gs x

  abbrev S : List Ty → State → Type 0
  S given s = BuiltState t heads few given s

  -- nothing is left
  run_left : (given : List Ty) (a : Active) (ps : List Ty) (c i : ℕ) (w : Value) (K : Ty → Value → Type 0) → of_wait ps c i w K → Left t heads given a ps c i w K
  run_left given a ps c i w K h = absurd h

  pub rest_left : (kinds : List Sig) (given : List Ty) (u : State) → BuildsBy t heads few kinds of_wait u → BuildsBy t heads few kinds (Left t heads given u.run) u
  rest_left kinds given u h = record {
    anew = h.anew;
    run = builds_more t heads few kinds u.env.exec of_wait (Left t heads given u.run) (λ ps c i w K x. run_left given u.run ps c i w K x) u.env.frames u.run.frame u.run.this u.callers h.run;
    callers = h.callers;
  }

  -- executions that do not run keep it

  ex_unwound : (n : Exec) (kinds : List Sig) (x : Ex) (why : UnwindReason) → BuildsEx t heads few n kinds x → BuildsEx t heads few n kinds (unwound_there why x)
  ex_unwound n kinds x why r = record { anew = (r.anew.0, r.anew.1); run = r.run; callers = r.callers; pairs = r.pairs }

  ex_written : (n : Exec) (kinds : List Sig) (x : Ex) (d k : ℕ) (z : ℤ) → BuildsEx t heads few n kinds x → BuildsEx t heads few n kinds (record x { frames = frame_changed d (value_changed k (stored (Number z)) nought) x.frames })
  ex_written n kinds x d k z r = record {
    anew = all_anew t heads x.frames fs (x.run ∷ x.callers) (all_loosen t heads x.frames fs (λ e. frame_number x.frames d k e z) (x.run ∷ x.callers)) r.anew;
    run = builds_kept t heads few kinds n x.frames fs x.run.frame x.run.this x.callers (keep x.run.frame) (all_keep t heads few kinds n x.frames fs keep x.callers) r.run;
    callers = all_kept t heads few kinds n x.frames fs x.callers (all_keep t heads few kinds n x.frames fs keep x.callers) r.callers;
    pairs = r.pairs;
  }
    where
      fs : List (List Value)
      fs = frame_changed d (value_changed k (stored (Number z)) nought) x.frames

      keep : (e : ℕ) → FrameKeeps x.frames fs e
      keep e = frame_stored x.frames d k e (Number z)

  -- what is bound lies in no frame of theirs
  other_frame : (m n : Exec) → exec_eq m n ≡ true → exec_eq m n ≡ false → ⊥
  other_frame m n e f = let q : true ≡ false = sym e ∙ f in absurd (cc)

  stays_spared : (Z : ℕ → ℕ → Type 0) (n : Exec) (cs : List Active) (w v : Value) → Spares Z n cs w → Stays J n w v
  stays_spared Z n cs (Place (Frame m d) p) v h = λ far gs x y. absurd (other_frame m n h.0 far)
  stays_spared Z n cs (Place (Fields o) p) v h = tt
  stays_spared Z n cs (Object o) v h = tt
  stays_spared Z n cs (Number z) v h = tt
  stays_spared Z n cs (Running e) v h = tt
  stays_spared Z n cs Nothing v h = tt

  pub built_kept : IsKept J
  built_kept = record {
    written = λ n gs x d k z h. ((life_kept t few (OutwardsOrMade gs)).written n x d k (Number z) h.0, ex_written n gs x d k z h.1);
    linked = λ n gs x l h. ((lives_kept t few).linked n gs x l h.0, record { anew = h.1.anew; run = h.1.run; callers = h.1.callers; pairs = h.1.pairs });
    unwound = λ n gs x why other h. ((lives_kept t few).unwound n gs x why other h.0, ex_unwound n gs x why h.1);
  }

  pub fresh_built : (n : Exec) (kinds : List Sig) (r : Routine) (this : Value) → BuildsEx t heads few n kinds (fresh r this)
  fresh_built n kinds r this = record { anew = (behind_calling (IsAnew t heads (fresh r this).frames (fresh r this).run.frame) r.purpose r.line, tt); run = tt; callers = tt; pairs = ((λ g at. tt), tt) }

  module _ (source : Source) (p : Program) (s : State) (x : S [] s) where
    abbrev Z : ℕ → ℕ → Type 0
    Z = Sized p

    abbrev gs : List Sig
    gs = x.0.sigs

    abbrev claim : Lives t few s.env.exec gs (stopped s)
    claim = x.1.0

    same : length s.env.frames ≡ length gs
    same = frames_length t few s.env.exec gs s.env.frames (s.run ∷ s.callers) x.0.frames

    parks : (l : List Todo) → s.run.control ≡ l → SparesAt Z source l s → Parks J t source gs s l
    parks l e spares = by l e spares (lives_parks t few s gs same claim source l e)
      where
        -- with something else to do, as it stops
        behind : (p : Todo) (todo next : List Todo) → s.run.control ≡ p ∷ todo → (Calling (IsAnew t heads s.env.frames s.run.frame) (p ∷ todo) → Calling (IsAnew t heads s.env.frames s.run.frame) next) → ((ps : List Ty) (c i : ℕ) (w : Value) (K : Ty → Value → Type 0) → of_run t heads (at (p ∷ todo) s.run.operands s).run ps c i w K → ⊥) → BuildsEx t heads few s.env.exec gs (stopped (at next s.run.operands s))
        behind p todo next e calls none = record {
          anew = (calls (subst (Calling (IsAnew t heads s.env.frames s.run.frame)) e x.1.1.anew.0), x.1.1.anew.1);
          run = builds_more t heads few gs s.env.exec (of_run t heads s.run) of_wait (λ ps c i w K h. none ps c i w K (subst (λ l. of_run t heads (at l s.run.operands s).run ps c i w K) e h)) s.env.frames s.run.frame s.run.this s.callers x.1.1.run;
          callers = x.1.1.callers;
          pairs = x.1.4;
        }

        by : (l : List Todo) → s.run.control ≡ l → SparesAt Z source l s → Parks (Lives t few) t source gs s l → Parks J t source gs s l
        by [] e b h = tt
        by (piece.TakeDownNow ∷ todo) e b h = (h, behind piece.TakeDownNow todo todo e (λ k. k) (λ ps c i w K y. y))
        by (piece.ResumeNow ∷ todo) e b h = (h, behind piece.ResumeNow todo (piece.Land ∷ todo) e (λ k. k) (λ ps c i w K y. y))
        by (piece.SuspendNow ∷ todo) e b h = (h, behind piece.SuspendNow todo (piece.Land ∷ todo) e (λ k. k) (λ ps c i w K y. y))
        by (piece.SetUpNow r ∷ todo) e b h = λ q is. (((h q is).0, fresh_built _ (t.routine r ∷ []) q s.run.this), stays_spared Z s.env.exec (record s.run { control = todo } ∷ s.callers) s.run.this (Running (new_exec (home_at s.run.this s.env) s.env)) b)
        by (piece.BindNow ∷ todo) e b h = stays_spared Z s.env.exec (record s.run { control = todo } ∷ s.callers) (top (piece.below s.run.operands)) (top s.run.operands) b
        by (piece.BindMadeNow c r ∷ todo) e b h = λ q is. stays_spared Z s.env.exec (record s.run { control = todo } ∷ s.callers) (top (drop q.params (piece.below s.run.operands))) (top s.run.operands) (subst (λ o. Spares Z s.env.exec (record s.run { control = todo } ∷ s.callers) (top (drop (params_at o) (piece.below s.run.operands)))) is b)
        by (p ∷ todo) e b h = tt

    -- the kinds that it then has tell the same
    turned : (u : State) (hs : List Sig) → Lives t few u.env.exec hs (stopped u) → Turned t source s gs u hs → AllMade gs hs (u.run ∷ u.callers)
    turned u hs h (stays e n f v cs) = subst (λ hs. AllMade gs hs (u.run ∷ u.callers)) (sym e) (still (u.run ∷ u.callers))
      where
        still : (cs : List Active) → AllMade gs gs cs
        still [] = tt
        still (c ∷ older) = (((λ w a h. h), (λ w a h. h)), still older)
    turned u hs h (begins g a b e n cs f v) = subst (λ hs. AllMade gs hs (u.run ∷ u.callers)) (sym e) (newer_made t few g gs (u.run ∷ u.callers))
    turned u hs h (goes_back c q e n f v) =
        let l : length (others gs) ≡ suc (length u.callers) = others_length gs (length u.callers) (sym same ∙ (claim.frames ∙ ap (λ cs. suc (length cs)) q)) in
        subst (λ hs. AllMade gs hs (u.run ∷ u.callers)) (sym e) (older_made t few gs (u.run ∷ u.callers) (below t few (OutwardsOrMade hs) u.env.exec u.env.frames (u.run ∷ u.callers) h.stack) (omega (arith, l)))

    abbrev Walked : State → Type 0
    Walked u = LifeStateBy t few (OutwardsOrMade gs) (λ n x. Unit {0}) u

    -- what is called where, and by what kinds
    abbrev Pairing : Type 0
    Pairing = AreKinded p t × (CallsAt p source s.run.control s × PartsAt p source s.run.control s)

    -- what is known, what is in scope and what is built, in one
    module _ (fair : Pairing) (given : List Ty) (u : State) (y : FollowsOn J t few source s gs given u) (h : Walked u) where
      lives : Lives t few u.env.exec y.0.sigs (stopped u)
      lives = lives_turned t few s gs same claim source u y.0.sigs h y.1

      more : AllMade gs y.0.sigs (u.run ∷ u.callers)
      more = turned u y.0.sigs lives y.1

      left_more : (given : List Ty) (K L : Value → Ty → Type 0) → ((w : Value) (a : Ty) → K w a → L w a) → (ps : List Ty) (c i : ℕ) (w : Value) → Left t heads given u.run ps c i w (Known t few u.env.exec K) → Left t heads given u.run ps c i w (Known t few u.env.exec L)
      left_more [] K L m ps c i w z = now_more t heads ps c i w (Known t few u.env.exec K) (Known t few u.env.exec L) (λ a v. known_more t few u.env.exec K L m a v) u.run.control u.run.operands z
      left_more (b ∷ given) K L m ps c i w z = z

      joined : BuildsBy t heads few gs (Left t heads given u.run) u → Stands t heads few gs u → Starts t heads few gs u → S given u
      joined b st way = (y.0, (lives, by_kinds t heads few gs y.0.sigs (Left t heads given u.run) (Left t heads given u.run) u (left_more given) more b, stands_by t heads few gs y.0.sigs u more st, way, pairs_turned t p fair.0 source s gs same x.1.4 fair.1.0 fair.1.1 u y.0.sigs y.1))

    asks : Pairing → (r : Request) (u : State) → Walked u → BuildsAsk t heads few gs r u → AskedBy t few (FollowsOn J t few source s gs) (ClaimsEnv t few J) source r u → AskedBy t few S (ClaimsEnv t few J) source r u
    asks fair ask.End u h b y = y
    asks fair (ask.Fault n) u h b y = tt
    asks fair r u h b y = asked_more t few source (FollowsOn J t few source s gs) S (ClaimsEnv t few J) (ClaimsEnv t few J) (λ e k. k) u (λ given z. joined fair given u z h (rest_left gs given u b.builds) b.stands b.starts) r y

    goes : Pairing → (step : Step) → StepIs Walked step → BuildsStep t heads few gs step → StepBy t few (FollowsOn J t few source s gs) (ClaimsEnv t few J) source step → StepBy t few S (ClaimsEnv t few J) source step
    goes fair (Goes u) h b y = joined fair [] u y h b.builds b.stands b.starts
    goes fair (Ticks u) h b y = joined fair [] u y h (rest_left gs [] u b.builds) b.stands b.starts
    goes fair (Asks r u) h b y = (y.0, asks fair r u h b y.1)

    -- another execution goes on, by kinds of its own
    stops : (GoesOn s.run.control s.run.raised → ⊥) → (step : Step) → OnlyFaults step → StepJoins s step → StepFollows p s step → StepBy t few (Claimed J t few) (ClaimsEnv t few J) source step → StepBy t few S (ClaimsEnv t few J) source step
    stops other (Goes u) only j f y = (y.0, (y.1.0, rest_left y.0.sigs [] u (record { anew = y.1.1.anew; run = y.1.1.run; callers = y.1.1.callers }), others_stand s other t heads few y.0.sigs u u.run.control j, others_start p s other (IsAnew t heads u.env.frames u.run.frame) u.run.control f, y.1.1.pairs))
    stops other (Ticks u) only j f y = absurd only
    stops other (Asks (ask.Fault n) u) only j f y = (y.0, tt)
    stops other (Asks r u) only j f y = absurd only

    module _ (sound : Sound t source) (laid : IsLaidOut (Sized p) t) (spanned : IsSpanned p t) (kinded : AreKinded p t) (st : StackState (Sized p) s) (l : Finds t few gs x.0.run.sig x.0.run.scope s s.run.control x.0.run.own) (o : OpensBy t few (OutwardsOrMade gs) s) (fair : Fair t heads few gs source s p) where
      steps : StepBy t few S (ClaimsEnv t few J) source (quiet source s)
      steps = by (goes_or s.run.control s.run.raised)
        where
          walked : Walked s
          walked = record { frames = claim.frames; stack = claim.stack; env = each_env (λ n x. Unit {0}) (λ n x. tt) s.env }

          by : GoesOn s.run.control s.run.raised ⊎ (GoesOn s.run.control s.run.raised → ⊥) → StepBy t few S (ClaimsEnv t few J) source (quiet source s)
          by (inl calm) =
              goes (kinded, (fair.calls, fair.parts)) (quiet source s) (walk t few (OutwardsOrMade gs) (λ n x. Unit {0}) (nothing_kept t few) source s walked o (clearing.clears (Sized p) t laid s st) calm) (law_steps.steps t heads few gs source p laid spanned s st (record { builds = x.1.1; stands = x.1.2; starts = x.1.3 }) calm (clears (Sized p) t laid s st) fair) ((law_claims J built_kept).goes t few source sound s x.0 (lives_read t few s gs same claim) l (parks s.run.control refl fair.spares) calm)
          by (inr other) =
              stops other (quiet source s) (stops_only source s s.run.control other) fair.joins fair.follows ((law_claims J built_kept).stops t few source sound s x.0 (lives_read t few s gs same claim) l (parks s.run.control refl fair.spares) other)

  opens : (s : State) (x : S [] s) (c : CleanUp) (rest : Stmts) (todo : List Todo) → s.run.control ≡ piece.Rest (src.Scoped c rest) ∷ todo → (k i : ℕ) → CleansAt t (Obj i) (src.Variable k) c → (m : ℕ) → IsField t i m → heads i m ≡ true → Holds t few s.env.exec (OutwardsOrMade x.0.sigs (Outwards t few s.env.exec s.run.frame s.run.this s.callers c todo) s.env.exec s.run.frame s.run.this s.callers) (Frame s.env.exec s.run.frame) (frame_at s.run.frame s.env.frames) (further (FieldAt (t.shape i) m) (variable s.env.exec s.run.frame k)) (t.fields i m)
  opens s x c rest todo e k i d m f told =
      holds_there t few x.0.sigs s.env.exec s.run.frame s.run.this s.callers c todo (Frame s.env.exec s.run.frame) (frame_at s.run.frame s.env.frames) (further (FieldAt (t.shape i) m) (variable s.env.exec s.run.frame k)) (t.fields i m) ((subst (StandsOf t heads few x.0.sigs s) e x.1.2) k i d m f told)

pub law_kept : LawKept
law_kept = record {
  steps = λ t heads few source p sound laid spanned kinded s st x l o fair. steps t heads few source p s x sound laid spanned kinded st l o fair;
  opens = λ t heads few s x c rest todo e k i d m f told. opens t heads few s x c rest todo e k i d m f told;
}
