-- What variables in scope hold, step by step, by the kinds of frames.
use Rattle.std.proofs.Common.{◌≡◌, ℕ, suc, ◌≤◌, ◌<◌, ◌⊎◌, inl, inr, ⊎_elim, Bool, true, false, List, [], ◌∷◌, length, drop, Some, refl, sym, ap, ◌∙◌, subst, arith}
use Rattle.std.specs.Prelude.{nat_eq, if◌then◌else◌, slice_get}
use Rattle.std.proofs.lemmas.Bool.{eqb-true}
use Rattle.uc_tree.specs.Source.{Source, Routine, CleanUp}
use Rattle.uc_machine.specs.declared.exec.Exec.{Exec}
use Rattle.uc_machine.specs.declared.exec.Owner.{Owner}
use Rattle.uc_machine.specs.declared.exec.Owner.TheVariants.{Frame}
use Rattle.uc_machine.specs.Executions.{at_depth, others}
use Rattle.uc_machine.specs.Switches.{stopped, new_exec}
use Rattle.uc_machine.specs.Pieces as pc
use Rattle.uc_machine.specs.Pieces.{Value, Number, Running, Todo, Sort, Active, State, Step, Goes, Ticks, Asks, top, at}
use Rattle.uc_machine.specs.Quiet.{quiet, home_at}
use Rattle.uc_typing.specs.Typing.{Ty, Sig, Table}
use Rattle.uc_typing.specs.States.{Sound}
use Rattle.uc_typing.proofs.Unwinds as un
use Rattle.uc_life_laws.specs.Things.{Few}
use Rattle.uc_life_laws.specs.LifeStates.{frame_at, BehindMark, Outwards, MarkHoldsBy, AllHoldBy, LifeStackBy, LifeExBy, LifeStateBy, StepIs, OpensBy, Clears}
use Rattle.uc_life_laws.specs.Knowing.{InMaking, ClaimsEnv, ClaimsState, StepBy, VariablesKnown, Finds}
use Rattle.uc_life_laws.specs.Kinds.{Stays, IsKept, Turned, stays, begins, goes_back, GoesOn, Parks, FollowsOn, Claimed}
use Rattle.uc_life_laws.specs.Lives.{MakingAt, MakingIn, OutwardsOrMade, Lives, LivesState, FindsLiving, LawLives}
use Rattle.uc_life_laws.proofs.Cells.{others_length}
use Rattle.uc_life_laws.proofs.Parked.{Ex, each_env}
use Rattle.uc_life_laws.proofs.GoingOn.{goes_or}
use Rattle.uc_life_laws.proofs.Knowns.{Less, known_more, frames_length}
use Rattle.uc_life_laws.proofs.Reading.{AllBehind, variables_read}
use Rattle.uc_life_laws.proofs.LifeKeeping.{IsParkedKept}
use Rattle.uc_life_laws.proofs.LifeSteps.{life_kept}
use Rattle.uc_life_laws.proofs.LifeWalk.{walk}
use Rattle.uc_life_laws.proofs.Acting.{law_claims}
use Rattle.uc_life_laws.proofs.Parking.{all_stays}
use Rattle.uc_life_laws.proofs.KindsLemmas.{step_with}

pub all_there : (x : Step) → StepIs (λ s. Unit {0}) x
all_there (Goes s) = tt
all_there (Ticks s) = tt
all_there (Asks r s) = tt

-- where more is known behind marks

module _ (t : Table) (few : Few) (K L : BehindMark) (n : Exec) where
  -- so it is of an activation with this frame and this object before older ones
  abbrev pub MoreAt : ℕ → Value → List Active → Type 0
  MoreAt f this older = (c : CleanUp) (todo : List Todo) (w : Value) (a : Ty) → K (Outwards t few n f this older c todo) n f this older w a → L (Outwards t few n f this older c todo) n f this older w a

  abbrev pub AllMore : List Active → Type 0
  AllMore [] = Unit {0}
  AllMore (c ∷ older) = MoreAt c.frame c.this older × AllMore older

  module _ (f : ℕ) (this : Value) (older : List Active) (more : MoreAt f this older) where
    mark_more : (vs : List Value) (k : Sort) (todo : List Todo) (A B : Type 0) → (A → B) → MarkHoldsBy t few K n vs f this older k todo A → MarkHoldsBy t few L n vs f this older k todo B
    mark_more vs (pc.IsClean c) todo A B go h =
        ((λ j a x p b i binds. known_more t few n (K (Outwards t few n f this older c todo) n f this older) (L (Outwards t few n f this older c todo) n f this older) (more c todo) b _ (h.0 j a x p b i binds)), go h.1)
    mark_more vs pc.Simple todo A B go h = go h
    mark_more vs (pc.IsLoop o e s b) todo A B go h = go h
    mark_more vs pc.IsWhole todo A B go h = go h
    mark_more vs (pc.IsFill m b d) todo A B go h = go h
    mark_more vs (pc.IsSweep e) todo A B go h = go h
    mark_more vs (pc.IsPart c) todo A B go h = go h
    mark_more vs (pc.IsGuard hs) todo A B go h = go h
    mark_more vs pc.IsFinish todo A B go h = go h
    mark_more vs pc.IsFinishCoroutine todo A B go h = go h

    all_more : (vs : List Value) (todo : List Todo) → AllHoldBy t few K n vs f this older todo → AllHoldBy t few L n vs f this older todo
    all_more vs [] h = tt
    all_more vs (p ∷ todo) h = mark_more vs (pc.sort p) todo _ _ (all_more vs todo) h

  pub stack_more : (fs : List (List Value)) (cs : List Active) → AllMore cs → LifeStackBy t few K n fs cs → LifeStackBy t few L n fs cs
  stack_more fs [] m h = tt
  stack_more fs (c ∷ older) m h = (h.0, all_more c.frame c.this older m.0 (frame_at c.frame fs) c.control h.1, stack_more fs older m.1 h.2)

-- one frame more and one less

-- each of these uses its own frame or that of an older one
abbrev pub Below : List Active → Type 0
Below [] = Unit {0}
Below (c ∷ older) = (c.frame ≤ length older) × Below older

older_sig : (gs : List Sig) (d : ℕ) (g : Sig) → d < length (others gs) → at_depth gs d ≡ Some g → at_depth (others gs) d ≡ Some g
older_sig [] d g l e = absurd (cc)
older_sig (x ∷ xs) d g l e = by (nat_eq d (length xs)) refl e
  where
    by : (b : Bool) → nat_eq d (length xs) ≡ b → (if b then Some x else at_depth xs d) ≡ Some g → at_depth xs d ≡ Some g
    by true q e = let p : d ≡ length xs = eqb-true d (length xs) q in let n : ⊥ = omega (arith, p, l) in absurd n
    by false q e = e

pub others_le : (gs : List Sig) (k : ℕ) → suc k ≤ length gs → k ≤ length (others gs)
others_le [] k l = let n : ⊥ = omega (arith, l) in absurd n
others_le (x ∷ xs) k l = omega (arith, l)

module _ (t : Table) (few : Few) where
  pub below : (K : BehindMark) (n : Exec) (fs : List (List Value)) (cs : List Active) → LifeStackBy t few K n fs cs → Below cs
  below K n fs [] h = tt
  below K n fs (c ∷ older) h = (h.0, below K n fs older h.2)

  pub at_newer : (g : Sig) (gs : List Sig) (f : ℕ) (this w : Value) (a : Ty) → MakingAt gs f this w a → MakingAt (g ∷ gs) f this w a
  at_newer g gs f this w a h = (h.0, un.deeper t g gs f h.0 h.1, h.2)

  pub in_newer : (g : Sig) (gs : List Sig) (cs : List Active) (w : Value) (a : Ty) → MakingIn gs cs w a → MakingIn (g ∷ gs) cs w a
  in_newer g gs [] w a h = absurd h
  in_newer g gs (c ∷ older) w a (inl h) = inl (at_newer g gs c.frame c.this w a h)
  in_newer g gs (c ∷ older) w a (inr h) = inr (in_newer g gs older w a h)

  all_newer : (n : Exec) (g : Sig) (gs : List Sig) (cs : List Active) → AllMore t few (OutwardsOrMade gs) (OutwardsOrMade (g ∷ gs)) n cs
  all_newer n g gs [] = tt
  all_newer n g gs (c ∷ older) =
      ((λ x todo w a h. ⊎_elim (λ h. inl h) (λ h. inr (⊎_elim (λ h. inl (at_newer g gs c.frame c.this w a h)) (λ h. inr (in_newer g gs older w a h)) h)) h), all_newer n g gs older)

  pub at_older : (gs : List Sig) (f : ℕ) (this w : Value) (a : Ty) → f < length (others gs) → MakingAt gs f this w a → MakingAt (others gs) f this w a
  at_older gs f this w a l h = (h.0, older_sig gs f h.0 l h.1, h.2)

  pub in_older : (gs : List Sig) (cs : List Active) (w : Value) (a : Ty) → Below cs → length cs ≤ length (others gs) → MakingIn gs cs w a → MakingIn (others gs) cs w a
  in_older gs [] w a b l h = absurd h
  in_older gs (c ∷ older) w a b l (inl h) = let d = b.0 in inl (at_older gs c.frame c.this w a (omega (arith, d, l)) h)
  in_older gs (c ∷ older) w a b l (inr h) = inr (in_older gs older w a b.1 (omega (arith, l)) h)

  all_older : (n : Exec) (gs : List Sig) (cs : List Active) → Below cs → length cs ≤ length (others gs) → AllMore t few (OutwardsOrMade gs) (OutwardsOrMade (others gs)) n cs
  all_older n gs [] b l = tt
  all_older n gs (c ∷ older) b l =
      let d = b.0 in
      ((λ x todo w a h. ⊎_elim (λ h. inl h) (λ h. inr (⊎_elim (λ h. inl (at_older gs c.frame c.this w a (omega (arith, d, l)) h)) (λ h. inr (in_older gs older w a b.1 (omega (arith, l)) h)) h)) h), all_older n gs older b.1 (omega (arith, l)))

  -- what these build and destroy is so by the kinds of their frames
  pub making_here : (gs : List Sig) (cs : List Active) (w : Value) (a : Ty) → Below cs → length cs ≤ length gs → MakingIn gs cs w a → InMaking gs cs w a
  making_here gs [] w a b l h = absurd h
  making_here gs (c ∷ older) w a b l (inl h) = inl h
  making_here gs (c ∷ older) w a b l (inr h) =
      let k = others_le gs (length older) l in
      inr (making_here (others gs) older w a b.1 k (in_older gs older w a b.1 k h))

  pub made_behind : (n : Exec) (gs : List Sig) (L : Value → Ty → Type 0) (cs : List Active) → ((w : Value) (a : Ty) → MakingIn gs cs w a → L w a) → AllBehind t n few (OutwardsOrMade gs) L cs
  made_behind n gs L [] m = tt
  made_behind n gs L (c ∷ older) m = ((λ x todo v e h. ⊎_elim (λ h. inl h) (λ h. inr (m v e h)) h), made_behind n gs L older (λ w a h. m w a (inr h)))

  -- states

  -- whatever is written
  pub lives_stay : (n : Exec) (w v : Value) → Stays (Lives t few) n w v
  lives_stay = all_stays (Lives t few) (λ n gs x d k v h. (life_kept t few (OutwardsOrMade gs)).written n x d k v h)

  module _ (s : State) (gs : List Sig) (same : length s.env.frames ≡ length gs) (claim : Lives t few s.env.exec gs (stopped s)) where
    -- what is read of variables in scope is known
    pub lives_read : VariablesKnown t few gs s
    lives_read =
        let f = claim.frames in
        variables_read t few s gs (OutwardsOrMade gs) claim.stack (made_behind s.env.exec gs _ (s.run ∷ s.callers) (λ w a h. inr (inl (making_here gs (s.run ∷ s.callers) w a (below (OutwardsOrMade gs) s.env.exec s.env.frames (s.run ∷ s.callers) claim.stack) (omega (arith, same, f)) h))))

    -- with something else to do that has the same marks
    resting : (todo : List Todo) → AllHoldBy t few (OutwardsOrMade gs) s.env.exec (frame_at s.run.frame s.env.frames) s.run.frame s.run.this s.callers todo → Lives t few s.env.exec gs (stopped (at todo s.run.operands s))
    resting todo h = record { frames = claim.frames; stack = (claim.stack.0, h, claim.stack.2) }

    pub lives_parks : (source : Source) (l : List Todo) → s.run.control ≡ l → Parks (Lives t few) t source gs s l
    lives_parks source l e = by l (subst (AllHoldBy t few (OutwardsOrMade gs) s.env.exec (frame_at s.run.frame s.env.frames) s.run.frame s.run.this s.callers) e claim.stack.1)
      where
        by : (l : List Todo) → AllHoldBy t few (OutwardsOrMade gs) s.env.exec (frame_at s.run.frame s.env.frames) s.run.frame s.run.this s.callers l → Parks (Lives t few) t source gs s l
        by [] h = tt
        by (pc.TakeDownNow ∷ todo) h = resting todo h
        by (pc.ResumeNow ∷ todo) h = resting (pc.Land ∷ todo) h
        by (pc.SuspendNow ∷ todo) h = resting (pc.Land ∷ todo) h
        by (pc.SetUpNow r ∷ todo) h = λ x e. ((life_kept t few (OutwardsOrMade (t.routine r ∷ []))).begins _ x s.run.this, lives_stay s.env.exec s.run.this (Running (new_exec (home_at s.run.this s.env) s.env)))
        by (pc.BindNow ∷ todo) h = lives_stay s.env.exec (top (pc.below s.run.operands)) (top s.run.operands)
        by (pc.BindMadeNow c r ∷ todo) h = λ x e. lives_stay s.env.exec (top (drop x.params (pc.below s.run.operands))) (top s.run.operands)
        by (p ∷ todo) h = tt

    -- behind a step by which the execution goes on, by the kinds that it then has
    pub lives_turned : (source : Source) (u : State) (hs : List Sig) → LifeStateBy t few (OutwardsOrMade gs) (λ n x. Unit {0}) u → Turned t source s gs u hs → Lives t few u.env.exec hs (stopped u)
    lives_turned source u hs h (stays e n f v cs) = record { frames = h.frames; stack = subst (λ gs. LifeStackBy t few (OutwardsOrMade gs) u.env.exec u.env.frames (u.run ∷ u.callers)) (sym e) h.stack }
    lives_turned source u hs h (begins g a b e n cs f v) = record {
      frames = h.frames;
      stack = subst (λ gs. LifeStackBy t few (OutwardsOrMade gs) u.env.exec u.env.frames (u.run ∷ u.callers)) (sym e) (stack_more t few (OutwardsOrMade gs) (OutwardsOrMade (g ∷ gs)) u.env.exec u.env.frames (u.run ∷ u.callers) (all_newer u.env.exec g gs (u.run ∷ u.callers)) h.stack);
    }
    lives_turned source u hs h (goes_back c q e n f v) =
        let l : length (others gs) ≡ suc (length u.callers) = others_length gs (length u.callers) (sym same ∙ (claim.frames ∙ ap (λ cs. suc (length cs)) q)) in
        record {
          frames = h.frames;
          stack = subst (λ gs. LifeStackBy t few (OutwardsOrMade gs) u.env.exec u.env.frames (u.run ∷ u.callers)) (sym e) (stack_more t few (OutwardsOrMade gs) (OutwardsOrMade (others gs)) u.env.exec u.env.frames (u.run ∷ u.callers) (all_older u.env.exec gs (u.run ∷ u.callers) (below (OutwardsOrMade gs) u.env.exec u.env.frames (u.run ∷ u.callers) h.stack) (omega (arith, l))) h.stack);
        }

  pub lives_kept : IsKept (Lives t few)
  lives_kept = record {
    written = λ n gs x d k z h. (life_kept t few (OutwardsOrMade gs)).written n x d k (Number z) h;
    linked = λ n gs x l h. (life_kept t few (OutwardsOrMade gs)).linked n x l h;
    unwound = λ n gs x why other h. record { frames = h.frames; stack = h.stack };
  }

  pub nothing_kept : IsParkedKept (λ n x. Unit {0})
  nothing_kept = record { written = λ n x d k v h. h; linked = λ n x l h. h; begins = λ n r this. tt }

  -- whatever else is claimed (J), and holds of the state behind the step (W)
  module _ (J : Exec → List Sig → Ex → Type 0) (kept : IsKept J) (source : Source) (sound : Sound t source) (s : State) (x : ClaimsState t few J [] s) (claim : Lives t few s.env.exec x.sigs (stopped s)) where
    pub same_length : length s.env.frames ≡ length x.sigs
    same_length = frames_length t few s.env.exec x.sigs s.env.frames (s.run ∷ s.callers) x.frames

    pub lives_step : Finds t few x.sigs x.run.sig x.run.scope s s.run.control x.run.own → OpensBy t few (OutwardsOrMade x.sigs) s → Clears t s → Parks J t source x.sigs s s.run.control → (W : State → Type 0) → StepIs W (quiet source s) → ((u : State) (hs : List Sig) → W u → Lives t few u.env.exec hs (stopped u) → Turned t source s x.sigs u hs → J u.env.exec hs (stopped u)) → StepBy t few (Claimed J t few) (ClaimsEnv t few J) source (quiet source s)
    lives_step l o clear parks W w next = by (goes_or s.run.control s.run.raised)
      where
        read : VariablesKnown t few x.sigs s
        read = lives_read s x.sigs same_length claim

        Both : State → Type 0
        Both u = LifeStateBy t few (OutwardsOrMade x.sigs) (λ n x. Unit {0}) u × W u

        both : (y : Step) → StepIs (LifeStateBy t few (OutwardsOrMade x.sigs) (λ n x. Unit {0})) y → StepIs W y → StepIs Both y
        both (Goes u) h k = (h, k)
        both (Ticks u) h k = (h, k)
        both (Asks r u) h k = (h, k)

        life : LifeStateBy t few (OutwardsOrMade x.sigs) (λ n x. Unit {0}) s
        life = record { frames = claim.frames; stack = claim.stack; env = each_env (λ n x. Unit {0}) (λ n x. tt) s.env }

        by : GoesOn s.run.control s.run.raised ⊎ (GoesOn s.run.control s.run.raised → ⊥) → StepBy t few (Claimed J t few) (ClaimsEnv t few J) source (quiet source s)
        by (inl calm) =
            step_with t few source (FollowsOn J t few source s x.sigs) (Claimed J t few) (ClaimsEnv t few J) (ClaimsEnv t few J) (λ e k. k) Both (λ given u y h. (y.0, next u y.0.sigs h.1 (lives_turned s x.sigs same_length claim source u y.0.sigs h.0 y.1) y.1)) (quiet source s) (both (quiet source s) (walk t few (OutwardsOrMade x.sigs) (λ n x. Unit {0}) nothing_kept source s life o clear calm) w) ((law_claims J kept).goes t few source sound s x read l parks calm)
        by (inr other) = (law_claims J kept).stops t few source sound s x read l parks other

  steps : (source : Source) → Sound t source → (s : State) (x : LivesState t few s) → FindsLiving t few s x → Clears t s → StepBy t few (Claimed (Lives t few) t few) (ClaimsEnv t few (Lives t few)) source (quiet source s)
  steps source sound s x l clear =
      lives_step (Lives t few) lives_kept source sound s x.0 x.1 l.0 l.1 clear (lives_parks s x.0.sigs (same_length (Lives t few) lives_kept source sound s x.0 x.1) x.1 source s.run.control refl) (λ u. Unit {0}) (all_there (quiet source s)) (λ u hs w h y. h)

pub law_lives : LawLives
law_lives = record {
  reads = λ t few s x. lives_read t few s x.0.sigs (frames_length t few s.env.exec x.0.sigs s.env.frames (s.run ∷ s.callers) x.0.frames) x.1;
  steps = λ t few source sound s x l clear. steps t few source sound s x l clear;
}
