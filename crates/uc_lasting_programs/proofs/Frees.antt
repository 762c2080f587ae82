-- Each step finds what keeps buildings that are awaited last: in runs in which nothing else is owed to what is let go of.
use Rattle.std.proofs.Common.{◌≡◌, ℕ, suc, ◌≤◌, ◌<◌, ◌⊎◌, inl, inr, Bool, true, false, List, [], ◌∷◌, refl, sym, ap, ◌∙◌, subst, arith}
use Rattle.uc_tree.specs.Programs.{Program}
use Rattle.uc_tree.specs.Source as src
use Rattle.uc_tree.specs.Source.{CleanUp, Expr, Source, Stmts}
use Rattle.uc_entry.specs.declared.entry.Options.{Options}
use Rattle.uc_entry.specs.declared.request.Asked.{Asked}
use Rattle.uc_acts.specs.Journal.{Journal, own_object}
use Rattle.uc_acts.specs.Known.{has, is_gone}
use Rattle.uc_acts.proofs.Counted.{counted_run, law_made}
use Rattle.uc_acts.specs.KernelRuns.{InRange}
use Rattle.uc_machine.specs.declared.exec.Home.{Home}
use Rattle.uc_machine.specs.declared.exec.Home.TheVariants.{Object}
use Rattle.uc_machine.specs.Pieces as piece
use Rattle.uc_machine.specs.Pieces.{Value, Todo, State}
use Rattle.uc_machine.specs.Quiet.{quiet}
use Rattle.uc_machine.specs.Rides.{Rides, slices, goes_on, ticks, asks}
use Rattle.uc_machine.specs.Answering.{answered}
use Rattle.uc_meaning.specs.Runs.{World, Runs, drawn, gives, no_room, acts, begun, more}
use Rattle.uc_resolve.specs.Resolve.{source_of}
use Rattle.uc_rules.specs.Breaks.{breaks_of}
use Rattle.uc_sound.specs.SoundFormed.{IsFormed}
use Rattle.uc_sound.specs.Tables.{table_of}
use Rattle.uc_sound.proofs.Routines.{law_entered}
use Rattle.uc_typing.specs.Typing.{Inward, Apart, Enters, Makes, Helps, Main}
use Rattle.uc_source_laws.specs.SourceLaws.{part_by, part_of}
use Rattle.uc_source_laws.proofs.InnerSources.{law_inner}
use Rattle.uc_state_laws.specs.Fitting.{RunFits}
use Rattle.uc_state_laws.specs.Limits.{IsWithinLimits}
use Rattle.uc_state_laws.specs.Opens.{RideMeets, RunMeets}
use Rattle.uc_state_laws.specs.Deep as depth
use Rattle.uc_state_laws.specs.Deep.{deep_in}
use Rattle.uc_state_laws.proofs.HandWalk.{walk}
use Rattle.uc_state_laws.proofs.Others.{run_rests, asking as asks_with}
use Rattle.uc_state_laws.proofs.DeepWorlds.{deep_in_hand, deep_run}
use Rattle.uc_depth_laws.specs.Entering.{lets_go, holds_object, Aspect, Other, EnteredSource, EnteredStmts}
use Rattle.uc_depth_laws.specs.Owing.{Tests, Skipped, is_told, owes, more as mark_more, marks, Entered, IsInside, Alone, Deep, DeepStep}
use Rattle.uc_depth_laws.proofs.Answers.{law_steps}
use Rattle.uc_depth_laws.proofs.Standing.{law_free, law_drawn}
use Rattle.uc_inner_laws.specs.Inner.{Ground, Maker, InnerExpr, InnerSource}
use Rattle.uc_inner_laws.specs.Standing.{Ok, StandsState, StandsStep}
use Rattle.uc_inner_laws.proofs.Walk.{law_steps as inner_steps, law_fair}
use Rattle.uc_letting_laws.specs.AloneRuns.{RideAlone, RunAlone}
use Rattle.uc_letting_laws.proofs.Hands.{found_some}
use Rattle.uc_letting_laws.proofs.LettingWorlds.{sole, tells, both_run, start}
use Rattle.uc_letting_laws.proofs.NewObjects.{told_for, own_not_told, told_other, told_away}
use Rattle.uc_letting_laws.proofs.StandingWorlds.{standing_start}
use Rattle.uc_life_laws.specs.Things.{Few}
use Rattle.uc_life_laws.specs.Homes.{home_of}
use Rattle.uc_life_laws.specs.Lasting.{RunMeetsAt}
use Rattle.uc_life_laws.specs.LifeStates.{frame_at}
use Rattle.uc_parts_laws.specs.Parts.{IsClear, IsOrderly}
use Rattle.uc_parts_laws.specs.PartStates.{IsTaken, PartsState}
use Rattle.uc_parts_laws.specs.PartsRuns.{parts_of}
use Rattle.uc_parts_laws.proofs.PartsRuns.{law_parts_runs}
use Rattle.uc_parts_laws.specs.Returning.{PassesAt, Passes}
use Rattle.uc_parts_laws.proofs.ReturnRuns.{law_returns_runs}
use Rattle.uc_homed_ends.specs.BoundHomes.{IsMaking, AllUnbound, IsUnset, RunsWith, BoundState}
use Rattle.uc_homed_ends.specs.Freeing.{IsCalm, IsFreeing, OpensFreeing, FreesLast, BuildsBy, PassesOn, ExitsFrom, UnwindsFrom, FreeingAt}
use Rattle.uc_homed_ends.proofs.BoundRuns.{bound_run, ride_zip, run_zip}
use Rattle.uc_lasting_programs.proofs.FreesRuns.{FreesFinds}
use Rattle.uc_lasting_programs.proofs.Makers.{makes_builds}

-- what holds in each state by what holds there, by the journal of its time, and by what else does

module _ (P : Journal → State → Type 0) (Q R : State → Type 0) (f : (i : Journal) (s : State) → P i s → Q s → R s) where
  at_then : {source : Source} {input : List ℕ} {opts : Options} {j : Journal} {w : World} (r : Runs source input opts j w) → RunMeetsAt P source input opts j w r → RunMeets Q source input opts j w r → RunMeets R source input opts j w r
  at_then begun h k = tt
  at_then (more r o (gives q t s le)) h k = (at_then r h.0 k.0, tt)
  at_then (more r o (no_room q t s le)) h k = (at_then r h.0 k.0, tt)
  at_then (more {j} r o (acts q t n s asked d)) h k = (at_then r h.0 k.0, ride_zip (P j) Q R (f j) d.rides h.1 k.1)

-- what stands behind the value of a statement opens no scope of a mutex object that is still to be made

calm : (Q : ℕ → Type 0) (todo : List Todo) → AllUnbound Q todo → IsCalm todo
calm Q (piece.DropNow ∷ (piece.Within line ∷ (piece.Rest ss ∷ todo))) h = h.1.1.0
calm Q todo h = tt

calm_behind : (Q : ℕ → Type 0) (todo : List Todo) → AllUnbound Q todo → IsCalm (piece.DropNow ∷ todo)
calm_behind Q (piece.Within line ∷ (piece.Rest ss ∷ todo)) h = h.1.0
calm_behind Q todo h = tt

-- what lets go of an object is a mark of it

lets_clean : (c : CleanUp) → IsFreeing c → lets_go c ≡ true
lets_clean (src.Frees r) h = refl
lets_clean c h = absurd h

holds_stmts : (ss : Stmts) → OpensFreeing ss → holds_object ss ≡ true
holds_stmts (src.Scoped c rest) h = lets_clean c h
holds_stmts ss h = absurd h

one_more : (b : Bool) (n : ℕ) → 0 < n → 0 < mark_more b n
one_more true n h = omega (arith, h)
one_more false n h = h

freeing_marks : (todo : List Todo) → FreesLast todo → 0 < marks todo
freeing_marks [] h = absurd h
freeing_marks (piece.Rest ss ∷ todo) (inl h) = subst (λ b. 0 < mark_more b (marks todo)) (sym (holds_stmts ss h.0)) (omega arith)
freeing_marks (piece.Rest ss ∷ todo) (inr h) = one_more (owes (piece.Rest ss)) (marks todo) (freeing_marks todo h)
freeing_marks (piece.Clean c ∷ todo) (inl h) = subst (λ b. 0 < mark_more b (marks todo)) (sym (lets_clean c h.0)) (omega arith)
freeing_marks (piece.Clean c ∷ todo) (inr h) = one_more (owes (piece.Clean c)) (marks todo) (freeing_marks todo h)
freeing_marks (p ∷ todo) h = one_more (owes p) (marks todo) (freeing_marks todo h)

once : (todo : List Todo) → suc (marks todo) ≤ 1 → FreesLast todo → ⊥
once todo le h = let lt = freeing_marks todo h in omega (arith, le, lt)

-- no scope in which an object is built stands within statements

no_lets : (c : CleanUp) → lets_go c ≡ false → IsFreeing c → ⊥
no_lets (src.Frees r) e h = let z : true ≡ false = e in cc
no_lets c e h = h

closed : (source : Source) (ss : Stmts) → EnteredStmts source ss → OpensFreeing ss → ⊥
closed source (src.Scoped c rest) h o = no_lets c h.0 o
closed source ss h o = o

no_clear : (c : CleanUp) (todo : List Todo) → IsClear (piece.Clean c ∷ todo) → IsFreeing c → ⊥
no_clear (src.Frees r) todo h o = h
no_clear c todo h o = o

module _ (source : Source) (told : Aspect → Bool) where
  exits_from : (todo : List Todo) → Entered source told Skipped todo → IsClear todo → ExitsFrom todo
  exits_from (piece.Rest ss ∷ todo) h k = closed source ss h.0
  exits_from (piece.Clean c ∷ todo) h k = no_clear c todo k
  exits_from todo h k = tt

  passes_on : (s : State) (c : CleanUp) (todo : List Todo) → PassesAt (piece.Unwind ∷ (piece.Clean c ∷ todo)) s → IsFreeing c → PassesOn s.run s.callers
  passes_on s (src.Frees r) todo h o = h
  passes_on s c todo h o = absurd o

  unwinds_from : (s : State) (todo : List Todo) → Entered source told Skipped todo → PassesAt (piece.Unwind ∷ todo) s → UnwindsFrom s todo
  unwinds_from s (piece.Rest ss ∷ todo) h k = closed source ss h.0
  unwinds_from s (piece.Clean c ∷ todo) h k = passes_on s c todo k
  unwinds_from s todo h k = tt

part_makes : (w : Inward) → part_by w ≡ Maker → w ≡ Makes
part_makes Apart e = absurd (cc)
part_makes Enters e = absurd (cc)
part_makes Makes e = refl
part_makes Helps e = absurd (cc)
part_makes Main e = absurd (cc)

module _ (p : Program) (formed : IsFormed p) (ok : breaks_of p ≡ []) where
  abbrev source : Source
  source = source_of p

  entered : EnteredSource (source_of p)
  entered = law_entered p formed ok

  inner : InnerSource (part_of p) (source_of p)
  inner = (law_inner p formed ok).source

  -- an expression that makes a mutex object
  builds : (g : Ground) (e : Expr) → IsMaking e → InnerExpr (part_of p) (source_of p) g e → BuildsBy (source_of p) e
  builds g (src.OfObject (src.MakeOn c r written place args)) m i = makes_builds p formed ok r (part_makes ((table_of p).routine r).inward i.0.0)
  builds g e m i = absurd m

  eval_fits : (Q : ℕ → Type 0) (g : Ground) (e : Expr) (todo : List Todo) → AllUnbound Q (piece.Eval e ∷ todo) → InnerExpr (part_of p) (source_of p) g e → IsCalm todo ⊎ BuildsBy (source_of p) e
  eval_fits Q g e todo (inl h) i = inl (calm Q todo h)
  eval_fits Q g e todo (inr h) i = inr (builds g e h.0 i)

  -- what is known of a task, by the journal of its time
  pub record Holds (i : Journal) (s : State) : Type 0 where
    pub own : ℕ
    pub news : Tests
    pub deep : Deep (source_of p) news s
    pub stands : StandsState (part_of p) (source_of p) own s
    pub inside : (o : ℕ) → IsInside o s.env → is_gone o i ≡ false

  module _ (few : Few) (home : ℕ → Value) (i : Journal) (s : State) (h : Holds i s) (b : BoundState few (source_of p) true s) (k : PartsState (parts_of p home) s) (n : Passes s) where
    abbrev Q : ℕ → Type 0
    Q = IsUnset (frame_at s.run.frame s.env.frames)

    abbrev told : Aspect → Bool
    told = is_told (h.news s.env.exec.home) s.run.this s.callers

    abbrev Parted : List Todo → Type 0
    Parted l = IsOrderly (parts_of p home).special (IsTaken (parts_of p home) s.env.exec s.callers s.run.frame s.run.this) s.run.elements l

    abbrev Running : List Todo → Type 0
    Running l = RunsWith few s.env.exec true (source_of p) s.run.operands (frame_at s.run.frame s.env.frames) s.run.frame l

    on : (l : List Todo) → Running l → Ok (part_of p) (source_of p) h.stands.run.base h.stands.run.marks l → Entered (source_of p) told h.deep.first l → marks l ≤ 1 → Parted l → PassesAt l s → FreeingAt (source_of p) l s
    on (piece.Eval e ∷ todo) (inl r) o d m x y = eval_fits Q _ e todo r o.0
    on (piece.Eval e ∷ todo) (inr r) o d m x y = absurd r
    on (piece.CallNow q ∷ todo) (inl r) o d m x y = calm Q todo r.1
    on (piece.CallNow q ∷ todo) (inr r) o d m x y = absurd r
    on (piece.RaiseNow ∷ todo) (inl r) o d m x y = calm_behind Q todo r.1
    on (piece.RaiseNow ∷ todo) (inr r) o d m x y = absurd r
    on (piece.Exit w ∷ todo) r o d m x y = exits_from (source_of p) told todo d.1 x.0
    on (piece.Unwind ∷ todo) r o d m x y = unwinds_from (source_of p) told s todo d.1 y
    on (piece.GoneNow ∷ todo) r o d m x y = once todo m
    on (piece.GiveUpNow ∷ todo) r o d m x y = once todo m
    on l r o d m x y = tt

    pub frees_here : FreesFinds (source_of p) s
    frees_here = on s.run.control b.run h.stands.run.ok h.deep.run h.deep.one k.run n

  -- along rides

  module _ (own : ℕ) (news : Tests) (mine : (h : Home) (k : Aspect) → news h k own ≡ false) (other : (h : Home) (q : ℕ) → (own ≡ q → ⊥) → (h ≡ Object q → ⊥) → news h Other q ≡ true) (away : (h : Home) (k : Aspect) (q : ℕ) → news h k q ≡ true → h ≡ Object q → ⊥) where
    deeper : (s : State) → Alone (source_of p) s → Deep (source_of p) news s → StandsState (part_of p) (source_of p) own s → DeepStep (source_of p) news s (quiet (source_of p) s)
    deeper s a d v =
        law_steps.steps (source_of p) entered news s (tells (part_of p) (source_of p) entered inner law_steps own news mine other away s v) d (law_fair (part_of p) (source_of p) own s v (sole (part_of p) (source_of p) entered inner law_steps own news mine other away s a d v))

    stands : (s : State) → StandsState (part_of p) (source_of p) own s → StandsStep (part_of p) (source_of p) own s (quiet (source_of p) s)
    stands s v = inner_steps.steps (part_of p) (source_of p) inner own s v

    -- what the task is inside is in hand, and that has not gone
    module _ (i : Journal) (ks : List ℕ) (held_there : (o : ℕ) → has ks o ≡ true → is_gone o i ≡ false) where
      here : (s : State) → Deep (source_of p) news s → StandsState (part_of p) (source_of p) own s → deep_in s ≡ ks → Holds i s
      here s d v k = record { own = own; news = news; deep = d; stands = v; inside = λ o x. held_there o (ap (λ l. has l o) (sym k) ∙ found_some o (suc x.0) s.env.depths x.1) }

      ride_holds : {s u : State} {q k : ℕ} {a : Asked} (r : Rides (source_of p) s q u k a) → RideAlone (source_of p) s q u k a r → Deep (source_of p) news s → StandsState (part_of p) (source_of p) own s → deep_in s ≡ ks → RideMeets (Holds i) (source_of p) s q u k a r
      ride_holds slices f d v k = tt
      ride_holds (goes_on {s} g r) f d v k =
          (here s d v k, ride_holds r f.1 (subst (DeepStep (source_of p) news s) g (deeper s f.0 d v)) (subst (StandsStep (part_of p) (source_of p) own s) g (stands s v)) (subst (depth.DeepStep ks) g (walk ks (source_of p) s k)))
      ride_holds (ticks {s} g r) f d v k =
          (here s d v k, ride_holds r f.1 (subst (DeepStep (source_of p) news s) g (deeper s f.0 d v)) (subst (StandsStep (part_of p) (source_of p) own s) g (stands s v)) (subst (depth.DeepStep ks) g (walk ks (source_of p) s k)))
      ride_holds (asks {s} g) f d v k = here s d v k

  module _ (input : List ℕ) (opts : Options) (range : InRange opts) where
    pub run_holds : {j : Journal} {w : World} (r : Runs (source_of p) input opts j w) → RunFits (source_of p) input opts j w r → RunAlone (source_of p) input opts j w r → RunMeetsAt (λ i s. Holds i s) (source_of p) input opts j w r
    run_holds begun f g = tt
    run_holds (more r o (gives q t s le)) f g = (run_holds r f.0 g.0, tt)
    run_holds (more r o (no_room q t s le)) f g = (run_holds r f.0 g.0, tt)
    run_holds (more {j} {w} r o (acts q t n s asked d)) f g =
        let rests = run_rests (source_of p) input opts range r f.0 o in
        let deeps = deep_run (source_of p) input opts range r f.0 o in
        let x = both_run (part_of p) (source_of p) entered inner law_steps law_free law_drawn input opts range r f.0 g.0 o in
        let hand = (asks_with (source_of p) input opts range rests o q t n s asked d).hand in
        let there : (i : ℕ) → has (deep_in (answered (source_of p) d.given (drawn j w t))) i ≡ true → is_gone i j ≡ false = λ i h. ((counted_run opts (source_of p).sites input rests.kernel).of_made i (law_made opts (source_of p).sites input j rests.kernel o t i (ap (λ l. has l i) (sym hand) ∙ (sym (deep_in_hand (source_of p) input opts range rests o deeps q t n s asked d i) ∙ h)))).1 in
        (run_holds r f.0 g.0, ride_holds (own_object t j) (told_for t j) (own_not_told t j) (told_other t j) (told_away t j) j (deep_in (answered (source_of p) d.given (drawn j w t))) there d.rides g.1 (start (part_of p) (source_of p) entered inner law_steps law_free law_drawn input opts range rests o deeps x.owing x.standing q t n s asked d) (standing_start (part_of p) (source_of p) inner entered.ends input opts range rests o deeps x.standing q t n s asked d) refl)

    -- so each step finds it
    pub frees_finds : IsWithinLimits p → {j : Journal} {w : World} (r : Runs (source_of p) input opts j w) → RunFits (source_of p) input opts j w r → RunAlone (source_of p) input opts j w r → RunMeets (FreesFinds (source_of p)) (source_of p) input opts j w r
    frees_finds within {j} {w} r f g =
        let home : ℕ → Value = λ o. home_of (source_of p) input opts j w r o in
        let few : Few = record { numbers = λ a o. false; home = home; base = λ n v a. false } in
        let bound : RunMeets (BoundState few (source_of p) true) (source_of p) input opts j w r = bound_run p formed ok within few input opts range r f (λ o. refl) in
        let parts : RunMeets (PartsState (parts_of p home)) (source_of p) input opts j w r = law_parts_runs.runs p formed ok home input opts range j w r f (λ o. refl) in
        let passes : RunMeets Passes (source_of p) input opts j w r = law_returns_runs.runs p formed ok input opts range j w r f in
        let others : RunMeets (λ s. BoundState few (source_of p) true s × (PartsState (parts_of p home) s × Passes s)) (source_of p) input opts j w r = run_zip (BoundState few (source_of p) true) (λ s. PartsState (parts_of p home) s × Passes s) (λ s. BoundState few (source_of p) true s × (PartsState (parts_of p home) s × Passes s)) (λ s x y. (x, y)) r bound (run_zip (PartsState (parts_of p home)) Passes (λ s. PartsState (parts_of p home) s × Passes s) (λ s x y. (x, y)) r parts passes) in
        at_then (λ i s. Holds i s) (λ s. BoundState few (source_of p) true s × (PartsState (parts_of p home) s × Passes s)) (FreesFinds (source_of p)) (λ i s x y. frees_here few home i s x y.0 y.1.0 y.1.1) r (run_holds r f g) others
