-- Step by step: who builds or destroys an object is not at home there.
use Rattle.std.proofs.Common.{◌≡◌, ℕ, inl, inr, Bool, true, false, List, [], ◌∷◌, subst}
use Rattle.uc_tree.specs.Programs.{Program}
use Rattle.uc_tree.specs.Source.{Source, CleanUp}
use Rattle.uc_entry.specs.declared.entry.Options.{Options}
use Rattle.uc_entry.specs.declared.request.Asked.{Asked}
use Rattle.uc_acts.specs.Journal.{Journal, own_object}
use Rattle.uc_acts.specs.KernelRuns.{InRange}
use Rattle.uc_machine.specs.declared.exec.Home.{Home}
use Rattle.uc_machine.specs.declared.exec.Home.TheVariants.{Object}
use Rattle.uc_machine.specs.Pieces as piece
use Rattle.uc_machine.specs.Pieces.{Todo, State}
use Rattle.uc_machine.specs.Quiet.{quiet}
use Rattle.uc_machine.specs.Rides.{Rides, slices, goes_on, ticks, asks}
use Rattle.uc_resolve.specs.Resolve.{source_of}
use Rattle.uc_rules.specs.Breaks.{breaks_of}
use Rattle.uc_sound.specs.SoundFormed.{IsFormed}
use Rattle.uc_meaning.specs.Runs.{World, Runs, gives, no_room, acts, begun, more}
use Rattle.uc_state_laws.specs.Fitting.{RunFits}
use Rattle.uc_state_laws.proofs.Others.{run_rests}
use Rattle.uc_state_laws.proofs.DeepWorlds.{deep_run}
use Rattle.uc_state_laws.specs.Opens.{RideMeets, RunMeets}
use Rattle.uc_depth_laws.specs.Entering as entering
use Rattle.uc_depth_laws.specs.Entering.{Aspect, Other, EnteredSource}
use Rattle.uc_depth_laws.specs.Owing.{Tests, First, Any, Done, Skipped, CallOf, Bound, next, is_told, Allowed, Entered, Alone, Deep, DeepStep}
use Rattle.uc_depth_laws.proofs.Answers.{law_steps}
use Rattle.uc_depth_laws.proofs.Standing.{law_free, law_drawn}
use Rattle.uc_depth_laws.proofs.Walk.{told_object}
use Rattle.uc_inner_laws.specs.Inner.{InnerSource}
use Rattle.uc_inner_laws.specs.Standing.{StandsState, StandsStep}
use Rattle.uc_inner_laws.proofs.Walk.{law_steps as inner_steps, law_fair}
use Rattle.uc_sound.proofs.Routines.{law_entered}
use Rattle.uc_source_laws.specs.SourceLaws.{part_of}
use Rattle.uc_source_laws.proofs.InnerSources.{law_inner}
use Rattle.uc_letting_laws.specs.AloneRuns.{RideAlone, RunAlone}
use Rattle.uc_letting_laws.proofs.NewObjects.{told_for, own_not_told, told_other, told_away}
use Rattle.uc_letting_laws.proofs.StandingWorlds.{standing_start}
use Rattle.uc_letting_laws.proofs.LettingWorlds.{both_run, sole, start, tells}
use Rattle.uc_running_laws.specs.Away.{IsUnder, Away, LawAway}

-- of what is under such a scope this is told
module _ (source : Source) (told : Aspect → Bool) where
  abbrev Told : Type 0
  Told = (k : Aspect) × (told k ≡ true)

  scope : (f : First) (c : CleanUp) → Allowed source told f (piece.Clean c) → (k : Aspect) → entering.asks c k ≡ true → Told
  scope Any c h k e = (k, h.1 k e)
  scope Done c h k e = (k, h.1 k e)
  scope Skipped c h k e = (k, h.1 k e)
  scope (CallOf r) c h k e = absurd h
  scope Bound c h k e = absurd h

  under : (f : First) (todo : List Todo) → Entered source told f todo → IsUnder todo → Told
  under f [] h u = absurd u
  under f (piece.Clean c ∷ todo) h (inl u) = scope f c h.0 u.0 u.1
  under f (piece.Clean c ∷ todo) h (inr u) = under Any todo h.1 u
  under f (p ∷ todo) h u = under (next p) todo h.1 u

module _ (p : Program) (formed : IsFormed p) (ok : breaks_of p ≡ []) where
  entered : EnteredSource (source_of p)
  entered = law_entered p formed ok

  inner : InnerSource (part_of p) (source_of p)
  inner = (law_inner p formed ok).source

  module _ (own : ℕ) (news : Tests) (mine : (h : Home) (k : Aspect) → news h k own ≡ false) (other : (h : Home) (q : ℕ) → (own ≡ q → ⊥) → (h ≡ Object q → ⊥) → news h Other q ≡ true) (away : (h : Home) (k : Aspect) (q : ℕ) → news h k q ≡ true → h ≡ Object q → ⊥) where
    here : (s : State) → Deep (source_of p) news s → Away s
    here s d u =
        let x = under (source_of p) (is_told (news s.env.exec.home) s.run.this s.callers) d.first s.run.control d.run u in
        away s.env.exec.home x.0 _ (told_object (news s.env.exec.home) s.run.this s.callers x.0 x.1)

    deeper : (s : State) → Alone (source_of p) s → Deep (source_of p) news s → StandsState (part_of p) (source_of p) own s → DeepStep (source_of p) news s (quiet (source_of p) s)
    deeper s a d v =
        law_steps.steps (source_of p) entered news s (tells (part_of p) (source_of p) entered inner law_steps own news mine other away s v) d (law_fair (part_of p) (source_of p) own s v (sole (part_of p) (source_of p) entered inner law_steps own news mine other away s a d v))

    stands : (s : State) → StandsState (part_of p) (source_of p) own s → StandsStep (part_of p) (source_of p) own s (quiet (source_of p) s)
    stands s v = inner_steps.steps (part_of p) (source_of p) inner own s v

    ride_away : {s u : State} {q k : ℕ} {a : Asked} (r : Rides (source_of p) s q u k a) → RideAlone (source_of p) s q u k a r → Deep (source_of p) news s → StandsState (part_of p) (source_of p) own s → RideMeets Away (source_of p) s q u k a r
    ride_away slices f d v = tt
    ride_away (goes_on {s} e r) f d v =
        (here s d, ride_away r f.1 (subst (DeepStep (source_of p) news s) e (deeper s f.0 d v)) (subst (StandsStep (part_of p) (source_of p) own s) e (stands s v)))
    ride_away (ticks {s} e r) f d v =
        (here s d, ride_away r f.1 (subst (DeepStep (source_of p) news s) e (deeper s f.0 d v)) (subst (StandsStep (part_of p) (source_of p) own s) e (stands s v)))
    ride_away (asks {s} e) f d v = here s d

  module _ (input : List ℕ) (opts : Options) (range : InRange opts) where
    run_away : {j : Journal} {w : World} (r : Runs (source_of p) input opts j w) → RunFits (source_of p) input opts j w r → RunAlone (source_of p) input opts j w r → RunMeets Away (source_of p) input opts j w r
    run_away begun f g = tt
    run_away (more r o (gives q t s le)) f g = (run_away r f.0 g.0, tt)
    run_away (more r o (no_room q t s le)) f g = (run_away r f.0 g.0, tt)
    run_away (more {j} {w} r o (acts q t n s asked d)) f g =
        let rests = run_rests (source_of p) input opts range r f.0 o in
        let deeps = deep_run (source_of p) input opts range r f.0 o in
        let x = both_run (part_of p) (source_of p) entered inner law_steps law_free law_drawn input opts range r f.0 g.0 o in
        (run_away r f.0 g.0, ride_away (own_object t j) (told_for t j) (own_not_told t j) (told_other t j) (told_away t j) d.rides g.1 (start (part_of p) (source_of p) entered inner law_steps law_free law_drawn input opts range rests o deeps x.owing x.standing q t n s asked d) (standing_start (part_of p) (source_of p) inner entered.ends input opts range rests o deeps x.standing q t n s asked d))

pub law_away : LawAway
law_away p formed ok input opts range j w r fits alone = run_away p formed ok input opts range r fits alone
