-- Step by step: where an object is let go of, or is given up, no activation that waits is to let go of it.
use Rattle.std.proofs.Common.{◌≡◌, ℕ, ◌==◌, ◌⊎◌, inl, inr, Bool, true, false, ◌&&◌, List, [], ◌∷◌, refl, sym, ap, ◌∙◌, subst}
use Rattle.std.specs.Prelude.{nat_eq, if◌then◌else◌}
use Rattle.std.proofs.lemmas.Bool.{eqb-true, eq-eqb}
use Rattle.uc_tree.specs.Programs.{Program}
use Rattle.uc_tree.specs.Source.{Source}
use Rattle.uc_entry.specs.declared.entry.Entry.{Entry}
use Rattle.uc_entry.specs.declared.entry.Options.{Options}
use Rattle.uc_entry.specs.declared.request.Asked.{Asked}
use Rattle.uc_entry.specs.declared.request.Request.{Request}
use Rattle.uc_entry.specs.declared.request.Request.TheVariants as ask
use Rattle.uc_acts.specs.Journal.{Journal, own_object}
use Rattle.uc_acts.specs.Acts.{act}
use Rattle.uc_acts.specs.Known.{spawns}
use Rattle.uc_acts.specs.KernelRuns.{InRange}
use Rattle.uc_machine.specs.declared.exec.Home.{Home}
use Rattle.uc_machine.specs.declared.exec.Home.TheVariants.{Object}
use Rattle.uc_machine.specs.Monitors.{this_object}
use Rattle.uc_machine.specs.Pieces as piece
use Rattle.uc_machine.specs.Pieces.{Todo, Active, State, Asks}
use Rattle.uc_machine.specs.Quiet.{quiet}
use Rattle.uc_machine.specs.Answering.{child_of}
use Rattle.uc_machine.specs.Rides.{Rides, slices, goes_on, ticks, asks}
use Rattle.uc_resolve.specs.Resolve.{source_of}
use Rattle.uc_rules.specs.Breaks.{breaks_of}
use Rattle.uc_sound.specs.SoundFormed.{IsFormed}
use Rattle.uc_meaning.specs.Runs.{World, Runs, gives, no_room, acts, begun, more, bare, world_after}
use Rattle.uc_state_laws.specs.Fitting.{RunFits}
use Rattle.uc_state_laws.proofs.Others.{run_rests}
use Rattle.uc_state_laws.proofs.DeepWorlds.{deep_run}
use Rattle.uc_depth_laws.specs.Entering.{Aspect, New, Other, EnteredSource}
use Rattle.uc_depth_laws.specs.Owing.{Tests, First, Any, Done, Skipped, CallOf, Bound, is_told, owed_waiting, Allowed, Entered, Alone, Deep, DeepStep}
use Rattle.uc_depth_laws.proofs.Answers.{law_steps}
use Rattle.uc_depth_laws.proofs.Standing.{law_free, law_drawn}
use Rattle.uc_inner_laws.specs.Inner.{InnerSource}
use Rattle.uc_inner_laws.specs.Standing.{StandsState, StandsStep}
use Rattle.uc_inner_laws.proofs.Walk.{law_steps as inner_steps, law_fair}
use Rattle.uc_sound.proofs.Routines.{law_entered}
use Rattle.uc_source_laws.specs.SourceLaws.{part_of}
use Rattle.uc_source_laws.proofs.InnerSources.{law_inner}
use Rattle.uc_letting_laws.specs.AloneRuns.{RideAlone, RunAlone}
use Rattle.uc_letting_laws.proofs.NewObjects.{told_for, own_not_told, told_other, told_away}
use Rattle.uc_letting_laws.proofs.StandingWorlds.{standing_start}
use Rattle.uc_letting_laws.proofs.LettingWorlds.{both_run, sole, start, tells}
use Rattle.uc_making_laws.specs.ForgetsThis.{GoesBy, RunGoes, IsOwedNothing}
use Rattle.uc_lasting_programs.specs.Asking.{LetsGoAt}
use Rattle.uc_lasting_programs.proofs.Asking.{law_asked_at}

both_true : (b c : Bool) → b && c ≡ true → c ≡ true
both_true true c e = e
both_true false c e = let z : false ≡ true = e in absurd (cc)

-- where an object is let go of, those that wait are not to let go of it
abbrev NoneOwed : State → Type 0
NoneOwed s = (todo : List Todo) → (s.run.control ≡ piece.GoneNow ∷ todo) ⊎ (s.run.control ≡ piece.GiveUpNow ∷ todo) →
    owed_waiting (this_object s) s.callers ≡ 0

module _ (source : Source) (told : Aspect → Bool) where
  gone : (f : First) → Allowed source told f piece.GoneNow → (k : Aspect) × (told k ≡ true)
  gone Any h = absurd h
  gone Done h = (Other, h)
  gone Skipped h = absurd h
  gone (CallOf r) h = absurd h
  gone Bound h = absurd h

  given_up : (f : First) → Allowed source told f piece.GiveUpNow → (k : Aspect) × (told k ≡ true)
  given_up Any h = absurd h
  given_up Done h = (New, h)
  given_up Skipped h = absurd h
  given_up (CallOf r) h = absurd h
  given_up Bound h = absurd h

module _ (p : Program) (formed : IsFormed p) (ok : breaks_of p ≡ []) where
  entered : EnteredSource (source_of p)
  entered = law_entered p formed ok

  inner : InnerSource (part_of p) (source_of p)
  inner = (law_inner p formed ok).source

  module _ (own : ℕ) (news : Tests) (mine : (h : Home) (k : Aspect) → news h k own ≡ false) (other : (h : Home) (q : ℕ) → (own ≡ q → ⊥) → (h ≡ Object q → ⊥) → news h Other q ≡ true) (away : (h : Home) (k : Aspect) (q : ℕ) → news h k q ≡ true → h ≡ Object q → ⊥) where
    abbrev told : State → Aspect → Bool
    told s = is_told (news s.env.exec.home) s.run.this s.callers

    here : (s : State) → Deep (source_of p) news s → NoneOwed s
    here s d todo e = none (by e)
      where
        by : (s.run.control ≡ piece.GoneNow ∷ todo) ⊎ (s.run.control ≡ piece.GiveUpNow ∷ todo) → (k : Aspect) × (told s k ≡ true)
        by (inl e) = gone (source_of p) (told s) d.first (subst (Entered (source_of p) (told s) d.first) e d.run).0
        by (inr e) = given_up (source_of p) (told s) d.first (subst (Entered (source_of p) (told s) d.first) e d.run).0

        none : (k : Aspect) × (told s k ≡ true) → owed_waiting (this_object s) s.callers ≡ 0
        none x =
            eqb-true (owed_waiting (this_object s) s.callers) 0 (both_true (news s.env.exec.home x.0 (this_object s)) (nat_eq (owed_waiting (this_object s) s.callers) 0) x.1)

    deeper : (s : State) → Alone (source_of p) s → Deep (source_of p) news s → StandsState (part_of p) (source_of p) own s → DeepStep (source_of p) news s (quiet (source_of p) s)
    deeper s a d v =
        law_steps.steps (source_of p) entered news s (tells (part_of p) (source_of p) entered inner law_steps own news mine other away s v) d (law_fair (part_of p) (source_of p) own s v (sole (part_of p) (source_of p) entered inner law_steps own news mine other away s a d v))

    stands : (s : State) → StandsState (part_of p) (source_of p) own s → StandsStep (part_of p) (source_of p) own s (quiet (source_of p) s)
    stands s v = inner_steps.steps (part_of p) (source_of p) inner own s v

    -- who asks that an object goes
    ride_owed : {s u : State} {q k : ℕ} {a : Asked} (r : Rides (source_of p) s q u k a) → RideAlone (source_of p) s q u k a r → Deep (source_of p) news s → StandsState (part_of p) (source_of p) own s → (o : ℕ) → a.request ≡ ask.Gone o → owed_waiting o u.callers ≡ 0
    ride_owed slices f d v o e = let z : ask.Slice ≡ ask.Gone o = e in absurd (cc)
    ride_owed (goes_on {s} g r) f d v o e =
        ride_owed r f.1 (subst (DeepStep (source_of p) news s) g (deeper s f.0 d v)) (subst (StandsStep (part_of p) (source_of p) own s) g (stands s v)) o e
    ride_owed (ticks {s} g r) f d v o e =
        ride_owed r f.1 (subst (DeepStep (source_of p) news s) g (deeper s f.0 d v)) (subst (StandsStep (part_of p) (source_of p) own s) g (stands s v)) o e
    ride_owed (asks {s} {t} g) f d v o e =
        let lets : LetsGoAt o s t = law_asked_at (source_of p) s (ask.Gone o) t (g ∙ ap (λ (x : Request). Asks x t) e) in
        subst (λ (cs : List Active). owed_waiting o cs ≡ 0) (sym lets.callers) (subst (λ (q : ℕ). owed_waiting q s.callers ≡ 0) (sym lets.object) (here s d lets.todo lets.lets_go))

  module _ (input : List ℕ) (opts : Options) (range : InRange opts) where
    -- of the world behind an act
    behind : (a : List Entry) (w : World) (u : ℕ) (s : State) (o : ℕ) → owed_waiting o s.callers ≡ 0 → owed_waiting o ((world_after (source_of p) a w u s).tasks u).callers ≡ 0
    behind a w u s o h =
        let same : (if u == u then bare s else if spawns a u then child_of (source_of p) (own_object u a) s else w.tasks u) ≡ bare s = ap (λ (b : Bool). if b then bare s else if spawns a u then child_of (source_of p) (own_object u a) s else w.tasks u) (eq-eqb u u refl) in
        subst (λ (y : State). owed_waiting o y.callers ≡ 0) (sym same) h

    goes_by : (j : Journal) (a : List Entry) (w : World) (u : ℕ) (s : State) (x : Request) → ((o : ℕ) → x ≡ ask.Gone o → owed_waiting o s.callers ≡ 0) → GoesBy IsOwedNothing j a (world_after (source_of p) a w u s) u x
    goes_by j a w u s (ask.Gone o) h = behind a w u s o (h o refl)
    goes_by j a w u s x h = tt

    pub run_owed : {j : Journal} {w : World} (r : Runs (source_of p) input opts j w) → RunFits (source_of p) input opts j w r → RunAlone (source_of p) input opts j w r → RunGoes IsOwedNothing (source_of p) input opts r
    run_owed begun f g = tt
    run_owed (more r o (gives q t s le)) f g = (run_owed r f.0 g.0, tt)
    run_owed (more r o (no_room q t s le)) f g = (run_owed r f.0 g.0, tt)
    run_owed (more {j} {w} r o (acts q t n s asked d)) f g =
        let rests = run_rests (source_of p) input opts range r f.0 o in
        let deeps = deep_run (source_of p) input opts range r f.0 o in
        let x = both_run (part_of p) (source_of p) entered inner law_steps law_free law_drawn input opts range r f.0 g.0 o in
        let owed = ride_owed (own_object t j) (told_for t j) (own_not_told t j) (told_other t j) (told_away t j) d.rides g.1 (start (part_of p) (source_of p) entered inner law_steps law_free law_drawn input opts range rests o deeps x.owing x.standing q t n s asked d) (standing_start (part_of p) (source_of p) inner entered.ends input opts range rests o deeps x.standing q t n s asked d) in
        (run_owed r f.0 g.0, goes_by j (act opts (source_of p).sites input j q t n asked) w t s asked.request owed)
