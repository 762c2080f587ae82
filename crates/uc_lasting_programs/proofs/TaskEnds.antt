-- In runs of programs a task whose own object went has ended, and who runs in a task that has ended is its own main.
use Rattle.std.proofs.Common.{◌≡◌, ℕ, zero, suc, ◌==◌, ◌<◌, ◌⊎◌, inl, inr, ℤ, Bool, true, false, ◌||◌, List, [], ◌∷◌, ◌++◌, refl, sym, ap, ◌∙◌, subst, arith}
use Rattle.std.specs.Prelude.{if◌then◌else◌, map}
use Rattle.std.proofs.lemmas.Bool.{eqb-true}
use Rattle.uc_tree.specs.Programs.{Program}
use Rattle.uc_entry.specs.declared.entry.Entry.{Entry}
use Rattle.uc_entry.specs.declared.entry.Options.{Options}
use Rattle.uc_entry.specs.declared.request.Asked.{Asked}
use Rattle.uc_entry.specs.declared.request.Request.{Request}
use Rattle.uc_entry.specs.declared.request.Request.TheVariants as ask
use Rattle.uc_entry.specs.Keyed.{find}
use Rattle.uc_acts.specs.Journal.{Journal, begin, is_over, own_object}
use Rattle.uc_acts.specs.Queues.{waiting, stacked}
use Rattle.uc_acts.specs.Doors.{blocked_at}
use Rattle.uc_acts.specs.Known.{has, has_ended, is_gone, task_count, spawns}
use Rattle.uc_acts.specs.Acts.{act, dispatch, lone_limit}
use Rattle.uc_acts.specs.KernelRuns.{InRange, Fits}
use Rattle.uc_acts.proofs.Bounds.{over_limit}
use Rattle.uc_acts.proofs.Law.{good_whole, lawful_act}
use Rattle.uc_acts.proofs.Living.{Dead, lived_run}
use Rattle.uc_acts.proofs.SoundLemmas.{ended_push}
use Rattle.uc_machine.specs.declared.exec.Exec.{Exec}
use Rattle.uc_machine.specs.declared.exec.Home.{Home}
use Rattle.uc_machine.specs.declared.exec.Home.TheVariants as home
use Rattle.uc_machine.specs.Pieces as piece
use Rattle.uc_machine.specs.Pieces.{Value, Todo, State, Members, Asks, object_in}
use Rattle.uc_machine.specs.Quiet.{quiet}
use Rattle.uc_machine.specs.Switches.{without}
use Rattle.uc_machine.specs.Answering.{answered, child_of, with_hand}
use Rattle.uc_machine.specs.Rides.{Rides, slices, goes_on, ticks, asks}
use Rattle.uc_meaning.specs.Runs.{World, Runs, AsksIn, begun, more, gives, no_room, acts, bare, drawn, world_after}
use Rattle.uc_resolve.specs.Resolve.{source_of}
use Rattle.uc_rules.specs.Breaks.{breaks_of}
use Rattle.uc_sound.specs.SoundFormed.{IsFormed}
use Rattle.uc_sound.proofs.Routines.{law_entered}
use Rattle.uc_state_laws.specs.Fitting.{RunFits}
use Rattle.uc_state_laws.specs.Opens.{RideMeets, RunMeets}
use Rattle.uc_state_laws.specs.Deep.{deep_in}
use Rattle.uc_state_laws.specs.HandLaws.{IsDeepAsTold}
use Rattle.uc_state_laws.specs.Places.{is_at}
use Rattle.uc_state_laws.proofs.Alive.{law_alive}
use Rattle.uc_state_laws.proofs.DeepWorlds.{DeepWorld, deep_run, spawns_none}
use Rattle.uc_state_laws.proofs.Others.{RunRests, run_rests, may_ask}
use Rattle.uc_name_laws.proofs.Homes.{no_both}
use Rattle.uc_depth_laws.specs.Entering.{EnteredSource}
use Rattle.uc_depth_laws.specs.Owing.{IsInside}
use Rattle.uc_depth_laws.proofs.Answers.{law_steps}
use Rattle.uc_depth_laws.proofs.Depths.{own_one, inside_of}
use Rattle.uc_depth_laws.proofs.Standing.{law_inside, law_free, law_drawn}
use Rattle.uc_inner_laws.specs.Inner.{InnerSource}
use Rattle.uc_inner_laws.specs.Standing.{Ok, IsHere, IsOlder, StandsState, StandsStep}
use Rattle.uc_inner_laws.proofs.Walk.{law_steps as inner_steps}
use Rattle.uc_source_laws.specs.SourceLaws.{part_of}
use Rattle.uc_source_laws.proofs.InnerSources.{law_inner}
use Rattle.uc_letting_laws.specs.AloneRuns.{RunAlone}
use Rattle.uc_letting_laws.proofs.Hands.{found_some}
use Rattle.uc_letting_laws.proofs.LettingWorlds.{Rests, Brings, both_run}
use Rattle.uc_letting_laws.proofs.NewObjects.{told_for}
use Rattle.uc_letting_laws.proofs.StandingWorlds.{standing_start}
use Rattle.uc_life_laws.specs.Knowing.{main_of}
use Rattle.uc_life_laws.proofs.NamedWorlds.{known, run_named}
use Rattle.uc_life_laws.proofs.Owned.{tasks_grow}
use Rattle.uc_rooted_runs.specs.Mains.{FindsAll}
use Rattle.uc_rooted_runs.specs.TaskMains.{is_first, is_task_main, EndsIn, EndsState}
use Rattle.uc_rooted_runs.proofs.EndSteps as last
use Rattle.uc_rooted_runs.proofs.EndSteps.{EndStep, IsOver}
use Rattle.uc_rooted_runs.proofs.EndedTasks.{Asker, ended_by}

-- the main of a task by its name
main_by : (n : Exec) (own : ℕ) (hand : List (ℕ × Members)) → is_task_main n ≡ true → IsHere own hand n.home → n ≡ main_of own
main_by n own hand m h = by n.home refl n.serial refl m h
  where
    by : (k : Home) → n.home ≡ k → (i : ℕ) → n.serial ≡ i → is_first k i ≡ true → IsHere own hand k → n ≡ main_of own
    by (home.Task o) e zero f m h = ap (λ k. record { home = k; serial = n.serial }) e ∙ (ap (λ i. record { home = home.Task o; serial = i }) f ∙ ap main_of h)
    by (home.Task o) e (suc i) f m h = absurd (cc)
    by (home.Object q) e i f m h = absurd (cc)

none_ended : (opts : Options) (v : ℕ) → has_ended v (begin opts ∷ []) ≡ false
unfolding has_ended
none_ended opts v = refl

or_first : (b : Bool) → (b || false) ≡ true → b ≡ true
or_first true e = refl
or_first false e = e

not_true : (b : Bool) → (b ≡ true → ⊥) → b ≡ false
not_true true f = absurd (f refl)
not_true false f = refl

module _ (p : Program) (formed : IsFormed p) (ok : breaks_of p ≡ []) where
  entered : EnteredSource (source_of p)
  entered = law_entered p formed ok

  inner : InnerSource (part_of p) (source_of p)
  inner = (law_inner p formed ok).source

  -- where an end is asked, who asks it is the main of the task with this own object
  abbrev Mine : ℕ → State → Type 0
  Mine own u = (u.env.exec ≡ main_of own) × (u.env.own ≡ own)

  over : (own : ℕ) (s : State) → EndsState s → StandsState (part_of p) (source_of p) own s → (l : List Todo) → s.run.control ≡ l → IsOver l → s.callers ≡ [] → Mine own s
  over own s m h l e i c =
      by l (subst (Ok (part_of p) (source_of p) h.run.base h.run.marks) e h.run.ok) (subst (EndsIn (is_task_main s.env.exec)) e m.stack.0) i
    where
      none : h.run.base.waited ≡ true → Mine own s
      none w = absurd (subst IsOlder c (h.run.waited w))

      by : (l : List Todo) → Ok (part_of p) (source_of p) h.run.base h.run.marks l → EndsIn (is_task_main s.env.exec) l → IsOver l → Mine own s
      by [] k n i = none k
      by (piece.Exit w ∷ []) k n i = none k
      by (piece.Unwind ∷ []) k n i = none k.1
      by (piece.Finish ∷ todo) k n i = (main_by s.env.exec own s.env.hand n.0 (subst (λ q. IsHere q s.env.hand s.env.exec.home) h.own h.here), h.own)
      by l k n i = absurd i

  ride_main : (own : ℕ) {s u : State} {q k : ℕ} {a : Asked} (r : Rides (source_of p) s q u k a) → RideMeets EndsState (source_of p) s q u k a r → RideMeets (FindsAll (source_of p)) (source_of p) s q u k a r → StandsState (part_of p) (source_of p) own s → a.request ≡ ask.End → Mine own u
  ride_main own slices m f h e = let z : ask.Slice ≡ ask.End = e in absurd (cc)
  ride_main own (goes_on {s} g r) m f h e =
      ride_main own r m.1 f.1 (subst (StandsStep (part_of p) (source_of p) own s) g (inner_steps.steps (part_of p) (source_of p) inner own s h)) e
  ride_main own (ticks {s} g r) m f h e =
      ride_main own r m.1 f.1 (subst (StandsStep (part_of p) (source_of p) own s) g (inner_steps.steps (part_of p) (source_of p) inner own s h)) e
  ride_main own (asks {s} {t} {q} {r} g) m f h e =
      let step : EndStep (Mine own) (quiet (source_of p) s) = last.walk (Mine own) (source_of p) s (λ i c. over own s m h s.run.control refl i c) f in
      subst (λ (r : Request). EndStep (Mine own) (Asks r t)) e (subst (EndStep (Mine own)) g step)

  -- a task at rest is inside its own object, whatever it has asked
  own_inside : (u : ℕ) (j : Journal) (r : Request) (s : State) → Rests (source_of p) (told_for u j) r s → Brings u j r s.env.exec.home → IsInside s.env.own s.env
  own_inside u j ask.End s h b = absurd h
  own_inside u j (ask.Fault n) s h b = absurd h
  own_inside u j (ask.Call o m) s h b = law_inside.own (source_of p) (told_for u j) s (h b)
  own_inside u j (ask.Make c) s h b =
      let d = h.1.depths s.env.own in
      let z = own_one s.env.own in
      inside_of (find s.env.own s.env.depths) (omega (arith, d, z))
  own_inside u j ask.Slice s h b = law_inside.own (source_of p) (told_for u j) s h
  own_inside u j (ask.Spawn o) s h b = law_inside.own (source_of p) (told_for u j) s h.0.deep
  own_inside u j (ask.Gone o) s h b = law_inside.own (source_of p) (told_for u j) (with_hand (without o s.env.hand) s) h.0.deep
  own_inside u j r s h b = law_inside.own (source_of p) (told_for u j) s h.deep

  module _ (input : List ℕ) (opts : Options) (range : InRange opts) where
    -- nobody is where all has gone
    nowhere : (v o : ℕ) (j : Journal) → Dead o j → is_at v o j ≡ false
    nowhere v o j d =
        ap (λ (xs : List ℕ). has xs v || (has (map (λ w. w.0) (waiting o j)) v || (has (stacked o j) v || has (map (λ b. b.0) (blocked_at o j)) v))) d.inside ∙ (ap (λ (xs : List (ℕ × ℕ)). has [] v || (has (map (λ w. w.0) xs) v || (has (stacked o j) v || has (map (λ b. b.0) (blocked_at o j)) v))) d.waits ∙ (ap (λ (xs : List ℕ). has [] v || (has [] v || (has xs v || has (map (λ b. b.0) (blocked_at o j)) v))) d.stacks ∙ ap (λ (xs : List (ℕ × ℕ × ℤ)). has [] v || (has [] v || (has [] v || has (map (λ b. b.0) xs) v))) d.blocks))

    -- so a task whose own object has gone has ended
    pub gone_ended : {j : Journal} {w : World} (r : Runs (source_of p) input opts j w) → RunFits (source_of p) input opts j w r → RunAlone (source_of p) input opts j w r → is_over j ≡ false → (v : ℕ) → v < task_count j → is_gone (w.tasks v).env.own j ≡ true → has_ended v j ≡ true
    gone_ended {j} {w} r f a on v lt g = by (has_ended v j) refl
      where
        by : (b : Bool) → has_ended v j ≡ b → has_ended v j ≡ true
        by true e = e
        by false e =
            let x = both_run (part_of p) (source_of p) entered inner law_steps law_free law_drawn input opts range r f a on in
            let task = x.owing.tasks v lt e in
            let here : IsInside (w.tasks v).env.own (w.tasks v).env = own_inside v j task.request (drawn j w v) task.rests task.brings in
            let deep : IsDeepAsTold j v (deep_in (w.tasks v)) = (deep_run (source_of p) input opts range r f on).tasks v lt e in
            let in_it : has (deep_in (w.tasks v)) (w.tasks v).env.own ≡ true = found_some (w.tasks v).env.own (suc here.0) (w.tasks v).env.depths here.1 in
            let told = deep.at (w.tasks v).env.own (λ n. no_both (has (deep_in (w.tasks v)) (w.tasks v).env.own) in_it (deep.new (w.tasks v).env.own n)) in
            let dead = (lived_run opts (source_of p).sites input (run_rests (source_of p) input opts range r f on).kernel on).dead (w.tasks v).env.own g in
            no_both (is_at v (w.tasks v).env.own j) (sym told ∙ in_it) (nowhere v (w.tasks v).env.own j dead)

    -- the tasks behind an act
    module _ {j : Journal} {w : World} (r : Runs (source_of p) input opts j w) (fits : RunFits (source_of p) input opts j w r) (on : is_over j ≡ false) (q t n : ℕ) (s : State) (asked : Asked) (d : AsksIn (source_of p) opts j w q t n s asked) (f : Fits opts (source_of p).sites j t asked.request) (going : is_over (j ++ act opts (source_of p).sites input j q t n asked) ≡ false) where
      abbrev a : List Entry
      a = act opts (source_of p).sites input j q t n asked

      abbrev after : World
      after = world_after (source_of p) a w t s

      rests : RunRests (source_of p) input opts j w
      rests = run_rests (source_of p) input opts range r fits on

      deep : DeepWorld j w
      deep = deep_run (source_of p) input opts range r fits on

      acts_on : t < task_count j
      acts_on =
          let x = run_named (source_of p) input opts range r fits on in
          known (source_of p) input opts range rests on x.serials x.world q t d.runs

      alive : has_ended t j ≡ false
      alive = law_alive opts (source_of p).sites input j rests.kernel on q t d.runs

      it_acts : (v : ℕ) → (v == t) ≡ true → after.tasks v ≡ bare s
      it_acts v e = ap (λ b. if b then bare s else if spawns a v then child_of (source_of p) (own_object v a) s else w.tasks v) e

      others : (v : ℕ) → (v == t) ≡ false → v < task_count j → after.tasks v ≡ w.tasks v
      others v e lt =
          let none : spawns a v ≡ false = spawns_none j a v (lawful_act opts (source_of p).sites input j q t n asked (good_whole opts (source_of p).sites input rests.kernel).sound (may_ask (source_of p) input opts range d f)) lt in
          ap (λ b. if b then bare s else if spawns a v then child_of (source_of p) (own_object v a) s else w.tasks v) e ∙ ap (λ b. if b then child_of (source_of p) (own_object v a) s else w.tasks v) none

    -- who runs in a task that has ended is its main
    abbrev IsMain : State → Type 0
    IsMain y = y.env.exec ≡ main_of y.env.own

    pub mains_end : {j : Journal} {w : World} (r : Runs (source_of p) input opts j w) → RunFits (source_of p) input opts j w r → RunAlone (source_of p) input opts j w r → RunMeets EndsState (source_of p) input opts j w r → RunMeets (FindsAll (source_of p)) (source_of p) input opts j w r → is_over j ≡ false → (v : ℕ) → has_ended v j ≡ true → (v < task_count j) × ((w.tasks v).env.exec ≡ main_of (w.tasks v).env.own)
    mains_end begun f a m n on v e = no_both (has_ended v (begin opts ∷ [])) e (none_ended opts v)
    mains_end (more {j} {w} r o (gives q t s le)) f a m n on v e =
        let x = mains_end r f.0 a.0 m.0 n.0 o v (or_first (has_ended v j) (sym (ended_push v j (dispatch q t)) ∙ e)) in
        let lt = x.0 in
        let grown = tasks_grow j (dispatch q t ∷ []) in
        (omega (arith, lt, grown), x.1)
    mains_end (more {j} r o (no_room q t s le)) f a m n on v e = no_both (is_over (j ++ lone_limit ∷ [])) (over_limit j 0 0) on
    mains_end (more {j} {w} r o (acts q t n s asked d)) f al m n' on v e =
        by (λ v g. mains_end r f.0 al.0 m.0 n'.0 o v g) (ended_by v opts (source_of p).sites input j q t n asked on e)
      where
        stand : StandsState (part_of p) (source_of p) (own_object t j) (answered (source_of p) d.given (drawn j w t))
        stand =
            let x = both_run (part_of p) (source_of p) entered inner law_steps law_free law_drawn input opts range r f.0 al.0 o in
            standing_start (part_of p) (source_of p) inner entered.ends input opts range (rests r f.0 o q t n s asked d f.1 on) o (deep r f.0 o q t n s asked d f.1 on) x.standing q t n s asked d

        more_tasks : (v < task_count j) → v < task_count (j ++ (act opts (source_of p).sites input j q t n asked))
        more_tasks lt = let grown = tasks_grow j (act opts (source_of p).sites input j q t n asked) in omega (arith, lt, grown)

        by : ((v : ℕ) → has_ended v j ≡ true → (v < task_count j) × IsMain (w.tasks v)) → (has_ended v j ≡ true) ⊎ Asker v t asked.request → (v < task_count (j ++ (act opts (source_of p).sites input j q t n asked))) × IsMain ((world_after (source_of p) (act opts (source_of p).sites input j q t n asked) w t s).tasks v)
        by before (inl g) =
            let x = before v g in
            let other : (v == t) ≡ false = not_true (v == t) (λ z. no_both (has_ended t j) (ap (λ u. has_ended u j) (sym (eqb-true v t z)) ∙ g) (alive r f.0 o q t n s asked d f.1 on)) in
            (more_tasks x.0, subst IsMain (sym (others r f.0 o q t n s asked d f.1 on v other x.0)) x.1)
        by before (inr k) =
            let same : v ≡ t = eqb-true v t k.same in
            let lt : t < task_count j = acts_on r f.0 o q t n s asked d f.1 on in
            let mine : Mine (own_object t j) s = ride_main (own_object t j) d.rides m.1 n'.1 stand k.asks in
            (more_tasks (subst (λ u. u < task_count j) (sym same) lt), subst IsMain (sym (it_acts r f.0 o q t n s asked d f.1 on v k.same)) (mine.0 ∙ ap main_of (sym mine.1)))
