-- Just before an object goes, or is given up, it is nowhere in the world, on the way to what is asked next.
use Rattle.std.proofs.Common.{◌≡◌, ℕ, ◌<◌, ◌≤◌, inl, inr, List, [], ◌∷◌, ◌++◌, refl, sym, ◌∙◌, subst}
use Rattle.uc_tree.specs.Source.{Source}
use Rattle.uc_entry.specs.declared.request.Asked.{Asked}
use Rattle.uc_acts.specs.Journal.{Journal, held}
use Rattle.uc_acts.specs.Acts.{act}
use Rattle.uc_acts.specs.Known.{task_count}
use Rattle.uc_machine.specs.declared.exec.Exec.{Exec}
use Rattle.uc_machine.specs.Monitors.{this_object}
use Rattle.uc_machine.specs.Pieces as piece
use Rattle.uc_machine.specs.Pieces.{Todo, GoneNow, GiveUpNow, Active, State}
use Rattle.uc_machine.specs.Answering.{answered}
use Rattle.uc_machine.specs.Rides.{Rides, slices, goes_on, ticks, asks}
use Rattle.uc_meaning.specs.Runs.{World, Runs, acts, more, drawn, world_after}
use Rattle.uc_state_laws.proofs.Others.{run_rests, asking as asks_with}
use Rattle.uc_acts.specs.Stations.{times}
use Rattle.uc_acts.proofs.Held.{law_held}
use Rattle.uc_step_laws.specs.Hands.{keys}
use Rattle.uc_step_laws.specs.Holding.{StepHolding}
use Rattle.uc_state_laws.specs.RoomRuns as way
use Rattle.uc_state_laws.specs.RoomRuns.{Leads, stays}
use Rattle.uc_state_laws.specs.Opens.{RideMeets, LeadsMeet}
use Rattle.uc_name_laws.specs.NameSteps as names
use Rattle.uc_life_laws.proofs.NamedWorlds.{run_named, known}
use Rattle.uc_typing.specs.Typing.{Table}
use Rattle.uc_life_laws.specs.Things.{Few}
use Rattle.uc_machine.specs.Switches.{without}
use Rattle.uc_life_laws.specs.LifeStates.{EnvBy}
use Rattle.uc_life_laws.specs.Knowing.{KnowsState}
use Rattle.uc_life_laws.specs.Ending.{LoneBefore}
use Rattle.uc_life_laws.specs.OwnNames.{IsOwn, StepOwn, StaysOwn}
use Rattle.uc_life_laws.proofs.OwnNamesLemmas.{law_own_names}
use Rattle.uc_life_laws.proofs.OwnRides.{Settled, start as own_start}
use Rattle.uc_life_laws.specs.Belonging.{Belongs}
use Rattle.uc_life_laws.specs.Marks.{Marked, Free, Outward, AllLone, LoneState, LoneStep, Puts}
use Rattle.uc_life_laws.proofs.UnmarkedWalk.{law_steps}
use Rattle.uc_life_laws.proofs.UnmarkedWorlds.{law_runs}
use Rattle.uc_apart_laws.specs.Before.{Before, BeforeAt, IsUnmarked}
use Rattle.uc_apart_laws.specs.Clear.{ClearEx}
use Rattle.uc_putting_laws.specs.LoneObjects.{LoneObjectAt, LoneObject}
use Rattle.uc_rooted_runs.specs.FreshStates.{FreshEnv, FreshStep}
use Rattle.uc_rooted_runs.specs.Binds.{BindsOwn}
use Rattle.uc_rooted_runs.specs.Mains.{FindsAll}
use Rattle.uc_rooted_runs.specs.MainRuns.{EndsMains}
use Rattle.uc_rooted_runs.proofs.FreshRuns.{law_fresh, drawn_fresh}
use Rattle.uc_rooted_runs.proofs.KeptRuns.{keeps_at, run_keeps}
use Rattle.uc_rooted_runs.proofs.MainRuns.{law_mains}
use Rattle.uc_making_laws.specs.OwnThis.{ThisState}
use Rattle.uc_making_laws.specs.RideWhile.{RideWhile}
use Rattle.uc_making_laws.specs.BeforeRides.{HasNoHome, ElsewhereOnWay, ElsewhereOnWayBy, LawBeforeRides}
use Rattle.uc_making_laws.proofs.BeforeWorlds.{clear as clear_of, before as unmarked_before}
use Rattle.uc_making_laws.proofs.ThisRuns.{law_this_runs}
use Rattle.uc_making_laws.proofs.Upheld.{own_at, ends, settled_next, ride_keys}

-- who comes to where an object goes has no mark around it
freed : (t : Table) (few : Few) (n : Exec) (run : Active) (callers : List Active) (l todo : List Todo) (o : ℕ) → l ≡ todo → Free t few o (Outward t n run.frame run.this callers todo) → run.control ≡ l → Free t few o (Marked t n (run ∷ callers))
freed t few n run callers l todo o e f c =
    subst (λ k. Free t few o (Outward t n run.frame run.this callers k)) (sym (subst (λ k. run.control ≡ k) e c)) f

-- along a ride

module _ (t : Table) (few : Few) (source : Source) where
  ride_lone : {s u : State} {q k : ℕ} {a : Asked} (r : Rides source s q u k a) → RideMeets (Puts t few) source s q u k a r → LoneState t few s → RideMeets (LoneState t few) source s q u k a r
  ride_lone slices p h = tt
  ride_lone (goes_on {s} e r) p h = (h, ride_lone r p.1 (subst (LoneStep t few) e (law_steps.steps t few source s h p.0)))
  ride_lone (ticks {s} e r) p h = (h, ride_lone r p.1 (subst (LoneStep t few) e (law_steps.steps t few source s h p.0)))
  ride_lone (asks {s} e) p h = h

  -- executions that have not begun are as they were made, as long as no step before forgot the running execution
  module _ (j : Journal) (w : World) (u : ℕ) where
    ride_fresh : {s v : State} {q k : ℕ} {a : Asked} (r : Rides source s q v k a) → RideMeets (BindsOwn source) source s q v k a r → RideMeets (EndsMains source) source s q v k a r → RideMeets (FindsAll source) source s q v k a r → ((x : State) (l : Leads source s x) → LeadsMeet names.Spares source s x l → IsOwn j w u x) → FreshEnv s.env → RideWhile names.Spares (λ v. FreshEnv v.env) source s q v k a r
    ride_fresh slices b f g own h = tt
    ride_fresh (goes_on {s} {t = x} e r) b f g own h = (
      h,
      λ spared.
          let both : StaysOwn source j w u s = record { now = own s way.stays tt; next = subst (StepOwn j w u) (sym e) (own x (way.goes e way.stays) (spared, tt)) } in
          ride_fresh r b.1 f.1 g.1 (λ y m z. own y (way.goes e m) (spared, z)) (subst FreshStep e (law_fresh.steps source s h (keeps_at source j w u s b.0 f.0 g.0 both))),
    )
    ride_fresh (ticks {s} {t = x} e r) b f g own h = (
      h,
      λ spared.
          let both : StaysOwn source j w u s = record { now = own s way.stays tt; next = subst (StepOwn j w u) (sym e) (own x (way.ticks e way.stays) (spared, tt)) } in
          ride_fresh r b.1 f.1 g.1 (λ y m z. own y (way.ticks e m) (spared, z)) (subst FreshStep e (law_fresh.steps source s h (keeps_at source j w u s b.0 f.0 g.0 both))),
    )
    ride_fresh (asks {s} e) b f g own h = h

  -- who runs has its name alone as long as no step before forgot it, and what is in hand is held
  module _ (j : Journal) (w : World) (u : ℕ) (ks : List ℕ) (same : ks ≡ held u j) where
    hand_is : (s : State) → Settled ks s → keys s.env.hand ≡ held u j
    hand_is s (inl h) = h.env.keys_are ∙ same
    hand_is s (inr h) = h.env.keys_are ∙ same

    ride_own : {s v : State} {q k : ℕ} {a : Asked} (r : Rides source s q v k a) → Settled ks s → ((x : State) (l : Leads source s x) → LeadsMeet names.Spares source s x l → IsOwn j w u x) → RideWhile names.Spares (λ v. IsOwn j w u v × (keys v.env.hand ≡ held u j)) source s q v k a r
    ride_own slices h own = tt
    ride_own (goes_on {s} e r) h own = (
      (own s way.stays tt, hand_is s h),
      λ spared. ride_own r (inl (subst (StepHolding ks) e (settled_next source ks s h))) (λ y m z. own y (way.goes e m) (spared, z)),
    )
    ride_own (ticks {s} e r) h own = (
      (own s way.stays tt, hand_is s h),
      λ spared. ride_own r (inl (subst (StepHolding ks) e (settled_next source ks s h))) (λ y m z. own y (way.ticks e m) (spared, z)),
    )
    ride_own (asks {s} e) h own = (own s way.stays tt, hand_is s h)

  module _ (Sparing Lone Object This Fresh Up Rooted Goal : State → Type 0) (one : (v : State) → Lone v → Object v → This v → Fresh v → Up v → Rooted v → Goal v) where
    ride_all : {s u : State} {q k : ℕ} {a : Asked} (r : Rides source s q u k a) → RideMeets Lone source s q u k a r → RideMeets Object source s q u k a r → RideMeets This source s q u k a r → RideWhile Sparing Fresh source s q u k a r → RideWhile Sparing Up source s q u k a r → RideMeets Rooted source s q u k a r → RideWhile Sparing Goal source s q u k a r
    ride_all slices l o h f m b = tt
    ride_all (goes_on {s} e r) l o h f m b = (one s l.0 o.0 h.0 f.0 m.0 b.0, λ x. ride_all r l.1 o.1 h.1 (f.1 x) (m.1 x) b.1)
    ride_all (ticks {s} e r) l o h f m b = (one s l.0 o.0 h.0 f.0 m.0 b.0, λ x. ride_all r l.1 o.1 h.1 (f.1 x) (m.1 x) b.1)
    ride_all (asks {s} e) l o h f m b = one s l o h f m b

pub law_before_rides : LawBeforeRides
law_before_rides t few source input opts j w r range fits on zero leaves spares binds mains finds puts this p u n s q d bound mained found put objects has apart =
    let all = law_own_names source input opts j w r range fits on leaves spares in
    let rests = run_rests source input opts range r fits on in
    let y = run_named source input opts range r fits on in
    let lt : u < task_count j = known source input opts range rests on y.serials y.world p u d.runs in
    let longer : Runs source input opts (j ++ act opts source.sites input j p u n q) (world_after source (act opts source.sites input j p u n q) w u s) = more r on (acts p u n s q d) in
    let owned = own_at source input opts range r fits on p u n s q d leaves spares mains mained in
    let ending = ends source input opts range r fits on p u n s q d leaves spares mains mained in
    let lone = law_runs t few source input opts j w r puts in
    let lone_start : LoneState t few (answered source d.given (drawn j w u)) = lone.comes u (answered source d.given (drawn j w u)) (record { given = d.given; processor = p; runs = d.runs; told = d.told; leads = stays }) tt in
    let fresh_world = law_fresh.runs source input opts j w r range fits on (run_keeps source input opts j w r binds (law_mains.runs source input opts j w r mains) finds all.rides) in
    let fresh_ride = ride_fresh t few source j w u d.rides bound ending found owned (law_fresh.told source d.given (drawn j w u) (drawn_fresh j w u fresh_world)) in
    let these = law_this_runs t few source input opts (j ++ act opts source.sites input j p u n q) (world_after source (act opts source.sites input j p u n q) w u s) longer (this, has) in
    let worlds = law_this_runs t few source input opts j w r this in
    let e = own_start source input opts range rests on u d.given d.told in
    let same : e.hand ≡ held u j = sym (ride_keys source e.hand d.rides e.settled) ∙ (asks_with source input opts range rests on p u n s q d).hand in
    let there = ride_own t few source j w u e.hand same d.rides e.settled owned in
    ride_all t few source names.Spares (LoneState t few) (LoneObject t few source) (ThisState t few) (λ v. FreshEnv v.env) (λ v. IsOwn j w u v × (keys v.env.hand ≡ held u j)) (λ v. ElsewhereOnWay t few v source) (λ v. Before t few j w u v source) (λ v l object h f m g.
    at_state v l object (λ o belongs free k. clear_of t few source j w u lt all.later (all.elsewhere u lt) lone.world (worlds.world on) v l h f m.0 m.1 o belongs free zero k) (λ o belongs free. unmarked_before t few source j w u lt all.later (all.elsewhere u lt) lone.world (worlds.world on) v l h f m.0 m.1 o belongs free) (subst (λ l. (q : ℕ) → times q l ≤ 1) (sym m.1) (λ q. (law_held j).once u q)) g) d.rides (ride_lone t few source d.rides put lone_start) objects these.rides.1 fresh_ride there apart
  where
    at_state : (v : State) → LoneState t few v → LoneObject t few source v → ((o : ℕ) → Belongs few v.env.exec (few.home o) → Free t few o (Marked t v.env.exec (v.run ∷ v.callers)) → EnvBy (HasNoHome t few o) (record v.env { hand = without o v.env.hand }) → EnvBy (ClearEx t few o) (record v.env { hand = without o v.env.hand })) → ((o : ℕ) → Belongs few v.env.exec (few.home o) → Free t few o (Marked t v.env.exec (v.run ∷ v.callers)) → IsUnmarked t few j w u v o) → ((q : ℕ) → times q (keys v.env.hand) ≤ 1) → ElsewhereOnWay t few v source → Before t few j w u v source
    at_state v l y clear f once g = by v.run.control refl g l.stack.0 y
      where
        by : (todo : List Todo) → v.run.control ≡ todo → ElsewhereOnWayBy t few v source todo → AllLone t few v.env.exec v.run.frame v.run.this v.callers v.run.control → LoneObject t few source v → (k : KnowsState t few [] v) → BeforeAt t few j w u v source k v.run.control
        by (piece.GoneNow ∷ todo) e h k object known =
            let at : AllLone t few v.env.exec v.run.frame v.run.this v.callers (piece.GoneNow ∷ todo) = subst (AllLone t few v.env.exec v.run.frame v.run.this v.callers) e k in
            let free = freed t few v.env.exec v.run v.callers (piece.GoneNow ∷ todo) (piece.GoneNow ∷ todo) (this_object v) refl at.0.1 e in
            subst (λ c. BeforeAt t few j w u v source known c) (sym e) (λ away. clear (this_object v) at.0.0 free (h (at.0.0, free) (away, once)), f (this_object v) at.0.0 free)
        by (piece.GiveUpNow ∷ todo) e h k object known =
            let at : AllLone t few v.env.exec v.run.frame v.run.this v.callers (piece.GiveUpNow ∷ todo) = subst (AllLone t few v.env.exec v.run.frame v.run.this v.callers) e k in
            let free = freed t few v.env.exec v.run v.callers (piece.GiveUpNow ∷ todo) (piece.GiveUpNow ∷ todo) (this_object v) refl at.0.1 e in
            subst (λ c. BeforeAt t few j w u v source known c) (sym e) (λ away. clear (this_object v) at.0.0 free (h (at.0.0, free) (away, once)), f (this_object v) at.0.0 free)
        by (piece.MadeNow ∷ todo) e h k object known =
            let at : LoneBefore t few (this_object v) todo v = subst (λ c. LoneObjectAt t few source c v) e object in
            let free = freed t few v.env.exec v.run v.callers (piece.MadeNow ∷ todo) (piece.MadeNow ∷ todo) (this_object v) refl at.1 e in
            subst (λ c. BeforeAt t few j w u v source known c) (sym e) (λ away. clear (this_object v) at.0 free (h (at.0, free) (away, once)))
        by (piece.SpawnNow r ∷ todo) e h k object known =
            let at : LoneBefore t few (this_object v) todo v = subst (λ c. LoneObjectAt t few source c v) e object in
            let free = freed t few v.env.exec v.run v.callers (piece.SpawnNow r ∷ todo) (piece.SpawnNow r ∷ todo) (this_object v) refl at.1 e in
            subst (λ c. BeforeAt t few j w u v source known c) (sym e) (λ away. clear (this_object v) at.0 free (h (at.0, free) (away, once)))
        by (p ∷ todo) e h k object known = subst (λ c. BeforeAt t few j w u v source known c) (sym e) (h known)
        by [] e h k object known = subst (λ c. BeforeAt t few j w u v source known c) (sym e) (h known)
