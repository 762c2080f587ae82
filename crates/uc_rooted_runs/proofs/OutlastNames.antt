-- Each new name is none that was there, so what is made meanwhile was made by who runs.
use Rattle.std.proofs.Common.{◌≡◌, ℕ, ◌≤◌, ◌⊎◌, inl, inr, Bool, true, false, List, [], ◌∷◌, ◌++◌, Option, Some, None, refl, sym, ap, ◌∙◌, subst, arith, ⊎_elim}
use Rattle.std.specs.Prelude.{if◌then◌else◌, slice_get}
use Rattle.uc_tree.specs.Source.{Source, Routine}
use Rattle.uc_entry.specs.declared.entry.Options.{Options}
use Rattle.uc_entry.specs.declared.request.Asked.{Asked}
use Rattle.uc_entry.specs.declared.request.Request.{Request}
use Rattle.uc_entry.specs.declared.request.Request.TheVariants as ask
use Rattle.uc_entry.specs.Keyed.{find}
use Rattle.uc_acts.specs.Journal.{Journal, held, is_over}
use Rattle.uc_acts.specs.Known.{has}
use Rattle.uc_acts.specs.Serves.{left}
use Rattle.uc_acts.specs.Acts.{act, lone_limit}
use Rattle.uc_acts.specs.KernelRuns.{InRange, Fits}
use Rattle.uc_acts.proofs.Bounds.{over_limit}
use Rattle.uc_machine.specs.declared.exec.Exec.{Exec}
use Rattle.uc_machine.specs.declared.exec.Home.{Home}
use Rattle.uc_machine.specs.declared.exec.Home.TheVariants as home
use Rattle.uc_machine.specs.Executions.{Execution, exec_eq, members_at}
use Rattle.uc_machine.specs.Switches.{new_exec}
use Rattle.uc_machine.specs.Pieces.{Value, Todo, SetUpNow, State, Members, Goes, Asks}
use Rattle.uc_machine.specs.Quiet.{home_at}
use Rattle.uc_machine.specs.Answering.{answered}
use Rattle.uc_machine.specs.Rides.{Rides, slices, goes_on, ticks, asks}
use Rattle.uc_meaning.specs.Runs.{World, Runs, AsksIn, gives, no_room, acts, begun, more, drawn}
use Rattle.uc_state_laws.specs.Fitting.{RunFits}
use Rattle.uc_state_laws.proofs.Others.{RunRests, run_rests, asking as asks_with}
use Rattle.uc_state_laws.proofs.DeepWorlds.{DeepWorld, deep_run}
use Rattle.uc_state_laws.specs.Opens.{RideMeets, RunMeets}
use Rattle.uc_name_laws.specs.Below.{IsBelow}
use Rattle.uc_name_laws.specs.NameSteps as names
use Rattle.uc_name_laws.specs.NameSteps.{Named, StepNamed, Grows, IsBorn}
use Rattle.uc_name_laws.proofs.Homes.{no_both, same_exec}
use Rattle.uc_name_laws.proofs.Values.{below_more}
use Rattle.uc_name_laws.proofs.Births.{law_new}
use Rattle.uc_name_laws.proofs.Walk.{walk}
use Rattle.uc_life_laws.specs.RunningRuns.{RunLeaves}
use Rattle.uc_life_laws.proofs.Riding.{grows_not}
use Rattle.uc_life_laws.proofs.NamedWorlds.{WorldNamed, vacuous, run_named, ride, start, known, found_none, after_by, after_more, named_act}
use Rattle.uc_life_laws.specs.Knowing.{main_of}
use Rattle.uc_life_laws.proofs.Fewer.{both_members, both_env}
use Rattle.uc_life_laws.specs.OwnNames.{at_hand, IsElsewhere, IsOwn, StepOwn, StaysOwn}
use Rattle.uc_life_laws.proofs.OwnNamesLemmas.{run_owns, law_own_names}
use Rattle.uc_rooted_runs.specs.Makers.{Makers}
use Rattle.uc_rooted_runs.specs.Births.{MakesLater, SpawnsLater, RunSpawnsLater}
use Rattle.uc_rooted_runs.specs.OutlastRuns.{with_homes, with_made, made_by, made_behind, ride_made, made_asked, run_made, now, MadeNone, NoneElsewhere}
use Rattle.uc_rooted_runs.specs.OutlastNames.{NamesAt, RideNames, SpawnsNew, MayName, RunNames, LawOutlastNames}
use Rattle.uc_rooted_runs.proofs.Births.{no_more, none_there, named_given}

pub grows_on : (here : Home → Bool) (a b c : Home → ℕ) → Grows here a b → Grows here b c → Grows here a c
grows_on here a b c g h = record {
  more = λ k. let x = g.more k in let y = h.more k in omega (arith, x, y);
  same = λ k e. h.same k e ∙ g.same k e;
}

-- an execution that was not made before a state is made there
pub born_there : (source : Source) (s : State) (made : Exec → Bool) (x : Exec) → made_behind source s made x ≡ true → made x ≡ false → IsBorn source s x
born_there source s made x h f = at s.run.control refl h
  where
    one : (r : ℕ) (todo : List Todo) → s.run.control ≡ SetUpNow r ∷ todo → (a : Option Routine) → slice_get source.routines r ≡ a → (m : Option Members) → members_at (home_at s.run.this s.env) s.env ≡ m → with_made a m (new_exec (home_at s.run.this s.env) s.env) made x ≡ true → IsBorn source s x
    one r todo c None e m g h = absurd (no_both (made x) h f)
    one r todo c (Some a) e None g h = absurd (no_both (made x) h f)
    one r todo c (Some a) e (Some m) g h = by (exec_eq x (new_exec (home_at s.run.this s.env) s.env)) refl h
      where
        by : (b : Bool) → exec_eq x (new_exec (home_at s.run.this s.env) s.env) ≡ b → (if b then true else made x) ≡ true → IsBorn source s x
        by true q h =
            let same : x ≡ new_exec (home_at s.run.this s.env) s.env = same_exec x (new_exec (home_at s.run.this s.env) s.env) q in
            record {
              main = r;
              todo = todo;
              next = c;
              routine = a;
              known = e;
              members = m;
              in_hand = ap (λ k. members_at k s.env) (ap (λ (n : Exec). n.home) same) ∙ g;
              named = same;
            }
        by false q h = absurd (no_both (made x) h f)

    at : (l : List Todo) → s.run.control ≡ l → made_by source l s made x ≡ true → IsBorn source s x
    at (SetUpNow r ∷ todo) c h = one r todo c (slice_get source.routines r) refl (members_at (home_at s.run.this s.env) s.env) refl h
    at l c h = absurd (no_both (made x) h f)

module _ (whole : Makers) (homes : ℕ → Value) (asked : Exec → Bool) where
  abbrev makers : Makers
  makers = with_homes homes whole

  now_asked : (made : Exec → Bool) (x : Exec) → now makers asked made x ≡ true → asked x ≡ true
  now_asked made x h = by (asked x) refl h
    where
      by : (b : Bool) → asked x ≡ b → (if b then made x else false) ≡ true → asked x ≡ true
      by true e h = e
      by false e h = absurd (cc)

  now_made : (made : Exec → Bool) (x : Exec) → now makers asked made x ≡ true → made x ≡ true
  now_made made x h = by (asked x) h
    where
      by : (b : Bool) → (if b then made x else false) ≡ true → made x ≡ true
      by true h = h
      by false h = absurd (cc)

  not_now : (made : Exec → Bool) (x : Exec) → asked x ≡ true → now makers asked made x ≡ false → made x ≡ false
  not_now made x e h = ap (λ b. if b then made x else false) (sym e) ∙ h

  -- all that were made were made by one that was made
  abbrev pub MadeBelow : (Home → ℕ) → (Exec → Bool) → Type 0
  MadeBelow serials made = (x : Exec) → made x ≡ true → IsBelow serials (whole.parent x)

  made_more : (a b : Home → ℕ) → ((h : Home) → a h ≤ b h) → (made : Exec → Bool) → MadeBelow a made → MadeBelow b made
  made_more a b le made h x e = below_more a b le (whole.parent x) (h x e)

  module _ (source : Source) (j : Journal) (w : World) (t : ℕ) where
    abbrev here : Home → Bool
    here h = at_hand j w t h

    -- a state
    module _ (serials : Home → ℕ) (made : Exec → Bool) (s : State) (n : Named (at_hand j w t) false serials s) (h : MadeBelow serials made) (own : StaysOwn source j w t s) (later : MakesLater source whole s) where
      pub names_at : NamesAt makers asked source made s
      names_at = record {
        new = λ r todo c m e x u p.
            law_new.unnamed (at_hand j w t) false serials s n (home_at s.run.this s.env) m e (subst (IsBelow serials) p (h x (now_made made x u)));
        alone = λ m b u e. let o : StepOwn j w t (Goes u) = subst (StepOwn j w t) e own.next in o.alone;
      }

      pub below_behind : (behind : Home → ℕ) → ((h : Home) → serials h ≤ behind h) → MadeBelow behind (made_behind source s made)
      below_behind behind le x e = by (made x) refl
        where
          by : (b : Bool) → made x ≡ b → IsBelow behind (whole.parent x)
          by true f = below_more serials behind le (whole.parent x) (h x f)
          by false f =
              let m = later x (born_there source s made x e f) in
              subst (IsBelow behind) (sym m.parent) (below_more serials behind le s.env.exec n.names.env_named.exec_below)

      made_here : (x : Exec) → made_behind source s made x ≡ true → made x ≡ false → at_hand j w t (whole.parent x).home ≡ true
      made_here x e f =
          let m = later x (born_there source s made x e f) in
          ap (λ (m : Exec). at_hand j w t m.home) m.parent ∙ own.now.at_home

      mine_on : (x : Exec) → made x ≡ false → (made_behind source s made x ≡ false → at_hand j w t (whole.parent x).home ≡ true) → at_hand j w t (whole.parent x).home ≡ true
      mine_on x f next = by (made_behind source s made x) refl
        where
          by : (b : Bool) → made_behind source s made x ≡ b → at_hand j w t (whole.parent x).home ≡ true
          by true e = made_here x e f
          by false e = next e

    -- a ride
    pub record RideTold (serials : Home → ℕ) (made : Exec → Bool) (s : State) (q : ℕ) (u : State) (k : ℕ) (a : Asked) (r : Rides source s q u k a) : Type 0 where
      pub behind : Home → ℕ
      pub grows : Grows (at_hand j w t) serials behind
      pub named : Named (at_hand j w t) false behind u
      pub below : MadeBelow behind (ride_made source made r)
      pub names : RideNames makers asked source made r
      pub mine : (x : Exec) → ride_made source made r x ≡ true → made x ≡ false → at_hand j w t (whole.parent x).home ≡ true

    pub ride_told : (serials : Home → ℕ) (made : Exec → Bool) {s u : State} {q k : ℕ} {a : Asked} (r : Rides source s q u k a) → Named (at_hand j w t) false serials s → MadeBelow serials made → RideMeets (StaysOwn source j w t) source s q u k a r → RideMeets (MakesLater source whole) source s q u k a r → RideTold serials made s q u k a r
    ride_told serials made slices n h own later = record {
      behind = serials;
      grows = grows_not (at_hand j w t) serials;
      named = n;
      below = h;
      names = tt;
      mine = λ x e f. no_both (made x) e f;
    }
    ride_told serials made (goes_on {s} e r) n h own later =
        let b = walk source (at_hand j w t) false serials s n (λ u. vacuous u) in
        let y = ride_told b.serials (made_behind source s made) r (subst (StepNamed (at_hand j w t) false b.serials) e b.named) (below_behind serials made s n h own.0 later.0 b.serials b.grows.more) own.1 later.1 in
        record {
          behind = y.behind;
          grows = grows_on (at_hand j w t) serials b.serials y.behind b.grows y.grows;
          named = y.named;
          below = y.below;
          names = (names_at serials made s n h own.0 later.0, y.names);
          mine = λ x g f. mine_on serials made s n h own.0 later.0 x f (y.mine x g);
        }
    ride_told serials made (ticks {s} e r) n h own later =
        let b = walk source (at_hand j w t) false serials s n (λ u. vacuous u) in
        let y = ride_told b.serials (made_behind source s made) r (subst (StepNamed (at_hand j w t) false b.serials) e b.named) (below_behind serials made s n h own.0 later.0 b.serials b.grows.more) own.1 later.1 in
        record {
          behind = y.behind;
          grows = grows_on (at_hand j w t) serials b.serials y.behind b.grows y.grows;
          named = y.named;
          below = y.below;
          names = (names_at serials made s n h own.0 later.0, y.names);
          mine = λ x g f. mine_on serials made s n h own.0 later.0 x f (y.mine x g);
        }
    ride_told serials made (asks {s} {t = u} {q} {r} e) n h own later =
        let b = walk source (at_hand j w t) false serials s n (λ u. vacuous u) in
        let y : StepNamed (at_hand j w t) false b.serials (Asks r u) = subst (StepNamed (at_hand j w t) false b.serials) e b.named in
        record {
          behind = b.serials;
          grows = b.grows;
          named = y.0;
          below = below_behind serials made s n h own later b.serials b.grows.more;
          names = names_at serials made s n h own later;
          mine = λ x g f. made_here serials made s n h own later x g f;
        }

  -- an act
  module _ (source : Source) (input : List ℕ) (opts : Options) (range : InRange opts) where
    module _ {j : Journal} {w : World} (rests : RunRests source input opts j w) (on : is_over j ≡ false) (deep : DeepWorld j w) (serials : Home → ℕ) (x : WorldNamed serials j w) (made : Exec → Bool) (h : MadeBelow serials made) (p t n : ℕ) (s : State) (q : Asked) (d : AsksIn source opts j w p t n s q) (f : Fits opts source.sites j t q.request) (going : is_over (j ++ act opts source.sites input j p t n q) ≡ false) (own : RideMeets (StaysOwn source j w t) source (answered source d.given (drawn j w t)) (left opts j t) s n q d.rides) (last : IsOwn j w t s) (apart : IsElsewhere j w t) (later : RideMeets (MakesLater source whole) source (answered source d.given (drawn j w t)) (left opts j t) s n q d.rides) (spawned : SpawnsLater whole q.request s) where
      told : RideTold source j w t serials made (answered source d.given (drawn j w t)) (left opts j t) s n q d.rides
      told = ride_told source j w t serials made d.rides (start source input opts range rests on serials x p t d.runs d.given d.told) h own later

      -- as many as the names of the world tell
      abbrev Counted : Home → ℕ
      Counted = (ride source input opts range rests on deep serials x p t n s q d f going).now

      ride_below : MadeBelow (ride source input opts range rests on deep serials x p t n s q d f going).now (ride_made source made d.rides)
      ride_below = made_more told.behind _ (no_more source input opts range rests on deep serials x p t n s q d f going told.behind told.grows told.named) (ride_made source made d.rides) told.below

      asks_below : IsBelow (ride source input opts range rests on deep serials x p t n s q d f going).now s.env.exec
      asks_below = (ride source input opts range rests on deep serials x p t n s q d f going).named.names.env_named.exec_below

      -- what was made by the end of the act: by the ride, or spawned
      made_end : (y : Exec) (r : Request) → SpawnsLater whole r s → made_asked r (ride_made source made d.rides) y ≡ true → ((ride_made source made d.rides y ≡ true) ⊎ (whole.parent y ≡ s.env.exec))
      made_end y (ask.Spawn o) l e = by (exec_eq y (main_of o)) refl e
        where
          by : (b : Bool) → exec_eq y (main_of o) ≡ b → (if b then true else ride_made source made d.rides y) ≡ true → (ride_made source made d.rides y ≡ true) ⊎ (whole.parent y ≡ s.env.exec)
          by true g e = inr (ap whole.parent (same_exec y (main_of o) g) ∙ l.parent)
          by false g e = inl e
      made_end y r l e = inl e

      end_below : MadeBelow (ride source input opts range rests on deep serials x p t n s q d f going).now (made_asked q.request (ride_made source made d.rides))
      end_below y e =
          ⊎_elim (λ g. ride_below y g) (λ g. subst (IsBelow (ride source input opts range rests on deep serials x p t n s q d f going).now) (sym g) asks_below) (made_end y q.request spawned e)

      pub act_below : MadeBelow (after_by q.request (ride source input opts range rests on deep serials x p t n s q d f going).now) (made_asked q.request (ride_made source made d.rides))
      act_below =
          made_more _ (after_by q.request (ride source input opts range rests on deep serials x p t n s q d f going).now) (after_more q.request (ride source input opts range rests on deep serials x p t n s q d f going).now) (made_asked q.request (ride_made source made d.rides)) end_below

      -- nothing was made by the main of a task that is spawned
      spawns_new : SpawnsNew makers asked (ride_made source made d.rides) q.request s
      spawns_new = by q.request refl
        where
          by : (r : Request) → q.request ≡ r → SpawnsNew makers asked (ride_made source made d.rides) r s
          by (ask.Spawn o) e = (last.alone, λ y u g. none y (subst (λ r. made_asked r (ride_made source made d.rides) y ≡ true) (sym e) (now_made (made_asked (ask.Spawn o) (ride_made source made d.rides)) y u)) g)
            where
              none : (y : Exec) → made_asked q.request (ride_made source made d.rides) y ≡ true → whole.parent y ≡ main_of o → ⊥
              none y i g =
                  let b : IsBelow (ride source input opts range rests on deep serials x p t n s q d f going).now (main_of o) = subst (IsBelow (ride source input opts range rests on deep serials x p t n s q d f going).now) g (end_below y i) in
                  let zero = none_there source input opts range rests on deep serials x p t n s q d f going o e in
                  omega (arith, b, zero)
          by r e = tt

      -- what was made meanwhile was made at home where the task has something at hand
      end_mine : (y : Exec) → made_asked q.request (ride_made source made d.rides) y ≡ true → made y ≡ false → at_hand j w t (whole.parent y).home ≡ true
      end_mine y e g =
          ⊎_elim (λ i. told.mine y i g) (λ i. ap (λ (m : Exec). at_hand j w t m.home) i ∙ last.at_home) (made_end y q.request spawned e)

      none_made : (m : Exec) → at_hand j w t m.home ≡ false → MadeNone makers asked made (made_asked q.request (ride_made source made d.rides)) m
      none_made m away y u g i =
          let e = end_mine y (now_made (made_asked q.request (ride_made source made d.rides)) y u) (not_now made y (now_asked (made_asked q.request (ride_made source made d.rides)) y u) g) in
          no_both (at_hand j w t m.home) (ap (λ (k : Exec). at_hand j w t k.home) (sym i) ∙ e) away

      abbrev Away : Exec → Execution (List Todo) Value → Type 0
      Away m y = at_hand j w t m.home ≡ false

      abbrev Ends : Exec → Execution (List Todo) Value → Type 0
      Ends m y = MadeNone makers asked made (made_asked q.request (ride_made source made d.rides)) m

      none_elsewhere : NoneElsewhere makers asked made (made_asked q.request (ride_made source made d.rides)) j w t s
      none_elsewhere = record {
        tasks = λ v lt e. none_made (w.tasks v).env.exec (apart.running v lt e);
        slots = λ v e. both_env Away Away Ends (λ m y g i. none_made m g) (w.tasks v).env (apart.tasks v e) (apart.tasks v e);
        homes = λ o e. both_members Away Away Ends (λ m y g i. none_made m g) (home.Object o) (w.homes o) (apart.homes o (away o e)) (apart.homes o (away o e));
      }
        where
          away : (o : ℕ) → find o s.env.hand ≡ None → has (held t j) o ≡ false
          away o e = sym (ap (λ l. has l o) (asks_with source input opts range rests on p t n s q d).hand) ∙ found_none o s.env.hand e

      pub act_names : MayName makers asked source input opts made (acts p t n s q d)
      act_names = (told.names, spawns_new, none_elsewhere)

    -- a run
    pub record RunTold {j : Journal} {w : World} (r : Runs source input opts j w) : Type 0 where
      pub serials : Home → ℕ
      pub world : WorldNamed serials j w
      pub below : MadeBelow serials (run_made source input opts r)
      pub names : RunNames makers asked source input opts r

    pub run_told : {j : Journal} {w : World} (r : Runs source input opts j w) → RunFits source input opts j w r → is_over j ≡ false → RunLeaves source input opts j w r → RunMeets names.Spares source input opts j w r → RunMeets (MakesLater source whole) source input opts j w r → RunSpawnsLater whole source input opts j w r → RunTold r
    run_told begun f on l h m z =
        let x = run_named source input opts range begun f on in
        record { serials = x.serials; world = x.world; below = λ x e. absurd (cc); names = tt }
    run_told (more {j} {w} r o (gives p t v le)) f on l h m z =
        let y = run_told r f.0 o l.0 h.0 m.0 z.0 in
        record { serials = y.serials; world = named_given source input opts range y.serials j w p t y.world; below = y.below; names = (y.names, tt) }
    run_told (more {j} r o (no_room p t v le)) f on l h m z = no_both (is_over (j ++ lone_limit ∷ [])) (over_limit j 0 0) on
    run_told (more {j} {w} r o (acts p t n s q d)) f on l h m z =
        let y = run_told r f.0 o l.0 h.0 m.0 z.0 in
        let all = law_own_names source input opts j w r range f.0 o l.0 h.0 in
        let rests = run_rests source input opts range r f.0 o in
        let deep = deep_run source input opts range r f.0 o in
        let lt = known source input opts range rests o y.serials y.world p t d.runs in
        let owns = run_owns source input opts range (more r o (acts p t n s q d)) f l h in
        record {
          serials = after_by q.request (ride source input opts range rests o deep y.serials y.world p t n s q d f.1 on).now;
          world = named_act source input opts range rests o deep y.serials y.world p t n s q d f.1 on;
          below = act_below rests o deep y.serials y.world (run_made source input opts r) y.below p t n s q d f.1 on owns.1.0 owns.1.1 (all.elsewhere t lt) m.1 z.1;
          names = (y.names, act_names rests o deep y.serials y.world (run_made source input opts r) y.below p t n s q d f.1 on owns.1.0 owns.1.1 (all.elsewhere t lt) m.1 z.1);
        }

pub law_outlast_names : LawOutlastNames
law_outlast_names asked homes source input opts j w r range fits on leaves spares b =
    let y = run_told b.makers homes asked source input opts range r fits on leaves spares b.made b.spawned in
    y.names
