-- In every run who lets go of an object is not awaited by who binds that, or gave up its building and passes its unwinding on.
use Rattle.std.proofs.Common.{◌≡◌, ℕ, ◌==◌, ◌⊎◌, Bool, false, List, [], ◌∷◌, ◌++◌, Option, Some, None, refl, sym, ap, subst}
use Rattle.std.specs.Prelude.{if◌then◌else◌}
use Rattle.std.proofs.lemmas.Bool.{eq-eqb}
use Rattle.uc_tree.specs.Source.{Source}
use Rattle.uc_entry.specs.Keyed.{find}
use Rattle.uc_entry.specs.declared.entry.Entry.{Entry}
use Rattle.uc_entry.specs.declared.entry.Options.{Options}
use Rattle.uc_entry.specs.declared.request.Answer.{Answer}
use Rattle.uc_entry.specs.declared.request.Asked.{Asked}
use Rattle.uc_entry.specs.declared.request.Request.{Request}
use Rattle.uc_entry.specs.declared.request.Request.TheVariants as ask
use Rattle.uc_acts.specs.Journal.{Journal, held, is_over, own_object}
use Rattle.uc_acts.specs.Acts.{act, lone_limit}
use Rattle.uc_acts.specs.Known.{spawns, takes_out}
use Rattle.uc_acts.proofs.Bounds.{over_limit}
use Rattle.uc_machine.specs.declared.exec.Home.TheVariants as home
use Rattle.uc_machine.specs.Pieces.{Members}
use Rattle.uc_machine.specs.Quiet.{State, no_members}
use Rattle.uc_machine.specs.Answering.{answered, child_main, child_of}
use Rattle.uc_machine.specs.Rides as rides
use Rattle.uc_machine.specs.Rides.{Rides}
use Rattle.uc_meaning.specs.Runs.{World, May, Runs, gives, no_room, acts, begun, more, bare, with_home, hand_of, drawn, or_else, first_world, world_after}
use Rattle.uc_state_laws.specs.Opens.{RideMeets, MayMeet, RunMeets}
use Rattle.uc_name_laws.proofs.Homes.{no_both}
use Rattle.uc_life_laws.specs.LifeStates.{HandBy}
use Rattle.uc_life_laws.proofs.Cells.{either}
use Rattle.uc_life_laws.proofs.Parked.{found_hand}
use Rattle.uc_making_laws.specs.ForgetsThis.{GoesBy, MayGo, RunGoes}
use Rattle.uc_homed_ends.specs.Freeing.{IsUnawaited, FreesEx, FreesMembers, FreesState, GivesUp, FreesAsked, FreesStep, FreeingAt}
use Rattle.uc_homed_ends.proofs.FreeingWalk.{law_freeing}

-- what a step is to find
abbrev pub FreesFinds : Source → State → Type 0
FreesFinds source s = FreeingAt source s.run.control s

-- behind an act by which an object goes
abbrev pub IsFree : Source → Journal → List Entry → World → ℕ → ℕ → Type 0
IsFree source j a x u o = IsUnawaited (x.tasks u).callers ⊎ GivesUp source (x.tasks u)

module _ (source : Source) where
  home_rests : (o : ℕ) (x : Option Members) (hand : List (ℕ × Members)) → FreesMembers source (home.Object o) x → HandBy (FreesEx source) hand → HandBy (FreesEx source) (with_home o x hand)
  home_rests o None hand h k = k
  home_rests o (Some m) hand h k = (h, k)

  hand_rests : (os : List ℕ) (homes : ℕ → Option Members) → ((o : ℕ) → FreesMembers source (home.Object o) (homes o)) → HandBy (FreesEx source) (hand_of os homes)
  hand_rests [] homes h = tt
  hand_rests (o ∷ os) homes h = home_rests o (homes o) (hand_of os homes) (h o) (hand_rests os homes h)

  or_rests : (o : ℕ) (x y : Option Members) → FreesMembers source (home.Object o) x → FreesMembers source (home.Object o) y → FreesMembers source (home.Object o) (or_else x y)
  or_rests o None y h k = k
  or_rests o (Some m) y h k = h

  -- all tasks of a world, and what is at home in objects
  pub record FreesWorld (x : World) : Type 0 where
    pub tasks : (u : ℕ) → FreesState source (x.tasks u)
    pub homes : (q : ℕ) → FreesMembers source (home.Object q) (x.homes q)

  drawn_rests : (j : Journal) (w : World) (n : ℕ) → FreesWorld w → FreesState source (drawn j w n)
  drawn_rests j w n x =
      let s = x.tasks n in
      record { stack = s.stack; env = record { house = s.env.house; hand = hand_rests (held n j) w.homes x.homes } }

  bare_rests : (s : State) → FreesState source s → FreesState source (bare s)
  bare_rests s h = record { stack = h.stack; env = record { house = h.env.house; hand = tt } }

  ridden : {s u : State} {q k : ℕ} {a : Asked} (r : Rides source s q u k a) → RideMeets (FreesFinds source) source s q u k a r → FreesState source s → FreesState source u × FreesAsked source a.request u
  ridden (rides.slices {s}) o h = (h, tt)
  ridden (rides.goes_on {s} {t} e r) o h = ridden r o.1 (subst (FreesStep source) e (law_freeing.steps source s h o.0))
  ridden (rides.ticks {s} {t} e r) o h = ridden r o.1 (subst (FreesStep source) e (law_freeing.steps source s h o.0))
  ridden (rides.asks {s} {t} e) o h = subst (FreesStep source) e (law_freeing.steps source s h o)

  told : (given : Answer) (j : Journal) (w : World) (n : ℕ) → FreesWorld w → FreesState source (answered source given (drawn j w n))
  told given j w n x = law_freeing.told source given (drawn j w n) (drawn_rests j w n x)

  frees_begun : FreesWorld (first_world source)
  frees_begun = record {
    tasks = λ n. law_freeing.begins source source.main 0;
    homes = λ o. either (FreesMembers source (home.Object o)) (o == 0) (Some no_members) None tt tt;
  }

  acted : (a : List Entry) (w : World) (n : ℕ) (s : State) → FreesWorld w → FreesState source s → FreesWorld (world_after source a w n s)
  acted a w n s h st = record {
    tasks = λ u. either (FreesState source) (u == n) (bare s) (if spawns a u then child_of source (own_object u a) s else w.tasks u) (bare_rests s st) (either (FreesState source) (spawns a u) (child_of source (own_object u a) s) (w.tasks u) (law_freeing.begins source (child_main source s.run.control) (own_object u a)) (h.tasks u));
    homes = λ o. either (FreesMembers source (home.Object o)) (takes_out a o) None (or_else (find o s.env.hand) (w.homes o)) tt (or_rests o (find o s.env.hand) (w.homes o) (found_hand (FreesEx source) o s.env.hand st.env.hand) (h.homes o));
  }

  goes_by : (j : Journal) (a : List Entry) (w : World) (u : ℕ) (s : State) (q : Request) → FreesAsked source q s → GoesBy (IsFree source) j a (world_after source a w u s) u q
  goes_by j a w u s (ask.Gone o) h =
      let same : (if u == u then bare s else if spawns a u then child_of source (own_object u a) s else w.tasks u) ≡ bare s = ap (λ (b : Bool). if b then bare s else if spawns a u then child_of source (own_object u a) s else w.tasks u) (eq-eqb u u refl) in
      subst (λ (y : State). IsUnawaited y.callers ⊎ GivesUp source y) (sym same) h
  goes_by j a w u s q h = tt

  module _ (input : List ℕ) (opts : Options) where
    may_rests : {j : Journal} {w : World} {a : List Entry} {x : World} → FreesWorld w → (m : May source opts input j w a x) → MayMeet (FreesFinds source) source opts input j w a x m → is_over (j ++ a) ≡ false → FreesWorld x
    may_rests h (gives p n s le) o on = h
    may_rests {j} h (no_room p n s le) o on = no_both (is_over (j ++ lone_limit ∷ [])) (over_limit j 0 0) on
    may_rests {j} {w} h (acts p n k s asked d) o on = acted (act opts source.sites input j p n k asked) w n s h (ridden d.rides o (told d.given j w n h)).0

    world_rests : {j : Journal} {w : World} (r : Runs source input opts j w) → RunMeets (FreesFinds source) source input opts j w r → is_over j ≡ false → FreesWorld w
    world_rests begun o on = frees_begun
    world_rests (more r g m) o on = may_rests (world_rests r o.0 g) m o.1 on

    may_free : {j : Journal} {w : World} {a : List Entry} {x : World} → FreesWorld w → (m : May source opts input j w a x) → MayMeet (FreesFinds source) source opts input j w a x m → MayGo (IsFree source) source input opts m
    may_free h (gives p n s le) o = tt
    may_free h (no_room p n s le) o = tt
    may_free {j} {w} h (acts p n k s asked d) o =
        goes_by j (act opts source.sites input j p n k asked) w n s asked.request (ridden d.rides o (told d.given j w n h)).1

    pub run_free : {j : Journal} {w : World} (r : Runs source input opts j w) → RunMeets (FreesFinds source) source input opts j w r → RunGoes (IsFree source) source input opts r
    run_free begun o = tt
    run_free (more r g m) o = (run_free r o.0, may_free (world_rests r o.0 g) m o.1)
