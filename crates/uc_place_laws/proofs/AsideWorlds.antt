-- In every run of a program in which all that was asked fits, what constructors bind lies aside of what is still to be bound.
use Rattle.std.proofs.Common.{◌≡◌, ℕ, ◌<◌, ◌≤◌, ◌==◌, ◌||◌, Bool, true, false, List, [], ◌∷◌, ◌++◌, Option, Some, None, refl, sym, ap, ◌∙◌, subst, arith, append-nil, append_assoc, ⊎_elim}
use Rattle.std.specs.Prelude.{if◌then◌else◌, slice_get}
use Rattle.std.proofs.lemmas.Bool.{eqb-true, ne_eqb, cases_lt}
use Rattle.uc_tree.specs.Programs.{Program}
use Rattle.uc_tree.specs.Numbering.{sites_of}
use Rattle.uc_tree.specs.Source.{Source, Routine, routine_of}
use Rattle.uc_entry.specs.declared.entry.Entry.{Entry}
use Rattle.uc_entry.specs.declared.entry.EntryKind.{EntryKind}
use Rattle.uc_entry.specs.declared.entry.EntryKind.TheVariants as kind
use Rattle.uc_entry.specs.declared.entry.Options.{Options}
use Rattle.uc_entry.specs.declared.request.Answer.{Answer}
use Rattle.uc_entry.specs.declared.request.Asked.{Asked}
use Rattle.uc_entry.specs.declared.request.Request.{Request}
use Rattle.uc_entry.specs.declared.request.Request.TheVariants as ask
use Rattle.uc_entry.specs.Keyed.{find}
use Rattle.uc_acts.specs.Journal.{Journal, begin, held, own_object, is_over, number}
use Rattle.uc_acts.specs.Known.{has_ended, task_count, ends, spawns, spawns_task, takes_out}
use Rattle.uc_acts.specs.Sound.{Sound, Spot}
use Rattle.uc_acts.specs.Legal.{IsNext}
use Rattle.uc_acts.specs.Acts.{act, dispatch, lone_limit}
use Rattle.uc_acts.specs.Answers.{answer_to}
use Rattle.uc_acts.specs.Queues.{running}
use Rattle.uc_acts.specs.KernelRuns.{InRange, MayAsk}
use Rattle.uc_acts.proofs.Bounds.{over_limit}
use Rattle.uc_acts.proofs.Law.{good_whole, lawful_act}
use Rattle.uc_acts.proofs.Moves.{more_tasks}
use Rattle.uc_acts.proofs.Rows.{Lawful}
use Rattle.uc_acts.proofs.SoundLemmas.{ended_push}
use Rattle.uc_machine.specs.declared.exec.Home.TheVariants as home
use Rattle.uc_machine.specs.Quiet.{State, Members, no_members, first_state}
use Rattle.uc_machine.specs.Answering.{answered, child_main, child_of}
use Rattle.uc_machine.specs.Rides as rides
use Rattle.uc_machine.specs.Rides.{Rides}
use Rattle.uc_meaning.specs.Runs.{World, AsksIn, May, Runs as RunsIn, gives, no_room, acts, begun, more, bare, with_home, hand_of, drawn, or_else}
use Rattle.uc_resolve.specs.Resolve.{source_of}
use Rattle.uc_rules.specs.Breaks.{breaks_of}
use Rattle.uc_sound.specs.SoundFormed.{IsFormed}
use Rattle.uc_sound.specs.Tables.{table_of}
use Rattle.uc_sound.proofs.SoundLemmas.{law_sound}
use Rattle.uc_state_laws.specs.Fitting.{MayFit, RunFits}
use Rattle.uc_state_laws.proofs.Alive.{law_alive}
use Rattle.uc_state_laws.proofs.Makes.{law_ends}
use Rattle.uc_state_laws.proofs.Others.{RunRests, may_ask, run_rests}
use Rattle.uc_answer_laws.specs.Suiting.{JustGo, asked_form, form_of_request}
use Rattle.uc_answer_laws.proofs.Told.{form_push, SpotSuits}
use Rattle.uc_answer_laws.proofs.Runs.{kept_run, law_suiting}
use Rattle.uc_answer_laws.proofs.Asking.{law_asking}
use Rattle.uc_state_laws.specs.Layout.{Sized}
use Rattle.uc_state_laws.specs.RoomStacks.{StackState, StackStep}
use Rattle.uc_state_laws.specs.ScopeFrameRuns.{KeepsFrames}
use Rattle.uc_state_laws.specs.Rooms.{SourceIn}
use Rattle.uc_state_laws.specs.RoomRuns as rooms
use Rattle.uc_state_laws.specs.RoomRuns.{Leads, Comes}
use Rattle.uc_state_laws.proofs.StackWorlds.{law_frame_runs}
use Rattle.uc_state_laws.proofs.Unreferring.{law_accepted}
use Rattle.uc_state_laws.proofs.StackWalk.{walk as walk_stack}
use Rattle.uc_site_laws.proofs.Routines.{source_named}
use Rattle.uc_state_laws.specs.Counted.{CountedRoutine, CountedSource}
use Rattle.uc_state_laws.proofs.Arguments.{counted_source}
use Rattle.uc_place_laws.specs.Siting.{SitedRoutine, SitedSource}
use Rattle.uc_place_laws.proofs.Routines.{law_sited}
use Rattle.uc_place_laws.specs.OlderResting.{AllWait, NamedParked, NamedHand}
use Rattle.uc_place_laws.specs.Asides.{CodeRoutine, FindsFor, Runs, Waits, FindsBehind, AsideMembers, AsideState, AsideAsk, AsideStep}
use Rattle.uc_place_laws.specs.AsideLaws.{makes_of}
use Rattle.uc_place_laws.proofs.AsideKeeping as kept
use Rattle.uc_place_laws.proofs.AsideKeeping.{either}
use Rattle.uc_place_laws.proofs.AsideSteps.{calm}
use Rattle.uc_place_laws.proofs.AsideWalk.{walk, first_aside, answered_aside}

no_both : {A : Type 0} (b : Bool) → b ≡ true → b ≡ false → A
no_both b t f = absurd (cc)

-- who has not ended had not ended before
ended_before : (j : Journal) (a : List Entry) (t : ℕ) → has_ended t (j ++ a) ≡ false → has_ended t j ≡ false
ended_before j [] t h = ap (has_ended t) (sym (append-nil j)) ∙ h
ended_before j (e ∷ a) t h =
    first (has_ended t j) (ends t e.kind e) (sym (ended_push t j e) ∙ ended_before (j ++ e ∷ []) a t (ap (has_ended t) (append_assoc j (e ∷ []) a) ∙ h))
  where
    first : (b c : Bool) → (b || c) ≡ false → b ≡ false
    first true c g = cc
    first false c g = refl

-- whom an act spawns was not born before

born_late : (k : EntryKind) (e : Entry) (j : Journal) (u : ℕ) → IsNext k e j → u < task_count j → spawns_task u k e ≡ false
born_late kind.Spawn e j u n lt = ne_eqb u (number e.a) (λ same. absurd (omega (arith, n, lt, same)))
born_late k e j u n lt = refl

spawns_none : (j : Journal) (a : List Entry) (u : ℕ) → Lawful j a → u < task_count j → spawns a u ≡ false
spawns_none j [] u l lt = refl
spawns_none j (e ∷ a) u l lt =
    ap (λ b. b || spawns a u) (born_late e.kind e j u l.0.next lt) ∙ spawns_none (j ++ e ∷ []) a u l.1 (more_tasks j e u lt)

-- a task at rest
record TaskAside (Z : ℕ → ℕ → Type 0) (makes : ℕ → Bool) (source : Source) (j : Journal) (t : ℕ) (s : State) : Type 0 where
  run : has_ended t j ≡ false → FindsFor Z makes source (asked_form t j) s.env.exec s.callers s.run
  callers : AllWait (Runs Z makes source) (Waits Z makes source) s.env.exec s.callers
  house : NamedParked (Runs Z makes source) (Waits Z makes source) (home.Task s.env.own) s.env.house.parked

record AsideWorld (Z : ℕ → ℕ → Type 0) (makes : ℕ → Bool) (source : Source) (j : Journal) (w : World) : Type 0 where
  tasks : (t : ℕ) → TaskAside Z makes source j t (w.tasks t)
  homes : (o : ℕ) → AsideMembers Z makes source (home.Object o) (w.homes o)

module _ (Z : ℕ → ℕ → Type 0) (makes : ℕ → Bool) (source : Source) where
  home_aside : (o : ℕ) (x : Option Members) (hand : List (ℕ × Members)) → AsideMembers Z makes source (home.Object o) x → NamedHand (Runs Z makes source) (Waits Z makes source) hand → NamedHand (Runs Z makes source) (Waits Z makes source) (with_home o x hand)
  home_aside o None hand h k = k
  home_aside o (Some m) hand h k = (h, k)

  hand_aside : (os : List ℕ) (homes : ℕ → Option Members) → ((o : ℕ) → AsideMembers Z makes source (home.Object o) (homes o)) → NamedHand (Runs Z makes source) (Waits Z makes source) (hand_of os homes)
  hand_aside [] homes h = tt
  hand_aside (o ∷ os) homes h = home_aside o (homes o) (hand_of os homes) (h o) (hand_aside os homes h)

  or_aside : (o : ℕ) (x y : Option Members) → AsideMembers Z makes source (home.Object o) x → AsideMembers Z makes source (home.Object o) y → AsideMembers Z makes source (home.Object o) (or_else x y)
  or_aside o None y h k = k
  or_aside o (Some m) y h k = h

  -- where a task goes on it finds what its request brings
  behind : (r : Request) (s : State) → (r ≡ ask.End → ⊥) → ((n : ℕ) → r ≡ ask.Fault n → ⊥) → FindsBehind Z makes source r s.env.exec s.callers s.run → FindsFor Z makes source (form_of_request r) s.env.exec s.callers s.run
  behind ask.End s e f h = absurd (e refl)
  behind (ask.Fault n) s e f h = absurd (f n refl)
  behind r s e f h = h

-- rides of a task that keeps to its rooms

module _ (Z : ℕ → ℕ → Type 0) (makes : ℕ → Bool) (source : Source) (in_rooms : SourceIn Z source) (known : (n : ℕ) → CodeRoutine makes source (makes n) (slice_get source.routines n)) where
  ridden : {s u : State} {q k : ℕ} {a : Asked} → Rides source s q u k a → StackState Z s → AsideState Z makes source s → AsideAsk Z makes source a.request u
  ridden rides.slices n h = record { run = h.run; callers = h.callers; env = h.env }
  ridden (rides.goes_on {s} {t} e r) n h =
      ridden r (subst (StackStep Z) e (walk_stack Z source in_rooms s n)) (subst (AsideStep Z makes source) e (walk Z makes source known s h n))
  ridden (rides.ticks {s} {t} e r) n h =
      ridden r (subst (StackStep Z) e (walk_stack Z source in_rooms s n)) (subst (AsideStep Z makes source) e (walk Z makes source known s h n))
  ridden (rides.asks {s} {t} e) n h = subst (AsideStep Z makes source) e (walk Z makes source known s h n)

  led : {s u : State} → Leads source s u → StackState Z s → AsideState Z makes source s → AsideState Z makes source u
  led rooms.stays n h = h
  led (rooms.goes {s} e l) n h =
      led l (subst (StackStep Z) e (walk_stack Z source in_rooms s n)) (subst (AsideStep Z makes source) e (walk Z makes source known s h n))
  led (rooms.ticks {s} e l) n h =
      led l (subst (StackStep Z) e (walk_stack Z source in_rooms s n)) (subst (AsideStep Z makes source) e (walk Z makes source known s h n))

module _ (p : Program) (accepted : breaks_of p ≡ []) (known : (n : ℕ) → CodeRoutine (makes_of p) (source_of p) (makes_of p n) (slice_get (source_of p).routines n)) (input : List ℕ) (opts : Options) (range : InRange opts) where
  abbrev source : Source
  source = source_of p

  abbrev Z : ℕ → ℕ → Type 0
  Z = Sized p

  abbrev makes : ℕ → Bool
  makes = makes_of p

  module _ {j : Journal} {w : World} (r : RunRests source input opts j w) (going : is_over j ≡ false) (x : AsideWorld Z makes source j w) (told_rooms : KeepsFrames p j w) where
    sound : Sound j
    sound = (good_whole opts source.sites input r.kernel).sound

    -- whoever runs is told what it has asked for
    goes_on : (p t : ℕ) (a : Answer) → running p j ≡ t ∷ [] → answer_to source.sites t j ≡ Some a → AsideState Z makes source (answered source a (drawn j w t))
    goes_on p t a runs told =
        let m = x.tasks t in
        let finds : FindsFor Z makes source (asked_form t j) (drawn j w t).env.exec (drawn j w t).callers (drawn j w t).run = m.run (law_alive opts source.sites input j r.kernel going p t runs) in
        answered_aside Z makes source (asked_form t j) a (drawn j w t) (law_suiting opts source.sites input j r.kernel going t a told) finds m.callers (record { house = m.house; hand = hand_aside Z makes source (held t j) w.homes x.homes })

    asks_aside : (p t n : ℕ) (s : State) (asked : Asked) → AsksIn source opts j w p t n s asked → AsideAsk Z makes source asked.request s
    asks_aside q t n s asked d =
        ridden Z makes source (law_accepted p accepted) known d.rides (told_rooms.comes t _ (record { given = d.given; processor = q; runs = d.runs; told = d.told; leads = rooms.stays })) (goes_on q t d.given d.runs d.told)

    state : (t : ℕ) (s : State) → Comes source j w t s → AsideState Z makes source s
    state t s c =
        led Z makes source (law_accepted p accepted) known c.leads (told_rooms.comes t _ (record { given = c.given; processor = c.processor; runs = c.runs; told = c.told; leads = rooms.stays })) (goes_on c.processor t c.given c.runs c.told)

    module _ (q t n : ℕ) (s : State) (asked : Asked) (d : AsksIn source opts j w q t n s asked) (m : MayAsk opts source.sites j q t n asked.request) (on : is_over (j ++ act opts source.sites input j q t n asked) ≡ false) where
      abbrev a : List Entry
      a = act opts source.sites input j q t n asked

      asks : AsideAsk Z makes source asked.request s
      asks = asks_aside q t n s asked d

      own_after : TaskAside Z makes source (j ++ a) t (bare s)
      own_after = record {
        run = λ h.
            let k = law_ends opts source.sites input j q t n asked on h in
            subst (λ f. FindsFor Z makes source f s.env.exec s.callers s.run) (sym (law_asking opts source.sites input j q t n asked r.kernel m on).own) (behind Z makes source asked.request s k.no_end k.no_fault asks.run);
        callers = asks.callers;
        house = asks.env.house;
      }

      others : (u : ℕ) → (u == t) ≡ false → asked_form u (j ++ a) ≡ asked_form u j
      others u h = (law_asking opts source.sites input j q t n asked r.kernel m on).others u h

      -- one that is spawned was not born, so it has asked nothing
      child_form : (u : ℕ) → (u == t) ≡ false → spawns a u ≡ true → asked_form u (j ++ a) ≡ JustGo
      child_form u h e = others u h ∙ subst (λ (P : Spot). SpotSuits P (asked_form u j)) (sound.few u late) ((kept_run opts source.sites input r.kernel going).suits.spots u)
        where
          not_before : u < task_count j → ⊥
          not_before lt = no_both (spawns a u) e (spawns_none j a u (lawful_act opts source.sites input j q t n asked sound m) lt)

          late : task_count j ≤ u
          late = ⊎_elim (λ lt. absurd (not_before lt)) (λ le. le) (cases_lt u (task_count j))

      -- a task that begins has asked nothing
      tasks_after : (u : ℕ) → TaskAside Z makes source (j ++ a) u (if u == t then bare s else if spawns a u then child_of source (own_object u a) s else w.tasks u)
      tasks_after u = by (u == t) refl
        where
          stays : (u == t) ≡ false → TaskAside Z makes source (j ++ a) u (w.tasks u)
          stays e = record {
            run = λ h. subst (λ f. FindsFor Z makes source f (w.tasks u).env.exec (w.tasks u).callers (w.tasks u).run) (sym (others u e)) ((x.tasks u).run (ended_before j a u h));
            callers = (x.tasks u).callers;
            house = (x.tasks u).house;
          }

          born : (b : Bool) → (u == t) ≡ false → spawns a u ≡ b → TaskAside Z makes source (j ++ a) u (if b then child_of source (own_object u a) s else w.tasks u)
          born true e f =
              let first = first_aside Z makes source known (child_main source s.run.control) (own_object u a) in
              record {
                run = λ h. subst (λ f. FindsFor Z makes source f (child_of source (own_object u a) s).env.exec (child_of source (own_object u a) s).callers (child_of source (own_object u a) s).run) (sym (child_form u e f)) first.run;
                callers = first.callers;
                house = first.env.house;
              }
          born false e f = stays e

          by : (b : Bool) → (u == t) ≡ b → TaskAside Z makes source (j ++ a) u (if b then bare s else if spawns a u then child_of source (own_object u a) s else w.tasks u)
          by true e = subst (λ v. TaskAside Z makes source (j ++ a) v (bare s)) (sym (eqb-true u t e)) own_after
          by false e = born (spawns a u) e refl

      homes_after : (o : ℕ) → AsideMembers Z makes source (home.Object o) (if takes_out a o then None else or_else (find o s.env.hand) (w.homes o))
      homes_after o =
          either (AsideMembers Z makes source (home.Object o)) (takes_out a o) None (or_else (find o s.env.hand) (w.homes o)) tt (or_aside Z makes source o (find o s.env.hand) (w.homes o) (kept.found_hand (Runs Z makes source) (Waits Z makes source) (calm Z makes source) o s.env.hand asks.env.hand) (x.homes o))

  given_form : (j : Journal) (q t u : ℕ) → asked_form u (j ++ dispatch q t ∷ []) ≡ asked_form u j
  given_form j q t u = form_push u j (dispatch q t)

  aside_may : {j : Journal} {w : World} {a : List Entry} {v : World} → RunRests source input opts j w → is_over j ≡ false → AsideWorld Z makes source j w → KeepsFrames p j w → (m : May source opts input j w a v) → MayFit source opts input j w a v m → is_over (j ++ a) ≡ false → AsideWorld Z makes source (j ++ a) v
  aside_may {j} {w} r o x i (gives q t s le) f on = record {
    tasks = λ u. record {
      run = λ h. subst (λ f. FindsFor Z makes source f (w.tasks u).env.exec (w.tasks u).callers (w.tasks u).run) (sym (given_form j q t u)) ((x.tasks u).run (ended_before j (dispatch q t ∷ []) u h));
      callers = (x.tasks u).callers;
      house = (x.tasks u).house;
    };
    homes = x.homes;
  }
  aside_may {j} r o x i (no_room q t s le) f on = no_both (is_over (j ++ lone_limit ∷ [])) (over_limit j 0 0) on
  aside_may {j} {w} r o x i (acts q t n s asked d) f on =
      let m = may_ask source input opts range d f in
      record { tasks = λ u. tasks_after r o x i q t n s asked d m on u; homes = λ k. homes_after r o x i q t n s asked d m on k }

  begin_form : (u : ℕ) → asked_form u (begin opts ∷ []) ≡ JustGo
  unfolding asked_form
  begin_form u = refl

  aside_run : {j : Journal} {w : World} → (r : RunsIn source input opts j w) → RunFits source input opts j w r → is_over j ≡ false → AsideWorld Z makes source j w
  aside_run begun f on =
      let first = first_aside Z makes source known source.main 0 in
      record {
        tasks = λ u. record { run = λ h. subst (λ f. FindsFor Z makes source f (first_state (routine_of source source.main) 0).env.exec (first_state (routine_of source source.main) 0).callers (first_state (routine_of source source.main) 0).run) (sym (begin_form u)) first.run; callers = first.callers; house = first.env.house };
        homes = λ o. either (AsideMembers Z makes source (home.Object o)) (o == 0) (Some no_members) None tt tt;
      }
  aside_run (more {j} {w} r o m) f on =
      aside_may (run_rests source input opts range r f.0 o) o (aside_run r f.0 o) (law_frame_runs p accepted input opts j w r) m f.1 on

-- the code of such a program

code_by : (f : ℕ → Bool) (x : Source) (b : Bool) (r : Option Routine) → CountedRoutine x r → SitedRoutine f b r → CodeRoutine f x b r
code_by f x b None n q = tt
code_by f x b (Some r) n q = (n, q)

pub code : (f : ℕ → Bool) (x : Source) → CountedSource x → SitedSource f x → (n : ℕ) → CodeRoutine f x (f n) (slice_get x.routines n)
code f x known sited n = code_by f x (f n) (slice_get x.routines n) (known n) (sited n)

pub code_of : (p : Program) → IsFormed p → breaks_of p ≡ [] → (n : ℕ) → CodeRoutine (makes_of p) (source_of p) (makes_of p n) (slice_get (source_of p).routines n)
code_of p formed accepted =
    code (makes_of p) (source_of p) (counted_source (sites_of p) (source_of p) (table_of p) (law_sound p formed accepted) (source_named p)) (law_sited p formed accepted)

pub aside_in : (p : Program) → IsFormed p → breaks_of p ≡ [] → (input : List ℕ) (opts : Options) → InRange opts → (j : Journal) (w : World) (r : RunsIn (source_of p) input opts j w) → RunFits (source_of p) input opts j w r → is_over j ≡ false → (t : ℕ) (s : State) → Comes (source_of p) j w t s → AsideState (Sized p) (makes_of p) (source_of p) s
aside_in p formed accepted input opts range j w r f on t s c =
    let known : (n : ℕ) → CodeRoutine (makes_of p) (source_of p) (makes_of p n) (slice_get (source_of p).routines n) = code_of p formed accepted in
    state p accepted known input opts range (run_rests (source_of p) input opts range r f on) on (aside_run p accepted known input opts range r f on) (law_frame_runs p accepted input opts j w r) t s c
