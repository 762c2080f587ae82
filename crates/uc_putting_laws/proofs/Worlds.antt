-- In every run of a program in which all that was asked fits, and each step finds what is left to find, marks are put for what is an execution's own.
use Rattle.std.proofs.Common.{◌≡◌, ℕ, ◌<◌, ◌≤◌, ◌==◌, ◌||◌, Bool, true, false, List, [], ◌∷◌, ◌++◌, Option, Some, None, refl, sym, ap, ◌∙◌, subst, arith, append-nil, append_assoc, ⊎_elim}
use Rattle.std.specs.Prelude.{if◌then◌else◌, slice_get}
use Rattle.std.proofs.lemmas.Bool.{eqb-true, ne_eqb, cases_lt}
use Rattle.uc_tree.specs.Programs.{Program}
use Rattle.uc_tree.specs.Source.{Source, routine_of}
use Rattle.uc_entry.specs.declared.entry.Entry.{Entry}
use Rattle.uc_entry.specs.declared.entry.EntryKind.{EntryKind}
use Rattle.uc_entry.specs.declared.entry.EntryKind.TheVariants as kind
use Rattle.uc_entry.specs.declared.entry.Options.{Options}
use Rattle.uc_entry.specs.declared.request.Answer.{Answer}
use Rattle.uc_entry.specs.declared.request.Asked.{Asked}
use Rattle.uc_entry.specs.declared.request.Request.{Request}
use Rattle.uc_entry.specs.declared.request.Request.TheVariants as ask
use Rattle.uc_entry.specs.Keyed.{find}
use Rattle.uc_acts.specs.Journal.{Journal, begin, cost, held, own_object, is_over, number}
use Rattle.uc_acts.specs.Known.{has_ended, task_count, ends, spawns, spawns_task, takes_out}
use Rattle.uc_acts.specs.Sound.{Sound, Spot}
use Rattle.uc_acts.specs.Legal.{IsNext}
use Rattle.uc_acts.specs.Acts.{act, dispatch, lone_limit}
use Rattle.uc_acts.specs.Answers.{answer_to}
use Rattle.uc_acts.specs.Queues.{running}
use Rattle.uc_acts.specs.KernelRuns.{InRange, MayAsk}
use Rattle.uc_acts.proofs.Bounds.{over_limit}
use Rattle.uc_acts.proofs.Law.{good_whole, lawful_act}
use Rattle.uc_acts.proofs.Living.{going_row}
use Rattle.uc_acts.proofs.Moves.{more_tasks}
use Rattle.uc_acts.proofs.Rows.{Lawful}
use Rattle.uc_acts.proofs.SoundLemmas.{ended_push}
use Rattle.uc_machine.specs.declared.exec.Home.TheVariants as home
use Rattle.uc_machine.specs.Quiet as quiet
use Rattle.uc_machine.specs.Quiet.{State, Members, Goes, Ticks, no_members, first_state}
use Rattle.uc_machine.specs.Answering.{answered, child_main, child_of}
use Rattle.uc_machine.specs.Rides as rides
use Rattle.uc_machine.specs.Rides.{Rides}
use Rattle.uc_acts.specs.Serves.{left}
use Rattle.uc_meaning.specs.Runs.{World, AsksIn, May, Runs as RunsIn, gives, no_room, acts, begun, more, bare, with_home, hand_of, drawn, or_else, first_world}
use Rattle.uc_resolve.specs.Resolve.{source_of}
use Rattle.uc_rules.specs.Breaks.{breaks_of}
use Rattle.uc_state_laws.specs.Fitting.{MayFit, RunFits}
use Rattle.uc_state_laws.proofs.Alive.{law_alive}
use Rattle.uc_state_laws.proofs.Makes.{law_ends}
use Rattle.uc_state_laws.proofs.Others.{RunRests, may_ask, run_rests}
use Rattle.uc_answer_laws.specs.Suiting.{JustGo, asked_form, form_of_request}
use Rattle.uc_answer_laws.proofs.Told.{form_push, SpotSuits}
use Rattle.uc_answer_laws.proofs.Runs.{kept_run, law_suiting}
use Rattle.uc_answer_laws.proofs.Asking.{law_asking}
use Rattle.uc_state_laws.specs.Layout.{Sized}
use Rattle.uc_state_laws.specs.RoomStacks.{StackState, StackStep}
use Rattle.uc_state_laws.specs.ScopeFrameRuns.{KeepsFrames}
use Rattle.uc_state_laws.specs.Rooms.{SourceIn}
use Rattle.uc_state_laws.specs.RoomRuns as rooms
use Rattle.uc_state_laws.specs.RoomRuns.{Leads, Comes}
use Rattle.uc_state_laws.proofs.StackWorlds.{law_frame_runs}
use Rattle.uc_state_laws.proofs.Unreferring.{law_accepted}
use Rattle.uc_state_laws.specs.Opens.{RideMeets, MayMeet, RunMeets, LeadsMeet}
use Rattle.uc_state_laws.proofs.StackWalk.{walk as walk_stack}
use Rattle.uc_sound.specs.Tables.{table_of}
use Rattle.uc_life_laws.specs.Things.{Few}
use Rattle.uc_life_laws.specs.LifeRuns.{IsLaidOut}
use Rattle.uc_life_laws.proofs.Spawning.{Spawned, spawner}
use Rattle.uc_life_laws.specs.Marks.{Puts}
use Rattle.uc_place_laws.specs.OlderResting.{AllWait, NamedParked, NamedHand}
use Rattle.uc_place_laws.proofs.AsideKeeping as kept
use Rattle.uc_place_laws.proofs.AsideKeeping.{either}
use Rattle.uc_putting_laws.specs.Putting.{Setting, around, CodeRoutine, FindsFor, Runs, Waits, FindsBehind, PutMembers, PutState, PutAsk, PutStep}
use Rattle.uc_putting_laws.specs.PuttingLaws.{special_of, setting_of, Fair}
use Rattle.uc_putting_laws.proofs.PuttingTodos.{calm}
use Rattle.uc_putting_laws.proofs.Walk.{walk, first_put, child_plain, answered_put}
use Rattle.uc_putting_laws.proofs.Puts.{law_puts}

no_both : {A : Type 0} (b : Bool) → b ≡ true → b ≡ false → A
no_both b t f = absurd (cc)

-- who has not ended had not ended before
ended_before : (j : Journal) (a : List Entry) (t : ℕ) → has_ended t (j ++ a) ≡ false → has_ended t j ≡ false
ended_before j [] t h = ap (has_ended t) (sym (append-nil j)) ∙ h
ended_before j (e ∷ a) t h =
    first (has_ended t j) (ends t e.kind e) (sym (ended_push t j e) ∙ ended_before (j ++ e ∷ []) a t (ap (has_ended t) (append_assoc j (e ∷ []) a) ∙ h))
  where
    first : (b c : Bool) → (b || c) ≡ false → b ≡ false
    first true c g = cc
    first false c g = refl

-- whom an act spawns was not born before

born_late : (k : EntryKind) (e : Entry) (j : Journal) (u : ℕ) → IsNext k e j → u < task_count j → spawns_task u k e ≡ false
born_late kind.Spawn e j u n lt = ne_eqb u (number e.a) (λ same. absurd (omega (arith, n, lt, same)))
born_late k e j u n lt = refl

spawns_none : (j : Journal) (a : List Entry) (u : ℕ) → Lawful j a → u < task_count j → spawns a u ≡ false
spawns_none j [] u l lt = refl
spawns_none j (e ∷ a) u l lt =
    ap (λ b. b || spawns a u) (born_late e.kind e j u l.0.next lt) ∙ spawns_none (j ++ e ∷ []) a u l.1 (more_tasks j e u lt)

-- a task at rest
pub record TaskPut (g : Setting) (j : Journal) (t : ℕ) (s : State) : Type 0 where
  run : has_ended t j ≡ false → FindsFor g (asked_form t j) s.env.exec s.callers s.run
  callers : AllWait (Runs g) (Waits g) s.env.exec s.callers
  house : NamedParked (Runs g) (Waits g) (home.Task s.env.own) s.env.house.parked

pub record PutWorld (g : Setting) (j : Journal) (w : World) : Type 0 where
  tasks : (t : ℕ) → TaskPut g j t (w.tasks t)
  homes : (o : ℕ) → PutMembers g (home.Object o) (w.homes o)

module _ (g : Setting) where
  home_put : (o : ℕ) (x : Option Members) (hand : List (ℕ × Members)) → PutMembers g (home.Object o) x → NamedHand (Runs g) (Waits g) hand → NamedHand (Runs g) (Waits g) (with_home o x hand)
  home_put o None hand h k = k
  home_put o (Some m) hand h k = (h, k)

  hand_put : (os : List ℕ) (homes : ℕ → Option Members) → ((o : ℕ) → PutMembers g (home.Object o) (homes o)) → NamedHand (Runs g) (Waits g) (hand_of os homes)
  hand_put [] homes h = tt
  hand_put (o ∷ os) homes h = home_put o (homes o) (hand_of os homes) (h o) (hand_put os homes h)

  or_put : (o : ℕ) (x y : Option Members) → PutMembers g (home.Object o) x → PutMembers g (home.Object o) y → PutMembers g (home.Object o) (or_else x y)
  or_put o None y h k = k
  or_put o (Some m) y h k = h

  -- where a task goes on it finds what its request brings
  behind : (r : Request) (s : State) → (r ≡ ask.End → ⊥) → ((n : ℕ) → r ≡ ask.Fault n → ⊥) → FindsBehind g r s.env.exec s.callers s.run → FindsFor g (form_of_request r) s.env.exec s.callers s.run
  behind ask.End s e f h = absurd (e refl)
  behind (ask.Fault n) s e f h = absurd (f n refl)
  behind r s e f h = h

  -- what is spawned begins with a main
  child_by : (j : Journal) (u : ℕ) (r : Request) (s : State) → g.special g.source.main ≡ false → FindsBehind g r s.env.exec s.callers s.run → Spawned j u r → g.special (child_main g.source s.run.control) ≡ false
  child_by j u (ask.Spawn o) s m h k = child_plain g (around s.env.exec s.run s.callers) h.made _ s.run.control m h.ok
  child_by j u r s m h k = absurd k

-- rides of a task that keeps to its rooms

pub record Stands (p : Program) (g : Setting) (s : State) : Type 0 where
  pub put : PutState g s
  pub stack : StackState (Sized p) s

module _ (p : Program) (g : Setting) (laid : IsLaidOut (Sized p) g.table) (in_rooms : SourceIn (Sized p) g.source) (known : (n : ℕ) → CodeRoutine g (g.special n) (g.table.routine n).this (slice_get g.source.routines n)) where
  puts : (s : State) → Stands p g s → Puts g.table g.few s
  puts s n = law_puts g s n.put

  step : (s : State) → Stands p g s → Fair g s → PutStep g (quiet.quiet g.source s)
  step s n f = walk p g laid known s n.put n.stack f

  pub goes : (s t : State) → quiet.quiet g.source s ≡ Goes t → Stands p g s → Fair g s → Stands p g t
  goes s t e n f = record {
    put = subst (PutStep g) e (step s n f);
    stack = subst (StackStep (Sized p)) e (walk_stack (Sized p) g.source in_rooms s n.stack);
  }

  pub ticks : (s t : State) → quiet.quiet g.source s ≡ Ticks t → Stands p g s → Fair g s → Stands p g t
  ticks s t e n f = record {
    put = subst (PutStep g) e (step s n f);
    stack = subst (StackStep (Sized p)) e (walk_stack (Sized p) g.source in_rooms s n.stack);
  }

  ridden : {s u : State} {q k : ℕ} {a : Asked} (d : Rides g.source s q u k a) → RideMeets (Fair g) g.source s q u k a d → Stands p g s → PutAsk g a.request u × RideMeets (Puts g.table g.few) g.source s q u k a d
  ridden rides.slices f n = (record { run = n.put.run; callers = n.put.callers; env = n.put.env }, tt)
  ridden (rides.goes_on {s} {t} e r) f n = let k = ridden r f.1 (goes s t e n f.0) in (k.0, (puts s n, k.1))
  ridden (rides.ticks {s} {t} e r) f n = let k = ridden r f.1 (ticks s t e n f.0) in (k.0, (puts s n, k.1))
  ridden (rides.asks {s} {t} e) f n = (subst (PutStep g) e (step s n f), puts s n)

  led : {s u : State} (l : Leads g.source s u) → LeadsMeet (Fair g) g.source s u l → Stands p g s → LeadsMeet (Puts g.table g.few) g.source s u l
  led rooms.stays f n = tt
  led (rooms.goes {s} {u} e l) f n = (puts s n, led l f.1 (goes s u e n f.0))
  led (rooms.ticks {s} {u} e l) f n = (puts s n, led l f.1 (ticks s u e n f.0))

module _ (p : Program) (accepted : breaks_of p ≡ []) (few : Few) (laid : IsLaidOut (Sized p) (table_of p)) (main : special_of p (source_of p).main ≡ false) (known : (n : ℕ) → CodeRoutine (setting_of p few) (special_of p n) ((table_of p).routine n).this (slice_get (source_of p).routines n)) (input : List ℕ) (opts : Options) (range : InRange opts) where
  abbrev g : Setting
  g = setting_of p few

  abbrev source : Source
  source = source_of p

  module _ {j : Journal} {w : World} (r : RunRests source input opts j w) (going : is_over j ≡ false) (x : PutWorld g j w) (told_rooms : KeepsFrames p j w) where
    sound : Sound j
    sound = (good_whole opts source.sites input r.kernel).sound

    -- whoever runs is told what it has asked for
    goes_on : (p t : ℕ) (a : Answer) → running p j ≡ t ∷ [] → answer_to source.sites t j ≡ Some a → PutState g (answered source a (drawn j w t))
    goes_on p t a runs told =
        let m = x.tasks t in
        let finds : FindsFor g (asked_form t j) (drawn j w t).env.exec (drawn j w t).callers (drawn j w t).run = m.run (law_alive opts source.sites input j r.kernel going p t runs) in
        answered_put g (asked_form t j) a (drawn j w t) (law_suiting opts source.sites input j r.kernel going t a told) finds m.callers (record { house = m.house; hand = hand_put g (held t j) w.homes x.homes })

    pub start : (q t : ℕ) (a : Answer) → running q j ≡ t ∷ [] → answer_to source.sites t j ≡ Some a → Stands p g (answered source a (drawn j w t))
    start q t a runs told =
        let c : Comes source j w t (answered source a (drawn j w t)) = record { given = a; processor = q; runs = runs; told = told; leads = rooms.stays } in
        record { put = goes_on q t a runs told; stack = told_rooms.comes t _ c }

    asks_put : (q t n : ℕ) (s : State) (asked : Asked) (d : AsksIn source opts j w q t n s asked) → RideMeets (Fair g) source (answered source d.given (drawn j w t)) (left opts j t) s n asked d.rides → PutAsk g asked.request s × RideMeets (Puts g.table few) source (answered source d.given (drawn j w t)) (left opts j t) s n asked d.rides
    asks_put q t n s asked d f = ridden p g laid (law_accepted p accepted) known d.rides f (start q t d.given d.runs d.told)

    module _ (q t n : ℕ) (s : State) (asked : Asked) (d : AsksIn source opts j w q t n s asked) (m : MayAsk opts source.sites j q t n asked.request) (on : is_over (j ++ act opts source.sites input j q t n asked) ≡ false) (fair : RideMeets (Fair g) source (answered source d.given (drawn j w t)) (left opts j t) s n asked d.rides) where
      abbrev a : List Entry
      a = act opts source.sites input j q t n asked

      asks : PutAsk g asked.request s
      asks = (asks_put q t n s asked d fair).0

      own_after : TaskPut g (j ++ a) t (bare s)
      own_after = record {
        run = λ h.
            let k = law_ends opts source.sites input j q t n asked on h in
            subst (λ f. FindsFor g f s.env.exec s.callers s.run) (sym (law_asking opts source.sites input j q t n asked r.kernel m on).own) (behind g asked.request s k.no_end k.no_fault asks.run);
        callers = asks.callers;
        house = asks.env.house;
      }

      others : (u : ℕ) → (u == t) ≡ false → asked_form u (j ++ a) ≡ asked_form u j
      others u h = (law_asking opts source.sites input j q t n asked r.kernel m on).others u h

      -- one that is spawned was not born, so it has asked nothing
      child_form : (u : ℕ) → (u == t) ≡ false → spawns a u ≡ true → asked_form u (j ++ a) ≡ JustGo
      child_form u h e = others u h ∙ subst (λ (P : Spot). SpotSuits P (asked_form u j)) (sound.few u late) ((kept_run opts source.sites input r.kernel going).suits.spots u)
        where
          not_before : u < task_count j → ⊥
          not_before lt = no_both (spawns a u) e (spawns_none j a u (lawful_act opts source.sites input j q t n asked sound m) lt)

          late : task_count j ≤ u
          late = ⊎_elim (λ lt. absurd (not_before lt)) (λ le. le) (cases_lt u (task_count j))

      -- a task that begins has asked nothing
      tasks_after : (u : ℕ) → TaskPut g (j ++ a) u (if u == t then bare s else if spawns a u then child_of source (own_object u a) s else w.tasks u)
      tasks_after u = by (u == t) refl
        where
          stays : (u == t) ≡ false → TaskPut g (j ++ a) u (w.tasks u)
          stays e = record {
            run = λ h. subst (λ f. FindsFor g f (w.tasks u).env.exec (w.tasks u).callers (w.tasks u).run) (sym (others u e)) ((x.tasks u).run (ended_before j a u h));
            callers = (x.tasks u).callers;
            house = (x.tasks u).house;
          }

          born : (b : Bool) → (u == t) ≡ false → spawns a u ≡ b → TaskPut g (j ++ a) u (if b then child_of source (own_object u a) s else w.tasks u)
          born true e f =
              let first = first_put g known (child_main source s.run.control) (own_object u a) (child_by g j u asked.request s main asks.run (spawner u opts source.sites input j q t (cost n asked.line) asked.line asked.request (ap (λ l. spawns l u) (sym (going_row opts source.sites input j q t n asked on).0) ∙ f))) in
              record {
                run = λ h. subst (λ f. FindsFor g f (child_of source (own_object u a) s).env.exec (child_of source (own_object u a) s).callers (child_of source (own_object u a) s).run) (sym (child_form u e f)) first.run;
                callers = first.callers;
                house = first.env.house;
              }
          born false e f = stays e

          by : (b : Bool) → (u == t) ≡ b → TaskPut g (j ++ a) u (if b then bare s else if spawns a u then child_of source (own_object u a) s else w.tasks u)
          by true e = subst (λ v. TaskPut g (j ++ a) v (bare s)) (sym (eqb-true u t e)) own_after
          by false e = born (spawns a u) e refl

      homes_after : (o : ℕ) → PutMembers g (home.Object o) (if takes_out a o then None else or_else (find o s.env.hand) (w.homes o))
      homes_after o =
          either (PutMembers g (home.Object o)) (takes_out a o) None (or_else (find o s.env.hand) (w.homes o)) tt (or_put g o (find o s.env.hand) (w.homes o) (kept.found_hand (Runs g) (Waits g) (calm g) o s.env.hand asks.env.hand) (x.homes o))

  given_form : (j : Journal) (q t u : ℕ) → asked_form u (j ++ dispatch q t ∷ []) ≡ asked_form u j
  given_form j q t u = form_push u j (dispatch q t)

  put_may : {j : Journal} {w : World} {a : List Entry} {v : World} → RunRests source input opts j w → is_over j ≡ false → PutWorld g j w → KeepsFrames p j w → (m : May source opts input j w a v) → MayFit source opts input j w a v m → MayMeet (Fair g) source opts input j w a v m → is_over (j ++ a) ≡ false → PutWorld g (j ++ a) v
  put_may {j} {w} r o x i (gives q t s le) f fair on = record {
    tasks = λ u. record {
      run = λ h. subst (λ f. FindsFor g f (w.tasks u).env.exec (w.tasks u).callers (w.tasks u).run) (sym (given_form j q t u)) ((x.tasks u).run (ended_before j (dispatch q t ∷ []) u h));
      callers = (x.tasks u).callers;
      house = (x.tasks u).house;
    };
    homes = x.homes;
  }
  put_may {j} r o x i (no_room q t s le) f fair on = no_both (is_over (j ++ lone_limit ∷ [])) (over_limit j 0 0) on
  put_may {j} {w} r o x i (acts q t n s asked d) f fair on =
      let m = may_ask source input opts range d f in
      record { tasks = λ u. tasks_after r o x i q t n s asked d m on fair u; homes = λ k. homes_after r o x i q t n s asked d m on fair k }

  may_put : {j : Journal} {w : World} {a : List Entry} {v : World} → RunRests source input opts j w → is_over j ≡ false → PutWorld g j w → KeepsFrames p j w → (m : May source opts input j w a v) → MayMeet (Fair g) source opts input j w a v m → MayMeet (Puts g.table few) source opts input j w a v m
  may_put r o x i (gives q t s le) fair = tt
  may_put r o x i (no_room q t s le) fair = tt
  may_put r o x i (acts q t n s asked d) fair = (asks_put r o x i q t n s asked d fair).1

  begin_form : (u : ℕ) → asked_form u (begin opts ∷ []) ≡ JustGo
  unfolding asked_form
  begin_form u = refl

  begun_put : PutWorld g (begin opts ∷ []) (first_world source)
  begun_put =
      let first = first_put g known source.main 0 main in
      record {
        tasks = λ u. record { run = λ h. subst (λ f. FindsFor g f (first_state (routine_of source source.main) 0).env.exec (first_state (routine_of source source.main) 0).callers (first_state (routine_of source source.main) 0).run) (sym (begin_form u)) first.run; callers = first.callers; house = first.env.house };
        homes = λ o. either (PutMembers g (home.Object o)) (o == 0) (Some no_members) None tt tt;
      }

  pub run_put : {j : Journal} {w : World} (r : RunsIn source input opts j w) → RunFits source input opts j w r → RunMeets (Fair g) source input opts j w r → (is_over j ≡ false → PutWorld g j w) × RunMeets (Puts g.table few) source input opts j w r
  run_put begun f fair = ((λ on. begun_put), tt)
  run_put (more {j} {w} r o m) f fair =
      let k = run_put r f.0 fair.0 in
      let rests : RunRests source input opts j w = run_rests source input opts range r f.0 o in
      let frames : KeepsFrames p j w = law_frame_runs p accepted input opts j w r in (
        (λ on. put_may rests o (k.0 o) frames m f.1 fair.1 on),
        (k.1, may_put rests o (k.0 o) frames m fair.1),
      )

  pub leads_put : {j : Journal} {w : World} (r : RunsIn source input opts j w) → RunFits source input opts j w r → RunMeets (Fair g) source input opts j w r → is_over j ≡ false → (t : ℕ) (s : State) (c : Comes source j w t s) → LeadsMeet (Fair g) source (answered source c.given (drawn j w t)) s c.leads → LeadsMeet (Puts g.table few) source (answered source c.given (drawn j w t)) s c.leads
  leads_put {j} {w} r f fair on t s c l =
      let k = run_put r f fair in
      led p g laid (law_accepted p accepted) known c.leads l (start (run_rests source input opts range r f on) on (k.0 on) (law_frame_runs p accepted input opts j w r) c.processor t c.given c.runs c.told)
