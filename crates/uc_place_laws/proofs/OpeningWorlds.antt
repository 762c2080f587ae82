-- In every run of a program in which all that was asked fits, scopes open behind the calls of constructors.
use Rattle.std.proofs.Common.{◌≡◌, ℕ, ◌<◌, ◌≤◌, ◌==◌, ◌||◌, Bool, true, false, List, [], ◌∷◌, ◌++◌, inl, Option, Some, None, refl, sym, ap, ◌∙◌, subst, arith, append-nil, append_assoc, ⊎_elim}
use Rattle.std.specs.Prelude.{if◌then◌else◌, slice_get}
use Rattle.std.proofs.lemmas.Bool.{eqb-true, ne_eqb, cases_lt}
use Rattle.uc_tree.specs.Programs.{Program}
use Rattle.uc_tree.specs.Numbering.{sites_of}
use Rattle.uc_tree.specs.Source.{Source, routine_of}
use Rattle.uc_entry.specs.declared.entry.Entry.{Entry}
use Rattle.uc_entry.specs.declared.entry.EntryKind.{EntryKind}
use Rattle.uc_entry.specs.declared.entry.EntryKind.TheVariants as kind
use Rattle.uc_entry.specs.declared.entry.Options.{Options}
use Rattle.uc_entry.specs.declared.request.Answer.{Answer}
use Rattle.uc_entry.specs.declared.request.Asked.{Asked}
use Rattle.uc_entry.specs.declared.request.Request.{Request}
use Rattle.uc_entry.specs.declared.request.Request.TheVariants as ask
use Rattle.uc_entry.specs.Keyed.{find}
use Rattle.uc_acts.specs.Journal.{Journal, begin, held, own_object, is_over, number}
use Rattle.uc_acts.specs.Known.{has_ended, task_count, ends, spawns, spawns_task, takes_out}
use Rattle.uc_acts.specs.Sound.{Sound, Spot}
use Rattle.uc_acts.specs.Legal.{IsNext}
use Rattle.uc_acts.specs.Acts.{act, dispatch, lone_limit}
use Rattle.uc_acts.specs.Answers.{answer_to}
use Rattle.uc_acts.specs.Queues.{running}
use Rattle.uc_acts.specs.KernelRuns.{InRange, MayAsk}
use Rattle.uc_acts.proofs.Bounds.{over_limit}
use Rattle.uc_acts.proofs.Law.{good_whole, lawful_act}
use Rattle.uc_acts.proofs.Moves.{more_tasks}
use Rattle.uc_acts.proofs.Rows.{Lawful}
use Rattle.uc_acts.proofs.SoundLemmas.{ended_push}
use Rattle.uc_machine.specs.declared.exec.Home.TheVariants as home
use Rattle.uc_machine.specs.declared.exec.Exec.{Exec}
use Rattle.uc_machine.specs.Quiet.{State, Active, Members, no_members, first_state, quiet}
use Rattle.uc_machine.specs.Answering.{answered, child_main, child_of}
use Rattle.uc_machine.specs.Rides as rides
use Rattle.uc_machine.specs.Rides.{Rides}
use Rattle.uc_meaning.specs.Runs.{World, AsksIn, May, Runs as RunsIn, gives, no_room, acts, begun, more, bare, with_home, hand_of, drawn, or_else}
use Rattle.uc_resolve.specs.Resolve.{source_of}
use Rattle.uc_rules.specs.Breaks.{breaks_of}
use Rattle.uc_sound.specs.SoundFormed.{IsFormed}
use Rattle.uc_sound.specs.Tables.{table_of}
use Rattle.uc_sound.proofs.SoundLemmas.{law_sound}
use Rattle.uc_state_laws.specs.Fitting.{MayFit, RunFits}
use Rattle.uc_state_laws.proofs.Alive.{law_alive}
use Rattle.uc_state_laws.proofs.Makes.{law_ends}
use Rattle.uc_state_laws.proofs.Others.{RunRests, may_ask, run_rests}
use Rattle.uc_answer_laws.specs.Suiting.{Form, JustGo, asked_form, form_of_request}
use Rattle.uc_answer_laws.proofs.Told.{form_push, SpotSuits}
use Rattle.uc_answer_laws.proofs.Runs.{kept_run, law_suiting}
use Rattle.uc_answer_laws.proofs.Asking.{law_asking}
use Rattle.uc_state_laws.specs.RoomRuns as rooms
use Rattle.uc_state_laws.specs.RoomRuns.{Leads, Comes}
use Rattle.uc_site_laws.proofs.Routines.{source_named}
use Rattle.uc_state_laws.proofs.Arguments.{counted_source}
use Rattle.uc_place_laws.specs.OlderResting.{AllWait, NamedParked, NamedHand, NamedEnv}
use Rattle.uc_state_laws.specs.Marked.{operands}
use Rattle.uc_place_laws.specs.Called.{CodeRoutine}
use Rattle.uc_place_laws.specs.CalledStates.{Seated, Finds, FindsFor, Runs, Waits, FindsBehind, CalledMembers, CalledState, CalledAsk, CalledStep}
use Rattle.uc_place_laws.proofs.AsideKeeping as kept
use Rattle.uc_place_laws.proofs.AsideKeeping.{either}
use Rattle.uc_place_laws.proofs.OpeningSteps.{calm}
use Rattle.uc_place_laws.proofs.OpeningWalk.{walk, led as led_to, first_called, answered_called}
use Rattle.uc_place_laws.proofs.OpeningLawSteps.{code}
use Rattle.uc_place_laws.proofs.Openings.{law_opened}

no_both : {A : Type 0} (b : Bool) → b ≡ true → b ≡ false → A
no_both b t f = absurd (cc)

-- who has not ended had not ended before
ended_before : (j : Journal) (a : List Entry) (t : ℕ) → has_ended t (j ++ a) ≡ false → has_ended t j ≡ false
ended_before j [] t h = ap (has_ended t) (sym (append-nil j)) ∙ h
ended_before j (e ∷ a) t h =
    first (has_ended t j) (ends t e.kind e) (sym (ended_push t j e) ∙ ended_before (j ++ e ∷ []) a t (ap (has_ended t) (append_assoc j (e ∷ []) a) ∙ h))
  where
    first : (b c : Bool) → (b || c) ≡ false → b ≡ false
    first true c g = cc
    first false c g = refl

-- whom an act spawns was not born before

born_late : (k : EntryKind) (e : Entry) (j : Journal) (u : ℕ) → IsNext k e j → u < task_count j → spawns_task u k e ≡ false
born_late kind.Spawn e j u n lt = ne_eqb u (number e.a) (λ same. absurd (omega (arith, n, lt, same)))
born_late k e j u n lt = refl

spawns_none : (j : Journal) (a : List Entry) (u : ℕ) → Lawful j a → u < task_count j → spawns a u ≡ false
spawns_none j [] u l lt = refl
spawns_none j (e ∷ a) u l lt =
    ap (λ b. b || spawns a u) (born_late e.kind e j u l.0.next lt) ∙ spawns_none (j ++ e ∷ []) a u l.1 (more_tasks j e u lt)

-- a task at rest
record TaskCalled (g : Program) (source : Source) (j : Journal) (t : ℕ) (s : State) : Type 0 where
  run : has_ended t j ≡ false → FindsFor g source (asked_form t j) s.env.exec s.run
  seat : Seated s.env.exec s.callers s.run.this
  callers : AllWait (Runs g source) (Waits g source) s.env.exec s.callers
  house : NamedParked (Runs g source) (Waits g source) (home.Task s.env.own) s.env.house.parked

record CalledWorld (g : Program) (source : Source) (j : Journal) (w : World) : Type 0 where
  tasks : (t : ℕ) → TaskCalled g source j t (w.tasks t)
  homes : (o : ℕ) → CalledMembers g source (home.Object o) (w.homes o)

module _ (g : Program) (source : Source) where
  home_called : (o : ℕ) (x : Option Members) (hand : List (ℕ × Members)) → CalledMembers g source (home.Object o) x → NamedHand (Runs g source) (Waits g source) hand → NamedHand (Runs g source) (Waits g source) (with_home o x hand)
  home_called o None hand h k = k
  home_called o (Some m) hand h k = (h, k)

  hand_called : (os : List ℕ) (homes : ℕ → Option Members) → ((o : ℕ) → CalledMembers g source (home.Object o) (homes o)) → NamedHand (Runs g source) (Waits g source) (hand_of os homes)
  hand_called [] homes h = tt
  hand_called (o ∷ os) homes h = home_called o (homes o) (hand_of os homes) (h o) (hand_called os homes h)

  or_called : (o : ℕ) (x y : Option Members) → CalledMembers g source (home.Object o) x → CalledMembers g source (home.Object o) y → CalledMembers g source (home.Object o) (or_else x y)
  or_called o None y h k = k
  or_called o (Some m) y h k = h

  -- where a task goes on it finds what its request brings
  found_for : (f : Form) (n : Exec) (a : Active) → Finds g source (operands f) n a → FindsFor g source f n a
  found_for JustGo n a h = inl h
  found_for f n a h = h

  behind : (r : Request) (n : Exec) (a : Active) → (r ≡ ask.End → ⊥) → ((n : ℕ) → r ≡ ask.Fault n → ⊥) → FindsBehind g source r n a → FindsFor g source (form_of_request r) n a
  behind ask.End n a e f h = absurd (e refl)
  behind (ask.Fault k) n a e f h = absurd (f k refl)
  behind r n a e f h = found_for (form_of_request r) n a h

  -- a ride that ends in a request, or as its slice is over
  record Rode (r : Request) (u : State) : Type 0 where
    run : (r ≡ ask.End → ⊥) → ((n : ℕ) → r ≡ ask.Fault n → ⊥) → FindsFor g source (form_of_request r) u.env.exec u.run
    seat : Seated u.env.exec u.callers u.run.this
    callers : AllWait (Runs g source) (Waits g source) u.env.exec u.callers
    env : NamedEnv (Runs g source) (Waits g source) u.env

  rode : (r : Request) (u : State) → CalledAsk g source r u → Rode r u
  rode r u h = record { run = λ e f. behind r u.env.exec u.run e f h.run; seat = h.seat; callers = h.callers; env = h.env }

module _ (g : Program) (source : Source) (known : (n : ℕ) → CodeRoutine g source (slice_get source.routines n)) where
  step : (s : State) → CalledState g source s → CalledStep g source (quiet source s)
  step s h = led_to g source s (quiet source s) (walk g source known s h)

  ridden : {s u : State} {q k : ℕ} {a : Asked} → Rides source s q u k a → CalledState g source s → Rode g source a.request u
  ridden rides.slices h = record { run = λ e f. h.run; seat = h.seat; callers = h.callers; env = h.env }
  ridden (rides.goes_on {s} {t} e r) h = ridden r (subst (CalledStep g source) e (step s h))
  ridden (rides.ticks {s} {t} e r) h = ridden r (subst (CalledStep g source) e (step s h))
  ridden (rides.asks {s} {t} {q} {r} e) h = rode g source r t (subst (CalledStep g source) e (step s h))

  pub led : {s u : State} → Leads source s u → CalledState g source s → CalledState g source u
  led rooms.stays h = h
  led (rooms.goes {s} e l) h = led l (subst (CalledStep g source) e (step s h))
  led (rooms.ticks {s} e l) h = led l (subst (CalledStep g source) e (step s h))

module _ (g : Program) (known : (n : ℕ) → CodeRoutine g (source_of g) (slice_get (source_of g).routines n)) (input : List ℕ) (opts : Options) (range : InRange opts) where
  abbrev source : Source
  source = source_of g

  module _ {j : Journal} {w : World} (r : RunRests source input opts j w) (going : is_over j ≡ false) (x : CalledWorld g source j w) where
    sound : Sound j
    sound = (good_whole opts source.sites input r.kernel).sound

    -- whoever runs is told what it has asked for
    goes_on : (p t : ℕ) (a : Answer) → running p j ≡ t ∷ [] → answer_to source.sites t j ≡ Some a → CalledState g source (answered source a (drawn j w t))
    goes_on p t a runs told =
        let m = x.tasks t in
        let finds : FindsFor g source (asked_form t j) (drawn j w t).env.exec (drawn j w t).run = m.run (law_alive opts source.sites input j r.kernel going p t runs) in
        answered_called g source (asked_form t j) a (drawn j w t) (law_suiting opts source.sites input j r.kernel going t a told) finds m.seat m.callers (record { house = m.house; hand = hand_called g source (held t j) w.homes x.homes })

    asks_called : (p t n : ℕ) (s : State) (asked : Asked) → AsksIn source opts j w p t n s asked → Rode g source asked.request s
    asks_called q t n s asked d = ridden g source known d.rides (goes_on q t d.given d.runs d.told)

    state : (t : ℕ) (s : State) → Comes source j w t s → CalledState g source s
    state t s c = led g source known c.leads (goes_on c.processor t c.given c.runs c.told)

    module _ (q t n : ℕ) (s : State) (asked : Asked) (d : AsksIn source opts j w q t n s asked) (m : MayAsk opts source.sites j q t n asked.request) (on : is_over (j ++ act opts source.sites input j q t n asked) ≡ false) where
      abbrev a : List Entry
      a = act opts source.sites input j q t n asked

      asks : Rode g source asked.request s
      asks = asks_called q t n s asked d

      own_after : TaskCalled g source (j ++ a) t (bare s)
      own_after = record {
        run = λ h.
            let k = law_ends opts source.sites input j q t n asked on h in
            subst (λ f. FindsFor g source f s.env.exec s.run) (sym (law_asking opts source.sites input j q t n asked r.kernel m on).own) (asks.run k.no_end k.no_fault);
        seat = asks.seat;
        callers = asks.callers;
        house = asks.env.house;
      }

      others : (u : ℕ) → (u == t) ≡ false → asked_form u (j ++ a) ≡ asked_form u j
      others u h = (law_asking opts source.sites input j q t n asked r.kernel m on).others u h

      -- one that is spawned was not born, so it has asked nothing
      child_form : (u : ℕ) → (u == t) ≡ false → spawns a u ≡ true → asked_form u (j ++ a) ≡ JustGo
      child_form u h e = others u h ∙ subst (λ (P : Spot). SpotSuits P (asked_form u j)) (sound.few u late) ((kept_run opts source.sites input r.kernel going).suits.spots u)
        where
          not_before : u < task_count j → ⊥
          not_before lt = no_both (spawns a u) e (spawns_none j a u (lawful_act opts source.sites input j q t n asked sound m) lt)

          late : task_count j ≤ u
          late = ⊎_elim (λ lt. absurd (not_before lt)) (λ le. le) (cases_lt u (task_count j))

      -- a task that begins has asked nothing
      tasks_after : (u : ℕ) → TaskCalled g source (j ++ a) u (if u == t then bare s else if spawns a u then child_of source (own_object u a) s else w.tasks u)
      tasks_after u = by (u == t) refl
        where
          stays : (u == t) ≡ false → TaskCalled g source (j ++ a) u (w.tasks u)
          stays e = record {
            run = λ h. subst (λ f. FindsFor g source f (w.tasks u).env.exec (w.tasks u).run) (sym (others u e)) ((x.tasks u).run (ended_before j a u h));
            seat = (x.tasks u).seat;
            callers = (x.tasks u).callers;
            house = (x.tasks u).house;
          }

          born : (b : Bool) → (u == t) ≡ false → spawns a u ≡ b → TaskCalled g source (j ++ a) u (if b then child_of source (own_object u a) s else w.tasks u)
          born true e f =
              let first = first_called g source known (child_main source s.run.control) (own_object u a) in
              record {
                run = λ h. subst (λ f. FindsFor g source f (child_of source (own_object u a) s).env.exec (child_of source (own_object u a) s).run) (sym (child_form u e f)) first.run;
                seat = first.seat;
                callers = first.callers;
                house = first.env.house;
              }
          born false e f = stays e

          by : (b : Bool) → (u == t) ≡ b → TaskCalled g source (j ++ a) u (if b then bare s else if spawns a u then child_of source (own_object u a) s else w.tasks u)
          by true e = subst (λ v. TaskCalled g source (j ++ a) v (bare s)) (sym (eqb-true u t e)) own_after
          by false e = born (spawns a u) e refl

      homes_after : (o : ℕ) → CalledMembers g source (home.Object o) (if takes_out a o then None else or_else (find o s.env.hand) (w.homes o))
      homes_after o =
          either (CalledMembers g source (home.Object o)) (takes_out a o) None (or_else (find o s.env.hand) (w.homes o)) tt (or_called g source o (find o s.env.hand) (w.homes o) (kept.found_hand (Runs g source) (Waits g source) (calm g source) o s.env.hand asks.env.hand) (x.homes o))

  given_form : (j : Journal) (q t u : ℕ) → asked_form u (j ++ dispatch q t ∷ []) ≡ asked_form u j
  given_form j q t u = form_push u j (dispatch q t)

  called_may : {j : Journal} {w : World} {a : List Entry} {v : World} → RunRests source input opts j w → is_over j ≡ false → CalledWorld g source j w → (m : May source opts input j w a v) → MayFit source opts input j w a v m → is_over (j ++ a) ≡ false → CalledWorld g source (j ++ a) v
  called_may {j} {w} r o x (gives q t s le) f on = record {
    tasks = λ u. record {
      run = λ h. subst (λ f. FindsFor g source f (w.tasks u).env.exec (w.tasks u).run) (sym (given_form j q t u)) ((x.tasks u).run (ended_before j (dispatch q t ∷ []) u h));
      seat = (x.tasks u).seat;
      callers = (x.tasks u).callers;
      house = (x.tasks u).house;
    };
    homes = x.homes;
  }
  called_may {j} r o x (no_room q t s le) f on = no_both (is_over (j ++ lone_limit ∷ [])) (over_limit j 0 0) on
  called_may {j} {w} r o x (acts q t n s asked d) f on =
      let m = may_ask source input opts range d f in
      record { tasks = λ u. tasks_after r o x q t n s asked d m on u; homes = λ k. homes_after r o x q t n s asked d m on k }

  begin_form : (u : ℕ) → asked_form u (begin opts ∷ []) ≡ JustGo
  unfolding asked_form
  begin_form u = refl

  called_run : {j : Journal} {w : World} → (r : RunsIn source input opts j w) → RunFits source input opts j w r → is_over j ≡ false → CalledWorld g source j w
  called_run begun f on =
      let first = first_called g source known source.main 0 in
      record {
        tasks = λ u. record { run = λ h. subst (λ f. FindsFor g source f (first_state (routine_of source source.main) 0).env.exec (first_state (routine_of source source.main) 0).run) (sym (begin_form u)) first.run; seat = first.seat; callers = first.callers; house = first.env.house };
        homes = λ o. either (CalledMembers g source (home.Object o)) (o == 0) (Some no_members) None tt tt;
      }
  called_run (more {j} {w} r o m) f on =
      called_may (run_rests source input opts range r f.0 o) o (called_run r f.0 o) m f.1 on

-- the code of such a program
pub code_of : (p : Program) → IsFormed p → breaks_of p ≡ [] → (n : ℕ) → CodeRoutine p (source_of p) (slice_get (source_of p).routines n)
code_of p formed accepted =
    code p (source_of p) (counted_source (sites_of p) (source_of p) (table_of p) (law_sound p formed accepted) (source_named p)) (law_opened p)

pub called_in : (p : Program) → IsFormed p → breaks_of p ≡ [] → (input : List ℕ) (opts : Options) → InRange opts → (j : Journal) (w : World) (r : RunsIn (source_of p) input opts j w) → RunFits (source_of p) input opts j w r → is_over j ≡ false → (t : ℕ) (s : State) → Comes (source_of p) j w t s → CalledState p (source_of p) s
called_in p formed accepted input opts range j w r f on t s c =
    let known : (n : ℕ) → CodeRoutine p (source_of p) (slice_get (source_of p).routines n) = code_of p formed accepted in
    state p known input opts range (run_rests (source_of p) input opts range r f on) on (called_run p known input opts range r f on) t s c
