-- In every run of a program in which all that was asked fits its tasks find the numbers of events where they expect them.
use Rattle.std.proofs.Common.{◌≡◌, ℕ, ◌<◌, ◌≤◌, ◌==◌, ◌||◌, Bool, true, false, List, [], ◌∷◌, ◌++◌, Option, Some, None, refl, sym, ap, ◌∙◌, subst, arith, append-nil, append_assoc, ⊎_elim}
use Rattle.std.specs.Prelude.{if◌then◌else◌}
use Rattle.std.proofs.lemmas.Bool.{eqb-true, ne_eqb, cases_lt}
use Rattle.uc_tree.specs.Source.{Source, routine_of}
use Rattle.uc_entry.specs.declared.entry.Entry.{Entry}
use Rattle.uc_entry.specs.declared.entry.EntryKind.{EntryKind}
use Rattle.uc_entry.specs.declared.entry.EntryKind.TheVariants as kind
use Rattle.uc_entry.specs.declared.entry.Options.{Options}
use Rattle.uc_entry.specs.declared.request.Asked.{Asked}
use Rattle.uc_entry.specs.declared.request.Request.{Request}
use Rattle.uc_entry.specs.declared.request.Request.TheVariants as ask
use Rattle.uc_entry.specs.Keyed.{find}
use Rattle.uc_acts.specs.Journal.{Journal, begin, held, own_object, is_over, number}
use Rattle.uc_acts.specs.Known.{has_ended, task_count, ends, spawns, spawns_task, takes_out}
use Rattle.uc_acts.specs.Sound.{Sound, Spot}
use Rattle.uc_acts.specs.Legal.{IsNext}
use Rattle.uc_acts.specs.Acts.{act, dispatch, lone_limit}
use Rattle.uc_acts.specs.KernelRuns.{InRange, MayAsk}
use Rattle.uc_acts.proofs.Bounds.{over_limit}
use Rattle.uc_acts.proofs.Law.{good_whole, lawful_act}
use Rattle.uc_acts.proofs.Moves.{more_tasks}
use Rattle.uc_acts.proofs.Rows.{Lawful}
use Rattle.uc_acts.proofs.SoundLemmas.{ended_push}
use Rattle.uc_machine.specs.Quiet.{State, Members, no_members, first_state}
use Rattle.uc_machine.specs.Answering.{child_main, child_of}
use Rattle.uc_meaning.specs.Runs.{World, AsksIn, May, Runs as RunsIn, gives, no_room, acts, begun, more, bare, with_home, hand_of, drawn, or_else}
use Rattle.uc_step_laws.proofs.Kept.{either}
use Rattle.uc_state_laws.specs.Fitting.{MayFit, RunFits}
use Rattle.uc_state_laws.proofs.Alive.{law_alive}
use Rattle.uc_state_laws.proofs.Makes.{law_ends}
use Rattle.uc_state_laws.proofs.Others.{RunRests, may_ask, run_rests}
use Rattle.uc_answer_laws.specs.Suiting.{JustGo, asked_form, form_of_request}
use Rattle.uc_answer_laws.proofs.Told.{form_push, SpotSuits}
use Rattle.uc_answer_laws.proofs.Runs.{kept_run, law_suiting}
use Rattle.uc_answer_laws.proofs.Asking.{law_asking}
use Rattle.uc_site_laws.specs.Resting.{AllWait, RestsParked, RestsHand}
use Rattle.uc_site_laws.proofs.Kept as kept
use Rattle.uc_state_laws.specs.Counted.{CountedSource}
use Rattle.uc_state_laws.specs.Marked.{operands, Finds, Runs, Waits, FindsBehind, EventKnown, MarkedMembers, MarkedAsk}
use Rattle.uc_state_laws.specs.EventLaws.{LawEvents}
use Rattle.uc_state_laws.proofs.EventSteps.{calm}
use Rattle.uc_state_laws.proofs.EventWalk.{first_marked, answered_marked, rides_marked}

no_both : {A : Type 0} (b : Bool) → b ≡ true → b ≡ false → A
no_both b t f = absurd (cc)

-- who has not ended had not ended before
ended_before : (j : Journal) (a : List Entry) (t : ℕ) → has_ended t (j ++ a) ≡ false → has_ended t j ≡ false
ended_before j [] t h = ap (has_ended t) (sym (append-nil j)) ∙ h
ended_before j (e ∷ a) t h =
    first (has_ended t j) (ends t e.kind e) (sym (ended_push t j e) ∙ ended_before (j ++ e ∷ []) a t (ap (has_ended t) (append_assoc j (e ∷ []) a) ∙ h))
  where
    first : (b c : Bool) → (b || c) ≡ false → b ≡ false
    first true c g = cc
    first false c g = refl

-- whom an act spawns was not born before

born_late : (k : EntryKind) (e : Entry) (j : Journal) (u : ℕ) → IsNext k e j → u < task_count j → spawns_task u k e ≡ false
born_late kind.Spawn e j u n lt = ne_eqb u (number e.a) (λ same. absurd (omega (arith, n, lt, same)))
born_late k e j u n lt = refl

spawns_none : (j : Journal) (a : List Entry) (u : ℕ) → Lawful j a → u < task_count j → spawns a u ≡ false
spawns_none j [] u l lt = refl
spawns_none j (e ∷ a) u l lt =
    ap (λ b. b || spawns a u) (born_late e.kind e j u l.0.next lt) ∙ spawns_none (j ++ e ∷ []) a u l.1 (more_tasks j e u lt)

-- a task at rest
record TaskMarked (source : Source) (j : Journal) (t : ℕ) (s : State) : Type 0 where
  run : has_ended t j ≡ false → Finds source (operands (asked_form t j)) s.run
  callers : AllWait (Runs source) (Waits source) s.callers
  house : RestsParked (Runs source) (Waits source) s.env.house.parked

record MarkedWorld (source : Source) (j : Journal) (w : World) : Type 0 where
  tasks : (t : ℕ) → TaskMarked source j t (w.tasks t)
  homes : (o : ℕ) → MarkedMembers source (w.homes o)

module _ (source : Source) where
  home_marked : (o : ℕ) (x : Option Members) (hand : List (ℕ × Members)) → MarkedMembers source x → RestsHand (Runs source) (Waits source) hand → RestsHand (Runs source) (Waits source) (with_home o x hand)
  home_marked o None hand h k = k
  home_marked o (Some m) hand h k = (h, k)

  hand_marked : (os : List ℕ) (homes : ℕ → Option Members) → ((o : ℕ) → MarkedMembers source (homes o)) → RestsHand (Runs source) (Waits source) (hand_of os homes)
  hand_marked [] homes h = tt
  hand_marked (o ∷ os) homes h = home_marked o (homes o) (hand_of os homes) (h o) (hand_marked os homes h)

  or_marked : (x y : Option Members) → MarkedMembers source x → MarkedMembers source y → MarkedMembers source (or_else x y)
  or_marked None y h k = k
  or_marked (Some m) y h k = h

  -- where a task goes on it finds what its request brings
  behind : (r : Request) (s : State) → (r ≡ ask.End → ⊥) → ((n : ℕ) → r ≡ ask.Fault n → ⊥) → FindsBehind source r s.run → Finds source (operands (form_of_request r)) s.run
  behind ask.End s e f h = absurd (e refl)
  behind (ask.Fault n) s e f h = absurd (f n refl)
  behind r s e f h = h

module _ (source : Source) (known : CountedSource source) (input : List ℕ) (opts : Options) (range : InRange opts) where
  module _ {j : Journal} {w : World} (r : RunRests source input opts j w) (going : is_over j ≡ false) (x : MarkedWorld source j w) where
    sound : Sound j
    sound = (good_whole opts source.sites input r.kernel).sound

    asks_marked : (p t n : ℕ) (s : State) (asked : Asked) → AsksIn source opts j w p t n s asked → MarkedAsk source asked.request s
    asks_marked p t n s asked d =
        let m = x.tasks t in
        let finds : Finds source (operands (asked_form t j)) (drawn j w t).run = m.run (law_alive opts source.sites input j r.kernel going p t d.runs) in
        rides_marked source known d.rides (answered_marked source (asked_form t j) d.given (drawn j w t) (law_suiting opts source.sites input j r.kernel going t d.given d.told) finds m.callers (record { house = m.house; hand = hand_marked source (held t j) w.homes x.homes }))

    module _ (p t n : ℕ) (s : State) (asked : Asked) (d : AsksIn source opts j w p t n s asked) (m : MayAsk opts source.sites j p t n asked.request) (on : is_over (j ++ act opts source.sites input j p t n asked) ≡ false) where
      abbrev a : List Entry
      a = act opts source.sites input j p t n asked

      asks : MarkedAsk source asked.request s
      asks = asks_marked p t n s asked d

      own_after : TaskMarked source (j ++ a) t (bare s)
      own_after = record {
        run = λ h.
            let k = law_ends opts source.sites input j p t n asked on h in
            subst (λ f. Finds source (operands f) s.run) (sym (law_asking opts source.sites input j p t n asked r.kernel m on).own) (behind source asked.request s k.no_end k.no_fault asks.run);
        callers = asks.callers;
        house = asks.env.house;
      }

      others : (u : ℕ) → (u == t) ≡ false → asked_form u (j ++ a) ≡ asked_form u j
      others u h = (law_asking opts source.sites input j p t n asked r.kernel m on).others u h

      -- one that is spawned was not born, so it has asked nothing
      child_form : (u : ℕ) → (u == t) ≡ false → spawns a u ≡ true → asked_form u (j ++ a) ≡ JustGo
      child_form u h e = others u h ∙ subst (λ (P : Spot). SpotSuits P (asked_form u j)) (sound.few u late) ((kept_run opts source.sites input r.kernel going).suits.spots u)
        where
          not_before : u < task_count j → ⊥
          not_before lt = no_both (spawns a u) e (spawns_none j a u (lawful_act opts source.sites input j p t n asked sound m) lt)

          late : task_count j ≤ u
          late = ⊎_elim (λ lt. absurd (not_before lt)) (λ le. le) (cases_lt u (task_count j))

      tasks_after : (u : ℕ) → TaskMarked source (j ++ a) u (if u == t then bare s else if spawns a u then child_of source (own_object u a) s else w.tasks u)
      tasks_after u = by (u == t) refl
        where
          stays : (u == t) ≡ false → TaskMarked source (j ++ a) u (w.tasks u)
          stays e = record {
            run = λ h. subst (λ f. Finds source (operands f) (w.tasks u).run) (sym (others u e)) ((x.tasks u).run (ended_before j a u h));
            callers = (x.tasks u).callers;
            house = (x.tasks u).house;
          }

          born : (b : Bool) → (u == t) ≡ false → spawns a u ≡ b → TaskMarked source (j ++ a) u (if b then child_of source (own_object u a) s else w.tasks u)
          born true e f =
              let first = first_marked source known (child_main source s.run.control) (own_object u a) in
              record {
                run = λ h. subst (λ f. Finds source (operands f) (child_of source (own_object u a) s).run) (sym (child_form u e f)) first.run;
                callers = first.callers;
                house = first.env.house;
              }
          born false e f = stays e

          by : (b : Bool) → (u == t) ≡ b → TaskMarked source (j ++ a) u (if b then bare s else if spawns a u then child_of source (own_object u a) s else w.tasks u)
          by true e = subst (λ v. TaskMarked source (j ++ a) v (bare s)) (sym (eqb-true u t e)) own_after
          by false e = born (spawns a u) e refl

      homes_after : (o : ℕ) → MarkedMembers source (if takes_out a o then None else or_else (find o s.env.hand) (w.homes o))
      homes_after o =
          either (MarkedMembers source) (takes_out a o) None (or_else (find o s.env.hand) (w.homes o)) tt (or_marked source (find o s.env.hand) (w.homes o) (kept.found_hand (Runs source) (Waits source) (calm source) o s.env.hand asks.env.hand) (x.homes o))

  given_form : (j : Journal) (p t u : ℕ) → asked_form u (j ++ dispatch p t ∷ []) ≡ asked_form u j
  given_form j p t u = form_push u j (dispatch p t)

  marked_may : {j : Journal} {w : World} {a : List Entry} {v : World} → RunRests source input opts j w → is_over j ≡ false → MarkedWorld source j w → (m : May source opts input j w a v) → MayFit source opts input j w a v m → is_over (j ++ a) ≡ false → MarkedWorld source (j ++ a) v
  marked_may {j} {w} r o x (gives p t s le) f on = record {
    tasks = λ u. record {
      run = λ h. subst (λ f. Finds source (operands f) (w.tasks u).run) (sym (given_form j p t u)) ((x.tasks u).run (ended_before j (dispatch p t ∷ []) u h));
      callers = (x.tasks u).callers;
      house = (x.tasks u).house;
    };
    homes = x.homes;
  }
  marked_may {j} r o x (no_room p t s le) f on = no_both (is_over (j ++ lone_limit ∷ [])) (over_limit j 0 0) on
  marked_may {j} {w} r o x (acts p t n s asked d) f on =
      let m = may_ask source input opts range d f in
      record { tasks = λ u. tasks_after r o x p t n s asked d m on u; homes = λ k. homes_after r o x p t n s asked d m on k }

  begin_form : (u : ℕ) → asked_form u (begin opts ∷ []) ≡ JustGo
  unfolding asked_form
  begin_form u = refl

  marked_run : {j : Journal} {w : World} → (r : RunsIn source input opts j w) → RunFits source input opts j w r → is_over j ≡ false → MarkedWorld source j w
  marked_run begun f on =
      let first = first_marked source known source.main 0 in
      record {
        tasks = λ u. record { run = λ h. subst (λ f. Finds source (operands f) (first_state (routine_of source source.main) 0).run) (sym (begin_form u)) first.run; callers = first.callers; house = first.env.house };
        homes = λ o. either (MarkedMembers source) (o == 0) (Some no_members) None tt tt;
      }
  marked_run (more r o m) f on = marked_may (run_rests source input opts range r f.0 o) o (marked_run r f.0 o) m f.1 on

  pub event_in_run : {j : Journal} {w : World} → (r : RunsIn source input opts j w) → RunFits source input opts j w r → is_over j ≡ false → (p t n : ℕ) (s : State) (asked : Asked) → AsksIn source opts j w p t n s asked → EventKnown asked.request
  event_in_run r f on p t n s asked d =
      (asks_marked (run_rests source input opts range r f on) on (marked_run r f on) p t n s asked d).event

pub law_events : LawEvents
law_events source counted input opts range j w r f on p t n s asked d = event_in_run source counted input opts range r f on p t n s asked d
