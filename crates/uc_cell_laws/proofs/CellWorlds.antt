-- In every run in which each step finds it, the own cells of frames and of mutex objects hold no object, or what is at home there.
use Rattle.std.proofs.Common.{◌≡◌, ℕ, ◌<◌, ◌≤◌, ◌==◌, ◌||◌, Bool, true, false, List, [], ◌∷◌, ◌++◌, Option, Some, None, refl, sym, ap, ◌∙◌, subst, arith, append-nil, append_assoc, ⊎_elim}
use Rattle.std.specs.Prelude.{nat_eq, if◌then◌else◌}
use Rattle.std.proofs.lemmas.Bool.{eqb-true, ne_eqb, cases_lt}
use Rattle.uc_tree.specs.Source.{Source, routine_of}
use Rattle.uc_entry.specs.declared.entry.Entry.{Entry}
use Rattle.uc_entry.specs.declared.entry.EntryKind.{EntryKind}
use Rattle.uc_entry.specs.declared.entry.EntryKind.TheVariants as kind
use Rattle.uc_entry.specs.declared.entry.Options.{Options}
use Rattle.uc_entry.specs.declared.request.Answer.{Answer}
use Rattle.uc_entry.specs.declared.request.Answer.TheVariants as answer
use Rattle.uc_entry.specs.declared.request.Asked.{Asked}
use Rattle.uc_entry.specs.declared.request.Request.{Request}
use Rattle.uc_entry.specs.declared.request.Request.TheVariants as ask
use Rattle.uc_entry.specs.Keyed.{find}
use Rattle.uc_acts.specs.Journal.{Journal, begin, cost, held, own_object, is_over, number}
use Rattle.uc_acts.specs.Known.{object_count, has_ended, task_count, ends, spawns, spawns_task, takes_out}
use Rattle.uc_acts.specs.Sound.{Sound, Spot}
use Rattle.uc_acts.specs.Legal.{IsNext}
use Rattle.uc_acts.specs.Acts.{act, dispatch, lone_limit}
use Rattle.uc_acts.specs.Answers.{answer_to}
use Rattle.uc_acts.specs.Queues.{running}
use Rattle.uc_acts.specs.KernelRuns.{InRange, MayAsk}
use Rattle.uc_acts.proofs.Bounds.{over_limit}
use Rattle.uc_acts.proofs.Living.{going_row}
use Rattle.uc_acts.proofs.Law.{good_whole, lawful_act}
use Rattle.uc_acts.proofs.Moves.{more_tasks}
use Rattle.uc_acts.proofs.Rows.{Lawful}
use Rattle.uc_acts.proofs.SoundLemmas.{ended_push, self_test}
use Rattle.uc_machine.specs.Quiet.{State, Members, no_members, first_state}
use Rattle.uc_machine.specs.Answering.{with_hand, answered, child_main, child_of}
use Rattle.uc_machine.specs.Rides as rides
use Rattle.uc_machine.specs.Rides.{Rides}
use Rattle.uc_acts.specs.Serves.{left}
use Rattle.uc_meaning.specs.Runs.{World, AsksIn, May, Runs as RunsIn, gives, no_room, acts, begun, more, bare, with_home, hand_of, drawn, or_else, first_world}
use Rattle.uc_state_laws.specs.Fitting.{MayFit, RunFits}
use Rattle.uc_state_laws.specs.Marked.{operands}
use Rattle.uc_state_laws.proofs.Alive.{law_alive}
use Rattle.uc_state_laws.proofs.Counts.{one_kept, told_others}
use Rattle.uc_state_laws.proofs.Makes.{law_ends}
use Rattle.uc_state_laws.proofs.Others.{RunRests, may_ask, run_rests}
use Rattle.uc_answer_laws.specs.Suiting.{JustGo, IsForm, asked_form, form_of_request}
use Rattle.uc_machine.specs.Pieces as piece
use Rattle.uc_machine.specs.Pieces.{Todo}
use Rattle.uc_answer_laws.proofs.Told.{form_push, SpotSuits}
use Rattle.uc_answer_laws.proofs.Runs.{kept_run, law_suiting}
use Rattle.uc_answer_laws.proofs.Asking.{law_asking}
use Rattle.uc_state_laws.specs.RoomRuns as rooms
use Rattle.uc_state_laws.specs.RoomRuns.{Leads, Comes}
use Rattle.uc_state_laws.specs.Opens.{RideMeets, MayMeet, RunMeets, LeadsMeet}
use Rattle.uc_life_laws.specs.LifeStates.{HandBy}
use Rattle.uc_typing.specs.Typing.{Table}
use Rattle.uc_life_laws.proofs.HomedCells.{either}
use Rattle.uc_life_laws.proofs.NewNumbers.{objects_grow, told_object}
use Rattle.uc_life_laws.proofs.NextNumbers.{told_next}
use Rattle.uc_life_laws.proofs.Parked.{found_hand}
use Rattle.uc_life_laws.proofs.Spawning.{Spawned, spawner}
use Rattle.uc_cell_laws.specs.Sites.{Telling, IsNoMaker}
use Rattle.uc_cell_laws.specs.CellTodos.{Ok, Mark, mark_of, asked_class, anys}
use Rattle.uc_cell_laws.specs.CellStates.{HandCells, CellEx, CellEnv, CellMembers, CellRest, CellState, CellAsk, CellStep, TellsClass, CellFinds}
use Rattle.uc_cell_laws.specs.Classes.{then_class, class_by, class_of}
use Rattle.uc_cell_laws.proofs.CellFields.{fields_zero, found_fields}
use Rattle.uc_cell_laws.proofs.CellPlaces.{MayWrite}
use Rattle.uc_cell_laws.proofs.CellWalk as walks
use Rattle.uc_cell_laws.proofs.CellWalk.{Known}

no_both : {A : Type 0} (b : Bool) → b ≡ true → b ≡ false → A
no_both b t f = absurd (cc)

-- who has not ended had not ended before
ended_before : (j : Journal) (a : List Entry) (t : ℕ) → has_ended t (j ++ a) ≡ false → has_ended t j ≡ false
ended_before j [] t h = ap (has_ended t) (sym (append-nil j)) ∙ h
ended_before j (e ∷ a) t h =
    first (has_ended t j) (ends t e.kind e) (sym (ended_push t j e) ∙ ended_before (j ++ e ∷ []) a t (ap (has_ended t) (append_assoc j (e ∷ []) a) ∙ h))
  where
    first : (b c : Bool) → (b || c) ≡ false → b ≡ false
    first true c g = cc
    first false c g = refl

-- whom an act spawns was not born before

born_late : (k : EntryKind) (e : Entry) (j : Journal) (u : ℕ) → IsNext k e j → u < task_count j → spawns_task u k e ≡ false
born_late kind.Spawn e j u n lt = ne_eqb u (number e.a) (λ same. absurd (omega (arith, n, lt, same)))
born_late k e j u n lt = refl

spawns_none : (j : Journal) (a : List Entry) (u : ℕ) → Lawful j a → u < task_count j → spawns a u ≡ false
spawns_none j [] u l lt = refl
spawns_none j (e ∷ a) u l lt =
    ap (λ b. b || spawns a u) (born_late e.kind e j u l.0.next lt) ∙ spawns_none (j ++ e ∷ []) a u l.1 (more_tasks j e u lt)

-- classes are told once

other_number : (o n : ℕ) (u v : Option ℕ) → o < n → (if nat_eq o n then u else v) ≡ v
other_number o n u v l = by (nat_eq o n) refl
  where
    by : (b : Bool) → nat_eq o n ≡ b → (if b then u else v) ≡ v
    by true e = let q : o ≡ n = eqb-true o n e in let f : ⊥ = omega (arith, l, q) in absurd f
    by false e = refl

same_number : (o n : ℕ) (u v : Option ℕ) → n ≡ o → (if nat_eq o n then u else v) ≡ u
same_number o n u v q = by (nat_eq o n) (subst (λ (k : ℕ). nat_eq o k ≡ true) (sym q) (self_test o))
  where
    by : (b : Bool) → b ≡ true → (if b then u else v) ≡ u
    by true e = refl
    by false e = absurd (cc)

then_once : (t : Table) (j : Journal) (r : Request) (s : State) (classes : ℕ → Option ℕ) (o : ℕ) → o < object_count j → then_class t j r s classes o ≡ classes o
then_once t j (ask.Make m) s classes o l = other_number o (object_count j) (asked_class t s.run.control) (classes o) l
then_once t j r s classes o l = refl

by_once : (t : Table) (source : Source) (input : List ℕ) (opts : Options) (j : Journal) (w : World) (a : List Entry) (x : World) (m : May source opts input j w a x) (classes : ℕ → Option ℕ) (o : ℕ) → o < object_count j → class_by t source opts input j w a x m classes o ≡ classes o
by_once t source input opts j w _ _ (gives p u s h) classes o l = refl
by_once t source input opts j w _ _ (no_room p u s h) classes o l = refl
by_once t source input opts j w _ _ (acts p u n s asked d) classes o l = then_once t j asked.request s classes o l

module _ (tg : Telling) where
  -- a task at rest has asked something, and the object that it is told is of the class that it asked for
  pub record CellTask (j : Journal) (t : ℕ) (s : State) : Type 0 where
    request : Request
    asks_for : form_of_request request ≡ asked_form t j
    told : (m : ℕ) → request ≡ ask.Make m → (o : ℕ) → answer_to tg.source.sites t j ≡ Some (answer.Object o) → tg.class o ≡ asked_class tg.table s.run.control
    no_end : request ≡ ask.End → ⊥
    no_fault : (n : ℕ) → request ≡ ask.Fault n → ⊥
    cells : CellAsk tg request s

  -- tasks at rest that have not ended, and what is at home in objects
  pub record CellWorld (j : Journal) (w : World) : Type 0 where
    tasks : (t : ℕ) → has_ended t j ≡ false → CellTask j t (w.tasks t)
    homes : (o : ℕ) → CellMembers tg o (w.homes o)

  abbrev OfHand : List (ℕ × Members) → Type 0
  OfHand hand = HandBy (CellEx tg) hand × HandCells tg hand

  home_cells : (o : ℕ) (x : Option Members) (hand : List (ℕ × Members)) → CellMembers tg o x → OfHand hand → OfHand (with_home o x hand)
  home_cells o None hand h k = k
  home_cells o (Some m) hand h k = ((h.0, k.0), (h.1, k.1))

  hand_cells : (os : List ℕ) (homes : ℕ → Option Members) → ((o : ℕ) → CellMembers tg o (homes o)) → OfHand (hand_of os homes)
  hand_cells [] homes h = (tt, tt)
  hand_cells (o ∷ os) homes h = home_cells o (homes o) (hand_of os homes) (h o) (hand_cells os homes h)

  or_cells : (o : ℕ) (x y : Option Members) → CellMembers tg o x → CellMembers tg o y → CellMembers tg o (or_else x y)
  or_cells o None y h k = k
  or_cells o (Some m) y h k = h

  -- whatever was asked, what is in hand is told
  env_of : (r : Request) (s : State) → CellAsk tg r s → CellEnv tg s.env
  env_of ask.End s h = h.env
  env_of (ask.Fault n) s h = h.env
  env_of (ask.Make m) s h = h.env
  env_of r s h = h.env

  -- with something else in hand

  handed : (given : List Mark) (s : State) (hand : List (ℕ × Members)) → OfHand hand → CellRest tg given s → CellRest tg given (with_hand hand s)
  handed given s hand k h = record { routines = h.routines; frames = h.frames; cells = h.cells; run = h.run; callers = h.callers; env = record { rests = record { house = h.env.rests.house; hand = k.0 }; fields = k.1 } }

  with_other_hand : (r : Request) (s : State) (hand : List (ℕ × Members)) → OfHand hand → CellAsk tg r s → CellAsk tg r (with_hand hand s)
  with_other_hand ask.End s hand k h = record { env = record { rests = record { house = h.env.rests.house; hand = k.0 }; fields = k.1 } }
  with_other_hand (ask.Fault n) s hand k h = record { env = record { rests = record { house = h.env.rests.house; hand = k.0 }; fields = k.1 } }
  with_other_hand (ask.Make m) s hand k h = handed (mark_of (asked_class tg.table s.run.control) ∷ []) s hand k h
  with_other_hand r s hand k h = handed (anys (operands (form_of_request r)) []) s hand k h

  -- what is told is of the class that was asked for
  tells : (j : Journal) (t : ℕ) (s u : State) (x : CellTask j t s) → u.run.control ≡ s.run.control → (r : Request) → x.request ≡ r → (a : Answer) → answer_to tg.source.sites t j ≡ Some a → TellsClass tg r a u
  tells j t s u x same (ask.Make m) q (answer.Object o) e = x.told m q o e ∙ ap (asked_class tg.table) (sym same)
  tells j t s u x same (ask.Make m) q a e = tt
  tells j t s u x same r q a e = tt

  -- a task that just goes on
  going_on : (j : Journal) (t : ℕ) (s : State) → JustGo ≡ asked_form t j → CellState tg s → CellTask j t s
  going_on j t s q h = record {
    request = ask.Yield;
    asks_for = q;
    told = λ m e. absurd (cc);
    no_end = λ e. absurd (cc);
    no_fault = λ n e. absurd (cc);
    cells = h;
  }

  -- rides

  module _ (known : Known tg) (may : MayWrite tg) where
    ridden : {s u : State} {q k : ℕ} {a : Asked} (d : Rides tg.source s q u k a) → RideMeets (CellFinds tg) tg.source s q u k a d → CellState tg s → CellAsk tg a.request u × RideMeets (CellState tg) tg.source s q u k a d
    ridden rides.slices f h = (h, tt)
    ridden (rides.goes_on {s} {t} e r) f h = let k = ridden r f.1 (subst (CellStep tg) e (walks.stepped tg known may s h f.0)) in (k.0, (h, k.1))
    ridden (rides.ticks {s} {t} e r) f h = let k = ridden r f.1 (subst (CellStep tg) e (walks.stepped tg known may s h f.0)) in (k.0, (h, k.1))
    ridden (rides.asks {s} {t} e) f h = (subst (CellStep tg) e (walks.stepped tg known may s h f), h)

    led : {s u : State} (l : Leads tg.source s u) → LeadsMeet (CellFinds tg) tg.source s u l → CellState tg s → CellState tg u × LeadsMeet (CellState tg) tg.source s u l
    led rooms.stays f h = (h, tt)
    led (rooms.goes {s} {u} e l) f h = let k = led l f.1 (subst (CellStep tg) e (walks.stepped tg known may s h f.0)) in (k.0, (h, k.1))
    led (rooms.ticks {s} {u} e l) f h = let k = led l f.1 (subst (CellStep tg) e (walks.stepped tg known may s h f.0)) in (k.0, (h, k.1))

module _ (tg : Telling) (known : Known tg) (may : MayWrite tg) (main : IsNoMaker tg tg.source.main) (input : List ℕ) (opts : Options) (range : InRange opts) where
  abbrev source : Source
  source = tg.source

  -- for all objects that were made the classes are those that a run tells
  abbrev Agrees : (ℕ → Option ℕ) → Journal → Type 0
  Agrees classes j = (o : ℕ) → o < object_count j → tg.class o ≡ classes o

  module _ {j : Journal} {w : World} (r : RunRests source input opts j w) (going : is_over j ≡ false) (x : CellWorld tg j w) where
    sound : Sound j
    sound = (good_whole opts source.sites input r.kernel).sound

    -- whoever runs is told what it has asked for
    goes_on : (p t : ℕ) (a : Answer) → running p j ≡ t ∷ [] → answer_to source.sites t j ≡ Some a → CellState tg (answered source a (drawn j w t))
    goes_on p t a runs told =
        let m = x.tasks t (law_alive opts source.sites input j r.kernel going p t runs) in
        walks.answered_there tg m.request a (drawn j w t) (subst (λ f. IsForm f a) (sym m.asks_for) (law_suiting opts source.sites input j r.kernel going t a told)) (tells tg j t (w.tasks t) (drawn j w t) m refl m.request refl a told) m.no_end m.no_fault (with_other_hand tg m.request (w.tasks t) (hand_of (held t j) w.homes) (hand_cells tg (held t j) w.homes x.homes) m.cells)

    asks_cells : (q t n : ℕ) (s : State) (asked : Asked) (d : AsksIn source opts j w q t n s asked) → RideMeets (CellFinds tg) source (answered source d.given (drawn j w t)) (left opts j t) s n asked d.rides → CellAsk tg asked.request s × RideMeets (CellState tg) source (answered source d.given (drawn j w t)) (left opts j t) s n asked d.rides
    asks_cells q t n s asked d f = ridden tg known may d.rides f (goes_on q t d.given d.runs d.told)

    module _ (classes : ℕ → Option ℕ) (q t n : ℕ) (s : State) (asked : Asked) (d : AsksIn source opts j w q t n s asked) (m : MayAsk opts source.sites j q t n asked.request) (on : is_over (j ++ act opts source.sites input j q t n asked) ≡ false) (agrees : Agrees (then_class tg.table j asked.request s classes) (j ++ act opts source.sites input j q t n asked)) (fair : RideMeets (CellFinds tg) source (answered source d.given (drawn j w t)) (left opts j t) s n asked d.rides) where
      abbrev a : List Entry
      a = act opts source.sites input j q t n asked

      asks : CellAsk tg asked.request s
      asks = (asks_cells q t n s asked d fair).0

      own_after : has_ended t (j ++ a) ≡ false → CellTask tg (j ++ a) t (bare s)
      own_after h =
          let k = law_ends opts source.sites input j q t n asked on h in
          record {
            request = asked.request;
            asks_for = sym (law_asking opts source.sites input j q t n asked r.kernel m on).own;
            told = λ y e o f. agrees o (told_object opts source.sites input j q t n asked on y o e f) ∙ of_next y e o (told_next opts source.sites input j q t n asked on y o e f);
            no_end = k.no_end;
            no_fault = k.no_fault;
            cells = with_other_hand tg asked.request s [] (tt, tt) asks;
          }
        where
          of_next : (y : ℕ) → asked.request ≡ ask.Make y → (o : ℕ) → object_count j ≡ o → then_class tg.table j asked.request s classes o ≡ asked_class tg.table s.run.control
          of_next y e o same =
              subst (λ (z : Request). then_class tg.table j z s classes o ≡ asked_class tg.table s.run.control) (sym e) (same_number o (object_count j) (asked_class tg.table s.run.control) (classes o) same)

      others : (u : ℕ) → (u == t) ≡ false → asked_form u (j ++ a) ≡ asked_form u j
      others u h = (law_asking opts source.sites input j q t n asked r.kernel m on).others u h

      -- one that is spawned was not born, so it has asked nothing
      child_form : (u : ℕ) → (u == t) ≡ false → spawns a u ≡ true → asked_form u (j ++ a) ≡ JustGo
      child_form u h e = others u h ∙ subst (λ (P : Spot). SpotSuits P (asked_form u j)) (sound.few u late) ((kept_run opts source.sites input r.kernel going).suits.spots u)
        where
          not_before : u < task_count j → ⊥
          not_before lt = no_both (spawns a u) e (spawns_none j a u (lawful_act opts source.sites input j q t n asked sound m) lt)

          late : task_count j ≤ u
          late = ⊎_elim (λ lt. absurd (not_before lt)) (λ le. le) (cases_lt u (task_count j))

      -- a task that begins has asked nothing, and does so with no constructor and no destructor
      child_maker : (q : ℕ) (ms : List Mark) (todo : List Todo) → Ok tg q ms todo → IsNoMaker tg (child_main source todo)
      child_maker q ms [] h = main
      child_maker q ms (piece.ChildNow k ∷ todo) h = h.0
      child_maker q ms (p ∷ todo) h = main

      child_by : (u : ℕ) (r : Request) → CellAsk tg r s → Spawned j u r → IsNoMaker tg (child_main source s.run.control)
      child_by u (ask.Spawn o) h k = child_maker h.run.routine h.run.marks s.run.control h.run.ok
      child_by u r h k = absurd k

      spawned : (u : ℕ) → spawns a u ≡ true → IsNoMaker tg (child_main source s.run.control)
      spawned u f = child_by u asked.request asks (spawner u opts source.sites input j q t (cost n asked.line) asked.line asked.request (ap (λ l. spawns l u) (sym (going_row opts source.sites input j q t n asked on).0) ∙ f))

      others_rest : (u : ℕ) → (u == t) ≡ false → CellTask tg j u (w.tasks u) → CellTask tg (j ++ a) u (w.tasks u)
      others_rest u e y = record {
        request = y.request;
        asks_for = y.asks_for ∙ sym (others u e);
        told = λ k q' o f. y.told k q' o (told_others opts source.sites input j q t n asked u o e f);
        no_end = y.no_end;
        no_fault = y.no_fault;
        cells = y.cells;
      }

      tasks_after : (u : ℕ) → has_ended u (j ++ a) ≡ false → CellTask tg (j ++ a) u (if u == t then bare s else if spawns a u then child_of source (own_object u a) s else w.tasks u)
      tasks_after u lives = by (u == t) refl
        where
          born : (b : Bool) → (u == t) ≡ false → spawns a u ≡ b → CellTask tg (j ++ a) u (if b then child_of source (own_object u a) s else w.tasks u)
          born true e f = going_on tg (j ++ a) u (child_of source (own_object u a) s) (sym (child_form u e f)) (walks.first tg known may (child_main source s.run.control) (own_object u a) (spawned u f))
          born false e f = others_rest u e (x.tasks u (ended_before j a u lives))

          by : (b : Bool) → (u == t) ≡ b → CellTask tg (j ++ a) u (if b then bare s else if spawns a u then child_of source (own_object u a) s else w.tasks u)
          by true e = subst (λ v. CellTask tg (j ++ a) v (bare s)) (sym (eqb-true u t e)) (own_after (subst (λ v. has_ended v (j ++ a) ≡ false) (eqb-true u t e) lives))
          by false e = born (spawns a u) e refl

      homes_after : (o : ℕ) → CellMembers tg o (if takes_out a o then None else or_else (find o s.env.hand) (w.homes o))
      homes_after o =
          let env = env_of tg asked.request s asks in
          either (CellMembers tg o) (takes_out a o) None (or_else (find o s.env.hand) (w.homes o)) (tt, tt) (or_cells tg o (find o s.env.hand) (w.homes o) (found_hand (CellEx tg) o s.env.hand env.rests.hand, found_fields tg o s.env.hand env.fields) (x.homes o))

  cells_may : {j : Journal} {w : World} {a : List Entry} {v : World} → RunRests source input opts j w → is_over j ≡ false → CellWorld tg j w → (classes : ℕ → Option ℕ) (m : May source opts input j w a v) → Agrees (class_by tg.table source opts input j w a v m classes) (j ++ a) → MayFit source opts input j w a v m → MayMeet (CellFinds tg) source opts input j w a v m → is_over (j ++ a) ≡ false → CellWorld tg (j ++ a) v
  cells_may {j} {w} r o x classes (gives q t s le) agrees f fair on = record { tasks = rests; homes = x.homes }
    where
      rests : (u : ℕ) → has_ended u (j ++ dispatch q t ∷ []) ≡ false → CellTask tg (j ++ dispatch q t ∷ []) u (w.tasks u)
      rests u h =
          let y = x.tasks u (ended_before j (dispatch q t ∷ []) u h) in
          record {
            request = y.request;
            asks_for = y.asks_for ∙ sym (form_push u j (dispatch q t));
            told = λ k e n g. y.told k e n (one_kept source.sites j (dispatch q t) u n refl g);
            no_end = y.no_end;
            no_fault = y.no_fault;
            cells = y.cells;
          }
  cells_may {j} r o x classes (no_room q t s le) agrees f fair on = no_both (is_over (j ++ lone_limit ∷ [])) (over_limit j 0 0) on
  cells_may {j} {w} r o x classes (acts q t n s asked d) agrees f fair on =
      let m = may_ask source input opts range d f in
      record { tasks = λ u h. tasks_after r o x classes q t n s asked d m on agrees fair u h; homes = λ k. homes_after r o x classes q t n s asked d m on agrees fair k }

  may_cells : {j : Journal} {w : World} {a : List Entry} {v : World} → RunRests source input opts j w → is_over j ≡ false → CellWorld tg j w → (m : May source opts input j w a v) → MayMeet (CellFinds tg) source opts input j w a v m → MayMeet (CellState tg) source opts input j w a v m
  may_cells r o x (gives q t s le) fair = tt
  may_cells r o x (no_room q t s le) fair = tt
  may_cells r o x (acts q t n s asked d) fair = (asks_cells r o x q t n s asked d fair).1

  begin_form : (u : ℕ) → asked_form u (begin opts ∷ []) ≡ JustGo
  unfolding asked_form
  begin_form u = refl

  begun_cells : CellWorld tg (begin opts ∷ []) (first_world source)
  begun_cells = record {
    tasks = λ u h. going_on tg (begin opts ∷ []) u (first_state (routine_of source source.main) 0) (sym (begin_form u)) (walks.first tg known may source.main 0 main);
    homes = λ o. either (CellMembers tg o) (o == 0) (Some no_members) None (tt, fields_zero tg o 0) (tt, tt);
  }

  abbrev AgreesWith : {j : Journal} {w : World} → RunsIn source input opts j w → Type 0
  AgreesWith {j} {w} r = Agrees (λ o. class_of tg.table source input opts j w r o) j

  before : {j : Journal} {w : World} {a : List Entry} {v : World} (r : RunsIn source input opts j w) (o : is_over j ≡ false) (m : May source opts input j w a v) → AgreesWith (more r o m) → AgreesWith r
  before {j} {w} {a} {v} r o m same n l =
      let g = objects_grow j a in
      same n (omega (arith, l, g)) ∙ by_once tg.table source input opts j w a v m (λ i. class_of tg.table source input opts j w r i) n l

  pub run_cells : {j : Journal} {w : World} (r : RunsIn source input opts j w) → RunFits source input opts j w r → AgreesWith r → RunMeets (CellFinds tg) source input opts j w r → (is_over j ≡ false → CellWorld tg j w) × RunMeets (CellState tg) source input opts j w r
  run_cells begun f same fair = ((λ on. begun_cells), tt)
  run_cells (more {j} {w} r o m) f same fair =
      let k = run_cells r f.0 (before r o m same) fair.0 in
      let rests : RunRests source input opts j w = run_rests source input opts range r f.0 o in (
        (λ on. cells_may rests o (k.0 o) (λ i. class_of tg.table source input opts j w r i) m same f.1 fair.1 on),
        (k.1, may_cells rests o (k.0 o) m fair.1),
      )

  pub leads_cells : {j : Journal} {w : World} (r : RunsIn source input opts j w) → RunFits source input opts j w r → AgreesWith r → RunMeets (CellFinds tg) source input opts j w r → is_over j ≡ false → (t : ℕ) (s : State) (c : Comes source j w t s) → LeadsMeet (CellFinds tg) source (answered source c.given (drawn j w t)) s c.leads → CellState tg s × LeadsMeet (CellState tg) source (answered source c.given (drawn j w t)) s c.leads
  leads_cells {j} {w} r f same m on t s c l =
      led tg known may c.leads l (goes_on (run_rests source input opts range r f on) on ((run_cells r f same m).0 on) c.processor t c.given c.runs c.told)
