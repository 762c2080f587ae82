-- Each world that a run leaves is in order.
use Rattle.std.proofs.Common.{◌≡◌, ℕ, ◌==◌, ◌≤◌, Bool, true, false, List, [], ◌∷◌, ◌++◌, Some, None, refl, sym, ap, ◌∙◌, subst, arith}
use Rattle.std.specs.Prelude.{if◌then◌else◌}
use Rattle.std.proofs.lemmas.Bool.{eqb-true}
use Rattle.uc_tree.specs.Source.{Source, routine_of}
use Rattle.uc_entry.specs.declared.entry.Entry.{Entry}
use Rattle.uc_entry.specs.declared.entry.Options.{Options}
use Rattle.uc_entry.specs.declared.request.Answer.{Answer}
use Rattle.uc_entry.specs.declared.request.Asked.{Asked}
use Rattle.uc_entry.specs.declared.request.Request.{Request}
use Rattle.uc_entry.specs.declared.request.Request.TheVariants as ask
use Rattle.uc_entry.specs.Keyed.{find}
use Rattle.uc_acts.specs.Journal.{Journal, begin, held, is_over, own_object, cost, no_cost}
use Rattle.uc_acts.specs.Known.{task_count, spawns, takes_out, has_ended}
use Rattle.uc_acts.specs.Queues.{running}
use Rattle.uc_acts.specs.Answers.{answer_to}
use Rattle.uc_acts.specs.Serves.{left}
use Rattle.uc_acts.specs.Sound.{Unborn, spot}
use Rattle.uc_acts.specs.Acts.{act, row, fault, is_faulty, dispatch, lone_limit}
use Rattle.uc_acts.specs.KernelRuns.{InRange, MayAsk, KernelRuns}
use Rattle.uc_acts.proofs.Living.{going_row}
use Rattle.uc_acts.proofs.Rest.{settled_calm}
use Rattle.uc_sound.proofs.Ties.{false_true}
use Rattle.uc_acts.proofs.Bounds.{over_limit}
use Rattle.uc_answer_laws.specs.Suiting.{Form, IsForm, JustGo, asked_form}
use Rattle.uc_answer_laws.proofs.Told.{SpotSuits, form_push, no_both}
use Rattle.uc_answer_laws.proofs.Runs.{kept_run, law_suiting, form_none}
use Rattle.uc_answer_laws.proofs.Asking.{law_asking}
use Rattle.uc_machine.specs.Quiet.{State, no_members, first_state}
use Rattle.uc_machine.specs.Answering.{answered, child_of, child_main}
use Rattle.uc_meaning.specs.Runs.{World, May, Runs, AsksIn, first_world, hand_of, drawn, or_else, world_after, bare, gives, no_room, acts, begun, more}
use Rattle.uc_state_laws.specs.RoomRuns.{Comes}
use Rattle.uc_state_laws.specs.Fitting.{MayFit, RunFits}
use Rattle.uc_state_laws.proofs.Makes.{law_ends}
use Rattle.uc_state_laws.proofs.Alive.{law_alive}
use Rattle.uc_state_laws.proofs.Others.{run_rests, may_ask}
use Rattle.uc_typing.specs.Typing.{Table}
use Rattle.uc_typing.specs.States.{Sound, Typed, IsTask, Asked as AskedIn, Inhand}
use Rattle.uc_typing.proofs.Answers.{begins, law_answered}
use Rattle.uc_typing.proofs.Finding.{law_finds}
use Rattle.uc_state_laws.specs.Endings.{RideHolds, MayHold, RunHolds, LeadsHold}
use Rattle.uc_typed_runs.specs.TypedRuns.{Reading, Awaits, AtHome, LawTypedRuns}
use Rattle.uc_typed_runs.proofs.Spawning.{Spawned, spawner, ended_before}
use Rattle.uc_typed_runs.proofs.Hands.{suits, asked_handed, asked_hand, rides_typed, leads_typed, found_home, drawn_hand, either_home}

-- the tasks and what is at home, of which whoever runs is in order too
record AreTyped (table : Table) (source : Source) (j : Journal) (w : World) : Type 0 where
  tasks : (t : ℕ) → has_ended t j ≡ false → Awaits table source (asked_form t j) (w.tasks t)
  homes : (o : ℕ) → AtHome table (w.homes o)

module _ (table : Table) (source : Source) (sound : Sound table source) (main : IsTask table source.main) where
  -- a task that just goes on
  going_on : (f : Form) (s : State) → JustGo ≡ f → Typed table [] s → Awaits table source f s
  going_on f s q x = record { request = ask.Yield; asked = x; asks_for = q; no_end = λ e. absurd (cc); no_fault = λ n e. absurd (cc) }

  module _ (opts : Options) (input : List ℕ) (j : Journal) (w : World) (kernel : KernelRuns opts source.sites input j) (on : is_over j ≡ false) (h : AreTyped table source j w) where
    runs_typed : (p t : ℕ) (a : Answer) → running p j ≡ t ∷ [] → answer_to source.sites t j ≡ Some a → Typed table [] (answered source a (drawn j w t))
    runs_typed p t a r told =
        let x = h.tasks t (law_alive opts source.sites input j kernel on p t r) in
        let form = law_suiting opts source.sites input j kernel on t a told in
        let fits = suits x.request a (subst (λ f. IsForm f a) (sym x.asks_for) form) x.no_end x.no_fault in
        law_answered table source x.request a (drawn j w t) (asked_handed table source x.request (hand_of (held t j) w.homes) (w.tasks t) x.asked (drawn_hand table (held t j) w.homes h.homes)) fits

    module _ (p t n : ℕ) (s : State) (asked : Asked) (d : AsksIn source opts j w p t n s asked) (reads : RideHolds (Reading table) source 0 (answered source d.given (drawn j w t)) (left opts j t) s n asked d.rides) (m : MayAsk opts source.sites j p t n asked.request) (still : is_over (j ++ act opts source.sites input j p t n asked) ≡ false) where
      abbrev a : List Entry
      a = act opts source.sites input j p t n asked

      goes : a ≡ row opts source.sites input j p t (cost n asked.line) asked.line asked.request
      goes = (going_row opts source.sites input j p t n asked still).0

      calm : is_faulty (row opts source.sites input j p t (cost n asked.line) asked.line asked.request) ≡ false
      calm =
          let g = going_row opts source.sites input j p t n asked still in
          ap is_faulty (sym (settled_calm (fault p t no_cost 10 asked.line) j (row opts source.sites input j p t (cost n asked.line) asked.line asked.request) refl g.1)) ∙ g.1

      no_fault : (k : ℕ) → asked.request ≡ ask.Fault k → ⊥
      no_fault k e = false_true (sym calm ∙ ap (λ r. is_faulty (row opts source.sites input j p t (cost n asked.line) asked.line r)) e)

      own : AskedIn table source asked.request s
      own = rides_typed table source sound 0 (answered source d.given (drawn j w t)) (left opts j t) s n asked d.rides reads (runs_typed p t d.given d.runs d.told)

      hand : Inhand table s.env.hand
      hand = asked_hand table source asked.request s no_fault own

      abbrev after : World
      after = world_after source (act opts source.sites input j p t n asked) w t s

      own_after : has_ended t (j ++ a) ≡ false → Awaits table source (asked_form t (j ++ a)) (bare s)
      own_after ended =
          let x = law_ends opts source.sites input j p t n asked still ended in
          record {
            request = asked.request;
            asked = asked_handed table source asked.request [] s own tt;
            asks_for = sym (law_asking opts source.sites input j p t n asked kernel m still).own;
            no_end = x.no_end;
            no_fault = x.no_fault;
          }

      same_form : (u : ℕ) → (u == t) ≡ false → asked_form u j ≡ asked_form u (j ++ a)
      same_form u e = sym ((law_asking opts source.sites input j p t n asked kernel m still).others u e)

      -- whoever is spawned begins with the main of a task
      child : (u : ℕ) (r : Request) → Spawned j u r → AskedIn table source r s → (u ≡ task_count j) × IsTask table (child_main source s.run.control)
      child u (ask.Spawn o) h x = (h, x.0)
      child u r h x = absurd h

      new_form : (u : ℕ) → u ≡ task_count j → asked_form u j ≡ JustGo
      new_form u q =
          let k = kept_run opts source.sites input kernel on in
          let new : spot u j ≡ Unborn = k.sound.few u (let le : task_count j ≤ u = omega (arith, q) in le) in
          subst (λ P. SpotSuits P (asked_form u j)) new (k.suits.spots u)

      tasks_after : (u : ℕ) → has_ended u (j ++ a) ≡ false → Awaits table source (asked_form u (j ++ a)) (after.tasks u)
      tasks_after u ended = by (u == t) refl
        where
          born : (b : Bool) → (u == t) ≡ false → spawns a u ≡ b → Awaits table source (asked_form u (j ++ a)) (if b then child_of source (own_object u a) s else w.tasks u)
          born true e f =
              let c = child u asked.request (spawner u opts source.sites input j p t (cost n asked.line) asked.line asked.request (ap (λ l. spawns l u) (sym goes) ∙ f)) own in
              going_on (asked_form u (j ++ a)) (child_of source (own_object u a) s) (sym (new_form u c.0) ∙ same_form u e) (begins table source sound (child_main source s.run.control) (own_object u a) c.1)
          born false e f = subst (λ f. Awaits table source f (w.tasks u)) (same_form u e) (h.tasks u (ended_before u j a ended))

          by : (b : Bool) → (u == t) ≡ b → Awaits table source (asked_form u (j ++ a)) (if b then bare s else if spawns a u then child_of source (own_object u a) s else w.tasks u)
          by true e =
              let q : u ≡ t = eqb-true u t e in
              subst (λ v. Awaits table source (asked_form v (j ++ a)) (bare s)) (sym q) (own_after (ap (λ v. has_ended v (j ++ a)) (sym q) ∙ ended))
          by false e = born (spawns a u) e refl

      homes_after : (o : ℕ) → AtHome table (after.homes o)
      homes_after o = by (takes_out a o)
        where
          by : (b : Bool) → AtHome table (if b then None else or_else (find o s.env.hand) (w.homes o))
          by true = tt
          by false = either_home table (find o s.env.hand) (w.homes o) (found_home table o s.env.hand hand) (h.homes o)

      act_typed : AreTyped table source (j ++ a) after
      act_typed = record { tasks = tasks_after; homes = homes_after }

    given_typed : (p t : ℕ) → AreTyped table source (j ++ dispatch p t ∷ []) w
    given_typed p t = record {
      tasks = λ u ended. subst (λ f. Awaits table source f (w.tasks u)) (sym (form_push u j (dispatch p t))) (h.tasks u (ended_before u j (dispatch p t ∷ []) ended));
      homes = h.homes;
    }

  begin_typed : (opts : Options) → AreTyped table source (begin opts ∷ []) (first_world source)
  begin_typed opts = record {
    tasks = λ u ended. going_on (asked_form u (begin opts ∷ [])) (first_state (routine_of source source.main) 0) (sym (form_push u [] (begin opts) ∙ form_none u)) (begins table source sound source.main 0 main);
    homes = λ o. by (o == 0);
  }
    where
      by : (b : Bool) → AtHome table (if b then Some no_members else None)
      by true = tt
      by false = tt

  module _ (input : List ℕ) (opts : Options) (range : InRange opts) where
    may_typed : {j : Journal} {w : World} {a : List Entry} {x : World} → KernelRuns opts source.sites input j → is_over j ≡ false → AreTyped table source j w → (m : May source opts input j w a x) → MayFit source opts input j w a x m → MayHold (Reading table) source opts input j w a x m → is_over (j ++ a) ≡ false → AreTyped table source (j ++ a) x
    may_typed {j} {w} kernel on h (gives p t s le) f r still = given_typed opts input j w kernel on h p t
    may_typed {j} {w} kernel on h (no_room p t s le) f r still = no_both (is_over (j ++ lone_limit ∷ [])) (over_limit j 0 0) still
    may_typed {j} {w} kernel on h (acts p t n s asked d) f r still = act_typed opts input j w kernel on h p t n s asked d r (may_ask source input opts range d f) still

    run_typed : {j : Journal} {w : World} (r : Runs source input opts j w) → RunFits source input opts j w r → RunHolds (Reading table) source input opts j w r → is_over j ≡ false → AreTyped table source j w
    run_typed begun f g still = begin_typed opts
    run_typed (more r on m) f g still = may_typed (run_rests source input opts range r f.0 on).kernel on (run_typed r f.0 g.0 on) m f.1 g.1 still

pub law_typed_runs : LawTypedRuns
law_typed_runs table source input opts j w r sound main range fits reads on = record {
  tasks = h.tasks;
  homes = h.homes;
  comes = λ t s c l. comes t s c l;
  finds = λ t s c l p todo e. law_finds table source sound s (comes t s c l) p todo e;
}
  where
    h : AreTyped table source j w
    h = run_typed table source sound main input opts range r fits reads on

    comes : (t : ℕ) (s : State) (c : Comes source j w t s) → LeadsHold (Reading table) source 0 (answered source c.given (drawn j w t)) s c.leads → Typed table [] s
    comes t s c l =
        leads_typed table source sound 0 c.leads l (runs_typed table source sound main opts input j w (run_rests source input opts range r fits on).kernel on h c.processor t c.given c.runs c.told)
