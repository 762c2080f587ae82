-- The homes that a run tells are those at which objects are bound.
use Rattle.std.proofs.Common.{◌≡◌, ℕ, ◌<◌, ◌≤◌, ◌==◌, Bool, true, false, List, [], ◌∷◌, ◌++◌, Option, Some, None, refl, sym, ap, ◌∙◌, subst, arith}
use Rattle.std.specs.Prelude.{nat_eq, if◌then◌else◌}
use Rattle.std.proofs.lemmas.Bool.{eqb-true}
use Rattle.uc_tree.specs.Source.{Source, routine_of}
use Rattle.uc_entry.specs.declared.entry.Entry.{Entry}
use Rattle.uc_entry.specs.declared.entry.Options.{Options}
use Rattle.uc_entry.specs.declared.request.Answer.TheVariants as answer
use Rattle.uc_entry.specs.declared.request.Asked.{Asked}
use Rattle.uc_entry.specs.declared.request.Request.{Request}
use Rattle.uc_entry.specs.declared.request.Request.TheVariants as ask
use Rattle.uc_entry.specs.declared.request.Answer.{Answer}
use Rattle.uc_entry.specs.Keyed.{find}
use Rattle.uc_acts.specs.Journal.{Journal, begin, held, is_over, own_object, cost}
use Rattle.uc_acts.specs.Known.{object_count, task_count, spawns, has_ended, takes_out}
use Rattle.uc_acts.specs.Queues.{running}
use Rattle.uc_acts.specs.Answers.{answer_to}
use Rattle.uc_acts.specs.Sound.{Unborn, spot}
use Rattle.uc_acts.specs.Acts.{act, row, dispatch, lone_limit}
use Rattle.uc_acts.specs.KernelRuns.{InRange, MayAsk, KernelRuns}
use Rattle.uc_acts.proofs.Living.{going_row}
use Rattle.uc_acts.proofs.Bounds.{over_limit}
use Rattle.uc_acts.proofs.SoundLemmas.{self_test}
use Rattle.uc_answer_laws.specs.Suiting.{JustGo, IsForm, asked_form, form_of_request}
use Rattle.uc_answer_laws.proofs.Told.{SpotSuits, form_push, no_both}
use Rattle.uc_answer_laws.proofs.Runs.{kept_run, form_none, law_suiting}
use Rattle.uc_answer_laws.proofs.Asking.{law_asking}
use Rattle.uc_machine.specs.declared.exec.Owner.TheVariants.{Fields}
use Rattle.uc_machine.specs.Pieces.{Value, Place, State, Members}
use Rattle.uc_machine.specs.Quiet.{no_members, first_state}
use Rattle.uc_machine.specs.Answering.{answered, child_main, child_of, entered, new_members}
use Rattle.uc_meaning.specs.Runs.{World, May, Runs, first_world, world_after, bare, with_home, hand_of, drawn, or_else, gives, no_room, acts, begun, more}
use Rattle.uc_state_laws.specs.Fitting.{MayFit, RunFits}
use Rattle.uc_state_laws.proofs.Alive.{law_alive}
use Rattle.uc_state_laws.proofs.Others.{run_rests, may_ask}
use Rattle.uc_site_laws.specs.Resting.{RestsHand}
use Rattle.uc_site_laws.proofs.Kept.{either, found_hand}
use Rattle.uc_state_laws.specs.Opens.{MayMeet, RunMeets}
use Rattle.uc_state_laws.proofs.Counts.{one_kept, told_others}
use Rattle.uc_life_laws.proofs.Spawning.{Spawned, spawner, ended_before}
use Rattle.uc_life_laws.proofs.NewNumbers.{objects_grow, told_object}
use Rattle.uc_life_laws.specs.MadeObjects.{NoneActive, NoneMembers, NoneState, Binds, FirstState, RestsBy}
use Rattle.uc_life_laws.specs.BoundRuns.{LawBinds}
use Rattle.uc_life_laws.specs.Homes.{made_at, then_home, home_by, home_of, HomedRest, LawHomes, LawOnce}
use Rattle.uc_life_laws.proofs.NextNumbers.{told_next}
use Rattle.uc_life_laws.proofs.MadeSteps.{calm}
use Rattle.uc_life_laws.proofs.MadeWalk.{begins_none, first_more, rests_more, binds_first, answered_first, handed, env_of, ridden, led}

-- a home is told once

other_number : (o n : ℕ) (u v : Value) → o < n → (if nat_eq o n then u else v) ≡ v
other_number o n u v l = by (nat_eq o n) refl
  where
    by : (b : Bool) → nat_eq o n ≡ b → (if b then u else v) ≡ v
    by true e = let q : o ≡ n = eqb-true o n e in let f : ⊥ = omega (arith, l, q) in absurd f
    by false e = refl

same_number : (o n : ℕ) (u v : Value) → n ≡ o → (if nat_eq o n then u else v) ≡ u
same_number o n u v q = by (nat_eq o n) (subst (λ (k : ℕ). nat_eq o k ≡ true) (sym q) (self_test o))
  where
    by : (b : Bool) → b ≡ true → (if b then u else v) ≡ u
    by true e = refl
    by false e = absurd (cc)

then_once : (source : Source) (j : Journal) (r : Request) (s : State) (homes : ℕ → Value) (o : ℕ) → o < object_count j → then_home source j r s homes o ≡ homes o
then_once source j (ask.Make m) s homes o l = other_number o (object_count j) (made_at source s.run.control s.run.operands) (homes o) l
then_once source j r s homes o l = refl

pub law_once : LawOnce
law_once source input opts j w _ _ (gives p t s h) homes o l = refl
law_once source input opts j w _ _ (no_room p t s h) homes o l = refl
law_once source input opts j w _ _ (acts p t n s asked d) homes o l = then_once source j asked.request s homes o l

-- what is at home in objects, and a task that has what is at home in those that it is inside

home_none : (o : ℕ) (x : Option Members) (hand : List (ℕ × Members)) → NoneMembers x → RestsHand NoneActive NoneActive hand → RestsHand NoneActive NoneActive (with_home o x hand)
home_none o None hand h k = k
home_none o (Some m) hand h k = (h, k)

hand_none : (os : List ℕ) (members : ℕ → Option Members) → ((o : ℕ) → NoneMembers (members o)) → RestsHand NoneActive NoneActive (hand_of os members)
hand_none [] members h = tt
hand_none (o ∷ os) members h = home_none o (members o) (hand_of os members) (h o) (hand_none os members h)

or_none : (x y : Option Members) → NoneMembers x → NoneMembers y → NoneMembers (or_else x y)
or_none None y h k = k
or_none (Some m) y h k = h

module _ (source : Source) where
  record WorldHomed (homes : ℕ → Value) (j : Journal) (w : World) : Type 0 where
    rests : (t : ℕ) → has_ended t j ≡ false → HomedRest source homes j t (w.tasks t)
    members : (o : ℕ) → NoneMembers (w.homes o)

  -- a task that just goes on
  going_on : (homes : ℕ → Value) (j : Journal) (t : ℕ) (s : State) → JustGo ≡ asked_form t j → NoneState s → HomedRest source homes j t s
  going_on homes j t s q h = record {
    request = ask.Yield;
    asks_for = q;
    made = λ m e. absurd (cc);
    homed = λ m e. absurd (cc);
    binds = h;
  }

  module _ (opts : Options) (input : List ℕ) (j : Journal) (w : World) (homes : ℕ → Value) (kernel : KernelRuns opts source.sites input j) (on : is_over j ≡ false) (h : WorldHomed homes j w) where
    -- whoever runs is told what it has asked for
    start : (p t : ℕ) (given : Answer) → running p j ≡ t ∷ [] → answer_to source.sites t j ≡ Some given → FirstState source homes (object_count j) (answered source given (drawn j w t))
    start p t given runs told =
        let x : HomedRest source homes j t (w.tasks t) = h.rests t (law_alive opts source.sites input j kernel on p t runs) in
        let f : IsForm (form_of_request x.request) given = subst (λ f. IsForm f given) (sym x.asks_for) (law_suiting opts source.sites input j kernel on t given told) in
        answered_first source homes (object_count j) x.request given (drawn j w t) f (λ m o q e. let a : answer_to source.sites t j ≡ Some (answer.Object o) = told ∙ ap Some e in (x.made m q o a, x.homed m q o a)) (handed source homes (object_count j) x.request (hand_of (held t j) w.homes) (w.tasks t) (hand_none (held t j) w.homes h.members) x.binds)

    module _ (p n k : ℕ) (s : State) (asked : Asked) (m : MayAsk opts source.sites j p n k asked.request) (still : is_over (j ++ act opts source.sites input j p n k asked) ≡ false) (ended : RestsBy source homes (object_count j) asked.request s) where
      abbrev a : List Entry
      a = act opts source.sites input j p n k asked

      abbrev later : ℕ → Value
      later o = then_home source j asked.request s homes o

      goes : a ≡ row opts source.sites input j p n (cost k asked.line) asked.line asked.request
      goes = (going_row opts source.sites input j p n k asked still).0

      further : (r : Request) (u : State) → RestsBy source homes (object_count j) r u → RestsBy source later (object_count (j ++ a)) r u
      further r u x = rests_more source homes later (object_count j) (object_count (j ++ a)) (λ o l. then_once source j asked.request s homes o l) (objects_grow j a) r u x

      own_after : HomedRest source later (j ++ a) n (bare s)
      own_after = record {
        request = asked.request;
        asks_for = sym (law_asking opts source.sites input j p n k asked kernel m still).own;
        made = λ x q o e. told_object opts source.sites input j p n k asked still x o q e;
        homed = λ x q o e. at_next x q o (told_next opts source.sites input j p n k asked still x o q e);
        binds = handed source later (object_count (j ++ a)) asked.request [] s tt (further asked.request s ended);
      }
        where
          at_next : (x : ℕ) → asked.request ≡ ask.Make x → (o : ℕ) → object_count j ≡ o → later o ≡ made_at source s.run.control s.run.operands
          at_next x q o e =
              subst (λ (r : Request). then_home source j r s homes o ≡ made_at source s.run.control s.run.operands) (sym q) (same_number o (object_count j) (made_at source s.run.control s.run.operands) (homes o) e)

      same_form : (u : ℕ) → (u == n) ≡ false → asked_form u j ≡ asked_form u (j ++ a)
      same_form u e = sym ((law_asking opts source.sites input j p n k asked kernel m still).others u e)

      others_rest : (u : ℕ) → (u == n) ≡ false → HomedRest source homes j u (w.tasks u) → HomedRest source later (j ++ a) u (w.tasks u)
      others_rest u e x = record {
        request = x.request;
        asks_for = x.asks_for ∙ same_form u e;
        made = λ y q o f.
            let l : o < object_count j = x.made y q o (told_others opts source.sites input j p n k asked u o e f) in
            let g = objects_grow j a in
            omega (arith, l, g);
        homed = λ y q o f.
            let told = told_others opts source.sites input j p n k asked u o e f in
            then_once source j asked.request s homes o (x.made y q o told) ∙ x.homed y q o told;
        binds = further x.request (w.tasks u) x.binds;
      }

      born_first : (u : ℕ) (r : Request) → Spawned j u r → u ≡ task_count j
      born_first u (ask.Spawn o) e = e
      born_first u r e = absurd e

      new_form : (u : ℕ) → u ≡ task_count j → asked_form u j ≡ JustGo
      new_form u q =
          let k = kept_run opts source.sites input kernel on in
          let new : spot u j ≡ Unborn = k.sound.few u (let le : task_count j ≤ u = omega (arith, q) in le) in
          subst (λ P. SpotSuits P (asked_form u j)) new (k.suits.spots u)

      rests_after : (u : ℕ) → has_ended u (j ++ a) ≡ false → HomedRest source later (j ++ a) u ((world_after source a w n s).tasks u)
      rests_after u ended = by (u == n) refl
        where
          born : (b : Bool) → (u == n) ≡ false → spawns a u ≡ b → HomedRest source later (j ++ a) u (if b then child_of source (own_object u a) s else w.tasks u)
          born true e f =
              let c = born_first u asked.request (spawner u opts source.sites input j p n (cost k asked.line) asked.line asked.request (ap (λ l. spawns l u) (sym goes) ∙ f)) in
              going_on later (j ++ a) u (child_of source (own_object u a) s) (sym (new_form u c) ∙ same_form u e) (begins_none source (child_main source s.run.control) (own_object u a))
          born false e f = others_rest u e (h.rests u (ended_before u j a ended))

          by : (b : Bool) → (u == n) ≡ b → HomedRest source later (j ++ a) u (if b then bare s else if spawns a u then child_of source (own_object u a) s else w.tasks u)
          by true e =
              let q : u ≡ n = eqb-true u n e in
              subst (λ v. HomedRest source later (j ++ a) v (bare s)) (sym q) own_after
          by false e = born (spawns a u) e refl

      act_homed : WorldHomed later (j ++ a) (world_after source a w n s)
      act_homed = record {
        rests = rests_after;
        members = λ o. either NoneMembers (takes_out a o) None (or_else (find o s.env.hand) (w.homes o)) tt (or_none (find o s.env.hand) (w.homes o) (found_hand NoneActive NoneActive calm o s.env.hand (env_of source homes (object_count j) asked.request s ended).hand) (h.members o));
      }

    given_homed : (p n : ℕ) → WorldHomed homes (j ++ dispatch p n ∷ []) w
    given_homed p n = record { rests = rests_after; members = h.members }
      where
        rests_after : (u : ℕ) → has_ended u (j ++ dispatch p n ∷ []) ≡ false → HomedRest source homes (j ++ dispatch p n ∷ []) u (w.tasks u)
        rests_after u ended =
            let x = h.rests u (ended_before u j (dispatch p n ∷ []) ended) in
            record {
              request = x.request;
              asks_for = x.asks_for ∙ sym (form_push u j (dispatch p n));
              made = λ y q o f.
                  let l : o < object_count j = x.made y q o (one_kept source.sites j (dispatch p n) u o refl f) in
                  let g = objects_grow j (dispatch p n ∷ []) in
                  omega (arith, l, g);
              homed = λ y q o f. x.homed y q o (one_kept source.sites j (dispatch p n) u o refl f);
              binds = rests_more source homes homes (object_count j) (object_count (j ++ dispatch p n ∷ [])) (λ o l. refl) (objects_grow j (dispatch p n ∷ [])) x.request (w.tasks u) x.binds;
            }

  begin_homed : (opts : Options) → WorldHomed (λ o. Place (Fields o) []) (begin opts ∷ []) (first_world source)
  begin_homed opts = record {
    rests = λ u ended. going_on (λ o. Place (Fields o) []) (begin opts ∷ []) u (first_state (routine_of source source.main) 0) (sym (form_push u [] (begin opts) ∙ form_none u)) (begins_none source source.main 0);
    members = λ o. either NoneMembers (o == 0) (Some no_members) None tt tt;
  }

  module _ (input : List ℕ) (opts : Options) (range : InRange opts) where
    may_homed : {j : Journal} {w : World} {a : List Entry} {x : World} → KernelRuns opts source.sites input j → is_over j ≡ false → (homes : ℕ → Value) → WorldHomed homes j w → (m : May source opts input j w a x) → MayFit source opts input j w a x m → is_over (j ++ a) ≡ false → WorldHomed (λ o. home_by source opts input j w a x m homes o) (j ++ a) x
    may_homed {j} {w} kernel on homes h (gives p n s le) f still = given_homed opts input j w homes kernel on h p n
    may_homed {j} {w} kernel on homes h (no_room p n s le) f still = no_both (is_over (j ++ lone_limit ∷ [])) (over_limit j 0 0) still
    may_homed {j} {w} kernel on homes h (acts p n k s asked d) f still =
        act_homed opts input j w homes kernel on h p n k s asked (may_ask source input opts range d f) still (ridden source homes (object_count j) d.rides (start opts input j w homes kernel on h p n d.given d.runs d.told)).0

    run_homed : {j : Journal} {w : World} (r : Runs source input opts j w) → RunFits source input opts j w r → is_over j ≡ false → WorldHomed (λ o. home_of source input opts j w r o) j w
    run_homed begun f still = begin_homed opts
    run_homed (more {j} {w} r on m) f still =
        may_homed (run_rests source input opts range r f.0 on).kernel on (λ i. home_of source input opts j w r i) (run_homed r f.0 on) m f.1 still

    -- with any homes that are those of the run for all objects that were made in it
    module _ (homes : ℕ → Value) (many : ℕ) where
      abbrev Agrees : (ℕ → Value) → Journal → Type 0
      Agrees told j = (o : ℕ) → o < object_count j → homes o ≡ told o

      may_bind : {j : Journal} {w : World} {a : List Entry} {x : World} (told : ℕ → Value) → KernelRuns opts source.sites input j → is_over j ≡ false → WorldHomed told j w → Agrees told j → object_count j ≤ many → (m : May source opts input j w a x) → MayMeet (Binds source homes many) source opts input j w a x m
      may_bind told kernel on h same le (gives p n s l) = tt
      may_bind told kernel on h same le (no_room p n s l) = tt
      may_bind {j} {w} told kernel on h same le (acts p n k s asked d) =
          (ridden source homes many d.rides (first_more source told homes (object_count j) many same le _ (start opts input j w told kernel on h p n d.given d.runs d.told))).1

      run_binds : {j : Journal} {w : World} (r : Runs source input opts j w) → RunFits source input opts j w r → Agrees (λ o. home_of source input opts j w r o) j → object_count j ≤ many → RunMeets (Binds source homes many) source input opts j w r
      run_binds begun f same le = tt
      run_binds (more {j} {w} {a} {w' = x} r on m) f same le =
          let before : Agrees (λ o. home_of source input opts j w r o) j = λ o l. same o (let g = objects_grow j a in let q : o < object_count (j ++ a) = omega (arith, l, g) in q) ∙ law_once source input opts j w a x m (λ i. home_of source input opts j w r i) o l in
          let fewer : object_count j ≤ many = (let g = objects_grow j a in let q : object_count j ≤ many = omega (arith, g, le) in q) in (
            run_binds r f.0 before fewer,
            may_bind (λ o. home_of source input opts j w r o) (run_rests source input opts range r f.0 on).kernel on (run_homed r f.0 on) before fewer m,
          )

entered_operands : (m : Option Members) (o : ℕ) (s : State) → (entered m o s).run.operands ≡ s.run.operands
entered_operands None o s = refl
entered_operands (Some m) o s = refl

pub law_homes : LawHomes
law_homes source input opts j w r range fits on = record {
  rests = h.rests;
  told = λ t e m o q f. (refl, (h.rests t e).homed m q o f ∙ ap (λ vs. made_at source (w.tasks t).run.control vs) (sym (entered_operands (new_members source (w.tasks t).run.control) o (drawn j w t))));
}
  where
    h : WorldHomed source (λ o. home_of source input opts j w r o) j w
    h = run_homed source input opts range r fits on

pub law_binds : LawBinds
law_binds = record {
  runs = λ source input opts j w r range fits. run_binds source input opts range (λ o. home_of source input opts j w r o) (object_count j) r fits (λ o l. refl) (nat_le_refl (object_count j));
  leads = λ source input opts j w r range fits on t s c.
      let homes : ℕ → Value = λ o. home_of source input opts j w r o in
      let k = led source homes (object_count j) c.leads (start source opts input j w homes (run_rests source input opts range r fits on).kernel on (run_homed source input opts range r fits on) c.processor t c.given c.runs c.told) in
      (k.1, binds_first source homes (object_count j) s k.0);
}
  where
    nat_le_refl : (n : ℕ) → n ≤ n
    nat_le_refl n = omega arith
