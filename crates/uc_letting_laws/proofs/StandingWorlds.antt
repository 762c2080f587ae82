-- In every run tasks stand so that who waits in an object is inside it, and each has the object of which it was told as its own.
use Rattle.std.proofs.Common.{◌≡◌, ℕ, ◌==◌, ◌<◌, ◌≤◌, ◌||◌, inl, Bool, true, false, List, [], ◌∷◌, ◌++◌, Option, Some, None, refl, sym, ap, ◌∙◌, subst, arith, ⊎_elim, ◌⊎◌, inr}
use Rattle.std.specs.Prelude.{nat_eq, is_some, if◌then◌else◌}
use Rattle.std.proofs.lemmas.Bool.{eqb-true, eq-eqb, ne_eqb, cases_lt}
use Rattle.uc_tree.specs.Source.{Source, routine_of}
use Rattle.uc_entry.specs.declared.entry.Entry.{Entry}
use Rattle.uc_entry.specs.declared.entry.Options.{Options}
use Rattle.uc_entry.specs.declared.request.Asked.{Asked}
use Rattle.uc_entry.specs.declared.request.Request.{Request}
use Rattle.uc_entry.specs.declared.request.Request.TheVariants as ask
use Rattle.uc_entry.specs.Keyed.{find}
use Rattle.uc_acts.specs.Journal.{Journal, begin, cost, inside, held, is_over, owns, own_object, where_true}
use Rattle.uc_acts.specs.Known.{has, task_count, has_ended, spawns, takes_out}
use Rattle.uc_acts.specs.Serves.{Serves}
use Rattle.uc_acts.specs.Sound.{Sound, Spot}
use Rattle.uc_acts.specs.Laws.{Makes}
use Rattle.uc_acts.specs.Acts.{act, row, dispatch}
use Rattle.uc_acts.specs.KernelRuns.{InRange, Fits, MayAsk}
use Rattle.uc_acts.proofs.OpenLemmas.{still_open_silent}
use Rattle.uc_acts.proofs.Given.{law_dispatch}
use Rattle.uc_acts.proofs.Counted.{law_made}
use Rattle.uc_acts.proofs.Law.{good_whole, lawful_act}
use Rattle.uc_acts.proofs.Living.{going_row}
use Rattle.uc_acts.proofs.Held.{law_held}
use Rattle.uc_machine.specs.declared.exec.Home.{Home}
use Rattle.uc_machine.specs.declared.exec.Home.TheVariants as home
use Rattle.uc_machine.specs.Executions.{home_eq}
use Rattle.uc_machine.specs.Quiet.{State, Members}
use Rattle.uc_machine.specs.Quiet as quiet
use Rattle.uc_machine.specs.Pieces as piece
use Rattle.uc_machine.specs.Insides.{has_engaged, is_held_up}
use Rattle.uc_machine.specs.Answering.{answered, child_of, child_main, with_hand}
use Rattle.uc_meaning.specs.Runs.{World, AsksIn, first_world, first_home, drawn, bare, with_home, hand_of, or_else, world_after}
use Rattle.uc_answer_laws.specs.Suiting.{Form, JustGo, IsForm, form_of_request, asked_form, AsksFor}
use Rattle.uc_answer_laws.proofs.Told.{form_push, SpotSuits}
use Rattle.uc_answer_laws.proofs.Runs.{kept_run, law_suiting}
use Rattle.uc_answer_laws.proofs.Asking.{law_asking}
use Rattle.uc_step_laws.specs.Hands.{keys}
use Rattle.uc_step_laws.proofs.Kept.{either}
use Rattle.uc_state_laws.proofs.Alive.{law_alive}
use Rattle.uc_state_laws.proofs.Ticks.{no_both}
use Rattle.uc_state_laws.proofs.Makes.{makes, run_after, law_ends}
use Rattle.uc_state_laws.proofs.Others.{RunRests, may_ask, asking as asks_with}
use Rattle.uc_depth_laws.specs.Owing.{Unheld, IsBinding}
use Rattle.uc_state_laws.proofs.DeepWorlds.{DeepWorld, known, ended_before, spawns_none, spawned_by, spawned_true}
use Rattle.uc_state_laws.proofs.Places.{still}
use Rattle.uc_inner_laws.specs.Inner.{Part, InnerSource}
use Rattle.uc_inner_laws.specs.Standing.{Ok, brings, IsHere, StandsHand, StandsMembers, StandsEnv, StandsWith, StandsState, StandsAsk}
use Rattle.uc_inner_laws.proofs.Keeping as kept
use Rattle.uc_inner_laws.proofs.Walk.{law_steps}
use Rattle.uc_letting_laws.proofs.Insiders.{GoesOut, Insiders, row_insiders, Kicks, row_kicks}
use Rattle.uc_letting_laws.proofs.Owners.{told_own, told_same, unowned, own_same, own_given, own_new, own_begin}
use Rattle.uc_depth_laws.specs.Entering.{IsMain}
use Rattle.uc_machine.specs.Pieces.{Todo}
use Rattle.uc_acts.proofs.Making.{law_new}
use Rattle.uc_acts.specs.Answers.{just_made}
use Rattle.uc_step_laws.specs.Holding.{plain}
use Rattle.uc_inner_laws.specs.InnerLaws.{IsElsewhere}
use Rattle.uc_entry.specs.declared.request.Answer.{Answer}
use Rattle.uc_entry.specs.declared.request.Answer.TheVariants as answer

-- a task that has asked for a new object binds it
abbrev pub Binds : Request → List Todo → Type 0
Binds (ask.Make c) todo = IsBinding todo
Binds r todo = Unit {0}

pub no_binding : (todo : List Todo) → plain todo ≡ true → IsBinding todo → ⊥
no_binding [] h b = b
no_binding (piece.BindMadeNow c r ∷ todo) h b = cc
no_binding (p ∷ todo) h b = b

-- who takes an object out is not at home there
abbrev pub IsApart : Request → State → Type 0
IsApart (ask.Gone o) s = s.env.exec.home ≡ home.Object o → ⊥
IsApart r s = Unit {0}

-- tasks at rest, behind what they asked last
pub record StandingTask (part : ℕ → Part) (source : Source) (j : Journal) (u : ℕ) (s : State) : Type 0 where
  pub request : Request
  pub form : asked_form u j ≡ form_of_request request
  pub stands : StandsWith part source (own_object u j) (brings request) s
  pub binds : Binds request s.run.control

pub record StandingWorld (part : ℕ → Part) (source : Source) (j : Journal) (w : World) : Type 0 where
  pub tasks : (u : ℕ) → u < task_count j → has_ended u j ≡ false → StandingTask part source j u (drawn j w u)
  pub homes : (o : ℕ) → StandsMembers part source (home.Object o) (w.homes o)
  pub unowned : (u : ℕ) → task_count j ≤ u → told_own u j ≡ []

-- hands

home_there : (k q : ℕ) (x : Option Members) (hand : List (ℕ × Members)) → is_some (find q hand) ≡ true → is_some (find q (with_home k x hand)) ≡ true
home_there k q None hand h = h
home_there k q (Some m) hand h = by (nat_eq k q)
  where
    by : (b : Bool) → is_some (if b then Some m else find q hand) ≡ true
    by true = refl
    by false = h

hand_there : (os : List ℕ) (homes : ℕ → Option Members) (q : ℕ) → has os q ≡ true → is_some (homes q) ≡ true → is_some (find q (hand_of os homes)) ≡ true
hand_there [] homes q h i = absurd (cc)
hand_there (k ∷ os) homes q h i = by (nat_eq k q) refl h (λ g. hand_there os homes q g i)
  where
    here : (x : Option Members) → nat_eq k q ≡ true → is_some x ≡ true → is_some (find q (with_home k x (hand_of os homes))) ≡ true
    here None e g = absurd (cc)
    here (Some m) e g = ap (λ b. is_some (if b then Some m else find q (hand_of os homes))) e

    by : (b : Bool) → nat_eq k q ≡ b → (b || has os q) ≡ true → (has os q ≡ true → is_some (find q (hand_of os homes)) ≡ true) → is_some (find q (with_home k (homes k) (hand_of os homes))) ≡ true
    by true e g r = here (homes k) e (subst (λ o. is_some (homes o) ≡ true) (sym (eqb-true k q e)) i)
    by false e g r = home_there k q (homes k) (hand_of os homes) (r g)

there_home : (os : List ℕ) (homes : ℕ → Option Members) (q : ℕ) → is_some (find q (hand_of os homes)) ≡ true → (has os q ≡ true) × (is_some (homes q) ≡ true)
there_home [] homes q h = absurd (cc)
there_home (k ∷ os) homes q h = by (homes k) refl (nat_eq k q) refl h (λ g. there_home os homes q g)
  where
    more : (b : Bool) → has os q ≡ true → (b || has os q) ≡ true
    more true g = refl
    more false g = g

    rest : (has os q ≡ true) × (is_some (homes q) ≡ true) → ((nat_eq k q || has os q) ≡ true) × (is_some (homes q) ≡ true)
    rest g = (more (nat_eq k q) g.0, g.1)

    by : (x : Option Members) → homes k ≡ x → (b : Bool) → nat_eq k q ≡ b → is_some (find q (with_home k x (hand_of os homes))) ≡ true → (is_some (find q (hand_of os homes)) ≡ true → (has os q ≡ true) × (is_some (homes q) ≡ true)) → ((nat_eq k q || has os q) ≡ true) × (is_some (homes q) ≡ true)
    by None f b e g r = rest (r g)
    by (Some m) f true e g r = (ap (λ b. b || has os q) e, ap (λ o. is_some (homes o)) (sym (eqb-true k q e)) ∙ ap (λ (x : Option Members). is_some x) f)
    by (Some m) f false e g r = rest (r (sym (ap (λ b. is_some (if b then Some m else find q (hand_of os homes))) e) ∙ g))

pub found_has : (q : ℕ) (hand : List (ℕ × Members)) → is_some (find q hand) ≡ true → has (keys hand) q ≡ true
found_has q [] h = absurd (cc)
found_has q (p ∷ hand) h = by (nat_eq p.0 q) h (λ g. found_has q hand g)
  where
    by : (b : Bool) → is_some (if b then Some p.1 else find q hand) ≡ true → (is_some (find q hand) ≡ true → has (keys hand) q ≡ true) → (b || has (keys hand) q) ≡ true
    by true g r = refl
    by false g r = r g

module _ (part : ℕ → Part) (source : Source) where
  home_stands : (o : ℕ) (x : Option Members) (hand : List (ℕ × Members)) → StandsMembers part source (home.Object o) x → StandsHand part source hand → StandsHand part source (with_home o x hand)
  home_stands o None hand h k = k
  home_stands o (Some m) hand h k = (h, k)

  hand_stands : (os : List ℕ) (homes : ℕ → Option Members) → ((o : ℕ) → StandsMembers part source (home.Object o) (homes o)) → StandsHand part source (hand_of os homes)
  hand_stands [] homes h = tt
  hand_stands (o ∷ os) homes h = home_stands o (homes o) (hand_of os homes) (h o) (hand_stands os homes h)

  or_stands : (h : Home) (x y : Option Members) → StandsMembers part source h x → StandsMembers part source h y → StandsMembers part source h (or_else x y)
  or_stands h None y k l = l
  or_stands h (Some m) y k l = k

  -- what is parked with a task that has asked something
  asked_env : (mine : ℕ) (r : Request) (s : State) → StandsAsk part source mine r s → StandsEnv part source s.env
  asked_env mine ask.End s h = h.0
  asked_env mine (ask.Fault f) s h = h
  asked_env mine r s h = h.env

  -- a hand that is drawn anew
  drawn_stands : (mine mine_now : ℕ) (r : Request) (hand : List (ℕ × Members)) (s : State) → mine_now ≡ mine → StandsWith part source mine (brings r) s → StandsHand part source hand → IsHere s.env.own hand s.env.exec.home → StandsWith part source mine_now (brings r) (with_hand hand s)
  drawn_stands mine mine_now r hand s e h k i =
      record { own = h.own ∙ sym e; run = h.run; callers = h.callers; env = record { house = h.env.house; hand = k }; here = i }

  here_drawn : (own : ℕ) (old hand : List (ℕ × Members)) (h : Home) → IsHere own old h → ((q : ℕ) → h ≡ home.Object q → is_some (find q old) ≡ true → is_some (find q hand) ≡ true) → IsHere own hand h
  here_drawn own old hand (home.Task t) i k = i
  here_drawn own old hand (home.Object q) i k = k q refl i

module _ (part : ℕ → Part) (source : Source) (inner : InnerSource part source) (main : IsMain source source.main) (input : List ℕ) (opts : Options) (range : InRange opts) where
  module _ {j : Journal} {w : World} (r : RunRests source input opts j w) (going : is_over j ≡ false) (deeps : DeepWorld j w) (x : StandingWorld part source j w) (p t n : ℕ) (s : State) (asked : Asked) (d : AsksIn source opts j w p t n s asked) where
    mine : StandingTask part source j t (drawn j w t)
    mine = x.tasks t (known source input opts range r going deeps p t n s asked d) (law_alive opts source.sites input j r.kernel going p t d.runs)

    -- a new object is not where the running execution is at home
    pub new_away : (o : ℕ) → IsBinding (w.tasks t).run.control → IsHere (drawn j w t).env.own (drawn j w t).env.hand (drawn j w t).env.exec.home → d.given ≡ answer.Object o → (drawn j w t).env.exec.home ≡ home.Object o → ⊥
    new_away o b y e h = by (r.rests.tasks t).control
      where
        by : (plain (w.tasks t).run.control ≡ true) ⊎ ((v : ℕ) × (just_made t j ≡ v ∷ [])) → ⊥
        by (inl g) = no_binding (w.tasks t).run.control g b
        by (inr v) =
            let new = law_new opts source.sites input j r.kernel going t v.0 v.1 in
            let told : Some (answer.Object o) ≡ Some (answer.Object v.0) = ap (λ (a : Answer). Some a) (sym e) ∙ (sym d.told ∙ new.answer) in
            let same : o ≡ v.0 = cc told in
            let here : is_some (find o (drawn j w t).env.hand) ≡ true = subst (λ (k : Home). IsHere (drawn j w t).env.own (drawn j w t).env.hand k) h y in
            let home_there : is_some (w.homes o) ≡ true = (there_home (held t j) w.homes o here).1 in
            let none : w.homes o ≡ None = subst (λ k. w.homes k ≡ None) (sym same) (r.rests.new t v.0 v.1) in
            no_both (is_some (w.homes o)) home_there (ap (λ (k : Option Members). is_some k) none)

    elsewhere : (q : Request) (g : Answer) → Binds q (w.tasks t).run.control → StandsWith part source (own_object t j) (brings q) (drawn j w t) → d.given ≡ g → IsElsewhere q g (drawn j w t)
    elsewhere (ask.Make c) (answer.Object o) b y e = new_away o b y.here e
    elsewhere q g b y e = tt

    pub standing_start : StandsState part source (own_object t j) (answered source d.given (drawn j w t))
    standing_start =
        law_steps.told part source (own_object t j) mine.request d.given (drawn j w t) mine.stands (subst (λ (y : Form). IsForm y d.given) mine.form (law_suiting opts source.sites input j r.kernel going t d.given d.told)) (elsewhere mine.request d.given mine.binds mine.stands refl)

    module _ (stands : StandsAsk part source (own_object t j) asked.request s) (binds : Binds asked.request s.run.control) (unheld : Unheld asked.request s.env) (extra : IsApart asked.request s) (f : Fits opts source.sites j t asked.request) (on : is_over (j ++ act opts source.sites input j p t n asked) ≡ false) where
      abbrev a : List Entry
      a = act opts source.sites input j p t n asked

      abbrev after : World
      after = world_after source (act opts source.sites input j p t n asked) w t s

      m : MayAsk opts source.sites j p t n asked.request
      m = may_ask source input opts range d f

      sound : Sound j
      sound = (good_whole opts source.sites input r.kernel).sound

      made : Makes j (act opts source.sites input j p t n asked) t
      made = makes opts source.sites input j p t n asked r.kernel m on

      is : act opts source.sites input j p t n asked ≡ row opts source.sites input j p t (cost n asked.line) asked.line asked.request
      is = (going_row opts source.sites input j p t n asked on).0

      kicks : Kicks t (GoesOut t j asked.request) (act opts source.sites input j p t n asked)
      kicks = subst (Kicks t (GoesOut t j asked.request)) (sym is) (row_kicks opts source.sites input j p t (cost n asked.line) asked.line asked.request)

      insiders : Insiders t (GoesOut t j asked.request) j (j ++ act opts source.sites input j p t n asked)
      insiders = subst (λ l. Insiders t (GoesOut t j asked.request) j (j ++ l)) (sym is) (row_insiders opts source.sites input j p t (cost n asked.line) asked.line asked.request)

      hand : keys s.env.hand ≡ held t j
      hand = (asks_with source input opts range r going p t n s asked d).hand

      homes_after : (o : ℕ) → StandsMembers part source (home.Object o) (after.homes o)
      homes_after o =
          either (StandsMembers part source (home.Object o)) (takes_out a o) None (or_else (find o s.env.hand) (w.homes o)) tt (or_stands part source (home.Object o) (find o s.env.hand) (w.homes o) (kept.found_hand part source (own_object t j) o s.env.hand (asked_env part source (own_object t j) asked.request s stands).hand) (x.homes o))

      -- what is held behind the act is at home there, if it was before
      stays_home : (u q : ℕ) → has (held u (j ++ act opts source.sites input j p t n asked)) q ≡ true → is_some (or_else (find q s.env.hand) (w.homes q)) ≡ true → is_some (after.homes q) ≡ true
      stays_home u q h i = by (takes_out a q) refl
        where
          by : (b : Bool) → takes_out a q ≡ b → is_some (if b then None else or_else (find q s.env.hand) (w.homes q)) ≡ true
          by true e = no_both (has _ q) (law_made opts source.sites input (j ++ a) (run_after opts source.sites input j p t n asked r.kernel m on) on u q h) (made.out q e)
          by false e = i

      or_some : (y z : Option Members) → is_some y ≡ true → is_some (or_else y z) ≡ true
      or_some None z h = absurd (cc)
      or_some (Some k) z h = refl

      or_other : (y z : Option Members) → is_some z ≡ true → is_some (or_else y z) ≡ true
      or_other None z h = h
      or_other (Some k) z h = refl

      -- nobody goes out of an object in which it is at home
      not_home : (q : ℕ) → s.env.exec.home ≡ home.Object q → is_held_up q s.env ≡ false → ⊥
      not_home q e u =
          let here : home_eq s.env.exec.home (home.Object q) ≡ true = ap (λ k. home_eq k (home.Object q)) e ∙ eq-eqb q q refl in
          let held : is_held_up q s.env ≡ true = ap (λ b. b || has_engaged (find q s.env.hand)) here in
          no_both (is_held_up q s.env) held u

      stays_in : (q : ℕ) (y : Request) → asked.request ≡ y → s.env.exec.home ≡ home.Object q → GoesOut t j y q → Unheld y s.env → IsApart y s → StandsAsk part source (own_object t j) y s → ⊥
      stays_in q (ask.Made o) b e g u k v = not_home q e (ap (λ o. is_held_up o s.env) (sym g) ∙ u)
      stays_in q (ask.Spawn o) b e g u k v = not_home q e (ap (λ o. is_held_up o s.env) (sym g) ∙ u)
      stays_in q (ask.Leave o failed) b e g u k v = not_home q e (ap (λ o. is_held_up o s.env) (sym g) ∙ u)
      stays_in q (ask.Wait o c z) b e g u k v = not_home q e (ap (λ o. is_held_up o s.env) (sym g) ∙ u)
      stays_in q (ask.Accept o c z) b e g u k v = not_home q e (ap (λ o. is_held_up o s.env) (sym g) ∙ u)
      stays_in q (ask.SignalBlock o c) b e g u k v = not_home q e (ap (λ o. is_held_up o s.env) (sym g) ∙ u)
      stays_in q (ask.Gone o) b e g u k v = k (e ∙ ap home.Object (sym g))
      stays_in q ask.End b e g u k v = not_home q e (ap (λ o. is_held_up o s.env) (sym g) ∙ v.1)
      stays_in q y b e g u k v = g

      own_here : (q : ℕ) → s.env.exec.home ≡ home.Object q → is_some (find q s.env.hand) ≡ true → is_some (find q (hand_of (held t (j ++ act opts source.sites input j p t n asked)) after.homes)) ≡ true
      own_here q e i =
          let before : has (inside q j) t ≡ true = sym ((law_held j).inside t q) ∙ (ap (λ l. has l q) (sym hand) ∙ found_has q s.env.hand i) in
          by (has (inside q (j ++ a)) t) refl before
        where
          by : (b : Bool) → has (inside q (j ++ act opts source.sites input j p t n asked)) t ≡ b → has (inside q j) t ≡ true → is_some (find q (hand_of (held t (j ++ act opts source.sites input j p t n asked)) after.homes)) ≡ true
          by true h before =
              let now : has (held t (j ++ a)) q ≡ true = (law_held (j ++ a)).inside t q ∙ h in
              hand_there (held t (j ++ a)) after.homes q now (stays_home t q now (or_some (find q s.env.hand) (w.homes q) i))
          by false h before = absurd (stays_in q asked.request refl e (insiders.own q before h) unheld extra stands)

      other_here : (u : ℕ) → (u == t) ≡ false → (q : ℕ) → is_some (find q (hand_of (held u j) w.homes)) ≡ true → is_some (find q (hand_of (held u (j ++ act opts source.sites input j p t n asked)) after.homes)) ≡ true
      other_here u apart q i =
          let old = there_home (held u j) w.homes q i in
          let now : has (held u (j ++ a)) q ≡ true = (law_held (j ++ a)).inside u q ∙ insiders.others u q apart (sym ((law_held j).inside u q) ∙ old.0) in
          hand_there (held u (j ++ a)) after.homes q now (stays_home u q now (or_other (find q s.env.hand) (w.homes q) old.1))

      asking : AsksFor j (act opts source.sites input j p t n asked) t asked.request
      asking = law_asking opts source.sites input j p t n asked r.kernel m on

      goes_on : (y : Request) → (y ≡ ask.End → ⊥) → ((k : ℕ) → y ≡ ask.Fault k → ⊥) → StandsAsk part source (own_object t j) y s → StandsWith part source (own_object t j) (brings y) s
      goes_on ask.End e g h = absurd (e refl)
      goes_on (ask.Fault k) e g h = absurd (g k refl)
      goes_on y e g h = h

      own_after : spawns (act opts source.sites input j p t n asked) t ≡ false → has_ended t (j ++ act opts source.sites input j p t n asked) ≡ false → StandingTask part source (j ++ act opts source.sites input j p t n asked) t (with_hand (hand_of (held t (j ++ act opts source.sites input j p t n asked)) after.homes) s)
      own_after born h =
          let k = law_ends opts source.sites input j p t n asked on h in
          let y : StandsWith part source (own_object t j) (brings asked.request) s = goes_on asked.request k.no_end k.no_fault stands in
          record {
            request = asked.request;
            form = asking.own;
            stands = drawn_stands part source (own_object t j) (own_object t (j ++ a)) asked.request (hand_of (held t (j ++ a)) after.homes) s (own_same t (GoesOut t j asked.request) t j a kicks born) y (hand_stands part source (held t (j ++ a)) after.homes homes_after) (here_drawn part source s.env.own s.env.hand (hand_of (held t (j ++ a)) after.homes) s.env.exec.home y.here own_here);
            binds = binds;
          }

      other_after : (u : ℕ) → (u == t) ≡ false → spawns (act opts source.sites input j p t n asked) u ≡ false → StandingTask part source j u (drawn j w u) → StandingTask part source (j ++ act opts source.sites input j p t n asked) u (with_hand (hand_of (held u (j ++ act opts source.sites input j p t n asked)) after.homes) (w.tasks u))
      other_after u h born y = record {
        request = y.request;
        form = asking.others u h ∙ y.form;
        stands = drawn_stands part source (own_object u j) (own_object u (j ++ a)) y.request (hand_of (held u (j ++ a)) after.homes) (drawn j w u) (own_same t (GoesOut t j asked.request) u j a kicks born) y.stands (hand_stands part source (held u (j ++ a)) after.homes homes_after) (here_drawn part source (drawn j w u).env.own (drawn j w u).env.hand (hand_of (held u (j ++ a)) after.homes) (drawn j w u).env.exec.home y.stands.here (λ q e i. other_here u h q i));
        binds = y.binds;
      }

      -- what is spawned has a main
      child_is_main : StandsWith part source (own_object t j) [] s → IsMain source (child_main source s.run.control)
      child_is_main h = by s.run.control h.run.ok
        where
          by : (l : List Todo) → Ok part source h.run.base h.run.marks l → IsMain source (child_main source l)
          by (piece.ChildNow k ∷ l) g = g.0
          by l g = main

      child_after : (u : ℕ) → (u == t) ≡ false → task_count j ≤ u → u < task_count (j ++ act opts source.sites input j p t n asked) → StandingTask part source (j ++ act opts source.sites input j p t n asked) u (with_hand (hand_of (held u (j ++ act opts source.sites input j p t n asked)) after.homes) (child_of source (own_object u (act opts source.sites input j p t n asked)) s))
      child_after u h le lt =
          let b = spawned_by source input opts range r going deeps p t n s asked d f on u le lt in
          let first : StandsState part source (own_object u a) (child_of source (own_object u a) s) = law_steps.begins part source inner (child_main source s.run.control) (own_object u a) (child_is_main (subst (λ q. StandsAsk part source (own_object t j) q s) b.request stands)) in
          let told : own_object u a ≡ b.object = ap (own_object u) b.entries ∙ own_new u b.object [] _ refl (ap (λ c. where_true c b.object) b.test) in
          let now : own_object u (j ++ a) ≡ b.object = ap (λ l. own_object u (j ++ l)) b.entries ∙ own_new u b.object j _ (x.unowned u le) (ap (λ c. where_true c b.object) b.test) in
          record {
            request = ask.Slice;
            form = asking.others u h ∙ subst (λ (P : Spot). SpotSuits P (asked_form u j)) (sound.few u le) ((kept_run opts source.sites input r.kernel going).suits.spots u);
            stands = drawn_stands part source (own_object u a) (own_object u (j ++ a)) ask.Slice (hand_of (held u (j ++ a)) after.homes) (child_of source (own_object u a) s) (now ∙ sym told) first (hand_stands part source (held u (j ++ a)) after.homes homes_after) refl;
            binds = tt;
          }

      tasks_after : (u : ℕ) → u < task_count (j ++ act opts source.sites input j p t n asked) → has_ended u (j ++ act opts source.sites input j p t n asked) ≡ false → StandingTask part source (j ++ act opts source.sites input j p t n asked) u (drawn (j ++ act opts source.sites input j p t n asked) (world_after source (act opts source.sites input j p t n asked) w t s) u)
      tasks_after u lt alive = by (u == t) refl
        where
          at_rest : State → Type 0
          at_rest v = StandingTask part source (j ++ a) u (with_hand (hand_of (held u (j ++ a)) after.homes) v)

          not_late : spawns a u ≡ false → u < task_count j
          not_late e =
              ⊎_elim (λ k. k) (λ le. no_both (spawns a u) (spawned_true source input opts range r going deeps p t n s asked d f on u le lt) e) (cases_lt u (task_count j))

          late : spawns a u ≡ true → task_count j ≤ u
          late e =
              ⊎_elim (λ lt. no_both (spawns a u) e (spawns_none j a u (lawful_act opts source.sites input j p t n asked sound m) lt)) (λ le. le) (cases_lt u (task_count j))

          other : (u == t) ≡ false → (b : Bool) → spawns a u ≡ b → at_rest (if b then child_of source (own_object u a) s else w.tasks u)
          other h true e = child_after u h (late e) lt
          other h false e = other_after u h e (x.tasks u (not_late e) (ended_before j a u alive))

          by : (b : Bool) → (u == t) ≡ b → at_rest (if b then bare s else if spawns a u then child_of source (own_object u a) s else w.tasks u)
          by true h =
              let same : u ≡ t = eqb-true u t h in
              let born : spawns a t ≡ false = spawns_none j a t (lawful_act opts source.sites input j p t n asked sound m) (known source input opts range r going deeps p t n s asked d) in
              subst (λ v. StandingTask part source (j ++ a) v (with_hand (hand_of (held v (j ++ a)) after.homes) s)) (sym same) (own_after born (ap (λ v. has_ended v (j ++ a)) (sym same) ∙ alive))
          by false h = other h (spawns a u) refl

      unowned_after : (u : ℕ) → task_count (j ++ act opts source.sites input j p t n asked) ≤ u → told_own u (j ++ act opts source.sites input j p t n asked) ≡ []
      unowned_after u le =
          unowned t (GoesOut t j asked.request) u j a kicks (lawful_act opts source.sites input j p t n asked sound m) le (x.unowned u)

      pub standing_act : StandingWorld part source (j ++ act opts source.sites input j p t n asked) (world_after source (act opts source.sites input j p t n asked) w t s)
      standing_act = record { tasks = tasks_after; homes = homes_after; unowned = unowned_after }

  -- a dispatch leaves all as it is
  pub standing_given : {j : Journal} {w : World} (p t : ℕ) → RunRests source input opts j w → Serves opts j p t → StandingWorld part source j w → StandingWorld part source (j ++ dispatch p t ∷ []) w
  standing_given {j} {w} p t r v x =
      let d = law_dispatch opts source.sites input j p t r.kernel v in
      let count : task_count (j ++ dispatch p t ∷ []) ≡ task_count j = (still j (dispatch p t) refl).tasks in
      record {
        tasks = λ u lt alive.
            let y = x.tasks u (omega (arith, lt, count)) (ended_before j (dispatch p t ∷ []) u alive) in
            record {
              request = y.request;
              form = form_push u j (dispatch p t) ∙ y.form;
              stands = subst (λ o. StandsWith part source o (brings y.request) (drawn (j ++ dispatch p t ∷ []) w u)) (sym (own_given u j (dispatch p t) refl)) (subst (λ l. StandsWith part source (own_object u j) (brings y.request) (with_hand (hand_of l w.homes) (w.tasks u))) (sym (d.objects u)) y.stands);
              binds = y.binds;
            };
        homes = x.homes;
        unowned = λ u le. told_dispatch u ∙ x.unowned u (omega (arith, le, count));
      }
    where
      told_dispatch : (u : ℕ) → told_own u (j ++ dispatch p t ∷ []) ≡ told_own u j
      told_dispatch u = told_same t (λ q. ⊥) u j (dispatch p t ∷ []) ((refl, inl refl), tt) refl

  -- a run begins with task 0 in object 0

  begin_form : (u : ℕ) → asked_form u (begin opts ∷ []) ≡ JustGo
  unfolding asked_form
  begin_form u = refl

  one_task : task_count (begin opts ∷ []) ≡ 1
  unfolding task_count
  one_task = omega arith

  -- a main that begins finds nothing in hand but what is at home in object 0
  pub standing_begin : StandingWorld part source (begin opts ∷ []) (first_world source)
  standing_begin = record {
    tasks = λ u lt alive. first u (let n = one_task in omega (arith, lt, n));
    homes = λ o. either (StandsMembers part source (home.Object o)) (o == 0) (Some (quiet.zeros 0)) None tt tt;
    unowned = λ u le. none u (let n = one_task in ne_eqb u 0 (λ same. omega (arith, le, n, same)));
  }
    where
      none : (u : ℕ) → (u == 0) ≡ false → told_own u (begin opts ∷ []) ≡ []
      none u h = still_open_silent (λ e. owns u e.kind e) (λ e o. false) [] (begin opts) (ap (λ b. where_true b 0) h) (λ o. refl)

      first : (u : ℕ) → u ≡ 0 → StandingTask part source (begin opts ∷ []) u (drawn (begin opts ∷ []) (first_world source) u)
      first u e = record {
        request = ask.Slice;
        form = begin_form u;
        stands = drawn_stands part source 0 (own_object u (begin opts ∷ [])) ask.Slice (hand_of (held u (begin opts ∷ [])) first_home) (quiet.first_state (routine_of source source.main) 0) (ap (λ v. own_object v (begin opts ∷ [])) e ∙ own_begin (begin opts) refl) (law_steps.begins part source inner source.main 0 main) (hand_stands part source (held u (begin opts ∷ [])) first_home (λ o. either (StandsMembers part source (home.Object o)) (o == 0) (Some (quiet.zeros 0)) None tt tt)) refl;
        binds = tt;
      }
