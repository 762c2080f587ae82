-- Where each object at which a task is, is at home in what is the own of somebody who is at home in nothing older than who owns the home of the task's own
-- object: so it goes on to be behind each act, if that holds of what is called and of what is made.
use Rattle.std.proofs.Common.{◌≡◌, ℕ, ◌==◌, ◌<◌, ◌≤◌, ◌⊎◌, inl, inr, ⊎_elim, ◌&&◌, ◌++◌, true, false, not, List, [], ◌∷◌, refl, sym, ap, ◌∙◌, subst, arith}
use Rattle.std.proofs.lemmas.Bool.{eqb-true, cases_lt}
use Rattle.uc_tree.specs.Programs.{Program}
use Rattle.uc_entry.specs.declared.entry.Entry.{Entry}
use Rattle.uc_entry.specs.declared.entry.Options.{Options}
use Rattle.uc_entry.specs.declared.request.Asked.{Asked}
use Rattle.uc_entry.specs.declared.request.Request.{Request}
use Rattle.uc_entry.specs.declared.request.Request.TheVariants as ask
use Rattle.uc_acts.specs.Journal.{Journal, begin, cost, is_over, own_object, where_true}
use Rattle.uc_acts.specs.Acts.{act, row, dispatch}
use Rattle.uc_acts.specs.Known.{object_count, task_count}
use Rattle.uc_acts.specs.KernelRuns.{InRange, Fits, MayAsk}
use Rattle.uc_acts.specs.Sound.{Sound}
use Rattle.uc_acts.proofs.Law.{good_whole, lawful_act}
use Rattle.uc_acts.proofs.Living.{going_row}
use Rattle.uc_acts.proofs.Making.{law_new}
use Rattle.uc_machine.specs.declared.exec.Exec.{Exec}
use Rattle.uc_machine.specs.Pieces.{State}
use Rattle.uc_meaning.specs.Runs.{World, Runs, AsksIn}
use Rattle.uc_name_laws.proofs.Homes.{no_both}
use Rattle.uc_resolve.specs.Resolve.{source_of}
use Rattle.uc_rules.specs.Breaks.{breaks_of}
use Rattle.uc_sound.specs.SoundFormed.{IsFormed}
use Rattle.uc_sound.proofs.Routines.{law_entered}
use Rattle.uc_source_laws.specs.SourceLaws.{part_of}
use Rattle.uc_source_laws.proofs.InnerSources.{law_inner}
use Rattle.uc_state_laws.specs.Fitting.{RunFits}
use Rattle.uc_state_laws.specs.Places.{is_at, SamePlaces, Arrives, Departs, Spawns, PlacesBehind}
use Rattle.uc_state_laws.proofs.DeepWorlds.{DeepWorld, deep_run, known, spawns_none, spawned_by}
use Rattle.uc_state_laws.proofs.Makes.{run_after, one_new}
use Rattle.uc_state_laws.proofs.Others.{RunRests, may_ask, run_rests}
use Rattle.uc_state_laws.proofs.Places.{at_begin, still}
use Rattle.uc_state_laws.proofs.Rows.{row_places}
use Rattle.uc_depth_laws.proofs.Answers.{law_steps}
use Rattle.uc_depth_laws.proofs.Standing.{law_free, law_drawn}
use Rattle.uc_letting_laws.specs.AloneRuns.{RunAlone}
use Rattle.uc_letting_laws.proofs.Insiders.{GoesOut, Kicks, row_kicks}
use Rattle.uc_letting_laws.proofs.LettingWorlds.{both_run}
use Rattle.uc_letting_laws.proofs.Owners.{own_same, own_given, own_new, own_begin}
use Rattle.uc_life_laws.specs.Things.{Few}
use Rattle.uc_life_laws.specs.Belonging.{Belongs}
use Rattle.uc_life_laws.proofs.NewNumbers.{told_object}
use Rattle.uc_lasting_programs.proofs.HomesAway.{number_at}
use Rattle.uc_lasting_programs.proofs.SeatHomes.{one_true, left_both, right_both}

module _ (few : Few) where
  -- an object is at home in what is the own of one that is at home in nothing older than this execution is
  pub record OwnedAfter (n : Exec) (o : ℕ) : Type 0 where
    pub who : Exec
    pub owns : Belongs few who (few.home o)
    pub later : number_at n.home ≤ number_at who.home

  -- so it is of each object at which a task is, and of whom the home of the task's own object belongs to
  abbrev pub Visits : Journal → Type 0
  Visits j = (u o : ℕ) → is_at u o j ≡ true → (n : Exec) → Belongs few n (few.home (own_object u j)) → OwnedAfter n o

  pub own_after : (n : Exec) (o : ℕ) → Belongs few n (few.home o) → OwnedAfter n o
  own_after n o h = record { who = n; owns = h; later = omega arith }

-- who comes where, by what task t asks
abbrev Comes : ℕ → Journal → Request → ℕ → ℕ → Type 0
Comes t j (ask.Make c) u o = (u ≡ t) × (o ≡ object_count j)
Comes t j (ask.Call q m) u o = (u ≡ t) × (o ≡ q)
Comes t j (ask.Spawn q) u o = (u ≡ task_count j) × (o ≡ q)
Comes t j r u o = ⊥

module _ (t : ℕ) (j k : Journal) (u o : ℕ) (h : is_at u o k ≡ true) where
  here : (v q : ℕ) → ((u == v) && (o == q)) ≡ true → (u ≡ v) × (o ≡ q)
  here v q e = (eqb-true u v (left_both (u == v) (o == q) e), eqb-true o q (right_both (u == v) (o == q) e))

  arrived : (q : ℕ) → Arrives t q j k → (is_at u o j ≡ true) ⊎ ((u ≡ t) × (o ≡ q))
  arrived q a =
      ⊎_elim (λ e. inl e) (λ e. inr (here t q e)) (one_true (is_at u o j) ((u == t) && (o == q)) (sym (a.at u o) ∙ h))

  departed : (q : ℕ) → Departs t q j k → is_at u o j ≡ true
  departed q a = left_both (is_at u o j) (not ((u == t) && (o == q))) (sym (a.at u o) ∙ h)

  spawned : (v q : ℕ) → Spawns t v q j k → (is_at u o j ≡ true) ⊎ ((u ≡ v) × (o ≡ q))
  spawned v q a =
      ⊎_elim (λ e. inl (left_both (is_at u o j) (not ((u == t) && (o == q))) e)) (λ e. inr (here v q e)) (one_true (is_at u o j && not ((u == t) && (o == q))) ((u == v) && (o == q)) (sym (a.at u o) ∙ h))

  stayed : SamePlaces j k → is_at u o j ≡ true
  stayed a = sym (a.at u o) ∙ h

  -- who is somewhere behind a request was there before, or comes there
  came : (r : Request) → PlacesBehind t j r k → (is_at u o j ≡ true) ⊎ Comes t j r u o
  came (ask.Make c) p = arrived (object_count j) p
  came (ask.Call q m) p = arrived q p
  came (ask.Made q) p = inl (departed q p)
  came (ask.Leave q failed) p = inl (departed q p)
  came (ask.Gone q) p = inl (departed q p)
  came ask.End p = inl (departed (own_object t j) p)
  came (ask.Spawn q) p = spawned (task_count j) q p
  came r p = inl (stayed p)

spawn_same : (o q : ℕ) → ask.Spawn o ≡ ask.Spawn q → o ≡ q
spawn_same o q e = cc

module _ (p : Program) (formed : IsFormed p) (ok : breaks_of p ≡ []) (few : Few) (input : List ℕ) (opts : Options) (range : InRange opts) where
  pub visits_begun : Visits few (begin opts ∷ [])
  visits_begun u o h n own =
      let x : ((0 == u) && (0 == o)) ≡ true = sym (at_begin opts u o) ∙ h in
      let first : 0 ≡ u = eqb-true 0 u (left_both (0 == u) (0 == o) x) in
      let there : 0 ≡ o = eqb-true 0 o (right_both (0 == u) (0 == o) x) in
      let is : own_object u (begin opts ∷ []) ≡ o = subst (λ (i : ℕ). own_object i (begin opts ∷ []) ≡ o) first (own_begin (begin opts) refl ∙ there) in
      own_after few n o (subst (λ (i : ℕ). Belongs few n (few.home i)) is own)

  pub visits_given : (j : Journal) (q t : ℕ) → Visits few j → Visits few (j ++ dispatch q t ∷ [])
  visits_given j q t v u o h n own =
      v u o (sym ((still j (dispatch q t) refl).at u o) ∙ h) n (subst (λ (i : ℕ). Belongs few n (few.home i)) (own_given u j (dispatch q t) refl) own)

  module _ {j : Journal} {w : World} (r : Runs (source_of p) input opts j w) (f : RunFits (source_of p) input opts j w r) (alone : RunAlone (source_of p) input opts j w r) (on : is_over j ≡ false) (q t k : ℕ) (s : State) (asked : Asked) (d : AsksIn (source_of p) opts j w q t k s asked) (fit : Fits opts (source_of p).sites j t asked.request) (going : is_over (j ++ act opts (source_of p).sites input j q t k asked) ≡ false) where
    abbrev a : List Entry
    a = act opts (source_of p).sites input j q t k asked

    rests : RunRests (source_of p) input opts j w
    rests = run_rests (source_of p) input opts range r f on

    deeps : DeepWorld j w
    deeps = deep_run (source_of p) input opts range r f on

    sound : Sound j
    sound = (good_whole opts (source_of p).sites input rests.kernel).sound

    m : MayAsk opts (source_of p).sites j q t k asked.request
    m = may_ask (source_of p) input opts range d fit

    is : act opts (source_of p).sites input j q t k asked ≡ row opts (source_of p).sites input j q t (cost k asked.line) asked.line asked.request
    is = (going_row opts (source_of p).sites input j q t k asked going).0

    places : PlacesBehind t j asked.request (j ++ act opts (source_of p).sites input j q t k asked)
    places =
        subst (λ l. PlacesBehind t j asked.request (j ++ l)) (sym is) (row_places opts (source_of p).sites input j q t (cost k asked.line) asked.line sound d.runs asked.request fit (ap (λ l. is_over (j ++ l)) (sym is) ∙ going))

    kicks : Kicks t (GoesOut t j asked.request) (act opts (source_of p).sites input j q t k asked)
    kicks =
        subst (Kicks t (GoesOut t j asked.request)) (sym is) (row_kicks opts (source_of p).sites input j q t (cost k asked.line) asked.line asked.request)

    -- a task that was there keeps its own object
    stays : (u : ℕ) → u < task_count j → own_object u (j ++ act opts (source_of p).sites input j q t k asked) ≡ own_object u j
    stays u lt =
        own_same t (GoesOut t j asked.request) u j a kicks (spawns_none j a u (lawful_act opts (source_of p).sites input j q t k asked sound m) lt)

    born : (o : ℕ) → asked.request ≡ ask.Spawn o → own_object (task_count j) (j ++ act opts (source_of p).sites input j q t k asked) ≡ o
    born o e =
        let le : task_count j ≤ task_count j = omega arith in
        let more = (subst (λ x. PlacesBehind t j x (j ++ a)) e places).tasks in
        let b = spawned_by (source_of p) input opts range rests on deeps q t k s asked d fit going (task_count j) le (omega (arith, more)) in
        let unowned = (both_run (part_of p) (source_of p) (law_entered p formed ok) (law_inner p formed ok).source law_steps law_free law_drawn input opts range r f alone on).standing.unowned (task_count j) le in
        ap (λ l. own_object (task_count j) (j ++ l)) b.entries ∙ own_new (task_count j) b.object j _ unowned (ap (λ c. where_true c b.object) b.test) ∙ spawn_same b.object o (sym b.request ∙ e)

    -- what is made is new
    pub makes_more : (c : ℕ) → asked.request ≡ ask.Make c → object_count j < object_count (j ++ act opts (source_of p).sites input j q t k asked)
    makes_more c e =
        told_object opts (source_of p).sites input j q t k asked going c (object_count j) e (law_new opts (source_of p).sites input (j ++ a) (run_after opts (source_of p).sites input j q t k asked rests.kernel m going) going t (object_count j) (one_new opts (source_of p).sites input j q t k asked rests.kernel m going c e)).answer

    -- it goes on so, if that holds of what is called, and of what is made
    pub visits_acted : Visits few j → ((o i : ℕ) → asked.request ≡ ask.Call o i → (n : Exec) → Belongs few n (few.home (own_object t j)) → OwnedAfter few n o) → ((c : ℕ) → asked.request ≡ ask.Make c → (n : Exec) → Belongs few n (few.home (own_object t j)) → OwnedAfter few n (object_count j)) → Visits few (j ++ act opts (source_of p).sites input j q t k asked)
    visits_acted v called made u o h n own = ⊎_elim old (new asked.request refl) (came t j (j ++ a) u o h asked.request places)
      where
        there : is_at u o j ≡ true → u < task_count j
        there e = ⊎_elim (λ lt. lt) (λ le. no_both (is_at u o j) e (deeps.late u o le)) (cases_lt u (task_count j))

        old : is_at u o j ≡ true → OwnedAfter few n o
        old e = v u o e n (subst (λ (i : ℕ). Belongs few n (few.home i)) (stays u (there e)) own)

        mine : u ≡ t → Belongs few n (few.home (own_object t j))
        mine e =
            subst (λ (i : ℕ). Belongs few n (few.home i)) (stays t (known (source_of p) input opts range rests on deeps q t k s asked d)) (subst (λ (i : ℕ). Belongs few n (few.home (own_object i (j ++ a)))) e own)

        new : (x : Request) → asked.request ≡ x → Comes t j x u o → OwnedAfter few n o
        new (ask.Make c) e (whose, what) = subst (OwnedAfter few n) (sym what) (made c e n (mine whose))
        new (ask.Call i z) e (whose, what) = subst (OwnedAfter few n) (sym what) (called i z e n (mine whose))
        new (ask.Spawn i) e (whose, what) =
            own_after few n o (subst (λ (x : ℕ). Belongs few n (few.home x)) (born i e ∙ sym what) (subst (λ (x : ℕ). Belongs few n (few.home (own_object x (j ++ a)))) whose own))
        new x e h = absurd h
