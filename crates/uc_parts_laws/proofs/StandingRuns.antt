-- In each run elements that stand are not gone, as far as each step found what it was to find, and what went was none.
use Rattle.std.proofs.Common.{◌≡◌, ℕ, ◌==◌, Bool, true, false, List, [], ◌∷◌, ◌++◌, Option, Some, None, refl, sym, ap, ◌∙◌, subst, append-nil, append_assoc}
use Rattle.uc_tree.specs.Source.{Shape, Source}
use Rattle.uc_entry.specs.declared.entry.Entry.{Entry}
use Rattle.uc_entry.specs.declared.entry.Options.{Options}
use Rattle.uc_entry.specs.declared.request.Asked.{Asked}
use Rattle.uc_entry.specs.declared.request.Request.{Request}
use Rattle.uc_entry.specs.declared.request.Request.TheVariants as ask
use Rattle.uc_entry.specs.Keyed.{find}
use Rattle.uc_acts.specs.Journal.{Journal, begin, is_over, cost, held, own_object}
use Rattle.uc_acts.specs.Known.{is_gone, is_gone_by, spawns, takes_out}
use Rattle.uc_acts.specs.Acts.{act, row, dispatch, lone_limit}
use Rattle.uc_acts.proofs.Bounds.{over_limit}
use Rattle.uc_acts.proofs.Living.{going_row, gone_still}
use Rattle.uc_acts.proofs.Acting.{object_of, destroys, AllBy, by_row}
use Rattle.uc_answer_laws.proofs.Told.{no_both}
use Rattle.uc_machine.specs.declared.exec.Exec.{Exec}
use Rattle.uc_machine.specs.declared.exec.Home.{Home}
use Rattle.uc_machine.specs.declared.exec.Home.TheVariants as home
use Rattle.uc_machine.specs.Executions.{Execution}
use Rattle.uc_machine.specs.Pieces as piece
use Rattle.uc_machine.specs.Pieces.{Value, Todo, Sort, Active, State, Members}
use Rattle.uc_machine.specs.Quiet.{no_members}
use Rattle.uc_machine.specs.Answering.{child_main, child_of}
use Rattle.uc_machine.specs.Rides.{Rides, slices, goes_on, ticks, asks}
use Rattle.uc_meaning.specs.Runs.{World, Runs, gives, no_room, acts, begun, more, with_home, hand_of, drawn, bare, or_else, world_after}
use Rattle.uc_state_laws.specs.RoomRuns as rooms
use Rattle.uc_state_laws.specs.RoomRuns.{Leads}
use Rattle.uc_state_laws.specs.Opens.{RideMeets, LeadsMeet}
use Rattle.uc_life_laws.specs.LifeStates.{SlotBy, ParkedBy, HandBy}
use Rattle.uc_life_laws.specs.Lasting.{RunMeetsAt}
use Rattle.uc_life_laws.proofs.Cells.{either}
use Rattle.uc_life_laws.proofs.Parked.{found_hand}
use Rattle.uc_putting_laws.specs.Filling.{is_filling}
use Rattle.uc_parts_laws.specs.Standing.{Going, array_of, AllStill, Standing, StandingFirst, StandingStack, StandingFrom, StandingEx, StandingMembers, StandingState, StandingStep, FindsStanding}
use Rattle.uc_parts_laws.specs.StandingRuns.{told_by, StandingWorld, GoesApart, RunGoesApart, LawStandingRuns}
use Rattle.uc_parts_laws.proofs.StandingCells.{unless_map}
use Rattle.uc_parts_laws.proofs.StandingWalk.{law_standing}

-- what is told of more objects: none is gone that was not

module _ (homes : ℕ → Value) (j i : Journal) (f : (o : ℕ) → is_gone o j ≡ false → is_gone o i ≡ false) where
  abbrev Old : Going
  Old = told_by homes j

  abbrev New : Going
  New = told_by homes i

  all_told : (n : Exec) (vs : List Value) (d count : ℕ) (a : Option (Shape × ℕ × ℕ)) → AllStill Old n vs d count a → AllStill New n vs d count a
  all_told n vs d count None h = tt
  all_told n vs d count (Some a) h = λ k l m o e q. f o (h k l m o e q)

  standing_told : (n : Exec) (vs : List Value) (d count : ℕ) (todo : List Todo) → Standing Old n vs d count todo → Standing New n vs d count todo
  standing_told n vs d count [] h = tt
  standing_told n vs d count (piece.CountNow m ∷ todo) h = absurd h
  standing_told n vs d count (piece.Sweep e ∷ todo) h = (unless_map (is_filling todo) _ _ (all_told n vs d count (array_of e)) h.0, standing_told n vs d count todo h.1)
  standing_told n vs d count (p ∷ todo) h = standing_told n vs d count todo h

  first_told : (n : Exec) (vs : List Value) (d count : ℕ) (todo : List Todo) → StandingFirst Old n vs d count todo → StandingFirst New n vs d count todo
  first_told n vs d count (piece.CountNow m ∷ todo) h = standing_told n vs d m todo h
  first_told n vs d count todo h = standing_told n vs d count todo h

  stack_told : (n : Exec) (fs : List (List Value)) (cs : List Active) → StandingStack Old n fs cs → StandingStack New n fs cs
  stack_told n fs [] h = tt
  stack_told n fs (a ∷ older) h = (h.0, standing_told n _ a.frame a.elements a.control h.1, stack_told n fs older h.2)

  from_told : (n : Exec) (fs : List (List Value)) (a : Active) (cs : List Active) → StandingFrom Old n fs a cs → StandingFrom New n fs a cs
  from_told n fs a cs h = (h.0, first_told n _ a.frame a.elements a.control h.1, stack_told n fs cs h.2)

  slot_told : (n : Exec) (x : Option (Execution (List Todo) Value)) → SlotBy (StandingEx Old) n x → SlotBy (StandingEx New) n x
  slot_told n None h = tt
  slot_told n (Some x) h = record { frames = h.frames; stack = from_told n x.frames x.run x.callers h.stack }

  parked_told : (h : Home) (ps : List (ℕ × Option (Execution (List Todo) Value))) → ParkedBy (StandingEx Old) h ps → ParkedBy (StandingEx New) h ps
  parked_told h [] k = tt
  parked_told h (x ∷ ps) k = (slot_told (record { home = h; serial = x.0 }) x.1 k.0, parked_told h ps k.1)

  hand_told : (ps : List (ℕ × Members)) → HandBy (StandingEx Old) ps → HandBy (StandingEx New) ps
  hand_told [] k = tt
  hand_told (x ∷ ps) k = (parked_told (home.Object x.0) x.1.parked k.0, hand_told ps k.1)

  members_told : (h : Home) (m : Option Members) → StandingMembers Old h m → StandingMembers New h m
  members_told h None k = tt
  members_told h (Some m) k = parked_told h m.parked k

  state_told : (s : State) → StandingState Old s → StandingState New s
  state_told s h = record {
    frames = h.frames;
    stack = from_told s.env.exec s.env.frames s.run s.callers h.stack;
    env = record { house = parked_told (home.Task s.env.own) s.env.house.parked h.env.house; hand = hand_told s.env.hand h.env.hand };
  }

  world_told : (x : World) → StandingWorld Old x → StandingWorld New x
  world_told x h = record { tasks = λ u. state_told (x.tasks u) (h.tasks u); homes = λ o. members_told (home.Object o) (x.homes o) (h.homes o) }

-- what acts that let nothing go leave

none_taken : (t o : ℕ) (A : Type 0) (v : ℕ) (j : Journal) (p : ℕ) (a : List Entry) → AllBy p t o A false a → is_gone v (j ++ a) ≡ is_gone v j
none_taken t o A v j p [] h = ap (is_gone v) (append-nil j)
none_taken t o A v j p (e ∷ a) h =
    ap (is_gone v) (sym (append_assoc j (e ∷ []) a)) ∙ (none_taken t o A v (j ++ e ∷ []) p a h.1 ∙ gone_still v j e (no_gone (is_gone_by e.kind) h.0.gone))
  where
    no_gone : (b : Bool) → (b ≡ true → false ≡ true) → b ≡ false
    no_gone true f = absurd (let q = f refl in cc)
    no_gone false f = refl

same_gone : (opts : Options) (source : Source) (input : List ℕ) (j : Journal) (q t k : ℕ) (asked : Asked) → is_over (j ++ act opts source.sites input j q t k asked) ≡ false → destroys asked.request ≡ false → (v : ℕ) → is_gone v (j ++ act opts source.sites input j q t k asked) ≡ is_gone v j
same_gone opts source input j q t k asked still d v =
    let e = (going_row opts source.sites input j q t k asked still).0 in
    ap (λ l. is_gone v (j ++ l)) e ∙ none_taken t (object_of t j asked.request) (Unit {0}) v j q (row opts source.sites input j q t (cost k asked.line) asked.line asked.request) (subst (λ g. AllBy q t (object_of t j asked.request) (Unit {0}) g (row opts source.sites input j q t (cost k asked.line) asked.line asked.request)) d (by_row opts source.sites input j q t (cost k asked.line) asked.line (Unit {0}) asked.request (λ h. tt)))

-- worlds

module _ (told : Going) where
  home_rests : (o : ℕ) (x : Option Members) (hand : List (ℕ × Members)) → StandingMembers told (home.Object o) x → HandBy (StandingEx told) hand → HandBy (StandingEx told) (with_home o x hand)
  home_rests o None hand h k = k
  home_rests o (Some m) hand h k = (h, k)

  hand_rests : (os : List ℕ) (homes : ℕ → Option Members) → ((o : ℕ) → StandingMembers told (home.Object o) (homes o)) → HandBy (StandingEx told) (hand_of os homes)
  hand_rests [] homes h = tt
  hand_rests (o ∷ os) homes h = home_rests o (homes o) (hand_of os homes) (h o) (hand_rests os homes h)

  or_rests : (o : ℕ) (x y : Option Members) → StandingMembers told (home.Object o) x → StandingMembers told (home.Object o) y → StandingMembers told (home.Object o) (or_else x y)
  or_rests o None y h k = k
  or_rests o (Some m) y h k = h

  drawn_rests : (j : Journal) (w : World) (n : ℕ) → StandingWorld told w → StandingState told (drawn j w n)
  drawn_rests j w n x =
      let s = x.tasks n in
      record { frames = s.frames; stack = s.stack; env = record { house = s.env.house; hand = hand_rests (held n j) w.homes x.homes } }

  bare_rests : (s : State) → StandingState told s → StandingState told (bare s)
  bare_rests s h = record { frames = h.frames; stack = h.stack; env = record { house = h.env.house; hand = tt } }

  module _ (source : Source) where
    led : {s u : State} (l : Leads source s u) → LeadsMeet (FindsStanding told) source s u l → StandingState told s → StandingState told u
    led rooms.stays o h = h
    led (rooms.goes {s} e l) o h = led l o.1 (subst (StandingStep told) e (law_standing.steps told source s h o.0))
    led (rooms.ticks {s} e l) o h = led l o.1 (subst (StandingStep told) e (law_standing.steps told source s h o.0))

    ridden : {s u : State} {q k : ℕ} {a : Asked} (r : Rides source s q u k a) → RideMeets (FindsStanding told) source s q u k a r → StandingState told s → StandingState told u
    ridden slices o h = h
    ridden (goes_on {s} e r) o h = ridden r o.1 (subst (StandingStep told) e (law_standing.steps told source s h o.0))
    ridden (ticks {s} e r) o h = ridden r o.1 (subst (StandingStep told) e (law_standing.steps told source s h o.0))
    ridden (asks {s} e) o h = subst (StandingStep told) e (law_standing.steps told source s h o)

    -- after an act whose ride ended in this state
    acted : (w : World) (a : List Entry) (n : ℕ) (s : State) → StandingWorld told w → StandingState told s → StandingWorld told (world_after source a w n s)
    acted w a n s h k = record {
      tasks = λ u. either (StandingState told) (u == n) (bare s) _ (bare_rests s k) (either (StandingState told) (spawns a u) (child_of source (own_object u a) s) (w.tasks u) (law_standing.begins told source (child_main source s.run.control) (own_object u a)) (h.tasks u));
      homes = λ o. either (StandingMembers told (home.Object o)) (takes_out a o) None _ tt (or_rests o (find o s.env.hand) (w.homes o) (found_hand (StandingEx told) o s.env.hand k.env.hand) (h.homes o));
    }

module _ (homes : ℕ → Value) (source : Source) (input : List ℕ) (opts : Options) where
  turned : (j : Journal) (q t k : ℕ) (asked : Asked) (x : World) (r : Request) → asked.request ≡ r → is_over (j ++ act opts source.sites input j q t k asked) ≡ false → StandingWorld (told_by homes j) x → GoesApart homes j (j ++ act opts source.sites input j q t k asked) x asked.request → StandingWorld (told_by homes (j ++ act opts source.sites input j q t k asked)) x
  turned j q t k asked x (ask.Gone o) e on h g =
      let f : StandingWorld (told_by homes j) x → StandingWorld (told_by homes (j ++ act opts source.sites input j q t k asked)) x = subst (GoesApart homes j (j ++ act opts source.sites input j q t k asked) x) e g in
      f h
  turned j q t k asked x r e on h g = plain r refl e
    where
      plain : (z : Request) → destroys z ≡ false → asked.request ≡ z → StandingWorld (told_by homes (j ++ act opts source.sites input j q t k asked)) x
      plain z d i = world_told homes j (j ++ act opts source.sites input j q t k asked) (λ o u. same_gone opts source input j q t k asked on (ap destroys i ∙ d) o ∙ u) x h

  run_standing : {j : Journal} {w : World} (r : Runs source input opts j w) → is_over j ≡ false → RunMeetsAt (λ i s. FindsStanding (told_by homes i) s) source input opts j w r → RunGoesApart homes source input opts j w r → StandingWorld (told_by homes j) w
  run_standing begun on f g = record {
    tasks = λ t. law_standing.begins (told_by homes (begin opts ∷ [])) source source.main 0;
    homes = λ o. either (StandingMembers (told_by homes (begin opts ∷ [])) (home.Object o)) (o == 0) (Some no_members) None tt tt;
  }
  run_standing (more {j} {w} r o (gives q t s le)) on f g =
      world_told homes j (j ++ dispatch q t ∷ []) (λ v e. gone_still v j (dispatch q t) refl ∙ e) w (run_standing r o f.0 g.0)
  run_standing (more {j} {w} r o (no_room q t s le)) on f g = no_both (is_over (j ++ lone_limit ∷ [])) (over_limit j 0 0) on
  run_standing (more {j} {w} r o (acts q t n s asked d)) on f g =
      let x = run_standing r o f.0 g.0 in
      let a = act opts source.sites input j q t n asked in
      let v = ridden (told_by homes j) source d.rides f.1 (law_standing.told (told_by homes j) source d.given (drawn j w t) (drawn_rests (told_by homes j) j w t x)) in
      turned j q t n asked (world_after source a w t s) asked.request refl on (acted (told_by homes j) source w a t s x v) g.1

pub law_standing_runs : LawStandingRuns
law_standing_runs homes source input opts j w r on f g =
    let x = run_standing homes source input opts r on f g in
    record {
      world = x;
      comes = λ u s c l. led (told_by homes j) source c.leads l (law_standing.told (told_by homes j) source c.given (drawn j w u) (drawn_rests (told_by homes j) j w u x));
    }
