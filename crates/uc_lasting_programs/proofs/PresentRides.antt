-- Along a ride activations go on to be told of objects that have not gone, as the task is as deep in objects as it owes them; as far as each step that enters
-- an object again to be destroyed finds its own execution clear of that.
use Rattle.std.proofs.Common.{◌≡◌, ℕ, ◌<◌, ◌⊎◌, inl, inr, suc, ◌||◌, Bool, true, false, List, [], ◌∷◌, Option, Some, None, refl, sym, ap, ◌∙◌, subst}
use Rattle.std.specs.Prelude.{if◌then◌else◌, is_some, nat_eq}
use Rattle.uc_tree.specs.Programs.{Program}
use Rattle.uc_entry.specs.Keyed.{find}
use Rattle.uc_entry.specs.declared.request.Asked.{Asked}
use Rattle.uc_entry.specs.declared.request.Request.{Request}
use Rattle.uc_entry.specs.declared.request.Request.TheVariants as ask
use Rattle.uc_acts.specs.Journal.{Journal, own_object}
use Rattle.uc_acts.specs.Known.{has, is_gone, object_count}
use Rattle.uc_machine.specs.declared.exec.Exec.{Exec}
use Rattle.uc_machine.specs.declared.exec.Home.{Home}
use Rattle.uc_machine.specs.declared.exec.Home.TheVariants as home
use Rattle.uc_machine.specs.Insides.{is_held_up}
use Rattle.uc_machine.specs.Monitors.{this_object}
use Rattle.uc_machine.specs.Pieces as piece
use Rattle.uc_machine.specs.Pieces.{Value, Object, Todo, State, Members, Step, Goes, Ticks, Asks}
use Rattle.uc_machine.specs.Quiet.{quiet, act_todo}
use Rattle.uc_machine.specs.Rides.{Rides, slices, goes_on, ticks, asks}
use Rattle.uc_resolve.specs.Resolve.{source_of}
use Rattle.uc_rules.specs.Breaks.{breaks_of}
use Rattle.uc_sound.specs.SoundFormed.{IsFormed}
use Rattle.uc_sound.specs.Tables.{table_of}
use Rattle.uc_sound.proofs.Routines.{law_entered}
use Rattle.uc_source_laws.specs.SourceLaws.{part_of}
use Rattle.uc_source_laws.proofs.InnerSources.{law_inner}
use Rattle.uc_state_laws.specs.RoomRuns as way
use Rattle.uc_state_laws.specs.RoomRuns.{Leads}
use Rattle.uc_state_laws.specs.Opens.{RideMeets, LeadsMeet}
use Rattle.uc_state_laws.specs.Deep as deep
use Rattle.uc_state_laws.specs.Deep.{deep_in}
use Rattle.uc_state_laws.specs.Places.{is_at}
use Rattle.uc_state_laws.proofs.HandWalk.{walk}
use Rattle.uc_step_laws.specs.Hands.{keys}
use Rattle.uc_step_laws.specs.Holding.{StepHolding}
use Rattle.uc_typing.specs.Typing.{Ty, Obj}
use Rattle.uc_depth_laws.specs.Entering.{Aspect, Other, EnteredSource}
use Rattle.uc_depth_laws.specs.Owing.{Tests, AloneAt, Alone, Deep, DeepStep, IsInside}
use Rattle.uc_depth_laws.proofs.Answers.{law_steps}
use Rattle.uc_depth_laws.proofs.Standing.{law_inside}
use Rattle.uc_inner_laws.specs.Inner.{InnerSource}
use Rattle.uc_inner_laws.specs.Standing.{IsHere, StandsState, StandsStep}
use Rattle.uc_inner_laws.proofs.Walk.{law_steps as inner_steps, law_fair}
use Rattle.uc_letting_laws.proofs.Hands.{found_some}
use Rattle.uc_letting_laws.proofs.LettingWorlds.{sole, tells as tells_others}
use Rattle.uc_life_laws.specs.Things.{Few, Base}
use Rattle.uc_life_laws.specs.Silent.{AllSilent}
use Rattle.uc_life_laws.specs.Knowing.{KnowsState, main_of}
use Rattle.uc_life_laws.specs.Lasting.{lasting}
use Rattle.uc_life_laws.specs.Rooted.{IsBase}
use Rattle.uc_life_laws.proofs.Aparts.{law_apart}
use Rattle.uc_life_laws.proofs.Endings as endings
use Rattle.uc_life_laws.proofs.OwnRides.{Settled}
use Rattle.uc_apart_laws.specs.Clear.{IsClearAt}
use Rattle.uc_apart_laws.proofs.Clear.{law_clear}
use Rattle.uc_making_laws.specs.LettingGo.{LetsState, LetsAsked, LetsStep}
use Rattle.uc_making_laws.proofs.LettingWalk.{law_letting}
use Rattle.uc_making_laws.proofs.Upheld.{settled_next}
use Rattle.uc_lasting_programs.proofs.Bases.{SeatsAlone}
use Rattle.uc_lasting_programs.proofs.Presence.{there, this_present, tells}
use Rattle.uc_lasting_programs.proofs.Visits.{Visits}

-- the object of an activation that does more than to come to its end is not gone behind this journal
abbrev pub IsPresent : Journal → State → Type 0
IsPresent j s = (o : ℕ) → s.run.this ≡ Object o → (AllSilent s.run.control → ⊥) → is_gone o j ≡ false

-- what is entered again to be destroyed is not at hand of who enters it
abbrev pub EntersClear : (p : Program) → Few → State → Type 0
EntersClear p few s = (k : KnowsState (table_of p) few [] s) (m r : ℕ) (todo : List Todo) →
    s.run.control ≡ piece.EnterNow m r ∷ todo →
    IsClearAt (table_of p) few (source_of p) s k (piece.EnterNow m r ∷ todo)

-- a task with this own object that is as deep as it owes, in just these objects, has those in hand, and is told of what has not gone
pub record Stood (p : Program) (j : Journal) (own : ℕ) (news : Tests) (ks hs : List ℕ) (s : State) : Type 0 where
  pub deep : Deep (source_of p) news s
  pub stands : StandsState (part_of p) (source_of p) own s
  pub lets : LetsState (table_of p) (there (λ o. is_gone o j)) s
  pub keys : deep_in s ≡ ks
  pub settled : Settled hs s

-- as a ride begins; these objects are made and not gone, nor is object 0
pub record Began (p : Program) (few : Few) (j : Journal) (task : ℕ) (start : State) : Type 0 where
  pub own : ℕ
  pub news : Tests
  pub mine : (h : Home) (k : Aspect) → news h k own ≡ false
  pub other : (h : Home) (q : ℕ) → (own ≡ q → ⊥) → (h ≡ home.Object q → ⊥) → news h Other q ≡ true
  pub away : (h : Home) (k : Aspect) (q : ℕ) → news h k q ≡ true → h ≡ home.Object q → ⊥
  pub ks : List ℕ
  pub hs : List ℕ
  pub made : (o : ℕ) → has hs o ≡ true → (o < object_count j) × (is_gone o j ≡ false)
  pub held : (o : ℕ) → has ks o ≡ true → (o < object_count j) × (is_gone o j ≡ false)
  pub first : is_gone 0 j ≡ false
  -- the task is at these; and so much is known of where tasks are, where nothing is told of others but seats
  pub own_is : own ≡ own_object task j
  pub here : (o : ℕ) → has hs o ≡ true → is_at task o j ≡ true
  pub visits : SeatsAlone few → Visits few j
  pub stood : Stood p j own news ks hs start

-- what is found in a hand is among its keys
hand_some : (o : ℕ) (m : Members) (ps : List (ℕ × Members)) → find o ps ≡ Some m → has (keys ps) o ≡ true
hand_some o m [] h = cc
hand_some o m (p ∷ ps) h = by (nat_eq p.0 o) (hand_some o m ps) h
  where
    by : (b : Bool) → (find o ps ≡ Some m → has (keys ps) o ≡ true) → (if b then Some p.1 else find o ps) ≡ Some m → (b || has (keys ps) o) ≡ true
    by true ih h = refl
    by false ih h = ih h

settled_keys : (hs : List ℕ) (s : State) → Settled hs s → keys s.env.hand ≡ hs
settled_keys hs s (inl h) = h.env.keys_are
settled_keys hs s (inr h) = h.env.keys_are

-- what asks does not go on
asks_one : (b : Bool) (q r : Request) (x y : State) → ((a : Request) (u : State) → (if b then Asks q x else Asks r y) ≡ Asks a u → ⊥) → ⊥
asks_one true q r x y f = f q x refl
asks_one false q r x y f = f r y refl

module _ (p : Program) (formed : IsFormed p) (ok : breaks_of p ≡ []) (few : Few) (places : (n : Exec) (w : Value) (b : Ty) → Base few n w b → IsBase w b) (j : Journal) where
  entered : EnteredSource (source_of p)
  entered = law_entered p formed ok

  inner : InnerSource (part_of p) (source_of p)
  inner = (law_inner p formed ok).source

  passes : (c o : ℕ) → (lasting few j).numbers (Obj c) o ≡ true → is_gone o j ≡ false
  passes c o h = by (is_gone o j) h
    where
      by : (b : Bool) → (if b then false else few.numbers (Obj c) o) ≡ true → b ≡ false
      by true g = absurd (cc)
      by false g = refl

  -- at a step that does not ask
  alone : (news : Tests) (s : State) → ((k : Aspect) → news s.env.exec.home k s.env.own ≡ false) → KnowsState (table_of p) few [] s → EntersClear p few s → Deep (source_of p) news s → ((r : Request) (u : State) → quiet (source_of p) s ≡ Asks r u → ⊥) → Alone (source_of p) s
  alone news s mine k clear d off = subst (λ l. AloneAt (source_of p) l s) refl (at s.run.control refl)
    where
      acts : (l : List Todo) → s.run.control ≡ l → (r : Request) (u : State) → act_todo (source_of p) l s ≡ Asks r u → ⊥
      acts l e r u q = off r u (ap (λ l. act_todo (source_of p) l s) e ∙ q)

      at : (l : List Todo) → s.run.control ≡ l → AloneAt (source_of p) l s
      at (piece.EnterNow m r ∷ todo) e =
          let c : IsClearAt (table_of p) few (source_of p) s k s.run.control = subst (λ l. IsClearAt (table_of p) few (source_of p) s k l) (sym e) (clear k m r todo e) in
          subst (λ l. AloneAt (source_of p) l s) e (law_apart (table_of p) few (source_of p) news s mine k d (law_clear.step (table_of p) few places (source_of p) s k c))
      at (piece.MadeNow ∷ todo) e = absurd (asks_one (is_held_up (this_object s) s.env) _ _ _ _ (acts (piece.MadeNow ∷ todo) e))
      at (piece.SpawnNow r ∷ todo) e = absurd (asks_one (is_held_up (this_object s) s.env) _ _ _ _ (acts (piece.SpawnNow r ∷ todo) e))
      at (piece.GoneNow ∷ todo) e = absurd (acts (piece.GoneNow ∷ todo) e _ _ refl)
      at (piece.GiveUpNow ∷ todo) e = absurd (acts (piece.GiveUpNow ∷ todo) e _ _ refl)
      at [] e = tt
      at (x ∷ todo) e = tt

  module _ (task : ℕ) (start : State) (b : Began p few j task start) where
    abbrev Here : State → Type 0
    Here s = Stood p j b.own b.news b.ks b.hs s

    made : (s : State) → Here s → (o : ℕ) → IsInside o s.env → (o < object_count j) × (is_gone o j ≡ false)
    made s h o i = b.held o (ap (λ l. has l o) (sym h.keys) ∙ found_some o (suc i.0) s.env.depths i.1)

    pub inside : (s : State) → Here s → (o : ℕ) → IsInside o s.env → is_gone o j ≡ false
    inside s h o i = (made s h o i).1

    present_at : (s : State) → Here s → IsPresent j s
    present_at s h =
        this_present (table_of p) (λ o. is_gone o j) s h.lets b.first (λ n a e l. inside s h _ (law_inside.marked (source_of p) b.news s h.deep n a e l))

    -- so is the own object
    pub own_made : (s : State) → Here s → (s.env.own < object_count j) × (is_gone s.env.own j ≡ false)
    own_made s h = made s h s.env.own (law_inside.own (source_of p) b.news s h.deep)

    -- that at which who runs is at home is in hand
    pub held_home : (s : State) → Here s → (o : ℕ) → s.env.exec.home ≡ home.Object o → has b.hs o ≡ true
    held_home s h o e = by (find o s.env.hand) refl (subst (IsHere s.env.own s.env.hand) e h.stands.here)
      where
        by : (x : Option Members) → find o s.env.hand ≡ x → is_some x ≡ true → has b.hs o ≡ true
        by None f i = let z : false ≡ true = i in absurd (cc)
        by (Some m) f i = ap (λ l. has l o) (sym (settled_keys b.hs s h.settled)) ∙ hand_some o m s.env.hand f

    -- so is that of which it is the main
    pub main_home : (s : State) → Here s → (o : ℕ) → s.env.exec ≡ main_of o → o ≡ s.env.own
    main_home s h o e = subst (IsHere s.env.own s.env.hand) (ap (λ (n : Exec). n.home) e) h.stands.here

    -- both were made, and are not gone
    pub made_home : (s : State) → Here s → (o : ℕ) → (s.env.exec.home ≡ home.Object o) ⊎ (s.env.exec ≡ main_of o) → (o < object_count j) × (is_gone o j ≡ false)
    made_home s h o (inl e) = b.made o (held_home s h o e)
    made_home s h o (inr e) =
        subst (λ (i : ℕ). (i < object_count j) × (is_gone i j ≡ false)) (sym (main_home s h o e)) (own_made s h)

    pub lets_on : (s : State) → KnowsState (table_of p) (lasting few j) [] s → Here s → LetsStep (table_of p) (there (λ o. is_gone o j)) (quiet (source_of p) s)
    lets_on s k h =
        law_letting.steps (table_of p) (there (λ o. is_gone o j)) (source_of p) s h.lets (tells p formed ok (lasting few j) (λ o. is_gone o j) passes s k b.news h.deep h.lets b.first (inside s h))

    deeper : (s : State) → Alone (source_of p) s → Here s → DeepStep (source_of p) b.news s (quiet (source_of p) s)
    deeper s a h =
        law_steps.steps (source_of p) entered b.news s (tells_others (part_of p) (source_of p) entered inner law_steps b.own b.news b.mine b.other b.away s h.stands) h.deep (law_fair (part_of p) (source_of p) b.own s h.stands (sole (part_of p) (source_of p) entered inner law_steps b.own b.news b.mine b.other b.away s a h.deep h.stands))

    pub stand : (s : State) → Here s → StandsStep (part_of p) (source_of p) b.own s (quiet (source_of p) s)
    stand s h = inner_steps.steps (part_of p) (source_of p) inner b.own s h.stands

    goes : (s u : State) → KnowsState (table_of p) (lasting few j) [] s → KnowsState (table_of p) few [] s → EntersClear p few s → Here s → quiet (source_of p) s ≡ Goes u → Here u
    goes s u k l c h e =
        let a = alone b.news s (λ k. ap (b.news s.env.exec.home k) h.stands.own ∙ b.mine s.env.exec.home k) l c h.deep (λ r x q. let z : Goes u ≡ Asks r x = sym e ∙ q in cc) in
        record {
          deep = subst (DeepStep (source_of p) b.news s) e (deeper s a h);
          stands = subst (StandsStep (part_of p) (source_of p) b.own s) e (stand s h);
          lets = subst (LetsStep (table_of p) (there (λ o. is_gone o j))) e (lets_on s k h);
          keys = subst (deep.DeepStep b.ks) e (walk b.ks (source_of p) s h.keys);
          settled = inl (subst (StepHolding b.hs) e (settled_next (source_of p) b.hs s h.settled));
        }

    ticked : (s u : State) → KnowsState (table_of p) (lasting few j) [] s → KnowsState (table_of p) few [] s → EntersClear p few s → Here s → quiet (source_of p) s ≡ Ticks u → Here u
    ticked s u k l c h e =
        let a = alone b.news s (λ k. ap (b.news s.env.exec.home k) h.stands.own ∙ b.mine s.env.exec.home k) l c h.deep (λ r x q. let z : Ticks u ≡ Asks r x = sym e ∙ q in cc) in
        record {
          deep = subst (DeepStep (source_of p) b.news s) e (deeper s a h);
          stands = subst (StandsStep (part_of p) (source_of p) b.own s) e (stand s h);
          lets = subst (LetsStep (table_of p) (there (λ o. is_gone o j))) e (lets_on s k h);
          keys = subst (deep.DeepStep b.ks) e (walk b.ks (source_of p) s h.keys);
          settled = inl (subst (StepHolding b.hs) e (settled_next (source_of p) b.hs s h.settled));
        }

    -- along the way, where all is known in each state before which steps found what they were to find
    module _ (G : State → Type 0) (known : (s : State) (l : Leads (source_of p) start s) → LeadsMeet G (source_of p) start s l → KnowsState (table_of p) (lasting few j) [] s × KnowsState (table_of p) few [] s) (Also : State → Type 0) (also : (s : State) (l : Leads (source_of p) start s) → LeadsMeet G (source_of p) start s l → Also s) (Cond : State → Type 0) (clear : (s : State) (l : Leads (source_of p) start s) → LeadsMeet G (source_of p) start s l → Here s → Cond s → EntersClear p few s) where
      -- a step finds that where the object at hand is present, and where else what follows from all that was found holds; and from this it follows that what
      -- is entered again is not at hand
      abbrev pub Once : State → Type 0
      Once s = Cond s × (IsPresent j s → Also s → G s)

      pub led : {s u : State} (m : Leads (source_of p) start s) → LeadsMeet G (source_of p) start s m → Here s → (l : Leads (source_of p) s u) → LeadsMeet Once (source_of p) s u l → LeadsMeet G (source_of p) s u l
      led m g h way.stays f = tt
      led {s} m g h (way.goes {u = v} e l) f =
          let here : G s = f.0.1 (present_at s h) (also s m g) in
          let k = known s m g in
          (here, led (endings.goes_on G (source_of p) m e) (endings.goes_met G (source_of p) m e g here) (goes s v k.0 k.1 (clear s m g h f.0.0) h e) l f.1)
      led {s} m g h (way.ticks {u = v} e l) f =
          let here : G s = f.0.1 (present_at s h) (also s m g) in
          let k = known s m g in
          (here, led (endings.ticks_on G (source_of p) m e) (endings.ticks_met G (source_of p) m e g here) (ticked s v k.0 k.1 (clear s m g h f.0.0) h e) l f.1)

      -- so it stood on the way
      pub stood_on : ((s : State) → G s → Cond s) → {s u : State} (m : Leads (source_of p) start s) → LeadsMeet G (source_of p) start s m → Here s → (l : Leads (source_of p) s u) → LeadsMeet G (source_of p) s u l → LeadsMeet Here (source_of p) s u l
      stood_on c m g h way.stays f = tt
      stood_on c {s} m g h (way.goes {u = v} e l) f =
          let k = known s m g in
          (h, stood_on c (endings.goes_on G (source_of p) m e) (endings.goes_met G (source_of p) m e g f.0) (goes s v k.0 k.1 (clear s m g h (c s f.0)) h e) l f.1)
      stood_on c {s} m g h (way.ticks {u = v} e l) f =
          let k = known s m g in
          (h, stood_on c (endings.ticks_on G (source_of p) m e) (endings.ticks_met G (source_of p) m e g f.0) (ticked s v k.0 k.1 (clear s m g h (c s f.0)) h e) l f.1)

      pub rode : {s u : State} {q k : ℕ} {a : Asked} (m : Leads (source_of p) start s) → LeadsMeet G (source_of p) start s m → Here s → (r : Rides (source_of p) s q u k a) → RideMeets Once (source_of p) s q u k a r → RideMeets G (source_of p) s q u k a r
      rode m g h slices f = tt
      rode m g h (goes_on {s} {t = v} e r) f =
          let here : G s = f.0.1 (present_at s h) (also s m g) in
          let k = known s m g in
          (here, rode (endings.goes_on G (source_of p) m e) (endings.goes_met G (source_of p) m e g here) (goes s v k.0 k.1 (clear s m g h f.0.0) h e) r f.1)
      rode m g h (ticks {s} {t = v} e r) f =
          let here : G s = f.0.1 (present_at s h) (also s m g) in
          let k = known s m g in
          (here, rode (endings.ticks_on G (source_of p) m e) (endings.ticks_met G (source_of p) m e g here) (ticked s v k.0 k.1 (clear s m g h f.0.0) h e) r f.1)
      rode m g h (asks {s} e) f = f.1 (present_at s h) (also s m g)

      pub cleared : {s u : State} {q k : ℕ} {a : Asked} (m : Leads (source_of p) start s) → LeadsMeet G (source_of p) start s m → Here s → (r : Rides (source_of p) s q u k a) → RideMeets Once (source_of p) s q u k a r → RideMeets (EntersClear p few) (source_of p) s q u k a r
      cleared m g h slices f = tt
      cleared m g h (goes_on {s} {t = v} e r) f =
          let here : G s = f.0.1 (present_at s h) (also s m g) in
          let k = known s m g in
          let c = clear s m g h f.0.0 in
          (c, cleared (endings.goes_on G (source_of p) m e) (endings.goes_met G (source_of p) m e g here) (goes s v k.0 k.1 c h e) r f.1)
      cleared m g h (ticks {s} {t = v} e r) f =
          let here : G s = f.0.1 (present_at s h) (also s m g) in
          let k = known s m g in
          let c = clear s m g h f.0.0 in
          (c, cleared (endings.ticks_on G (source_of p) m e) (endings.ticks_met G (source_of p) m e g here) (ticked s v k.0 k.1 c h e) r f.1)
      cleared m g h (asks {s} e) f = clear s m g h f.0

      -- the state in which this is asked at its end
      pub record AsksAt (a : Request) (u : State) : Type 0 where
        pub state : State
        pub leads : Leads (source_of p) start state
        pub meets : LeadsMeet G (source_of p) start state leads
        pub now : Here state
        pub asks : quiet (source_of p) state ≡ Asks a u

      pub ended : {s u : State} {q k : ℕ} {a : Asked} (m : Leads (source_of p) start s) → LeadsMeet G (source_of p) start s m → Here s → (r : Rides (source_of p) s q u k a) → RideMeets (EntersClear p few) (source_of p) s q u k a r → RideMeets G (source_of p) s q u k a r → (Here u × (a.request ≡ ask.Slice)) ⊎ AsksAt a.request u
      ended m g h slices c f = inl (h, refl)
      ended m g h (goes_on {s} {t = v} e r) c f =
          let k = known s m g in
          ended (endings.goes_on G (source_of p) m e) (endings.goes_met G (source_of p) m e g f.0) (goes s v k.0 k.1 c.0 h e) r c.1 f.1
      ended m g h (ticks {s} {t = v} e r) c f =
          let k = known s m g in
          ended (endings.ticks_on G (source_of p) m e) (endings.ticks_met G (source_of p) m e g f.0) (ticked s v k.0 k.1 c.0 h e) r c.1 f.1
      ended m g h (asks {s} e) c f = inr (record { state = s; leads = m; meets = g; now = h; asks = e })

      -- what is asked then is told of what has not gone
      pub asked_lets : (a : Request) (u : State) → AsksAt a u → LetsState (table_of p) (there (λ o. is_gone o j)) u × LetsAsked (table_of p) (there (λ o. is_gone o j)) a u
      asked_lets a u x = subst (LetsStep (table_of p) (there (λ o. is_gone o j))) x.asks (lets_on x.state (known x.state x.leads x.meets).0 x.now)
