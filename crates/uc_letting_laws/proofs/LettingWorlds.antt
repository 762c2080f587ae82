-- In every run tasks are as deep in objects as they owe them, as long as each step finds what it is to find.
use Rattle.std.proofs.Common.{◌≡◌, ℕ, suc, ◌==◌, ◌<◌, ◌≤◌, ◌||◌, ◌⊎◌, inl, inr, Bool, true, false, not, List, [], ◌∷◌, ◌++◌, Option, Some, None, length, ◌+◌, refl, sym, ap, ◌∙◌, subst, arith, append-nil, append_assoc, ⊎_elim}
use Rattle.std.specs.Prelude.{pos, nat_lt, is_some, if◌then◌else◌}
use Rattle.std.proofs.lemmas.Bool.{eqb-true, eq-eqb, ne_eqb, cases_lt}
use Rattle.uc_tree.specs.Source.{Source, routine_of}
use Rattle.uc_entry.specs.declared.entry.Entry.{Entry}
use Rattle.uc_entry.specs.declared.entry.Options.{Options}
use Rattle.uc_entry.specs.declared.request.Answer.TheVariants as answer
use Rattle.uc_entry.specs.declared.request.Asked.{Asked}
use Rattle.uc_entry.specs.declared.request.Request.{Request}
use Rattle.uc_entry.specs.declared.request.Request.TheVariants as ask
use Rattle.uc_entry.specs.Keyed.{find}
use Rattle.uc_acts.specs.Journal.{Journal, begin, cost, asking as asking_entry, inside, held, is_over, own_object}
use Rattle.uc_acts.specs.Known.{has, owner, object_count, task_count, has_ended, is_gone, spawns, takes_object, takes_out}
use Rattle.uc_acts.specs.Answers.{just_made}
use Rattle.uc_acts.specs.Serves.{Serves}
use Rattle.uc_acts.specs.Sound.{Sound, Spot}
use Rattle.uc_acts.specs.Laws.{Makes}
use Rattle.uc_acts.specs.Acts.{act, row, dispatch, lone_limit, or_fault, fault}
use Rattle.uc_acts.proofs.Rows.{Lawful}
use Rattle.uc_tree.specs.declared.limits.TheConstants.{OBJECTS}
use Rattle.uc_entry.specs.declared.entry.EntryKind.TheVariants as kind
use Rattle.uc_acts.specs.KernelRuns.{InRange, Fits, MayAsk}
use Rattle.uc_acts.proofs.Bounds.{over_limit}
use Rattle.uc_acts.proofs.Given.{law_dispatch}
use Rattle.uc_acts.proofs.Hush.{door_silent}
use Rattle.uc_acts.proofs.Making.{law_new}
use Rattle.uc_acts.proofs.Law.{good_whole, lawful_act}
use Rattle.uc_acts.proofs.Living.{going_row, lived_run}
use Rattle.uc_acts.proofs.Counted.{gone_push}
use Rattle.uc_acts.proofs.Held.{law_held}
use Rattle.uc_acts.proofs.Moves.{one_inside}
use Rattle.uc_machine.specs.declared.exec.Exec.{Exec}
use Rattle.uc_machine.specs.declared.exec.Home.{Home}
use Rattle.uc_machine.specs.declared.exec.Home.TheVariants as home
use Rattle.uc_machine.specs.Quiet.{State, Members}
use Rattle.uc_machine.specs.Quiet as quiet
use Rattle.uc_machine.specs.Insides.{has_engaged, is_held_up}
use Rattle.uc_machine.specs.Answering.{answered, child_of, with_hand}
use Rattle.uc_machine.specs.Rides as rides
use Rattle.uc_machine.specs.Rides.{Rides}
use Rattle.uc_meaning.specs.Runs.{World, Runs, May, AsksIn, begun, more, gives, no_room, acts, first_world, first_home, drawn, bare, hand_of, or_else, world_after}
use Rattle.uc_answer_laws.specs.Suiting.{Form, JustGo, IsForm, form_of_request, asked_form, AsksFor}
use Rattle.uc_answer_laws.proofs.Told.{form_push, SpotSuits}
use Rattle.uc_answer_laws.proofs.Runs.{kept_run, law_suiting}
use Rattle.uc_answer_laws.proofs.Asking.{law_asking}
use Rattle.uc_step_laws.specs.Hands.{keys}
use Rattle.uc_step_laws.specs.Holding.{plain}
use Rattle.uc_step_laws.proofs.Kept.{either}
use Rattle.uc_state_laws.specs.Fitting.{MayFit, RunFits}
use Rattle.uc_state_laws.proofs.Alive.{law_alive}
use Rattle.uc_state_laws.proofs.Ticks.{no_both, not_true}
use Rattle.uc_state_laws.proofs.Makes.{makes, one_new, just_made_given, run_after, same_holder, law_ends}
use Rattle.uc_state_laws.proofs.ProgramWorlds.{IsThere, none_found}
use Rattle.uc_state_laws.proofs.Others.{RunRests, run_rests, may_ask, asking as asks_with}
use Rattle.uc_depth_laws.specs.Entering.{Aspect, New, Other, EnteredSource}
use Rattle.uc_depth_laws.proofs.Alone.{law_alone}
use Rattle.uc_depth_laws.specs.Owing as owing
use Rattle.uc_depth_laws.specs.Owing.{Tests, EngagedHand, Free, depth_in, Alone, Sole, Redrawn, IsInside as IsDeepInside, Deep, DeepAsk, LetsGo, Unheld}
use Rattle.uc_depth_laws.specs.DepthLaws.{TellsOthers, Suits, LawSteps, LawFree, LawDrawn}
use Rattle.uc_depth_laws.proofs.Answers.{law_steps}
use Rattle.uc_depth_laws.proofs.Depths.{own_one}
use Rattle.uc_depth_laws.proofs.Renewed.{law_renewed}
use Rattle.uc_depth_laws.proofs.Standing.{law_free, law_drawn}
use Rattle.uc_inner_laws.specs.Inner.{Part, InnerSource}
use Rattle.uc_inner_laws.specs.Standing.{IsHere, StandsState, StandsAsk, StandsStep, StandsAsking}
use Rattle.uc_inner_laws.specs.InnerLaws.{IsAt}
use Rattle.uc_inner_laws.proofs.Walk.{law_steps as inner_steps, law_is_inside, law_fair}
use Rattle.uc_letting_laws.specs.AloneRuns.{RideAlone, MayAlone, RunAlone}
use Rattle.uc_letting_laws.specs.LettingLaws.{AsksInHand, OwnersFit, LeavesFree, LawInHand, LawOwners, LawLeaving}
use Rattle.uc_letting_laws.proofs.StandingWorlds.{Binds, no_binding, IsApart, StandingWorld, found_has, new_away, standing_start, standing_act, standing_given, standing_begin}
use Rattle.uc_state_laws.specs.Deep as deep
use Rattle.uc_state_laws.specs.Deep.{deep_in}
use Rattle.uc_state_laws.proofs.HandWalk.{walk}
use Rattle.uc_letting_laws.proofs.Insiders.{GoesOut, Kicks, Insiders, row_kicks, row_insiders}
use Rattle.uc_letting_laws.proofs.NewObjects.{made_for, gives_away, is_fresh, new_for, told_for, both_hold, both_are, own_not_told, told_away, told_new, told_other, told_stays, other_stays, not_here, nobody, owner_more, owner_stays, new_unowned, new_made, fresh_stays, gives_more, Makers, makers_stay, fresh_made, makers_given, makers_begin}
use Rattle.uc_letting_laws.proofs.Owners.{own_same, own_given}
use Rattle.uc_letting_laws.proofs.Hands.{FreeMembers, Found, free_found, has_self, hand_finds, hand_lacks, redrawn, just_go, found_none, found_some, some_found, found_engaged}
use Rattle.uc_state_laws.proofs.Places.{flipped, still}
use Rattle.uc_state_laws.proofs.Rows.{over_by}
use Rattle.uc_state_laws.proofs.DeepWorlds.{DeepWorld, known, deep_in_hand, deep_run, ended_before, spawns_none, spawned_by, spawned_true}

-- rides

-- what a task asks something of is one of those in which it was deep, or at least in its hand
abbrev AsksAt : ℕ → List ℕ → State → Request → Type 0
AsksAt own ks u (ask.Made o) = has ks o ≡ true
AsksAt own ks u (ask.Spawn o) = has ks o ≡ true
AsksAt own ks u (ask.Leave o failed) = has ks o ≡ true
AsksAt own ks u (ask.Gone o) = has ks o ≡ true
AsksAt own ks u (ask.Accept o site mask) = has ks o ≡ true
AsksAt own ks u (ask.Wait o c n) = has ks o ≡ true
AsksAt own ks u (ask.SignalBlock o c) = has ks o ≡ true
AsksAt own ks u (ask.Signal o c) = (has ks o ≡ true) ⊎ (is_some (find o u.env.hand) ≡ true)
AsksAt own ks u (ask.Empty o c) = (has ks o ≡ true) ⊎ (is_some (find o u.env.hand) ≡ true)
AsksAt own ks u (ask.Front o c) = (has ks o ≡ true) ⊎ (is_some (find o u.env.hand) ≡ true)
AsksAt own ks u ask.End = has ks own ≡ true
AsksAt own ks u r = Unit {0}

module _ (part : ℕ → Part) (source : Source) (entered : EnteredSource source) (inner : InnerSource part source) (steps : LawSteps) (own : ℕ) where
  pub record RideOwes (news : Tests) (ks : List ℕ) (r : Request) (u : State) : Type 0 where
    pub state : DeepAsk source news r u
    pub stands : StandsAsk part source own r u
    pub asks : AsksAt own ks u r
    pub unheld : Unheld r u.env
    pub apart : IsApart r u
    pub behind : deep.DeepBehind r ks (deep_in u)

  module _ (news : Tests) (mine : (h : Home) (k : Aspect) → news h k own ≡ false) (other : (h : Home) (q : ℕ) → (own ≡ q → ⊥) → (h ≡ home.Object q → ⊥) → news h Other q ≡ true) (away : (h : Home) (k : Aspect) (q : ℕ) → news h k q ≡ true → h ≡ home.Object q → ⊥) where
    asks_at : (ks : List ℕ) (s : State) (r : Request) (u : State) → LetsGo news r s → IsAt r s u → keys s.env.depths ≡ ks → s.env.own ≡ own → AsksAt own ks u r
    asks_at ks s r u h i k e = by r h i
      where
        deep_at : (o : ℕ) → IsDeepInside o s.env → has ks o ≡ true
        deep_at o h = ap (λ l. has l o) (sym k) ∙ found_some o (suc h.0) s.env.depths h.1

        or_at : (o : ℕ) → IsDeepInside o s.env ⊎ (is_some (find o u.env.hand) ≡ true) → (has ks o ≡ true) ⊎ (is_some (find o u.env.hand) ≡ true)
        or_at o (inl h) = inl (deep_at o h)
        or_at o (inr h) = inr h

        by : (r : Request) → LetsGo news r s → IsAt r s u → AsksAt own ks u r
        by (ask.Made o) h i = deep_at o h
        by (ask.Spawn o) h i = deep_at o h
        by (ask.Leave o failed) h i = deep_at o h
        by (ask.Gone o) h i = deep_at o h.0
        by (ask.Accept o site mask) h i = deep_at o i
        by (ask.Wait o c n) h i = deep_at o i
        by (ask.SignalBlock o c) h i = deep_at o i
        by (ask.Signal o c) h i = or_at o i
        by (ask.Empty o c) h i = or_at o i
        by (ask.Front o c) h i = or_at o i
        by ask.End h i = subst (λ o. has ks o ≡ true) e (deep_at s.env.own h)
        by r h i = tt

    -- whoever takes an object out is not at home there: it is new, or another
    apart_at : (s : State) (r : Request) (t : State) → LetsGo news r s → t.env.exec ≡ s.env.exec → IsApart r t
    apart_at s (ask.Gone o) t k e = λ h. away s.env.exec.home k.1.0 o k.1.1 (ap (λ (n : Exec). n.home) (sym e) ∙ h)
    apart_at s r t k e = tt

    -- all objects are others but the own one and that in which the running execution is at home
    pub tells : (s : State) → StandsState part source own s → TellsOthers news s
    tells s v q n k = other s.env.exec.home q (λ e. n (v.own ∙ e)) k

    -- nothing else is owed to what is let go of
    pub sole : (s : State) → Alone source s → Deep source news s → StandsState part source own s → Sole source s
    sole s f d v =
        law_alone source news s d (λ k. ap (news s.env.exec.home k) v.own ∙ mine s.env.exec.home k) f

    deeper : (s : State) → Alone source s → Deep source news s → StandsState part source own s → owing.DeepStep source news s (quiet.quiet source s)
    deeper s f d v = steps.steps source entered news s (tells s v) d (law_fair part source own s v (sole s f d v))

    pub ride_owes : (ks : List ℕ) (s : State) (q : ℕ) (u : State) (k : ℕ) (a : Asked) (r : Rides source s q u k a) → RideAlone source s q u k a r → Deep source news s → StandsState part source own s → deep_in s ≡ ks → RideOwes news ks a.request u
    ride_owes ks _ _ _ _ _ rides.slices f d v e = record { state = d; stands = v; asks = tt; unheld = tt; apart = tt; behind = e }
    ride_owes ks _ _ _ _ _ (rides.goes_on {s} {t} {u} {q} {k} {a} g r) f d v e =
        ride_owes ks t (suc q) u k a r f.1 (subst (owing.DeepStep source news s) g (deeper s f.0 d v)) (subst (StandsStep part source own s) g (inner_steps.steps part source inner own s v)) (subst (deep.DeepStep ks) g (walk ks source s e))
    ride_owes ks _ _ _ _ _ (rides.ticks {s} {t} {u} {q} {k} {a} g r) f d v e =
        ride_owes ks t q u k a r f.1 (subst (owing.DeepStep source news s) g (deeper s f.0 d v)) (subst (StandsStep part source own s) g (inner_steps.steps part source inner own s v)) (subst (deep.DeepStep ks) g (walk ks source s e))
    ride_owes ks _ _ _ _ _ (rides.asks {s} {t} {q} {r} g) f d v e =
        let x : owing.DeepAsking source news s r t = subst (owing.DeepStep source news s) g (deeper s f d v) in
        let y : StandsAsking part source own s r t = subst (StandsStep part source own s) g (inner_steps.steps part source inner own s v) in
        record { state = x.state; stands = y.state; asks = asks_at ks s r t x.inside (law_is_inside part source inner own news s v d r t g) e v.own; unheld = x.unheld; apart = apart_at s r t x.inside y.exec; behind = subst (deep.DeepStep ks) g (walk ks source s e) }

-- tasks at rest, behind what they asked last

or_true : (b : Bool) → (b || true) ≡ true
or_true true = refl
or_true false = refl

-- what has gone is gone for good
gone_stays : (o : ℕ) (j a : List Entry) → is_gone o j ≡ true → is_gone o (j ++ a) ≡ true
gone_stays o j [] h = ap (is_gone o) (append-nil j) ∙ h
gone_stays o j (e ∷ a) h =
    ap (is_gone o) (sym (append_assoc j (e ∷ []) a)) ∙ gone_stays o (j ++ e ∷ []) a (gone_push o j e ∙ ap (λ b. b || takes_object e.kind e o) h)

abbrev pub Rests : (source : Source) (news : Tests) → Request → State → Type 0
Rests source news ask.End s = ⊥
Rests source news (ask.Fault n) s = ⊥
Rests source news r s = DeepAsk source news r s

-- an object that was called is not where the execution is at home that called it, one that was asked for is of no task yet, and what was taken out is gone
abbrev pub Brings : ℕ → Journal → Request → Home → Type 0
Brings u j (ask.Call o m) h = h ≡ home.Object o → ⊥
Brings u j (ask.Make c) h = (o : ℕ) → just_made u j ≡ o ∷ [] → is_fresh u j o ≡ true
Brings u j (ask.Gone o) h = is_gone o j ≡ true
Brings u j r h = Unit {0}

pub record OwingTask (source : Source) (j : Journal) (u : ℕ) (s : State) : Type 0 where
  pub request : Request
  pub form : asked_form u j ≡ form_of_request request
  pub rests : Rests source (told_for u j) request s
  pub brings : Brings u j request s.env.exec.home

pub record OwingWorld (source : Source) (j : Journal) (w : World) : Type 0 where
  pub tasks : (u : ℕ) → u < task_count j → has_ended u j ≡ false → OwingTask source j u (drawn j w u)
  pub makers : Makers j
  pub single : (o : ℕ) → length (owner o j) ≤ 1
  pub free : (o : ℕ) → inside o j ≡ [] → FreeMembers source (w.homes o)

module _ (source : Source) (drawing : LawDrawn) where
  rests_drawn : (news : Tests) (r : Request) (hand : List (ℕ × Members)) (s : State) → Rests source news r s → Redrawn source s.env.hand hand → Rests source news r (with_hand hand s)
  rests_drawn news ask.End hand s h d = absurd h
  rests_drawn news (ask.Fault n) hand s h d = absurd h
  rests_drawn news r hand s h d = drawing.asked source news r hand s h d

  rests_again : (news now : Tests) → ((h : Home) (k : Aspect) (q : ℕ) → news h k q ≡ true → now h k q ≡ true) → (r : Request) (s : State) → Rests source news r s → Rests source now r s
  rests_again news now f ask.End s h = absurd h
  rests_again news now f (ask.Fault n) s h = absurd h
  rests_again news now f r s h = law_renewed.asked source news now f r s h

-- what asks to spawn goes on as one that yields its processor
abbrev settled : Request → Request
settled (ask.Spawn o) = ask.Slice
settled r = r

settled_form : (r : Request) → form_of_request (settled r) ≡ form_of_request r
settled_form (ask.Spawn o) = refl
settled_form r = refl

module _ (part : ℕ → Part) (source : Source) (entered : EnteredSource source) (inner : InnerSource part source) (steps : LawSteps) (freeing : LawFree) (drawing : LawDrawn) (input : List ℕ) (opts : Options) (range : InRange opts) where
  module _ {j : Journal} {w : World} (r : RunRests source input opts j w) (going : is_over j ≡ false) (deeps : DeepWorld j w) (x : OwingWorld source j w) (z : StandingWorld part source j w) (p t n : ℕ) (s : State) (asked : Asked) (d : AsksIn source opts j w p t n s asked) where
    sound : Sound j
    sound = (good_whole opts source.sites input r.kernel).sound

    mine : OwingTask source j t (drawn j w t)
    mine = x.tasks t (known source input opts range r going deeps p t n s asked d) (law_alive opts source.sites input j r.kernel going p t d.runs)

    -- its answer is one to what it asked
    suits : (q : Request) → asked_form t j ≡ form_of_request q → Rests source (told_for t j) q (drawn j w t) → Brings t j q (drawn j w t).env.exec.home → DeepAsk source (told_for t j) q (drawn j w t) × Suits (told_for t j) q d.given (drawn j w t)
    suits (ask.Call o m) f h n = (h, (goes f, n))
      where
        goes : asked_form t j ≡ JustGo → d.given ≡ answer.Go
        goes f = just_go d.given (subst (λ (y : Form). IsForm y d.given) f (law_suiting opts source.sites input j r.kernel going t d.given d.told))
    suits ask.Slice f h n = (h, goes f)
      where
        goes : asked_form t j ≡ JustGo → d.given ≡ answer.Go
        goes f = just_go d.given (subst (λ (y : Form). IsForm y d.given) f (law_suiting opts source.sites input j r.kernel going t d.given d.told))
    suits (ask.Make c) f h g = (h, makes_known (r.rests.tasks t).control)
      where
        makes_known : (plain (w.tasks t).run.control ≡ true) ⊎ ((o : ℕ) × (just_made t j ≡ o ∷ [])) → (o : ℕ) × (d.given ≡ answer.Object o) × (find o (w.tasks t).env.depths ≡ None) × ((k : Aspect) → told_for t j (w.tasks t).env.exec.home k o ≡ true)
        makes_known (inl g) = absurd (no_binding (w.tasks t).run.control g h.0)
        makes_known (inr y) =
            let new = law_new opts source.sites input j r.kernel going t y.0 y.1 in
            let told : Some d.given ≡ Some (answer.Object y.0) = sym d.told ∙ new.answer in
            let here = deeps.tasks t (known source input opts range r going deeps p t n s asked d) (law_alive opts source.sites input j r.kernel going p t d.runs) in
            let none : find y.0 (w.tasks t).env.depths ≡ None = found_none y.0 (w.tasks t).env.depths (here.new y.0 y.1) in
            let is : d.given ≡ answer.Object y.0 = cc told in
            (y.0, is, none, tells_made y.0 (both_are (is_fresh t j y.0) (not (own_object t j == y.0)) (g y.0 y.1) (ap not (apart y.0 none))) (apart y.0 none) (new_elsewhere y.0 is))
          where
            new_elsewhere : (o : ℕ) → d.given ≡ answer.Object o → (w.tasks t).env.exec.home ≡ home.Object o → ⊥
            new_elsewhere o e =
                new_away part source inner entered.ends input opts range r going deeps z p t n s asked d o h.0 (z.tasks t (known source input opts range r going deeps p t n s asked d) (law_alive opts source.sites input j r.kernel going p t d.runs)).stands.here e

            tells_made : (o : ℕ) → new_for t j o ≡ true → (own_object t j == o) ≡ false → ((w.tasks t).env.exec.home ≡ home.Object o → ⊥) → (k : Aspect) → told_for t j (w.tasks t).env.exec.home k o ≡ true
            tells_made o n m i New = both_are (new_for t j o) _ n (not_here (w.tasks t).env.exec.home o i)
            tells_made o n m i Other = both_are (not (own_object t j == o)) _ (ap not m) (not_here (w.tasks t).env.exec.home o i)

            -- the own object is one in which the task is
            own : own_object t j ≡ (w.tasks t).env.own
            own = sym (z.tasks t (known source input opts range r going deeps p t n s asked d) (law_alive opts source.sites input j r.kernel going p t d.runs)).stands.own

            apart : (o : ℕ) → find o (w.tasks t).env.depths ≡ None → (own_object t j == o) ≡ false
            apart o none = ne_eqb (own_object t j) o (λ e.
                let a = h.1.depths (w.tasks t).env.own in
                let b = own_one (w.tasks t).env.own in
                let c : depth_in (find (w.tasks t).env.own (w.tasks t).env.depths) ≡ 0 = ap depth_in (subst (λ q. find q (w.tasks t).env.depths ≡ None) (sym e ∙ own) none) in
                omega (arith, a, b, c))
    suits (ask.Gone o) f h n = (h, hand_lacks (held t j) w.homes o ((law_held j).inside t o ∙ ap (λ l. has l t) ((lived_run opts source.sites input r.kernel going).dead o n).inside))
    suits ask.End f h n = absurd h
    suits (ask.Fault k) f h n = absurd h
    suits q f h n = (h, tt)

    pub start : Deep source (told_for t j) (answered source d.given (drawn j w t))
    start =
        let y = suits mine.request mine.form mine.rests mine.brings in
        steps.told source (told_for t j) mine.request d.given (drawn j w t) y.0 y.1

    module _ (fair : RideAlone source _ _ s n asked d.rides) where
      owes : RideOwes part source entered inner steps (own_object t j) (told_for t j) (deep_in (answered source d.given (drawn j w t))) asked.request s
      owes =
          ride_owes part source entered inner steps (own_object t j) (told_for t j) (own_not_told t j) (told_other t j) (told_away t j) (deep_in (answered source d.given (drawn j w t))) _ _ s n asked d.rides fair start (standing_start part source inner entered.ends input opts range r going deeps z p t n s asked d) refl

      asks_in_hand : AsksInHand (own_object t j) (keys s.env.hand) asked.request
      asks_in_hand = by asked.request owes.asks
        where
          same : (o : ℕ) → has (deep_in (answered source d.given (drawn j w t))) o ≡ true → has (keys s.env.hand) o ≡ true
          same o h = sym (deep_in_hand source input opts range r going deeps p t n s asked d o) ∙ h

          either_in : (o : ℕ) → (has (deep_in (answered source d.given (drawn j w t))) o ≡ true) ⊎ (is_some (find o s.env.hand) ≡ true) → has (keys s.env.hand) o ≡ true
          either_in o (inl h) = same o h
          either_in o (inr h) = found_has o s.env.hand h

          by : (q : Request) → AsksAt (own_object t j) (deep_in (answered source d.given (drawn j w t))) s q → AsksInHand (own_object t j) (keys s.env.hand) q
          by (ask.Made o) h = same o h
          by (ask.Spawn o) h = same o h
          by (ask.Leave o failed) h = same o h
          by (ask.Gone o) h = same o h
          by (ask.Accept o site mask) h = same o h
          by (ask.Wait o c k) h = same o h
          by (ask.SignalBlock o c) h = same o h
          by (ask.Signal o c) h = either_in o h
          by (ask.Empty o c) h = either_in o h
          by (ask.Front o c) h = either_in o h
          by ask.End h = same (own_object t j) h
          by q h = tt

      owners_fit : OwnersFit j asked.request
      owners_fit = by asked.request owes.state
        where
          by : (q : Request) → DeepAsk source (told_for t j) q s → OwnersFit j q
          by (ask.Spawn o) h = new_unowned t j o (told_new t j s.env.exec.home o h.1)
          by (ask.Raise o event a b) h = x.single o
          by q h = tt

      -- what it calls is not where it is at home: that is in hand
      not_called : (o m : ℕ) → asked.request ≡ ask.Call o m → s.env.exec.home ≡ home.Object o → ⊥
      not_called o m e i =
          let b : deep.DeepBehind (ask.Call o m) (deep_in (answered source d.given (drawn j w t))) (deep_in s) = subst (λ q. deep.DeepBehind q (deep_in (answered source d.given (drawn j w t))) (deep_in s)) e owes.behind in
          let v : StandsAsk part source (own_object t j) (ask.Call o m) s = subst (λ q. StandsAsk part source (own_object t j) q s) e owes.stands in
          let here : is_some (find o s.env.hand) ≡ true = subst (λ (k : Home). IsHere s.env.own s.env.hand k) i v.here in
          no_both (has (keys s.env.hand) o) (found_has o s.env.hand here) (sym (deep_in_hand source input opts range r going deeps p t n s asked d o) ∙ b.0)

      leaves_free : LeavesFree (own_object t j) asked.request s
      leaves_free = by asked.request owes.stands owes.apart
        where
          by : (q : Request) → StandsAsk part source (own_object t j) q s → IsApart q s → LeavesFree (own_object t j) q s
          by (ask.Gone o) h k = k
          by ask.End h k = h.1
          by q h k = tt

      hand : keys s.env.hand ≡ held t j
      hand = (asks_with source input opts range r going p t n s asked d).hand

      in_hand : (o : ℕ) → has (keys s.env.hand) o ≡ has (inside o j) t
      in_hand o = ap (λ l. has l o) hand ∙ (law_held j).inside t o

      module _ (f : Fits opts source.sites j t asked.request) (on : is_over (j ++ act opts source.sites input j p t n asked) ≡ false) where
        abbrev a : List Entry
        a = act opts source.sites input j p t n asked

        abbrev after : World
        after = world_after source (act opts source.sites input j p t n asked) w t s

        m : MayAsk opts source.sites j p t n asked.request
        m = may_ask source input opts range d f

        made : Makes j (act opts source.sites input j p t n asked) t
        made = makes opts source.sites input j p t n asked r.kernel m on

        sound_after : Sound (j ++ act opts source.sites input j p t n asked)
        sound_after = (good_whole opts source.sites input (run_after opts source.sites input j p t n asked r.kernel m on)).sound

        is : act opts source.sites input j p t n asked ≡ row opts source.sites input j p t (cost n asked.line) asked.line asked.request
        is = (going_row opts source.sites input j p t n asked on).0

        insiders : Insiders t (GoesOut t j asked.request) j (j ++ act opts source.sites input j p t n asked)
        insiders = subst (λ l. Insiders t (GoesOut t j asked.request) j (j ++ l)) (sym is) (row_insiders opts source.sites input j p t (cost n asked.line) asked.line asked.request)

        kicks : Kicks t (GoesOut t j asked.request) (act opts source.sites input j p t n asked)
        kicks = subst (Kicks t (GoesOut t j asked.request)) (sym is) (row_kicks opts source.sites input j p t (cost n asked.line) asked.line asked.request)

        lawful : Lawful j (act opts source.sites input j p t n asked)
        lawful = lawful_act opts source.sites input j p t n asked sound m

        -- what is given away is spawned
        given_away : (o : ℕ) → gives_away o (act opts source.sites input j p t n asked) ≡ true → asked.request ≡ ask.Spawn o
        given_away o g =
            let b = spawned_by source input opts range r going deeps p t n s asked d f on (task_count j) (omega arith) (gives_more o t (GoesOut t j asked.request) j a kicks g) in
            let same : b.object ≡ o = eqb-true b.object o (or_false_is (b.object == o) (sym (ap (gives_away o) b.entries) ∙ g)) in
            b.request ∙ ap ask.Spawn same
          where
            or_false_is : (c : Bool) → (c || false) ≡ true → c ≡ true
            or_false_is true h = refl
            or_false_is false h = h

        spawned_new : (o : ℕ) → asked.request ≡ ask.Spawn o → new_for t j o ≡ true
        spawned_new o e = told_new t j s.env.exec.home o (subst (λ q. DeepAsk source (told_for t j) q s) e owes.state).1

        -- not what another task has made
        kept_of : (u : ℕ) → (u == t) ≡ false → (o : ℕ) → made_for u o j ≡ true → gives_away o (act opts source.sites input j p t n asked) ≡ false
        kept_of u h o g =
            not_true (gives_away o a) (λ e. no_both (u == t) (eq-eqb u t (x.makers.one u t o g (new_made t j o (spawned_new o (given_away o e))))) h)

        single_after : (o : ℕ) → length (owner o (j ++ act opts source.sites input j p t n asked)) ≤ 1
        single_after o = by (gives_away o a) refl
          where
            by : (b : Bool) → gives_away o (act opts source.sites input j p t n asked) ≡ b → length (owner o (j ++ act opts source.sites input j p t n asked)) ≤ 1
            by false g = let same = ap length (owner_stays o j a g) in let l = x.single o in omega (arith, same, l)
            by true g =
                let b = spawned_by source input opts range r going deeps p t n s asked d f on (task_count j) (omega arith) (gives_more o t (GoesOut t j asked.request) j a kicks g) in
                let none = ap length (new_unowned t j o (spawned_new o (given_away o g))) in
                let l = subst (λ l. length (owner o (j ++ l)) ≤ length (owner o j) + 1) (sym b.entries) (owner_more o j (asking_entry kind.Spawn p t (cost n asked.line) b.object (pos (task_count j)) (pos 0))) in
                omega (arith, none, l)

        told_others : (u : ℕ) → (u == t) ≡ false → spawns (act opts source.sites input j p t n asked) u ≡ false → (h : Home) (k : Aspect) (o : ℕ) → told_for u j h k o ≡ true → told_for u (j ++ act opts source.sites input j p t n asked) h k o ≡ true
        told_others u n born h New o g =
            told_stays u o j a h New (kept_of u n o (new_made u j o (told_new u j h o g))) (own_same t (GoesOut t j asked.request) u j a kicks born) g
        told_others u n born h Other o g = other_stays u o j a h (own_same t (GoesOut t j asked.request) u j a kicks born) g

        born_not : spawns (act opts source.sites input j p t n asked) t ≡ false
        born_not = spawns_none j a t lawful (known source input opts range r going deeps p t n s asked d)

        engaged_hand : EngagedHand source (told_for t j) s.env.hand
        engaged_hand = by asked.request refl owes.state
          where
            by : (q : Request) → asked.request ≡ q → DeepAsk source (told_for t j) q s → EngagedHand source (told_for t j) s.env.hand
            by (ask.Call o c) e h = (h (not_called o c e)).env.hand
            by (ask.Make c) e h = h.1.env.hand
            by ask.Slice e h = h.env.hand
            by (ask.Spawn o) e h = h.0.deep.env.hand
            by (ask.Gone o) e h = h.1
            by ask.End e h = h.hand
            by (ask.Fault k) e h =
                no_both (is_over (j ++ a)) (ap (λ l. is_over (j ++ l)) (is ∙ ap (row opts source.sites input j p t (cost n asked.line) asked.line) e) ∙ over_by j _ refl) on
            by q e h = h.deep.env.hand

        homes_by : (P : Option Members → Type 0) (o : ℕ) → (takes_out a o ≡ true → P None) → (takes_out a o ≡ false → P (or_else (find o s.env.hand) (w.homes o))) → P (after.homes o)
        homes_by P o h k = by (takes_out a o) refl
          where
            by : (b : Bool) → takes_out a o ≡ b → P (if b then None else or_else (find o s.env.hand) (w.homes o))
            by true e = h e
            by false e = k e

        -- what was in hand and goes out of it owes nothing
        out_free : (o : ℕ) → has (keys s.env.hand) o ≡ true → is_held_up o s.env ≡ false → FreeMembers source (after.homes o)
        out_free o h u = homes_by (FreeMembers source) o (λ e. tt) (λ e. by (find o s.env.hand) refl (some_found o s.env.hand h))
          where
            or_second : (b c : Bool) → (b || c) ≡ false → c ≡ false
            or_second true c g = cc
            or_second false c g = g

            by : (y : Option Members) → find o s.env.hand ≡ y → IsThere y → FreeMembers source (or_else y (w.homes o))
            by None e g = absurd g
            by (Some k) e g =
                freeing source (told_for t j (home.Object o)) k (found_engaged source (told_for t j) o s.env.hand k engaged_hand e) (ap has_engaged (sym e) ∙ or_second _ (has_engaged (find o s.env.hand)) u)

        at_end : (q : Request) → q ≡ ask.End → StandsAsk part source (own_object t j) q s → is_held_up (own_object t j) s.env ≡ false
        at_end q e h = (subst (λ y. StandsAsk part source (own_object t j) y s) e h).1

        gone_out : (o : ℕ) → (q : Request) → asked.request ≡ q → GoesOut t j q o → Unheld q s.env → has (keys s.env.hand) o ≡ true → FreeMembers source (after.homes o)
        gone_out o (ask.Made v) e g u h = out_free o h (ap (λ k. is_held_up k s.env) (sym g) ∙ u)
        gone_out o (ask.Spawn v) e g u h = out_free o h (ap (λ k. is_held_up k s.env) (sym g) ∙ u)
        gone_out o (ask.Leave v failed) e g u h = out_free o h (ap (λ k. is_held_up k s.env) (sym g) ∙ u)
        gone_out o (ask.Wait v c k) e g u h = out_free o h (ap (λ k. is_held_up k s.env) (sym g) ∙ u)
        gone_out o (ask.Accept v c k) e g u h = out_free o h (ap (λ k. is_held_up k s.env) (sym g) ∙ u)
        gone_out o (ask.SignalBlock v c) e g u h = out_free o h (ap (λ k. is_held_up k s.env) (sym g) ∙ u)
        gone_out o ask.End e g u h = out_free o h (ap (λ k. is_held_up k s.env) (sym g) ∙ at_end asked.request e owes.stands)
        gone_out o (ask.Gone v) e g u h =
            let out : takes_out a o ≡ true = ap (λ l. takes_out l o) (is ∙ ap (row opts source.sites input j p t (cost n asked.line) asked.line) e) ∙ ap (λ b. b || false) (eq-eqb o v (sym g)) in
            homes_by (FreeMembers source) o (λ k. tt) (λ k. no_both (takes_out a o) out k)
        gone_out o q e g u h = absurd g

        -- an object that is left by whoever is inside, or to which somebody comes
        let_out : (o : ℕ) → (has (inside o j) t ≡ true → has (inside o (j ++ act opts source.sites input j p t n asked)) t ≡ false) → ((v : ℕ) → has (inside o j) v ≡ true → (v == t) ≡ false → ⊥) → FreeMembers source (after.homes o)
        let_out o out others = by (has (inside o j) t) refl
          where
            none : (has (inside o j) t) ≡ false → (l : List ℕ) → inside o j ≡ l → l ≡ []
            none h [] e = refl
            none h (v ∷ l) e =
                let there : has (inside o j) v ≡ true = ap (λ y. has y v) e ∙ has_self v l in
                absurd (others v there (not_true (v == t) (λ g. no_both (has (inside o j) t) (ap (has (inside o j)) (sym (eqb-true v t g)) ∙ there) h)))

            by : (b : Bool) → has (inside o j) t ≡ b → FreeMembers source (after.homes o)
            by true h = gone_out o asked.request refl (insiders.own o h (out h)) owes.unheld (in_hand o ∙ h)
            by false h =
                homes_by (FreeMembers source) o (λ e. tt) (λ e. subst (λ y. FreeMembers source (or_else y (w.homes o))) (sym (none_found o s.env.hand (in_hand o ∙ h))) (x.free o (none h (inside o j) refl)))

        new_free : (v o : ℕ) → has (inside o (j ++ act opts source.sites input j p t n asked)) v ≡ true → has (inside o j) v ≡ false → FreeMembers source (after.homes o)
        new_free v o h g =
            let one = one_inside (j ++ a) o v sound_after h in
            let_out o (λ e. ap (λ l. has l t) one ∙ ap (λ b. b || false) (not_true (v == t) (λ k. no_both (has (inside o j) v) (ap (has (inside o j)) (eqb-true v t k) ∙ e) g))) (λ u e k. no_both (has (inside o j) v) (ap (has (inside o j)) (sym (eqb-true u v (only u one (insiders.others u o k e)))) ∙ e) g)
          where
            only : (u : ℕ) → inside o (j ++ act opts source.sites input j p t n asked) ≡ v ∷ [] → has (inside o (j ++ act opts source.sites input j p t n asked)) u ≡ true → (u == v) ≡ true
            only u one k = flipped u v ∙ first (v == u) (ap (λ l. has l u) (sym one) ∙ k)
              where
                first : (b : Bool) → (b || false) ≡ true → b ≡ true
                first true e = refl
                first false e = e

        free_after : (o : ℕ) → inside o (j ++ act opts source.sites input j p t n asked) ≡ [] → FreeMembers source (after.homes o)
        free_after o h =
            let_out o (λ e. ap (λ l. has l t) h) (λ v e k. no_both (has (inside o (j ++ a)) v) (insiders.others v o k e) (ap (λ l. has l v) h))

        -- hands that are drawn anew

        redrawn_to : (u : ℕ) (old : List (ℕ × Members)) → ((o : ℕ) → has (held u j) o ≡ true → (k : Members) → after.homes o ≡ Some k → find o old ≡ Some k) → Redrawn source old (hand_of (held u (j ++ act opts source.sites input j p t n asked)) (world_after source (act opts source.sites input j p t n asked) w t s).homes)
        redrawn_to u old agree =
            redrawn source old (held u (j ++ a)) after.homes ((law_held (j ++ a)).once u) (λ o h. by o h (has (held u j) o) refl)
          where
            found_as : (o : ℕ) (y : Option Members) → after.homes o ≡ y → ((k : Members) → after.homes o ≡ Some k → find o old ≡ Some k) → Found source old o y
            found_as o None e f = tt
            found_as o (Some k) e f = inr (f k e)

            by : (o : ℕ) → has (held u (j ++ a)) o ≡ true → (b : Bool) → has (held u j) o ≡ b → Found source old o (after.homes o)
            by o h true g = found_as o (after.homes o) refl (agree o g)
            by o h false g =
                free_found source old o (after.homes o) (new_free u o (sym ((law_held (j ++ a)).inside u o) ∙ h) (sym ((law_held j).inside u o) ∙ g))

        own_agrees : (o : ℕ) → has (held t j) o ≡ true → (k : Members) → after.homes o ≡ Some k → find o s.env.hand ≡ Some k
        own_agrees o h k =
            homes_by (λ y. y ≡ Some k → find o s.env.hand ≡ Some k) o (λ e g. cc) (λ e. by (find o s.env.hand) refl (some_found o s.env.hand (ap (λ l. has l o) hand ∙ h)))
          where
            by : (y : Option Members) → find o s.env.hand ≡ y → IsThere y → or_else y (w.homes o) ≡ Some k → find o s.env.hand ≡ Some k
            by None e i g = absurd i
            by (Some v) e i g = e ∙ g

        other_agrees : (u : ℕ) → (u == t) ≡ false → (o : ℕ) → has (held u j) o ≡ true → (k : Members) → after.homes o ≡ Some k → find o (hand_of (held u j) w.homes) ≡ Some k
        other_agrees u n o h k =
            homes_by (λ y. y ≡ Some k → find o (hand_of (held u j) w.homes) ≡ Some k) o (λ e g. cc) (λ e g. hand_finds (held u j) w.homes o k h (by (find o s.env.hand) (none_found o s.env.hand apart) g))
          where
            apart : has (keys s.env.hand) o ≡ false
            apart =
                ap (λ l. has l o) hand ∙ not_true (has (held t j) o) (λ e. no_both (u == t) (eq-eqb u t (same_holder j t u o sound e h)) n)

            by : (y : Option Members) → y ≡ None → or_else y (w.homes o) ≡ Some k → w.homes o ≡ Some k
            by None e g = g
            by (Some v) e g = cc

        -- with what is new behind the act
        to_rests : (q : Request) → asked.request ≡ q → (q ≡ ask.End → ⊥) → ((k : ℕ) → q ≡ ask.Fault k → ⊥) → DeepAsk source (told_for t j) q s → Rests source (told_for t (j ++ act opts source.sites input j p t n asked)) (settled q) s
        to_rests q k e g h = by q k e g h
          where
            still : (h : Home) (i : Aspect) (v : ℕ) → gives_away v (act opts source.sites input j p t n asked) ≡ false → told_for t j h i v ≡ true → told_for t (j ++ act opts source.sites input j p t n asked) h i v ≡ true
            still h i v w n = told_stays t v j a h i w (own_same t (GoesOut t j asked.request) t j a kicks born_not) n

            -- unless it spawns something
            unspawned : ((v : ℕ) → asked.request ≡ ask.Spawn v → ⊥) → (h : Home) (i : Aspect) (v : ℕ) → told_for t j h i v ≡ true → told_for t (j ++ act opts source.sites input j p t n asked) h i v ≡ true
            unspawned k h i v n = still h i v (not_true (gives_away v a) (λ w. k v (given_away v w))) n

            or_spawned : (o : ℕ) → asked.request ≡ ask.Spawn o → (h : Home) (i : Aspect) (v : ℕ) (b : Bool) → gives_away v (act opts source.sites input j p t n asked) ≡ b → told_for t j h i v ≡ true → (o ≡ v) ⊎ (told_for t (j ++ act opts source.sites input j p t n asked) h i v ≡ true)
            or_spawned o k h i v true w n = let same = sym k ∙ given_away v w in inl (cc same)
            or_spawned o k h i v false w n = inr (still h i v w n)

            other : (q : Request) → asked.request ≡ q → ((v : ℕ) → q ≡ ask.Spawn v → ⊥) → (v : ℕ) → asked.request ≡ ask.Spawn v → ⊥
            other q k n v e = n v (sym k ∙ e)

            by : (q : Request) → asked.request ≡ q → (q ≡ ask.End → ⊥) → ((k : ℕ) → q ≡ ask.Fault k → ⊥) → DeepAsk source (told_for t j) q s → Rests source (told_for t (j ++ act opts source.sites input j p t n asked)) (settled q) s
            by ask.End k e g h = absurd (e refl)
            by (ask.Fault v) k e g h = absurd (g v refl)
            by (ask.Spawn o) k e g h = law_renewed.spawned source (told_for t j) (told_for t (j ++ a)) o (λ i l v n. or_spawned o k i l v (gives_away v a) refl n) s h
            by q k e g h = law_renewed.asked source (told_for t j) (told_for t (j ++ a)) (unspawned (other q k (λ v w. cc w))) q s h

        -- an object that is asked for
        to_brings : (q : Request) → asked.request ≡ q → Brings t (j ++ act opts source.sites input j p t n asked) (settled q) s.env.exec.home
        to_brings (ask.Call o m) k = not_called o m k
        to_brings (ask.Make c) k = λ o h. by o h (nat_lt (object_count j) OBJECTS) (is ∙ ap (row opts source.sites input j p t (cost n asked.line) asked.line) k)
          where
            here : (o : ℕ) → just_made t (j ++ act opts source.sites input j p t n asked) ≡ o ∷ [] → object_count j ≡ o
            here o h = let same = sym (one_new opts source.sites input j p t n asked r.kernel m on c k) ∙ h in cc same

            by : (o : ℕ) → just_made t (j ++ act opts source.sites input j p t n asked) ≡ o ∷ [] → (b : Bool) → act opts source.sites input j p t n asked ≡ or_fault b (asking_entry kind.Make p t (cost n asked.line) (object_count j) (pos c) (pos 0)) (fault p t (cost n asked.line) 16 asked.line) → is_fresh t (j ++ act opts source.sites input j p t n asked) o ≡ true
            by o h true g = subst (λ l. is_fresh t (j ++ l) o ≡ true) (sym g) (subst (λ v. is_fresh t (j ++ asking_entry kind.Make p t (cost n asked.line) (object_count j) (pos c) (pos 0) ∷ []) v ≡ true) (here o h) (fresh_made t j (asking_entry kind.Make p t (cost n asked.line) (object_count j) (pos c) (pos 0)) x.makers refl refl refl))
            by o h false g = no_both (is_over (j ++ a)) (ap (λ l. is_over (j ++ l)) g ∙ over_by j _ refl) on
        to_brings (ask.Gone o) k =
            let one : a ≡ asking_entry kind.Gone p t (cost n asked.line) o (pos 0) (pos 0) ∷ [] = is ∙ ap (row opts source.sites input j p t (cost n asked.line) asked.line) k in
            ap (λ l. is_gone o (j ++ l)) one ∙ (gone_push o j (asking_entry kind.Gone p t (cost n asked.line) o (pos 0) (pos 0)) ∙ (ap (λ b. is_gone o j || b) (eq-eqb o o refl) ∙ or_true (is_gone o j)))
        to_brings (ask.Spawn o) k = tt
        to_brings q k = tt

        asking : AsksFor j (act opts source.sites input j p t n asked) t asked.request
        asking = law_asking opts source.sites input j p t n asked r.kernel m on

        own_after : has_ended t (j ++ act opts source.sites input j p t n asked) ≡ false → OwingTask source (j ++ act opts source.sites input j p t n asked) t (with_hand (hand_of (held t (j ++ act opts source.sites input j p t n asked)) (world_after source (act opts source.sites input j p t n asked) w t s).homes) s)
        own_after h =
            let k = law_ends opts source.sites input j p t n asked on h in
            record {
              request = settled asked.request;
              form = asking.own ∙ sym (settled_form asked.request);
              rests = rests_drawn source drawing (told_for t (j ++ a)) (settled asked.request) (hand_of (held t (j ++ a)) after.homes) s (to_rests asked.request refl k.no_end k.no_fault owes.state) (redrawn_to t s.env.hand own_agrees);
              brings = to_brings asked.request refl;
            }

        brings_other : (u : ℕ) → (u == t) ≡ false → (q : Request) (i : Home) → Brings u j q i → Brings u (j ++ act opts source.sites input j p t n asked) q i
        brings_other u h (ask.Call o m) i n = n
        brings_other u h (ask.Make c) i n = λ o e.
            let g = n o (sym (made.others u h) ∙ e) in
            fresh_stays u o j a (kept_of u h o (both_hold (made_for u o j) _ g).0) g
        brings_other u h (ask.Gone o) i n = gone_stays o j a n
        brings_other u h q i n = tt

        other_after : (u : ℕ) → (u == t) ≡ false → spawns (act opts source.sites input j p t n asked) u ≡ false → OwingTask source j u (drawn j w u) → OwingTask source (j ++ act opts source.sites input j p t n asked) u (with_hand (hand_of (held u (j ++ act opts source.sites input j p t n asked)) (world_after source (act opts source.sites input j p t n asked) w t s).homes) (w.tasks u))
        other_after u h born y = record {
          request = y.request;
          form = asking.others u h ∙ y.form;
          rests = rests_drawn source drawing (told_for u (j ++ a)) y.request (hand_of (held u (j ++ a)) after.homes) (drawn j w u) (rests_again source drawing (told_for u j) (told_for u (j ++ a)) (told_others u h born) y.request (drawn j w u) y.rests) (redrawn_to u (hand_of (held u j) w.homes) (other_agrees u h));
          brings = brings_other u h y.request _ y.brings;
        }

        child_after : (u : ℕ) → (u == t) ≡ false → task_count j ≤ u → Deep source (told_for u (j ++ act opts source.sites input j p t n asked)) (child_of source (own_object u (act opts source.sites input j p t n asked)) s) → OwingTask source (j ++ act opts source.sites input j p t n asked) u (with_hand (hand_of (held u (j ++ act opts source.sites input j p t n asked)) (world_after source (act opts source.sites input j p t n asked) w t s).homes) (child_of source (own_object u (act opts source.sites input j p t n asked)) s))
        child_after u h le c = record {
          request = ask.Slice;
          form = asking.others u h ∙ late_form;
          rests = drawing.asked source (told_for u (j ++ a)) ask.Slice (hand_of (held u (j ++ a)) after.homes) (child_of source (own_object u a) s) c (redrawn_to u [] (λ o e k g. no_both (has (held u j) o) e (nowhere o)));
          brings = tt;
        }
          where
            or_first : (b c : Bool) → (b || c) ≡ false → b ≡ false
            or_first true c g = cc
            or_first false c g = refl

            nowhere : (o : ℕ) → has (held u j) o ≡ false
            nowhere o = (law_held j).inside u o ∙ or_first (has (inside o j) u) _ (deeps.late u o le)

            late_form : asked_form u j ≡ JustGo
            late_form = subst (λ (P : Spot). SpotSuits P (asked_form u j)) (sound.few u le) ((kept_run opts source.sites input r.kernel going).suits.spots u)

        tasks_after : (u : ℕ) → u < task_count (j ++ act opts source.sites input j p t n asked) → has_ended u (j ++ act opts source.sites input j p t n asked) ≡ false → OwingTask source (j ++ act opts source.sites input j p t n asked) u (drawn (j ++ act opts source.sites input j p t n asked) (world_after source (act opts source.sites input j p t n asked) w t s) u)
        tasks_after u lt alive = by (u == t) refl
          where
            at_rest : State → Type 0
            at_rest v = OwingTask source (j ++ a) u (with_hand (hand_of (held u (j ++ a)) after.homes) v)

            not_late : spawns a u ≡ false → u < task_count j
            not_late e =
                ⊎_elim (λ k. k) (λ le. no_both (spawns a u) (spawned_true source input opts range r going deeps p t n s asked d f on u le lt) e) (cases_lt u (task_count j))

            child_plain : task_count j ≤ u → Deep source (told_for u (j ++ act opts source.sites input j p t n asked)) (child_of source (own_object u a) s)
            child_plain le =
                let b = spawned_by source input opts range r going deeps p t n s asked d f on u le lt in
                steps.born source entered (told_for t j) (told_for u (j ++ a)) b.object (own_object u a) s (subst (λ q. DeepAsk source (told_for t j) q s) b.request owes.state)

            other : (u == t) ≡ false → (b : Bool) → spawns a u ≡ b → at_rest (if b then child_of source (own_object u a) s else w.tasks u)
            other h true e =
                let le : task_count j ≤ u = ⊎_elim (λ lt. no_both (spawns a u) e (spawns_none j a u (lawful_act opts source.sites input j p t n asked sound m) lt)) (λ le. le) (cases_lt u (task_count j)) in
                child_after u h le (child_plain le)
            other h false e = other_after u h e (x.tasks u (not_late e) (ended_before j a u alive))

            by : (b : Bool) → (u == t) ≡ b → at_rest (if b then bare s else if spawns a u then child_of source (own_object u a) s else w.tasks u)
            by true h =
                subst (λ v. OwingTask source (j ++ a) v (with_hand (hand_of (held v (j ++ a)) after.homes) s)) (sym (eqb-true u t h)) (own_after (ap (λ v. has_ended v (j ++ a)) (sym (eqb-true u t h)) ∙ alive))
            by false h = other h (spawns a u) refl

        binds_by : (q : Request) → DeepAsk source (told_for t j) q s → Binds q s.run.control
        binds_by (ask.Make c) h = h.0
        binds_by q h = tt

        pub standing_behind : StandingWorld part source (j ++ act opts source.sites input j p t n asked) (world_after source (act opts source.sites input j p t n asked) w t s)
        standing_behind = standing_act part source inner entered.ends input opts range r going deeps z p t n s asked d owes.stands (binds_by asked.request owes.state) owes.unheld owes.apart f on

        pub owing_act : OwingWorld source (j ++ act opts source.sites input j p t n asked) (world_after source (act opts source.sites input j p t n asked) w t s)
        owing_act = record { tasks = tasks_after; makers = makers_stay j a x.makers lawful; single = single_after; free = free_after }

  -- a dispatch leaves all as it is
  owing_given : {j : Journal} {w : World} (p t : ℕ) → RunRests source input opts j w → Serves opts j p t → OwingWorld source j w → OwingWorld source (j ++ dispatch p t ∷ []) w
  owing_given {j} {w} p t r v x =
      let d = law_dispatch opts source.sites input j p t r.kernel v in
      let count : task_count (j ++ dispatch p t ∷ []) ≡ task_count j = (still j (dispatch p t) refl).tasks in
      record {
        tasks = λ u lt alive.
            let y = x.tasks u (omega (arith, lt, count)) (ended_before j (dispatch p t ∷ []) u alive) in
            record {
              request = y.request;
              form = form_push u j (dispatch p t) ∙ y.form;
              rests = rests_again source drawing (told_for u j) (told_for u (j ++ dispatch p t ∷ [])) (λ h k q. told_stays u q j (dispatch p t ∷ []) h k refl (own_given u j (dispatch p t) refl)) y.request _ (subst (λ l. Rests source (told_for u j) y.request (with_hand (hand_of l w.homes) (w.tasks u))) (sym (d.objects u)) y.rests);
              brings = given_brings u y.request _ y.brings;
            };
        makers = makers_given j p t x.makers;
        single = λ o. let same = ap length (owner_stays o j (dispatch p t ∷ []) refl) in let l = x.single o in omega (arith, same, l);
        free = λ o h. x.free o (sym (door_silent o j (dispatch p t) refl).inside ∙ h);
      }
    where
      given_brings : (u : ℕ) (q : Request) (i : Home) → Brings u j q i → Brings u (j ++ dispatch p t ∷ []) q i
      given_brings u (ask.Call o m) i n = n
      given_brings u (ask.Make c) i n = λ o e. fresh_stays u o j (dispatch p t ∷ []) refl (n o (sym (just_made_given u p t j) ∙ e))
      given_brings u (ask.Gone o) i n = gone_stays o j (dispatch p t ∷ []) n
      given_brings u q i n = tt

  -- both go on to hold
  pub record Both (j : Journal) (w : World) : Type 0 where
    pub owing : OwingWorld source j w
    pub standing : StandingWorld part source j w

  both_may : {j : Journal} {w : World} {a : List Entry} {v : World} → RunRests source input opts j w → is_over j ≡ false → DeepWorld j w → Both j w → (m : May source opts input j w a v) → MayFit source opts input j w a v m → MayAlone source opts input j w a v m → is_over (j ++ a) ≡ false → Both (j ++ a) v
  both_may r o e x (gives p t s le) f g on = record { owing = owing_given p t r s x.owing; standing = standing_given part source inner entered.ends input opts range p t r s x.standing }
  both_may {j} r o e x (no_room p t s le) f g on = no_both (is_over (j ++ lone_limit ∷ [])) (over_limit j 0 0) on
  both_may r o e x (acts p t n s asked d) f g on = record {
    owing = owing_act r o e x.owing x.standing p t n s asked d g f on;
    standing = standing_behind r o e x.owing x.standing p t n s asked d g f on;
  }

  -- a run begins with task 0 in object 0

  begin_form : (u : ℕ) → asked_form u (begin opts ∷ []) ≡ JustGo
  unfolding asked_form
  begin_form u = refl

  free_none : Free source (quiet.zeros 0)
  free_none = record { parked = tt; nothing = λ q. refl }

  owing_begin : OwingWorld source (begin opts ∷ []) (first_world source)
  owing_begin = record {
    tasks = λ u lt alive. record {
      request = ask.Slice;
      form = begin_form u;
      brings = tt;
      rests = drawing.asked source (told_for u (begin opts ∷ [])) ask.Slice (hand_of (held u (begin opts ∷ [])) first_home) (quiet.first_state (routine_of source source.main) 0) (steps.begins source entered (told_for u (begin opts ∷ [])) source.main 0 entered.main) (redrawn source [] (held u (begin opts ∷ [])) first_home ((law_held (begin opts ∷ [])).once u) (λ o h. either (Found source [] o) (o == 0) (Some (quiet.zeros 0)) None (inl free_none) tt));
    };
    makers = makers_begin opts;
    single = λ o. let l = owner_more o [] (begin opts) in let none = ap length (nobody o) in omega (arith, none, l);
    free = λ o h. either (FreeMembers source) (o == 0) (Some (quiet.zeros 0)) None free_none tt;
  }

  pub both_run : {j : Journal} {w : World} → (r : Runs source input opts j w) → RunFits source input opts j w r → RunAlone source input opts j w r → is_over j ≡ false → Both j w
  both_run begun f g on = record { owing = owing_begin; standing = standing_begin part source inner entered.ends input opts range }
  both_run (more r o m) f g on =
      both_may (run_rests source input opts range r f.0 o) o (deep_run source input opts range r f.0 o) (both_run r f.0 g.0 o) m f.1 g.1 on

  module _ {j : Journal} {w : World} (r : Runs source input opts j w) (f : RunFits source input opts j w r) (g : RunAlone source input opts j w r) (on : is_over j ≡ false) (p t n : ℕ) (s : State) (asked : Asked) (d : AsksIn source opts j w p t n s asked) (alone : RideAlone source _ _ s n asked d.rides) where
    pub in_hand_in_run : AsksInHand (own_object t j) (keys s.env.hand) asked.request
    in_hand_in_run =
        let x = both_run r f g on in
        asks_in_hand (run_rests source input opts range r f on) on (deep_run source input opts range r f on) x.owing x.standing p t n s asked d alone

    pub owners_in_run : OwnersFit j asked.request
    owners_in_run =
        let x = both_run r f g on in
        owners_fit (run_rests source input opts range r f on) on (deep_run source input opts range r f on) x.owing x.standing p t n s asked d alone

    pub leaving_in_run : LeavesFree (own_object t j) asked.request s
    leaving_in_run =
        let x = both_run r f g on in
        leaves_free (run_rests source input opts range r f on) on (deep_run source input opts range r f on) x.owing x.standing p t n s asked d alone

pub law_in_hand : LawInHand
law_in_hand part source entered inner input opts j w r range f g on p t n s asked d alone =
    in_hand_in_run part source entered inner law_steps law_free law_drawn input opts range r f g on p t n s asked d alone

pub law_owners : LawOwners
law_owners part source entered inner input opts j w r range f g on p t n s asked d alone =
    owners_in_run part source entered inner law_steps law_free law_drawn input opts range r f g on p t n s asked d alone

pub law_leaving : LawLeaving
law_leaving part source entered inner input opts j w r range f g on p t n s asked d alone =
    leaving_in_run part source entered inner law_steps law_free law_drawn input opts range r f g on p t n s asked d alone
