-- What every run of a program keeps of its world: what is at home where, and what each task has to do.
use Rattle.std.proofs.Common.{◌≡◌, ℕ, ◌==◌, ◌||◌, ◌⊎◌, inl, inr, Bool, true, false, List, [], ◌∷◌, ◌++◌, Option, Some, None, refl, sym, ap, ◌∙◌, subst, ⊎_elim}
use Rattle.std.specs.Prelude.{nat_eq, if◌then◌else◌}
use Rattle.std.proofs.lemmas.Bool.{eqb-true, eq-eqb}
use Rattle.uc_tree.specs.Source.{Source, Routine, routine_of}
use Rattle.uc_entry.specs.declared.entry.Entry.{Entry}
use Rattle.uc_entry.specs.declared.entry.Options.{Options}
use Rattle.uc_entry.specs.declared.request.Answer.{Answer}
use Rattle.uc_entry.specs.declared.request.Answer.TheVariants as answer
use Rattle.uc_entry.specs.declared.request.Asked.{Asked}
use Rattle.uc_entry.specs.declared.request.Request.{Request}
use Rattle.uc_entry.specs.declared.request.Request.TheVariants as ask
use Rattle.uc_entry.specs.Keyed.{find}
use Rattle.uc_acts.specs.Journal.{Journal, begin, held, is_over, own_object}
use Rattle.uc_acts.specs.Known.{has, made, object_count, spawns, takes_out}
use Rattle.uc_acts.specs.Queues.{running}
use Rattle.uc_acts.specs.Answers.{just_made}
use Rattle.uc_acts.specs.Serves.{Serves, left}
use Rattle.uc_acts.specs.Sound.{Sound}
use Rattle.uc_acts.specs.Acts.{act, dispatch}
use Rattle.uc_acts.specs.Laws.{IsNew, Makes}
use Rattle.uc_acts.specs.KernelRuns.{MayAsk, KernelRuns}
use Rattle.uc_acts.proofs.Law.{good_whole}
use Rattle.uc_acts.proofs.Counted.{law_made}
use Rattle.uc_acts.proofs.Making.{law_new}
use Rattle.uc_acts.proofs.Given.{law_dispatch}
use Rattle.uc_acts.proofs.Others.{law_elsewhere}
use Rattle.uc_machine.specs.Quiet.{State, Members, first_state, zeros}
use Rattle.uc_machine.specs.Answering.{answered, child_of, child_main}
use Rattle.uc_meaning.specs.Runs.{World, AsksIn, first_world, first_home, with_home, hand_of, drawn, or_else, world_after, bare}
use Rattle.uc_step_laws.specs.Hands.{keys}
use Rattle.uc_state_laws.specs.Laws.{AllLeft}
use Rattle.uc_step_laws.specs.Holding.{plain, Binds, PlainRuns, PlainParked, PlainHand, PlainMembers, Few, Holding, BindsNext, HasAsked}
use Rattle.uc_step_laws.proofs.Kept.{either, binds_not, found_hand}
use Rattle.uc_step_laws.proofs.Told.{law_told}
use Rattle.uc_step_laws.proofs.Walk.{law_rides}
use Rattle.uc_step_laws.proofs.Steps.{plain_behind}
use Rattle.uc_state_laws.proofs.Ticks.{no_both, not_true}
use Rattle.uc_state_laws.proofs.Makes.{is_making, same_holder, makes, none_new, one_new, just_made_given, just_made_begin, made_begin}

-- what is at home

abbrev pub IsThere : Option Members → Type 0
IsThere None = ⊥
IsThere (Some m) = Unit {0}

-- what a task at rest has to do, by the object that it has just made
pub record TaskRests (news : List ℕ) (s : State) : Type 0 where
  pub control : (plain s.run.control ≡ true) ⊎ ((o : ℕ) × (news ≡ o ∷ []))
  pub binds : (o : ℕ) → news ≡ o ∷ [] → Binds s.run.control
  pub callers : PlainRuns s.callers
  pub house : PlainParked s.env.house.parked
  pub few : Few s.env.gathered

pub record WorldRests (j : Journal) (w : World) : Type 0 where
  -- what is made and not gone is at home, or was made just now
  pub there : (o : ℕ) → has (made j) o ≡ true → IsThere (w.homes o) ⊎ ((t : ℕ) × (just_made t j ≡ o ∷ []))
  pub new : (t o : ℕ) → just_made t j ≡ o ∷ [] → w.homes o ≡ None
  pub gone : (o : ℕ) → has (made j) o ≡ false → w.homes o ≡ None
  pub members : (o : ℕ) → PlainMembers (w.homes o)
  pub tasks : (t : ℕ) → TaskRests (just_made t j) (w.tasks t)

-- hands

has_self : (o : ℕ) (os : List ℕ) → has (o ∷ os) o ≡ true
has_self o os = ap (λ b. b || has os o) (eq-eqb o o refl)

has_more : (k o : ℕ) (os : List ℕ) → has os o ≡ true → has (k ∷ os) o ≡ true
has_more k o os h = by (k == o)
  where
    by : (b : Bool) → (b || has os o) ≡ true
    by true = refl
    by false = h

with_home_keys : (o : ℕ) (x : Option Members) (hand : List (ℕ × Members)) → IsThere x → keys (with_home o x hand) ≡ o ∷ keys hand
with_home_keys o None hand h = absurd h
with_home_keys o (Some m) hand h = refl

keys_hand : (os : List ℕ) (homes : ℕ → Option Members) → ((o : ℕ) → has os o ≡ true → IsThere (homes o)) → keys (hand_of os homes) ≡ os
keys_hand [] homes h = refl
keys_hand (o ∷ os) homes h =
    with_home_keys o (homes o) (hand_of os homes) (h o (has_self o os)) ∙ ap (λ l. o ∷ l) (keys_hand os homes (λ k e. h k (has_more o k os e)))

with_home_plain : (o : ℕ) (x : Option Members) (hand : List (ℕ × Members)) → PlainMembers x → PlainHand hand → PlainHand (with_home o x hand)
with_home_plain o None hand h k = k
with_home_plain o (Some m) hand h k = (h, k)

plain_hand : (os : List ℕ) (homes : ℕ → Option Members) → ((o : ℕ) → PlainMembers (homes o)) → PlainHand (hand_of os homes)
plain_hand [] homes h = tt
plain_hand (o ∷ os) homes h = with_home_plain o (homes o) (hand_of os homes) (h o) (plain_hand os homes h)

-- what is not at home is not in a hand
hand_without : (os : List ℕ) (o : ℕ) (homes : ℕ → Option Members) → homes o ≡ None → hand_of (os ++ o ∷ []) homes ≡ hand_of os homes
hand_without [] o homes h = ap (λ x. with_home o x []) h
hand_without (k ∷ os) o homes h = ap (with_home k (homes k)) (hand_without os o homes h)

-- what a task holds once it has been told

pub none_found : (o : ℕ) (ps : List (ℕ × Members)) → has (keys ps) o ≡ false → find o ps ≡ None
none_found o [] h = refl
none_found o (p ∷ ps) h = by (nat_eq p.0 o) refl (none_found o ps) h
  where
    by : (b : Bool) → nat_eq p.0 o ≡ b → (has (keys ps) o ≡ false → find o ps ≡ None) → (b || has (keys ps) o) ≡ false → (if b then Some p.1 else find o ps) ≡ None
    by true e ih h = cc
    by false e ih h = ih h

some_found : (o : ℕ) (ps : List (ℕ × Members)) → has (keys ps) o ≡ true → IsThere (find o ps)
some_found o [] h = cc
some_found o (p ∷ ps) h = by (nat_eq p.0 o) (some_found o ps) h
  where
    by : (b : Bool) → (has (keys ps) o ≡ true → IsThere (find o ps)) → (b || has (keys ps) o) ≡ true → IsThere (if b then Some p.1 else find o ps)
    by true ih h = tt
    by false ih h = ih h

module _ (source : Source) (input : List ℕ) (opts : Options) (j : Journal) (w : World) (runs : KernelRuns opts source.sites input j) (going : is_over j ≡ false) (rests : WorldRests j w) where
  sound : Sound j
  sound = (good_whole opts source.sites input runs).sound

  -- what a task is inside is at home, or it has just made it
  mine : (t o : ℕ) → has (held t j) o ≡ true → IsThere (w.homes o) ⊎ (just_made t j ≡ o ∷ [])
  mine t o h = by (rests.there o (law_made opts source.sites input j runs going t o h))
    where
      last_has : (xs : List ℕ) → has (xs ++ o ∷ []) o ≡ true
      last_has [] = has_self o []
      last_has (x ∷ xs) = has_more x o (xs ++ o ∷ []) (last_has xs)

      by : IsThere (w.homes o) ⊎ ((u : ℕ) × (just_made u j ≡ o ∷ [])) → IsThere (w.homes o) ⊎ (just_made t j ≡ o ∷ [])
      by (inl x) = inl x
      by (inr x) =
          let n = law_new opts source.sites input j runs going x.0 o x.1 in
          let same : x.0 ≡ t = same_holder j t x.0 o (good_whole opts source.sites input runs).sound h (ap (λ l. has l o) n.last ∙ last_has n.before) in
          inr (ap (λ u. just_made u j) (sym same) ∙ x.1)

  module _ (t : ℕ) where
    drawn_holding : plain (w.tasks t).run.control ≡ true → Holding (held t j) (drawn j w t)
    drawn_holding h = record {
      control = h;
      callers = (rests.tasks t).callers;
      env = record {
        keys_are = keys_hand (held t j) w.homes (λ o e. there o (mine t o e));
        house = (rests.tasks t).house;
        hand = plain_hand (held t j) w.homes rests.members;
        few = (rests.tasks t).few;
      };
    }
      where
        there : (o : ℕ) → IsThere (w.homes o) ⊎ (just_made t j ≡ o ∷ []) → IsThere (w.homes o)
        there o (inl x) = x
        there o (inr x) = absurd (binds_not (w.tasks t).run.control h ((rests.tasks t).binds o x))

    -- a task that has just made an object lacks it, and it alone
    drawn_bound : (o : ℕ) → just_made t j ≡ o ∷ [] → (n : IsNew source.sites j t o) → BindsNext n.before (drawn j w t)
    drawn_bound o e n =
        let same : hand_of (held t j) w.homes ≡ hand_of n.before w.homes = ap (λ l. hand_of l w.homes) n.last ∙ hand_without n.before o w.homes (rests.new t o e) in
        record {
          control = (rests.tasks t).binds o e;
          callers = (rests.tasks t).callers;
          env = record {
            keys_are = ap keys same ∙ keys_hand n.before w.homes (λ k f. there n k (mine t k (in_held n k f)) f);
            house = (rests.tasks t).house;
            hand = plain_hand (held t j) w.homes rests.members;
            few = (rests.tasks t).few;
          };
        }
      where
        before_has : (xs : List ℕ) (k : ℕ) → has xs k ≡ true → has (xs ++ o ∷ []) k ≡ true
        before_has [] k h = cc
        before_has (x ∷ xs) k h = by (x == k) h (before_has xs k)
          where
            by : (b : Bool) → (b || has xs k) ≡ true → (has xs k ≡ true → has (xs ++ o ∷ []) k ≡ true) → (b || has (xs ++ o ∷ []) k) ≡ true
            by true h ih = refl
            by false h ih = ih h

        in_held : (n : IsNew source.sites j t o) (k : ℕ) → has n.before k ≡ true → has (held t j) k ≡ true
        in_held n k f = ap (λ l. has l k) n.last ∙ before_has n.before k f

        there : (n : IsNew source.sites j t o) (k : ℕ) → IsThere (w.homes k) ⊎ (just_made t j ≡ k ∷ []) → has n.before k ≡ true → IsThere (w.homes k)
        there n k (inl x) f = x
        there n k (inr x) f =
            let same : o ∷ [] ≡ k ∷ [] = sym e ∙ x in
            let is : k ≡ o = cc same in
            no_both (has n.before o) (ap (has n.before) (sym is) ∙ f) n.once

  module _ (all : AllLeft opts j) {p t n' : ℕ} {s : State} {asked : Asked} (d : AsksIn source opts j w p t n' s asked) where
    pub asks_holding : HasAsked (held t j) asked.request s
    asks_holding = by (rests.tasks t).control
      where
        by : (plain (w.tasks t).run.control ≡ true) ⊎ ((o : ℕ) × (just_made t j ≡ o ∷ [])) → HasAsked (held t j) asked.request s
        by (inl h) = law_rides.settled source (held t j) (answered source d.given (drawn j w t)) s (left opts j t) n' asked d.rides (law_told.settled source (held t j) d.given (drawn j w t) (drawn_holding t h))
        by (inr x) =
            let n = law_new opts source.sites input j runs going t x.0 x.1 in
            let told : Some d.given ≡ Some (answer.Object x.0) = sym d.told ∙ n.answer in
            let given : answer.Object x.0 ≡ d.given = cc told in
            let start : BindsNext (held t j) (answered source (answer.Object x.0) (drawn j w t)) = subst (λ l. BindsNext l (answered source (answer.Object x.0) (drawn j w t))) (sym n.last) (law_told.bound source n.before x.0 (drawn j w t) (drawn_bound t x.0 x.1 n)) in
            law_rides.bound source (held t j) (answered source d.given (drawn j w t)) s (left opts j t) n' asked d.rides (all p t d.runs) (subst (λ (a : Answer). BindsNext (held t j) (answered source a (drawn j w t))) given start)

-- what a request leaves to do
behind_plain : (ks : List ℕ) (r : Request) (s : State) → is_making r ≡ false → HasAsked ks r s → plain s.run.control ≡ true
behind_plain ks (ask.Make c) s n h = cc
behind_plain ks r s n h = h.control

behind_binds : (ks : List ℕ) (c : ℕ) (s : State) → HasAsked ks (ask.Make c) s → Binds s.run.control
behind_binds ks c s h = h.control

-- what asks for an object
is_make : (r : Request) → (is_making r ≡ false) ⊎ ((c : ℕ) × (r ≡ ask.Make c))
is_make (ask.Make c) = inr (c, refl)
is_make r = inl refl

-- a task that begins
begins : (r : Routine) (o : ℕ) → TaskRests [] (first_state r o)
begins r o = record { control = inl (plain_behind r.purpose r.line); binds = λ k e. cc e; callers = tt; house = (tt, tt); few = tt }

task_like : (a b : List ℕ) (s : State) → a ≡ b → TaskRests a s → TaskRests b s
task_like a b s e h = subst (λ l. TaskRests l s) e h

or_else_none : (x y : Option Members) → x ≡ None → y ≡ None → or_else x y ≡ None
or_else_none x y h k = ap (λ z. or_else z y) h ∙ k

or_else_there : (x y : Option Members) → IsThere x ⊎ IsThere y → IsThere (or_else x y)
or_else_there (Some m) y h = tt
or_else_there None y (inl h) = absurd h
or_else_there None y (inr h) = h

or_else_plain : (x y : Option Members) → PlainMembers x → PlainMembers y → PlainMembers (or_else x y)
or_else_plain None y h k = k
or_else_plain (Some m) y h k = h

module _ (source : Source) (input : List ℕ) (opts : Options) (j : Journal) (w : World) (runs : KernelRuns opts source.sites input j) (going : is_over j ≡ false) (rests : WorldRests j w) (all : AllLeft opts j) where
  module _ (p t n : ℕ) (s : State) (asked : Asked) (d : AsksIn source opts j w p t n s asked) (m : MayAsk opts source.sites j p t n asked.request) (on : is_over (j ++ act opts source.sites input j p t n asked) ≡ false) where
    abbrev a : List Entry
    a = act opts source.sites input j p t n asked

    abbrev after : World
    after = world_after source (act opts source.sites input j p t n asked) w t s

    x : HasAsked (held t j) asked.request s
    x = asks_holding source input opts j w runs going rests all d

    made_by : Makes j a t
    made_by = makes opts source.sites input j p t n asked runs m on

    snd : Sound j
    snd = (good_whole opts source.sites input runs).sound

    in_hand : (o : ℕ) → has (keys s.env.hand) o ≡ has (held t j) o
    in_hand o = ap (λ l. has l o) x.env.keys_are

    last_has : (xs : List ℕ) (o : ℕ) → has (xs ++ o ∷ []) o ≡ true
    last_has [] o = has_self o []
    last_has (y ∷ xs) o = has_more y o (xs ++ o ∷ []) (last_has xs o)

    new_held : (u o : ℕ) → just_made u j ≡ o ∷ [] → has (held u j) o ≡ true
    new_held u o e = let n = law_new opts source.sites input j runs going u o e in ap (λ l. has l o) n.last ∙ last_has n.before o

    -- what is not made was in no hand and nowhere at home
    not_made : (o : ℕ) → has (made j) o ≡ false → or_else (find o s.env.hand) (w.homes o) ≡ None
    not_made o h =
        or_else_none (find o s.env.hand) (w.homes o) (none_found o s.env.hand (not_true (has (keys s.env.hand) o) (λ e. no_both (has (made j) o) (law_made opts source.sites input j runs going t o (sym (in_hand o) ∙ e)) h))) (rests.gone o h)

    homes_by : (P : Option Members → Type 0) (o : ℕ) → (takes_out a o ≡ true → P None) → (takes_out a o ≡ false → P (or_else (find o s.env.hand) (w.homes o))) → P (after.homes o)
    homes_by P o h k = by (takes_out a o) refl
      where
        by : (b : Bool) → takes_out a o ≡ b → P (if b then None else or_else (find o s.env.hand) (w.homes o))
        by true e = h e
        by false e = k e

    there_after : (o : ℕ) → has (made (j ++ a)) o ≡ true → IsThere (after.homes o) ⊎ ((u : ℕ) × (just_made u (j ++ a) ≡ o ∷ []))
    there_after o h = by (has (made j) o) refl
      where
        kept : has (made j) o ≡ true → (IsThere (w.homes o) ⊎ ((u : ℕ) × (just_made u j ≡ o ∷ []))) → IsThere (after.homes o) ⊎ ((u : ℕ) × (just_made u (j ++ a) ≡ o ∷ []))
        kept e (inl y) = inl (homes_by IsThere o (λ f. no_both (has (made (j ++ a)) o) h (made_by.out o f)) (λ f. or_else_there (find o s.env.hand) (w.homes o) (inr y)))
        kept e (inr y) = apart (y.0 == t) refl
          where
            apart : (b : Bool) → (y.0 == t) ≡ b → IsThere (after.homes o) ⊎ ((u : ℕ) × (just_made u (j ++ a) ≡ o ∷ []))
            apart false f = inr (y.0, made_by.others y.0 f ∙ y.1)
            apart true f =
                inl (homes_by IsThere o (λ g. no_both (has (made (j ++ a)) o) h (made_by.out o g)) (λ g. or_else_there (find o s.env.hand) (w.homes o) (inl (some_found o s.env.hand (in_hand o ∙ ap (λ u. has (held u j) o) (sym (eqb-true y.0 t f)) ∙ new_held y.0 o y.1)))))

        by : (b : Bool) → has (made j) o ≡ b → IsThere (after.homes o) ⊎ ((u : ℕ) × (just_made u (j ++ a) ≡ o ∷ []))
        by true e = kept e (rests.there o e)
        by false e = inr (t, made_by.new o h e)

    new_after : (u o : ℕ) → just_made u (j ++ a) ≡ o ∷ [] → after.homes o ≡ None
    new_after u o h = by (u == t) refl
      where
        by : (b : Bool) → (u == t) ≡ b → after.homes o ≡ None
        by true e =
            homes_by (λ y. y ≡ None) o (λ f. refl) (λ f. not_made o (made_by.mine o (ap (λ v. just_made v (j ++ a)) (sym (eqb-true u t e)) ∙ h)))
        by false e =
            let old : just_made u j ≡ o ∷ [] = sym (made_by.others u e) ∙ h in
            homes_by (λ y. y ≡ None) o (λ f. refl) (λ f. or_else_none (find o s.env.hand) (w.homes o) (none_found o s.env.hand (not_true (has (keys s.env.hand) o) (λ g. no_both (u == t) (eq-eqb u t (same_holder j t u o snd (sym (in_hand o) ∙ g) (new_held u o old))) e))) (rests.new u o old))

    gone_after : (o : ℕ) → has (made (j ++ a)) o ≡ false → after.homes o ≡ None
    gone_after o h =
        homes_by (λ y. y ≡ None) o (λ f. refl) (λ f. not_made o (not_true (has (made j) o) (λ e. no_both (has (made (j ++ a)) o) (made_by.stays o e f) h)))

    members_after : (o : ℕ) → PlainMembers (after.homes o)
    members_after o =
        homes_by PlainMembers o (λ f. tt) (λ f. or_else_plain (find o s.env.hand) (w.homes o) (found_hand o s.env.hand x.env.hand) (rests.members o))

    -- the task that asked
    own_after : TaskRests (just_made t (j ++ a)) (bare s)
    own_after = by (is_make asked.request)
      where
        by : (is_making asked.request ≡ false) ⊎ ((c : ℕ) × (asked.request ≡ ask.Make c)) → TaskRests (just_made t (j ++ a)) (bare s)
        by (inl e) = record {
          control = inl (behind_plain (held t j) asked.request s e x);
          binds = λ o f. absurd (none_new opts source.sites input j p t n asked runs m on e o f);
          callers = x.callers;
          house = x.env.house;
          few = x.env.few;
        }
        by (inr y) = record {
          control = inr (object_count j, one_new opts source.sites input j p t n asked runs m on y.0 y.1);
          binds = λ o f. behind_binds (held t j) y.0 s (subst (λ r. HasAsked (held t j) r s) y.1 x);
          callers = x.callers;
          house = x.env.house;
          few = x.env.few;
        }

    -- one that is spawned has made nothing
    child_new : (u o : ℕ) → (u == t) ≡ false → spawns a u ≡ true → just_made u (j ++ a) ≡ o ∷ [] → ⊥
    child_new u o e f h =
        let k = law_new opts source.sites input j runs going u o (sym (made_by.others u e) ∙ h) in
        let apart : (k.processor == p) ≡ false = not_true (k.processor == p) (λ g. no_both (u == t) (eq-eqb u t (first_same u t (sym k.runs ∙ ap (λ q. running q j) (eqb-true k.processor p g) ∙ m.runs))) e) in
        no_both (spawns a u) f ((law_elsewhere opts source.sites input j p t n asked runs m k.processor apart).untouched u k.runs).born
      where
        first_same : (v u : ℕ) → v ∷ [] ≡ u ∷ [] → v ≡ u
        first_same v u g = cc g

    tasks_after : (u : ℕ) → TaskRests (just_made u (j ++ a)) (after.tasks u)
    tasks_after u = by (u == t) refl
      where
        born : (b : Bool) → (u == t) ≡ false → spawns a u ≡ b → TaskRests (just_made u (j ++ a)) (if b then child_of source (own_object u a) s else w.tasks u)
        born true e f = record { control = inl (plain_behind (routine_of source (child_main source s.run.control)).purpose (routine_of source (child_main source s.run.control)).line); binds = λ o g. absurd (child_new u o e f g); callers = tt; house = (tt, tt); few = tt }
        born false e f = task_like (just_made u j) (just_made u (j ++ a)) (w.tasks u) (sym (made_by.others u e)) (rests.tasks u)

        by : (b : Bool) → (u == t) ≡ b → TaskRests (just_made u (j ++ a)) (if b then bare s else if spawns a u then child_of source (own_object u a) s else w.tasks u)
        by true e = task_like (just_made t (j ++ a)) (just_made u (j ++ a)) (bare s) (ap (λ v. just_made v (j ++ a)) (sym (eqb-true u t e))) own_after
        by false e = born (spawns a u) e refl

    pub rests_act : WorldRests (j ++ a) after
    rests_act = record { there = there_after; new = new_after; gone = gone_after; members = members_after; tasks = tasks_after }

  pub rests_given : (p t : ℕ) → Serves opts j p t → WorldRests (j ++ dispatch p t ∷ []) w
  rests_given p t v =
      let d = law_dispatch opts source.sites input j p t runs v in
      record {
        there = λ o h. ⊎_elim (λ y. inl y) (λ y. inr (y.0, just_made_given y.0 p t j ∙ y.1)) (rests.there o (ap (λ l. has l o) (sym d.made) ∙ h));
        new = λ u o h. rests.new u o (sym (just_made_given u p t j) ∙ h);
        gone = λ o h. rests.gone o (ap (λ l. has l o) (sym d.made) ∙ h);
        members = rests.members;
        tasks = λ u. task_like (just_made u j) (just_made u (j ++ dispatch p t ∷ [])) (w.tasks u) (sym (just_made_given u p t j)) (rests.tasks u);
      }

no_cons : (x : ℕ) (ys : List ℕ) → ys ≡ x ∷ [] → ys ≡ [] → ⊥
no_cons x ys h g = cc

pub rests_begin : (source : Source) (opts : Options) → WorldRests (begin opts ∷ []) (first_world source)
rests_begin source opts = record {
  there = λ o h. inl (home_there o (ap (λ l. has l o) (sym (made_begin opts)) ∙ h));
  new = λ t o h. absurd (no_cons o (just_made t (begin opts ∷ [])) h (just_made_begin opts t));
  gone = λ o h. home_none o (ap (λ l. has l o) (sym (made_begin opts)) ∙ h);
  members = λ o. either PlainMembers (o == 0) (Some (zeros 0)) None tt tt;
  tasks = λ t. task_like [] (just_made t (begin opts ∷ [])) _ (sym (just_made_begin opts t)) (begins (routine_of source source.main) 0);
}
  where
    home_there : (o : ℕ) → ((0 == o) || false) ≡ true → IsThere (first_home o)
    home_there o h = by (0 == o) refl h
      where
        by : (b : Bool) → (0 == o) ≡ b → (b || false) ≡ true → IsThere (first_home o)
        by true e g = subst (λ k. IsThere (first_home k)) (eqb-true 0 o e) tt
        by false e g = cc

    home_none : (o : ℕ) → ((0 == o) || false) ≡ false → first_home o ≡ None
    home_none o h = by (o == 0) refl
      where
        or_first : (b c : Bool) → (b || c) ≡ false → b ≡ false
        or_first true c g = cc
        or_first false c g = refl

        by : (b : Bool) → (o == 0) ≡ b → (if b then Some (zeros 0) else None) ≡ None
        by true e = no_both (0 == o) (eq-eqb 0 o (sym (eqb-true o 0 e))) (or_first (0 == o) false h)
        by false e = refl
