-- In a run all that was asked fits: so who asks holds what it is inside, and acts of others leave who runs as it is.
use Rattle.std.proofs.Common.{◌≡◌, ℕ, ◌-◌, ◌==◌, ◌||◌, ◌⊎◌, inl, inr, Bool, true, false, cond, List, [], ◌∷◌, ◌++◌, Option, Some, None, refl, sym, ap, ◌∙◌, subst, append_assoc, append-nil}
use Rattle.std.proofs.lemmas.Bool.{eqb-true, eq-eqb}
use Rattle.std.proofs.lemmas.List.Folds.{list_any-append}
use Rattle.uc_tree.specs.Source.{Source}
use Rattle.uc_entry.specs.declared.entry.Entry.{Entry}
use Rattle.uc_entry.specs.declared.entry.EntryKind.{EntryKind}
use Rattle.uc_entry.specs.declared.entry.EntryKind.TheVariants as kind
use Rattle.uc_entry.specs.declared.entry.Options.{Options}
use Rattle.uc_entry.specs.declared.request.Asked.{Asked}
use Rattle.uc_entry.specs.Keyed.{find}
use Rattle.uc_acts.specs.Journal.{Journal, held, is_over, own_object, cost}
use Rattle.uc_acts.specs.Known.{has, spawns, takes_out}
use Rattle.uc_acts.specs.Queues.{running}
use Rattle.uc_acts.specs.Serves.{Serves}
use Rattle.uc_acts.specs.Sound.{Each, Sound, At, Spot}
use Rattle.uc_acts.specs.Stations.{Running}
use Rattle.uc_acts.specs.Acts.{act, dispatch, lone_limit}
use Rattle.uc_acts.specs.Laws.{Elsewhere, Untouched}
use Rattle.uc_acts.specs.KernelRuns.{InRange, Fits, MayAsk, KernelRuns, begun as begun_in, more as more_in, gives as gives_in, acts as acts_in}
use Rattle.uc_acts.proofs.Bounds.{over_limit}
use Rattle.uc_acts.proofs.Law.{good_whole}
use Rattle.uc_acts.proofs.Moves.{first_at}
use Rattle.uc_acts.proofs.Acting.{is_giving as gives_one, object_of, destroys, AllBy, by_act}
use Rattle.uc_acts.proofs.Making.{row_asks, law_makes}
use Rattle.uc_acts.proofs.Living.{going_row}
use Rattle.uc_acts.proofs.Given.{law_dispatch}
use Rattle.uc_acts.proofs.Others.{law_elsewhere}
use Rattle.uc_machine.specs.Quiet.{State, Members}
use Rattle.uc_machine.specs.Answering.{with_hand, child_of}
use Rattle.uc_meaning.specs.Runs.{World, Runs, May, AsksIn, begun, more, gives, no_room, acts, with_home, hand_of, or_else, world_after, bare}
use Rattle.uc_meaning.specs.Cuts.{Cut, ends, goes_on, Reentry}
use Rattle.uc_state_laws.specs.Fitting.{MayFit, RunFits}
use Rattle.uc_state_laws.specs.Laws.{is_giving, IsOn, AllLeft, LawProcessor, AsksWith, LawHand, IsAtHome, LawHome, names, StaysAs, LawOthers}
use Rattle.uc_step_laws.proofs.Walk.{ride_within, ride_early}
use Rattle.uc_state_laws.proofs.Ticks.{no_both, not_true, left_act, left_given, left_begin}
use Rattle.uc_state_laws.proofs.Makes.{same_holder}
use Rattle.uc_state_laws.proofs.ProgramWorlds.{IsThere, WorldRests, none_found, asks_holding, rests_act, rests_given, rests_begin}

-- each entry of an act is on its processor

on_all : (p t o : ℕ) (A : Type 0) (g : Bool) (a : List Entry) → AllBy p t o A g a → Each (IsOn p) a
on_all p t o A g [] b = tt
on_all p t o A g (e ∷ a) b = (record { processor = b.0.proc; gives = by e.kind b.0.acts }, on_all p t o A g a b.1)
  where
    by : (k : EntryKind) → gives_one k ≡ false → is_giving k ≡ false
    by kind.Begin h = cc
    by kind.Dispatch h = cc
    by k h = refl

pub law_processor : LawProcessor
law_processor opts sites input j p t k asked =
    on_all p t (object_of t j asked.request) (Unit {0}) (destroys asked.request) (act opts sites input j p t k asked) (by_act opts sites input j p t k (Unit {0}) asked (λ h. tt))

-- a run in which all that was asked fits

pub record RunRests (source : Source) (input : List ℕ) (opts : Options) (j : Journal) (w : World) : Type 0 where
  pub kernel : KernelRuns opts source.sites input j
  pub all : AllLeft opts j
  pub rests : WorldRests j w

module _ (source : Source) (input : List ℕ) (opts : Options) (range : InRange opts) where
  pub may_ask : {j : Journal} {w : World} {p t n : ℕ} {s : State} {asked : Asked} → AsksIn source opts j w p t n s asked → Fits opts source.sites j t asked.request → MayAsk opts source.sites j p t n asked.request
  may_ask d f = record { runs = d.runs; within = ride_within d.rides; fits = f }

  rests_may : {j : Journal} {w : World} {a : List Entry} {x : World} → RunRests source input opts j w → is_over j ≡ false → (m : May source opts input j w a x) → MayFit source opts input j w a x m → is_over (j ++ a) ≡ false → RunRests source input opts (j ++ a) x
  rests_may {j} {w} r o (gives p t s le) f on = record {
    kernel = more_in r.kernel o (gives_in p t s le);
    all = left_given opts source.sites input j p t range r.kernel s r.all;
    rests = rests_given source input opts j w r.kernel o r.rests r.all p t s;
  }
  rests_may {j} r o (no_room p t s le) f on = no_both (is_over (j ++ lone_limit ∷ [])) (over_limit j 0 0) on
  rests_may {j} {w} r o (acts p t n s asked d) f on =
      let m = may_ask d f in
      record {
        kernel = more_in r.kernel o (acts_in p t n asked m);
        all = left_act opts source.sites input j p t n asked r.kernel m (ride_early d.rides) on r.all;
        rests = rests_act source input opts j w r.kernel o r.rests r.all p t n s asked d m on;
      }

  pub run_rests : {j : Journal} {w : World} → (r : Runs source input opts j w) → RunFits source input opts j w r → is_over j ≡ false → RunRests source input opts j w
  run_rests begun f on = record { kernel = begun_in; all = left_begin opts; rests = rests_begin source opts }
  run_rests (more r o m) f on = rests_may (run_rests r f.0 o) o m f.1 on

  pub asking : {j : Journal} {w : World} → RunRests source input opts j w → is_over j ≡ false → (p t n : ℕ) (s : State) (asked : Asked) → AsksIn source opts j w p t n s asked → AsksWith source opts j t n s asked
  asking {j} {w} r o p t n s asked d =
      let x = asks_holding source input opts j w r.kernel o r.rests r.all d in
      record { hand = x.env.keys_are; form = x.form; within = ride_within d.rides; early = ride_early d.rides }

pub law_home : LawHome
law_home source input opts j w r range fits on =
    let x = (run_rests source input opts range r fits on).rests in
    record { there = λ o h. at_home (w.homes o) (x.there o h); new = x.new; gone = x.gone }
  where
    at_home : (m : Option Members) {A : Type 0} → IsThere m ⊎ A → IsAtHome m ⊎ A
    at_home (Some m) (inl y) = inl (record { members = m; is = refl })
    at_home None (inl y) = absurd y
    at_home m (inr y) = inr y

pub law_hand : LawHand
law_hand source input opts j w r range fits on p t n s asked d = asking source input opts range (run_rests source input opts range r fits on) on p t n s asked d

-- others

or_first : (b c : Bool) → (b || c) ≡ false → b ≡ false
or_first true c g = cc
or_first false c g = refl

or_second : (b c : Bool) → (b || c) ≡ false → c ≡ false
or_second true c g = cc
or_second false c g = g

apart_of : (p q : ℕ) → (q == p) ≡ false → (p == q) ≡ false
apart_of p q h = not_true (p == q) (λ e. no_both (q == p) (eq-eqb q p (sym (eqb-true p q e))) h)

-- a task runs on one processor
one_place : (j : Journal) (p q t : ℕ) → Sound j → running p j ≡ t ∷ [] → running q j ≡ t ∷ [] → q ≡ p
one_place j p q t s a b = ap proc_of (sym (first_at j s (Running q) t [] b) ∙ first_at j s (Running p) t [] a)
  where
    proc_of : Spot → ℕ
    proc_of (At (Running r)) = r
    proc_of x = 0

hand_same : (os : List ℕ) (f g : ℕ → Option Members) → ((o : ℕ) → has os o ≡ true → f o ≡ g o) → hand_of os f ≡ hand_of os g
hand_same [] f g h = refl
hand_same (o ∷ os) f g h =
    ap (λ x. with_home o x (hand_of os f)) (h o (ap (λ b. b || has os o) (eq-eqb o o refl))) ∙ ap (with_home o (g o)) (hand_same os f g (λ k e. h k (either_of (o == k) (has os k) e)))
  where
    either_of : (b c : Bool) → c ≡ true → (b || c) ≡ true
    either_of true c e = refl
    either_of false c e = e

stays_on : (source : Source) (opts : Options) (p t : ℕ) (j k l : Journal) (w u v : World) → StaysAs source opts p t j k w u → StaysAs source opts p t k l u v → StaysAs source opts p t j l w v
stays_on source opts p t j k l w u v a b = record {
  runs = b.runs;
  state = b.state ∙ a.state;
  answer = b.answer ∙ a.answer;
  ticks = b.ticks ∙ a.ticks;
}

-- the acts of a cut

pub cancel : (j x y : List Entry) → j ++ x ≡ j ++ y → x ≡ y
cancel [] x y e = e
cancel (i ∷ j) x y e = cancel j x y (cc e)

module _ {source : Source} {input : List ℕ} {opts : Options} where
  pub rest_of : {j : Journal} {w : World} {parts : List (List Entry)} {k : Journal} {u : World} → Cut source input opts j w parts k u → (x : List Entry) × (k ≡ j ++ x)
  rest_of {j} ends = ([], sym (append-nil j))
  rest_of {j} (goes_on {a} o s c) = let r = rest_of c in (a ++ r.0, r.1 ∙ append_assoc j a r.0)

  pub goes_first : {j : Journal} {w : World} {parts : List (List Entry)} {k : Journal} {u : World} → Cut source input opts j w parts k u → is_over k ≡ false → is_over j ≡ false
  goes_first ends on = on
  goes_first (goes_on o s c) on = o

module _ (source : Source) (input : List ℕ) (opts : Options) (range : InRange opts) where
  -- an act by another processor
  module _ {j : Journal} {w : World} (r : RunRests source input opts j w) (o : is_over j ≡ false) (p t : ℕ) (here : running p j ≡ t ∷ []) where
    stays_given : (q u : ℕ) → Serves opts j q u → (p == q) ≡ false → StaysAs source opts p t j (j ++ dispatch q u ∷ []) w w
    stays_given q u s n =
        let e = (law_dispatch opts source.sites input j q u r.kernel s).elsewhere p n in
        let x = e.untouched t here in
        record {
          runs = e.runs ∙ here;
          state = ap (λ os. with_hand (hand_of os w.homes) (w.tasks t)) x.objects;
          answer = x.answer;
          ticks = ap (λ k. opts.slice - k) x.ticks;
        }

    module _ (q u n : ℕ) (s : State) (asked : Asked) (d : AsksIn source opts j w q u n s asked) (f : Fits opts source.sites j u asked.request) (apart : (p == q) ≡ false) (on : is_over (j ++ act opts source.sites input j q u n asked) ≡ false) where
      abbrev a : List Entry
      a = act opts source.sites input j q u n asked

      abbrev after : World
      after = world_after source (act opts source.sites input j q u n asked) w u s

      elsewhere : Elsewhere source.sites j a q p
      elsewhere = law_elsewhere opts source.sites input j q u n asked r.kernel (may_ask source input opts range d f) p apart

      untouched : Untouched source.sites j a t
      untouched = elsewhere.untouched t here

      another : (t == u) ≡ false
      another =
          not_true (t == u) (λ e. no_both (p == q) (eq-eqb p q (one_place j q p u (good_whole opts source.sites input r.kernel).sound d.runs (here ∙ ap (λ x. x ∷ []) (eqb-true t u e)))) apart)

      not_mine : (k : ℕ) → has (held t j) k ≡ true → has (held u j) k ≡ false
      not_mine k e =
          not_true (has (held u j) k) (λ g. no_both (t == u) (eq-eqb t u (same_holder j u t k (good_whole opts source.sites input r.kernel).sound g e)) another)

      home_same : (k : ℕ) → has (held t j) k ≡ true → after.homes k ≡ w.homes k
      home_same k e =
          let stays : takes_out a k ≡ false = not_true (takes_out a k) (λ g. no_both (has (held u j) k) ((law_makes opts source.sites input j q u n asked r.kernel (may_ask source input opts range d f) on).taken k g) (not_mine k e)) in
          let absent : find k s.env.hand ≡ None = none_found k s.env.hand (ap (λ os. has os k) (asking source input opts range r o q u n s asked d).hand ∙ not_mine k e) in
          ap (λ b. cond b None (or_else (find k s.env.hand) (w.homes k))) stays ∙ ap (λ x. or_else x (w.homes k)) absent

      task_same : after.tasks t ≡ w.tasks t
      task_same =
          ap (λ b. cond b (bare s) (cond (spawns a t) (child_of source (own_object t a) s) (w.tasks t))) another ∙ ap (λ b. cond b (child_of source (own_object t a) s) (w.tasks t)) untouched.born

      stays_acted : StaysAs source opts p t j (j ++ a) w after
      stays_acted = record {
        runs = elsewhere.runs ∙ here;
        state = ap (λ os. with_hand (hand_of os after.homes) (after.tasks t)) untouched.objects ∙ ap (λ h. with_hand h (after.tasks t)) (hand_same (held t j) after.homes w.homes home_same) ∙ ap (λ x. with_hand (hand_of (held t j) w.homes) x) task_same;
        answer = untouched.answer;
        ticks = ap (λ k. opts.slice - k) untouched.ticks;
      }

  -- an act that does not name a processor is by another

  proc_apart : (j : Journal) (p t n : ℕ) (asked : Asked) (q : ℕ) → Fits opts source.sites j t asked.request → is_over (j ++ act opts source.sites input j p t n asked) ≡ false → names q (act opts source.sites input j p t n asked) ≡ false → (q == p) ≡ false
  proc_apart j p t n asked q f on h =
      let x = row_asks opts source.sites input j p t (cost n asked.line) asked.line asked.request f in
      let is : act opts source.sites input j p t n asked ≡ x.first ∷ x.rest = (going_row opts source.sites input j p t n asked on).0 ∙ x.is in
      let b : AllBy p t (object_of t j asked.request) (Unit {0}) (destroys asked.request) (x.first ∷ x.rest) = subst (AllBy p t (object_of t j asked.request) (Unit {0}) (destroys asked.request)) is (by_act opts source.sites input j p t n (Unit {0}) asked (λ h. tt)) in
      let first : (x.first.proc == q) ≡ false = or_first (x.first.proc == q) (names q x.rest) (ap (names q) (sym is) ∙ h) in
      apart_of q p (ap (λ v. v == q) (sym b.0.proc) ∙ first)

  module _ (re : Reentry source input opts) where
    fits_may : {j : Journal} {w : World} {a : List Entry} {x : World} → Runs source input opts j w → is_over j ≡ false → (m : May source opts input j w a x) → MayFit source opts input j w a x m
    fits_may r o (gives p t s le) = tt
    fits_may r o (no_room p t s le) = tt
    fits_may {j} {w} r o (acts p t n s asked d) = re j w p t n s asked r o d

    pub fits_run : {j : Journal} {w : World} → (r : Runs source input opts j w) → RunFits source input opts j w r
    fits_run begun = tt
    fits_run (more r o m) = (fits_run r, fits_may r o m)

    one : (p t : ℕ) {j : Journal} {w : World} {a : List Entry} {x : World} → Runs source input opts j w → is_over j ≡ false → (m : May source opts input j w a x) → is_over (j ++ a) ≡ false → running p j ≡ t ∷ [] → names p a ≡ false → StaysAs source opts p t j (j ++ a) w x
    one p t r o (gives q v s le) on here h =
        stays_given (run_rests source input opts range r (fits_run r) o) o p t here q v s (apart_of p q (or_first (q == p) false h))
    one p t {j} r o (no_room q v s le) on here h = no_both (is_over (j ++ lone_limit ∷ [])) (over_limit j 0 0) on
    one p t {j} {w} r o (acts q v n s asked d) on here h =
        let f = re j w q v n s asked r o d in
        stays_acted (run_rests source input opts range r (fits_run r) o) o p t here q v n s asked d f (proc_apart j q v n asked p f on h) on

    onward : (p t : ℕ) {j : Journal} {w : World} {parts : List (List Entry)} {k : Journal} {u : World} → Runs source input opts j w → Cut source input opts j w parts k u → (later : List Entry) → k ≡ j ++ later → running p j ≡ t ∷ [] → names p later ≡ false → is_over k ≡ false → StaysAs source opts p t j k w u
    onward p t r ends later e here n on = record { runs = here; state = refl; answer = refl; ticks = refl }
    onward p t {j} {w} {k = k} {u = u} r (goes_on {a} {x} o m c) later e here n on =
        let y = rest_of c in
        let is : later ≡ a ++ y.0 = cancel j later (a ++ y.0) (sym e ∙ y.1 ∙ append_assoc j a y.0) in
        let both : (names p a || names p y.0) ≡ false = sym (list_any-append (λ i. i.proc == p) a y.0) ∙ ap (names p) (sym is) ∙ n in
        let first = one p t r o m (goes_first c on) here (or_first (names p a) (names p y.0) both) in
        stays_on source opts p t j (j ++ a) k w x u first (onward p t (more r o m) c y.0 y.1 first.runs (or_second (names p a) (names p y.0) both) on)

pub law_others : LawOthers
law_others source input opts range re j w parts later u r c on p t here n = onward source input opts range re p t r c later refl here n on
