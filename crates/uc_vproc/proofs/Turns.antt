-- A dispatch and an act under the lock: what the locked value keeps, and what comes of them.
use Rattle.std.proofs.Common.{◌==◌, ◌≡◌, ℕ, ◌-◌, ◌+◌, ◌<◌, ◌≤◌, ◌||◌, Bool, true, false, cond, List, [], ◌∷◌, ◌++◌, Option, Some, None, refl, sym, ap, ◌∙◌, subst, length, replicate, arith, length-append, append-nil, is_some, IfNone, IfSome}
use Rattle.std.specs.Prelude.{if◌then◌else◌}
use Rattle.std.specs.Option.{option_map}
use Rattle.std.proofs.lemmas.List.{length-replicate}
use Rattle.std.proofs.lemmas.Bool.{eqb-true, eq-eqb}
use Rattle.uc_tree.specs.Source.{Source}
use Rattle.uc_entry.specs.declared.entry.Entry.{Entry}
use Rattle.uc_entry.specs.declared.request.Request.{Request}
use Rattle.uc_acts.specs.Journal.{is_ending, is_over, held}
use Rattle.uc_acts.specs.Known.{has}
use Rattle.uc_acts.specs.Queues.{running}
use Rattle.uc_acts.specs.Serves.{Serves}
use Rattle.uc_acts.specs.Sound.{Sound}
use Rattle.uc_acts.specs.Acts.{dispatch, lone_limit}
use Rattle.uc_acts.specs.KernelRuns.{KernelRuns, more as more_in, gives as gives_in, no_room as none_in}
use Rattle.uc_acts.proofs.Acting.{AllBy}
use Rattle.uc_acts.proofs.Bounds.{law_room, over_push, over_limit}
use Rattle.uc_acts.proofs.Given.{law_dispatch}
use Rattle.uc_acts.proofs.Law.{good_whole}
use Rattle.uc_code.specs.Codes.{Code}
use Rattle.uc_code.specs.Layout.{laid_of}
use Rattle.uc_frames.specs.Machine.{Machine, Members, with_hand}
use Rattle.uc_frames.specs.PaceInvariant.{IdlesAt}
use Rattle.uc_step.specs.WeightFalls.{Keeps}
use Rattle.uc_meaning.specs.Runs.{IsPrefix, more, gives, no_room, drawn, hand_of}
use Rattle.uc_state_laws.specs.Laws.{AllLeft}
use Rattle.uc_state_laws.proofs.Ticks.{left_given}
use Rattle.uc_kernel.specs.KernelState.{Store, kept, Kept, Same, handed, with_entry}
use Rattle.uc_kernel.specs.Calls.{HandsOut, over, abandoned, nobody, no_room as limited, Dispatched, EndsRun}
use Rattle.uc_kernel.specs.declared.given.Given.{Given}
use Rattle.uc_lock.specs.Journals.{Extends}
use Rattle.uc_vproc.specs.declared.registry.Registry.{Registry}
use Rattle.uc_vproc.specs.declared.step.Step.{Step}
use Rattle.uc_vproc.specs.declared.step.Step.TheVariants.{Going, Idle, Over}
use Rattle.uc_vproc.specs.Makers.{Handed, Log, Notes, paired, tagged, entries, server, handed_out, Manned}
use Rattle.uc_vproc.specs.Registries.{Tells}
use Rattle.uc_vproc.specs.Rest.{IsSource, IsHome, IsTask, IsWork, OutElse, AtRest, Steady, WasHanded, stops}
use Rattle.uc_vproc.specs.Desks.{EndsAs, Keeping, Got, Came, HandsNext, boxed, nothing, passes, WasHandedOut, none_left, gave, value_after}
use Rattle.uc_vproc.proofs.MakersLemmas.{not_both, entries_paired, entries_append, entries_tagged, paired_more, server_push, manned_push, AllOn, handed_still, handed_act, names_none, all_tagged}
use Rattle.uc_vproc.proofs.Parts.{work_of, kept_work, each_gathered}
use Rattle.uc_vproc.proofs.Counting.{told_given}
use Rattle.uc_vproc.proofs.EndedLemmas.{ended_on}
use Rattle.uc_vproc.proofs.Steps.{Choice, one_same, wait_by, drawn_given, hand_stands, rest_stands}

-- what is the same at each number, is the same
pub same_kept : (a b : Kept (Option Machine) Members) → Same a b → a ≡ b
same_kept a b s =
    let journal : a.journal ≡ b.journal = sym s.journal in
    let sites : a.sites ≡ b.sites = sym s.sites in
    let opts : a.opts ≡ b.opts = sym s.opts in
    let input : a.input ≡ b.input = sym s.input in
    let abandoned : a.abandoned ≡ b.abandoned = sym s.abandoned in
    let values : (u : ℕ) → a.values u ≡ b.values u = λ u. sym (s.values u) in
    let members : (o : ℕ) → a.members o ≡ b.members o = λ o. sym (s.members o) in
    λ i. record { journal = journal i; sites = sites i; opts = opts i; input = input i; abandoned = abandoned i; values = λ u. values u i; members = λ o. members o i }

pub all_on : (p t o : ℕ) (g : Bool) (a : List Entry) → AllBy p t o (Unit {0}) g a → AllOn p a
all_on p t o g [] h = tt
all_on p t o g (e ∷ a) h = (h.0.proc, h.0.acts, all_on p t o g a h.1)

goes_on : (p t : ℕ) → is_over (dispatch p t ∷ []) ≡ false
unfolding is_over
goes_on p t = refl

pub other_some : {A : Type 0} (b : Bool) (x : Option A) (v : A) → (if b then None else x) ≡ Some v → x ≡ Some v
other_some true x v h = absurd (cc h)
other_some false x v h = h

pub or_true : (b : Bool) → (b || true) ≡ true
or_true true = refl
or_true false = refl

pub has_last : (xs : List ℕ) (n : ℕ) → has (xs ++ n ∷ []) n ≡ true
has_last [] n = ap (λ b. b || false) (eq-eqb n n refl)
has_last (x ∷ xs) n = ap (λ b. (x == n) || b) (has_last xs n) ∙ or_true (x == n)

-- a task that goes on behind a request
pub goes_of : (r : Request) (x v : Machine) → value_after r x ≡ Some v → (stops r ≡ false) × (x ≡ v)
goes_of r x v e = by (stops r) refl e
  where
    by : (b : Bool) → stops r ≡ b → (if b then None else Some x) ≡ Some v → (stops r ≡ false) × (x ≡ v)
    by true f h = absurd (cc h)
    by false f h = (f, cc h)

pub some_child : (c : Option Machine) (v : Machine) → option_map Some c ≡ Some (Some v) → c ≡ Some v
some_child None v e = absurd (cc e)
some_child (Some x) v e = let same : x ≡ v = cc e in ap Some same

-- the notes, as many as there are entries
abbrev pub noted : Notes → ℕ → Step → List Entry → Notes
noted ns n step j = ns ++ replicate (length j - length ns) (n, step)

counted_more : (j a : List Entry) (ns : Notes) → length ns ≡ length j → length (j ++ a) - length ns ≡ length a
counted_more j a ns e = let l = length-append j a in omega (arith, e, l)

noted_more : (j a : List Entry) (ns : Notes) (n : ℕ) (step : Step) → length ns ≡ length j → noted ns n step (j ++ a) ≡ ns ++ replicate (length a) (n, step)
noted_more j a ns n step e = ap (λ k. ns ++ replicate k (n, step)) (counted_more j a ns e)

noted_same : (j : List Entry) (ns : Notes) (n : ℕ) (step : Step) → length ns ≡ length j → noted ns n step j ≡ ns
noted_same j ns n step e = let d : length j - length ns ≡ 0 = omega (arith, e) in ap (λ k. ns ++ replicate k (n, step)) d ∙ append-nil ns

-- what a call tells by an option
pub is_none_of : {A : Type 0} {P : Type 0} (x : Option A) (b : Bool) → b ≡ is_some x → b ≡ false → IfNone x P → P
is_none_of None b e f h = h
is_none_of (Some y) b e f h = absurd (cc (e, f))

pub is_some_of : {A : Type 0} {P : A → Type 0} (x : Option A) (b : Bool) → b ≡ is_some x → b ≡ true → IfSome x P → (y : A) × P y
is_some_of None b e f h = absurd (cc (e, f))
is_some_of (Some y) b e f h = (y, h)

lone_over : (e : Entry) → is_ending e.kind ≡ true → is_over (e ∷ []) ≡ true
unfolding is_over
lone_over e h = ap (λ b. b || false) h

run_ends : (j : List Entry) (e : Entry) → EndsRun j e → is_over j ≡ true
run_ends j e r = ap is_over r.last ∙ over_push r.before (e ∷ []) ∙ ap (λ b. is_over r.before || b) (lone_over e r.ends) ∙ or_true (is_over r.before)

-- with these entries more
abbrev pub changed : Kept (Option Machine) Members → List Entry → (ℕ → Option (Option Machine)) → (ℕ → Option Members) → Bool → Kept (Option Machine) Members
changed k a v m b = record { journal = k.journal ++ a; sites = k.sites; opts = k.opts; input = k.input; abandoned = b; values = v; members = m }

module _ (code : Code) (main : ℕ) where
  -- what the locked value is after a call of the maker n
  pub record Advanced (old : Kept (Option Machine) Members) (ns : Notes) (room n : ℕ) (new : Kept (Option Machine) Members) (ns' : Notes) (registry : Registry) (step : Step) : Type 0 where
    pub keeps : Keeping code main new ns' room registry
    pub log : Extends n (paired old.journal ns) (paired new.journal ns')
    pub came : Came code n (paired new.journal ns') step
    pub input : new.input ≡ old.input
    pub opts : new.opts ≡ old.opts

  -- how long the journal may be
  pub fits_room : (k : Kept (Option Machine) Members) (ns : Notes) (room : ℕ) (registry : Registry) → Keeping code main k ns room registry → length k.journal ≤ room
  fits_room k ns room registry keeps =
      let le : length k.journal ≤ k.opts.entries = (law_room k.opts k.sites k.input k.journal keeps.range keeps.runs).most in
      let r = keeps.room_is in omega (arith, le, r)

  module _ (k : Kept (Option Machine) Members) (ns : Notes) (room n : ℕ) (registry : Registry) (keeps : Keeping code main k ns room registry) where
    abbrev log : Log
    log = paired k.journal ns

    pub log_is : entries log ≡ k.journal
    log_is = entries_paired k.journal ns keeps.counted

    pub entries_more : (step : Step) (a : List Entry) → entries (log ++ tagged n step a) ≡ k.journal ++ a
    entries_more step a = entries_append log (tagged n step a) ∙ ap (λ x. x ++ entries (tagged n step a)) log_is ∙ ap (λ x. k.journal ++ x) (entries_tagged n step a)

    -- more entries of one call
    module _ (step : Step) (a : List Entry) (v : ℕ → Option (Option Machine)) (m : ℕ → Option Members) (b : Bool) (runs : KernelRuns k.opts k.sites k.input (k.journal ++ a)) (manned : Manned (log ++ tagged n step a)) (prefix : (source : Source) → IsSource code main source → IsPrefix source k.input k.opts (k.journal ++ a)) (steady : b ≡ false → is_over (k.journal ++ a) ≡ false → Steady code main (changed k a v m false) (log ++ tagged n step a)) (came : Came code n (log ++ tagged n step a) step) (registry' : Registry) (are : b ≡ false → is_over (k.journal ++ a) ≡ false → Tells k.opts (k.journal ++ a) registry') (tick : is_over (k.journal ++ a) ≡ false → AllLeft k.opts (k.journal ++ a)) where
      log_more : paired (k.journal ++ a) (noted ns n step (k.journal ++ a)) ≡ log ++ tagged n step a
      log_more = ap (paired (k.journal ++ a)) (noted_more k.journal a ns n step keeps.counted) ∙ paired_more n step k.journal ns a keeps.counted

      grown : Keeping code main (changed k a v m b) (noted ns n step (k.journal ++ a)) room registry'
      grown = record {
        sourced = keeps.sourced;
        range = keeps.range;
        sites = keeps.sites;
        counted =
            let c = keeps.counted in
            let l1 = length-append ns (replicate (length (k.journal ++ a) - length ns) (n, step)) in
            let l2 = length-replicate {A = ℕ × Step} (length (k.journal ++ a) - length ns) (n, step) in
            let l3 = length-append k.journal a in omega (arith, c, l1, l2, l3);
        room_is = keeps.room_is;
        runs = runs;
        manned = subst Manned (sym log_more) manned;
        prefix = prefix;
        steady = λ f g. subst (λ l. Steady code main (changed k a v m false) l) (sym log_more) (steady f g);
        told = are;
        left = tick;
      }

      pub advanced : Advanced k ns room n (changed k a v m b) (noted ns n step (k.journal ++ a)) registry' step
      advanced = record {
        keeps = grown;
        log = (tagged n step a, log_more, all_tagged n step a);
        came = subst (λ l. Came code n l step) (sym log_more) came;
        input = refl;
        opts = refl;
      }

    -- nothing more
    pub still_by : (b : Bool) (step : Step) → (b ≡ false → k.abandoned ≡ false) → Came code n log step → (registry' : Registry) → (b ≡ false → registry' ≡ registry) → Advanced k ns room n (record k { abandoned = b }) (noted ns n step k.journal) registry' step
    still_by b step f came registry' same =
        let e = noted_same k.journal ns n step keeps.counted in
        subst (λ l. Advanced k ns room n (record k { abandoned = b }) l registry' step) (sym e) (record {
          keeps = record {
            sourced = keeps.sourced;
            range = keeps.range;
            sites = keeps.sites;
            counted = keeps.counted;
            room_is = keeps.room_is;
            runs = keeps.runs;
            manned = keeps.manned;
            prefix = keeps.prefix;
            steady = λ g h. keeps.steady (f g) h;
            told = λ g h. subst (Tells k.opts k.journal) (sym (same g)) (keeps.told (f g) h);
            left = keeps.left;
          };
          log = ([], sym (append-nil log), λ i d lt. absurd (omega (arith, lt)));
          came = came;
          input = refl;
          opts = refl;
        })

    abbrev calm : Kept (Option Machine) Members
    calm = record k { abandoned = false }

    -- a dispatch of task t to p
    module _ (going : is_over k.journal ≡ false) (p t : ℕ) (serves : Serves k.opts k.journal p t) (fits : length k.journal + 2 ≤ k.opts.entries) where
      abbrev e : Entry
      e = dispatch p t

      abbrev k1 : Kept (Option Machine) Members
      k1 = with_entry (dispatch p t) k

      given_runs : KernelRuns k.opts k.sites k.input (k.journal ++ e ∷ [])
      given_runs = more_in keeps.runs going (gives_in p t serves fits)

      given_prefix : (source : Source) → IsSource code main source → IsPrefix source k.input k.opts (k.journal ++ e ∷ [])
      given_prefix source is = let x = keeps.prefix source is in record { world = x.world; runs = more x.runs going (gives p t serves fits) }

      given_told : k.abandoned ≡ false → Tells k.opts (k.journal ++ e ∷ []) registry
      given_told f = told_given k.opts k.sites k.input k.journal p t keeps.runs serves registry (keeps.told f going)

      given_left : AllLeft k.opts (k.journal ++ e ∷ [])
      given_left = left_given k.opts k.sites k.input k.journal p t keeps.range keeps.runs serves (keeps.left going)

      given_manned : (step : Step) → Manned (log ++ tagged n step (e ∷ []))
      given_manned step = manned_push log ((e, step), n) keeps.manned (ap (running p) log_is ∙ serves.free)

      -- what is handed out
      module _ (wanted : k.abandoned ≡ false) (g : Handed) (processor : g.processor ≡ p) (h : HandsOut (with_entry (dispatch p t) k) p t (boxed g)) where
        abbrev step : Step
        step = Going g

        abbrev log1 : Log
        log1 = log ++ tagged n step (e ∷ [])

        old : Steady code main calm log
        old = keeps.steady wanted going

        handed_now : handed_out p log1 ≡ Some g
        handed_now = handed_act p n log step (e ∷ []) (refl, tt) refl

        others : (q : ℕ) → (q == p) ≡ false → handed_out q log1 ≡ handed_out q log
        others q d = handed_still q log (tagged n step (e ∷ [])) (names_none p q n step (e ∷ []) d (refl, tt))

        abbrev k2 : Kept (Option Machine) Members
        k2 = changed k (e ∷ []) (handed t k1).values (handed t k1).members false

        mine : WasHanded k2 log1 p t
        mine = record { handed = g; is = handed_now; answer = h.answer; left_is = h.left }

        out_by : (q u : ℕ) (c : Bool) → (q == p) ≡ c → running q (k.journal ++ e ∷ []) ≡ u ∷ [] → WasHanded k2 log1 q u
        out_by q u true d r =
            let same : q ≡ p = eqb-true q p d in
            let who : t ≡ u = one_same t u (sym h.runs ∙ ap (λ x. running x (k.journal ++ e ∷ [])) (sym same) ∙ r) in
            subst (λ x. WasHanded k2 log1 x u) (sym same) (subst (λ y. WasHanded k2 log1 p y) who mine)
        out_by q u false d r =
            let law = (law_dispatch k.opts k.sites k.input k.journal p t keeps.runs serves).elsewhere q d in
            let r' : running q k.journal ≡ u ∷ [] = sym law.runs ∙ r in
            let x = law.untouched u r' in
            let o = old.out q u r' in
            record {
              handed = o.handed;
              is = others q d ∙ o.is;
              answer = x.answer ∙ o.answer;
              left_is = o.left_is ∙ sym (ap (λ z. k.opts.slice - z) x.ticks);
            }

        module _ (source : Source) (is : IsSource code main source) where
          x : AtRest code source calm log
          x = old.stands source is

          members_but : (o : ℕ) → Choice (IsTask code) (IsHome code) (OutElse p (k.journal ++ e ∷ []) o) (k.members o) (x.world.homes o)
          members_but o = wait_by (IsTask code) (IsHome code) k.opts k.sites k.input k.journal x.world p t keeps.runs serves o (k.members o) (x.world.homes o) (x.members o)

          sound : Sound (k.journal ++ e ∷ [])
          sound = (good_whole k.opts k.sites k.input given_runs).sound

          work_now : IsWork code g.task g.members.items (drawn (k.journal ++ e ∷ []) x.world t)
          work_now =
              subst (λ ms. IsWork code g.task ms (drawn (k.journal ++ e ∷ []) x.world t)) (sym h.hand) (work_of code g.task _ (x.world.tasks t) (hand_of (held t (k.journal ++ e ∷ [])) x.world.homes) (x.values t g.task h.value) (hand_stands (IsTask code) (IsHome code) (k.journal ++ e ∷ []) x.world p t sound h.runs k.members members_but))

          work_by : (q u : ℕ) (y : Handed) (c : Bool) → (q == p) ≡ c → running q (k.journal ++ e ∷ []) ≡ u ∷ [] → handed_out q log1 ≡ Some y → IsWork code y.task y.members.items (drawn (k.journal ++ e ∷ []) x.world u)
          work_by q u y true d r f =
              let same : q ≡ p = eqb-true q p d in
              let who : t ≡ u = one_same t u (sym h.runs ∙ ap (λ z. running z (k.journal ++ e ∷ [])) (sym same) ∙ r) in
              let it : g ≡ y = cc (sym handed_now ∙ ap (λ z. handed_out z log1) (sym same) ∙ f) in
              subst (λ z. IsWork code y.task y.members.items (drawn (k.journal ++ e ∷ []) x.world z)) who (subst (λ (z : Handed). IsWork code z.task z.members.items (drawn (k.journal ++ e ∷ []) x.world t)) it work_now)
          work_by q u y false d r f =
              let law = (law_dispatch k.opts k.sites k.input k.journal p t keeps.runs serves).elsewhere q d in
              subst (λ z. IsWork code y.task y.members.items z) (sym (drawn_given (IsTask code) (IsHome code) k.opts k.sites k.input k.journal x.world p t keeps.runs serves u)) (x.hands q u y (sym law.runs ∙ r) (sym (others q d) ∙ f))

          rests : AtRest code source k2 log1
          rests = record {
            world = x.world;
            runs = more x.runs going (gives p t serves fits);
            fitting = (x.fitting, tt);
            values = λ u v f. x.values u v (other_some (u == t) (k.values u) (Some v) f);
            members = rest_stands (IsTask code) (IsHome code) (k.journal ++ e ∷ []) x.world p t sound h.runs k.members members_but;
            hands = λ q u y r f. work_by q u y (q == p) refl r f;
          }

        steady1 : Steady code main k2 log1
        steady1 = record {
          kept = record {
            values = λ u v f. old.kept.values u v (other_some (u == t) (k.values u) (Some v) f);
            members = λ o m f. old.kept.members o m (other_some (has (held t (k.journal ++ e ∷ [])) o) (k.members o) m f);
          };
          ended = λ u f. ended_on u k.journal (e ∷ []) (old.ended u (other_some (u == t) (k.values u) None f));
          out = λ q u r. out_by q u (q == p) refl r;
          stands = rests;
        }

        serves1 : server p log1 ≡ Some n
        serves1 = server_push p log ((e, step), n) ∙ ap (λ c. cond c (Some n) (server p log)) (eq-eqb p p refl)

        got1 : Got code n log1 g
        got1 = record {
          is = ap (λ q. handed_out q log1) processor ∙ handed_now;
          serves = ap (λ q. server q log1) processor ∙ serves1;
          task = t;
          runs = ap (running g.processor) (entries_more step (e ∷ [])) ∙ ap (λ q. running q (k.journal ++ e ∷ [])) processor ∙ h.runs;
          some = subst (λ q. 1 ≤ q) (sym h.left) (given_left p t h.runs);
          kept = subst (λ ms. Keeps code (with_hand ms g.task)) (sym h.hand) (kept_work code g.task _ (old.kept.values t g.task h.value) (each_gathered (IdlesAt (laid_of code) code.routines) (held t (k.journal ++ e ∷ [])) k.members old.kept.members));
        }

        pub given_on : Advanced k ns room n (changed k (e ∷ []) (handed t k1).values (handed t k1).members k.abandoned) (noted ns n step (k.journal ++ e ∷ [])) registry step
        given_on = advanced step (e ∷ []) (handed t k1).values (handed t k1).members k.abandoned given_runs (given_manned step) given_prefix (λ f o. steady1) got1 registry (λ f o. given_told f) (λ o. given_left)

    -- no room for a dispatch
    module _ (going : is_over k.journal ≡ false) (p t : ℕ) (serves : Serves k.opts k.journal p t) (full : k.opts.entries < length k.journal + 2) (step : Step) (came : Came code n (log ++ tagged n step (lone_limit ∷ [])) step) (b : Bool) where
      pub limited_on : Advanced k ns room n (changed k (lone_limit ∷ []) k.values k.members b) (noted ns n step (k.journal ++ lone_limit ∷ [])) registry step
      limited_on =
          advanced step (lone_limit ∷ []) k.values k.members b (more_in keeps.runs going (none_in p t serves full)) (manned_push log ((lone_limit, step), n) keeps.manned tt) (λ source is. let x = keeps.prefix source is in record { world = x.world; runs = more x.runs going (no_room p t serves full) }) (λ f o. not_both (is_over (k.journal ++ lone_limit ∷ [])) (over_limit k.journal 0 0) o) came registry (λ f o. not_both (is_over (k.journal ++ lone_limit ∷ [])) (over_limit k.journal 0 0) o) (λ o. not_both (is_over (k.journal ++ lone_limit ∷ [])) (over_limit k.journal 0 0) o)

    -- what comes of a dispatch
    pub began : (new : Kept (Option Machine) Members) {o : Option (Given (Option Machine) Members)} {step : Step} → HandsNext o step → k.abandoned ≡ false → is_over k.journal ≡ false → Dispatched k o new → Advanced k ns room n new (noted ns n step new.journal) registry step
    began new nothing wanted going (over h same) = not_both (is_over k.journal) h going
    began new nothing wanted going (abandoned h same) = not_both k.abandoned h wanted
    began new nothing wanted going (nobody h same) =
        subst (λ (x : Kept (Option Machine) Members). Advanced k ns room n x (noted ns n Idle x.journal) registry Idle) (same_kept k new same) (still_by k.abandoned Idle (λ f. f) tt registry (λ f. refl))
    began new nothing wanted going (limited h w s full same) =
        subst (λ (x : Kept (Option Machine) Members). Advanced k ns room n x (noted ns n Idle x.journal) registry Idle) (same_kept (with_entry lone_limit k) new same) (limited_on going s.processor s.task s.serves full Idle tt k.abandoned)
    began new (passes g) wanted going d =
        subst (λ (x : Kept (Option Machine) Members). Advanced k ns room n x (noted ns n (Going g) x.journal) registry (Going g)) (same_kept (handed d.task (with_entry (dispatch g.processor d.task) k)) new d.rest) (given_on going g.processor d.task d.first.serves d.room wanted g refl d.hands)

    -- what comes of a call that hands out
    pub handed_on : (old new : Store (Option Machine) Members) → kept old ≡ k → {step : Step} → WasHandedOut old new step → Advanced k ns room n (kept new) (noted ns n step new.journal) registry step
    handed_on before new same (none_left e) =
        subst (λ (x : Store (Option Machine) Members). Advanced k ns room n (kept x) (noted ns n Over x.journal) registry Over) (sym e) (subst (λ (x : Kept (Option Machine) Members). Advanced k ns room n x (noted ns n Over x.journal) registry Over) (sym same) (still_by k.abandoned Over (λ f. f) tt registry (λ f. refl)))
    handed_on before new same (gave how o wanted going d h) =
        began (kept new) h (ap (λ (x : Kept (Option Machine) Members). x.abandoned) (sym same) ∙ wanted) (ap (λ (x : Kept (Option Machine) Members). is_over x.journal) (sym same) ∙ going) (subst (λ x. Dispatched x o (kept new)) same d)

  -- told of the fields of the locked value
  module _ (k : Kept (Option Machine) Members) (ns : Notes) (room n : ℕ) (new : Kept (Option Machine) Members) (ns' ns'' : Notes) (room' : ℕ) (registry : Registry) (step : Step) (adv : Advanced k ns room n new ns' registry step) (same : ns'' ≡ ns') where
    pub keeps_on : room' ≡ room → Keeping code main new ns'' room' registry
    keeps_on r = subst (λ x. Keeping code main new ns'' x registry) (sym r) (subst (λ x. Keeping code main new x room registry) (sym same) adv.keeps)

    pub logs_on : Extends n (paired k.journal ns) (paired new.journal ns'')
    logs_on = subst (λ x. Extends n (paired k.journal ns) (paired new.journal x)) (sym same) adv.log

    pub comes_on : Came code n (paired new.journal ns'') step
    comes_on = subst (λ x. Came code n (paired new.journal x) step) (sym same) adv.came

  -- a run that is over
  pub ends_as : (k : Kept (Option Machine) Members) (ns : Notes) (room : ℕ) (registry : Registry) → Keeping code main k ns room registry → (e : Entry) → EndsRun k.journal e → EndsAs code main k.input k.opts k.journal
  ends_as k ns room registry keeps e ended source is = record {
    run = record { prefix = keeps.prefix source is; over = run_ends k.journal e ended };
    last = e;
    ended = ended;
  }
