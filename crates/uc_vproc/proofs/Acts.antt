-- An act under the lock: what the locked value keeps, and what comes of it.
use Rattle.std.proofs.Common.{◌==◌, ◌≡◌, ℕ, ◌-◌, ◌≤◌, Bool, true, false, List, [], ◌∷◌, ◌++◌, Option, Some, None, refl, sym, ap, ◌∙◌, subst}
use Rattle.std.specs.Prelude.{if◌then◌else◌}
use Rattle.std.proofs.lemmas.Bool.{eqb-true}
use Rattle.uc_tree.specs.Source.{Source}
use Rattle.uc_entry.specs.declared.entry.Entry.{Entry}
use Rattle.uc_entry.specs.Keyed.{find}
use Rattle.uc_acts.specs.Journal.{is_over, held, own_object}
use Rattle.uc_acts.specs.Known.{has, has_ended, spawns, takes_out}
use Rattle.uc_acts.specs.Queues.{running}
use Rattle.uc_acts.specs.Sound.{Sound}
use Rattle.uc_acts.specs.Acts.{act}
use Rattle.uc_acts.specs.KernelRuns.{Fits, KernelRuns, more as more_in, acts as acts_in}
use Rattle.uc_acts.proofs.Acting.{by_act, object_of, destroys}
use Rattle.uc_acts.proofs.Others.{law_elsewhere}
use Rattle.uc_acts.proofs.Law.{good_whole}
use Rattle.uc_machine.specs.Answering.{answered, child_of}
use Rattle.uc_code.specs.Codes.{Code}
use Rattle.uc_code.specs.Layout.{laid_of}
use Rattle.uc_frames.specs.Machine.{Machine, Members, with_hand}
use Rattle.uc_frames.specs.StandsByParts.{Numbered}
use Rattle.uc_frames.specs.PaceInvariant.{EachOf, IdlesAt}
use Rattle.uc_step.specs.WeightFalls.{Keeps}
use Rattle.uc_ride.specs.RideStands.{Rode}
use Rattle.uc_ride.specs.UnwindingFalls.{ChildKeeps}
use Rattle.uc_meaning.specs.Runs.{World, Runs, IsPrefix, more, acts, AsksIn, bare, drawn, world_after, hand_of}
use Rattle.uc_state_laws.specs.Fitting.{RunFits}
use Rattle.uc_state_laws.specs.Laws.{AllLeft}
use Rattle.uc_state_laws.proofs.Ticks.{left_act}
use Rattle.uc_kernel.specs.AtRest.{IsMake}
use Rattle.uc_kernel.specs.Numbered.{keys, or_else}
use Rattle.uc_kernel.specs.KernelState.{Brought, Store, kept, Kept, put_back, handed}
use Rattle.uc_kernel.specs.Calls.{MayBring, HandsOut, Goes, Follows, Acted, LacksNew}
use Rattle.uc_kernel.specs.declared.given.Next.{Next}
use Rattle.uc_kernel.specs.declared.given.Next.TheVariants.{Go}
use Rattle.uc_vproc.specs.declared.put.Sort.TheVariants as sort
use Rattle.uc_vproc.specs.declared.registry.Registry.{Registry}
use Rattle.uc_vproc.specs.declared.step.Step.{Step}
use Rattle.uc_vproc.specs.declared.step.Step.TheVariants.{Going, Idle, Over}
use Rattle.uc_vproc.specs.Makers.{Handed, Log, Notes, paired, tagged, server, handed_out}
use Rattle.uc_vproc.specs.Registries.{Tells, sort_of}
use Rattle.uc_vproc.specs.Rest.{IsSource, IsHome, IsTask, IsWork, OutElse, AtRest, RestKept, Steady, WasHanded, faults}
use Rattle.uc_vproc.specs.Desks.{Keeping, Got, Brings, Saw, IsTold, RegistryAfter, boxed, Comes, goes, idles, ends, WasPut, stays, refused, acted}
use Rattle.uc_vproc.proofs.MakersLemmas.{named_all, not_both, is_nil, AllOn, Follows as MannedOn, manned_act, handed_still, handed_act, names_none}
use Rattle.uc_vproc.proofs.Parts.{task_of, work_of, kept_bare, kept_task, kept_work, goes_stands, goes_kept, hand_kept_after, born_stands, each_gathered, each_found}
use Rattle.uc_vproc.proofs.Asked.{act_some, goes_on_behind, spawned}
use Rattle.uc_vproc.proofs.AskingLemmas.{same_sites, served, rode, asks, asks_with, hand, lined}
use Rattle.uc_vproc.proofs.Counting.{told_by}
use Rattle.uc_vproc.proofs.EndedLemmas.{ended_behind, ended_on, no_child}
use Rattle.uc_vproc.proofs.Putting.{makes_sort}
use Rattle.uc_vproc.proofs.Turns.{Advanced, advanced, all_on, changed, entries_more, goes_of, has_last, noted, other_some, same_kept, some_child, still_by}
use Rattle.uc_vproc.proofs.Steps.{Choice, one_same, put_members, put_values, drawn_same, settle_by, hand_stands, rest_stands}

-- the entries of an act are on its processor
module _ (code : Code) (main : ℕ) where
  module _ (k : Kept (Option Machine) Members) (ns : Notes) (room n : ℕ) (registry : Registry) (keeps : Keeping code main k ns room registry) where
    abbrev log : Log
    log = paired k.journal ns

    abbrev calm : Kept (Option Machine) Members
    calm = record k { abandoned = false }

    -- the act of what a worker brings
    module _ (going : is_over k.journal ≡ false) (wanted : k.abandoned ≡ false) (b : Brought (Option Machine) Members) (seen : Log) (saw : Saw n seen log) (brings : Brings code n seen b) (may : MayBring k b) where
      abbrev p : ℕ
      p = b.processor

      abbrev t : ℕ
      t = may.task

      old : Steady code main calm log
      old = keeps.steady wanted going

      abbrev a : List Entry
      a = act k.opts k.sites k.input k.journal b.processor may.task b.ticks b.asked

      on_all : AllOn b.processor a
      on_all =
          let r = b.asked.request in
          all_on b.processor t (object_of t k.journal r) (destroys r) a (by_act k.opts k.sites k.input k.journal b.processor t b.ticks (Unit {0}) b.asked (λ h. tt))

      some : is_nil a ≡ false
      some = act_some k.opts k.sites k.input k.journal b.processor t b.ticks b.asked may.asks.fits

      act_runs : KernelRuns k.opts k.sites k.input (k.journal ++ a)
      act_runs = more_in keeps.runs going (acts_in b.processor t b.ticks b.asked may.asks)

      on_processor : (step : Step) → MannedOn b.processor n log step a
      on_processor step =
          manned_act b.processor n log step a keeps.manned (served code main k ns room n registry keeps going wanted b seen saw brings t may.asks.runs) on_all

      others : (step : Step) (q : ℕ) → (q == b.processor) ≡ false → handed_out q (log ++ tagged n step a) ≡ handed_out q log
      others step q d = handed_still q log (tagged n step a) (names_none b.processor q n step a d (named_all b.processor a on_all))

      abbrev rested : Kept (Option Machine) Members
      rested = put_back (act k.opts k.sites k.input k.journal b.processor may.task b.ticks b.asked) may.task b.task b.members.items b.child k

      act_left : is_over (k.journal ++ a) ≡ false → AllLeft k.opts (k.journal ++ a)
      act_left on =
          left_act k.opts k.sites k.input k.journal b.processor t b.ticks b.asked keeps.runs may.asks (asks_with code main k ns room n registry keeps going wanted b seen saw brings t may.asks.runs keeps.sourced.source keeps.sourced.is).early on (keeps.left going)

      -- for one source
      module _ (source : Source) (is : IsSource code main source) where
        abbrev x : AtRest code source calm log
        x = (keeps.steady wanted going).stands source is

        same : k.sites ≡ source.sites
        same = same_sites code main k ns room n registry keeps going wanted b seen saw brings t may.asks.runs source is

        abbrev ridden : Rode source (laid_of code) (answered source brings.handed.answer (drawn k.journal x.world t)) brings.handed.left b.ticks b.asked (with_hand b.members.items brings.ride.after) brings.ride.child
        ridden = rode code main k ns room n registry keeps going wanted b seen saw brings t may.asks.runs source is

        asked_there : AsksIn source k.opts k.journal x.world b.processor t b.ticks ridden.reached b.asked
        asked_there = asks code main k ns room n registry keeps going wanted b seen saw brings t may.asks.runs source is

        inside : keys ridden.reached.env.hand ≡ held t k.journal
        inside = hand code main k ns room n registry keeps going wanted b seen saw brings t may.asks.runs source is

        stand : Numbered (IsHome code) b.members.items ridden.reached.env.hand
        stand = lined code main k ns room n registry keeps going wanted b seen saw brings t may.asks.runs source is

        abbrev after : World
        after = world_after source (act k.opts k.sites k.input k.journal b.processor may.task b.ticks b.asked) x.world may.task ridden.reached

        -- of the run with this act more, all that was asked fits
        both_after : (r : Runs source k.input k.opts (k.journal ++ a) after) × RunFits source k.input k.opts (k.journal ++ a) after r
        both_after =
            subst (λ ss. (r : Runs source k.input k.opts (k.journal ++ act k.opts ss k.input k.journal b.processor t b.ticks b.asked) (world_after source (act k.opts ss k.input k.journal b.processor t b.ticks b.asked) x.world t ridden.reached)) × RunFits source k.input k.opts (k.journal ++ act k.opts ss k.input k.journal b.processor t b.ticks b.asked) (world_after source (act k.opts ss k.input k.journal b.processor t b.ticks b.asked) x.world t ridden.reached) r) (sym same) (more x.runs going (acts b.processor t b.ticks ridden.reached b.asked asked_there), (x.fitting, subst (λ ss. Fits k.opts ss k.journal t b.asked.request) same may.asks.fits))

        members_but : (o : ℕ) → Choice (IsTask code) (IsHome code) (OutElse b.processor (k.journal ++ a) o) (rested.members o) (after.homes o)
        members_but o =
            put_members (IsTask code) (IsHome code) source k.opts k.sites k.input k.journal x.world b.processor t b.ticks ridden.reached b.asked keeps.runs may.asks inside k.members x.members b.members.items stand o

        own_then : (v : Machine) → b.task ≡ Some v → IsTask code v (bare ridden.reached)
        own_then v e =
            let g = goes_of b.asked.request brings.ride.after v (sym brings.ride.task_is ∙ e) in
            subst (λ y. IsTask code y (bare ridden.reached)) g.1 (task_of code brings.ride.after b.members.items ridden.reached (goes_stands code b.asked.request (with_hand b.members.items brings.ride.after) ridden.reached g.0 ridden.stands))

        born_then : (u : ℕ) (v : Machine) → spawns a u ≡ true → b.child ≡ Some (Some v) → IsTask code v (child_of source (own_object u a) ridden.reached)
        born_then u v e f =
            born_stands code source b.asked.request brings.ride.child ridden.reached (own_object u a) v ridden.born (spawned k.opts k.sites k.input k.journal b.processor t b.ticks u b.asked may.asks.fits e) (some_child brings.ride.child v (sym brings.ride.child_is ∙ f))

        values_then : (u : ℕ) (v : Machine) → rested.values u ≡ Some (Some v) → IsTask code v (after.tasks u)
        values_then u v f =
            put_values (IsTask code) (IsHome code) source k.opts k.sites k.input k.journal x.world b.processor t b.ticks ridden.reached b.asked keeps.runs may.asks inside k.values x.values b.task b.child own_then born_then u v f

        others_work : (going' : is_over (k.journal ++ a) ≡ false) (step : Step) (q u : ℕ) (g : Handed) → (q == b.processor) ≡ false → running q (k.journal ++ a) ≡ u ∷ [] → handed_out q (log ++ tagged n step a) ≡ Some g → IsWork code g.task g.members.items (drawn (k.journal ++ a) after u)
        others_work going' step q u g d r f =
            let r' : running q k.journal ≡ u ∷ [] = sym (law_elsewhere k.opts k.sites k.input k.journal b.processor t b.ticks b.asked keeps.runs may.asks q d).runs ∙ r in
            subst (λ y. IsWork code g.task g.members.items y) (sym (drawn_same (IsTask code) (IsHome code) source k.opts k.sites k.input k.journal x.world b.processor t b.ticks ridden.reached b.asked keeps.runs may.asks inside going' q u r' d)) (x.hands q u g r' (sym (others step q d) ∙ f))

      act_prefix : (source : Source) → IsSource code main source → IsPrefix source k.input k.opts (k.journal ++ a)
      act_prefix source is = record { world = after source is; runs = (both_after source is).0 }

      -- where the run is over, or abandoned
      pub stopped : (v : ℕ → Option (Option Machine)) (m : ℕ → Option Members) (c : Bool) → (c ≡ false → is_over (k.journal ++ a) ≡ true) → (registry' : Registry) → Advanced code main k ns room n (changed k a v m c) (noted ns n Over (k.journal ++ a)) registry' Over
      stopped v m c f registry' =
          advanced code main k ns room n registry keeps Over a v m c act_runs (on_processor Over).manned act_prefix (λ g o. not_both (is_over (k.journal ++ a)) (f g) o) tt registry' (λ g o. not_both (is_over (k.journal ++ a)) (f g) o) act_left

      -- where the request is no fault
      module _ (on : faults b.asked.request ≡ false) where
        hand_idle : EachOf (IdlesAt (laid_of code) code.routines) b.members.items
        hand_idle = hand_kept_after code b.asked.request (with_hand b.members.items brings.ride.after) on brings.ride.kept

        own_kept : (v : Machine) → b.task ≡ Some v → Keeps code (with_hand [] v)
        own_kept v e =
            let g = goes_of b.asked.request brings.ride.after v (sym brings.ride.task_is ∙ e) in
            subst (λ y. Keeps code (with_hand [] y)) g.1 (kept_task code brings.ride.after b.members.items (goes_kept code b.asked.request (with_hand b.members.items brings.ride.after) g.0 brings.ride.kept))

        born_kept : (v : Machine) → b.child ≡ Some (Some v) → Keeps code (with_hand [] v)
        born_kept v e =
            kept_bare code v (subst (ChildKeeps code) (some_child brings.ride.child v (sym brings.ride.child_is ∙ e)) brings.ride.born)

        value_kept : (u : ℕ) (v : Machine) (c d : Bool) → (if c then Some b.task else if d then b.child else k.values u) ≡ Some (Some v) → Keeps code (with_hand [] v)
        value_kept u v true d f = own_kept v (cc f)
        value_kept u v false true f = born_kept v f
        value_kept u v false false f = old.kept.values u v f

        member_found : (o : ℕ) (m : Members) (y : Option Members) → find o b.members.items ≡ y → or_else y (k.members o) ≡ Some m → IdlesAt (laid_of code) code.routines m
        member_found o m (Some y) h f = each_found (IdlesAt (laid_of code) code.routines) o b.members.items m hand_idle (h ∙ f)
        member_found o m None h f = old.kept.members o m f

        member_kept : (o : ℕ) (m : Members) (c : Bool) → (if c then None else or_else (find o b.members.items) (k.members o)) ≡ Some m → IdlesAt (laid_of code) code.routines m
        member_kept o m true f = absurd (cc f)
        member_kept o m false f = member_found o m (find o b.members.items) refl f

        kept_rested : RestKept code rested
        kept_rested = record {
          values = λ u v f. value_kept u v (u == t) (spawns a u) f;
          members = λ o m f. member_kept o m (takes_out a o) f;
        }

        out_else : (v : ℕ → Option (Option Machine)) (m : ℕ → Option Members) (step : Step) (q u : ℕ) → (q == b.processor) ≡ false → running q (k.journal ++ a) ≡ u ∷ [] → WasHanded (changed k a v m false) (log ++ tagged n step a) q u
        out_else v m step q u d r =
            let law = law_elsewhere k.opts k.sites k.input k.journal b.processor t b.ticks b.asked keeps.runs may.asks q d in
            let r' : running q k.journal ≡ u ∷ [] = sym law.runs ∙ r in
            let y = law.untouched u r' in
            let o = old.out q u r' in
            record {
              handed = o.handed;
              is = others step q d ∙ o.is;
              answer = y.answer ∙ o.answer;
              left_is = o.left_is ∙ sym (ap (λ z. k.opts.slice - z) y.ticks);
            }

        value_ended : is_over (k.journal ++ a) ≡ false → (u : ℕ) (c d : Bool) → (u == t) ≡ c → (if c then Some b.task else if d then b.child else k.values u) ≡ Some None → has_ended u (k.journal ++ a) ≡ true
        value_ended going' u true d e f =
            ap (λ z. has_ended z (k.journal ++ a)) (eqb-true u t e) ∙ ended_behind k b t brings.ride.after brings.ride.task_is going' (cc f)
        value_ended going' u false true e f = absurd (no_child brings.ride.child (sym brings.ride.child_is ∙ f))
        value_ended going' u false false e f = ended_on u k.journal a (old.ended u f)

        -- it is off its processor
        module _ (going' : is_over (k.journal ++ a) ≡ false) (free : running b.processor (k.journal ++ a) ≡ []) where
          nobody_on : {A : Type 0} (q u : ℕ) → (q == b.processor) ≡ true → running q (k.journal ++ a) ≡ u ∷ [] → A
          nobody_on q u d r = absurd (cc (sym free ∙ ap (λ z. running z (k.journal ++ a)) (sym (eqb-true q b.processor d)) ∙ r))

          out_idle : (q u : ℕ) (c : Bool) → (q == b.processor) ≡ c → running q (k.journal ++ a) ≡ u ∷ [] → WasHanded (changed k a rested.values rested.members false) (log ++ tagged n Idle a) q u
          out_idle q u true d r = nobody_on q u d r
          out_idle q u false d r = out_else rested.values rested.members Idle q u d r

          work_idle : (source : Source) (is : IsSource code main source) (q u : ℕ) (g : Handed) (c : Bool) → (q == b.processor) ≡ c → running q (k.journal ++ a) ≡ u ∷ [] → handed_out q (log ++ tagged n Idle a) ≡ Some g → IsWork code g.task g.members.items (drawn (k.journal ++ a) (after source is) u)
          work_idle source is q u g true d r f = nobody_on q u d r
          work_idle source is q u g false d r f = others_work source is going' Idle q u g d r f

          rests_idle : (source : Source) (is : IsSource code main source) → AtRest code source (changed k a rested.values rested.members false) (log ++ tagged n Idle a)
          rests_idle source is = record {
            world = after source is;
            runs = (both_after source is).0;
            fitting = (both_after source is).1;
            values = values_then source is;
            members = λ o. settle_by (IsTask code) (IsHome code) b.processor (k.journal ++ a) o (rested.members o) ((after source is).homes o) (members_but source is o);
            hands = λ q u g r f. work_idle source is q u g (q == b.processor) refl r f;
          }

          pub idled : (registry' : Registry) → Tells k.opts (k.journal ++ a) registry' → Advanced code main k ns room n (changed k a rested.values rested.members k.abandoned) (noted ns n Idle (k.journal ++ a)) registry' Idle
          idled registry' are =
              advanced code main k ns room n registry keeps Idle a rested.values rested.members k.abandoned act_runs (on_processor Idle).manned act_prefix (λ f o. record { kept = record { values = kept_rested.values; members = kept_rested.members }; ended = λ u f. value_ended going' u (u == t) (spawns a u) refl f; out = λ q u r. out_idle q u (q == b.processor) refl r; stands = rests_idle }) tt registry' (λ f o. are) act_left

        -- it is handed out again
        module _ (going' : is_over (k.journal ++ a) ≡ false) (g : Handed) (h : HandsOut rested b.processor t (boxed g)) where
          abbrev step : Step
          step = Going g

          abbrev log1 : Log
          log1 = log ++ tagged n step a

          abbrev k2 : Kept (Option Machine) Members
          k2 = changed k a (handed t rested).values (handed t rested).members false

          handed_now : handed_out b.processor log1 ≡ Some g
          handed_now = handed_act b.processor n log step a (named_all b.processor a on_all) some

          mine : WasHanded k2 log1 b.processor t
          mine = record { handed = g; is = handed_now; answer = h.answer; left_is = h.left }

          out_by : (q u : ℕ) (c : Bool) → (q == b.processor) ≡ c → running q (k.journal ++ a) ≡ u ∷ [] → WasHanded k2 log1 q u
          out_by q u true d r =
              let same : q ≡ b.processor = eqb-true q b.processor d in
              let who : t ≡ u = one_same t u (sym h.runs ∙ ap (λ z. running z (k.journal ++ a)) (sym same) ∙ r) in
              subst (λ z. WasHanded k2 log1 z u) (sym same) (subst (λ z. WasHanded k2 log1 b.processor z) who mine)
          out_by q u false d r = out_else (handed t rested).values (handed t rested).members step q u d r

          module _ (source : Source) (is : IsSource code main source) where
            sound : Sound (k.journal ++ a)
            sound = (good_whole k.opts k.sites k.input act_runs).sound

            abbrev w : World
            w = after source is

            work_now : IsWork code g.task g.members.items (drawn (k.journal ++ a) w t)
            work_now =
                subst (λ ms. IsWork code g.task ms (drawn (k.journal ++ a) w t)) (sym h.hand) (work_of code g.task _ (w.tasks t) (hand_of (held t (k.journal ++ a)) w.homes) (values_then source is t g.task h.value) (hand_stands (IsTask code) (IsHome code) (k.journal ++ a) w b.processor t sound h.runs rested.members (members_but source is)))

            work_by : (q u : ℕ) (x : Handed) (c : Bool) → (q == b.processor) ≡ c → running q (k.journal ++ a) ≡ u ∷ [] → handed_out q log1 ≡ Some x → IsWork code x.task x.members.items (drawn (k.journal ++ a) w u)
            work_by q u x true d r f =
                let same : q ≡ b.processor = eqb-true q b.processor d in
                let who : t ≡ u = one_same t u (sym h.runs ∙ ap (λ z. running z (k.journal ++ a)) (sym same) ∙ r) in
                let it : g ≡ x = cc (sym handed_now ∙ ap (λ z. handed_out z log1) (sym same) ∙ f) in
                subst (λ z. IsWork code x.task x.members.items (drawn (k.journal ++ a) w z)) who (subst (λ (z : Handed). IsWork code z.task z.members.items (drawn (k.journal ++ a) w t)) it work_now)
            work_by q u x false d r f = others_work source is going' step q u x d r f

            rests : AtRest code source k2 log1
            rests = record {
              world = w;
              runs = (both_after source is).0;
              fitting = (both_after source is).1;
              values = λ u v f. values_then source is u v (other_some (u == t) (rested.values u) (Some v) f);
              members = rest_stands (IsTask code) (IsHome code) (k.journal ++ a) w b.processor t sound h.runs rested.members (members_but source is);
              hands = λ q u x r f. work_by q u x (q == b.processor) refl r f;
            }

          steady1 : Steady code main k2 log1
          steady1 = record {
            kept = record {
              values = λ u v f. kept_rested.values u v (other_some (u == t) (rested.values u) (Some v) f);
              members = λ o m f. kept_rested.members o m (other_some (has (held t (k.journal ++ a)) o) (rested.members o) m f);
            };
            ended = λ u f. value_ended going' u (u == t) (spawns a u) refl (other_some (u == t) (rested.values u) None f);
            out = λ q u r. out_by q u (q == b.processor) refl r;
            stands = rests;
          }

          got1 : Got code n log1 g
          got1 = record {
            is = ap (λ q. handed_out q log1) h.processor ∙ handed_now;
            serves = ap (λ q. server q log1) h.processor ∙ (on_processor step).serves;
            task = t;
            runs = ap (running g.processor) (entries_more code main k ns room n registry keeps step a) ∙ ap (λ q. running q (k.journal ++ a)) h.processor ∙ h.runs;
            some = subst (λ q. 1 ≤ q) (sym h.left) (act_left going' b.processor t h.runs);
            kept = subst (λ ms. Keeps code (with_hand ms g.task)) (sym h.hand) (kept_work code g.task _ (kept_rested.values t g.task h.value) (each_gathered (IdlesAt (laid_of code) code.routines) (held t (k.journal ++ a)) rested.members kept_rested.members));
          }

          pub went : (registry' : Registry) → Tells k.opts (k.journal ++ a) registry' → Advanced code main k ns room n (changed k a (handed t rested).values (handed t rested).members k.abandoned) (noted ns n step (k.journal ++ a)) registry' step
          went registry' are = advanced code main k ns room n registry keeps step a (handed t rested).values (handed t rested).members k.abandoned act_runs (on_processor step).manned act_prefix (λ f o. steady1) got1 registry' (λ f o. are) act_left

      not_fault : is_over (k.journal ++ a) ≡ false → faults b.asked.request ≡ false
      not_fault g = goes_on_behind k.opts k.sites k.input k.journal b.processor t b.ticks b.asked g

      -- behind the act what is told of what may be asked for is so
      told_then : (registry' : Registry) (step : Step) → RegistryAfter registry registry' b.asked.request step → is_over (k.journal ++ a) ≡ false → (IsMake b.asked.request → (o : ℕ) → IsTold o step → has (held t (k.journal ++ a)) o ≡ true) → Tells k.opts (k.journal ++ a) registry'
      told_then registry' step w going' new =
          told_by k.opts k.sites k.input k.journal b.processor t b.ticks b.asked keeps.runs going may.asks act_runs going' registry (keeps.told wanted going) registry' step w new

      abbrev Follow : Registry → Kept (Option Machine) Members → Step → Type 0
      Follow registry' new step = Advanced code main k ns room n new (noted ns n step new.journal) registry' step

      -- a task that is told of the object that it has made is inside it
      told_new : (new : Kept (Option Machine) Members) (g : Handed) → Goes rested new b.processor t (boxed g) → LacksNew new.journal t (Go (boxed g)) → (o : ℕ) → IsTold o (Going g) → has (held t (k.journal ++ a)) o ≡ true
      told_new new g f lacks o told =
          let same : g ≡ told.handed = cc told.is in
          let last : held t (k.journal ++ a) ≡ keys g.members.items ++ o ∷ [] = ap (held t) (sym f.rest.journal) ∙ lacks o (ap (λ (y : Handed). y.answer) same ∙ told.answer) in
          ap (λ os. has os o) last ∙ has_last (keys g.members.items) o

      follow_by : (registry' : Registry) (new : Kept (Option Machine) Members) {next : Next (Option Machine) Members} {step : Step} → RegistryAfter registry registry' b.asked.request step → (sort_of b.asked.request ≡ sort.Makes → LacksNew new.journal t next) → Comes next step → Follows rested new b.processor t next → Follow registry' new step
      follow_by registry' new w lacks (goes g) f =
          subst (λ (x : Kept (Option Machine) Members). Follow registry' x (Going g)) (same_kept (handed t rested) new f.rest) (went (not_fault f.going) f.going g f.hands registry' (told_then registry' (Going g) w f.going (λ m o told. told_new new g f (lacks (makes_sort b.asked.request m)) o told)))
      follow_by registry' new w lacks idles f =
          subst (λ (x : Kept (Option Machine) Members). Follow registry' x Idle) (same_kept rested new f.rest) (idled (not_fault f.going) f.going f.free registry' (told_then registry' Idle w f.going (λ m o told. absurd (cc told.is))))
      follow_by registry' new w lacks ends f =
          subst (λ (x : Kept (Option Machine) Members). Follow registry' x Over) (same_kept rested new f.rest) (stopped rested.values rested.members k.abandoned (λ _. f.over) registry')

    -- what comes of a call that brings
    module _ (b : Brought (Option Machine) Members) (seen : Log) (saw : Saw n seen log) (brings : Brings code n seen b) where
      pub put_on : (registry' : Registry) (old new : Store (Option Machine) Members) → kept old ≡ k → {step : Step} → WasPut registry registry' old new b step → Advanced code main k ns room n (kept new) (noted ns n step new.journal) registry' step
      put_on registry' old new same (stays f e) =
          subst (λ (x : Store (Option Machine) Members). Advanced code main k ns room n (kept x) (noted ns n Over x.journal) registry' Over) (sym e) (subst (λ (x : Kept (Option Machine) Members). Advanced code main k ns room n x (noted ns n Over x.journal) registry' Over) (sym same) (still_by code main k ns room n registry keeps k.abandoned Over (λ f. f) tt registry' (λ _. f)))
      put_on registry' old new same (refused e) =
          subst (λ (x : Store (Option Machine) Members). Advanced code main k ns room n (kept x) (noted ns n Over x.journal) registry' Over) (sym e) (subst (λ (x : Kept (Option Machine) Members). Advanced code main k ns room n (record x { abandoned = true }) (noted ns n Over x.journal) registry' Over) (sym same) (still_by code main k ns room n registry keeps true Over (λ f. absurd (cc f)) tt registry' (λ f. absurd (cc f))))
      put_on registry' old new same (acted step next wanted going may after done lacks comes) =
          let going' : is_over k.journal ≡ false = ap (λ (x : Kept (Option Machine) Members). is_over x.journal) (sym same) ∙ going in
          let wanted' : k.abandoned ≡ false = ap (λ (x : Kept (Option Machine) Members). x.abandoned) (sym same) ∙ wanted in
          let may' : MayBring k b = subst (λ x. MayBring x b) same may in
          let done' : Acted k b next (kept new) = subst (λ x. Acted x b next (kept new)) same done in
          let runs : running b.processor old.journal ≡ may'.task ∷ [] = ap (λ (x : Kept (Option Machine) Members). running b.processor x.journal) same ∙ may'.asks.runs in
          follow_by going' wanted' b seen saw brings may' registry' (kept new) after (λ m. lacks m may'.task runs) comes (done'.follows going' may'.task may'.asks.runs)
