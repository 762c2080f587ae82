-- Every journal of a kernel is sound, in the middle of an act too.
use Rattle.std.proofs.Common.{◌≡◌, ℕ, zero, suc, ◌==◌, ◌+◌, ◌<◌, ◌≤◌, ◌&&◌, Bool, true, false, cond, List, [], ◌∷◌, ◌++◌, Some, None, take, refl, sym, ap, ◌∙◌, append-nil, append_assoc, arith, length, length-append, ⊎_elim}
use Rattle.std.specs.Prelude.{pos, nat_le}
use Rattle.std.proofs.lemmas.List.{take-append-le, take_all}
use Rattle.std.proofs.lemmas.Bool.{eqb-true, eq-eqb, cases_lt}
use Rattle.uc_tree.specs.Programs.{Site}
use Rattle.uc_entry.specs.declared.entry.Entry.{Entry}
use Rattle.uc_entry.specs.declared.entry.Options.{Options}
use Rattle.uc_entry.specs.declared.entry.EntryKind.TheVariants as kind
use Rattle.uc_entry.specs.declared.request.Asked.{Asked}
use Rattle.uc_acts.specs.Journal.{Journal, inside, entry, begin, entries_at, cost, no_cost}
use Rattle.uc_acts.specs.Queues.{running, ready, waiting, stacked, first_ended, none_running, none_ready, none_served, all_ticks}
use Rattle.uc_acts.specs.Doors.{open_at, blocked_at, destroys_busy}
use Rattle.uc_acts.specs.Known.{task_count, has_ended}
use Rattle.uc_acts.specs.Stations.{Station, Ready, Running, Waits, Stacked, Blocked, times, tasks_at}
use Rattle.uc_acts.specs.Laws.{IsSomewhere, LawPlace}
use Rattle.uc_acts.specs.KernelRuns.{MayAsk, KernelMay, KernelRuns, gives, no_room, acts, begun, more}
use Rattle.uc_acts.specs.Acts.{fault, row, settled, entries_of, is_faulty, verdict, closing, ending, fitted, act, dispatch}
use Rattle.uc_acts.specs.Sound.{At, Ended, Sound, Spot, Unborn, here, spot}
use Rattle.uc_acts.specs.Legal.{Legal}
use Rattle.uc_acts.proofs.Noted.{noted_at}
use Rattle.uc_acts.proofs.SoundLemmas.{Grown, tasks_push, some_task, sound_step, grown_step, shut_door, target_born}
use Rattle.uc_acts.proofs.Moves.{first_at, known_at, from_ready, legal_still, legal_one, more_tasks, object_0, spot_moves, spot_stays}
use Rattle.uc_acts.proofs.Rows.{Lawful, legal_fault, row_lawful}

pub record Good (j : Journal) : Type 0 where
  pub sound : Sound j
  pub grown : Grown j

pub good_step : (e : Entry) (j : Journal) → Legal e j → Good j → Good (j ++ e ∷ [])
good_step e j l g = record { sound = sound_step e j g.sound l; grown = grown_step e j l g.grown }

pub lawful_append : (j : Journal) (a b : List Entry) → Lawful j a → ((i : Journal) → Lawful i b) → Lawful j (a ++ b)
lawful_append j [] b h f = f j
lawful_append j (e ∷ a) b h f = (h.0, lawful_append (j ++ e ∷ []) a b h.1 f)

-- an act that a fault cuts short
pub lawful_settled : (p t line : ℕ) (j : Journal) (a : List Entry) → Lawful j a → Lawful j (settled (fault p t no_cost 10 line) j a)
lawful_settled p t line j [] h = tt
lawful_settled p t line j (e ∷ a) h = by (destroys_busy j e.kind e) (lawful_settled p t line (j ++ e ∷ []) a h.1)
  where
    by : (b : Bool) → Lawful (j ++ e ∷ []) (settled (fault p t no_cost 10 line) (j ++ e ∷ []) a) → Lawful j (cond b (fault p t (cost e.ticks e.line) 10 line ∷ []) (e ∷ settled (fault p t no_cost 10 line) (j ++ e ∷ []) a))
    by true ih = (legal_fault j p t (cost e.ticks e.line) 10 line, tt)
    by false ih = (h.0, ih)

module _ (p t : ℕ) where
  closed : (i : Journal) (a b c d : Bool) → Lawful i (closing p t (cond a (Some kind.Done) (cond b (Some kind.Deadlock) (cond c (Some kind.NoProcessor) (cond d (Some kind.Limit) None)))))
  closed i true b c d = (legal_still (entry kind.Done p t 0 0 (pos 0) (pos 0)) i (λ u. refl) tt tt (object_0 i _) tt, tt)
  closed i false true c d = (legal_still (entry kind.Deadlock p t 0 0 (pos 0) (pos 0)) i (λ u. refl) tt tt (object_0 i _) tt, tt)
  closed i false false true d = (legal_still (entry kind.NoProcessor p t 0 0 (pos 0) (pos 0)) i (λ u. refl) tt tt (object_0 i _) tt, tt)
  closed i false false false true = (legal_still (entry kind.Limit p t 0 0 (pos 0) (pos 0)) i (λ u. refl) tt tt (object_0 i _) tt, tt)
  closed i false false false false = tt

  lawful_limit : (i : Journal) → Lawful i (entry kind.Limit p t 0 0 (pos 0) (pos 0) ∷ [])
  lawful_limit i = (legal_still (entry kind.Limit p t 0 0 (pos 0) (pos 0)) i (λ u. refl) tt tt (object_0 i _) tt, tt)

  lawful_ending : (opts : Options) (i k : Journal) (a : List Entry) → Lawful k (ending opts i p t a)
  lawful_ending opts i k a = by (is_faulty a)
    where
      by : (b : Bool) → Lawful k (cond b [] (closing p t (verdict opts (i ++ a))))
      by true = tt
      by false =
          closed k (first_ended (i ++ a)) (none_running opts (i ++ a) && none_ready (i ++ a)) (none_running opts (i ++ a) && none_served opts (i ++ a)) (nat_le opts.ticks (all_ticks (i ++ a)))

  lawful_fitted : (opts : Options) (j : Journal) (a : List Entry) → Lawful j a → Lawful j (fitted opts j p t a)
  lawful_fitted opts j a h = by (nat_le (length j + length a + 1) opts.entries)
    where
      by : (b : Bool) → Lawful j (cond b a (entry kind.Limit p t 0 0 (pos 0) (pos 0) ∷ []))
      by true = h
      by false = lawful_limit j

pub lawful_act : (opts : Options) (sites : List Site) (input : List ℕ) (j : Journal) (p t k : ℕ) (asked : Asked) → Sound j → MayAsk opts sites j p t k asked.request → Lawful j (act opts sites input j p t k asked)
lawful_act opts sites input j p t k asked s m =
    let a = entries_of opts sites input j p t k asked in
    lawful_fitted p t opts j (a ++ ending opts j p t a) (lawful_append j a (ending opts j p t a) (lawful_settled p t asked.line j (row opts sites input j p t (cost k asked.line) asked.line asked.request) (row_lawful opts sites input j p t (cost k asked.line) asked.line s m.runs asked.request m.fits)) (λ i. lawful_ending p t opts j i a))

pub lawful_may : (opts : Options) (sites : List Site) (input : List ℕ) (j : Journal) (a : List Entry) → Sound j → KernelMay opts sites input j a → Lawful j a
lawful_may opts sites input j _ s (gives p t v le) =
    let at = first_at j s (Ready v.cluster) t v.later v.queued in
    let e = dispatch p t in
    (legal_one e j t (λ u h. eqb-true u t h) (from_ready e (spot t j) v.cluster (λ l. refl) at) (more_tasks j e t (known_at j s t (Ready v.cluster) at)) v.free tt (object_0 j e) tt, tt)
lawful_may opts sites input j _ s (no_room p t v le) = lawful_limit 0 0 j
lawful_may opts sites input j _ s (acts p t k asked m) = lawful_act opts sites input j p t k asked s m

-- each prefix of j and then a
prefixes : (j : Journal) (a : List Entry) → Lawful j a → Good j → ((n : ℕ) → 1 ≤ n → Good (take n j)) → (n : ℕ) → 1 ≤ n → Good (take n (j ++ a))
prefixes j [] h g before n le = rw append-nil (before n le)
prefixes j (e ∷ a) h g before n le =
    let g' = good_step e j h.0 g in
    rw (← append_assoc j (e ∷ []) a) (prefixes (j ++ e ∷ []) a h.1 g' (next_before g') n le)
  where
    next_before : Good (j ++ e ∷ []) → (n : ℕ) → 1 ≤ n → Good (take n (j ++ e ∷ []))
    next_before g' n le = ⊎_elim (λ (lt : n < length j + 1). short n le (omega arith)) (λ le. long n le) (cases_lt n (length j + 1))
      where
        short : (n : ℕ) → 1 ≤ n → n ≤ length j → Good (take n (j ++ e ∷ []))
        short n one le = rw take-append-le (before n one)

        long : (n : ℕ) → length j + 1 ≤ n → Good (take n (j ++ e ∷ []))
        long n le =
            let all : length (j ++ e ∷ []) ≤ n = omega (arith, length-append j (e ∷ [])) in rw take_all g'

-- the empty journal
none_seated : (t : ℕ) (r : Station) → times t (tasks_at r []) ≡ here r (spot t [])
unfolding waiting stacked blocked_at ready running entries_at spot
none_seated t (Ready k) = refl
none_seated t (Running p) = refl
none_seated t (Waits o) = refl
none_seated t (Stacked o) = refl
none_seated t (Blocked o c) = refl

pub spot_none : (t : ℕ) → spot t [] ≡ Unborn
unfolding spot
spot_none t = refl

pub inside_none : (o : ℕ) → inside o [] ≡ []
unfolding inside entries_at
inside_none o = refl

open_none : (o : ℕ) → open_at o [] ≡ []
unfolding open_at entries_at
open_none o = refl

one_task : task_count [] ≡ 1
unfolding task_count
one_task = refl

pub sound_none : Sound []
sound_none = record {
  seats = none_seated;
  doors = λ o. shut_door (inside o []) (open_at o []) (stacked o []) (rw (inside_none o) (omega arith)) (open_none o);
  few = λ t le. spot_none t;
  fresh_inside = λ o le. inside_none o;
  fresh_open = λ o le. open_none o;
}

pub legal_begin : (opts : Options) → Legal (begin opts) []
legal_begin opts = record {
  from = λ t h r n. ap (here r) (spot_none t);
  free = tt;
  born = λ t h.
      let zero_it : t ≡ 0 = eqb-true t 0 h in
      let some = some_task ([] ++ begin opts ∷ []) in
      omega (arith, zero_it, some);
  next = tt;
  made = object_0 [] (begin opts);
  door = (inside_none 0, open_none 0);
}

pub good_begin : (opts : Options) → Good (begin opts ∷ [])
good_begin opts = record {
  sound = sound_step (begin opts) [] sound_none (legal_begin opts);
  grown = record {
    placed = λ t lt f.
        let one : task_count (begin opts ∷ []) ≡ task_count [] + 0 = tasks_push [] (begin opts) in
        let first : t ≡ 0 = omega (arith, one_task, one, lt) in
        target_born kind.Begin (noted_at [] (begin opts)) t (eq-eqb t 0 first) (sym (spot_moves [] (begin opts) t (eq-eqb t 0 first)) ∙ f);
    over = λ t f. absurd (not_ended t (t == 0) refl f);
  };
}
  where
    not_ended : (t : ℕ) (b : Bool) → (t == 0) ≡ b → spot t (begin opts ∷ []) ≡ Ended → ⊥
    not_ended t true h f = clash (sym (spot_moves [] (begin opts) t h) ∙ f)
      where
        clash : At (Ready 0) ≡ Ended → ⊥
        clash e = cc
    not_ended t false h f = clash (sym (spot_stays [] (begin opts) t h ∙ spot_none t) ∙ f)
      where
        clash : Unborn ≡ Ended → ⊥
        clash e = cc

good_all : (j : Journal) (a : List Entry) → Lawful j a → Good j → Good (j ++ a)
good_all j [] h g = rw append-nil g
good_all j (e ∷ a) h g = rw (← append_assoc j (e ∷ []) a) (good_all (j ++ e ∷ []) a h.1 (good_step e j h.0 g))

pub good_whole : (opts : Options) (sites : List Site) (input : List ℕ) {j : Journal} → KernelRuns opts sites input j → Good j
good_whole opts sites input begun = good_begin opts
good_whole opts sites input (more {j} {a} r o m) =
    let g = good_whole opts sites input r in good_all j a (lawful_may opts sites input j a g.sound m) g

pub good_run : (opts : Options) (sites : List Site) (input : List ℕ) {j : Journal} → KernelRuns opts sites input j → (n : ℕ) → 1 ≤ n → Good (take n j)
good_run opts sites input begun n le =
    let all : length (begin opts ∷ []) ≤ n = omega arith in rw take_all (good_begin opts)
good_run opts sites input (more {j} {a} r o m) n le =
    let before = good_run opts sites input r in
    let all = good_whole opts sites input r in
    prefixes j a (lawful_may opts sites input j a all.sound m) all before n le

pub sound_run : (opts : Options) (sites : List Site) (input : List ℕ) {j : Journal} → KernelRuns opts sites input j → (n : ℕ) → Sound (take n j)
sound_run opts sites input r zero = sound_none
sound_run opts sites input r (suc n) = (good_run opts sites input r (suc n) (omega arith)).sound

pub law_place : LawPlace
law_place opts sites input j r n t one lt going =
    let g = good_run opts sites input r n one in by g (spot t (take n j)) refl
  where
    no_both : (b : Bool) → b ≡ true → b ≡ false → ⊥
    no_both b t f = cc

    by : Good (take n j) → (P : Spot) → spot t (take n j) ≡ P → IsSomewhere t (take n j)
    by g Unborn h = absurd (g.grown.placed t lt h)
    by g Ended h = absurd (no_both (has_ended t (take n j)) (g.grown.over t h) going)
    by g (At q) h =
        record { station = q; there = record { just = λ r. g.sound.seats t r ∙ ap (here r) h } }
