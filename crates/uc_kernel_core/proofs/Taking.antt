-- What becomes of an accept, by the door and by the journal, and all parts then.
use Rattle.std.proofs.Common.{◌≡◌, ◌≢◌, ℕ, zero, suc, ◌==◌, ◌<◌, ◌&&◌, Bool, true, false, cond, List, [], ◌∷◌, ◌++◌, Option, Some, None, refl, sym, ap, ◌∙◌, subst, arith, length, set, get_or, inl}
use Rattle.std.specs.Option.{option_to_list}
use Rattle.std.specs.List.{AllByRecursion}
use Rattle.std.proofs.lemmas.Bool.{eqb-true}
use Rattle.uc_tree.specs.Programs.{Site}
use Rattle.uc_entry.specs.declared.entry.Entry.{Entry}
use Rattle.uc_entry.specs.declared.entry.EntryKind.TheVariants as kind
use Rattle.uc_entry.specs.declared.entry.Options.{Options}
use Rattle.uc_acts.specs.Journal.{Journal, inside, Cost}
use Rattle.uc_acts.specs.Queues.{running}
use Rattle.uc_acts.specs.Doors.{site_at, offers, next_met, calls_destructor, is_member}
use Rattle.uc_tree.specs.SiteOffers.{Met, met}
use Rattle.uc_acts.specs.Known.{object_count, task_count}
use Rattle.uc_acts.specs.Acts.{admit, push, accept_entry, accepted, took, settled}
use Rattle.uc_acts.specs.Stations.{Waits, Blocked}
use Rattle.uc_acts.specs.Sound.{At, spot, here}
use Rattle.uc_acts.specs.Legal.{Legal}
use Rattle.uc_acts.proofs.Noted.{last_actor_push}
use Rattle.uc_acts.proofs.SoundLemmas.{self_test, all_kept_nil}
use Rattle.uc_acts.proofs.Moves.{inside_now, spot_stays, known_at}
use Rattle.uc_mutex.specs.Doors.{Door, Doors, door_at, with_door, on_top, let_in, accepting, unmarked, marked}
use Rattle.uc_mutex.specs.Offers.{IsKnownSite, clauses_of, offers_by}
use Rattle.uc_kernel_core.specs.DoorLaws.{goes_on_top}
use Rattle.uc_kernel_core.proofs.DoorLemmas.{opens}
use Rattle.uc_accept.specs.declared.accepting.Accepted.TheVariants as as_accepted
use Rattle.uc_accept.specs.Accepting.{unpulled, answer_of, doors_of, out_of_queue}
use Rattle.uc_condition.specs.Waiting.{Waiting}
use Rattle.uc_events.specs.Pending.{Event}
use Rattle.uc_cluster.specs.Standing.{Standing, IsPlaced, IsUnready, made_ready}
use Rattle.uc_kernel_core.specs.Mirrors.{Mirrors, WaitsAre, AreKnownSites, queued_at}
use Rattle.uc_kernel_core.proofs.Doors.{waits_silent}
use Rattle.uc_kernel_core.proofs.Nexts.{destroys_not, settled_kept}
use Rattle.uc_kernel_core.proofs.Admits.{m_admit, waits_stay, admit_placed, admit_unready}
use Rattle.uc_kernel_core.proofs.Steps.{Calm, freed}
use Rattle.uc_kernel_core.proofs.Fronts.{set_twice, run_free}
use Rattle.uc_kernel_core.proofs.Goings.{m_goes, m_push, m_unmoved}
use Rattle.uc_kernel_core.proofs.Blocking.{and_false, goes_acceptor, goes_taker}
use Rattle.uc_kernel_core.proofs.DoorAccepts.{taken_waits, taken_other, door_destroyer, at_after, empty_after, last_after, door_caller}

pub known_site : (sites : List Site) (n : ℕ) → AreKnownSites sites → n < length sites → IsKnownSite (site_at sites n)
known_site [] n h lt = absurd (omega arith)
known_site (s ∷ sites) zero h lt = h.0
known_site (s ∷ sites) (suc n) h lt = known_site sites n h.1 (omega arith)

pub same_site : (sites : List Site) (n : ℕ) (s u : Site) → n < length sites → get_or sites n s ≡ get_or sites n u
same_site [] n s u lt = absurd (omega arith)
same_site (x ∷ sites) zero s u lt = refl
same_site (x ∷ sites) (suc n) s u lt = same_site sites n s u (omega arith)

pub offers_are : (sites : List Site) (site mask : ℕ) (s : Site) → s ≡ site_at sites site → offers_by s mask ≡ offers sites site mask
unfolding offers
offers_are sites site mask s h = ap (λ x. offers_by x mask) h

-- an accept that moves nobody
calm_else : (p t : ℕ) (k : Cost) (o site mask : ℕ) (b : Bool) → Calm kind.Accept (accept_entry p t k o site mask b 2)
calm_else p t k o site mask b = record {
  make = refl;
  spawn = refl;
  wait = refl;
  readies = λ u. refl;
  dispatches = λ u. refl;
  takes_off = λ u. and_false (u == t);
  puts_on = λ u. refl;
  clusters = λ on u. refl;
  cluster = refl;
  mover = λ u. and_false (u == t);
  desk = refl;
  stand = refl;
  owned = refl;
  owns = λ u. refl;
  last = λ on u. refl;
}

calm_destroyer : (p t : ℕ) (k : Cost) (o site mask : ℕ) (b : Bool) → Calm kind.Accept (accept_entry p t k o site mask b 3)
calm_destroyer p t k o site mask b = record {
  make = refl;
  spawn = refl;
  wait = refl;
  readies = λ u. refl;
  dispatches = λ u. refl;
  takes_off = λ u. and_false (u == t);
  puts_on = λ u. refl;
  clusters = λ on u. refl;
  cluster = refl;
  mover = λ u. and_false (u == t);
  desk = refl;
  stand = refl;
  owned = refl;
  owns = λ u. refl;
  last = λ on u. refl;
}

-- whatever call of the part came last
pub repulled : (opts : Options) (sites : List Site) (j : Journal) (v : Doors) (waits : Waiting) (events : List (List Event)) (standing : Standing) (marks ins : List Bool) (owners : List (Option ℕ)) (own : List ℕ) → Mirrors opts sites j (unpulled v) waits events standing marks ins owners own → Mirrors opts sites j v waits events standing marks ins owners own
repulled opts sites j v waits events standing marks ins owners own h = record {
  doors_are = record { made = h.doors_are.made; pool = h.doors_are.pool; each = h.doors_are.each };
  waits_are = h.waits_are;
  events_are = h.events_are;
  clusters_are = h.clusters_are;
  marks_are = h.marks_are;
  owners_are = h.owners_are;
  few = h.few;
  sound = h.sound;
  stood = h.stood;
  known_sites = h.known_sites;
  owned = h.owned;
  fresh = h.fresh;
}

some_task : (x : Option ℕ) (t : ℕ) → option_to_list x ≡ t ∷ [] → x ≡ Some t
some_task None t h = cc
some_task (Some u) t h = let e : u ≡ t = cc in ap Some e

-- ---- by the answer
-- nobody is taken, and the accept is open
pub record Opened (v : Doors) (o t : ℕ) (offers : List (ℕ × ℕ)) (found : Option Met) (b : Bool) (v2 : Doors) : Type 0 where
  pub none : found ≡ None
  pub no_else : b ≡ false
  pub doors : unpulled v2 ≡ with_door v o (goes_on_top t (Some (clauses_of offers)) (door_at v o))

pub record Elsewise (v : Doors) (found : Option Met) (b : Bool) (v2 : Doors) : Type 0 where
  pub none : found ≡ None
  pub has_else : b ≡ true
  pub doors : unpulled v2 ≡ unpulled v

pub record TakesCaller (v : Doors) (o t u c : ℕ) (found : Option Met) (v2 : Doors) : Type 0 where
  pub who : Met
  pub finds : found ≡ Some who
  pub task : who.task ≡ u
  pub clause : who.clause ≡ c
  pub no_destructor : (who.member == 0) ≡ false
  pub doors : unpulled v2 ≡ with_door v o (let_in u (on_top (t, marked c u) (out_of_queue u (door_at v o))))

pub record TakesDestroyer (v : Doors) (o t u : ℕ) (found : Option Met) (v2 : Doors) : Type 0 where
  pub who : Met
  pub finds : found ≡ Some who
  pub task : who.task ≡ u
  pub destructor : who.member ≡ 0
  pub doors : unpulled v2 ≡ with_door v o (on_top (u, unmarked) (out_of_queue u (door_at v o)))

module _ (v v2 : Doors) (o t : ℕ) (b : Bool) (offers : List (ℕ × ℕ)) where
  opened_by_else : (b : Bool) → as_accepted.Opened ≡ answer_of b None → b ≡ false
  opened_by_else true h = cc
  opened_by_else false h = refl

  pub opened_by : (found : Option Met) → as_accepted.Opened ≡ answer_of b found → unpulled v2 ≡ doors_of v o t b offers found → Opened v o t offers found b v2
  opened_by None h d =
      let off = opened_by_else b h in
      record {
        none = refl;
        no_else = off;
        doors = d ∙ ap (λ x. cond x (unpulled v) (with_door v o (accepting t 0 (clauses_of offers) None (door_at v o)))) off;
      }
  opened_by (Some m) h d = absurd (by (m.member == 0) h)
    where
      by : (c : Bool) → as_accepted.Opened ≡ cond c (as_accepted.Destroyer m.task m.clause) (as_accepted.Caller m.task m.clause) → ⊥
      by true e = cc
      by false e = cc

  else_by_else : (b : Bool) → as_accepted.Else ≡ answer_of b None → b ≡ true
  else_by_else true h = refl
  else_by_else false h = cc

  pub else_by : (found : Option Met) → as_accepted.Else ≡ answer_of b found → unpulled v2 ≡ doors_of v o t b offers found → Elsewise v found b v2
  else_by None h d =
      let on = else_by_else b h in
      record {
        none = refl;
        has_else = on;
        doors = d ∙ ap (λ x. cond x (unpulled v) (with_door v o (accepting t 0 (clauses_of offers) None (door_at v o)))) on;
      }
  else_by (Some m) h d = absurd (by (m.member == 0) h)
    where
      by : (c : Bool) → as_accepted.Else ≡ cond c (as_accepted.Destroyer m.task m.clause) (as_accepted.Caller m.task m.clause) → ⊥
      by true e = cc
      by false e = cc

  nobody : (x : Bool) (u c : ℕ) → as_accepted.Caller u c ≡ answer_of x None → ⊥
  nobody true u c h = cc
  nobody false u c h = cc

  pub caller_by : (u c : ℕ) (found : Option Met) → as_accepted.Caller u c ≡ answer_of b found → unpulled v2 ≡ doors_of v o t b offers found → TakesCaller v o t u c found v2
  caller_by u c None h d = absurd (nobody b u c h)
  caller_by u c (Some m) h d = by (m.member == 0) refl h
    where
      parts : (a x k y : ℕ) → as_accepted.Caller a x ≡ as_accepted.Caller k y → (k ≡ a) × (y ≡ x)
      parts a x k y e = (cc, cc)

      by : (z : Bool) → (m.member == 0) ≡ z → as_accepted.Caller u c ≡ cond z (as_accepted.Destroyer m.task m.clause) (as_accepted.Caller m.task m.clause) → TakesCaller v o t u c (Some m) v2
      by true g e = cc
      by false g e =
          let f = parts u c m.task m.clause e in
          record {
            who = m;
            finds = refl;
            task = f.0;
            clause = f.1;
            no_destructor = g;
            doors = d ∙ ap (λ x. with_door v o (cond x (on_top (m.task, unmarked) (out_of_queue m.task (door_at v o))) (let_in m.task (on_top (t, marked m.clause m.task) (out_of_queue m.task (door_at v o)))))) g ∙ ap (λ x. with_door v o (let_in x (on_top (t, marked m.clause x) (out_of_queue x (door_at v o))))) f.0 ∙ ap (λ x. with_door v o (let_in u (on_top (t, marked x u) (out_of_queue u (door_at v o))))) f.1;
          }

  no_destroyer : (x : Bool) (u c : ℕ) → as_accepted.Destroyer u c ≡ answer_of x None → ⊥
  no_destroyer true u c h = cc
  no_destroyer false u c h = cc

  pub destroyer_by : (u c : ℕ) (found : Option Met) → as_accepted.Destroyer u c ≡ answer_of b found → unpulled v2 ≡ doors_of v o t b offers found → TakesDestroyer v o t u found v2
  destroyer_by u c None h d = absurd (no_destroyer b u c h)
  destroyer_by u c (Some m) h d = by (m.member == 0) refl h
    where
      parts : (a x k y : ℕ) → as_accepted.Destroyer a x ≡ as_accepted.Destroyer k y → k ≡ a
      parts a x k y e = cc

      by : (z : Bool) → (m.member == 0) ≡ z → as_accepted.Destroyer u c ≡ cond z (as_accepted.Destroyer m.task m.clause) (as_accepted.Caller m.task m.clause) → TakesDestroyer v o t u (Some m) v2
      by false g e = cc
      by true g e =
          let f = parts u c m.task m.clause e in
          record {
            who = m;
            finds = refl;
            task = f;
            destructor = eqb-true m.member 0 g;
            doors = d ∙ ap (λ x. with_door v o (cond x (on_top (m.task, unmarked) (out_of_queue m.task (door_at v o))) (let_in m.task (on_top (t, marked m.clause m.task) (out_of_queue m.task (door_at v o)))))) g ∙ ap (λ x. with_door v o (on_top (x, unmarked) (out_of_queue x (door_at v o)))) f;
          }

-- ---- rows
module _ (p t : ℕ) (k : Cost) (o site mask : ℕ) where
  pub opened_row : (b : Bool) (found : Option Met) → found ≡ None → b ≡ false → accepted p t k o site mask b found ≡ accept_entry p t k o site mask b 0 ∷ []
  opened_row b found n e =
      ap (accepted p t k o site mask b) n ∙ ap (λ x. accepted p t k o site mask x None) e ∙ ap (λ x. accept_entry p t k o site mask x 0 ∷ []) (sym e)

  pub else_row : (b : Bool) (found : Option Met) → found ≡ None → b ≡ true → accepted p t k o site mask b found ≡ accept_entry p t k o site mask b 2 ∷ []
  else_row b found n e =
      ap (accepted p t k o site mask b) n ∙ ap (λ x. accepted p t k o site mask x None) e ∙ ap (λ x. accept_entry p t k o site mask x 2 ∷ []) (sym e)

  took_caller : (b : Bool) (n u : ℕ) → (n == 0) ≡ false → took p t k o site mask b n u ≡ accept_entry p t k o site mask b 1 ∷ admit p u o 1 0 ∷ []
  took_caller b zero u h = cc
  took_caller b (suc n) u h = refl

  pub caller_row : (b : Bool) (found : Option Met) (m : Met) (u : ℕ) → found ≡ Some m → m.task ≡ u → (m.member == 0) ≡ false → accepted p t k o site mask b found ≡ accept_entry p t k o site mask b 1 ∷ admit p u o 1 0 ∷ []
  caller_row b found m u e f g =
      ap (accepted p t k o site mask b) e ∙ took_caller b m.member m.task g ∙ ap (λ x. accept_entry p t k o site mask b 1 ∷ admit p x o 1 0 ∷ []) f

  pub destroyer_row : (b : Bool) (found : Option Met) (m : Met) (u : ℕ) → found ≡ Some m → m.task ≡ u → m.member ≡ 0 → accepted p t k o site mask b found ≡ accept_entry p t k o site mask b 3 ∷ push p u o ∷ []
  destroyer_row b found m u e f g =
      ap (accepted p t k o site mask b) e ∙ ap (λ x. took p t k o site mask b x m.task) g ∙ ap (λ x. accept_entry p t k o site mask b 3 ∷ push p x o ∷ []) f

-- ---- all parts
module _ (opts : Options) (sites : List Site) (j : Journal) (doors : Doors) (waits : Waiting) (events : List (List Event)) (standing : Standing) (marks ins : List Bool) (owners : List (Option ℕ)) (own : List ℕ) (h : Mirrors opts sites j doors waits events standing marks ins owners own) (p t : ℕ) (k : Cost) (o site mask : ℕ) (b : Bool) (runs : running p j ≡ t ∷ []) (within : inside o j ≡ t ∷ []) (known : o < object_count j) where
  lt : o < length doors.doors
  lt = rw h.doors_are.made known

  pub acceptor_inside : (door_at doors o).inside ≡ Some t
  acceptor_inside = some_task (door_at doors o).inside t ((h.doors_are.each o lt).within ∙ within)

  pub next_found : (s : Site) → s ≡ site_at sites site → met (offers_by s mask) (door_at doors o).waiting ≡ next_met sites site mask o j
  next_found s e =
      ap (λ x. met x (door_at doors o).waiting) (offers_are sites site mask s e) ∙ ap (met (offers sites site mask)) (h.doors_are.each o lt).waiting

  -- it stays open
  pub m_opened : Legal (accept_entry p t k o site mask b 0) j → (s : Site) → s ≡ site_at sites site → (v : Doors) → unpulled v ≡ with_door doors o (goes_on_top t (Some (clauses_of (offers_by s mask))) (door_at doors o)) → (m x : Bool) → m ≡ get_or ins o x → Mirrors opts sites (j ++ accept_entry p t k o site mask b 0 ∷ []) v waits events (freed standing p) (set marks t m) ins owners own
  m_opened l s e v is m x was =
      let a = accept_entry p t k o site mask b 0 in
      let d = goes_on_top t (Some (clauses_of (offers sites site mask))) (door_at doors o) in
      let same : with_door doors o d ≡ unpulled v = ap (λ y. with_door doors o (goes_on_top t (Some (clauses_of y)) (door_at doors o))) (sym (offers_are sites site mask s e)) ∙ sym is in
      let now = m_goes opts sites j doors waits events standing marks ins owners own h a l (goes_acceptor p t k o site mask b) runs within known d refl (opens sites o j (door_at doors o) p t k site mask b within (h.doors_are.each o lt)) waits (waits_silent j waits a h.waits_are refl refl refl) m x was in
      repulled opts sites (j ++ a ∷ []) v waits events (freed standing p) (set marks t m) ins owners own (subst (λ w. Mirrors opts sites (j ++ a ∷ []) w waits events (freed standing p) (set marks t m) ins owners own) same now)

  -- its `_Else` is taken
  pub m_else : Legal (accept_entry p t k o site mask b 2) j → (v : Doors) → unpulled v ≡ unpulled doors → Mirrors opts sites (j ++ accept_entry p t k o site mask b 2 ∷ []) v waits events standing marks ins owners own
  m_else l v is =
      let a = accept_entry p t k o site mask b 2 in
      let now = m_unmoved opts sites j doors waits events standing marks ins owners own h a l (calm_else p t k o site mask b) refl refl known in
      let plain : Mirrors opts sites (j ++ a ∷ []) (unpulled doors) waits events standing marks ins owners own = record {
        doors_are = record { made = now.doors_are.made; pool = now.doors_are.pool; each = now.doors_are.each };
        waits_are = now.waits_are;
        events_are = now.events_are;
        clusters_are = now.clusters_are;
        marks_are = now.marks_are;
        owners_are = now.owners_are;
        few = now.few;
        sound = now.sound;
        stood = now.stood;
        known_sites = now.known_sites;
        owned = now.owned;
        fresh = now.fresh;
      } in
      repulled opts sites (j ++ a ∷ []) v waits events standing marks ins owners own (subst (λ w. Mirrors opts sites (j ++ a ∷ []) w waits events standing marks ins owners own) (sym is) plain)

  no_caller : AllByRecursion (λ w. w.0 ≢ t) (door_at doors o).waiting
  no_caller = (run_free opts sites j doors waits events standing marks ins owners own h p t runs o lt).0

  -- somebody is taken
  module _ (m : Met) (found : next_met sites site mask o j ≡ Some m) where
    waits_there : spot m.task j ≡ At (Waits o)
    waits_there = taken_waits sites o j (door_at doors o) (h.doors_are.each o lt) h.sound h.stood p t k site mask b within no_caller m found

    pub taken_known : m.task < task_count j
    taken_known = known_at j h.sound m.task (Waits o) waits_there

    -- the caller of a destructor
    module _ (l : Legal (accept_entry p t k o site mask b 3) j) (l2 : Legal (push p m.task o) (j ++ accept_entry p t k o site mask b 3 ∷ [])) where
      pub m_destroyer : (v : Doors) → unpulled v ≡ with_door doors o (on_top (m.task, unmarked) (out_of_queue m.task (door_at doors o))) → Mirrors opts sites ((j ++ accept_entry p t k o site mask b 3 ∷ []) ++ push p m.task o ∷ []) v waits events standing marks ins owners own
      m_destroyer v is =
          let a = accept_entry p t k o site mask b 3 in
          let i = j ++ a ∷ [] in
          let first = m_unmoved opts sites j doors waits events standing marks ins owners own h a l (calm_destroyer p t k o site mask b) refl refl known in
          let still : spot m.task i ≡ At (Waits o) = spot_stays j a m.task (and_false (m.task == t)) ∙ waits_there in
          let now = m_push opts sites i doors waits events standing marks ins owners own first p m.task o l2 (ap (queued_at o) still ∙ self_test o) (on_top (m.task, unmarked) (out_of_queue m.task (door_at doors o))) (door_destroyer sites o j (door_at doors o) (h.doors_are.each o lt) h.sound h.stood p t k site mask b within no_caller m found) (inside_now i (push p m.task o) ∙ all_kept_nil (inside o i)) waits (waits_stay opts sites i doors waits events standing marks ins owners own first (push p m.task o) refl refl (λ x c. ap (here (Blocked x c)) still)) in
          repulled opts sites (i ++ push p m.task o ∷ []) v waits events standing marks ins owners own (subst (λ w. Mirrors opts sites (i ++ push p m.task o ∷ []) w waits events standing marks ins owners own) (sym is) now)

    -- any other
    module _ (plain : (m.member == 0) ≡ false) (l : Legal (accept_entry p t k o site mask b 1) j) (l2 : Legal (admit p m.task o 1 0) (j ++ accept_entry p t k o site mask b 1 ∷ [])) (c : ℕ) (clause : m.clause ≡ c) (b1 x : Bool) (was : b1 ≡ get_or ins o x) where
      abbrev the_accept : Entry
      the_accept = accept_entry p t k o site mask b 1

      abbrev after : Journal
      after = j ++ the_accept ∷ []

      abbrev door_after : Door
      door_after = goes_on_top t None (door_at doors o)

      m_after : Mirrors opts sites after (with_door doors o door_after) waits events (freed standing p) (set marks t b1) ins owners own
      m_after =
          m_goes opts sites j doors waits events standing marks ins owners own h the_accept l (goes_taker p t k o site mask b) runs within known door_after refl (at_after sites o j (door_at doors o) (h.doors_are.each o lt) h.sound h.stood p t k site mask b within no_caller m found) waits (waits_silent j waits the_accept h.waits_are refl refl refl) b1 x was

      spot_after : spot m.task after ≡ At (Waits o)
      spot_after = spot_stays j the_accept m.task (ap (λ y. y && true) (taken_other sites o j (door_at doors o) (h.doors_are.each o lt) h.sound h.stood p t k site mask b within no_caller m found)) ∙ waits_there

      queued_after : queued_at o (spot m.task after) ≡ true
      queued_after = ap (queued_at o) spot_after ∙ self_test o

      pub nobody_after : inside o after ≡ []
      nobody_after = empty_after sites o j (door_at doors o) (h.doors_are.each o lt) h.sound h.stood p t k site mask b within no_caller m found

      pub mark_after : false ≡ calls_destructor o m.task after
      mark_after = sym (ap (is_member 0) (last_after sites o j (door_at doors o) (h.doors_are.each o lt) h.sound h.stood p t k site mask b within no_caller m found) ∙ plain)

      ws : WaitsAre (after ++ admit p m.task o 1 0 ∷ []) waits
      ws = waits_stay opts sites after (with_door doors o door_after) waits events (freed standing p) (set marks t b1) ins owners own m_after (admit p m.task o 1 0) refl refl (λ v e. ap (here (Blocked v e)) spot_after)

      pub m_caller : (v : Doors) → unpulled v ≡ with_door doors o (let_in m.task (on_top (t, marked c m.task) (out_of_queue m.task (door_at doors o)))) → Mirrors opts sites (after ++ admit p m.task o 1 0 ∷ []) v waits events (made_ready m.task (freed standing p)) (set marks t b1) (set ins o false) owners own
      m_caller v is =
          let d = let_in m.task (on_top (t, marked c m.task) (out_of_queue m.task (door_at doors o))) in
          let now = m_admit opts sites after (with_door doors o door_after) waits events (freed standing p) (set marks t b1) ins owners own m_after p m.task o 1 0 false l2 queued_after nobody_after false mark_after d (door_caller sites o j (door_at doors o) (h.doors_are.each o lt) h.sound h.stood p t k site mask b within no_caller m found c clause) waits ws (ap (λ u. m.task == u) (last_actor_push 0 j the_accept) ∙ taken_other sites o j (door_at doors o) (h.doors_are.each o lt) h.sound h.stood p t k site mask b within no_caller m found) in
          let same : with_door (with_door doors o door_after) o d ≡ unpulled v = set_twice doors o door_after d ∙ sym is in
          repulled opts sites (after ++ admit p m.task o 1 0 ∷ []) v waits events (made_ready m.task (freed standing p)) (set marks t b1) (set ins o false) owners own (subst (λ w. Mirrors opts sites (after ++ admit p m.task o 1 0 ∷ []) w waits events (made_ready m.task (freed standing p)) (set marks t b1) (set ins o false) owners own) same now)

      pub caller_placed : IsPlaced m.task (freed standing p)
      caller_placed =
          admit_placed opts sites after (with_door doors o door_after) waits events (freed standing p) (set marks t b1) ins owners own m_after p m.task o 1 0 false l2 queued_after nobody_after false mark_after (let_in m.task (on_top (t, marked c m.task) (out_of_queue m.task (door_at doors o)))) (door_caller sites o j (door_at doors o) (h.doors_are.each o lt) h.sound h.stood p t k site mask b within no_caller m found c clause) waits ws

      pub caller_unready : IsUnready m.task (freed standing p)
      caller_unready =
          admit_unready opts sites after (with_door doors o door_after) waits events (freed standing p) (set marks t b1) ins owners own m_after p m.task o 1 0 false l2 queued_after nobody_after false mark_after (let_in m.task (on_top (t, marked c m.task) (out_of_queue m.task (door_at doors o)))) (door_caller sites o j (door_at doors o) (h.doors_are.each o lt) h.sound h.stood p t k site mask b within no_caller m found c clause) waits ws

      pub caller_kept : (f : Entry) → settled f after (admit p m.task o 1 0 ∷ []) ≡ admit p m.task o 1 0 ∷ []
      caller_kept f = settled_kept f after (admit p m.task o 1 0) (destroys_not after p m.task o 1 0 false false mark_after (inl refl))
