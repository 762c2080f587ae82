-- The doors after a call of uc_mutex or uc_accept are those of the journal with the entries that tell it.
use Rattle.std.proofs.Common.{◌≡◌, ℕ, ◌==◌, ◌<◌, Bool, true, false, List, [], ◌∷◌, ◌++◌, Option, Some, None, pos, refl, sym, ap, ◌∙◌, subst, append-nil, append_assoc, length, length-set, get_or-set_same, get_or-set_other}
use Rattle.std.specs.List.{AllByRecursion}
use Rattle.std.proofs.lemmas.Bool.{eqb-true, eq-eqb}
use Rattle.uc_tree.specs.Programs.{Site}
use Rattle.uc_tree.specs.SiteOffers.{Met, met}
use Rattle.uc_entry.specs.declared.entry.Entry.{Entry}
use Rattle.uc_entry.specs.declared.entry.EntryKind.TheVariants as kind
use Rattle.uc_acts.specs.Journal.{Journal, Cost, asking, inside}
use Rattle.uc_acts.specs.Queues.{next}
use Rattle.uc_acts.specs.Doors.{site_at, open_at, offers, next_met}
use Rattle.uc_acts.specs.Sound.{Sound, Stood}
use Rattle.uc_acts.specs.Acts.{accept_entry, accepted, admission, called, push, admit}
use Rattle.uc_mutex.specs.declared.called.Called.{Called}
use Rattle.uc_mutex.specs.declared.called.Called.TheVariants as called_as
use Rattle.uc_mutex.specs.declared.called.Passed.{Passed}
use Rattle.uc_mutex.specs.Doors.{Door, Doors, IsFree, no_door, door_at, with_door, answer, after_call, next_of, after_next, let_in, on_top, marked, unmarked}
use Rattle.uc_mutex.specs.Offers.{clauses_of, offers_by}
use Rattle.uc_accept.specs.declared.accepting.Accepted.{Accepted}
use Rattle.uc_accept.specs.declared.accepting.Accepted.TheVariants as accepted_as
use Rattle.uc_accept.specs.Accepting.{unpulled, answer_of, doors_of, out_of_queue}
use Rattle.uc_kernel_core.specs.DoorLaws.{IsDoor, goes_on_top}
use Rattle.uc_kernel_core.specs.CallLaws.{AreDoors, HasDoors, Agrees, told_call, told_next, told_accept, LawCalled, LawNext, LawAccepted}
use Rattle.uc_kernel_core.proofs.DoorLemmas.{elsewhere, admit_one, opens, still}
use Rattle.uc_kernel_core.proofs.Letting.{none_inside}
use Rattle.uc_kernel_core.proofs.Nexts.{next_facts, none_facts, next_row}
use Rattle.uc_kernel_core.proofs.DoorCalls.{call_agrees}
use Rattle.uc_kernel_core.proofs.DoorAccepts.{door_caller, door_destroyer}
use Rattle.uc_kernel_core.proofs.Taking.{offers_are, opened_by, else_by, caller_by, destroyer_by, opened_row, else_row, caller_row, destroyer_row}

-- all entries are of one object
abbrev AreOf : ℕ → List Entry → Type 0
AreOf o a = AllByRecursion (λ e. e.object ≡ o) a

elsewhere_all : (sites : List Site) (o u : ℕ) (j : Journal) (d : Door) (a : List Entry) → (o == u) ≡ false → AreOf o a → IsDoor sites u j d → IsDoor sites u (j ++ a) d
elsewhere_all sites o u j d [] n h g = subst (λ i. IsDoor sites u i d) (sym (append-nil j)) g
elsewhere_all sites o u j d (e ∷ a) n h g =
    subst (λ i. IsDoor sites u i d) (append_assoc j (e ∷ []) a) (elsewhere_all sites o u (j ++ e ∷ []) d a n h.1 (elsewhere sites u j e d (ap (λ x. x == u) h.0 ∙ n) g))

no_both : (b : Bool) → b ≡ true → b ≡ false → ⊥
no_both b t f = cc

-- one door was set
doors_set : (sites : List Site) (j : Journal) (v : Doors) (o : ℕ) (d : Door) (a : List Entry) → o < length v.doors → AreDoors sites j v → AreOf o a → IsDoor sites o (j ++ a) d → AreDoors sites (j ++ a) (with_door v o d)
doors_set sites j v o d a known all one at u lt = by (o == u) refl
  where
    by : (b : Bool) → (o == u) ≡ b → IsDoor sites u (j ++ a) (door_at (with_door v o d) u)
    by false n =
        subst (IsDoor sites u (j ++ a)) (sym (get_or-set_other v.doors o u d no_door (λ s. no_both (o == u) (eq-eqb o u (sym s)) n))) (elsewhere_all sites o u j (door_at v u) a n one (all u (subst (λ n. u < n) (length-set v.doors o d) lt)))
    by true n =
        subst (λ x. IsDoor sites x (j ++ a) (door_at (with_door v o d) x)) (eqb-true o u n) (subst (IsDoor sites o (j ++ a)) (sym (get_or-set_same v.doors o d no_door known)) at)

of_call : (p t o : ℕ) (x : Called) → AreOf o (told_call p t o x)
of_call p t o called_as.Waits = tt
of_call p t o (called_as.In way) = (refl, tt)
of_call p t o (called_as.Pushed u clause) = (refl, (refl, tt))

of_next : (p o : ℕ) (x : Option Passed) → AreOf o (told_next p o x)
of_next p o None = tt
of_next p o (Some n) = (refl, tt)

of_accept : (p t : ℕ) (k : Cost) (o site mask : ℕ) (b : Bool) (x : Accepted) → AreOf o (told_accept p t k o site mask b x)
of_accept p t k o site mask b accepted_as.Opened = (refl, tt)
of_accept p t k o site mask b accepted_as.Else = (refl, tt)
of_accept p t k o site mask b (accepted_as.Caller u clause) = (refl, (refl, tt))
of_accept p t k o site mask b (accepted_as.Destroyer u clause) = (refl, (refl, tt))

pub law_of_call : LawCalled
law_of_call sites j v w p t k o m h known small free is =
    let d = door_at v o in
    let first = asking kind.Call p t k o (pos m) (pos 0) in
    let x = call_agrees sites o j d (h.doors o known) h.sound h.stood p t k m (free o known).0 (free o known).1 small in
    let es = called sites p t o m (inside o j) (open_at o j) in
    let at : IsDoor sites o (j ++ first ∷ es) (after_call t m d) = subst (λ i. IsDoor sites o i (after_call t m d)) (append_assoc j (first ∷ []) es) x.1 in
    let of : AreOf o (first ∷ es) = (refl, subst (AreOf o) (sym x.0) (of_call p t o (answer d m))) in
    record {
      told = ap (λ l. first ∷ l) x.0;
      doors = subst (AreDoors sites (j ++ first ∷ es)) (sym is) (doors_set sites j v o (after_call t m d) (first ∷ es) known h.doors of at);
    }

next_agrees : (sites : List Site) (j : Journal) (p o : ℕ) (d : Door) → Sound j → Stood sites j → IsDoor sites o j d → inside o j ≡ [] → (x : Option Passed) → x ≡ next_of d → (admission sites p o j (next o j) ≡ told_next p o x) × IsDoor sites o (j ++ admission sites p o j (next o j)) (after_next d)
next_agrees sites j p o d s st at empty None e =
    let n = none_facts sites o j d at s st e in
    let row : admission sites p o j (next o j) ≡ [] = ap (admission sites p o j) n.0 in
    (row, subst (λ l. IsDoor sites o (j ++ l) (after_next d)) (sym row) (subst (IsDoor sites o (j ++ [])) (sym (n.1 (none_inside d.inside (at.within ∙ empty)))) (subst (λ i. IsDoor sites o i d) (sym (append-nil j)) at)))
next_agrees sites j p o d s st at empty (Some n) e =
    let f = next_facts sites o j d at s st n e in
    let row = next_row sites o j s n f.0 p in
    (row, subst (λ l. IsDoor sites o (j ++ l) (after_next d)) (sym row) (subst (IsDoor sites o (j ++ told_next p o (Some n))) (sym f.1) (admit_one sites o j d p n.task n.way n.clause n.failed f.0.way empty at)))

pub law_of_next : LawNext
law_of_next sites j v w p o h known empty is =
    let d = door_at v o in
    let x = next_agrees sites j p o d h.sound h.stood (h.doors o known) empty (next_of d) refl in
    let es = admission sites p o j (next o j) in
    record {
      told = x.0;
      doors = subst (AreDoors sites (j ++ es)) (sym is) (doors_set sites j v o (after_next d) es known h.doors (subst (AreOf o) (sym x.0) (of_next p o (next_of d))) x.1);
    }

module _ (sites : List Site) (j : Journal) (v w : Doors) (p t : ℕ) (k : Cost) (o site mask : ℕ) (h : HasDoors sites j v) (known : o < length v.doors) (within : inside o j ≡ t ∷ []) (free : IsFree t v) where
  abbrev s : Site
  s = site_at sites site

  abbrev d : Door
  d = door_at v o

  abbrev found : Option Met
  found = met (offers_by s mask) d.waiting

  abbrev row : List Entry
  row = accepted p t k o site mask s.has_else (next_met sites site mask o j)

  at : IsDoor sites o j d
  at = h.doors o known

  same_offers : offers_by s mask ≡ offers sites site mask
  same_offers = offers_are sites site mask s refl

  found_next : found ≡ next_met sites site mask o j
  found_next = ap (λ x. met x d.waiting) same_offers ∙ ap (met (offers sites site mask)) at.waiting

  row_is : row ≡ accepted p t k o site mask s.has_else found
  row_is = ap (accepted p t k o site mask s.has_else) (sym found_next)

  -- the row and one door
  agrees : (told : List Entry) (e : Door) → AreOf o told → accepted p t k o site mask s.has_else found ≡ told → unpulled w ≡ with_door v o e → IsDoor sites o (j ++ told) e → Agrees sites j row told w
  agrees told e of row_told is door =
      let same = row_is ∙ row_told in
      let all = subst (AreDoors sites (j ++ told)) (sym is) (doors_set sites j v o e told known h.doors of door) in
      record { told = same; doors = subst (λ l. AreDoors sites (j ++ l) w) (sym same) all }

  by : (x : Accepted) → x ≡ answer_of s.has_else found → unpulled w ≡ doors_of v o t s.has_else (offers_by s mask) found → Agrees sites j row (told_accept p t k o site mask s.has_else x) w
  by accepted_as.Opened e is =
      let x = opened_by v w o t s.has_else (offers_by s mask) found e is in
      let door = subst (λ l. IsDoor sites o (j ++ accept_entry p t k o site mask s.has_else 0 ∷ []) (goes_on_top t (Some (clauses_of l)) d)) (sym same_offers) (opens sites o j d p t k site mask s.has_else within at) in
      agrees _ _ (of_accept p t k o site mask s.has_else accepted_as.Opened) (opened_row p t k o site mask s.has_else found x.none x.no_else) x.doors door
  by accepted_as.Else e is =
      let x = else_by v w o t s.has_else (offers_by s mask) found e is in
      let a = accept_entry p t k o site mask s.has_else 2 in
      let same = row_is ∙ else_row p t k o site mask s.has_else found x.none x.has_else in
      record { told = same; doors = subst (λ l. AreDoors sites (j ++ l) w) (sym same) (subst (AreDoors sites (j ++ a ∷ [])) (sym x.doors) (λ u lt. each u lt (o == u) refl)) }
    where
      each : (u : ℕ) → u < length v.doors → (b : Bool) → (o == u) ≡ b → IsDoor sites u (j ++ accept_entry p t k o site mask s.has_else 2 ∷ []) (door_at v u)
      each u lt false n = elsewhere sites u j (accept_entry p t k o site mask s.has_else 2) (door_at v u) n (h.doors u lt)
      each u lt true n =
          subst (λ x. IsDoor sites x (j ++ accept_entry p t k o site mask s.has_else 2 ∷ []) (door_at v x)) (eqb-true o u n) (still sites j d (accept_entry p t k o site mask s.has_else 2) refl at)
  by (accepted_as.Caller u c) e is =
      let x = caller_by v w o t s.has_else (offers_by s mask) u c found e is in
      let next = sym found_next ∙ x.finds in
      let door = door_caller sites o j d at h.sound h.stood p t k site mask s.has_else within (free o known).0 x.who next c x.clause in
      agrees _ _ (of_accept p t k o site mask s.has_else (accepted_as.Caller u c)) (caller_row p t k o site mask s.has_else found x.who u x.finds x.task x.no_destructor) x.doors (subst (λ i. IsDoor sites o i (let_in u (on_top (t, marked c u) (out_of_queue u d)))) (append_assoc j (accept_entry p t k o site mask s.has_else 1 ∷ []) (admit p u o 1 0 ∷ [])) (subst (λ y. IsDoor sites o ((j ++ accept_entry p t k o site mask s.has_else 1 ∷ []) ++ admit p y o 1 0 ∷ []) (let_in y (on_top (t, marked c y) (out_of_queue y d)))) x.task door))
  by (accepted_as.Destroyer u c) e is =
      let x = destroyer_by v w o t s.has_else (offers_by s mask) u c found e is in
      let next = sym found_next ∙ x.finds in
      let door = door_destroyer sites o j d at h.sound h.stood p t k site mask s.has_else within (free o known).0 x.who next in
      agrees _ _ (of_accept p t k o site mask s.has_else (accepted_as.Destroyer u c)) (destroyer_row p t k o site mask s.has_else found x.who u x.finds x.task x.destructor) x.doors (subst (λ i. IsDoor sites o i (on_top (u, unmarked) (out_of_queue u d))) (append_assoc j (accept_entry p t k o site mask s.has_else 3 ∷ []) (push p u o ∷ [])) (subst (λ y. IsDoor sites o ((j ++ accept_entry p t k o site mask s.has_else 3 ∷ []) ++ push p y o ∷ []) (on_top (y, unmarked) (out_of_queue y d))) x.task door))

pub law_of_accept : LawAccepted
law_of_accept sites j v w p t k o site mask h known within free is =
    by sites j v w p t k o site mask h known within free _ refl is
