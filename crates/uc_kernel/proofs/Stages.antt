-- What lies where, entry by entry of an act.
use Rattle.std.proofs.Common.{◌≡◌, ◌≢◌, ℕ, zero, suc, ◌==◌, ◌+◌, ◌<◌, ◌&&◌, ◌||◌, Bool, true, false, not, List, [], ◌∷◌, ◌++◌, Option, Some, None, refl, sym, ap, ◌∙◌, subst, get_or, set, length, arith, get_or-set_same, get_or-set_other, length-set}
use Rattle.std.specs.Prelude.{slice_index_or, slice_set, if◌then◌else◌}
use Rattle.std.specs.List.{filter}
use Rattle.std.proofs.lemmas.Bool.{eqb-true, eq-eqb}
use Rattle.uc_entry.specs.declared.entry.Entry.{Entry}
use Rattle.uc_entry.specs.declared.entry.EntryKind.{EntryKind}
use Rattle.uc_entry.specs.declared.entry.EntryKind.TheVariants as kind
use Rattle.uc_entry.specs.Listed.{Listed}
use Rattle.uc_entry.specs.Keyed.{find}
use Rattle.uc_acts.specs.Journal.{Journal, held, inside}
use Rattle.uc_acts.specs.Known.{has, is_gone, is_gone_by, is_make, is_spawn, takes_object, object_count, task_count}
use Rattle.uc_acts.specs.Doors.{open_at}
use Rattle.uc_acts.specs.Sound.{Sound}
use Rattle.uc_acts.specs.Legal.{Legal, DoorFit}
use Rattle.uc_acts.proofs.Held.{law_held}
use Rattle.uc_acts.proofs.Living.{gone_still, gone_same}
use Rattle.uc_acts.proofs.Counted.{gone_push, has_filter}
use Rattle.uc_acts.proofs.SoundLemmas.{tasks_push, objects_push, self_test, plus}
use Rattle.uc_acts.proofs.Others.{flip}
use Rattle.uc_kernel.specs.declared.rests.TaskAtRest.{TaskAtRest}
use Rattle.uc_kernel.specs.Numbered.{keys, or_else, without}
use Rattle.uc_kernel.specs.KernelState.{member_in, member_among}
use Rattle.uc_kernel.specs.AtRest.{goes_out, hand_after, laid, loose_after, LetIn, none_there, own, another}
use Rattle.uc_kernel.proofs.Hands.{no_both, some-same, none_found, find_none}
use Rattle.uc_kernel.proofs.Places.{among_only, among_same}
use Rattle.uc_kernel.proofs.Lying.{not_true, one_holder, HandsAre, LooseAre, loose_none, no_member, nowhere_else}
use Rattle.uc_kernel.proofs.Shapes.{trails, is_plain}
use Rattle.uc_kernel.proofs.Moving.{held_trail, held_others, held_own, held_admitted, held_not_admitted}

-- an object that is there and that nobody is inside has its members among the loose ones
abbrev pub ArePresent : {M : Type 0} → Journal → List (Option M) → Type 0
ArePresent j loose = (o : ℕ) → o < object_count j → is_gone o j ≡ false → ((t : ℕ) → has (held t j) o ≡ false) → slice_index_or loose o None ≡ None → ⊥

-- what lies where in the middle of an act of task t, with its hand
pub record Mid {T M : Type 0} (t : ℕ) (j : Journal) (hand : List (ℕ × M)) (tasks : List (Option (TaskAtRest T M))) (loose : List (Option M)) : Type 0 where
  pub hand_is : keys hand ≡ held t j
  pub hands : HandsAre j tasks loose
  pub loose_are : LooseAre j tasks loose
  pub present : ArePresent j loose
  pub mine : slice_index_or tasks t None ≡ None
  pub tasks_are : length tasks ≡ task_count j
  pub objects_are : length loose ≡ object_count j

-- the members of an object, in the hand or at rest
abbrev pub all_members : {T M : Type 0} → List (ℕ × M) → List (Option (TaskAtRest T M)) → List (Option M) → ℕ → Option M
all_members hand tasks loose o = or_else (find o hand) (or_else (slice_index_or loose o None) (member_among o tasks))

-- ---- hands

keys_out : {M : Type 0} (o : ℕ) (h : List (ℕ × M)) → keys (without o h) ≡ filter (λ x. not ((o == x) && true)) (keys h)
keys_out o [] = refl
keys_out o (p ∷ h) = by (p.0 == o) refl (keys_out o h)
  where
    by : (b : Bool) → (p.0 == o) ≡ b → keys (without o h) ≡ filter (λ x. not ((o == x) && true)) (keys h) → keys (without o (p ∷ h)) ≡ filter (λ x. not ((o == x) && true)) (p.0 ∷ keys h)
    by true e ih = let f : (o == p.0) ≡ true = eq-eqb o p.0 (sym (eqb-true p.0 o e)) in rw (e, f) ih
    by false e ih = let f : (o == p.0) ≡ false = flip p.0 o e in rw (e, f) (ap (λ l. p.0 ∷ l) ih)

all_stay : (o : ℕ) (xs : List ℕ) → filter (λ x. not ((o == x) && false)) xs ≡ xs
all_stay o [] = refl
all_stay o (x ∷ xs) = by (o == x) refl (all_stay o xs)
  where
    by : (b : Bool) → (o == x) ≡ b → filter (λ x. not ((o == x) && false)) xs ≡ xs → filter (λ x. not ((o == x) && false)) (x ∷ xs) ≡ x ∷ xs
    by true e ih = rw e (ap (λ l. x ∷ l) ih)
    by false e ih = rw e (ap (λ l. x ∷ l) ih)

pub keys_after : {M : Type 0} (o : ℕ) (b : Bool) (h : List (ℕ × M)) → keys (if b then without o h else h) ≡ filter (λ x. not ((o == x) && b)) (keys h)
keys_after o true h = keys_out o h
keys_after o false h = sym (all_stay o (keys h))

pub has_kept : (p : ℕ → Bool) (n : ℕ) (xs : List ℕ) → has xs n ≡ false → has (filter p xs) n ≡ false
has_kept p n [] h = refl
has_kept p n (x ∷ xs) h = by (p x) (x == n) refl refl (has_kept p n xs)
  where
    by : (b c : Bool) → p x ≡ b → (x == n) ≡ c → (has xs n ≡ false → has (filter p xs) n ≡ false) → has (filter p (x ∷ xs)) n ≡ false
    by b true e f ih = let g : has (x ∷ xs) n ≡ true = rw f refl in absurd (no_both (has (x ∷ xs) n) g h)
    by true false e f ih =
        let g : has (x ∷ xs) n ≡ has xs n = rw f refl in
        let r = ih (sym g ∙ h) in rw (e, f) r
    by false false e f ih = let g : has (x ∷ xs) n ≡ has xs n = rw f refl in rw e (ih (sym g ∙ h))

pub has_out : (o : ℕ) (xs : List ℕ) → has (filter (λ x. not ((o == x) && true)) xs) o ≡ false
has_out o [] = refl
has_out o (x ∷ xs) = by (o == x) refl (has_out o xs)
  where
    by : (b : Bool) → (o == x) ≡ b → has (filter (λ x. not ((o == x) && true)) xs) o ≡ false → has (filter (λ x. not ((o == x) && true)) (x ∷ xs)) o ≡ false
    by true e ih = rw e ih
    by false e ih = let f : (x == o) ≡ false = flip o x e in rw (e, f) ih

pub find_out : {M : Type 0} (o : ℕ) (h : List (ℕ × M)) → find o (without o h) ≡ None
find_out o h = none_found o (without o h) (ap (λ ks. has ks o) (keys_out o h) ∙ has_out o (keys h))

pub find_kept : {M : Type 0} (o k : ℕ) (h : List (ℕ × M)) → (k == o) ≡ false → find k (without o h) ≡ find k h
find_kept o k [] n = refl
find_kept {M} o k (p ∷ h) n = by (p.0 == o) (p.0 == k) refl refl (find_kept o k h n)
  where
    by : (b c : Bool) → (p.0 == o) ≡ b → (p.0 == k) ≡ c → find k (without o h) ≡ find k h → find k (without o (p ∷ h)) ≡ find k (p ∷ h)
    by true true e f ih = absurd (no_both (k == o) (eq-eqb k o (sym (eqb-true p.0 k f) ∙ eqb-true p.0 o e)) n)
    by true false e f ih = rw (e, f) ih
    by false true e f ih = rw (e, f) refl
    by false false e f ih = rw (e, f) ih

find_append : {M : Type 0} (o k : ℕ) (m : M) (h : List (ℕ × M)) → (o == k) ≡ false → find k (h ++ (o, m) ∷ []) ≡ find k h
find_append o k m [] n = rw n refl
find_append o k m (p ∷ h) n = by (p.0 == k) refl (find_append o k m h n)
  where
    by : (b : Bool) → (p.0 == k) ≡ b → find k (h ++ (o, m) ∷ []) ≡ find k h → find k (p ∷ (h ++ (o, m) ∷ [])) ≡ find k (p ∷ h)
    by true e ih = rw e refl
    by false e ih = rw e ih

find_last : {M : Type 0} (o : ℕ) (m : M) (h : List (ℕ × M)) → find o h ≡ None → find o (h ++ (o, m) ∷ []) ≡ Some m
find_last o m [] e = let self = self_test o in rw self refl
find_last {M} o m (p ∷ h) e = by (p.0 == o) refl (find_last o m h)
  where
    none-some : {x : M} {A : Type 0} → None ≡ Some x → A
    none-some e = absurd (cc)

    by : (b : Bool) → (p.0 == o) ≡ b → (find o h ≡ None → find o (h ++ (o, m) ∷ []) ≡ Some m) → find o (p ∷ (h ++ (o, m) ∷ [])) ≡ Some m
    by true f ih = let g : find o (p ∷ h) ≡ Some p.1 = rw f refl in none-some (sym e ∙ g)
    by false f ih =
        let g : find o (p ∷ h) ≡ find o h = rw f refl in
        let r = ih (sym g ∙ e) in rw f r

keys_append : {M : Type 0} (h : List (ℕ × M)) (o : ℕ) (m : M) → keys (h ++ (o, m) ∷ []) ≡ keys h ++ o ∷ []
keys_append [] o m = refl
keys_append (p ∷ h) o m = ap (λ l. p.0 ∷ l) (keys_append h o m)

pub has_append_other : (xs : List ℕ) (o k : ℕ) → has xs k ≡ false → (o == k) ≡ false → has (xs ++ o ∷ []) k ≡ false
has_append_other [] o k h n = rw n refl
has_append_other (x ∷ xs) o k h n = by (x == k) refl (has_append_other xs o k)
  where
    by : (b : Bool) → (x == k) ≡ b → (has xs k ≡ false → (o == k) ≡ false → has (xs ++ o ∷ []) k ≡ false) → has (x ∷ (xs ++ o ∷ [])) k ≡ false
    by true e ih = let g : has (x ∷ xs) k ≡ true = rw e refl in absurd (no_both (has (x ∷ xs) k) g h)
    by false e ih =
        let g : has (x ∷ xs) k ≡ has xs k = rw e refl in
        let r = ih (sym g ∙ h) n in rw e r

pub differ : (u t : ℕ) → (u == t) ≡ false → u ≢ t
differ u t h e = no_both (u == t) (eq-eqb u t e) h

-- ---- the loose members

length_laid : {M : Type 0} (o : ℕ) (m : Option M) (loose : List (Option M)) → length (laid o m loose) ≡ length loose
length_laid o None loose = refl
length_laid o (Some m) loose = length-set loose o (Some m)

laid_other : {M : Type 0} (o k : ℕ) (m : Option M) (loose : List (Option M)) → (k == o) ≡ false → slice_index_or (laid o m loose) k None ≡ slice_index_or loose k None
laid_other o k None loose n = refl
laid_other o k (Some m) loose n = get_or-set_other loose o k (Some m) None (differ k o n)

laid_same : {M : Type 0} (o : ℕ) (m : Option M) (loose : List (Option M)) → o < length loose → or_else m (slice_index_or loose o None) ≡ slice_index_or (laid o m loose) o None
laid_same o None loose lt = refl
laid_same o (Some m) loose lt = sym (get_or-set_same loose o (Some m) None lt)

none_set : {M : Type 0} (loose : List (Option M)) (o : ℕ) → get_or (set loose o None) o None ≡ None
none_set [] o = refl
none_set (x ∷ loose) zero = refl
none_set (x ∷ loose) (suc o) = none_set loose o

-- ---- kinds

pub plain_counts : (k : EntryKind) → is_plain k ≡ true → (is_spawn k ≡ false) × (is_make k ≡ false)
plain_counts kind.Make h = cc
plain_counts kind.Spawn h = cc
plain_counts k h = (refl, refl)

pub trail_counts : (k : EntryKind) → trails k ≡ true → (is_spawn k ≡ false) × (is_make k ≡ false) × (is_gone_by k ≡ false)
trail_counts kind.Make h = cc
trail_counts kind.Spawn h = cc
trail_counts kind.Gone h = cc
trail_counts k h = (refl, refl, refl)

gone_out : (k : EntryKind) (e : Entry) → is_gone_by k ≡ true → goes_out k e ≡ false
gone_out kind.Gone e h = refl
gone_out k e h = cc

pub same_tasks : (j : Journal) (e : Entry) → is_spawn e.kind ≡ false → task_count (j ++ e ∷ []) ≡ task_count j
same_tasks j e h = let a = tasks_push j e ∙ ap (λ b. task_count j + plus b) h in omega (arith, a)

pub same_objects : (j : Journal) (e : Entry) → is_make e.kind ≡ false → object_count (j ++ e ∷ []) ≡ object_count j
same_objects j e h = let a = objects_push j e ∙ ap (λ b. object_count j + plus b) h in omega (arith, a)

-- whoever goes out of an object or destroys it is inside
out_door : (k : EntryKind) (e : Entry) (j : Journal) → (goes_out k e || is_gone_by k) ≡ true → DoorFit k e (inside e.object j) (open_at e.object j) → inside e.object j ≡ e.task ∷ []
out_door kind.Made e j h d = d
out_door kind.Leave e j h d = d
out_door kind.End e j h d = d
out_door kind.Wait e j h d = d
out_door kind.SignalBlock e j h d = d
out_door kind.Accept e j h d = d
out_door kind.Gone e j h d = d
out_door k e j h d = cc

pub in_one : (t : ℕ) → has (t ∷ []) t ≡ true
in_one t = let self = self_test t in rw self refl

or_last : (a b : Bool) → b ≡ true → (a || b) ≡ true
or_last true b h = refl
or_last false b h = h

pub has_last : (xs : List ℕ) (o : ℕ) → has (xs ++ o ∷ []) o ≡ true
has_last [] o = in_one o
has_last (x ∷ xs) o = or_last (x == o) (has (xs ++ o ∷ []) o) (has_last xs o)

-- the first entry of an act
module _ {T M : Type 0} (t : ℕ) (j : Journal) (s : Sound j) (e : Entry) (l : Legal e j) (plain : is_plain e.kind ≡ true) (mine : e.task ≡ t) (hand : List (ℕ × M)) (tasks : List (Option (TaskAtRest T M))) (loose : List (Option M)) (m : Mid t j hand tasks loose) where
  abbrev o : ℕ
  o = e.object

  known : e.object < length loose
  known =
      let a = l.made in
      let b = same_objects j e (plain_counts e.kind plain).1 in
      let c = m.objects_are in omega (arith, a, b, c)

  held_mine : held t (j ++ e ∷ []) ≡ filter (λ x. not ((e.object == x) && (goes_out e.kind e || is_gone_by e.kind))) (held t j)
  held_mine = subst (λ v. held v (j ++ e ∷ []) ≡ filter (λ x. not ((e.object == x) && (goes_out e.kind e || is_gone_by e.kind))) (held v j)) mine (held_own j e plain)

  held_other : (u : ℕ) → (u == t) ≡ false → held u (j ++ e ∷ []) ≡ held u j
  held_other u n = held_others u j e plain (ap (λ v. u == v) mine ∙ n)

  holds_it : (goes_out e.kind e || is_gone_by e.kind) ≡ true → has (held t j) e.object ≡ true
  holds_it h =
      (law_held j).inside t e.object ∙ ap (λ xs. has xs t) (out_door e.kind e j h l.door ∙ ap (λ v. v ∷ []) mine) ∙ in_one t

  -- what nobody held, nobody holds
  still_free : (k : ℕ) → ((u : ℕ) → has (held u j) k ≡ false) → (u : ℕ) → has (held u (j ++ e ∷ [])) k ≡ false
  still_free k h u = by (u == t) refl
    where
      by : (b : Bool) → (u == t) ≡ b → has (held u (j ++ e ∷ [])) k ≡ false
      by true g =
          ap (λ v. has (held v (j ++ e ∷ [])) k) (eqb-true u t g) ∙ ap (λ xs. has xs k) held_mine ∙ has_kept _ k (held t j) (h t)
      by false g = ap (λ xs. has xs k) (held_other u g) ∙ h u

  -- an object that its task goes out of is free then
  free_then : (goes_out e.kind e || is_gone_by e.kind) ≡ true → (u : ℕ) → has (held u (j ++ e ∷ [])) e.object ≡ false
  free_then h u = by (u == t) refl
    where
      by : (b : Bool) → (u == t) ≡ b → has (held u (j ++ e ∷ [])) e.object ≡ false
      by true g =
          ap (λ v. has (held v (j ++ e ∷ [])) e.object) (eqb-true u t g) ∙ ap (λ xs. has xs e.object) held_mine ∙ ap (λ b. has (filter (λ x. not ((e.object == x) && b)) (held t j)) e.object) h ∙ has_out e.object (held t j)
      by false g =
          ap (λ xs. has xs e.object) (held_other u g) ∙ one_holder j s t u e.object (holds_it h) (differ u t g)

  free_laid : (x : Option M) (k : ℕ) (y : M) → (goes_out e.kind e || is_gone_by e.kind) ≡ true → slice_index_or (laid e.object x loose) k None ≡ Some y → (u : ℕ) → has (held u (j ++ e ∷ [])) k ≡ false
  free_laid x k y h f = by (k == e.object) refl
    where
      by : (b : Bool) → (k == e.object) ≡ b → (u : ℕ) → has (held u (j ++ e ∷ [])) k ≡ false
      by true g = λ u. ap (λ v. has (held u (j ++ e ∷ [])) v) (eqb-true k e.object g) ∙ free_then h u
      by false g = still_free k (m.loose_are k y (sym (laid_other e.object k x loose g) ∙ f))

  loose_first : (b : Bool) → goes_out e.kind e ≡ b → (k : ℕ) (y : M) → slice_index_or (if b then laid e.object (find e.object hand) loose else loose) k None ≡ Some y → (u : ℕ) → has (held u (j ++ e ∷ [])) k ≡ false
  loose_first true g k y f = free_laid (find e.object hand) k y (rw g refl) f
  loose_first false g k y f = still_free k (m.loose_are k y f)

  found_in : has (held t j) e.object ≡ true → find e.object hand ≡ None → ⊥
  found_in h n = no_both (has (held t j) e.object) h (ap (λ ks. has ks e.object) (sym m.hand_is) ∙ find_none e.object hand n)

  some_laid : (x : Option M) → (x ≡ None → ⊥) → slice_index_or (laid e.object x loose) e.object None ≡ None → ⊥
  some_laid None n f = n refl
  some_laid (Some y) n f = clash (sym f ∙ get_or-set_same loose e.object (Some y) None known)
    where
      clash : None ≡ Some y → ⊥
      clash e = cc

  present_first : (b : Bool) → goes_out e.kind e ≡ b → (k : ℕ) → k < object_count (j ++ e ∷ []) → is_gone k (j ++ e ∷ []) ≡ false → ((u : ℕ) → has (held u (j ++ e ∷ [])) k ≡ false) → slice_index_or (if b then laid e.object (find e.object hand) loose else loose) k None ≡ None → ⊥
  present_first b g k lt gone free f = by b g f
    where
      parts : (x y : Bool) → (x || y) ≡ false → (x ≡ false) × (y ≡ false)
      parts true y h = cc
      parts false y h = (refl, h)

      before : is_gone k j ≡ false
      before = (parts (is_gone k j) (takes_object e.kind e k) (sym (gone_push k j e) ∙ gone)).0

      less : k < object_count j
      less = let a = same_objects j e (plain_counts e.kind plain).1 in omega (arith, lt, a)

      -- whoever held it goes on to hold it, but for its own task at its own object
      held_before : ((e.object == k) && (goes_out e.kind e || is_gone_by e.kind)) ≡ false → (u : ℕ) → has (held u j) k ≡ false
      held_before n u = at (u == t) refl
        where
          strip : (x y : Bool) → y ≡ false → (x && not y) ≡ false → x ≡ false
          strip true y e h = absurd (no_both (true && not y) (rw e refl) h)
          strip false y e h = refl

          at : (d : Bool) → (u == t) ≡ d → has (held u j) k ≡ false
          at true q =
              let same = eqb-true u t q in
              let after : (has (held t j) k && not ((e.object == k) && (goes_out e.kind e || is_gone_by e.kind))) ≡ false = sym (ap (λ xs. has xs k) held_mine ∙ has_filter (λ x. (e.object == x) && (goes_out e.kind e || is_gone_by e.kind)) (held t j) k) ∙ free t in
              ap (λ v. has (held v j) k) same ∙ strip (has (held t j) k) ((e.object == k) && (goes_out e.kind e || is_gone_by e.kind)) n after
          at false q = ap (λ xs. has xs k) (sym (held_other u q)) ∙ free u

      gone_now : is_gone_by e.kind ≡ true → (e.object == k) ≡ true → ⊥
      gone_now a c = no_both (is_gone k (j ++ e ∷ [])) (gone_same k j e c ∙ or_last (is_gone k j) (is_gone_by e.kind) a) gone
        where
          or_last : (x y : Bool) → y ≡ true → (x || y) ≡ true
          or_last true y e = refl
          or_last false y e = e

      out : (c : Bool) → (e.object == k) ≡ c → goes_out e.kind e ≡ true → slice_index_or (laid e.object (find e.object hand) loose) k None ≡ None → ⊥
      out true h g f =
          let here : (goes_out e.kind e || is_gone_by e.kind) ≡ true = rw g refl in
          some_laid (find e.object hand) (found_in (holds_it here)) (ap (λ v. slice_index_or (laid e.object (find e.object hand) loose) v None) (eqb-true e.object k h) ∙ f)
      out false h g f =
          let n : ((e.object == k) && (goes_out e.kind e || is_gone_by e.kind)) ≡ false = rw h refl in
          m.present k less before (held_before n) (sym (laid_other e.object k (find e.object hand) loose (flip e.object k h)) ∙ f)

      stays : (c d : Bool) → (e.object == k) ≡ c → is_gone_by e.kind ≡ d → goes_out e.kind e ≡ false → slice_index_or loose k None ≡ None → ⊥
      stays true true h a g f = gone_now a h
      stays true false h a g f =
          let n : ((e.object == k) && (goes_out e.kind e || is_gone_by e.kind)) ≡ false = rw (h, g, a) refl in
          m.present k less before (held_before n) f
      stays false d h a g f =
          let n : ((e.object == k) && (goes_out e.kind e || is_gone_by e.kind)) ≡ false = rw h refl in
          m.present k less before (held_before n) f

      by : (b : Bool) → goes_out e.kind e ≡ b → slice_index_or (if b then laid e.object (find e.object hand) loose else loose) k None ≡ None → ⊥
      by true g f = out (e.object == k) refl g f
      by false g f = stays (e.object == k) (is_gone_by e.kind) refl refl g f

  pub first_step : Mid t (j ++ e ∷ []) (hand_after e hand) tasks (loose_after e hand loose)
  first_step = record {
    hand_is = keys_after e.object (goes_out e.kind e || is_gone_by e.kind) hand ∙ ap (filter (λ x. not ((e.object == x) && (goes_out e.kind e || is_gone_by e.kind)))) m.hand_is ∙ sym held_mine;
    hands = λ u r h. m.hands u r h ∙ sym (held_other u (not_true (u == t) (λ g. clash r (sym m.mine ∙ ap (λ v. slice_index_or tasks v None) (sym (eqb-true u t g)) ∙ h))));
    loose_are = λ k y f. loose_first (goes_out e.kind e) refl k y f;
    present = λ k lt gone free f. present_first (goes_out e.kind e) refl k lt gone free f;
    mine = m.mine;
    tasks_are = m.tasks_are ∙ sym (same_tasks j e (plain_counts e.kind plain).0);
    objects_are = lengths (goes_out e.kind e) ∙ m.objects_are ∙ sym (same_objects j e (plain_counts e.kind plain).1);
  }
    where
      clash : (r : TaskAtRest T M) → None ≡ Some r → ⊥
      clash r e = cc

      lengths : (b : Bool) → length (if b then laid e.object (find e.object hand) loose else loose) ≡ length loose
      lengths true = length_laid e.object (find e.object hand) loose
      lengths false = refl

  -- the members wherever they lie: those of an object that is destroyed are gone
  pub first_members : (k : ℕ) → all_members (hand_after e hand) tasks (loose_after e hand loose) k ≡ (if takes_object e.kind e k then None else all_members hand tasks loose k)
  first_members k = by (is_gone_by e.kind) (goes_out e.kind e) (k == e.object) refl refl refl
    where
      after : Bool → Bool → Option M
      after b g = or_else (find k (if b || g then without e.object hand else hand)) (or_else (slice_index_or (if b then laid e.object (find e.object hand) loose else loose) k None) (member_among k tasks))

      takes : (x : EntryKind) → is_gone_by x ≡ true → takes_object x e k ≡ (k == e.object)
      takes kind.Gone h = refl
      takes x h = cc

      takes_not : (x : EntryKind) → is_gone_by x ≡ false → takes_object x e k ≡ false
      takes_not kind.Gone h = cc
      takes_not x h = refl

      out_same : (x : Option M) → find e.object hand ≡ x → or_else (find k hand) (or_else (slice_index_or loose k None) (member_among k tasks)) ≡ or_else (find k hand) (or_else (slice_index_or loose k None) (member_among k tasks))
      out_same x h = refl

      laid_members : (x : Option M) → or_else (slice_index_or (laid e.object x loose) e.object None) (member_among e.object tasks) ≡ or_else x (or_else (slice_index_or loose e.object None) (member_among e.object tasks))
      laid_members None = refl
      laid_members (Some y) = ap (λ z. or_else z (member_among e.object tasks)) (get_or-set_same loose e.object (Some y) None known)

      here : (goes_out e.kind e || is_gone_by e.kind) ≡ true → k ≡ e.object → find k (without e.object hand) ≡ None
      here h same = ap (λ v. find v (without e.object hand)) same ∙ find_out e.object hand

      by : (g b c : Bool) → is_gone_by e.kind ≡ g → goes_out e.kind e ≡ b → (k == e.object) ≡ c → after (goes_out e.kind e) (is_gone_by e.kind) ≡ (if takes_object e.kind e k then None else all_members hand tasks loose k)
      by true b true h f q =
          let not_out : goes_out e.kind e ≡ false = gone_out e.kind e h in
          let door : (goes_out e.kind e || is_gone_by e.kind) ≡ true = rw (not_out, h) refl in
          let same = eqb-true k e.object q in
          let held_it : has (held t j) k ≡ true = ap (has (held t j)) same ∙ holds_it door in
          let gone : takes_object e.kind e k ≡ true = takes e.kind h ∙ q in
          rw (not_out, h, gone) (ap (λ x. or_else x (or_else (slice_index_or loose k None) (member_among k tasks))) (here door same) ∙ ap (λ x. or_else x (member_among k tasks)) (loose_none j tasks loose m.loose_are t k held_it) ∙ nowhere_else j tasks loose s m.hands t k held_it m.mine)
      by true b false h f q =
          let not_out : goes_out e.kind e ≡ false = gone_out e.kind e h in
          let stays : takes_object e.kind e k ≡ false = takes e.kind h ∙ q in
          rw (not_out, h, stays) (ap (λ x. or_else x (or_else (slice_index_or loose k None) (member_among k tasks))) (find_kept e.object k hand q))
      by false true true h f q =
          let stays : takes_object e.kind e k ≡ false = takes_not e.kind h in
          let door : (goes_out e.kind e || is_gone_by e.kind) ≡ true = rw f refl in
          let same = eqb-true k e.object q in
          rw (f, stays) (ap (λ x. or_else x (or_else (slice_index_or (laid e.object (find e.object hand) loose) k None) (member_among k tasks))) (here door same) ∙ ap (λ v. or_else (slice_index_or (laid e.object (find e.object hand) loose) v None) (member_among v tasks)) same ∙ laid_members (find e.object hand) ∙ ap (λ v. or_else (find v hand) (or_else (slice_index_or loose v None) (member_among v tasks))) (sym same))
      by false true false h f q =
          let stays : takes_object e.kind e k ≡ false = takes_not e.kind h in
          rw (f, stays) (ap (λ x. or_else x (or_else (slice_index_or (laid e.object (find e.object hand) loose) k None) (member_among k tasks))) (find_kept e.object k hand q) ∙ ap (λ x. or_else (find k hand) (or_else x (member_among k tasks))) (laid_other e.object k (find e.object hand) loose q))
      by false false c h f q =
          let stays : takes_object e.kind e k ≡ false = takes_not e.kind h in
          rw (f, h, stays) refl

-- an admission
module _ {T M : Type 0} (t : ℕ) (j : Journal) (s : Sound j) (e : Entry) (l : Legal e j) (admits : e.kind ≡ kind.Admit) (hand hand' : Listed (ℕ × M)) (tasks tasks' : List (Option (TaskAtRest T M))) (loose : List (Option M)) (m : Mid t j hand.items tasks loose) (known : e.task < length tasks) (alive : is_gone e.object j ≡ false) (in_it : LetIn e t hand hand' tasks tasks' loose) where
  empty : (u : ℕ) → has (held u j) e.object ≡ false
  empty u =
      let door : inside e.object j ≡ [] = subst (λ k. DoorFit k e (inside e.object j) (open_at e.object j)) admits l.door in
      (law_held j).inside u e.object ∙ ap (λ xs. has xs u) door

  no_make : is_make e.kind ≡ false
  no_make = ap is_make admits

  known_object : e.object < object_count j
  known_object = let a = l.made in let b = same_objects j e no_make in omega (arith, a, b)

  loose_there : slice_index_or loose e.object None ≡ None → ⊥
  loose_there f = m.present e.object known_object alive empty f

  loose_stays : (k : ℕ) (y : M) → slice_index_or (slice_set loose e.object None) k None ≡ Some y → (k == e.object) ≡ false
  loose_stays k y f = not_true (k == e.object) (λ g. clash (sym (none_set loose e.object) ∙ ap (λ v. slice_index_or (slice_set loose e.object None) v None) (sym (eqb-true k e.object g)) ∙ f))
    where
      clash : None ≡ Some y → ⊥
      clash e = cc

  loose_before : (k : ℕ) → (k == e.object) ≡ false → slice_index_or (slice_set loose e.object None) k None ≡ slice_index_or loose k None
  loose_before k n = get_or-set_other loose e.object k None None (differ k e.object n)

  -- who is let in holds it, and nothing else changes
  held_after : (u k : ℕ) → (k == e.object) ≡ false → has (held u j) k ≡ false → has (held u (j ++ e ∷ [])) k ≡ false
  held_after u k n h = by (u == e.task) refl
    where
      by : (b : Bool) → (u == e.task) ≡ b → has (held u (j ++ e ∷ [])) k ≡ false
      by true g =
          let same = eqb-true u e.task g in
          ap (λ v. has (held v (j ++ e ∷ [])) k) same ∙ ap (λ xs. has xs k) (held_admitted j e admits (empty e.task)) ∙ has_append_other (held e.task j) e.object k (ap (λ v. has (held v j) k) (sym same) ∙ h) (flip k e.object n)
      by false g = ap (λ xs. has xs k) (held_not_admitted j e admits u g) ∙ h

  free_before : (k : ℕ) → ((u : ℕ) → has (held u (j ++ e ∷ [])) k ≡ false) → (k == e.object) ≡ false
  free_before k h = not_true (k == e.object) (λ g. no_both (has (held e.task (j ++ e ∷ [])) k) (ap (λ xs. has xs k) (held_admitted j e admits (empty e.task)) ∙ ap (has (held e.task j ++ e.object ∷ [])) (eqb-true k e.object g) ∙ has_last (held e.task j) e.object) (h e.task))

  held_was : (u k : ℕ) → (k == e.object) ≡ false → has (held u (j ++ e ∷ [])) k ≡ false → has (held u j) k ≡ false
  held_was u k n h = by (u == e.task) refl
    where
      front : (xs : List ℕ) → has (xs ++ e.object ∷ []) k ≡ false → has xs k ≡ false
      front [] f = refl
      front (x ∷ xs) f = or_both (x == k) (has (xs ++ e.object ∷ []) k) (has xs k) f (front xs)
        where
          or_both : (a b c : Bool) → (a || b) ≡ false → (b ≡ false → c ≡ false) → (a || c) ≡ false
          or_both true b c f g = cc
          or_both false b c f g = g f

      by : (b : Bool) → (u == e.task) ≡ b → has (held u j) k ≡ false
      by true g =
          let same = eqb-true u e.task g in
          ap (λ v. has (held v j) k) same ∙ front (held e.task j) (sym (ap (λ xs. has xs k) (held_admitted j e admits (empty e.task))) ∙ ap (λ v. has (held v (j ++ e ∷ [])) k) (sym same) ∙ h)
      by false g = ap (λ xs. has xs k) (sym (held_not_admitted j e admits u g)) ∙ h

  present_after : ArePresent (j ++ e ∷ []) (slice_set loose e.object None)
  present_after k lt gone free f =
      let n = free_before k free in
      let a = same_objects j e no_make in
      m.present k (omega (arith, lt, a)) (sym (gone_still k j e (ap is_gone_by admits)) ∙ gone) (λ u. held_was u k n (free u)) (sym (loose_before k n) ∙ f)

  loose_are_after : (k : ℕ) (y : M) → slice_index_or (slice_set loose e.object None) k None ≡ Some y → (u : ℕ) → has (held u (j ++ e ∷ [])) k ≡ false
  loose_are_after k y f u =
      let n = loose_stays k y f in
      held_after u k n (m.loose_are k y (sym (loose_before k n) ∙ f) u)

  not_mine : (u : ℕ) (r : TaskAtRest T M) → slice_index_or tasks u None ≡ Some r → (u == t) ≡ false
  not_mine u r h = not_true (u == t) (λ g. clash (sym m.mine ∙ ap (λ v. slice_index_or tasks v None) (sym (eqb-true u t g)) ∙ h))
    where
      clash : None ≡ Some r → ⊥
      clash e = cc

  pub admission_step : Mid t (j ++ e ∷ []) hand'.items tasks' (slice_set loose e.object None)
  admission_step = by in_it
    where
      clash : {A : Type 0} {r : A} → None ≡ Some r → ⊥
      clash e = cc

      by : LetIn e t hand hand' tasks tasks' loose → Mid t (j ++ e ∷ []) hand'.items tasks' (slice_set loose e.object None)
      by (none_there none h k) = absurd (loose_there none)
      by (own y found same h k) = record {
        hand_is = ap keys h ∙ keys_append hand.items e.object y ∙ ap (λ xs. xs ++ e.object ∷ []) (m.hand_is ∙ ap (λ v. held v j) (sym (eqb-true e.task t same))) ∙ sym (held_admitted j e admits (empty e.task)) ∙ ap (λ v. held v (j ++ e ∷ [])) (eqb-true e.task t same);
        hands = λ u r f.
            let g = ap (λ rs. slice_index_or rs u None) (sym k) ∙ f in
            m.hands u r g ∙ sym (held_not_admitted j e admits u (ap (λ v. u == v) (eqb-true e.task t same) ∙ not_mine u r g));
        loose_are = loose_are_after;
        present = present_after;
        mine = ap (λ rs. slice_index_or rs t None) k ∙ m.mine;
        tasks_are = ap length k ∙ m.tasks_are ∙ sym (same_tasks j e (ap is_spawn admits));
        objects_are = length-set loose e.object None ∙ m.objects_are ∙ sym (same_objects j e no_make);
      }
      by (another y r r' found other h there gives k) = record {
        hand_is = ap (λ x. keys x.items) h ∙ m.hand_is ∙ sym (held_not_admitted j e admits t (flip e.task t other));
        hands = λ u q f. hand_of u q (u == e.task) refl (ap (λ rs. slice_index_or rs u None) (sym k) ∙ f);
        loose_are = loose_are_after;
        present = present_after;
        mine = ap (λ rs. slice_index_or rs t None) k ∙ get_or-set_other tasks e.task t (Some r') None (differ t e.task (flip e.task t other)) ∙ m.mine;
        tasks_are = ap length k ∙ length-set tasks e.task (Some r') ∙ m.tasks_are ∙ sym (same_tasks j e (ap is_spawn admits));
        objects_are = length-set loose e.object None ∙ m.objects_are ∙ sym (same_objects j e no_make);
      }
        where
          hand_of : (u : ℕ) (q : TaskAtRest T M) (b : Bool) → (u == e.task) ≡ b → slice_index_or (slice_set tasks e.task (Some r')) u None ≡ Some q → keys q.members.items ≡ held u (j ++ e ∷ [])
          hand_of u q true g f =
              let same = eqb-true u e.task g in
              let is : r' ≡ q = some-same (sym (get_or-set_same tasks e.task (Some r') None known) ∙ ap (λ v. get_or (set tasks e.task (Some r')) v None) (sym same) ∙ f) in
              ap (λ x. keys x.members.items) (sym is) ∙ ap keys gives.items ∙ keys_append r.members.items e.object y ∙ ap (λ xs. xs ++ e.object ∷ []) (m.hands e.task r there) ∙ sym (held_admitted j e admits (empty e.task)) ∙ ap (λ v. held v (j ++ e ∷ [])) (sym same)
          hand_of u q false g f =
              m.hands u q (sym (get_or-set_other tasks e.task u (Some r') None (differ u e.task g)) ∙ f) ∙ sym (held_not_admitted j e admits u g)

  -- the members stay, wherever they lie
  pub admission_members : (k : ℕ) → all_members hand'.items tasks' (slice_set loose e.object None) k ≡ all_members hand.items tasks loose k
  admission_members k = by in_it (k == e.object) refl
    where
      not_in_hand : find e.object hand.items ≡ None
      not_in_hand = none_found e.object hand.items (ap (λ ks. has ks e.object) m.hand_is ∙ empty t)

      loose_found : (y : M) → slice_index_or loose e.object None ≡ Some y → all_members hand.items tasks loose e.object ≡ Some y
      loose_found y found =
          ap (λ x. or_else x (or_else (slice_index_or loose e.object None) (member_among e.object tasks))) not_in_hand ∙ ap (λ x. or_else x (member_among e.object tasks)) found

      by : LetIn e t hand hand' tasks tasks' loose → (b : Bool) → (k == e.object) ≡ b → all_members hand'.items tasks' (slice_set loose e.object None) k ≡ all_members hand.items tasks loose k
      by (none_there none h q) b g = absurd (loose_there none)
      by (own y found same h q) true g =
          let at = eqb-true k e.object g in
          ap (λ v. all_members hand'.items tasks' (slice_set loose e.object None) v) at ∙ ap (λ x. or_else x (or_else (slice_index_or (slice_set loose e.object None) e.object None) (member_among e.object tasks'))) (ap (find e.object) h ∙ find_last e.object y hand.items not_in_hand) ∙ sym (loose_found y found) ∙ ap (all_members hand.items tasks loose) (sym at)
      by (own y found same h q) false g =
          ap (λ x. or_else x (or_else (slice_index_or (slice_set loose e.object None) k None) (member_among k tasks'))) (ap (find k) h ∙ find_append e.object k y hand.items (flip k e.object g)) ∙ ap (λ x. or_else (find k hand.items) (or_else x (member_among k tasks'))) (loose_before k g) ∙ ap (λ rs. or_else (find k hand.items) (or_else (slice_index_or loose k None) (member_among k rs))) q
      by (another y r r' found other h there gives q) true g =
          let at = eqb-true k e.object g in
          let none_in : find e.object r.members.items ≡ None = none_found e.object r.members.items (ap (λ ks. has ks e.object) (m.hands e.task r there) ∙ empty e.task) in
          let here : member_in e.object (get_or (set tasks e.task (Some r')) e.task None) ≡ Some y = ap (member_in e.object) (get_or-set_same tasks e.task (Some r') None known) ∙ ap (find e.object) gives.items ∙ find_last e.object y r.members.items none_in in
          let long : e.task < length (set tasks e.task (Some r')) = subst (λ n. e.task < n) (sym (length-set tasks e.task (Some r'))) known in
          let only : member_among e.object (set tasks e.task (Some r')) ≡ Some y = among_only e.object e.task y (set tasks e.task (Some r')) long here (λ u n. ap (member_in e.object) (get_or-set_other tasks e.task u (Some r') None n) ∙ no_member j tasks loose m.hands u e.object (empty u)) in
          ap (λ v. all_members hand'.items tasks' (slice_set loose e.object None) v) at ∙ ap (λ x. or_else x (or_else (slice_index_or (slice_set loose e.object None) e.object None) (member_among e.object tasks'))) (ap (λ x. find e.object x.items) h ∙ not_in_hand) ∙ ap (λ x. or_else x (member_among e.object tasks')) (none_set loose e.object) ∙ ap (member_among e.object) q ∙ only ∙ sym (loose_found y found) ∙ ap (all_members hand.items tasks loose) (sym at)
      by (another y r r' found other h there gives q) false g =
          let same : member_in k (Some r') ≡ member_in k (get_or tasks e.task None) = ap (find k) gives.items ∙ find_append e.object k y r.members.items (flip k e.object g) ∙ ap (member_in k) (sym there) in
          ap (λ x. or_else (find k x.items) (or_else (slice_index_or (slice_set loose e.object None) k None) (member_among k tasks'))) h ∙ ap (λ x. or_else (find k hand.items) (or_else x (member_among k tasks'))) (loose_before k g) ∙ ap (λ x. or_else (find k hand.items) (or_else (slice_index_or loose k None) x)) (ap (member_among k) q ∙ among_same k e.task (Some r') tasks same)

-- an entry that lets nobody in or out
pub trail_step : {T M : Type 0} (t : ℕ) (j : Journal) (e : Entry) → trails e.kind ≡ true → (hand : List (ℕ × M)) (tasks : List (Option (TaskAtRest T M))) (loose : List (Option M)) → Mid t j hand tasks loose → Mid t (j ++ e ∷ []) hand tasks loose
trail_step t j e h hand tasks loose m =
    let c = trail_counts e.kind h in
    record {
      hand_is = m.hand_is ∙ sym (held_trail t j e h);
      hands = λ u r f. m.hands u r f ∙ sym (held_trail u j e h);
      loose_are = λ k y f u. ap (λ xs. has xs k) (held_trail u j e h) ∙ m.loose_are k y f u;
      present = λ k lt gone free f. m.present k (let a = same_objects j e c.1 in omega (arith, lt, a)) (sym (gone_still k j e c.2) ∙ gone) (λ u. ap (λ xs. has xs k) (sym (held_trail u j e h)) ∙ free u) f;
      mine = m.mine;
      tasks_are = m.tasks_are ∙ sym (same_tasks j e c.0);
      objects_are = m.objects_are ∙ sym (same_objects j e c.1);
    }
