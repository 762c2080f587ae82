-- Only the running execution is without what it has to do, where members, executions and links change.
use Rattle.std.proofs.Common.{◌≡◌, ℕ, ◌++◌, Bool, true, false, List, [], ◌∷◌, Option, Some, None, refl, sym, ap, ◌∙◌}
use Rattle.std.specs.Prelude.{nat_eq, if◌then◌else◌}
use Rattle.std.proofs.lemmas.Bool.{eqb-true}
use Rattle.uc_entry.specs.Keyed.{find}
use Rattle.uc_machine.specs.declared.exec.Exec.{Exec}
use Rattle.uc_machine.specs.declared.exec.Home.{Home}
use Rattle.uc_machine.specs.declared.exec.Home.TheVariants as home
use Rattle.uc_machine.specs.declared.exec.Owner.{Owner}
use Rattle.uc_machine.specs.declared.exec.Owner.TheVariants.{Frame, Fields}
use Rattle.uc_machine.specs.Executions.{Links, update, home_eq, exec_eq, joined, members_at, change, slot_in, frames_by, frames_changed, frame_changed, with_owned, with_frames}
use Rattle.uc_machine.specs.Switches as sw
use Rattle.uc_machine.specs.Pieces.{Value, Number, Place, Running, Object, Nothing, Env, Members, written}
use Rattle.uc_name_laws.specs.Below.{Ex, AreApart, slot_at, RunsAlone}
use Rattle.uc_name_laws.proofs.Homes.{either, no_both, none_some, same_home, found_update, none_update, other_update, mapped, change_same, like_members, slot_other}

-- what changes no slot to nothing, and none from it
pub record Still (m x : Members) : Type 0 where
  pub back : (k : ℕ) → find k x.parked ≡ Some None → find k m.parked ≡ Some None
  pub forth : (k : ℕ) → find k m.parked ≡ Some None → find k x.parked ≡ Some None

pub still : (m : Members) → Still m m
still m = record { back = λ k h. h; forth = λ k h. h }

slots_back : (h : Home) (f : Members → Members) (e : Env) → ((m : Members) → members_at h e ≡ Some m → (k : ℕ) → find k (f m).parked ≡ Some None → find k m.parked ≡ Some None) → (n : Exec) → slot_at n (change h f e) ≡ Some None → slot_at n e ≡ Some None
slots_back h f e b n i = by (home_eq n.home h) refl
  where
    at_home : (o : Option Members) → members_at h e ≡ o → slot_in n.serial (mapped f o) ≡ Some None → slot_in n.serial o ≡ Some None
    at_home None g i = i
    at_home (Some m) g i = b m g n.serial i

    by : (c : Bool) → home_eq n.home h ≡ c → slot_at n e ≡ Some None
    by true g =
        let same = same_home n.home h g in
        ap (λ q. slot_in n.serial (members_at q e)) same ∙ at_home (members_at h e) refl (sym (ap (slot_in n.serial) (change_same h f e)) ∙ (sym (ap (λ q. slot_in n.serial (members_at q (change h f e))) same) ∙ i))
    by false g = sym (slot_other n h f e g) ∙ i

slots_forth : (h : Home) (f : Members → Members) (e : Env) (n : Exec) → ((m : Members) → members_at h e ≡ Some m → n.home ≡ h → find n.serial m.parked ≡ Some None → find n.serial (f m).parked ≡ Some None) → slot_at n e ≡ Some None → slot_at n (change h f e) ≡ Some None
slots_forth h f e n b i = by (home_eq n.home h) refl
  where
    at_home : n.home ≡ h → (o : Option Members) → members_at h e ≡ o → slot_in n.serial o ≡ Some None → slot_in n.serial (mapped f o) ≡ Some None
    at_home same None g i = i
    at_home same (Some m) g i = b m g same i

    by : (c : Bool) → home_eq n.home h ≡ c → slot_at n (change h f e) ≡ Some None
    by true g =
        let same = same_home n.home h g in
        ap (λ q. slot_in n.serial (members_at q (change h f e))) same ∙ (ap (slot_in n.serial) (change_same h f e) ∙ at_home same (members_at h e) refl (sym (ap (λ q. slot_in n.serial (members_at q e)) same) ∙ i))
    by false g = slot_other n h f e g ∙ i

module _ (sure : Bool) where
  pub like_alone : (n : Exec) (e d : Env) → d.own ≡ e.own → d.house ≡ e.house → d.hand ≡ e.hand → RunsAlone sure n e → RunsAlone sure n d
  like_alone n e d a b c s = record {
    alone = λ u m i. s.alone u m (sym (ap (slot_in m.serial) (like_members m.home e d a b c)) ∙ i);
    there = λ u. ap (slot_in n.serial) (like_members n.home e d a b c) ∙ s.there u;
  }

  pub change_alone : (n : Exec) (h : Home) (f : Members → Members) (e : Env) → ((m : Members) → Still m (f m)) → RunsAlone sure n e → RunsAlone sure n (change h f e)
  change_alone n h f e k s = record {
    alone = λ u m i. s.alone u m (slots_back h f e (λ m g. (k m).back) m i);
    there = λ u. slots_forth h f e n (λ m g same. (k m).forth n.serial) (s.there u);
  }

pub joined_some : (o : Option (Option Ex)) (x : Ex) → joined o ≡ Some x → o ≡ Some (Some x)
joined_some None x h = cc
joined_some (Some None) x h = cc
joined_some (Some (Some y)) x h = ap Some h

-- another execution in the place of one that is there and does not run
pub set_still : (k : ℕ) (x y : Ex) (m : Members) → joined (find k m.parked) ≡ Some y → Still m (sw.slot_set k (Some x) m)
set_still k x y m h = record { back = λ q i. back q i (nat_eq q k) refl; forth = λ q i. forth q i (nat_eq q k) refl }
  where
    old : find k m.parked ≡ Some (Some y)
    old = joined_some (find k m.parked) y h

    back : (q : ℕ) → find q (update k (Some x) m.parked) ≡ Some None → (b : Bool) → nat_eq q k ≡ b → find q m.parked ≡ Some None
    back q i true g =
        let new : find k (update k (Some x) m.parked) ≡ Some (Some x) = found_update k (Some x) (Some y) m.parked old in
        let none : find k (update k (Some x) m.parked) ≡ Some None = ap (λ n. find n (update k (Some x) m.parked)) (sym (eqb-true q k g)) ∙ i in
        let no : Some (Some x) ≡ Some None = sym new ∙ none in
        absurd (cc)
    back q i false g = sym (other_update k q (Some x) m.parked g) ∙ i

    forth : (q : ℕ) → find q m.parked ≡ Some None → (b : Bool) → nat_eq q k ≡ b → find q (update k (Some x) m.parked) ≡ Some None
    forth q i true g =
        let no : Some (Some y) ≡ Some None = sym old ∙ (ap (λ n. find n m.parked) (sym (eqb-true q k g)) ∙ i) in
        absurd (cc)
    forth q i false g = other_update k q (Some x) m.parked g ∙ i

frames_still : (k : ℕ) (g : List (List Value) → List (List Value)) (o : Option Ex) (m : Members) → joined (find k m.parked) ≡ o → Still m (frames_by k g o m)
frames_still k g None m h = still m
frames_still k g (Some x) m h = set_still k (record x { frames = g x.frames }) x m h

links_still : (k : ℕ) (g : Links → Links) (o : Option Ex) (m : Members) → joined (find k m.parked) ≡ o → Still m (sw.links_by g k o m)
links_still k g None m h = still m
links_still k g (Some x) m h = set_still k (record x { links = g x.links }) x m h

more_still : (x : Ex) (m : Members) → Still m (sw.one_more x m)
more_still x m = record { back = λ k. back k m.parked; forth = λ k. forth k m.parked }
  where
    back : (k : ℕ) (ps : List (ℕ × Option Ex)) → find k (ps ++ (m.serial, Some x) ∷ []) ≡ Some None → find k ps ≡ Some None
    back k [] h = absurd (by (nat_eq m.serial k) h)
      where
        by : (b : Bool) → (if b then Some (Some x) else None) ≡ Some None → ⊥
        by true h = cc
        by false h = cc
    back k (p ∷ ps) h = by (nat_eq p.0 k) (back k ps) h
      where
        by : (b : Bool) → (find k (ps ++ (m.serial, Some x) ∷ []) ≡ Some None → find k ps ≡ Some None) → (if b then Some p.1 else find k (ps ++ (m.serial, Some x) ∷ [])) ≡ Some None → (if b then Some p.1 else find k ps) ≡ Some None
        by true ih h = h
        by false ih h = ih h

    forth : (k : ℕ) (ps : List (ℕ × Option Ex)) → find k ps ≡ Some None → find k (ps ++ (m.serial, Some x) ∷ []) ≡ Some None
    forth k [] h = cc
    forth k (p ∷ ps) h = by (nat_eq p.0 k) (forth k ps) h
      where
        by : (b : Bool) → (find k ps ≡ Some None → find k (ps ++ (m.serial, Some x) ∷ []) ≡ Some None) → (if b then Some p.1 else find k ps) ≡ Some None → (if b then Some p.1 else find k (ps ++ (m.serial, Some x) ∷ [])) ≡ Some None
        by true ih h = h
        by false ih h = ih h

without_back : (k q : ℕ) (ps : List (ℕ × Option Ex)) → AreApart ps → find q (sw.without k ps) ≡ Some None → find q ps ≡ Some None
without_back k q [] a h = h
without_back k q (p ∷ ps) a h = by (nat_eq p.0 k) refl (nat_eq p.0 q) refl (without_back k q ps a.1) h
  where
    by : (b : Bool) → nat_eq p.0 k ≡ b → (c : Bool) → nat_eq p.0 q ≡ c → (find q (sw.without k ps) ≡ Some None → find q ps ≡ Some None) → find q (if b then ps else p ∷ sw.without k ps) ≡ Some None → (if c then Some p.1 else find q ps) ≡ Some None
    by true g true i ih h = none_some None (find q ps) (ap (λ n. find n ps) (sym (eqb-true p.0 q i)) ∙ a.0) h
    by true g false i ih h = h
    by false g true i ih h = sym (ap (λ c. if c then Some p.1 else find q (sw.without k ps)) i) ∙ h
    by false g false i ih h = ih (sym (ap (λ c. if c then Some p.1 else find q (sw.without k ps)) i) ∙ h)

other_without : (k q : ℕ) (ps : List (ℕ × Option Ex)) → nat_eq q k ≡ false → find q (sw.without k ps) ≡ find q ps
other_without k q [] f = refl
other_without k q (p ∷ ps) f = by (nat_eq p.0 k) refl (other_without k q ps f)
  where
    by : (b : Bool) → nat_eq p.0 k ≡ b → find q (sw.without k ps) ≡ find q ps → find q (if b then ps else p ∷ sw.without k ps) ≡ find q (p ∷ ps)
    by true g ih = sym (ap (λ c. if c then Some p.1 else find q ps) (not_this (nat_eq p.0 q) refl))
      where
        not_this : (c : Bool) → nat_eq p.0 q ≡ c → nat_eq p.0 q ≡ false
        not_this true i = no_both (nat_eq q k) (ap (λ n. nat_eq n k) (sym (eqb-true p.0 q i)) ∙ g) f
        not_this false i = i
    by false g ih = ap (λ o. if nat_eq p.0 q then Some p.1 else o) ih

module _ (sure : Bool) where
  frames_alone : (x n : Exec) (g : List (List Value) → List (List Value)) (e : Env) → RunsAlone sure x e → RunsAlone sure x (with_frames n g e)
  frames_alone x n g e s =
      either (RunsAlone sure x) (exec_eq n e.exec) (record e { frames = g e.frames }) (change n.home (frames_changed n.serial g) e) (like_alone sure x e (record e { frames = g e.frames }) refl refl refl s) (change_alone sure x n.home (frames_changed n.serial g) e (λ m. frames_still n.serial g (joined (find n.serial m.parked)) m refl) s)

  pub owned_alone : (x : Exec) (o : Owner) (g : List Value → List Value) (e : Env) → RunsAlone sure x e → RunsAlone sure x (with_owned o g e)
  owned_alone x (Frame n d) g e s = frames_alone x n (frame_changed d g) e s
  owned_alone x (Fields o) g e s = change_alone sure x (home.Object o) _ e (λ m. record { back = λ k h. h; forth = λ k h. h }) s

  pub written_alone : (x : Exec) (p v : Value) (e : Env) → RunsAlone sure x e → RunsAlone sure x (written p v e)
  written_alone x (Number n) v e s = s
  written_alone x (Place o p) v e s = owned_alone x o _ e s
  written_alone x (Running n) v e s = s
  written_alone x (Object o) v e s = owned_alone x (Fields o) _ e s
  written_alone x Nothing v e s = s

  pub born_alone : (x : Exec) (h : Home) (y : Ex) (e : Env) → RunsAlone sure x e → RunsAlone sure x (sw.born h y e)
  born_alone x h y e s = change_alone sure x h (sw.one_more y) e (λ m. more_still y m) s

  pub with_links_alone : (x : Exec) (g : Links → Links) (n : Exec) (e : Env) → RunsAlone sure x e → RunsAlone sure x (sw.with_links g n e)
  with_links_alone x g n e s =
      either (RunsAlone sure x) (exec_eq n e.exec) (record e { links = g e.links }) (change n.home (sw.links_changed g n.serial) e) (like_alone sure x e (record e { links = g e.links }) refl refl refl s) (change_alone sure x n.home (sw.links_changed g n.serial) e (λ m. links_still n.serial g (joined (find n.serial m.parked)) m refl) s)

  pub enlivened_alone : (x : Exec) (o : Option Exec) (e : Env) → RunsAlone sure x e → RunsAlone sure x (sw.enlivened o e)
  enlivened_alone x None e s = s
  enlivened_alone x (Some n) e s = with_links_alone x (λ l. record l { live = true }) n e s

  -- another one is forgotten
  pub forgotten_alone : (x : Exec) (o : Option Exec) (e : Env) → ((h : Home) (m : Members) → members_at h e ≡ Some m → AreApart m.parked) → (sure ≡ true → o ≡ Some x → ⊥) → RunsAlone sure x e → RunsAlone sure x (sw.forgotten o e)
  forgotten_alone x None e a not s = s
  forgotten_alone x (Some n) e a not s = record {
    alone = λ u m i. s.alone u m (slots_back n.home (sw.slot_gone n.serial) e (λ y g k. without_back n.serial k y.parked (a n.home y g)) m i);
    there = λ u. slots_forth n.home (sw.slot_gone n.serial) e x (λ m g same i. other_without n.serial x.serial m.parked (other u same (nat_eq x.serial n.serial) refl) ∙ i) (s.there u);
  }
    where
      other : sure ≡ true → x.home ≡ n.home → (b : Bool) → nat_eq x.serial n.serial ≡ b → nat_eq x.serial n.serial ≡ false
      other u same true g =
          absurd (not u (ap Some (sym (ap (λ h. record { home = h; serial = x.serial }) same ∙ ap (λ k. record { home = n.home; serial = k }) (eqb-true x.serial n.serial g)))))
      other u same false g = g

-- slots

pub set_other : (n m : Exec) (o : Option Ex) (e : Env) → exec_eq m n ≡ false → slot_at m (sw.set_slot n o e) ≡ slot_at m e
set_other n m o e f = by (home_eq m.home n.home) refl f
  where
    at_home : nat_eq m.serial n.serial ≡ false → (y : Option Members) → slot_in m.serial (mapped (sw.slot_set n.serial o) y) ≡ slot_in m.serial y
    at_home g None = refl
    at_home g (Some y) = other_update n.serial m.serial o y.parked g

    by : (b : Bool) → home_eq m.home n.home ≡ b → (if b then nat_eq m.serial n.serial else false) ≡ false → slot_at m (sw.set_slot n o e) ≡ slot_at m e
    by true g f =
        let same = same_home m.home n.home g in
        ap (λ q. slot_in m.serial (members_at q (sw.set_slot n o e))) same ∙ (ap (slot_in m.serial) (change_same n.home (sw.slot_set n.serial o) e) ∙ (at_home f (members_at n.home e) ∙ sym (ap (λ q. slot_in m.serial (members_at q e)) same)))
    by false g f = slot_other m n.home (sw.slot_set n.serial o) e g

pub set_here : (n : Exec) (o y : Option Ex) (e : Env) → slot_at n e ≡ Some y → slot_at n (sw.set_slot n o e) ≡ Some o
set_here n o y e i = ap (slot_in n.serial) (change_same n.home (sw.slot_set n.serial o) e) ∙ at_home (members_at n.home e) i
  where
    at_home : (m : Option Members) → slot_in n.serial m ≡ Some y → slot_in n.serial (mapped (sw.slot_set n.serial o) m) ≡ Some o
    at_home None i = cc
    at_home (Some m) i = found_update n.serial o y m.parked i

pub set_some : (n : Exec) (x : Ex) (e : Env) → slot_at n (sw.set_slot n (Some x) e) ≡ Some None → ⊥
set_some n x e i = at_home (members_at n.home e) (sym (ap (slot_in n.serial) (change_same n.home (sw.slot_set n.serial (Some x)) e)) ∙ i)
  where
    in_list : (ps : List (ℕ × Option Ex)) (o : Option (Option Ex)) → find n.serial ps ≡ o → find n.serial (update n.serial (Some x) ps) ≡ Some None → ⊥
    in_list ps None g i = none_some None (find n.serial (update n.serial (Some x) ps)) (none_update n.serial n.serial (Some x) ps g) i
    in_list ps (Some y) g i =
        let no : Some (Some x) ≡ Some None = sym (found_update n.serial (Some x) y ps g) ∙ i in
        cc

    at_home : (m : Option Members) → slot_in n.serial (mapped (sw.slot_set n.serial (Some x)) m) ≡ Some None → ⊥
    at_home None i = cc
    at_home (Some m) i = in_list m.parked (find n.serial m.parked) refl i
