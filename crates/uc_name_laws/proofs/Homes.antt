-- What stands at a home in hand behind a change there, and what there is of an execution.
use Rattle.std.proofs.Common.{◌≡◌, ℕ, Bool, true, false, List, [], ◌∷◌, Option, Some, None, refl, sym, ap, ◌∙◌}
use Rattle.std.specs.Prelude.{nat_eq, if◌then◌else◌}
use Rattle.std.proofs.lemmas.Bool.{eqb-true, eq-eqb}
use Rattle.uc_entry.specs.Keyed.{find}
use Rattle.uc_machine.specs.declared.exec.Exec.{Exec}
use Rattle.uc_machine.specs.declared.exec.Home.{Home}
use Rattle.uc_machine.specs.declared.exec.Home.TheVariants as home
use Rattle.uc_machine.specs.Executions.{update, home_eq, exec_eq, members_at, set_members, slot_in, change, change_in}
use Rattle.uc_machine.specs.Pieces.{Env, Members}
use Rattle.uc_name_laws.specs.Below.{slot_at}

-- the first of two by a test
pub either : {A : Type 0} (P : A → Type 0) (b : Bool) (x y : A) → P x → P y → P (if b then x else y)
either P true x y h k = h
either P false x y h k = k

pub no_both : {A : Type 0} (b : Bool) → b ≡ true → b ≡ false → A
no_both true h k = absurd (cc)
no_both false h k = absurd (cc)

pub none_some : {A : Type 0} {B : Type 0} (x : A) (o : Option A) → o ≡ None → o ≡ Some x → B
none_some x o h k = let e : None ≡ Some x = sym h ∙ k in absurd (cc)

pub the_same : {A : Type 0} (x y : A) → Some x ≡ Some y → x ≡ y
the_same x y h = cc

-- names

pub same_home : (h k : Home) → home_eq h k ≡ true → h ≡ k
same_home (home.Task a) (home.Task b) e = ap home.Task (eqb-true a b e)
same_home (home.Task a) (home.Object b) e = cc
same_home (home.Object a) (home.Task b) e = cc
same_home (home.Object a) (home.Object b) e = ap home.Object (eqb-true a b e)

pub home_self : (h : Home) → home_eq h h ≡ true
home_self (home.Task a) = eq-eqb a a refl
home_self (home.Object a) = eq-eqb a a refl

pub same_exec : (n m : Exec) → exec_eq n m ≡ true → n ≡ m
same_exec n m e = by (home_eq n.home m.home) refl e
  where
    by : (b : Bool) → home_eq n.home m.home ≡ b → (if b then nat_eq n.serial m.serial else false) ≡ true → n ≡ m
    by true g e = ap (λ h. record { home = h; serial = n.serial }) (same_home n.home m.home g) ∙ ap (λ k. record { home = m.home; serial = k }) (eqb-true n.serial m.serial e)
    by false g e = cc

pub exec_self : (n : Exec) → exec_eq n n ≡ true
exec_self n = ap (λ b. if b then nat_eq n.serial n.serial else false) (home_self n.home) ∙ eq-eqb n.serial n.serial refl

apart_false : (a b c : ℕ) → nat_eq a b ≡ true → nat_eq c b ≡ false → nat_eq a c ≡ false
apart_false a b c e f = by (nat_eq a c) refl
  where
    by : (d : Bool) → nat_eq a c ≡ d → nat_eq a c ≡ false
    by true g = no_both (nat_eq c b) (ap (λ x. nat_eq x b) (sym (eqb-true a c g)) ∙ e) f
    by false g = g

turned : (a b : ℕ) → nat_eq a b ≡ false → nat_eq b a ≡ false
turned a b f = by (nat_eq b a) refl
  where
    by : (d : Bool) → nat_eq b a ≡ d → nat_eq b a ≡ false
    by true g = no_both (nat_eq a b) (eq-eqb a b (sym (eqb-true b a g))) f
    by false g = g

-- under numbers

module _ {X : Type 0} where
  pub found_update : (k : ℕ) (x y : X) (ps : List (ℕ × X)) → find k ps ≡ Some y → find k (update k x ps) ≡ Some x
  found_update k x y [] e = cc
  found_update k x y (p ∷ ps) e = by (nat_eq p.0 k) refl (found_update k x y ps) e
    where
      by : (b : Bool) → nat_eq p.0 k ≡ b → (find k ps ≡ Some y → find k (update k x ps) ≡ Some x) → (if b then Some p.1 else find k ps) ≡ Some y → find k (if b then (k, x) ∷ ps else p ∷ update k x ps) ≡ Some x
      by true g ih e = ap (λ c. if c then Some x else find k ps) (eq-eqb k k refl)
      by false g ih e = ap (λ c. if c then Some p.1 else find k (update k x ps)) g ∙ ih e

  pub none_update : (k q : ℕ) (x : X) (ps : List (ℕ × X)) → find q ps ≡ None → find q (update k x ps) ≡ None
  none_update k q x [] e = e
  none_update k q x (p ∷ ps) e = by (nat_eq p.0 k) refl (nat_eq p.0 q) refl (none_update k q x ps) e
    where
      by : (b : Bool) → nat_eq p.0 k ≡ b → (c : Bool) → nat_eq p.0 q ≡ c → (find q ps ≡ None → find q (update k x ps) ≡ None) → (if c then Some p.1 else find q ps) ≡ None → find q (if b then (k, x) ∷ ps else p ∷ update k x ps) ≡ None
      by b g true i ih e = cc
      by true g false i ih e = ap (λ c. if c then Some x else find q ps) (ap (λ n. nat_eq n q) (sym (eqb-true p.0 k g)) ∙ i) ∙ e
      by false g false i ih e = ap (λ c. if c then Some p.1 else find q (update k x ps)) i ∙ ih e

  pub other_update : (k q : ℕ) (x : X) (ps : List (ℕ × X)) → nat_eq q k ≡ false → find q (update k x ps) ≡ find q ps
  other_update k q x [] f = refl
  other_update k q x (p ∷ ps) f = by (nat_eq p.0 k) refl (other_update k q x ps f)
    where
      by : (b : Bool) → nat_eq p.0 k ≡ b → find q (update k x ps) ≡ find q ps → find q (if b then (k, x) ∷ ps else p ∷ update k x ps) ≡ find q (p ∷ ps)
      by true g ih =
          ap (λ c. if c then Some x else find q ps) (turned q k f) ∙ sym (ap (λ c. if c then Some p.1 else find q ps) (apart_false p.0 k q g f))
      by false g ih = ap (λ o. if nat_eq p.0 q then Some p.1 else o) ih

-- members

abbrev pub mapped : (Members → Members) → Option Members → Option Members
mapped f None = None
mapped f (Some m) = Some (f m)

set_same : (h : Home) (x m : Members) (e : Env) → members_at h e ≡ Some m → members_at h (set_members h x e) ≡ Some x
set_same (home.Task t) x m e f = by (nat_eq t e.own) refl f
  where
    by : (b : Bool) → nat_eq t e.own ≡ b → (if b then Some e.house else None) ≡ Some m → members_at (home.Task t) (if b then record e { house = x } else e) ≡ Some x
    by true g f = ap (λ c. if c then Some x else None) g
    by false g f = cc
set_same (home.Object o) x m e f = found_update o x m e.hand f

set_other : (h k : Home) (x : Members) (e : Env) → home_eq k h ≡ false → members_at k (set_members h x e) ≡ members_at k e
set_other (home.Task t) (home.Task u) x e f = by (nat_eq t e.own) refl
  where
    by : (b : Bool) → nat_eq t e.own ≡ b → members_at (home.Task u) (if b then record e { house = x } else e) ≡ members_at (home.Task u) e
    by true g =
        let i : nat_eq u e.own ≡ false = ap (nat_eq u) (sym (eqb-true t e.own g)) ∙ f in
        ap (λ c. if c then Some x else None) i ∙ sym (ap (λ c. if c then Some e.house else None) i)
    by false g = refl
set_other (home.Task t) (home.Object o) x e f =
    either (λ d. find o d.hand ≡ find o e.hand) (nat_eq t e.own) (record e { house = x }) e refl refl
set_other (home.Object o) (home.Task u) x e f = refl
set_other (home.Object o) (home.Object q) x e f = other_update o q x e.hand f

pub change_same : (h : Home) (f : Members → Members) (e : Env) → members_at h (change h f e) ≡ mapped f (members_at h e)
change_same h f e = by (members_at h e) refl
  where
    by : (o : Option Members) → members_at h e ≡ o → members_at h (change_in h f o e) ≡ mapped f o
    by None g = g
    by (Some m) g = set_same h (f m) m e g

pub change_other : (h k : Home) (f : Members → Members) (e : Env) → home_eq k h ≡ false → members_at k (change h f e) ≡ members_at k e
change_other h k f e i = by (members_at h e)
  where
    by : (o : Option Members) → members_at k (change_in h f o e) ≡ members_at k e
    by None = refl
    by (Some m) = set_other h k (f m) e i

-- all else stays
pub record Beside (e d : Env) : Type 0 where
  pub frames_same : d.frames ≡ e.frames
  pub links_same : d.links ≡ e.links
  pub exec_same : d.exec ≡ e.exec

pub change_beside : (h : Home) (f : Members → Members) (e : Env) → Beside e (change h f e)
change_beside h f e = by (members_at h e)
  where
    set_beside : (h : Home) (x : Members) → Beside e (set_members h x e)
    set_beside (home.Task t) x = either (Beside e) (nat_eq t e.own) (record e { house = x }) e (record { frames_same = refl; links_same = refl; exec_same = refl }) (record { frames_same = refl; links_same = refl; exec_same = refl })
    set_beside (home.Object o) x = record { frames_same = refl; links_same = refl; exec_same = refl }

    by : (o : Option Members) → Beside e (change_in h f o e)
    by None = record { frames_same = refl; links_same = refl; exec_same = refl }
    by (Some m) = set_beside h (f m)

-- members where own object, house and hand are the same
pub like_members : (h : Home) (e d : Env) → d.own ≡ e.own → d.house ≡ e.house → d.hand ≡ e.hand → members_at h d ≡ members_at h e
like_members (home.Task t) e d a b c =
    ap (λ o. if nat_eq t o then Some d.house else None) a ∙ ap (λ m. if nat_eq t e.own then Some m else None) b
like_members (home.Object o) e d a b c = ap (find o) c

-- what there is of an execution

pub slot_same : (n : Exec) (f : Members → Members) (e : Env) → slot_at n (change n.home f e) ≡ slot_in n.serial (mapped f (members_at n.home e))
slot_same n f e = ap (slot_in n.serial) (change_same n.home f e)

pub slot_other : (n : Exec) (h : Home) (f : Members → Members) (e : Env) → home_eq n.home h ≡ false → slot_at n (change h f e) ≡ slot_at n e
slot_other n h f e i = ap (slot_in n.serial) (change_other h n.home f e i)
