-- Which objects are new for a task: those that it made and that no task owns yet, but its own.
use Rattle.std.proofs.Common.{◌≡◌, ℕ, ◌==◌, ◌<◌, ◌≤◌, ◌+◌, ◌||◌, ◌&&◌, ◌⊎◌, inl, inr, Bool, true, false, not, List, [], ◌∷◌, ◌++◌, Option, Some, None, length, refl, sym, ap, ◌∙◌, subst, arith, append-nil, append_assoc}
use Rattle.std.specs.Option.{option_to_list}
use Rattle.std.specs.List.{filter, list_any}
use Rattle.std.proofs.lemmas.Bool.{eqb-true, ne_eqb}
use Rattle.std.proofs.lemmas.List.Folds.{list_any-append}
use Rattle.uc_entry.specs.declared.entry.Entry.{Entry}
use Rattle.uc_entry.specs.declared.entry.EntryKind.{EntryKind}
use Rattle.uc_entry.specs.declared.entry.EntryKind.TheVariants as kind
use Rattle.uc_entry.specs.declared.entry.Options.{Options}
use Rattle.uc_acts.specs.Open.{still_open}
use Rattle.uc_acts.specs.Acts.{dispatch}
use Rattle.uc_acts.specs.Journal.{Journal, begin, entries_at, own_object}
use Rattle.uc_acts.specs.Known.{object_count, task_count, is_make, is_spawn, owned, owner}
use Rattle.uc_acts.specs.Legal.{IsNext, Legal}
use Rattle.uc_acts.proofs.OpenLemmas.{or_false, any_push, still_open_push, still_open_silent}
use Rattle.uc_acts.proofs.Rows.{Lawful}
use Rattle.uc_acts.proofs.Seats.{at_push, at_other}
use Rattle.uc_acts.proofs.SoundLemmas.{plus, self_test, objects_push, tasks_push}
use Rattle.uc_machine.specs.declared.exec.Home.{Home}
use Rattle.uc_machine.specs.declared.exec.Home.TheVariants as home
use Rattle.uc_machine.specs.Executions.{home_eq}
use Rattle.uc_depth_laws.specs.Entering.{Aspect, New, Other}
use Rattle.uc_depth_laws.specs.Owing.{Tests}
use Rattle.uc_letting_laws.proofs.Insiders.{Kicks, is_begin}

-- whether an entry makes object o for task u
abbrev makes_it : ℕ → ℕ → EntryKind → Entry → Bool
makes_it u o kind.Make e = (e.object == o) && (e.task == u)
makes_it u o k e = false

abbrev pub made_for : ℕ → ℕ → Journal → Bool
made_for u o j = list_any (λ e. makes_it u o e.kind e) j

-- whether an entry gives object o to a task as its own
abbrev owns_it : ℕ → EntryKind → Entry → Bool
owns_it o kind.Begin e = e.object == o
owns_it o kind.Spawn e = e.object == o
owns_it o k e = false

abbrev pub gives_away : ℕ → List Entry → Bool
gives_away o a = list_any (λ e. owns_it o e.kind e) a

abbrev is_none : List ℕ → Bool
is_none [] = true
is_none (t ∷ ts) = false

-- made for task u, and of no task as yet
abbrev pub is_fresh : ℕ → Journal → ℕ → Bool
is_fresh u j o = made_for u o j && is_none (owner o j)

abbrev pub new_for : ℕ → Journal → ℕ → Bool
new_for u j o = is_fresh u j o && not (own_object u j == o)

-- new is for task u what it has made, but where the execution is at home; another object is any but the own one and that
abbrev pub told_for : ℕ → Journal → Tests
told_for u j h New o = new_for u j o && not (home_eq h (home.Object o))
told_for u j h Other o = not (own_object u j == o) && not (home_eq h (home.Object o))

-- tests

pub both_hold : (a b : Bool) → (a && b) ≡ true → (a ≡ true) × (b ≡ true)
both_hold true b h = (refl, h)
both_hold false b h = cc

pub both_are : (a b : Bool) → a ≡ true → b ≡ true → (a && b) ≡ true
both_are true b h k = k
both_are false b h k = cc

or_holds : (a b : Bool) → (a || b) ≡ true → (a ≡ true) ⊎ (b ≡ true)
or_holds true b h = inl refl
or_holds false b h = inr h

or_none : (a b : Bool) → (a || b) ≡ false → (a ≡ false) × (b ≡ false)
or_none true b h = cc
or_none false b h = (refl, h)

or_first : (a b : Bool) → a ≡ true → (a || b) ≡ true
or_first true b h = refl
or_first false b h = cc

pub none_is : (ts : List ℕ) → is_none ts ≡ true → ts ≡ []
none_is [] h = refl
none_is (t ∷ ts) h = cc

is_none_of : (ts : List ℕ) → ts ≡ [] → is_none ts ≡ true
is_none_of ts h = ap is_none h

away : (h : Home) (o : ℕ) → not (home_eq h (home.Object o)) ≡ true → h ≡ home.Object o → ⊥
away h o e i =
    let here : not (home_eq (home.Object o) (home.Object o)) ≡ true = subst (λ k. not (home_eq k (home.Object o)) ≡ true) i e in
    let same : not (home_eq (home.Object o) (home.Object o)) ≡ false = ap not (self_test o) in
    cc

-- the own object is not new
pub own_not_new : (u : ℕ) (j : Journal) → new_for u j (own_object u j) ≡ false
own_not_new u j =
    ap (λ b. is_fresh u j (own_object u j) && not b) (self_test (own_object u j)) ∙ and_false (is_fresh u j (own_object u j))
  where
    and_false : (b : Bool) → (b && false) ≡ false
    and_false true = refl
    and_false false = refl

-- nor is anything told of it
pub own_not_told : (u : ℕ) (j : Journal) (h : Home) (k : Aspect) → told_for u j h k (own_object u j) ≡ false
own_not_told u j h New = ap (λ b. b && not (home_eq h (home.Object (own_object u j)))) (own_not_new u j)
own_not_told u j h Other = ap (λ b. not b && not (home_eq h (home.Object (own_object u j)))) (self_test (own_object u j))

-- nor of that in which the execution is at home
pub told_away : (u : ℕ) (j : Journal) (h : Home) (k : Aspect) (o : ℕ) → told_for u j h k o ≡ true → h ≡ home.Object o → ⊥
told_away u j h New o e i = away h o (both_hold (new_for u j o) (not (home_eq h (home.Object o))) e).1 i
told_away u j h Other o e i = away h o (both_hold (not (own_object u j == o)) (not (home_eq h (home.Object o))) e).1 i

pub told_new : (u : ℕ) (j : Journal) (h : Home) (o : ℕ) → told_for u j h New o ≡ true → new_for u j o ≡ true
told_new u j h o e = (both_hold (new_for u j o) (not (home_eq h (home.Object o))) e).0

-- all others are told
pub not_here : (h : Home) (o : ℕ) → (h ≡ home.Object o → ⊥) → not (home_eq h (home.Object o)) ≡ true
not_here (home.Task t) o n = refl
not_here (home.Object q) o n = ap not (ne_eqb q o (λ e. n (ap home.Object e)))

pub told_other : (u : ℕ) (j : Journal) (h : Home) (o : ℕ) → (own_object u j ≡ o → ⊥) → (h ≡ home.Object o → ⊥) → told_for u j h Other o ≡ true
told_other u j h o n k =
    both_are (not (own_object u j == o)) (not (home_eq h (home.Object o))) (ap not (ne_eqb (own_object u j) o n)) (not_here h o k)

pub new_unowned : (u : ℕ) (j : Journal) (o : ℕ) → new_for u j o ≡ true → owner o j ≡ []
new_unowned u j o h =
    none_is (owner o j) (both_hold (made_for u o j) (is_none (owner o j)) (both_hold (is_fresh u j o) (not (own_object u j == o)) h).0).1

pub new_made : (u : ℕ) (j : Journal) (o : ℕ) → new_for u j o ≡ true → made_for u o j ≡ true
new_made u j o h =
    (both_hold (made_for u o j) (is_none (owner o j)) (both_hold (is_fresh u j o) (not (own_object u j == o)) h).0).0

-- entries that give an object to nobody leave it as it is

owner_push : (o : ℕ) (j : Journal) (e : Entry) → owns_it o e.kind e ≡ false → owner o (j ++ e ∷ []) ≡ owner o j
unfolding owner
owner_push o j e h = by (e.object == o) refl
  where
    silent : (k : EntryKind) → owns_it o k e ≡ false → (e.object == o) ≡ true → owned k e ≡ None
    silent kind.Begin h g = cc
    silent kind.Spawn h g = cc
    silent k h g = refl

    by : (b : Bool) → (e.object == o) ≡ b → still_open (λ e. owned e.kind e) (λ e t. false) (entries_at o (j ++ e ∷ [])) ≡ still_open (λ e. owned e.kind e) (λ e t. false) (entries_at o j)
    by false g = ap (still_open (λ e. owned e.kind e) (λ e t. false)) (at_other o j e g)
    by true g =
        ap (still_open (λ e. owned e.kind e) (λ e t. false)) (at_push o j e true g) ∙ still_open_silent (λ e. owned e.kind e) (λ e t. false) (entries_at o j) e (silent e.kind h g) (λ t. refl)

-- one entry makes it one task's more, at most
pub owner_more : (o : ℕ) (j : Journal) (e : Entry) → length (owner o (j ++ e ∷ [])) ≤ length (owner o j) + 1
unfolding owner
owner_more o j e = by (e.object == o) refl
  where
    told : (x : Option ℕ) → length (option_to_list x) ≤ 1
    told None = omega arith
    told (Some t) = omega arith

    all_kept : (ts : List ℕ) (x : Option ℕ) → length (filter (λ (t : ℕ). true) ts ++ option_to_list x) ≤ length ts + 1
    all_kept [] x = told x
    all_kept (t ∷ ts) x = let l = all_kept ts x in omega (arith, l)

    by : (b : Bool) → (e.object == o) ≡ b → length (still_open (λ e. owned e.kind e) (λ e t. false) (entries_at o (j ++ e ∷ []))) ≤ length (still_open (λ e. owned e.kind e) (λ e t. false) (entries_at o j)) + 1
    by false g = let same = ap (λ l. length (still_open (λ e. owned e.kind e) (λ e t. false) l)) (at_other o j e g) in omega (arith, same)
    by true g =
        let same = ap (λ l. length (still_open (λ e. owned e.kind e) (λ e t. false) l)) (at_push o j e true g) in
        let push = ap length (still_open_push (λ e. owned e.kind e) (λ e t. false) (entries_at o j) e) in
        let l = all_kept (still_open (λ e. owned e.kind e) (λ e t. false) (entries_at o j)) (owned e.kind e) in
        omega (arith, same, push, l)

pub owner_stays : (o : ℕ) (j : Journal) (a : List Entry) → gives_away o a ≡ false → owner o (j ++ a) ≡ owner o j
owner_stays o j [] h = ap (owner o) (append-nil j)
owner_stays o j (e ∷ a) h =
    let g = or_none (owns_it o e.kind e) (gives_away o a) h in
    ap (owner o) (sym (append_assoc j (e ∷ []) a)) ∙ owner_stays o (j ++ e ∷ []) a g.1 ∙ owner_push o j e g.0

made_stays : (u o : ℕ) (j : Journal) (a : List Entry) → made_for u o j ≡ true → made_for u o (j ++ a) ≡ true
made_stays u o j a h =
    list_any-append (λ e. makes_it u o e.kind e) j a ∙ or_first (made_for u o j) (made_for u o a) h

pub fresh_stays : (u o : ℕ) (j : Journal) (a : List Entry) → gives_away o a ≡ false → is_fresh u j o ≡ true → is_fresh u (j ++ a) o ≡ true
fresh_stays u o j a g h =
    let k = both_hold (made_for u o j) (is_none (owner o j)) h in
    both_are (made_for u o (j ++ a)) (is_none (owner o (j ++ a))) (made_stays u o j a k.0) (ap is_none (owner_stays o j a g) ∙ k.1)

pub new_stays : (u o : ℕ) (j : Journal) (a : List Entry) → gives_away o a ≡ false → own_object u (j ++ a) ≡ own_object u j → new_for u j o ≡ true → new_for u (j ++ a) o ≡ true
new_stays u o j a g same h =
    let k = both_hold (is_fresh u j o) (not (own_object u j == o)) h in
    both_are (is_fresh u (j ++ a) o) (not (own_object u (j ++ a) == o)) (fresh_stays u o j a g k.0) (ap (λ v. not (v == o)) same ∙ k.1)

pub other_stays : (u o : ℕ) (j : Journal) (a : List Entry) (h : Home) → own_object u (j ++ a) ≡ own_object u j → told_for u j h Other o ≡ true → told_for u (j ++ a) h Other o ≡ true
other_stays u o j a h same e = ap (λ v. not (v == o) && not (home_eq h (home.Object o))) same ∙ e

pub told_stays : (u o : ℕ) (j : Journal) (a : List Entry) (h : Home) (k : Aspect) → gives_away o a ≡ false → own_object u (j ++ a) ≡ own_object u j → told_for u j h k o ≡ true → told_for u (j ++ a) h k o ≡ true
told_stays u o j a h New g same e =
    let b = both_hold (new_for u j o) (not (home_eq h (home.Object o))) e in
    both_are (new_for u (j ++ a) o) (not (home_eq h (home.Object o))) (new_stays u o j a g same b.0) b.1
told_stays u o j a h Other g same e = other_stays u o j a h same e

-- one that gives it away spawns a task

tasks_grow : (j : Journal) (a : List Entry) → task_count j ≤ task_count (j ++ a)
tasks_grow j [] = let same = ap task_count (append-nil j) in omega (arith, same)
tasks_grow j (e ∷ a) =
    let m = tasks_push j e in
    let r = tasks_grow (j ++ e ∷ []) a in
    let s = ap task_count (append_assoc j (e ∷ []) a) in
    omega (arith, m, r, s)

pub gives_more : (o : ℕ) (t : ℕ) (P : ℕ → Type 0) (j : Journal) (a : List Entry) → Kicks t P a → gives_away o a ≡ true → task_count j < task_count (j ++ a)
gives_more o t P j [] k h = cc
gives_more o t P j (e ∷ a) k h =
    by (or_holds (owns_it o e.kind e) (gives_away o a) h) (λ g. gives_more o t P (j ++ e ∷ []) a k.1 g)
  where
    one : (x : EntryKind) → is_begin x ≡ false → owns_it o x e ≡ true → plus (is_spawn x) ≡ 1
    one kind.Begin n g = cc
    one kind.Spawn n g = refl
    one x n g = cc

    by : (owns_it o e.kind e ≡ true) ⊎ (gives_away o a ≡ true) → (gives_away o a ≡ true → task_count (j ++ e ∷ []) < task_count ((j ++ e ∷ []) ++ a)) → task_count j < task_count (j ++ e ∷ a)
    by (inl g) f =
        let more = tasks_push j e in
        let rest = tasks_grow (j ++ e ∷ []) a in
        let same = ap task_count (append_assoc j (e ∷ []) a) in
        let n = one e.kind k.0.0 g in
        omega (arith, more, rest, same, n)
    by (inr g) f =
        let more = tasks_push j e in
        let same = ap task_count (append_assoc j (e ∷ []) a) in
        let l = f g in
        omega (arith, more, same, l)

-- an object is made for one task, and those that are not made yet are of none

pub record Makers (j : Journal) : Type 0 where
  pub below : (u o : ℕ) → made_for u o j ≡ true → o < object_count j
  pub none : (o : ℕ) → object_count j ≤ o → owner o j ≡ []
  pub one : (u v o : ℕ) → made_for u o j ≡ true → made_for v o j ≡ true → u ≡ v

made_push : (u o : ℕ) (j : Journal) (e : Entry) → made_for u o (j ++ e ∷ []) ≡ (made_for u o j || makes_it u o e.kind e)
made_push u o j e = any_push (λ e. makes_it u o e.kind e) j e

made_now : (k : EntryKind) (u o : ℕ) (e : Entry) → makes_it u o k e ≡ true → ((e.object ≡ o) × (e.task ≡ u)) × (is_make k ≡ true)
made_now kind.Make u o e h = let g = both_hold (e.object == o) (e.task == u) h in ((eqb-true e.object o g.0, eqb-true e.task u g.1), refl)
made_now k u o e h = cc

next_object : (k : EntryKind) (e : Entry) (j : Journal) → IsNext k e j → is_make k ≡ true → e.object ≡ object_count j
next_object kind.Make e j n h = n
next_object k e j n h = cc

makers_push : (j : Journal) (e : Entry) → Makers j → Legal e j → Makers (j ++ e ∷ [])
makers_push j e m l =
    let more = objects_push j e in
    record {
      below = λ u o h. below u o more (or_holds (made_for u o j) (makes_it u o e.kind e) (sym (made_push u o j e) ∙ h));
      none = λ o le. owner_push o j e (unowned e.kind o le) ∙ m.none o (omega (arith, le, more));
      one = λ u v o g h. one u v o (or_holds (made_for u o j) (makes_it u o e.kind e) (sym (made_push u o j e) ∙ g)) (or_holds (made_for v o j) (makes_it v o e.kind e) (sym (made_push v o j e) ∙ h));
    }
  where
    below : (u o : ℕ) → object_count (j ++ e ∷ []) ≡ object_count j + plus (is_make e.kind) → (made_for u o j ≡ true) ⊎ (makes_it u o e.kind e ≡ true) → o < object_count (j ++ e ∷ [])
    below u o more (inl h) = let lt = m.below u o h in omega (arith, more, lt)
    below u o more (inr h) = let n = made_now e.kind u o e h in let lt = l.made in let same = n.0.0 in omega (arith, lt, same)

    apart : (o : ℕ) → object_count (j ++ e ∷ []) ≤ o → (e.object == o) ≡ false
    apart o le = let lt = l.made in ne_eqb e.object o (λ same. omega (arith, lt, le, same))

    unowned : (k : EntryKind) (o : ℕ) → object_count (j ++ e ∷ []) ≤ o → owns_it o k e ≡ false
    unowned kind.Begin o le = apart o le
    unowned kind.Spawn o le = apart o le
    unowned k o le = refl

    clash : {A : Type 0} (u v o : ℕ) → made_for u o j ≡ true → makes_it v o e.kind e ≡ true → A
    clash u v o g h =
        let n = made_now e.kind v o e h in
        let lt = m.below u o g in
        let same = n.0.0 in
        let next = next_object e.kind e j l.next n.1 in
        absurd (omega (arith, lt, same, next))

    one : (u v o : ℕ) → (made_for u o j ≡ true) ⊎ (makes_it u o e.kind e ≡ true) → (made_for v o j ≡ true) ⊎ (makes_it v o e.kind e ≡ true) → u ≡ v
    one u v o (inl g) (inl h) = m.one u v o g h
    one u v o (inl g) (inr h) = clash u v o g h
    one u v o (inr g) (inl h) = clash v u o h g
    one u v o (inr g) (inr h) = sym (made_now e.kind u o e g).0.1 ∙ (made_now e.kind v o e h).0.1

pub makers_stay : (j : Journal) (a : List Entry) → Makers j → Lawful j a → Makers (j ++ a)
makers_stay j [] m l = subst Makers (sym (append-nil j)) m
makers_stay j (e ∷ a) m l = subst Makers (append_assoc j (e ∷ []) a) (makers_stay (j ++ e ∷ []) a (makers_push j e m l.0) l.1)

-- what an entry has just made is fresh
pub fresh_made : (u : ℕ) (j : Journal) (e : Entry) → Makers j → e.kind ≡ kind.Make → e.task ≡ u → e.object ≡ object_count j → is_fresh u (j ++ e ∷ []) (object_count j) ≡ true
fresh_made u j e m k t o =
    both_are (made_for u (object_count j) (j ++ e ∷ [])) (is_none (owner (object_count j) (j ++ e ∷ []))) (list_any-append (λ e. makes_it u (object_count j) e.kind e) j (e ∷ []) ∙ or_second (made_for u (object_count j) j) (made_for u (object_count j) (e ∷ [])) made) (is_none_of _ (owner_push (object_count j) j e (ap (λ x. owns_it (object_count j) x e) k) ∙ m.none (object_count j) (omega arith)))
  where
    or_second : (a b : Bool) → b ≡ true → (a || b) ≡ true
    or_second true b h = refl
    or_second false b h = h

    made : made_for u (object_count j) (e ∷ []) ≡ true
    made =
        ap (λ b. b || false) (ap (λ x. makes_it u (object_count j) x e) k ∙ both_are (e.object == object_count j) (e.task == u) (ap (λ v. v == object_count j) o ∙ self_test (object_count j)) (ap (λ v. v == u) t ∙ self_test u))

-- one that makes nothing and gives nothing away
pub makers_given : (j : Journal) (p t : ℕ) → Makers j → Makers (j ++ dispatch p t ∷ [])
makers_given j p t m =
    let more = objects_push j (dispatch p t) in
    record {
      below = λ u o h. let lt = m.below u o (old u o h) in omega (arith, lt, more);
      none = λ o le. owner_push o j (dispatch p t) refl ∙ m.none o (omega (arith, le, more));
      one = λ u v o g h. m.one u v o (old u o g) (old v o h);
    }
  where
    old : (u o : ℕ) → made_for u o (j ++ dispatch p t ∷ []) ≡ true → made_for u o j ≡ true
    old u o h = sym (or_false (made_for u o j)) ∙ (sym (made_push u o j (dispatch p t)) ∙ h)

pub nobody : (o : ℕ) → owner o [] ≡ []
unfolding owner entries_at
nobody o = refl

-- a run begins with object 0
pub makers_begin : (opts : Options) → Makers (begin opts ∷ [])
unfolding object_count
makers_begin opts = record {
  below = λ u o h. cc;
  none = λ o le. owner_push o [] (begin opts) (ne_eqb 0 o (λ same. omega (arith, le, same))) ∙ nobody o;
  one = λ u v o g h. cc;
}
