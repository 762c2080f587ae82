-- While a run goes on and nobody runs, somebody can be dispatched.
use Rattle.std.proofs.Common.{◌≡◌, ℕ, zero, suc, ◌+◌, ◌≤◌, ◌&&◌, ◌||◌, Bool, true, false, cond, not, List, [], ◌∷◌, ◌++◌, Option, Some, None, refl, sym, ap, ◌∙◌, subst, arith, length, append-nil}
use Rattle.std.specs.Prelude.{pos, nat_le, map}
use Rattle.std.specs.List.{list_any, list_all, Contains, range_with_len, filter}
use Rattle.uc_tree.specs.Programs.{Site}
use Rattle.uc_entry.specs.declared.entry.Entry.{Entry}
use Rattle.uc_entry.specs.declared.entry.EntryKind.{EntryKind}
use Rattle.uc_entry.specs.declared.entry.EntryKind.TheVariants as kind
use Rattle.uc_entry.specs.declared.entry.Options.{Options}
use Rattle.uc_entry.specs.declared.request.Asked.{Asked}
use Rattle.uc_acts.specs.Journal.{Journal, entry, begin, is_over, is_ending, is_fault}
use Rattle.uc_acts.specs.Queues.{ready, running, first_ended, none_running, none_ready, none_served, all_ticks, processor_count, processors, open_processors, is_nobody, closes}
use Rattle.uc_acts.specs.Acts.{entries_of, is_faulty, verdict, closing, ending, fitted, act, dispatch, lone_limit}
use Rattle.uc_acts.specs.KernelRuns.{KernelMay, gives, no_room, acts, begun, more}
use Rattle.uc_acts.specs.Laws.{LawGoing, IsServed}
use Rattle.uc_acts.proofs.Seats.{running_given}
use Rattle.uc_acts.proofs.Bounds.{over_push, over_limit}

no_both : (b : Bool) → b ≡ true → b ≡ false → ⊥
no_both b t f = cc

or_true : (b : Bool) → (b || true) ≡ true
or_true true = refl
or_true false = refl

-- an act that goes on is its entries, and no verdict stands

pub record GoesOn (opts : Options) (j a : List Entry) (b : List Entry) : Type 0 where
  pub is : b ≡ a
  pub faultless : is_faulty a ≡ false
  pub calm : verdict opts (j ++ a) ≡ None

faulty_over : (a : List Entry) → is_faulty a ≡ true → is_over a ≡ true
unfolding is_over
faulty_over [] h = cc
faulty_over (e ∷ a) h = by e.kind refl (faulty_over a)
  where
    by : (k : EntryKind) → e.kind ≡ k → (is_faulty a ≡ true → is_over a ≡ true) → is_over (e ∷ a) ≡ true
    by kind.Fault g ih = ap (λ k. is_ending k || is_over a) g
    by k g ih = or_last (is_ending e.kind) (is_over a) (ih (sym (ap (λ k. is_fault k || is_faulty a) g) ∙ h))
      where
        or_last : (x y : Bool) → y ≡ true → (x || y) ≡ true
        or_last true y e = refl
        or_last false y e = e

one_over : (p t : ℕ) (k : EntryKind) → is_ending k ≡ true → is_over (entry k p t 0 0 (pos 0) (pos 0) ∷ []) ≡ true
unfolding is_over
one_over p t k e = ap (λ b. b || false) e

module _ (opts : Options) (j : Journal) (p t : ℕ) (a : List Entry) where
  going_ending : (b : Bool) (v : Option EntryKind) → is_faulty a ≡ b → verdict opts (j ++ a) ≡ v → is_over (j ++ (a ++ ending opts j p t a)) ≡ false → GoesOn opts j a (a ++ ending opts j p t a)
  going_ending true v h g f =
      let over : is_over (j ++ (a ++ ending opts j p t a)) ≡ true = over_push j (a ++ ending opts j p t a) ∙ ap (λ x. is_over j || x) (over_push a (ending opts j p t a) ∙ ap (λ x. x || is_over (ending opts j p t a)) (faulty_over a h)) ∙ or_true (is_over j) in
      absurd (no_both (is_over (j ++ (a ++ ending opts j p t a))) over f)
  going_ending false None h g f =
      let none : ending opts j p t a ≡ [] = ap (λ b. cond b [] (closing p t (verdict opts (j ++ a)))) h ∙ ap (closing p t) g in
      record { is = ap (λ x. a ++ x) none ∙ append-nil a; faultless = h; calm = g }
  going_ending false (Some k) h g f =
      let some : ending opts j p t a ≡ entry k p t 0 0 (pos 0) (pos 0) ∷ [] = ap (λ b. cond b [] (closing p t (verdict opts (j ++ a)))) h ∙ ap (closing p t) g in
      let last : is_ending k ≡ true = ends (first_ended (j ++ a)) (none_running opts (j ++ a) && none_ready (j ++ a)) (none_running opts (j ++ a) && none_served opts (j ++ a)) (nat_le opts.ticks (all_ticks (j ++ a))) g in
      let over : is_over (j ++ (a ++ ending opts j p t a)) ≡ true = over_push j (a ++ ending opts j p t a) ∙ ap (λ x. is_over j || x) (over_push a (ending opts j p t a) ∙ ap (λ l. is_over a || is_over l) some ∙ ap (λ b. is_over a || b) (one_over p t k last) ∙ or_true (is_over a)) ∙ or_true (is_over j) in
      absurd (no_both (is_over (j ++ (a ++ ending opts j p t a))) over f)
    where
      ends : (x y z w : Bool) → cond x (Some kind.Done) (cond y (Some kind.Deadlock) (cond z (Some kind.NoProcessor) (cond w (Some kind.Limit) None))) ≡ Some k → is_ending k ≡ true
      ends true y z w e = let same : kind.Done ≡ k = cc in ap is_ending (sym same)
      ends false true z w e = let same : kind.Deadlock ≡ k = cc in ap is_ending (sym same)
      ends false false true w e = let same : kind.NoProcessor ≡ k = cc in ap is_ending (sym same)
      ends false false false true e = let same : kind.Limit ≡ k = cc in ap is_ending (sym same)
      ends false false false false e = cc

  pub going_fitted : is_over (j ++ fitted opts j p t (a ++ ending opts j p t a)) ≡ false → GoesOn opts j a (fitted opts j p t (a ++ ending opts j p t a))
  going_fitted f = by (nat_le (length j + length (a ++ ending opts j p t a) + 1) opts.entries) refl f
    where
      by : (b : Bool) → nat_le (length j + length (a ++ ending opts j p t a) + 1) opts.entries ≡ b → is_over (j ++ cond b (a ++ ending opts j p t a) (entry kind.Limit p t 0 0 (pos 0) (pos 0) ∷ [])) ≡ false → GoesOn opts j a (cond b (a ++ ending opts j p t a) (entry kind.Limit p t 0 0 (pos 0) (pos 0) ∷ []))
      by true h g = going_ending (is_faulty a) (verdict opts (j ++ a)) refl refl g
      by false h g = absurd (no_both (is_over (j ++ entry kind.Limit p t 0 0 (pos 0) (pos 0) ∷ [])) (over_limit j p t) g)

pub going_act : (opts : Options) (sites : List Site) (input : List ℕ) (j : Journal) (p t k : ℕ) (asked : Asked) → is_over (j ++ act opts sites input j p t k asked) ≡ false → GoesOn opts j (entries_of opts sites input j p t k asked) (act opts sites input j p t k asked)
going_act opts sites input j p t k asked f =
    going_fitted opts j p t (entries_of opts sites input j p t k asked) f

-- somebody is ready on a cluster with an open processor

none_run : (opts : Options) (j : Journal) → ((p : ℕ) → running p j ≡ []) → none_running opts j ≡ true
unfolding none_running
none_run opts j h = all (range_with_len 0 (processor_count opts j))
  where
    all : (ps : List ℕ) → list_all (λ p. is_nobody (running p j)) ps ≡ true
    all [] = refl
    all (p ∷ ps) = let e = h p in simp (e, all ps)

record Found (p : ℕ × ℕ → Bool) (xs : List (ℕ × ℕ)) : Type 0 where
  item : ℕ × ℕ
  there : Contains xs item
  fails : p item ≡ false

at_first : (x : ℕ × ℕ) (xs : List (ℕ × ℕ)) → Contains (x ∷ xs) x
at_first x xs = (0, omega arith, refl)

not_all : (p : ℕ × ℕ → Bool) (xs : List (ℕ × ℕ)) → list_all p xs ≡ false → Found p xs
not_all p [] h = cc
not_all p (x ∷ xs) h = by (p x) refl h (not_all p xs)
  where
    by : (b : Bool) → p x ≡ b → (p x && list_all p xs) ≡ false → (list_all p xs ≡ false → Found p xs) → Found p (x ∷ xs)
    by false e g ih = record { item = x; there = at_first x xs; fails = e }
    by true e g ih =
        let r = ih (simp e at g) in
        let lt = r.there.1 in
        record { item = r.item; there = (suc r.there.0, omega arith, r.there.2); fails = r.fails }

open_free : (opts : Options) (j : Journal) → ((p : ℕ) → running p j ≡ []) → none_served opts j ≡ false → IsServed opts j
unfolding none_served
open_free opts j h n =
    let r = not_all (λ x. is_nobody (ready x.1 j)) (open_processors opts j) n in by r.item.0 r.item.1 r.there (ready r.item.1 j) refl r.fails
  where
    by : (p k : ℕ) → Contains (open_processors opts j) (p, k) → (ts : List ℕ) → ready k j ≡ ts → is_nobody (ready k j) ≡ false → IsServed opts j
    by p k c [] e f = absurd (no_both (is_nobody (ready k j)) (ap is_nobody e) f)
    by p k c (t ∷ ts) e f =
        record { processor = p; task = t; serves = record { cluster = k; later = ts; opened = c; free = h p; queued = e } }

verdict_none : (a r x y w : Bool) → r ≡ true → cond a (Some kind.Done) (cond (r && x) (Some kind.Deadlock) (cond (r && y) (Some kind.NoProcessor) (cond w (Some kind.Limit) None))) ≡ None → y ≡ false
verdict_none true r x y w h e = cc
verdict_none false true true y w h e = cc
verdict_none false true false true w h e = cc
verdict_none false true false false w h e = refl
verdict_none false false x y w h e = cc

first_open : (n : ℕ) (opts : Options) → opts.processors ≡ suc n → Contains (open_processors opts (begin opts ∷ [])) (0, 0)
unfolding open_processors processors
first_open n opts h =
    let all : ℕ → List (ℕ × ℕ) = λ k. filter {X = ℕ × ℕ} (λ x. not (list_any (λ e. closes x.0 e.kind e) (begin opts ∷ []))) (map {B = ℕ × ℕ} (λ p. (p, 0)) (range_with_len 0 k) ++ []) in
    subst (λ k. Contains (all k) (0, 0)) (sym h) (at_first (0, 0) _)

first_served : (opts : Options) → 1 ≤ opts.processors → IsServed opts (begin opts ∷ [])
unfolding ready running
first_served opts le = by opts.processors refl le
  where
    by : (n : ℕ) → opts.processors ≡ n → 1 ≤ n → IsServed opts (begin opts ∷ [])
    by zero h l = absurd (omega arith)
    by (suc n) h l =
        record { processor = 0; task = 0; serves = record { cluster = 0; later = []; opened = first_open n opts h; free = refl; queued = refl } }

no_cons : (x : ℕ) (xs ys : List ℕ) → ys ≡ x ∷ xs → ys ≡ [] → ⊥
no_cons x xs ys h g = cc

pub law_going : LawGoing
law_going opts sites input _ range begun o free = first_served opts range.processors_min
law_going opts sites input _ range (more {j} {a} r before m) o free = by a m o free
  where
    by : (a : List Entry) → KernelMay opts sites input j a → is_over (j ++ a) ≡ false → ((p : ℕ) → running p (j ++ a) ≡ []) → IsServed opts (j ++ a)
    by _ (gives p t v le) o free = absurd (no_cons t [] (running p (j ++ dispatch p t ∷ [])) (running_given p t j) (free p))
    by _ (no_room p t v le) o free = absurd (no_both (is_over (j ++ lone_limit ∷ [])) (over_limit j 0 0) o)
    by _ (acts p t k asked m) o free =
        let a = act opts sites input j p t k asked in
        let g = going_act opts sites input j p t k asked o in
        let calm : verdict opts (j ++ a) ≡ None = ap (λ x. verdict opts (j ++ x)) g.is ∙ g.calm in
        open_free opts (j ++ a) free (verdict_none (first_ended (j ++ a)) (none_running opts (j ++ a)) (none_ready (j ++ a)) (none_served opts (j ++ a)) (nat_le opts.ticks (all_ticks (j ++ a))) (none_run opts (j ++ a) free) calm)
