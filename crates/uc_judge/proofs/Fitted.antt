-- An act as it fits.
use Rattle.std.proofs.Common.{◌≡◌, ℕ, zero, suc, ◌+◌, ◌<◌, ◌≤◌, ◌||◌, Bool, true, false, cond, List, [], ◌∷◌, ◌++◌, Option, Some, None, refl, sym, ap, ◌∙◌, arith, length, take, drop, append_assoc, append-nil, length-append}
use Rattle.std.specs.Prelude.{pos, nat_le}
use Rattle.std.proofs.lemmas.Bool.{leb-true, leb-false}
use Rattle.std.proofs.lemmas.List.{take-append-drop}
use Rattle.uc_entry.specs.declared.entry.Entry.{Entry}
use Rattle.uc_entry.specs.declared.entry.EntryKind.{EntryKind}
use Rattle.uc_entry.specs.declared.entry.EntryKind.TheVariants as kind
use Rattle.uc_entry.specs.declared.entry.Options.{Options}
use Rattle.uc_acts.specs.Journal.{Journal, entry, is_over, is_ending}
use Rattle.uc_acts.proofs.Bounds.{over_push}
use Rattle.uc_acts.specs.Acts.{act, entries_of, fitted, closing, ending, is_faulty, verdict}
use Rattle.uc_entry.specs.declared.request.Request.{Request}
use Rattle.uc_tree.specs.Programs.{Site}
use Rattle.uc_judge.specs.declared.actor.Actor.{Actor}
use Rattle.uc_judge.specs.declared.ledger.Ledger.{Ledger}
use Rattle.uc_judge.specs.Ledgers.{Takes, asked_of}

no_both : (b : Bool) → b ≡ true → b ≡ false → ⊥
no_both b t f = cc

pub take_of : (j a : List Entry) (n : ℕ) → n ≡ length j → take n (j ++ a) ≡ j
take_of [] a n h = ap (λ k. take k a) h
take_of (e ∷ j) a n h = ap (λ k. take k (e ∷ (j ++ a))) h ∙ ap (λ l. e ∷ l) (take_of j a (length j) refl)

pub drop_of : (j a : List Entry) (n : ℕ) → n ≡ length j → drop n (j ++ a) ≡ a
drop_of [] a n h = ap (λ k. drop k a) h
drop_of (e ∷ j) a n h = ap (λ k. drop k (e ∷ (j ++ a))) h ∙ drop_of j a (length j) refl

pub take_within : (m : ℕ) (a rest : List Entry) → m ≤ length a → take m (a ++ rest) ≡ take m a
take_within zero a rest le = refl
take_within (suc m) [] rest le = absurd (omega (arith, le))
take_within (suc m) (e ∷ a) rest le = ap (λ l. e ∷ l) (take_within m a rest (omega (arith, le)))

module _ (opts : Options) (j : Journal) (p t : ℕ) (a : List Entry) where
  -- one entry more fits
  pub fits : length j + length a < opts.entries → fitted opts j p t a ≡ a
  fits lt = by (nat_le (length j + length a + 1) opts.entries) refl
    where
      by : (b : Bool) → nat_le (length j + length a + 1) opts.entries ≡ b → cond b a (entry kind.Limit p t 0 0 (pos 0) (pos 0) ∷ []) ≡ a
      by true h = refl
      by false h = let g = leb-false (length j + length a + 1) opts.entries h in absurd (omega (arith, g, lt))

  pub fits_not : opts.entries ≤ length j + length a → fitted opts j p t a ≡ entry kind.Limit p t 0 0 (pos 0) (pos 0) ∷ []
  fits_not le = by (nat_le (length j + length a + 1) opts.entries) refl
    where
      by : (b : Bool) → nat_le (length j + length a + 1) opts.entries ≡ b → cond b a (entry kind.Limit p t 0 0 (pos 0) (pos 0) ∷ []) ≡ entry kind.Limit p t 0 0 (pos 0) (pos 0) ∷ []
      by false h = refl
      by true h = let g = leb-true (length j + length a + 1) opts.entries h in absurd (omega (arith, g, le))

-- too many entries already, whatever ending follows
pub act_full : (opts : Options) (j : Journal) (p t : ℕ) (a e : List Entry) (all new : List Entry) → all ≡ j ++ a → nat_le opts.entries (length all) ≡ true → new ≡ j ++ entry kind.Limit p t 0 0 (pos 0) (pos 0) ∷ [] → new ≡ j ++ fitted opts j p t (a ++ e)
act_full opts j p t a e all new h full g =
    let n = leb-true opts.entries (length all) full in
    let l = ap length h in
    let m = length-append j a in
    let o = length-append a e in
    g ∙ ap (λ l. j ++ l) (sym (fits_not opts j p t (a ++ e) (omega (arith, n, l, m, o))))

-- a fault is the ending
pub act_faulty : (opts : Options) (j : Journal) (p t : ℕ) (a : List Entry) (all : List Entry) → all ≡ j ++ a → nat_le opts.entries (length all) ≡ false → is_faulty a ≡ true → all ≡ j ++ fitted opts j p t (a ++ ending opts j p t a)
act_faulty opts j p t a all h full f =
    let n = leb-false opts.entries (length all) full in
    let l = ap length h in
    let m = length-append j a in
    let same : a ++ ending opts j p t a ≡ a = ap (λ b. a ++ cond b [] (closing p t (verdict opts (j ++ a)))) f ∙ append-nil a in
    h ∙ ap (λ l. j ++ l) (sym (ap (fitted opts j p t) same ∙ fits opts j p t a (omega (arith, n, l, m))))

-- any other entries are closed
pub act_closed : (opts : Options) (j : Journal) (p t : ℕ) (a : List Entry) (all new : List Entry) → all ≡ j ++ a → is_faulty a ≡ false → new ≡ j ++ fitted opts j p t (a ++ closing p t (verdict opts all)) → new ≡ j ++ fitted opts j p t (a ++ ending opts j p t a)
act_closed opts j p t a all new h f g =
    g ∙ ap (λ l. j ++ fitted opts j p t (a ++ closing p t (verdict opts l))) h ∙ ap (λ b. j ++ fitted opts j p t (a ++ cond b [] (closing p t (verdict opts (j ++ a))))) (sym f)

-- closing

parts : (from : ℕ) (all : List Entry) → length (take from all) + length (drop from all) ≡ length all
parts from all =
    sym (length-append (take from all) (drop from all)) ∙ ap length (take-append-drop from all)

module _ (opts : Options) (from p t : ℕ) (all : List Entry) (v : Option EntryKind) where
  pub closed_none : v ≡ None → length all < opts.entries → all ≡ take from all ++ fitted opts (take from all) p t (drop from all ++ closing p t v)
  closed_none h lt =
      let n = parts from all in
      sym (take-append-drop from all) ∙ ap (λ l. take from all ++ l) (sym (ap (λ w. fitted opts (take from all) p t (drop from all ++ closing p t w)) h ∙ ap (fitted opts (take from all) p t) (append-nil (drop from all)) ∙ fits opts (take from all) p t (drop from all) (omega (arith, n, lt))))

  module _ (k : EntryKind) (h : v ≡ Some k) (one : List Entry) (g : one ≡ all ++ entry k p t 0 0 (pos 0) (pos 0) ∷ []) where
    pub closed_some : nat_le opts.entries (length one) ≡ false → one ≡ take from all ++ fitted opts (take from all) p t (drop from all ++ closing p t v)
    closed_some full =
        let lt = leb-false opts.entries (length one) full in
        let n = parts from all in
        let m = ap length g in
        let o = length-append all (entry k p t 0 0 (pos 0) (pos 0) ∷ []) in
        let q = length-append (drop from all) (entry k p t 0 0 (pos 0) (pos 0) ∷ []) in
        g ∙ ap (λ l. l ++ entry k p t 0 0 (pos 0) (pos 0) ∷ []) (sym (take-append-drop from all)) ∙ append_assoc (take from all) (drop from all) (entry k p t 0 0 (pos 0) (pos 0) ∷ []) ∙ ap (λ l. take from all ++ l) (sym (ap (λ w. fitted opts (take from all) p t (drop from all ++ closing p t w)) h ∙ fits opts (take from all) p t (drop from all ++ entry k p t 0 0 (pos 0) (pos 0) ∷ []) (omega (arith, lt, n, m, o, q))))

    pub closed_limit : (new : List Entry) → from ≤ length all → nat_le opts.entries (length one) ≡ true → new ≡ take from one ++ entry kind.Limit p t 0 0 (pos 0) (pos 0) ∷ [] → new ≡ take from all ++ fitted opts (take from all) p t (drop from all ++ closing p t v)
    closed_limit new le full f =
        let lt = leb-true opts.entries (length one) full in
        let n = parts from all in
        let m = ap length g in
        let o = length-append all (entry k p t 0 0 (pos 0) (pos 0) ∷ []) in
        let q = length-append (drop from all) (entry k p t 0 0 (pos 0) (pos 0) ∷ []) in
        f ∙ ap (λ l. l ++ entry kind.Limit p t 0 0 (pos 0) (pos 0) ∷ []) (ap (take from) g ∙ take_within from all _ le) ∙ ap (λ l. take from all ++ l) (sym (ap (λ w. fitted opts (take from all) p t (drop from all ++ closing p t w)) h ∙ fits_not opts (take from all) p t (drop from all ++ entry k p t 0 0 (pos 0) (pos 0) ∷ []) (omega (arith, lt, n, m, o, q))))

or_true : (b : Bool) → (b || true) ≡ true
or_true true = refl
or_true false = refl

over_one : (x : Entry) → is_ending x.kind ≡ true → is_over (x ∷ []) ≡ true
unfolding is_over
over_one x g = ap (λ b. b || false) g

-- behind an ending the run is over
pub over_ended : (all one : List Entry) (x : Entry) → one ≡ all ++ x ∷ [] → is_ending x.kind ≡ true → is_over one ≡ false → ⊥
over_ended all one x h g o =
    no_both (is_over one) (ap is_over h ∙ over_push all (x ∷ []) ∙ ap (λ b. is_over all || b) (over_one x g) ∙ or_true (is_over all)) o

-- the act of what a task asks, where the limit takes its place, where it is a fault, and where it is closed
module _ {old mid : Ledger} {sites : List Site} (input : List ℕ) (a : Actor) (r : Request) (from : ℕ) (at : from ≡ length old.entries.items) (takes : Takes old mid sites input a r) where
  abbrev rows : List Entry
  rows = entries_of old.opts sites input old.entries.items a.processor a.task a.ticks (asked_of a r)

  made : mid.entries.items ≡ old.entries.items ++ rows
  made = takes.entries

  before : take from mid.entries.items ≡ old.entries.items
  before = ap (take from) made ∙ take_of old.entries.items rows from at

  behind : drop from mid.entries.items ≡ rows
  behind = ap (drop from) made ∙ drop_of old.entries.items rows from at

  pub act_limit : (new : Ledger) → nat_le mid.opts.entries (length mid.entries.items) ≡ true → new.entries.items ≡ take from mid.entries.items ++ entry kind.Limit a.processor a.task 0 0 (pos 0) (pos 0) ∷ [] → new.entries.items ≡ old.entries.items ++ act old.opts sites input old.entries.items a.processor a.task a.ticks (asked_of a r)
  act_limit new full h =
      act_full old.opts old.entries.items a.processor a.task rows (ending old.opts old.entries.items a.processor a.task rows) mid.entries.items new.entries.items made (ap (λ o. nat_le o.entries (length mid.entries.items)) (sym takes.opts) ∙ full) (h ∙ ap (λ l. l ++ entry kind.Limit a.processor a.task 0 0 (pos 0) (pos 0) ∷ []) before)

  pub act_fault : nat_le mid.opts.entries (length mid.entries.items) ≡ false → is_faulty (drop from mid.entries.items) ≡ true → mid.entries.items ≡ old.entries.items ++ act old.opts sites input old.entries.items a.processor a.task a.ticks (asked_of a r)
  act_fault full f =
      act_faulty old.opts old.entries.items a.processor a.task rows mid.entries.items made (ap (λ o. nat_le o.entries (length mid.entries.items)) (sym takes.opts) ∙ full) (ap is_faulty (sym behind) ∙ f)

  pub act_end : (new : Ledger) → is_faulty (drop from mid.entries.items) ≡ false → new.entries.items ≡ take from mid.entries.items ++ fitted mid.opts (take from mid.entries.items) a.processor a.task (drop from mid.entries.items ++ closing a.processor a.task (verdict mid.opts mid.entries.items)) → new.entries.items ≡ old.entries.items ++ act old.opts sites input old.entries.items a.processor a.task a.ticks (asked_of a r)
  act_end new f h =
      act_closed old.opts old.entries.items a.processor a.task rows mid.entries.items new.entries.items made (ap is_faulty (sym behind) ∙ f) (h ∙ ap (λ l. l ++ fitted mid.opts l a.processor a.task (drop from mid.entries.items ++ closing a.processor a.task (verdict mid.opts mid.entries.items))) before ∙ ap (λ l. old.entries.items ++ fitted mid.opts old.entries.items a.processor a.task (l ++ closing a.processor a.task (verdict mid.opts mid.entries.items))) behind ∙ ap (λ o. old.entries.items ++ fitted o old.entries.items a.processor a.task (rows ++ closing a.processor a.task (verdict o mid.entries.items))) takes.opts)
