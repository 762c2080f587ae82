-- What the kernel's journal keeps, with one entry more.
use Rattle.std.proofs.Common.{◌≡◌, ℕ, ◌==◌, ◌+◌, ◌<◌, ◌≤◌, ◌||◌, Bool, true, false, not, cond, List, [], ◌∷◌, ◌++◌, Option, Some, None, zero, suc, refl, sym, ap, ◌∙◌, subst, arith, length, set, get_or, get_or-set_same, get_or-set_other, length-set}
use Rattle.std.specs.Option.{option_to_list}
use Rattle.std.specs.List.{filter, list_any, sum_by}
use Rattle.std.proofs.lemmas.Bool.{eqb-true, eq-eqb}
use Rattle.std.specs.Prelude.{replicate}
use Rattle.std.proofs.lemmas.List.{length-append, get_or-replicate, length-replicate}
use Rattle.std.proofs.lemmas.List.Sums.{sum_by_push, sum_by-append}
use Rattle.std.proofs.lemmas.List.Folds.{list_any-append}
use Rattle.uc_tree.specs.Programs.{Site}
use Rattle.uc_entry.specs.declared.entry.Entry.{Entry}
use Rattle.uc_entry.specs.declared.entry.EntryKind.{EntryKind}
use Rattle.uc_entry.specs.declared.entry.EntryKind.TheVariants as kind
use Rattle.uc_entry.specs.declared.request.Answer.{Answer}
use Rattle.uc_entry.specs.declared.request.Answer.TheVariants as answer
use Rattle.uc_entry.specs.declared.entry.Options.{Options}
use Rattle.uc_acts.specs.Journal.{begin, Journal, number, holds, where_true, is_over, is_ending}
use Rattle.uc_acts.specs.Queues.{used, spent, dispatches, all_ticks, first_ended, ends_first}
use Rattle.uc_acts.specs.Reading.{bytes_used, has_failed, used_by, used_from, fails_by, failed_from}
use Rattle.uc_acts.specs.Answers.{tells, asks, answer_to, told_if, accept_answer}
use Rattle.uc_acts.specs.Open.{still_open}
use Rattle.uc_acts.proofs.OpenLemmas.{still_open_push, any_push}
use Rattle.uc_acts.proofs.Answered.{later, answer_push}
use Rattle.uc_acts.proofs.SoundLemmas.{self_test}
use Rattle.uc_kernel_journal.specs.EntryAnswers.{says, takes_up, IsSayable, answer_after, answers_after, child_told, spent_after}
use Rattle.uc_kernel_journal.specs.JournalSums.{Tells}

no_both : (b : Bool) → b ≡ true → b ≡ false → ⊥
no_both b t f = cc

-- ---- sums
ticks_push : (j : Journal) (e : Entry) → all_ticks (j ++ e ∷ []) ≡ all_ticks j + e.ticks
unfolding all_ticks
ticks_push j e = sum_by_push (λ e. e.ticks) j e

own_spent : (b : Bool) (n : ℕ) → sum_by (λ k. k) (option_to_list (where_true b n)) ≡ cond b n 0
own_spent true n = omega arith
own_spent false n = refl

kept_sum : (b : Bool) (xs : List ℕ) → sum_by (λ k. k) (filter (λ a. not b) xs) ≡ cond b 0 (sum_by (λ k. k) xs)
kept_sum true [] = refl
kept_sum true (x ∷ xs) = kept_sum true xs
kept_sum false xs = ap (sum_by (λ k. k)) (all xs)
  where
    all : (xs : List ℕ) → filter (λ a. true) xs ≡ xs
    all [] = refl
    all (x ∷ xs) = ap (λ l. x ∷ l) (all xs)

used_push : (t : ℕ) (j : Journal) (e : Entry) → used t (j ++ e ∷ []) ≡ cond (dispatches e.kind e t) 0 (used t j) + cond (e.task == t) e.ticks 0
unfolding used
used_push t j e =
    let old = still_open (spent t) (λ e x. dispatches e.kind e t) j in
    ap (sum_by (λ k. k)) (still_open_push (spent t) (λ e x. dispatches e.kind e t) j e)
    ∙ sum_by-append (λ k. k) (filter (λ a. not (dispatches e.kind e t)) old) (option_to_list (spent t e))
    ∙ ap (λ n. n + sum_by (λ k. k) (option_to_list (spent t e))) (kept_sum (dispatches e.kind e t) old)
    ∙ ap (λ n. cond (dispatches e.kind e t) 0 (sum_by (λ k. k) old) + n) (own_spent (e.task == t) e.ticks)

-- of another task
other_spent : (k : EntryKind) (e : Entry) (t n : ℕ) → (e.task == t) ≡ false → (t == e.task) ≡ false → cond (dispatches k e t) 0 n + cond (e.task == t) e.ticks 0 ≡ n
other_spent kind.Dispatch e t n h g = simp (h, g) (omega arith)
other_spent k e t n h g = simp h (omega arith)

-- of the task that is named
own_now : (k : EntryKind) (e : Entry) (n : ℕ) → cond (dispatches k e e.task) 0 n + cond (e.task == e.task) e.ticks 0 ≡ spent_after k e n
own_now kind.Dispatch e n = let s = self_test e.task in simp s (omega arith)
own_now k e n = let s = self_test e.task in simp s

-- an entry that is no dispatch and has no ticks
pub spent_none : (k : EntryKind) (e : Entry) (n : ℕ) → (k ≡ kind.Dispatch → ⊥) → e.ticks ≡ 0 → spent_after k e n ≡ n
spent_none kind.Dispatch e n h z = absurd (h refl)
spent_none k e n h z = omega (arith, z)

less_push : (d : Bool) (t : Bool) (n k all : ℕ) → n ≤ all → cond d 0 n + cond t k 0 ≤ all + k
less_push true true n k all h = omega arith
less_push true false n k all h = omega arith
less_push false true n k all h = omega arith
less_push false false n k all h = omega arith

-- ---- reads
bytes_from : (n : ℕ) (j : Journal) (e : Entry) → used_from n (j ++ e ∷ []) ≡ used_by e.kind e (used_from n j)
bytes_from n [] e = refl
bytes_from n (x ∷ j) e = bytes_from (used_by x.kind x n) j e

bytes_push : (j : Journal) (e : Entry) → bytes_used (j ++ e ∷ []) ≡ used_by e.kind e (bytes_used j)
unfolding bytes_used
bytes_push j e = bytes_from 0 j e

failed_more : (b : Bool) (j : Journal) (e : Entry) → failed_from b (j ++ e ∷ []) ≡ fails_by e.kind e (failed_from b j)
failed_more b [] e = refl
failed_more b (x ∷ j) e = failed_more (fails_by x.kind x b) j e

failed_push : (j : Journal) (e : Entry) → has_failed (j ++ e ∷ []) ≡ fails_by e.kind e (has_failed j)
unfolding has_failed
failed_push j e = failed_more false j e

ended_push : (j : Journal) (e : Entry) → first_ended (j ++ e ∷ []) ≡ (first_ended j || ends_first e.kind e)
unfolding first_ended
ended_push j e = any_push (λ e. ends_first e.kind e) j e

-- ---- answers
-- the entry of a spawn names a child
abbrev is_child : EntryKind → Entry → ℕ → Bool
is_child kind.Spawn e t = t == number e.a
is_child k e t = false

told_same : (b : Bool) (x : Option Answer) → b ≡ true → told_if b x ≡ x
told_same true x h = refl
told_same false x h = cc

told_none : (b : Bool) (x : Option Answer) → b ≡ false → told_if b x ≡ None
told_none true x h = cc
told_none false x h = refl

own_tells : (sites : List Site) (tasks : ℕ) (k : EntryKind) (e : Entry) → IsSayable tasks k e → tells sites e.task k e ≡ says sites k e
own_tells sites tasks kind.Begin e h = absurd h
own_tells sites tasks kind.Accept e h = told_same (e.task == e.task) (accept_answer sites e) (self_test e.task)
own_tells sites tasks kind.SignalBlock e h = told_same (e.task == e.task) (where_true (holds 0 e.b) answer.Go) (self_test e.task)
own_tells sites tasks kind.Spawn e h = let s = self_test e.task in simp s
own_tells sites tasks kind.Dispatch e h = refl
own_tells sites tasks kind.Call e h = refl
own_tells sites tasks kind.Push e h = refl
own_tells sites tasks kind.Wait e h = refl
own_tells sites tasks kind.End e h = refl
own_tells sites tasks kind.Fault e h = refl
own_tells sites tasks kind.Done e h = refl
own_tells sites tasks kind.Deadlock e h = refl
own_tells sites tasks kind.NoProcessor e h = refl
own_tells sites tasks kind.Limit e h = refl
own_tells sites tasks k e h = let s = self_test e.task in simp s

own_asks : (tasks : ℕ) (k : EntryKind) (e : Entry) → IsSayable tasks k e → asks e.task k e ≡ takes_up k
own_asks tasks kind.Begin e h = absurd h
own_asks tasks kind.Dispatch e h = refl
own_asks tasks kind.Admit e h = refl
own_asks tasks kind.Push e h = refl
own_asks tasks kind.Done e h = refl
own_asks tasks kind.Deadlock e h = refl
own_asks tasks kind.NoProcessor e h = refl
own_asks tasks kind.Limit e h = refl
own_asks tasks k e h = let s = self_test e.task in simp s

other_tells : (sites : List Site) (tasks : ℕ) (k : EntryKind) (e : Entry) (t : ℕ) → IsSayable tasks k e → (t == e.task) ≡ false → tells sites t k e ≡ cond (is_child k e t) (Some answer.Go) None
other_tells sites tasks kind.Begin e t h n = absurd h
other_tells sites tasks kind.Accept e t h n = told_none (t == e.task) (accept_answer sites e) n
other_tells sites tasks kind.SignalBlock e t h n = told_none (t == e.task) (where_true (holds 0 e.b) answer.Go) n
other_tells sites tasks kind.Spawn e t h n = by (t == e.task) (t == number e.a) n
  where
    by : (a b : Bool) → a ≡ false → where_true (a || b) answer.Go ≡ cond b (Some answer.Go) None
    by true b h = cc
    by false true h = refl
    by false false h = refl
other_tells sites tasks kind.Dispatch e t h n = refl
other_tells sites tasks kind.Call e t h n = refl
other_tells sites tasks kind.Push e t h n = refl
other_tells sites tasks kind.Wait e t h n = refl
other_tells sites tasks kind.End e t h n = refl
other_tells sites tasks kind.Fault e t h n = refl
other_tells sites tasks kind.Done e t h n = refl
other_tells sites tasks kind.Deadlock e t h n = refl
other_tells sites tasks kind.NoProcessor e t h n = refl
other_tells sites tasks kind.Limit e t h n = refl
other_tells sites tasks k e t h n = simp n

other_asks : (tasks : ℕ) (k : EntryKind) (e : Entry) (t : ℕ) → IsSayable tasks k e → (t == e.task) ≡ false → asks t k e ≡ false
other_asks tasks kind.Begin e t h n = absurd h
other_asks tasks kind.Dispatch e t h n = refl
other_asks tasks kind.Admit e t h n = refl
other_asks tasks kind.Push e t h n = refl
other_asks tasks kind.Done e t h n = refl
other_asks tasks kind.Deadlock e t h n = refl
other_asks tasks kind.NoProcessor e t h n = refl
other_asks tasks kind.Limit e t h n = refl
other_asks tasks k e t h n = simp n

later_same : (x : Option Answer) (b : Bool) (old : Option Answer) → later x b old ≡ answer_after x b old
later_same (Some x) b old = refl
later_same None true old = refl
later_same None false old = refl

module _ (sites : List Site) (j : Journal) (answers : List (Option Answer)) (h : (t : ℕ) (d : Option Answer) → t < length answers → get_or answers t d ≡ answer_to sites t j) (e : Entry) (task : e.task < length answers) (say : IsSayable (length answers) e.kind e) where
  abbrev own : Option Answer
  own = answer_after (says sites e.kind e) (takes_up e.kind) (get_or answers e.task None)

  own_set : List (Option Answer)
  own_set = set answers e.task own

  after_own : answer_to sites e.task (j ++ e ∷ []) ≡ own
  after_own =
      answer_push sites e.task j e
      ∙ ap (λ x. later x (asks e.task e.kind e) (answer_to sites e.task j)) (own_tells sites (length answers) e.kind e say)
      ∙ ap (λ b. later (says sites e.kind e) b (answer_to sites e.task j)) (own_asks (length answers) e.kind e say)
      ∙ ap (λ o. later (says sites e.kind e) (takes_up e.kind) o) (sym (h e.task None task))
      ∙ later_same (says sites e.kind e) (takes_up e.kind) (get_or answers e.task None)

  after_other : (t : ℕ) (d : Option Answer) → t < length answers → (t == e.task) ≡ false → is_child e.kind e t ≡ false → answer_to sites t (j ++ e ∷ []) ≡ get_or answers t d
  after_other t d lt n c =
      answer_push sites t j e
      ∙ ap (λ x. later x (asks t e.kind e) (answer_to sites t j)) (other_tells sites (length answers) e.kind e t say n ∙ ap (λ b. cond b (Some answer.Go) None) c)
      ∙ ap (λ b. later None b (answer_to sites t j)) (other_asks (length answers) e.kind e t say n)
      ∙ sym (h t d lt)

  set_own : (t : ℕ) (d : Option Answer) → t < length answers → is_child e.kind e t ≡ false → get_or (set answers e.task own) t d ≡ answer_to sites t (j ++ e ∷ [])
  set_own t d lt c = by (t == e.task) refl
    where
      by : (b : Bool) → (t == e.task) ≡ b → get_or (set answers e.task own) t d ≡ answer_to sites t (j ++ e ∷ [])
      by true g =
          let same : t ≡ e.task = eqb-true t e.task g in
          subst (λ v. get_or (set answers e.task own) v d ≡ answer_to sites v (j ++ e ∷ [])) (sym same) (get_or-set_same answers e.task own d task ∙ sym after_own)
      by false g =
          get_or-set_other answers e.task t own d (λ s. no_both (t == e.task) (eq-eqb t e.task s) g) ∙ sym (after_other t d lt g c)

  told_by : (k : EntryKind) → e.kind ≡ k → (t : ℕ) (d : Option Answer) → t < length answers → get_or (child_told k e (set answers e.task own)) t d ≡ answer_to sites t (j ++ e ∷ [])
  told_by kind.Spawn is t d lt = by (t == number e.a) refl
    where
      say' : number e.a < length answers
      say' = subst (λ k. IsSayable (length answers) k e) is say

      child : (x : Bool) → (number e.a == e.task) ≡ x → answer_to sites (number e.a) (j ++ e ∷ []) ≡ Some answer.Go
      child true g =
          let same : number e.a ≡ e.task = eqb-true (number e.a) e.task g in
          ap (λ v. answer_to sites v (j ++ e ∷ [])) same ∙ after_own ∙ ap (λ k. answer_after (says sites k e) (takes_up k) (get_or answers e.task None)) is
      child false g =
          answer_push sites (number e.a) j e
          ∙ ap (λ x. later x (asks (number e.a) e.kind e) (answer_to sites (number e.a) j)) (other_tells sites (length answers) e.kind e (number e.a) say g ∙ ap (λ k. cond (is_child k e (number e.a)) (Some answer.Go) None) is ∙ ap (λ b. cond b (Some answer.Go) None) (self_test (number e.a)))

      by : (b : Bool) → (t == number e.a) ≡ b → get_or (set (set answers e.task own) (number e.a) (Some answer.Go)) t d ≡ answer_to sites t (j ++ e ∷ [])
      by true g =
          let same : t ≡ number e.a = eqb-true t (number e.a) g in
          let lt' : number e.a < length (set answers e.task own) = rw (length-set answers e.task own) say' in
          subst (λ v. get_or (set (set answers e.task own) (number e.a) (Some answer.Go)) v d ≡ answer_to sites v (j ++ e ∷ [])) (sym same) (get_or-set_same (set answers e.task own) (number e.a) (Some answer.Go) d lt' ∙ sym (child (number e.a == e.task) refl))
      by false g =
          get_or-set_other (set answers e.task own) (number e.a) t (Some answer.Go) d (λ s. no_both (t == number e.a) (eq-eqb t (number e.a) s) g) ∙ set_own t d lt (ap (λ k. is_child k e t) is ∙ g)
  told_by k is t d lt = set_own t d lt (ap (λ k. is_child k e t) is)

child_length : (k : EntryKind) (e : Entry) (answers : List (Option Answer)) → length (child_told k e answers) ≡ length answers
child_length kind.Spawn e answers = length-set answers (number e.a) (Some answer.Go)
child_length k e answers = refl

pub answers_length : (sites : List Site) (e : Entry) (answers : List (Option Answer)) → length (answers_after sites e.kind e answers) ≡ length answers
answers_length sites e answers =
    child_length e.kind e (set answers e.task (answer_after (says sites e.kind e) (takes_up e.kind) (get_or answers e.task None))) ∙ length-set answers e.task (answer_after (says sites e.kind e) (takes_up e.kind) (get_or answers e.task None))

-- ---- all of it
pub tells_push : (sites : List Site) (j : Journal) (ticks : ℕ) (spent : List ℕ) (answers : List (Option Answer)) (bytes : ℕ) (failed ended : Bool) (e : Entry) → Tells sites j ticks spent answers bytes failed ended → e.task < length spent → e.task < length answers → IsSayable (length answers) e.kind e → e.ticks ≤ 4294967295 → Tells sites (j ++ e ∷ []) (ticks + e.ticks) (set spent e.task (spent_after e.kind e (get_or spent e.task 0))) (answers_after sites e.kind e answers) (used_by e.kind e bytes) (fails_by e.kind e failed) (ended || ends_first e.kind e)
tells_push sites j ticks spent answers bytes failed ended e h lt la say few = record {
  ticks = ap (λ n. n + e.ticks) h.ticks ∙ sym (ticks_push j e);
  most =
      let m = h.most in
      omega (arith, length-append j (e ∷ []));
  spent = spent_now;
  less = λ t. rw (used_push t j e, ticks_push j e) (less_push (dispatches e.kind e t) (e.task == t) (used t j) e.ticks (all_ticks j) (h.less t));
  answers = λ t d l. told_by sites j answers h.answers e la say e.kind refl t d (subst (λ n. t < n) (answers_length sites e answers) l);
  bytes = ap (used_by e.kind e) h.bytes ∙ sym (bytes_push j e);
  failed = ap (fails_by e.kind e) h.failed ∙ sym (failed_push j e);
  ended = ap (λ b. b || ends_first e.kind e) h.ended ∙ sym (ended_push j e);
}
  where
    spent_now : (t d : ℕ) → t < length (set spent e.task (spent_after e.kind e (get_or spent e.task 0))) → get_or (set spent e.task (spent_after e.kind e (get_or spent e.task 0))) t d ≡ used t (j ++ e ∷ [])
    spent_now t d l = by (t == e.task) refl
      where
        x : ℕ
        x = spent_after e.kind e (get_or spent e.task 0)

        within : t < length spent
        within = subst (λ n. t < n) (length-set spent e.task (spent_after e.kind e (get_or spent e.task 0))) l

        by : (b : Bool) → (t == e.task) ≡ b → get_or (set spent e.task (spent_after e.kind e (get_or spent e.task 0))) t d ≡ used t (j ++ e ∷ [])
        by true g =
            let same : t ≡ e.task = eqb-true t e.task g in
            subst (λ v. get_or (set spent e.task (spent_after e.kind e (get_or spent e.task 0))) v d ≡ used v (j ++ e ∷ [])) (sym same) (get_or-set_same spent e.task (spent_after e.kind e (get_or spent e.task 0)) d lt ∙ ap (spent_after e.kind e) (h.spent e.task 0 lt) ∙ sym (used_push e.task j e ∙ own_now e.kind e (used e.task j)))
        by false g =
            let back : (e.task == t) ≡ false = apart (e.task == t) refl in
            get_or-set_other spent e.task t (spent_after e.kind e (get_or spent e.task 0)) d (λ s. no_both (t == e.task) (eq-eqb t e.task s) g) ∙ h.spent t d within ∙ sym (used_push t j e ∙ other_spent e.kind e t (used t j) back g)
          where
            apart : (b : Bool) → (e.task == t) ≡ b → (e.task == t) ≡ false
            apart true s = absurd (no_both (t == e.task) (eq-eqb t e.task (sym (eqb-true e.task t s))) g)
            apart false s = s

-- ---- a run that opens
answer_first : (sites : List Site) (opts : Options) → answer_to sites 0 (begin opts ∷ []) ≡ Some answer.Go
unfolding answer_to
answer_first sites opts = refl

answer_other : (sites : List Site) (opts : Options) (t : ℕ) → (t == 0) ≡ false → answer_to sites t (begin opts ∷ []) ≡ None
unfolding answer_to
answer_other sites opts t h = simp h

not_first : (t : ℕ) (b : Bool) → (suc t == 0) ≡ b → b ≡ false
not_first t true h = absurd (clash (eqb-true (suc t) 0 h))
  where
    clash : suc t ≡ 0 → ⊥
    clash e = cc
not_first t false h = refl

used_begin : (opts : Options) (t : ℕ) (b : Bool) → (0 == t) ≡ b → used t (begin opts ∷ []) ≡ 0
unfolding used
used_begin opts t true h = simp h
used_begin opts t false h = simp h

sums_begin : (opts : Options) → (all_ticks (begin opts ∷ []) ≡ 0) × (bytes_used (begin opts ∷ []) ≡ 0) × (has_failed (begin opts ∷ []) ≡ false) × (first_ended (begin opts ∷ []) ≡ false)
unfolding all_ticks bytes_used has_failed first_ended
sums_begin opts = (refl, refl, refl, refl)

pub tells_begin : (sites : List Site) (opts : Options) (n : ℕ) → 1 ≤ n → Tells sites (begin opts ∷ []) 0 (replicate n 0) (set (replicate n None) 0 (Some answer.Go)) 0 false false
tells_begin sites opts n some = record {
  ticks = sym (sums_begin opts).0;
  most = omega arith;
  spent = λ t d lt. get_or-replicate n t 0 d (subst (λ k. t < k) (length-replicate n 0) lt) ∙ sym (used_begin opts t (0 == t) refl);
  less = λ t. rw (used_begin opts t (0 == t) refl) (omega arith);
  answers = by;
  bytes = sym (sums_begin opts).1;
  failed = sym (sums_begin opts).2;
  ended = sym (sums_begin opts).3;
}
  where
    nobody : List (Option Answer)
    nobody = replicate n None

    count : length (set (replicate n None) 0 (Some answer.Go)) ≡ n
    count = length-set (replicate n None) 0 (Some answer.Go) ∙ length-replicate n None

    by : (t : ℕ) (d : Option Answer) → t < length (set (replicate n None) 0 (Some answer.Go)) → get_or (set (replicate n None) 0 (Some answer.Go)) t d ≡ answer_to sites t (begin opts ∷ [])
    by zero d lt = get_or-set_same (replicate n None) 0 (Some answer.Go) d (rw (length-replicate {A = Option Answer} n None) (omega arith)) ∙ sym (answer_first sites opts)
    by (suc t) d lt =
        let l : suc t < n = subst (λ k. suc t < k) count lt in
        get_or-set_other (replicate n None) 0 (suc t) (Some answer.Go) d (λ e. cc) ∙ get_or-replicate n (suc t) None d l ∙ sym (answer_other sites opts (suc t) (not_first t (suc t == 0) refl))

-- ---- the end of a run
pub goes_before : (j : Journal) (e : Entry) → is_over (j ++ e ∷ []) ≡ false → is_over j ≡ false
unfolding is_over
goes_before j e h = by (list_any (λ e. is_ending e.kind) j) (sym (list_any-append (λ e. is_ending e.kind) j (e ∷ [])) ∙ h)
  where
    by : (b : Bool) → (b || list_any (λ e. is_ending e.kind) (e ∷ [])) ≡ false → b ≡ false
    by true h = cc
    by false h = refl

pub over_push : {A : Type 0} (j : Journal) (e : Entry) → is_ending e.kind ≡ true → is_over (j ++ e ∷ []) ≡ false → A
unfolding is_over
over_push j e t h = by (list_any (λ e. is_ending e.kind) j) (is_ending e.kind) (sym (list_any-append _ j (e ∷ [])) ∙ h) t
  where
    by : {A : Type 0} (b c : Bool) → (b || (c || false)) ≡ false → c ≡ true → A
    by true c h t = cc
    by false true h t = cc
    by false false h t = cc

-- ---- with one entry more the run is over where that ends it
pub ends_push : (j : Journal) (e : Entry) → is_over j ≡ false → is_ending e.kind ≡ is_over (j ++ e ∷ [])
unfolding is_over
ends_push j e h = sym (any_push (λ e. is_ending e.kind) j e ∙ ap (λ b. b || is_ending e.kind) h)

pub ends_so : (j : Journal) (e : Entry) → is_ending e.kind ≡ true → true ≡ is_over (j ++ e ∷ [])
unfolding is_over
ends_so j e h = sym (any_push (λ e. is_ending e.kind) j e ∙ ap (λ b. is_over j || b) h ∙ last_true (is_over j))
  where
    last_true : (b : Bool) → (b || true) ≡ true
    last_true true = refl
    last_true false = refl

pub ends_begin : (opts : Options) → false ≡ is_over (begin opts ∷ [])
unfolding is_over
ends_begin opts = refl
