-- DestroyBusy by what is left once the task is let in.
use Rattle.std.proofs.Common.{◌≡◌, ℕ, ◌==◌, ◌||◌, Bool, true, false, not, List, [], ◌∷◌, ◌++◌, refl, sym, ap, ◌∙◌, append-nil}
use Rattle.std.specs.List.{filter, list_any}
use Rattle.uc_acts.specs.Journal.{Journal}
use Rattle.uc_acts.specs.Queues.{waiting, stacked, is_nobody}
use Rattle.uc_acts.specs.Doors.{blocked_at, has_others}
use Rattle.uc_acts.specs.Acts.{admit}
use Rattle.uc_acts.proofs.Seats.{blocked_same}
use Rattle.uc_acts.proofs.Moves.{waiting_now, stacked_now}
use Rattle.uc_acts.proofs.SoundLemmas.{self_test}

-- whether a task is in a queue of an object
abbrev pub is_busy : ℕ → Journal → Bool
is_busy o j =
    not (is_nobody (waiting o j)) || (not (is_nobody (stacked o j)) || not (is_nobody (blocked_at o j)))

any_left : {A : Type 0} (p : A → Bool) (xs : List A) → list_any p xs ≡ not (is_nobody (filter p xs))
any_left p [] = refl
any_left p (x ∷ xs) = by (any_left p xs) (p x) refl
  where
    by : list_any p xs ≡ not (is_nobody (filter p xs)) → (b : Bool) → p x ≡ b → list_any p (x ∷ xs) ≡ not (is_nobody (filter p (x ∷ xs)))
    by ih true e = simp e
    by ih false e = simp (e, ih)

-- before a task is let in, others are in the queues exactly where the queues are not empty after it
pub busy_after : (j : Journal) (p u o way clause : ℕ) → has_others o u j ≡ is_busy o (j ++ admit p u o way clause ∷ [])
busy_after j p u o way clause =
    let e = admit p u o way clause in
    let a = any_left (λ w. not (w.0 == u)) (waiting o j) ∙ ap (λ l. not (is_nobody l)) (sym (waiting_now j e ∙ append-nil _)) in
    let b = any_left (λ s. not (s == u)) (stacked o j) ∙ ap (λ l. not (is_nobody l)) (sym (stacked_now j e)) in
    let c = any_left (λ w. not (w.0 == u)) (blocked_at o j) ∙ ap (λ l. not (is_nobody l)) (sym (blocked_same o j e (self_test o) ∙ append-nil _)) in
    rw (a, b, c)
