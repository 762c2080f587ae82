-- What stands at an object when an entry is appended.
use Rattle.std.proofs.Common.{◌≡◌, ℕ, zero, suc, ◌==◌, ◌<◌, Bool, true, false, cond, not, List, [], ◌∷◌, ◌++◌, Some, length, get_or, refl, ap, ◌∙◌, arith, append-nil}
use Rattle.std.specs.Option.{option_to_list}
use Rattle.std.specs.List.{filter}
use Rattle.uc_entry.specs.declared.entry.Entry.{Entry}
use Rattle.uc_entry.specs.declared.entry.EntryKind.{EntryKind}
use Rattle.uc_entry.specs.declared.entry.EntryKind.TheVariants as kind
use Rattle.uc_acts.specs.Fit.{IsFit, AreFit}
use Rattle.uc_acts.specs.Journal.{Journal, number, holds, where_true, inside, lets_in, moves, entries_at}
use Rattle.uc_acts.specs.Queues.{waiting, stacked, takes}
use Rattle.uc_acts.specs.Doors.{open_at, blocked_at, blocks}
use Rattle.uc_acts.proofs.Seats.{inside_same, inside_other, waiting_same, waiting_other, open_after, open_same, open_other, stacked_same, stacked_other, blocked_same, blocked_other}
use Rattle.uc_explain.specs.Shown.{shown, accept_of, in_order}
use Rattle.uc_explain.specs.Steps.{after, accepting_by, nothing, inside_then, waiting_then, stacked_then, blocked_then}
use Rattle.uc_explain.proofs.OrderLemmas.{in_order_then}
use Rattle.uc_explain.proofs.SameLemmas.{made_same}

all_kept : {A : Type 0} (xs : List A) → filter (λ x. true) xs ≡ xs
all_kept [] = refl
all_kept (x ∷ xs) = ap (λ l. x ∷ l) (all_kept xs)

none_kept : {A : Type 0} (xs : List A) → filter (λ x. false) xs ≡ []
none_kept [] = refl
none_kept (x ∷ xs) = none_kept xs

accept_stays : (xs : List Entry) → accept_of (filter (λ x. true) xs ++ []) ≡ accept_of xs
accept_stays xs = ap accept_of (append-nil (filter (λ x. true) xs) ∙ all_kept xs)

accept_step : (k : EntryKind) (e : Entry) (xs : List Entry) → accept_of (open_after k e xs) ≡ accepting_by k e (accept_of xs)
accept_step kind.Accept e xs = by (holds 0 e.d)
  where
    by : (b : Bool) → accept_of (filter (λ x. not b) xs ++ option_to_list (where_true b e)) ≡ cond b (Some (number e.a, number e.b)) (accept_of xs)
    by true = ap (λ l. accept_of (l ++ e ∷ [])) (none_kept xs)
    by false = accept_stays xs
accept_step kind.Admit e xs = ap (λ l. accept_of (l ++ [])) (none_kept xs)
accept_step k e xs = accept_stays xs

pub shown_same : (o : ℕ) (j : Journal) (e : Entry) → (e.object == o) ≡ true → shown o (j ++ e ∷ []) ≡ after e (shown o j)
shown_same o j e h =
    made_same (in_order (λ t. t) (inside o (j ++ e ∷ []))) (inside_then e (in_order (λ t. t) (inside o j))) (waiting o (j ++ e ∷ [])) (waiting_then e (waiting o j)) (stacked o (j ++ e ∷ [])) (stacked_then e (stacked o j)) (in_order (λ b. b.1) (blocked_at o (j ++ e ∷ []))) (blocked_then e (in_order (λ b. b.1) (blocked_at o j))) (accept_of (open_at o (j ++ e ∷ []))) (accepting_by e.kind e (accept_of (open_at o j)))
    (ap (in_order (λ t. t)) (inside_same o j e h) ∙ in_order_then (λ t. t) (λ t. not (moves e.kind e t)) (inside o j) (lets_in e.kind e))
    (waiting_same o j e h)
    (stacked_same o j e h)
    (ap (in_order (λ b. b.1)) (blocked_same o j e h) ∙ in_order_then (λ b. b.1) (λ b. not (takes e.kind e b.0)) (blocked_at o j) (blocks e.kind e))
    (ap accept_of (open_same o j e h) ∙ accept_step e.kind e (open_at o j))

pub shown_other : (o : ℕ) (j : Journal) (e : Entry) → (e.object == o) ≡ false → shown o (j ++ e ∷ []) ≡ shown o j
shown_other o j e h =
    made_same (in_order (λ t. t) (inside o (j ++ e ∷ []))) (in_order (λ t. t) (inside o j)) (waiting o (j ++ e ∷ [])) (waiting o j) (stacked o (j ++ e ∷ [])) (stacked o j) (in_order (λ b. b.1) (blocked_at o (j ++ e ∷ []))) (in_order (λ b. b.1) (blocked_at o j)) (accept_of (open_at o (j ++ e ∷ []))) (accept_of (open_at o j))
    (ap (in_order (λ t. t)) (inside_other o j e h))
    (waiting_other o j e h)
    (stacked_other o j e h)
    (ap (in_order (λ b. b.1)) (blocked_other o j e h))
    (ap accept_of (open_other o j e h))

pub shown_nothing : (o : ℕ) → shown o [] ≡ nothing
unfolding inside waiting stacked blocked_at open_at entries_at
shown_nothing o = refl

pub fit_at : (j : Journal) (k : ℕ) (d : Entry) → AreFit j → k < length j → IsFit (get_or j k d)
fit_at [] k d h lt = absurd (omega (arith, lt))
fit_at (e ∷ j) zero d h lt = h.0
fit_at (e ∷ j) (suc k) d h lt = fit_at j k d h.1 (omega (arith, lt))
