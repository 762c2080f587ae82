-- What stands at an object, in the order in which it is shown.
use Rattle.std.specs.Prelude.{ℕ, ℤ, ◌&&◌, nat_eq, nat_lt, Bool, List, [], ◌∷◌, Option, Some, None, if◌then◌else◌}
use Rattle.std.specs.Ordering.{int_eq}
use Rattle.std.specs.Cmp.Lexicographic.{pointwise}
use Rattle.std.specs.Option.{option_eq}
use Rattle.std.specs.List.{fold}
use Rattle.uc_entry.specs.declared.entry.Entry.{Entry}
use Rattle.uc_acts.specs.Journal.{Journal, number, inside}
use Rattle.uc_acts.specs.Queues.{waiting, stacked}
use Rattle.uc_acts.specs.Doors.{blocked_at, open_at}

-- x before the first of a list that has a greater number
abbrev pub placed : {A : Type 0} → (A → ℕ) → A → List A → List A
placed key x [] = x ∷ []
placed key x (y ∷ ys) = if nat_lt (key x) (key y) then x ∷ y ∷ ys else y ∷ placed key x ys

-- a list in order of its numbers; what has one number keeps its order
abbrev pub in_order : {A : Type 0} → (A → ℕ) → List A → List A
in_order key xs = fold (λ ys x. placed key x ys) [] xs

-- the site and the mask of an accept
abbrev pub accept_of : List Entry → Option (ℕ × ℕ)
accept_of [] = None
accept_of (e ∷ es) = Some (number e.a, number e.b)

-- who is inside, in order of their numbers; who waits, each with the member, oldest first; the stack, newest first; who is
-- blocked, each with the condition and the number given, in order of the conditions, and of one condition oldest first; and the
-- accept that is open
pub record Shown : Type 0 where
  pub inside : List ℕ
  pub waiting : List (ℕ × ℕ)
  pub stacked : List ℕ
  pub blocked : List (ℕ × ℕ × ℤ)
  pub accepting : Option (ℕ × ℕ)

-- what stands at object o
abbrev pub shown : ℕ → Journal → Shown
shown o j = record {
  inside = in_order (λ t. t) (inside o j);
  waiting = waiting o j;
  stacked = stacked o j;
  blocked = in_order (λ b. b.1) (blocked_at o j);
  accepting = accept_of (open_at o j);
}

abbrev pub same_pair : ℕ × ℕ → ℕ × ℕ → Bool
same_pair p q = nat_eq p.0 q.0 && nat_eq p.1 q.1

abbrev pub same_wait : ℕ × ℕ × ℤ → ℕ × ℕ × ℤ → Bool
same_wait p q = nat_eq p.0 q.0 && (nat_eq p.1 q.1 && int_eq p.2 q.2)

-- whether all of it is the same
abbrev pub is_same : Shown → Shown → Bool
is_same s t =
    pointwise nat_eq s.inside t.inside && (pointwise same_pair s.waiting t.waiting && (pointwise nat_eq s.stacked t.stacked && (pointwise same_wait s.blocked t.blocked && option_eq same_pair s.accepting t.accepting)))
