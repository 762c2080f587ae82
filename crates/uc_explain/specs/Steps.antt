-- What one entry more does to what stands at its object.
use Rattle.std.specs.Prelude.{ℕ, ℤ, not, List, [], ◌∷◌, ◌++◌, Option, Some, None, if◌then◌else◌}
use Rattle.std.specs.Option.{option_to_list}
use Rattle.std.specs.List.{filter}
use Rattle.uc_entry.specs.declared.entry.Entry.{Entry}
use Rattle.uc_entry.specs.declared.entry.EntryKind.{EntryKind}
use Rattle.uc_entry.specs.declared.entry.EntryKind.TheVariants as kind
use Rattle.uc_acts.specs.Journal.{number, holds, lets_in, moves}
use Rattle.uc_acts.specs.Queues.{calls, takes, stacks, admits}
use Rattle.uc_acts.specs.Doors.{blocks}
use Rattle.uc_explain.specs.Shown.{Shown, placed}

abbrev pub placed_if : {A : Type 0} → (A → ℕ) → Option A → List A → List A
placed_if key None xs = xs
placed_if key (Some x) xs = placed key x xs

-- the waits, from their conditions and from the tasks with their numbers
abbrev pub waits_of : List ℕ → List (ℕ × ℤ) → List (ℕ × ℕ × ℤ)
waits_of [] ws = []
waits_of (c ∷ cs) [] = []
waits_of (c ∷ cs) (w ∷ ws) = (w.0, c, w.1) ∷ waits_of cs ws

abbrev pub inside_then : Entry → List ℕ → List ℕ
inside_then e ts = placed_if (λ t. t) (lets_in e.kind e) (filter (λ t. not (moves e.kind e t)) ts)

abbrev pub waiting_then : Entry → List (ℕ × ℕ) → List (ℕ × ℕ)
waiting_then e ws = filter (λ w. not (takes e.kind e w.0)) ws ++ option_to_list (calls e.kind e)

abbrev pub stacked_then : Entry → List ℕ → List ℕ
stacked_then e ts = option_to_list (stacks e.kind e) ++ filter (λ t. not (admits e.kind e t)) ts

-- those that an entry does not take
abbrev pub waits_kept : Entry → List (ℕ × ℕ × ℤ) → List (ℕ × ℕ × ℤ)
waits_kept e bs = filter (λ b. not (takes e.kind e b.0)) bs

abbrev pub blocked_then : Entry → List (ℕ × ℕ × ℤ) → List (ℕ × ℕ × ℤ)
blocked_then e bs = placed_if (λ b. b.1) (blocks e.kind e) (waits_kept e bs)

abbrev pub accepting_by : EntryKind → Entry → Option (ℕ × ℕ) → Option (ℕ × ℕ)
accepting_by kind.Accept e a = if holds 0 e.d then Some (number e.a, number e.b) else a
accepting_by kind.Admit e a = None
accepting_by _ e a = a

-- what stands at the object of an entry behind it
abbrev pub after : Entry → Shown → Shown
after e s = record {
  inside = inside_then e s.inside;
  waiting = waiting_then e s.waiting;
  stacked = stacked_then e s.stacked;
  blocked = blocked_then e s.blocked;
  accepting = accepting_by e.kind e s.accepting;
}

abbrev pub nothing : Shown
nothing = record { inside = []; waiting = []; stacked = []; blocked = []; accepting = None }
