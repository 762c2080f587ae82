-- What is pending at each task, as lists, and what a raise and a poll do to them.
use Rattle.std.specs.Prelude.{ℕ, ℤ, Bool, List, [], ◌∷◌, ◌++◌, slice_index_or, slice_set, nat_lt, if◌then◌else◌, length}
use Rattle.uc_tree.specs.declared.limits.TheConstants.{PENDING_EVENTS}
use Rattle.uc_acts.specs.Pending.{drop_first}
use Rattle.uc_tree.specs.SiteOffers.{has_bit}

-- an event that was raised, by its number, with its two fields
abbrev pub Event : Type 0
Event = ℕ × ℤ × ℤ

-- what is pending at a task, oldest first; nothing at a task that is not known
abbrev pub pending_at : List (List Event) → ℕ → List Event
pending_at all t = slice_index_or all t []

-- the events of all tasks where those of one task are now these
abbrev pub with_pending : List (List Event) → ℕ → List Event → List (List Event)
with_pending all t es = slice_set all t es

-- whether one more event may be pending
abbrev pub has_room : List Event → Bool
has_room es = nat_lt (length es) PENDING_EVENTS

-- the events once this one was raised, where there is room for it
abbrev pub raised : Event → List Event → List Event
raised e es = if has_room es then es ++ e ∷ [] else es

-- all but the oldest in the mask, in their order
abbrev pub without_oldest : ℕ → List Event → List Event
without_oldest mask es = drop_first (λ e. has_bit e.0 mask) es
