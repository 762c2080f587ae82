-- A lock and a seat as contracts see them.
use Rattle.std.specs.Prelude.{◌≡◌, ℕ, ◌%◌, Bool, true, false, List, [], ◌∷◌, Option, Some, None}
use Rattle.atomic_table.specs.Seated.{TableId}
use Rattle.uc_lock.specs.Journals.{made_by}
use Rattle.uc_lock.specs.Rule.{wraps}
use Rattle.uc_lock.specs.declared.view.Terms.{Terms}
use Rattle.uc_lock.specs.declared.view.Joined.{Joined}
use Rattle.uc_lock.specs.declared.view.Stage.{Stage}
use Rattle.uc_lock.specs.declared.view.Stage.TheVariants.{Idle, Waiting, Turn}

-- a lock: which one it is, and what it was made with
pub record Lock (K I : Type 0) : Type 0 where
  pub id : TableId
  pub terms : Terms K I

-- a seat: of which lock it is, what that was made with, the seat's number, whether it has the value out, the list that it has seen, and its own items
pub record Sitting (K I : Type 0) : Type 0 where
  pub lock : TableId
  pub terms : Option (Terms K I)
  pub number : ℕ
  pub holds : Bool
  pub seen : List (I × ℕ)
  pub own : List (I × ℕ)

abbrev pub has_turn : Stage → Bool
has_turn Idle = false
has_turn (Waiting t) = false
has_turn (Turn t) = true

-- Between two calls a seat does not wait. It has no slot, or with the turn the slot, which is empty.
abbrev pub Rests : {V : Type 0} → ℕ → List (ℕ × Option V) → Stage → Type 0
Rests ticket slots Idle = slots ≡ []
Rests ticket slots (Waiting t) = false ≡ true
Rests ticket slots (Turn t) = (slots ≡ (0, None) ∷ []) × (ticket ≡ t % wraps)

module _ {K I : Type 0} where
  -- the seat is one of this lock
  abbrev pub IsSeatOf : Lock K I → Sitting K I → Type 0
  IsSeatOf l s = (s.lock ≡ l.id) × (s.terms ≡ Some l.terms)

  -- a seat of this lock as it is made
  abbrev pub fresh : Lock K I → ℕ → Sitting K I
  fresh l i = record { lock = l.id; terms = Some l.terms; number = i; holds = false; seen = l.terms.opening; own = [] }

  -- a seat that took a value with this list
  abbrev pub taken : List (I × ℕ) → Sitting K I → Sitting K I
  taken journal s = record s { holds = true; seen = journal }

  -- a seat that gave a value with this list back
  abbrev pub given : List (I × ℕ) → Sitting K I → Sitting K I
  given journal s = record s { holds = false; seen = journal; own = made_by s.number journal }

  -- what is kept of a seat that was joined to another
  abbrev pub summary : Sitting K I → Joined I
  summary s = record { number = s.number; seen = s.seen; own = s.own }
