-- The rule of the lock's table, and what each move does to the view of the seat that makes it.
use Rattle.std.specs.Prelude.{◌≡◌, ◌≢◌, ℕ, suc, ◌+◌, ◌%◌, ◌<◌, ◌≤◌, ◌⊎◌, true, false, List, [], ◌∷◌, length, map, nat_eq, Option, Some, None}
use Rattle.std.specs.List.{IsDistinct}
use mathlib.Core.Option as opt
use lib.ListN.{get_elem?}
use Rattle.atomic_table.specs.Table.{State, Me, Step}
use Rattle.uc_lock.specs.Journals.{Begins, made_by, GrownBelow}
use Rattle.uc_lock.specs.declared.view.Terms.{Terms}
use Rattle.uc_lock.specs.declared.view.Joined.{Joined}
use Rattle.uc_lock.specs.declared.view.View.{View}
use Rattle.uc_lock.specs.declared.view.Stage.{Stage}
use Rattle.uc_lock.specs.declared.view.Stage.TheVariants.{Idle, Waiting, Turn}

-- a word has this many values, so a ticket's word is its number modulo this
abbrev pub wraps : ℕ
wraps = 18446744073709551616

-- a lock has at most this many seats
abbrev pub most_seats : ℕ
most_seats = 64

-- the number of tickets that are out with one seat
abbrev pub out : Stage → ℕ
out Idle = 0
out (Waiting t) = 1
out (Turn t) = 1

abbrev pub HasTicket : ℕ → Stage → Type 0
HasTicket t Idle = t ≢ t
HasTicket t (Waiting u) = t ≡ u
HasTicket t (Turn u) = t ≡ u

-- a seat's view, and the slots that it holds
abbrev pub Stance : Type 0 → Type 0 → Type 0 → Type 0
Stance V K I = Me (Option V) (View K I)

module _ {K I : Type 0} where
  -- the view of the seat that `new` keeps, before it splits off the others
  abbrev pub opened : Terms K I → View K I
  opened k = record { stage = Idle; number = 0; terms = Some k; seen = k.opening; own = []; made = 1; spent = false; joined = [] }

  -- the view that a joined seat is left with
  abbrev pub nobody : View K I
  nobody = record { stage = Idle; number = 0; terms = None; seen = []; own = []; made = 0; spent = true; joined = [] }

  abbrev pub with_stage : Stage → View K I → View K I
  with_stage g v = record v { stage = g }

  -- split: the kept seat counts one more that it made
  abbrev pub kept_part : View K I → View K I
  kept_part v = record v { made = suc v.made }

  -- split: the new seat has the next number, and has made nothing
  abbrev pub new_part : View K I → View K I
  new_part v = record { stage = Idle; number = v.made; terms = v.terms; seen = v.seen; own = []; made = 0; spent = false; joined = [] }

  -- join: the number of the other seat, what it had seen, and its own items
  abbrev pub kept_of : View K I → Joined I
  kept_of v = record { number = v.number; seen = v.seen; own = v.own }

  abbrev pub joined_with : View K I → View K I → View K I
  joined_with v w = record v { joined = kept_of w ∷ v.joined }

  -- the numbers of the seats that were joined to this one
  abbrev pub gone_from : View K I → List ℕ
  gone_from v = map (λ e. e.number) v.joined

  -- every other seat was joined to this one
  abbrev pub HasAll : ℕ → View K I → Type 0
  HasAll seats v = suc (length v.joined) ≡ seats

  -- how many tickets are out
  abbrev pub tickets : List (View K I) → ℕ
  tickets [] = 0
  tickets (v ∷ vs) = out v.stage + tickets vs

  -- what the seat i knows of the list, unless it was joined
  abbrev pub Knows : Terms K I → List (I × ℕ) → ℕ → View K I → Type 0
  Knows k journal i v = (v.spent ≡ false) → (v.number ≡ i) × (v.terms ≡ Some k) × Begins v.seen journal × (v.own ≡ made_by i journal)

  -- what the view keeps of a seat that was joined to it fits the list, and that seat is spent
  abbrev pub Remembers : List (I × ℕ) → List (View K I) → View K I → Type 0
  Remembers journal views v = (j : ℕ) (e : Joined I) → get_elem? v.joined j ≡ opt.some e
      → ((u : View K I) × (get_elem? views e.number ≡ opt.some u) × (u.spent ≡ true)) × Begins e.seen journal × (e.own ≡ made_by e.number journal)

  module _ {V : Type 0} where
    -- draw: the ticket is the word found, up to whole turns of 2 ^ 64
    abbrev pub Draws : Step (Option V) → Stance V K I → ℕ → Stance V K I → Type 0
    Draws st m r n = (t : ℕ) × (r ≡ t % wraps) × (n ≡ (with_stage (Waiting t) m.0, m.1))

  module _ {V : Type 0} (journal_of : V → List (I × ℕ)) where
    -- store: the seat gave the value x back, and has seen its whole list
    abbrev pub Gives : Step (Option V) → Stance V K I → ℕ → Stance V K I → Type 0
    Gives st m r n = (x : V) → m.1 ≡ (0, Some x) ∷ []
        → n ≡ (record m.0 { stage = Idle; seen = journal_of x; own = made_by m.0.number (journal_of x) }, [])

  module _ {V : Type 0} (key_of : V → K) (journal_of : V → List (I × ℕ)) where
    -- what a seat that finds the value x learns of it
    pub record Finds (v : View K I) (x : V) : Type 0 where
      pub key : (k : Terms K I) → v.terms ≡ Some k → key_of x ≡ k.key
      pub makers : (k : Terms K I) → v.terms ≡ Some k → GrownBelow k.seats k.opening (journal_of x)
      pub begins : Begins v.seen (journal_of x)
      pub mine : made_by v.number (journal_of x) ≡ v.own

    -- the seat has the turn of the ticket t, and the slot with a value that fits what it knows
    abbrev pub Takes : ℕ → Stance V K I → Stance V K I → Type 0
    Takes t m n = (x : V) × Finds m.0 x × (n ≡ (record m.0 { stage = Turn t; seen = journal_of x }, (0, Some x) ∷ m.1))

    -- load: the seat has the turn exactly where the word is its ticket's
    abbrev pub Looks : Step (Option V) → Stance V K I → ℕ → Stance V K I → Type 0
    Looks st m r n = (t : ℕ) → m.0.stage ≡ Waiting t → (r ≡ t % wraps → Takes t m n) × (r ≢ t % wraps → n ≡ m)

    -- the value fits what the seat knows, and what it keeps of the seats joined to it
    abbrev pub Ends : View K I → V → Type 0
    Ends v x = Finds v x × ((j : ℕ) (e : Joined I) → get_elem? v.joined j ≡ opt.some e → Begins e.seen (journal_of x) × (made_by e.number (journal_of x) ≡ e.own))

    -- the value lies in the slot, and no seat has the turn
    abbrev pub IsHome : Terms K I → List (I × ℕ) → State (Option V) (View K I) → Type 0
    IsHome k journal s = ((x : V) × (s.homes ≡ opt.some (Some x) ∷ []) × (journal_of x ≡ journal) × (key_of x ≡ k.key))
        × ((i : ℕ) (v : View K I) (t : ℕ) → get_elem? s.views i ≡ opt.some v → v.stage ≢ Turn t)

    -- the seat with the served ticket has the slot, and has seen the whole list
    abbrev pub IsOut : ℕ → List (I × ℕ) → State (Option V) (View K I) → Type 0
    IsOut served journal s = (i : ℕ) × (v : View K I) × (get_elem? s.views i ≡ opt.some v) × (v.stage ≡ Turn served) × (v.seen ≡ journal) × (v.spent ≡ false)

    -- What holds between any two moves. Tickets are counted without end; the words have them modulo 2 ^ 64.
    -- The tickets that are out differ, lie from `served` up to before `drawn`, and are as many: so they are just these numbers.
    pub record Kept (k : Terms K I) (s : State (Option V) (View K I)) : Type 0 where
      pub drawn : ℕ
      pub served : ℕ
      -- the list of the value, as it was last at home
      pub journal : List (I × ℕ)
      pub words : s.words ≡ (drawn % wraps) ∷ (served % wraps) ∷ []
      pub few : length s.views ≤ most_seats
      pub within : length s.views ≤ k.seats
      pub counted : drawn ≡ served + tickets s.views
      pub ranged : (i : ℕ) (v : View K I) (t : ℕ) → get_elem? s.views i ≡ opt.some v → HasTicket t v.stage → (served ≤ t) × (t < drawn)
      pub apart : (i j : ℕ) (v w : View K I) (t : ℕ) → get_elem? s.views i ≡ opt.some v → get_elem? s.views j ≡ opt.some w → HasTicket t v.stage → HasTicket t w.stage → i ≡ j
      pub turn : (i : ℕ) (v : View K I) (t : ℕ) → get_elem? s.views i ≡ opt.some v → v.stage ≡ Turn t → t ≡ served
      pub known : (i : ℕ) (v : View K I) → get_elem? s.views i ≡ opt.some v → Knows k journal i v
      -- a seat that is not made yet has no items
      pub unmade : (m : ℕ) → length s.views ≤ m → m < k.seats → made_by m journal ≡ []
      pub makers : GrownBelow k.seats k.opening journal
      -- only the seat 0 splits, and it knows how many seats there are
      pub splitter : (i : ℕ) (v : View K I) → get_elem? s.views i ≡ opt.some v → 0 < v.made → (i ≡ 0) × (v.made ≡ length s.views)
      pub idle : (i : ℕ) (v : View K I) → get_elem? s.views i ≡ opt.some v → v.spent ≡ true → v.stage ≡ Idle
      pub merged : (i : ℕ) (v : View K I) → get_elem? s.views i ≡ opt.some v → Remembers journal s.views v
      pub distinct : (i : ℕ) (v : View K I) → get_elem? s.views i ≡ opt.some v → IsDistinct nat_eq (gone_from v)
      pub place : IsHome k journal s ⊎ IsOut served journal s
