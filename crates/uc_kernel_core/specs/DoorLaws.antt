-- The door of an object is what a journal tells of it, entry by entry.
use Rattle.std.specs.Prelude.{◌≡◌, ℕ, pos, ◌==◌, Bool, true, false, not, List, [], ◌∷◌, ◌++◌, map, Option, Some, None}
use Rattle.std.specs.Option.{option_to_list}
use Rattle.std.specs.List.{filter}
use Rattle.uc_tree.specs.Programs.{Site}
use Rattle.uc_links.specs.Lists.{without}
use Rattle.uc_entry.specs.declared.entry.Entry.{Entry}
use Rattle.uc_entry.specs.declared.entry.EntryKind.{EntryKind}
use Rattle.uc_entry.specs.declared.entry.EntryKind.TheVariants as kind
use Rattle.uc_entry.specs.declared.entry.Options.{Options}
use Rattle.uc_acts.specs.Journal.{Journal, begin, number, holds, inside, stacks_acceptor, asking, Cost}
use Rattle.uc_acts.specs.Queues.{waiting}
use Rattle.uc_acts.specs.Doors.{OnStack, open_at, offers, offered, stack_at, taken_off, last_call}
use Rattle.uc_tree.specs.SiteOffers.{clause_for, or_0}
use Rattle.uc_acts.specs.Acts.{admit, admit_failed, push, accept_entry}
use Rattle.uc_mutex.specs.declared.called.Mark.{Mark}
use Rattle.uc_mutex.specs.Doors.{Door, no_door, unmarked, behind, inside_is, call_over}
use Rattle.uc_mutex.specs.Offers.{clauses_of}

abbrev pub pair : OnStack → ℕ × Mark
pair s = (s.task, record { clause = s.clause; met = s.met; failed = s.failed })

-- who is inside, who waits, the stack with its marks and the open accept are the journal's
pub record IsDoor (sites : List Site) (o : ℕ) (j : Journal) (d : Door) : Type 0 where
  pub within : option_to_list d.inside ≡ inside o j
  pub waiting : d.waiting ≡ waiting o j
  pub stacked : d.stacked ≡ map pair (stack_at sites o j)
  pub opened : option_to_list d.opened ≡ map (λ a. clauses_of (offered sites a)) (open_at o j)

-- ---- what each entry does to a door
-- whoever was inside goes on the stack, and may leave an accept open
abbrev pub goes_on_top : ℕ → Option (List ℕ) → Door → Door
goes_on_top t clauses d = record { inside = None; waiting = d.waiting; stacked = (t, unmarked) ∷ d.stacked; opened = clauses }

-- a task leaves the queue and goes on the stack
abbrev pub pushed : ℕ → Door → Door
pushed u d = record { inside = d.inside; waiting = without u d.waiting; stacked = (u, unmarked) ∷ d.stacked; opened = d.opened }

-- the accept of the top of a stack is met by this caller and this clause
abbrev pub met_by : ℕ → Option ℕ → List (ℕ × Mark) → List (ℕ × Mark)
met_by u (Some c) (s ∷ ss) = (s.0, record { clause = c; met = Some u; failed = s.1.failed }) ∷ ss
met_by u _ ss = ss

-- a task is let in, from wherever it was
abbrev pub admitted : ℕ → Option ℕ → Door → Door
admitted u met d = record {
  inside = Some u;
  waiting = without u d.waiting;
  stacked = met_by u met (filter (λ s. not (s.0 == u)) d.stacked);
  opened = None;
}

-- the entries by which a task goes out, and no more; a leave ends a call as well
abbrev pub goes_out : EntryKind → Bool
goes_out kind.Made = true
goes_out kind.End = true
goes_out kind.Wait = true
goes_out kind.Gone = true
goes_out _ = false

-- the entries that tell nothing of their object's door: of an accept those that open nothing and let nobody in, of a signalBlock
-- those that find nobody
abbrev pub is_still : EntryKind → Entry → Bool
is_still kind.Begin e = false
is_still kind.Make e = false
is_still kind.Spawn e = false
is_still kind.Call e = false
is_still kind.Made e = false
is_still kind.Leave e = false
is_still kind.End e = false
is_still kind.Wait e = false
is_still kind.Gone e = false
is_still kind.Push e = false
is_still kind.Admit e = false
is_still kind.Accept e = not (stacks_acceptor e)
is_still kind.SignalBlock e = not (holds 1 e.b)
is_still _ e = true

-- ---- the laws
-- before the first entry nobody is anywhere, and after it task 0 is inside object 0
abbrev pub LawOpening : Type 0
LawOpening = (sites : List Site) (opts : Options) → ((o : ℕ) → IsDoor sites o [] no_door) × IsDoor sites 0 (begin opts ∷ []) (inside_is (Some 0) no_door)

-- the creator is inside a new object
abbrev pub LawMake : Type 0
LawMake = (sites : List Site) (j : Journal) (e : Entry) → e.kind ≡ kind.Make → IsDoor sites e.object j no_door → IsDoor sites e.object (j ++ e ∷ []) (inside_is (Some e.task) no_door)

-- a new task is inside in place of its creator
abbrev pub LawSpawn : Type 0
LawSpawn = (sites : List Site) (j : Journal) (d : Door) (e : Entry) → e.kind ≡ kind.Spawn → inside e.object j ≡ e.task ∷ [] → IsDoor sites e.object j d → IsDoor sites e.object (j ++ e ∷ []) (inside_is (Some (number e.a)) d)

abbrev pub LawStill : Type 0
LawStill = (sites : List Site) (j : Journal) (d : Door) (e : Entry) → is_still e.kind e ≡ true → IsDoor sites e.object j d → IsDoor sites e.object (j ++ e ∷ []) d

abbrev pub LawElsewhere : Type 0
LawElsewhere = (sites : List Site) (o : ℕ) (j : Journal) (e : Entry) (d : Door) → (e.object == o) ≡ false → IsDoor sites o j d → IsDoor sites o (j ++ e ∷ []) d

abbrev pub LawCall : Type 0
LawCall = (sites : List Site) (o : ℕ) (j : Journal) (d : Door) (p t : ℕ) (k : Cost) (m : ℕ) → IsDoor sites o j d → IsDoor sites o (j ++ asking kind.Call p t k o (pos m) (pos 0) ∷ []) (behind t m d)

abbrev pub LawOut : Type 0
LawOut = (sites : List Site) (j : Journal) (d : Door) (e : Entry) → goes_out e.kind ≡ true → inside e.object j ≡ e.task ∷ [] → IsDoor sites e.object j d → IsDoor sites e.object (j ++ e ∷ []) (inside_is None d)

-- the call of the task is over as well, at the acceptor whose accept it met
abbrev pub LawLeave : Type 0
LawLeave = (sites : List Site) (j : Journal) (d : Door) (e : Entry) → e.kind ≡ kind.Leave → inside e.object j ≡ e.task ∷ [] → IsDoor sites e.object j d → IsDoor sites e.object (j ++ e ∷ []) (inside_is None (call_over e.task (holds 1 e.a) d))

abbrev pub LawOpens : Type 0
LawOpens = (sites : List Site) (o : ℕ) (j : Journal) (d : Door) (p t : ℕ) (k : Cost) (site mask : ℕ) (has_else : Bool) → inside o j ≡ t ∷ [] → IsDoor sites o j d
    → IsDoor sites o (j ++ accept_entry p t k o site mask has_else 0 ∷ []) (goes_on_top t (Some (clauses_of (offers sites site mask))) d)

abbrev pub LawAccepts : Type 0
LawAccepts = (sites : List Site) (o : ℕ) (j : Journal) (d : Door) (p t : ℕ) (k : Cost) (site mask : ℕ) (has_else : Bool) → inside o j ≡ t ∷ [] → d.opened ≡ None → IsDoor sites o j d
    → IsDoor sites o (j ++ accept_entry p t k o site mask has_else 1 ∷ []) (goes_on_top t None d)

abbrev pub LawSignalBlock : Type 0
LawSignalBlock = (sites : List Site) (o : ℕ) (j : Journal) (d : Door) (p t : ℕ) (k : Cost) (c : ℕ) → inside o j ≡ t ∷ [] → d.opened ≡ None → IsDoor sites o j d
    → IsDoor sites o (j ++ asking kind.SignalBlock p t k o (pos c) (pos 1) ∷ []) (goes_on_top t None d)

abbrev pub LawPush : Type 0
LawPush = (sites : List Site) (o : ℕ) (j : Journal) (d : Door) (p u : ℕ) → IsDoor sites o j d → IsDoor sites o (j ++ push p u o ∷ []) (pushed u d)

-- a way that is not 1
abbrev pub LawAdmit : Type 0
LawAdmit = (sites : List Site) (o : ℕ) (j : Journal) (d : Door) (p u way clause : ℕ) (failed : Bool) → holds 1 (pos way) ≡ false → inside o j ≡ [] → IsDoor sites o j d
    → IsDoor sites o (j ++ admit_failed p u o way clause failed ∷ []) (admitted u None d)

-- way 1: the caller of this member meets the accept of the top
abbrev pub LawMeets : Type 0
LawMeets = (sites : List Site) (o : ℕ) (j : Journal) (d : Door) (p u clause m : ℕ) (s : OnStack) (ss : List OnStack) → last_call o j u ≡ Some m → taken_off u (stack_at sites o j) ≡ s ∷ ss → inside o j ≡ [] → IsDoor sites o j d
    → IsDoor sites o (j ++ admit p u o 1 clause ∷ []) (admitted u (Some (or_0 (clause_for s.offers m))) d)
