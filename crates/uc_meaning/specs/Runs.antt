-- The world that a journal leaves, what may follow in a journal, and the runs of a program.
use Rattle.std.specs.Prelude.{◌≡◌, ℕ, ◌+◌, ◌<◌, ◌≤◌, ◌==◌, true, false, List, [], ◌∷◌, ◌++◌, Option, Some, None, length, if◌then◌else◌}
use Rattle.uc_entry.specs.declared.entry.Entry.{Entry}
use Rattle.uc_entry.specs.declared.entry.Options.{Options}
use Rattle.uc_entry.specs.declared.request.Answer.{Answer}
use Rattle.uc_entry.specs.declared.request.Asked.{Asked}
use Rattle.uc_acts.specs.Journal.{Journal, begin, held, is_over, own_object}
use Rattle.uc_acts.specs.Known.{spawns, takes_out}
use Rattle.uc_acts.specs.Queues.{running}
use Rattle.uc_acts.specs.Answers.{answer_to}
use Rattle.uc_acts.specs.Serves.{Serves, left}
use Rattle.uc_entry.specs.Keyed.{find}
use Rattle.uc_tree.specs.Source.{Source, routine_of}
use Rattle.uc_machine.specs.Quiet.{State, Members, no_members, first_state}
use Rattle.uc_machine.specs.Rides.{Rides}
use Rattle.uc_acts.specs.Acts.{act, dispatch, lone_limit}
use Rattle.uc_machine.specs.Answering.{with_hand, answered, child_of}

-- each task as its last ride left it, with nothing in hand, and what is at home in each object that is made and not gone, by their numbers
pub record World : Type 0 where
  pub tasks : ℕ → State
  pub homes : ℕ → Option Members

-- object 0 has no fields, and there is no other
abbrev pub first_home : ℕ → Option Members
first_home o = if o == 0 then Some no_members else None

-- the world as a run begins: task 0 at the start of its main, and object 0
abbrev pub first_world : Source → World
first_world source = record {
  tasks = λ t. first_state (routine_of source source.main) 0;
  homes = first_home;
}

-- a task with nothing in hand
abbrev pub bare : State → State
bare s = with_hand [] s

-- the members of an object in front of others, if it has any
abbrev pub with_home : ℕ → Option Members → List (ℕ × Members) → List (ℕ × Members)
with_home o None hand = hand
with_home o (Some m) hand = (o, m) ∷ hand

-- what is at home in these objects, in their order
abbrev pub hand_of : List ℕ → (ℕ → Option Members) → List (ℕ × Members)
hand_of [] homes = []
hand_of (o ∷ os) homes = with_home o (homes o) (hand_of os homes)

-- task t with its hand: the objects that it is inside, in the order in which it entered them
abbrev pub drawn : Journal → World → ℕ → State
drawn j w t = with_hand (hand_of (held t j) w.homes) (w.tasks t)

-- the first of these, if it is there, or else the second
abbrev pub or_else : {X : Type 0} → Option X → Option X → Option X
or_else None y = y
or_else (Some x) y = Some x

-- the world after an act a of task t, whose ride reached the state s: its hand is laid back, what the act takes out is gone
abbrev pub world_after : Source → List Entry → World → ℕ → State → World
world_after source a w t s = record {
  tasks = λ u.
      if u == t then bare s
      else if spawns a u then child_of source (own_object u a) s
      else w.tasks u;
  homes = λ o. if takes_out a o then None else or_else (find o s.env.hand) (w.homes o);
}

-- task t runs on p, and from its last answer its ride in this world leads to the state s after these ticks and asks this
pub record AsksIn (source : Source) (opts : Options) (j : Journal) (w : World) (p t ticks : ℕ) (s : State) (asked : Asked) : Type 0 where
  pub given : Answer
  pub runs : running p j ≡ t ∷ []
  pub told : answer_to source.sites t j ≡ Some given
  pub rides : Rides source (answered source given (drawn j w t)) (left opts j t) s ticks asked

-- the act that may follow a journal without an ending, and the world after it
pub data May (source : Source) (opts : Options) (input : List ℕ) (j : Journal) (w : World) : List Entry → World → Type 0 where
  gives : (p t : ℕ) → Serves opts j p t → length j + 2 ≤ opts.entries → May source opts input j w (dispatch p t ∷ []) w
  no_room : (p t : ℕ) → Serves opts j p t → opts.entries < length j + 2 → May source opts input j w (lone_limit ∷ []) w
  acts : (p t ticks : ℕ) (s : State) (asked : Asked) → AsksIn source opts j w p t ticks s asked → May source opts input j w (act opts source.sites input j p t ticks asked) (world_after source (act opts source.sites input j p t ticks asked) w t s)

-- the journal is a prefix of a run of the program under these options, with these bytes as input, and leaves this world
pub data Runs (source : Source) (input : List ℕ) (opts : Options) : Journal → World → Type 0 where
  begun : Runs source input opts (begin opts ∷ []) (first_world source)
  more : {j : Journal} {w : World} {a : List Entry} {w' : World} → Runs source input opts j w → is_over j ≡ false → May source opts input j w a w' → Runs source input opts (j ++ a) w'

-- a prefix of a run
pub record IsPrefix (source : Source) (input : List ℕ) (opts : Options) (j : Journal) : Type 0 where
  pub world : World
  pub runs : Runs source input opts j world

-- a complete run: one whose last entry is an ending
pub record IsRun (source : Source) (input : List ℕ) (opts : Options) (j : Journal) : Type 0 where
  pub prefix : IsPrefix source input opts j
  pub over : is_over j ≡ true
