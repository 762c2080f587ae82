-- What the calls of a kernel do.
use Rattle.std.specs.Prelude.{◌≡◌, ℕ, ◌==◌, ◌+◌, ◌<◌, ◌≤◌, Bool, true, false, List, [], ◌∷◌, ◌++◌, Option, Some, None, length}
use Rattle.uc_entry.specs.declared.entry.Entry.{Entry}
use Rattle.uc_tree.specs.Programs.{Site}
use Rattle.uc_entry.specs.declared.entry.Options.{Options}
use Rattle.uc_acts.specs.Journal.{begin, held, is_ending, is_over}
use Rattle.uc_acts.specs.Queues.{running}
use Rattle.uc_entry.specs.declared.request.Answer.{Answer}
use Rattle.uc_entry.specs.declared.request.Answer.TheVariants as answer
use Rattle.uc_acts.specs.Answers.{answer_to}
use Rattle.uc_acts.specs.Serves.{Serves, left}
use Rattle.uc_acts.specs.Laws.{IsServed}
use Rattle.uc_acts.specs.KernelRuns.{MayAsk}
use Rattle.uc_acts.specs.Acts.{act, dispatch, lone_limit}
use Rattle.uc_kernel_core.specs.CoreActs.{IsFirst}
use Rattle.uc_kernel.specs.declared.given.Given.{Given}
use Rattle.uc_kernel.specs.declared.given.Next.{Next}
use Rattle.uc_kernel.specs.declared.given.Next.TheVariants.{Go, Blocked, Ended}
use Rattle.uc_kernel.specs.Numbered.{keys, gathered}
use Rattle.uc_kernel.specs.KernelState.{Brought, Kept, Same, put_back, handed, with_entry}

-- what a worker brings may be taken: its task runs on its processor, what it asks fits, and its members are those of the objects that the task is inside, in the order in which it entered them, with room for one more
pub record MayBring {T M : Type 0} (k : Kept T M) (b : Brought T M) : Type 0 where
  pub task : ℕ
  pub asks : MayAsk k.opts k.sites k.journal b.processor task b.ticks b.asked.request
  pub hand : keys b.members.items ≡ held task k.journal
  pub room : 1 ≤ b.members.spare

-- whether an answer is the number of what was made
abbrev pub is_object : Answer → Bool
is_object (answer.Object n) = true
is_object x = false

-- what is handed out of k for task t, which runs on p
pub record HandsOut {T M : Type 0} (k : Kept T M) (p t : ℕ) (g : Given T M) : Type 0 where
  pub processor : g.processor ≡ p
  pub runs : running p k.journal ≡ t ∷ []
  pub value : k.values t ≡ Some g.task
  pub hand : g.members.items ≡ gathered (held t k.journal) k.members
  pub answer : answer_to k.sites t k.journal ≡ Some g.answer
  pub left : g.left ≡ left k.opts k.journal t
  -- but for an object that the task has just made, whose members it is to bring, its hand has all that it is inside
  pub keys_are : is_object g.answer ≡ false → keys g.members.items ≡ held t k.journal

-- the task goes on, and what is handed out for it is no longer at rest in the kernel
pub record Goes {T M : Type 0} (k new : Kept T M) (p t : ℕ) (g : Given T M) : Type 0 where
  pub going : is_over k.journal ≡ false
  pub hands : HandsOut k p t g
  pub rest : Same (handed t k) new

pub record Blocks {T M : Type 0} (k new : Kept T M) (p : ℕ) : Type 0 where
  pub going : is_over k.journal ≡ false
  pub free : running p k.journal ≡ []
  pub rest : Same k new

pub record Ends {T M : Type 0} (k new : Kept T M) : Type 0 where
  pub over : is_over k.journal ≡ true
  pub rest : Same k new

-- what follows an act of task t on p, once what was brought is at rest in k
abbrev pub Follows : {T M : Type 0} → Kept T M → Kept T M → ℕ → ℕ → Next T M → Type 0
Follows k new p t (Go g) = Goes k new p t g
Follows k new p t Blocked = Blocks k new p
Follows k new p t Ended = Ends k new

abbrev pub IsEnded : {T M : Type 0} → Next T M → Type 0
IsEnded (Go g) = ⊥
IsEnded Blocked = ⊥
IsEnded Ended = Unit {0}

-- after an ending nothing changes
pub record IsOver {T M : Type 0} (old new : Kept T M) (next : Next T M) : Type 0 where
  pub answer : IsEnded next
  pub same : Same old new

-- in the hand of a task that has just made an object that object alone is missing, the last that the task is inside
abbrev pub LacksNew : {T M : Type 0} → List Entry → ℕ → Next T M → Type 0
LacksNew j t (Go g) = (o : ℕ) → g.answer ≡ answer.Object o → held t j ≡ keys g.members.items ++ o ∷ []
LacksNew j t Blocked = Unit {0}
LacksNew j t Ended = Unit {0}

-- the act of what a worker brings
pub record Acted {T M : Type 0} (old : Kept T M) (b : Brought T M) (next : Next T M) (new : Kept T M) : Type 0 where
  pub over : is_over old.journal ≡ true → IsOver old new next
  pub follows : is_over old.journal ≡ false → (t : ℕ) → running b.processor old.journal ≡ t ∷ [] → Follows (put_back (act old.opts old.sites old.input old.journal b.processor t b.ticks b.asked) t b.task b.members.items b.child old) new b.processor t next

-- a dispatch: it gives the task of the least processor that may be given one
pub record Gives {T M : Type 0} (old new : Kept T M) (g : Given T M) : Type 0 where
  pub task : ℕ
  pub going : is_over old.journal ≡ false
  pub wanted : old.abandoned ≡ false
  pub first : IsFirst old.opts old.journal g.processor task
  pub room : length old.journal + 2 ≤ old.opts.entries
  pub hands : HandsOut (with_entry (dispatch g.processor task) old) g.processor task g
  pub rest : Same (handed task (with_entry (dispatch g.processor task) old)) new

-- it gives none: the run is over, or was abandoned, or no processor may be given a task; or the limit ends the run
pub data GivesNone {T M : Type 0} (old new : Kept T M) : Type 0 where
  over : is_over old.journal ≡ true → Same old new → GivesNone old new
  abandoned : old.abandoned ≡ true → Same old new → GivesNone old new
  nobody : ((p t : ℕ) → Serves old.opts old.journal p t → ⊥) → Same old new → GivesNone old new
  no_room : is_over old.journal ≡ false → old.abandoned ≡ false → IsServed old.opts old.journal → old.opts.entries < length old.journal + 2 → Same (with_entry lone_limit old) new → GivesNone old new

abbrev pub Dispatched : {T M : Type 0} → Kept T M → Option (Given T M) → Kept T M → Type 0
Dispatched old None new = GivesNone old new
Dispatched old (Some g) new = Gives old new g

-- the entry that ended a run: the last, and the only one of a kind that ends a run
pub record EndsRun (j : List Entry) (e : Entry) : Type 0 where
  pub before : List Entry
  pub last : j ≡ before ++ e ∷ []
  pub ends : is_ending e.kind ≡ true
  pub going : is_over before ≡ false

-- a kernel that opens: task 0 is at rest, and object 0
pub record Opened {T M : Type 0} (sites : List Site) (opts : Options) (input : List ℕ) (first : T) (own : M) (k : Kept T M) : Type 0 where
  pub journal : k.journal ≡ begin opts ∷ []
  pub sites_are : k.sites ≡ sites
  pub opts_are : k.opts ≡ opts
  pub input_is : k.input ≡ input
  pub wanted : k.abandoned ≡ false
  pub value : k.values 0 ≡ Some first
  pub members : k.members 0 ≡ Some own
  pub no_value : (t : ℕ) → (t == 0) ≡ false → k.values t ≡ None
  pub no_members : (o : ℕ) → (o == 0) ≡ false → k.members o ≡ None
