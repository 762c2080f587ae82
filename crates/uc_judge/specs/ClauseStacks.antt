-- The stacks with their clauses, as a judge keeps them.
use Rattle.std.specs.Prelude.{◌≡◌, ℕ, List, [], Option, Some, None, map}
use Rattle.std.specs.Ordering.{nat_cmp, ordering_then}
use Rattle.std.specs.declared.cmp.Ordering.{Ordering}
use Rattle.std.specs.declared.vec.Vec.{Vec}
use Rattle.std.specs.declared.alloc.Global.{Global}
use Rattle.std.specs.BTreeMap.{get}
use Rattle.uc_tree.specs.Programs.{Site}
use Rattle.uc_acts.specs.Journal.{Journal}
use Rattle.uc_acts.specs.Doors.{OnStack, offers, last_call, stack_at}
use Rattle.uc_judge.specs.declared.stacks.OnStack.{OnStack as Row}
use Rattle.uc_judge.specs.declared.stacks.Stacks.{Stacks}

-- what an accept offers that is told by its site and its mask
abbrev pub offers_told : List Site → Option (ℕ × ℕ) → List (ℕ × ℕ)
offers_told sites None = []
offers_told sites (Some a) = offers sites a.0 a.1

-- a task on a stack, as the definitions have it
abbrev pub as_on_stack : List Site → Row → OnStack
as_on_stack sites s = record {
  task = s.task;
  offers = offers_told sites s.accept;
  clause = s.clause;
  met = s.met;
  failed = s.failed;
}

-- the order of pairs of numbers
abbrev pub pair_cmp : ℕ × ℕ → ℕ × ℕ → Ordering
pair_cmp p q = ordering_then (nat_cmp p.0 q.0) (nat_cmp p.1 q.1)

abbrev pub rows_of : Option (Vec Row Global) → List Row
rows_of None = []
rows_of (Some rows) = rows.items

-- the stack that is told of object o
abbrev pub stack_told : List Site → Stacks → ℕ → List OnStack
stack_told sites s o = map (as_on_stack sites) (rows_of (get nat_cmp s.stacks o))

-- the stacks are those of a journal of a program with these accept statements
pub record AreStacks (s : Stacks) (sites : List Site) (j : Journal) : Type 0 where
  pub called : (o t : ℕ) → get pair_cmp s.called (o, t) ≡ last_call o j t
  pub stacks : (o : ℕ) → stack_told sites s o ≡ stack_at sites o j
