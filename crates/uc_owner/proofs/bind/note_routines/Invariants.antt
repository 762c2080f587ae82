use Rattle.std.proofs.Common.{◌≡◌, ◌<◌, ◌||◌, ℕ, List, is_some, length, drop, map}
use Rattle.std.specs.List.{list_any}
use Rattle.uc_names.specs.Blocks.{found}
use Rattle.uc_rules.specs.OwnerBreaks.{routine_binds}
use Rattle.uc_owner.proofs.bind.note_routines.Given as goal

abbrev pub invariant-loop-routine : goal.invariant-loop-routine
invariant-loop-routine l =
    (0 < length l.names) × ((x : List ℕ) → (is_some (found l.names x) || list_any (routine_binds l.tables l.class x) (map (λ r. r.now) (drop l.routine-index l.routines))) ≡ (is_some (found l.fn.names x) || list_any (routine_binds l.tables l.class x) (map (λ r. r.now) l.routines)))
