use Rattle.std.proofs.Common.{◌≡◌, ◌<◌, ◌||◌, ℕ, List, is_some, length, drop}
use Rattle.std.specs.List.{list_any}
use Rattle.uc_names.specs.Blocks.{found}
use Rattle.uc_rules.specs.OwnerBreaks.{init_binds}
use Rattle.uc_owner.proofs.bind.note_inits.Given as goal

abbrev pub invariant-loop-init : goal.invariant-loop-init
invariant-loop-init l =
    (0 < length l.names) × ((x : List ℕ) → (is_some (found l.names x) || list_any (init_binds l.built.tables.now l.built.class x l.built.routine.now) (drop l.init-index l.inits)) ≡ (is_some (found l.fn.names x) || list_any (init_binds l.built.tables.now l.built.class x l.built.routine.now) l.inits))
