use Rattle.std.proofs.Common.{◌≡◌, ◌<◌, ◌||◌, ℕ, List, is_some, length, drop}
use Rattle.uc_tree.specs.Cells.{declares_name}
use Rattle.uc_names.specs.Blocks.{found}
use Rattle.uc_layout.proofs.known.note_declarators.Given as goal

abbrev pub invariant-loop-declarator : goal.invariant-loop-declarator
invariant-loop-declarator l =
    (0 < length l.names) × ((x : List ℕ) → (is_some (found l.names x) || declares_name x (drop l.declarator-index l.declarators)) ≡ (is_some (found l.initial.names x) || declares_name x l.declarators))
