use Rattle.std.proofs.Common.{◌≡◌, ◌<◌, ◌||◌, ℕ, List, is_some, length, drop}
use Rattle.std.specs.List.{list_any}
use Rattle.uc_tree.specs.Cells.{member_form_named}
use Rattle.uc_names.specs.Blocks.{found}
use Rattle.uc_layout.proofs.known.names_of_members.Given as goal

abbrev pub invariant-loop-member : goal.invariant-loop-member
invariant-loop-member l =
    (0 < length l.names) × ((x : List ℕ) → (is_some (found l.names x) || list_any (λ m. member_form_named x m.form) (drop l.member-index l.members)) ≡ list_any (λ m. member_form_named x m.form) l.members)
