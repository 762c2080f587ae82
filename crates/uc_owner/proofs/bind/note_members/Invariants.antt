use Rattle.std.proofs.Common.{◌≡◌, ◌<◌, ◌||◌, ℕ, List, is_some, length, drop}
use Rattle.std.specs.List.{list_any}
use Rattle.uc_names.specs.Blocks.{found}
use Rattle.uc_rules.specs.OwnerBreaks.{form_binds}
use Rattle.uc_owner.proofs.bind.note_members.Given as goal

abbrev pub invariant-loop-member : goal.invariant-loop-member
invariant-loop-member l =
    (0 < length l.names) × ((x : List ℕ) → (is_some (found l.names x) || list_any (λ m. form_binds l.tables l.class x m.form) (drop l.member-index l.members)) ≡ (is_some (found l.fn.names x) || list_any (λ m. form_binds l.tables l.class x m.form) l.members))
