-- Activations with their operands, which lie in a block.
use Rattle.std.proofs.Common.{◌≡◌, ℕ, List, [], ◌∷◌, length, Option, Some, None, Bool, true, false, suc, refl, sym, ap, subst}
use Rattle.std.specs.Prelude.{nat_eq, if◌then◌else◌}
use Rattle.std.proofs.lemmas.Option.{none-some, same_Some}
use Rattle.uc_machine.specs.Executions.{at_depth, first_or, others}
use Rattle.uc_frames.specs.declared.active.Activation.{Activation as Row}
use Rattle.uc_frames.specs.declared.cell.Cell.{Cell}
use Rattle.uc_machine.specs.declared.exec.UnwindReason.{UnwindReason}
use Rattle.uc_machine.specs.declared.exec.Visited.{Visited}
use Rattle.uc_frames.specs.Block.{completed, all_completed, exceptional}

-- of one that says nothing exceptional
pub nothing_handled : (b : Bool) (h : Option Visited) (r : Option UnwindReason) (given : Cell) → exceptional b h r given → b ≡ false → h ≡ None
nothing_handled b h r given e q = (subst (λ x. exceptional x h r given) q e).0

-- as many, and each at its depth

pub completed_count : (rs : List Row) (os : List (List Cell)) → length (all_completed rs os) ≡ length rs
completed_count [] os = refl
completed_count (a ∷ rs) os = ap suc (completed_count rs (others os))

none_by : (b : Bool) (a : Row) (rs : List Row) (os : List (List Cell)) (d : ℕ) → (at_depth rs d ≡ None → at_depth (all_completed rs (others os)) d ≡ None) → (if b then Some a else at_depth rs d) ≡ None → (if b then Some (completed a (first_or [] os)) else at_depth (all_completed rs (others os)) d) ≡ None
none_by true a rs os d h q = absurd (none-some a (sym q))
none_by false a rs os d h q = h q

pub none_there : (rs : List Row) (os : List (List Cell)) (d : ℕ) → at_depth rs d ≡ None → at_depth (all_completed rs os) d ≡ None
none_there [] os d q = refl
none_there (a ∷ rs) os d q = rw (completed_count rs (others os)) (none_by (nat_eq d (length rs)) a rs os d (λ p. none_there rs (others os) d p) q)

one_by : (b : Bool) (a : Row) (rs : List Row) (os : List (List Cell)) (d : ℕ) (r : Row) → (at_depth rs d ≡ Some r → (ws : List Cell) × (at_depth (all_completed rs (others os)) d ≡ Some (completed r ws))) → (if b then Some a else at_depth rs d) ≡ Some r → (ws : List Cell) × ((if b then Some (completed a (first_or [] os)) else at_depth (all_completed rs (others os)) d) ≡ Some (completed r ws))
one_by true a rs os d r h q = (first_or [] os, ap (λ x. Some (completed x (first_or [] os))) (same_Some a r q))
one_by false a rs os d r h q = h q

pub one_there : (rs : List Row) (os : List (List Cell)) (d : ℕ) (r : Row) → at_depth rs d ≡ Some r → (ws : List Cell) × (at_depth (all_completed rs os) d ≡ Some (completed r ws))
one_there [] os d r q = absurd (none-some r q)
one_there (a ∷ rs) os d r q = rw (completed_count rs (others os)) (one_by (nat_eq d (length rs)) a rs os d r (λ p. one_there rs (others os) d r p) q)
