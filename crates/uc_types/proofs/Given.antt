-- The names of the events that every program has.
use Rattle.std.proofs.Common.{◌≡◌, ℕ, List, Bool, true, false, ◌||◌, refl, sym, ap, ◌∙◌}
use Rattle.std.specs.Cmp.Lexicographic.{bytes_decides}
use Rattle.uc_tree.specs.Names.{same_name}
use Rattle.uc_tree.specs.Numbering.{failure_name, is_given, unhandled_name}

other : (a b : List ℕ) (t u : Bool) → same_name a b ≡ t → same_name b a ≡ u → t ≡ u
other a b true u h k = sym ((bytes_decides b a).1 (sym ((bytes_decides a b).0 h))) ∙ k
other a b false true h k = sym h ∙ (bytes_decides a b).1 (sym ((bytes_decides b a).0 k))
other a b false false h k = refl

swapped : (a b : List ℕ) → same_name a b ≡ same_name b a
swapped a b = other a b (same_name a b) (same_name b a) refl refl

pub given_else : (name : List ℕ) (r s : Bool) → r ≡ same_name name unhandled_name → r ≡ false → s ≡ same_name name failure_name → s ≡ is_given name
given_else name r s a f b = b ∙ swapped name failure_name ∙ ap (λ u. u || same_name failure_name name) (sym f ∙ a ∙ swapped name unhandled_name)
