-- The innermost declaration of a name is the last one.
use Rattle.std.proofs.Common.{◌≡◌, ◌≢◌, ℕ, zero, suc, ◌<◌, List, [], ◌∷◌, Bool, true, false, Some, None, refl, ap, sym, ◌∙◌, arith}
use Rattle.std.specs.Prelude.{slice_get, if◌then◌else◌}
use Rattle.std.specs.Cmp.Lexicographic.{bytes_decides}
use Rattle.uc_tree.specs.declared.kinds.LocalVariable.{LocalVariable}
use Rattle.uc_tree.specs.Names.{same_name}
use Rattle.uc_resolve.specs.Resolve.{known_named, later_or}
use Rattle.uc_code.specs.Drafts.{IsInnermost, IsUnknown}

is_same : (a b : List ℕ) → a ≡ b → same_name a b ≡ true
is_same a b e = (bytes_decides a b).1 e

differs : (a b : List ℕ) (r : Bool) → r ≡ same_name a b → a ≢ b → r ≡ false
differs a b true e h = absurd (h ((bytes_decides a b).0 (sym e)))
differs a b false e h = refl

pub unknown_named : (names : List LocalVariable) (name : List ℕ) → IsUnknown names name → known_named names name ≡ None
unknown_named [] name h = refl
unknown_named (k ∷ ks) name h =
    let below : known_named ks name ≡ None = unknown_named ks name (record { none = λ i other e. h.none (suc i) other e }) in
    ap (λ o. later_or o k name) below ∙ ap (λ (b : Bool). if b then Some k else None) (differs k.name name (same_name k.name name) refl (h.none zero k refl))

innermost_at : (names : List LocalVariable) (name : List ℕ) (known : LocalVariable) (n : ℕ) → slice_get names n ≡ Some known → known.name ≡ name → ((i : ℕ) (other : LocalVariable) → n < i → slice_get names i ≡ Some other → other.name ≢ name) → known_named names name ≡ Some known
innermost_at [] name known n e same later = cc
innermost_at (k ∷ ks) name known zero e same later =
    let is : k ≡ known = cc in
    let below : known_named ks name ≡ None = unknown_named ks name (record { none = λ i other f. later (suc i) other (omega arith) f }) in
    ap (λ o. later_or o k name) below ∙ ap (λ (b : Bool). if b then Some k else None) (is_same k.name name (ap (λ (x : LocalVariable). x.name) is ∙ same)) ∙ ap (λ (x : LocalVariable). Some x) is
innermost_at (k ∷ ks) name known (suc n) e same later =
    ap (λ o. later_or o k name) (innermost_at ks name known n e same (λ i other lt f. later (suc i) other (omega arith) f))

pub innermost_named : (names : List LocalVariable) (name : List ℕ) (known : LocalVariable) → IsInnermost names name known → known_named names name ≡ Some known
innermost_named names name known h = innermost_at names name known h.number h.there h.same h.later
