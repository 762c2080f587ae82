-- The places of the mutex members of the first so many classes.
use Rattle.std.proofs.Common.{◌≡◌, ℕ, ◌+◌, List, [], ◌∷◌, ◌++◌, Some, length, length-append, take, refl, ap, sym, subst, ◌∙◌}
use Rattle.std.specs.Prelude.{slice_get}
use Rattle.uc_names.specs.Blocks.{Block}
use Rattle.uc_layout.specs.Places.{IsPlaces}
use Rattle.uc_tree.specs.declared.limits.TheConstants.{MEMBERS}
use Rattle.uc_tree.specs.Numbering.{mutex_members}
use Rattle.uc_tree.specs.Programs.{Class}
use Rattle.uc_lower_expr.proofs.Noting.{last_of}

pub record AreFirst (cs : List Class) (count : ℕ) (ms : List (List Block)) : Type 0 where
  pub long : length ms ≡ count
  pub each : (i : ℕ) (c : Class) (bs : List Block) → slice_get cs i ≡ Some c → slice_get ms i ≡ Some bs → IsPlaces (take MEMBERS (mutex_members c)) bs

pub first_none : (cs : List Class) → AreFirst cs 0 []
first_none cs = record { long = refl; each = λ i c bs e g. absurd (cc) }

pub first_more : (cs : List Class) (count : ℕ) (ms : List (List Block)) (bs : List Block) → ((c : Class) → slice_get cs count ≡ Some c → IsPlaces (take MEMBERS (mutex_members c)) bs) → AreFirst cs count ms → AreFirst cs (count + 1) (ms ++ bs ∷ [])
first_more cs count ms bs are h = record {
  long = length-append ms (bs ∷ []) ∙ ap (λ n. n + 1) h.long;
  each = λ i d xs a b. last_of (IsPlaces (take MEMBERS (mutex_members d)) xs) ms bs i xs b (λ e. h.each i d xs a e) (λ e f.
      let k : i ≡ count = e ∙ h.long in
      subst (λ (x : List Block). IsPlaces (take MEMBERS (mutex_members d)) x) f (are d (ap (slice_get cs) (sym k) ∙ a)));
}
