-- The mark of the first prototype of a role and name stands at its place.
use Rattle.std.proofs.Common.{◌≡◌, ℕ, suc, ◌+◌, ◌-◌, ◌≤◌, List, [], ◌∷◌, Bool, true, false, Option, Some, None, if◌then◌else◌, refl, ap, sym, ◌∙◌, arith}
use Rattle.std.specs.Prelude.{slice_get}
use Rattle.uc_tree.specs.declared.kinds.MutexMark.TheVariants as mark
use Rattle.uc_tree.specs.Programs.{Sig, Member}
use Rattle.uc_rules.specs.ItemBreaks.{is_named}
use Rattle.uc_rules.specs.ProgramVisits.{mark_among}
use Rattle.uc_check_index.specs.Firsts.{first_from}
use Rattle.uc_check_index.specs.Keys.{role_key}
use Rattle.uc_check_index.specs.Marked.{mark_at, mark_of}
use Rattle.uc_check_index.specs.Topics.{member_key_of}
use Rattle.uc_check_index.specs.declared.topics.MemberTopic.TheVariants as member_topic
use Rattle.uc_check_index.proofs.Askings.{form_roles_keyed}

abbrev firsts : ℕ → List Member → List ℕ → Option ℕ
firsts i ms name = first_from (member_key_of member_topic.Role) i ms name

low_case : (b : Bool) (i : ℕ) (ms : List Member) (name : List ℕ) (p : ℕ) → (firsts (i + 1) ms name ≡ Some p → i + 1 ≤ p) → (if b then Some i else firsts (i + 1) ms name) ≡ Some p → i ≤ p
low_case true i ms name p more h = let is : i ≡ p = cc in omega (arith, is)
low_case false i ms name p more h = let low = more h in omega (arith, low)

low : (i : ℕ) (ms : List Member) (name : List ℕ) (p : ℕ) → firsts i ms name ≡ Some p → i ≤ p
low i [] name p h = absurd (cc)
low i (m ∷ ms) name p h = low_case (is_named (member_key_of member_topic.Role m) name) i ms name p (low (i + 1) ms name p) h

module _ (sig : Sig) where
  marked_case : (b : Bool) (m : Member) (ms : List Member) (i p : ℕ) → (firsts (i + 1) ms (role_key sig) ≡ Some p → mark_of (slice_get ms (p - (i + 1))) ≡ mark_among sig ms) → (if b then Some i else firsts (i + 1) ms (role_key sig)) ≡ Some p → mark_of (slice_get (m ∷ ms) (p - i)) ≡ (if b then m.mark else mark_among sig ms)
  marked_case true m ms i p more h =
      let is : i ≡ p = cc in
      let first : p - i ≡ 0 = omega (arith, is) in
      ap (λ k. mark_of (slice_get (m ∷ ms) k)) first
  marked_case false m ms i p more h =
      let above = low (i + 1) ms (role_key sig) p h in
      let next : p - i ≡ suc (p - (i + 1)) = omega (arith, above) in
      ap (λ k. mark_of (slice_get (m ∷ ms) k)) next ∙ more h

  marked : (ms : List Member) (i p : ℕ) → firsts i ms (role_key sig) ≡ Some p → mark_of (slice_get ms (p - i)) ≡ mark_among sig ms
  marked [] i p h = absurd (cc)
  marked (m ∷ ms) i p h = marked_case (is_named (member_key_of member_topic.Role m) (role_key sig)) m ms i p (marked ms (i + 1) p) h ∙ ap (λ b. if b then m.mark else mark_among sig ms) (form_roles_keyed sig m.form)

  unmarked_case : (b : Bool) (m : Member) (ms : List Member) (i : ℕ) → (firsts (i + 1) ms (role_key sig) ≡ None → mark.Unmarked ≡ mark_among sig ms) → (if b then Some i else firsts (i + 1) ms (role_key sig)) ≡ None → mark.Unmarked ≡ (if b then m.mark else mark_among sig ms)
  unmarked_case true m ms i more h = absurd (cc)
  unmarked_case false m ms i more h = more h

  unmarked : (ms : List Member) (i : ℕ) → firsts i ms (role_key sig) ≡ None → mark.Unmarked ≡ mark_among sig ms
  unmarked [] i h = refl
  unmarked (m ∷ ms) i h = unmarked_case (is_named (member_key_of member_topic.Role m) (role_key sig)) m ms i (unmarked ms (i + 1)) h ∙ ap (λ b. if b then m.mark else mark_among sig ms) (form_roles_keyed sig m.form)

  pub mark_found : (ms : List Member) (o : Option ℕ) → o ≡ firsts 0 ms (role_key sig) → mark_at ms o ≡ mark_among sig ms
  mark_found ms None e = unmarked ms 0 (sym e)
  mark_found ms (Some p) e = let all : p - 0 ≡ p = omega arith in ap (λ k. mark_of (slice_get ms k)) (sym all) ∙ marked ms 0 p (sym e)
