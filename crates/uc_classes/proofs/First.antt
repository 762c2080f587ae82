-- The first of some breaks.
use Rattle.std.proofs.Common.{◌≡◌, List, [], ◌∷◌, Some, None, Bool, true, false, not, ◌&&◌, ◌||◌, nat_lt, nat_eq, refl, ap, sym, ◌∙◌, subst, arith, ◌⊎◌, inl, inr}
use Rattle.std.specs.Prelude.{Contains}
use Rattle.std.proofs.lemmas.Bool.Decides.{nat_tests}
use Rattle.std.proofs.lemmas.List.Elements.{Contains-append_left, Contains-append_right, Contains-push, Contains-push_cases, Contains-append_cases}
use Rattle.uc_rules.specs.declared.rule.Break.{Break}
use Rattle.uc_rules.specs.Firsts.{before, is_owner_number, IsFirst, sooner, after}
use Rattle.uc_rules.specs.RuleNames.{rule_number}

record From (a : Break) (bs : List Break) (b : Break) : Type 0 where
  is : (b ≡ a) ⊎ Contains bs b
  late : before a b ≡ false
  no_earlier : (c : Break) → Contains bs c → before c b ≡ false

-- by line, column and rule alone
abbrev lex : Break → Break → Bool
lex a b = nat_lt a.pos.line b.pos.line || (nat_eq a.pos.line b.pos.line && (nat_lt a.pos.col b.pos.col || (nat_eq a.pos.col b.pos.col && nat_lt (rule_number a.rule) (rule_number b.rule))))

-- with who is a rule on owners
abbrev mixed : Bool → Bool → Bool → Bool
mixed o p l = (not o && p) || (not (o && not p) && l)

abbrev owns : Break → Bool
owns a = is_owner_number (rule_number a.rule)

lex_self : (a : Break) → lex a a ≡ false
lex_self a = grind (arith, nat_tests)

lex_last : (x a b : Break) → lex x a ≡ true → lex x b ≡ false → lex a b ≡ false
lex_last x a b h k = grind (arith, nat_tests)

lex_none : (x a b : Break) → lex x a ≡ false → lex a b ≡ false → lex x b ≡ false
lex_none x a b h k = grind (arith, nat_tests)

mixed_self : (o l : Bool) → l ≡ false → mixed o o l ≡ false
mixed_self true l h = h
mixed_self false l h = h

mixed_last : (ox oa ob xa xb ab : Bool) → (xa ≡ true → xb ≡ false → ab ≡ false) → mixed ox oa xa ≡ true → mixed ox ob xb ≡ false → mixed oa ob ab ≡ false
mixed_last true true true xa xb ab f h k = f h k
mixed_last true true false xa xb ab f h k = refl
mixed_last true false ob xa xb ab f h k = cc
mixed_last false true true xa xb ab f h k = cc
mixed_last false true false xa xb ab f h k = refl
mixed_last false false true xa xb ab f h k = cc
mixed_last false false false xa xb ab f h k = f h k

mixed_none : (ox oa ob xa xb ab : Bool) → (xa ≡ false → ab ≡ false → xb ≡ false) → mixed ox oa xa ≡ false → mixed oa ob ab ≡ false → mixed ox ob xb ≡ false
mixed_none true true true xa xb ab f h k = f h k
mixed_none true oa false xa xb ab f h k = refl
mixed_none true false true xa xb ab f h k = cc
mixed_none false true ob xa xb ab f h k = cc
mixed_none false false true xa xb ab f h k = cc
mixed_none false false false xa xb ab f h k = f h k

before_self : (a : Break) → before a a ≡ false
before_self a = mixed_self (owns a) (lex a a) (lex_self a)

before_last : (x a b : Break) → before x a ≡ true → before x b ≡ false → before a b ≡ false
before_last x a b h k = mixed_last (owns x) (owns a) (owns b) (lex x a) (lex x b) (lex a b) (lex_last x a b) h k

before_none : (x a b : Break) → before x a ≡ false → before a b ≡ false → before x b ≡ false
before_none x a b h k = mixed_none (owns x) (owns a) (owns b) (lex x a) (lex x b) (lex a b) (lex_none x a b) h k

none_in : {A : Type 0} (c : Break) → Contains [] c → A
none_in c (k, h, e) = absurd (omega arith)

contains_cases : (x : Break) (bs : List Break) (c : Break) → Contains (x ∷ bs) c → (x ≡ c) ⊎ Contains bs c
contains_cases x bs c h = elim (Contains-append_cases (x ∷ []) bs c h) [ inl p ↦ elim (Contains-push_cases [] x c p) [ inl q ↦ none_in c q | inr q ↦ inl q ] | inr p ↦ inr p ]

contains_more : (x : Break) (bs : List Break) (c : Break) → Contains bs c → Contains (x ∷ bs) c
contains_more x bs c h = Contains-append_right (x ∷ []) bs c h

contains_head : (x : Break) (bs : List Break) → Contains (x ∷ bs) x
contains_head x bs = Contains-append_left (x ∷ []) bs x (Contains-push [] x)

in_more : (x a b : Break) (bs : List Break) → (b ≡ a) ⊎ Contains bs b → (b ≡ a) ⊎ Contains (x ∷ bs) b
in_more x a b bs h = elim h [ inl e ↦ inl e | inr p ↦ inr (contains_more x bs b p) ]

in_head : (x a b : Break) (bs : List Break) → (b ≡ x) ⊎ Contains bs b → (b ≡ a) ⊎ Contains (x ∷ bs) b
in_head x a b bs h = elim h [ inl e ↦ inr (subst (λ y. Contains (x ∷ bs) y) (sym e) (contains_head x bs)) | inr p ↦ inr (contains_more x bs b p) ]

late_all : (x b : Break) (bs : List Break) → before x b ≡ false → ((c : Break) → Contains bs c → before c b ≡ false) → (c : Break) → Contains (x ∷ bs) c → before c b ≡ false
late_all x b bs h k c m = elim (contains_cases x bs c m) [ inl e ↦ subst (λ y. before y b ≡ false) e h | inr p ↦ k c p ]

from_test : (a b x : Break) (bs : List Break) (t : Bool) → before x a ≡ t → after (sooner (Some a) x) bs ≡ Some b → ((y : Break) → after (Some y) bs ≡ Some b → From y bs b) → From a (x ∷ bs) b
from_test a b x bs true h e more =
    let r = more x (rw h at e) in
    record { is = in_head x a b bs r.is; late = before_last x a b h r.late; no_earlier = late_all x b bs r.late r.no_earlier }
from_test a b x bs false h e more =
    let r = more a (rw h at e) in
    record { is = in_more x a b bs r.is; late = r.late; no_earlier = late_all x b bs (before_none x a b h r.late) r.no_earlier }

from : (a b : Break) (bs : List Break) → after (Some a) bs ≡ Some b → From a bs b
from a b [] e = let same : b ≡ a = cc in record { is = inl same; late = subst (λ y. before a y ≡ false) (sym same) (before_self a); no_earlier = λ c m. none_in c m }
from a b (x ∷ bs) e = from_test a b x bs (before x a) refl e (λ y k. from y b bs k)

pub first_is : (bs : List Break) (b : Break) → after None bs ≡ Some b → IsFirst bs b
first_is [] b e = cc
first_is (x ∷ bs) b e =
    let r = from x b bs e in
    record {
      is_break = elim r.is [ inl q ↦ subst (λ y. Contains (x ∷ bs) y) (sym q) (contains_head x bs) | inr p ↦ contains_more x bs b p ];
      no_earlier = late_all x b bs r.late r.no_earlier;
    }

still_test : (a x : Break) (bs : List Break) (t : Bool) → before x a ≡ t → after (sooner (Some a) x) bs ≡ None → ((y : Break) → after (Some y) bs ≡ None → ⊥) → ⊥
still_test a x bs true h e more = more x (rw h at e)
still_test a x bs false h e more = more a (rw h at e)

still : (a : Break) (bs : List Break) → after (Some a) bs ≡ None → ⊥
still a [] e = cc
still a (x ∷ bs) e = still_test a x bs (before x a) refl e (λ y k. still y bs k)

pub none_is : (bs : List Break) → after None bs ≡ None → bs ≡ []
none_is [] e = refl
none_is (x ∷ bs) e = absurd (still x bs e)

-- where the first break is of a rule on owners, so are all
mixed_owner : (o l : Bool) → mixed o true l ≡ false → o ≡ true
mixed_owner true l e = refl
mixed_owner false l e = cc

pub all_owners : (bs : List Break) (b : Break) → IsFirst bs b → is_owner_number (rule_number b.rule) ≡ true → (c : Break) → Contains bs c → is_owner_number (rule_number c.rule) ≡ true
all_owners bs b first own c m = mixed_owner (owns c) (lex c b) (ap (λ o. mixed (owns c) o (lex c b)) (sym own) ∙ first.no_earlier c m)

pub no_owners : (bs : List Break) → bs ≡ [] → (c : Break) → Contains bs c → is_owner_number (rule_number c.rule) ≡ true
no_owners bs e c m = none_in c (subst (λ l. Contains l c) e m)

pub ruleset firsts = (first_is, none_is, all_owners, no_owners)
