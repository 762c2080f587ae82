-- The first break of an expression that is a statement.
use Rattle.std.proofs.Common.{◌≡◌, List, Bool, true, false, Option, Some, None, if◌then◌else◌, refl, ap, sym, ◌∙◌, subst}
use Rattle.uc_rules.specs.declared.rule.Break.{Break}
use Rattle.uc_rules.specs.Breaks.{breaks_among}
use Rattle.uc_rules.specs.Firsts.{after, is_owner_number}
use Rattle.uc_rules.specs.RuleNames.{rule_number}
use Rattle.uc_rules.specs.Visits.{Visit}
use Rattle.uc_types.specs.FirstBreak.{with_visits}
use Rattle.uc_types.proofs.Noted.{noted_is}
use Rattle.uc_classes.proofs.First.{first_is, none_is, all_owners, no_owners}
use Rattle.uc_front.specs.Typed.{AreOfOwners, IsTextBreak, text_break}

pub found_is : (vs : List Visit) (f g : Option Break) → f ≡ None → g ≡ with_visits f vs → g ≡ after None (breaks_among vs)
found_is vs f g e h = h ∙ ap (λ x. with_visits x vs) e ∙ noted_is None vs

-- a break of a rule on who owns what, or not
owned : (own : Bool) (b : Break) → (if own then None else Some b) ≡ None → own ≡ true
owned true b e = refl
owned false b e = absurd (cc)

not_owned : (own : Bool) (a b : Break) → (if own then None else Some a) ≡ Some b → (own ≡ false) × (a ≡ b)
not_owned true a b e = absurd (cc)
not_owned false a b e = let same : a ≡ b = cc in (refl, same)

pub kept_by : (bs : List Break) (found : Option Break) → found ≡ after None bs → text_break found ≡ None → AreOfOwners bs
kept_by bs None h e = record { each = no_owners bs (none_is bs (sym h)) }
kept_by bs (Some b) h e = record { each = all_owners bs b (first_is bs b (sym h)) (owned (is_owner_number (rule_number b.rule)) b e) }

pub broken_by : (bs : List Break) (found : Option Break) (b : Break) → found ≡ after None bs → text_break found ≡ Some b → IsTextBreak bs b
broken_by bs None b h e = absurd (cc)
broken_by bs (Some a) b h e =
    let q = not_owned (is_owner_number (rule_number a.rule)) a b e in
    subst (λ x. IsTextBreak bs x) q.1 (record { first = first_is bs a (sym h); text = q.0 })
