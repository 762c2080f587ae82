-- A program has one first break.
use Rattle.std.proofs.Common.{◌≡◌, ℕ, zero, suc, List, [], ◌∷◌, Bool, true, false, not, ◌&&◌, ◌||◌, nat_lt, nat_eq, refl, ap, sym, ◌∙◌, arith}
use Rattle.std.proofs.lemmas.Bool.Decides.{nat_tests}
use Rattle.uc_tree.specs.declared.pos.Pos.{Pos}
use Rattle.uc_rules.specs.declared.rule.Rule.{Rule}
use Rattle.uc_rules.specs.declared.rule.Rule.TheVariants.{S1, S2, S3, S4, S5, S6, S7, S8, S9, S10, S11, S12, S13, S14, S15, S16, S17, S18, S19, S20, S21, S22, S23, S24, O1, O2, O3, O4, O5, O6, O7, O8, O9}
use Rattle.uc_rules.specs.declared.rule.Break.{Break}
use Rattle.uc_rules.specs.Firsts.{is_owner_number, IsFirst}
use Rattle.uc_rules.specs.RuleNames.{rule_number}

-- rules have different numbers

abbrev rules : List Rule
rules = S1 ∷ S1 ∷ S2 ∷ S3 ∷ S4 ∷ S5 ∷ S6 ∷ S7 ∷ S8 ∷ S9 ∷ S10 ∷ S11 ∷ S12 ∷ S13 ∷ S14 ∷ S15 ∷ S16 ∷ S17 ∷ S18 ∷ S19 ∷ S20 ∷ S21 ∷ S22 ∷ S23 ∷ S24 ∷ O1 ∷ O2 ∷ O3 ∷ O4 ∷ O5 ∷ O6 ∷ O7 ∷ O8 ∷ O9 ∷ []

abbrev rule_at : List Rule → ℕ → Rule
rule_at [] n = S1
rule_at (r ∷ rs) zero = r
rule_at (r ∷ rs) (suc n) = rule_at rs n

numbered : (r : Rule) → rule_at rules (rule_number r) ≡ r
numbered S1 = refl
numbered S2 = refl
numbered S3 = refl
numbered S4 = refl
numbered S5 = refl
numbered S6 = refl
numbered S7 = refl
numbered S8 = refl
numbered S9 = refl
numbered S10 = refl
numbered S11 = refl
numbered S12 = refl
numbered S13 = refl
numbered S14 = refl
numbered S15 = refl
numbered S16 = refl
numbered S17 = refl
numbered S18 = refl
numbered S19 = refl
numbered S20 = refl
numbered S21 = refl
numbered S22 = refl
numbered S23 = refl
numbered S24 = refl
numbered O1 = refl
numbered O2 = refl
numbered O3 = refl
numbered O4 = refl
numbered O5 = refl
numbered O6 = refl
numbered O7 = refl
numbered O8 = refl
numbered O9 = refl

one_number : (r s : Rule) → rule_number r ≡ rule_number s → r ≡ s
one_number r s e = sym (numbered r) ∙ ap (rule_at rules) e ∙ numbered s

-- by line, column and rule alone
abbrev lex : Break → Break → Bool
lex a b = nat_lt a.pos.line b.pos.line || (nat_eq a.pos.line b.pos.line && (nat_lt a.pos.col b.pos.col || (nat_eq a.pos.col b.pos.col && nat_lt (rule_number a.rule) (rule_number b.rule))))

-- with who is a rule on owners
abbrev mixed : Bool → Bool → Bool → Bool
mixed o p l = (not o && p) || (not (o && not p) && l)

abbrev owns : Break → Bool
owns a = is_owner_number (rule_number a.rule)

neither : (o p l k : Bool) → mixed o p l ≡ false → mixed p o k ≡ false → (l ≡ false) × (k ≡ false)
neither true true l k h i = (h, i)
neither true false l k h i = absurd (cc)
neither false true l k h i = absurd (cc)
neither false false l k h i = (h, i)

same_line : (a b : Break) → lex a b ≡ false → lex b a ≡ false → a.pos.line ≡ b.pos.line
same_line a b h k = grind (arith, nat_tests)

same_col : (a b : Break) → lex a b ≡ false → lex b a ≡ false → a.pos.col ≡ b.pos.col
same_col a b h k = grind (arith, nat_tests)

same_number : (a b : Break) → lex a b ≡ false → lex b a ≡ false → rule_number a.rule ≡ rule_number b.rule
same_number a b h k = grind (arith, nat_tests)

placed : (p q : Pos) → p.line ≡ q.line → p.col ≡ q.col → p ≡ q
placed p q h k = ap (λ l. record { line = l; col = p.col }) h ∙ ap (λ c. record { line = q.line; col = c }) k

pub one_first : (bs : List Break) (a b : Break) → IsFirst bs a → IsFirst bs b → (a.rule ≡ b.rule) × (a.pos ≡ b.pos)
one_first bs a b h k =
    let apart = neither (owns a) (owns b) (lex a b) (lex b a) (k.no_earlier a h.is_break) (h.no_earlier b k.is_break) in (
      one_number a.rule b.rule (same_number a b apart.0 apart.1),
      placed a.pos b.pos (same_line a b apart.0 apart.1) (same_col a b apart.0 apart.1),
    )
