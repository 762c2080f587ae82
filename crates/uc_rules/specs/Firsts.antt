-- The first of some breaks: one of the rules on names, types and places before one of those on who owns what, then by place, then
-- by number.
use Rattle.std.specs.Prelude.{◌≡◌, ℕ, Bool, false, not, ◌&&◌, ◌||◌, List, [], ◌∷◌, Option, Some, None, if◌then◌else◌, nat_lt, nat_eq, Contains}
use Rattle.uc_rules.specs.declared.rule.Break.{Break}
use Rattle.uc_rules.specs.RuleNames.{rule_number}

-- whether it is one of the rules on who owns what
abbrev pub is_owner_number : ℕ → Bool
is_owner_number n = nat_lt 24 n

-- what numbers and places say of two breaks
abbrev pub is_sooner : (number line col other other_line other_col : ℕ) → Bool
is_sooner number line col other other_line other_col =
    (not (is_owner_number number) && is_owner_number other)
    || (not (is_owner_number number && not (is_owner_number other))
    && (nat_lt line other_line || (nat_eq line other_line && (nat_lt col other_col || (nat_eq col other_col && nat_lt number other)))))

-- whether a break comes before another one
abbrev pub before : Break → Break → Bool
before a b = is_sooner (rule_number a.rule) a.pos.line a.pos.col (rule_number b.rule) b.pos.line b.pos.col

pub record IsFirst (bs : List Break) (b : Break) : Type 0 where
  pub is_break : Contains bs b
  pub no_earlier : (c : Break) → Contains bs c → before c b ≡ false

-- the sooner of what was found and one more break
abbrev pub sooner : Option Break → Break → Option Break
sooner None b = Some b
sooner (Some a) b = if before b a then Some b else Some a

-- the first of what was found and of further breaks
abbrev pub after : Option Break → List Break → Option Break
after f [] = f
after f (b ∷ bs) = after (sooner f b) bs

-- the first break of a list; none where there is none
abbrev pub first_of : List Break → Option Break
first_of bs = after None bs
