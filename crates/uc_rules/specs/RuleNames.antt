-- The rules of the language: their numbers, and what is said on err of a break.
use Rattle.std.specs.Prelude.{ℕ, List, codes}
use Rattle.uc_rules.specs.declared.rule.Rule.{Rule}
use Rattle.uc_rules.specs.declared.rule.Rule.TheVariants.{S1, S2, S3, S4, S5, S6, S7, S8, S9, S10, S11, S12, S13, S14, S15, S16, S17, S18, S19, S20, S21, S22, S23, S24, O1, O2, O3, O4, O5, O6, O7, O8, O9}

abbrev pub rule_number : Rule → ℕ
rule_number S1 = 1
rule_number S2 = 2
rule_number S3 = 3
rule_number S4 = 4
rule_number S5 = 5
rule_number S6 = 6
rule_number S7 = 7
rule_number S8 = 8
rule_number S9 = 9
rule_number S10 = 10
rule_number S11 = 11
rule_number S12 = 12
rule_number S13 = 13
rule_number S14 = 14
rule_number S15 = 15
rule_number S16 = 16
rule_number S17 = 17
rule_number S18 = 18
rule_number S19 = 19
rule_number S20 = 20
rule_number S21 = 21
rule_number S22 = 22
rule_number S23 = 23
rule_number S24 = 24
rule_number O1 = 25
rule_number O2 = 26
rule_number O3 = 27
rule_number O4 = 28
rule_number O5 = 29
rule_number O6 = 30
rule_number O7 = 31
rule_number O8 = 32
rule_number O9 = 33

abbrev pub rule_name : Rule → List ℕ
rule_name S1 = codes "rule S1"
rule_name S2 = codes "rule S2"
rule_name S3 = codes "rule S3"
rule_name S4 = codes "rule S4"
rule_name S5 = codes "rule S5"
rule_name S6 = codes "rule S6"
rule_name S7 = codes "rule S7"
rule_name S8 = codes "rule S8"
rule_name S9 = codes "rule S9"
rule_name S10 = codes "rule S10"
rule_name S11 = codes "rule S11"
rule_name S12 = codes "rule S12"
rule_name S13 = codes "rule S13"
rule_name S14 = codes "rule S14"
rule_name S15 = codes "rule S15"
rule_name S16 = codes "rule S16"
rule_name S17 = codes "rule S17"
rule_name S18 = codes "rule S18"
rule_name S19 = codes "rule S19"
rule_name S20 = codes "rule S20"
rule_name S21 = codes "rule S21"
rule_name S22 = codes "rule S22"
rule_name S23 = codes "rule S23"
rule_name S24 = codes "rule S24"
rule_name O1 = codes "rule O1"
rule_name O2 = codes "rule O2"
rule_name O3 = codes "rule O3"
rule_name O4 = codes "rule O4"
rule_name O5 = codes "rule O5"
rule_name O6 = codes "rule O6"
rule_name O7 = codes "rule O7"
rule_name O8 = codes "rule O8"
rule_name O9 = codes "rule O9"
