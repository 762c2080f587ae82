-- The first break so far, and how visits change it.
use Rattle.std.specs.Prelude.{List, [], ◌∷◌, Option}
use Rattle.uc_rules.specs.declared.rule.Break.{Break}
use Rattle.uc_rules.specs.Firsts.{after}
use Rattle.uc_rules.specs.Visits.{Visit}
use Rattle.uc_rules.specs.ExpressionBreaks.{undeclared, main_called, no_scalar, no_place, no_routine, no_loop, bad_clause, no_event, no_handler, no_stream}
use Rattle.uc_rules.specs.OwnerBreaks.{unshared_reference, field_outside, called_outside, lone_condition, unbound_reference, unowned_argument, copied_object, no_target, misplaced}
use Rattle.uc_rules.specs.Breaks.{declared_twice, no_main, within_itself, badly_defined, badly_mained, bad_argument, bad_return, no_length, no_constant, bad_start, bad_init, not_open, badly_marked, bad_event}

-- with the breaks of the first rules at a visit, of the next ones, and so on
abbrev pub told_names : Option Break → Visit → Option Break
told_names f v = after (after (after (after (after (after f (undeclared v)) (declared_twice v)) (no_main v)) (within_itself v)) (badly_defined v)) (badly_mained v)

abbrev pub told_uses : Option Break → Visit → Option Break
told_uses f v = after (after (after (after (after (after f (main_called v)) (no_scalar v)) (no_place v)) (no_routine v)) (bad_argument v)) (bad_return v)

abbrev pub told_values : Option Break → Visit → Option Break
told_values f v = after (after (after (after (after (after f (no_loop v)) (no_length v)) (no_constant v)) (bad_start v)) (bad_init v)) (not_open v)

abbrev pub told_forms : Option Break → Visit → Option Break
told_forms f v = after (after (after (after (after (after f (badly_marked v)) (bad_clause v)) (no_event v)) (bad_event v)) (no_handler v)) (no_stream v)

abbrev pub told_owners : Option Break → Visit → Option Break
told_owners f v = after (after (after (after (after (after (after (after (after f (unshared_reference v)) (field_outside v)) (called_outside v)) (lone_condition v)) (unbound_reference v)) (unowned_argument v)) (copied_object v)) (no_target v)) (misplaced v)

-- with all breaks at a visit
abbrev pub first_break_after : Option Break → Visit → Option Break
first_break_after f v = told_owners (told_forms (told_values (told_uses (told_names f v) v) v) v) v

-- the same of some visits
abbrev pub with_visits : Option Break → List Visit → Option Break
with_visits f [] = f
with_visits f (v ∷ vs) = with_visits (first_break_after f v) vs
