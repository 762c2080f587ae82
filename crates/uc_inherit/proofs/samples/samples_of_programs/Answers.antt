use Rattle.std.proofs.Common.{refl}
use Rattle.uc_tree.specs.Tokens.{tokens_from, found_at, text_ending, comment_length}
use Rattle.uc_grammar.specs.Samples.{placed, plain}
use Rattle.uc_inherit.specs.ClassHeads.{is_head, has_mutex, first_place, is_head_before, is_in_base}
use Rattle.uc_inherit.specs.OpenedTokens.{picked, left_at, tokens_left, base_name, bases, virtual_noted, virtuals}
use Rattle.uc_inherit.proofs.samples.samples_of_programs.Goals as goal

pub returns-clause-shape : goal.returns-clause-shape
unfolding placed plain tokens_from found_at text_ending comment_length is_head has_mutex first_place is_head_before is_in_base picked left_at tokens_left base_name bases virtual_noted virtuals
returns-clause-shape c = record { tokens = refl; bases = refl; virtuals = refl }

pub returns-clause-square : goal.returns-clause-square
unfolding placed plain tokens_from found_at text_ending comment_length is_head has_mutex first_place is_head_before is_in_base picked left_at tokens_left base_name bases virtual_noted virtuals
returns-clause-square c = record { tokens = refl; bases = refl; virtuals = refl }

pub returns-clause-monitor : goal.returns-clause-monitor
unfolding placed plain tokens_from found_at text_ending comment_length is_head has_mutex first_place is_head_before is_in_base picked left_at tokens_left base_name bases virtual_noted virtuals
returns-clause-monitor c = record { tokens = refl; bases = refl; virtuals = refl }

pub returns-clause-events : goal.returns-clause-events
unfolding placed plain tokens_from found_at text_ending comment_length is_head has_mutex first_place is_head_before is_in_base picked left_at tokens_left base_name bases virtual_noted virtuals
returns-clause-events c = record { tokens = refl; bases = refl; virtuals = refl }

pub returns-clause-two_lines : goal.returns-clause-two_lines
unfolding placed plain tokens_from found_at text_ending comment_length is_head has_mutex first_place is_head_before is_in_base picked left_at tokens_left base_name bases virtual_noted virtuals
returns-clause-two_lines c = record { tokens = refl; bases = refl; virtuals = refl }
