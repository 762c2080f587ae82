use Rattle.std.proofs.Common.{refl}
use Rattle.uc_tree.specs.Tokens.{tokens_from, found_at, text_ending, comment_length}
use Rattle.uc_grammar.specs.Samples.{placed, plain}
use Rattle.uc_inherit.specs.ClassHeads.{is_head, has_mutex, first_place, is_head_before, is_in_base}
use Rattle.uc_inherit.specs.OpenedTokens.{picked, left_at, tokens_left, base_name, bases, virtual_noted, virtuals}
use Rattle.uc_inherit.proofs.samples.samples_of_virtual.Goals as goal

pub returns-clause-member : goal.returns-clause-member
unfolding placed plain tokens_from found_at text_ending comment_length is_head has_mutex first_place is_head_before is_in_base picked left_at tokens_left base_name bases virtual_noted virtuals
returns-clause-member c = record { tokens = refl; bases = refl; virtuals = refl }

pub returns-clause-last : goal.returns-clause-last
unfolding placed plain tokens_from found_at text_ending comment_length is_head has_mutex first_place is_head_before is_in_base picked left_at tokens_left base_name bases virtual_noted virtuals
returns-clause-last c = record { tokens = refl; bases = refl; virtuals = refl }

pub returns-clause-alone : goal.returns-clause-alone
unfolding placed plain tokens_from found_at text_ending comment_length is_head has_mutex first_place is_head_before is_in_base picked left_at tokens_left base_name bases virtual_noted virtuals
returns-clause-alone c = record { tokens = refl; bases = refl; virtuals = refl }

pub returns-clause-twice : goal.returns-clause-twice
unfolding placed plain tokens_from found_at text_ending comment_length is_head has_mutex first_place is_head_before is_in_base picked left_at tokens_left base_name bases virtual_noted virtuals
returns-clause-twice c = record { tokens = refl; bases = refl; virtuals = refl }

pub returns-clause-before_head : goal.returns-clause-before_head
unfolding placed plain tokens_from found_at text_ending comment_length is_head has_mutex first_place is_head_before is_in_base picked left_at tokens_left base_name bases virtual_noted virtuals
returns-clause-before_head c = record { tokens = refl; bases = refl; virtuals = refl }

pub returns-clause-virtual_base : goal.returns-clause-virtual_base
unfolding placed plain tokens_from found_at text_ending comment_length is_head has_mutex first_place is_head_before is_in_base picked left_at tokens_left base_name bases virtual_noted virtuals
returns-clause-virtual_base c = record { tokens = refl; bases = refl; virtuals = refl }

pub returns-clause-behind_access : goal.returns-clause-behind_access
unfolding placed plain tokens_from found_at text_ending comment_length is_head has_mutex first_place is_head_before is_in_base picked left_at tokens_left base_name bases virtual_noted virtuals
returns-clause-behind_access c = record { tokens = refl; bases = refl; virtuals = refl }

pub returns-clause-behind_name : goal.returns-clause-behind_name
unfolding placed plain tokens_from found_at text_ending comment_length is_head has_mutex first_place is_head_before is_in_base picked left_at tokens_left base_name bases virtual_noted virtuals
returns-clause-behind_name c = record { tokens = refl; bases = refl; virtuals = refl }

pub returns-clause-no_name : goal.returns-clause-no_name
unfolding placed plain tokens_from found_at text_ending comment_length is_head has_mutex first_place is_head_before is_in_base picked left_at tokens_left base_name bases virtual_noted virtuals
returns-clause-no_name c = record { tokens = refl; bases = refl; virtuals = refl }

pub returns-clause-no_base : goal.returns-clause-no_base
unfolding placed plain tokens_from found_at text_ending comment_length is_head has_mutex first_place is_head_before is_in_base picked left_at tokens_left base_name bases virtual_noted virtuals
returns-clause-no_base c = record { tokens = refl; bases = refl; virtuals = refl }
