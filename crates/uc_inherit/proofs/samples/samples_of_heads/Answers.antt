use Rattle.std.proofs.Common.{refl}
use Rattle.uc_tree.specs.Tokens.{tokens_from, found_at, text_ending, comment_length}
use Rattle.uc_grammar.specs.Samples.{placed, plain}
use Rattle.uc_inherit.specs.ClassHeads.{is_head, has_mutex, first_place, is_head_before, is_in_base}
use Rattle.uc_inherit.specs.OpenedTokens.{picked, left_at, tokens_left, base_name, bases, virtual_noted, virtuals}
use Rattle.uc_inherit.proofs.samples.samples_of_heads.Goals as goal

pub returns-clause-of_class : goal.returns-clause-of_class
unfolding placed plain tokens_from found_at text_ending comment_length is_head has_mutex first_place is_head_before is_in_base picked left_at tokens_left base_name bases virtual_noted virtuals
returns-clause-of_class c = record { tokens = refl; bases = refl; virtuals = refl }

pub returns-clause-of_coroutine : goal.returns-clause-of_coroutine
unfolding placed plain tokens_from found_at text_ending comment_length is_head has_mutex first_place is_head_before is_in_base picked left_at tokens_left base_name bases virtual_noted virtuals
returns-clause-of_coroutine c = record { tokens = refl; bases = refl; virtuals = refl }

pub returns-clause-of_monitor : goal.returns-clause-of_monitor
unfolding placed plain tokens_from found_at text_ending comment_length is_head has_mutex first_place is_head_before is_in_base picked left_at tokens_left base_name bases virtual_noted virtuals
returns-clause-of_monitor c = record { tokens = refl; bases = refl; virtuals = refl }

pub returns-clause-of_cormonitor : goal.returns-clause-of_cormonitor
unfolding placed plain tokens_from found_at text_ending comment_length is_head has_mutex first_place is_head_before is_in_base picked left_at tokens_left base_name bases virtual_noted virtuals
returns-clause-of_cormonitor c = record { tokens = refl; bases = refl; virtuals = refl }

pub returns-clause-of_task : goal.returns-clause-of_task
unfolding placed plain tokens_from found_at text_ending comment_length is_head has_mutex first_place is_head_before is_in_base picked left_at tokens_left base_name bases virtual_noted virtuals
returns-clause-of_task c = record { tokens = refl; bases = refl; virtuals = refl }

pub returns-clause-of_event : goal.returns-clause-of_event
unfolding placed plain tokens_from found_at text_ending comment_length is_head has_mutex first_place is_head_before is_in_base picked left_at tokens_left base_name bases virtual_noted virtuals
returns-clause-of_event c = record { tokens = refl; bases = refl; virtuals = refl }

pub returns-clause-of_exception : goal.returns-clause-of_exception
unfolding placed plain tokens_from found_at text_ending comment_length is_head has_mutex first_place is_head_before is_in_base picked left_at tokens_left base_name bases virtual_noted virtuals
returns-clause-of_exception c = record { tokens = refl; bases = refl; virtuals = refl }

pub returns-clause-of_mutex_class : goal.returns-clause-of_mutex_class
unfolding placed plain tokens_from found_at text_ending comment_length is_head has_mutex first_place is_head_before is_in_base picked left_at tokens_left base_name bases virtual_noted virtuals
returns-clause-of_mutex_class c = record { tokens = refl; bases = refl; virtuals = refl }

pub returns-clause-of_mutex_coroutine : goal.returns-clause-of_mutex_coroutine
unfolding placed plain tokens_from found_at text_ending comment_length is_head has_mutex first_place is_head_before is_in_base picked left_at tokens_left base_name bases virtual_noted virtuals
returns-clause-of_mutex_coroutine c = record { tokens = refl; bases = refl; virtuals = refl }

pub returns-clause-behind_another : goal.returns-clause-behind_another
unfolding placed plain tokens_from found_at text_ending comment_length is_head has_mutex first_place is_head_before is_in_base picked left_at tokens_left base_name bases virtual_noted virtuals
returns-clause-behind_another c = record { tokens = refl; bases = refl; virtuals = refl }

pub returns-clause-mutex_task : goal.returns-clause-mutex_task
unfolding placed plain tokens_from found_at text_ending comment_length is_head has_mutex first_place is_head_before is_in_base picked left_at tokens_left base_name bases virtual_noted virtuals
returns-clause-mutex_task c = record { tokens = refl; bases = refl; virtuals = refl }

pub returns-clause-two_heads : goal.returns-clause-two_heads
unfolding placed plain tokens_from found_at text_ending comment_length is_head has_mutex first_place is_head_before is_in_base picked left_at tokens_left base_name bases virtual_noted virtuals
returns-clause-two_heads c = record { tokens = refl; bases = refl; virtuals = refl }
