use Rattle.std.proofs.Common.{refl}
use Rattle.uc_tree.specs.Tokens.{tokens_from, found_at, text_ending, comment_length}
use Rattle.uc_grammar.specs.Samples.{placed, plain}
use Rattle.uc_inherit.specs.ClassHeads.{is_head, has_mutex, first_place, is_head_before, is_in_base}
use Rattle.uc_inherit.specs.OpenedTokens.{picked, left_at, tokens_left, base_name, bases, virtual_noted, virtuals}
use Rattle.uc_inherit.proofs.samples.samples_of_others.Goals as goal

pub returns-clause-nothing : goal.returns-clause-nothing
unfolding placed plain tokens_from found_at text_ending comment_length is_head has_mutex first_place is_head_before is_in_base picked left_at tokens_left base_name bases virtual_noted virtuals
returns-clause-nothing c = record { tokens = refl; bases = refl; virtuals = refl }

pub returns-clause-plain : goal.returns-clause-plain
unfolding placed plain tokens_from found_at text_ending comment_length is_head has_mutex first_place is_head_before is_in_base picked left_at tokens_left base_name bases virtual_noted virtuals
returns-clause-plain c = record { tokens = refl; bases = refl; virtuals = refl }

pub returns-clause-private : goal.returns-clause-private
unfolding placed plain tokens_from found_at text_ending comment_length is_head has_mutex first_place is_head_before is_in_base picked left_at tokens_left base_name bases virtual_noted virtuals
returns-clause-private c = record { tokens = refl; bases = refl; virtuals = refl }

pub returns-clause-no_access : goal.returns-clause-no_access
unfolding placed plain tokens_from found_at text_ending comment_length is_head has_mutex first_place is_head_before is_in_base picked left_at tokens_left base_name bases virtual_noted virtuals
returns-clause-no_access c = record { tokens = refl; bases = refl; virtuals = refl }

pub returns-clause-forward : goal.returns-clause-forward
unfolding placed plain tokens_from found_at text_ending comment_length is_head has_mutex first_place is_head_before is_in_base picked left_at tokens_left base_name bases virtual_noted virtuals
returns-clause-forward c = record { tokens = refl; bases = refl; virtuals = refl }

pub returns-clause-two_bases : goal.returns-clause-two_bases
unfolding placed plain tokens_from found_at text_ending comment_length is_head has_mutex first_place is_head_before is_in_base picked left_at tokens_left base_name bases virtual_noted virtuals
returns-clause-two_bases c = record { tokens = refl; bases = refl; virtuals = refl }

pub returns-clause-qualified : goal.returns-clause-qualified
unfolding placed plain tokens_from found_at text_ending comment_length is_head has_mutex first_place is_head_before is_in_base picked left_at tokens_left base_name bases virtual_noted virtuals
returns-clause-qualified c = record { tokens = refl; bases = refl; virtuals = refl }

pub returns-clause-nameless : goal.returns-clause-nameless
unfolding placed plain tokens_from found_at text_ending comment_length is_head has_mutex first_place is_head_before is_in_base picked left_at tokens_left base_name bases virtual_noted virtuals
returns-clause-nameless c = record { tokens = refl; bases = refl; virtuals = refl }

pub returns-clause-kindless : goal.returns-clause-kindless
unfolding placed plain tokens_from found_at text_ending comment_length is_head has_mutex first_place is_head_before is_in_base picked left_at tokens_left base_name bases virtual_noted virtuals
returns-clause-kindless c = record { tokens = refl; bases = refl; virtuals = refl }

pub returns-clause-other_kind : goal.returns-clause-other_kind
unfolding placed plain tokens_from found_at text_ending comment_length is_head has_mutex first_place is_head_before is_in_base picked left_at tokens_left base_name bases virtual_noted virtuals
returns-clause-other_kind c = record { tokens = refl; bases = refl; virtuals = refl }

pub returns-clause-label : goal.returns-clause-label
unfolding placed plain tokens_from found_at text_ending comment_length is_head has_mutex first_place is_head_before is_in_base picked left_at tokens_left base_name bases virtual_noted virtuals
returns-clause-label c = record { tokens = refl; bases = refl; virtuals = refl }

pub returns-clause-initialiser : goal.returns-clause-initialiser
unfolding placed plain tokens_from found_at text_ending comment_length is_head has_mutex first_place is_head_before is_in_base picked left_at tokens_left base_name bases virtual_noted virtuals
returns-clause-initialiser c = record { tokens = refl; bases = refl; virtuals = refl }

pub returns-clause-similar : goal.returns-clause-similar
unfolding placed plain tokens_from found_at text_ending comment_length is_head has_mutex first_place is_head_before is_in_base picked left_at tokens_left base_name bases virtual_noted virtuals
returns-clause-similar c = record { tokens = refl; bases = refl; virtuals = refl }
