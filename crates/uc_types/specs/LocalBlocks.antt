-- The locals in scope as blocks of one name each, the last one innermost.
use Rattle.std.specs.Prelude.{ℕ, ◌+◌, List, [], ◌∷◌}
use Rattle.uc_names.specs.Blocks.{Block}
use Rattle.uc_rules.specs.declared.rules.LocalName.{LocalName}

-- the blocks of these names, of which the first has the place i, round which others are open
abbrev pub stacked : ℕ → List LocalName → List Block → List Block
stacked i [] bs = bs
stacked i (s ∷ ss) bs = stacked (i + 1) ss (((s.name, i) ∷ []) ∷ bs)
