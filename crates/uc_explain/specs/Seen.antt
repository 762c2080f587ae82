-- What views show, and of which journal.
use Rattle.std.specs.Prelude.{◌≡◌, ℕ, unwrap_or}
use Rattle.std.specs.Ordering.{nat_cmp}
use Rattle.std.specs.BTreeMap.{get}
use Rattle.uc_acts.specs.Journal.{Journal}
use Rattle.uc_explain.specs.declared.views.Views.{Views}
use Rattle.uc_explain.specs.Shown.{Shown, shown}
use Rattle.uc_explain.specs.Steps.{nothing}

-- what they show of object o
abbrev pub seen_at : Views → ℕ → Shown
seen_at v o = unwrap_or (get nat_cmp v.doors o) nothing

-- of each object they show what stands there
abbrev pub AreViewsOf : Views → Journal → Type 0
AreViewsOf v j = (o : ℕ) → seen_at v o ≡ shown o j
