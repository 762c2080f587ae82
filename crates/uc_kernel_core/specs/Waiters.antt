-- What becomes of the front waiter of a condition.
use Rattle.std.specs.Prelude.{ℕ, ℤ, List, [], ◌∷◌}
use Rattle.uc_entry.specs.declared.entry.Entry.{Entry}
use Rattle.uc_acts.specs.Acts.{admit, push}

-- it goes on the stack
abbrev pub front_pushed : ℕ → ℕ → List (ℕ × ℤ) → List Entry
front_pushed p o [] = []
front_pushed p o (w ∷ ws) = push p w.0 o ∷ []

-- it comes in before the signaller
abbrev pub front_admitted : ℕ → ℕ → List (ℕ × ℤ) → List Entry
front_admitted p o [] = []
front_admitted p o (w ∷ ws) = admit p w.0 o 4 0 ∷ []
