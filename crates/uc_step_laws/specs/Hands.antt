-- The numbers of what is in hand, and the forms of requests.
use Rattle.std.specs.Prelude.{◌≡◌, ℕ, ◌≤◌, List, [], ◌∷◌, length}
use Rattle.uc_entry.specs.declared.request.TheConstants.{PRINT_ITEMS}
use Rattle.uc_entry.specs.declared.request.Request.{Request}
use Rattle.uc_entry.specs.declared.request.Request.TheVariants as ask

-- the numbers, in their order
abbrev pub keys : {X : Type 0} → List (ℕ × X) → List ℕ
keys [] = []
keys (p ∷ ps) = p.0 ∷ keys ps

-- a print has at least one item and at most as many as there is room for; a read is of one of two forms
abbrev pub HasForm : Request → Type 0
HasForm (ask.Print n items) = (1 ≤ n) × (n ≤ PRINT_ITEMS) × (length items ≡ PRINT_ITEMS)
HasForm (ask.Read form) = form ≤ 1
HasForm r = Unit {0}
