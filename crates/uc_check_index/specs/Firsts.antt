-- Tables of the first place of each key in a list, where a place may have no key.
use Rattle.std.specs.Prelude.{◌≡◌, ℕ, ◌+◌, List, [], ◌∷◌, Bool, true, false, Option, Some, None, nat_lt, length, if◌then◌else◌}
use Rattle.std.specs.List.{list_any}
use Rattle.uc_names.specs.Blocks.{Block, declared, found, is_declared}
use Rattle.uc_rules.specs.ItemBreaks.{is_named}

-- whether one of these has the name
abbrev pub any_named : {A : Type 0} → (A → Option (List ℕ)) → List ℕ → List A → Bool
any_named key name xs = list_any (λ x. is_named (key x) name) xs

-- the first place of a key; the first of these has the place i
abbrev pub first_from : {A : Type 0} → (A → Option (List ℕ)) → ℕ → List A → List ℕ → Option ℕ
first_from key i [] name = None
first_from key i (x ∷ xs) name = if is_named (key x) name then Some i else first_from key (i + 1) xs name

-- a table of one block has the first place of each key
pub record AreFirsts {A : Type 0} (key : A → Option (List ℕ)) (xs : List A) (blocks : List Block) : Type 0 where
  pub one : length blocks ≡ 1
  pub at : (name : List ℕ) → found blocks name ≡ first_from key 0 xs name

-- with one more place
abbrev pub noted_as : Bool → List Block → List ℕ → ℕ → List Block
noted_as true bs name place = bs
noted_as false bs name place = declared bs name place

abbrev pub noted : List Block → Option (List ℕ) → ℕ → List Block
noted bs None place = bs
noted bs (Some name) place = noted_as (is_declared bs name) bs name place

abbrev pub is_before : Option ℕ → ℕ → Bool
is_before None end = false
is_before (Some place) end = nat_lt place end
