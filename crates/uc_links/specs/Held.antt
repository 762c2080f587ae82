-- What the nodes of an object hold, as two lists.
use Rattle.std.specs.Prelude.{◌≡◌, ◌≢◌, ◌==◌, ℕ, ◌<◌, List, [], ◌∷◌, length, Bool, false, true, Option, Some, None, zero, suc, slice_index_or, ⊤}
use Rattle.std.specs.List.{AllByRecursion, filter}
use Rattle.std.specs.Vec.{vec_len, vec_ptr}
use Rattle.uc_links.specs.declared.chain.Ends.{Ends}
use Rattle.uc_links.specs.declared.chain.NodePtr.{NodePtr}
use Rattle.uc_links.specs.Chain.{Nodes, node, link, index_of, place_of, first_or, Avoids, IsApart, IsChain}
use Rattle.uc_links.specs.Lists.{member_limit}

-- the ends of an object's entries and of each member's, and the top of its stack
pub record AllEnds : Type 0 where
  pub entries : Ends
  pub members : List Ends
  pub top : Option NodePtr

-- ---- the lists, read from the nodes: at most n steps from p on
abbrev pub follow : ℕ → Nodes → Option NodePtr → List ℕ
follow zero v p = []
follow (suc n) v None = []
follow (suc n) v (Some p) = index_of v p ∷ follow n v (link 0 v (index_of v p)).next

abbrev pub entries_of : Nodes → AllEnds → List ℕ
entries_of v ob = follow (vec_len v) v ob.entries.first

abbrev pub stack_of : Nodes → AllEnds → List ℕ
stack_of v ob = follow (vec_len v) v ob.top

-- ---- what must hold
abbrev pub no_ends : Ends
no_ends = record { first = None; last = None }

abbrev pub ends_of : AllEnds → ℕ → Ends
ends_of ob m = slice_index_or ob.members m no_ends

-- the entries of a member
abbrev pub peers : Nodes → ℕ → List ℕ → List ℕ
peers v m = filter (λ i. (node v i).member == m)

-- nodes on a stack: each one leads to the next
abbrev pub IsStack : Nodes → List ℕ → Type 0
IsStack v [] = ⊤
IsStack v (i ∷ is) = ((link 0 v i).next ≡ first_or (place_of v) is None) × IsStack v is

-- a node of an object's entries, or of its stack, says so
abbrev pub IsOf : Nodes → ℕ → Bool → ℕ → Type 0
IsOf v o stacked i = ((node v i).object ≡ o) × ((node v i).stacked ≡ stacked) × ((node v i).member < member_limit)

-- the object o has these entries and this stack
abbrev pub IsHeld : Nodes → ℕ → AllEnds → List ℕ → List ℕ → Type 0
IsHeld v o ob es st =
    IsChain 0 v ob.entries es
    × ((m : ℕ) → m < member_limit → IsChain 1 v (ends_of ob m) (peers v m es))
    × AllByRecursion (IsOf v o false) es
    × (ob.top ≡ first_or (place_of v) st None) × IsStack v st
    × AllByRecursion (IsOf v o true) st
    × AllByRecursion (λ i. i < vec_len v) st × IsApart st × (length ob.members ≡ member_limit)

-- only the nodes es changed, and labels only of the node j
abbrev pub Changed : ℕ → List ℕ → Nodes → Nodes → Type 0
Changed j es old new =
    (vec_ptr new ≡ vec_ptr old) × (vec_len new ≡ vec_len old)
    × ((i : ℕ) → (node new i).id ≡ (node old i).id)
    × ((i : ℕ) → i ≢ j → (node new i).member ≡ (node old i).member)
    × ((i : ℕ) → Avoids i es → node new i ≡ node old i)
