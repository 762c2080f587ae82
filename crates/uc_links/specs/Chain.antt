-- Nodes that are linked in an order.
use Rattle.std.specs.Prelude.{◌≡◌, ◌≢◌, ℕ, ◌*◌, ◌/◌, ◌-◌, ◌<◌, List, [], ◌∷◌, Bool, false, Option, Some, None, slice_index_or, ⊤}
use Rattle.std.specs.List.{AllByRecursion}
use Rattle.std.specs.Vec.{vec_len, vec_ptr}
use denote.RawPtr.{count_of, ◌+ₚ◌}
use Rattle.uc_links.specs.declared.chain.Link.{Link}
use Rattle.uc_links.specs.declared.chain.Node.{Node}
use Rattle.uc_links.specs.declared.chain.NodePtr.{NodePtr}
use Rattle.uc_links.specs.declared.chain.Ends.{Ends}
use Rattle.std.specs.Global.{Vec}

abbrev pub Nodes : Type 0
Nodes = Vec Node

-- ---- where a node lies
abbrev pub node_size : ℕ
node_size = 80

abbrev pub place_of : Nodes → ℕ → NodePtr
place_of v i = record { ptr = vec_ptr v +ₚ i * node_size }

abbrev pub index_of : Nodes → NodePtr → ℕ
index_of v p = (count_of p.ptr - count_of (vec_ptr v)) / node_size

-- p points to a node
abbrev pub IsNode : Nodes → NodePtr → Type 0
IsNode v p = (p ≡ place_of v (index_of v p)) × (index_of v p < vec_len v)

-- ---- what a node holds
abbrev pub no_link : Link
no_link = record { prev = None; next = None }

abbrev pub blank : Node
blank = record { id = 0; member = 0; object = 0; stacked = false; links = no_link ∷ no_link ∷ [] }

abbrev pub node : Nodes → ℕ → Node
node v i = slice_index_or v.items i blank

abbrev pub link : ℕ → Nodes → ℕ → Link
link k v i = slice_index_or (node v i).links k no_link

-- the nodes, and where they lie, stayed
abbrev pub SameNodes : Nodes → Nodes → Type 0
SameNodes old new = (vec_ptr new ≡ vec_ptr old) × (vec_len new ≡ vec_len old) × (new.items ≡ old.items)

-- ---- orders
abbrev pub first_or : (ℕ → NodePtr) → List ℕ → Option NodePtr → Option NodePtr
first_or ref [] n = n
first_or ref (i ∷ is) n = Some (ref i)

abbrev pub last_or : (ℕ → NodePtr) → Option NodePtr → List ℕ → Option NodePtr
last_or ref p [] = p
last_or ref p (i ∷ is) = last_or ref (Some (ref i)) is

-- these nodes are linked in this order, between p and n
abbrev pub IsSegment : (ℕ → NodePtr) → (ℕ → Link) → Option NodePtr → List ℕ → Option NodePtr → Type 0
IsSegment ref L p [] n = ⊤
IsSegment ref L p (i ∷ is) n = (L i ≡ record { prev = p; next = first_or ref is n }) × IsSegment ref L (Some (ref i)) is n

abbrev pub Avoids : ℕ → List ℕ → Type 0
Avoids i = AllByRecursion (λ j. j ≢ i)

-- no node comes twice
abbrev pub IsApart : List ℕ → Type 0
IsApart [] = ⊤
IsApart (i ∷ is) = Avoids i is × IsApart is

-- between these ends lie the nodes es
abbrev pub IsChain : ℕ → Nodes → Ends → List ℕ → Type 0
IsChain k v ends es =
    (ends ≡ record { first = first_or (place_of v) es None; last = last_or (place_of v) None es })
    × IsSegment (place_of v) (link k v) None es None × AllByRecursion (λ i. i < vec_len v) es × IsApart es

abbrev pub SameLabel : Nodes → Nodes → ℕ → Type 0
SameLabel new old i = ((node new i).id ≡ (node old i).id) × ((node new i).member ≡ (node old i).member) × ((node new i).object ≡ (node old i).object) × ((node new i).stacked ≡ (node old i).stacked)

-- only the link of j in the order k changed, to l
abbrev pub Relinked : ℕ → ℕ → Link → Nodes → Nodes → Type 0
Relinked k j l old new =
    (vec_ptr new ≡ vec_ptr old) × (vec_len new ≡ vec_len old) × (link k new j ≡ l)
    × ((i : ℕ) → i ≢ j → link k new i ≡ link k old i)
    × ((h i : ℕ) → h ≢ k → link h new i ≡ link h old i)
    × ((i : ℕ) → SameLabel new old i)
    × ((i : ℕ) → i ≢ j → node new i ≡ node old i)

-- what comes after prev, or first where that is None, became to
abbrev pub AfterSet : ℕ → Nodes → Ends → Option NodePtr → Option NodePtr → Nodes → Ends → Type 0
AfterSet k old ends to None new ends' = (new ≡ old) × (ends' ≡ record { first = to; last = ends.last })
AfterSet k old ends to (Some p) new ends' = Relinked k (index_of old p) (record { prev = (link k old (index_of old p)).prev; next = to }) old new × (ends' ≡ ends)

-- what comes before next, or last where that is None, became to
abbrev pub BeforeSet : ℕ → Nodes → Ends → Option NodePtr → Option NodePtr → Nodes → Ends → Type 0
BeforeSet k old ends to None new ends' = (new ≡ old) × (ends' ≡ record { first = ends.first; last = to })
BeforeSet k old ends to (Some p) new ends' = Relinked k (index_of old p) (record { prev = to; next = (link k old (index_of old p)).next }) old new × (ends' ≡ ends)

-- p points to a node, if it is one
abbrev pub IsNodeIfSome : Nodes → Option NodePtr → Type 0
IsNodeIfSome v None = ⊤
IsNodeIfSome v (Some p) = IsNode v p

-- in the order k nothing changed but at the nodes es, in another order nothing
abbrev pub ChangedWithin : ℕ → List ℕ → Nodes → Nodes → Type 0
ChangedWithin k es old new =
    (vec_ptr new ≡ vec_ptr old) × (vec_len new ≡ vec_len old)
    × ((i : ℕ) → Avoids i es → link k new i ≡ link k old i)
    × ((h i : ℕ) → h ≢ k → link h new i ≡ link h old i)
    × ((i : ℕ) → SameLabel new old i)
    × ((i : ℕ) → Avoids i es → node new i ≡ node old i)

-- only the label of j changed, to these
abbrev pub Labelled : ℕ → ℕ → Bool → ℕ → Nodes → Nodes → Type 0
Labelled j object stacked member old new =
    (vec_ptr new ≡ vec_ptr old) × (vec_len new ≡ vec_len old)
    × ((node new j).id ≡ (node old j).id) × ((node new j).member ≡ member) × ((node new j).object ≡ object) × ((node new j).stacked ≡ stacked)
    × ((h i : ℕ) → link h new i ≡ link h old i)
    × ((i : ℕ) → i ≢ j → node new i ≡ node old i)
