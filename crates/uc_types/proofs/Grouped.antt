-- The constructors of a class among groups.
use Rattle.std.proofs.Common.{◌≡◌, ℕ, zero, suc, ◌+◌, ◌-◌, ◌≤◌, ◌<◌, List, [], ◌∷◌, ◌++◌, Bool, true, false, Some, None, if◌then◌else◌, option_map, unwrap_or, slice_get, get_or, drop, length, map, refl, ap, sym, ◌∙◌, arith, append_assoc, set}
use Rattle.std.proofs.lemmas.List.{append-nil}
use Rattle.std.specs.Cmp.Lexicographic.{bytes_decides}
use Rattle.uc_tree.specs.Names.{same_name}
use Rattle.uc_tree.specs.Numbering.{place_from}
use Rattle.uc_tree.specs.Programs.{Routine, Item}
use Rattle.uc_types.specs.OuterConstructors.{ClassConstructors, constructor_in, constructors_in, group_named, grown, grown_at}
use Rattle.uc_types.proofs.Placed.{place_low}
use Rattle.uc_types.proofs.Loops.{split}

abbrev pub owners : List ClassConstructors → List (List ℕ)
owners gs = map (λ g. g.owner) gs

-- the group of a name stands at its place
found_case : (b : Bool) (g : ClassConstructors) (gs : List ClassConstructors) (i : ℕ) (name : List ℕ) (p : ℕ) → (place_from (i + 1) (owners gs) name ≡ Some p → unwrap_or (option_map (λ g. g.routines) (slice_get gs (p - (i + 1)))) [] ≡ group_named gs name) → (if b then Some i else place_from (i + 1) (owners gs) name) ≡ Some p → unwrap_or (option_map (λ g. g.routines) (slice_get (g ∷ gs) (p - i))) [] ≡ (if b then g.routines else group_named gs name)
found_case true g gs i name p more h =
    let is : i ≡ p = cc in
    let first : p - i ≡ 0 = omega (arith, is) in
    ap (λ k. unwrap_or (option_map (λ g. g.routines) (slice_get (g ∷ gs) k)) []) first
found_case false g gs i name p more h =
    let low = place_low (i + 1) (owners gs) name p h in
    let next : p - i ≡ suc (p - (i + 1)) = omega (arith, low) in
    ap (λ k. unwrap_or (option_map (λ g. g.routines) (slice_get (g ∷ gs) k)) []) next ∙ more h

found_from : (gs : List ClassConstructors) (i : ℕ) (name : List ℕ) (p : ℕ) → place_from i (owners gs) name ≡ Some p → unwrap_or (option_map (λ g. g.routines) (slice_get gs (p - i))) [] ≡ group_named gs name
found_from [] i name p h = cc
found_from (g ∷ gs) i name p h = found_case (same_name g.owner name) g gs i name p (found_from gs (i + 1) name p) h

pub group_found : (gs : List ClassConstructors) (name : List ℕ) (p : ℕ) → Some p ≡ place_from 0 (owners gs) name → unwrap_or (option_map (λ g. g.routines) (slice_get gs p)) [] ≡ group_named gs name
group_found gs name p h = let e : p - 0 ≡ p = omega arith in ap (λ k. unwrap_or (option_map (λ g. g.routines) (slice_get gs k)) []) (sym e) ∙ found_from gs 0 name p (sym h)

nowhere_case : (b : Bool) (g : ClassConstructors) (gs : List ClassConstructors) (i : ℕ) (name : List ℕ) → (None ≡ place_from (i + 1) (owners gs) name → [] ≡ group_named gs name) → None ≡ (if b then Some i else place_from (i + 1) (owners gs) name) → [] ≡ (if b then g.routines else group_named gs name)
nowhere_case true g gs i name more h = cc
nowhere_case false g gs i name more h = more h

pub group_nowhere : (gs : List ClassConstructors) (i : ℕ) (name : List ℕ) → None ≡ place_from i (owners gs) name → [] ≡ group_named gs name
group_nowhere [] i name h = refl
group_nowhere (g ∷ gs) i name h = nowhere_case (same_name g.owner name) g gs i name (group_nowhere gs (i + 1) name) h

-- a group of another name does not grow
apart_case : (x name : List ℕ) (r : Routine) (b : Bool) → same_name x name ≡ b → (same_name x name ≡ true → true ≡ false) → grown x name r ≡ []
apart_case x name r true e differs = absurd (let f = differs e in cc)
apart_case x name r false e differs = ap (λ b. if b then r ∷ [] else []) e

apart : (g x name : List ℕ) (r : Routine) → same_name g x ≡ false → same_name g name ≡ true → grown x name r ≡ []
apart g x name r differs same =
    let is : g ≡ name = (bytes_decides g name).0 same in
    apart_case x name r (same_name x name) refl (λ e.
    let also : x ≡ name = (bytes_decides x name).0 e in
    let both : g ≡ x = is ∙ sym also in
    sym ((bytes_decides g x).1 both) ∙ differs)

-- one more in a group
pub owners_kept : (gs : List ClassConstructors) (i : ℕ) (r : Routine) → owners (grown_at gs i r) ≡ owners gs
owners_kept [] i r = refl
owners_kept (g ∷ gs) zero r = refl
owners_kept (g ∷ gs) (suc i) r = ap (λ l. g.owner ∷ l) (owners_kept gs i r)

pub none_at : (gs : List ClassConstructors) (i : ℕ) (r : Routine) → length gs ≤ i → gs ≡ grown_at gs i r
none_at [] i r h = refl
none_at (g ∷ gs) zero r h = absurd (omega (arith, h))
none_at (g ∷ gs) (suc i) r h = let k : length gs ≤ i = omega (arith, h) in ap (λ l. g ∷ l) (none_at gs i r k)

pub set_at : (gs : List ClassConstructors) (i : ℕ) (r : Routine) (g h : ClassConstructors) → i < length gs → g ≡ get_or gs i g → h ≡ record { owner = g.owner; routines = g.routines ++ r ∷ [] } → set gs i h ≡ grown_at gs i r
set_at [] i r g h lt at is = absurd (omega (arith, lt))
set_at (x ∷ gs) zero r g h lt at is = ap (λ y. y ∷ gs) is ∙ ap (λ y. record { owner = y.owner; routines = y.routines ++ r ∷ [] } ∷ gs) at
set_at (x ∷ gs) (suc i) r g h lt at is = let k : i < length gs = omega (arith, lt) in ap (λ l. x ∷ l) (set_at gs i r g h k at is)

own_grows : (t : Bool) (g : ClassConstructors) (gs : List ClassConstructors) (name : List ℕ) (r : Routine) → (if t then g.routines ++ r ∷ [] else group_named gs name) ≡ (if t then g.routines else group_named gs name) ++ (if t then r ∷ [] else [])
own_grows true g gs name r = refl
own_grows false g gs name r = sym (append-nil (group_named gs name))

other_grows : (t : Bool) (g : ClassConstructors) (more gs : List ClassConstructors) (x name : List ℕ) (r : Routine) → same_name g.owner name ≡ t → same_name g.owner x ≡ false → group_named more name ≡ group_named gs name ++ grown x name r → (if t then g.routines else group_named more name) ≡ (if t then g.routines else group_named gs name) ++ grown x name r
other_grows true g more gs x name r e differs rest = sym (ap (λ l. g.routines ++ l) (apart g.owner x name r differs e) ∙ append-nil g.routines)
other_grows false g more gs x name r e differs rest = rest

grown_case : (b : Bool) (g : ClassConstructors) (gs : List ClassConstructors) (i : ℕ) (x name : List ℕ) (p : ℕ) (r : Routine) → same_name g.owner x ≡ b → (place_from (i + 1) (owners gs) x ≡ Some p → group_named (grown_at gs (p - (i + 1)) r) name ≡ group_named gs name ++ grown x name r) → (if b then Some i else place_from (i + 1) (owners gs) x) ≡ Some p → group_named (grown_at (g ∷ gs) (p - i) r) name ≡ group_named (g ∷ gs) name ++ grown x name r
grown_case true g gs i x name p r e more h =
    let is : i ≡ p = cc in
    let first : p - i ≡ 0 = omega (arith, is) in
    let same : g.owner ≡ x = (bytes_decides g.owner x).0 e in
    ap (λ k. group_named (grown_at (g ∷ gs) k r) name) first
    ∙ own_grows (same_name g.owner name) g gs name r
    ∙ ap (λ n. group_named (g ∷ gs) name ++ grown n name r) same
grown_case false g gs i x name p r e more h =
    let low = place_low (i + 1) (owners gs) x p h in
    let next : p - i ≡ suc (p - (i + 1)) = omega (arith, low) in
    ap (λ k. group_named (grown_at (g ∷ gs) k r) name) next
    ∙ other_grows (same_name g.owner name) g (grown_at gs (p - (i + 1)) r) gs x name r refl e (more h)

grown_from : (gs : List ClassConstructors) (i : ℕ) (x name : List ℕ) (p : ℕ) (r : Routine) → place_from i (owners gs) x ≡ Some p → group_named (grown_at gs (p - i) r) name ≡ group_named gs name ++ grown x name r
grown_from [] i x name p r h = cc
grown_from (g ∷ gs) i x name p r h = grown_case (same_name g.owner x) g gs i x name p r refl (grown_from gs (i + 1) x name p r) h

pub grown_is : (gs : List ClassConstructors) (x : List ℕ) (p : ℕ) (r : Routine) → Some p ≡ place_from 0 (owners gs) x → (name : List ℕ) → group_named (grown_at gs p r) name ≡ group_named gs name ++ grown x name r
grown_is gs x p r h name = let e : p - 0 ≡ p = omega arith in ap (λ k. group_named (grown_at gs k r) name) (sym e) ∙ grown_from gs 0 x name p r (sym h)

-- a group more
begun_case : (b : Bool) (g : ClassConstructors) (gs : List ClassConstructors) (i : ℕ) (x name : List ℕ) (r : Routine) → same_name g.owner x ≡ b → (None ≡ place_from (i + 1) (owners gs) x → group_named (gs ++ record { owner = x; routines = r ∷ [] } ∷ []) name ≡ group_named gs name ++ grown x name r) → None ≡ (if b then Some i else place_from (i + 1) (owners gs) x) → group_named ((g ∷ gs) ++ record { owner = x; routines = r ∷ [] } ∷ []) name ≡ group_named (g ∷ gs) name ++ grown x name r
begun_case true g gs i x name r e more h = absurd (cc)
begun_case false g gs i x name r e more h = other_grows (same_name g.owner name) g (gs ++ record { owner = x; routines = r ∷ [] } ∷ []) gs x name r refl e (more h)

pub begun_is : (gs : List ClassConstructors) (i : ℕ) (x : List ℕ) (r : Routine) (name : List ℕ) → None ≡ place_from i (owners gs) x → group_named (gs ++ record { owner = x; routines = r ∷ [] } ∷ []) name ≡ group_named gs name ++ grown x name r
begun_is [] i x r name h = refl
begun_is (g ∷ gs) i x r name h = begun_case (same_name g.owner x) g gs i x name r refl (begun_is gs (i + 1) x r name) h

-- one more item
pub items_more : (xs : List Item) (i : ℕ) (x : Item) (name : List ℕ) (old new all : List Routine) → i < length xs → x ≡ get_or xs i x → new ≡ old ++ constructor_in name x → old ++ constructors_in name (drop i xs) ≡ all → new ++ constructors_in name (drop (i + 1) xs) ≡ all
items_more xs i x name old new all h k step inv =
    let rest = constructors_in name (drop (i + 1) xs) in
    ap (λ l. l ++ rest) step
    ∙ append_assoc old (constructor_in name x) rest
    ∙ ap (λ l. old ++ constructors_in name l) (sym (split xs i x h k))
    ∙ inv
