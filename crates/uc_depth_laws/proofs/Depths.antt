-- Marks, what they are owed, and depths.
use Rattle.std.proofs.Common.{◌≡◌, ℕ, zero, suc, ◌+◌, ◌≤◌, ◌<◌, Bool, true, false, ◌&&◌, List, [], ◌∷◌, length, drop, Option, Some, None, inl, inr, refl, sym, subst, ap, arith}
use Rattle.std.specs.Prelude.{nat_eq, slice_set, if◌then◌else◌}
use Rattle.std.proofs.lemmas.Bool.{eqb-true}
use Rattle.std.proofs.lemmas.Bool.Decides.{eqb_tells}
use Rattle.uc_tree.specs.Source as src
use Rattle.uc_tree.specs.Source.{Source, Stmts, CleanUp, routine_of}
use Rattle.uc_entry.specs.Keyed.{find}
use Rattle.uc_machine.specs.Executions.{update}
use Rattle.uc_machine.specs.Switches.{without}
use Rattle.uc_machine.specs.Insides.{deeper, shallower}
use Rattle.uc_machine.specs.Pieces as piece
use Rattle.uc_machine.specs.Pieces.{Value, Todo, Sort, Active, top, object_in}
use Rattle.uc_depth_laws.specs.Entering.{Aspect, lets_go, asks, holds_object, asks_object, is_holding, EnteredStmts, EnteredBody}
use Rattle.uc_depth_laws.specs.Owing.{more, counted, Any, Skipped, CallOf, EnteredWhole, Entered, IsToldFor, IsToldFirst, calling, owed_first, first_marks, owed_own, depth_in, Done, EnteredPiece, EnteredNext}

-- marks

pub more_least : (b : Bool) (n : ℕ) → n ≤ more b n
more_least true n = omega arith
more_least false n = omega arith

pub more_most : (b : Bool) (n : ℕ) → more b n ≤ suc n
more_most true n = omega arith
more_most false n = omega arith

-- none stand in statements that are no routine
pub holds_none : (source : Source) (ss : Stmts) → EnteredStmts source ss → holds_object ss ≡ false
holds_none source src.Nil h = refl
holds_none source (src.Then a ss) h = refl
holds_none source (src.Scoped c ss) h = h.0
holds_none source (src.Built c ss) h = refl

pub body_of : (source : Source) (ss : Stmts) → EnteredStmts source ss → EnteredBody source ss
body_of source src.Nil h = h
body_of source (src.Then a ss) h = h
body_of source (src.Scoped c ss) h = (h.1, h.2)
body_of source (src.Built c ss) h = h

pub stmts_of : (source : Source) (ss : Stmts) → holds_object ss ≡ false → EnteredBody source ss → EnteredStmts source ss
stmts_of source src.Nil e h = h
stmts_of source (src.Then a ss) e h = h
stmts_of source (src.Scoped c ss) e h = (e, h.0, h.1)
stmts_of source (src.Built c ss) e h = h

-- nor is anything built in them
pub holds_scope : (c : CleanUp) (k : Aspect) → asks c k ≡ true → lets_go c ≡ true
holds_scope (src.Frees r) k f = refl
holds_scope src.Ends k f = refl
holds_scope c k f = cc

pub holds_building : (ss : Stmts) (k : Aspect) → asks_object ss k ≡ true → holds_object ss ≡ true
holds_building (src.Scoped c ss) k f = holds_scope c k f
holds_building ss k f = cc

pub true_false : {A : Type 0} {b : Bool} → b ≡ true → b ≡ false → A
true_false t f = cc

pub both_hold : (a b : Bool) → (a && b) ≡ true → (a ≡ true) × (b ≡ true)
both_hold true b h = (refl, h)
both_hold false b h = cc

pub both_are : (a b : Bool) → a ≡ true → b ≡ true → (a && b) ≡ true
both_are true b h k = k
both_are false b h k = cc

pub scope_none : {A : Type 0} (c : CleanUp) → lets_go c ≡ false → (k : Aspect) → asks c k ≡ true → A
scope_none c l k f = true_false (holds_scope c k f) l

pub building_none : {A : Type 0} (ss : Stmts) → holds_object ss ≡ false → (k : Aspect) → asks_object ss k ≡ true → A
building_none ss h k f = true_false (holds_building ss k f) h

pub whole_of : (source : Source) (told : Aspect → Bool) (ss : Stmts) → EnteredStmts source ss → EnteredWhole source told ss
whole_of source told ss h = (body_of source ss h, λ k f. building_none ss (holds_none source ss h) k f)

pub still : (source : Source) (ss : Stmts) (n m : ℕ) → EnteredStmts source ss → n ≤ m → more (holds_object ss) n ≤ m
still source ss n m h l =
    let e : more (holds_object ss) n ≡ n = ap (λ b. more b n) (holds_none source ss h) in
    omega (arith, e, l)

-- what is counted

pub counted_least : (q : ℕ) (v : Value) (n m : ℕ) → n ≤ m → counted q v n ≤ counted q v m
counted_least q v n m l = by (nat_eq (object_in v) q)
  where
    by : (b : Bool) → (if b then n else 0) ≤ (if b then m else 0)
    by true = l
    by false = omega arith

pub counted_one_less : (q : ℕ) (v : Value) (n m : ℕ) → suc n ≤ m → counted q v n + counted q v 1 ≤ counted q v m
counted_one_less q v n m l = by (nat_eq (object_in v) q)
  where
    by : (b : Bool) → (if b then n else 0) + (if b then 1 else 0) ≤ (if b then m else 0)
    by true = omega (arith, l)
    by false = omega arith

pub counted_none : (q : ℕ) (v : Value) → counted q v 0 ≡ 0
counted_none q v = by (nat_eq (object_in v) q)
  where
    by : (b : Bool) → ◌≡◌ {A = ℕ} (if b then 0 else 0) 0
    by true = refl
    by false = refl

same_true : (q : ℕ) → nat_eq q q ≡ true
same_true q = elim (eqb_tells q q) [
  | inl h ↦ h.0
  | inr h ↦ absurd (h.1 refl)
]

pub counted_own : (v : Value) (n : ℕ) → counted (object_in v) v n ≡ n
counted_own v n = ap (λ b. if b then n else 0) (same_true (object_in v))

pub own_one : (o : ℕ) → owed_own o o ≡ 1
own_one o = ap {B = ℕ} (λ b. if b then 1 else 0) (same_true o)

-- in a list in which no call comes first that has entered an object

pub none_first : (source : Source) (told : Aspect → Bool) (q : ℕ) (todo : List Todo) (vs : List Value) → Entered source told Any todo → owed_first source q todo vs ≡ 0
none_first source told q [] vs h = refl
none_first source told q (piece.CallOnNow r ∷ todo) vs h = ap (λ b. if b then counted q (top (drop (routine_of source r).params vs)) 1 else 0) h.0
none_first source told q (piece.CallUnwrittenNow r ∷ todo) vs h = ap (λ b. if b then counted q (top (drop (routine_of source r).params vs)) 1 else 0) h.0
none_first source told q (piece.BindMadeNow c r ∷ todo) vs h = absurd h.0
none_first source told q (p ∷ todo) vs h = refl

pub none_marked : (source : Source) (told : Aspect → Bool) (todo : List Todo) → Entered source told Any todo → first_marks source todo ≡ 0
none_marked source told [] h = refl
none_marked source told (piece.CallOnNow r ∷ todo) h = ap (λ b. more b 0) h.0
none_marked source told (piece.CallUnwrittenNow r ∷ todo) h = ap (λ b. more b 0) h.0
none_marked source told (piece.BindMadeNow c r ∷ todo) h = absurd h.0
none_marked source told (p ∷ todo) h = refl

-- so it is in a list of which the first piece is done next

pub piece_next : (source : Source) (told : Aspect → Bool) (p : Todo) → EnteredPiece source told p → EnteredNext source told p
piece_next source told (piece.Rest ss) h = whole_of source told ss h
piece_next source told piece.LeaveNow h = absurd h
piece_next source told piece.MadeNow h = absurd h
piece_next source told (piece.SpawnNow r) h = absurd h
piece_next source told piece.GoneNow h = absurd h
piece_next source told piece.GiveUpNow h = absurd h
piece_next source told p h = h

pub any_done : (source : Source) (told : Aspect → Bool) (todo : List Todo) → Entered source told Any todo → Entered source told Done todo
any_done source told [] h = tt
any_done source told (p ∷ todo) h = (piece_next source told p h.0, h.1)

pub done_first : (source : Source) (told : Aspect → Bool) (q : ℕ) (todo : List Todo) (vs : List Value) → Entered source told Done todo → owed_first source q todo vs ≡ 0
done_first source told q [] vs h = refl
done_first source told q (piece.CallOnNow r ∷ todo) vs h = ap (λ b. if b then counted q (top (drop (routine_of source r).params vs)) 1 else 0) h.0
done_first source told q (piece.CallUnwrittenNow r ∷ todo) vs h = ap (λ b. if b then counted q (top (drop (routine_of source r).params vs)) 1 else 0) h.0
done_first source told q (piece.BindMadeNow c r ∷ todo) vs h = absurd h.0
done_first source told q (p ∷ todo) vs h = refl

pub done_marked : (source : Source) (told : Aspect → Bool) (todo : List Todo) → Entered source told Done todo → first_marks source todo ≡ 0
done_marked source told [] h = refl
done_marked source told (piece.CallOnNow r ∷ todo) h = ap (λ b. more b 0) h.0
done_marked source told (piece.CallUnwrittenNow r ∷ todo) h = ap (λ b. more b 0) h.0
done_marked source told (piece.BindMadeNow c r ∷ todo) h = absurd h.0
done_marked source told (p ∷ todo) h = refl

pub done_told : (source : Source) (told : Aspect → Bool) (tells : Aspect → ℕ → Bool) (this : Value) (older : List Active) (todo : List Todo) (vs : List Value) → Entered source told Done todo → IsToldFirst source tells this older todo vs
done_told source told tells this older [] vs h = tt
done_told source told tells this older (piece.CallOnNow r ∷ todo) vs h = λ k f. building_none (routine_of source r).body h.0 k f
done_told source told tells this older (piece.CallUnwrittenNow r ∷ todo) vs h = λ k f. building_none (routine_of source r).body h.0 k f
done_told source told tells this older (piece.BindMadeNow c r ∷ todo) vs h = absurd h.0
done_told source told tells this older (p ∷ todo) vs h = tt

-- nor is anything built then
pub none_told : (source : Source) (told : Aspect → Bool) (tells : Aspect → ℕ → Bool) (this : Value) (older : List Active) (todo : List Todo) (vs : List Value) → Entered source told Any todo → IsToldFirst source tells this older todo vs
none_told source told tells this older [] vs h = tt
none_told source told tells this older (piece.CallOnNow r ∷ todo) vs h = λ k f. building_none (routine_of source r).body h.0 k f
none_told source told tells this older (piece.CallUnwrittenNow r ∷ todo) vs h = λ k f. building_none (routine_of source r).body h.0 k f
none_told source told tells this older (piece.BindMadeNow c r ∷ todo) vs h = absurd h.0
none_told source told tells this older (p ∷ todo) vs h = tt

-- behind what enters an object for a routine

-- what that builds is new
pub called_told : (source : Source) (told : Aspect → Bool) (tells : Aspect → ℕ → Bool) (this : Value) (older : List Active) (r : ℕ) (todo : List Todo) (vs : List Value) → Entered source told (CallOf r) todo → IsToldFor source tells r (top (drop (routine_of source r).params vs)) this todo older → IsToldFirst source tells this older todo vs
called_told source told tells this older r [] vs h k = tt
called_told source told tells this older r (piece.CallOnNow n ∷ todo) vs h k = subst (λ m. IsToldFor source tells m (top (drop (routine_of source m).params vs)) this todo older) (sym h.0) k
called_told source told tells this older r (piece.CallUnwrittenNow n ∷ todo) vs h k = subst (λ m. IsToldFor source tells m (top (drop (routine_of source m).params vs)) this todo older) (sym h.0) k
called_told source told tells this older r (p ∷ todo) vs h k = absurd h.0

pub calling_most : (source : Source) (q r : ℕ) (v : Value) → calling source q r v ≤ counted q v 1
calling_most source q r v = by (is_holding source r)
  where
    by : (b : Bool) → (if b then counted q v 1 else 0) ≤ counted q v 1
    by true = omega arith
    by false = omega arith

-- just what the call of the routine owes
pub called_first : (source : Source) (told : Aspect → Bool) (q r : ℕ) (todo : List Todo) (vs : List Value) → Entered source told (CallOf r) todo → owed_first source q todo vs ≤ calling source q r (top (drop (routine_of source r).params vs))
called_first source told q r [] vs h = omega arith
called_first source told q r (piece.CallOnNow k ∷ todo) vs h = subst (λ n. calling source q k (top (drop (routine_of source k).params vs)) ≤ calling source q n (top (drop (routine_of source n).params vs))) h.0 (omega arith)
called_first source told q r (piece.CallUnwrittenNow k ∷ todo) vs h = subst (λ n. calling source q k (top (drop (routine_of source k).params vs)) ≤ calling source q n (top (drop (routine_of source n).params vs))) h.0 (omega arith)
called_first source told q r (p ∷ todo) vs h = absurd h.0

pub entered_first : (source : Source) (told : Aspect → Bool) (q r : ℕ) (todo : List Todo) (vs : List Value) → Entered source told (CallOf r) todo → owed_first source q todo vs ≤ counted q (top (drop (routine_of source r).params vs)) 1
entered_first source told q r todo vs h =
    let a = called_first source told q r todo vs h in
    let b = calling_most source q r (top (drop (routine_of source r).params vs)) in
    omega (arith, a, b)

pub called_marks : (source : Source) (told : Aspect → Bool) (r : ℕ) (todo : List Todo) → Entered source told (CallOf r) todo → first_marks source todo ≤ more (is_holding source r) 0
called_marks source told r [] h = omega arith
called_marks source told r (piece.CallOnNow k ∷ todo) h = subst (λ n. more (is_holding source k) 0 ≤ more (is_holding source n) 0) h.0 (omega arith)
called_marks source told r (piece.CallUnwrittenNow k ∷ todo) h = subst (λ n. more (is_holding source k) 0 ≤ more (is_holding source n) 0) h.0 (omega arith)
called_marks source told r (p ∷ todo) h = absurd h.0

-- what may stand behind an exit

pub any_skipped : (source : Source) (told : Aspect → Bool) (todo : List Todo) → Entered source told Any todo → Entered source told Skipped todo
any_skipped source told [] h = tt
any_skipped source told (piece.CallOnNow r ∷ todo) h = (tt, h.1)
any_skipped source told (piece.CallUnwrittenNow r ∷ todo) h = (tt, h.1)
any_skipped source told (p ∷ todo) h = h

pub call_skipped : (source : Source) (told : Aspect → Bool) (r : ℕ) (todo : List Todo) → Entered source told (CallOf r) todo → Entered source told Skipped todo
call_skipped source told r [] h = tt
call_skipped source told r (piece.CallOnNow k ∷ todo) h = (tt, h.1)
call_skipped source told r (piece.CallUnwrittenNow k ∷ todo) h = (tt, h.1)
call_skipped source told r (p ∷ todo) h = absurd h.0

-- depths

update_here : (o x d : ℕ) (ds : List (ℕ × ℕ)) → find o ds ≡ Some d → find o (update o x ds) ≡ Some x
update_here o x d [] e = absurd cc
update_here o x d (p ∷ ds) e = elim (eqb_tells p.0 o) [
  | inl h ↦
      let a : find o (update o x (p ∷ ds)) ≡ find o ((o, x) ∷ ds) = ap (λ b. find o (if b then (o, x) ∷ ds else p ∷ update o x ds)) h.0 in
      subst (λ y. y ≡ Some x) (sym a) (ap (λ b. if b then Some x else find o ds) (same_true o))
  | inr h ↦
      let a : find o (update o x (p ∷ ds)) ≡ find o (p ∷ update o x ds) = ap (λ b. find o (if b then (o, x) ∷ ds else p ∷ update o x ds)) h.0 in
      let c : find o (p ∷ update o x ds) ≡ find o (update o x ds) = ap (λ b. if b then Some p.1 else find o (update o x ds)) h.0 in
      let f : find o (p ∷ ds) ≡ find o ds = ap (λ b. if b then Some p.1 else find o ds) h.0 in
      let i : find o (update o x ds) ≡ Some x = update_here o x d ds (subst (λ y. y ≡ Some d) f e) in
      subst (λ y. y ≡ Some x) (sym a) (subst (λ y. y ≡ Some x) (sym c) i)
]

-- what stands first is found or not, as it is of this number
found_of : (q : ℕ) (p : ℕ × ℕ) (xs ys : List (ℕ × ℕ)) → find q xs ≡ find q ys → find q (p ∷ xs) ≡ find q (p ∷ ys)
found_of q p xs ys e = by (nat_eq p.0 q)
  where
    by : (b : Bool) → (if b then Some p.1 else find q xs) ≡ (if b then Some p.1 else find q ys)
    by true = refl
    by false = e

passed : (q o : ℕ) (p : ℕ × ℕ) (ds : List (ℕ × ℕ)) → nat_eq o q ≡ false → nat_eq p.0 o ≡ true → find q (p ∷ ds) ≡ find q ds
passed q o p ds n e =
    let same : p.0 ≡ o = eqb-true p.0 o e in
    let f : nat_eq p.0 q ≡ false = subst (λ k. nat_eq k q ≡ false) (sym same) n in
    ap (λ b. if b then Some p.1 else find q ds) f

update_other : (q o x : ℕ) (ds : List (ℕ × ℕ)) → nat_eq o q ≡ false → find q (update o x ds) ≡ find q ds
update_other q o x [] n = refl
update_other q o x (p ∷ ds) n = by (nat_eq p.0 o) refl (update_other q o x ds n)
  where
    by : (b : Bool) → nat_eq p.0 o ≡ b → find q (update o x ds) ≡ find q ds → find q (if b then (o, x) ∷ ds else p ∷ update o x ds) ≡ find q (p ∷ ds)
    by true e i = subst (λ y. y ≡ find q (p ∷ ds)) (sym (ap (λ b. if b then Some x else find q ds) n)) (sym (passed q o p ds n e))
    by false e i = found_of q p (update o x ds) ds i

pub without_other : (q o : ℕ) (ds : List (ℕ × ℕ)) → nat_eq o q ≡ false → find q (without o ds) ≡ find q ds
without_other q o [] n = refl
without_other q o (p ∷ ds) n = by (nat_eq p.0 o) refl (without_other q o ds n)
  where
    by : (b : Bool) → nat_eq p.0 o ≡ b → find q (without o ds) ≡ find q ds → find q (if b then ds else p ∷ without o ds) ≡ find q (p ∷ ds)
    by true e i = sym (passed q o p ds n e)
    by false e i = found_of q p (without o ds) ds i

-- one deeper

deeper_other : (q o : ℕ) (d : Option ℕ) (ds : List (ℕ × ℕ)) → nat_eq o q ≡ false → find q (deeper d o ds) ≡ find q ds
deeper_other q o None ds n = ap (λ b. if b then Some 1 else find q ds) n
deeper_other q o (Some d) ds n = update_other q o (d + 1) ds n

deeper_here : (o : ℕ) (d : Option ℕ) (ds : List (ℕ × ℕ)) → find o ds ≡ d → depth_in d + 1 ≤ depth_in (find o (deeper d o ds))
deeper_here o None ds e = let a : find o (deeper None o ds) ≡ Some 1 = ap (λ b. if b then Some 1 else find o ds) (same_true o) in let b = ap depth_in a in omega (arith, b)
deeper_here o (Some d) ds e = let a = update_here o (d + 1) d ds e in let b = ap depth_in a in omega (arith, b)

pub deeper_most : (q : ℕ) (v : Value) (ds : List (ℕ × ℕ)) → depth_in (find q ds) + counted q v 1 ≤ depth_in (find q (deeper (find (object_in v) ds) (object_in v) ds))
deeper_most q v ds = by (nat_eq (object_in v) q) refl
  where
    by : (b : Bool) → nat_eq (object_in v) q ≡ b → depth_in (find q ds) + (if b then 1 else 0) ≤ depth_in (find q (deeper (find (object_in v) ds) (object_in v) ds))
    by true e =
        subst (λ k. depth_in (find k ds) + 1 ≤ depth_in (find k (deeper (find (object_in v) ds) (object_in v) ds))) (eqb-true (object_in v) q e) (deeper_here (object_in v) (find (object_in v) ds) ds refl)
    by false e = let a = ap depth_in (deeper_other q (object_in v) (find (object_in v) ds) ds e) in omega (arith, a)

-- one less deep

shallower_other : (q o : ℕ) (d : Option ℕ) (ds : List (ℕ × ℕ)) → nat_eq o q ≡ false → find q (shallower d o ds) ≡ find q ds
shallower_other q o None ds n = without_other q o ds n
shallower_other q o (Some zero) ds n = without_other q o ds n
shallower_other q o (Some (suc zero)) ds n = without_other q o ds n
shallower_other q o (Some (suc (suc d))) ds n = update_other q o (suc d) ds n

shallower_here : (o : ℕ) (d : Option ℕ) (ds : List (ℕ × ℕ)) → find o ds ≡ d → depth_in d ≤ depth_in (find o (shallower d o ds)) + 1
shallower_here o None ds e = omega arith
shallower_here o (Some zero) ds e = omega arith
shallower_here o (Some (suc zero)) ds e = omega arith
shallower_here o (Some (suc (suc d))) ds e = let a = update_here o (suc d) (suc (suc d)) ds e in let b = ap depth_in a in omega (arith, b)

pub shallower_least : (q : ℕ) (v : Value) (ds : List (ℕ × ℕ)) → depth_in (find q ds) ≤ depth_in (find q (shallower (find (object_in v) ds) (object_in v) ds)) + counted q v 1
shallower_least q v ds = by (nat_eq (object_in v) q) refl
  where
    by : (b : Bool) → nat_eq (object_in v) q ≡ b → depth_in (find q ds) ≤ depth_in (find q (shallower (find (object_in v) ds) (object_in v) ds)) + (if b then 1 else 0)
    by true e =
        subst (λ k. depth_in (find k ds) ≤ depth_in (find k (shallower (find (object_in v) ds) (object_in v) ds)) + 1) (eqb-true (object_in v) q e) (shallower_here (object_in v) (find (object_in v) ds) ds refl)
    by false e = let a = ap depth_in (shallower_other q (object_in v) (find (object_in v) ds) ds e) in omega (arith, a)

-- who is deep in an object is inside it
pub inside_of : (x : Option ℕ) → 1 ≤ depth_in x → (d : ℕ) × (x ≡ Some (suc d))
inside_of None l = absurd (omega (arith, l))
inside_of (Some zero) l = absurd (omega (arith, l))
inside_of (Some (suc d)) l = (d, refl)

-- what is written below some operands is found there
pub set_top : (n : ℕ) (vs : List Value) (v : Value) → n < length vs → top (drop n (slice_set vs n v)) ≡ v
set_top n [] v l = absurd (omega (arith, l))
set_top zero (x ∷ vs) v l = refl
set_top (suc n) (x ∷ vs) v l = set_top n vs v (omega (arith, l))
