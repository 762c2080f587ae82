-- Marks and operands, what is known of places in to-do lists, and to-do lists that are left.
use Rattle.std.proofs.Common.{◌≡◌, ℕ, zero, suc, ◌<◌, ◌≤◌, ◌⊎◌, inl, inr, Bool, true, false, List, [], ◌∷◌, length, drop, refl, sym, ap, ◌∙◌, subst, arith}
use Rattle.std.specs.Prelude.{slice_set, nat_eq, if◌then◌else◌}
use Rattle.uc_tree.specs.Source as src
use Rattle.uc_tree.specs.Source.{Expr, CleanUp, Source}
use Rattle.uc_machine.specs.declared.exec.Home.{Home}
use Rattle.uc_machine.specs.Raising as raising
use Rattle.uc_machine.specs.Pieces as piece
use Rattle.uc_machine.specs.Pieces.{Value, Todo, Sort, Active, top, below, object_in}
use Rattle.uc_depth_laws.specs.Entering.{lets_go}
use Rattle.uc_depth_laws.specs.Owing.{marks, more, owes}
use Rattle.uc_inner_laws.specs.Inner.{Part, Plain, Helper, Maker, Uncalled, Begun, Ground, ground_of, under}
use Rattle.uc_inner_laws.specs.Standing.{Mark, Any, Own, Thing, IsNew, Holds, rest, rests, anys, bound, IsThere, IsOwn, IsObject, Known, within_sort, ground, Base, calm, Ready, after, Ok, Left, Backs, IsOlder, Stands, Waits}

-- operands

pub holds_below : (at : Home) (this : Value) (ms : List Mark) (vs : List Value) → Holds at this ms vs → Holds at this (rest ms) (below vs)
holds_below at this [] vs h = tt
holds_below at this (m ∷ ms) [] h = absurd h
holds_below at this (m ∷ ms) (v ∷ vs) h = h.1

drop_below : (n : ℕ) (vs : List Value) → drop (suc n) vs ≡ below (drop n vs)
drop_below zero [] = refl
drop_below zero (v ∷ vs) = refl
drop_below (suc n) [] = refl
drop_below (suc n) (v ∷ vs) = drop_below n vs

pub holds_drop : (at : Home) (this : Value) (n : ℕ) (ms : List Mark) (vs : List Value) → Holds at this ms vs → Holds at this (rests n ms) (drop n vs)
holds_drop at this zero ms [] h = h
holds_drop at this zero ms (v ∷ vs) h = h
holds_drop at this (suc n) ms vs h =
    subst (Holds at this (rest (rests n ms))) (sym (drop_below n vs)) (holds_below at this (rests n ms) (drop n vs) (holds_drop at this n ms vs h))

pub rests_anys : (n : ℕ) (ms : List Mark) → rests n (anys n ms) ≡ ms
rests_anys zero ms = refl
rests_anys (suc n) ms = ap rest (rests_anys n (Any ∷ ms))

rests_more : (n : ℕ) (m : Mark) (ms : List Mark) → rests (suc n) (m ∷ ms) ≡ rests n ms
rests_more zero m ms = refl
rests_more (suc n) m ms = ap rest (rests_more n m ms)

rests_none : (n : ℕ) → rests n [] ≡ []
rests_none zero = refl
rests_none (suc n) = ap rest (rests_none n)

-- an object that is bound among the operands

pub rests_bound : (n : ℕ) (ms : List Mark) → rests (suc n) (bound n ms) ≡ rests (suc n) ms
rests_bound n [] = refl
rests_bound zero (m ∷ ms) = refl
rests_bound (suc n) (m ∷ ms) = rests_more (suc n) m (bound n ms) ∙ (rests_bound n ms ∙ sym (rests_more (suc n) m ms))

pub object_bound : (n : ℕ) (ms : List Mark) → IsThere (rests n ms) → IsObject (rests n (bound n ms))
object_bound n [] h = absurd (subst IsThere (rests_none n) h)
object_bound zero (m ∷ ms) h = tt
object_bound (suc n) (m ∷ ms) h =
    subst IsObject (sym (rests_more n m (bound n ms))) (object_bound n ms (subst IsThere (rests_more n m ms) h))

pub holds_bound : (at : Home) (this v : Value) (n : ℕ) (ms : List Mark) (vs : List Value) → IsNew at v → Holds at this ms vs → Holds at this (bound n ms) (slice_set vs n v)
holds_bound at this v n [] vs k h = tt
holds_bound at this v zero (m ∷ ms) [] k h = absurd h
holds_bound at this v (suc n) (m ∷ ms) [] k h = absurd h
holds_bound at this v zero (m ∷ ms) (w ∷ vs) k h = (k, h.1)
holds_bound at this v (suc n) (m ∷ ms) (w ∷ vs) k h = (h.0, holds_bound at this v n ms vs k h.1)

-- where a mark is there is an operand
pub there_long : (at : Home) (this : Value) (n : ℕ) (ms : List Mark) (vs : List Value) → IsThere (rests n ms) → Holds at this ms vs → n < length vs
there_long at this n [] vs k h = absurd (subst IsThere (rests_none n) k)
there_long at this n (m ∷ ms) [] k h = absurd h
there_long at this zero (m ∷ ms) (v ∷ vs) k h = omega arith
there_long at this (suc n) (m ∷ ms) (v ∷ vs) k h =
    let l = there_long at this n ms vs (subst IsThere (rests_more n m ms) k) h.1 in
    omega (arith, l)

own_top : (at : Home) (this : Value) (ms : List Mark) (vs : List Value) → IsOwn ms → Holds at this ms vs → top vs ≡ this
own_top at this [] vs k h = absurd k
own_top at this (Any ∷ ms) vs k h = absurd k
own_top at this (Thing ∷ ms) vs k h = absurd k
own_top at this (Own ∷ ms) [] k h = absurd h
own_top at this (Own ∷ ms) (v ∷ vs) k h = h.0

pub object_top : (at : Home) (this : Value) (ms : List Mark) (vs : List Value) → IsObject ms → Holds at this ms vs → IsNew at (top vs)
object_top at this [] vs k h = absurd k
object_top at this (Any ∷ ms) vs k h = absurd k
object_top at this (Own ∷ ms) vs k h = absurd k
object_top at this (Thing ∷ ms) [] k h = absurd h
object_top at this (Thing ∷ ms) (v ∷ vs) k h = h.0

-- what is known of the object of a routine that is called
pub ready_inside : (at : Home) (g : Ground) (p : Part) (this : Value) (ms : List Mark) (vs : List Value) → Ready g p ms → Holds at this ms vs → (ground_of p).inside ≡ true → (g.inside ≡ true) × (top vs ≡ this)
ready_inside at g Plain this ms vs k h i = absurd (cc)
ready_inside at g Helper this ms vs k h i = (k.0, own_top at this ms vs k.1 h)
ready_inside at g Maker this ms vs k h i = absurd (cc)
ready_inside at g Uncalled this ms vs k h i = absurd k
ready_inside at g Begun this ms vs k h i = absurd k

pub ready_thing : (at : Home) (g : Ground) (p : Part) (this : Value) (ms : List Mark) (vs : List Value) → Ready g p ms → Holds at this ms vs → (ground_of p).made ≡ true → IsNew at (top vs)
ready_thing at g Plain this ms vs k h i = absurd (cc)
ready_thing at g Helper this ms vs k h i = absurd (cc)
ready_thing at g Maker this ms vs k h i = object_top at this ms vs k h
ready_thing at g Uncalled this ms vs k h i = absurd k
ready_thing at g Begun this ms vs k h i = absurd k

-- places

-- whoever is inside by what is known before a list is so by a mark in it, or by what is known behind
abbrev pub Inside : Ground → List Todo → Type 0
Inside b todo = (b.inside ≡ true) ⊎ (0 < marks todo)

pub more_marks : (b : Bool) (n : ℕ) → n ≤ more b n
more_marks true n = omega arith
more_marks false n = omega arith

pub inside_more : (b : Ground) (p : Todo) (todo : List Todo) → Inside b todo → Inside b (p ∷ todo)
inside_more b p todo (inl i) = inl i
inside_more b p todo (inr l) = let m = more_marks (owes p) (marks todo) in inr (omega (arith, l, m))

pub ground_inside : (b : Ground) (todo : List Todo) → (ground b todo).inside ≡ true → Inside b todo
ground_inside b [] h = inl h
ground_inside b (p ∷ todo) h = by p h (λ i. ground_inside b todo i)
  where
    scope : (c : CleanUp) (d : Bool) → lets_go c ≡ d → (if d then record { inside = true; made = (ground b todo).made } else ground b todo).inside ≡ true → ((ground b todo).inside ≡ true → Inside b todo) → Inside b (piece.Clean c ∷ todo)
    scope c true e i r = inr (let m = ap (λ x. more x (marks todo)) e in omega (arith, m))
    scope c false e i r = inside_more b (piece.Clean c) todo (r i)

    by : (q : Todo) → (within_sort (piece.sort q) (ground b todo)).inside ≡ true → ((ground b todo).inside ≡ true → Inside b todo) → Inside b (q ∷ todo)
    by (piece.Clean c) i r = scope c (lets_go c) refl i r
    by q i r = inside_more b q todo (r i)

under_made : (c : CleanUp) (g : Ground) → (under c g).made ≡ g.made
under_made c g = by (lets_go c)
  where
    by : (d : Bool) → (if d then record { inside = true; made = g.made } else g).made ≡ g.made
    by true = refl
    by false = refl

sort_made : (k : Sort) (g : Ground) → (within_sort k g).made ≡ g.made
sort_made (piece.IsClean c) g = under_made c g
sort_made k g = refl

pub ground_made : (b : Ground) (todo : List Todo) → (ground b todo).made ≡ b.made
ground_made b [] = refl
ground_made b (p ∷ todo) = sort_made (piece.sort p) (ground b todo) ∙ ground_made b todo

pub marks_within : (n : ℕ) (todo : List Todo) → marks (raising.within n todo) ≤ marks todo
marks_within n [] = omega arith
marks_within n (p ∷ ps) = by (nat_eq (raising.count_round (p ∷ ps)) n) (marks_within n ps)
  where
    by : (c : Bool) → marks (raising.within n ps) ≤ marks ps → marks (if c then p ∷ ps else raising.within n ps) ≤ marks (p ∷ ps)
    by true a = omega arith
    by false a =
        let m = more_marks (owes p) (marks ps) in
        omega (arith, a, m)

-- where something is unwound for a reason
abbrev pub stirred : Base → Base
stirred b = record { ground = b.ground; waited = b.waited; unwound = true }

-- nothing is asked behind the activation
abbrev pub opened : Ground → Base
opened g = record { ground = g; waited = true; unwound = true }

-- an activation for which its caller waits, and the first one of an execution
abbrev pub called : Ground → Base
called g = record { ground = g; waited = true; unwound = false }

abbrev pub alone : Ground → Base
alone g = record { ground = g; waited = false; unwound = false }

-- to-do lists that are left

module _ (part : ℕ → Part) (source : Source) where
  either_way : (e : Expr) (A Q P : Type 0) → (A → Q) → (P → Q) → A ⊎ Known e P → Q
  either_way e A Q P f g (inl x) = f x
  either_way (src.OfObject src.This) A Q P f g (inr y) = g y
  either_way e A Q P f g (inr y) = absurd y

  both_ways : (e : Expr) (A B P Q : Type 0) → (A → B) → (P → Q) → A ⊎ Known e P → B ⊎ Known e Q
  both_ways e A B P Q f g (inl x) = inl (f x)
  both_ways (src.OfObject src.This) A B P Q f g (inr y) = inr (g y)
  both_ways e A B P Q f g (inr y) = absurd y

  -- with less that is asked behind the activation
  module _ (g : Ground) where
    abbrev with_flags : Bool → Bool → Base
    with_flags w u = record { ground = g; waited = w; unwound = u }

    mutual
      wider : (w u v x : Bool) → (w ≡ true → v ≡ true) → (u ≡ true → x ≡ true) → (ms : List Mark) (todo : List Todo) → Ok part source (with_flags w u) ms todo → Ok part source (with_flags v x) ms todo
      wider w u v x k l ms [] h = k h
      wider w u v x k l ms (piece.Eval e ∷ todo) h =
          (h.0, both_ways e (Ok part source (with_flags w u) (Any ∷ ms) todo) (Ok part source (with_flags v x) (Any ∷ ms) todo) (Ok part source (with_flags w u) (Own ∷ ms) todo) (Ok part source (with_flags v x) (Own ∷ ms) todo) (λ y. wider w u v x k l (Any ∷ ms) todo y) (λ y. wider w u v x k l (Own ∷ ms) todo y) h.1)
      wider w u v x k l ms (piece.Exit way ∷ todo) h = wider_left w u v x k l todo h
      wider w u v x k l ms (piece.Unwind ∷ todo) h = (l h.0, wider_left w u v x k l todo h.1)
      wider w u v x k l ms (piece.Branch d e ∷ todo) h = (h.0, wider w false v false k (λ i. i) [] todo h.1)
      wider w u v x k l ms (piece.TurnNow o t e d ∷ todo) h = (h.0, wider w false v false k (λ i. i) [] todo h.1)
      wider w u v x k l ms (piece.Again o t e d ∷ todo) h = (h.0, wider w false v false k (λ i. i) [] todo h.1)
      wider w u v x k l ms (piece.Do d ∷ todo) h = (h.0, wider w false v false k (λ i. i) [] todo h.1)
      wider w u v x k l ms (piece.Rest ss ∷ todo) h = (h.0, wider w false v false k (λ i. i) [] todo h.1)
      wider w u v x k l ms (piece.Within line ∷ todo) h = (h.0, wider w false v false k (λ i. i) [] todo h.1)
      wider w u v x k l ms (piece.ChooseNow cs ∷ todo) h = (h.0, wider w false v false k (λ i. i) [] todo h.1)
      wider w u v x k l ms (piece.InLoop o t e d ∷ todo) h = (h.0, wider w false v false k (λ i. i) [] todo h.1)
      wider w u v x k l ms (piece.InWhole ∷ todo) h = (h.0, wider w false v false k (λ i. i) [] todo h.1)
      wider w u v x k l ms (piece.Clean c ∷ todo) h = (h.0, wider w false v false k (λ i. i) [] todo h.1)
      wider w u v x k l ms (piece.FillNow n e d ∷ todo) h = (h.0, wider w false v false k (λ i. i) [] todo h.1)
      wider w u v x k l ms (piece.Part c ∷ todo) h = (h.0, wider w false v false k (λ i. i) [] todo h.1)
      wider w u v x k l ms (piece.Guard hs ∷ todo) h = (h.0, wider w false v false k (λ i. i) [] todo h.1)
      wider w u v x k l ms (piece.Finish ∷ todo) h = h
      wider w u v x k l ms (piece.FinishCoroutine ∷ todo) h = h
      wider w u v x k l ms (p ∷ todo) h = (h.0, wider w u v x k l (after part source p ms) todo h.1)

      wider_left : (w u v x : Bool) → (w ≡ true → v ≡ true) → (u ≡ true → x ≡ true) → (todo : List Todo) → Left part source (with_flags w u) todo → Left part source (with_flags v x) todo
      wider_left w u v x k l [] h = k h
      wider_left w u v x k l (piece.InLoop o t e d ∷ todo) h = (h.0, wider w false v false k (λ i. i) [] todo h.1)
      wider_left w u v x k l (piece.InWhole ∷ todo) h = wider w false v false k (λ i. i) [] todo h
      wider_left w u v x k l (piece.Clean c ∷ todo) h = (h.0, wider w false v false k (λ i. i) [] todo h.1)
      wider_left w u v x k l (piece.FillNow n e d ∷ todo) h = (h.0, wider w false v false k (λ i. i) [] todo h.1)
      wider_left w u v x k l (piece.Sweep e ∷ todo) h = (h.0, wider w u v x k l [] todo h.1)
      wider_left w u v x k l (piece.Part c ∷ todo) h = (h.0, wider w false v false k (λ i. i) [] todo h.1)
      wider_left w u v x k l (piece.Guard hs ∷ todo) h = (h.0, wider w false v false k (λ i. i) [] todo h.1)
      wider_left w u v x k l (piece.Finish ∷ todo) h = h
      wider_left w u v x k l (piece.FinishCoroutine ∷ todo) h = h
      wider_left w u v x k l (p ∷ todo) h = wider_left w u v x k l todo h

  -- what may stand where nothing is unwound may stand anywhere
  pub lift : (b : Base) (ms : List Mark) (todo : List Todo) → Ok part source (calm b) ms todo → Ok part source b ms todo
  lift b ms todo h = wider b.ground b.waited false b.waited b.unwound (λ i. i) (λ i. absurd (cc)) ms todo h

  pub stir : (b : Base) (todo : List Todo) → Left part source b todo → Left part source (stirred b) todo
  stir b todo h = wider_left b.ground b.waited b.unwound b.waited true (λ i. i) (λ i. refl) todo h

  pub left : (b : Base) (ms : List Mark) (todo : List Todo) → Ok part source b ms todo → Left part source b todo
  left b ms [] h = h
  left b ms (piece.Eval e ∷ todo) h =
      either_way e (Ok part source b (Any ∷ ms) todo) (Left part source b todo) (Ok part source b (Own ∷ ms) todo) (λ x. left b (Any ∷ ms) todo x) (λ x. left b (Own ∷ ms) todo x) h.1
  left b ms (piece.Exit w ∷ todo) h = h
  left b ms (piece.Unwind ∷ todo) h = h.1
  left b ms (piece.InLoop o t e d ∷ todo) h = h
  left b ms (piece.InWhole ∷ todo) h = h.1
  left b ms (piece.Clean c ∷ todo) h = h
  left b ms (piece.FillNow n e d ∷ todo) h = h
  left b ms (piece.Sweep e ∷ todo) h = h
  left b ms (piece.Part c ∷ todo) h = h
  left b ms (piece.Guard hs ∷ todo) h = h
  left b ms (piece.Finish ∷ todo) h = h.1
  left b ms (piece.FinishCoroutine ∷ todo) h = h.1
  left b ms (piece.Branch d e ∷ todo) h = left b [] todo (lift b [] todo h.1)
  left b ms (piece.TurnNow o t e d ∷ todo) h = left b [] todo (lift b [] todo h.1)
  left b ms (piece.Again o t e d ∷ todo) h = left b [] todo (lift b [] todo h.1)
  left b ms (piece.Do d ∷ todo) h = left b [] todo (lift b [] todo h.1)
  left b ms (piece.Rest ss ∷ todo) h = left b [] todo (lift b [] todo h.1)
  left b ms (piece.Within line ∷ todo) h = left b [] todo (lift b [] todo h.1)
  left b ms (piece.ChooseNow cs ∷ todo) h = left b [] todo (lift b [] todo h.1)
  left b ms (p ∷ todo) h = left b (after part source p ms) todo h.1

  pub left_calm : (b : Base) (todo : List Todo) → Ok part source (calm b) [] todo → Left part source b todo
  left_calm b todo h = left b [] todo (lift b [] todo h)

  pub open_left : (b : Base) (todo : List Todo) → Left part source b todo → Left part source (opened b.ground) todo
  open_left b todo h = wider_left b.ground b.waited b.unwound true true (λ i. refl) (λ i. refl) todo h

  -- what stands behind the first piece
  pub left_tail : (g : Ground) (p : Todo) (todo : List Todo) → Left part source (opened g) (p ∷ todo) → Left part source (opened g) todo
  left_tail g (piece.InLoop o t e d) todo h = left_calm (opened g) todo h.1
  left_tail g piece.InWhole todo h = left_calm (opened g) todo h
  left_tail g (piece.Clean c) todo h = left_calm (opened g) todo h.1
  left_tail g (piece.FillNow n e d) todo h = left_calm (opened g) todo h.1
  left_tail g (piece.Sweep e) todo h = left (opened g) [] todo h.1
  left_tail g (piece.Part c) todo h = left_calm (opened g) todo h.1
  left_tail g (piece.Guard hs) todo h = left_calm (opened g) todo h.1
  left_tail g piece.Finish todo h = left_calm (opened g) todo h
  left_tail g piece.FinishCoroutine todo h = left_calm (opened g) todo h
  left_tail g p todo h = h

-- activations that are left

module _ (part : ℕ → Part) (source : Source) (h : Home) where
  pub record LeftStands (a : Active) (older : List Active) : Type 0 where
    pub base : Base
    pub left : Left part source base a.control
    pub backed : base.ground.inside ≡ true → Backs h (object_in a.this) older
    pub thing : base.ground.made ≡ true → IsNew h a.this
    pub waited : base.waited ≡ true → IsOlder older

  abbrev pub AllLeft : List Active → Type 0
  AllLeft [] = Unit {0}
  AllLeft (a ∷ cs) = LeftStands a cs × AllLeft cs

  pub stands_left : (ms : List Mark) (a : Active) (older : List Active) → Stands part source h ms a older → LeftStands a older
  stands_left ms a older s = record { base = s.base; left = left part source s.base _ a.control s.ok; backed = s.backed; thing = s.thing; waited = s.waited }

  pub waits_left : (cs : List Active) → Waits part source h cs → AllLeft cs
  waits_left [] w = tt
  waits_left (a ∷ cs) w = (stands_left (Any ∷ []) a cs w.0, waits_left cs w.1)

  -- who is inside by what is known in it, is so by a mark of it or of an older one, or is at home there
  pub backs_first : (a : Active) (older : List Active) (b : Ground) (o : ℕ) → object_in a.this ≡ o → (b.inside ≡ true → Backs h o older) → Inside b a.control → Backs h o (a ∷ older)
  backs_first a older b o e k (inl i) = inr (k i)
  backs_first a older b o e k (inr l) = inl (e, l)
