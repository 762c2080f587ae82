-- To-do lists that stop returns: what stands behind a piece, handlers that are found, and activations in which these stand.
use Rattle.std.proofs.Common.{◌≡◌, ℕ, ◌≤◌, ◌<◌, inl, inr, Bool, true, false, List, [], ◌∷◌, length, Option, Some, None, refl, subst, arith}
use Rattle.std.specs.Prelude.{nat_eq, if◌then◌else◌}
use Rattle.uc_tree.specs.Source as src
use Rattle.uc_tree.specs.Source.{Expr, CleanUp, Stmt, Stmts, EventStmt}
use Rattle.uc_machine.specs.declared.exec.Exec.{Exec}
use Rattle.uc_machine.specs.declared.exec.Visited.{Visited}
use Rattle.uc_machine.specs.Raising as raising
use Rattle.uc_machine.specs.Raising.{Event, Hit, Found}
use Rattle.uc_machine.specs.Pieces as piece
use Rattle.uc_machine.specs.Pieces.{Todo, Sort, sort, Active}
use Rattle.uc_life_laws.proofs.Cells.{either}
use Rattle.uc_place_laws.specs.OlderResting.{AllWait}
use Rattle.uc_parts_laws.specs.Parts.{InnerStmt, InnerStmts, InnerEvent, CleansInner, HeadStmt, HeadStmts, IsClear, ClearBy, IsFree, OpensRest, BehindMark, HeadDo, IsOrderly}
use Rattle.uc_parts_laws.specs.PartStates.{Setting, IsTaken, InParts}
use Rattle.uc_parts_laws.specs.Returning.{StopsClean, StopsBy, NotFreed, BuildsNone, Stops, HasBegun, HasBegunBehind, UnwindsBy, Unwinds, StopsAt, ReturnsWell, AllReturnWell}
use Rattle.uc_parts_laws.proofs.PartSteps.{OfHit, hit_in, within}
use Rattle.uc_parts_laws.proofs.PartTodos as todos

-- statements

not_freed : (c : CleanUp) (X : Type 0) → NotFreed c X → X
not_freed (src.Frees r) X h = absurd h
not_freed c X h = h

pub builds_rest : (ss : Stmts) (X : Type 0) → BuildsNone ss X → X
builds_rest src.Nil X h = h
builds_rest (src.Then a ss) X h = h
builds_rest (src.Scoped c ss) X h = not_freed c X h
builds_rest (src.Built c ss) X h = h

inner_clean : (c : CleanUp) (X : Type 0) → CleansInner c → X → NotFreed c X
inner_clean (src.Frees r) X n h = absurd n
inner_clean c X n h = h

pub inner_builds : (ss : Stmts) (X : Type 0) → InnerStmts ss → X → BuildsNone ss X
inner_builds src.Nil X n h = h
inner_builds (src.Then a ss) X n h = h
inner_builds (src.Scoped c ss) X n h = inner_clean c X n.0 h
inner_builds (src.Built c ss) X n h = h

pub head_builds : (special : ℕ → Bool) (ss : Stmts) (X : Type 0) → HeadStmts special ss → X → BuildsNone ss X
head_builds special src.Nil X n h = h
head_builds special (src.Then a ss) X n h = h
head_builds special (src.Scoped c ss) X n h = absurd n
head_builds special (src.Built c ss) X n h = h

-- a mark of a scope within a routine stops a return, if what stands behind it does
pub inner_stops : (c : CleanUp) (X : Type 0) → CleansInner c → X → StopsClean c X
inner_stops src.Leaves X n h = tt
inner_stops (src.Frees r) X n h = absurd n
inner_stops c X n h = h

-- statements that a statement begins with

abbrev pub BodyInner : Stmt → Type 0
BodyInner (src.Block line body) = InnerStmts body
BodyInner (src.Whole line body) = InnerStmts body
BodyInner (src.OfEvents (src.Try line body hs)) = InnerStmts body
BodyInner a = Unit {0}

event_body : (a : EventStmt) → InnerEvent a → BodyInner (src.OfEvents a)
event_body (src.Try line body hs) h = h.0
event_body a h = tt

inner_body : (P : ℕ → Expr → Type 0) (a : Stmt) → InnerStmt P a → BodyInner a
inner_body P (src.Block line body) h = h
inner_body P (src.Whole line body) h = h
inner_body P (src.OfEvents a) h = event_body a h
inner_body P a h = tt

head_body : (special : ℕ → Bool) (ss : Stmts) (a : Stmt) → HeadStmt special ss a → BodyInner a
head_body special ss (src.Block line body) h = absurd h
head_body special ss (src.Whole line body) h = h
head_body special ss (src.OfEvents a) h = absurd h
head_body special ss a h = tt

module _ (special : ℕ → Bool) (P : CleanUp → Type 0) (count : ℕ) where
  abbrev Ok : List Todo → Type 0
  Ok todo = IsOrderly special P count todo

  do_body : (a : Stmt) (todo : List Todo) → HeadDo special P a todo → BodyInner a
  do_body a (piece.Rest ss ∷ todo) h = head_body special ss a h.0
  do_body a todo h = absurd h

  pub body_of : (a : Stmt) (todo : List Todo) → Ok (piece.Do a ∷ todo) → BodyInner a
  body_of a todo (inl h) = inner_body (OpensRest todo) a h.0
  body_of a todo (inr h) = do_body a todo h

-- what stands behind a piece has begun

pub begun_tail : (p : Todo) (todo : List Todo) → HasBegun (p ∷ todo) → HasBegun todo
begun_tail (piece.Rest ss) todo h = builds_rest ss (HasBegun todo) h
begun_tail p todo h = h

pub begun_behind : (todo : List Todo) → HasBegun todo → HasBegunBehind todo
begun_behind [] h = tt
begun_behind (p ∷ todo) h = begun_tail p todo h

-- what is unwound to where a return stops, stops one

unwinds_by : (k : Sort) (X Y : Type 0) → (X → Y) → UnwindsBy k X → StopsBy k Y
unwinds_by piece.Simple X Y f h = f h
unwinds_by (piece.IsSweep e) X Y f h = f h
unwinds_by k X Y f h = absurd h

pub unwinds_stops : (todo : List Todo) → Unwinds todo → Stops todo
unwinds_stops [] h = absurd h
unwinds_stops (piece.Unwind ∷ todo) h = h
unwinds_stops (piece.Do a ∷ todo) h = absurd h
unwinds_stops (piece.Rest ss ∷ todo) h = absurd h
unwinds_stops (piece.Branch a b ∷ todo) h = absurd h
unwinds_stops (piece.TurnNow o t e b ∷ todo) h = absurd h
unwinds_stops (piece.Again o t e b ∷ todo) h = absurd h
unwinds_stops (piece.Exit w ∷ todo) h = absurd h
unwinds_stops (piece.ChooseNow cs ∷ todo) h = absurd h
unwinds_stops (p ∷ todo) h = unwinds_by (sort p) (Unwinds todo) (Stops todo) (λ x. unwinds_stops todo x) h

-- a piece that no exit leaves stands nowhere in front of a handler

clear_by : (k : Sort) (C F X : Type 0) → (C → X) → ClearBy k C F → StopsBy k X
clear_by piece.Simple C F X f h = f h
clear_by (piece.IsLoop o t e b) C F X f h = f h
clear_by piece.IsWhole C F X f h = tt
clear_by (piece.IsClean src.Leaves) C F X f h = tt
clear_by (piece.IsClean (src.Frees r)) C F X f h = absurd h
clear_by (piece.IsClean c) C F X f h = f h
clear_by (piece.IsFill m b d) C F X f h = absurd h
clear_by (piece.IsSweep d) C F X f h = absurd h
clear_by (piece.IsPart c) C F X f h = absurd h
clear_by (piece.IsGuard hs) C F X f h = f h
clear_by piece.IsFinish C F X f h = tt
clear_by piece.IsFinishCoroutine C F X f h = tt

rest_stops : (ss : Stmts) (X Y : Type 0) → (X → Y) → BuildsNone ss X → BuildsNone ss Y
rest_stops src.Nil X Y f h = f h
rest_stops (src.Then a ss) X Y f h = f h
rest_stops (src.Scoped (src.Frees r) ss) X Y f h = absurd h
rest_stops (src.Scoped c ss) X Y f h = f h
rest_stops (src.Built c ss) X Y f h = f h

clear_stops : (todo : List Todo) → IsClear todo → HasBegun todo → Stops todo
clear_stops [] h b = tt
clear_stops (piece.Rest ss ∷ todo) h b = rest_stops ss (HasBegun todo) (Stops todo) (λ x. clear_stops todo h x) b
clear_stops (p ∷ todo) h b = clear_by (sort p) (IsClear todo) (IsFree todo) (Stops todo) (λ x. clear_stops todo x b) h

-- handlers that are found

abbrev pub IsHit : Option Hit → Type 0
IsHit None = ⊥
IsHit (Some x) = Unit {0}

abbrev pub FoundWell : List Active → Option Found → Type 0
FoundWell cs None = Unit {0}
FoundWell cs (Some f) = (f.visited.home < length cs) × StopsAt f.visited.home cs × InnerStmts f.handler.body

module _ (special : ℕ → Bool) (P : CleanUp → Type 0) (count : ℕ) where
  more_clean : (c : CleanUp) (ps : List Todo) → BehindMark special P c ps → (ps ≡ [] → ⊥) → Stops ps → StopsClean c (Stops ps)
  more_clean src.Leaves ps m n h = tt
  more_clean (src.Frees r) ps m n h = absurd (n m)
  more_clean c ps m n h = h

  -- in front of more that stops a return
  more : (p : Todo) (ps : List Todo) → IsOrderly special P count (p ∷ ps) → HasBegun (p ∷ ps) → (ps ≡ [] → ⊥) → (HasBegun ps → Stops ps) → Stops (p ∷ ps)
  more (piece.Rest ss) ps o b n f = rest_stops ss (HasBegun ps) (Stops ps) f b
  more (piece.Clean c) ps o b n f = more_clean c ps o.0.1 n (f b)
  more piece.InWhole ps o b n f = tt
  more piece.Finish ps o b n f = tt
  more piece.FinishCoroutine ps o b n f = tt
  more p ps o b n f = f b

  pub hits : (e : Event) (todo : List Todo) → IsOrderly special P count todo → HasBegun todo → IsHit (raising.hit_in e todo) → Stops todo
  hits e [] o b h = tt
  hits e (piece.Guard hs ∷ ps) o b h = clear_stops ps o.1 b
  hits e (p ∷ ps) o b h =
      more p ps o b (λ q. let g : IsHit (raising.hit_in e []) = subst (λ l. IsHit (raising.hit_in e l)) q h in g) (λ x. hits e ps (todos.tail special P count p ps o) x h)

  pub hits_within : (n : ℕ) (e : Event) (todo : List Todo) → IsOrderly special P count todo → HasBegun todo → IsHit (raising.hit_in e (raising.within n todo)) → Stops todo
  hits_within n e [] o b h = tt
  hits_within n e (p ∷ ps) o b h =
      by (nat_eq (raising.count_round (p ∷ ps)) n) (λ y x. hits_within n e ps (todos.tail special P count p ps o) y x) h
    where
      by : (k : Bool) → (HasBegun ps → IsHit (raising.hit_in e (raising.within n ps)) → Stops ps) → IsHit (raising.hit_in e (if k then p ∷ ps else raising.within n ps)) → Stops (p ∷ ps)
      by true f x = hits e (p ∷ ps) o b x
      by false f x =
          more p ps o b (λ q. let g : IsHit (raising.hit_in e (raising.within n [])) = subst (λ l. IsHit (raising.hit_in e (raising.within n l))) q x in g) (λ y. f y x)

-- those that have fewer below them are not the one that has so many
far : (home : ℕ) (cs : List Active) → length cs ≤ home → StopsAt home cs
far home [] l = tt
far home (a ∷ cs) l = ((λ e. let n : ⊥ = omega (arith, l, e) in absurd n), far home cs (omega (arith, l)))

found_older : (a : Active) (others : List Active) (o : Option Found) → FoundWell others o → FoundWell (a ∷ others) o
found_older a others None h = tt
found_older a others (Some f) h = let l = h.0 in (omega (arith, l), ((λ e. let n : ⊥ = omega (arith, l, e) in absurd n), h.1), h.2)

-- of the handler that an activation is, or of a routine
home_well : (a : Active) (others : List Active) (v : Option Visited) → a.handles ≡ v → ReturnsWell others a → Stops a.control → (raising.home_of v (length others) < length (a ∷ others)) × StopsAt (raising.home_of v (length others)) (a ∷ others)
home_well a others None e r s = (omega arith, ((λ q. s), far (length others) others (omega arith)))
home_well a others (Some v) e r s = let w = r.handles v e in let l = w.0 in (omega (arith, l), ((λ q. s), w.1))

found_here : (x : Option Hit) (a : Active) (others : List Active) (other : Option Found) → ReturnsWell others a → (IsHit x → Stops a.control) → OfHit x → FoundWell others other → FoundWell (a ∷ others) (raising.found_or x a others other)
found_here None a others other r s n h = found_older a others other h
found_here (Some x) a others other r s n h = let w = home_well a others a.handles refl r (s tt) in (w.0, w.1, n)

module _ (g : Setting) where
  pub seek_well : (n : Exec) (v : Option Visited) (e : Event) (cs : List Active) → AllWait (InParts g) (InParts g) n cs → AllReturnWell cs → FoundWell cs (raising.seek v e cs)
  seek_well n None e [] w r = tt
  seek_well n (Some v) e [] w r = tt
  seek_well n None e (a ∷ cs) w r =
      found_here (raising.hit_in e a.control) a cs (raising.seek a.handles e cs) r.0.1 (λ h. hits g.special (IsTaken g n cs a.frame a.this) a.elements e a.control w.0 r.0.0 h) (hit_in g.special (IsTaken g n cs a.frame a.this) a.elements e a.control w.0) (seek_well n a.handles e cs w.1 r.1)
  seek_well n (Some v) e (a ∷ cs) w r =
      either (FoundWell (a ∷ cs)) (nat_eq (length cs) v.level) (raising.found_or (raising.hit_in e (raising.within v.rest a.control)) a cs (raising.seek a.handles e cs)) (raising.seek (Some v) e cs) (found_here (raising.hit_in e (raising.within v.rest a.control)) a cs (raising.seek a.handles e cs) r.0.1 (λ h. hits_within g.special (IsTaken g n cs a.frame a.this) a.elements v.rest e a.control w.0 r.0.0 h) (hit_in g.special (IsTaken g n cs a.frame a.this) a.elements e (raising.within v.rest a.control) (within g.special (IsTaken g n cs a.frame a.this) a.elements v.rest a.control w.0)) (seek_well n a.handles e cs w.1 r.1)) (found_older a cs (raising.seek (Some v) e cs) (seek_well n (Some v) e cs w.1 r.1))
