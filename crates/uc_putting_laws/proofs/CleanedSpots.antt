-- The spots of clean-ups, and the order in which fields get their marks.
use Rattle.std.proofs.Common.{◌≡◌, ℕ, suc, ◌≤◌, ◌<◌, inl, inr, Bool, true, false, List, [], ◌∷◌, Option, Some, None, refl, sym, ap, ◌∙◌, subst, arith}
use Rattle.uc_tree.specs.Source as src
use Rattle.uc_tree.specs.Source.{Expr, CleanUp, Source}
use Rattle.uc_machine.specs.Pieces as piece
use Rattle.uc_machine.specs.Pieces.{Todo, Sort}
use Rattle.uc_typing.specs.Typing.{Ty, Cell, Obj, Row, Clu, Pro, Table, DestroysAt, CleansAt}
use Rattle.uc_life_laws.specs.Ending.{Spot, OfVariable, OfField, naming}
use Rattle.uc_putting_laws.specs.CleanedSpots.{Site, One, Each, Under, site_spot, place_spot, spot_in, spot_of, IsOver, LiesInClass, Reach, apart, IsOf, SpotBelow, SortBelow, AllBelow, IsOutermost, AscendsBy}
use Rattle.uc_putting_laws.specs.Fields.{OfOthers, SortOthers, AllOthers}
use Rattle.uc_putting_laws.specs.Calling.{PlaceAt, CallsAt, EndsAt, EndsEach, EndsNumber, CleansBy}

pub some_one : {A : Type 0} (x y : A) → Some x ≡ Some y → x ≡ y
some_one x y e = cc

no_field : {A : Type 0} → false ≡ true → A
no_field e = absurd (cc)

-- what a clean-up is for stands at its spot

destroys_spot : (t : Table) (a : Ty) (x e : Expr) → DestroysAt t a x e → spot_in e ≡ place_spot x
destroys_spot t (Obj c) x (src.OfObject (src.CallOn r q args)) d = sym (ap place_spot d.0)
destroys_spot t (Obj c) x (src.OfObject (src.CallUnwritten r q)) d = sym (ap place_spot d.0)
destroys_spot t (Cell (Obj c)) x (src.OfObject (src.EndOn r written (src.Load q))) d = sym (ap place_spot d.0)
destroys_spot t (Cell Clu) x (src.OfObject (src.EndCluster (src.Load q))) d = sym (ap place_spot d)
destroys_spot t (Cell Pro) x (src.OfObject (src.EndProcessor (src.Load q))) d = sym (ap place_spot d)
destroys_spot t a x e d = absurd d

pub cleans_spot : (t : Table) (a : Ty) (x : Expr) (c : CleanUp) → CleansAt t a x c → spot_of c ≡ place_spot x
cleans_spot t a x (src.Destroys e) d = destroys_spot t a x e d
cleans_spot t (Row n a) x (src.DestroysAll m e) d = destroys_spot t a _ e d.1
cleans_spot t a x c d = absurd d

pub named_spot : (p : Spot) → place_spot (naming p) ≡ Some p
named_spot (OfVariable k) = refl
named_spot (OfField h i) = refl

-- so is one that is over what is at a site
pub over_spot : (t : Table) (c : CleanUp) (x : Site) → IsOver t c x → spot_of c ≡ Some (site_spot x)
over_spot t c (One p) h = cleans_spot t (Cell (Obj h.0)) (naming p) c h.1 ∙ named_spot p
over_spot t c (Each n p) h = cleans_spot t (Row n (Cell (Obj h.0))) (naming p) c h.1 ∙ named_spot p
over_spot t c (Under None n p) h = h
over_spot t c (Under (Some d) n p) (inl h) = cleans_spot t (Obj d) (naming p) c h ∙ named_spot p
over_spot t c (Under (Some d) n p) (inr h) = cleans_spot t (Row n (Obj d)) (naming p) c h ∙ named_spot p

-- such a spot is one that its code may name
module _ (t : Table) (source : Source) (special : ℕ → Bool) (r : Reach) (q : Spot) where
  place_of : (P : ℕ → Spot → Type 0) (x : Expr) → PlaceAt t source special r P x → place_spot x ≡ Some q → IsOf r q
  place_of P (src.Variable k) h e = subst (IsOf r) (some_one (OfVariable k) q e) h.0
  place_of P (src.OfObject (src.OwnField s i)) h e = subst (IsOf r) (some_one (OfField s i) q e) h.0
  place_of P (src.Element n s x i) h e = place_of (λ m p. P n p) x h.0 e
  place_of P x h e = absurd h

  number_of : (P : Site → Type 0) (x : Expr) → EndsNumber t source special r P x → spot_in x ≡ Some q → IsOf r q
  number_of P (src.OfObject (src.EndCluster (src.Load x))) h e = place_of (λ n p. P (Under None n p)) x h e
  number_of P (src.OfObject (src.EndProcessor (src.Load x))) h e = place_of (λ n p. P (Under None n p)) x h e
  number_of P x h e = absurd h

  call_of : (P : Site → Type 0) (x : Expr) → CallsAt t source special r P x → spot_in x ≡ Some q → IsOf r q
  call_of P (src.OfObject (src.CallOn n x args)) h e = place_of (λ m p. P (Under (t.routine n).this m p)) x h.1 e
  call_of P (src.OfObject (src.CallUnwritten n x)) h e = place_of (λ m p. P (Under (t.routine n).this m p)) x h.1 e
  call_of P x h e = absurd h

  end_of : (P : Site → Type 0) (x : Expr) → EndsAt t source special r P x → spot_in x ≡ Some q → IsOf r q
  end_of P (src.OfObject (src.EndOn n w (src.Load (src.Variable k)))) h e = subst (IsOf r) (some_one (OfVariable k) q e) h.1
  end_of P (src.OfObject (src.EndOn n w (src.Load (src.OfObject (src.OwnField s i))))) h e = subst (IsOf r) (some_one (OfField s i) q e) h.1
  end_of P x h e = absurd h

  each_of : (P : Site → Type 0) (x : Expr) → EndsEach t source special r P x → spot_in x ≡ Some q → IsOf r q
  each_of P (src.OfObject (src.EndOn n w (src.Load (src.Element m src.Binding (src.Variable k) (src.OfObject src.Counted))))) h e = subst (IsOf r) (some_one (OfVariable k) q e) h.1
  each_of P (src.OfObject (src.EndOn n w (src.Load (src.Element m src.Binding (src.OfObject (src.OwnField s i)) (src.OfObject src.Counted))))) h e = subst (IsOf r) (some_one (OfField s i) q e) h.1
  each_of P x h e = absurd h

  pub spot_named : (c : CleanUp) → CleansBy t source special r c → spot_of c ≡ Some q → IsOf r q
  spot_named (src.Destroys x) (inl h) e = number_of (IsOver t (src.Destroys x)) x h e
  spot_named (src.Destroys x) (inr (inl h)) e = call_of (IsOver t (src.Destroys x)) x h e
  spot_named (src.Destroys x) (inr (inr h)) e = end_of (IsOver t (src.Destroys x)) x h e
  spot_named (src.DestroysAll n x) (inl h) e = number_of (IsOver t (src.DestroysAll n x)) x h e
  spot_named (src.DestroysAll n x) (inr (inl h)) e = call_of (IsOver t (src.DestroysAll n x)) x h e
  spot_named (src.DestroysAll n x) (inr (inr h)) e = each_of (IsOver t (src.DestroysAll n x)) x h e
  spot_named c h e = absurd (cc)

-- code that names no fields cleans up none
pub apart_outermost : (t : Table) (source : Source) (special : ℕ → Bool) (r : Reach) (c : CleanUp) (todo : List Todo) → CleansBy t source special (apart r) c → IsOutermost (spot_of c) todo
apart_outermost t source special r c todo h = by (spot_of c) refl
  where
    by : (o : Option Spot) → spot_of c ≡ o → IsOutermost o todo
    by None e = tt
    by (Some (OfVariable k)) e = tt
    by (Some (OfField s i)) e = no_field (spot_named t source special (apart r) (OfField s i) c h e)

pub apart_class : (t : Table) (source : Source) (special : ℕ → Bool) (r : Reach) (o : Option ℕ) (c : CleanUp) → CleansBy t source special (apart r) c → LiesInClass t o c
apart_class t source special r o c n h i a this v e d w = no_field (spot_named t source special (apart r) (OfField h i) c n (cleans_spot t a (src.OfObject (src.OwnField h i)) c d))

-- numbers of fields

spot_more : (n m : ℕ) (o : Option Spot) → n ≤ m → SpotBelow n o → SpotBelow m o
spot_more n m None le h = tt
spot_more n m (Some (OfVariable k)) le h = h
spot_more n m (Some (OfField s i)) le h = omega (arith, le, h)

sort_more : (n m : ℕ) (s : Sort) → n ≤ m → SortBelow n s → SortBelow m s
sort_more n m (piece.IsClean c) le h = spot_more n m (spot_of c) le h
sort_more n m (piece.IsPart c) le h = spot_more n m (spot_of c) le h
sort_more n m piece.Simple le h = tt
sort_more n m (piece.IsLoop x y z u) le h = tt
sort_more n m piece.IsWhole le h = tt
sort_more n m (piece.IsFill x y z) le h = tt
sort_more n m (piece.IsSweep x) le h = tt
sort_more n m (piece.IsGuard x) le h = tt
sort_more n m piece.IsFinish le h = tt
sort_more n m piece.IsFinishCoroutine le h = tt

pub below_more : (n m : ℕ) (todo : List Todo) → n ≤ m → AllBelow n todo → AllBelow m todo
below_more n m [] le h = tt
below_more n m (p ∷ todo) le h = (sort_more n m (piece.sort p) le h.0, below_more n m todo le h.1)

-- the next mark of a constructor or a destructor, and the numbers behind it
pub record IsNext (o : Option Spot) (todo : List Todo) (next : ℕ → Type 0) : Type 0 where
  pub number : ℕ
  pub mark : SpotBelow number o
  pub below : AllBelow number todo
  pub behind : next number
  pub outermost : IsOutermost o todo

pub next_mark : (o : Option Spot) (n : ℕ) (todo : List Todo) (next : ℕ → Type 0) → AscendsBy o n next → AllBelow n todo → IsNext o todo next
next_mark None n todo next h b = record { number = n; mark = tt; below = b; behind = h; outermost = tt }
next_mark (Some (OfVariable k)) n todo next h b = absurd h
next_mark (Some (OfField s i)) n todo next h b =
    let le = h.0 in
    record { number = suc i; mark = (let l : i < suc i = omega arith in l); below = below_more n (suc i) todo (omega (arith, le)) b; behind = h.1; outermost = below_more n i todo le b }

-- marks for fields of lower numbers are for others
module _ (t : Table) (i : ℕ) where
  spot_other : (c : CleanUp) → SpotBelow i (spot_of c) → OfOthers t i c
  spot_other c h = record {
    fields = λ s m a d e. let l : m < i = subst (SpotBelow i) (cleans_spot t a (src.OfObject (src.OwnField s m)) c d) h in omega (arith, l, e);
    variables = λ k a d. subst (SpotBelow i) (cleans_spot t a (src.Variable k) c d) h;
  }

  sort_other : (s : Sort) → SortBelow i s → SortOthers t i s
  sort_other (piece.IsClean c) h = spot_other c h
  sort_other (piece.IsPart c) h = spot_other c h
  sort_other piece.Simple h = tt
  sort_other (piece.IsLoop x y z u) h = tt
  sort_other piece.IsWhole h = tt
  sort_other (piece.IsFill x y z) h = tt
  sort_other (piece.IsSweep x) h = tt
  sort_other (piece.IsGuard x) h = tt
  sort_other piece.IsFinish h = tt
  sort_other piece.IsFinishCoroutine h = tt

  pub all_others : (todo : List Todo) → AllBelow i todo → AllOthers t i todo
  all_others [] h = tt
  all_others (p ∷ todo) h = (sort_other (piece.sort p) h.0, all_others todo h.1)
