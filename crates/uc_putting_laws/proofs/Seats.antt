-- In which frames fields stand that an activation and those before it have to clean up, which arrays they build and destroy, and what handlers a search finds there.
use Rattle.std.proofs.Common.{◌≡◌, ℕ, ◌<◌, ◌≤◌, inl, inr, Bool, true, false, List, [], ◌∷◌, None, refl, sym, subst, arith}
use Rattle.std.specs.Prelude.{nat_eq}
use Rattle.std.proofs.lemmas.Bool.{eqb-true, eq-eqb}
use Rattle.uc_machine.specs.declared.exec.Exec.{Exec}
use Rattle.uc_machine.specs.declared.exec.Owner.TheVariants.{Fields}
use Rattle.uc_machine.specs.Pieces.{Link, Slot, FieldAt, Value, Number, Place, Running, Object, Nothing, Active, further}
use Rattle.uc_typing.specs.Typing.{Ty, Cell, Obj}
use Rattle.uc_life_laws.specs.Things.{Few, Stands, lies}
use Rattle.uc_life_laws.specs.Ending.{Spot, OfVariable, OfField}
use Rattle.uc_putting_laws.specs.CleanedSpots.{HoldsObjects, Reach, IsOf}
use Rattle.uc_putting_laws.specs.ObjectsAtHand.{OwnedBy, BelongsBelow, same_place, further_on, LiesUnder, LiesIn, there, variable, OwnMarked, lets_go, IsBuilt}
use Rattle.uc_putting_laws.specs.Seats.{ArraysBefore, Searched, IsSeated}
use Rattle.uc_putting_laws.specs.Putting.{Setting, Around, around, spot_at, Left}
use Rattle.uc_putting_laws.proofs.ObjectsWithin.{Outermost, outermost, within_under, under_below, in_below, not_below, owned_further, no_circle, below_own}
use Rattle.uc_putting_laws.proofs.Arrays.{PastArray, past_array, before_more}
use Rattle.uc_putting_laws.proofs.OwnMarks.{fields_in, lets_builds, home_below}

no_both : {A : Type 0} (b : Bool) → b ≡ true → b ≡ false → A
no_both b h k = absurd (cc)

-- a place is no object
further_place : (l : Link) (v : Value) (o : ℕ) → further l v ≡ Object o → ⊥
further_place l (Number z) o e = absurd (cc)
further_place l (Place q p) o e = absurd (cc)
further_place l (Running x) o e = absurd (cc)
further_place l (Object q) o e = absurd (cc)
further_place l Nothing o e = absurd (cc)

pub no_object : (few : Few) (A : Around) (p : Spot) (v : Value) (o : ℕ) → LiesUnder (spot_at few A p) v → v ≡ Object o → ⊥
no_object few A (OfVariable k) v o same_place e = absurd (cc)
no_object few A (OfField h i) v o same_place e = further_place (FieldAt h i) A.this o e
no_object few A p v o (further_on {v = w} l u) e = further_place l w o e

pub same_object : (o q : ℕ) → Object o ≡ Object q → o ≡ q
same_object o q e = cc

module _ (g : Setting) (n : Exec) (a : Active) (older : List Active) (made : Reach) (this : IsSeated g.table g.source g.special g.few made n older a.frame a.handles a.this) (left : Left g (around n a older) made a.control) where
  abbrev Own : Value → Ty → Type 0
  Own w b = OwnMarked g.table n (a ∷ older) w b

  -- in this frame: a variable behind all those in which such a field stands, and behind that in which the object at hand lies, if mutex objects may lie in
  -- that; and all handlers that a search finds which begins at the activation name variables from that one on
  pub record RoundIn (f : ℕ) : Type 0 where
    pub cell : ℕ
    pub spare : (k : ℕ) (v : Value) (e : ℕ) → LiesIn g.few (variable n f k) v → Stands g.table g.few (OwnMarked g.table n (a ∷ older)) (Cell (Obj e)) v → k < cell
    pub past : made.builds ≡ true → HoldsObjects g.table made.class → (k : ℕ) (l : Link) (v : Value) → LiesIn g.few (variable n f k) v → LiesIn g.few (further l a.this) v → k < cell
    pub built : (o : ℕ) → IsBuilt (a ∷ older) o → (k : ℕ) → LiesIn g.few (variable n f k) (g.few.home o) → k < cell
    pub arrays : ArraysBefore cell f (a ∷ older)
    pub code : Searched g.table g.source g.special cell None f (a ∷ older)

  -- nothing of the object at hand lies in the frame of the activation
  not_here : made.builds ≡ true → (k : ℕ) (l : Link) (v : Value) → LiesIn g.few (variable n a.frame k) v → LiesIn g.few (further l a.this) v → ⊥
  not_here b k l v i j =
      not_below g.few n a.frame a.frame (Slot k ∷ []) (omega arith) v i (in_below g.few n a.frame (further l a.this) v j (under_below g.few n a.frame a.this (further l a.this) (further_on l same_place) (this.own b)))

  -- nor is the object at hand at home there, nor in its own fields
  own_home : (o : ℕ) → a.this ≡ Object o → made.builds ≡ true → BelongsBelow g.few n a.frame (g.few.home o)
  own_home o e b = home_below g.few n a.frame o (subst (BelongsBelow g.few n a.frame) e (this.own b))

  not_at_home : (o : ℕ) → a.this ≡ Object o → made.builds ≡ true → (k : ℕ) → LiesIn g.few (variable n a.frame k) (g.few.home o) → ⊥
  not_at_home o e b k i =
      not_below g.few n a.frame a.frame (Slot k ∷ []) (omega arith) (g.few.home o) i (own_home o e b)

  not_in_fields : (o : ℕ) → a.this ≡ Object o → made.builds ≡ true → (l : Link) → LiesIn g.few (further l a.this) (g.few.home o) → ⊥
  not_in_fields o e b l i =
      no_circle g.few n (further l a.this) o (subst (λ v. OwnedBy (Fields o) (further l v)) (sym e) (owned_further (Fields o) l (Object o) refl)) i (g.few.home o) (below_own g.few n a.frame (g.few.home o) (own_home o e b)) i

  lets : lets_go a.control ≡ true → made.builds ≡ true
  lets e = lets_builds g (around n a older) made a.control left e

  -- so nothing that the activation or an older one builds or destroys is at home at a spot that it may name
  pub spot_free : (p : Spot) → IsOf made p → (o : ℕ) → IsBuilt (a ∷ older) o → LiesIn g.few (spot_at g.few (around n a older) p) (g.few.home o) → ⊥
  spot_free (OfVariable k) i o (inl m) l = not_at_home o m.0 (lets m.1) k l
  spot_free (OfVariable k) i o (inr m) l = let c : k < made.low = this.built o m k l in let d : made.low ≤ k = i in omega (arith, c, d)
  spot_free (OfField h j) i o (inl m) l = not_in_fields o m.0 i (FieldAt h j) l
  spot_free (OfField h j) i o (inr m) l = this.free i o m (FieldAt h j) l

  pub frame_built : (o : ℕ) → IsBuilt (a ∷ older) o → (k : ℕ) → LiesIn g.few (variable n a.frame k) (g.few.home o) → k < made.low
  frame_built o (inl m) k l = absurd (not_at_home o m.0 (lets m.1) k l)
  frame_built o (inr m) k l = this.built o m k l

  -- a field of it that is to be cleaned up
  abbrev Top : ℕ → ℕ → Type 0
  Top f k = Outermost g.few g.table (variable n f k) (OwnMarked g.table n (a ∷ older))

  pub frame_spare : (k : ℕ) (v : Value) (e : ℕ) → LiesIn g.few (variable n a.frame k) v → Stands g.table g.few (OwnMarked g.table n (a ∷ older)) (Cell (Obj e)) v → k < made.low
  frame_spare k v e i st = by (outermost g.few n g.table a.frame (Slot k ∷ []) (OwnMarked g.table n (a ∷ older)) v e i st)
    where
      of : (o : Top a.frame k) → Own o.thing o.type → k < made.low
      of o (inl m) =
          let x = fields_in g (around n a older) made a.control o.thing o.type left m in
          let u : LiesUnder (further (FieldAt x.shape x.number) a.this) o.place = subst (λ y. LiesUnder y o.place) x.at (within_under g.table o.thing o.type o.place (Cell (Obj o.class)) o.within) in
          absurd (not_here x.builds k (FieldAt x.shape x.number) o.place o.in_it (there u))
      of o (inr m) = this.spare k o.place o.class o.in_it (lies m o.within)

      by : Top a.frame k → k < made.low
      by o = of o o.is

  -- behind the array of which it builds or destroys elements
  pub past : PastArray g (around n a older) made this.after a.control
  past = past_array g (around n a older) made this.after a.control left

  at_frame : RoundIn a.frame
  at_frame = record {
    cell = past.cell;
    spare = λ k v e i st. let a : k < made.low = frame_spare k v e i st in let b : made.low ≤ past.cell = past.low in omega (arith, a, b);
    past = λ b h k l v i j. absurd (not_here b k l v i j);
    built = λ o m k l. let a : k < made.low = frame_built o m k l in let b : made.low ≤ past.cell = past.low in omega (arith, a, b);
    arrays = (λ e. past.array, before_more made.low past.cell a.frame older past.low this.arrays);
    code = (λ e. past.guards, past.searched);
  }

  elsewhere : (f : ℕ) → (f ≡ a.frame → ⊥) → RoundIn f
  elsewhere f ne = record {
    cell = (this.beyond f ne).cell;
    spare = λ k v e i st. by k (outermost g.few n g.table f (Slot k ∷ []) (OwnMarked g.table n (a ∷ older)) v e i st);
    past = λ b h k l v i j. (this.beyond f ne).past h k l v i j;
    built = λ o m k l. other o m k l;
    arrays = (λ e. absurd (ne (sym e)), (this.beyond f ne).arrays);
    code = (λ e. absurd (ne (sym e)), (this.beyond f ne).code);
  }
    where
      of : (k : ℕ) (o : Top f k) → Own o.thing o.type → k < (this.beyond f ne).cell
      of k o (inl m) =
          let x = fields_in g (around n a older) made a.control o.thing o.type left m in
          let u : LiesUnder (further (FieldAt x.shape x.number) a.this) o.place = subst (λ y. LiesUnder y o.place) x.at (within_under g.table o.thing o.type o.place (Cell (Obj o.class)) o.within) in
          (this.beyond f ne).past (x.holds o.place o.class o.within) k (FieldAt x.shape x.number) o.place o.in_it (there u)
      of k o (inr m) = (this.beyond f ne).spare k o.place o.class o.in_it (lies m o.within)

      other : (o : ℕ) → IsBuilt (a ∷ older) o → (k : ℕ) → LiesIn g.few (variable n f k) (g.few.home o) → k < (this.beyond f ne).cell
      other o (inl m) k l = (this.beyond f ne).held (lets m.1) o m.0 k l
      other o (inr m) k l = (this.beyond f ne).built o m k l

      by : (k : ℕ) → Top f k → k < (this.beyond f ne).cell
      by k o = of k o o.is

  pub round_in : (f : ℕ) → RoundIn f
  round_in f = by (nat_eq f a.frame) refl
    where
      by : (b : Bool) → nat_eq f a.frame ≡ b → RoundIn f
      by true e = subst RoundIn (sym (eqb-true f a.frame e)) at_frame
      by false e = elsewhere f (λ q. no_both (nat_eq f a.frame) (eq-eqb f a.frame q) e)
