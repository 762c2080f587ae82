-- A mark that is put next is put for what is the execution's own, and nothing outwards stands around it.
use Rattle.std.proofs.Common.{◌≡◌, ℕ, inl, inr, true, List, ◌∷◌, subst}
use Rattle.uc_tree.specs.Source as src
use Rattle.uc_tree.specs.Source.{Shape, CleanUp}
use Rattle.uc_machine.specs.Pieces as piece
use Rattle.uc_machine.specs.Pieces.{Todo, State, further}
use Rattle.uc_typing.specs.Typing.{Ty, Cell, Obj, CleansAt}
use Rattle.uc_life_laws.specs.Marks.{OwnFields, Sole, OfClean, PutsAt}
use Rattle.uc_life_laws.specs.Ending.{OfField}
use Rattle.uc_putting_laws.specs.CleanedSpots.{spot_of, Reach, apart, AllBelow, IsOutermost, Ascends}
use Rattle.uc_putting_laws.specs.ObjectsAtHand.{LiesUnder, there}
use Rattle.uc_putting_laws.specs.Seats.{IsSeated}
use Rattle.uc_putting_laws.specs.Calling.{CleansBy}
use Rattle.uc_putting_laws.specs.Putting.{Setting, Mark, CodeRest, Ok}
use Rattle.uc_putting_laws.specs.PuttingLaws.{LawPuts}
use Rattle.uc_putting_laws.proofs.CleanedSpots.{cleans_spot, spot_named, apart_outermost, next_mark, all_others}
use Rattle.uc_putting_laws.proofs.ObjectsWithin.{below_own, within_under}
use Rattle.uc_putting_laws.proofs.Fields.{field_lone}
use Rattle.uc_putting_laws.proofs.Marks.{apart_wide, cleans_more}
use Rattle.uc_putting_laws.proofs.Steps.{here}

module _ (g : Setting) (s : State) (made : Reach) (this : IsSeated g.table g.source g.special g.few made s.env.exec s.callers s.run.frame s.run.handles s.run.this) where
  -- a clean-up for a field of the object at hand
  named : (c : CleanUp) → CleansBy g.table g.source g.special made c → (h : Shape) (i : ℕ) (a : Ty) → CleansAt g.table a (src.OfObject (src.OwnField h i)) c → made.builds ≡ true
  named c n h i a d = spot_named g.table g.source g.special made (OfField h i) c n (cleans_spot g.table a (src.OfObject (src.OwnField h i)) c d)

  owns : (c : CleanUp) → CleansBy g.table g.source g.special made c → OwnFields g.table g.few s.env.exec s.run.frame s.run.this s.callers c
  owns c n w a m = below_own g.few s.env.exec s.run.frame s.run.this (this.own (named c n m.0 m.1 a m.2))

  alone : (c : CleanUp) (todo : List Todo) → CleansBy g.table g.source g.special made c → IsOutermost (spot_of c) todo → Sole g.table g.few s.env.exec s.run.frame s.run.this s.callers c todo
  alone c todo n o w a m v d e h st =
      let below : AllBelow m.1 todo = subst (λ x. IsOutermost x todo) (cleans_spot g.table a (src.OfObject (src.OwnField m.0 m.1)) c m.2) o in
      let builds : made.builds ≡ true = named c n m.0 m.1 a m.2 in
      let under : LiesUnder (further (piece.FieldAt m.0 m.1) s.run.this) v = subst (λ x. LiesUnder x v) m.3 (within_under g.table w a v (Cell (Obj d)) h) in
      field_lone g.table g.few s.env.exec s.run.frame s.run.this s.callers todo m.1 (all_others g.table m.1 todo below) (below_own g.few s.env.exec s.run.frame s.run.this (this.own builds)) (this.alone builds) m.0 v e (there under) st

  put : (c : CleanUp) (todo : List Todo) → CleansBy g.table g.source g.special made c → IsOutermost (spot_of c) todo → OfClean g.table g.few s.env.exec s.run.frame s.run.this s.callers c todo
  put src.Ends todo n o = absurd n
  put (src.Frees r) todo n o = absurd n
  put (src.Destroys e) todo n o = (owns (src.Destroys e) n, alone (src.Destroys e) todo n o)
  put (src.DestroysAll m e) todo n o = (owns (src.DestroysAll m e) n, alone (src.DestroysAll m e) todo n o)
  put src.Unwinds todo n o = (owns src.Unwinds n, alone src.Unwinds todo n o)
  put src.Forgets todo n o = (owns src.Forgets n, alone src.Forgets todo n o)
  put src.Leaves todo n o = (owns src.Leaves n, alone src.Leaves todo n o)
  put (src.Restores k) todo n o = (owns (src.Restores k) n, alone (src.Restores k) todo n o)

  -- within other statements it is for no field
  put_apart : (c : CleanUp) (todo : List Todo) → CleansBy g.table g.source g.special (apart made) c → OfClean g.table g.few s.env.exec s.run.frame s.run.this s.callers c todo
  put_apart c todo n = put c todo (cleans_more g.table g.source g.special (apart made) made (apart_wide made) c n) (apart_outermost g.table g.source g.special made c todo n)

  scoped : (c : CleanUp) (ss : src.Stmts) (todo : List Todo) → CodeRest g (here s) made (src.Scoped c ss) todo → OfClean g.table g.few s.env.exec s.run.frame s.run.this s.callers c todo
  scoped c ss todo (inl n) = put_apart c todo n.1.0
  scoped c ss todo (inr (inl n)) = put c todo n.0.1.0 (next_mark (spot_of c) n.1.0 todo (λ m. Ascends m ss) n.1.2 n.1.1).outermost
  scoped src.Ends ss todo (inr (inr n)) = n.4
  scoped (src.Frees r) ss todo (inr (inr n)) = n.4
  scoped c ss todo (inr (inr n)) = absurd n.2

  built : (c : CleanUp) (ss : src.Stmts) (todo : List Todo) → CodeRest g (here s) made (src.Built c ss) todo → OfClean g.table g.few s.env.exec s.run.frame s.run.this s.callers c todo
  built c ss todo (inl n) = put_apart c todo n.1.0
  built c ss todo (inr (inl n)) = put c todo n.0.1.0 (next_mark (spot_of c) n.1.0 todo (λ m. Ascends m ss) n.1.2 n.1.1).outermost
  built c ss todo (inr (inr n)) = absurd n.2

  puts : (ms : List Mark) (l : List Todo) → Ok g (here s) made ms l → PutsAt g.table g.few l s
  puts ms (piece.Rest (src.Scoped c ss) ∷ todo) h = scoped c ss todo h.0
  puts ms (piece.Rest (src.Built c ss) ∷ todo) h = built c ss todo h.0
  puts ms l h = tt

pub law_puts : LawPuts
law_puts g s h = puts g s h.run.made h.run.this h.run.marks s.run.control h.run.ok
