-- What has been built, and what is entered to be destroyed, is at home where nothing is to be cleaned up; and the latter is built or destroyed by no
-- activation.
use Rattle.std.proofs.Common.{◌≡◌, ℕ, suc, inl, inr, Bool, true, false, List, ◌∷◌, drop, Option, Some, None, refl, sym, subst, arith}
use Rattle.std.specs.Prelude.{slice_get}
use Rattle.uc_tree.specs.Source as src
use Rattle.uc_tree.specs.Source.{Stmts, Routine, routine_or_none, routine_of}
use Rattle.uc_machine.specs.Pieces as piece
use Rattle.uc_machine.specs.Pieces.{Value, Todo, State, top}
use Rattle.uc_depth_laws.specs.Entering.{Other, asks_object, is_ending}
use Rattle.uc_state_laws.specs.Counted.{params_at, params}
use Rattle.uc_life_laws.specs.Belonging.{Belongs}
use Rattle.uc_life_laws.specs.Marks.{Outward, Free}
use Rattle.uc_putting_laws.specs.CleanedSpots.{Site, site_spot, Reach, reach_of, IsIn}
use Rattle.uc_putting_laws.specs.ObjectsAtHand.{LiesUnder, there, BelongsBelow, IsBuilt}
use Rattle.uc_putting_laws.specs.Seats.{IsSeated}
use Rattle.uc_putting_laws.specs.Calling.{opens_object, opens_at, CallingStmts, CallingRoutine, CallingSource}
use Rattle.uc_putting_laws.specs.Putting.{Setting, Mark, rests, OfObjects, spot_at, Holds, HomedAt, SeatAt, CallFits, Ok, Left}
use Rattle.uc_putting_laws.specs.LoneObjects.{LoneObjectAt, LawLoneObjects}
use Rattle.uc_putting_laws.proofs.ObjectsWithin.{below_own}
use Rattle.uc_putting_laws.proofs.Marks.{home_of, holds_drop, stands_under, under_spot, left}
use Rattle.uc_putting_laws.proofs.Seats.{spot_free}
use Rattle.uc_putting_laws.proofs.Steps.{here}

params_same : (o : Option Routine) → params_at o ≡ (routine_or_none o).params
params_same None = refl
params_same (Some r) = refl

-- what destroys its object begins with the scope of that
opening_ends : (o : Option Routine) → opens_at o ≡ false → asks_object (routine_or_none o).body Other ≡ true → ⊥
opening_ends None f e = absurd (cc)
opening_ends (Some r) f e = by r.body f e
  where
    by : (ss : Stmts) → opens_object ss ≡ false → asks_object ss Other ≡ true → ⊥
    by (src.Scoped src.Ends ss) f e = absurd (cc)
    by (src.Scoped (src.Frees q) ss) f e = absurd (cc)
    by (src.Scoped (src.Destroys x) ss) f e = absurd (cc)
    by (src.Scoped (src.DestroysAll n x) ss) f e = absurd (cc)
    by (src.Scoped src.Unwinds ss) f e = absurd (cc)
    by (src.Scoped src.Forgets ss) f e = absurd (cc)
    by (src.Scoped src.Leaves ss) f e = absurd (cc)
    by (src.Scoped (src.Restores k) ss) f e = absurd (cc)
    by src.Nil f e = absurd (cc)
    by (src.Then a ss) f e = absurd (cc)
    by (src.Built c ss) f e = absurd (cc)

module _ (g : Setting) where
  -- so it is a destructor
  plain_ends : (r : Reach) (ss : Stmts) → CallingStmts g.table g.source g.special r ss → asks_object ss Other ≡ true → ⊥
  plain_ends r (src.Scoped src.Ends ss) k e = k.0
  plain_ends r (src.Scoped (src.Frees q) ss) k e = k.0
  plain_ends r (src.Scoped (src.Destroys x) ss) k e = absurd (cc)
  plain_ends r (src.Scoped (src.DestroysAll n x) ss) k e = absurd (cc)
  plain_ends r (src.Scoped src.Unwinds ss) k e = absurd (cc)
  plain_ends r (src.Scoped src.Forgets ss) k e = absurd (cc)
  plain_ends r (src.Scoped src.Leaves ss) k e = absurd (cc)
  plain_ends r (src.Scoped (src.Restores c) ss) k e = absurd (cc)
  plain_ends r src.Nil k e = absurd (cc)
  plain_ends r (src.Then a ss) k e = absurd (cc)
  plain_ends r (src.Built c ss) k e = absurd (cc)

  ends_special : (c : Option ℕ) (o : Option Routine) → CallingRoutine g.table g.source g.special false c o → asks_object (routine_or_none o).body Other ≡ true → ⊥
  ends_special c None k e = absurd (cc)
  ends_special c (Some r) k e = plain_ends (reach_of false c) r.body k e

  module _ (calling : CallingSource g.table g.source g.special) (s : State) (made : Reach) (this : IsSeated g.table g.source g.special g.few made s.env.exec s.callers s.run.frame s.run.handles s.run.this) where
    abbrev IsAlone : Value → List Todo → Type 0
    IsAlone v todo = Belongs g.few s.env.exec (g.few.home (piece.object_in v)) × Free g.table g.few (piece.object_in v) (Outward g.table s.env.exec s.run.frame s.run.this s.callers todo)

    -- nothing that is built or destroyed is
    abbrev IsFree : Value → Type 0
    IsFree v = IsBuilt (s.run ∷ s.callers) (piece.object_in v) → ⊥

    module _ (l : Left g (here s) made s.run.control) where
      free_site : (v : Value) (y : Site) → HomedAt g.few (here s) s.run.elements y v → IsIn made y → IsFree v
      free_site v y h i m =
          let o : ℕ = h.2.number in
          let u : LiesUnder (spot_at g.few (here s) (site_spot y)) (g.few.home o) = subst (LiesUnder (spot_at g.few (here s) (site_spot y))) (sym h.2.home) (stands_under g.few (here s) s.run.elements y h.0 h.1) in
          spot_free g s.env.exec s.run s.callers made this l (site_spot y) i o (subst (λ w. IsBuilt (s.run ∷ s.callers) (piece.object_in w)) h.2.object m) (there u)

    -- an object that is at home at a site
    at_site : (v : Value) (todo : List Todo) (y : Site) → HomedAt g.few (here s) s.run.elements y v → IsIn made y → SeatAt g (here s) made todo y → IsAlone v todo
    at_site v todo y h i l =
        let o : ℕ = h.2.number in
        let u : LiesUnder (spot_at g.few (here s) (site_spot y)) (g.few.home o) = subst (LiesUnder (spot_at g.few (here s) (site_spot y))) (sym h.2.home) (stands_under g.few (here s) s.run.elements y h.0 h.1) in
        let below : BelongsBelow g.few s.env.exec (suc s.run.frame) (g.few.home o) = under_spot g.few (here s) made this.own (suc s.run.frame) (omega arith) (site_spot y) i (g.few.home o) u in
        subst (λ w. IsAlone w todo) (sym h.2.object) (below_own g.few s.env.exec (suc s.run.frame) (g.few.home o) below, (λ c m. l.0 (g.few.home o) c (there u) m))

    -- what is called next to destroy its object finds it so
    called : (ms : List Mark) → Holds g.few (here s) s.run.elements ms s.run.operands → Left g (here s) made s.run.control → (r : ℕ) (todo : List Todo) → CallFits g (here s) made r ms todo → is_ending g.source r ≡ true → IsAlone (top (drop (params g.source r) s.run.operands)) todo × IsFree (top (drop (params g.source r) s.run.operands))
    called ms holds l r todo (inl f) e =
        absurd (ends_special (g.table.routine r).this (slice_get g.source.routines r) (subst (λ (b : Bool). CallingRoutine g.table g.source g.special b (g.table.routine r).this (slice_get g.source.routines r)) f (calling.routines r)) e)
    called ms holds l r todo (inr (inl f)) e = absurd (opening_ends (slice_get g.source.routines r) f.0 e)
    called ms holds l r todo (inr (inr f)) e =
        let h = home_of g.few (here s) s.run.elements (rests (params g.source r) ms) (drop (params g.source r) s.run.operands) (holds_drop g.few (here s) s.run.elements (params g.source r) ms s.run.operands holds) (λ x. IsIn made x × SeatAt g (here s) made todo x × OfObjects x) f in
        (at_site (top (drop (params g.source r) s.run.operands)) todo h.0 h.1 h.2.0 h.2.1, free_site l (top (drop (params g.source r) s.run.operands)) h.0 h.1 h.2.0)

    entered : (ms : List Mark) → Holds g.few (here s) s.run.elements ms s.run.operands → Left g (here s) made s.run.control → (r k : ℕ) (todo : List Todo) → k ≡ r → CallFits g (here s) made k ms todo → is_ending g.source r ≡ true → IsAlone (top (drop (routine_of g.source r).params s.run.operands)) todo × IsFree (top (drop (routine_of g.source r).params s.run.operands))
    entered ms holds l r k todo q f e =
        subst (λ (n : ℕ). IsAlone (top (drop n s.run.operands)) todo × IsFree (top (drop n s.run.operands))) (params_same (slice_get g.source.routines r)) (called ms holds l r todo (subst (λ (x : ℕ). CallFits g (here s) made x ms todo) q f) e)

    lone : (ms : List Mark) → Holds g.few (here s) s.run.elements ms s.run.operands → Left g (here s) made s.run.control → (l : List Todo) → Ok g (here s) made ms l → LoneObjectAt g.table g.few g.source l s
    lone ms holds n (piece.EnterNow m r ∷ (piece.CallOnNow k ∷ todo)) h = λ e. entered ms holds n r k todo h.0 h.1.0 e
    lone ms holds n (piece.EnterNow m r ∷ (piece.CallUnwrittenNow k ∷ todo)) h = λ e. entered ms holds n r k todo h.0 h.1.0 e
    lone ms holds n (piece.EnterNow m r ∷ todo) h = absurd h.0
    lone ms holds n (piece.MadeNow ∷ todo) h = h.0
    lone ms holds n (piece.SpawnNow r ∷ todo) h = h.0.1
    lone ms holds n l h = tt

pub law_lone_objects : LawLoneObjects
law_lone_objects g calling s h = lone g calling s h.run.made h.run.this h.run.marks h.run.holds (left g (here s) h.run.made h.run.marks s.run.control h.run.ok) s.run.control h.run.ok
