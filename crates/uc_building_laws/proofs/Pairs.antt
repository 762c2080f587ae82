-- Whoever is called where the scope of an object opens next, or an object is a part next, builds an object of its class, step by step.
use Rattle.std.proofs.Common.{◌≡◌, ℕ, Bool, true, List, [], ◌∷◌, length, Some, refl, sym, ap, ◌∙◌, subst}
use Rattle.std.specs.Prelude.{nat_eq, if◌then◌else◌}
use Rattle.std.proofs.lemmas.Bool.{eq-eqb}
use Rattle.uc_tree.specs.Programs.{Program}
use Rattle.uc_tree.specs.Source as src
use Rattle.uc_tree.specs.Source.{Shape, Source, Stmts, CleanUp}
use Rattle.uc_machine.specs.Executions.{at_depth, others}
use Rattle.uc_machine.specs.Pieces as piece
use Rattle.uc_machine.specs.Pieces.{Value, Todo, Active, State}
use Rattle.uc_typing.specs.Typing.{Sig, Table}
use Rattle.uc_life_laws.specs.Kinds.{BeginsAt, Turned, stays, begins, goes_back}
use Rattle.uc_place_laws.specs.Opened.{Spot, Var, Own, ArePaired, OfPlain, OfPart, OpensOf, PartOf, NextOf}
use Rattle.uc_place_laws.specs.Called.{NextAt}
use Rattle.uc_place_laws.specs.OpeningLaws.{Awaited, AwaitedPart, IsAt, IsAtField, CallsAt, PartsAt}
use Rattle.uc_building_laws.specs.Pairs.{BuildsOf, IsCalledBy, AllCalled, AreKinded}

-- what is so of a scope that opens next, and of a part, is so of both

module _ (P : ℕ → Spot → Type 0) (Q : ℕ → ℕ → Type 0) (R : ℕ → Shape → ℕ → Type 0) (f : (d k : ℕ) → Q d k → P d (Var k)) (g : (d : ℕ) (k : Shape) (i : ℕ) → R d k i → P d (Own k i)) where
  plain_by : (c : CleanUp) → OfPlain Q c → OfPlain (λ d k. P d (Var k)) c
  plain_by (src.Destroys (src.OfObject (src.CallOn d (src.Variable k) args))) h = f d k h
  plain_by (src.Destroys (src.OfObject (src.CallUnwritten d (src.Variable k)))) h = f d k h
  plain_by c h = tt

  part_by : (c : CleanUp) → OfPart R c → OfPart (λ d k i. P d (Own k i)) c
  part_by (src.Destroys (src.OfObject (src.CallOn d (src.OfObject (src.OwnField k i)) args))) h = g d k i h
  part_by (src.Destroys (src.OfObject (src.CallUnwritten d (src.OfObject (src.OwnField k i))))) h = g d k i h
  part_by c h = tt

  next_by : (ss : Stmts) → OpensOf Q ss → PartOf R ss → NextOf P ss
  next_by (src.Scoped c ss) h m = plain_by c h
  next_by (src.Built c ss) h m = part_by c m
  next_by ss h m = tt

  both : (l : List Todo) → Awaited Q l → AwaitedPart R l → NextAt P l
  both (piece.DropNow ∷ (piece.Within line ∷ (piece.Rest ss ∷ todo))) h m = next_by ss h m
  both l h m = tt

module _ (t : Table) where
  -- of an activation with this frame, before these older ones
  abbrev Top : List Sig → ℕ → List Active → Type 0
  Top kinds frame older = ((g : Sig) → at_depth kinds frame ≡ Some g → IsCalledBy t g older) × AllCalled t (others kinds) older

  same : (gs hs : List Sig) (f d : ℕ) (cs ds : List Active) → hs ≡ gs → d ≡ f → ds ≡ cs → Top gs f cs → Top hs d ds
  same gs hs f d cs ds e1 e2 e3 h =
      subst (λ gs. Top gs d ds) (sym e1) (subst (λ f. Top gs f ds) (sym e2) (subst (λ cs. Top gs f cs) (sym e3) h))

  module _ (p : Program) (kinded : AreKinded p t) (source : Source) (s : State) (kinds : List Sig) (deep : length s.env.frames ≡ length kinds) (claim : AllCalled t kinds (s.run ∷ s.callers)) where
    -- the frame of a routine that is called is the newest
    newest : (g h : Sig) (frame : ℕ) → frame ≡ length s.env.frames → at_depth (g ∷ kinds) frame ≡ Some h → g ≡ h
    newest g h frame f e =
        let l : nat_eq (length s.env.frames) (length kinds) ≡ true = eq-eqb (length s.env.frames) (length kinds) deep in
        let k : nat_eq frame (length kinds) ≡ true = ap (λ d. nat_eq d (length kinds)) f ∙ l in
        let p : Some g ≡ Some h = sym (ap (λ (b : Bool). if b then Some g else at_depth kinds frame) k) ∙ e in
        cc

    module _ (frame : ℕ) (this : Value) (waits : List Todo) (g h : Sig) (at : at_depth (g ∷ kinds) frame ≡ Some h) where
      abbrev New : List Todo → Type 0
      New l = NextAt (λ d x. BuildsOf t h d) l

      called : (r : ℕ) (todo : List Todo) → Awaited (IsAt p source s r) todo → AwaitedPart (IsAtField p source s r) todo → g ≡ t.routine r → frame ≡ length s.env.frames → waits ≡ todo → New waits
      called r todo c m e f w =
          subst New (sym w) (both (λ d x. BuildsOf t h d) (IsAt p source s r) (IsAtField p source s r) (λ d k y. by d y.0) (λ d k i y. by d y.0) todo c m)
        where
          by : (d : ℕ) → ArePaired p r d → BuildsOf t h d
          by d pair = subst (λ i. BuildsOf t i d) (sym e ∙ newest g h frame f at) (kinded r d pair)

      none : (todo : List Todo) → Awaited (λ d k. ⊥) todo → AwaitedPart (λ d k i. ⊥) todo → waits ≡ todo → New waits
      none todo c m w = subst New (sym w) (both (λ d x. BuildsOf t h d) (λ d k. ⊥) (λ d k i. ⊥) (λ d k y. absurd y) (λ d k i y. absurd y) todo c m)

      begun : (l : List Todo) → CallsAt p source l s → PartsAt p source l s → BeginsAt t source s frame this waits l g → New waits
      begun [] c m b = absurd b
      begun (piece.CallNow r ∷ todo) c m b = none todo c m b.2
      begun (piece.CallOnNow r ∷ todo) c m b = called r todo c m b.0 b.1 b.2
      begun (piece.CallUnwrittenNow r ∷ todo) c m b = called r todo c m b.0 b.1 b.2
      begun (piece.RaiseNow ∷ todo) c m b = none (piece.DropNow ∷ todo) c m b.1
      begun (x ∷ todo) c m b = absurd b

    pub pairs_turned : CallsAt p source s.run.control s → PartsAt p source s.run.control s → (u : State) (hs : List Sig) → Turned t source s kinds u hs → AllCalled t hs (u.run ∷ u.callers)
    pairs_turned c m u hs (stays e n f v cs) = same kinds hs s.run.frame u.run.frame s.callers u.callers e f cs claim
    pairs_turned c m u hs (begins g a b e n cs f v) =
        same (g ∷ kinds) hs u.run.frame u.run.frame (a ∷ s.callers) u.callers e refl cs ((λ h at. begun u.run.frame u.run.this a.control g h at s.run.control c m b), same kinds kinds s.run.frame a.frame s.callers s.callers refl f refl claim)
    pairs_turned c m u hs (goes_back b q e n f v) =
        same (others kinds) hs b.frame u.run.frame u.callers u.callers e f refl (subst (λ cs. AllCalled t (others kinds) cs) q claim.1)
