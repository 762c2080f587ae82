-- Objects that are variables, by what cleans them up.
use Rattle.std.proofs.Common.{◌≡◌, ℕ, List, ◌∷◌, Some, sym, subst}
use Rattle.uc_tree.specs.Source as src
use Rattle.uc_tree.specs.Source.{Expr, CleanUp}
use Rattle.uc_machine.specs.Pieces as piece
use Rattle.uc_machine.specs.Pieces.{Todo}
use Rattle.uc_typing.specs.Typing.{Obj, Table, DestroysAt, CleansAt}
use Rattle.uc_place_laws.specs.Opened.{OfPlain}
use Rattle.uc_place_laws.specs.OpeningLaws.{NoneAwaited}
use Rattle.uc_building_laws.specs.BuildingStates.{Awaits}
use Rattle.uc_building_laws.specs.BuildingLaws.{IsPlain}

module _ (t : Table) (k i : ℕ) (P : ℕ → ℕ → Type 0) where
  destroyed : (e : Expr) → DestroysAt t (Obj i) (src.Variable k) e → OfPlain P (src.Destroys e) → (d : ℕ) × ((t.routine d).this ≡ Some i) × P d k
  destroyed (src.OfObject (src.CallOn r x args)) d h = (r, d.1, subst (λ x. OfPlain P (src.Destroys (src.OfObject (src.CallOn r x args)))) (sym d.0) h)
  destroyed (src.OfObject (src.CallUnwritten r x)) d h = (r, d.1, subst (λ x. OfPlain P (src.Destroys (src.OfObject (src.CallUnwritten r x)))) (sym d.0) h)
  destroyed e d h = absurd d

  -- what destroys an object that is a variable is a destructor of its class
  pub plain_of : (c : CleanUp) → CleansAt t (Obj i) (src.Variable k) c → OfPlain P c → (d : ℕ) × ((t.routine d).this ≡ Some i) × P d k
  plain_of (src.Destroys e) d h = destroyed e d h
  plain_of (src.DestroysAll m e) d h = absurd d
  plain_of c d h = absurd d

pub none_plain : (t : Table) (c : CleanUp) → OfPlain (λ d k. ⊥) c → IsPlain t c → ⊥
none_plain t c h x = (plain_of t x.0 x.1 (λ d k. ⊥) c x.2 h).2

-- no scope of such an object opens next
pub no_scope : (t : Table) (todo : List Todo) → NoneAwaited todo → Awaits (λ c rest. IsPlain t c → ⊥) todo
no_scope t (piece.DropNow ∷ (piece.Within line ∷ (piece.Rest (src.Scoped c ss) ∷ todo))) h = λ x. none_plain t c h x
no_scope t todo h = tt
