-- Who owes an object anything has it at hand.
use Rattle.std.proofs.Common.{◌≡◌, ℕ, zero, suc, ◌+◌, ◌<◌, ◌⊎◌, inl, inr, Bool, true, false, List, [], ◌∷◌, Some, refl, ap, ◌∙◌, subst, arith}
use Rattle.std.specs.Prelude.{nat_eq, if◌then◌else◌}
use Rattle.std.proofs.lemmas.Bool.{eqb-true}
use Rattle.uc_tree.specs.Source.{Source}
use Rattle.uc_machine.specs.declared.exec.Exec.{Exec}
use Rattle.uc_machine.specs.Executions.{others}
use Rattle.uc_machine.specs.Pieces.{Value, Number, Place, Running, Object, Nothing, Active, object_in}
use Rattle.uc_typing.specs.Typing.{Ty, Num, Obj, Raw, Sig, Table, object_ty}
use Rattle.uc_typing.specs.Pieces.{onto}
use Rattle.uc_typing.specs.States.{IsObjectBy, IsObject}
use Rattle.uc_life_laws.specs.Things.{Few, itself, Held, LiesIn, Known}
use Rattle.uc_life_laws.specs.Knowing.{Making, AtHand, KnownThis, Knows, KnowsWaits, KnowsEx}
use Rattle.uc_life_laws.proofs.Knowns.{held_more, older_hand}
use Rattle.uc_depth_laws.specs.Entering.{Aspect}
use Rattle.uc_depth_laws.specs.Owing.{Ex, marks, counted, owed_by, owed_waiting, owed_all, is_told, First, Any, Entered, AllEntered, Engaged}
use Rattle.uc_depth_laws.proofs.Depths.{counted_none}
use Rattle.uc_life_laws.specs.AtHand.{IsAtHand, LawOwes}
use Rattle.uc_life_laws.proofs.Marked.{IsBehind, ok_mutex}

-- a mutex object is known by its number
object_is : (t : Table) (c : ℕ) (v : Value) → t.mutex c ≡ true → IsObject t c v → v ≡ Object (object_in v)
object_is t c v m h = by v (subst (λ b. IsObjectBy t b c v) m h)
  where
    by : (v : Value) → IsObjectBy t true c v → v ≡ Object (object_in v)
    by (Number n) h = absurd h
    by (Place o p) h = absurd h
    by (Running e) h = absurd h
    by (Object o) h = refl
    by Nothing h = absurd h

module _ (t : Table) (few : Few) (n : Exec) where
  -- the object of an activation of a mutex class is at hand of it
  this_held : (gs : List Sig) (a : Active) (older : List Active) (g : Sig) (c : ℕ) → t.mutex c ≡ true → (w : Bool) → g.whole ≡ w → g.this ≡ Some c → ((y : Value) (b : Ty) → Making g a.this y b → AtHand t few n gs (a ∷ older) y b) → Known t few n (AtHand t few n (others gs) older) (object_ty w c) a.this → Held t few (AtHand t few n gs (a ∷ older)) (Obj c) (Object (object_in a.this))
  this_held gs a older g c m true e i f h =
      let is = object_is t c a.this m h.is in
      subst (λ v. Held t few (AtHand t few n gs (a ∷ older)) (Obj c) v) is (inr (a.this, c, f a.this (Raw c) (e, (c, i, refl, refl)), itself))
  this_held gs a older g c m false e i f h =
      let is = object_is t c a.this m h.is in
      let lies : LiesIn t few n (AtHand t few n (others gs) older) (Obj c) (Object (object_in a.this)) = subst (LiesIn t few n (AtHand t few n (others gs) older) (Obj c)) is (h.held m) in
      held_more t few n (AtHand t few n (others gs) older) (AtHand t few n gs (a ∷ older)) (older_hand t few n gs a older) (Obj c) (Object (object_in a.this)) lies

  active_owes : (source : Source) (told : Aspect → Bool) (f : First) (gs : List Sig) (given : List Ty) (a : Active) (older : List Active) → IsBehind f → Knows t few n gs given older a → Entered source told f a.control → (o : ℕ) → (owed_by o a ≡ 0) ⊎ IsAtHand t few n gs (a ∷ older) o
  active_owes source told first gs given a older behind k e o = by (marks a.control) refl
    where
      none : marks a.control ≡ 0 → owed_by o a ≡ 0
      none z = ap (counted o a.this) z ∙ counted_none o a.this

      at : 0 < marks a.control → (b : Bool) → nat_eq (object_in a.this) o ≡ b → (owed_by o a ≡ 0) ⊎ IsAtHand t few n gs (a ∷ older) o
      at l false f = inl (ap {B = ℕ} (λ b. if b then marks a.control else 0) f)
      at l true f =
          let m = ok_mutex source told t k.sig k.base first behind k.scope a.control (onto given k.own) k.ok e l in
          let known : Known t few n (AtHand t few n (others gs) older) (object_ty k.sig.whole m.0) a.this = subst (λ i. KnownThis t few n (AtHand t few n (others gs) older) k.sig i a.this) m.1 k.this in
          let held = this_held gs a older k.sig m.0 m.2 k.sig.whole refl m.1 (λ y b p. inr (inl (inl (k.sig, k.frame, p)))) known in
          inr (m.0, m.2, subst (λ q. Held t few (AtHand t few n gs (a ∷ older)) (Obj m.0) (Object q)) (eqb-true (object_in a.this) o f) held)

      by : (d : ℕ) → marks a.control ≡ d → (owed_by o a ≡ 0) ⊎ IsAtHand t few n gs (a ∷ older) o
      by zero z = inl (none z)
      by (suc d) z = at (omega (arith, z)) (nat_eq (object_in a.this) o) refl

  -- what is at hand of older ones
  further : (gs : List Sig) (a : Active) (older : List Active) (o : ℕ) → IsAtHand t few n (others gs) older o → IsAtHand t few n gs (a ∷ older) o
  further gs a older o h =
      (h.0, h.1, held_more t few n (AtHand t few n (others gs) older) (AtHand t few n gs (a ∷ older)) (older_hand t few n gs a older) (Obj h.0) (Object o) h.2)

  both : (gs : List Sig) (a : Active) (older : List Active) (o x y : ℕ) → (x ≡ 0) ⊎ IsAtHand t few n gs (a ∷ older) o → (y ≡ 0) ⊎ IsAtHand t few n (others gs) older o → (x + y ≡ 0) ⊎ IsAtHand t few n gs (a ∷ older) o
  both gs a older o x y (inr h) k = inr h
  both gs a older o x y (inl e) (inr h) = inr (further gs a older o h)
  both gs a older o x y (inl e) (inl f) = inl (omega (arith, e, f))

  pub waits_owe : (source : Source) (tells : Aspect → ℕ → Bool) (gs : List Sig) (cs : List Active) → KnowsWaits t few n gs cs → AllEntered source tells cs → (o : ℕ) → (owed_waiting o cs ≡ 0) ⊎ IsAtHand t few n gs cs o
  waits_owe source tells gs [] k e o = inl refl
  waits_owe source tells gs (c ∷ cs) k e o =
      both gs c cs o (owed_by o c) (owed_waiting o cs) (active_owes source (is_told tells c.this cs) Any gs (Num ∷ []) c cs tt k.0 e.0 o) (waits_owe source tells (others gs) cs k.1 e.2 o)

  pub rests_owe : (source : Source) (tells : Aspect → ℕ → Bool) (x : Ex) (k : KnowsEx t few n x) → Engaged source tells x → (o : ℕ) → (owed_all o x ≡ 0) ⊎ IsAtHand t few n k.sigs (x.run ∷ x.callers) o
  rests_owe source tells x k e o =
      both k.sigs x.run x.callers o (owed_by o x.run) (owed_waiting o x.callers) (active_owes source (is_told tells x.run.this x.callers) Any k.sigs [] x.run x.callers tt k.run e.run o) (waits_owe source tells (others k.sigs) x.callers k.callers e.callers o)

  -- of all activations of the running one
  pub run_owes : (source : Source) (tells : Aspect → ℕ → Bool) (f : First) (gs : List Sig) (given : List Ty) (a : Active) (older : List Active) → IsBehind f → Knows t few n gs given older a → Entered source (is_told tells a.this older) f a.control → KnowsWaits t few n (others gs) older → AllEntered source tells older → (o : ℕ) → (owed_by o a + owed_waiting o older ≡ 0) ⊎ IsAtHand t few n gs (a ∷ older) o
  run_owes source tells f gs given a older b k e ks es o =
      both gs a older o (owed_by o a) (owed_waiting o older) (active_owes source (is_told tells a.this older) f gs given a older b k e o) (waits_owe source tells (others gs) older ks es o)

pub law_owes : LawOwes
law_owes = record {
  rests = λ t few source tells n x k e o. rests_owe t few n source tells x k e o;
  waits = λ t few source tells n gs cs k e o. waits_owe t few n source tells gs cs k e o;
}
