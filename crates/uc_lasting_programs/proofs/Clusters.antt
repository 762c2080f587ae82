-- A cluster that is a variable has a number that was made, where its scope opens.
use Rattle.std.proofs.Common.{◌≡◌, ℕ, zero, suc, ◌<◌, ◌≤◌, ◌⊎◌, inl, inr, Bool, true, false, List, [], ◌∷◌, length, refl, sym, ap, ◌∙◌, subst, arith}
use Rattle.std.specs.Prelude.{nat_lt, slice_index_or}
use Rattle.std.proofs.lemmas.Bool.{ltb-true}
use Rattle.uc_tree.specs.Source as src
use Rattle.uc_tree.specs.Source.{CleanUp, Expr, Stmts}
use Rattle.uc_machine.specs.declared.exec.Owner.{Owner}
use Rattle.uc_machine.specs.declared.exec.Exec.{Exec}
use Rattle.uc_machine.specs.Pieces.{Slot, Value, Number, Place, Running, Object, Nothing, LAST_ADDRESS, address, nought}
use Rattle.uc_typing.specs.Typing.{Ty, Num, Cell, Obj, Raw, Row, Clu, Pro, Table, CleansAt}
use Rattle.uc_state_laws.specs.There as there
use Rattle.uc_state_laws.specs.There.{IsThere, IsCounted, OfVariable, HoldsObject}
use Rattle.uc_typing.specs.States.{IsNumbered}
use Rattle.uc_life_laws.specs.Things.{Few, Within, itself, field, element, Holds, Known}

-- whether a type is that of such a variable
pub is_cluster : (a : Ty) → (a ≡ Cell Clu) ⊎ (a ≡ Cell Clu → ⊥)
is_cluster Num = inr (λ e. absurd (cc))
is_cluster (Cell Num) = inr (λ e. absurd (cc))
is_cluster (Cell (Cell a)) = inr (λ e. absurd (cc))
is_cluster (Cell (Obj c)) = inr (λ e. absurd (cc))
is_cluster (Cell (Raw c)) = inr (λ e. absurd (cc))
is_cluster (Cell (Row n a)) = inr (λ e. absurd (cc))
is_cluster (Cell Clu) = inl refl
is_cluster (Cell Pro) = inr (λ e. absurd (cc))
is_cluster (Obj c) = inr (λ e. absurd (cc))
is_cluster (Raw c) = inr (λ e. absurd (cc))
is_cluster (Row n a) = inr (λ e. absurd (cc))
is_cluster Clu = inr (λ e. absurd (cc))
is_cluster Pro = inr (λ e. absurd (cc))

-- a binding has no parts
pub within_cell : (t : Table) (w : Value) (b : Ty) (v : Value) (d : Ty) → Within t w (Cell b) v d → (v ≡ w) × (d ≡ Cell b)
within_cell t w b v d itself = (refl, refl)
within_cell t w b v d (field {v = u} {c} h i f) = let e = within_cell t w b u (Obj c) h in absurd (cc)
within_cell t w b v d (element {v = u} {m} {b = x} h j l) = let e = within_cell t w b u (Row m x) h in absurd (cc)

-- a cell of a frame that holds an object lies before the last address, where all cells of the frame do

beyond : (vs : List Value) (n : ℕ) → length vs ≤ n → slice_index_or vs n nought ≡ nought
beyond [] n l = refl
beyond (v ∷ vs) zero l = let n : ⊥ = omega (arith, l) in absurd n
beyond (v ∷ vs) (suc n) l = beyond vs n (omega (arith, l))

near : (vs : List Value) (k : ℕ) → length vs ≤ LAST_ADDRESS → IsNumbered (slice_index_or vs (address (Slot k ∷ [])) nought) → k < LAST_ADDRESS
near vs k l i = by (nat_lt k LAST_ADDRESS) refl
  where
    by : (b : Bool) → nat_lt k LAST_ADDRESS ≡ b → k < LAST_ADDRESS
    by true e = ltb-true k LAST_ADDRESS e
    by false e =
        let far : address (Slot k ∷ []) ≡ LAST_ADDRESS = grind (arith, e) in
        absurd (subst IsNumbered (ap (λ n. slice_index_or vs n nought) far ∙ beyond vs LAST_ADDRESS l) i)

module _ (t : Table) (few : Few) (numbers : ℕ → Bool) (more : (n : ℕ) → numbers n ≡ true → few.numbers Clu n ≡ true) where
  known : (n : Exec) (K : Value → Ty → Type 0) (v : Value) → there.IsFew numbers v → Known t few n K Clu v
  known n K (Number z) h = absurd h
  known n K (Place o p) h = absurd h
  known n K (Running x) h = absurd h
  known n K (Object o) h = record { is = tt; passes = more o h; rooted = λ i. absurd i; held = λ m. absurd m; seated = λ i. absurd i }
  known n K Nothing h = absurd h

  numbered : (vs : List Value) (k : ℕ) → length vs ≤ LAST_ADDRESS → (c : CleanUp) → CleansAt t (Cell Clu) (src.Variable k) c → IsThere vs c → IsCounted numbers vs c → there.IsFew numbers (slice_index_or vs (address (Slot k ∷ [])) nought)
  numbered vs k l (src.Destroys (src.OfObject (src.EndCluster (src.Load e)))) h p q =
      let object : IsNumbered (slice_index_or vs (address (Slot k ∷ [])) nought) = subst (OfVariable (HoldsObject vs)) (sym h) p in
      (subst (λ (e : Expr). IsCounted numbers vs (src.Destroys (src.OfObject (src.EndCluster (src.Load e))))) (sym h) q) (near vs k l object)
  numbered vs k l c h p q = absurd h

  -- so the variable holds what is known
  pub cluster_holds : (n : Exec) (K : Value → Ty → Type 0) (o : Owner) (vs : List Value) (k : ℕ) → length vs ≤ LAST_ADDRESS → (c : CleanUp) → CleansAt t (Cell Clu) (src.Variable k) c → IsThere vs c → IsCounted numbers vs c → Holds t few n K o vs (Place o (Slot k ∷ [])) (Cell Clu)
  cluster_holds n K o vs k l c h p q r d w i =
      let x = within_cell t (Place o (Slot k ∷ [])) Clu (Place o r) (Cell d) w in
      let y = x.0 in
      let z = x.1 in
      let path : r ≡ Slot k ∷ [] = cc in
      let type : d ≡ Clu = cc in
      subst (λ d. Known t few n K d (slice_index_or vs (address r) nought)) (sym type) (subst (λ r. Known t few n K Clu (slice_index_or vs (address r) nought)) (sym path) (known n K (slice_index_or vs (address (Slot k ∷ [])) nought) (numbered vs k l c h p q)))
