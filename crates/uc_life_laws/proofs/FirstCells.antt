-- First cells of coroutines in frames name their executions still, whatever is written, as frames come and go, and where cells behind them start anew.
use Rattle.std.proofs.Common.{◌≡◌, ℕ, zero, suc, ◌≤◌, ◌<◌, ◌⊎◌, inl, inr, Bool, true, false, List, [], ◌∷◌, ◌++◌, length, take, Some, refl, sym, ap, ◌∙◌, subst, arith}
use Rattle.std.specs.Prelude.{if◌then◌else◌, slice_index_or}
use Rattle.uc_machine.specs.declared.exec.Exec.{Exec}
use Rattle.uc_machine.specs.declared.exec.Owner.TheVariants.{Frame, Fields}
use Rattle.uc_machine.specs.Executions.{set_depth, frame_changed, others, value_changed, values_cleared}
use Rattle.uc_machine.specs.Pieces.{Link, Value, Number, Place, Running, Object, Nothing, Active, address, stored, nought}
use Rattle.uc_life_laws.specs.LifeStates.{frame_at}
use Rattle.uc_life_laws.specs.Held.{IsNamedIn, NamedAt}
use Rattle.uc_life_laws.proofs.Cells.{set_length, set_at, newer_at, older_at, others_length, cell_stored}

-- of each place
pub named_map : (n : Exec) (cs ds : List Active) (fs gs : List (List Value)) (x : Exec) → ((m : Exec) (d : ℕ) (p : List Link) → IsNamedIn n cs fs x m d p → IsNamedIn n ds gs x m d p) → (v : Value) → NamedAt n cs fs x v → NamedAt n ds gs x v
named_map n cs ds fs gs x f (Place (Frame m d) p) h = f m d p h
named_map n cs ds fs gs x f (Place (Fields o) p) h = tt
named_map n cs ds fs gs x f (Number z) h = tt
named_map n cs ds fs gs x f (Running y) h = tt
named_map n cs ds fs gs x f (Object o) h = tt
named_map n cs ds fs gs x f Nothing h = tt

-- by what is told of that place
pub named_told : (n : Exec) (cs ds : List Active) (fs gs : List (List Value)) (x : Exec) (v : Value) → ((d : ℕ) (p : List Link) → v ≡ Place (Frame n d) p → IsNamedIn n cs fs x n d p → IsNamedIn n ds gs x n d p) → NamedAt n cs fs x v → NamedAt n ds gs x v
named_told n cs ds fs gs x (Place (Frame m d) p) f h =
    subst (λ k. IsNamedIn n ds gs x k d p) (sym h.own) (f d p (ap (λ k. Place (Frame k d) p) h.own) (subst (λ k. IsNamedIn n cs fs x k d p) h.own h))
named_told n cs ds fs gs x (Place (Fields o) p) f h = tt
named_told n cs ds fs gs x (Number z) f h = tt
named_told n cs ds fs gs x (Running y) f h = tt
named_told n cs ds fs gs x (Object o) f h = tt
named_told n cs ds fs gs x Nothing f h = tt

running_stored : (v : Value) (x : Exec) (y : Value) → y ≡ Running x → stored v y ≡ Running x
running_stored v x (Running z) e = e
running_stored v x (Number z) e = absurd (cc)
running_stored v x (Place o p) e = absurd (cc)
running_stored v x (Object o) e = absurd (cc)
running_stored v x Nothing e = absurd (cc)

module _ (n : Exec) (cs : List Active) (fs : List (List Value)) (x m : Exec) (d : ℕ) (p : List Link) (h : IsNamedIn n cs fs x m d p) where
  -- a value is written somewhere
  pub in_written : (e k : ℕ) (v : Value) → IsNamedIn n cs (frame_changed e (value_changed k (stored v) nought) fs) x m d p
  in_written e k v = record {
    own = h.own;
    home = h.home;
    frames = set_length fs e (value_changed k (stored v) nought (frame_at e fs)) ∙ h.frames;
    there = h.there;
    names = set_at (λ vs. slice_index_or vs (address p) nought ≡ Running x) fs e d _ (λ q. cell_stored (λ y. y ≡ Running x) v (λ y z. running_stored v x y z) (frame_at e fs) (address p) k (subst (λ f. slice_index_or (frame_at f fs) (address p) nought ≡ Running x) q h.names)) h.names;
  }

  -- a frame more
  pub in_newer : (f : List Value) (c : Active) → IsNamedIn n (c ∷ cs) (f ∷ fs) x m d p
  in_newer f c =
      let l = h.frames in
      let le = h.there in
      record {
        own = h.own;
        home = h.home;
        frames = ap suc h.frames;
        there = omega (arith, le);
        names = newer_at (λ vs. slice_index_or vs (address p) nought ≡ Running x) f fs d (omega (arith, l, le)) h.names;
      }

  -- the frame of a depth starts anew from a cell on, behind this one
  cell_taken : (vs ws : List Value) (j k : ℕ) → j < k → slice_index_or vs j nought ≡ Running x → slice_index_or (take k vs ++ ws) j nought ≡ Running x
  cell_taken [] ws j k l e = let f : nought ≡ Running x = e in absurd (cc)
  cell_taken (y ∷ vs) ws j zero l e = let f : ⊥ = omega (arith, l) in absurd f
  cell_taken (y ∷ vs) ws zero (suc k) l e = e
  cell_taken (y ∷ vs) ws (suc j) (suc k) l e = cell_taken vs ws j k (omega (arith, l)) e

  pub in_cleared : (e k i : ℕ) → (d ≡ e → address p < k) → IsNamedIn n cs (frame_changed e (values_cleared k i nought) fs) x m d p
  in_cleared e k i f = record {
    own = h.own;
    home = h.home;
    frames = set_length fs e (values_cleared k i nought (frame_at e fs)) ∙ h.frames;
    there = h.there;
    names = set_at (λ vs. slice_index_or vs (address p) nought ≡ Running x) fs e d _ (λ q. cell_taken (frame_at e fs) _ (address p) k (f q) (subst (λ g. slice_index_or (frame_at g fs) (address p) nought ≡ Running x) q h.names)) h.names;
  }

-- the newest frame goes with an activation
pub in_older : (n : Exec) (c : Active) (cs : List Active) (fs : List (List Value)) (x m : Exec) (d : ℕ) (p : List Link) → d < suc (length cs) → IsNamedIn n (c ∷ cs) fs x m d p → IsNamedIn n cs (others fs) x m d p
in_older n c cs fs x m d p l h =
    let len : length (others fs) ≡ suc (length cs) = others_length fs (length cs) h.frames in
    record {
      own = h.own;
      home = h.home;
      frames = len;
      there = omega (arith, l);
      names = older_at (λ vs. slice_index_or vs (address p) nought ≡ Running x) fs d (omega (arith, l, len)) h.names;
    }
