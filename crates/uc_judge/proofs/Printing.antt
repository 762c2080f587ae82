-- The entries of a print, one after the other.
use Rattle.std.proofs.Common.{◌≡◌, ℕ, zero, suc, ◌+◌, ◌<◌, List, [], ◌∷◌, ◌++◌, refl, sym, ap, ◌∙◌, arith, length, take, get_or, add-one, append_assoc}
use Rattle.std.specs.Prelude.{ℤ, pos}
use Rattle.uc_tree.specs.Programs.{Site}
use Rattle.uc_entry.specs.declared.entry.Entry.{Entry}
use Rattle.uc_entry.specs.declared.entry.EntryKind.TheVariants as kind
use Rattle.uc_entry.specs.declared.request.Piece.{Piece}
use Rattle.uc_acts.specs.Journal.{Journal, Cost, no_cost, asking}
use Rattle.uc_acts.specs.Acts.{prints, settled}
use Rattle.uc_judge.specs.declared.actor.Actor.{Actor}
use Rattle.uc_judge.specs.declared.ledger.Ledger.{Ledger}
use Rattle.uc_judge.specs.Actors.{cost_at}
use Rattle.uc_judge.specs.Ledgers.{Adds, Settles, busy_fault}
use Rattle.uc_judge.proofs.Settling.{settled_on}

free_at : (i : ℕ) → cost_at no_cost i ≡ no_cost
free_at zero = refl
free_at (suc i) = refl

abbrev pub item_entry : ℕ → ℕ → Cost → Piece → Entry
item_entry p t k x = asking kind.Print p t k 0 (pos x.form) x.value

prints_next : (p t : ℕ) (k : Cost) (items : List Piece) (i : ℕ) (d : Piece) → i < length items → prints p t k (take (suc i) items) ≡ prints p t k (take i items) ++ item_entry p t (cost_at k i) (get_or items i d) ∷ []
prints_next p t k [] i d lt = absurd (omega (arith, lt))
prints_next p t k (x ∷ xs) zero d lt = refl
prints_next p t k (x ∷ xs) (suc i) d lt =
    ap (λ l. item_entry p t k x ∷ l) (prints_next p t no_cost xs i d (omega (arith, lt)) ∙ ap (λ c. prints p t no_cost (take i xs) ++ item_entry p t c (get_or xs i d) ∷ []) (free_at i))

-- one item more
pub prints_more : {old mid new : Ledger} {sites : List Site} (p t : ℕ) (k : Cost) (items : List Piece) (i : ℕ) (d : Piece) (e : Entry) → i < length items → e ≡ item_entry p t (cost_at k i) (get_or items i d) → Adds old mid sites (prints p t k (take i items)) → Adds mid new sites (e ∷ []) → Adds old new sites (prints p t k (take (i + 1) items))
prints_more {old} p t k items i d e lt h f g = record {
  entries = g.entries ∙ ap (λ l. l ++ e ∷ []) f.entries ∙ append_assoc old.entries.items (prints p t k (take i items)) (e ∷ []) ∙ ap (λ x. old.entries.items ++ (prints p t k (take i items) ++ x ∷ [])) h ∙ ap (λ l. old.entries.items ++ l) (sym (ap (λ n. prints p t k (take n items)) (add-one i) ∙ prints_next p t k items i d lt));
  opts = g.opts ∙ f.opts;
  ledger = g.ledger;
}

pub item_is : (p t : ℕ) (k : Cost) (x : Piece) (e : Entry) (p' t' : ℕ) (k' : Cost) (f : ℕ) (v : ℤ) → e ≡ asking kind.Print p' t' k' 0 (pos f) v → p' ≡ p → t' ≡ t → k' ≡ k → f ≡ x.form → v ≡ x.value → e ≡ item_entry p t k x
item_is p t k x e p' t' k' f v h a b c d g =
    h ∙ ap (λ n. asking kind.Print n t' k' 0 (pos f) v) a ∙ ap (λ n. asking kind.Print p n k' 0 (pos f) v) b ∙ ap (λ n. asking kind.Print p t n 0 (pos f) v) c ∙ ap (λ n. asking kind.Print p t k 0 (pos n) v) d ∙ ap (λ n. asking kind.Print p t k 0 (pos x.form) n) g

-- a print destroys nothing
safe_prints : (f : Entry) (j : Journal) (p t : ℕ) (k : Cost) (items : List Piece) → settled f j (prints p t k items) ≡ prints p t k items
safe_prints f j p t k [] = refl
safe_prints f j p t k (x ∷ xs) =
    settled_on f j (item_entry p t k x) (prints p t no_cost xs) refl ∙ ap (λ l. item_entry p t k x ∷ l) (safe_prints f (j ++ item_entry p t k x ∷ []) p t no_cost xs)

pub settles_prints : {old new : Ledger} {sites : List Site} (a : Actor) (p t : ℕ) (k : Cost) (items : List Piece) → Adds old new sites (prints p t k items) → Settles old new sites a (prints p t k items)
settles_prints {old} a p t k items h = record {
  entries = h.entries ∙ ap (λ l. old.entries.items ++ l) (sym (safe_prints (busy_fault a) old.entries.items p t k items));
  opts = h.opts;
  ledger = h.ledger;
}
