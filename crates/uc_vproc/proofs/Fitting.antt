-- What a task may ask by the objects in its hand and those that are there, fits.
use Rattle.std.proofs.Common.{◌≡◌, ℕ, ◌<◌, Bool, true, false, not, List, [], refl, sym, ap, ◌∙◌, subst, length}
use Rattle.std.specs.Prelude.{slice_index_or}
use Rattle.uc_tree.specs.Programs.{Site}
use Rattle.uc_entry.specs.declared.entry.Options.{Options}
use Rattle.uc_entry.specs.declared.request.Request.{Request}
use Rattle.uc_entry.specs.declared.request.Request.TheVariants as ask
use Rattle.uc_acts.specs.Journal.{Journal, held, is_over, own_object}
use Rattle.uc_acts.specs.Known.{has, owner}
use Rattle.uc_acts.specs.Queues.{cluster_count, processor_count}
use Rattle.uc_acts.specs.KernelRuns.{Fits, KernelRuns, IsAt, IsMade}
use Rattle.uc_acts.proofs.Held.{law_held}
use Rattle.uc_acts.proofs.Counted.{counted_run, law_made}
use Rattle.uc_site_laws.specs.Naming.{NamesKnown}
use Rattle.uc_state_laws.specs.Marked.{EventKnown}
use Rattle.uc_step_laws.specs.Hands.{HasForm}
use Rattle.uc_vproc.specs.declared.fits.Place.TheVariants as place
use Rattle.uc_vproc.specs.Places.{place_of, IsBare, IsOwned}
use Rattle.uc_vproc.specs.Registries.{AreThere}

pub not_true_false : (b : Bool) → not b ≡ true → b ≡ false
not_true_false true h = absurd (cc h)
not_true_false false h = refl

module _ (opts : Options) (sites : List Site) (input : List ℕ) (j : Journal) (runs : KernelRuns opts sites input j) where
  -- an object that is there is made and not gone
  pub known_there : (there : List Bool) → AreThere there j → (o : ℕ) → slice_index_or there o false ≡ true → IsMade o j
  known_there there are o h =
      let known = (counted_run opts sites input runs).of_made o (are o h) in record { made = known.0; not_gone = known.1 }

  module _ (going : is_over j ≡ false) (t : ℕ) (hand : List ℕ) (same : hand ≡ held t j) (own : ℕ) (own_is : own ≡ own_object t j) where
    -- an object in hand is made and not gone, and its task inside
    near : (o : ℕ) → has hand o ≡ true → IsAt t o j
    near o h =
        let it : has (held t j) o ≡ true = ap (λ l. has l o) (sym same) ∙ h in
        let known = (counted_run opts sites input runs).of_made o (law_made opts sites input j runs going t o it) in
        record { inside = sym ((law_held j).inside t o) ∙ it; known = record { made = known.0; not_gone = known.1 } }

    pub fits_anywhere : (r : Request) → HasForm r → place_of own r ≡ place.Anywhere → Fits opts sites j t r
    fits_anywhere (ask.Poll m) h e = tt
    fits_anywhere ask.Yield h e = tt
    fits_anywhere ask.Slice h e = tt
    fits_anywhere ask.Fail h e = tt
    fits_anywhere (ask.Fault n) h e = tt
    fits_anywhere (ask.Make c) h e = tt
    fits_anywhere ask.Cluster h e = tt
    fits_anywhere (ask.Print n items) h e = h
    fits_anywhere (ask.Read form) h e = h
    fits_anywhere r h e = absurd (cc e)

    at_same : (a o : ℕ) → place.At a ≡ place.At o → o ≡ a
    at_same a o e = cc e

    at_near : (a o : ℕ) → has hand o ≡ true → place.At a ≡ place.At o → IsAt t a j
    at_near a o h e = near a (subst (λ x. has hand x ≡ true) (at_same a o e) h)

    pub fits_at : (o : ℕ) (r : Request) → NamesKnown sites r → has hand o ≡ true → place_of own r ≡ place.At o → Fits opts sites j t r
    fits_at o (ask.Made a) n h e = at_near a o h e
    fits_at o (ask.Leave a x) n h e = at_near a o h e
    fits_at o (ask.Wait a c v) n h e = at_near a o h e
    fits_at o (ask.Signal a c) n h e = at_near a o h e
    fits_at o (ask.SignalBlock a c) n h e = at_near a o h e
    fits_at o (ask.Empty a c) n h e = at_near a o h e
    fits_at o (ask.Front a c) n h e = at_near a o h e
    fits_at o (ask.Gone a) n h e = at_near a o h e
    fits_at o (ask.Accept a site mask) n h e = (at_near a o h e, n.0, n.1)
    fits_at o ask.End n h e = subst (λ x. IsAt t x j) own_is (at_near own o h e)
    fits_at o r n h e = absurd (cc e)

    pub fits_bare : (o : ℕ) (r : Request) → IsBare hand o j → place_of own r ≡ place.Unowned o → Fits opts sites j t r
    fits_bare o (ask.Spawn a) b e =
        let s : o ≡ a = cc e in (near a (subst (λ x. has hand x ≡ true) s b.holds), subst (λ x. owner x j ≡ []) s b.nobody)
    fits_bare o r b e = absurd (cc e)

    pub fits_owned : (o : ℕ) (r : Request) → EventKnown r → IsOwned o j → place_of own r ≡ place.Owned o → Fits opts sites j t r
    fits_owned o (ask.Raise a n x y) k b e =
        let s : o ≡ a = cc e in
        (subst (λ z. IsMade z j) s b.known, subst (λ z. length (owner z j) ≡ 1) s b.one, k)
    fits_owned o r k b e = absurd (cc e)

    pub fits_apart : (there : List Bool) → AreThere there j → (o : ℕ) (r : Request) → NamesKnown sites r → ((a m : ℕ) → r ≡ ask.Call a m → has (held t j) a ≡ false) → slice_index_or there o false ≡ true → place_of own r ≡ place.Outside o → Fits opts sites j t r
    fits_apart there are o (ask.Call a m) n f b e =
        let s : o ≡ a = cc e in
        (record { outside = sym ((law_held j).inside t a) ∙ f a m refl; known = known_there there are a (subst (λ z. slice_index_or there z false ≡ true) s b) }, n)
    fits_apart there are o r n f b e = absurd (cc e)

    pub fits_cluster : (c : ℕ) (r : Request) → c < cluster_count j → place_of own r ≡ place.Cluster c → Fits opts sites j t r
    fits_cluster c (ask.ClusterEnd k) lt e = let f : c ≡ k = cc e in subst (λ z. z < cluster_count j) f lt
    fits_cluster c (ask.Processor k) lt e = let f : c ≡ k = cc e in subst (λ z. z < cluster_count j) f lt
    fits_cluster c (ask.Migrate k) lt e = let f : c ≡ k = cc e in subst (λ z. z < cluster_count j) f lt
    fits_cluster c r lt e = absurd (cc e)

    pub fits_processor : (q : ℕ) (r : Request) → q < processor_count opts j → place_of own r ≡ place.Processor q → Fits opts sites j t r
    fits_processor q (ask.ProcessorEnd k) lt e = let f : q ≡ k = cc e in subst (λ z. z < processor_count opts j) f lt
    fits_processor q r lt e = absurd (cc e)
