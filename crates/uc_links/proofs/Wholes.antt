-- An object and its row, seen as one: what is read of it, and what stays when one object and one row change.
use Rattle.std.proofs.Common.{◌≡◌, ◌≢◌, ℕ, zero, suc, ◌<◌, ◌≤◌, List, [], ◌∷◌, Option, Some, None, refl, sym, ap, ◌∙◌, subst, inl, inr, slice_index_or, slice_set, length, replicate, length-set, get_or-set_same, get_or-set_other, ext_get_or}
use Rattle.std.proofs.lemmas.Bool.{cases_eq, cases_lt}
use Rattle.std.proofs.lemmas.List.{length-map, get_or_default, get_or_past, get_or-replicate}
use Rattle.uc_links.specs.declared.chain.Ends.{Ends}
use Rattle.uc_links.specs.declared.object.Object.{Object}
use Rattle.uc_links.specs.declared.rows.Row.{Row}
use Rattle.uc_links.specs.Held.{AllEnds, ends_of, no_ends}
use Rattle.uc_links.specs.Lists.{member_limit}
use Rattle.uc_links.specs.View.{no_object, object_at}
use Rattle.uc_links.specs.Rows.{row_at, members_of, bare, bare_at, with_members, whole, wholes}

pub at_whole : (rows : List Row) (obs : List Object) (o : ℕ) → object_at (wholes rows obs) o ≡ whole rows (bare_at obs o)
at_whole rows [] o = refl
at_whole rows (b ∷ bs) zero = refl
at_whole rows (b ∷ bs) (suc o) = at_whole rows bs o

pub entries_there : (rows : List Row) (obs : List Object) (o : ℕ) → (bare_at obs o).entries.first ≡ (object_at (wholes rows obs) o).entries.first
entries_there rows obs o = ap (λ (b : AllEnds). b.entries.first) (sym (at_whole rows obs o))

pub top_there : (rows : List Row) (obs : List Object) (o : ℕ) → (bare_at obs o).top ≡ (object_at (wholes rows obs) o).top
top_there rows obs o = ap (λ (b : AllEnds). b.top) (sym (at_whole rows obs o))

pub callers_there : (rows : List Row) (obs : List Object) (o m : ℕ) → (ends_of (whole rows (bare_at obs o)) m).first ≡ (ends_of (object_at (wholes rows obs) o) m).first
callers_there rows obs o m = ap (λ (b : AllEnds). (ends_of b m).first) (sym (at_whole rows obs o))

pub at_index : (obs : List Object) (o : ℕ) (b : Object) → o < length obs → b ≡ slice_index_or obs o b → b ≡ bare_at obs o
at_index obs o b lo e = e ∙ get_or_default obs o b bare lo

pub known_index : (rows : List Row) (obs : List Object) (o : ℕ) → o < length (wholes rows obs) → o < length obs
known_index rows obs o l = subst (λ (n : ℕ). o < n) (length-map obs (whole rows)) l

pub index_known : (rows : List Row) (obs : List Object) (o : ℕ) → o < length obs → o < length (wholes rows obs)
index_known rows obs o l = subst (λ (n : ℕ). o < n) (sym (length-map obs (whole rows))) l

pub row_known : (obs : List Object) (o r : ℕ) → (bare_at obs o).row ≡ Some r → o < length obs
row_known obs o r e = elim (cases_lt o (length obs)) [
  | inl l ↦ l
  | inr g ↦ let wrong : None ≡ Some r = ap (λ (b : Object). b.row) (sym (get_or_past obs o bare g)) ∙ e in absurd cc
]

-- ---- an object without a row, or one that is not known, has no caller
pub no_ends_of : (m : ℕ) → ends_of no_object m ≡ no_ends
no_ends_of m = elim (cases_lt m member_limit) [ inl l ↦ get_or-replicate member_limit m no_ends no_ends l | inr g ↦ get_or_past (replicate member_limit no_ends) m no_ends g ]

pub no_row_caller : (rows : List Row) (b : Object) (m : ℕ) → b.row ≡ None → None ≡ (ends_of (whole rows b) m).first
no_row_caller rows b m e = ap (λ (x : Ends). x.first) (sym (ap (λ (q : Option ℕ). slice_index_or (members_of rows q) m no_ends) e ∙ no_ends_of m))

pub no_caller : (rows : List Row) (obs : List Object) (o m : ℕ) → length obs ≤ o → None ≡ (ends_of (whole rows (bare_at obs o)) m).first
no_caller rows obs o m g = no_row_caller rows (bare_at obs o) m (ap (λ (b : Object). b.row) (get_or_past obs o bare g))

pub past_caller : (rows : List Row) (b : Object) (m r : ℕ) → b.row ≡ Some r → length rows ≤ r → None ≡ (ends_of (whole rows b) m).first
past_caller rows b m r e g =
    ap (λ (x : Ends). x.first) (sym (ap (λ (q : Option ℕ). slice_index_or (members_of rows q) m no_ends) e ∙ ap (λ (x : Row). slice_index_or x.members m no_ends) (get_or_past rows r _ g) ∙ no_ends_of m))

-- ---- one object changed
pub members_same : (rows rows' : List Row) (q : Option ℕ) → ((s : ℕ) → q ≡ Some s → row_at rows' s ≡ row_at rows s) → members_of rows' q ≡ members_of rows q
members_same rows rows' None h = refl
members_same rows rows' (Some s) h = ap (λ (x : Row). x.members) (h s refl)

pub wholes_set : (rows rows' : List Row) (obs : List Object) (o : ℕ) (ob : Object) (all : AllEnds) → o < length obs → whole rows' ob ≡ all
    → ((p s : ℕ) → p ≢ o → (bare_at obs p).row ≡ Some s → row_at rows' s ≡ row_at rows s) → wholes rows' (slice_set obs o ob) ≡ slice_set (wholes rows obs) o all
wholes_set rows rows' obs o ob all lo at_o other =
    let new = slice_set obs o ob in let seen = wholes rows obs in
    let in_seen : o < length seen = subst (λ (n : ℕ). o < n) (sym (length-map obs (whole rows))) lo in
    let count = length-map new (whole rows') ∙ length-set obs o ob ∙ sym (length-map obs (whole rows)) ∙ sym (length-set seen o all) in
    ext_get_or no_object (wholes rows' new) (slice_set seen o all) count (λ p l. at_whole rows' new p ∙ elim (cases_eq p o) [
      | inl e ↦
          subst (λ (x : ℕ). whole rows' (bare_at new x) ≡ object_at (slice_set seen o all) x) (sym e)
          (ap (whole rows') (get_or-set_same obs o ob bare lo) ∙ at_o ∙ sym (get_or-set_same seen o all no_object in_seen))
      | inr n ↦
          let b = bare_at obs p in
          ap (whole rows') (get_or-set_other obs o p ob bare n) ∙ ap (with_members b) (members_same rows rows' b.row (λ s e. other p s n e)) ∙ sym (at_whole rows obs p) ∙ sym (get_or-set_other seen o p all no_object n)
    ])
