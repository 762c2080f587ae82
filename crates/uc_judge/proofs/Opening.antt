-- The accepts that are open with one entry more.
use Rattle.std.proofs.Common.{◌≡◌, ℕ, ◌==◌, Bool, true, false, cond, not, List, [], ◌∷◌, ◌++◌, Option, Some, None, refl, sym, ap, ◌∙◌, subst, append-nil, ◌⊎◌, inl, inr}
use Rattle.std.specs.Prelude.{nat_lt, ◌≢◌, unwrap_or}
use Rattle.std.specs.Option.{option_to_list}
use Rattle.std.specs.List.{filter}
use Rattle.std.specs.Ordering.{nat_cmp, is_eq}
use Rattle.std.specs.declared.cmp.Ordering.TheVariants.{Less, Equal, Greater}
use Rattle.std.specs.BTreeMap.{is_at}
use Rattle.std.proofs.lemmas.Bool.{eq-eqb, ne_eqb, cases_eq}
use Rattle.uc_entry.specs.declared.entry.Entry.{Entry}
use Rattle.uc_entry.specs.declared.entry.EntryKind.{EntryKind}
use Rattle.uc_entry.specs.declared.entry.EntryKind.TheVariants as kind
use Rattle.uc_acts.specs.Journal.{Journal, holds, where_true}
use Rattle.uc_acts.specs.Doors.{open_at}
use Rattle.uc_acts.proofs.Seats.{open_after, open_same, open_other}
use Rattle.uc_acts.proofs.OpenLemmas.{filter_true}
use Rattle.uc_judge.specs.declared.accepts.OpenAccept.{OpenAccept}
use Rattle.uc_judge.specs.Opened.{accept_of, opened_of, opened_by}

none_kept : {A : Type 0} (xs : List A) → filter (λ x. false) xs ≡ []
none_kept [] = refl
none_kept (x ∷ xs) = none_kept xs

stays : (xs : List Entry) → opened_of (filter (λ x. true) xs ++ []) ≡ opened_of xs
stays xs = ap opened_of (append-nil (filter (λ x. true) xs) ∙ filter_true (λ x. true) xs (λ x. refl))

opened_step : (k : EntryKind) (e : Entry) (xs : List Entry) → opened_of (open_after k e xs) ≡ opened_by k e (opened_of xs)
opened_step kind.Accept e xs = by (holds 0 e.d)
  where
    by : (b : Bool) → opened_of (filter (λ x. not b) xs ++ option_to_list (where_true b e)) ≡ cond b (Some (accept_of e)) (opened_of xs)
    by true = ap (λ l. opened_of (l ++ e ∷ [])) (none_kept xs)
    by false = stays xs
opened_step kind.Admit e xs = ap (λ l. opened_of (l ++ [])) (none_kept xs)
opened_step k e xs = stays xs

pub not_at : (k q : ℕ) → (k ≡ q → ⊥) → is_at (nat_cmp k) q ≡ false
not_at k q n = by (nat_lt k q) (k == q) (ne_eqb k q n)
  where
    by : (b e : Bool) → e ≡ false → is_eq (cond b Less (cond e Equal Greater)) ≡ false
    by true e h = refl
    by false true h = cc
    by false false h = refl

pub opened_more : (f g : ℕ → Option (Option OpenAccept)) (before behind : Option OpenAccept) (e : Entry) (j : Journal) → ((o : ℕ) → unwrap_or (f o) None ≡ opened_of (open_at o j)) → before ≡ unwrap_or (f e.object) None → behind ≡ opened_by e.kind e before → g e.object ≡ Some behind → ((q : ℕ) → is_at (nat_cmp e.object) q ≡ false → g q ≡ f q) → (o : ℕ) → unwrap_or (g o) None ≡ opened_of (open_at o (j ++ e ∷ []))
opened_more f g before behind e j h was is here there o = by (cases_eq e.object o)
  where
    by : ((e.object ≡ o) ⊎ (e.object ≢ o)) → unwrap_or (g o) None ≡ opened_of (open_at o (j ++ e ∷ []))
    by (inl q) =
        subst (λ x. unwrap_or (g x) None ≡ opened_of (open_at x (j ++ e ∷ []))) q
        (ap (λ x. unwrap_or x None) here ∙ is ∙ ap (opened_by e.kind e) (was ∙ h e.object) ∙ sym (opened_step e.kind e (open_at e.object j)) ∙ ap opened_of (sym (open_same e.object j e (eq-eqb e.object e.object refl))))
    by (inr n) =
        ap (λ x. unwrap_or x None) (there o (not_at e.object o n)) ∙ h o ∙ ap opened_of (sym (open_other o j e (ne_eqb e.object o n)))
