-- The object of the program's main is of the first task in each run: no entry takes an object from its task.
use Rattle.std.proofs.Common.{◌≡◌, ℕ, ◌==◌, Bool, true, false, List, [], ◌∷◌, ◌++◌, refl, sym, ap, ◌∙◌, append-nil, append_assoc}
use Rattle.std.specs.List.{filter}
use Rattle.std.specs.Option.{option_to_list}
use Rattle.uc_tree.specs.Source.{Source}
use Rattle.uc_entry.specs.declared.entry.Entry.{Entry}
use Rattle.uc_entry.specs.declared.entry.Options.{Options}
use Rattle.uc_acts.specs.Open.{still_open}
use Rattle.uc_acts.specs.Journal.{Journal, begin, entries_at}
use Rattle.uc_acts.specs.Known.{owned, owner}
use Rattle.uc_acts.proofs.OpenLemmas.{still_open_push}
use Rattle.uc_acts.proofs.Seats.{at_push, at_other}
use Rattle.uc_meaning.specs.Runs.{World, Runs, begun, more}
use Rattle.uc_life_laws.proofs.Owned.{one_not_none, owner_begin}

abbrev owners : List Entry → List ℕ
owners j = still_open (λ e. owned e.kind e) (λ e t. false) j

none_kept : (ts x : List ℕ) → filter (λ (t : ℕ). true) ts ++ x ≡ [] → ts ≡ []
none_kept [] x h = refl
none_kept (t ∷ ts) x h = cc

before_entry : (q : ℕ) (j : Journal) (e : Entry) → owner q (j ++ e ∷ []) ≡ [] → owner q j ≡ []
unfolding owner
before_entry q j e h = by (e.object == q) refl
  where
    by : (b : Bool) → (e.object == q) ≡ b → owners (entries_at q j) ≡ []
    by false g = sym (ap owners (at_other q j e g)) ∙ h
    by true g =
        let same : owners (entries_at q (j ++ e ∷ [])) ≡ filter (λ (t : ℕ). true) (owners (entries_at q j)) ++ option_to_list (owned e.kind e) = ap owners (at_push q j e true g) ∙ still_open_push (λ e. owned e.kind e) (λ e t. false) (entries_at q j) e in
        none_kept (owners (entries_at q j)) (option_to_list (owned e.kind e)) (sym same ∙ h)

before_entries : (q : ℕ) (j : Journal) (a : List Entry) → owner q (j ++ a) ≡ [] → owner q j ≡ []
before_entries q j [] h = ap (owner q) (sym (append-nil j)) ∙ h
before_entries q j (e ∷ a) h =
    before_entry q j e (before_entries q (j ++ e ∷ []) a (ap (owner q) (append_assoc j (e ∷ []) a) ∙ h))

pub first_owned : (source : Source) (input : List ℕ) (opts : Options) {j : Journal} {w : World} → Runs source input opts j w → owner 0 j ≡ [] → ⊥
first_owned source input opts begun h = one_not_none 0 (owner 0 (begin opts ∷ [])) (owner_begin opts) h
first_owned source input opts (more {j} {w} {a} r o m) h = first_owned source input opts r (before_entries 0 j a h)
