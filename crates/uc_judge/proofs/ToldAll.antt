-- What the tasks are told by entries, one after the other.
use Rattle.std.proofs.Common.{◌≡◌, ℕ, suc, ◌+◌, ◌<◌, List, [], ◌∷◌, ◌++◌, sym, ap, ◌∙◌, length, take, get_or, append-nil, add-one}
use Rattle.std.specs.List.{fold, flat_map}
use Rattle.std.proofs.lemmas.Grind.{flat_map-append}
use Rattle.std.proofs.lemmas.List.Sums.{fold-append}
use Rattle.uc_tree.specs.Programs.{Site}
use Rattle.uc_entry.specs.declared.entry.Entry.{Entry}
use Rattle.uc_judge.specs.Asking.{Telling}
use Rattle.uc_judge.specs.Changes.{changes, told_of}
use Rattle.uc_judge.proofs.Compares.{takes_more}

-- one entry more
pub told_more : {W : Type 0} (told : Telling W) (sites : List Site) (w v x : W) (a : List Entry) (i : ℕ) (d : Entry) → i < length a → v ≡ told_of told sites w (take i a) → x ≡ fold told v (changes sites (get_or a i d).kind (get_or a i d)) → x ≡ told_of told sites w (take (i + 1) a)
told_more told sites w v x a i d lt h g =
    let tells : Entry → List _ = λ e. changes sites e.kind e in
    let e = get_or a i d in
    g ∙ ap (λ u. fold told u (tells e)) h ∙ sym (fold-append told w (flat_map tells (take i a)) (tells e)) ∙ ap (fold told w) (ap (λ l. flat_map tells (take i a) ++ l) (sym (append-nil (tells e))) ∙ sym (flat_map-append tells (take i a) (e ∷ [])) ∙ ap (flat_map tells) (sym (takes_more a i d lt) ∙ ap (λ n. take n a) (sym (add-one i))))
