-- What one more entry prints.
use Rattle.std.proofs.Common.{◌≡◌, ℕ, ◌+◌, ◌<◌, List, [], ◌∷◌, ◌++◌, length, take, get_or, ap, sym, refl, ◌∙◌, append_assoc, append-nil}
use Rattle.std.proofs.lemmas.List.{take_more}
use Rattle.uc_entry.specs.declared.entry.Entry.{Entry}
use Rattle.uc_acts.specs.Journal.{Journal}
use Rattle.uc_acts.specs.Texts.{printed, printed_by}

pub printed-append : (texts : List (List ℕ)) (i j : Journal) → printed texts (i ++ j) ≡ printed texts i ++ printed texts j
printed-append texts [] j = refl
printed-append texts (e ∷ i) j =
    ap (λ l. printed_by texts e.kind e ++ l) (printed-append texts i j) ∙ sym (append_assoc (printed_by texts e.kind e) (printed texts i) (printed texts j))

pub printed_more : (texts : List (List ℕ)) (j : Journal) (i : ℕ) (d : Entry) → i < length j → printed texts (take (i + 1) j) ≡ printed texts (take i j) ++ printed_by texts (get_or j i d).kind (get_or j i d)
printed_more texts j i d h =
    ap (printed texts) (take_more j i d h) ∙ printed-append texts (take i j) (get_or j i d ∷ []) ∙ ap (λ l. printed texts (take i j) ++ l) (append-nil _)
