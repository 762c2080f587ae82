-- The entries that are made, beside those of a journal.
use Rattle.std.proofs.Common.{◌≡◌, ℕ, zero, suc, ◌+◌, ◌<◌, ◌≤◌, Bool, List, [], ◌∷◌, ◌++◌, refl, sym, ap, ◌∙◌, arith, length, take, drop, get_or, append_assoc, length-append, add-one}
use Rattle.std.proofs.Math.Seq.{drop-cons}
use Rattle.std.proofs.lemmas.List.{take-append-drop, length-take-le}
use Rattle.uc_entry.specs.declared.entry.Entry.{Entry}
use Rattle.uc_judge.specs.Runs.{lined, written}
use Rattle.uc_judge.specs.Compared.{GoesAs, TurnsOff}
use Rattle.uc_judge.proofs.Cuts.{first_of, written_append, written_length}
use Rattle.uc_judge.proofs.Fitted.{drop_of}

splits : (a : List Entry) (i : ℕ) (d : Entry) → i < length a → a ≡ take i a ++ (get_or a i d ∷ drop (suc i) a)
splits a i d lt = sym (take-append-drop i a) ∙ ap (λ l. take i a ++ l) (drop-cons a i d lt)

pub takes_more : (a : List Entry) (i : ℕ) (d : Entry) → i < length a → take (suc i) a ≡ take i a ++ get_or a i d ∷ []
takes_more [] i d lt = absurd (omega (arith, lt))
takes_more (e ∷ a) zero d lt = refl
takes_more (e ∷ a) (suc i) d lt = ap (λ l. e ∷ l) (takes_more a i d (omega (arith, lt)))

pub takes_all : (a : List Entry) (i : ℕ) → length a ≤ i → take i a ≡ a
takes_all [] zero le = refl
takes_all [] (suc i) le = refl
takes_all (e ∷ a) zero le = absurd (omega (arith, le))
takes_all (e ∷ a) (suc i) le = ap (λ l. e ∷ l) (takes_all a i (omega (arith, le)))

module _ (lines : Bool) (a z : List Entry) (i : ℕ) (d : Entry) where
  size : i < length a → length (written lines (take i a)) ≡ i
  size lt = written_length lines (take i a) ∙ length-take-le i a (omega (arith, lt))

  next : i < length a → i < length z → (g : GoesAs lines (take i a) z) → g.rest ≡ get_or z i d ∷ drop (suc i) z
  next lt le g =
      sym (drop_of (written lines (take i a)) g.rest i (sym (size lt))) ∙ ap (drop i) (sym g.is) ∙ drop-cons z i d le

  -- one entry more
  pub goes_more : i < length a → i < length z → GoesAs lines (take i a) z → get_or z i d ≡ lined lines (get_or a i d) → GoesAs lines (take (i + 1) a) z
  goes_more lt le g h = record {
    rest = drop (suc i) z;
    is = g.is ∙ ap (λ l. written lines (take i a) ++ l) (next lt le g ∙ ap (λ e. e ∷ drop (suc i) z) h) ∙ sym (append_assoc (written lines (take i a)) (lined lines (get_or a i d) ∷ []) (drop (suc i) z)) ∙ ap (λ l. l ++ drop (suc i) z) (sym (written_append lines (take i a) (get_or a i d ∷ [])) ∙ ap (written lines) (sym (takes_more a i d lt) ∙ ap (λ k. take k a) (sym (add-one i))));
  }

  -- no entry more
  pub turns : i < length a → GoesAs lines (take i a) z → (i < length z → get_or z i d ≡ lined lines (get_or a i d) → ⊥) → TurnsOff lines a z i
  turns lt g h = record {
    before = written lines (take i a);
    here = lined lines (get_or a i d);
    later = written lines (drop (suc i) a);
    made = ap (written lines) (splits a i d lt) ∙ written_append lines (take i a) (get_or a i d ∷ drop (suc i) a);
    rest = g.rest;
    is = g.is;
    off = λ y k.
        let l = ap length g.is in
        let m = length-append (written lines (take i a)) g.rest in
        let n = ap length k in
        let s = size lt in
        let le : i < length z = omega (arith, l, m, n, s) in
        h le (ap first_of (sym (next lt le g) ∙ k));
    place = size lt;
  }

-- all entries
pub goes_all : (lines : Bool) (a z : List Entry) (i : ℕ) → length a ≤ i → GoesAs lines (take i a) z → GoesAs lines a z
goes_all lines a z i le g = record { rest = g.rest; is = g.is ∙ ap (λ l. written lines l ++ g.rest) (takes_all a i le) }
