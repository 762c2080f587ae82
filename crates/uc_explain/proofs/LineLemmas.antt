-- The lines of a journal, entry by entry.
use Rattle.std.proofs.Common.{◌≡◌, ℕ, zero, suc, ◌==◌, ◌+◌, ◌<◌, ◌≤◌, true, false, List, [], ◌∷◌, ◌++◌, length, get_or, take, drop, refl, sym, ap, ◌∙◌, arith, append-nil, append_assoc, add-one}
use Rattle.std.specs.List.{flat_map}
use Rattle.std.proofs.lemmas.Grind.{flat_map-append}
use Rattle.std.proofs.lemmas.List.{take_more, take_all, length-take-le}
use Rattle.std.proofs.Math.Seq.{drop-cons}
use Rattle.uc_entry.specs.declared.entry.Entry.{Entry}
use Rattle.uc_acts.specs.Journal.{Journal}
use Rattle.uc_explain.specs.Shown.{Shown, shown, is_same}
use Rattle.uc_explain.specs.Steps.{after, nothing}
use Rattle.uc_explain.specs.Explained.{parted, line_unless, lines_behind, explained}
use Rattle.uc_explain.proofs.SameLemmas.{same_self}
use Rattle.uc_explain.proofs.StepLemmas.{shown_same, shown_other, shown_nothing}

-- how far the explanation has come: the text, and what stood at the object before the last change and stands there now
pub record HasExplained (o k : ℕ) (j : Journal) (text : List ℕ) (before now : Shown) : Type 0 where
  pub text_is : text ++ lines_behind o (take k j) (drop k j) ≡ explained o j
  pub before_is : before ≡ shown o (take k j)
  pub now_is : now ≡ shown o (take k j)

pub begun_as : (o : ℕ) (j : Journal) (text : List ℕ) (before now : Shown) → text ≡ [] → before ≡ nothing → now ≡ nothing → HasExplained o 0 j text before now
begun_as o j text before now t b n = record {
  text_is = ap (λ l. l ++ lines_behind o [] j) t;
  before_is = b ∙ sym (shown_nothing o);
  now_is = n ∙ sym (shown_nothing o);
}

behind : (o k : ℕ) (j : Journal) (d : Entry) → k < length j → lines_behind o (take k j) (drop k j) ≡ line_unless (is_same (shown o (take k j)) (shown o (take (k + 1) j))) k (shown o (take (k + 1) j)) ++ lines_behind o (take (k + 1) j) (drop (k + 1) j)
behind o k j d lt =
    let here = drop-cons j k d lt in
    let more = sym (take_more j k d lt) in
    let long = length-take-le k j (omega (arith, lt)) in
    ap (lines_behind o (take k j)) (here ∙ ap (λ n. get_or j k d ∷ drop n j) (sym (add-one k)))
    ∙ ap (λ l. line_unless (is_same (shown o (take k j)) (shown o l)) (length (take k j)) (shown o l) ++ lines_behind o l (drop (k + 1) j)) more
    ∙ ap (λ n. line_unless (is_same (shown o (take k j)) (shown o (take (k + 1) j))) n (shown o (take (k + 1) j)) ++ lines_behind o (take (k + 1) j) (drop (k + 1) j)) long

-- an entry of another object
pub passed : (o k : ℕ) (j : Journal) (text more : List ℕ) (before now b n : Shown) (d : Entry) → k < length j → ((get_or j k d).object == o) ≡ false → HasExplained o k j text before now → more ≡ text → b ≡ before → n ≡ now → HasExplained o (k + 1) j more b n
passed o k j text more before now b n d lt other h t f g =
    let same : shown o (take (k + 1) j) ≡ shown o (take k j) = ap (shown o) (take_more j k d lt) ∙ shown_other o (take k j) (get_or j k d) other in
    let none : line_unless (is_same (shown o (take k j)) (shown o (take (k + 1) j))) k (shown o (take (k + 1) j)) ≡ [] = ap (λ x. line_unless x k (shown o (take (k + 1) j))) (ap (is_same (shown o (take k j))) same ∙ same_self (shown o (take k j))) in
    record {
      text_is = ap (λ l. l ++ lines_behind o (take (k + 1) j) (drop (k + 1) j)) t ∙ sym (ap (λ l. text ++ l) (behind o k j d lt ∙ ap (λ l. l ++ lines_behind o (take (k + 1) j) (drop (k + 1) j)) none)) ∙ h.text_is;
      before_is = f ∙ h.before_is ∙ sym same;
      now_is = g ∙ h.now_is ∙ sym same;
    }

-- one of this object
pub told : (o k : ℕ) (j : Journal) (text more : List ℕ) (before now later b n : Shown) (d : Entry) → k < length j → ((get_or j k d).object == o) ≡ true → HasExplained o k j text before now → later ≡ after (get_or j k d) now → more ≡ text ++ line_unless (is_same before later) k later → b ≡ later → n ≡ later → HasExplained o (k + 1) j more b n
told o k j text more before now later b n d lt here h l m f g =
    let is : shown o (take (k + 1) j) ≡ later = ap (shown o) (take_more j k d lt) ∙ shown_same o (take k j) (get_or j k d) here ∙ ap (after (get_or j k d)) (sym h.now_is) ∙ sym l in
    let rest = lines_behind o (take (k + 1) j) (drop (k + 1) j) in
    let mine : line_unless (is_same (shown o (take k j)) (shown o (take (k + 1) j))) k (shown o (take (k + 1) j)) ≡ line_unless (is_same before later) k later = ap (λ s. line_unless (is_same (shown o (take k j)) s) k s) is ∙ ap (λ s. line_unless (is_same s later) k later) (sym h.before_is) in
    record {
      text_is = ap (λ t. t ++ rest) m ∙ append_assoc text (line_unless (is_same before later) k later) rest ∙ sym (ap (λ t. text ++ t) (behind o k j d lt ∙ ap (λ t. t ++ rest) mine)) ∙ h.text_is;
      before_is = f ∙ sym is;
      now_is = g ∙ sym is;
    }

pub done : (o k : ℕ) (j : Journal) (text : List ℕ) (before now : Shown) → length j ≤ k → HasExplained o k j text before now → text ≡ explained o j
done o k j text before now le h =
    sym (ap (λ l. text ++ l) (ap (lines_behind o (take k j)) (drop_all k j le)) ∙ append-nil text) ∙ h.text_is
  where
    drop_all : (k : ℕ) (j : Journal) → length j ≤ k → drop k j ≡ []
    drop_all zero [] le = refl
    drop_all (suc k) [] le = refl
    drop_all zero (e ∷ j) le = absurd (omega (arith, le))
    drop_all (suc k) (e ∷ j) le = drop_all k j (omega (arith, le))

-- texts

-- one piece more
pub joins : (t₀ y t x u : List ℕ) → t ≡ t₀ ++ y → u ≡ t ++ x → u ≡ t₀ ++ (y ++ x)
joins t₀ y t x u h g = g ∙ ap (λ l. l ++ x) h ∙ append_assoc t₀ y x

-- one more, of what is the same as this
pub joins_as : {B : Type 0} (f : B → List ℕ) (a b : B) (t₀ y t u : List ℕ) → t ≡ t₀ ++ y → u ≡ t ++ f a → a ≡ b → u ≡ t₀ ++ (y ++ f b)
joins_as f a b t₀ y t u h g e = joins t₀ y t (f a) u h g ∙ ap (λ x. t₀ ++ (y ++ f x)) e

pub joins_both : {B C : Type 0} (f : B → C → List ℕ) (a b : B) (c d : C) (t₀ y t u : List ℕ) → t ≡ t₀ ++ y → u ≡ t ++ f a c → a ≡ b → c ≡ d → u ≡ t₀ ++ (y ++ f b d)
joins_both f a b c d t₀ y t u h g e i =
    joins t₀ y t (f a c) u h g ∙ ap (λ x. t₀ ++ (y ++ f x c)) e ∙ ap (λ x. t₀ ++ (y ++ f b x)) i

-- the first item, and the others each behind a space
pub parted_whole : {A : Type 0} (item : A → List ℕ) (x : A) (rest all : List A) (k : ℕ) (t₀ t u : List ℕ) → all ≡ x ∷ rest → length rest ≤ k → t ≡ t₀ ++ item x → u ≡ t ++ flat_map (λ y. 32 ∷ item y) (take k rest) → u ≡ t₀ ++ parted item all
parted_whole item x rest all k t₀ t u is le h g =
    joins t₀ (item x) t (flat_map (λ y. 32 ∷ item y) rest) u h (g ∙ ap (λ l. t ++ flat_map (λ y. 32 ∷ item y) l) (take_all k rest le)) ∙ ap (λ l. t₀ ++ parted item l) (sym is)

-- one item more behind a space
pub item_more : {A : Type 0} (item : A → List ℕ) (xs more : List A) (x : A) (t₀ t u v : List ℕ) → more ≡ xs ++ x ∷ [] → t ≡ t₀ ++ flat_map (λ y. 32 ∷ item y) xs → u ≡ t ++ 32 ∷ [] → v ≡ u ++ item x → v ≡ t₀ ++ flat_map (λ y. 32 ∷ item y) more
item_more item xs more x t₀ t u v is h f g =
    g ∙ ap (λ l. l ++ item x) f ∙ append_assoc t (32 ∷ []) (item x) ∙ ap (λ l. l ++ (32 ∷ item x)) h ∙ append_assoc t₀ (flat_map (λ y. 32 ∷ item y) xs) (32 ∷ item x)
    ∙ ap (λ l. t₀ ++ (flat_map (λ y. 32 ∷ item y) xs ++ l)) (sym (append-nil (32 ∷ item x)))
    ∙ ap (λ l. t₀ ++ l) (sym (flat_map-append (λ y. 32 ∷ item y) xs (x ∷ [])))
    ∙ ap (λ l. t₀ ++ flat_map (λ y. 32 ∷ item y) l) (sym is)
