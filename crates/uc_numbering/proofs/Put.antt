-- What is put behind the statements found so far.
use Rattle.std.proofs.Common.{◌≡◌, ℕ, ◌+◌, ◌<◌, ◌≤◌, List, [], ◌∷◌, ◌++◌, Bor, length, get_or, drop, map, append-nil, append_assoc, ap, sym, ◌∙◌, arith}
use Rattle.std.proofs.lemmas.List.{at_drop_more, at_drop_all, map-append}
use Rattle.uc_tree.specs.Statements.{Stmt}
use Rattle.uc_tree.specs.Gathered.{gathered}
use Rattle.uc_numbering.specs.Flat.{itself}

-- the statements that are borrowed
abbrev pub seen : List (Bor Stmt) → List Stmt
seen ss = map (λ s. s.now) ss

module _ (old new : List (Bor Stmt)) (s : Bor Stmt) (pushed : new ≡ old ++ s ∷ []) where
  behind : seen new ≡ seen old ++ s.now ∷ []
  behind = ap seen pushed ∙ map-append (λ x. x.now) old (s ∷ [])

  -- it holds these
  pub holding : (held all : List Stmt) → gathered itself s.now ≡ s.now ∷ held → all ≡ seen new ++ held → all ≡ seen old ++ gathered itself s.now
  holding held all own put =
      put
      ∙ ap (λ l. l ++ held) behind
      ∙ append_assoc (seen old) (s.now ∷ []) held
      ∙ ap (λ l. seen old ++ l) (sym own)

  -- it holds these in two parts
  pub holding_two : (one two mid all : List Stmt) → gathered itself s.now ≡ s.now ∷ (one ++ two) → mid ≡ seen new ++ one → all ≡ mid ++ two → all ≡ seen old ++ gathered itself s.now
  holding_two one two mid all own first second = holding (one ++ two) all own (second ∙ ap (λ l. l ++ two) first ∙ append_assoc (seen new) one two)

-- one turn more of a loop over a list, and its end

module _ {X A : Type 0} (F : List X → List A) (xs : List X) (i : ℕ) where
  pub turned : (x : X) (piece was now whole : List A) → i < length xs → x ≡ get_or xs i x → F (x ∷ drop (i + 1) xs) ≡ piece ++ F (drop (i + 1) xs) → now ≡ was ++ piece → was ++ F (drop i xs) ≡ whole → now ++ F (drop (i + 1) xs) ≡ whole
  turned x piece was now whole within is step put before =
      let rest = F (drop (i + 1) xs) in
      ap (λ l. l ++ rest) put
      ∙ append_assoc was piece rest
      ∙ ap (λ l. was ++ l) (sym (at_drop_more F xs i x within ∙ ap (λ y. F (y ∷ drop (i + 1) xs)) (sym is) ∙ step))
      ∙ before

  pub ended : (was whole : List A) → F [] ≡ [] → length xs ≤ i → was ++ F (drop i xs) ≡ whole → was ≡ whole
  ended was whole none past before = sym (append-nil was) ∙ ap (λ l. was ++ l) (sym (at_drop_all F xs i past ∙ none)) ∙ before

-- the size of what is left falls
pub falls : {X : Type 0} (size : List X → ℕ) (xs : List X) (i : ℕ) (x : X) (n : ℕ) → i < length xs → x ≡ get_or xs i x → size (drop (i + 1) xs) ≤ size (x ∷ drop (i + 1) xs) → size (drop i xs) ≤ n → size (drop (i + 1) xs) ≤ n
falls size xs i x n within is less before =
    let left : size (drop i xs) ≡ size (x ∷ drop (i + 1) xs) = at_drop_more size xs i x within ∙ ap (λ y. size (y ∷ drop (i + 1) xs)) (sym is) in
    omega (arith, left, less, before)

-- one more behind a list, as each is seen
pub pushed : {A B : Type 0} (f : A → B) (old new : List A) (x : A) → new ≡ old ++ x ∷ [] → map f new ≡ map f old ++ f x ∷ []
pushed f old new x e = ap (λ l. map f l) e ∙ map-append f old (x ∷ [])
