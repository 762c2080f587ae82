-- Where a piece is first nested too deep.
use Rattle.std.specs.Prelude.{◌≡◌, ℕ, zero, suc, ◌+◌, List, ◌∷◌, ◌++◌, Some, ◌⊎◌}
use Rattle.uc_tree.specs.declared.token.Token.{Token}
use Rattle.uc_grammar.specs.Names.{Name}
use Rattle.uc_grammar.specs.Spell.{kind_at, pos_at, Begins, Run, ListRun}
use Rattle.uc_grammar.specs.Form.{Form, nothing, empty, skip, expect, token_or, look, here, bind, apply, many, listed, inside, Inner, Spells}
use Rattle.uc_grammar.specs.Grammar.{form_of, inner}

-- how that is in what stands one level deeper
abbrev pub Firsts : Type 1
Firsts = (A : Type 0) → Name A → List Token → ℕ → ℕ → A → ℕ → Type 0

-- The tokens from here to there are the piece v, spelled with j for what stands one level deeper. Read from left to right,
-- all that stands before token k is also spelled with i, which allows fewer levels, and at token k a piece begins that
-- stands deeper than i allows.
abbrev pub FirstDeep : {A : Type 0} → Inner → Inner → Firsts → Form A → List Token → ℕ → ℕ → A → ℕ → Type 0
FirstDeep i j o nothing ts from to v k = ⊥
FirstDeep i j o (empty x) ts from to v k = ⊥
FirstDeep i j o (skip g) ts from to v k = FirstDeep i j o g ts (from + 1) to v k
FirstDeep i j o (expect t g) ts from to v k = (kind_at ts from ≡ Some t) × FirstDeep i j o g ts (from + 1) to v k
FirstDeep i j o (token_or t g h) ts from to v k = ((kind_at ts from ≡ Some t) × FirstDeep i j o g ts (from + 1) to v k) ⊎ ((kind_at ts from ≡ Some t → ⊥) × FirstDeep i j o h ts from to v k)
FirstDeep i j o (look h) ts from to v k = FirstDeep i j o (h (kind_at ts from)) ts from to v k
FirstDeep i j o (here h) ts from to v k = FirstDeep i j o (h (pos_at ts from)) ts from to v k
FirstDeep i j o (bind {A = B} g h) ts from to v k = (m : ℕ) × (b : B) × Spells j g ts from m b × Spells j (h b) ts m to v × (FirstDeep i j o g ts from m b k ⊎ (Spells i g ts from m b × FirstDeep i j o (h b) ts m to v k))
FirstDeep i j o (apply {A = B} f g) ts from to v k = (b : B) × (v ≡ f b) × FirstDeep i j o g ts from to b k
FirstDeep i j o (many {A = B} p g) ts from to v k = (m l : ℕ) × (xs : List B) × (x : B) × (ys : List B) × (v ≡ xs ++ x ∷ ys) × Run p (Spells i g) ts from m xs × Begins p ts m × Spells j g ts m l x × Run p (Spells j g) ts l to ys × FirstDeep i j o g ts m l x k
FirstDeep i j o (listed {A = B} g p h) ts from to v k = ((m : ℕ) × (x : B) × (ys : List B) × (v ≡ x ∷ ys) × Spells j g ts from m x × Run p (Spells j h) ts m to ys × FirstDeep i j o g ts from m x k) ⊎ ((m l : ℕ) × (xs : List B) × (x : B) × (ys : List B) × (v ≡ xs ++ x ∷ ys) × ListRun (Spells i g) p (Spells i h) ts from m xs × Begins p ts m × Spells j h ts m l x × Run p (Spells j h) ts l to ys × FirstDeep i j o h ts m l x k)
FirstDeep {A} i j o (inside x) ts from to v k = o A x ts from to v k

-- With m levels in place of n: the piece itself is too deep where there is no level left, and else something in it.
unfoldable pub first_deep : ℕ → ℕ → Firsts
first_deep m zero A x ts from to v k = ⊥
first_deep zero (suc n) A x ts from to v k = k ≡ from
first_deep (suc m) (suc n) A x ts from to v k = FirstDeep (inner m) (inner n) (first_deep m n) (form_of x) ts from to v k
