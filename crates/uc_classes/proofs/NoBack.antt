-- No field of a class that has not itself in its fields leads back to it.
use Rattle.std.proofs.Common.{◌≡◌, ℕ, zero, suc, List, [], ◌∷◌, Bool, true, false, Option, Some, ◌||◌, length, map, refl, ap, sym, ◌∙◌}
use Rattle.std.specs.Prelude.{slice_get, ℤ}
use Rattle.std.specs.List.{list_any}
use Rattle.std.proofs.lemmas.List.Folds.{list_any-append}
use Rattle.uc_tree.specs.declared.kinds.Base.{Base}
use Rattle.uc_tree.specs.declared.rows.FieldLayout.{FieldLayout}
use Rattle.uc_tree.specs.Rows.{ClassLayout, row_at, leads, reaches}
use Rattle.uc_tree.specs.Constants.{constants_of}
use Rattle.uc_tree.specs.Cells.{classes_of, rows_of, row_of, held_by, member_held, members_held, seen_in}
use Rattle.uc_tree.specs.Statements.{Declarator}
use Rattle.uc_tree.specs.Programs.{Class, Member, Program}
use Rattle.uc_rules.specs.Sorts.{class_at}
use Rattle.uc_rules.specs.ClassBreaks.{fields_at, form_fields, leads_back, member_fields}
use Rattle.uc_classes.specs.Circling.{AreFields}

or_left : (a b : Bool) → a ≡ true → (a || b) ≡ true
or_left true b e = refl
or_left false b e = absurd (cc)

or_right : (a b : Bool) → b ≡ true → (a || b) ≡ true
or_right true b e = refl
or_right false b e = e

any_at : {A : Type 0} (f : A → FieldLayout) (q : FieldLayout → Bool) (xs : List A) (i : ℕ) (x : A) → slice_get xs i ≡ Some x → q (f x) ≡ true → list_any q (map f xs) ≡ true
any_at f q [] zero x h e = absurd (cc)
any_at f q [] (suc i) x h e = absurd (cc)
any_at f q (y ∷ xs) zero x h e = let same : y ≡ x = cc in or_left (q (f y)) (list_any q (map f xs)) (ap (λ z. q (f z)) same ∙ e)
any_at f q (y ∷ xs) (suc i) x h e = or_right (q (f y)) (list_any q (map f xs)) (any_at f q xs i x h e)

member_any : (cs : List Class) (named : List ℕ → Option ℤ) (q : FieldLayout → Bool) (ms : List Member) (j : ℕ) (m : Member) → slice_get ms j ≡ Some m → list_any q (member_held cs named m.form) ≡ true → list_any q (members_held cs named ms) ≡ true
member_any cs named q [] zero m h e = absurd (cc)
member_any cs named q [] (suc j) m h e = absurd (cc)
member_any cs named q (x ∷ ms) zero m h e =
    let same : x ≡ m = cc in
    list_any-append q (member_held cs named x.form) (members_held cs named ms) ∙ or_left (list_any q (member_held cs named x.form)) (list_any q (members_held cs named ms)) (ap (λ y. list_any q (member_held cs named y.form)) same ∙ e)
member_any cs named q (x ∷ ms) (suc j) m h e =
    list_any-append q (member_held cs named x.form) (members_held cs named ms) ∙ or_right (list_any q (member_held cs named x.form)) (list_any q (members_held cs named ms)) (member_any cs named q ms j m h e)

row_there : (f : Class → ClassLayout) (cs : List Class) (k : ℕ) (c : Class) → slice_get cs k ≡ Some c → row_at (map f cs) k ≡ f c
row_there f [] zero c h = absurd (cc)
row_there f [] (suc k) c h = absurd (cc)
row_there f (x ∷ cs) zero c h = let same : x ≡ c = cc in ap f same
row_there f (x ∷ cs) (suc k) c h = row_there f cs k c h

not_true : (b : Bool) → (b ≡ true → ⊥) → b ≡ false
not_true true h = absurd (h refl)
not_true false h = refl

back_reaches : (p : Program) (k : ℕ) (c : Class) (j i : ℕ) (b : Base) (ds : List Declarator) (d : Declarator) → class_at p k ≡ Some c → AreFields c j b ds → slice_get ds i ≡ Some d → leads_back p k b d ≡ true → reaches (suc (length (rows_of p))) (rows_of p) k k ≡ true
unfolding reaches
back_reaches p k c j i b ds d at f there e =
    let n = length (rows_of p) in
    let q = leads (reaches n (rows_of p) k) k in
    let named = seen_in (constants_of p.items) c in
    let cs = classes_of p.items in
    let here : list_any q (map (held_by cs named b) ds) ≡ true = any_at (held_by cs named b) q ds i d there e in
    let form : list_any q (member_held cs named f.member.form) ≡ true = ap (λ x. list_any q (member_held cs named x)) f.form ∙ here in
    ap (λ r. list_any q r.held) (row_there (row_of cs (constants_of p.items)) cs k c at) ∙ member_any cs named q c.members j f.member f.there form

pub no_back : (p : Program) (k : ℕ) (c : Class) (j i : ℕ) (b : Base) (ds : List Declarator) (d : Declarator) → class_at p k ≡ Some c → AreFields c j b ds → slice_get ds i ≡ Some d → ((steps : ℕ) → reaches steps (rows_of p) k k ≡ false) → leads_back p k b d ≡ false
no_back p k c j i b ds d at f there never = not_true (leads_back p k b d) (λ e. let r : reaches (suc (length (rows_of p))) (rows_of p) k k ≡ true = back_reaches p k c j i b ds d at f there e in let s : reaches (suc (length (rows_of p))) (rows_of p) k k ≡ false = never (suc (length (rows_of p))) in absurd (cc))

pub fields_are : (c : Class) (j : ℕ) (b : Base) (ds : List Declarator) → AreFields c j b ds → ds ≡ fields_at c j
fields_are c j b ds f = sym (ap member_fields f.there ∙ ap form_fields f.form)
