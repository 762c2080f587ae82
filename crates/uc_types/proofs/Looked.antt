-- What is looked up of the members of a class by its place.
use Rattle.std.proofs.Common.{◌≡◌, ℕ, ◌≤◌, List, [], Option, Some, None, option_map, option_and_then, unwrap_or, slice_get, length, length-take, map, take, refl, ap, sym, ◌∙◌, arith}
use Rattle.std.proofs.lemmas.List.{length-map}
use Rattle.std.proofs.lemmas.Option.{slice_get-map}
use Rattle.uc_tree.specs.declared.kinds.Param.{Param}
use Rattle.uc_tree.specs.declared.limits.TheConstants.{MEMBERS}
use Rattle.uc_tree.specs.Cells.{classes_of}
use Rattle.uc_tree.specs.Numbering.{mutex_members}
use Rattle.uc_tree.specs.Programs.{Class, Program}
use Rattle.uc_rules.specs.Names.{constructor_among, constructor_params, params_in}
use Rattle.uc_rules.specs.Sorts.{class_at}
use Rattle.uc_types.specs.Members.{built_with, numbered_in}

built_case : (o : Option Class) → unwrap_or (option_map built_with o) [] ≡ params_in (option_and_then (λ c. constructor_among c.members) o)
built_case None = refl
built_case (Some c) = refl

pub params_are : {A : Type 0} (f : A → List Param) (p : Program) (all : List A) (i : ℕ) → map f all ≡ map built_with (classes_of p.items) → unwrap_or (option_map f (slice_get all i)) [] ≡ constructor_params p i
params_are f p all i h =
    ap (λ o. unwrap_or o []) (sym (slice_get-map f all i))
    ∙ ap (λ l. unwrap_or (slice_get l i) []) h
    ∙ ap (λ o. unwrap_or o []) (slice_get-map built_with (classes_of p.items) i)
    ∙ built_case (slice_get (classes_of p.items) i)

named_are : {A : Type 0} (f : A → List (List ℕ)) (p : Program) (all : List A) (i : ℕ) → map f all ≡ map numbered_in (classes_of p.items) → unwrap_or (option_map f (slice_get all i)) [] ≡ unwrap_or (option_map numbered_in (slice_get (classes_of p.items) i)) []
named_are f p all i h =
    ap (λ o. unwrap_or o []) (sym (slice_get-map f all i))
    ∙ ap (λ l. unwrap_or (slice_get l i) []) h
    ∙ ap (λ o. unwrap_or o []) (slice_get-map numbered_in (classes_of p.items) i)

pub names_are : {A : Type 0} (f : A → List (List ℕ)) (p : Program) (all : List A) (i : ℕ) (c : Class) → map f all ≡ map numbered_in (classes_of p.items) → class_at p i ≡ Some c → unwrap_or (option_map f (slice_get all i)) [] ≡ take MEMBERS (mutex_members c)
names_are f p all i c h at = named_are f p all i h ∙ ap (λ o. unwrap_or (option_map numbered_in o) []) at

few_case : (o : Option Class) → length (unwrap_or (option_map numbered_in o) []) ≤ MEMBERS
few_case None = omega arith
few_case (Some c) = let taken = length-take MEMBERS (mutex_members c) in omega (arith, taken)

pub names_few : {A B : Type 0} (f : A → List (List ℕ)) (g : B → List ℕ) (p : Program) (all : List A) (i : ℕ) (ns : List B) → map f all ≡ map numbered_in (classes_of p.items) → map g ns ≡ unwrap_or (option_map f (slice_get all i)) [] → length ns ≤ MEMBERS
names_few f g p all i ns h is =
    let lengths : length ns ≡ length (unwrap_or (option_map numbered_in (slice_get (classes_of p.items) i)) []) = sym (length-map ns g) ∙ ap length (is ∙ named_are f p all i h) in
    let bound = few_case (slice_get (classes_of p.items) i) in
    omega (arith, lengths, bound)
