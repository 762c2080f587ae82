-- The fields of a class have names of their own where the rules are kept.
use Rattle.std.proofs.Common.{◌≡◌, ℕ, ◌+◌, List, [], ◌∷◌, ◌++◌, Bool, true, false, not, ◌||◌, Some, length, map, take, refl, ap, sym, subst, ◌∙◌, arith, append_assoc}
use Rattle.std.specs.Prelude.{slice_get}
use Rattle.std.specs.List.{list_any}
use Rattle.std.proofs.lemmas.Bool.{and_parts}
use Rattle.std.proofs.lemmas.List.{append-nil, length-append, map-append, take_at}
use Rattle.uc_tree.specs.declared.pos.Pos.{Pos}
use Rattle.uc_tree.specs.declared.kinds.Access.{Access}
use Rattle.uc_tree.specs.declared.kinds.Base.{Base}
use Rattle.uc_tree.specs.declared.kinds.MutexMark.{MutexMark}
use Rattle.uc_tree.specs.Names.{same_name}
use Rattle.uc_tree.specs.Statements.{Declarator}
use Rattle.uc_tree.specs.Programs.{MemberForm, FieldsMember, RoutineMember, ProtoMember, Member, Class, Program}
use Rattle.uc_tree.specs.Objects.{ClassField, declared_fields, fields_of, form_fields}
use Rattle.uc_rules.specs.declared.rules.OwnClass.{OwnClass}
use Rattle.uc_rules.specs.Breaks.{breaks_at, breaks_among}
use Rattle.uc_rules.specs.ClassBreaks.{fields_at, form_declares_names, is_new_field, is_new_member, member_fields, members_declare}
use Rattle.uc_rules.specs.ClassBreaks as rules
use Rattle.uc_rules.specs.ProgramVisits.{fields_visits, form_visits, members_visits}
use Rattle.uc_rules.specs.Scopes.{class_around, plain_env}
use Rattle.uc_rules.specs.Names.{place_in}
use Rattle.uc_rules.specs.Visits.{AtBase, AtField, AtMark, maybe_visits}
use Rattle.uc_lower.proofs.Ruled.{among_left, among_right, first_none, rest_none, no_left, holds}
use Rattle.uc_lower.proofs.Distinct.{Fresh}

abbrev pub names_of : List ClassField → List (List ℕ)
names_of fs = map (λ f. f.declarator.name) fs

any_both : (P : List ℕ → Bool) (xs ys : List (List ℕ)) → list_any P xs ≡ false → list_any P ys ≡ false → list_any P (xs ++ ys) ≡ false
any_both P [] ys e f = f
any_both P (x ∷ xs) ys e f = by_case (P x) (λ h. any_both P xs ys h f) e
  where
    by_case : (b : Bool) → (list_any P xs ≡ false → list_any P (xs ++ ys) ≡ false) → (b || list_any P xs) ≡ false → (b || list_any P (xs ++ ys)) ≡ false
    by_case true more h = cc
    by_case false more h = more h

any_left : (P : List ℕ → Bool) (xs ys : List (List ℕ)) → list_any P (xs ++ ys) ≡ false → list_any P xs ≡ false
any_left P [] ys e = refl
any_left P (x ∷ xs) ys e = by_case (P x) (any_left P xs ys) e
  where
    by_case : (b : Bool) → (list_any P (xs ++ ys) ≡ false → list_any P xs ≡ false) → (b || list_any P (xs ++ ys)) ≡ false → (b || list_any P xs) ≡ false
    by_case true more h = cc
    by_case false more h = more h

any_right : (P : List ℕ → Bool) (xs ys : List (List ℕ)) → list_any P (xs ++ ys) ≡ false → list_any P ys ≡ false
any_right P [] ys e = e
any_right P (x ∷ xs) ys e = by_case (P x) (any_right P xs ys) e
  where
    by_case : (b : Bool) → (list_any P (xs ++ ys) ≡ false → list_any P ys ≡ false) → (b || list_any P (xs ++ ys)) ≡ false → list_any P ys ≡ false
    by_case true more h = cc
    by_case false more h = more h

any_names : (P : List ℕ → Bool) (ds : List Declarator) → list_any (λ (d : Declarator). P d.name) ds ≡ list_any P (map (λ (d : Declarator). d.name) ds)
any_names P [] = refl
any_names P (d ∷ ds) = ap (λ b. P d.name || b) (any_names P ds)

declared_is : (b : Base) (ds : List Declarator) → names_of (declared_fields b ds) ≡ map (λ (d : Declarator). d.name) ds
declared_is b [] = refl
declared_is b (d ∷ ds) = ap (λ ns. d.name ∷ ns) (declared_is b ds)

-- what a class declares has the names of its fields
form_has : (P : List ℕ → Bool) (f : MemberForm) → list_any P (form_declares_names f) ≡ false → list_any P (names_of (form_fields f)) ≡ false
form_has P (FieldsMember at b ds) e = ap (list_any P) (declared_is b ds) ∙ e
form_has P (RoutineMember r) e = refl
form_has P (ProtoMember s) e = refl

fields_have : (P : List ℕ → Bool) (ms : List Member) → list_any P (members_declare ms) ≡ false → list_any P (names_of (fields_of ms)) ≡ false
fields_have P [] e = refl
fields_have P (m ∷ ms) e =
    ap (list_any P) (map-append (λ (f : ClassField). f.declarator.name) (form_fields m.form) (fields_of ms))
    ∙ any_both P (names_of (form_fields m.form)) (names_of (fields_of ms)) (form_has P m.form (any_left P (form_declares_names m.form) (members_declare ms) e)) (fields_have P ms (any_right P (form_declares_names m.form) (members_declare ms) e))

not_true : (b : Bool) → not b ≡ true → b ≡ false
not_true true e = cc
not_true false e = refl

or_left : (a b : Bool) → (a || b) ≡ false → a ≡ false
or_left true b e = cc
or_left false b e = refl

got : (xs : List Member) (m : Member) (ys : List Member) → slice_get (xs ++ m ∷ ys) (length xs) ≡ Some m
got [] m ys = refl
got (x ∷ xs) m ys = got xs m ys

fields_join : (xs ys : List Member) → fields_of (xs ++ ys) ≡ fields_of xs ++ fields_of ys
fields_join [] ys = refl
fields_join (x ∷ xs) ys = ap (λ fs. form_fields x.form ++ fs) (fields_join xs ys) ∙ sym (append_assoc (form_fields x.form) (fields_of xs) (fields_of ys))

abbrev own_names : List Declarator → List (List ℕ)
own_names ds = map (λ (d : Declarator). d.name) ds

module _ (p : Program) (h : OwnClass) (c : Class) where
  module _ (a : Access) (b : Base) (before : List Member) (m : Member) (after : List Member) (at : Pos) (whole : List Declarator) (is : c.members ≡ before ++ m ∷ after) (form : m.form ≡ FieldsMember at b whole) where
    abbrev seen : List Declarator → List (List ℕ)
    seen ds = names_of (fields_of before) ++ own_names ds

    -- a field is none of those before it
    field_new : (taken : List Declarator) (d : Declarator) (ds : List Declarator) → whole ≡ taken ++ d ∷ ds → breaks_at (AtField (plain_env p (class_around h)) c a b d (place_in (length before) (length taken))) ≡ [] → list_any (λ x. same_name x d.name) (seen taken) ≡ false
    field_new taken d ds split e =
        let new : is_new_field c (place_in (length before) (length taken)) (fields_at c (length before)) d.name ≡ true = holds (is_new_field c (place_in (length before) (length taken)) (fields_at c (length before)) d.name) _ _ (no_left _ _ e) in
        let parts = and_parts (is_new_member c (length before) d.name) (not (list_any (λ (x : Declarator). same_name x.name d.name) (take (length taken) (fields_at c (length before))))) new in
        let outer = or_left (list_any (λ x. same_name x d.name) (members_declare (take (length before) c.members))) (rules.is_kept c (length before) d.name) (not_true (list_any (λ x. same_name x d.name) (members_declare (take (length before) c.members)) || rules.is_kept c (length before) d.name) parts.0) in
        let first : take (length before) c.members ≡ before = ap (take (length before)) is ∙ take_at before (m ∷ after) (length before) refl in
        let behind : list_any (λ x. same_name x d.name) (members_declare before) ≡ false = ap (λ ms. list_any (λ x. same_name x d.name) (members_declare ms)) (sym first) ∙ outer in
        let list : fields_at c (length before) ≡ whole = ap (λ ms. member_fields (slice_get ms (length before))) is ∙ ap member_fields (got before m after) ∙ ap rules.form_fields form in
        let mine : take (length taken) (fields_at c (length before)) ≡ taken = ap (take (length taken)) (list ∙ split) ∙ take_at taken (d ∷ ds) (length taken) refl in
        let inner : list_any (λ x. same_name x d.name) (own_names taken) ≡ false = sym (any_names (λ x. same_name x d.name) taken) ∙ ap (λ xs. list_any (λ (x : Declarator). same_name x.name d.name) xs) (sym mine) ∙ not_true (list_any (λ (x : Declarator). same_name x.name d.name) (take (length taken) (fields_at c (length before)))) parts.1 in
        any_both (λ x. same_name x d.name) (names_of (fields_of before)) (own_names taken) (fields_have (λ x. same_name x d.name) before behind) inner

    own_fresh : (taken ds : List Declarator) (rest : List (List ℕ)) → whole ≡ taken ++ ds → breaks_among (fields_visits (plain_env p (class_around h)) c a b (length before) (length taken) ds) ≡ [] → Fresh (seen (taken ++ ds)) rest → Fresh (seen taken) (own_names ds ++ rest)
    own_fresh taken [] rest split e f = subst (λ (xs : List Declarator). Fresh (seen xs) rest) (append-nil taken) f
    own_fresh taken (d ∷ ds) rest split e f =
        let env = plain_env p (class_around h) in
        let place = place_in (length before) (length taken) in
        let own = among_left (maybe_visits env d.len ++ AtField env c a b d place ∷ []) (fields_visits env c a b (length before) (length taken + 1) ds) e in
        let field = first_none (AtField env c a b d place) [] (among_right (maybe_visits env d.len) (AtField env c a b d place ∷ []) own) in
        let later = among_right (maybe_visits env d.len ++ AtField env c a b d place ∷ []) (fields_visits env c a b (length before) (length taken + 1) ds) e in
        let long : length taken + 1 ≡ length (taken ++ d ∷ []) = let l = length-append taken (d ∷ []) in omega (arith, l) in
        let more : seen (taken ++ d ∷ []) ≡ seen taken ++ d.name ∷ [] = ap (λ xs. names_of (fields_of before) ++ xs) (map-append (λ (x : Declarator). x.name) taken (d ∷ [])) ∙ sym (append_assoc (names_of (fields_of before)) (own_names taken) (d.name ∷ [])) in
        let joined : taken ++ d ∷ ds ≡ (taken ++ d ∷ []) ++ ds = sym (append_assoc taken (d ∷ []) ds) in
        let next = own_fresh (taken ++ d ∷ []) ds rest (split ∙ joined) (subst (λ n. breaks_among (fields_visits env c a b (length before) n ds) ≡ []) long later) (subst (λ xs. Fresh (seen xs) rest) joined f) in
        (field_new taken d ds split field, subst (λ xs. Fresh xs (own_names ds ++ rest)) more next)

  form_fresh : (before : List Member) (m : Member) (ms : List Member) (k : MutexMark) (a : Access) → c.members ≡ before ++ m ∷ ms → (f : MemberForm) → m.form ≡ f → breaks_among (form_visits p h c (length before) k a f) ≡ [] → Fresh (names_of (fields_of before) ++ names_of (form_fields f)) (names_of (fields_of ms)) → Fresh (names_of (fields_of before)) (names_of (form_fields f ++ fields_of ms))
  form_fresh before m ms k a is (FieldsMember at b ds) form e r =
      let visits = rest_none (AtBase (plain_env p (class_around h)) at b) (fields_visits (plain_env p (class_around h)) c a b (length before) 0 ds) e in
      let names : names_of (declared_fields b ds) ≡ own_names ds = declared_is b ds in
      let all : names_of (declared_fields b ds ++ fields_of ms) ≡ own_names ds ++ names_of (fields_of ms) = map-append (λ (f : ClassField). f.declarator.name) (declared_fields b ds) (fields_of ms) ∙ ap (λ xs. xs ++ names_of (fields_of ms)) names in
      let behind = subst (λ xs. Fresh (names_of (fields_of before) ++ xs) (names_of (fields_of ms))) names r in
      let own = own_fresh a b before m ms at ds is form [] ds (names_of (fields_of ms)) refl visits behind in
      subst (λ xs. Fresh (names_of (fields_of before)) xs) (sym all) (subst (λ xs. Fresh xs (own_names ds ++ names_of (fields_of ms))) (append-nil (names_of (fields_of before))) own)
  form_fresh before m ms k a is (RoutineMember x) form e r = subst (λ xs. Fresh xs (names_of (fields_of ms))) (append-nil (names_of (fields_of before))) r
  form_fresh before m ms k a is (ProtoMember x) form e r = subst (λ xs. Fresh xs (names_of (fields_of ms))) (append-nil (names_of (fields_of before))) r

  pub all_fresh : (before ms : List Member) → c.members ≡ before ++ ms → breaks_among (members_visits p h c (length before) ms) ≡ [] → Fresh (names_of (fields_of before)) (names_of (fields_of ms))
  all_fresh before [] is e = tt
  all_fresh before (m ∷ ms) is e =
      let mark = AtMark (plain_env p (class_around h)) c m in
      let form = form_visits p h c (length before) m.mark m.access m.form in
      let own = rest_none mark form (among_left (mark ∷ form) (members_visits p h c (length before + 1) ms) e) in
      let later = among_right (mark ∷ form) (members_visits p h c (length before + 1) ms) e in
      let long : length before + 1 ≡ length (before ++ m ∷ []) = let l = length-append before (m ∷ []) in omega (arith, l) in
      let joined : before ++ m ∷ ms ≡ (before ++ m ∷ []) ++ ms = sym (append_assoc before (m ∷ []) ms) in
      let next = all_fresh (before ++ m ∷ []) ms (is ∙ joined) (subst (λ n. breaks_among (members_visits p h c n ms) ≡ []) long later) in
      let names : names_of (fields_of (before ++ m ∷ [])) ≡ names_of (fields_of before) ++ names_of (form_fields m.form) =
      ap names_of (fields_join before (m ∷ []) ∙ ap (λ fs. fields_of before ++ fs) (append-nil (form_fields m.form)))
      ∙ map-append (λ (f : ClassField). f.declarator.name) (fields_of before) (form_fields m.form) in
      form_fresh before m ms m.mark m.access is m.form refl own (subst (λ xs. Fresh xs (names_of (fields_of ms))) names next)
