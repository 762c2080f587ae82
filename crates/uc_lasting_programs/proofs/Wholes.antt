-- What builds and destroys objects is told by its role: no other routine is left as a whole.
use Rattle.std.proofs.Common.{◌≡◌, ℕ, zero, suc, ◌+◌, ◌⊎◌, inl, inr, ◌++◌, map, Bool, true, false, List, [], ◌∷◌, length, Option, Some, None, refl, sym, subst}
use Rattle.std.specs.Prelude.{slice_get, not, nat_eq, ◌&&◌, is_some, if◌then◌else◌}
use Rattle.uc_tree.specs.declared.kinds.Role.{Role}
use Rattle.uc_tree.specs.declared.kinds.Role.TheVariants as role
use Rattle.uc_tree.specs.Cells.{classes_of}
use Rattle.uc_tree.specs.Gathered.{gathered_all}
use Rattle.uc_tree.specs.Numbering.{Defined, is_event, is_mutex, is_plain, main_name, member_number, routines_of, own_texts, own_sites}
use Rattle.uc_tree.specs.Objects.{class_at, class_height, Unwritten, unwritten_by, unwritten_at, unwritten_of_height, unwritten_up_to, unwritten_of, written_at}
use Rattle.uc_tree.specs.Programs as whole
use Rattle.uc_tree.specs.Programs.{Program}
use Rattle.uc_tree.specs.Names.{same_name}
use Rattle.uc_resolve.specs.Resolve.{place_by}
use Rattle.uc_rules.specs.Names.{member_named}
use Rattle.uc_typing.specs.Typing.{Inward, Apart, Enters, Makes}
use Rattle.uc_sound.specs.Tables.{sig_or_none, of_kind, inward_by, role_inward, helps_in, inward_in, inward_at, written_sigs, unwritten_sigs, table_of}
use Rattle.uc_name_laws.proofs.Homes.{no_both}
use Rattle.uc_putting_laws.specs.PuttingLaws.{is_special, special_of}

-- routines that nobody wrote build or destroy
abbrev AllSpecial : List Unwritten → Type 0
AllSpecial [] = Unit {0}
AllSpecial (u ∷ us) = (is_special (Some u.role) ≡ true) × AllSpecial us

both : (us vs : List Unwritten) → AllSpecial us → AllSpecial vs → AllSpecial (us ++ vs)
both [] vs h k = k
both (u ∷ us) vs h k = (h.0, both us vs h.1 k)

special_by : (o : Option ℕ) (i : ℕ) (r : Role) → is_special (Some r) ≡ true → AllSpecial (unwritten_by o i r)
special_by None i r h = (h, tt)
special_by (Some n) i r h = tt

module _ (p : Program) where
  special_at : (i : ℕ) → AllSpecial (unwritten_at p i)
  special_at i =
      both (unwritten_by (written_at p i role.Constructor) i role.Constructor) (unwritten_by (written_at p i role.Destructor) i role.Destructor) (special_by (written_at p i role.Constructor) i role.Constructor refl) (special_by (written_at p i role.Destructor) i role.Destructor refl)

  of_height : (h : ℕ) (cs : List whole.Class) (i : ℕ) → AllSpecial (unwritten_of_height p h cs i)
  of_height h [] i = tt
  of_height h (c ∷ cs) i =
      both (if not (is_event c.kind) && nat_eq (class_height p i) h then unwritten_at p i else []) (unwritten_of_height p h cs (i + 1)) (by (not (is_event c.kind) && nat_eq (class_height p i) h)) (of_height h cs (i + 1))
    where
      by : (b : Bool) → AllSpecial (if b then unwritten_at p i else [])
      by true = special_at i
      by false = tt

  up_to : (h : ℕ) → AllSpecial (unwritten_up_to p h)
  up_to zero = of_height zero (classes_of p.items) 0
  up_to (suc h) = both (unwritten_of_height p (suc h) (classes_of p.items) 0) (unwritten_up_to p h) (of_height (suc h) (classes_of p.items) 0) (up_to h)

  plain_role : (r : Role) → is_special (Some r) ≡ false → not (is_plain r) ≡ false
  plain_role role.Plain e = refl
  plain_role role.Constructor e = no_both true refl e
  plain_role role.Destructor e = no_both true refl e

  unwritten : (us : List Unwritten) (r : ℕ) → AllSpecial us → is_special (slice_get (map (λ (u : Unwritten). u.role) us) r) ≡ false → (sig_or_none (slice_get (unwritten_sigs p us) r)).whole ≡ false
  unwritten [] r a e = refl
  unwritten (u ∷ us) zero a e = no_both (is_special (Some u.role)) a.0 e
  unwritten (u ∷ us) (suc r) a e = unwritten us r a.1 e

  written : (ds : List Defined) (number texts sites : ℕ) (us : List Unwritten) (r : ℕ) → AllSpecial us → is_special (slice_get (map (λ (d : Defined). d.routine.sig.role) ds ++ map (λ (u : Unwritten). u.role) us) r) ≡ false → (sig_or_none (slice_get (written_sigs p ds number texts sites ++ unwritten_sigs p us) r)).whole ≡ false
  written [] number texts sites us r a e = unwritten us r a e
  written (d ∷ ds) number texts sites us zero a e = plain_role d.routine.sig.role e
  written (d ∷ ds) number texts sites us (suc r) a e =
      written ds (number + 1) (texts + length (gathered_all own_texts d.routine.body)) (sites + length (gathered_all (own_sites d.class d.number) d.routine.body)) us r a e

  pub plain_whole : (r : ℕ) → special_of p r ≡ false → ((table_of p).routine r).whole ≡ false
  plain_whole r e = written (routines_of p) 0 0 0 (unwritten_of p) r (up_to (length (classes_of p.items))) e

-- what builds or destroys an object of a mutex class comes to run inside that by being made, or by entering it

abbrev IsInside : Inward → Type 0
IsInside w = (w ≡ Enters) ⊎ (w ≡ Makes)

none_some : (c : ℕ) → None ≡ Some c → ⊥
none_some c e = cc

some_same : (i c : ℕ) → Some i ≡ Some c → i ≡ c
some_same i c e = cc

no_false : false ≡ true → ⊥
no_false e = cc

by_role : (r : Role) (main numbered helps : Bool) → not (is_plain r) ≡ true → IsInside (inward_by r main numbered helps)
by_role role.Plain main numbered helps e = absurd (no_false e)
by_role role.Constructor main numbered helps e = inr refl
by_role role.Destructor main numbered helps e = inl refl

unwritten_role : (r : Role) (b : Bool) → is_special (Some r) ≡ true → b ≡ true → IsInside (role_inward r b)
unwritten_role r false e f = absurd (no_false f)
unwritten_role role.Plain true e f = absurd (no_false e)
unwritten_role role.Constructor true e f = inr refl
unwritten_role role.Destructor true e f = inl refl

module _ (p : Program) (c : ℕ) (mutex : (table_of p).mutex c ≡ true) where
  in_class : (i : ℕ) (k : Option whole.Class) (r : Role) (name : List ℕ) → not (is_plain r) ≡ true → of_kind is_mutex k ≡ true → IsInside (inward_in p i k r name)
  in_class i None r name e f = absurd (no_false f)
  in_class i (Some k) r name e f =
      subst (λ b. IsInside (if b then inward_by r (same_name name main_name) (is_some (member_number k name)) (helps_in (member_named p i name)) else Apart)) (sym f) (by_role r (same_name name main_name) (is_some (member_number k name)) (helps_in (member_named p i name)) e)

  at_class : (o : Option ℕ) (r : Role) (name : List ℕ) → o ≡ Some c → not (is_plain r) ≡ true → IsInside (inward_at p o r name)
  at_class None r name e f = absurd (none_some c e)
  at_class (Some i) r name e f =
      in_class i (class_at p i) r name f (subst (λ i. of_kind is_mutex (class_at p i) ≡ true) (sym (some_same i c e)) mutex)

  unwritten_inside : (us : List Unwritten) (r : ℕ) → AllSpecial us → (sig_or_none (slice_get (unwritten_sigs p us) r)).whole ≡ true → (sig_or_none (slice_get (unwritten_sigs p us) r)).this ≡ Some c → IsInside (sig_or_none (slice_get (unwritten_sigs p us) r)).inward
  unwritten_inside [] r a e f = absurd (no_false e)
  unwritten_inside (u ∷ us) zero a e f =
      unwritten_role u.role (of_kind is_mutex (class_at p u.class)) a.0 (subst (λ i. of_kind is_mutex (class_at p i) ≡ true) (sym (some_same u.class c f)) mutex)
  unwritten_inside (u ∷ us) (suc r) a e f = unwritten_inside us r a.1 e f

  written_inside : (ds : List Defined) (number texts sites : ℕ) (us : List Unwritten) (r : ℕ) → AllSpecial us → (sig_or_none (slice_get (written_sigs p ds number texts sites ++ unwritten_sigs p us) r)).whole ≡ true → (sig_or_none (slice_get (written_sigs p ds number texts sites ++ unwritten_sigs p us) r)).this ≡ Some c → IsInside (sig_or_none (slice_get (written_sigs p ds number texts sites ++ unwritten_sigs p us) r)).inward
  written_inside [] number texts sites us r a e f = unwritten_inside us r a e f
  written_inside (d ∷ ds) number texts sites us zero a e f = at_class (place_by p d) d.routine.sig.role d.routine.sig.name f e
  written_inside (d ∷ ds) number texts sites us (suc r) a e f =
      written_inside ds (number + 1) (texts + length (gathered_all own_texts d.routine.body)) (sites + length (gathered_all (own_sites d.class d.number) d.routine.body)) us r a e f

  pub whole_inside : (r : ℕ) → ((table_of p).routine r).whole ≡ true → ((table_of p).routine r).this ≡ Some c → (((table_of p).routine r).inward ≡ Enters) ⊎ (((table_of p).routine r).inward ≡ Makes)
  whole_inside r e f = written_inside (routines_of p) 0 0 0 (unwritten_of p) r (up_to p (length (classes_of p.items))) e f
