-- The signature of each routine of a program in its table, by its number, and of those that nobody wrote.
use Rattle.std.proofs.Common.{◌≡◌, ℕ, zero, suc, ◌+◌, ◌≤◌, List, [], ◌∷◌, length, Option, Some, None, Bool, true, false, refl, sym, ap, ◌∙◌, subst, arith, map}
use Rattle.std.specs.Prelude.{◌&&◌, not, slice_get, if◌then◌else◌, nat_eq}
use Rattle.std.proofs.lemmas.Bool.{eqb-true, eq-eqb}
use Rattle.uc_tree.specs.declared.kinds.Role.{Role}
use Rattle.uc_tree.specs.declared.kinds.Role.TheVariants as role
use Rattle.uc_tree.specs.declared.rows.FieldLayout.{FieldLayout}
use Rattle.uc_tree.specs.declared.rows.FieldClass.{FieldClass}
use Rattle.uc_tree.specs.Gathered.{gathered_all}
use Rattle.uc_tree.specs.Rows.{ClassLayout, row_at}
use Rattle.uc_tree.specs.Cells.{classes_of, rows_of, row_of}
use Rattle.uc_tree.specs.Constants.{constants_of}
use Rattle.uc_tree.specs.Numbering.{is_event, is_plain, own_texts, own_sites, Defined, routines_of}
use Rattle.uc_tree.specs.Objects.{class_at, written_at, same_role, object_height, tallest, height_within, class_height, Unwritten, unwritten_by, unwritten_at, unwritten_of_height, unwritten_up_to, unwritten_of, place_among, unwritten_number}
use Rattle.uc_tree.specs.Programs.{Class, Program}
use Rattle.uc_resolve.specs.Resolve.{routine_scope, place_by}
use Rattle.uc_typing.specs.Typing.{Sig, IsRoutine}
use Rattle.uc_sound.proofs.Ties.{some_same, none_some, false_true}
use Rattle.uc_sound.specs.Tables.{routine_sig_in, written_sigs, unwritten_sig, unwritten_sigs, all_sigs, sig_or_none, table_of}
use Rattle.uc_sound.proofs.Lists.{both_are, left_is, right_is, in_left, in_right, get_right, within, Order, before, same, behind, order}

written_length : (p : Program) (ds : List Defined) (n t s : ℕ) → length (written_sigs p ds n t s) ≡ length ds
written_length p [] n t s = refl
written_length p (d ∷ ds) n t s =
    ap suc (written_length p ds (n + 1) (t + length (gathered_all own_texts d.routine.body)) (s + length (gathered_all (own_sites d.class d.number) d.routine.body)))

module _ (p : Program) where
  -- a routine that is written has its signature, in the scope that its body has
  pub record HasSig (n : ℕ) (d : Defined) : Type 0 where
    pub texts : ℕ
    pub sites : ℕ
    pub sig : (table_of p).routine n ≡ routine_sig_in p d (routine_scope p d.routine (place_by p d) n texts sites)
    pub known : IsRoutine (table_of p) n

  record Listed (l : List Sig) (k n : ℕ) (d : Defined) : Type 0 where
    texts : ℕ
    sites : ℕ
    at : slice_get l k ≡ Some (routine_sig_in p d (routine_scope p d.routine (place_by p d) n texts sites))

  listed : (ds : List Defined) (i t s k n : ℕ) (d : Defined) → i + k ≡ n → slice_get ds k ≡ Some d → Listed (written_sigs p ds i t s) k n d
  listed [] i t s k n d q e = none_some e
  listed (x ∷ ds) i t s zero n d q e =
      let l : i ≡ n = omega (arith, q) in
      subst (Listed (written_sigs p (x ∷ ds) i t s) 0 n) (some_same e) (subst (λ m. Listed (written_sigs p (x ∷ ds) i t s) 0 m x) l (record { texts = t; sites = s; at = refl }))
  listed (x ∷ ds) i t s (suc k) n d q e =
      let r = listed ds (i + 1) (t + length (gathered_all own_texts x.routine.body)) (s + length (gathered_all (own_sites x.class x.number) x.routine.body)) k n d (omega (arith, q)) e in
      record { texts = r.texts; sites = r.sites; at = r.at }

  pub has_sig : (n : ℕ) (d : Defined) → slice_get (routines_of p) n ≡ Some d → HasSig n d
  has_sig n d e =
      let r = listed (routines_of p) 0 0 0 n n d (omega arith) e in
      let a = in_left (written_sigs p (routines_of p) 0 0 0) (unwritten_sigs p (unwritten_of p)) n (routine_sig_in p d (routine_scope p d.routine (place_by p d) n r.texts r.sites)) r.at in
      record { texts = r.texts; sites = r.sites; sig = ap sig_or_none a; known = within (all_sigs p) n (routine_sig_in p d (routine_scope p d.routine (place_by p d) n r.texts r.sites)) a }

  -- what nobody wrote

  object_few : (heights : ℕ → ℕ) (top : ℕ) → ((i : ℕ) → heights i ≤ top) → (o : Option FieldClass) → object_height heights o ≤ suc top
  object_few heights top f None = omega arith
  object_few heights top f (Some o) = let r = f o.class in omega (arith, r)

  tallest_few : (heights : ℕ → ℕ) (top : ℕ) → ((i : ℕ) → heights i ≤ top) → (hs : List FieldLayout) → tallest heights hs ≤ suc top
  tallest_few heights top f [] = omega arith
  tallest_few heights top f (h ∷ hs) =
      let a = object_few heights top f h.object in
      let b = tallest_few heights top f hs in
      omega (arith, a, b)

  height_few : (depth : ℕ) (rows : List ClassLayout) (i : ℕ) → height_within depth rows i ≤ depth
  unfolding height_within
  height_few zero rows i = let e : height_within zero rows i ≡ 0 = refl in omega (arith, e)
  height_few (suc depth) rows i = tallest_few (height_within depth rows) depth (height_few depth rows) (row_at rows i).held

  map_length : {A B : Type 0} (f : A → B) (xs : List A) → length (map f xs) ≡ length xs
  map_length f [] = refl
  map_length f (x ∷ xs) = ap suc (map_length f xs)

  pub height_low : (i : ℕ) → class_height p i ≤ length (classes_of p.items)
  height_low i =
      let a = height_few (length (rows_of p)) (rows_of p) i in
      let b = map_length (row_of (classes_of p.items) (constants_of p.items)) (classes_of p.items) in
      omega (arith, a, b)

  by_height : (h : ℕ) (cs : List Class) (i n : ℕ) (c : Class) (j m : ℕ) (u : Unwritten) → i + n ≡ j → slice_get cs n ≡ Some c → is_event c.kind ≡ false → class_height p j ≡ h → slice_get (unwritten_at p j) m ≡ Some u → (k : ℕ) × (slice_get (unwritten_of_height p h cs i) k ≡ Some u)
  by_height h [] i n c j m u q e v w a = none_some e
  by_height h (x ∷ cs) i zero c j m u q e v w a =
      let l : j ≡ i = omega (arith, q) in
      let f : is_event x.kind ≡ false = subst (λ (z : Class). is_event z.kind ≡ false) (sym (some_same e)) v in
      let g : nat_eq (class_height p i) h ≡ true = eq-eqb (class_height p i) h (ap (class_height p) (sym l) ∙ w) in
      let b : (not (is_event x.kind) && nat_eq (class_height p i) h) ≡ true = both_are (not (is_event x.kind)) (nat_eq (class_height p i) h) (ap not f) g in
      let here : slice_get (if not (is_event x.kind) && nat_eq (class_height p i) h then unwritten_at p i else []) m ≡ Some u = ap (λ (b : Bool). slice_get (if b then unwritten_at p i else []) m) b ∙ (ap (λ z. slice_get (unwritten_at p z) m) (sym l) ∙ a) in
      (m, in_left (if not (is_event x.kind) && nat_eq (class_height p i) h then unwritten_at p i else []) (unwritten_of_height p h cs (i + 1)) m u here)
  by_height h (x ∷ cs) i (suc n) c j m u q e v w a =
      let r = by_height h cs (i + 1) n c j m u (omega (arith, q)) e v w a in
      in_right (if not (is_event x.kind) && nat_eq (class_height p i) h then unwritten_at p i else []) (unwritten_of_height p h cs (i + 1)) r.0 u r.1

  up_to : (top : ℕ) (i : ℕ) (c : Class) (m : ℕ) (u : Unwritten) → class_at p i ≡ Some c → is_event c.kind ≡ false → class_height p i ≤ top → slice_get (unwritten_at p i) m ≡ Some u → (k : ℕ) × (slice_get (unwritten_up_to p top) k ≡ Some u)
  up_to zero i c m u e v l a = by_height 0 (classes_of p.items) 0 i c i m u (omega arith) e v (omega (arith, l)) a
  up_to (suc top) i c m u e v l a = by (order (class_height p i) (suc top)) (λ l. up_to top i c m u e v l a)
    where
      by : Order (class_height p i) (suc top) → (class_height p i ≤ top → (k : ℕ) × (slice_get (unwritten_up_to p top) k ≡ Some u)) → (k : ℕ) × (slice_get (unwritten_up_to p (suc top)) k ≡ Some u)
      by (same w) ih =
          let r = by_height (suc top) (classes_of p.items) 0 i c i m u (omega arith) e v w a in
          (r.0, in_left (unwritten_of_height p (suc top) (classes_of p.items) 0) (unwritten_up_to p top) r.0 u r.1)
      by (behind w) ih = let b : ⊥ = omega (arith, w, l) in absurd b
      by (before w) ih =
          let r = ih (omega (arith, w)) in
          in_right (unwritten_of_height p (suc top) (classes_of p.items) 0) (unwritten_up_to p top) r.0 u r.1

  self_role : (a : Role) → same_role a a ≡ true
  self_role role.Plain = refl
  self_role role.Constructor = refl
  self_role role.Destructor = refl

  same_roles : (a b : Role) → same_role a b ≡ true → b ≡ a
  same_roles role.Plain role.Plain h = refl
  same_roles role.Constructor role.Constructor h = refl
  same_roles role.Destructor role.Destructor h = refl
  same_roles _ _ h = false_true h

  -- what is found among them is of the class and of the role
  among : (us : List Unwritten) (i : ℕ) (wanted : Role) (k : ℕ) → slice_get us k ≡ Some (record { class = i; role = wanted }) → (u : Unwritten) × (slice_get us (place_among us i wanted) ≡ Some u) × (u.class ≡ i) × (u.role ≡ wanted)
  among [] i wanted k e = none_some e
  among (x ∷ us) i wanted k e = by (nat_eq x.class i && same_role wanted x.role) refl (λ m q. among us i wanted m q)
    where
      further : (k : ℕ) → slice_get (x ∷ us) k ≡ Some (record { class = i; role = wanted }) → (nat_eq x.class i && same_role wanted x.role) ≡ false → (m : ℕ) × (slice_get us m ≡ Some (record { class = i; role = wanted }))
      further zero e w =
          false_true (sym w ∙ subst (λ (z : Unwritten). (nat_eq z.class i && same_role wanted z.role) ≡ true) (sym (some_same e)) (both_are (nat_eq i i) (same_role wanted wanted) (eq-eqb i i refl) (self_role wanted)))
      further (suc k) e w = (k, e)

      by : (b : Bool) → (nat_eq x.class i && same_role wanted x.role) ≡ b → ((m : ℕ) → slice_get us m ≡ Some (record { class = i; role = wanted }) → (u : Unwritten) × (slice_get us (place_among us i wanted) ≡ Some u) × (u.class ≡ i) × (u.role ≡ wanted)) → (u : Unwritten) × (slice_get (x ∷ us) (if b then 0 else suc (place_among us i wanted)) ≡ Some u) × (u.class ≡ i) × (u.role ≡ wanted)
      by true w ih = (x, refl, eqb-true x.class i (left_is (nat_eq x.class i) (same_role wanted x.role) w), same_roles wanted x.role (right_is (nat_eq x.class i) (same_role wanted x.role) w))
      by false w ih = let m = further k e w in ih m.0 m.1

  sigs_at : (us : List Unwritten) (k : ℕ) (u : Unwritten) → slice_get us k ≡ Some u → slice_get (unwritten_sigs p us) k ≡ Some (unwritten_sig p u)
  sigs_at [] k u e = none_some e
  sigs_at (x ∷ us) zero u e = ap (λ z. Some (unwritten_sig p z)) (some_same e)
  sigs_at (x ∷ us) (suc k) u e = sigs_at us k u e

  own_unwritten : (i : ℕ) (wanted : Role) → is_plain wanted ≡ false → written_at p i wanted ≡ None → (m : ℕ) × (slice_get (unwritten_at p i) m ≡ Some (record { class = i; role = wanted }))
  own_unwritten i role.Plain r w = false_true (sym r)
  own_unwritten i role.Constructor r w =
      (0, in_left (unwritten_by (written_at p i role.Constructor) i role.Constructor) (unwritten_by (written_at p i role.Destructor) i role.Destructor) 0 (record { class = i; role = role.Constructor }) (ap (λ o. slice_get (unwritten_by o i role.Constructor) 0) w))
  own_unwritten i role.Destructor r w =
      in_right (unwritten_by (written_at p i role.Constructor) i role.Constructor) (unwritten_by (written_at p i role.Destructor) i role.Destructor) 0 (record { class = i; role = role.Destructor }) (ap (λ o. slice_get (unwritten_by o i role.Destructor) 0) w)

  pub record IsUnwritten (i : ℕ) (wanted : Role) : Type 0 where
    pub unwritten : Unwritten
    pub class : unwritten.class ≡ i
    pub role_is : unwritten.role ≡ wanted
    pub sig : (table_of p).routine (unwritten_number p i wanted) ≡ unwritten_sig p unwritten
    pub known : IsRoutine (table_of p) (unwritten_number p i wanted)

  pub is_unwritten : (i : ℕ) (c : Class) (wanted : Role) → class_at p i ≡ Some c → is_event c.kind ≡ false → is_plain wanted ≡ false → written_at p i wanted ≡ None → IsUnwritten i wanted
  is_unwritten i c wanted e v r w =
      let m = own_unwritten i wanted r w in
      let k = up_to (length (classes_of p.items)) i c m.0 (record { class = i; role = wanted }) e v (height_low i) m.1 in
      let a = among (unwritten_of p) i wanted k.0 k.1 in
      let n = unwritten_number p i wanted in
      let l = written_length p (routines_of p) 0 0 0 in
      let q : n ≡ length (written_sigs p (routines_of p) 0 0 0) + place_among (unwritten_of p) i wanted = ap (λ z. z + place_among (unwritten_of p) i wanted) (sym l) in
      let s : slice_get (all_sigs p) n ≡ Some (unwritten_sig p a.0) = get_right (written_sigs p (routines_of p) 0 0 0) (unwritten_sigs p (unwritten_of p)) (place_among (unwritten_of p) i wanted) n q ∙ sigs_at (unwritten_of p) (place_among (unwritten_of p) i wanted) a.0 a.1 in
      record { unwritten = a.0; class = a.2; role_is = a.3; sig = ap sig_or_none s; known = within (all_sigs p) n (unwritten_sig p a.0) s }
