-- Names are of executions that were made where members, executions and links change.
use Rattle.std.proofs.Common.{◌≡◌, ℕ, suc, ◌<◌, ◌++◌, Bool, true, false, List, [], ◌∷◌, Option, Some, None, refl, sym, ap, ◌∙◌, subst, arith}
use Rattle.std.specs.Prelude.{nat_eq, if◌then◌else◌}
use Rattle.std.proofs.lemmas.Bool.{eqb-true, ne_eqb}
use Rattle.uc_entry.specs.Keyed.{find}
use Rattle.uc_machine.specs.declared.exec.Exec.{Exec}
use Rattle.uc_machine.specs.declared.exec.Home.{Home}
use Rattle.uc_machine.specs.declared.exec.Home.TheVariants as home
use Rattle.uc_machine.specs.declared.exec.Owner.{Owner}
use Rattle.uc_machine.specs.declared.exec.Owner.TheVariants.{Frame, Fields}
use Rattle.uc_machine.specs.Executions.{Links, update, home_eq, exec_eq, joined, members_at, change, slot_in, parked_at, frames_of, frames_in, frames_by, frames_changed, frame_changed, values_in, owned, with_owned}
use Rattle.uc_machine.specs.Switches as sw
use Rattle.uc_machine.specs.Pieces.{Value, Number, Place, Running, Object, Nothing, Env, Members, loaded, written, address}
use Rattle.uc_name_laws.specs.Below.{Ex, IsBelow, IsNamed, AreNamed, FramesNamed, MaybeBelow, LinksNamed, ExNamed, SlotNamed, ParkedNamed, AreApart, MembersNamed, EnvNamed}
use Rattle.uc_name_laws.proofs.Homes.{either, the_same, same_home, none_update, mapped, change_beside, change_same, change_other, like_members}
use Rattle.uc_name_laws.proofs.Values.{named_get, named_changed, frame_named, frames_named as frames_kept}

-- executions by numbers

module _ (serials : Home → ℕ) where
  pub found_named : (n k : ℕ) (ps : List (ℕ × Option Ex)) → ParkedNamed serials n ps → SlotNamed serials (joined (find k ps))
  found_named n k [] h = tt
  found_named n k (p ∷ ps) h = either (λ o. SlotNamed serials (joined o)) (nat_eq p.0 k) (Some p.1) (find k ps) h.1 (found_named n k ps h.2)

  pub update_named : (n k : ℕ) (o : Option Ex) (ps : List (ℕ × Option Ex)) → SlotNamed serials o → ParkedNamed serials n ps → ParkedNamed serials n (update k o ps)
  update_named n k o [] r h = tt
  update_named n k o (p ∷ ps) r h = by (nat_eq p.0 k) refl (update_named n k o ps r h.2)
    where
      by : (b : Bool) → nat_eq p.0 k ≡ b → ParkedNamed serials n (update k o ps) → ParkedNamed serials n (if b then (k, o) ∷ ps else p ∷ update k o ps)
      by true e ih = (subst (λ i. i < n) (eqb-true p.0 k e) h.0, r, h.2)
      by false e ih = (h.0, h.1, ih)

  pub without_named : (n k : ℕ) (ps : List (ℕ × Option Ex)) → ParkedNamed serials n ps → ParkedNamed serials n (sw.without k ps)
  without_named n k [] h = tt
  without_named n k (p ∷ ps) h = either (ParkedNamed serials n) (nat_eq p.0 k) ps (p ∷ sw.without k ps) h.2 (h.0, h.1, without_named n k ps h.2)

  pub more_named : (n : ℕ) (x : Ex) (ps : List (ℕ × Option Ex)) → ExNamed serials x → ParkedNamed serials n ps → ParkedNamed serials (suc n) (ps ++ (n, Some x) ∷ [])
  more_named n x [] r h = (omega arith, r, tt)
  more_named n x (p ∷ ps) r h = let lt = h.0 in (omega (arith, lt), h.1, more_named n x ps r h.2)

update_apart : {X : Type 0} (k : ℕ) (x : X) (ps : List (ℕ × X)) → AreApart ps → AreApart (update k x ps)
update_apart k x [] h = tt
update_apart k x (p ∷ ps) h = by (nat_eq p.0 k) refl (update_apart k x ps h.1)
  where
    by : (b : Bool) → nat_eq p.0 k ≡ b → AreApart (update k x ps) → AreApart (if b then (k, x) ∷ ps else p ∷ update k x ps)
    by true e ih = (ap (λ i. find i ps) (sym (eqb-true p.0 k e)) ∙ h.0, h.1)
    by false e ih = (none_update k p.0 x ps h.0, ih)

none_without : {X : Type 0} (k q : ℕ) (ps : List (ℕ × X)) → find q ps ≡ None → find q (sw.without k ps) ≡ None
none_without k q [] e = e
none_without k q (p ∷ ps) e = by (nat_eq p.0 k) (nat_eq p.0 q) refl (none_without k q ps) e
  where
    by : (b c : Bool) → nat_eq p.0 q ≡ c → (find q ps ≡ None → find q (sw.without k ps) ≡ None) → (if c then Some p.1 else find q ps) ≡ None → find q (if b then ps else p ∷ sw.without k ps) ≡ None
    by b true i ih e = cc
    by true false i ih e = e
    by false false i ih e = ap (λ c. if c then Some p.1 else find q (sw.without k ps)) i ∙ ih e

without_apart : {X : Type 0} (k : ℕ) (ps : List (ℕ × X)) → AreApart ps → AreApart (sw.without k ps)
without_apart k [] h = tt
without_apart k (p ∷ ps) h = either AreApart (nat_eq p.0 k) ps (p ∷ sw.without k ps) h.1 (none_without k p.0 ps h.0, without_apart k ps h.1)

last_none : {X : Type 0} (k n : ℕ) (x : X) (qs : List (ℕ × X)) → k < n → find k qs ≡ None → find k (qs ++ (n, x) ∷ []) ≡ None
last_none k n x [] lt e = ap (λ b. if b then Some x else None) (ne_eqb n k (λ same. omega (arith, lt, same)))
last_none k n x (q ∷ qs) lt e = by (nat_eq q.0 k) refl (last_none k n x qs lt) e
  where
    by : (b : Bool) → nat_eq q.0 k ≡ b → (find k qs ≡ None → find k (qs ++ (n, x) ∷ []) ≡ None) → (if b then Some q.1 else find k qs) ≡ None → (if nat_eq q.0 k then Some q.1 else find k (qs ++ (n, x) ∷ [])) ≡ None
    by true i ih e = cc
    by false i ih e = ap (λ b. if b then Some q.1 else find k (qs ++ (n, x) ∷ [])) i ∙ ih e

pub more_apart : (serials : Home → ℕ) (n : ℕ) (x : Ex) (ps : List (ℕ × Option Ex)) → ParkedNamed serials n ps → AreApart ps → AreApart (ps ++ (n, Some x) ∷ [])
more_apart serials n x [] h a = (refl, tt)
more_apart serials n x (p ∷ ps) h a = (last_none p.0 n (Some x) ps h.0 a.0, more_apart serials n x ps h.2 a.1)

module _ (serials : Home → ℕ) (here : Home → Bool) where
  -- the same, of what has the same own object, house and hand
  pub like : {e d : Env} → EnvNamed serials here e → FramesNamed serials d.frames → LinksNamed serials d.links → IsBelow serials d.exec → d.own ≡ e.own → d.house ≡ e.house → d.hand ≡ e.hand → EnvNamed serials here d
  like {e} {d} s f l x a b c = record {
    frames_named = f;
    links_named = l;
    exec_below = x;
    members_named = λ h m i. s.members_named h m (sym (like_members h e d a b c) ∙ i);
    away = λ h i. like_members h e d a b c ∙ s.away h i;
  }

  pub linked : {e d : Env} → EnvNamed serials here e → d.frames ≡ e.frames → LinksNamed serials d.links → d.exec ≡ e.exec → d.own ≡ e.own → d.house ≡ e.house → d.hand ≡ e.hand → EnvNamed serials here d
  linked s f l x a b c = like s (subst (FramesNamed serials) (sym f) s.frames_named) l (subst (IsBelow serials) (sym x) s.exec_below) a b c

  -- a change of what is at home somewhere
  pub change_named : (h : Home) (f : Members → Members) (e : Env) → ((m : Members) → MembersNamed serials h m → MembersNamed serials h (f m)) → EnvNamed serials here e → EnvNamed serials here (change h f e)
  change_named h f e k s =
      let b = change_beside h f e in
      record {
        frames_named = subst (FramesNamed serials) (sym b.frames_same) s.frames_named;
        links_named = subst (LinksNamed serials) (sym b.links_same) s.links_named;
        exec_below = subst (IsBelow serials) (sym b.exec_same) s.exec_below;
        members_named = λ q y i. found q y i (home_eq q h) refl;
        away = λ q i. gone q i (home_eq q h) refl;
      }
    where
      made : (o : Option Members) → members_at h e ≡ o → (y : Members) → mapped f o ≡ Some y → MembersNamed serials h y
      made None g y i = cc
      made (Some m) g y i = subst (MembersNamed serials h) (the_same (f m) y i) (k m (s.members_named h m g))

      found : (q : Home) (y : Members) → members_at q (change h f e) ≡ Some y → (b : Bool) → home_eq q h ≡ b → MembersNamed serials q y
      found q y i true g =
          let same = same_home q h g in
          subst (λ q. MembersNamed serials q y) (sym same) (made (members_at h e) refl y (sym (change_same h f e) ∙ (ap (λ q. members_at q (change h f e)) (sym same) ∙ i)))
      found q y i false g = s.members_named q y (sym (change_other h q f e g) ∙ i)

      gone : (q : Home) → here q ≡ false → (b : Bool) → home_eq q h ≡ b → members_at q (change h f e) ≡ None
      gone q i true g =
          let same = same_home q h g in
          ap (λ q. members_at q (change h f e)) same ∙ (change_same h f e ∙ ap (mapped f) (ap (λ q. members_at q e) (sym same) ∙ s.away q i))
      gone q i false g = change_other h q f e g ∙ s.away q i

  -- an execution in hand

  slot_named : (h : Home) (k : ℕ) (o : Option Members) → ((m : Members) → o ≡ Some m → MembersNamed serials h m) → SlotNamed serials (joined (slot_in k o))
  slot_named h k None s = tt
  slot_named h k (Some m) s = let y = s m refl in found_named serials m.serial k m.parked y.parked_named

  pub parked_named : (n : Exec) (e : Env) → EnvNamed serials here e → SlotNamed serials (parked_at n e)
  parked_named n e s = slot_named n.home n.serial (members_at n.home e) (λ m. s.members_named n.home m)

  -- reads

  frames_in_named : (o : Option Ex) → SlotNamed serials o → FramesNamed serials (frames_in o)
  frames_in_named None h = tt
  frames_in_named (Some x) h = h.frames_named

  frames_of_named : (n : Exec) (e : Env) → EnvNamed serials here e → FramesNamed serials (frames_of n e)
  frames_of_named n e s = either (FramesNamed serials) (exec_eq n e.exec) e.frames (frames_in (parked_at n e)) s.frames_named (frames_in_named (parked_at n e) (parked_named n e s))

  values_named : (h : Home) (o : Option Members) → ((m : Members) → o ≡ Some m → MembersNamed serials h m) → AreNamed serials (values_in o)
  values_named h None s = tt
  values_named h (Some m) s = let y = s m refl in y.values_named

  owned_named : (o : Owner) (e : Env) → EnvNamed serials here e → AreNamed serials (owned o e)
  owned_named (Frame n d) e s = frame_named serials (frames_of n e) d (frames_of_named n e s)
  owned_named (Fields o) e s = values_named (home.Object o) (find o e.hand) (λ m. s.members_named (home.Object o) m)

  pub loaded_named : (v : Value) (e : Env) → EnvNamed serials here e → IsNamed serials (loaded v e)
  loaded_named (Number n) e s = tt
  loaded_named (Place o p) e s = named_get serials (owned o e) (address p) (owned_named o e s)
  loaded_named (Running n) e s = tt
  loaded_named (Object o) e s = named_get serials (owned (Fields o) e) 0 (owned_named (Fields o) e s)
  loaded_named Nothing e s = tt

  -- writes

  slot_kept : {h : Home} (k : ℕ) (o : Option Ex) (m : Members) → SlotNamed serials o → MembersNamed serials h m → MembersNamed serials h (sw.slot_set k o m)
  slot_kept k o m r s = record {
    values_named = s.values_named;
    parked_named = update_named serials m.serial k o m.parked r s.parked_named;
    apart = update_apart k o m.parked s.apart;
    serial_is = s.serial_is;
  }

  abbrev pub Keeps : (List Value → List Value) → Type 0
  Keeps g = (vs : List Value) → AreNamed serials vs → AreNamed serials (g vs)

  by_named : {h : Home} (k d : ℕ) (g : List Value → List Value) (o : Option Ex) (m : Members) → Keeps g → SlotNamed serials o → MembersNamed serials h m → MembersNamed serials h (frames_by k (frame_changed d g) o m)
  by_named k d g None m c r s = s
  by_named k d g (Some x) m c r s =
      slot_kept k (Some (record x { frames = frame_changed d g x.frames })) m (record { run_named = r.run_named; callers_named = r.callers_named; frames_named = frames_kept serials d g x.frames c r.frames_named; links_named = r.links_named }) s

  pub owned_kept : (o : Owner) (g : List Value → List Value) (e : Env) → Keeps g → EnvNamed serials here e → EnvNamed serials here (with_owned o g e)
  owned_kept (Frame n d) g e c s =
      either (EnvNamed serials here) (exec_eq n e.exec) (record e { frames = frame_changed d g e.frames }) (change n.home (frames_changed n.serial (frame_changed d g)) e) (like s (frames_kept serials d g e.frames c s.frames_named) s.links_named s.exec_below refl refl refl) (change_named n.home (frames_changed n.serial (frame_changed d g)) e (λ m y. by_named n.serial d g (joined (find n.serial m.parked)) m c (found_named serials m.serial n.serial m.parked y.parked_named) y) s)
  owned_kept (Fields o) g e c s =
      change_named (home.Object o) (λ m. record m { values = g m.values }) e (λ m y. record { values_named = c m.values y.values_named; parked_named = y.parked_named; apart = y.apart; serial_is = y.serial_is }) s

  pub written_kept : (p v : Value) (e : Env) → IsNamed serials v → EnvNamed serials here e → EnvNamed serials here (written p v e)
  written_kept (Number n) v e i s = s
  written_kept (Place o p) v e i s = owned_kept o _ e (λ vs h. named_changed serials (address p) v vs i h) s
  written_kept (Running x) v e i s = s
  written_kept (Object o) v e i s = owned_kept (Fields o) _ e (λ vs h. named_changed serials 0 v vs i h) s
  written_kept Nothing v e i s = s

  -- executions go, and their links change

  pub gone_kept : (o : Option Exec) (e : Env) → EnvNamed serials here e → EnvNamed serials here (sw.forgotten o e)
  gone_kept None e s = s
  gone_kept (Some n) e s =
      change_named n.home (sw.slot_gone n.serial) e (λ m y. record { values_named = y.values_named; parked_named = without_named serials m.serial n.serial m.parked y.parked_named; apart = without_apart n.serial m.parked y.apart; serial_is = y.serial_is }) s

  abbrev pub KeepsLinks : (Links → Links) → Type 0
  KeepsLinks g = (l : Links) → LinksNamed serials l → LinksNamed serials (g l)

  links_by : {h : Home} (g : Links → Links) (k : ℕ) (o : Option Ex) (m : Members) → KeepsLinks g → SlotNamed serials o → MembersNamed serials h m → MembersNamed serials h (sw.links_by g k o m)
  links_by g k None m c r s = s
  links_by g k (Some x) m c r s =
      slot_kept k (Some (record x { links = g x.links })) m (record { run_named = r.run_named; callers_named = r.callers_named; frames_named = r.frames_named; links_named = c x.links r.links_named }) s

  pub with_links_kept : (g : Links → Links) (n : Exec) (e : Env) → KeepsLinks g → EnvNamed serials here e → EnvNamed serials here (sw.with_links g n e)
  with_links_kept g n e c s =
      either (EnvNamed serials here) (exec_eq n e.exec) (record e { links = g e.links }) (change n.home (sw.links_changed g n.serial) e) (linked s refl (c e.links s.links_named) refl refl refl refl) (change_named n.home (sw.links_changed g n.serial) e (λ m y. links_by g n.serial (joined (find n.serial m.parked)) m c (found_named serials m.serial n.serial m.parked y.parked_named) y) s)

  pub same_names : (l k : Links) → k.starter ≡ l.starter → k.resumer ≡ l.resumer → k.destroyer ≡ l.destroyer → LinksNamed serials l → LinksNamed serials k
  same_names l k a b c h = record {
    starter_below = subst (MaybeBelow serials) (sym a) h.starter_below;
    resumer_below = subst (MaybeBelow serials) (sym b) h.resumer_below;
    destroyer_below = subst (MaybeBelow serials) (sym c) h.destroyer_below;
  }

  pub enlivened_kept : (o : Option Exec) (e : Env) → EnvNamed serials here e → EnvNamed serials here (sw.enlivened o e)
  enlivened_kept None e s = s
  enlivened_kept (Some n) e s = with_links_kept (λ l. record l { live = true }) n e (λ l h. same_names l (record l { live = true }) refl refl refl h) s

  pub slot_set_kept : (n : Exec) (o : Option Ex) (e : Env) → SlotNamed serials o → EnvNamed serials here e → EnvNamed serials here (sw.set_slot n o e)
  slot_set_kept n o e r s = change_named n.home (sw.slot_set n.serial o) e (λ m y. slot_kept n.serial o m r y) s
