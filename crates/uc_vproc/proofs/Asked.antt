-- What an act is, by what is asked: whom it spawns, what it takes out, and that a fault ends the run.
use Rattle.std.proofs.Common.{◌≡◌, ℕ, ◌⊎◌, inl, inr, ◌||◌, Bool, true, false, cond, not, List, [], ◌∷◌, ◌++◌, Some, refl, sym, ap, ◌∙◌, option_to_list, filter}
use Rattle.std.proofs.lemmas.Bool.{eqb-true}
use Rattle.std.specs.Prelude.{slice_index_or}
use Rattle.std.specs.List.{list_any}
use Rattle.uc_tree.specs.Programs.{Site}
use Rattle.uc_entry.specs.declared.entry.Entry.{Entry}
use Rattle.uc_entry.specs.declared.entry.EntryKind.{EntryKind}
use Rattle.uc_entry.specs.declared.entry.EntryKind.TheVariants as kind
use Rattle.uc_entry.specs.declared.entry.Options.{Options}
use Rattle.uc_entry.specs.declared.request.Asked.{Asked}
use Rattle.uc_entry.specs.declared.request.Request.{Request}
use Rattle.uc_entry.specs.declared.request.Request.TheVariants as ask
use Rattle.uc_acts.specs.Open.{still_open}
use Rattle.uc_acts.specs.Journal.{Journal, cost, held, is_over, where_true, owns, own_object, first_or_0}
use Rattle.uc_acts.specs.Known.{has, made, is_gone_by, spawns, spawns_task, takes_object, takes_out}
use Rattle.uc_acts.specs.Acts.{act, fault}
use Rattle.uc_acts.specs.KernelRuns.{Fits, KernelRuns, MayAsk}
use Rattle.uc_acts.proofs.Acting.{AllBy, by_act, destroys, object_of}
use Rattle.uc_acts.proofs.Counted.{law_made}
use Rattle.uc_acts.proofs.Hush.{is_silent}
use Rattle.uc_acts.proofs.Living.{going_row}
use Rattle.uc_acts.proofs.Making.{law_makes}
use Rattle.uc_kernel.specs.AtRest.{IsMake}
use Rattle.uc_kernel.proofs.Lying.{not_true}
use Rattle.uc_kernel.proofs.Shapes.{Shaped, is_plain, is_making, is_spawning, shaped_act, shaped_make, shaped_spawn}
use Rattle.uc_kernel.proofs.Making.{over_fault, second_spawn}
use Rattle.uc_vproc.specs.declared.step.Step.{Step}
use Rattle.uc_vproc.specs.Rest.{faults}
use Rattle.uc_vproc.specs.Registries.{AreThere}
use Rattle.uc_vproc.specs.Desks.{IsTold}
use Rattle.uc_vproc.proofs.MakersLemmas.{not_both, is_nil}

plain_spawns : (u : ℕ) (k : EntryKind) (e : Entry) → is_plain k ≡ true → spawns_task u k e ≡ false
plain_spawns u kind.Spawn e h = absurd (cc h)
plain_spawns u k e h = refl

making_spawns : (u : ℕ) (k : EntryKind) (e : Entry) → is_making k ≡ true → spawns_task u k e ≡ false
making_spawns u kind.Spawn e h = absurd (cc h)
making_spawns u k e h = refl

none_by : (b c : Bool) → b ≡ false → c ≡ false → (b || c) ≡ false
none_by b c e f = ap (λ x. x || c) e ∙ f

shaped_none : (P : EntryKind → Bool) (u : ℕ) (a : List Entry) → ((k : EntryKind) (e : Entry) → P k ≡ true → spawns_task u k e ≡ false) → Shaped P a → spawns a u ≡ false
shaped_none P u [] h s = absurd s
shaped_none P u (e ∷ a) h s = none_by (spawns_task u e.kind e) (spawns a u) (h e.kind e (s.0)) (second_spawn a u (s.1))

owns_by : (u : ℕ) (k : EntryKind) (e : Entry) → spawns_task u k e ≡ true → owns u k e ≡ Some e.object
owns_by u kind.Spawn e h = ap (λ b. where_true b e.object) h
owns_by u k e h = absurd (cc h)

kept_first : (l : List Entry) (o : ℕ) → filter (λ (x : ℕ). not (list_any (λ (e : Entry). false) l)) (o ∷ []) ≡ o ∷ []
kept_first l o = ap (λ b. cond (not b) (o ∷ []) []) (none_any l)
  where
    none_any : (l : List Entry) → list_any (λ (e : Entry). false) l ≡ false
    none_any [] = refl
    none_any (e ∷ l) = none_any l

owned_first : (u : ℕ) (e : Entry) (a : List Entry) → spawns_task u e.kind e ≡ true → own_object u (e ∷ a) ≡ e.object
unfolding own_object
owned_first u e a h =
    ap (λ x. first_or_0 (filter (λ (y : ℕ). not (list_any (λ (i : Entry). false) a)) (option_to_list x) ++ still_open (λ i. owns u i.kind i) (λ i o. false) a)) (owns_by u e.kind e h) ∙ ap (λ l. first_or_0 (l ++ still_open (λ i. owns u i.kind i) (λ i o. false) a)) (kept_first a e.object)

first_spawns : (b c : Bool) → (b || c) ≡ true → c ≡ false → b ≡ true
first_spawns true c h f = refl
first_spawns false c h f = not_both c h f

spawner : (p t o u : ℕ) (g : Bool) (a : List Entry) → Shaped is_spawning a → AllBy p t o (Unit {0}) g a → spawns a u ≡ true → own_object u a ≡ o
spawner p t o u g [] s b h = absurd (cc h)
spawner p t o u g (e ∷ a) s b h =
    let f : spawns_task u e.kind e ≡ true = first_spawns (spawns_task u e.kind e) (spawns a u) h (second_spawn a u (s.1)) in
    owned_first u e a f ∙ (b.0.door (loud e.kind e f)).0
  where
    loud : (k : EntryKind) (e : Entry) → spawns_task u k e ≡ true → is_silent k ≡ false
    loud kind.Spawn e h = refl
    loud k e h = absurd (cc h)

module _ (opts : Options) (sites : List Site) (input : List ℕ) (j : Journal) (p t n u : ℕ) (line : ℕ) where
  by_request : (r : Request) → Fits opts sites j t r → spawns (act opts sites input j p t n (record { request = r; line = line })) u ≡ true → r ≡ ask.Spawn (own_object u (act opts sites input j p t n (record { request = r; line = line })))
  by_request (ask.Spawn o) f h =
      let asked : Asked = record { request = ask.Spawn o; line = line } in
      ap ask.Spawn (sym (spawner p t o u false (act opts sites input j p t n asked) (shaped_spawn opts sites input j p t n o line) (by_act opts sites input j p t n (Unit {0}) asked (λ x. tt)) h))
  by_request (ask.Make c) f h =
      let asked : Asked = record { request = ask.Make c; line = line } in
      not_both (spawns (act opts sites input j p t n asked) u) h (shaped_none is_making u (act opts sites input j p t n asked) (making_spawns u) (shaped_make opts sites input j p t n c line))
  by_request r f h =
      let asked : Asked = record { request = r; line = line } in
      not_both (spawns (act opts sites input j p t n asked) u) h (shaped_none is_plain u (act opts sites input j p t n asked) (plain_spawns u) (shaped_act opts sites input j p t n asked refl f))

-- whom an act spawns, it was asked for
pub spawned : (opts : Options) (sites : List Site) (input : List ℕ) (j : Journal) (p t n u : ℕ) (asked : Asked) → Fits opts sites j t asked.request → spawns (act opts sites input j p t n asked) u ≡ true → asked.request ≡ ask.Spawn (own_object u (act opts sites input j p t n asked))
spawned opts sites input j p t n u asked f h = by_request opts sites input j p t n u asked.line asked.request f h

shaped_some : (P : EntryKind → Bool) (a : List Entry) → Shaped P a → is_nil a ≡ false
shaped_some P [] h = absurd h
shaped_some P (e ∷ a) h = refl

some_by : (opts : Options) (sites : List Site) (input : List ℕ) (j : Journal) (p t n line : ℕ) (r : Request) → Fits opts sites j t r → is_nil (act opts sites input j p t n (record { request = r; line = line })) ≡ false
some_by opts sites input j p t n line (ask.Spawn o) f = shaped_some is_spawning _ (shaped_spawn opts sites input j p t n o line)
some_by opts sites input j p t n line (ask.Make c) f = shaped_some is_making _ (shaped_make opts sites input j p t n c line)
some_by opts sites input j p t n line r f = shaped_some is_plain _ (shaped_act opts sites input j p t n (record { request = r; line = line }) refl f)

-- an act has an entry
pub act_some : (opts : Options) (sites : List Site) (input : List ℕ) (j : Journal) (p t n : ℕ) (asked : Asked) → Fits opts sites j t asked.request → is_nil (act opts sites input j p t n asked) ≡ false
act_some opts sites input j p t n asked f = some_by opts sites input j p t n asked.line asked.request f

no_fault : (opts : Options) (sites : List Site) (input : List ℕ) (j : Journal) (p t n line : ℕ) (r : Request) → is_over (j ++ act opts sites input j p t n (record { request = r; line = line })) ≡ false → faults r ≡ false
no_fault opts sites input j p t n line (ask.Fault m) h =
    let e = (going_row opts sites input j p t n (record { request = ask.Fault m; line = line }) h).0 in
    not_both (is_over (j ++ fault p t (cost n line) m line ∷ [])) (over_fault j p t (cost n line) m line) (ap (λ a. is_over (j ++ a)) (sym e) ∙ h)
no_fault opts sites input j p t n line r h = refl

-- where the run goes on, no fault was asked
pub goes_on_behind : (opts : Options) (sites : List Site) (input : List ℕ) (j : Journal) (p t n : ℕ) (asked : Asked) → is_over (j ++ act opts sites input j p t n asked) ≡ false → faults asked.request ≡ false
goes_on_behind opts sites input j p t n asked h = no_fault opts sites input j p t n asked.line asked.request h

-- what an act takes out, it was asked for
destroyed_is : (r : Request) (t : ℕ) (j : Journal) → destroys r ≡ true → r ≡ ask.Gone (object_of t j r)
destroyed_is (ask.Gone o) t j h = refl
destroyed_is r t j h = absurd (cc h)

takes_by : (k : EntryKind) (e : Entry) (o : ℕ) → takes_object k e o ≡ true → (is_gone_by k ≡ true) × (is_silent k ≡ false) × (o ≡ e.object)
takes_by kind.Gone e o h = (refl, refl, eqb-true o e.object h)
takes_by k e o h = absurd (cc h)

taken_by : (p t o m : ℕ) (g : Bool) (a : List Entry) → AllBy p t o (Unit {0}) g a → takes_out a m ≡ true → (g ≡ true) × (m ≡ o)
taken_by p t o m g [] b h = absurd (cc h)
taken_by p t o m g (e ∷ a) b h = by (takes_object e.kind e m) refl (λ f. taken_by p t o m g a b.1 f) h
  where
    by : (c : Bool) → takes_object e.kind e m ≡ c → (takes_out a m ≡ true → (g ≡ true) × (m ≡ o)) → (c || takes_out a m) ≡ true → (g ≡ true) × (m ≡ o)
    by true f k h =
        let x = takes_by e.kind e m f in
        (b.0.gone x.0, x.2 ∙ (b.0.door x.1).0)
    by false f k h = k h

module _ (opts : Options) (sites : List Site) (input : List ℕ) (j : Journal) (p t n : ℕ) (asked : Asked) where
  pub taken_is : (m : ℕ) → takes_out (act opts sites input j p t n asked) m ≡ true → asked.request ≡ ask.Gone m
  taken_is m h =
      let x = taken_by p t (object_of t j asked.request) m (destroys asked.request) (act opts sites input j p t n asked) (by_act opts sites input j p t n (Unit {0}) asked (λ h. tt)) h in
      destroyed_is asked.request t j x.0 ∙ ap ask.Gone (sym x.1)

  -- the objects of which it is told that they are there, are there behind the act
  pub there_by : KernelRuns opts sites input j → is_over j ≡ false → MayAsk opts sites j p t n asked.request → KernelRuns opts sites input (j ++ act opts sites input j p t n asked) → is_over (j ++ act opts sites input j p t n asked) ≡ false → (there : List Bool) → AreThere there j → (step : Step) → (IsMake asked.request → (o : ℕ) → IsTold o step → has (held t (j ++ act opts sites input j p t n asked)) o ≡ true) → (o : ℕ) → ((slice_index_or there o false ≡ true) × (asked.request ≡ ask.Gone o → ⊥)) ⊎ (IsMake asked.request × IsTold o step) → has (made (j ++ act opts sites input j p t n asked)) o ≡ true
  there_by runs going may runs' going' there are step new o (inl x) =
      (law_makes opts sites input j p t n asked runs may going').stays o (are o x.0) (not_true (takes_out (act opts sites input j p t n asked) o) (λ h. x.1 (taken_is o h)))
  there_by runs going may runs' going' there are step new o (inr x) =
      law_made opts sites input (j ++ act opts sites input j p t n asked) runs' going' t o (new x.0 o x.1)
