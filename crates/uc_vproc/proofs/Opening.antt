-- A run that opens.
use Rattle.std.proofs.Common.{◌≡◌, ℕ, zero, suc, ◌==◌, ◌≤◌, inl, Bool, true, false, List, [], ◌∷◌, Option, Some, None, refl, sym, ap, ◌∙◌, subst, arith}
use Rattle.std.proofs.lemmas.Bool.{eqb-true}
use Rattle.std.specs.Prelude.{if◌then◌else◌, slice_get, slice_index_or}
use Rattle.uc_tree.specs.Source.{Source, routine_of, routine_or_none}
use Rattle.uc_tree.specs.Programs.{Site}
use Rattle.uc_entry.specs.declared.entry.Options.{Options}
use Rattle.uc_acts.specs.Journal.{begin}
use Rattle.uc_acts.specs.Queues.{cluster_count, processor_count, running}
use Rattle.uc_acts.specs.KernelRuns.{InRange, begun}
use Rattle.uc_machine.specs.Quiet.{first_state, no_members}
use Rattle.uc_code.specs.Codes.{Code}
use Rattle.uc_code.specs.Layout.{laid_of}
use Rattle.uc_frames.specs.Machine.{Machine, Members, with_hand}
use Rattle.uc_frames.specs.PaceInvariant.{IdlesAt}
use Rattle.uc_frames.specs.Stands.{Stands}
use Rattle.uc_step.specs.Starts.{Starts}
use Rattle.uc_frames.specs.StandsByParts.{Alike}
use Rattle.uc_step.specs.WeightFalls.{Keeps}
use Rattle.uc_meaning.specs.Runs.{first_world, begun as begun_with}
use Rattle.uc_state_laws.proofs.Ticks.{left_begin}
use Rattle.uc_kernel.specs.KernelState.{Kept}
use Rattle.uc_kernel.specs.Calls.{Opened}
use Rattle.uc_kernel.proofs.Moving.{running_silent}
use Rattle.uc_vproc.specs.declared.step.Step.TheVariants.{Idle}
use Rattle.uc_vproc.specs.Makers.{Notes, nobody, Manned}
use Rattle.uc_vproc.specs.Rest.{HasSource, IsSource, IsHome, IsTask}
use Rattle.uc_vproc.specs.declared.registry.Registry.{Registry}
use Rattle.uc_vproc.specs.Registries.{IsOpening, Tells}
use Rattle.uc_vproc.specs.Desks.{Keeping, no_fields}
use Rattle.uc_vproc.proofs.MakersLemmas.{manned_push}
use Rattle.uc_vproc.proofs.Parts.{born_task}

none_runs : (p : ℕ) → running p [] ≡ []
unfolding running
none_runs p = refl

running_first : (opts : Options) (p : ℕ) → running p (begin opts ∷ []) ≡ []
running_first opts p = running_silent p [] (begin opts) (λ u. refl) (λ u. refl) ∙ none_runs p

none_manned : Manned []
none_manned [] x after e = absurd (cc e)
none_manned (b ∷ before) x after e = absurd (cc e)

-- what is known of a kernel that opens
abbrev opened_as : Options → List Site → List ℕ → (ℕ → Option (Option Machine)) → (ℕ → Option Members) → Kept (Option Machine) Members
opened_as opts sites input v m = record { journal = begin opts ∷ []; sites = sites; opts = opts; input = input; abandoned = false; values = v; members = m }

opened_is : (opts : Options) (sites : List Site) (input : List ℕ) (first : Option Machine) (own : Members) (k : Kept (Option Machine) Members) → Opened sites opts input first own k → opened_as opts sites input k.values k.members ≡ k
opened_is opts sites input first own k o =
    let journal = sym o.journal in
    let sites_are = sym o.sites_are in
    let opts_are = sym o.opts_are in
    let input_is = sym o.input_is in
    let wanted = sym o.wanted in
    λ i. record { journal = journal i; sites = sites_are i; opts = opts_are i; input = input_is i; abandoned = wanted i; values = k.values; members = k.members }

module _ (code : Code) (main : ℕ) (opts : Options) (input : List ℕ) (first : Machine) (sourced : HasSource code main) (stands : (source : Source) → IsSource code main source → IsTask code first ((first_world source).tasks 0)) (kept : Keeps code (with_hand [] first)) where
  value_by : (source : Source) (is : IsSource code main source) (b : Bool) (t : ℕ) (x : Option (Option Machine)) (v : Machine) → (t == 0) ≡ b → ((t == 0) ≡ true → x ≡ Some (Some first)) → ((t == 0) ≡ false → x ≡ None) → x ≡ Some (Some v) → IsTask code v ((first_world source).tasks t)
  value_by source is true t x v e f h q = let same : first ≡ v = cc (sym (f e) ∙ q) in subst (λ y. IsTask code y ((first_world source).tasks 0)) same (stands source is)
  value_by source is false t x v e f h q = absurd (cc (sym (h e) ∙ q))

  kept_by : (b : Bool) (t : ℕ) (x : Option (Option Machine)) (v : Machine) → (t == 0) ≡ b → ((t == 0) ≡ true → x ≡ Some (Some first)) → ((t == 0) ≡ false → x ≡ None) → x ≡ Some (Some v) → Keeps code (with_hand [] v)
  kept_by true t x v e f h q = let same : first ≡ v = cc (sym (f e) ∙ q) in subst (λ y. Keeps code (with_hand [] y)) same kept
  kept_by false t x v e f h q = absurd (cc (sym (h e) ∙ q))

  ended_by : (b : Bool) (x : Option (Option Machine)) → (b ≡ true → x ≡ Some (Some first)) → (b ≡ false → x ≡ None) → x ≡ Some None → ⊥
  ended_by true x f h q = cc (sym (f refl) ∙ q)
  ended_by false x f h q = cc (sym (h refl) ∙ q)

  home_by : (b : Bool) (x : Option Members) → (b ≡ true → x ≡ Some no_fields) → (b ≡ false → x ≡ None) → Alike (IsHome code) x (if b then Some no_members else None)
  home_by true x f h = subst (λ y. Alike (IsHome code) y (Some no_members)) (sym (f refl)) (record { values = refl; serial = refl; parked = tt })
  home_by false x f h = subst (λ y. Alike (IsHome code) y None) (sym (h refl)) tt

  idle_by : (b : Bool) (x : Option Members) (m : Members) → (b ≡ true → x ≡ Some no_fields) → (b ≡ false → x ≡ None) → x ≡ Some m → IdlesAt (laid_of code) code.routines m
  idle_by true x m f h q = let same : no_fields ≡ m = cc (sym (f refl) ∙ q) in subst (IdlesAt (laid_of code) code.routines) same tt
  idle_by false x m f h q = absurd (cc (sym (h refl) ∙ q))

  none_there : (o : ℕ) → slice_index_or (false ∷ []) o false ≡ true → ⊥
  none_there zero e = cc e
  none_there (suc o) e = cc e

  first_clusters : 1 ≡ cluster_count (begin opts ∷ [])
  unfolding cluster_count
  first_clusters = refl

  first_processors : opts.processors ≡ processor_count opts (begin opts ∷ [])
  unfolding processor_count
  first_processors = omega arith

  told_first : (r : Registry) → IsOpening opts.processors r → Tells opts (begin opts ∷ []) r
  told_first r x = record {
    objects = λ o h. absurd (none_there o (ap (λ l. slice_index_or l o false) (sym x.objects) ∙ h));
    clusters = let c = x.clusters in let n = first_clusters in omega (arith, c, n);
    processors = let c = x.processors_are in let n = first_processors in omega (arith, c, n);
  }

  pub opens : (k : Kept (Option Machine) Members) (ns : Notes) (room : ℕ) (r : Registry) → InRange opts → Opened code.sites opts input (Some first) no_fields k → ns ≡ (nobody, Idle) ∷ [] → opts.entries ≤ room → IsOpening opts.processors r → Keeping code main k ns room r
  opens k ns room r range o e le one =
      subst (λ x. Keeping code main x ns room r) (opened_is opts code.sites input (Some first) no_fields k o) (subst (λ x. Keeping code main (opened_as opts code.sites input k.values k.members) x room r) (sym e) (record {
        sourced = sourced;
        range = range;
        sites = refl;
        counted = refl;
        room_is = le;
        runs = begun;
        manned = manned_push [] ((begin opts, Idle), nobody) none_manned refl;
        prefix = λ source is. record { world = first_world source; runs = begun_with };
        steady = λ f g. record {
          kept = record {
            values = λ t v q. kept_by (t == 0) t (k.values t) v refl (λ h. ap k.values (eqb-true t 0 h) ∙ o.value) (o.no_value t) q;
            members = λ x m q. idle_by (x == 0) (k.members x) m (λ h. ap k.members (eqb-true x 0 h) ∙ o.members) (o.no_members x) q;
          };
          ended = λ t q. absurd (ended_by (t == 0) (k.values t) (λ h. ap k.values (eqb-true t 0 h) ∙ o.value) (o.no_value t) q);
          out = λ p t r. absurd (cc (sym (running_first opts p) ∙ r));
          stands = λ source is. record {
            world = first_world source;
            runs = begun_with;
            fitting = tt;
            values = λ t v q. value_by source is (t == 0) t (k.values t) v refl (λ h. ap k.values (eqb-true t 0 h) ∙ o.value) (o.no_value t) q;
            members = λ x. inl (home_by (x == 0) (k.members x) (λ h. ap k.members (eqb-true x 0 h) ∙ o.members) (o.no_members x));
            hands = λ p t g r f. absurd (cc (sym (running_first opts p) ∙ r));
          };
        };
        told = λ f g. told_first r one;
        left = λ g. left_begin opts;
      }))

-- the first task stands where the code is that of a source with this main
pub first_task : (code : Code) (main : ℕ) (work v : Machine) (ms : List (ℕ × Members)) (source : Source) → IsSource code main source → Starts code main 0 (Some work) → work ≡ with_hand ms v → IsTask code v (first_state (routine_of source source.main) 0)
first_task code main work v ms source is s e =
    let there : slice_get source.routines main ≡ Some is.routine = subst (λ j. slice_get source.routines j ≡ Some is.routine) is.main_is is.there in
    let first : Stands (laid_of code) work (first_state is.routine 0) = s source is.routine is.lowered there in
    subst (λ r. IsTask code v (first_state r 0)) (sym (ap routine_or_none is.there)) (born_task code (with_hand ms v) (first_state is.routine 0) (subst (λ m. Stands (laid_of code) m (first_state is.routine 0)) e first))
