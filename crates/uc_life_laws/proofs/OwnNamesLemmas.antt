-- In each run who runs has a name of its own.
use Rattle.std.proofs.Common.{◌≡◌, ℕ, ◌==◌, ◌+◌, ◌<◌, ◌≤◌, ◌||◌, false, List, [], ◌∷◌, ◌++◌, refl, ap, ◌∙◌, arith, append_assoc}
use Rattle.std.specs.Prelude.{if◌then◌else◌}
use Rattle.std.proofs.lemmas.Bool.{ne_eqb}
use Rattle.uc_tree.specs.Source.{Source, routine_of}
use Rattle.uc_entry.specs.declared.entry.Options.{Options}
use Rattle.uc_entry.specs.declared.entry.Entry.{Entry}
use Rattle.uc_entry.specs.declared.entry.EntryKind.{EntryKind}
use Rattle.uc_entry.specs.declared.entry.EntryKind.TheVariants as kind
use Rattle.uc_acts.specs.Journal.{Journal, is_over, number, own_object}
use Rattle.uc_acts.specs.Known.{task_count, is_spawn, spawns, spawns_task}
use Rattle.uc_acts.specs.Legal.{IsNext}
use Rattle.uc_acts.specs.Acts.{act, dispatch, lone_limit}
use Rattle.uc_acts.specs.KernelRuns.{InRange}
use Rattle.uc_acts.proofs.Bounds.{over_limit}
use Rattle.uc_acts.proofs.Law.{good_whole, lawful_act}
use Rattle.uc_acts.proofs.Rows.{Lawful}
use Rattle.uc_acts.proofs.SoundLemmas.{plus, tasks_push}
use Rattle.uc_machine.specs.Quiet.{first_state}
use Rattle.uc_machine.specs.Answering.{child_of}
use Rattle.uc_meaning.specs.Runs.{World, Runs, gives, no_room, acts, begun, more, bare, world_after}
use Rattle.uc_state_laws.specs.Fitting.{RunFits}
use Rattle.uc_state_laws.proofs.Others.{run_rests, may_ask}
use Rattle.uc_state_laws.specs.Opens.{RunMeets}
use Rattle.uc_name_laws.specs.NameSteps.{Spares}
use Rattle.uc_name_laws.proofs.Homes.{no_both}
use Rattle.uc_life_laws.specs.RunningRuns.{RunLeaves}
use Rattle.uc_life_laws.proofs.Owned.{tasks_grow}
use Rattle.uc_life_laws.proofs.NamedWorlds.{run_named, known}
use Rattle.uc_life_laws.proofs.RunningWorlds.{run_runs, begins_alone}
use Rattle.uc_life_laws.specs.OwnNames.{RunOwns, LawOwnNames}
use Rattle.uc_life_laws.proofs.OwnWorlds.{own_name, elsewhere}
use Rattle.uc_life_laws.proofs.OwnRides.{ride_owns, leads_owns, start}

-- whom an act spawns is known behind it
late : (k : EntryKind) (e : Entry) (j : Journal) (u : ℕ) → IsNext k e j → task_count j + plus (is_spawn k) ≤ u → spawns_task u k e ≡ false
late kind.Spawn e j u n le = ne_eqb u (number e.a) (λ same. omega (arith, n, le, same))
late k e j u n le = refl

spawns_known : (j : Journal) (a : List Entry) (u : ℕ) → Lawful j a → task_count (j ++ a) ≤ u → spawns a u ≡ false
spawns_known j [] u l le = refl
spawns_known j (e ∷ a) u l le =
    let same = ap task_count (append_assoc j (e ∷ []) a) in
    let more = tasks_push j e in
    let rest = tasks_grow (j ++ e ∷ []) a in
    ap (λ b. b || spawns a u) (late e.kind e j u l.0.next (omega (arith, same, more, rest, le))) ∙ spawns_known (j ++ e ∷ []) a u l.1 (omega (arith, same, le))

module _ (source : Source) (input : List ℕ) (opts : Options) (range : InRange opts) where
  pub run_first : {j : Journal} {w : World} (r : Runs source input opts j w) → RunFits source input opts j w r → is_over j ≡ false → (v : ℕ) → task_count j ≤ v → w.tasks v ≡ first_state (routine_of source source.main) 0
  run_first begun f on v le = refl
  run_first (more {j} r o (gives p t h k)) f on v le =
      let same = tasks_push j (dispatch p t) in
      run_first r f.0 o v (omega (arith, le, same))
  run_first (more {j} r o (no_room p t h k)) f on v le = no_both (is_over (j ++ lone_limit ∷ [])) (over_limit j 0 0) on
  run_first (more {j} {w} r o (acts p t n s asked d)) f on v le =
      let grown = tasks_grow j (act opts source.sites input j p t n asked) in
      let old : task_count j ≤ v = omega (arith, grown, le) in
      let y = run_named source input opts range r f.0 o in
      let rests = run_rests source input opts range r f.0 o in
      let lt : t < task_count j = known source input opts range rests o y.serials y.world p t d.runs in
      let other : (v == t) ≡ false = ne_eqb v t (λ same. omega (arith, old, same, lt)) in
      let lawful = lawful_act opts source.sites input j p t n asked (good_whole opts source.sites input rests.kernel).sound (may_ask source input opts range d f.1) in
      let none : spawns (act opts source.sites input j p t n asked) v ≡ false = spawns_known j (act opts source.sites input j p t n asked) v lawful le in
      let state : (world_after source (act opts source.sites input j p t n asked) w t s).tasks v ≡ w.tasks v = ap (λ b. if b then bare s else if spawns (act opts source.sites input j p t n asked) v then child_of source (own_object v (act opts source.sites input j p t n asked)) s else w.tasks v) other ∙ ap (λ b. if b then child_of source (own_object v (act opts source.sites input j p t n asked)) s else w.tasks v) none in
      state ∙ run_first r f.0 o v old

  pub run_owns : {j : Journal} {w : World} (r : Runs source input opts j w) → RunFits source input opts j w r → RunLeaves source input opts j w r → RunMeets Spares source input opts j w r → RunOwns source input opts j w r
  run_owns begun f l h = tt
  run_owns (more r o (gives p t v le)) f l h = (run_owns r f.0 l.0 h.0, tt)
  run_owns (more r o (no_room p t v le)) f l h = (run_owns r f.0 l.0 h.0, tt)
  run_owns (more {j} {w} r o (acts p t n s asked d)) f l h =
      let y = run_named source input opts range r f.0 o in
      let x = run_runs source input opts range r f.0 o l.0 h.0 in
      let rests = run_rests source input opts range r f.0 o in
      let b = start source input opts range rests o t d.given d.told in
      (run_owns r f.0 l.0 h.0, ride_owns source j w t b.hand b.once y.serials d.rides (begins_alone source input opts range rests o y.serials y.world x p t d.runs d.given d.told) b.settled h.1)

pub law_own_names : LawOwnNames
law_own_names source input opts j w r range fits on leaves spares =
    let y = run_named source input opts range r fits on in
    let x = run_runs source input opts range r fits on leaves spares in
    let rests = run_rests source input opts range r fits on in
    let sound = (good_whole opts source.sites input rests.kernel).sound in
    let later : (v : ℕ) → task_count j ≤ v → w.tasks v ≡ first_state (routine_of source source.main) 0 = run_first source input opts range r fits on in
    record {
      rests = λ t lt. own_name source sound y.serials y.world x later t lt;
      elsewhere = λ t lt. elsewhere source sound y.serials y.world x later t lt;
      later = later;
      comes = λ t s c k.
          let b = start source input opts range rests on t c.given c.told in
          leads_owns source j w t b.hand b.once y.serials c.leads (begins_alone source input opts range rests on y.serials y.world x c.processor t c.runs c.given c.told) b.settled k;
      rides = run_owns source input opts range r fits leaves spares;
    }
