-- What names only what was made fits, where that is not gone.
use Rattle.std.proofs.Common.{◌≡◌, ℕ, ◌<◌, inl, ⊎_elim, Bool, true, false, sym, subst}
use Rattle.uc_entry.specs.declared.entry.Options.{Options}
use Rattle.uc_entry.specs.declared.request.Request.{Request}
use Rattle.uc_entry.specs.declared.request.Request.TheVariants as ask
use Rattle.uc_acts.specs.Journal.{Journal}
use Rattle.uc_acts.specs.Known.{object_count}
use Rattle.uc_resolve.specs.Resolve.{source_of}
use Rattle.uc_sound.specs.Tables.{table_of}
use Rattle.uc_typing.specs.Typing.{Table, object_ty}
use Rattle.uc_life_laws.specs.Things.{Few}
use Rattle.uc_life_laws.specs.Knowing.{Names}
use Rattle.uc_life_laws.specs.KnownRuns.{Meets, NamesMade}
use Rattle.uc_life_laws.proofs.KnownWorlds.{law_known_runs}
use Rattle.uc_life_laws.proofs.NamedAsks.{asks_at}
use Rattle.uc_life_laws.proofs.Endings.{law_endings}
use Rattle.uc_request_laws.specs.Lasting.{IsLasting, TellsMade, LawLasting}
use Rattle.uc_request_laws.specs.Remaining.{IsRemaining}
use Rattle.uc_request_laws.proofs.ApartLemmas.{law_apart_runs}
use Rattle.uc_request_laws.proofs.RemainingLemmas.{law_remaining}

-- what is named was made

module _ (t : Table) (few : Few) (opts : Options) (j : Journal) (tells : TellsMade few opts j) where
  called : (c : ℕ) (b : Bool) (o : ℕ) → few.numbers (object_ty b c) o ≡ true → o < object_count j
  called c true o h = tells.raws c o h
  called c false o h = tells.objects c o h

  pub names_made : (r : Request) → Names t few r → NamesMade opts j r
  names_made (ask.Call o m) h = called h.0 h.1 o h.2
  names_made (ask.Raise o m x y) h = tells.objects h.0 o h.1
  names_made (ask.ClusterEnd c) h = tells.clusters c h
  names_made (ask.Processor c) h = tells.clusters c h
  names_made (ask.ProcessorEnd q) h = tells.processors q h
  names_made (ask.Migrate c) h = tells.clusters c h
  names_made r h = tt

remains : (opts : Options) (j : Journal) (r : Request) → NamesMade opts j r → IsLasting j r → IsRemaining opts j r
remains opts j (ask.Call o m) n l = record { made = n; not_gone = l }
remains opts j (ask.Raise o event x y) n l = (record { made = n; not_gone = l.0 }, l.1)
remains opts j (ask.ClusterEnd c) n l = n
remains opts j (ask.Processor c) n l = n
remains opts j (ask.ProcessorEnd q) n l = n
remains opts j (ask.Migrate c) n l = n
remains opts j r n l = tt

pub law_lasting : LawLasting
law_lasting p formed ok input opts range lasts =
    law_remaining p formed ok input opts range (λ j w r f on q t n s asked d.
    let l = lasts j w r f on q t n s asked d in
    let x = l.1 in
    let all = law_endings.tested p formed ok x.few x.raws input opts range j w r f on x.below x.main x.met in
    let rides = all.rides q t n s asked d x.meets in
    let known = law_known_runs p formed ok x.few input opts range j w r f on x.below x.main all.runs in
    let made : NamesMade opts j asked.request = ⊎_elim (λ e. subst (NamesMade opts j) (sym e) tt) (λ a. names_made (table_of p) x.few opts j x.tells asked.request (known.names t a.state (record { given = d.given; processor = q; runs = d.runs; told = d.told; leads = a.leads }) a.meets a.here asked.request a.after a.asks)) (asks_at (Meets (table_of p) x.few) (source_of p) d.rides rides) in
    (inl (remains opts j asked.request made l.0), law_apart_runs.runs p formed ok x.few input opts range j w r f x.below x.main all.runs x.was_apart, law_apart_runs.rides p formed ok x.few input opts range j w r f on x.below x.main all.runs x.was_apart q t n s asked d rides x.apart))
