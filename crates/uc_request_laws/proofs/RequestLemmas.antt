-- What programs that break no rule ask fits, but for hands, owners, clusters and processors.
use Rattle.std.proofs.Common.{◌≡◌, ℕ, false, List, [], refl}
use Rattle.uc_tree.specs.Programs.{Program, Site}
use Rattle.uc_tree.specs.Numbering.{sites_of}
use Rattle.uc_entry.specs.declared.entry.Options.{Options}
use Rattle.uc_entry.specs.declared.request.Request.{Request}
use Rattle.uc_entry.specs.declared.request.Request.TheVariants as ask
use Rattle.uc_acts.specs.Journal.{Journal}
use Rattle.uc_acts.specs.Known.{has}
use Rattle.uc_resolve.specs.Resolve.{source_of}
use Rattle.uc_rules.specs.Breaks.{breaks_of}
use Rattle.uc_sound.specs.SoundFormed.{IsFormed}
use Rattle.uc_sound.specs.Tables.{table_of}
use Rattle.uc_sound.proofs.SoundLemmas.{law_sound}
use Rattle.uc_sound.proofs.Texts.{text_formed}
use Rattle.uc_step_laws.specs.Hands.{keys}
use Rattle.uc_state_laws.specs.ByHand.{FitsByHand}
use Rattle.uc_state_laws.proofs.ByHandLemmas.{law_by_hand}
use Rattle.uc_state_laws.proofs.DeepWorlds.{law_calls}
use Rattle.uc_site_laws.specs.Naming.{NamesKnown}
use Rattle.uc_state_laws.proofs.NamedWorlds as named_worlds
use Rattle.uc_site_laws.proofs.Routines.{source_named}
use Rattle.uc_state_laws.specs.Counted.{CountedSource}
use Rattle.uc_state_laws.specs.Marked.{EventKnown}
use Rattle.uc_request_laws.specs.RequestLaws.{LawEvents, LawNames}
use Rattle.uc_request_laws.specs.Holds.{HoldsByHand, LawHolds, LawTexts}
use Rattle.uc_state_laws.proofs.Arguments.{counted_source}
use Rattle.uc_state_laws.proofs.MarkedWorlds as marked_worlds

counted : (p : Program) → IsFormed p → breaks_of p ≡ [] → CountedSource (source_of p)
counted p f n = counted_source (sites_of p) (source_of p) (table_of p) (law_sound p f n) (source_named p)

pub law_names : LawNames
law_names p = named_worlds.law_names (sites_of p) (source_of p) (source_named p)

pub law_events : LawEvents
law_events p formed ok input opts range j w r f on q t n s asked d =
    marked_worlds.law_events (source_of p) (counted p formed ok) input opts range j w r f on q t n s asked d

module _ (opts : Options) (sites : List Site) (j : Journal) (t : ℕ) (hand : List ℕ) where
  fits_by : (r : Request) → ((o m : ℕ) → r ≡ ask.Call o m → has hand o ≡ false) → NamesKnown sites r → EventKnown r → HoldsByHand opts j t hand r → FitsByHand opts sites j t hand r
  fits_by (ask.Call o m) c n e h = (c o m refl, h, n)
  fits_by (ask.Accept o site mask) c n e h = (h, n.0, n.1)
  fits_by (ask.Raise o event x y) c n e h = (h.0, h.1, e)
  fits_by (ask.Make class) c n e h = h
  fits_by (ask.Made o) c n e h = h
  fits_by (ask.Spawn o) c n e h = h
  fits_by (ask.Leave o failed) c n e h = h
  fits_by (ask.Wait o d k) c n e h = h
  fits_by (ask.Signal o d) c n e h = h
  fits_by (ask.SignalBlock o d) c n e h = h
  fits_by (ask.Empty o d) c n e h = h
  fits_by (ask.Front o d) c n e h = h
  fits_by (ask.ClusterEnd k) c n e h = h
  fits_by (ask.Processor k) c n e h = h
  fits_by (ask.ProcessorEnd q) c n e h = h
  fits_by (ask.Migrate k) c n e h = h
  fits_by ask.End c n e h = h
  fits_by (ask.Gone o) c n e h = h
  fits_by r c n e h = tt

pub law_holds : LawHolds
law_holds p formed ok input opts range by =
    law_by_hand (source_of p) input opts range (λ j w r f on q t n s asked d. fits_by opts (sites_of p) j t (keys s.env.hand) asked.request (law_calls (source_of p) input opts j w r range f on q t n s asked d) (law_names p input opts j w r q t n s asked d) (law_events p formed ok input opts range j w r f on q t n s asked d) (by j w r f on q t n s asked d))

pub law_texts : LawTexts
law_texts text p t input opts range by = law_holds p (text_formed text p t) t.no_break input opts range by
