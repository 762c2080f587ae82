-- What the code of an accepted program and its run come to.
use Rattle.std.proofs.Common.{◌≡◌, ◌⊎◌, inl, inr, ℕ, Bool, true, List, ◌++◌, refl, sym, ap, ◌∙◌, subst}
use Rattle.uc_tree.specs.Programs.{Program}
use Rattle.uc_tree.specs.Numbering.{texts_of}
use Rattle.uc_tree.specs.Source.{Source}
use Rattle.uc_tree.specs.ProgramMain.{main_number}
use Rattle.uc_resolve.specs.Resolve.{source_of}
use Rattle.uc_code.specs.Codes.{Code}
use Rattle.uc_code.specs.Lowered.{Lowered}
use Rattle.uc_entry.specs.declared.entry.Options.{Options}
use Rattle.uc_acts.specs.Journal.{Journal, is_ending}
use Rattle.uc_acts.specs.Texts.{printed}
use Rattle.uc_top.specs.Accepted.{IsAccepted}
use Rattle.uc_top.specs.declared.endings.Ending.{Ending}
use Rattle.uc_top.specs.Endings.{EndsWith, IsEnded}
use Rattle.uc_top.specs.Commands.{ProgramRan, told_text}
use Rattle.uc_top.proofs.MainLemmas.{main_there}
use Rattle.uc_entry.specs.declared.entry.EntryKind.{EntryKind}
use Rattle.uc_entry.specs.declared.entry.EntryKind.TheVariants as kind
use Rattle.uc_entry.specs.declared.entry.Entry.{Entry}
use Rattle.uc_kernel.specs.Calls.{EndsRun}
use Rattle.uc_vproc.specs.Rest.{IsSource}
use Rattle.uc_vproc.specs.Runs.{IsRunOf}

-- the kinds of entries that end runs
abbrev IsLast : EntryKind → Type 0
IsLast k = (k ≡ kind.Done) ⊎ (k ≡ kind.Fault) ⊎ (k ≡ kind.Deadlock) ⊎ (k ≡ kind.NoProcessor) ⊎ (k ≡ kind.Limit)

ending_kind : (k : EntryKind) → is_ending k ≡ true → IsLast k
ending_kind kind.Done h = inl refl
ending_kind kind.Fault h = inr (inl refl)
ending_kind kind.Deadlock h = inr (inr (inl refl))
ending_kind kind.NoProcessor h = inr (inr (inr (inl refl)))
ending_kind kind.Limit h = inr (inr (inr (inr refl)))
ending_kind k h = absurd (cc h)

is_ended : (j : Journal) (last : Entry) → EndsRun j last → IsEnded j
is_ended j last e = record { before = e.before; last = last; is = e.last; kind = ending_kind last.kind e.ends }

-- the source of an accepted program has this main
pub its_source : (p : Program) (code : Code) (main : ℕ) → IsAccepted p → Lowered (source_of p) code → main_number p ≡ main → IsSource code main (source_of p)
its_source p code main accepted lowered number =
    let m = main_there p accepted.no_break in record { lowered = lowered; main_is = number; routine = m.routine; there = m.there }

-- the last entry of the run is an ending
pub run_ends : (p : Program) (code : Code) (input : List ℕ) (opts : Options) (main : ℕ) (journal told : Journal) → IsAccepted p → Lowered (source_of p) code → ((source : Source) → IsSource code main source → IsRunOf source input opts journal) → main_number p ≡ main → told ≡ journal → IsEnded told
run_ends p code input opts main journal told accepted lowered run number e =
    let r = run (source_of p) (its_source p code main accepted lowered number) in subst IsEnded (sym e) (is_ended journal r.last r.ended)

pub program_ran : (p : Program) (code : Code) (input : List ℕ) (opts : Options) (main : ℕ) (too : Bool) (journal seen told : Journal) (texts : List (List ℕ)) (output : List ℕ) (ending : Ending) → IsAccepted p → Lowered (source_of p) code → ((source : Source) → IsSource code main source → IsRunOf source input opts journal) → main_number p ≡ main → texts ≡ code.texts → seen ≡ journal → told ≡ journal → output ≡ printed texts seen ++ told_text too seen → EndsWith told ending → ProgramRan p input opts too journal output ending
program_ran p code input opts main too journal seen told texts output ending accepted lowered run number t s e prints ends = record {
  accepted = accepted;
  run = (run (source_of p) (its_source p code main accepted lowered number)).run;
  ends = subst (λ j. EndsWith j ending) e ends;
  prints = prints ∙ ap (λ x. printed x seen ++ told_text too seen) (t ∙ lowered.texts) ∙ ap (λ j. printed (texts_of p) j ++ told_text too j) s;
}
