use Rattle.std.proofs.Common.{◌≡◌, ◌∙◌, sym, ap}
use Rattle.uc_resolve.specs.Resolve.{source_of}
use Rattle.uc_tree.specs.ProgramMain.{main_number, main_among}
use Rattle.uc_vproc.specs.Rest.{HasSource}
use Rattle.uc_top.proofs.Ran.{its_source, program_ran, run_ends}
use Rattle.uc_tree.specs.Numbering.{sites_of}
use Rattle.uc_sound.specs.Tables.{table_of}
use Rattle.uc_sound.proofs.SoundLemmas.{law_sound}
use Rattle.uc_site_laws.proofs.Routines.{source_named}
use Rattle.uc_state_laws.proofs.Arguments.{counted_source}
use Rattle.uc_top.proofs.program.run_code.Goals as goal

pub run_main-requires-clause-source : goal.run_main-requires-clause-source
run_main-requires-clause-source g c =
    let p = c.args.checked.now in
    let items = c.deref.ensures.value ∙ ap (λ q. q.items) (c.program.view_is ∙ c.program-program.ensures.same) in
    let number : main_number p ≡ c.in-Some.main = sym (c.in-Some.ensures.number p ∙ ap (main_among p) items) in
    let r : HasSource c.args.code.now c.in-Some.main = record { source = source_of p; is = its_source p c.args.code.now c.in-Some.main c.requires.accepted c.requires.lowered number; names = source_named p; counted = counted_source (sites_of p) (source_of p) (table_of p) (law_sound p c.requires.formed c.requires.accepted.no_break) (source_named p) } in
    λ κs outlives. r

pub ending_of-ending-requires : goal.ending_of-ending-requires
ending_of-ending-requires g c =
    let p = c.args.checked.now in
    let items = c.deref.ensures.value ∙ ap (λ q. q.items) (c.program.view_is ∙ c.program-program.ensures.same) in
    let number : main_number p ≡ c.in-Some.main = sym (c.in-Some.ensures.number p ∙ ap (main_among p) items) in
    run_ends p c.args.code.now c.args.input.now c.args.opts c.in-Some.main c.in_ok-journal.journal.items c.deref-3.result.now c.requires.accepted c.requires.lowered c.in_ok-journal.ensures.run number c.deref-3.ensures.value

pub returns : goal.returns
returns g c =
    let p = c.args.checked.now in
    let items = c.deref.ensures.value ∙ ap (λ q. q.items) (c.program.view_is ∙ c.program-program.ensures.same) in
    let number : main_number p ≡ c.in-Some.main = sym (c.in-Some.ensures.number p ∙ ap (main_among p) items) in
    program_ran p c.args.code.now c.args.input.now c.args.opts c.in-Some.main c.args.too c.in_ok-journal.journal.items c.deref-2.result.now c.deref-3.result.now c.texts.result.now c.in_ok-output.output.items c.ending_of-ending.result c.requires.accepted c.requires.lowered c.in_ok-journal.ensures.run number c.texts.ensures c.deref-2.ensures.value c.deref-3.ensures.value c.in_ok-output.ensures c.ending_of-ending.ensures
