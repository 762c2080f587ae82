-- Samples, computed by the reader of the grammar.
use Rattle.std.proofs.Common.{◌≡◌, ℕ, ◌+◌, ◌≤◌, List, [], length, subst}
use Rattle.uc_tree.specs.declared.limits.TheConstants.{PROGRAM_BYTES}
use Rattle.uc_tree.specs.Tokens.{tokens, Read}
use Rattle.uc_grammar.specs.Form.{Spells, Fails}
use Rattle.uc_grammar.specs.Grammar.{inner, faults, program_form}
use Rattle.uc_grammar.specs.Samples.{placed}
use Rattle.uc_grammar.specs.Text.{IsProgram}
use Rattle.uc_grammar.proofs.AllForms.{more_room}
use Rattle.uc_grammar.proofs.Computed.{other_program, piece_or, reading, some_levels}
use Rattle.uc_grammar.proofs.Read.{Found, Sound, read_sound}
use Rattle.uc_rules.specs.Breaks.{breaks_of}
use Rattle.uc_sound.specs.Samples.{IsWellTypedText}
use Rattle.uc_sound.specs.WellTyped.{IsTextOf}
use Rattle.uc_sound.proofs.Texts.{text_formed, law_well_typed}

pub well_typed : (text : List ℕ) → length text ≤ PROGRAM_BYTES → tokens text ≡ Read (placed text) → reading program_form (placed text) ≡ Found (length (placed text)) (piece_or other_program (reading program_form (placed text))) → breaks_of (piece_or other_program (reading program_form (placed text))) ≡ [] → IsWellTypedText text
unfolding IsProgram
well_typed text short lexed e none =
    let p = piece_or other_program (reading program_form (placed text)) in
    let spelled : Spells (inner (some_levels + 240)) program_form (placed text) 0 (length (placed text)) p = more_room 240 some_levels program_form (placed text) 0 (length (placed text)) p (subst (Sound (Spells (inner some_levels) program_form (placed text) 0) (Fails (inner some_levels) (faults some_levels) program_form (placed text) 0)) e (read_sound some_levels program_form (placed text) 0)) in
    let t : IsTextOf text p = record { short = short; list = placed text; lexed = lexed; spelled = spelled; no_break = none } in
    record { program = p; text_of = t; formed = text_formed text p t; typed = law_well_typed text p t }
