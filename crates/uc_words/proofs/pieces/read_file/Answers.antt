use Rattle.std.proofs.Common.{sym, ◌∙◌, map, string_bytes}
use Rattle.uc_words.specs.Rest.{parts_of}
use Rattle.uc_words.proofs.Bridge.{was_told, not_told}
use Rattle.uc_words.proofs.Faults.{leads_file, file_twice, file_unnamed}
use Rattle.uc_words.proofs.pieces.read_file.Goals as goal

pub returns-then-is_some-clause-fault : goal.returns-then-is_some-clause-fault
returns-then-is_some-clause-fault c =
    file_twice (parts_of c.args.told) c.args.word.now (map string_bytes c.args.behind.now) _ c.requires.no_number c.requires.no_journal c.requires.no_input (was_told c.args.told.file (sym c.is_some.ensures ∙ c.if-is_some.true)) c.fault_at.ensures

pub returns-then-not-is_name-clause-fault : goal.returns-then-not-is_name-clause-fault
returns-then-not-is_name-clause-fault c =
    file_unnamed (parts_of c.args.told) c.args.word.now (map string_bytes c.args.behind.now) _ c.requires.no_number c.requires.no_journal c.requires.no_input (sym c.is_name.ensures ∙ c.if-not-is_name.true) c.fault_at-then-not-is_name.ensures

pub returns-clause-leads : goal.returns-clause-leads
returns-clause-leads c =
    leads_file (parts_of c.args.told) c.args.word.now (map string_bytes c.args.behind.now) c.requires.no_number c.requires.no_journal c.requires.no_input (not_told c.args.told.file (sym c.is_some.ensures ∙ c.if-is_some.false)) (sym c.is_name.ensures ∙ c.if-not-is_name.false)
