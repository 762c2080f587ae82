use Rattle.std.proofs.Common.{◌≡◌, ◌∷◌, codes, inl, inr, sym, ◌∙◌, map, string_bytes}
use Rattle.uc_words.proofs.Bridge.{no_items, says, denies}
use Rattle.uc_words.proofs.Whole.{goes_of, bad_of, bad_none, bad_command, no_leading}
use Rattle.uc_words.proofs.words.read_words.Goals as goal

pub returns-in_default-clause-fault : goal.returns-in_default-clause-fault
returns-in_default-clause-fault c = rw (no_items c.args.words.now c.in_default.ensures.cases) bad_none

pub returns-in-Ok-clause-only : goal.returns-in-Ok-clause-only
returns-in-Ok-clause-only c other l =
    let whole : c.args.words.now ≡ c.in-Some.command.now ∷ c.in-Some.rest.now = c.in-Some.ensures.cases.0 in
    let run : string_bytes c.in-Some.command.now ≡ codes "run" = sym c.as_str-command.ensures.value ∙ says c.eq.result _ _ c.eq.ensures c.if-eq.true in
    c.in-Ok.ensures.only other (goes_of (string_bytes c.in-Some.command.now) (map string_bytes c.in-Some.rest.now) other run (rw whole at l))

pub returns-in-Err-clause-fault : goal.returns-in-Err-clause-fault
returns-in-Err-clause-fault c =
    let whole : c.args.words.now ≡ c.in-Some.command.now ∷ c.in-Some.rest.now = c.in-Some.ensures.cases.0 in
    let run : string_bytes c.in-Some.command.now ≡ codes "run" = sym c.as_str-command.ensures.value ∙ says c.eq.result _ _ c.eq.ensures c.if-eq.true in
    rw (whole, run) (bad_of (map string_bytes c.in-Some.rest.now) _ c.in-Err.ensures.fault)

pub returns-in-Err-read_name-clause-fault : goal.returns-in-Err-read_name-clause-fault
returns-in-Err-read_name-clause-fault c =
    let whole : c.args.words.now ≡ c.in-Some.command.now ∷ c.in-Some.rest.now = c.in-Some.ensures.cases.0 in
    rw whole (c.in-Err-read_name.ensures.fault (string_bytes c.in-Some.command.now) (inl (sym c.as_str-command.ensures.value ∙ says c.eq-2.result _ _ c.eq-2.ensures c.if-eq-2.true)))

pub returns-in-Err-read_name-2-clause-fault : goal.returns-in-Err-read_name-2-clause-fault
returns-in-Err-read_name-2-clause-fault c =
    let whole : c.args.words.now ≡ c.in-Some.command.now ∷ c.in-Some.rest.now = c.in-Some.ensures.cases.0 in
    rw whole (c.in-Err-read_name-2.ensures.fault (string_bytes c.in-Some.command.now) (inr (sym c.as_str-command.ensures.value ∙ says c.eq-3.result _ _ c.eq-3.ensures c.if-eq-3.true)))

pub returns-clause-fault : goal.returns-clause-fault
returns-clause-fault c =
    let whole : c.args.words.now ≡ c.in-Some.command.now ∷ c.in-Some.rest.now = c.in-Some.ensures.cases.0 in
    let text : c.as_str-command.result.now ≡ string_bytes c.in-Some.command.now = c.as_str-command.ensures.value in
    rw whole
    (bad_command (string_bytes c.in-Some.command.now) (map string_bytes c.in-Some.rest.now)
    (no_leading (string_bytes c.in-Some.command.now) (λ e. denies c.eq.result _ _ c.eq.ensures c.if-eq.false (text ∙ e)) (λ e. denies c.eq-2.result _ _ c.eq-2.ensures c.if-eq-2.false (text ∙ e)) (λ e. denies c.eq-3.result _ _ c.eq-3.ensures c.if-eq-3.false (text ∙ e)) (λ e. denies c.eq-4.result _ _ c.eq-4.ensures c.if-eq-4.false (text ∙ e)) (λ e. denies c.eq-5.result _ _ c.eq-5.ensures c.if-eq-5.false (text ∙ e))))
