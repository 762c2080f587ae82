-- All rules of the language on one visit, and the breaks of a program.
use Rattle.std.specs.Prelude.{List, [], ◌∷◌, ◌++◌, not, ◌&&◌, Contains}
use Rattle.uc_tree.specs.declared.pos.Pos.{Pos}
use Rattle.uc_tree.specs.Numbering.{is_public}
use Rattle.uc_tree.specs.Programs.{Program}
use Rattle.uc_rules.specs.declared.rule.Rule.{Rule}
use Rattle.uc_rules.specs.declared.rule.Rule.TheVariants.{S2, S4, S5, S6, S11, S14, S16, S17, S18, S19, S22}
use Rattle.uc_rules.specs.declared.rule.Break.{Break}
use Rattle.uc_rules.specs.Sorts.{is_coroutine, sort_of}
use Rattle.uc_rules.specs.Visits.{Visit, AtMember, AtArgument, AtReturn, AtVariable, AtRaise, AtCaught, AtInit, AtInits, AtSig, AtParam, AtField, AtRoutine, AtMark, AtClass, AtConstant, AtItem, AtProgram}
use Rattle.uc_rules.specs.ProgramVisits.{program_visits, home_member}
use Rattle.uc_rules.specs.Entities.{fits}
use Rattle.uc_rules.specs.Asked.{unless, asked, of_sort}
use Rattle.uc_rules.specs.ExpressionBreaks.{undeclared, is_new, is_maybe_new, main_called, no_scalar, no_place, no_routine, no_loop, length_breaks, length_value_breaks, start_breaks, return_breaks, may_name, bad_clause, no_event, is_no_event, raise_breaks, no_handler, no_stream}
use Rattle.uc_rules.specs.ClassBreaks.{is_new_field, fields_at, is_new_routine, home_leads_back, is_well_mained, sig_breaks, param_breaks, has_room, constant_breaks, is_field_sort, init_count_breaks, may_init, inits_breaks, is_well_built, is_well_marked, is_sound_event}
use Rattle.uc_rules.specs.ItemBreaks.{main_breaks, item_name, item_pos, is_new_item, item_breaks, is_sound_member}
use Rattle.uc_rules.specs.OwnerBreaks.{unshared_reference, field_outside, called_outside, lone_condition, unbound_reference, unowned_argument, copied_object, no_target, misplaced}

-- S2
abbrev pub declared_twice : Visit → List Break
declared_twice (AtVariable env b d) = unless (is_new env d.name) S2 d.pos
declared_twice (AtParam env x) = unless (is_new env x.name) S2 x.pos
declared_twice (AtCaught env p name) = unless (is_maybe_new env name) S2 p
declared_twice (AtField env c a b d field) = unless (is_new_field c field (fields_at c field.member) d.name) S2 d.pos
declared_twice (AtRoutine env c proto sig member) = unless (is_new_routine c member sig) S2 sig.pos
declared_twice (AtItem p x place) = unless (is_new_item p x place (item_name x)) S2 (item_pos x)
declared_twice _ = []

-- S3
abbrev pub no_main : Visit → List Break
no_main (AtProgram p) = main_breaks p
no_main _ = []

-- S4
abbrev pub within_itself : Visit → List Break
within_itself (AtField env c a b d field) = unless (not (home_leads_back env.program env.around.home b d)) S4 d.pos
within_itself _ = []

-- S5
abbrev pub badly_defined : Visit → List Break
badly_defined (AtRoutine env c proto sig member) = unless (is_sound_member env.program c proto sig member) S5 sig.pos
badly_defined (AtItem p x place) = item_breaks p x place
badly_defined _ = []

-- S6
abbrev pub badly_mained : Visit → List Break
badly_mained (AtClass env c place) = unless (is_well_mained c) S6 c.pos
badly_mained _ = []

-- S11
abbrev pub bad_argument : Visit → List Break
bad_argument (AtArgument p x w) = asked w (fits x) S11 p
bad_argument (AtParam env x) = param_breaks env x
bad_argument _ = []

-- S12
abbrev pub bad_return : Visit → List Break
bad_return (AtReturn env p value) = return_breaks env.around.returns value p
bad_return (AtSig env sig) = sig_breaks env sig
bad_return _ = []

-- S14
abbrev pub no_length : Visit → List Break
no_length (AtVariable env b d) = length_breaks env d.by_ref d.len d.pos
no_length (AtField env c a b d field) = length_breaks env d.by_ref d.len d.pos
no_length (AtClass env c place) = unless (has_room env.program c place) S14 c.pos
no_length _ = []

-- S15
abbrev pub no_constant : Visit → List Break
no_constant (AtVariable env b d) = length_value_breaks env d.len
no_constant (AtField env c a b d field) = length_value_breaks env d.len
no_constant (AtConstant env c) = constant_breaks env c
no_constant _ = []

-- S16
abbrev pub bad_start : Visit → List Break
bad_start (AtVariable env b d) = start_breaks env b d
bad_start (AtField env c a b d field) = of_sort (sort_of env.program b) (is_field_sort env.program d) S16 d.pos
bad_start (AtInit env x last) = init_count_breaks env x (home_member env.program env.around.home x.name)
bad_start _ = []

-- S17
abbrev pub bad_init : Visit → List Break
bad_init (AtInit env x last) = unless (may_init last (home_member env.program env.around.home x.name)) S17 x.pos
bad_init (AtInits env sig inits) = inits_breaks env sig inits
bad_init (AtClass env c place) = unless (is_well_built env.program c) S17 c.pos
bad_init _ = []

-- S18
abbrev pub not_open : Visit → List Break
not_open (AtMember env sign called name w) = asked w (may_name env name) S18 sign
not_open (AtField env c a b d field) = unless (not (is_coroutine c.kind && is_public a)) S18 d.pos
not_open _ = []

-- S19
abbrev pub badly_marked : Visit → List Break
badly_marked (AtMark env c m) = unless (is_well_marked c m) S19 m.pos
badly_marked _ = []

-- S22
abbrev pub bad_event : Visit → List Break
bad_event (AtVariable env b d) = of_sort (sort_of env.program b) is_no_event S22 d.pos
bad_event (AtField env c a b d field) = of_sort (sort_of env.program b) is_no_event S22 d.pos
bad_event (AtClass env c place) = unless (is_sound_event env.program c place) S22 c.pos
bad_event (AtRaise env p name n) = raise_breaks env p name n
bad_event _ = []

-- the breaks at one visit: of the rules on names, types and places, and of those on who owns what
abbrev pub breaks_at : Visit → List Break
breaks_at v =
    undeclared v ++ (declared_twice v ++ (no_main v ++ (within_itself v ++ (badly_defined v ++ (badly_mained v
    ++ (main_called v ++ (no_scalar v ++ (no_place v ++ (no_routine v ++ (bad_argument v ++ (bad_return v
    ++ (no_loop v ++ (no_length v ++ (no_constant v ++ (bad_start v ++ (bad_init v ++ (not_open v
    ++ (badly_marked v ++ (bad_clause v ++ (no_event v ++ (bad_event v ++ (no_handler v ++ (no_stream v
    ++ (unshared_reference v ++ (field_outside v ++ (called_outside v ++ (lone_condition v ++ (unbound_reference v ++ (unowned_argument v
    ++ (copied_object v ++ (no_target v ++ misplaced v)))))))))))))))))))))))))))))))

abbrev pub breaks_among : List Visit → List Break
breaks_among [] = []
breaks_among (v ∷ vs) = breaks_at v ++ breaks_among vs

-- all breaks of a program
abbrev pub breaks_of : Program → List Break
breaks_of p = breaks_among (program_visits p)

abbrev pub Breaks : Program → Rule → Pos → Type 0
Breaks p rule place = Contains (breaks_of p) (record { rule = rule; pos = place })
