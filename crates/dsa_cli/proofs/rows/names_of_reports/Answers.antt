use Rattle.dsa_cli.proofs.rows.names_of_reports.Goals as goal
use Rattle.std.proofs.Common.{codes, Option, inl, inr, refl, lit<, lit≤, ap, arith}
use Rattle.std.specs.Option.{option_map_or}
use Rattle.dsa_draw.specs.declared.range.StepRange.{StepRange}
use Rattle.clap.proofs.OnLiterals.{clap_on_literals}
use Rattle.dsa_cli.proofs.Choices.{first_given, first_left_out, lines_form, table_form, when_given, when_left_out}
use Rattle.dsa_cli.proofs.DecidedLoads.{said_bounds}
use Rattle.dsa_cli.proofs.LinesChosen.{none_chosen}
use Rattle.dsa_cli.proofs.ReportNames.{same_first, no_report}

pub returns-clause-check : goal.returns-clause-check
unfolding clap_on_literals
returns-clause-check c = inl refl

pub returns-clause-explain : goal.returns-clause-explain
unfolding clap_on_literals
returns-clause-explain c = inr (inl refl)

pub returns-clause-trace : goal.returns-clause-trace
unfolding clap_on_literals
returns-clause-trace c = inr (inr (inl refl))

pub returns-clause-count : goal.returns-clause-count
unfolding clap_on_literals
returns-clause-count c = inr (inr (inr (inl refl)))

pub returns-clause-draw : goal.returns-clause-draw
unfolding clap_on_literals
returns-clause-draw c = inr (inr (inr (inr (inl refl))))

pub returns-clause-conform : goal.returns-clause-conform
unfolding clap_on_literals
returns-clause-conform c = inr (inr (inr (inr (inr (inl refl)))))

pub returns-clause-expand : goal.returns-clause-expand
unfolding clap_on_literals
returns-clause-expand c = inr (inr (inr (inr (inr (inr (inl refl))))))

pub returns-clause-explore : goal.returns-clause-explore
unfolding clap_on_literals
returns-clause-explore c = inr (inr (inr (inr (inr (inr (inr refl))))))

pub returns-clause-asks_check : goal.returns-clause-asks_check
unfolding clap_on_literals
returns-clause-asks_check c = (refl, record { strict = when_left_out refl; form = lines_form refl refl refl })

pub returns-clause-asks_strict_check : goal.returns-clause-asks_strict_check
unfolding clap_on_literals
returns-clause-asks_strict_check c = (refl, record { strict = when_given refl; form = lines_form refl refl refl })

pub returns-clause-asks_json_check : goal.returns-clause-asks_json_check
unfolding clap_on_literals
returns-clause-asks_json_check c = (refl, record { strict = when_left_out refl; form = first_given refl })

pub returns-clause-asks_source : goal.returns-clause-asks_source
unfolding clap_on_literals
returns-clause-asks_source c = (
  refl,
  record { strict = when_left_out refl; form = first_left_out refl (first_left_out refl (first_given refl)) },
)

pub returns-clause-asks_color : goal.returns-clause-asks_color
unfolding clap_on_literals
returns-clause-asks_color c =
    (refl, record { strict = when_left_out refl; form = first_left_out refl (first_given refl) })

pub returns-clause-no_source : goal.returns-clause-no_source
unfolding clap_on_literals
returns-clause-no_source c asked = let same = ((asked.1.form.left_out refl).left_out refl).given refl in cc

pub returns-clause-no_strict_check : goal.returns-clause-no_strict_check
unfolding clap_on_literals
returns-clause-no_strict_check c asked = let same = asked.1.strict.left_out refl in cc

pub returns-clause-no_plain_check : goal.returns-clause-no_plain_check
unfolding clap_on_literals
returns-clause-no_plain_check c asked = let same = asked.1.strict.given refl in cc

pub returns-clause-asks_trace : goal.returns-clause-asks_trace
unfolding clap_on_literals
returns-clause-asks_trace c = (refl, table_form refl refl refl refl, when_left_out refl)

pub returns-clause-asks_chrome : goal.returns-clause-asks_chrome
unfolding clap_on_literals
returns-clause-asks_chrome c = (refl, first_given refl, when_given refl)

pub returns-clause-no_chrome : goal.returns-clause-no_chrome
unfolding clap_on_literals
returns-clause-no_chrome c asked = let same = (asked.1.left_out refl).given refl in cc

pub returns-clause-serve : goal.returns-clause-serve
returns-clause-serve c named = no_report (codes "serve") (lit< tt) (lit< tt) named

pub returns-clause-other_report : goal.returns-clause-other_report
unfolding clap_on_literals
returns-clause-other_report c asked = omega (arith, same_first asked.0)

pub returns-clause-asks_json : goal.returns-clause-asks_json
unfolding clap_on_literals
returns-clause-asks_json c = (refl, first_left_out refl (first_given refl), when_left_out refl)

pub returns-clause-asks_seen_json : goal.returns-clause-asks_seen_json
unfolding clap_on_literals
returns-clause-asks_seen_json c = (refl, first_left_out refl (first_given refl), when_given refl)

pub returns-clause-asks_explain : goal.returns-clause-asks_explain
unfolding clap_on_literals
returns-clause-asks_explain c = (refl, none_chosen _ refl refl refl, when_left_out refl)

pub returns-clause-asks_draw : goal.returns-clause-asks_draw
unfolding clap_on_literals
returns-clause-asks_draw c = (refl, refl, when_left_out refl)

pub returns-clause-asks_steps : goal.returns-clause-asks_steps
unfolding clap_on_literals
returns-clause-asks_steps c = (refl, refl, when_left_out refl)

pub returns-clause-no_other_steps : goal.returns-clause-no_other_steps
unfolding clap_on_literals
returns-clause-no_other_steps c asked =
    omega (arith, ap (λ (o : Option StepRange). option_map_or (λ range. range.first) o 0) asked.1)

pub returns-clause-asks_conform : goal.returns-clause-asks_conform
unfolding clap_on_literals
returns-clause-asks_conform c = (refl, when_left_out refl, when_left_out refl)

pub returns-clause-asks_all : goal.returns-clause-asks_all
unfolding clap_on_literals
returns-clause-asks_all c = (refl, when_given refl, when_left_out refl)

pub returns-clause-asks_friendly : goal.returns-clause-asks_friendly
unfolding clap_on_literals
returns-clause-asks_friendly c = (refl, when_left_out refl, when_given refl)

pub returns-clause-no_friendly : goal.returns-clause-no_friendly
unfolding clap_on_literals
returns-clause-no_friendly c asked = let same = asked.2.left_out refl in cc

pub returns-clause-asks_explore : goal.returns-clause-asks_explore
unfolding clap_on_literals
returns-clause-asks_explore c = (refl, said_bounds _ _ refl refl, refl, refl, refl, refl)

pub returns-clause-asks_show : goal.returns-clause-asks_show
unfolding clap_on_literals
returns-clause-asks_show c = (refl, said_bounds _ _ refl refl, refl, refl)

pub returns-clause-asks_json_lines : goal.returns-clause-asks_json_lines
unfolding clap_on_literals
returns-clause-asks_json_lines c = (refl, said_bounds _ _ refl refl, refl, refl, refl, refl)

pub returns-clause-asks_a_table : goal.returns-clause-asks_a_table
unfolding clap_on_literals
returns-clause-asks_a_table c = (refl, said_bounds _ _ refl refl, refl, refl, refl, refl)

pub returns-clause-json_is_no_table : goal.returns-clause-json_is_no_table
unfolding clap_on_literals
returns-clause-json_is_no_table c asked = let same = asked.3 in cc

pub returns-clause-a_table_is_no_json : goal.returns-clause-a_table_is_no_json
unfolding clap_on_literals
returns-clause-a_table_is_no_json c asked = let same = asked.3 in cc

pub returns-clause-shows_no_row_in_json : goal.returns-clause-shows_no_row_in_json
unfolding clap_on_literals
returns-clause-shows_no_row_in_json c asked = let none = asked.3 in cc

pub returns-clause-shows_no_table : goal.returns-clause-shows_no_table
unfolding clap_on_literals
returns-clause-shows_no_table c asked = let none = asked.2 in cc

pub returns-clause-no_row : goal.returns-clause-no_row
unfolding clap_on_literals
returns-clause-no_row c asked = let none = asked.2 in cc

pub returns-clause-other_row : goal.returns-clause-other_row
unfolding clap_on_literals
returns-clause-other_row c asked = let other = asked.2 in cc

pub returns-clause-other_bounds : goal.returns-clause-other_bounds
unfolding clap_on_literals
returns-clause-other_bounds c asked =
    omega (arith, asked.1.states (codes "7") refl (lit< tt, (lit< tt, tt)) (lit≤ tt) (lit≤ tt))

pub returns-clause-other_key_bytes : goal.returns-clause-other_key_bytes
unfolding clap_on_literals
returns-clause-other_key_bytes c asked =
    omega (arith, asked.1.key_bytes (codes "9") refl (lit< tt, (lit< tt, tt)) (lit≤ tt) (lit≤ tt))

pub returns-clause-asks_wide : goal.returns-clause-asks_wide
unfolding clap_on_literals
returns-clause-asks_wide c =
    (refl, first_left_out refl (first_left_out refl (first_left_out refl (first_given refl))), when_left_out refl)

pub returns-clause-asks_changes : goal.returns-clause-asks_changes
unfolding clap_on_literals
returns-clause-asks_changes c =
    (refl, first_left_out refl (first_left_out refl (first_given refl)), when_left_out refl)

pub returns-clause-asks_seen : goal.returns-clause-asks_seen
unfolding clap_on_literals
returns-clause-asks_seen c = (refl, none_chosen _ refl refl refl, when_given refl)

pub returns-clause-no_own_run : goal.returns-clause-no_own_run
unfolding clap_on_literals
returns-clause-no_own_run c asked = let same = asked.2.given refl in cc

pub returns-clause-no_seen_run : goal.returns-clause-no_seen_run
unfolding clap_on_literals
returns-clause-no_seen_run c asked = let same = asked.2.left_out refl in cc

pub returns-clause-other_run : goal.returns-clause-other_run
unfolding clap_on_literals
returns-clause-other_run c asked = let same = asked.2.given refl in cc

pub returns-clause-no_table : goal.returns-clause-no_table
unfolding clap_on_literals
returns-clause-no_table c asked = let same = (asked.1.left_out refl).given refl in cc

pub returns-clause-other_form : goal.returns-clause-other_form
unfolding clap_on_literals
returns-clause-other_form c asked =
    let same = (((asked.1.left_out refl).left_out refl).left_out refl).left_out refl in
    cc
