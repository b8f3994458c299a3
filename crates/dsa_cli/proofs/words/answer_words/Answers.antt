use Rattle.dsa_cli.proofs.words.answer_words.Goals as goal
use Rattle.dsa_cli.specs.declared.options.Asked.TheVariants as asked
use Rattle.dsa_cli.specs.declared.threads.ThreadsFault.TheVariants as threads_fault
use Rattle.std.proofs.Common.{◌≡◌, ◌∙◌, List, inl, inr, rules, subst, sym, ap, map, string_bytes, arith}
use Rattle.clap.specs.{Values.{kind_of}, Kinds.{IsAmong}}
use Rattle.dsa_scenario.specs.declared.faults.ScenarioFault.TheVariants.{OutOfMemory}
use Rattle.dsa_scenario.specs.declared.watched.WatchedWriter.{WatchedWriter}
use Rattle.dsa_scenario.specs.Watched.{watched_contents}
use Rattle.dsa_serve.{specs.Dialogue.{IsStopped}, proofs.Stops.{unread_memory}}
use Rattle.clap.specs.Walk.{Row, Text}
use Rattle.dsa_cli.specs.declared.{options.Asked.{Asked}, reports.Written.{Written}}
use Rattle.dsa_cli.specs.CommandLine.{IsServeStoppedIn, IsWrittenIn, NameServe, has_friendly_form}
use Rattle.dsa_cli.proofs.Choices.{any_writing}
use Rattle.dsa_cli.specs.{CommandLine.{AsksFor, IsAskedBy, wrong_value_text}, Endings.{IsRefusal}}
use Rattle.dsa_cli.proofs.ReportCommands.{asks_high, asks_wrong, named, not_asked, other_name}
use Rattle.dsa_cli.proofs.ReportCommands.{same_dialogue, same_found}
use Rattle.dsa_cli.proofs.PlainRuns.{plain_written, plain_stopped}

pub returns-in-Err-clause-mistake : goal.returns-in-Err-clause-mistake
returns-in-Err-clause-mistake g c two =
    let shown = c.show.ensures.mistake two in
    elim c.in-Err.ensures.faults [
      | inl memory ↦ absurd (shown.0 memory)
      | inr among ↦ inl (kind_of c.in-Err.error, among, shown.1, shown.2)
    ]

pub returns-in-Ok-HighThreshold-clause-mistake : goal.returns-in-Ok-HighThreshold-clause-mistake
returns-in-Ok-HighThreshold-clause-mistake g c two =
    let asks : AsksFor (map string_bytes c.args.words.now) (asked.HighThreshold c.in-Ok-HighThreshold.load) =
    subst (λ a. AsksFor (map string_bytes c.args.words.now) a) c.in-Ok-HighThreshold.field-0-is
    c.in-Ok-HighThreshold.ensures.asked in
    inr (inl (c.in-Ok-HighThreshold.load, asks))

pub returns-in-Ok-WrongValue-clause-mistake : goal.returns-in-Ok-WrongValue-clause-mistake
returns-in-Ok-WrongValue-clause-mistake g c two =
    let asks : AsksFor (map string_bytes c.args.words.now) (asked.WrongValue c.in-Ok-WrongValue.value) =
    subst (λ a. AsksFor (map string_bytes c.args.words.now) a) c.in-Ok-WrongValue.field-0-is
    c.in-Ok-WrongValue.ensures.asked in
    inr (inr (c.in-Ok-WrongValue.value, asks))

pub returns-in-Ok-Threads-clause-threads : goal.returns-in-Ok-Threads-clause-threads
returns-in-Ok-Threads-clause-threads g c zero rows named =
    let done = c.run_workers.ensures.done zero in
    search (rules, done, named)

pub returns-in-Ok-Threads-clause-threads_failed : goal.returns-in-Ok-Threads-clause-threads_failed
returns-in-Ok-Threads-clause-threads_failed g c one rows named =
    let failed = c.run_workers.ensures.failed one in
    search (rules, failed, named)

pub returns-in-Ok-Threads-clause-threads_told : goal.returns-in-Ok-Threads-clause-threads_told
returns-in-Ok-Threads-clause-threads_told g c one rows named = c.run_workers.ensures.told one

pub returns-in-Err-clause-threads_told : goal.returns-in-Err-clause-threads_told
returns-in-Err-clause-threads_told g c one rows named =
    elim c.in-Err.ensures.faults [
      | inl memory ↦
          let kept = c.show.ensures.memory memory in
          (threads_fault.OutOfMemory, (λ other. kept.1), (λ e. absurd cc), c.show.ensures.told memory)
      | inr among ↦ absurd (subst (λ faults. IsAmong (kind_of c.in-Err.error) faults) named.0 among)
    ]

pub returns-in-Ok-Report-clause-reports_failed : goal.returns-in-Ok-Report-clause-reports_failed
returns-in-Ok-Report-clause-reports_failed g c one found named =
    let told_of : AsksFor (map string_bytes c.args.words.now) (asked.Report c.in-Ok-Report.report) =
    subst (λ a. AsksFor (map string_bytes c.args.words.now) a) c.in-Ok-Report.field-0-is c.in-Ok-Report.ensures.asked in
    let same : told_of.0 ≡ found = same_found _ _ _ told_of.1 named in
    let by : IsAskedBy found c.in-Ok-Report.report =
    subst (λ f. IsAskedBy f c.in-Ok-Report.report) same told_of.2 in
    let told = c.write_report.ensures.failed one in (
      told.0,
      elim told.1 [
        | inl all ↦ inl (c.in-Ok-Report.report, by, all)
        | inr none ↦
            inr (
              (
                none.0.0,
                λ other. elim (none.0.1 other) [
                  | inl kept ↦ inl kept
                  | inr rows ↦ inr (rows.0, (c.in-Ok-Report.report, by, rows.1))
                ],
                λ e. (c.in-Ok-Report.report, by, none.0.2 e),
              ),
              (λ long. other_name found c.in-Ok-Report.report by (none.1 long)),
              none.2,
            )
      ],
      told.2,
    )

pub returns-in-Err-clause-reports_failed : goal.returns-in-Err-clause-reports_failed
returns-in-Err-clause-reports_failed g c one found named =
    elim c.in-Err.ensures.faults [
      | inl memory ↦
          let kept = c.show.ensures.memory memory in (
            OutOfMemory,
            inr ((tt, λ other. inl kept.1, λ e. absurd cc), (λ long. absurd cc), λ e. absurd cc),
            c.show.ensures.told memory,
          )
      | inr among ↦ absurd (subst (λ faults. IsAmong (kind_of c.in-Err.error) faults) named.0 among)
    ]

-- a dialogue is written as the options that these words name say
asks_dialogue : (words : List Text) (asks : Asked) (written : Written) → asks ≡ asked.Serve written
    → AsksFor words asks → (rows : List Row) → NameServe words rows → IsWrittenIn rows written
asks_dialogue words asks written is told rows named =
    let by : AsksFor words (asked.Serve written) = subst (λ a. AsksFor words a) is told in
    subst (λ r. IsWrittenIn r written) (same_dialogue words by.0 rows by.1 named) by.2

pub returns-in-Ok-Serve-clause-serve_failed : goal.returns-in-Ok-Serve-clause-serve_failed
returns-in-Ok-Serve-clause-serve_failed g c one rows named =
    let asks = asks_dialogue (map string_bytes c.args.words.now) _ c.in-Ok-Serve.written c.in-Ok-Serve.field-0-is
    c.in-Ok-Serve.ensures.asked rows named in
    let told = c.serve_input.ensures.failed one in
    (told.0, ((c.in-Ok-Serve.written, asks, told.1.0), told.1.1), told.2)

pub returns-in-Ok-Serve-clause-serves : goal.returns-in-Ok-Serve-clause-serves
returns-in-Ok-Serve-clause-serves g c zero rows named = (
  c.in-Ok-Serve.written,
  asks_dialogue (map string_bytes c.args.words.now) _ c.in-Ok-Serve.written c.in-Ok-Serve.field-0-is
      c.in-Ok-Serve.ensures.asked rows named,
  c.serve_input.ensures.done zero,
)

pub returns-in-Err-clause-serve_failed : goal.returns-in-Err-clause-serve_failed
returns-in-Err-clause-serve_failed g c one rows named =
    elim c.in-Err.ensures.faults [
      | inl memory ↦
          let kept = c.show.ensures.memory memory in
          let had = g.R.Read.remaining c.args.reader.now in
          let held = g.O.Write.contents c.args.out.now.writer.now in (
            OutOfMemory,
            (
              any_writing rows (λ written. IsServeStoppedIn written OutOfMemory had had
                  (watched_contents g.O.Write.contents) c.args.out.now c.show.new.out) (λ written. (
                    subst (λ (w : WatchedWriter g.row.O.Denot). IsStopped (has_friendly_form written)
                        OutOfMemory had had held (g.O.Write.contents w.writer.now))
                        (sym kept.1) (unread_memory (has_friendly_form written) had held),
                    λ early. kept.1,
                  )),
              λ e. absurd cc,
            ),
            c.show.ensures.told memory,
          )
      | inr among ↦ absurd (subst (λ faults. IsAmong (kind_of c.in-Err.error) faults) named.0 among)
    ]

pub returns-in-Ok-Scenario-clause-done : goal.returns-in-Ok-Scenario-clause-done
returns-in-Ok-Scenario-clause-done g c plain zero = plain_written _ _ _ _ (c.write_text.ensures.done zero)

pub returns-in-Ok-Scenario-clause-failed : goal.returns-in-Ok-Scenario-clause-failed
returns-in-Ok-Scenario-clause-failed g c plain one =
    let told = c.write_text.ensures.failed one in
    let stopped = plain_stopped _ _ _ (watched_contents g.O.Write.contents) _ _ _ _ told.1 in
    (told.0, stopped, told.2)

pub returns-in-Ok-Report-clause-done : goal.returns-in-Ok-Report-clause-done
returns-in-Ok-Report-clause-done g c plain zero =
    let read = c.in-Ok-Report.ensures in
    not_asked _ _ _ _ read.asked read.none c.in-Ok-Report.field-0-is (λ same. cc) plain

pub returns-in-Ok-Report-clause-failed : goal.returns-in-Ok-Report-clause-failed
returns-in-Ok-Report-clause-failed g c plain one =
    let read = c.in-Ok-Report.ensures in
    not_asked _ _ _ _ read.asked read.none c.in-Ok-Report.field-0-is (λ same. cc) plain

pub returns-in-Ok-Serve-clause-done : goal.returns-in-Ok-Serve-clause-done
returns-in-Ok-Serve-clause-done g c plain zero =
    let read = c.in-Ok-Serve.ensures in
    not_asked _ _ _ _ read.asked read.none c.in-Ok-Serve.field-0-is (λ same. cc) plain

pub returns-in-Ok-Serve-clause-failed : goal.returns-in-Ok-Serve-clause-failed
returns-in-Ok-Serve-clause-failed g c plain one =
    let read = c.in-Ok-Serve.ensures in
    not_asked _ _ _ _ read.asked read.none c.in-Ok-Serve.field-0-is (λ same. cc) plain

pub returns-in-Ok-Threads-clause-done : goal.returns-in-Ok-Threads-clause-done
returns-in-Ok-Threads-clause-done g c plain zero =
    let read = c.in-Ok-Threads.ensures in
    not_asked _ _ _ _ read.asked read.none c.in-Ok-Threads.field-0-is (λ same. cc) plain

pub returns-in-Ok-Threads-clause-failed : goal.returns-in-Ok-Threads-clause-failed
returns-in-Ok-Threads-clause-failed g c plain one =
    let read = c.in-Ok-Threads.ensures in
    not_asked _ _ _ _ read.asked read.none c.in-Ok-Threads.field-0-is (λ same. cc) plain

pub returns-in-Err-clause-done : goal.returns-in-Err-clause-done
returns-in-Err-clause-done g c plain zero =
    elim c.in-Err.ensures.faults [
      | inl memory ↦ absurd (omega (arith, (c.show.ensures.memory memory).0, zero))
      | inr among ↦
          let named = named _ _ (λ empty. let never = c.in-Err.ensures.none empty in cc) plain in
          absurd (subst (λ faults. IsAmong (kind_of c.in-Err.error) faults) named.0 among)
    ]

pub returns-in-Err-clause-failed : goal.returns-in-Err-clause-failed
returns-in-Err-clause-failed g c plain one =
    elim c.in-Err.ensures.faults [
      | inl memory ↦
          let kept = c.show.ensures.memory memory in (
            OutOfMemory,
            ((tt, (λ other. kept.1), (λ e. absurd cc)), λ e. absurd cc),
            c.show.ensures.told memory,
          )
      | inr among ↦
          let named = named _ _ (λ empty. let never = c.in-Err.ensures.none empty in cc) plain in
          absurd (subst (λ faults. IsAmong (kind_of c.in-Err.error) faults) named.0 among)
    ]

pub returns-in-Err-clause-help_failed : goal.returns-in-Err-clause-help_failed
returns-in-Err-clause-help_failed g c one faulty = c.show.ensures.failed one

pub returns-in-Ok-Scenario-clause-high_threshold : goal.returns-in-Ok-Scenario-clause-high_threshold
returns-in-Ok-Scenario-clause-high_threshold g c rows named high =
    let is = asks_high _ _ rows named high c.in-Ok-Scenario.ensures.asked c.in-Ok-Scenario.ensures.range in
    let same = sym c.in-Ok-Scenario.field-0-is ∙ is.1 in
    absurd cc

pub returns-in-Ok-Report-clause-high_threshold : goal.returns-in-Ok-Report-clause-high_threshold
returns-in-Ok-Report-clause-high_threshold g c rows named high =
    let is = asks_high _ _ rows named high c.in-Ok-Report.ensures.asked c.in-Ok-Report.ensures.range in
    let same = sym c.in-Ok-Report.field-0-is ∙ is.1 in
    absurd cc

pub returns-in-Ok-Serve-clause-high_threshold : goal.returns-in-Ok-Serve-clause-high_threshold
returns-in-Ok-Serve-clause-high_threshold g c rows named high =
    let is = asks_high _ _ rows named high c.in-Ok-Serve.ensures.asked c.in-Ok-Serve.ensures.range in
    let same = sym c.in-Ok-Serve.field-0-is ∙ is.1 in
    absurd cc

pub returns-in-Ok-Threads-clause-high_threshold : goal.returns-in-Ok-Threads-clause-high_threshold
returns-in-Ok-Threads-clause-high_threshold g c rows named high =
    let is = asks_high _ _ rows named high c.in-Ok-Threads.ensures.asked c.in-Ok-Threads.ensures.range in
    let same = sym c.in-Ok-Threads.field-0-is ∙ is.1 in
    absurd cc

pub returns-in-Err-clause-high_threshold : goal.returns-in-Err-clause-high_threshold
returns-in-Err-clause-high_threshold g c rows named high =
    elim c.in-Err.ensures.faults [
      | inl memory ↦
          let kept = c.show.ensures.memory memory in
          inr (kept.0, kept.1, c.show.ensures.told memory)
      | inr among ↦ absurd (subst (λ faults. IsAmong (kind_of c.in-Err.error) faults) named.0 among)
    ]

pub returns-in-Ok-Scenario-clause-wrong_value : goal.returns-in-Ok-Scenario-clause-wrong_value
returns-in-Ok-Scenario-clause-wrong_value g c value wrong =
    let is = asks_wrong _ _ value wrong c.in-Ok-Scenario.ensures.asked in
    let same = sym c.in-Ok-Scenario.field-0-is ∙ is.1 in
    absurd cc

pub returns-in-Ok-Report-clause-wrong_value : goal.returns-in-Ok-Report-clause-wrong_value
returns-in-Ok-Report-clause-wrong_value g c value wrong =
    let is = asks_wrong _ _ value wrong c.in-Ok-Report.ensures.asked in
    let same = sym c.in-Ok-Report.field-0-is ∙ is.1 in
    absurd cc

pub returns-in-Ok-Serve-clause-wrong_value : goal.returns-in-Ok-Serve-clause-wrong_value
returns-in-Ok-Serve-clause-wrong_value g c value wrong =
    let is = asks_wrong _ _ value wrong c.in-Ok-Serve.ensures.asked in
    let same = sym c.in-Ok-Serve.field-0-is ∙ is.1 in
    absurd cc

pub returns-in-Ok-Threads-clause-wrong_value : goal.returns-in-Ok-Threads-clause-wrong_value
returns-in-Ok-Threads-clause-wrong_value g c value wrong =
    let is = asks_wrong _ _ value wrong c.in-Ok-Threads.ensures.asked in
    let same = sym c.in-Ok-Threads.field-0-is ∙ is.1 in
    absurd cc

pub returns-in-Ok-HighThreshold-clause-wrong_value : goal.returns-in-Ok-HighThreshold-clause-wrong_value
returns-in-Ok-HighThreshold-clause-wrong_value g c value wrong =
    let is = asks_wrong _ _ value wrong c.in-Ok-HighThreshold.ensures.asked in
    let same = sym c.in-Ok-HighThreshold.field-0-is ∙ is.1 in
    absurd cc

pub returns-in-Ok-WrongValue-clause-wrong_value : goal.returns-in-Ok-WrongValue-clause-wrong_value
returns-in-Ok-WrongValue-clause-wrong_value g c value wrong =
    let is = asks_wrong _ _ value wrong c.in-Ok-WrongValue.ensures.asked in
    let same = sym c.in-Ok-WrongValue.field-0-is ∙ is.1 in
    let given : c.in-Ok-WrongValue.value ≡ is.0 = cc in
    inl (subst (λ text. IsRefusal c.refuse_value.result g.E.Write.contents c.args.err.now c.refuse_value.new.err text)
    (ap wrong_value_text given ∙ is.2) c.refuse_value.ensures)

pub returns-in-Err-clause-wrong_value : goal.returns-in-Err-clause-wrong_value
returns-in-Err-clause-wrong_value g c value wrong =
    elim c.in-Err.ensures.faults [
      | inl memory ↦
          let kept = c.show.ensures.memory memory in
          inr (kept.0, kept.1, c.show.ensures.told memory)
      | inr among ↦ absurd (subst (λ faults. IsAmong (kind_of c.in-Err.error) faults) wrong.1.0 among)
    ]
