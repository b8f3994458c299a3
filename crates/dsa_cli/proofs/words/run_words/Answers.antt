use Rattle.dsa_cli.proofs.words.run_words.Goals as goal
use Rattle.std.proofs.Common.{◌≡◌, ◌∙◌, ap, inl, inr, rules}
use Rattle.dsa_cli.proofs.OnTheWay.{cut_with, begun_with}

pub returns-clause-done : goal.returns-clause-done
returns-clause-done g c plain zero =
    let done = c.answer_words.ensures.done plain zero in
    search (rules, done)

pub returns-clause-threads : goal.returns-clause-threads
returns-clause-threads g c zero rows named =
    let done = c.answer_words.ensures.threads zero rows named in
    search (rules, done)

pub returns-clause-failed : goal.returns-clause-failed
returns-clause-failed g c plain one =
    let told = c.answer_words.ensures.failed plain one in
    let stopped = told.1.0 in (
      told.0,
      (
        stopped.0,
        λ other.
            let same : c.answer_words.new.out.writer.now ≡ c.args.out.now =
            ap (λ watched. watched.writer.now) (stopped.1 other) ∙ c.new-out.ensures.writer in
            search rules,
        λ e.
            let cut = stopped.2 e in
            search (rules, cut),
      ),
    )

pub returns-clause-threads_failed : goal.returns-clause-threads_failed
returns-clause-threads_failed g c one rows named =
    elim (c.answer_words.ensures.threads_failed one rows named) [
      | inl kept ↦
          let same : c.answer_words.new.out.writer.now ≡ c.args.out.now =
          ap (λ watched. watched.writer.now) kept ∙ c.new-out.ensures.writer in
          inl (search rules)
      | inr cut ↦ inr (search (rules, cut))
    ]

pub returns-clause-refused : goal.returns-clause-refused
returns-clause-refused g c two =
    let both = c.answer_words.ensures.refused two in
    let same : c.answer_words.new.out.writer.now ≡ c.args.out.now =
    ap (λ watched. watched.writer.now) both.0 ∙ c.new-out.ensures.writer in
    (search rules, both.1)

pub returns-clause-mistake : goal.returns-clause-mistake
returns-clause-mistake g c = c.answer_words.ensures.mistake

pub returns-clause-quiet : goal.returns-clause-quiet
returns-clause-quiet g c zero =
    let same : c.answer_words.new.err.writer.now ≡ c.args.err.now =
    ap (λ watched. watched.writer.now) (c.answer_words.ensures.quiet.0 zero) ∙ c.new-err.ensures.writer in
    search rules

pub returns-clause-statuses : goal.returns-clause-statuses
returns-clause-statuses g c = c.answer_words.ensures.statuses

pub returns-clause-reports : goal.returns-clause-reports
returns-clause-reports g c zero found named =
    let done = c.answer_words.ensures.reports zero found named in
    elim done.2 [
      | inl all ↦
          let more = all.4 in
          (done.0, done.1, inl (all.0, all.1, all.2, all.3, search (rules, more)))
      | inr long ↦ let none = long.0 in absurd cc
    ]

pub returns-clause-reports_failed : goal.returns-clause-reports_failed
returns-clause-reports_failed g c one found named =
    let told = c.answer_words.ensures.reports_failed one found named in (
      told.0,
      elim told.1 [
        | inl all ↦
            elim all.2 [
              | inl whole ↦
                  let more = whole.4 in
                  inl (all.0, all.1, inl (whole.0, whole.1, whole.2, whole.3, search (rules, more)))
              | inr long ↦
                  let more = long.1.3 in
                  inl (all.0, all.1, inr (long.0, (long.1.0, long.1.1, long.1.2, search (rules, more))))
            ]
        | inr none ↦
            let stopped = none.0 in
            inr (
              (
                stopped.0,
                λ other. elim (stopped.1 other) [
                  | inl kept ↦
                      let same : c.answer_words.new.out.writer.now ≡ c.args.out.now =
                      ap (λ watched. watched.writer.now) kept ∙ c.new-out.ensures.writer in
                      inl (search rules)
                  | inr rows ↦
                      let begun = rows.1 in
                      inr (
                        rows.0,
                        (begun.0, begun.1, begun_with begun.0 _ _ _ _ _ _ begun.2 (λ text more. search (rules, more))),
                      )
                ],
                λ e.
                    let cut = stopped.2 e in
                    (cut.0, cut.1, cut_with cut.0 _ _ _ _ _ _ cut.2 (λ text more. search (rules, more))),
              ),
              none.1,
            )
      ],
    )

pub returns-clause-serves : goal.returns-clause-serves
returns-clause-serves g c zero rows named =
    let done = c.answer_words.ensures.serves zero rows named in
    search (rules, done)

pub returns-clause-serve_failed : goal.returns-clause-serve_failed
returns-clause-serve_failed g c one rows named =
    let told = c.answer_words.ensures.serve_failed one rows named in
    let by = told.1.0 in
    let stopped = by.2.0 in (
      told.0,
      (
        by.0,
        by.1,
        (
          search (rules, stopped),
          λ early.
              let same : c.answer_words.new.out.writer.now ≡ c.args.out.now =
              ap (λ watched. watched.writer.now) (by.2.1 early) ∙ c.new-out.ensures.writer in
              search rules,
        ),
      ),
    )

pub returns-clause-high_threshold : goal.returns-clause-high_threshold
returns-clause-high_threshold g c rows named high =
    elim (c.answer_words.ensures.high_threshold rows named high) [
      | inl two ↦ inl two
      | inr memory ↦
          let same : c.answer_words.new.out.writer.now ≡ c.args.out.now =
          ap (λ watched. watched.writer.now) memory.1 ∙ c.new-out.ensures.writer in
          inr (memory.0, search rules)
    ]

pub returns-clause-wrong_value : goal.returns-clause-wrong_value
returns-clause-wrong_value g c value wrong =
    elim (c.answer_words.ensures.wrong_value value wrong) [
      | inl refused ↦ inl refused.status
      | inr memory ↦
          let same : c.answer_words.new.out.writer.now ≡ c.args.out.now =
          ap (λ watched. watched.writer.now) memory.1 ∙ c.new-out.ensures.writer in
          inr (memory.0, search rules)
    ]
