use Rattle.dsa_serve.proofs.session.Session.explain.Goals as goal
use Rattle.std.proofs.Common.{◌≡◌, ◌++◌, refl, sym, ap, ◌∙◌, append_assoc, string_bytes}
use Rattle.dsa_scenario.specs.{Run.{answered_by}, Steps.{visit}}
use Rattle.dsa_explain_lines.specs.{Lines.{line_with}, Parts.{part_of}}
use Rattle.dsa_conform.specs.Seen.{seen_as, shows}
use Rattle.dsa_serve.specs.{Requests.{Explain}, Answers.{difference}}
use Rattle.dsa_serve.proofs.Sessions.{stepped, explained_line}

pub returns : goal.returns
returns g c =
    let it = c.in_ok-entry.ensures in
    let entry = c.in_ok-entry.field-0.entry in
    let seen = seen_as c.args.seen.now in
    let number = c.args.self.now.number in
    let asked = c.event_for-asked.result in
    let part : c.deref-2.result.now ≡ part_of c.args.self.now.device (answered_by entry) =
    c.deref-2.ensures ∙ c.in_ok-add_part.ensures
    ∙ ap (λ l. l ++ part_of c.args.self.now.device asked) c.new-part.ensures.bytes
    ∙ ap (λ a. part_of c.args.self.now.device a) (sym it.closest.answers) in
    let line = line_with c.deref-2.result.now number entry in (
      entry,
      λ caps capacity requests records written h. rw c.in_ok-number.ensures.more
          (stepped caps capacity requests records (Explain c.args.action seen) (c.args.action, seen) number
          c.args.self.now.device _ _ _ c.args.self.now.told written _ _
          (difference (shows seen entry) ++ line) entry asked refl
          (λ before t. c.event_for-asked.ensures before (rw c.deref.ensures.value t))
          it.closest c.in_ok-note_ticket.ensures
          (c.in_ok-add_line.ensures ∙ ap (λ l. l ++ line) (c.in_ok-add_difference.ensures
          ∙ ap (λ b. string_bytes c.args.text.now ++ difference b) it.shown)
          ∙ append_assoc (string_bytes c.args.text.now) (difference (shows seen entry)) line) (
            explained_line c.args.self.now.device c.args.self.now.told c.args.action seen
                (visit number c.args.self.now.device entry c.follow_closest.new.device)
                ∙ ap (λ p. difference (shows seen entry) ++ line_with p number entry) (sym part),
            refl,
          )
          ((record { number_is = refl; before = refl; leads = it.closest.leads }, tt), refl) h),
      c.in_ok-note_own.ensures,
    )
