-- Names are given in turn.
use Rattle.dsa_book.specs.declared.event.Event.TheVariants as event
use Rattle.std.proofs.Common.{◌≡◌, ℕ, ◌+◌, Option, Some, None, refl, sym, subst, arith}
use Rattle.std.specs.Prelude.{⊤}
use Rattle.dsa_base.proofs.Tables.{table1, table3}
use Rattle.dsa_desc.specs.declared.Descriptor.{Descriptor}
use Rattle.dsa_store.specs.{Content.{HeldEntry}, declared.entry.Cell.{Cell}}
use Rattle.dsa_book.specs.declared.answer.{Ticket.{Ticket}, Cause.{Cause, TheVariants.{NotEnabled, WrongKind, AtLimit}}}
use Rattle.dsa_book.specs.declared.answer.FetchAnswer.TheVariants.{AllFetched}
use Rattle.dsa_book.specs.declared.answer.Reply.{Reply, TheVariants.{Submit, Fetch}}
use Rattle.dsa_book.specs.declared.event.{Event.{Event}, Portal.{Portal}, Kind.{Kind, TheVariants.{Enqcmd, Movdir64b}}}
use Rattle.dsa_book.specs.declared.note.BatchNote.{BatchNote}
use Rattle.dsa_book.specs.{Choice.{Choice, chosen_cell}, State.{State}, Submit.{after_refusal, after_accept, submit}}
use Rattle.dsa_book.specs.Work.{note_at, batch_on, is_all_fetched, after_fetch, fetch_of, fetch_for}
use Rattle.dsa_book.{proofs.Gains.{named_by}, specs.Machine.{intake_of, reply_of, full_reply}}
use Rattle.dsa_book.proofs.{Nexts.{next-each}, EqualReplies.{equal-replies}}
use Rattle.dsa_accounts.proofs.Totals.{name_of, next-names}
use Rattle.dsa_device.{specs.Running.{Running, after_answer}, proofs.Steps.{answered_by_cases}}
use Rattle.dsa_scenario.specs.Run.{given_by_reply}

-- a ticket that is given has the name n
abbrev pub IsNamed : ℕ → Option Ticket → Type 0
IsNamed n None = ⊤
IsNamed n (Some ticket) = ticket.name ≡ n

-- the reply gives at most the next name
record GivesNext (s : State) (reply : Reply) : Type 0 where
  given : IsNamed (name_of s) (given_by_reply reply)

-- ---- the machine's replies

turned_away : (s : State) (q : ℕ) (kind : Kind) (cause : Cause)
    → GivesNext s (Submit (after_refusal (intake_of s) q kind cause).0)
turned_away s q (Enqcmd pasid) cause = record { given = tt }
turned_away s q Movdir64b cause = record { given = tt }

submits : (s : State) (q : ℕ) (portal : Portal) (kind : Kind) (d : Descriptor) (cell : Cell)
    → GivesNext s (Submit (submit (intake_of s) q portal kind d cell).0)
submits s q portal kind d cell =
    table3 (λ r. GivesNext s (Submit r.0)) _ _ _
    (after_refusal (intake_of s) q kind NotEnabled) (after_refusal (intake_of s) q kind WrongKind)
    (after_refusal (intake_of s) q kind AtLimit) (after_accept (intake_of s) q kind d cell)
    (λ x. turned_away s q kind NotEnabled) (λ x. turned_away s q kind WrongKind) (λ x. turned_away s q kind AtLimit)
    (λ x y z. record { given = refl })

fetch_of-gives : (s : State) (e : ℕ) (d : Descriptor) (cell : Cell) (note : BatchNote) (o : Option HeldEntry)
    → GivesNext s (Fetch (fetch_of s.work e d cell note o).0)
fetch_of-gives s e d cell note None = record { given = tt }
fetch_of-gives s e d cell note (Some batch) =
    table1 (λ r. GivesNext s (Fetch r.0)) (is_all_fetched note) (AllFetched, s.work)
    (after_fetch s.work e d cell note batch.1) (λ x. record { given = tt }) (λ x. record { given = refl })

fetch_for-gives : (s : State) (e : ℕ) (d : Descriptor) (cell : Cell) (o : Option BatchNote)
    → GivesNext s (Fetch (fetch_for s.work e d cell o).0)
fetch_for-gives s e d cell None = record { given = tt }
fetch_for-gives s e d cell (Some note) = fetch_of-gives s e d cell note (batch_on s.work e note)

replies : (s : State) (e : Event) (choice : Choice) → GivesNext s (reply_of s e choice).0
replies s (event.Submit client queue portal kind desc) choice = submits s queue portal kind desc (chosen_cell choice)
replies s (event.Fetch engine desc) choice = fetch_for-gives s engine desc (chosen_cell choice) (note_at s.work engine)
replies s _ choice = record { given = tt }

-- ---- a step of a device

-- what an answer says of names: at most the next one is given, and then another is next
pub record GivesInTurn (d : Running) (reply : Reply) (after : Running) : Type 0 where
  pub given : IsNamed (name_of d.state) (given_by_reply reply)
  pub next : name_of after.state ≡ name_of d.state + named_by reply

full-gives : (d : Running) (e : Event) → GivesInTurn d (full_reply e) d
full-gives d event.Poll = record { given = tt; next = omega arith }
full-gives d _ = record { given = tt; next = omega arith }

pub gives-in_turn : (d after : Running) (e : Event) (r : Reply) → after_answer d e r ≡ Some after
    → GivesInTurn d r after
gives-in_turn d after e r a = answered_by_cases (GivesInTurn d r) d after e r a
    (λ room full. subst (λ x. GivesInTurn d x d) (sym (equal-replies r (full_reply e) full)) (full-gives d e))
    (λ s room n.
    let told = next-each (λ x s'. GivesNext d.state x) d.state s e r (λ choice may told. replies d.state e choice) n in
    record { given = told.given; next = next-names d.state s e r n })
