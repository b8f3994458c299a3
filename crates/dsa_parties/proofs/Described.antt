-- Each move from a good world brings in what its label says.
use Rattle.std.proofs.Common.{◌≡◌, ℕ, true, List, Option, Some, refl, sym, ap, ◌∙◌, subst, arith}
use Rattle.std.proofs.Common.{slice_get}
use Rattle.std.specs.Prelude.{unwrap_or, option_and_then}
use Rattle.std.proofs.lemmas.Option.{same_Some}
use Rattle.dsa_regs.specs.declared.Caps.{Caps}
use Rattle.dsa_book.specs.declared.{event.Event.{Event}, note.BatchNote.{BatchNote}, event.Step.{Step}}
use Rattle.dsa_book.specs.declared.event.Event.TheVariants.{Submit, Dispatch, Fetch, Start, Finish, Issue, Poll}
use Rattle.dsa_book.specs.declared.event.Event.TheVariants.{WriteQueue, WriteGroup, ClearError}
use Rattle.dsa_book.specs.{State.{State}, Work.{note_at}, Machine.{replay}}
use Rattle.dsa_laws.proofs.Histories.{replay-well_formed}
use Rattle.dsa_keys.specs.Labels.{Labels, with_next_label}
use Rattle.dsa_keys.specs.Short.{IsDescribed, BringsDescribed, described_entry}
use Rattle.dsa_keys.specs.{Key.{labelled_entry}, Steps.{next_by_label}}
use Rattle.dsa_keys.specs.Parties.{world_with, world_after_offer, world_after}
use Rattle.dsa_book.specs.declared.answer.Reply.{Reply}
use Rattle.dsa_keys.proofs.Short.{move-described}
use Rattle.std.proofs.Common.{None, option_map}
use Rattle.dsa_keys.specs.{Parties.{Offer, World, offer_at, labels_for}, Steps.{IsLabelled}}
use Rattle.dsa_keys.proofs.{Known.{known-below}, SameSteps.{named-other, named-next}}
use Rattle.dsa_parties.specs.declared.places.{ClientTurn.{ClientTurn}, Move.{Move}, NextMember.{NextMember}}
use Rattle.dsa_parties.specs.declared.script.{Script.{Script}, ScriptEntry.{ScriptEntry}, Submission.{Submission}}
use Rattle.dsa_parties.specs.declared.script.Origin.{TheVariants.{Submitted, Fetched}}
use Rattle.dsa_parties.specs.Scripts.{submission_at, member_label}
use Rattle.dsa_parties.specs.Described.{no_submission, submitted_description, description_of, description_from}
use Rattle.dsa_parties.specs.Described.{described_by}
use Rattle.dsa_parties.specs.{Standing.{Standing}, Offers.{parties_of, submission_event, bare_offer}}
use Rattle.dsa_parties.proofs.Asked.{AskOf, asks_turn, asks_member, asks_bare, IsNextMember, asks}
use Rattle.dsa_parties.proofs.Fits.{is-submitted, has-members, member-at}
use Rattle.dsa_parties.proofs.{Moves.{IsBare}, Stands.{fits}}
use Rattle.dsa_parties.proofs.{ClientTurns.{IsTurn, is-turn, turn-submission}, Worlds.{note-named}}

-- what a label of a submission says
said-submitted : (script : Script) (label : ℕ) (entry : ScriptEntry) (s : Submission)
    → slice_get script.entries.items label ≡ Some entry → entry.origin ≡ Submitted s
    → described_by script label ≡ submitted_description entry.desc s
said-submitted script label entry s at origin =
    ap (description_from script.entries.items) at ∙ ap (description_of script.entries.items entry.desc) origin

-- and what that of a member says, by the submission of its batch
said-fetched : (script : Script) (label batch : ℕ) (entry : ScriptEntry) (s : Submission)
    → slice_get script.entries.items label ≡ Some entry → entry.origin ≡ Fetched batch
    → submission_at script.entries.items batch ≡ Some s
    → described_by script label ≡ record { desc = entry.desc; queue = s.queue; kind = s.kind; member = true }
said-fetched script label batch entry s at origin is =
    ap (description_from script.entries.items) at ∙ ap (description_of script.entries.items entry.desc) origin
    ∙ ap (λ o. record (submitted_description entry.desc (unwrap_or o no_submission)) { member = true }) is

module _ (caps : Caps) (script : Script) (w : World Standing) (h : IsLabelled caps w.labels w.state) where
  abbrev Brings : Offer → Type 0
  Brings o = BringsDescribed (described_by script) (labels_for w o) w.state o.event

  turn-brings : (c : ℕ) (turn : ClientTurn) → IsTurn script w.places c turn
      → Brings (record { event = submission_event turn; label = turn.place.next })
  turn-brings c turn t =
      let x = is-submitted script.entries.items turn.place.next turn.submission (turn-submission t) in
      let same = same_Some x.entry t.entry (sym x.at ∙ t.at_entry) in
      let desc : x.entry.desc ≡ turn.desc = ap (λ (e : ScriptEntry). e.desc) same ∙ t.desc in
      ap (described_by script) (named-next w.labels w.state.work.setup.next_name turn.place.next)
      ∙ said-submitted script turn.place.next x.entry turn.submission x.at x.origin
      ∙ ap (λ d. submitted_description d turn.submission) desc

  member-brings : (e : ℕ) (note : BatchNote) (next : NextMember) → note_at w.state.work e ≡ Some note
      → IsNextMember script.entries.items w.labels note next
      → Brings (record { event = Fetch e next.desc; label = next.label })
  member-brings e note next at is other also =
      let m = has-members script.entries.items (w.labels note.batch) (omega (arith, is.left)) in
      let x = is-submitted script.entries.items (w.labels note.batch) m.submission m.at in
      let row = member-at script.entries.items (fits script).order (w.labels note.batch) note.fetched m.submission
      m.at (omega (arith, is.left, m.count)) in
      let same = same_Some row.entry is.entry
      (sym row.at ∙ ap (slice_get script.entries.items) (sym is.label) ∙ is.at) in
      let desc : row.entry.desc ≡ next.desc = ap (λ (e : ScriptEntry). e.desc) same ∙ is.desc in
      let batch : labels' other.batch ≡ w.labels note.batch =
      ap (λ (n : BatchNote). labels' n.batch) (same_Some other note (sym also ∙ at))
      ∙ named-other w.labels w.state.work.setup.next_name next.label note.batch
      (note-named caps w.labels w.state h e note at) in
      let of : described_by script (labels' other.batch) ≡ submitted_description x.entry.desc m.submission =
      ap (described_by script) batch
      ∙ said-submitted script (w.labels note.batch) x.entry m.submission x.at x.origin in
      ap (described_by script) (named-next w.labels w.state.work.setup.next_name next.label ∙ is.label)
      ∙ said-fetched script (member_label (w.labels note.batch) note.fetched) (w.labels note.batch) row.entry
      m.submission row.at row.origin m.at
      ∙ (λ i. record {
        desc = desc i;
        queue = (sym of i).queue;
        kind = (sym of i).kind;
        member = true;
      })
    where
      labels' : Labels
      labels' = with_next_label w.labels w.state next.label

  bare-brings : (labels : Labels) (event : Event) → IsBare event
      → BringsDescribed (described_by script) labels w.state event
  bare-brings labels (Submit client queue portal kind desc) bare = absurd bare
  bare-brings labels (Fetch engine desc) bare = absurd bare
  bare-brings labels (Dispatch engine) bare = tt
  bare-brings labels (Start engine) bare = tt
  bare-brings labels (Finish engine ticket outcome) bare = tt
  bare-brings labels (Issue command) bare = tt
  bare-brings labels Poll bare = tt
  bare-brings labels (WriteQueue queue config) bare = tt
  bare-brings labels (WriteGroup group config) bare = tt
  bare-brings labels ClearError bare = tt

  brings : (move : Move) (o : Offer) → AskOf script w move o → Brings o
  brings move o (asks_turn a) = subst Brings (sym a.offer)
      (turn-brings a.client a.turn (is-turn script w.places a.client a.turn a.is_turn))
  brings move o (asks_member a) = subst Brings (sym a.offer)
      (member-brings a.engine a.note a.next a.at a.is_next)
  brings move o (asks_bare a) = subst Brings (sym a.offer) (bare-brings (labels_for w (bare_offer script a.event)) a.event
      a.is_bare)

  pub offers-bring : (move : Move) (o : Offer) → offer_at (parties_of script) w move ≡ Some o
      → BringsDescribed (described_by script) (labels_for w o) w.state o.event
  offers-bring move o e = brings move o (asks script w move o e)

  -- a label for the next name leaves what labels say
  still-described : (label : ℕ) → IsDescribed (described_by script) w.labels w.state
      → IsDescribed (described_by script) (with_next_label w.labels w.state label) w.state
  still-described label d x i =
      let same = named-other w.labels w.state.work.setup.next_name label x.1.name
      (known-below caps w.state h.well_formed x i) in
      (λ j. record (labelled_entry w.labels x) { label = same j }) ∙ d x i
      ∙ (λ j. described_entry (described_by script) w.state.work.setup (sym same j) x.1.running)

  pub described-after : (w' : World Standing) (move : Move) (reply : Reply)
      → IsDescribed (described_by script) w.labels w.state
      → world_after (parties_of script) w move reply ≡ Some w'
      → IsDescribed (described_by script) w'.labels w'.state
  described-after w' move reply d step = go (offer_at (parties_of script) w move) refl step
    where
      by-state : (o : Offer) → offer_at (parties_of script) w move ≡ Some o → (p : Option State)
          → next_by_label (labels_for w o) w.state o.event reply ≡ p
          → option_map (world_with (parties_of script) w move reply o) p ≡ Some w'
          → IsDescribed (described_by script) w'.labels w'.state
      by-state o e None q step = absurd cc
      by-state o e (Some s') q step =
          subst (λ (z : World Standing). IsDescribed (described_by script) z.labels z.state) (same_Some _ w' step)
          (move-described caps (described_by script) (labels_for w o) w.state s' o.event reply h.well_formed
          (still-described o.label d) (offers-bring move o e) q)

      go : (p : Option Offer) → offer_at (parties_of script) w move ≡ p
          → option_and_then (world_after_offer (parties_of script) w move reply) p ≡ Some w'
          → IsDescribed (described_by script) w'.labels w'.state
      go None e step = absurd cc
      go (Some o) e step = by-state o e (next_by_label (labels_for w o) w.state o.event reply) refl step

-- where no name was given nothing is held
pub first-described : (caps : Caps) (script : Script) (labels : Labels) (history : List Step) (s : State)
    → replay caps history ≡ Some s → s.work.setup.next_name ≡ 0 → IsDescribed (described_by script) labels s
first-described caps script labels history s reaches none x i =
    absurd (omega (arith, none, known-below caps s (replay-well_formed caps history s reaches) x i))
