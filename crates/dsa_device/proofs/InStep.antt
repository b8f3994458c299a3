-- A step of the queues alone moves nothing on an engine, and the entries there need what they needed.
use Rattle.std.proofs.Common.{◌≡◌, ℕ, ◌++◌, false, cond, List, [], ◌∷◌, Option, Some, None, refl, sym, ap, ◌∙◌}
use Rattle.std.proofs.Common.{subst, inl, inr, arith}
use Rattle.std.proofs.lemmas.{Bool.{not-false}, List.{get_or-set_other}}
use Rattle.std.specs.Prelude.{nat_lt, not, ◌&&◌, ◌==◌}
use Rattle.dsa_desc.specs.{declared.Descriptor.{Descriptor}, Descriptor.{need}}
use Rattle.dsa_base.{proofs.Tables.{first_row_or-each, table2, table3, not-both}, specs.Lists.{In}}
use Rattle.dsa_regs.specs.declared.{Caps.{Caps}, QueueConfig.{QueueConfig}, GroupConfig.{GroupConfig}}
use Rattle.dsa_regs.specs.Config.{zero_queue, queue_at, limits_of_queue}
use Rattle.dsa_store.specs.{declared.entry.Cell.{Cell}, Content.{HeldEntry, Content, chain, after_push}}
use Rattle.dsa_book.specs.declared.answer.Cause.{Cause, TheVariants.{AtLimit, NotEnabled, WrongKind}}
use Rattle.dsa_book.specs.declared.answer.{NotedError.{NotedError}, SubmitAnswer.{SubmitAnswer}}
use Rattle.dsa_book.specs.declared.answer.ClearAnswer.{ClearAnswer}
use Rattle.dsa_book.specs.declared.answer.WriteAnswer.{WriteAnswer}
use Rattle.dsa_book.specs.declared.event.{Portal.{Portal}, Kind.{Kind, TheVariants.{Enqcmd, Movdir64b}}}
use Rattle.dsa_book.specs.State.{Setup, Intake, Work, is_off, is_member, phase_at, has_queue}
use Rattle.dsa_book.specs.Submit.{submit, submit_table, after_refusal, after_accept}
use Rattle.dsa_book.specs.Commands.{write_queue, write_group, clear, clear_of}
use Rattle.dsa_laws.{specs.WellFormed.{HasLawfulEntries}, proofs.Contents.{each-place}}
use Rattle.dsa_engines.proofs.{Used.{load, load-nil, load-cons, load-append}, Keeping.{KeepsLoads}}

-- ---- what the running entries of a list need

-- the limits of their queues decide
load-same : (setup more : Setup) (xs : List HeldEntry)
    → ((x : HeldEntry) → In x xs → queue_at more.configs x.1.queue ≡ queue_at setup.configs x.1.queue)
    → load more xs ≡ load setup xs
load-same setup more [] h = load-nil more ∙ sym (load-nil setup)
load-same setup more (x ∷ xs) h =
    let here = ap (λ (config : QueueConfig). cond x.1.running (need x.1.desc (limits_of_queue config) (is_member x.1))
    0)
    (h x (inl refl)) in
    omega (arith, load-cons more x xs, load-cons setup x xs, here, load-same setup more xs (λ y i. h y (inr i)))

-- one that does not run yet needs nothing
load-waiting : (setup : Setup) (xs : List HeldEntry) (x : HeldEntry) → x.1.running ≡ false
    → load setup (xs ++ x ∷ []) ≡ load setup xs
load-waiting setup xs x waits = rw (load-append, load-cons, load-nil, waits) (omega arith)

load-pushed : (setup : Setup) (c : Content) (p : ℕ) (x : HeldEntry) → x.1.running ≡ false → (k : ℕ)
    → load setup (chain (after_push c p x.0 x.1) k) ≡ load setup (chain c k)
load-pushed setup c p x waits = each-place (λ k l. load setup l ≡ load setup (chain c k)) [] c p
    (chain c p ++ x ∷ []) (λ k. refl) (load-waiting setup (chain c p) x waits)

-- ---- submissions

-- another name to give and another noted error change nothing of it
keeps-same : (setup : Setup) (name : ℕ) (noted : Option NotedError) (content now : Content)
    → ((k : ℕ) → load setup (chain now k) ≡ load setup (chain content k))
    → KeepsLoads setup (record setup { next_name = name; noted = noted }) content now
keeps-same setup name noted content now same = record {
  caps = refl;
  groups = refl;
  device = λ on. on;
  loads = λ k low. load-same setup (record setup { next_name = name; noted = noted }) (chain now k) (λ x m. refl)
      ∙ same k;
}

-- what changes nothing
keeps-all : (setup : Setup) (content : Content) → KeepsLoads setup setup content content
keeps-all setup content = keeps-same setup setup.next_name setup.noted content content (λ k. refl)

turned_away-keeps : (i : Intake) (q : ℕ) (kind : Kind) (cause : Cause)
    → KeepsLoads i.setup (after_refusal i q kind cause).1.setup i.content (after_refusal i q kind cause).1.content
turned_away-keeps i q (Enqcmd pasid) cause = keeps-all i.setup i.content
turned_away-keeps i q Movdir64b cause = keeps-same i.setup _ _ i.content i.content (λ k. refl)

pub submit-keeps : (i : Intake) (q : ℕ) (portal : Portal) (kind : Kind) (desc : Descriptor) (cell : Cell)
    (answer : SubmitAnswer) (after : Intake) → submit i q portal kind desc cell ≡ (answer, after)
    → KeepsLoads i.setup after.setup i.content after.content
submit-keeps i q portal kind desc cell answer after is =
    rw is at (first_row_or-each (λ (r : SubmitAnswer × Intake). KeepsLoads i.setup r.1.setup i.content r.1.content)
    (submit_table i q portal kind) (after_accept i q kind desc cell) (
      turned_away-keeps i q kind NotEnabled,
      (turned_away-keeps i q kind WrongKind, (turned_away-keeps i q kind AtLimit, tt)),
    )
    (keeps-same i.setup _ _ i.content _ (load-pushed i.setup i.content q (cell, _) refl)))

-- ---- writes

-- no entry names the queue that is written, for it is Off
pub write_queue-keeps : (caps : Caps) (w : Work) (q : ℕ) (config : QueueConfig) (answer : WriteAnswer) (more : Setup)
    → HasLawfulEntries caps w → write_queue w.setup q config ≡ (answer, more)
    → KeepsLoads w.setup more w.content w.content
write_queue-keeps caps w q config answer more lawful is =
    let P : WriteAnswer × Setup → Type 0 = λ r. KeepsLoads w.setup r.1 w.content w.content in
    subst P is (table3 P (not (has_queue w.setup q)) (not (is_off (phase_at w.setup q)))
    (not (is_off w.setup.device) && not (config.size == (queue_at w.setup.configs q).size)) _ _ _ _
    (λ t. keeps-all w.setup w.content) (λ t. keeps-all w.setup w.content) (λ t. keeps-all w.setup w.content)
    (λ there off size. record {
      caps = refl;
      groups = refl;
      device = λ on. on;
      loads = λ k low. load-same w.setup _ (chain w.content k) (λ x m.
          get_or-set_other w.setup.configs q x.1.queue config zero_queue (λ e.
          not-both (is_off (phase_at w.setup q)) (not-false _ off) (rw e at (lawful.none_off k x m))));
    }))

-- groups are written while the device is Off alone
pub write_group-keeps : (setup : Setup) (content : Content) (g : ℕ) (config : GroupConfig) (answer : WriteAnswer)
    (more : Setup) → write_group setup g config ≡ (answer, more) → is_off more.device ≡ false
    → KeepsLoads setup more content content
write_group-keeps setup content g config answer more is =
    let P : WriteAnswer × Setup → Type 0 = λ r. is_off r.1.device ≡ false → KeepsLoads setup r.1 content content in
    subst P is (table2 P (not (nat_lt g setup.caps.groups)) (not (is_off setup.device)) _ _ _
    (λ t on. keeps-all setup content) (λ t on. keeps-all setup content)
    (λ there off on. not-both _ (not-false _ off) on))

pub clear-keeps : (setup : Setup) (content : Content) (answer : ClearAnswer) (more : Setup)
    → clear setup ≡ (answer, more) → KeepsLoads setup more content content
clear-keeps setup content answer more is = rw is at (go setup.noted)
  where
    go : (noted : Option NotedError) → KeepsLoads setup (clear_of setup noted).1 content content
    go None = keeps-all setup content
    go (Some noted) = keeps-same setup _ _ content content (λ k. refl)
