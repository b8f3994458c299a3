-- What steps are made of: parts that compare as equal are the same.
use Rattle.dsa_desc.specs.contracts.DescriptorPartialEq.TheImpl as descriptor_eq
use Rattle.dsa_desc.specs.declared.Outcome.TheVariants as outcome
use Rattle.dsa_desc.specs.contracts.OutcomePartialEq.TheImpl as outcome_eq
use Rattle.dsa_regs.specs.contracts.QueueConfigPartialEq.TheImpl as queue_config_eq
use Rattle.dsa_regs.specs.contracts.GroupConfigPartialEq.TheImpl as group_config_eq
use Rattle.dsa_regs.specs.contracts.QueueMaskPartialEq.TheImpl as queue_mask_eq
use Rattle.dsa_regs.specs.contracts.Command as command
use Rattle.dsa_regs.specs.contracts.CommandPartialEq.TheImpl as command_eq
use Rattle.dsa_regs.specs.declared.Fault.TheVariants as fault
use Rattle.dsa_regs.specs.contracts.FaultPartialEq.TheImpl as fault_eq
use Rattle.dsa_store.specs.contracts.entry.CellPartialEq.TheImpl as cell_eq
use Rattle.dsa_book.specs.contracts.answer.TicketPartialEq.TheImpl as ticket_eq
use Rattle.dsa_book.specs.declared.event.Portal.TheVariants as portal
use Rattle.dsa_book.specs.contracts.event.PortalPartialEq.TheImpl as portal_eq
use Rattle.dsa_book.specs.declared.event.Kind.TheVariants as kind
use Rattle.dsa_book.specs.contracts.event.KindPartialEq.TheImpl as kind_eq
use Rattle.dsa_book.specs.declared.answer.Cause.TheVariants as cause
use Rattle.dsa_book.specs.contracts.answer.CausePartialEq.TheImpl as cause_eq
use Rattle.dsa_book.specs.contracts.answer.NotedErrorPartialEq.TheImpl as noted_error_eq
use Rattle.std.proofs.{Common.{◌≡◌, ℕ, ◌==◌, ◌&&◌, Bool, true, false, refl, ap, ◌∙◌}, lemmas.Bool.{and_parts, eqb-true}}
use Rattle.std.{proofs.Math.Bool.{and_assoc}, specs.Bool.{beq}}
use Rattle.dsa_desc.specs.declared.{Descriptor.{Descriptor}, Outcome.{Outcome}}
use Rattle.dsa_regs.specs.declared.{QueueConfig.{QueueConfig}, GroupConfig.{GroupConfig}, QueueMask.{QueueMask}}
use Rattle.dsa_regs.specs.{declared.{Command.{Command}, Fault.{Fault}}, Fault.{same_fault}}
use Rattle.dsa_store.specs.declared.entry.Cell.{Cell}
use Rattle.dsa_book.specs.declared.answer.{Ticket.{Ticket}, Cause.{Cause}, NotedError.{NotedError}}
use Rattle.dsa_book.proofs.Derived.{same-enum}
use Rattle.dsa_book.specs.{declared.event.{Portal.{Portal}, Kind.{Kind}}, Same.{same_ticket, same_cause, same_noted}}

-- what cannot be
pub never : {X : Type 0} → false ≡ true → X
never h = absurd cc

pub same-number : (a b : ℕ) → (a == b) ≡ true → a ≡ b
same-number = eqb-true

-- the first of the tests that a comparison makes of its fields, and those that follow
pub field : {T : Type 0} {eq : T → T → Bool} → ((a b : T) → eq a b ≡ true → a ≡ b) → (a b : T) (rest : Bool)
    → (eq a b && rest) ≡ true → (a ≡ b) × (rest ≡ true)
field {T} {eq} same a b rest h = let p = and_parts (eq a b) rest h in (same a b p.0, p.1)

same-bool : (a b : Bool) → beq a b ≡ true → a ≡ b
same-bool true true h = refl
same-bool false false h = refl
same-bool _ _ h = never h

-- four numbers that compare as equal one after the other
four : (a b c d a' b' c' d' : ℕ) → (a == a' && (b == b' && (c == c' && d == d'))) ≡ true
    → (a ≡ a') × (b ≡ b') × (c ≡ c') × (d ≡ d')
four a b c d a' b' c' d' h =
    let p = field same-number a a' _ h in
    let q = field same-number b b' _ p.1 in
    let r = field same-number c c' _ q.1 in
    (p.0, q.0, r.0, same-number d d' r.1)

pub same-descriptor : (a b : Descriptor) → descriptor_eq.eq-value.it a b ≡ true → a ≡ b
same-descriptor a b h =
    let p = four a.pasid a.flags a.op a.size b.pasid b.flags b.op b.size h in
    λ i. record { pasid = p.0 i; flags = p.1 i; op = p.2 i; size = p.3 i }

pub same-outcome : (a b : Outcome) → outcome_eq.eq-value.it a b ≡ true → a ≡ b
same-outcome outcome.Success outcome.Success h = refl
same-outcome outcome.PageFault outcome.PageFault h = refl
same-outcome _ _ h = never h

pub same-queue_config : (a b : QueueConfig) → queue_config_eq.eq-value.it a b ≡ true → a ≡ b
same-queue_config a b h =
    let p = field same-number a.size b.size _ h in
    let q = field same-number a.threshold b.threshold _ p.1 in
    let r = field same-bool a.dedicated b.dedicated _ q.1 in
    let s = field same-number a.priority b.priority _ r.1 in
    let t = field same-number a.pasid b.pasid _ s.1 in
    let u = field same-number a.max_batch_shift b.max_batch_shift _ t.1 in
    λ i. record {
      size = p.0 i;
      threshold = q.0 i;
      dedicated = r.0 i;
      priority = s.0 i;
      pasid = t.0 i;
      max_batch_shift = u.0 i;
      max_xfer_shift = same-number a.max_xfer_shift b.max_xfer_shift u.1 i;
    }

pub same-group_config : (a b : GroupConfig) → group_config_eq.eq-value.it a b ≡ true → a ≡ b
same-group_config a b h =
    let p = four a.queues a.engines a.reserved a.allowed b.queues b.engines b.reserved b.allowed h in
    λ i. record { queues = p.0 i; engines = p.1 i; reserved = p.2 i; allowed = p.3 i }

pub same-queue_mask : (a b : QueueMask) → queue_mask_eq.eq-value.it a b ≡ true → a ≡ b
same-queue_mask a b h =
    let p = field same-number a.group b.group _ h in
    λ i. record { group = p.0 i; mask = same-number a.mask b.mask p.1 i }

-- the same where a variant has one field
one : {T : Type 0} {eq : T → T → Bool} → ((a b : T) → eq a b ≡ true → a ≡ b) → (x y : T × Unit {0})
    → eq x.0 y.0 ≡ true → x ≡ y
one same x y h = λ i. (same x.0 y.0 h i, record {})

one-number : (x y : ℕ × Unit {0}) → (x.0 == y.0) ≡ true → x ≡ y
one-number = one same-number

one-queue_mask : (x y : QueueMask × Unit {0}) → queue_mask_eq.eq-value.it x.0 y.0 ≡ true → x ≡ y
one-queue_mask = one same-queue_mask

pub same-command : (a b : Command) → command_eq.eq-value.it a b ≡ true → a ≡ b
same-command a b h = same-enum command.enum _ a b h (search (one-number, one-queue_mask))

pub same-cell : (a b : Cell) → cell_eq.eq-value.it a b ≡ true → a ≡ b
same-cell a b h = λ i. record { 0 = same-number a.0 b.0 h i }

pub same-ticket : (a b : Ticket) → ticket_eq.eq-value.it a b ≡ true → a ≡ b
same-ticket a b h =
    let p = field same-cell a.cell b.cell _ h in
    λ i. record { cell = p.0 i; name = same-number a.name b.name p.1 i }

pub same-portal : (a b : Portal) → portal_eq.eq-value.it a b ≡ true → a ≡ b
same-portal portal.Limited portal.Limited h = refl
same-portal portal.Unlimited portal.Unlimited h = refl
same-portal _ _ h = never h

pub same-kind : (a b : Kind) → kind_eq.eq-value.it a b ≡ true → a ≡ b
same-kind (kind.Enqcmd x0) (kind.Enqcmd y0) h = ap kind.Enqcmd (same-number x0 y0 h)
same-kind kind.Movdir64b kind.Movdir64b h = refl
same-kind _ _ h = never h

-- a test of the definitions says what the comparison does, and the same alone passes
abbrev pub Tested : {T : Type 0} → (T → T → Bool) → (T → T → Bool) → T → T → Type 0
Tested same eq a b = (same a b ≡ eq a b) × (same a b ≡ true → a ≡ b)

pub numbers : (a b : ℕ) → Tested (λ a b. a == b) (λ a b. a == b) a b
numbers a b = (refl, same-number a b)

pub faults : (a b : Fault) → Tested same_fault fault_eq.eq-value.it a b
faults fault.SizesTooLarge fault.SizesTooLarge = (refl, λ h. refl)
faults fault.TwoGroups fault.TwoGroups = (refl, λ h. refl)
faults fault.ReservedTooMany fault.ReservedTooMany = (refl, λ h. refl)
faults fault.AllowedOutOfRange fault.AllowedOutOfRange = (refl, λ h. refl)
faults fault.GroupWithoutEngine fault.GroupWithoutEngine = (refl, λ h. refl)
faults fault.GroupWithoutQueue fault.GroupWithoutQueue = (refl, λ h. refl)
faults fault.SizeZero fault.SizeZero = (refl, λ h. refl)
faults fault.PriorityZero fault.PriorityZero = (refl, λ h. refl)
faults fault.ThresholdZero fault.ThresholdZero = (refl, λ h. refl)
faults fault.ThresholdAboveSize fault.ThresholdAboveSize = (refl, λ h. refl)
faults fault.BatchTooLarge fault.BatchTooLarge = (refl, λ h. refl)
faults fault.NoGroup fault.NoGroup = (refl, λ h. refl)
faults fault.BadCommand fault.BadCommand = (refl, λ h. refl)
faults fault.BadQueue fault.BadQueue = (refl, λ h. refl)
faults fault.Locked fault.Locked = (refl, λ h. refl)
faults fault.WrongState fault.WrongState = (refl, λ h. refl)
faults fault.Busy fault.Busy = (refl, λ h. refl)
faults fault.PriorityTooLarge fault.PriorityTooLarge = (refl, λ h. refl)
faults fault.TransferTooLarge fault.TransferTooLarge = (refl, λ h. refl)
faults fault.BadIndex fault.BadIndex = (refl, λ h. refl)
faults _ _ = (refl, λ h. never h)

pub tickets : (a b : Ticket) → Tested same_ticket ticket_eq.eq-value.it a b
tickets a b = (refl, same-ticket a b)

pub causes : (a b : Cause) → Tested same_cause cause_eq.eq-value.it a b
causes cause.AtLimit cause.AtLimit = (refl, λ h. refl)
causes cause.NotEnabled cause.NotEnabled = (refl, λ h. refl)
causes cause.WrongKind cause.WrongKind = (refl, λ h. refl)
causes _ _ = (refl, λ h. never h)

pub noted_errors : (a b : NotedError) → Tested same_noted noted_error_eq.eq-value.it a b
noted_errors a b = (
  and_assoc (a.queue == b.queue) (same_cause a.cause b.cause) (beq a.overflow b.overflow)
      ∙ rw (causes a.cause b.cause).0 refl,
  λ h.
      let p = and_parts (a.queue == b.queue && same_cause a.cause b.cause) (beq a.overflow b.overflow) h in
      let q = and_parts (a.queue == b.queue) (same_cause a.cause b.cause) p.0 in
      λ i. record {
        queue = same-number a.queue b.queue q.0 i;
        cause = (causes a.cause b.cause).1 q.1 i;
        overflow = same-bool a.overflow b.overflow p.1 i;
      },
)
