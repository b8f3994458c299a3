-- Which texts are answers to a step.
use Rattle.dsa_book.specs.declared.event.Event.TheVariants as event
use Rattle.std.specs.Prelude.{ℕ, ◌==◌, ◌&&◌, ◌||◌, not, Bool, false, cond, nat_eq, List, [], ◌∷◌, codes}
use Rattle.std.specs.Prelude.{bytes_eq, length}
use Rattle.std.specs.{Char.{is_ascii_digit}, Int.{is_in_range}}
use Rattle.std.specs.List.{before_first, list_all, list_any, starts_with}
use Rattle.dsa_book.specs.declared.event.{Event.{Event}, Kind.{TheVariants.{Enqcmd, Movdir64b}}}
use Rattle.dsa_regs.specs.declared.Fault.{Fault}
use Rattle.dsa_regs.specs.declared.Fault.TheVariants.{SizesTooLarge, TwoGroups, ReservedTooMany, AllowedOutOfRange}
use Rattle.dsa_regs.specs.declared.Fault.TheVariants.{GroupWithoutEngine, GroupWithoutQueue, SizeZero, PriorityZero}
use Rattle.dsa_regs.specs.declared.Fault.TheVariants.{ThresholdZero, ThresholdAboveSize, BatchTooLarge, NoGroup}
use Rattle.dsa_regs.specs.declared.Fault.TheVariants.{BadCommand, BadQueue, Locked, WrongState, Busy}
use Rattle.dsa_regs.specs.declared.Fault.TheVariants.{PriorityTooLarge, TransferTooLarge, BadIndex}
use Rattle.dsa_scenario.specs.Lines.{refusal_text}

-- ---- parts of a text

-- what comes before the first blank
abbrev pub leading_word : List ℕ → List ℕ
leading_word text = before_first (λ b. b == 32) text

-- what follows this beginning; nothing, where the text begins otherwise
abbrev pub following : List ℕ → List ℕ → List ℕ
following text [] = text
following [] (b ∷ bs) = []
following (c ∷ cs) (b ∷ bs) = cond (c == b) (following cs bs) []

-- 0, or digits of which the first is not 0
abbrev pub is_number : List ℕ → Bool
is_number text = bytes_eq text (codes "0")
    || (list_all is_ascii_digit text && not (length text == 0) && not (starts_with nat_eq text (codes "0")))

-- a lower case hexadecimal digit
abbrev pub is_status_digit : ℕ → Bool
is_status_digit c = is_in_range 48 57 c || is_in_range 97 102 c

-- two of them
abbrev pub is_status : List ℕ → Bool
is_status text = length text == 2 && list_all is_status_digit text

-- ---- answers with a number

-- this beginning, and a number
abbrev pub is_counted : List ℕ → List ℕ → Bool
is_counted beginning text = is_number (following text beginning)

-- a number, ` from `, and a number
abbrev pub is_named_source : List ℕ → Bool
is_named_source text =
    is_number (leading_word text) && is_counted (codes " from ") (following text (leading_word text))

-- an entry that was taken, with or without its name
abbrev pub is_take : List ℕ → Bool
is_take text = is_counted (codes "taken from ") text || is_named_source (following text (codes "taken "))

-- the cause of an error, and whether more errors came
abbrev pub is_error : List ℕ → Bool
is_error text = list_any (bytes_eq text)
    (codes " at-limit" ∷ codes " at-limit overflow" ∷ codes " not-enabled" ∷ codes " not-enabled overflow"
    ∷ codes " wrong-kind" ∷ codes " wrong-kind overflow" ∷ [])

-- a number, and an error
abbrev pub is_error_of_queue : List ℕ → Bool
is_error_of_queue text = is_number (leading_word text) && is_error (following text (leading_word text))

abbrev pub is_cleared : List ℕ → Bool
is_cleared text = is_error_of_queue (following text (codes "cleared "))

abbrev pub each_fault : List Fault
each_fault =
    SizesTooLarge ∷ TwoGroups ∷ ReservedTooMany ∷ AllowedOutOfRange ∷ GroupWithoutEngine ∷ GroupWithoutQueue
    ∷ SizeZero ∷ PriorityZero ∷ ThresholdZero ∷ ThresholdAboveSize ∷ BatchTooLarge ∷ NoGroup ∷ BadCommand
    ∷ BadQueue ∷ Locked ∷ WrongState ∷ Busy ∷ PriorityTooLarge ∷ TransferTooLarge ∷ BadIndex ∷ []

-- a refusal by one of the faults
abbrev pub is_refusal_text : List ℕ → Bool
is_refusal_text text = list_any (λ fault. bytes_eq text (refusal_text fault)) each_fault

-- ---- answers by the kind of the step (profile)

-- those without a number, but for that of a full history
abbrev pub plain_answers : Event → List (List ℕ)
plain_answers (event.Submit client queue portal (Enqcmd pasid) desc) =
    codes "accepted" ∷ codes "retry not-enabled" ∷ codes "retry wrong-kind" ∷ codes "retry at-limit" ∷ []
plain_answers (event.Submit client queue portal Movdir64b desc) =
    codes "accepted" ∷ codes "dropped not-enabled" ∷ codes "dropped wrong-kind" ∷ codes "dropped at-limit" ∷ []
plain_answers (event.Dispatch engine) = codes "idle" ∷ []
plain_answers (event.Fetch engine desc) = codes "fetched" ∷ codes "no-batch" ∷ codes "all-fetched" ∷ []
plain_answers (event.Start engine) =
    codes "started" ∷ codes "fence-wait" ∷ codes "no-buffers" ∷ codes "nothing" ∷ []
plain_answers (event.Finish engine ticket outcome) = codes "not-ready" ∷ codes "gone" ∷ []
plain_answers (event.Issue command) = codes "active" ∷ []
plain_answers event.Poll = codes "finished" ∷ codes "active" ∷ codes "nothing" ∷ []
plain_answers (event.WriteQueue queue config) = codes "written" ∷ []
plain_answers (event.WriteGroup group config) = codes "written" ∷ []
plain_answers event.ClearError = codes "nothing" ∷ []

-- an answer with a number
abbrev pub is_numbered_answer : Event → List ℕ → Bool
is_numbered_answer (event.Submit client queue portal kind desc) text = is_counted (codes "accepted ") text
is_numbered_answer (event.Dispatch engine) text = is_take text
is_numbered_answer (event.Fetch engine desc) text = is_counted (codes "fetched ") text
is_numbered_answer (event.Start engine) text =
    is_counted (codes "started ") text || is_counted (codes "abandoned ") text
is_numbered_answer (event.Finish engine ticket outcome) text = is_status (following text (codes "done "))
is_numbered_answer (event.Issue command) text = is_counted (codes "ended ") text || is_refusal_text text
is_numbered_answer event.Poll text = false
is_numbered_answer (event.WriteQueue queue config) text = is_refusal_text text
is_numbered_answer (event.WriteGroup group config) text = is_refusal_text text
is_numbered_answer event.ClearError text = is_cleared text

-- such a step may be answered with this text
abbrev pub is_answer_to : Event → List ℕ → Bool
is_answer_to e text =
    bytes_eq text (codes "full") || (list_any (bytes_eq text) (plain_answers e) || is_numbered_answer e text)
