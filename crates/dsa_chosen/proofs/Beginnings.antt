-- With which words answers begin.
use Rattle.dsa_book.specs.declared.answer.ClearAnswer.TheVariants as clear
use Rattle.dsa_book.specs.declared.answer.DispatchAnswer.TheVariants as dispatch
use Rattle.dsa_book.specs.declared.answer.FetchAnswer.TheVariants as fetch
use Rattle.dsa_book.specs.declared.answer.FinishAnswer.TheVariants as finish
use Rattle.dsa_book.specs.declared.answer.IssueAnswer.TheVariants as issue
use Rattle.dsa_book.specs.declared.answer.PollAnswer.TheVariants as poll
use Rattle.dsa_book.specs.declared.answer.Reply.TheVariants as reply
use Rattle.dsa_book.specs.declared.answer.StartAnswer.TheVariants as start
use Rattle.dsa_book.specs.declared.answer.SubmitAnswer.TheVariants as submit
use Rattle.dsa_book.specs.declared.answer.WriteAnswer.TheVariants as write
use Rattle.std.proofs.Common.{◌≡◌, true, refl}
use Rattle.dsa_book.specs.declared.answer.Reply.{Reply}
use Rattle.dsa_scenario.specs.declared.run.Record.{Record, TheVariants.{Stepped, Refused}}
use Rattle.dsa_scenario.specs.Lines.{record_text, reply_text}
use Rattle.dsa_chosen.specs.Words.{first_word, is_answer_word}

-- each answer by itself
reply-begins : (r : Reply) → is_answer_word (first_word (reply_text r)) ≡ true
reply-begins (reply.Submit submit.Full) = refl
reply-begins (reply.Dispatch dispatch.Full) = refl
reply-begins (reply.Fetch fetch.Full) = refl
reply-begins (reply.Start start.Full) = refl
reply-begins (reply.Finish finish.Full) = refl
reply-begins (reply.Issue issue.Full) = refl
reply-begins (reply.Poll poll.Full) = refl
reply-begins (reply.Write write.Full) = refl
reply-begins (reply.Clear clear.Full) = refl
reply-begins _ = refl

pub record-begins : (entry : Record) → is_answer_word (first_word (record_text entry)) ≡ true
record-begins (Stepped step) = reply-begins step.reply
record-begins (Refused fault) = refl
