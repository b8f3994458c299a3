use Rattle.dsa_chosen.proofs.words.AnswerWords.has.Goals as goal
use Rattle.std.proofs.Common.{arith, rules, bytes_eq}
use Rattle.std.proofs.lemmas.Iterator.{Search.{any_from_yields_List}, Splits.{YieldsList-from_str_split}}
use borrow.Author.Tests.{tests}

pub returns : goal.returns
returns c =
    any_from_yields_List (λ own. bytes_eq own c.args.word.now) _ _ c.any.result c.any.ensures.ran
    (YieldsList-from_str_split 44 c.args.self.now.text.now (omega arith) c.split.ensures.text c.split.ensures.has_more
    c.split.ensures.pattern)
    (λ x b q k. search (rules, tests))
