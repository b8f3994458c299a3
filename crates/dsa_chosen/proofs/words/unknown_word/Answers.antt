use Rattle.dsa_chosen.proofs.words.unknown_word.Goals as goal
use Rattle.std.proofs.Common.{arith, rules, not}
use Rattle.std.proofs.lemmas.Iterator.{Search.{find_from_yields_List}, Splits.{YieldsList-from_str_split}}
use Rattle.dsa_chosen.specs.Words.{is_answer_word}
use borrow.Author.Tests.{tests}

pub returns : goal.returns
returns c =
    find_from_yields_List (λ word. not (is_answer_word word)) _ _ c.find.result c.find.ensures.ran
    (YieldsList-from_str_split 44 c.args.words.now (omega arith) c.split.ensures.text c.split.ensures.has_more
    c.split.ensures.pattern)
    (λ x b q k. search (rules, tests))
