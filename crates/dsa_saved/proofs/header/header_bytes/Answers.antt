use Rattle.dsa_saved.proofs.header.header_bytes.Goals as goal
use Rattle.std.proofs.Common.{◌≡◌, ap, sym, ◌∙◌}
use Rattle.dsa_saved.specs.{Words.{bytes_of_words, words_of}, Format.{header_words, header_bytes}}

pub returns-clause-bytes : goal.returns-clause-bytes
unfolding header_bytes
returns-clause-bytes c = c.bytes_of.ensures.bytes ∙ ap bytes_of_words c.header_words-words.ensures.words

pub returns-clause-words : goal.returns-clause-words
unfolding header_bytes
returns-clause-words c =
    let read : words_of 11 c.bytes_of.result ≡ header_words c.args.caps c.args.capacity c.args.count =
    rw c.header_words-words.ensures.words at c.bytes_of.ensures.read in
    ap (words_of 11) (sym (c.bytes_of.ensures.bytes ∙ ap bytes_of_words c.header_words-words.ensures.words)) ∙ read
