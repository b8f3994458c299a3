use Rattle.std.proofs.Common.{◌≡◌, ℕ, refl, ◌∙◌, ap, arith, length}
use Rattle.dsa_saved.specs.Words.{bytes_of_words, words_of}
use Rattle.dsa_saved.proofs.Written.{words-are}
use Rattle.dsa_saved.proofs.words.words_of.Goals as goal

pub returns : goal.returns
returns g c = words-are g.row.N c.args.bytes.now c.read_u32_into.new.dst (omega (arith, c.read_u32_into.auto)) c.read_u32_into.ensures
