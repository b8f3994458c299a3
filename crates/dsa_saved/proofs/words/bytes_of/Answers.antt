use Rattle.std.proofs.Common.{arith}
use Rattle.dsa_saved.specs.Words.{bytes_of_words}
use Rattle.dsa_saved.proofs.Written.{words-read}
use Rattle.dsa_saved.proofs.words.bytes_of.Goals as goal

pub returns-clause-bytes : goal.returns-clause-bytes
unfolding bytes_of_words
returns-clause-bytes g c = c.write_u32_into.ensures

pub returns-clause-read : goal.returns-clause-read
unfolding bytes_of_words
returns-clause-read g c = rw c.write_u32_into.ensures (words-read c.args.words.now (λ k. let h = c.type_inv.words k in omega (arith, h)))
