use Rattle.dsa_check.proofs.rows.stray_keys.Goals as goal
use Rattle.std.proofs.Common.{refl}
use Rattle.std.proofs.lemmas.Bool.{false≢true, true≢false}

pub returns : goal.returns
returns c = record {
  stray = record { inside = refl; strange = refl; plain = refl };
  outside = λ is. false≢true is.inside;
  asked = λ is. true≢false is.strange;
  line_feed = λ is. false≢true is.plain;
  told = λ key text is. false≢true is.inside;
  other_reason = λ key. tt;
}
