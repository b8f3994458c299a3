use Rattle.dsa_statement_rows.proofs.saved.checksums_behind_bytes.Goals as goal
use Rattle.std.proofs.Common.{◌≡◌, ◌∙◌, ◌-◌, ◌++◌, ℕ, List, ap, arith, drop, length, length-append, sym, take}
use Rattle.std.proofs.Math.Seq.{drop-append_seam, take-append_seam}
use Rattle.sha2.{specs.Sha256.{sha256}, proofs.Facts256.{length-sha256}}

before : (body : List ℕ) → length (body ++ sha256 body) - 32 ≡ length body
before body = omega (arith, length-append body (sha256 body), length-sha256 body)

pub returns : goal.returns
returns c = record {
  has = λ body. let bytes = body ++ sha256 body in
      ap (λ n. sha256 (take n bytes)) (before body) ∙ ap sha256 (take-append_seam body (sha256 body))
      ∙ sym (ap (λ n. drop n bytes) (before body) ∙ drop-append_seam body (sha256 body));
}
