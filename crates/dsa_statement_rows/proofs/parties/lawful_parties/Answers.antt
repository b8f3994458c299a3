use Rattle.dsa_statement_rows.proofs.parties.lawful_parties.Goals as goal

pub returns : goal.returns
returns c = record {
  kept = λ parties w w' reply lawful labelled here leads. lawful.kept w w' 5 reply labelled here leads;
}
