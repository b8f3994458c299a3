-- Documents with parties.
use Rattle.std.proofs.Common.{arith, refl}
use Rattle.std.specs.Prelude.{ℕ, List, [], ◌∷◌, ◌++◌, codes}
use Rattle.std.specs.declared.alloc.Global.{Global}
use Rattle.dsa_scenario.specs.Worked.{smallest_caps_text}
use Rattle.dsa_parties.specs.declared.script.Script.{Script}
use Rattle.dsa_parties.specs.Worked.{vector_in}

-- a document of the smallest device, without steps, with these parties
abbrev pub text_with_parties : List ℕ → List ℕ
text_with_parties parties =
    codes "{\"caps\":" ++ smallest_caps_text ++ codes ",\"capacity\":9,\"steps\":[],\"parties\":" ++ parties
    ++ codes "}"

-- the script of no parties, on a device of one engine
abbrev pub script_of_nobody : Global → Script
script_of_nobody memory = record {
  entries = vector_in memory [] (omega arith);
  clients = vector_in memory [] (omega arith);
  acts = vector_in memory [] (omega arith);
  administrators = vector_in memory [] (omega arith);
  engines = vector_in memory (0 ∷ []) (omega arith);
  watches = vector_in memory [] (omega arith);
  fits = refl;
}
