use Rattle.dsa_cli.proofs.rows.scripts_of_a_run.Goals as goal
use Rattle.std.proofs.Common.{◌≡◌, ◌+◌, ℕ, List, [], ◌∷◌, length, replicate, refl, ap, sym, subst}
use Rattle.std.proofs.Common.{arith}
use Rattle.std.specs.{Prelude.{All, slice_index_or}, Global.{Vec}}
use Rattle.std.proofs.lemmas.List.Elements.{All-from_recursion}
use Rattle.dsa_desc.specs.declared.Descriptor.{Descriptor}
use Rattle.dsa_workers.specs.declared.scripts.ClientStep.{ClientStep}
use Rattle.dsa_cli.specs.{Threads.{IsClientScript, Submits}, Worked.{move_under}}
use Rattle.dsa_cli.proofs.FewNumbers.{below_two}

-- three Moves under a PASID
three_moves_under : (pasid : ℕ) (script : Vec ClientStep) → script.items ≡ replicate 3 (move_under pasid)
    → IsClientScript pasid 3 script
three_moves_under pasid script are =
    let one : Submits pasid (move_under pasid) = record { queue = refl; portal = refl; kind = refl; bytes = refl } in
    record {
      len = ap (λ (l : List ClientStep). length l) are;
      moves = subst (All (Submits pasid)) (sym are)
          (All-from_recursion (Submits pasid) (replicate 3 (move_under pasid)) (one, (one, (one, tt))));
    }

pub returns-clause-these : goal.returns-clause-these
returns-clause-these c scripts first second one two count clients engines admin = record {
  count = count;
  clients = λ client other less.
      subst (λ (l : List (Vec ClientStep)). IsClientScript (client + 1) 3 (slice_index_or l client other)) (sym clients)
      (below_two (λ n. IsClientScript (n + 1) 3 (slice_index_or (first ∷ second ∷ []) n other))
      (three_moves_under 1 first one) (three_moves_under 2 second two) client less);
  engines = engines;
  admin = admin;
}

pub returns-clause-count : goal.returns-clause-count
returns-clause-count c scripts are = are.count

pub returns-clause-clients : goal.returns-clause-clients
returns-clause-clients c scripts are = are.clients

pub returns-clause-engines : goal.returns-clause-engines
returns-clause-engines c scripts are = are.engines

pub returns-clause-admin : goal.returns-clause-admin
returns-clause-admin c scripts are = are.admin

pub returns-clause-steps : goal.returns-clause-steps
returns-clause-steps c script is = is.len

pub returns-clause-moves : goal.returns-clause-moves
returns-clause-moves c script is = is.moves

pub returns-clause-other_queue : goal.returns-clause-other_queue
returns-clause-other_queue c submits = omega (arith, submits.queue)

pub returns-clause-other_portal : goal.returns-clause-other_portal
returns-clause-other_portal c submits = let same = submits.portal in cc

pub returns-clause-other_kind : goal.returns-clause-other_kind
returns-clause-other_kind c submits = let same = submits.kind in cc

pub returns-clause-other_work : goal.returns-clause-other_work
returns-clause-other_work c submits = omega (arith, ap (λ (d : Descriptor). d.op) submits.bytes)
