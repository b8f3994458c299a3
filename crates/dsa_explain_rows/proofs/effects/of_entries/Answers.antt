use Rattle.dsa_explain_rows.proofs.effects.of_entries.Goals as goal
use Rattle.std.proofs.Common.{refl}
use Rattle.dsa_book.specs.declared.event.{Kind.TheVariants.{Enqcmd, Movdir64b}, Portal.TheVariants.{Limited}}
use Rattle.dsa_desc.specs.declared.Outcome.TheVariants.{PageFault}
use Rattle.dsa_worked.specs.{Setup.{no_op}, Values.{cell}}
use Rattle.dsa_explain_rows.specs.Effects.{batch_of_four, four_waits, note_open, seven_moves, seven_waits, seven_with_fence, six_runs}

pub returns : goal.returns
returns c = record {
  accepted_by_movdir = record { queue = 1; portal = Limited; kind = Movdir64b; desc = no_op; cell = cell 3; on = refl; of_kind = refl; below = refl; free = refl; after = refl };
  accepted_by_enqcmd = record { queue = 0; portal = Limited; kind = Enqcmd 5; desc = no_op; cell = cell 3; on = refl; of_kind = refl; below = refl; free = refl; after = refl };
  taken = record { engine = 0; queue = 1; front = four_waits; is_front = refl; qualifies = refl; after = refl };
  fetched = record {
    engine = 1;
    desc = no_op;
    cell = cell 3;
    note = note_open;
    batch = batch_of_four;
    is_note = refl;
    is_batch = refl;
    more = refl;
    free = refl;
    after = refl;
  };
  started_with_a_fence = record { engine = 1; pair = seven_with_fence; is_first = refl; first_of_all = refl; unfailed = refl; room = refl; after = refl };
  started_beside_another = record { engine = 1; pair = seven_waits; is_first = refl; first_of_all = refl; unfailed = refl; room = refl; after = refl };
  started_with_two_buffers = record { engine = 1; pair = seven_moves; is_first = refl; first_of_all = refl; unfailed = refl; room = refl; after = refl };
  abandoned = record { engine = 1; pair = seven_with_fence; is_first = refl; first_of_all = refl; failed = refl; after = refl };
  ended = record {
    engine = 1;
    ticket = record { cell = six_runs.0; name = 6 };
    outcome = PageFault;
    pair = six_runs;
    is_found = refl;
    ready = refl;
    after = refl;
  };
}
