use Rattle.dsa_keys_rows.proofs.short.described_entries.Goals as goal
use Rattle.std.proofs.Common.{◌≡◌, None, false, inl, refl, arith}
use Rattle.dsa_desc.specs.Descriptor.{with_pasid}
use Rattle.dsa_store.specs.Content.{HeldEntry}
use Rattle.dsa_worked.{specs.Setup.{move, held_entry}, proofs.Bounded.{in_one}}
use Rattle.dsa_keys.specs.{Key.{labelled_entry}, Short.{described_entry}}
use Rattle.dsa_keys_rows.specs.Holding.{hundreds, described, set_up_at}

pub returns-clause-as_said : goal.returns-clause-as_said
returns-clause-as_said c = in_one
    (λ (pair : HeldEntry). labelled_entry hundreds pair
    ≡ described_entry described (set_up_at 20) (hundreds pair.1.name) pair.1.running)
    (held_entry 3 12 None (with_pasid (move 8) 5) 0 false) refl

pub returns-clause-other_size : goal.returns-clause-other_size
returns-clause-other_size c is = grind (arith, is _ (inl refl))

pub returns-clause-other_pasid : goal.returns-clause-other_pasid
returns-clause-other_pasid c is = grind (arith, is _ (inl refl))

pub returns-clause-other_queue : goal.returns-clause-other_queue
returns-clause-other_queue c is = grind (arith, is _ (inl refl))

pub returns-clause-a_member : goal.returns-clause-a_member
returns-clause-a_member c is = grind (arith, is _ (inl refl))
