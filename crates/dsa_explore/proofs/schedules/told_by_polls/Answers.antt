use Rattle.dsa_explore.proofs.schedules.told_by_polls.Goals as goal
use Rattle.std.proofs.Common.{◌≡◌, ◌+◌, ◌^◌, ◌<◌, [], ◌∷◌, Some, None, refl, sym, inl, ap, ⊎_elim, arith}
use Rattle.std.specs.Prelude.{unwrap_or}
use Rattle.std.specs.declared.alloc.Global.{Global}
use Rattle.dsa_base.specs.Lists.{In}
use Rattle.dsa_book.specs.declared.answer.{PollAnswer.TheVariants.{Nothing}, DispatchAnswer.TheVariants.{Taken}}
use Rattle.dsa_book.specs.declared.answer.Reply.{Reply, TheVariants.{Poll, Dispatch}}
use Rattle.dsa_keys.specs.Parties.{World, Stored, world_after}
use Rattle.dsa_parties.specs.declared.places.Move.TheVariants.{Administrator}
use Rattle.dsa_parties.specs.{Standing.{Standing}, Offers.{parties_of}}
use Rattle.dsa_explore.specs.declared.found.{Finding.TheVariants.{Answer}, Ask.TheVariants.{Act}}
use Rattle.dsa_explore.specs.{Search.{queue_taken_from}, Walked.{space_of}, WorkedSearch.{uneven_caps}}
use Rattle.dsa_explore.specs.{Ways.{IsTellingStep}, WorkedSchedules.{poll_from, polling_script, polling_table, polling_world}}

telling : (memory : Global) → IsTellingStep (space_of uneven_caps (polling_script memory)) (polling_world memory)
    (poll_from None) (Answer (Act 0) (Poll Nothing))
telling memory = record {
  reply = Poll Nothing;
  after = unwrap_or (world_after (parties_of (polling_script memory)) (polling_world memory) (Administrator 0)
      (Poll Nothing)) (polling_world memory);
  leads = refl;
  taken = refl;
  tells = inl refl;
}

level-zero : (memory : Global) (x : Stored Standing) → In x (polling_table memory) → x.level ≡ 0
level-zero memory x i = ⊎_elim (λ (e : record { level = 0; world = polling_world memory } ≡ x).
    ap (λ (z : Stored Standing). z.level) (sym e)) (λ j. absurd j) i

pub returns-clause-told : goal.returns-clause-told
returns-clause-told c = λ memory. telling memory

pub returns-clause-other_queue : goal.returns-clause-other_queue
returns-clause-other_queue c = λ memory v reply leads taken. taken-nowhere memory v reply leads taken
  where
    taken-nowhere : (memory : Global) (v : World Standing) (reply : Reply)
        → world_after (parties_of (polling_script memory)) (polling_world memory) (Administrator 0) reply ≡ Some v
        → queue_taken_from reply ≡ Some 2 → ⊥
    taken-nowhere memory v (Dispatch (Taken ticket q)) leads taken = absurd cc
    taken-nowhere memory v reply leads taken = absurd cc

pub returns-clause-somewhere : goal.returns-clause-somewhere
returns-clause-somewhere c = λ memory nowhere.
    let t = telling memory in
    nowhere t.after t.reply t.leads t.taken

pub returns-clause-row : goal.returns-clause-row
returns-clause-row c = λ memory. record {
  from = record { level = 0; world = polling_world memory };
  within = inl refl;
  later = refl;
  tried = poll_from None;
  tells = telling memory;
}

pub returns-clause-later : goal.returns-clause-later
returns-clause-later c = λ memory t. omega (arith, t.later, level-zero memory t.from t.within)

pub returns-clause-nowhere : goal.returns-clause-nowhere
returns-clause-nowhere c = λ memory t. absurd t.within

pub returns-clause-room : goal.returns-clause-room
returns-clause-room c = λ memory x i. omega (arith, level-zero memory x i)

pub returns-clause-no_room : goal.returns-clause-no_room
returns-clause-no_room c = λ memory room.
    omega (arith, room (record { level = 0; world = polling_world memory }) (inl refl))
