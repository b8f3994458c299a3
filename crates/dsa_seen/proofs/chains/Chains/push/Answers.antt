-- The chains with one more string.
use Rattle.std.proofs.Common.{ℕ, List, ◌≡◌, ◌+◌, ◌-◌, ◌*◌, ◌≤◌, ◌<◌, ◌++◌, ◌∷◌, [], cond, length, get_or, set, take, replicate, refl, is_ok, vec_capacity, ap, sym, subst, ◌∙◌, arith}
use Rattle.std.proofs.lemmas.List.{get_or_default, take_all, length-append, length-replicate, append_assoc, length_push}
use Rattle.std.specs.Vec.{with_item}
use Rattle.dsa_seen.specs.declared.chains.Chains.{Chains}
use Rattle.dsa_seen.specs.Chains.{strings_of}
use Rattle.dsa_seen.proofs.Pushed.{length-strings_of, width-room, next-width, strings-push, sound-push}
use Rattle.dsa_seen.proofs.Linked.{place-within}
use Rattle.dsa_seen.proofs.chains.Chains.push.Goals as goal

pub unwrap-requires : goal.unwrap-requires
unwrap-requires c = let chains = c.args.self.now in
    c.extend_from_slice.ensures.succeeds (omega (
      arith,
      chains.stored.ok.0,
      next-width chains c.requires.sound,
      width-room chains c.requires.sound c.requires.room,
    ))

pub unwrap-requires-2 : goal.unwrap-requires-2
unwrap-requires-2 c = let chains = c.args.self.now in
    let number : c.len-number.result ≡ length chains.lengths.items = c.len-number.ensures ∙ chains.lengths.ok.0 in
    c.resize.ensures.succeeds (subst (λ k. (k + 1) * chains.width ≤ vec_capacity c.extend_from_slice.new.self)
    (sym number) (omega (
      arith,
      c.extend_from_slice.ensures.capacity,
      width-room chains c.requires.sound c.requires.room,
    )))

pub push_reserved-requires : goal.push_reserved-requires
push_reserved-requires c = let chains = c.args.self.now in
    omega (arith, length-strings_of chains, chains.lengths.ok.0, c.requires.room.lengths)

pub index-requires : goal.index-requires
index-requires c = let heads = c.args.self.now.heads in
    omega (arith, heads.ok.0, place-within (length heads.items) c.args.bytes.now c.requires.sound.linked.some)

pub overflow_add-number : goal.overflow_add-number
overflow_add-number c = let chains = c.args.self.now in
    omega (arith, length-strings_of chains, chains.lengths.ok.0)

pub index_mut-requires : goal.index_mut-requires
index_mut-requires c = let heads = c.args.self.now.heads in
    omega (arith, heads.ok.0, place-within (length heads.items) c.args.bytes.now c.requires.sound.linked.some)

-- what is stored, once the bytes are appended
extended : (c : goal.After-self-1)
    → c.extend_from_slice.new.self.items ≡ c.args.self.now.stored.items ++ c.args.bytes.now
extended c = let chains = c.args.self.now in
    c.extend_from_slice.ensures.items
    ∙ ap (λ r. cond (is_ok r) (chains.stored.items ++ c.args.bytes.now) chains.stored.items) c.unwrap.ensures

-- what fills the rest of the width
abbrev fill : goal.After-self-1 → List ℕ
fill c = replicate ((c.len-number.result + 1) * c.args.self.now.width - c.extend_from_slice.new.self.len) 0

-- the width ends where the next one begins
ends : (c : goal.After-self-1)
    → (c.len-number.result + 1) * c.args.self.now.width ≡ length c.args.self.now.stored.items + c.args.self.now.width
ends c = let chains = c.args.self.now in
    let number : c.len-number.result ≡ length chains.lengths.items = c.len-number.ensures ∙ chains.lengths.ok.0 in
    ap (λ k. (k + 1) * chains.width) number ∙ sym (next-width chains c.requires.sound)

filled : (c : goal.After-self-1)
    → c.resize.new.self.items ≡ c.args.self.now.stored.items ++ (c.args.bytes.now ++ fill c)
filled c = let chains = c.args.self.now in
    let end : ℕ = (c.len-number.result + 1) * chains.width in
    let all : take end (chains.stored.items ++ c.args.bytes.now) ≡ chains.stored.items ++ c.args.bytes.now
    = take_all end (chains.stored.items ++ c.args.bytes.now)
    (omega (arith, length-append chains.stored.items c.args.bytes.now, ends c)) in
    c.resize.ensures.items
    ∙ ap (λ r. cond (is_ok r) (take end c.extend_from_slice.new.self.items ++ fill c) c.extend_from_slice.new.self.items)
    c.unwrap-2.ensures
    ∙ ap (λ xs. take end xs ++ fill c) (extended c) ∙ ap (λ xs. xs ++ fill c) all
    ∙ append_assoc chains.stored.items c.args.bytes.now (fill c)

whole : (c : goal.After-self-1) → length c.args.bytes.now + length (fill c) ≡ c.args.self.now.width
whole c = let chains = c.args.self.now in
    omega (
      arith,
      length-replicate {A = ℕ} ((c.len-number.result + 1) * chains.width - c.extend_from_slice.new.self.len) 0,
      ends c,
      c.extend_from_slice.new.self.ok.0,
      ap length (extended c),
      length-append chains.stored.items c.args.bytes.now,
    )

-- the link of the string is what its head was
link : (c : goal.After-self-1)
    → c.push_reserved-2.new.self.items ≡ c.args.self.now.nexts.items ++ get_or c.args.self.now.heads.items c.args.place 0 ∷ []
link c = let chains = c.args.self.now in
    let within : c.args.place < length chains.heads.items = omega (
      arith,
      place-within (length chains.heads.items) c.args.bytes.now c.requires.sound.linked.some,
    ) in
    c.push_reserved-2.ensures.items ∙ ap (λ k. chains.nexts.items ++ k ∷ [])
    (c.index.ensures ∙ get_or_default chains.heads.items c.args.place c.index.result.now 0 within)

number : (c : goal.After-self-1) → c.len-number.result ≡ length (strings_of c.args.self.now)
number c = let chains = c.args.self.now in
    c.len-number.ensures ∙ chains.lengths.ok.0 ∙ sym (length-strings_of chains)

abbrev pushed : goal.After-self-1 → Chains
pushed c = record {
  width = c.args.self.now.width;
  stored = c.resize.new.self;
  lengths = c.push_reserved.new.self;
  nexts = c.push_reserved-2.new.self;
  heads = with_item c.args.self.now.heads c.args.place (c.len-number.result + 1);
}

pub returns-clause-sound : goal.returns-clause-sound
returns-clause-sound c = let chains = c.args.self.now in
    sound-push chains (pushed c) c.args.bytes.now (fill c) c.args.place c.requires.sound c.requires.new c.requires.place
    (whole c) refl (filled c) c.push_reserved.ensures.items (link c)
    (ap (λ k. set chains.heads.items c.args.place (k + 1)) (number c))

pub returns-clause-room : goal.returns-clause-room
returns-clause-room c = λ most less room. let chains = c.args.self.now in record {
  few = room.few;
  within = omega (
    arith,
    ap length c.push_reserved.ensures.items,
    length_push chains.lengths.items (length c.args.bytes.now),
    length-strings_of chains,
  );
  bytes = omega (arith, room.bytes, c.extend_from_slice.ensures.capacity, c.resize.ensures.capacity);
  lengths = omega (arith, room.lengths, c.push_reserved.ensures.capacity);
  nexts = omega (arith, room.nexts, c.push_reserved-2.ensures.capacity);
}

pub returns-clause-strings : goal.returns-clause-strings
returns-clause-strings c = let chains = c.args.self.now in
    strings-push chains (pushed c) c.args.bytes.now (fill c) c.args.place c.requires.sound c.requires.new c.requires.place
    (whole c) refl (filled c) c.push_reserved.ensures.items (link c)
    (ap (λ k. set chains.heads.items c.args.place (k + 1)) (number c))
