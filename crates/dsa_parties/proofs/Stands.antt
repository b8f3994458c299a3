-- Clients in their parts: where they stand, and which labels they stand behind.
use Rattle.std.proofs.Common.{◌≡◌, ℕ, zero, suc, ◌+◌, ◌<◌, ◌≤◌, true, ◌&&◌, List, [], ◌∷◌}
use Rattle.std.proofs.Common.{◌^◌, length, map, Some, refl, sym, ap, subst, ⊎_elim, arith, slice_get}
use Rattle.std.specs.{List.{list_all}, Prelude.{slice_set, nat_le, nat_lt}}
use Rattle.std.proofs.lemmas.{Bool.{and_parts, and_from, ltb-true, leb-true, or_cases, or_left, or_right, lt-ltb}}
use Rattle.std.proofs.lemmas.{Bool.{le-leb, eqb-true}, Option.{same_Some}}
use Rattle.dsa_parties.specs.declared.places.ClientPlace.{ClientPlace}
use Rattle.dsa_parties.specs.declared.script.{ClientScript.{ClientScript}, Part.{Part}}
use Rattle.dsa_parties.specs.declared.script.{Script.{Script}, ScriptEntry.{ScriptEntry}, Submission.{Submission}}
use Rattle.dsa_parties.specs.Scripts.{submission_at, member_label, are_in_order, are_parts, is_boundary}
use Rattle.dsa_parties.specs.{Good.{stand_within, is_behind}}
use Rattle.dsa_parties.proofs.Fits.{all-at, behind-members}

-- ---- the parts of clients

abbrev pub parts_of : List ClientScript → List Part
parts_of clients = map (λ (client : ClientScript). client.part) clients

-- what the test of a script says
pub record Fits (entries : List ScriptEntry) (clients : List ClientScript) : Type 0 where
  pub order : are_in_order entries ≡ true
  pub ends : list_all (λ (client : ClientScript). is_boundary entries client.part.end) clients ≡ true
  pub parts : are_parts 0 (length entries) (parts_of clients) ≡ true

pub fits : (script : Script) → Fits script.entries.items script.clients.items
fits script =
    let a = and_parts _ _ (and_parts _ _ (and_parts _ _ (and_parts _ _ (and_parts _ _ script.fits).0).0).0).0 in
    let b = and_parts _ _ a.0 in
    let c = and_parts _ _ b.0 in
    record { order = c.0; ends = c.1; parts = b.1 }

-- what the test of parts says of the first
pub record FirstPart (from end : ℕ) (part : Part) (others : List Part) : Type 0 where
  pub first : part.first ≡ from
  pub rises : from ≤ part.end
  pub rest : are_parts part.end end others ≡ true

pub first-part : (from end : ℕ) (part : Part) (parts : List Part) → are_parts from end (part ∷ parts) ≡ true
    → FirstPart from end part parts
first-part from end part parts h =
    let a = and_parts _ _ h in
    let b = and_parts _ _ a.0 in
    record { first = eqb-true part.first from b.0; rises = leb-true from part.end b.1; rest = a.1 }

pub parts-below : (from end : ℕ) (clients : List ClientScript) (c : ℕ) (client : ClientScript)
    → are_parts from end (parts_of clients) ≡ true → slice_get clients c ≡ Some client
    → (from ≤ client.part.first) × (client.part.end ≤ end)
parts-below from end [] c client h e = absurd cc
parts-below from end (x ∷ clients) zero client h e =
    let p = first-part from end x.part (parts_of clients) h in
    subst (λ (z : ClientScript). (from ≤ z.part.first) × (z.part.end ≤ end)) (same_Some x client e)
    (omega (arith, p.first), rest-above x.part.end end (parts_of clients) p.rest)
  where
    rest-above : (from end : ℕ) (parts : List Part) → are_parts from end parts ≡ true → from ≤ end
    rest-above from end [] h = omega (arith, eqb-true from end h)
    rest-above from end (part ∷ parts) h =
        let p = first-part from end part parts h in
        omega (arith, p.rises, rest-above part.end end parts p.rest)
parts-below from end (x ∷ clients) (suc c) client h e =
    let p = first-part from end x.part (parts_of clients) h in
    let r = parts-below x.part.end end clients c client p.rest e in
    (omega (arith, p.rises, r.0), r.1)

-- ---- where clients stand

pub record StandsIn (entries : List ScriptEntry) (client : ClientScript) (place : ClientPlace) : Type 0 where
  pub first : client.part.first ≤ place.next
  pub end : place.next ≤ client.part.end
  pub boundary : is_boundary entries place.next ≡ true

pub record FirstStands (entries : List ScriptEntry) (client : ClientScript) (place : ClientPlace)
    (clients : List ClientScript) (places : List ClientPlace) : Type 0 where
  pub stands : StandsIn entries client place
  pub rest : stand_within entries clients places ≡ true

pub first-stands : (entries : List ScriptEntry) (client : ClientScript) (place : ClientPlace)
    (clients : List ClientScript) (places : List ClientPlace)
    → stand_within entries (client ∷ clients) (place ∷ places) ≡ true
    → FirstStands entries client place clients places
first-stands entries client place clients places h =
    let a = and_parts _ _ h in
    let b = and_parts _ _ a.0 in
    let c = and_parts _ _ b.0 in
    record {
      stands = record { first = leb-true _ _ c.0; end = leb-true _ _ c.1; boundary = b.1 };
      rest = a.1;
    }

stand-all : (entries : List ScriptEntry) (client : ClientScript) (place : ClientPlace)
    (clients : List ClientScript) (places : List ClientPlace) → StandsIn entries client place
    → stand_within entries clients places ≡ true → stand_within entries (client ∷ clients) (place ∷ places) ≡ true
stand-all entries client place clients places s h =
    and_from _ _
    (and_from _ _ (and_from _ _ (le-leb _ _ s.first) (le-leb _ _ s.end)) s.boundary) h

pub stand-at : (entries : List ScriptEntry) (clients : List ClientScript) (places : List ClientPlace) (c : ℕ)
    (client : ClientScript) (place : ClientPlace) → stand_within entries clients places ≡ true
    → slice_get clients c ≡ Some client → slice_get places c ≡ Some place → StandsIn entries client place
stand-at entries [] places c client place h e p = absurd cc
stand-at entries (x ∷ clients) [] c client place h e p = absurd cc
stand-at entries (x ∷ clients) (y ∷ places) zero client place h e p =
    subst (λ z. StandsIn entries z place) (same_Some x client e)
    (subst (λ z. StandsIn entries x z) (same_Some y place p) (first-stands entries x y clients places h).stands)
stand-at entries (x ∷ clients) (y ∷ places) (suc c) client place h e p =
    stand-at entries clients places c client place (first-stands entries x y clients places h).rest e p

-- with one at another place
pub stand-set : (entries : List ScriptEntry) (clients : List ClientScript) (places : List ClientPlace) (c : ℕ)
    (client : ClientScript) (place : ClientPlace) → stand_within entries clients places ≡ true
    → slice_get clients c ≡ Some client → StandsIn entries client place
    → stand_within entries clients (slice_set places c place) ≡ true
stand-set entries [] places c client place h e s = absurd cc
stand-set entries (x ∷ clients) [] c client place h e s = absurd cc
stand-set entries (x ∷ clients) (y ∷ places) zero client place h e s =
    stand-all entries x place clients places
    (subst (λ z. StandsIn entries z place) (sym (same_Some x client e)) s)
    (first-stands entries x y clients places h).rest
stand-set entries (x ∷ clients) (y ∷ places) (suc c) client place h e s =
    let f = first-stands entries x y clients places h in
    stand-all entries x y clients (slice_set places c place) f.stands
    (stand-set entries clients places c client place f.rest e s)

-- ---- what they stand behind

abbrev IsBehindOne : ClientScript → ClientPlace → ℕ → Type 0
IsBehindOne client place label = (client.part.first ≤ label) × (label < place.next)

behind-one : (client : ClientScript) (place : ClientPlace) (label : ℕ)
    → (nat_le client.part.first label && nat_lt label place.next) ≡ true → IsBehindOne client place label
behind-one client place label h = let a = and_parts _ _ h in (leb-true _ _ a.0, ltb-true _ _ a.1)

one-behind : (client : ClientScript) (place : ClientPlace) (label : ℕ) → IsBehindOne client place label
    → (nat_le client.part.first label && nat_lt label place.next) ≡ true
one-behind client place label h = and_from _ _ (le-leb _ _ h.0) (lt-ltb _ _ h.1)

-- the client that stands behind the label
pub record Behind (entries : List ScriptEntry) (end label : ℕ) : Type 0 where
  pub client : ClientScript
  pub place : ClientPlace
  pub stands : StandsIn entries client place
  pub first : client.part.first ≤ label
  pub next : label < place.next
  pub within : client.part.end ≤ end

pub behind-within : (entries : List ScriptEntry) (from end : ℕ) (clients : List ClientScript)
    (places : List ClientPlace) (label : ℕ) → are_parts from end (parts_of clients) ≡ true
    → stand_within entries clients places ≡ true → is_behind clients places label ≡ true
    → (from ≤ label) × (label < end)
behind-within entries from end [] places label h s b = absurd cc
behind-within entries from end (x ∷ clients) [] label h s b = absurd cc
behind-within entries from end (x ∷ clients) (y ∷ places) label h s b =
    let p = first-part from end x.part (parts_of clients) h in
    let f = first-stands entries x y clients places s in
    let below = parts-below from end (x ∷ clients) zero x h refl in
    let more = behind-within entries x.part.end end clients places label p.rest f.rest in
    ⊎_elim
    (λ l. let o = behind-one x y label l in
    (omega (arith, p.first, o.0), omega (arith, o.1, f.stands.end, below.1)))
    (λ r. let m = more r in (omega (arith, p.rises, m.0), m.1))
    (or_cases _ _ b)

-- a client alone stands behind the labels of its part
pub behind-own : (entries : List ScriptEntry) (from end : ℕ) (clients : List ClientScript)
    (places : List ClientPlace) (c label : ℕ) (client : ClientScript) (place : ClientPlace)
    → are_parts from end (parts_of clients) ≡ true → stand_within entries clients places ≡ true
    → slice_get clients c ≡ Some client → slice_get places c ≡ Some place
    → client.part.first ≤ label → label < client.part.end
    → is_behind clients places label ≡ true → label < place.next
behind-own entries from end [] places c label client place h s e p a l b = absurd cc
behind-own entries from end (x ∷ clients) [] c label client place h s e p a l b = absurd cc
behind-own entries from end (x ∷ clients) (y ∷ places) zero label client place h s e p a l b =
    let part = first-part from end x.part (parts_of clients) h in
    let f = first-stands entries x y clients places s in
    let q : y.next ≡ place.next = ap (λ (z : ClientPlace). z.next) (same_Some y place p) in
    let r : x.part.end ≡ client.part.end = ap (λ (z : ClientScript). z.part.end) (same_Some x client e) in
    ⊎_elim
    (λ m. omega (arith, (behind-one x y label m).1, q))
    (λ m. absurd (omega (
      arith,
      (behind-within entries x.part.end end clients places label part.rest f.rest m).0,
      l,
      r,
    )))
    (or_cases _ _ b)
behind-own entries from end (x ∷ clients) (y ∷ places) (suc c) label client place h s e p a l b =
    let part = first-part from end x.part (parts_of clients) h in
    let f = first-stands entries x y clients places s in
    let above = parts-below x.part.end end clients c client part.rest e in
    let more = behind-own entries x.part.end end clients places c label client place part.rest f.rest e p a l in
    ⊎_elim
    (λ m. absurd (omega (arith, (behind-one x y label m).1, f.stands.end, above.0, a)))
    more
    (or_cases _ _ b)

-- a client that goes on stands behind what it stood behind
pub behind-set : (clients : List ClientScript) (places : List ClientPlace) (c label : ℕ) (place place' : ClientPlace)
    → slice_get places c ≡ Some place → place.next ≤ place'.next → is_behind clients places label ≡ true
    → is_behind clients (slice_set places c place') label ≡ true
behind-set [] places c label place place' p l b = absurd cc
behind-set (x ∷ clients) [] c label place place' p l b = absurd cc
behind-set (x ∷ clients) (y ∷ places) zero label place place' p l b =
    let q : y.next ≡ place.next = ap (λ (z : ClientPlace). z.next) (same_Some y place p) in
    ⊎_elim
    (λ m. let o = behind-one x y label m in
    or_left _ _ (one-behind x place' label (o.0, omega (arith, o.1, q, l))))
    (λ m. or_right _ _ m)
    (or_cases _ _ b)
behind-set (x ∷ clients) (y ∷ places) (suc c) label place place' p l b =
    let more = behind-set clients places c label place place' p l in
    ⊎_elim (λ m. or_left _ _ m) (λ m. or_right _ _ (more m)) (or_cases _ _ b)

-- and behind what it passed
pub behind-new : (clients : List ClientScript) (places : List ClientPlace) (c label : ℕ) (client : ClientScript)
    (place place' : ClientPlace) → slice_get clients c ≡ Some client → slice_get places c ≡ Some place
    → client.part.first ≤ label → label < place'.next → is_behind clients (slice_set places c place') label ≡ true
behind-new [] places c label client place place' e p a l = absurd cc
behind-new (x ∷ clients) [] c label client place place' e p a l = absurd cc
behind-new (x ∷ clients) (y ∷ places) zero label client place place' e p a l =
    let r : x.part.first ≡ client.part.first = ap (λ (z : ClientScript). z.part.first) (same_Some x client e) in
    or_left _ _ (one-behind x place' label (omega (arith, a, r), l))
behind-new (x ∷ clients) (y ∷ places) (suc c) label client place place' e p a l =
    or_right _ _ (behind-new clients places c label client place place' e p a l)

-- who stands behind a batch stands behind its members
pub behind-batch : (entries : List ScriptEntry) → are_in_order entries ≡ true → (clients : List ClientScript)
    (places : List ClientPlace) (batch k : ℕ) (s : Submission) → submission_at entries batch ≡ Some s → k < s.members
    → stand_within entries clients places ≡ true → is_behind clients places batch ≡ true
    → is_behind clients places (member_label batch k) ≡ true
behind-batch entries order [] places batch k s e l w b = absurd cc
behind-batch entries order (x ∷ clients) [] batch k s e l w b = absurd cc
behind-batch entries order (x ∷ clients) (y ∷ places) batch k s e l w b =
    let f = first-stands entries x y clients places w in
    let more = behind-batch entries order clients places batch k s e l f.rest in
    ⊎_elim
    (λ m.
    let o = behind-one x y batch m in
    let whole = behind-members entries order batch y.next s e f.stands.boundary o.1 in
    or_left _ _ (one-behind x y (member_label batch k) (omega (arith, o.0), omega (arith, whole, l))))
    (λ m. or_right _ _ (more m))
    (or_cases _ _ b)

-- ---- numbers that fit

pub entries-few : (script : Script) → length script.entries.items < 2 ^ 32
entries-few script = ltb-true _ _
    (and_parts _ _ (and_parts _ _ (and_parts _ _ (and_parts _ _ script.fits).0).0).0).1

pub acts-few : (script : Script) → length script.acts.items < 2 ^ 32
acts-few script = ltb-true _ _ (and_parts _ _ (and_parts _ _ (and_parts _ _ script.fits).0).0).1

-- behind a submission of a part there is room for its members
pub room-behind : (script : Script) (c label : ℕ) (client : ClientScript) (s : Submission)
    → slice_get script.clients.items c ≡ Some client → submission_at script.entries.items label ≡ Some s
    → label < client.part.end → label + 1 + s.members < 2 ^ 32
room-behind script c label client s at is below =
    let f = fits script in
    let whole = behind-members script.entries.items f.order label client.part.end s is
    (all-at (λ (client : ClientScript). is_boundary script.entries.items client.part.end) script.clients.items c client
    f.ends at) below in
    let end = parts-below 0 (length script.entries.items) script.clients.items c client f.parts at in
    omega (arith, whole, end.1, entries-few script)
