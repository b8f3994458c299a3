use Rattle.dsa_serve.proofs.front.read_first.{Given.{Over}, Goals.{In_ok-count}}
use Rattle.dsa_serve.proofs.front.read_first.Goals as goal
use Rattle.std.proofs.Common.{◌<◌, ◌≤◌, ◌^◌, ◌++◌, ap, sym, length, take, arith, length-append, ◌∙◌, rules}
use Rattle.std.proofs.lemmas.Result.{err_from_is_err_and}
use Rattle.dsa_scenario.specs.Counted.{HasGiven, IsAskedFor}
use Rattle.dsa_scenario.proofs.GivenBytes.{HasGiven-once, HasGiven-trans, asked_once_more}
use Rattle.dsa_serve.specs.{declared.ending.Inside.TheVariants.{Brackets}, Input.{inside_after}}
use Rattle.dsa_serve.proofs.Ends.{depth_within, front_cut, inside_more, no_end-append}
use Rattle.dsa_serve.proofs.Stops.{memory_before, first_read_stops, cut_stops, long_stops}

-- what this read and those before it gave, and for how much of it the reader was asked
given_so_far : (g : Over) (c : In_ok-count g)
    → HasGiven g.R.Read.remaining c.args.reader.now c.read_once.new.self
    (c.reads.first.items ++ take c.in_ok-count.count c.read_once.new.chunk)
given_so_far g c =
    let it = c.in_ok-count.ensures in
    HasGiven-trans g.R.Read.remaining c.args.reader.now c.reads.reader c.read_once.new.self
    c.reads.first.items (take c.in_ok-count.count c.read_once.new.chunk)
    (c.reads.invariant.taken, c.reads.invariant.given)
    (HasGiven-once g.R.Read.remaining c.reads.reader c.read_once.new.self c.in_ok-count.count
    c.read_once.new.chunk it.bound.0 it.bytes.0 it.given)

asked_so_far : (g : Over) (c : In_ok-count g)
    → IsAskedFor g.R.Read.remaining c.args.reader.now c.read_once.new.self 1
asked_so_far g c =
    let it = c.in_ok-count.ensures in
    let before = c.reads.invariant in
    asked_once_more g.R.Read.remaining c.args.reader.now c.reads.reader c.read_once.new.self
    c.reads.first.items c.in_ok-count.count c.read_once.new.chunk (before.taken, before.given) before.asked
    it.bound.0 it.bytes.0 it.given it.counted

-- where it gave some, for each byte once
asked_for_each : (g : Over) (c : In_ok-count g) → 0 < c.in_ok-count.count
    → IsAskedFor g.R.Read.remaining c.args.reader.now c.read_once.new.self 0
asked_for_each g c some =
    let it = c.in_ok-count.ensures in
    let piece = take c.in_ok-count.count c.read_once.new.chunk in (
      c.reads.first.items ++ piece,
      given_so_far g c,
      omega (arith, some, c.reads.invariant.asked, it.counted, it.bound.1, length-append c.reads.first.items piece),
    )

-- the bytes before this read are no more than a line has, and those that it gave fit
short : (g : Over) (c : In_ok-count g) → length c.reads.first.items ≤ 2 ^ 20
short g c = omega (arith, c.reads-test.true, c.len.ensures, c.reads.first.ok.0)

fits : (g : Over) (c : In_ok-count g)
    → length (take c.in_ok-count.count c.read_once.new.chunk) ≤ length c.args.chunk.now
fits g c =
    let bound = c.in_ok-count.ensures.bound in
    omega (arith, bound.0, bound.1, c.read_once.auto.chunk, c.reads.auto.chunk)

pub returns-in_err-count-clause-stopped : goal.returns-in_err-count-clause-stopped
returns-in_err-count-clause-stopped g c =
    let p = err_from_is_err_and c.from_residual.result c.from_residual.ensures.1 in
    rw (p.1, p.2) (λ friendly held. first_read_stops friendly _ _ _ _ held c.reads.first.items _
    c.reads.invariant.taken c.reads.invariant.unended
    (omega (arith, c.reads-test.true, c.len.ensures, c.reads.first.ok.0))
    c.in_err-count.ensures.bytes c.in_err-count.ensures.faults)

pub returns-in_err-cut-clause-stopped : goal.returns-in_err-cut-clause-stopped
returns-in_err-cut-clause-stopped g c =
    let p = err_from_is_err_and c.from_residual-in_err-cut.result c.from_residual-in_err-cut.ensures.1 in
    let read = (goal.at.returns-in_err-cut-clause-stopped g c).In_ok-count in
    rw (p.1, p.2) (λ friendly held. cut_stops friendly _ _ _ held c.reads.first.items
    (take c.in_ok-count.count c.read_once.new.chunk) c.in-Some.at _
    (rw c.reads.invariant.so_far at c.in-Some.ensures.1) c.reads.invariant.unended (short g read)
    (fits g read) (given_so_far g read).0
    c.in_err-cut.ensures.faults)

pub returns-in-Some-clause-bytes : goal.returns-in-Some-clause-bytes
returns-in-Some-clause-bytes g c =
    let piece = take c.in_ok-count.count c.read_once.new.chunk in
    let it = c.in_ok-cut.ensures in
    let cut = front_cut c.reads.first.items piece c.in-Some.at c.reads.invariant.unended
    (rw c.reads.invariant.so_far at c.in-Some.ensures.1) in (
      c.reads.first.items ++ piece,
      (given_so_far g (goal.at.returns-in-Some-clause-bytes g c).In_ok-count).0,
      rw it.first cut.0,
      rw (it.ended, it.first, it.behind) cut.1,
    )

pub returns-in_err-extend_from_slice-clause-stopped : goal.returns-in_err-extend_from_slice-clause-stopped
returns-in_err-extend_from_slice-clause-stopped g c =
    let p = err_from_is_err_and c.from_residual-in_err-extend_from_slice.result
    c.from_residual-in_err-extend_from_slice.ensures.1 in
    let read = (goal.at.returns-in_err-extend_from_slice-clause-stopped g c).In_ok-count in
    rw (p.1, p.2) (λ friendly held. memory_before friendly _ _ _ held c.reads.first.items
    (take c.in_ok-count.count c.read_once.new.chunk) (given_so_far g read).0 c.reads.invariant.unended
    (short g read) (fits g read))

pub returns-in_err-cut-clause-reader : goal.returns-in_err-cut-clause-reader
returns-in_err-cut-clause-reader g c =
    let asked = asked_so_far g (goal.at.returns-in_err-cut-clause-reader g c).In_ok-count in
    record { same = search rules; asked = asked; failed = search rules; too_long = search rules }

pub returns-in_err-extend_from_slice-clause-reader : goal.returns-in_err-extend_from_slice-clause-reader
returns-in_err-extend_from_slice-clause-reader g c =
    let asked = asked_so_far g (goal.at.returns-in_err-extend_from_slice-clause-reader g c).In_ok-count in
    record { same = search rules; asked = asked; failed = search rules; too_long = search rules }

pub returns-in-Some-clause-reader : goal.returns-in-Some-clause-reader
returns-in-Some-clause-reader g c =
    let asked = asked_so_far g (goal.at.returns-in-Some-clause-reader g c).In_ok-count in
    record { same = search rules; asked = asked; failed = search rules; too_long = search rules }

pub returns-in-Some-clause-asked_first : goal.returns-in-Some-clause-asked_first
returns-in-Some-clause-asked_first g c going =
    asked_for_each g (goal.at.returns-in-Some-clause-asked_first g c).In_ok-count
    (omega (arith, c.if-count-eq0.false))

pub reads-preserved : goal.reads-preserved
reads-preserved g c =
    let it = c.in_ok-count.ensures in
    let items = c.in_ok-extend_from_slice.ensures.items in
    let read = (goal.at.reads-preserved g c).In_ok-count in
    let given = given_so_far g read in
    let each = asked_for_each g read (omega (arith, c.if-count-eq0.false)) in
    let piece = take c.in_ok-count.count c.read_once.new.chunk in
    let all = length-append c.reads.first.items piece in
    record {
      room = omega (arith, c.reads.invariant.room, c.read_once.auto.chunk);
      same_reader = it.same_reader ∙ c.reads.invariant.same_reader;
      asked = rw items (omega (arith, each.2));
      well = it.failed.1 ∙ c.reads.invariant.well;
      taken = rw items given.0;
      given = rw items given.1;
      unended = rw items (no_end-append (Brackets 0) c.reads.first.items piece c.reads.invariant.unended
          (rw c.reads.invariant.so_far at c.in_default.ensures.0));
      so_far = rw items (c.in_default.ensures.1 ∙ ap (λ i. inside_after i piece) c.reads.invariant.so_far
          ∙ sym (inside_more (Brackets 0) c.reads.first.items piece));
      few = rw items (omega (arith, short g read, fits g read, c.reads.auto.chunk, all));
    }

pub returns-clause-stopped : goal.returns-clause-stopped
returns-clause-stopped g c friendly held =
    long_stops friendly _ _ _ held c.reads.first.items c.reads.invariant.taken c.reads.invariant.unended
    (omega (arith, c.reads-test.false, c.len.ensures, c.reads.first.ok.0)) c.reads.invariant.few

pub end_in-requires : goal.end_in-requires
end_in-requires g c =
    let read = (goal.at.end_in-requires g c).In_ok-count in
    rw c.reads.invariant.so_far (omega (
      arith,
      depth_within (Brackets 0) c.reads.first.items,
      short g read,
      fits g read,
    ))
