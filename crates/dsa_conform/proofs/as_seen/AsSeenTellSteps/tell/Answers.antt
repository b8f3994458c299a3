use Rattle.dsa_conform.proofs.as_seen.AsSeenTellSteps.tell.Goals as goal

pub returns : goal.returns
returns g c =
    let farthest = c.in_ok-course.ensures in
    record {
      observed = farthest.observed;
      read = farthest.read;
      count = c.in_ok-course.course.count;
      farthest = farthest.farthest;
      of_run = c.in_ok-text.ensures farthest.observed farthest.read;
    }
