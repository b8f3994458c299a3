use Rattle.dsa_serve.proofs.session.Session.begin_anew.Goals as goal
use Rattle.std.proofs.Common.{refl, string_bytes}
use Rattle.std.proofs.lemmas.Result.{on_ok_weaker}
use Rattle.dsa_serve.proofs.Sessions.{begun_anew}

pub returns : goal.returns
returns g c =
    let now = c.args.self.now in
    on_ok_weaker c.add_anew.result
    (λ adds. (
      begun_anew now (record now { device = c.begin_anew.new.self; told = c.told_anew-self.result }) c.args.past
          (string_bytes c.args.text.now) (string_bytes c.add_anew.new.text) c.in_ok-begin_anew.ensures.ok refl refl
          c.told_anew-self.ensures adds,
      refl,
    ))
    c.add_anew.ensures
