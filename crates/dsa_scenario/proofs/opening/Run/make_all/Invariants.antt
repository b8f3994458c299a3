use Rattle.dsa_scenario.proofs.opening.Run.make_all.Given as goal
use Rattle.std.proofs.Common.{ℕ, [], take}
use Rattle.dsa_regs.specs.declared.Caps.{Caps}
use Rattle.dsa_scenario.specs.{Steps.{IsWalkTo}, Streams.{IsPageBehind}}

abbrev pub invariant-loop-i : goal.invariant-loop-i
invariant-loop-i g l =
    (caps : Caps) → (capacity : ℕ)
    → IsWalkTo (IsPageBehind [] (g.D.RenderSteps.is_page l.what)) caps capacity [] 0 l.initial.self.device
    l.initial.self.tickets.items l.initial.page
    → IsWalkTo (IsPageBehind [] (g.D.RenderSteps.is_page l.what)) caps capacity (take l.i l.actions) l.i l.self.device
    l.self.tickets.items l.page
