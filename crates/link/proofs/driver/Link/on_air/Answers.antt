use Rattle.std.proofs.Common.{ap, ◌∙◌, ap₂}
use Rattle.air.specs.Ends.{end_of}
use Rattle.air.specs.TerminalViews.{tuned}
use Rattle.link.proofs.Homecoming.{blocks_come_home}
use Rattle.link.proofs.driver.Link.on_air.Goals as goal

pub returns-clause-home : goal.returns-clause-home
returns-clause-home g c =
    let m = g.S.Stage.meaning c.args.chain in
    let alike = ap₂ (λ u t. record { cell = u; terminal = t }) c.cell.ensures (c.terminal.ensures ∙ ap (λ x. tuned x m) c.twin-twin.ensures.same) in
    blocks_come_home g.P.Point.kind g.met.P.Point.lawful m (g.met.S.Stage.lawful c.args.chain) (end_of c.args.parked) c.twin-twin.ensures.ranged _ alike
