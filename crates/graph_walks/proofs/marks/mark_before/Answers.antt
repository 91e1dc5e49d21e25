use Rattle.graph_walks.proofs.Walks.{led_before}
use Rattle.graph_walks.proofs.marks.mark_before.Goals as goal

pub returns-clause-led : goal.returns-clause-led
returns-clause-led c = λ edges ends among led.
    led_before edges ends c.args.marks.now c.args.edge among c.if-not-marks-edge.false led
