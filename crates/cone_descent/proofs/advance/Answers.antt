use Rattle.cone_descent.specs.DescentStepLaws.{pin-read, leaves-long, advance_denied, advance_known, advance_pushed}
use Rattle.cone_descent.proofs.advance.Goals as goal

pub returns-in-NoCut-clause-moved : goal.returns-in-NoCut-clause-moved
returns-in-NoCut-clause-moved c = advance_denied c.requires.1 (leaves-long c.requires.0) (pin-read c.args.q.gates c.args.net.now c.requires.1) c.meet-met.ensures c.in-NoCut.is

pub returns-in-Known-clause-moved : goal.returns-in-Known-clause-moved
returns-in-Known-clause-moved c = advance_known c.requires.1 (leaves-long c.requires.0) (pin-read c.args.q.gates c.args.net.now c.requires.1) c.meet-met.ensures c.in-Known.is

pub returns-in-New-clause-moved : goal.returns-in-New-clause-moved
returns-in-New-clause-moved c =
    let e = c.push.ensures in
    advance_pushed c.requires.1 (leaves-long c.requires.0) (pin-read c.args.q.gates c.args.net.now c.requires.1) c.meet-met.ensures c.in-New.is e.0 e.1 e.2 e.3
