use Rattle.net_reader.specs.NetStoreLaws.{gate-stored}
use Rattle.net_reader.proofs.store_gate.Goals as goal

pub returns : goal.returns
returns c = gate-stored _ _ c.args.gates c.args.g c.args.row c.requires _ _ c.store.ensures c.store_counts.ensures
