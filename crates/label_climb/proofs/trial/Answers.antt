use Rattle.std.proofs.Common.{Some}
use mathlib.Core.Path.{sym, ◌∙◌}
use native.Mathlib.Omega.{arith}
use Prim.Native.Nat.{◌*◌}
use Rattle.label_aim.specs.Aims.{mode_of}
use Rattle.label_visit.specs.LabelVisits.{wiring, tops_in}
use Rattle.label_pass.specs.Passes.{order_in}
use Rattle.label_pass.specs.PassLaws.{quiet_none}
use Rattle.label_climb.specs.Trials.{farthest}
use Rattle.label_climb.specs.TrialLaws.{caps_suit, hoisted_ready, restored, trial_refutes}
use Rattle.label_climb.proofs.trial.Goals as goal

pub sweep_some-requires : goal.sweep_some-requires
sweep_some-requires c = record { at_rest = c.requires.at_rest; ready = (hoisted_ready c.hoist.ensures c.requires.ready.0, c.requires.ready.1, caps_suit c.args.s c.args.net.now c.args.a.phi c.requires.ready.3); stop_le_gates = (omega arith, quiet_none (mode_of c.args.a.forward) (c.args.a.phi * c.args.s.width) (wiring c.args.s c.args.net.now) c.args.a.k c.args.a.phi (tops_in c.args.s c.args.net.now (Some farthest)) (order_in c.args.s c.args.net.now) _) }

pub returns : goal.returns
returns c = record {
  at_rest_2 = c.sweep_some.ensures.at_rest_2;
  trial_told = record {
    same = restored c.requires.ready.0.size (c.sweep_some.ensures.progress.fine.size ∙ sym c.requires.ready.0.size) c.copy.ensures c.copy-2.ensures;
    refuted = λ e. trial_refutes c.copy.ensures.at c.hoist.ensures c.sweep_some.ensures.progress.keeps (c.accepted-r.ensures e);
  };
}
