use Prim.Native.Nat.{◌+◌}
use mir.Syntax.{w64}
use mir.Val.{to_z, of_z}
use Rattle.signed.specs.RangeLaws.{back, small-fits}
use Rattle.signed.specs.Range.{label_in}
use Rattle.label_aim.specs.AimLaws.{bordering_own}
use Rattle.label_visit.specs.AskLaws.{rest_from}
use Rattle.cover_roots.specs.RootRoundsLaws.{cut-written}
use Rattle.cover_roots.proofs.take.Goals as goal

pub returns : goal.returns
returns c = let chosen = c.chosen-found in
    let start = c in
    let a = c.args in
    let v = a.s.inputs + a.g in
    let B = bordering_own {h = to_z w64 (of_z w64 (label_in c.args.labels.now (c.args.s.inputs + c.args.g)))} c.args.a c.requires.asking.3 c.narrowed-e.ensures in
    record {
      rest = rest_from B c.requires.at_rest chosen.ensures.rest;
      taken = record {
        found = chosen.result;
        nodes = chosen.new.nodes;
        backs = chosen.new.backs;
        cut = cut-written a.g c.requires.asking.1 B chosen.ensures.answer chosen.ensures.most chosen.ensures.written (back (label_in a.labels.now v) (small-fits (label_in a.labels.now v) (c.requires.asking.0.small v)));
        stored = c.finish.ensures;
      };
    }
