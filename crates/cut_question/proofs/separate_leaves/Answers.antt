use Rattle.std.specs.Prelude.{unwrap_or}
use Rattle.std.proofs.Common.{◌+◌, sym, ◌∙◌, arith}
use Rattle.cut_question.specs.Separating.{LeavesTold}
use Rattle.cut_question.proofs.Meaning.{leaves-asked, count-few, count-many}
use Rattle.cut_question.proofs.separate_leaves.Goals as goal
use Rattle.cut_question.proofs.separate_leaves.Goals.{then-is_some, else-is_some}

pub leaves-requires : goal.leaves-requires
leaves-requires c =
    leaves-asked c.requires.cut_asked.fixed.layout c.requires.takes (c.min_cut-least.auto.table ∙ c.requires.cut_asked.sized.room) c.min_cut-least.ensures.told
    (count-few c.min_cut-least.result c.min_cut-least.ensures.most (sym c.is_some.ensures ∙ c.if-is_some.true))

pub returns : goal.returns
returns c =
    let count = unwrap_or c.min_cut-least.result (c.args.k + 1) in
    let told : LeavesTold c.args.w.s.width c.args.k count c.min_cut-least.new.table c.if-is_some.nodes c.if-is_some.backs =
    elim c.if-is_some.branch [
      | then-is_some w ↦ λ h. rw (w.nodes-is, w.backs-is) (w.leaves.result, w.leaves.ensures)
      | else-is_some w ↦ λ h. absurd (let l = count-many {k = c.args.k} c.min_cut-least.result (sym c.is_some.ensures ∙ w.if-is_some.false) in omega (arith, h, l))
    ] in
    record {
      cleared = c.clear.ensures;
      seen = record {
        seen = record { table = c.min_cut-least.new.table; list = c.min_cut-least.new.list; room = c.min_cut-least.auto.table ∙ c.requires.cut_asked.sized.room; told = c.min_cut-least.ensures.told };
        collected = told;
      };
      most = c.min_cut-least.ensures.most;
    }
