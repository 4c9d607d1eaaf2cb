use mathlib.Core.Path.{subst, ◌∙◌}
use Rattle.net_checks.specs.Graphs.{NineTold, TenTold, ElevenTold}
use Rattle.net_checks.specs.GraphLaws.{ten_kept, kept_checkable, told-unreached, told-unled, told-passed}
use Rattle.net_checks.proofs.check_graph.Goals as goal

pub returns-then-not-store_ten : goal.returns-then-not-store_ten
returns-then-not-store_ten c = told-unreached c.requires.0 (subst (NineTold _ _ _) (c.if-not-store_nine.false) c.store_nine.ensures) (subst (TenTold _ _ _) (c.if-not-store_ten.true) c.store_ten.ensures)

pub store_eleven-requires : goal.store_eleven-requires
store_eleven-requires c =
    let start = c in
    (kept_checkable (ten_kept c.requires.0 (subst (NineTold _ _ _) (c.if-not-store_nine.false) c.store_nine.ensures) (subst (TenTold _ _ _) (c.if-not-store_ten.false) c.store_ten.ensures)) c.requires.0, c.store_ten.auto.seen ∙ c.store_nine.auto.seen ∙ c.requires.1.at_seen)

pub returns-then-not-store_eleven : goal.returns-then-not-store_eleven
returns-then-not-store_eleven c = told-unled c.requires.0 (subst (NineTold _ _ _) (c.if-not-store_nine.false) c.store_nine.ensures) (subst (TenTold _ _ _) (c.if-not-store_ten.false) c.store_ten.ensures) (subst (ElevenTold _ _ _) (c.if-not-store_eleven.true) c.store_eleven.ensures)

pub returns : goal.returns
returns c = told-passed c.requires.0 (subst (NineTold _ _ _) (c.if-not-store_nine.false) c.store_nine.ensures) (subst (TenTold _ _ _) (c.if-not-store_ten.false) c.store_ten.ensures) (subst (ElevenTold _ _ _) (c.if-not-store_eleven.false) c.store_eleven.ensures)
