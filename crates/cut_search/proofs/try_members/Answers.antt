use Rattle.std.proofs.Common.{◌∙◌, arith}
use Rattle.cut_search.specs.SearchLaws.{searched_start, searched_member, searched_more, searched_won, searched_all}
use Rattle.cut_search.specs.AroundLaws.{length-around, around-read, roots-around}
use Rattle.cut_search.proofs.try_members.Goals as goal

pub loop-j-init : goal.loop-j-init
loop-j-init c = searched_start (roots-around c.args.members.now c.args.from c.requires.from_in_bounds c.requires.roots_asked)

pub try_member-requires : goal.try_member-requires
try_member-requires c =
    searched_member (roots-around c.args.members.now c.args.from c.requires.from_in_bounds c.requires.roots_asked) c.loop-j.invariant
    (c.number_at-x.ensures ∙ around-read c.args.members.now c.args.from c.requires.from_in_bounds c.loop-j.j c.place_at-i.result c.loop-j-test.true c.place_at-i.ensures)
    (omega (arith, length-around c.args.members.now c.args.from c.requires.from_in_bounds))

pub returns-then-try_member : goal.returns-then-try_member
returns-then-try_member c = record {
  search_told = searched_won (roots-around c.args.members.now c.args.from c.requires.from_in_bounds c.requires.roots_asked) c.loop-j.invariant c.try_member.ensures c.if-try_member.true;
  place = c.place_at-i.ensures.below;
}

pub loop-j-preserved : goal.loop-j-preserved
loop-j-preserved c =
    searched_more (roots-around c.args.members.now c.args.from c.requires.from_in_bounds c.requires.roots_asked) c.loop-j.invariant
    (c.number_at-x.ensures ∙ around-read c.args.members.now c.args.from c.requires.from_in_bounds c.loop-j.j c.place_at-i.result c.loop-j-test.true c.place_at-i.ensures)
    (omega (arith, length-around c.args.members.now c.args.from c.requires.from_in_bounds)) c.try_member.ensures c.if-try_member.false c.try_member.auto.table c.try_member.auto.list
    c.try_member.auto.stack c.try_member.auto.counts

pub returns : goal.returns
returns c = record {
  search_told = searched_all (roots-around c.args.members.now c.args.from c.requires.from_in_bounds c.requires.roots_asked) c.loop-j.invariant
      (omega (arith, length-around c.args.members.now c.args.from c.requires.from_in_bounds));
  place = tt;
}
