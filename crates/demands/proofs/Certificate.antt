-- The certificate's inhabitant.
use Rattle.std.specs.Prelude.{◌≡◌, Bool, List, ◌↔◌, ℕ, ◌+◌, ◌≤◌, ◌<◌, length, get_or, take}
use Rattle.limits.specs.Limits.{cover_area, scratch_area}
use Rattle.limits.specs.Courses.{long}
use Rattle.net_model.specs.Net.{Net}
use Rattle.net_model.specs.Runs.{Run}
use Rattle.net_bytes.specs.Short.{Bytes}
use Rattle.cover_theory.specs.Covers.{Met, LeastPeriod}
use Rattle.cover_theory.specs.Board.{Satisfied}
use Rattle.cover_theory.specs.Key.{Key, entries, as_cover}
use Rattle.cover_period.specs.Written.{no_entry}
use Rattle.cover_records.specs.CoverBytes.{Record, cover_bytes}
use Rattle.cover_records.specs.Outcomes.{accepted, turned_back, cleared, written}
use Rattle.lutclass.specs.ClassTable.{ClassTable, shipped}
use Rattle.lutclass.proofs.ClassTableLaws.{class_table}
use Rattle.text_classes.specs.ClassText.{number_lines, class_text}
use Rattle.text_classes.specs.ClassTextLaws.{prints_shipped}
use Rattle.captures.specs.AlignTold.{AlignTold}
use Rattle.captures.proofs.CaptureLaws.{align_told}
use Rattle.job_find.specs.RootLookup.{found, find_root}
use Rattle.job_find.specs.RootLookup as find
use Rattle.job_find.specs.LookupTold.{RootTold, Unread}
use Rattle.job_find.specs.Unread.{unread}
use Rattle.job_find.specs.LookupRange.{only_19, find-range}
use Rattle.cone_leaves.specs.Lookup.{seek_of, LeafLookup}
use Rattle.cone_leaves.proofs.LookupLaws.{leaf-lookup}
use Rattle.demands.specs.TurnedBack.{IsNet, IsRecord, First, OfMap, OfMark}
use Rattle.demands.specs.Calls.{MapCall, MarkCall, map_done, mark_done, MapBad, MarkBad, MapNet, MarkNet, Asked}
use Rattle.demands.proofs.MapEndsLaws.{map_range}
use Rattle.demands.proofs.MarkEndsLaws.{mark-range}
use Rattle.demands.specs.Right.{RightRecord, Wrote}
use Rattle.demands.specs.ShortCourse.{ShortCourse}
use Rattle.demands.proofs.ShortCourseLaws.{short-course}
use Rattle.demands.specs.BenchRun.{BenchRun}
use Rattle.demands.proofs.BenchRunLaws.{bench-run}
use Rattle.demands.specs.ForwardMap.{ForwardMap}
use Rattle.demands.proofs.ForwardMapLaws.{forward-map}
use Rattle.demands.specs.ChangeOver.{ChangeOver}
use Rattle.demands.proofs.ChangeOverLaws.{change-over-map}
use Rattle.demands.specs.LeastLags.{LeastLags}
use Rattle.demands.proofs.LeastLagsLaws.{least-lags}
use Rattle.demands.specs.LoaderArea.{LoaderArea}
use Rattle.demands.proofs.LoaderAreaLaws.{loader-area}
use Rattle.demands.proofs.CallLaws as law
use Rattle.demands.proofs.Roots.{accepted-told}
use Rattle.demands.specs.SharedCount.{SharedCount}
use Rattle.demands.proofs.SharedCountLaws.{shared-count}
use Rattle.demands.specs.Certificate.{Certificate}

-- **All of it is proved.**
pub certificate : Certificate
certificate = record {
  map-leaves = law.leaves;
  mark-leaves = λ c n. (law.mark-left c n).0;
  map-number = law.map-told;
  mark-number = law.mark-told;
  map-accepts = law.map-none;
  mark-accepts = law.mark-none;
  map-numbers = λ c n e. map_range c.net c.k c.target c.area c.scratch n ((law.map-told c n).0 e).fails;
  mark-numbers = λ c n e. mark-range c.net c.k c.bytes c.scratch n ((law.mark-told c n).0 e).fails;
  map-untouched = λ c n e. (law.untouched c n e).0;
  map-kept = λ c n e. (law.untouched c n e).1;
  map-cleared = λ c n e. (law.untouched c n e).2;
  mark-kept = λ c n e. ((law.mark-left c n).1 e).0;
  mark-cleared = λ c n e. ((law.mark-left c n).1 e).1;
  keys = law.keyed;
  marks = law.marked;
  runs = law.ran;
  own = law.owned;
  unreachable = law.unreached;
  meets = law.met_at;
  least = law.least_at;
  classes = class_table;
  generator = prints_shipped;
  roots = accepted-told;
  unread-roots = unread long;
  root-number = only_19 long;
  root-place = find-range;
  captures = align_told;
  shared = shared-count;
  lookup = leaf-lookup;
  course = short-course;
  loader = loader-area;
  bench = bench-run;
  forward = forward-map;
  change = change-over-map;
  lags = least-lags;
}
