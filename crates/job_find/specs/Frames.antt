-- Laws of the readers of a cover record's parts: they used the bytes in front of what is left, and with these in front they give the same value, whatever follows.
use Rattle.std.specs.Prelude.{Bool, true, false, ℕ, ◌/◌, ◌%◌}
use Rattle.std.specs.Int.Count.{ones}
use Rattle.limits.specs.declared.Rules.{Rules}
use Rattle.net_bytes.specs.Walk.{table_bytes}
use Rattle.net_bytes.specs.Frames.{Framed, framed_give, framed_check, framed_byte, framed_number, framed_then, framed_times}
use Rattle.cover_records.specs.CoverBytes.{not_zero, leaves_from, rising_leaves, depth_reader, lut_body, lead_reader}
use Rattle.cover_records.specs.CoverStages.{front, front_reader}

pub framed_lut : (w : Bool) (nodes k root : ℕ) → Framed (lut_body w nodes k root)
unfolding lut_body depth_reader
framed_lut w nodes k root =
    framed_then (framed_byte 13 13 _) λ n.
    framed_then (framed_byte 13 13 _) λ m.
    framed_then (framed_times (framed_number w 13 13 _) n) λ us.
    framed_then (framed_times (framed_number true 13 13 not_zero) (ones (m % 64))) λ ds.
    framed_then (framed_check (rising_leaves (leaves_from (m % 64) us ds)) 13 (leaves_from (m % 64) us ds)) λ L.
    framed_then (framed_times (framed_number w 13 13 not_zero) (m / 64)) λ lags.
    framed_then (framed_times (framed_byte 13 13 _) (table_bytes n)) λ table. framed_give _

pub framed_front : (R : Rules) → Framed (front_reader R)
framed_front R =
    framed_then (framed_lead R.wide) λ lead.
    framed_then (framed_number R.wide 13 13 _) λ period.
    framed_then (framed_number R.wide 13 13 _) λ n. framed_give (front period n)
  where
    framed_lead : (w : Bool) → Framed (lead_reader w)
    framed_lead false = framed_give 0
    framed_lead true = framed_byte 13 13 _
