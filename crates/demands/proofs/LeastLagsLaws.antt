-- Laws of document 02, E9: the lags of a key are those of the least labelling, and every cover that meets the period is a labelling.
use Rattle.std.specs.Prelude.{◌≡◌, List, ℕ, ℤ, ◌≤ℤ◌}
use Rattle.std.proofs.Common.{sym, subst, ap, ◌∙◌, arith}
use Rattle.sequences.specs.Member.{◌∈◌, get_or_in}
use Rattle.net_model.specs.Net.{Net}
use Rattle.label_theory.specs.Labels.{Mode}
use Rattle.cover_theory.specs.Covers.{Cover, Lut, lut, RootedAt, IsCover, Meets}
use Rattle.cover_theory.specs.Forward.{Suited}
use Rattle.cover_period.specs.Joined.{key-met, key-suited, least-lags_in}
use Rattle.cover_theory.specs.Key.{Entry, entries, as_cover, as_lut}
use Rattle.cover_period.specs.KeyOf.{key-labelled}
use Rattle.cover_period.specs.Written.{no_entry, lut-as_cover, luts-as_cover}
use Rattle.cover_records.specs.CoverBytes.{Record}
use Rattle.cover_records.specs.ForwardOutcome.{forward_outcome}
use Rattle.demands.specs.Right.{KeyRead}
use Rattle.demands.proofs.CallLaws.{read-key}
use Rattle.demands.specs.ForwardMap.{cover_in}
use Rattle.demands.proofs.ForwardMapLaws.{first, forward-key}
use Rattle.demands.specs.LeastLags.{NoSmallerLag, HasLags, LeastLags}

-- every LUT of a record stands in its cover
has-lags : (N : Net) (r : Record) → HasLags r (cover_in N r)
has-lags N r e m =
    let i = get_or_in m in
    let same : lut (cover_in N r) i.0 ≡ as_lut e = lut-as_cover N r.entries i.0 ∙ ap as_lut (i.2 no_entry) in
    (i.0, record { listed = omega (arith, luts-as_cover N r.entries, i.1); rooted = ap (λ (l : Lut). l.root) same }, ap (λ (l : Lut). l.lag) same)

module _ {M : Mode} {N : Net} {k : ℕ} {r : Record} (t : KeyRead M N k r) where
  -- **no cover that suits the mode and meets the period gives a LUT of a written root a smaller lag**
  none-smaller : (K : Cover) → IsCover N k K → Suited M N K → Meets N K r.period → NoSmallerLag r K
  none-smaller K c s m e l i rooted =
      let L = key-labelled t.key in
      let at : e ∈ entries t.key = subst (λ (es : List Entry). e ∈ es) (sym t.same) l in
      subst (λ (z : ℤ). z ≤ℤ (lut K i).lag) (sym (L.lags e at)) (least-lags_in t.passed t.positive t.key.least c m s e.root i (L.gate e at) rooted)

  -- the written cover is one of these
  own : IsCover N k (cover_in N r) × Suited M N (cover_in N r) × Meets N (cover_in N r) r.period
  own =
      let w = key-met t.passed t.positive t.key in
      subst (λ (es : List Entry). IsCover N k (as_cover N es) × Suited M N (as_cover N es) × Meets N (as_cover N es) r.period) t.same (w.0, key-suited t.passed t.positive t.key, w.1)

-- **All of it is proved.**
pub least-lags : LeastLags
unfolding forward_outcome
least-lags = record {
  least = λ c n e N i r q K cover meets. none-smaller (read-key c n e N i r q) K cover (λ j h C ic il x y. tt) meets;
  attained = λ c n e N i r q. let w = own (read-key c n e N i r q) in (w.0, w.2, has-lags N r);
  forward = λ c n N r t K cover ahead meets. none-smaller (forward-key c first n N r t) K cover ahead meets;
  forward-attained = λ c n N r t. let w = own (forward-key c first n N r t) in (w.0, w.1, w.2, has-lags N r);
}
