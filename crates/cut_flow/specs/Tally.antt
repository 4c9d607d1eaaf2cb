-- How many copies of each node were opened: one list of the counted copies, and a number a node.
use Rattle.std.specs.Prelude.{◌≡◌, ◌⊎◌, List, [], ◌∷◌, ℕ, suc, ◌+◌, ◌*◌, ◌≤◌, ◌<◌, length}
use Rattle.std.proofs.Math.Path.{sym}
use Rattle.std.proofs.Common.{ap, subst, inl, inr, arith}
use Rattle.std.proofs.Math.Decide.{ℕ_discrete}
use Rattle.sequences.specs.Member.{◌∈◌, here, there, not_in_nil}
use Rattle.sequences.specs.Keep.{keep, bit, bit_yes, bit_no, length-keep_cons}
use Rattle.sequences.specs.Distinct.{Distinct, distinct_nil, distinct_cons, count_by}
use Rattle.cut_flow.specs.State.{Stored}

-- how many of L are copies of u
unfoldable pub among : (ℕ → ℕ) → List ℕ → ℕ → ℕ
among node L u = length (keep (λ y. ℕ_discrete (node y) u) L)

-- L lists the copies that were counted: at most f + 1 of each node, all of them come and good; a copy that has come is listed, or its node has f + 1.
pub record Tally (node : ℕ → ℕ) (f : ℕ) (count : ℕ → ℕ) (L : List ℕ) (Come Good : ℕ → Type 0) : Type 0 where
  pub size : (u : ℕ) → among node L u ≡ count u
  pub few : (u : ℕ) → count u ≤ suc f
  pub distinct : Distinct L
  pub come : (y : ℕ) → y ∈ L → Come y
  pub good : (y : ℕ) → y ∈ L → Good y
  pub turned : (z : ℕ) → Come z → (z ∈ L) ⊎ (f < count (node z))

pub tally-none : {node : ℕ → ℕ} {f : ℕ} {count : ℕ → ℕ} {Come Good : ℕ → Type 0} → ((u : ℕ) → count u ≡ 0) → ((z : ℕ) → ¬ Come z) → Tally node f count [] Come Good
tally-none {f} c n = record {
  size = λ u. unfold among in unfold keep in sym (c u);
  few = λ u. omega (arith, c u);
  distinct = distinct_nil;
  come = λ y h. absurd (not_in_nil h);
  good = λ y h. absurd (not_in_nil h);
  turned = λ z h. absurd (n z h);
}

among-more : (node : ℕ → ℕ) (x : ℕ) (L : List ℕ) (u : ℕ) → among node (x ∷ L) u ≡ bit (ℕ_discrete (node x) u) + among node L u
unfolding among
among-more node x L u = length-keep_cons (λ y. ℕ_discrete (node y) u) x L

module _ {node : ℕ → ℕ} {f : ℕ} {count : ℕ → ℕ} {L : List ℕ} {Come Good : ℕ → Type 0} (t : Tally node f count L Come Good) where
  -- the list is short where few nodes have come
  pub tally-few : (nodes : List ℕ) → ((z : ℕ) → Come z → node z ∈ nodes) → length L ≤ length nodes * suc f
  unfolding among
  tally-few nodes low = count_by ℕ_discrete node L nodes (λ y h. low y (t.come y h)) (suc f) (λ u h. omega (arith, t.size u, t.few u))

  module _ {Come' Good' : ℕ → Type 0} (keeps : (z : ℕ) → Come z → Come' z) (better : (z : ℕ) → Come z → Good z → Good' z) where
    pub tally-skip : (x : ℕ) → f < count (node x) → ((z : ℕ) → Come' z → Come z ⊎ (z ≡ x)) → Tally node f count L Come' Good'
    tally-skip x h b = record {
      size = t.size;
      few = t.few;
      distinct = t.distinct;
      come = λ y i. keeps y (t.come y i);
      good = λ y i. better y (t.come y i) (t.good y i);
      turned = λ z c. go z (b z c);
    }
      where
        go : (z : ℕ) → Come z ⊎ (z ≡ x) → (z ∈ L) ⊎ (f < count (node z))
        go z (inl c) = t.turned z c
        go z (inr e) = inr (omega (arith, h, ap (λ (w : ℕ). count (node w)) e))

    pub tally-same : ((z : ℕ) → Come' z → Come z) → Tally node f count L Come' Good'
    tally-same b = record {
      size = t.size;
      few = t.few;
      distinct = t.distinct;
      come = λ y i. keeps y (t.come y i);
      good = λ y i. better y (t.come y i) (t.good y i);
      turned = λ z c. t.turned z (b z c);
    }

    pub tally-count : {count' : ℕ → ℕ} (x : ℕ) → ¬ Come x → Come' x → Good' x → count (node x) ≤ f → Stored count count' (node x) (suc (count (node x)))
        → ((z : ℕ) → Come' z → Come z ⊎ (z ≡ x)) → Tally node f count' (x ∷ L) Come' Good'
    tally-count {count'} x n c g h st b = record {
      size = λ u. size u (ℕ_discrete (node x) u);
      few = λ u. few u (ℕ_discrete u (node x));
      distinct = distinct_cons (λ i. n (t.come x i)) t.distinct;
      come = come;
      good = good;
      turned = λ z k. turned z (b z k);
    }
      where
        size : (u : ℕ) → Dec (node x ≡ u) → among node (x ∷ L) u ≡ count' u
        size u (yes e) = omega (arith, among-more node x L u, bit_yes e (ℕ_discrete (node x) u), t.size u, st.at, ap count e, ap count' e)
        size u (no m) = omega (arith, among-more node x L u, bit_no m (ℕ_discrete (node x) u), t.size u, st.other u (λ e. m (sym e)))

        few : (u : ℕ) → Dec (u ≡ node x) → count' u ≤ suc f
        few u (yes e) = omega (arith, st.at, h, ap count' e)
        few u (no m) = omega (arith, st.other u m, t.few u)

        come : (y : ℕ) → y ∈ x ∷ L → Come' y
        come y (here e) = subst Come' (sym e) c
        come y (there i) = keeps y (t.come y i)

        good : (y : ℕ) → y ∈ x ∷ L → Good' y
        good y (here e) = subst Good' (sym e) g
        good y (there i) = better y (t.come y i) (t.good y i)

        more : (u : ℕ) → Dec (u ≡ node x) → count u ≤ count' u
        more u (yes e) = omega (arith, st.at, ap count e, ap count' e)
        more u (no m) = omega (arith, st.other u m)

        turned : (z : ℕ) → Come z ⊎ (z ≡ x) → (z ∈ x ∷ L) ⊎ (f < count' (node z))
        turned z (inr e) = inl (here e)
        turned z (inl k) = go (t.turned z k)
          where
            go : (z ∈ L) ⊎ (f < count (node z)) → (z ∈ x ∷ L) ⊎ (f < count' (node z))
            go (inl i) = inl (there i)
            go (inr l) = inr (omega (arith, l, more (node z) (ℕ_discrete (node z) (node x))))
