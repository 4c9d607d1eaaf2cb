-- Bounds of the search with a stack of its own: how many copies are counted, stand on the stack, and are touched, where copies of `nodes` come in and W holds what carries.
use Rattle.std.specs.Prelude.{◌≡◌, ◌⊎◌, List, [], ◌∷◌, ◌++◌, map, ℕ, suc, ◌+◌, ◌-◌, ◌*◌, ◌≤◌, ◌<◌, length}
use Rattle.std.proofs.Common.{sym, ap, subst, inl, inr, arith, suc-mul, mul-le-mul_right, length-append}
use Rattle.std.proofs.lemmas.List.{length-map}
use Rattle.sequences.specs.Member.{◌∈◌, here, there, in_append_left, in_append_right, map_in, in_map}
use Rattle.sequences.specs.Decide.{up_to, in_up_to, length_up_to}
use Rattle.sequences.specs.Distinct.{Distinct, pigeonhole}
use Rattle.cut_flow.specs.Graph.{Graph}
use Rattle.cut_flow.specs.Search.{View}
use Rattle.cut_flow.specs.Tally.{tally-few}
use Rattle.cut_flow.specs.Stack.{Frame, copies, Turns, Come, Held, Near, Core}

-- the sources of the pins below p of the copies in L
abbrev sources_of : Graph → ℕ → List ℕ → List ℕ
sources_of G p [] = []
sources_of G p (x ∷ L) = map (G.source x) (up_to p) ++ sources_of G p L

length-sources_of : (G : Graph) (p : ℕ) (L : List ℕ) → length (sources_of G p L) ≡ length L * p
length-sources_of G p [] = omega arith
length-sources_of G p (x ∷ L) =
    omega (
      arith,
      length-append (map (G.source x) (up_to p)) (sources_of G p L),
      length-map (up_to p) (G.source x),
      length_up_to p,
      length-sources_of G p L,
      suc-mul (length L) p,
    )

in_sources_of : (G : Graph) (p : ℕ) {x : ℕ} {L : List ℕ} → x ∈ L → (j : ℕ) → j < p → G.source x j ∈ sources_of G p L
in_sources_of G p {x} {L = []} i j h = elim i [ ]
in_sources_of G p {x} {L = y ∷ L} (here e) j h =
    in_append_left (sources_of G p L) (subst (λ (z : ℕ). G.source x j ∈ map (G.source z) (up_to p)) e (in_map (G.source x) (in_up_to h)))
in_sources_of G p {L = y ∷ L} (there i) j h = in_append_right (map (G.source y) (up_to p)) (in_sources_of G p i j h)

module _ {G : Graph} {T : Turns G} {node : ℕ → ℕ} {f : ℕ} {flow : ℕ → ℕ} {S : ℕ → Type 0} {v : View} {count : ℕ → ℕ} {fs : List Frame}
    (c : Core G T node f flow S v count fs) (nodes : List ℕ) (low : (z : ℕ) → Come S v z → node z ∈ nodes) where
  pub counted-few : length c.list ≤ length nodes * suc f
  counted-few = tally-few c.tally nodes low

  module _ (W : List ℕ) (load : (z : ℕ) → 0 < flow z → z ∈ W) where
    -- **The stack.** Each of its copies is counted or carries.
    pub frames-few : length fs ≤ length nodes * suc f + length W
    frames-few =
        omega (arith, length-map fs (λ (b : Frame). b.copy), pigeonhole c.distinct inside, length-append c.list W, counted-few)
      where
        go : (b : Frame) → Held G T flow c.list b → b.copy ∈ c.list ++ W
        go b (inl h) = in_append_left W h
        go b (inr h) = in_append_right c.list (load b.copy h.0)

        inside : (z : ℕ) → z ∈ copies fs → z ∈ c.list ++ W
        inside z h =
            let r = map_in (λ (b : Frame). b.copy) fs h in
            subst (λ (w : ℕ). w ∈ c.list ++ W) (sym r.2) (go r.0 (c.held r.0 r.1))

    -- **What is touched.** A copy marked out carries or feeds a counted copy; one marked in is out or carries.
    pub touched-few : (p : ℕ) → ((x : ℕ) → G.pins x ≤ p) → {D : List ℕ} → Distinct D → ((z : ℕ) → z ∈ D → (0 < flow z) ⊎ ((0 < v.out z) ⊎ (0 < v.inn z)))
        → length D ≤ length nodes * suc f * p + length W
    touched-few p most {D} d touched =
        omega (
          arith,
          pigeonhole d (λ z h. inside z (touched z h)),
          length-append (sources_of G p c.list) W,
          length-sources_of G p c.list,
          mul-le-mul_right p counted-few,
        )
      where
        near : (z : ℕ) → Near G flow c.list z → z ∈ sources_of G p c.list ++ W
        near z (inl h) = in_append_right (sources_of G p c.list) (load z h)
        near z (inr (x, i, w)) =
            in_append_left W (subst (λ (y : ℕ). y ∈ sources_of G p c.list) w.source (in_sources_of G p i w.pin (omega (arith, w.below, most x))))

        carries : (z : ℕ) → 0 < v.flow z → z ∈ sources_of G p c.list ++ W
        carries z h = in_append_right (sources_of G p c.list) (load z (omega (arith, h, ap (λ (a : ℕ → ℕ). a z) c.same)))

        beside : (z : ℕ) → (0 < v.out z) ⊎ (0 < v.flow z) → z ∈ sources_of G p c.list ++ W
        beside z (inl h) = near z (c.near z h)
        beside z (inr h) = carries z h

        inside : (z : ℕ) → (0 < flow z) ⊎ ((0 < v.out z) ⊎ (0 < v.inn z)) → z ∈ sources_of G p c.list ++ W
        inside z (inl h) = in_append_right (sources_of G p c.list) (load z h)
        inside z (inr (inl h)) = near z (c.near z h)
        inside z (inr (inr h)) = beside z (c.beside z h)

    -- **What carries after a success.**
    pub load-grows : (y : ℕ) → length (y ∷ (c.list ++ W)) ≤ suc (length nodes * suc f + length W)
    load-grows y = omega (arith, length-append c.list W, counted-few)

-- the turns still to come on the stack: what a search ends by, beside the marks left
unfoldable pub owed : ℕ → List Frame → ℕ
owed most [] = 0
owed most (b ∷ fs) = suc (most - b.turn) + owed most fs
