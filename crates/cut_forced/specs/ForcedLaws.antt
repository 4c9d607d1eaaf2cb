-- The copies found are the forced set of each net with this wiring.
use Rattle.std.specs.Prelude.{◌≡◌, List, ℕ, ◌*◌, ◌<◌, get_or}
use Rattle.std.proofs.Common.{sym, ap, subst, ◌∙◌, inl, inr, arith}
use Rattle.sequences.specs.Member.{◌∈◌, in_equal, in_map}
use Rattle.sequences.specs.Decide.{in_up_to}
use Rattle.net_model.specs.Net.{Net}
use Rattle.net_model.specs.Copies.{Copy, copy, Feeds, Leads}
use Rattle.label_theory.specs.Forced.{ForcedSet, Forced}
use Rattle.cut_circuit.specs.Circuit.{Circuit, feeder}
use Rattle.cut_circuit.specs.CircuitLaws.{wide-positive}
use Rattle.cut_circuit.specs.Bridge.{Holds, decode, encode, decode-encode}
use Rattle.cut_forced.specs.Slots.{marked}
use Rattle.cut_forced.specs.SlotLaws.{marked-inner}
use Rattle.cut_forced.specs.Forcing.{Target, LowOf, Ground, Growing, Settled, AllSettled}
use Rattle.cut_forced.specs.AddLaws.{copies_of, copies_in_lem}
use Rattle.cut_forced.specs.ForcedPinLaws.{feeds-pin}

module _ {W : Circuit} {T : Target} {k k' : ℕ} {slots members : List ℕ} {m : ℕ} {N : Net} (B : Ground W T.labels T.phi k')
    (G : Growing W T k slots members m) (closed : (x : ℕ) → 0 < marked W slots x → AllSettled W T x slots) (H : Holds W N) where
  pub in_copies : (x : ℕ) → 0 < marked W slots x → decode W x ∈ copies_of G
  unfolding copies_of
  in_copies x h =
      let r = G.all x h in
      in_equal (ap (decode W) (sym r.2)) (in_map (λ (a : ℕ). decode W (get_or members a 0)) (in_up_to r.1))

  complete : {c : Copy} → Forced N T.root (LowOf T) c → (x : ℕ) × (0 < marked W slots x) × (c ≡ decode W x)
  complete {c} (Forced.root e) =
      (T.root * W.width, G.root, e ∙ (sym (decode-encode W (copy T.root 0) (wide-positive B.layout)) ∙ ap (decode W) (omega arith)))
  complete {c} (Forced.behind x f h n) = go (complete f)
    where
      at : (z j : ℕ) → feeder W z j ≡ encode W c → c.back < W.width → Settled W T slots z j → (y : ℕ) × (0 < marked W slots y) × (c ≡ decode W y)
      at z j e b (inl l) = absurd (n (subst (LowOf T) (ap (decode W) e ∙ decode-encode W c b) l))
      at z j e b (inr i) = (feeder W z j, i, sym (ap (decode W) e ∙ decode-encode W c b))

      go : ((z : ℕ) × (0 < marked W slots z) × (x ≡ decode W z)) → (y : ℕ) × (0 < marked W slots y) × (c ≡ decode W y)
      go (z, p, e) =
          let r = feeds-pin H B (marked-inner W slots z p) (subst (Feeds N c) e h) in
          at z r.0 r.2 r.3 (closed z p r.0 r.1)

  -- What was found is the forced set.
  pub forced-set : ForcedSet N T.root (LowOf T) (copies_of G)
  forced-set = record {
    sound = λ c i. let r = copies_in_lem G i in subst (Forced N T.root (LowOf T)) (sym r.2) (G.forced r.0 r.1 N H);
    complete = λ c f. let r = complete f in in_equal r.2 (in_copies r.0 r.1);
  }

  pub forced-leads : {c : Copy} → Forced N T.root (LowOf T) c → Leads N (copies_of G) (copy T.root 0) c
  forced-leads (Forced.root e) = Leads.stop e
  forced-leads (Forced.behind x f h n) = Leads.step x (forced-set.complete x f) h (forced-leads f)
