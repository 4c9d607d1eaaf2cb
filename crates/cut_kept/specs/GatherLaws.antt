-- Laws of numbers gathered: none, one more, one part behind another, and all leaves.
use Rattle.std.specs.Prelude.{◌≡◌, refl, Option, None, Some, IfSome, List, ◌⊎◌, ℕ, ◌+◌, ◌≤◌, ◌<◌, length, get_or, set}
use Rattle.std.proofs.Common.{sym, ap, subst, ◌∙◌, inl, inr, not-suc-le-zero, arith, length-set, get_or-set_same, get_or-set_other}
use Rattle.std.proofs.Math.Decide.{ℕ_discrete, dec_lt}
use Rattle.limits.specs.Limits.{most_k}
use Rattle.cut_search.specs.SearchTable.{listed, Touched}
use Rattle.cut_search.specs.SearchTableLaws.{byte-out}
use Rattle.cut_least.specs.Collect.{LeafMark}
use Rattle.cut_kept.specs.Keeping.{full, taken, DueTold, passed, due, Gathered, Gathers, LeafAmong}

pub gathers_none : {most : ℕ} {Due : ℕ → Type 0} (l : List ℕ) (at m : ℕ) → m ≤ most_k → ((y : ℕ) → ¬ Due y) → Gathers most Due l at m l (Some m)
gathers_none l at m few none = record {
  fits = (few, record { more = omega arith; kept = λ j h. refl; inside = λ j p q. absurd (omega (arith, p, q)); all = λ y d. absurd (none y d) });
  same = λ j h. refl;
  long = refl;
}

-- less is due
pub gathers_less : {most : ℕ} {Due Due' : ℕ → Type 0} {l l' : List ℕ} {at m : ℕ} {r : Option ℕ} → ((y : ℕ) → Due' y → Due y) → Gathers most Due l at m l' r → Gathers most Due' l at m l' r
gathers_less {most} {Due} {Due'} {l} {l'} {at} {m} {r} e w = record { fits = fits r w.fits; same = w.same; long = w.long }
  where
    fits : (s : Option ℕ) → IfSome s (λ n. (n ≤ most_k) × Gathered most Due l at m l' n) → IfSome s (λ n. (n ≤ most_k) × Gathered most Due' l at m l' n)
    fits None f = tt
    fits (Some n) (f, g) = (f, record { more = g.more; kept = g.kept; inside = g.inside; all = λ y d. g.all y (e y d) })

-- where there are too many, nothing is said of what is due
pub gathers_lost : {most : ℕ} {Due Due' : ℕ → Type 0} {l l' : List ℕ} {at m : ℕ} → Gathers most Due l at m l' None → Gathers most Due' l at m l' None
gathers_lost w = record { fits = tt; same = w.same; long = w.long }

-- one part, then another
pub gathers_join : {most : ℕ} {Due Due' : ℕ → Type 0} {l l' l'' : List ℕ} {at m r : ℕ} {s : Option ℕ} → Gathers most Due l at m l' (Some r) → Gathers most Due' l' at r l'' s
    → Gathers most (λ y. Due y ⊎ Due' y) l at m l'' s
gathers_join {most} {Due} {Due'} {l} {l'} {l''} {at} {m} {r} {s} a b = record {
  fits = fits s b.fits;
  same = λ j h. b.same j h ∙ a.same j h;
  long = b.long ∙ a.long;
}
  where
    both : (s : ℕ) → Gathered most Due l at m l' r → Gathered most Due' l' at r l'' s → Gathered most (λ y. Due y ⊎ Due' y) l at m l'' s
    both s p q = record {
      more = omega (arith, p.more, q.more);
      kept = λ j h. q.kept j (omega (arith, h, p.more)) ∙ p.kept j h;
      inside = λ j h e. inside j h e (dec_lt j r);
      all = all;
    }
      where
        inside : (j : ℕ) → m ≤ j → j < s → Dec (j < r) → get_or l'' (at + j) 0 < most
        inside j h e (yes k) = omega (arith, q.kept j k, p.inside j h k)
        inside j h e (no n) = q.inside j (omega (arith, n)) e

        all : (y : ℕ) → Due y ⊎ Due' y → (j : ℕ) × (j < s) × (get_or l'' (at + j) 0 ≡ y)
        all y (inl d) = let z = p.all y d in (z.0, omega (arith, z.1, q.more), q.kept z.0 z.1 ∙ z.2)
        all y (inr d) = q.all y d

    fits : (s : Option ℕ) → IfSome s (λ n. (n ≤ most_k) × Gathered most Due' l' at r l'' n) → IfSome s (λ n. (n ≤ most_k) × Gathered most (λ y. Due y ⊎ Due' y) l at m l'' n)
    fits None f = tt
    fits (Some n) (f, q) = (f, both n a.fits.1 q)

-- one number
module _ {most : ℕ} {P : Type 0} {l : List ℕ} {at m c : ℕ} (room : at + most_k ≤ length l) (below : c < most) where
  one-taken : m < most_k → Gathers most (λ y. (y ≡ c) × P) l at m (set l (at + m) c) (Some (m + 1))
  one-taken h = record {
    fits = (
      omega (arith, h),
      record {
        more = omega arith;
        kept = λ j p. get_or-set_other l (at + m) (at + j) c 0 (λ e. omega (arith, e, p));
        inside = λ j p q. let e : at + j ≡ at + m = omega (arith, p, q) in omega (arith, ap (λ (n : ℕ). get_or (set l (at + m) c) n 0) e, here, below);
        all = λ y d. (m, omega arith, here ∙ sym d.0);
      },
    );
    same = λ j p. get_or-set_other l (at + m) j c 0 (beside j p);
    long = length-set l (at + m) c;
  }
    where
      here : get_or (set l (at + m) c) (at + m) 0 ≡ c
      here = get_or-set_same l (at + m) c 0 (omega (arith, room, h))

      beside : (j : ℕ) → (j < at) ⊎ (at + most_k ≤ j) → ¬ (j ≡ at + m)
      beside j (inl p) e = omega (arith, p, e)
      beside j (inr p) e = omega (arith, p, e, h)

  one-full : Gathers most (λ y. (y ≡ c) × P) l at m l None
  one-full = record { fits = tt; same = λ j h. refl; long = refl }

  pub gathers_one : {l' : List ℕ} {r : Option ℕ} → m ≤ most_k → DueTold P l at m c l' r → Gathers most (λ y. (y ≡ c) × P) l at m l' r
  gathers_one few (passed p q n) = rw p (rw q (gathers_none l at m few (λ y d. n d.1)))
  gathers_one few (due (full p q)) = rw p (rw q one-full)
  gathers_one few (due (taken p q h)) = rw p (rw q (one-taken h))

-- ---- the leaves
pub leaves_none : (t list l : List ℕ) (at : ℕ) → Gathers (length t) (LeafAmong t list 0) l at 0 l (Some 0)
leaves_none t list l at = gathers_none l at 0 (omega arith) (λ y d. absurd (not-suc-le-zero d.1))

pub leaves-more : {t list l₀ l l' : List ℕ} {at i m c : ℕ} {r : Option ℕ} → at + most_k ≤ length l₀ → Touched t list → i < get_or list 0 0 → c ≡ get_or list (i + 1) 0 → Gathers (length t) (LeafAmong t list i) l₀ at 0 l (Some m)
    → DueTold (LeafMark t c) l at m c l' r → Gathers (length t) (LeafAmong t list (i + 1)) l₀ at 0 l' r
leaves-more {t} {list} {l₀} {l} {l'} {at} {i} {m} {c} {r} room u h e w o =
    gathers_less split (gathers_join w (gathers_one (omega (arith, room, w.long)) (omega (arith, is, u.inside i h)) w.fits.0 o))
  where
    is : c ≡ listed list i
    is = e ∙ ap (λ (n : ℕ). get_or list n 0) (omega arith)

    split : (y : ℕ) → LeafAmong t list (i + 1) y → LeafAmong t list i y ⊎ ((y ≡ c) × LeafMark t c)
    split y d = go (ℕ_discrete d.0 i)
      where
        go : Dec (d.0 ≡ i) → LeafAmong t list i y ⊎ ((y ≡ c) × LeafMark t c)
        go (yes k) = let z : y ≡ c = sym d.2 ∙ (ap (listed list) k ∙ sym is) in inr (z, subst (LeafMark t) z d.3)
        go (no n) = inl (d.0, omega (arith, d.1, n), d.2, d.3)

pub leaves_all : {t list l₀ l : List ℕ} {at i : ℕ} {m : Option ℕ} → Touched t list → get_or list 0 0 ≤ i → Gathers (length t) (LeafAmong t list i) l₀ at 0 l m → Gathers (length t) (LeafMark t) l₀ at 0 l m
leaves_all {t} u h w = gathers_less (λ y d. let a = u.all y (byte-out t y d.out) in (a.0, omega (arith, a.1, h), a.2, d)) w
