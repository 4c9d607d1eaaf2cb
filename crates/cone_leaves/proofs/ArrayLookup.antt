-- Laws of the leaf lookup over leaves kept in arrays: what may be read, how the search ends, and what stands behind the first leaf beyond c.
use Rattle.std.specs.Prelude.{◌≡◌, List, ◌⊎◌, ℕ, suc, ◌+◌, ◌≤◌, ◌<◌, length, take}
use Rattle.std.proofs.Common.{sym, ap, subst, ◌∙◌, inl, inr, arith, get_or-take}
use Rattle.sequences.specs.Rising.{ℕ_cmp}
use Rattle.sequences.specs.Tests.{First}
use Rattle.net_model.specs.Copies.{Copy, copy, Before, Rising}
use Rattle.net_model.proofs.CopyLaws.{copy-path}
use Rattle.net_model.specs.Arrays.{copy_at}
use Rattle.cone_copies.specs.CopyLists.{copies_in}
use Rattle.cone_copies.specs.CopyListLaws.{length-copies_in, get_or_copies_in}
use Rattle.cone_leaves.specs.Lookup.{seek_of, leaf_at, Readable, SameAnswer}
use Rattle.cone_leaves.proofs.LookupLaws.{Passed, seek_here, seek_stop, seek_end, leaf-lookup, same_alike}

-- ---- what may be read

-- all leaves are there
pub readable_all : {us ds : List ℕ} {n : ℕ} {c : Copy} → n ≤ length us → n ≤ length ds → Readable us ds n c
readable_all a b = record { there = λ j h f. (omega arith, omega arith) }

-- or those up to and with a leaf beyond c, whatever n is
pub readable_part : (us ds : List ℕ) (n p : ℕ) (c : Copy) → p < length us → p < length ds → Before c (copy_at us ds p) → Readable us ds n c
readable_part us ds n p c a b far = record { there = λ j h f. near j f (ℕ_cmp p j) }
  where
    near : (j : ℕ) → ((i : ℕ) → i < j → ¬ Before c (copy_at us ds i)) → (p < j) ⊎ ((p ≡ j) ⊎ (j < p)) → (j < length us) × (j < length ds)
    near j f (inl k) = absurd (f p k far)
    near j f (inr (inl k)) = (omega arith, omega arith)
    near j f (inr (inr k)) = (omega arith, omega arith)

-- ---- how the search ends

-- one leaf more
pub passed-more : (us ds : List ℕ) (c : Copy) (j : ℕ) → ((i : ℕ) → i < j → Passed c (copy_at us ds i)) → Passed c (copy_at us ds j) → (i : ℕ) → i < j + 1 → Passed c (copy_at us ds i)
passed-more us ds c j f p i h = go (ℕ_cmp i j)
  where
    go : (i < j) ⊎ ((i ≡ j) ⊎ (j < i)) → Passed c (copy_at us ds i)
    go (inl k) = f i k
    go (inr (inl k)) = subst (λ (x : ℕ). Passed c (copy_at us ds x)) (sym k) p
    go (inr (inr k)) = absurd (omega (arith, h, k))

module _ (us ds : List ℕ) (n : ℕ) (c : Copy) where
  leaf-is : (i : ℕ) → i < n → leaf_at (copies_in us ds n) i ≡ copy_at us ds i
  leaf-is i h = get_or_copies_in us ds n i (copy 0 0) h

  passed-list : (p : ℕ) → p ≤ n → ((i : ℕ) → i < p → Passed c (copy_at us ds i)) → (i : ℕ) → i < p → Passed c (leaf_at (copies_in us ds n) i)
  passed-list p h f i k = subst (Passed c) (sym (leaf-is i (omega arith))) (f i k)

  pub array_here : (p : ℕ) → p < n → copy_at us ds p ≡ c → ((i : ℕ) → i < p → Passed c (copy_at us ds i)) → p ≡ seek_of (copies_in us ds n) c
  array_here p h e f = sym (seek_here (copies_in us ds n) c p (omega (arith, length-copies_in us ds n)) (leaf-is p h ∙ e) (passed-list p (omega arith) f))

  pub array_stop : (p : ℕ) → p < n → Before c (copy_at us ds p) → ((i : ℕ) → i < p → Passed c (copy_at us ds i)) → n ≡ seek_of (copies_in us ds n) c
  array_stop p h e f =
      sym (seek_stop (copies_in us ds n) c p (omega (arith, length-copies_in us ds n)) (subst (Before c) (sym (leaf-is p h)) e) (passed-list p (omega arith) f) ∙ length-copies_in us ds n)

  pub array_end : (p : ℕ) → n ≤ p → ((i : ℕ) → i < p → Passed c (copy_at us ds i)) → n ≡ seek_of (copies_in us ds n) c
  array_end p h f =
      sym (seek_end (copies_in us ds n) c (λ i k. let l : i < n = omega (arith, length-copies_in us ds n) in subst (Passed c) (sym (leaf-is i l)) (f i (omega arith))) ∙ length-copies_in us ds n)

  -- leaves that rise: what a search through all of them gives
  pub array_first : {r : ℕ} → Rising (copies_in us ds n) → r ≡ seek_of (copies_in us ds n) c → First (λ j. copy_at us ds j ≡ c) n r
  array_first {r} rise e =
      let f = (leaf-lookup.rising (copies_in us ds n) c rise).1 in
      let l = length-copies_in us ds n in
      let b : r ≤ n = let q = f.bound in omega arith in
      record {
        bound = b;
        found = λ h. sym (leaf-is r h) ∙ ap (leaf_at (copies_in us ds n)) e ∙ f.found (omega arith);
        before = λ j h q. f.before j (omega arith) (leaf-is j (omega arith) ∙ q);
      }

-- ---- what stands behind

-- arrays that are the same up to and with a leaf beyond c
pub array_alike : (us ds us' ds' : List ℕ) (n n' p : ℕ) (c : Copy) → p < n → p < n' → Before c (copy_at us ds p) → ((i : ℕ) → i ≤ p → copy_at us ds i ≡ copy_at us' ds' i)
    → SameAnswer seek_of (copies_in us ds n) (copies_in us' ds' n') c
array_alike us ds us' ds' n n' p c h k far e =
    same_alike (copies_in us ds n) (copies_in us' ds' n') c p (omega (arith, length-copies_in us ds n)) (omega (arith, length-copies_in us' ds' n')) (subst (Before c) (sym (leaf-is us ds n c p h)) far)
    (λ i l. leaf-is us ds n c i (omega arith) ∙ e i l ∙ sym (leaf-is us' ds' n' c i (omega arith)))

-- the parts of the arrays that end with such a leaf: the search over them may be asked (`readable_part`), and gives the same answer
pub array_part : (us ds : List ℕ) (n p : ℕ) (c : Copy) → p < n → Before c (copy_at us ds p) → SameAnswer seek_of (copies_in us ds n) (copies_in (take (suc p) us) (take (suc p) ds) n) c
array_part us ds n p c h far = array_alike us ds (take (suc p) us) (take (suc p) ds) n n p c h h far
    (λ i l. copy-path (sym (get_or-take (suc p) us i 0 (omega arith))) (sym (get_or-take (suc p) ds i 0 (omega arith))))
