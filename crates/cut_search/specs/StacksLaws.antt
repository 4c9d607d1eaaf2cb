-- Laws of the stack in its array: a frame put on, taken off, and its turn raised.
use Rattle.std.specs.Prelude.{◌≡◌, refl, List, [], ◌∷◌, ℕ, zero, suc, ◌+◌, ◌-◌, ◌*◌, ◌/◌, ◌%◌, ◌<◌, length, get_or, set}
use Rattle.std.proofs.Common.{sym, ap, ◌∙◌, arith, length-set, get_or-set_same, get_or-set_other}
use Rattle.cut_flow.specs.Stack.{Frame, frame}
use Rattle.cut_flow.specs.StackBounds.{owed}
use Rattle.cut_search.specs.SearchTable.{left_in}
use Rattle.cut_search.specs.StackParts.{PushAsked, Pushed}
use Rattle.cut_search.specs.Stacks.{frame_in, frames_at, frames_of, owing}

pub length-frames_at : (stk : List ℕ) (n : ℕ) → length (frames_at stk n) ≡ n
unfolding frames_at
length-frames_at stk zero = refl
length-frames_at stk (suc n) = ap suc (length-frames_at stk n)

-- a store at place 0 or above n
pub frames-other : (stk : List ℕ) (p v n : ℕ) → (p ≡ 0) → frames_at (set stk p v) n ≡ frames_at stk n
unfolding frames_at
frames-other stk p v zero h = refl
frames-other stk p v (suc n) h =
    ap (λ (k : ℕ). frame_in k ∷ frames_at (set stk p v) n) (get_or-set_other stk p (suc n) v 0 (omega (arith, h))) ∙ ap (λ (fs : List Frame). frame_in (get_or stk (suc n) 0) ∷ fs) (frames-other stk p v n h)

pub frames-above : (stk : List ℕ) (p v n : ℕ) → n < p → frames_at (set stk p v) n ≡ frames_at stk n
unfolding frames_at
frames-above stk p v zero h = refl
frames-above stk p v (suc n) h =
    ap (λ (k : ℕ). frame_in k ∷ frames_at (set stk p v) n) (get_or-set_other stk p (suc n) v 0 (omega (arith, h)))
    ∙ ap (λ (fs : List Frame). frame_in (get_or stk (suc n) 0) ∷ fs) (frames-above stk p v n (omega (arith, h)))

pub frame-of : (x i : ℕ) → i < 16 → frame_in (x * 16 + i) ≡ frame x i
frame-of x i h =
    let q : (x * 16 + i) / 16 ≡ x = omega (arith, h) in
    let r : (x * 16 + i) % 16 ≡ i = omega (arith, h) in
    ap (λ (u : ℕ). frame u ((x * 16 + i) % 16)) q ∙ ap (frame x) r

frames-at : (stk : List ℕ) (n : ℕ) → frames_at stk (suc n) ≡ frame_in (get_or stk (suc n) 0) ∷ frames_at stk n
unfolding frames_at
frames-at stk n = refl

-- the top frame
pub frames-top : (stk : List ℕ) → 0 < get_or stk 0 0 → frames_of stk ≡ frame_in (get_or stk (get_or stk 0 0) 0) ∷ frames_at stk (get_or stk 0 0 - 1)
frames-top stk h =
    let e : get_or stk 0 0 ≡ suc (get_or stk 0 0 - 1) = omega (arith, h) in
    ap (frames_at stk) e ∙ (frames-at stk (get_or stk 0 0 - 1) ∙ ap (λ (k : ℕ). frame_in (get_or stk k 0) ∷ frames_at stk (get_or stk 0 0 - 1)) (sym e))

-- put on
pub frames-pushed : (stk : List ℕ) (x i : ℕ) → get_or stk 0 0 + 1 < length stk → i < 16
    → frames_of (set (set stk (get_or stk 0 0 + 1) (x * 16 + i)) 0 (get_or stk 0 0 + 1)) ≡ frame x i ∷ frames_of stk
frames-pushed stk x i h k =
    let d = get_or stk 0 0 in
    let s = set stk (d + 1) (x * 16 + i) in
    let e : get_or (set s 0 (d + 1)) 0 0 ≡ suc d = get_or-set_same s 0 (d + 1) 0 (omega (arith, h, length-set stk (d + 1) (x * 16 + i))) ∙ omega arith in
    ap (frames_at (set s 0 (d + 1))) e
    ∙ (frames-other s 0 (d + 1) (suc d) refl
    ∙ (frames-at s d
    ∙ (ap (λ (n : ℕ). frame_in n ∷ frames_at s d) (ap (λ (p : ℕ). get_or s p 0) (omega arith) ∙ get_or-set_same stk (d + 1) (x * 16 + i) 0 h)
    ∙ (ap (λ (b : Frame). b ∷ frames_at s d) (frame-of x i k)
    ∙ ap (λ (fs : List Frame). frame x i ∷ fs) (frames-above stk (d + 1) (x * 16 + i) d (omega arith))))))

pub push_told : {stk stk₁ stk₂ : List ℕ} {x i r : ℕ} → PushAsked stk x i → r ≡ get_or stk 0 0 → stk₁ ≡ set stk (r + 1) (x * 16 + i) → stk₂ ≡ set stk₁ 0 (r + 1) → Pushed stk stk₂ x i
push_told {stk} {stk₁} {stk₂} {x} {i} {r} a e p q = record {
  frames = ap frames_of (q ∙ (ap (λ (m : List ℕ). set m 0 (r + 1)) p ∙ ap (λ (n : ℕ). set (set stk (n + 1) (x * 16 + i)) 0 (n + 1)) e)) ∙ frames-pushed stk x i a.room a.turn;
}

-- taken off
pub frames-popped : (stk : List ℕ) → 0 < get_or stk 0 0 → 0 < length stk → frames_of (set stk 0 (get_or stk 0 0 - 1)) ≡ frames_at stk (get_or stk 0 0 - 1)
frames-popped stk h k = ap (frames_at (set stk 0 (get_or stk 0 0 - 1))) (get_or-set_same stk 0 (get_or stk 0 0 - 1) 0 k) ∙ frames-other stk 0 (get_or stk 0 0 - 1) (get_or stk 0 0 - 1) refl

-- emptied
pub frames-none : (stk : List ℕ) → get_or stk 0 0 ≡ 0 → frames_of stk ≡ []
unfolding frames_at
frames-none stk e = ap (frames_at stk) e

-- the top frame's turn raised
pub frames-raised : (stk : List ℕ) → 0 < get_or stk 0 0 → get_or stk 0 0 < length stk → get_or stk (get_or stk 0 0) 0 % 16 < 15
    → frames_of (set stk (get_or stk 0 0) (get_or stk (get_or stk 0 0) 0 + 1)) ≡ frame (get_or stk (get_or stk 0 0) 0 / 16) (get_or stk (get_or stk 0 0) 0 % 16 + 1) ∷ frames_at stk (get_or stk 0 0 - 1)
frames-raised stk h k l =
    let d = get_or stk 0 0 in
    let n = get_or stk d 0 in
    let s = set stk d (n + 1) in
    let e : d ≡ suc (d - 1) = omega (arith, h) in
    let z : get_or s 0 0 ≡ suc (d - 1) = get_or-set_other stk d 0 (n + 1) 0 (λ q. omega (arith, q, h)) ∙ e in
    let x : (n + 1) / 16 ≡ n / 16 = omega (arith, l) in
    let i : (n + 1) % 16 ≡ n % 16 + 1 = omega (arith, l) in
    ap (frames_at s) z
    ∙ (frames-at s (d - 1)
    ∙ (ap (λ (m : ℕ). frame_in m ∷ frames_at s (d - 1)) (ap (λ (p : ℕ). get_or s p 0) (sym e) ∙ get_or-set_same stk d (n + 1) 0 k)
    ∙ (ap (λ (u : ℕ). frame u ((n + 1) % 16) ∷ frames_at s (d - 1)) x
    ∙ (ap (λ (u : ℕ). frame (n / 16) u ∷ frames_at s (d - 1)) i
    ∙ ap (λ (fs : List Frame). frame (n / 16) (n % 16 + 1) ∷ fs) (frames-above stk d (n + 1) (d - 1) (omega (arith, h)))))))

-- ---- the measure
pub owing-is : (t stk : List ℕ) {fs : List Frame} → frames_of stk ≡ fs → owing t stk ≡ 10 * left_in t + owed 8 fs
unfolding owing
owing-is t stk e = ap (λ (fs : List Frame). 10 * left_in t + owed 8 fs) e

pub owed_more : (x i : ℕ) (fs : List Frame) → owed 8 (frame x i ∷ fs) ≡ suc (8 - i) + owed 8 fs
unfolding owed
owed_more x i fs = refl
