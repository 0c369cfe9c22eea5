-- One turn of the loops that read and write a run. Assumes nothing.
use Prim.Native.Nat.{ℕ, suc, ◌+◌, ◌-◌, ◌≤◌, ◌<◌, ◌*◌, zero, zero-le}
use mathlib.Core.Bool.{Bool, true, false}
use mathlib.Core.List.{List, [], ◌∷◌, ◌++◌}
use mathlib.Core.Path.{◌≡◌, ◌∙◌, sym, ap, refl}
use native.Mathlib.Nat.{add-zero, mul-zero, sub-zero, zero-add}
use Rattle.std.proofs.Math.Nat.{mul-le-mul_left}
use Rattle.std.proofs.lemmas.List.{append-nil}
use native.Mathlib.Numerals.{add-one}
use native.Mathlib.Omega.{arith}
use lib.ListN.{length, get_or, take, drop, set, length-drop, length-take, drop_of_length-le, replicate, length-replicate}
use lib.Seq.{sets, sets-eq, drop-drop, drop-cons, length-sets, length-take-le}
use Rattle.lists.specs.Tests.{both}
use Rattle.lists.proofs.Stores.{sets-append}
use Rattle.lists.proofs.Tests.{both-0, both-1}
use Rattle.numbers.specs.Numbers.{run_at, run, run_ok}
use Rattle.numbers.proofs.Numbers.{drop-alike}
use Rattle.numbers.proofs.Runs.{run_at-length}

-- one item more has its bytes among those of k
more : (w i k : ℕ) → i < k → w * i + w ≤ w * k
more w i k h = let e : w * suc i ≤ w * k = mul-le-mul_left w h in omega (arith, e)

-- reading: what is left to test at turn i, of k, at position at
pub test-step : (w : ℕ) (p : List ℕ → Bool) (k i at : ℕ) (s : List ℕ) → i < k → p (drop at s) ≡ true → run_ok w p (k - i) (drop at s) ≡ run_ok w p (k - (i + 1)) (drop (at + w) s)
unfolding run_ok both
test-step w p k i at s h e =
    let q : k - i ≡ suc (k - (i + 1)) = omega arith in
    rw (q, e, drop-drop)

pub test-fails : (w : ℕ) (p : List ℕ → Bool) (k i : ℕ) (s : List ℕ) → i < k → p s ≡ false → run_ok w p (k - i) s ≡ false
unfolding run_ok both
test-fails w p k i s h e =
    let q : k - i ≡ suc (k - (i + 1)) = omega arith in
    rw (q, e)

-- writing: what is left to store of xs at turn i, from place p on
store_step : {A : Type 0} (w : ℕ) (f : A → List ℕ) → ((v : A) → length (f v) ≡ w) → (l : List ℕ) (xs : List A) (p i : ℕ) (x : A) → i < length xs → x ≡ get_or xs i x
    → sets (sets l p (f x)) (p + w) (run f (drop (i + 1) xs)) ≡ sets l p (run f (drop i xs))
unfolding run
store_step w f wide l xs p i x h e =
    let next : drop i xs ≡ x ∷ drop (suc i) xs = drop-cons xs i x h ∙ ap (λ y. y ∷ drop (suc i) xs) (sym e) in
    rw (next, sets-append l p (f x) (run f (drop (suc i) xs)), wide x, add-one i)

-- nothing is left
store-end : {A : Type 0} (f : A → List ℕ) (l : List ℕ) (xs : List A) (p i : ℕ) → length xs ≤ i → sets l p (run f (drop i xs)) ≡ l
unfolding run
store-end f l xs p i h = rw (drop_of_length-le xs h)

-- the invariant of a loop that stores xs, w bytes each, from place at on: what is left to store at turn i, from place p on, gives all that is to
-- be stored
pub record Storing {A : Type 0} (w : ℕ) (f : A → List ℕ) (out₀ : List ℕ) (at : ℕ) (xs : List A) (out : List ℕ) (p i : ℕ) : Type 0 where
  pub few : i ≤ length xs
  pub place : p ≡ at + w * i
  pub long : length out ≡ length out₀
  pub stores : sets out p (run f (drop i xs)) ≡ sets out₀ at (run f xs)

pub storing-begins : {A : Type 0} {w : ℕ} {f : A → List ℕ} {out : List ℕ} {at : ℕ} {xs : List A} → Storing w f out at xs out at 0
storing-begins = record { few = zero-le; place = rw (mul-zero, add-zero); long = refl; stores = refl }

module _ {A : Type 0} {w : ℕ} {f : A → List ℕ} {out₀ : List ℕ} {at : ℕ} {xs : List A} {out : List ℕ} {p i : ℕ} (inv : Storing w f out₀ at xs out p i) where
  -- there is room for the next item
  pub storing-room : i < length xs → at + w * length xs ≤ length out₀ → p + w ≤ length out
  storing-room h room = omega (arith, inv.place, inv.long, more w i (length xs) h)

  pub storing-again : ((v : A) → length (f v) ≡ w) → {x : A} {out' : List ℕ} → i < length xs → x ≡ get_or xs i x → out' ≡ sets out p (f x)
      → Storing w f out₀ at xs out' (p + w) (i + 1)
  storing-again wide {x} h e q = record {
    few = omega arith;
    place = omega (arith, inv.place);
    long = ap length q ∙ length-sets out p (f x) ∙ inv.long;
    stores = rw q (store_step w f wide out xs p i x h e) ∙ inv.stores;
  }

  pub storing-ends : length xs ≤ i → (p ≡ at + w * length xs) × (out ≡ sets out₀ at (run f xs))
  storing-ends h =
      let q : i ≡ length xs = omega (arith, inv.few) in
      (rw q at inv.place, sym (store-end f out xs p i h) ∙ inv.stores)

pub test-end : (w : ℕ) (p : List ℕ → Bool) (k i : ℕ) (s : List ℕ) → k ≤ i → run_ok w p (k - i) s ≡ true
unfolding run_ok both
test-end w p k i s h = let q : k - i ≡ 0 = omega arith in rw q

-- reading into an array: what is left to store at turn i, of k, read at position at
pub fill_step : {A : Type 0} (w : ℕ) (g : List ℕ → A) (l : List A) (k i at : ℕ) (s : List ℕ) → i < k
    → sets (set l i (g (drop at s))) (i + 1) (run_at w g (k - (i + 1)) (drop (at + w) s)) ≡ sets l i (run_at w g (k - i) (drop at s))
unfolding run_at
fill_step w g l k i at s h =
    let q : k - i ≡ suc (k - (i + 1)) = omega arith in
    rw (q, drop-drop, add-one i)

-- every cell is stored
sets-all : {A : Type 0} (l vs : List A) → length l ≡ length vs → sets l 0 vs ≡ vs
sets-all l vs e =
    let none : drop (length vs) l ≡ [] = drop_of_length-le l (omega (arith, e)) in
    sets-eq vs l 0 (omega (arith, e)) ∙ rw (zero-add, none, append-nil)

pub fill_end : {A : Type 0} (w : ℕ) (g : List ℕ → A) (l : List A) (k i : ℕ) (s : List ℕ) → k ≤ i → sets l i (run_at w g (k - i) s) ≡ l
unfolding run_at
fill_end w g l k i s h = let q : k - i ≡ 0 = omega arith in rw q

-- the invariant of a loop that fills cells with k items of w bytes, read from place p of s on: what is left to store at turn i, read at place at,
-- gives all that is to be stored
pub record Filling {A : Type 0} (w : ℕ) (g : List ℕ → A) (cells₀ : List A) (s : List ℕ) (p k : ℕ) (cells : List A) (at i : ℕ) : Type 0 where
  pub few : i ≤ k
  pub place : at ≡ p + w * i
  pub stores : sets cells i (run_at w g (k - i) (drop at s)) ≡ sets cells₀ 0 (run_at w g k (drop p s))

pub filling-begins : {A : Type 0} {w : ℕ} {g : List ℕ → A} {cells : List A} {s : List ℕ} {p k : ℕ} → Filling w g cells s p k cells p 0
filling-begins = record { few = omega arith; place = rw (mul-zero, add-zero); stores = rw sub-zero }

module _ {A : Type 0} {w : ℕ} {g : List ℕ → A} {cells₀ : List A} {s : List ℕ} {p k : ℕ} {cells : List A} {at i : ℕ} (inv : Filling w g cells₀ s p k cells at i) where
  -- there are the bytes of the next item
  pub filling-room : {m : ℕ} → i < k → p + w * k ≤ m → at + w ≤ m
  filling-room h r = omega (arith, inv.place, more w i k h)

  pub filling-again : {v : A} → i < k → v ≡ g (drop at s) → Filling w g cells₀ s p k (set cells i v) (at + w) (i + 1)
  filling-again h e = record { few = omega (arith, inv.few); place = omega (arith, inv.place); stores = rw e (fill_step w g cells k i at s h) ∙ inv.stores }

  -- as many cells as items
  pub filling-ends : k ≤ i → length cells₀ ≡ k → cells ≡ run_at w g k (drop p s)
  filling-ends h e =
      sym (fill_end w g cells k i (drop at s) h) ∙ inv.stores ∙ sets-all cells₀ (run_at w g k (drop p s)) (e ∙ sym (run_at-length w g k (drop p s)))

-- the first k of m cells that were zero hold the items, and there are zeros after them
pub filled-front : (w : ℕ) (g : List ℕ → ℕ) (m k : ℕ) (s : List ℕ) {cells : List ℕ} → k ≤ m → cells ≡ run_at w g (length {A = ℕ} (take k (replicate m 0))) s
    → cells ++ drop k (replicate m 0) ≡ run_at w g k s ++ replicate (m - k) 0
filled-front w g m k s h e =
    let l : length {A = ℕ} (take k (replicate m 0)) ≡ k = length-take-le {A = ℕ} k (replicate m 0) (omega (arith, length-replicate {A = ℕ} m 0)) in
    rw (e, l, drop-alike)

-- k items that stand there have room
pub run_room : (w : ℕ) (p : List ℕ → Bool) → ((s : List ℕ) → p s ≡ true → w ≤ length s) → (k : ℕ) (s : List ℕ) → run_ok w p k s ≡ true → w * k ≤ length s
unfolding run_ok
run_room w p h zero s e = rw mul-zero (omega arith)
run_room w p h (suc k) s e =
    let a : w ≤ length s = h s (both-0 _ _ e) in
    let b : w * k ≤ length (drop w s) = run_room w p h k (drop w s) (both-1 (p s) _ e) in
    let q : w * suc k ≡ w + w * k = omega arith in
    rw q (omega (arith, length-drop w s))
