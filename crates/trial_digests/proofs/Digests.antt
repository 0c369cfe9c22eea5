-- The digest of lists behind each other, and of all that a list has.
--     remainder      the digest before may be taken as its remainder
--     of-numbers      the numbers of numbers are these
--     behind      of two lists
--     all-next, all-done      the loop over what is taken in: what is left of it, from the digest so far, gives what all of it gives
-- Assumes nothing.
use Prim.Native.Nat.{ℕ, ◌+◌, ◌*◌, ◌/◌, ◌%◌, ◌<◌, ◌≤◌}
use mathlib.Core.List.{List, [], ◌∷◌, ◌++◌}
use mathlib.Core.Path.{◌≡◌, refl, sym, ap, ◌∙◌}
use native.Mathlib.Nat.{add-mul-mod_self_left}
use native.Mathlib.Omega.{arith}
use lib.ListN.{length, get_or, drop, drop_of_length-le}
use Rattle.lists.proofs.Walk.{rest-step}
use Rattle.trial_digests.specs.Digest.{digest_with, digest_from, all_numbers, one}

-- the digest of two lists is that of the second from that of the first on
digest-append : (h : ℕ) (xs ys : List ℕ) → digest_from h (xs ++ ys) ≡ digest_from (digest_from h xs) ys
digest-append h [] ys = refl
digest-append h (x ∷ xs) ys = digest-append (digest_with h x) xs ys

pub remainder : (h x : ℕ) → (h % 4294967291 * 1000003 + x % 4294967291 + 1) % 4294967291 ≡ digest_with h x
unfolding digest_with
remainder h x =
    let k : ℕ = h % 4294967291 * 1000003 + x % 4294967291 + 1 in
    let e : h * 1000003 + x % 4294967291 + 1 ≡ k + 4294967291 * (h / 4294967291 * 1000003) = omega arith in
    sym (ap (λ (n : ℕ). n % 4294967291) e ∙ add-mul-mod_self_left k 4294967291 (h / 4294967291 * 1000003))

all-one : (xs : List ℕ) → all_numbers one xs ≡ xs
unfolding all_numbers
all-one [] = refl
all-one (x ∷ xs) = ap (λ (l : List ℕ). x ∷ l) (all-one xs)

-- what is said of the digest with all numbers of numbers, said of these; the digest before may be named otherwise
pub of-numbers : (xs : List ℕ) {r h k : ℕ} → r ≡ digest_from h (all_numbers one xs) → h ≡ k → r ≡ digest_from k xs
of-numbers xs {h = h} e q = e ∙ ap (digest_from h) (all-one xs) ∙ ap (λ (n : ℕ). digest_from n xs) q

-- one list, and the other from there on
pub behind : (h : ℕ) (xs ys : List ℕ) {r q : ℕ} → r ≡ digest_from h xs → q ≡ digest_from r ys → q ≡ digest_from h (xs ++ ys)
behind h xs ys a b = b ∙ ap (λ (n : ℕ). digest_from n ys) a ∙ sym (digest-append h xs ys)

module _ {A : Type 0} (f : A → List ℕ) where
  abbrev pub AllLeft : ℕ → List A → ℕ → ℕ → Type 0
  AllLeft start xs h i = digest_from h (all_numbers f (drop i xs)) ≡ digest_from start (all_numbers f xs)

  module _ (start : ℕ) (xs : List A) (h i : ℕ) (inv : AllLeft start xs h i) where
    pub all-next : i < length xs → (x : A) → x ≡ get_or xs i x → (next : ℕ) → next ≡ digest_from h (f x) → AllLeft start xs next (i + 1)
    unfolding all_numbers
    all-next l x q next e =
        ap (λ (n : ℕ). digest_from n (all_numbers f (drop (i + 1) xs))) e ∙
        sym (
        ap (λ (r : List A). digest_from h (all_numbers f r)) (rest-step x xs i l ∙ ap (λ (y : A). y ∷ drop (i + 1) xs) (sym q)) ∙
        digest-append h (f x) (all_numbers f (drop (i + 1) xs))
        ) ∙
        inv

    pub all-done : length xs ≤ i → h ≡ digest_from start (all_numbers f xs)
    unfolding all_numbers
    all-done l = sym (ap (λ (r : List A). digest_from h (all_numbers f r)) (drop_of_length-le xs l)) ∙ inv
