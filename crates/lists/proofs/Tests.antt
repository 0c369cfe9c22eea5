-- What a test that is a conjunction, a choice, or a test of every element says, and what lists that are mapped or set keep of it.
--     both-0, both-1, both_true    a conjunction and its two parts
--     both-then, both-else         what the code's `&&` answers by its first part
--     alike                        two tests that hold in the same cases
--     both-comm, both-assoc, both-swap     conjunctions in any order
--     pick_true, pick-false        a choice whose test is known
--     all-at, all_of               a test of every element, and the test at each place
-- Assumes nothing.
use mathlib.Core.Path.{◌≡◌, refl, sym, ap, ap₂, ◌∙◌}
use mathlib.Core.Bool.{Bool, true, false, ◌&&◌, ◌||◌, cond, true≢false}
use mathlib.Core.Logic.{◌⊎◌, inl, inr}
use mathlib.Core.List.{List, [], ◌∷◌, ◌++◌, map}
use Prim.Native.Nat.{ℕ, zero, suc, ◌<◌}
use native.Mathlib.Nat.{not-suc-le-zero, le_of_suc-le-suc}
use native.Mathlib.Omega.{arith}
use lib.Dec.{eqb}
use lib.ListN.{length, get_or, take, drop, set, replicate, length-map}
use borrow.Author.Tests.{eqb-true}
use Rattle.lists.specs.Tests.{both, pick, all_b}

-- ── conjunctions ──
pub both-0 : (a b : Bool) → both a b ≡ true → a ≡ true
unfolding both
both-0 true b e = refl
both-0 false b e = e

pub both-1 : (a b : Bool) → both a b ≡ true → b ≡ true
unfolding both
both-1 true b e = e
both-1 false true e = refl
both-1 false false e = e

pub both_true : (a b : Bool) → a ≡ true → b ≡ true → both a b ≡ true
unfolding both
both_true a b p q = rw p q

pub both-false-0 : (a b : Bool) → a ≡ false → both a b ≡ false
unfolding both
both-false-0 a b p = rw p

pub both-false-1 : (a b : Bool) → b ≡ false → both a b ≡ false
unfolding both
both-false-1 true b p = p
both-false-1 false b p = refl

-- `a && b`: where a holds, b decides; where it fails, that is the answer
pub both-then : {a b : Bool} → a ≡ true → b ≡ both a b
unfolding both
both-then p = rw p

pub both-else : {a : Bool} (b : Bool) → a ≡ false → a ≡ both a b
unfolding both
both-else b p = rw p

-- two tests that hold in the same cases
pub alike : (a b : Bool) → (a ≡ true → b ≡ true) → (b ≡ true → a ≡ true) → a ≡ b
alike true b p q = sym (p refl)
alike false true p q = q refl
alike false false p q = refl

-- conjunctions in any order
pub both-comm : (a b : Bool) → both a b ≡ both b a
unfolding both
both-comm true true = refl
both-comm true false = refl
both-comm false true = refl
both-comm false false = refl

pub both-assoc : (a b c : Bool) → both (both a b) c ≡ both a (both b c)
unfolding both
both-assoc true b c = refl
both-assoc false b c = refl

pub both-swap : (a b c : Bool) → both a (both b c) ≡ both b (both a c)
both-swap a b c = sym (both-assoc a b c) ∙ ap (λ (t : Bool). both t c) (both-comm a b) ∙ both-assoc b a c

-- where two tests of three pass, the third decides
pub both-passed : (l e u : Bool) → l ≡ true → e ≡ true → both l (both e u) ≡ u
unfolding both
both-passed l e u p q = rw (p, q)

-- ── choices ──
pub pick_true {ℓ} : {A : Type ℓ} (b : Bool) (x y : A) → b ≡ true → pick b x y ≡ x
unfolding pick
pick_true b x y p = rw p

pub pick-false {ℓ} : {A : Type ℓ} (b : Bool) (x y : A) → b ≡ false → pick b x y ≡ y
unfolding pick
pick-false b x y p = rw p

-- what holds of either side, under its test, holds of the choice
pub pick-cases : {A : Type 0} (P : A → Type 0) (b : Bool) (x y : A) → (b ≡ true → P x) → (b ≡ false → P y) → P (pick b x y)
unfolding pick
pick-cases P true x y f g = f refl
pick-cases P false x y f g = g refl

-- the library's conjunction, disjunction and choice
pub and-true : (s t : Bool) → (s && t) ≡ true → (s ≡ true) × (t ≡ true)
and-true true t e = (refl, e)
and-true false t e = absurd (true≢false (sym e))

pub and-of : (s t : Bool) → s ≡ true → t ≡ true → (s && t) ≡ true
and-of s t p q = rw p q

pub or-true : (s t : Bool) → (s || t) ≡ true → (s ≡ true) ⊎ (t ≡ true)
or-true true t e = inl refl
or-true false t e = inr e

pub or_right : (t : Bool) → (t || true) ≡ true
or_right true = refl
or_right false = refl

pub if-cases {ℓ} : {A : Type 0} (P : A → Type ℓ) (t : Bool) (x y : A) → (t ≡ true → P x) → (t ≡ false → P y) → P (cond t x y)
if-cases P true x y f g = f refl
if-cases P false x y f g = g refl

-- ── a test of every element ──
pub all-at : {A : Type 0} (t : A → Bool) (d : A) (xs : List A) (i : ℕ) → all_b t xs ≡ true → i < length xs → t (get_or xs i d) ≡ true
unfolding all_b
all-at t d [] i e h = absurd (not-suc-le-zero h)
all-at t d (x ∷ xs) zero e h = both-0 (t x) (all_b t xs) e
all-at t d (x ∷ xs) (suc i) e h = all-at t d xs i (both-1 (t x) (all_b t xs) e) (le_of_suc-le-suc h)

-- past the end the default is read, so where the test holds of it no bound is needed
pub all_get_d : {A : Type 0} (t : A → Bool) (d : A) (xs : List A) (i : ℕ) → all_b t xs ≡ true → t d ≡ true → t (get_or xs i d) ≡ true
unfolding all_b
all_get_d t d [] i e h = h
all_get_d t d (x ∷ xs) zero e h = both-0 (t x) (all_b t xs) e
all_get_d t d (x ∷ xs) (suc i) e h = all_get_d t d xs i (both-1 (t x) (all_b t xs) e) h

pub all_of : {A : Type 0} (t : A → Bool) (d : A) (xs : List A) → ((i : ℕ) → i < length xs → t (get_or xs i d) ≡ true) → all_b t xs ≡ true
unfolding all_b
all_of t d [] h = refl
all_of t d (x ∷ xs) h = both_true (t x) (all_b t xs) (h 0 (omega arith)) (all_of t d xs (λ i b. h (suc i) (omega arith)))

pub all_one : {A : Type 0} (t : A → Bool) (x : A) → t x ≡ true → all_b t (x ∷ []) ≡ true
unfolding all_b
all_one t x p = both_true (t x) true p refl

pub all_append : {A : Type 0} (t : A → Bool) (xs ys : List A) → all_b t xs ≡ true → all_b t ys ≡ true → all_b t (xs ++ ys) ≡ true
unfolding all_b
all_append t [] ys p q = q
all_append t (x ∷ xs) ys p q = both_true (t x) (all_b t (xs ++ ys)) (both-0 _ _ p) (all_append t xs ys (both-1 _ _ p) q)

pub all-append-0 : {A : Type 0} (t : A → Bool) (xs ys : List A) → all_b t (xs ++ ys) ≡ true → all_b t xs ≡ true
unfolding all_b
all-append-0 t [] ys p = refl
all-append-0 t (x ∷ xs) ys p = both_true (t x) (all_b t xs) (both-0 _ _ p) (all-append-0 t xs ys (both-1 _ _ p))

pub all_map : {A B : Type 0} (t : A → Bool) (u : B → Bool) (f : A → B) → ((x : A) → t x ≡ true → u (f x) ≡ true) → (xs : List A) → all_b t xs ≡ true → all_b u (map f xs) ≡ true
unfolding all_b
all_map t u f h [] p = refl
all_map t u f h (x ∷ xs) p = both_true (u (f x)) (all_b u (map f xs)) (h x (both-0 _ _ p)) (all_map t u f h xs (both-1 _ _ p))

-- the test of the mapped elements is the test of the map's results
pub all-mapped : {A B : Type 0} (u : B → Bool) (f : A → B) (xs : List A) → all_b u (map f xs) ≡ all_b (λ (x : A). u (f x)) xs
unfolding all_b
all-mapped u f [] = refl
all-mapped u f (x ∷ xs) = ap (both (u (f x))) (all-mapped u f xs)

-- one test for another, where the other follows
pub all-mono : {A : Type 0} (t u : A → Bool) → ((x : A) → t x ≡ true → u x ≡ true) → (xs : List A) → all_b t xs ≡ true → all_b u xs ≡ true
unfolding all_b
all-mono t u h [] p = refl
all-mono t u h (x ∷ xs) p = both_true (u x) (all_b u xs) (h x (both-0 _ _ p)) (all-mono t u h xs (both-1 _ _ p))

pub all_set : {A : Type 0} (t : A → Bool) (xs : List A) (i : ℕ) (y : A) → all_b t xs ≡ true → t y ≡ true → all_b t (set xs i y) ≡ true
unfolding all_b
all_set t [] i y p q = p
all_set t (x ∷ xs) zero y p q = both_true _ _ q (both-1 _ _ p)
all_set t (x ∷ xs) (suc i) y p q = both_true _ _ (both-0 _ _ p) (all_set t xs i y (both-1 _ _ p) q)

pub all_drop : {A : Type 0} (t : A → Bool) (k : ℕ) (xs : List A) → all_b t xs ≡ true → all_b t (drop k xs) ≡ true
unfolding all_b
all_drop t zero xs p = p
all_drop t (suc k) [] p = p
all_drop t (suc k) (x ∷ xs) p = all_drop t k xs (both-1 _ _ p)

pub all_take : {A : Type 0} (t : A → Bool) (k : ℕ) (xs : List A) → all_b t xs ≡ true → all_b t (take k xs) ≡ true
unfolding all_b
all_take t zero xs p = refl
all_take t (suc k) [] p = p
all_take t (suc k) (x ∷ xs) p = both_true (t x) (all_b t (take k xs)) (both-0 _ _ p) (all_take t k xs (both-1 _ _ p))

pub all_replicate : {A : Type 0} (t : A → Bool) (k : ℕ) (x : A) → t x ≡ true → all_b t (replicate k x) ≡ true
unfolding all_b
all_replicate t zero x p = refl
all_replicate t (suc k) x p = both_true (t x) (all_b t (replicate k x)) p (all_replicate t k x p)

-- a list whose elements are all zero
pub zeros : (xs : List ℕ) → all_b (eqb 0) xs ≡ true → xs ≡ replicate (length xs) 0
unfolding all_b
zeros [] e = refl
zeros (x ∷ xs) e = ap₂ (λ (v : ℕ) (l : List ℕ). v ∷ l) (sym (eqb-true 0 x (both-0 (eqb 0 x) (all_b (eqb 0) xs) e))) (zeros xs (both-1 (eqb 0 x) (all_b (eqb 0) xs) e))

pub all-zeros : (k : ℕ) → all_b (eqb 0) (replicate k 0) ≡ true
all-zeros k = all_replicate (eqb 0) k 0 refl

-- ── lists that are mapped, set or dropped ──
pub drop-map : {A B : Type 0} (f : A → B) (k : ℕ) (xs : List A) → drop k (map f xs) ≡ map f (drop k xs)
drop-map f zero xs = refl
drop-map f (suc k) [] = refl
drop-map f (suc k) (x ∷ xs) = drop-map f k xs

pub take-map : {A B : Type 0} (f : A → B) (k : ℕ) (xs : List A) → take k (map f xs) ≡ map f (take k xs)
take-map f zero xs = refl
take-map f (suc k) [] = refl
take-map f (suc k) (x ∷ xs) = ap (λ (l : List _). f x ∷ l) (take-map f k xs)

-- the length of a field that is an array of structs, from what owning the struct tells of it: `search (needs, length-mapped)`
pub length-mapped : (A B : Type 0) (f : A → B) (l : List A) (n : ℕ) → length (map f l) ≡ n → length l ≡ n
length-mapped A B f l n e = sym (length-map l f) ∙ e

-- `map` of a list with one element set
pub map-set : {A B : Type 0} (f : A → B) (xs : List A) (i : ℕ) (y : A) → map f (set xs i y) ≡ set (map f xs) i (f y)
map-set f [] i y = refl
map-set f (x ∷ xs) zero y = refl
map-set f (x ∷ xs) (suc i) y = ap (λ (l : List _). f x ∷ l) (map-set f xs i y)

-- an element of a mapped list, where the map takes the one default to the other
pub get_d_map : {A B : Type 0} (f : A → B) (d : A) (xs : List A) (i : ℕ) → get_or (map f xs) i (f d) ≡ f (get_or xs i d)
get_d_map f d [] i = refl
get_d_map f d (x ∷ xs) zero = refl
get_d_map f d (x ∷ xs) (suc i) = get_d_map f d xs i

-- a list of one element over and over, read with that element as the default
pub get_d_replicate : {A : Type 0} (n : ℕ) (x : A) (i : ℕ) → get_or (replicate n x) i x ≡ x
get_d_replicate zero x i = refl
get_d_replicate (suc n) x zero = refl
get_d_replicate (suc n) x (suc i) = get_d_replicate n x i
