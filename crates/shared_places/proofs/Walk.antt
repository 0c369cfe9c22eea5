-- The walk from the last of k places back to the first: the places passed are the same in both lists.
--     walk_first, walk-next, walk-met, walk-done      its start, one place more, a difference, its end
--     record-at                                       the value of a message's log record at its own position
--     below_alike, compared-whole, compared_at        lists that agree below a place compare alike there; so does a log with itself, and with its
--                                                     settled part
-- Assumes nothing.
use mathlib.Core.Path.{◌≡◌, refl, sym, ap, ap₂, ◌∙◌}
use mathlib.Core.List.{List}
use mathlib.Core.Bool.{true, false}
use Prim.Native.Nat.{ℕ, zero, suc, ◌+◌, ◌-◌, ◌*◌, ◌<◌, ◌≤◌, min}
use native.Mathlib.Omega.{arith}
use lib.ListN.{length, get_or, take, drop}
use lib.Seq.{get_or-take, length-take-le}
use lib.Dec.{eqb}
use borrow.Author.Tests.{eq-eqb, ne_eqb}
use Rattle.lists.specs.Tests.{pick}
use Rattle.numbers.specs.Numbers.{run_at}
use Rattle.numbers.proofs.Runs.{drop_more, run_at-length}
use Rattle.spelling.specs.Reading.{record_at}
use Rattle.shared_places.specs.FromEnd.{same_at, differ_below, places_below, compared_below, compared_of}
use Rattle.shared_places.specs.declared.Compared.{Compared}

-- ── the walk ──
-- of k places those from j on are the same
abbrev pub Walked : ℕ → List ℕ → List ℕ → ℕ → Type 0
Walked k a b j = (differ_below k a b ≡ differ_below j a b) × (places_below k a b ≡ k - j + places_below j a b)

pub walk_first : (k : ℕ) (a b : List ℕ) → Walked k a b k
walk_first k a b = (refl, omega arith)

module _ (k : ℕ) (a b : List ℕ) where
  module _ (j : ℕ) (h : j < k) (inv : Walked k a b (suc j)) where
    pub walk-next : get_or a j 0 ≡ get_or b j 0 → Walked k a b j
    unfolding differ_below places_below pick
    walk-next e =
        let s = eq-eqb (get_or a j 0) (get_or b j 0) e in
        (inv.0 ∙ rw s, inv.1 ∙ rw s (omega arith))

    pub walk-met : (get_or a j 0 ≡ get_or b j 0 → ⊥) → ◌≡◌ {A = Compared} (record { differ = true; places = k - j }) (compared_below k a b)
    unfolding differ_below places_below pick
    walk-met e =
        let s = ne_eqb (get_or a j 0) (get_or b j 0) e in
        let met : differ_below k a b ≡ true = inv.0 ∙ rw s in
        let count : places_below k a b ≡ k - j = inv.1 ∙ rw s (omega arith) in
        λ t. record { differ = sym met t; places = sym count t }

  pub walk-done : Walked k a b 0 → ◌≡◌ {A = Compared} (record { differ = false; places = k }) (compared_below k a b)
  unfolding differ_below places_below
  walk-done inv = let count : places_below k a b ≡ k = inv.1 ∙ omega arith in λ t. record { differ = sym inv.0 t; places = sym count t }

-- ── the places ──
pub record-at : (k j : ℕ) (rest : List ℕ) → j < k → get_or (run_at 6 record_at k rest) j 0 ≡ record_at (drop (6 * j) rest)
unfolding run_at
record-at zero j rest h = absurd (omega arith)
record-at (suc k) zero rest h = refl
record-at (suc k) (suc j) rest h = record-at k j (drop 6 rest) (omega arith) ∙ ap record_at (sym (drop_more 6 j rest))

-- lists that agree below i compare alike there
pub below_alike : (i : ℕ) (a b c d : List ℕ) → ((j : ℕ) → j < i → get_or a j 0 ≡ get_or c j 0) → ((j : ℕ) → j < i → get_or b j 0 ≡ get_or d j 0) → compared_below i a b ≡ compared_below i c d
unfolding differ_below places_below
below_alike zero a b c d p q = refl
below_alike (suc i) a b c d p q =
    let more = below_alike i a b c d (λ j h. p j (omega arith)) (λ j h. q j (omega arith)) in
    let s : same_at i a b ≡ same_at i c d = ap₂ (λ (x y : ℕ). eqb x y) (p i (omega arith)) (q i (omega arith)) in
    λ t. record { differ = pick (s t) (more t).differ true; places = suc (pick (s t) (more t).places 0) }

-- the shorter log has i places
pub compared-whole : (log rest : List ℕ) (k i : ℕ) → i ≡ min (length log) k → compared_below i log (run_at 6 record_at i rest) ≡ compared_of log (run_at 6 record_at k rest)
compared-whole log rest k i e =
    let theirs : length (run_at 6 record_at k rest) ≡ k = run_at-length 6 record_at k rest in
    below_alike i log (run_at 6 record_at i rest) log (run_at 6 record_at k rest) (λ j l. refl) (λ j l. record-at i j rest l ∙ sym (record-at k j rest (omega arith)))
    ∙ ap (λ (n : ℕ). compared_below n log (run_at 6 record_at k rest)) (e ∙ ap (min (length log)) (sym theirs))

-- the same of the settled part of a log: its places are the log's words
pub compared_at : (log rest : List ℕ) (settled k i : ℕ) → settled ≤ length log → i ≡ min settled k
    → compared_below i log (run_at 6 record_at i rest) ≡ compared_of (take settled log) (run_at 6 record_at k rest)
compared_at log rest settled k i h e =
    let own : length (take settled log) ≡ settled = length-take-le settled log h in
    let theirs : length (run_at 6 record_at k rest) ≡ k = run_at-length 6 record_at k rest in
    below_alike i log (run_at 6 record_at i rest) (take settled log) (run_at 6 record_at k rest)
    (λ j l. sym (get_or-take settled log j 0 (omega arith)))
    (λ j l. record-at i j rest l ∙ sym (record-at k j rest (omega arith)))
    ∙ ap (λ (n : ℕ). compared_below n (take settled log) (run_at 6 record_at k rest)) (e ∙ sym (ap₂ min own theirs))
