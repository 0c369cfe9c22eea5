-- The vectors of versions, and their bytes.
--     first-counts, log-vector                   the first n counts are the vector, and the log's counts are its
--     kept-vector                                from the counts kept of dropped entries it is the vector of these entries and the rest
--     log-most                                   the log's counts are below what 64 bits hold
--     paths-bytes                                a path's counts go on from the log's: its vector is the tail's, from the log's vector on
--     tails-length, tails-step, paths-length     the tails of n offices, one by one; there are as many paths
--     vector-length, size_is                     how many bytes there are
--     ToWrite, write-begins, write-room, write_again, write-ends      a walk over the tails that writes the paths' vectors
--     all-is, whole                              the log's vector and then the paths': all that is to be written
-- Assumes nothing.
use mathlib.Core.Path.{◌≡◌, refl, sym, ap, ap₂, ◌∙◌}
use mathlib.Core.List.{List, [], ◌∷◌, ◌++◌, map}
use Prim.Native.Nat.{ℕ, suc, ◌+◌, ◌*◌, ◌<◌, ◌≤◌}
use native.Mathlib.Nat.{zero-add, mul-le-mul}
use native.Mathlib.Omega.{arith}
use lib.ListN.{length, get_or, take, drop, length-append, length-map, length-replicate, drop_of_length-le}
use lib.Seq.{sets, sets-eq, ext_get_or, length-take-le, get_or-take}
use Rattle.lists.proofs.Tests.{get_d_replicate}
use Rattle.lists.proofs.Walk.{rest-step}
use Rattle.lists.proofs.Stores.{Left, left-all, left-next, left-none, sets-append}
use Rattle.numbers.specs.Numbers.{be64, bytes64, run}
use Rattle.numbers.proofs.Runs.{run_length}
use Rattle.protocol.specs.Counts.{no_counts, count_of, counts_after}
use Rattle.protocol_laws.proofs.Counts.{counts-append, counts-at, counts-length, counts-most}
use Rattle.ballots.specs.Ballots.{tail_of, off_end}
use Rattle.ballots.specs.declared.Ballot.{Ballot}
use Rattle.ballots.proofs.Laws.{tail_at}
use Rattle.spelling.proofs.Items.{room_for}
use Rattle.vectors.specs.Vectors.{Countable, EachAtMost, kept_count_limit, vector_of, vector_bytes, versions_bytes, versions_in}
use Rattle.vectors.proofs.Items.{is_count, count_item}

-- ── one vector ──
module _ (n : ℕ) (counts : List ℕ) (h : n ≤ length counts) where
  pub first-counts : (p : List ℕ) → take n (counts_after counts p) ≡ vector_of (take n counts) p
  first-counts p =
      ext_get_or 0 (take n (counts_after counts p)) (vector_of (take n counts) p) (long ∙ sym (counts-length (take n counts) p ∙ first)) (λ k l.
      let b : k < n = omega (arith, long) in
      get_or-take n (counts_after counts p) k 0 b
      ∙ omega (arith, counts-at counts p k (omega arith), counts-at (take n counts) p k (omega (arith, first)), get_or-take n counts k 0 b))
    where
      first : length (take n counts) ≡ n
      first = length-take-le n counts h

      long : length (take n (counts_after counts p)) ≡ n
      long = length-take-le n (counts_after counts p) (omega (arith, counts-length counts p))

  pub log-vector : (log base : List ℕ) → base ≡ counts_after counts log → take n base ≡ vector_of (take n counts) log
  log-vector log base e = ap (take n) e ∙ first-counts log

-- the counts kept of the entries p, where none were dropped before them
pub kept-vector : (n : ℕ) → n ≤ 8 → (p q : List ℕ) → vector_of (take n (counts_after (no_counts 8) p)) q ≡ vector_of (no_counts n) (p ++ q)
kept-vector n h p q =
    ap (λ (c : List ℕ). counts_after c q) (first-counts n (no_counts 8) (omega (arith, length-replicate {A = ℕ} 8 0)) p ∙ ap (λ (c : List ℕ). counts_after c p) none)
    ∙ sym (counts-append (no_counts n) p q)
  where
    long : length (take n (no_counts 8)) ≡ n
    long = length-take-le n (no_counts 8) (omega (arith, length-replicate {A = ℕ} 8 0))

    none : take n (no_counts 8) ≡ no_counts n
    none = ext_get_or 0 (take n (no_counts 8)) (no_counts n) (long ∙ sym (length-replicate n 0))
        (λ k l. get_or-take n (no_counts 8) k 0 (omega (arith, long)) ∙ get_d_replicate {A = ℕ} 8 0 k ∙ sym (get_d_replicate {A = ℕ} n 0 k))

pub log-most : (start log base : List ℕ) → base ≡ counts_after start log → EachAtMost kept_count_limit start → length log ≤ 1024 → EachAtMost (kept_count_limit + 1024) base
log-most start log base e m h k = omega (arith, ap (λ (c : List ℕ). count_of c k) e, counts-most start log k, m k)

-- ── the paths ──
pub paths-bytes : (start log : List ℕ) (ts : List (List ℕ)) → versions_bytes start (map (λ t. log ++ t) ts) ≡ versions_bytes (vector_of start log) ts
unfolding versions_bytes
paths-bytes start log [] = refl
paths-bytes start log (t ∷ ts) = ap₂ (λ (v rest : List ℕ). run bytes64 v ++ rest) (counts-append start log t) (paths-bytes start log ts)

-- the tails of the first n offices
abbrev pub tails_in : ℕ → List Ballot → List (List ℕ)
tails_in n bs = take n (map tail_of bs)

-- n offices that have ballots
module _ (n : ℕ) (bs : List Ballot) (some : n ≤ length bs) where
  pub tails-length : length (tails_in n bs) ≡ n
  tails-length = length-take-le n (map tail_of bs) (omega (arith, length-map bs tail_of))

  pub paths-length : (log : List ℕ) → length (map (λ t. log ++ t) (tails_in n bs)) ≡ n
  paths-length log = length-map (tails_in n bs) (λ t. log ++ t) ∙ tails-length

  pub tails-step : (o : ℕ) → o < n → drop o (tails_in n bs) ≡ tail_of (get_or bs o off_end) ∷ drop (o + 1) (tails_in n bs)
  tails-step o h =
      rest-step [] (tails_in n bs) o (omega (arith, tails-length)) ∙ ap (λ (t : List ℕ). t ∷ drop (o + 1) (tails_in n bs)) (get_or-take n (map tail_of bs) o [] h ∙ tail_at bs o)

  -- the ballots of n offices are theirs among all
  pub tails_next : (o : ℕ) → o < length (take n bs) → drop o (tails_in n bs) ≡ tail_of (get_or (take n bs) o off_end) ∷ drop (o + 1) (tails_in n bs)
  tails_next o h =
      let l : o < n = omega (arith, length-take-le n bs some) in
      tails-step o l ∙ ap (λ (b : Ballot). tail_of b ∷ drop (o + 1) (tails_in n bs)) (sym (get_or-take n bs o off_end l))

-- ── the bytes: of n counts, from those in `start` on ──
module _ (n : ℕ) (start : List ℕ) (long : length start ≡ n) where
  pub vector-length : (p : List ℕ) → length (vector_bytes start p) ≡ 8 * n
  vector-length p = run_length 8 bytes64 be64 (room_for 8) is_count count_item (vector_of start p) ∙ ap (λ (k : ℕ). 8 * k) (counts-length start p ∙ long)

  pub versions-length : (ps : List (List ℕ)) → length (versions_bytes start ps) ≡ 8 * n * length ps
  unfolding versions_bytes
  versions-length [] = omega arith
  versions-length (p ∷ ps) = length-append (vector_bytes start p) (versions_bytes start ps) ∙ omega (arith, vector-length p, versions-length ps)

  pub size_is : (log : List ℕ) (bs : List Ballot) → n ≤ length bs → 8 * n + 8 * n * n ≡ length (versions_bytes start (versions_in n log bs))
  size_is log bs some = sym (versions-length (versions_in n log bs) ∙ ap (λ (k : ℕ). 8 * n * suc k) (paths-length n bs some log) ∙ omega arith)

-- no product of the sizes is large
pub row-few : (n : ℕ) → n ≤ 8 → 8 * n * n ≤ 512
row-few n h = let a : 8 * n ≤ 64 = omega arith in mul-le-mul a h

-- ── the walk that writes the paths' vectors, from the log's on ──
-- from office o on, at place p, the rest is left to store
abbrev pub ToWrite : List ℕ → ℕ → ℕ → List ℕ → List Ballot → List ℕ → ℕ → ℕ → Type 0
ToWrite l₀ at n base bs l p o = Left l₀ at (versions_bytes base (tails_in n bs)) l p (versions_bytes base (drop o (tails_in n bs)))

pub write-begins : (l : List ℕ) (at n : ℕ) (base : List ℕ) (bs : List Ballot) → ToWrite l at n base bs l at 0
write-begins l at n base bs = left-all l at (versions_bytes base (tails_in n bs))

module _ (n : ℕ) (base : List ℕ) (bs : List Ballot) (o : ℕ) {l₀ : List ℕ} {at : ℕ} {l : List ℕ} {p : ℕ} (inv : ToWrite l₀ at n base bs l p o) (long : length base ≡ n) (some : n ≤ length bs) where
  abbrev next : List ℕ
  next = tail_of (get_or (take n bs) o off_end)

  rest-next : o < length (take n bs) → versions_bytes base (drop o (tails_in n bs)) ≡ vector_bytes base next ++ versions_bytes base (drop (o + 1) (tails_in n bs))
  unfolding versions_bytes
  rest-next h = ap (versions_bytes base) (tails_next n bs some o h)

  rest-none : length (take n bs) ≤ o → versions_bytes base (drop o (tails_in n bs)) ≡ []
  unfolding versions_bytes
  rest-none h =
      let l : length (tails_in n bs) ≤ o = omega (arith, tails-length n bs some, length-take-le n bs some) in
      ap (versions_bytes base) (drop_of_length-le (tails_in n bs) l)

  pub write-room : o < length (take n bs) → at + length (versions_bytes base (tails_in n bs)) ≤ length l₀ → p + 8 * n ≤ length l
  write-room h room =
      omega (
        arith,
        inv.place,
        inv.long,
        ap length (rest-next h),
        length-append (vector_bytes base next) (versions_bytes base (drop (o + 1) (tails_in n bs))),
        vector-length n base long next,
      )

  pub write_again : o < length (take n bs) → {l' : List ℕ} {p' : ℕ} (counts : List ℕ) → counts ≡ vector_of base (tail_of (get_or (take n bs) o off_end))
      → p' ≡ p + 8 * length counts → l' ≡ sets l p (run bytes64 counts) → ToWrite l₀ at n base bs l' p' (o + 1)
  write_again h counts v e q =
      left-next inv (vector_bytes base next) (rest-next h)
      (e ∙ ap (λ (c : List ℕ). p + 8 * length c) v ∙ ap (λ (k : ℕ). p + 8 * k) (counts-length base next ∙ long) ∙ ap (λ (k : ℕ). p + k) (sym (vector-length n base long next)))
      (q ∙ ap (λ (c : List ℕ). sets l p (run bytes64 c)) v)

  pub write-ends : length (take n bs) ≤ o → l ≡ sets l₀ at (versions_bytes base (tails_in n bs))
  write-ends h = (left-none inv (rest-none h)).1

-- ── all of it ──
module _ (n : ℕ) (start : List ℕ) (long : length start ≡ n) (log : List ℕ) (bs : List Ballot) (base : List ℕ) (e : base ≡ vector_of start log) where
  abbrev all : List ℕ
  all = versions_bytes start (versions_in n log bs)

  all-parts : versions_bytes start (versions_in n log bs) ≡ vector_bytes start log ++ versions_bytes base (tails_in n bs)
  unfolding versions_bytes
  all-parts = ap (λ (rest : List ℕ). vector_bytes start log ++ rest) (paths-bytes start log (tails_in n bs) ∙ ap (λ (b : List ℕ). versions_bytes b (tails_in n bs)) (sym e))

  pub all-is : length (versions_bytes start (versions_in n log bs)) ≡ 8 * n + length (versions_bytes base (tails_in n bs))
  all-is = ap length all-parts ∙ length-append (vector_bytes start log) (versions_bytes base (tails_in n bs)) ∙ omega (arith, vector-length n start long log)

  pub whole : (l l1 l2 : List ℕ) (p : ℕ) → p ≡ 0 + 8 * n → l1 ≡ sets l 0 (run bytes64 base) → l2 ≡ sets l1 p (versions_bytes base (tails_in n bs))
      → length (versions_bytes start (versions_in n log bs)) ≤ length l → l2 ≡ versions_bytes start (versions_in n log bs) ++ drop (length (versions_bytes start (versions_in n log bs))) l
  whole l l1 l2 p q e1 e2 room =
      let first : l1 ≡ sets l 0 (vector_bytes start log) = e1 ∙ ap (λ (c : List ℕ). sets l 0 (run bytes64 c)) e in
      let place : p ≡ 0 + length (vector_bytes start log) = omega (arith, q, vector-length n start long log) in
      let stores : l2 ≡ sets l 0 all =
      e2 ∙ ap₂ (λ (x : List ℕ) (k : ℕ). sets x k (versions_bytes base (tails_in n bs))) first place
      ∙ sym (ap (sets l 0) all-parts ∙ sets-append l 0 (vector_bytes start log) (versions_bytes base (tails_in n bs))) in
      stores ∙ sets-eq all l 0 (rw zero-add room) ∙ rw zero-add

-- ── what the walks over eight ballots have of their caller ──
module _ {n : ℕ} {start log : List ℕ} {bs : List Ballot} (C : Countable n start log bs) (full : length start ≡ 8) where
  some-counts : n ≤ length start
  some-counts = omega (arith, C.most)

  pub kept-long : length (take n start) ≡ n
  kept-long = length-take-le n start some-counts

  pub all-size : 8 * n + 8 * n * n ≡ length (versions_bytes (take n start) (versions_in n log bs))
  all-size = size_is n (take n start) kept-long log bs C.offices

  -- the log's counts
  module _ {base : List ℕ} (e : base ≡ counts_after start log) where
    pub base-few : EachAtMost (kept_count_limit + 1024) base
    base-few = log-most start log base e C.kept C.few

    pub base-some : n ≤ length base
    base-some = omega (arith, ap length e, counts-length start log, some-counts)

    pub base-long : length (take n base) ≡ n
    base-long = length-take-le n base base-some

    pub base-counts : take n base ≡ vector_of (take n start) log
    base-counts = log-vector n start some-counts log base e

    pub path-counts : (b : Ballot) {counts : List ℕ} → counts ≡ counts_after base (tail_of b) → take n counts ≡ vector_of (take n base) (tail_of b)
    path-counts b {counts} h = log-vector n base base-some (tail_of b) counts h

    pub path-long : (b : Ballot) {counts : List ℕ} → counts ≡ counts_after base (tail_of b) → length (take n counts) ≡ n
    path-long b h = ap length (path-counts b h) ∙ counts-length (take n base) (tail_of b) ∙ base-long

    pub all-length : length (versions_bytes (take n start) (versions_in n log bs)) ≡ 8 * n + length (versions_bytes (take n base) (tails_in n bs))
    all-length = all-is n (take n start) kept-long log bs (take n base) base-counts
